-- The counts by the reader of a line of numbers, those left off being 0: by 1, then 2, then 21 for J and F, then 3. The answers are given by `large`,
-- `line_read` and `just`.
use mathlib.Core.Path.{sym, ◌∙◌}
use native.Mathlib.Omega.{arith}
use Rattle.plan.specs.Outcome.{form_of}
use Rattle.laws.proofs.Reading.Headers.{counts-at-most}
use Rattle.lines.proofs.header.Counted.{stops, line_read, large, just, sum-wrong, sum-right}
use Rattle.laws.proofs.Pairs.{passed-on}
use Rattle.lines.proofs.header.read_counts.Goals as goal

pub overflow_add-more : goal.overflow_add-more
overflow_add-more c = omega (arith, c.more_counts-more.ensures, counts-at-most c.args.version)

pub read_numbers-requires : goal.read_numbers-requires
read_numbers-requires c =
    let m = c.more_counts-more.ensures in
    let few = counts-at-most c.args.version in
    record { must_le_may = omega arith; may_in_bounds = omega arith; may_in_bounds_2 = omega arith }

pub returns-in_err-next : goal.returns-in_err-next
returns-in_err-next c =
    let a = c.args in
    passed-on _ c.from_residual.ensures.1
    ∙ stops a.version a.file.now (form_of a.binary) _ _ c.more_counts-more.ensures (sym c.in_err-next.was ∙ c.read_numbers.ensures.value)

pub returns-in-Some : goal.returns-in-Some
returns-in-Some c =
    let a = c.args in
    let line = line_read a.version a.file.now _ _ _ _ c.more_counts-more.ensures (sym c.in_ok-next.was ∙ c.read_numbers.ensures.value) c.read_numbers.ensures.numbered in
    large a.version a.file.now line (form_of a.binary) _ c.in-Some.ensures

pub returns-in-Some-first_above : goal.returns-in-Some-first_above
returns-in-Some-first_above c =
    let a = c.args in
    let line = line_read a.version a.file.now _ _ _ _ c.more_counts-more.ensures (sym c.in_ok-next.was ∙ c.read_numbers.ensures.value) c.read_numbers.ensures.numbered in
    just a.version a.file.now line c.in_default.ensures (form_of a.binary) _ c.in-Some-first_above.ensures

pub returns-then-not-adds_up : goal.returns-then-not-adds_up
returns-then-not-adds_up c =
    let a = c.args in
    let line = line_read a.version a.file.now _ _ _ _ c.more_counts-more.ensures (sym c.in_ok-next.was ∙ c.read_numbers.ensures.value) c.read_numbers.ensures.numbered in
    sum-wrong a.version a.file.now line c.in_default.ensures c.in_default-first_above.ensures a.binary
    (sym c.adds_up.ensures ∙ c.if-not-adds_up.true)

pub returns : goal.returns
returns c =
    let a = c.args in
    let line = line_read a.version a.file.now _ _ _ _ c.more_counts-more.ensures (sym c.in_ok-next.was ∙ c.read_numbers.ensures.value) c.read_numbers.ensures.numbered in
    sum-right a.version a.file.now line c.in_default.ensures c.in_default-first_above.ensures a.binary
    (sym c.adds_up.ensures ∙ c.if-not-adds_up.false)
