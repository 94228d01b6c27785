-- The lines of a report, the outputs' and then the latches', from the start of a buffer, of as many needles as table 6 and the buffer have room for;
-- how many bytes. The answers are given by `two-parts` and `same_turn`.
use Prim.Native.Nat.{ℕ, ◌+◌, ◌*◌, ◌-◌, ◌≤◌, min}
use mathlib.Core.Path.{◌≡◌, ap, ap₂, ◌∙◌}
use mathlib.Core.List.{List}
use native.Mathlib.Omega.{arith}
use lib.ListN.{length, take, drop}
use Rattle.plan.specs.Outcome.{put}
use Rattle.plan.specs.Report.{in_turn}
use Rattle.report.proofs.needles.Rows.{same_turn}
use Rattle.plan.specs.Reporter.{needle_line, needle_lines}
use Rattle.runs.specs.reporting.Fitting.{rows_for, fitting_lines}
use Rattle.runs.proofs.reporting.Lines.{two-parts}
use Rattle.runs.proofs.reporting.put_report.Goals as goal

from-none : (six : List ℕ) (n : ℕ) → in_turn (λ i. needle_line 111 i (take 4 (drop (4 * (0 + i)) six))) n ≡ in_turn (λ i. needle_line 111 i (take 4 (drop (4 * i) six))) n
from-none six n =
    same_turn (λ i. needle_line 111 i (take 4 (drop (4 * (0 + i)) six))) (λ i. needle_line 111 i (take 4 (drop (4 * i) six))) n
    (λ i h. let e : 4 * (0 + i) ≡ 4 * i = omega arith in ap (λ (k : ℕ). needle_line 111 i (take 4 (drop k six))) e)

pub overflow_sub-rows : goal.overflow_sub-rows
overflow_sub-rows c = omega (arith, c.lesser-o.ensures)

pub put_needles-next-requires : goal.put_needles-next-requires
put_needles-next-requires c =
    let six : List ℕ =
    c.args.six.now in
    let out : List ℕ =
    c.args.out.now in
    let words : 4 * (c.lesser-o.result + c.lesser-l.result) ≤ length (six) =
    omega (arith, c.lesser-l.ensures, c.lesser-o.ensures, c.lesser-rows.ensures) in
    let bytes : 66 * (c.lesser-o.result + c.lesser-l.result) ≤ length (out) =
    omega (arith, c.lesser-l.ensures, c.lesser-o.ensures, c.lesser-rows.ensures) in
    record { n_in_bounds = omega (arith, words); n_in_bounds_2 = omega (arith, bytes) }

pub put_needles-requires : goal.put_needles-requires
put_needles-requires c =
    let six : List ℕ =
    c.args.six.now in
    let out : List ℕ =
    c.args.out.now in
    let words : 4 * (c.lesser-o.result + c.lesser-l.result) ≤ length (six) =
    omega (arith, c.lesser-l.ensures, c.lesser-o.ensures, c.lesser-rows.ensures) in
    let bytes : 66 * (c.lesser-o.result + c.lesser-l.result) ≤ length (out) =
    omega (arith, c.lesser-l.ensures, c.lesser-o.ensures, c.lesser-rows.ensures) in
    record { n_in_bounds = words; n_in_bounds_2 = omega (arith, bytes, c.put_needles-next.ensures.upper_bound, c.put_needles-next.auto.out) }

pub returns : goal.returns
returns c =
    let six : List ℕ =
    c.args.six.now in
    let out : List ℕ =
    c.args.out.now in
    let bytes : 66 * (c.lesser-o.result + c.lesser-l.result) ≤ length (out) =
    omega (arith, c.lesser-l.ensures, c.lesser-o.ensures, c.lesser-rows.ensures) in
    let lines : needle_lines c.lesser-o.result c.lesser-l.result six ≡ fitting_lines c.args.outputs c.args.latches six (out) =
    let r : c.lesser-rows.result ≡ rows_for six out = c.lesser-rows.ensures in
    let o : c.lesser-o.result ≡ min c.args.outputs (rows_for six (out))
    = c.lesser-o.ensures ∙ ap (min c.args.outputs) r in
    ap₂ (λ (n m : ℕ). needle_lines n m (six)) o
    (c.lesser-l.ensures ∙ ap₂ (λ (x y : ℕ). min c.args.latches (x - y)) r o) in
    let both = two-parts _ _ _ _ _ _ _ _ (from-none (six) c.lesser-o.result) c.put_needles-next.ensures.out_after c.put_needles-next.ensures.value
    c.put_needles.ensures.out_after c.put_needles.ensures.value (omega (arith, c.put_needles-next.ensures.upper_bound, c.put_needles.ensures.upper_bound, bytes)) in
    record { value = both.0 ∙ ap length (lines); out_after = both.1 ∙ ap (put (out) 0) (lines) }
