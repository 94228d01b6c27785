-- The numbers passed are read: `turns` carries `Scan` from turn to turn, and `wrong-number`, `wrong-end` and `stops` give the answer.
use Prim.Native.Nat.{◌+◌}
use mathlib.Core.Path.{sym, ◌∙◌}
use native.Mathlib.Omega.{arith}
use lib.Dec.{ltb}
use Rattle.lines.proofs.Numbers.{begins, wrong-number, wrong-end, stops, turns, stop-inner, on-inner}
use Rattle.laws.proofs.Pairs.{passed-on}
use Rattle.lines.proofs.read_numbers.Goals as goal

pub returns-in_err-v : goal.returns-in_err-v
returns-in_err-v c =
    let s = c.loop-j.invariant in
    let whole = wrong-number s c.requires.must_le_may c.requires.may_in_bounds c.requires.may_in_bounds_2 _ c.loop-j-test.true
    (sym c.in_err-v.was ∙ c.read_number.ensures) _ _ in
    rw (passed-on _ c.from_residual.ensures.1) (record { value = whole.0; numbered = whole.1 })

pub returns-in-Wrong : goal.returns-in-Wrong
returns-in-Wrong c =
    let s = c.loop-j.invariant in
    let whole = wrong-end s c.requires.must_le_may c.requires.may_in_bounds c.requires.may_in_bounds_2 _ _
    c.loop-j-test.true
    (sym c.in_ok-v.was ∙ c.read_number.ensures)
    (sym c.goes_on.ensures ∙ c.in-Wrong.is) _ _ in
    record { value = whole.0; numbered = whole.1 }

pub overflow_add-result : goal.overflow_add-result
overflow_add-result c =
    let s = c.loop-j.invariant in
    let g = c.goes_on.ensures in
    omega (
      arith,
      stop-inner c.args.file.now _
          (ltb (c.loop-j.j + 1) c.args.must)
          (ltb (c.loop-j.j + 1) c.args.may) (sym g ∙ c.in-Stop.is),
    )

pub returns-in-Stop : goal.returns-in-Stop
returns-in-Stop c =
    let s = c.loop-j.invariant in
    let whole = stops s c.requires.must_le_may c.requires.may_in_bounds c.requires.may_in_bounds_2 _ _ c.loop-j-test.true
    (sym c.in_ok-v.was ∙ c.read_number.ensures)
    (sym c.goes_on.ensures ∙ c.in-Stop.is) in
    record { value = whole.0; numbered = whole.1 }

pub overflow_add-pos : goal.overflow_add-pos
overflow_add-pos c =
    let s = c.loop-j.invariant in
    let g = c.goes_on.ensures in
    omega (
      arith,
      on-inner c.args.file.now _
          (ltb (c.loop-j.j + 1) c.args.must)
          (ltb (c.loop-j.j + 1) c.args.may) (sym g ∙ c.in-On.is),
    )

pub loop-j-preserved : goal.loop-j-preserved
loop-j-preserved c =
    let s = c.loop-j.invariant in
    turns s c.requires.must_le_may c.requires.may_in_bounds c.requires.may_in_bounds_2 _ _ c.loop-j-test.true
    (sym c.in_ok-v.was ∙ c.read_number.ensures)
    (sym c.goes_on.ensures ∙ c.in-On.is)

pub loop-j-init : goal.loop-j-init
loop-j-init c = let a = c.args in begins a.file.now a.must a.may a.at a.base a.words.now a.places.now
