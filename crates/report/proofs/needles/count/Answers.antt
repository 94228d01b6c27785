-- One step more of one needle, whose four words start at `at`. The answers are given by `fourth-stays` and `counted-put`.
use Prim.Native.Nat.{ℕ, ◌+◌, ◌-◌, ◌*◌, ◌/◌, ◌%◌, ◌<◌}
use mathlib.Core.Path.{ap, ◌∙◌}
use mathlib.Core.List.{List}
use native.Mathlib.Omega.{arith}
use lib.ListN.{get_or, set, length-set}
use Rattle.report.specs.needles.Tally.{differs}
use Rattle.report.proofs.needles.Counting.{counted-put, fourth-stays}
use Rattle.report.proofs.needles.count.Goals as goal

pub overflow_sub-slot : goal.overflow_sub-slot
overflow_sub-slot c = omega (arith, c.requires.some)

pub overflow_add-slot : goal.overflow_add-slot
overflow_add-slot c = omega (arith, c.requires.inside, c.requires.coded)

pub offset_bounds-six-slot : goal.offset_bounds-six-slot
offset_bounds-six-slot c = omega (arith, c.requires.inside, c.requires.coded)

pub bounds-six-slot : goal.bounds-six-slot
bounds-six-slot c = let p = c.requires in omega (arith, p.inside, p.coded, p.some)

pub overflow_add-six : goal.overflow_add-six
overflow_add-six c =
    let p = c.requires in
    let j : c.args.value - 1 < 4 = omega (arith, p.coded) in
    omega (arith, p.few (c.args.value - 1) j)

pub offset_bounds-six-slot-2 : goal.offset_bounds-six-slot-2
offset_bounds-six-slot-2 c = let p = c.requires in omega (arith, p.inside, p.coded)

pub bounds-six-slot-2 : goal.bounds-six-slot-2
bounds-six-slot-2 c = let p = c.requires in omega (arith, p.inside, p.coded, p.some)

pub overflow_add-last : goal.overflow_add-last
overflow_add-last c = let p = c.requires in omega (arith, p.inside)

pub offset_bounds-six-at : goal.offset_bounds-six-at
offset_bounds-six-at c = let p = c.requires in omega (arith, p.inside)

pub bounds-six-at : goal.bounds-six-at
bounds-six-at c = let p = c.requires in simp length-set (omega (arith, p.inside))

pub change-requires : goal.change-requires
change-requires c =
    let a = c.args in
    let p = c.requires in (
      omega (
        arith,
        p.few 3 (omega arith),
        fourth-stays a.six.now a.at p.inside a.value
            (get_or a.six.now (a.at + (a.value - 1)) 0 + 1) p.some p.coded,
      ),
      p.coded,
    )

pub overflow_add-six-2 : goal.overflow_add-six-2
overflow_add-six-2 c = let p = c.requires in omega (arith, p.inside)

pub offset_bounds-six-at-2 : goal.offset_bounds-six-at-2
offset_bounds-six-at-2 c = let p = c.requires in omega (arith, p.inside)

pub bounds-six-at-2 : goal.bounds-six-at-2
bounds-six-at-2 c = let p = c.requires in simp length-set (omega (arith, p.inside))

pub returns : goal.returns
returns c =
    let a = c.args in
    let p = c.requires in
    let six : List ℕ = a.six.now in
    let w = a.value in
    let y : ℕ = get_or six (a.at + (w - 1)) 0 + 1 in
    ap (λ (z : ℕ). set (set six (a.at + (w - 1)) y) (a.at + 3) z)
    (c.change.ensures ∙ ap (λ (z : ℕ). (z / 4 + differs (z % 4) w) * 4 + w) (fourth-stays six a.at p.inside w y p.some p.coded))
    ∙ counted-put six a.at p.inside w p.some p.coded
