-- The And of two literals: it may be 1 if both may, and 0 if either may. Each answer is given by `two-put`.
use Prim.Native.Nat.{ℕ}
use mathlib.Core.Path.{ap₂, ◌∙◌}
use mathlib.Core.List.{[], ◌∷◌}
use native.Mathlib.Omega.{arith}
use lib.Bits.{bit_and, bit_or}
use lib.ListN.{length-set}
use Rattle.plan.specs.Outcome.{put}
use Rattle.step.proofs.sweep.Spreading.{two-put}
use Rattle.step.proofs.sweep.put_and.Goals as goal

pub bounds-t-to-2 : goal.bounds-t-to-2
bounds-t-to-2 c = simp length-set (omega arith)

pub returns : goal.returns
returns c =
    two-put c.args.t.now c.args.to _ _ c.requires.to_in_bounds
    ∙ ap₂ (λ (x y : ℕ). put c.args.t.now c.args.to (x ∷ y ∷ []))
    (ap₂ bit_and c.may_be_1.ensures c.may_be_1-2.ensures) (ap₂ bit_or c.may_be_0.ensures c.may_be_0-2.ensures)
