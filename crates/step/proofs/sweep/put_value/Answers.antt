-- A variable's value goes to its literal's word, whether it may be 1, and to that of the negated literal, whether it may be 0. The answers are given
-- by `two-put`, `high_bit` and `low_bit`.
use Prim.Native.Nat.{ℕ}
use mathlib.Core.Path.{ap₂, ◌∙◌}
use mathlib.Core.List.{[], ◌∷◌}
use native.Mathlib.Omega.{arith}
use lib.ListN.{length-set}
use Rattle.plan.specs.Outcome.{put}
use Rattle.step.proofs.sweep.NotAnd.{high_bit, low_bit}
use Rattle.step.proofs.sweep.Spreading.{two-put}
use Rattle.step.proofs.sweep.put_value.Goals as goal

pub bounds-t-to-2 : goal.bounds-t-to-2
bounds-t-to-2 c = simp length-set (omega arith)

pub returns : goal.returns
returns c =
    let w = c.args.value in
    two-put c.args.t.now c.args.to _ _ c.requires.to_in_bounds
    ∙ ap₂ (λ (x y : ℕ). put c.args.t.now c.args.to (x ∷ y ∷ [])) (high_bit w c.requires.coded) (low_bit w c.requires.coded)
