-- The gate gets these right sides, larger first. Each answer is given by `two-stores`.
use Prim.Native.Nat.{ℕ, ◌+◌, ◌*◌}
use mathlib.Core.Path.{ap, ap₂, ◌∙◌}
use mathlib.Core.List.{[], ◌∷◌}
use native.Mathlib.Omega.{arith}
use lib.ListN.{length-set}
use Rattle.plan.specs.Literals.{word_of}
use Rattle.plan.specs.Outcome.{put}
use Rattle.laws.proofs.Rewiring.Rows.{two-stores}
use Rattle.rewire.proofs.set_sides.Goals as goal

pub bounds-gates-gate-2 : goal.bounds-gates-gate-2
bounds-gates-gate-2 c = simp length-set (omega arith)

pub returns : goal.returns
returns c =
    let t = c.args.gates.now in
    let k = c.args.gate in
    two-stores t k _ _ c.requires
    ∙ ap₂ (λ (x y : ℕ). put t (3 * k + 1) (x ∷ y ∷ [])) (c.word.ensures ∙ ap word_of c.larger.ensures)
    (c.word-2.ensures ∙ ap word_of c.smaller.ensures)
