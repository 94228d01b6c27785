-- A variable's planes: the rows in which it may be 1, and those in which it may be 0. Each answer is given by `four-put`.
use Prim.Native.Nat.{ℕ, ◌/◌, ◌%◌}
use mathlib.Core.Path.{ap₂, ◌∙◌}
use mathlib.Core.List.{[], ◌∷◌}
use Rattle.plan.specs.Outcome.{put}
use native.Mathlib.Omega.{arith}
use lib.ListN.{length-set}
use Rattle.rows.proofs.lanes.Turns.{four-put}
use Rattle.rows.proofs.lanes.put_planes.Goals as goal

pub bounds-t-to-2 : goal.bounds-t-to-2
bounds-t-to-2 c = simp length-set (omega arith)

pub bounds-t-to-3 : goal.bounds-t-to-3
bounds-t-to-3 c = simp length-set (omega arith)

pub bounds-t-to-4 : goal.bounds-t-to-4
bounds-t-to-4 c = simp length-set (omega arith)

pub returns : goal.returns
returns c =
    four-put c.args.t.now c.args.to _ _ _ _ c.requires
    ∙ (ap₂ (λ (a b : ℕ). put c.args.t.now c.args.to (a ∷ b ∷ c.low-2.result ∷ c.high-2.result ∷ []))
    c.low.ensures c.high.ensures
    ∙ ap₂ (λ (a b : ℕ). put c.args.t.now c.args.to
    (c.args.one % 4294967296 ∷ c.args.one / 4294967296 ∷ a ∷ b ∷ [])) c.low-2.ensures c.high-2.ensures)
