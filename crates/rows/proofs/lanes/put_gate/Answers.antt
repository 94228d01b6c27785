-- A gate may be 1 where both sides may, and 0 where either may: the And of 64 rows, without a test on a value. Each answer is given by `gate-planes`.
use Prim.Native.Nat.{ℕ}
use mathlib.Core.Path.{sym, ap, ◌∙◌, subst}
use mathlib.Core.List.{List}
use native.Mathlib.Omega.{arith}
use Rattle.plan.specs.declared.Lit.{Lit}
use Rattle.plan.specs.Literals.{word_of}
use Rattle.plan.specs.Outcome.{put}
use Rattle.rows.specs.lanes.Words.{plane_at, plane_words}
use Rattle.rows.specs.lanes.Working.{There}
use Rattle.rows.proofs.lanes.Turns.{gate-planes}
use Rattle.rows.proofs.lanes.put_gate.Goals as goal

pub plane_of-requires-3 : goal.plane_of-requires-3
plane_of-requires-3 c =
    subst (λ (x : Lit). There (word_of x) c.args.t.now) (sym c.negated.ensures) (omega (arith, c.requires.there))

pub plane_of-requires-4 : goal.plane_of-requires-4
plane_of-requires-4 c =
    subst (λ (x : Lit). There (word_of x) c.args.t.now) (sym c.negated-2.ensures) (omega (arith, c.requires.there_2))

pub returns : goal.returns
returns c =
    let a = c.args in
    c.put_planes.ensures
    ∙ ap (λ (l : List ℕ). put a.t.now a.to (plane_words l))
    (gate-planes a.t.now (word_of a.a) (word_of a.b) _ _ _ _
    c.plane_of.ensures
    c.plane_of-2.ensures
    (c.plane_of-3.ensures
    ∙ ap (λ (x : Lit). plane_at a.t.now (word_of x)) c.negated.ensures)
    (c.plane_of-4.ensures
    ∙ ap (λ (x : Lit). plane_at a.t.now (word_of x)) c.negated-2.ensures))
