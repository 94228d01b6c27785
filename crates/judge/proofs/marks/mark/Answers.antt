-- A place on at each of four levels.
use Prim.Native.Nat.{ℕ, ◌/◌}
use mathlib.Core.Path.{ap, ◌∙◌}
use mathlib.Core.List.{List}
use Rattle.tables.specs.bitmap.Bitmap.{raised}
use Rattle.judge.specs.marks.Levels.{p1, p2, p3, marked}
use Rattle.judge.proofs.marks.mark.Goals as goal

pub returns : goal.returns
unfolding marked
returns c =
    let A = c.args in
    c.raise-4.ensures
    ∙ ap (λ (l : List ℕ). raised l (p3 A.n A.a) (A.i / 32768))
    (c.raise-3.ensures
    ∙ ap (λ (l : List ℕ). raised l (p2 A.n A.a) (A.i / 1024))
    (c.raise-2.ensures ∙ ap (λ (l : List ℕ). raised l (p1 A.n A.a) (A.i / 32)) c.raise.ensures))
