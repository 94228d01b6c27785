-- Past the end the byte 0 is read.
use Prim.Native.Nat.{ℕ}
use mathlib.Core.Path.{sym, ap}
use lib.Dec.{eqb}
use lib.ListN.{get_or-eq_default}
use Rattle.codec.proofs.classes.stands.Goals as goal

pub returns-then-file-at : goal.returns-then-file-at
returns-then-file-at c =
    let a = c.args in
    ap (λ (x : ℕ). eqb x a.b) (sym (get_or-eq_default a.file.now 0 c.if-file-at.true))
