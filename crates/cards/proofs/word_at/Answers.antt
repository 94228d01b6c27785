-- The four bytes, joined.
use Prim.Native.Nat.{◌+◌}
use mathlib.Core.Path.{refl}
use native.Mathlib.Omega.{arith}
use Rattle.cards.proofs.Words.{word-joined}
use Rattle.cards.proofs.word_at.Goals as goal

pub overflow_cast-a : goal.overflow_cast-a
overflow_cast-a c = omega (arith, c.type_inv.file c.args.at)

pub overflow_cast-b : goal.overflow_cast-b
overflow_cast-b c = omega (arith, c.type_inv.file (c.args.at + 1))

pub overflow_cast-c : goal.overflow_cast-c
overflow_cast-c c = omega (arith, c.type_inv.file (c.args.at + 2))

pub overflow_cast-d : goal.overflow_cast-d
overflow_cast-d c = omega (arith, c.type_inv.file (c.args.at + 3))

pub returns : goal.returns
returns c =
    let a = c.args in
    word-joined a.file.now a.at _ _ _ _ refl refl refl refl (omega (arith, c.type_inv.file a.at))
    (omega (arith, c.type_inv.file (a.at + 1))) (omega (arith, c.type_inv.file (a.at + 2)))
    (omega (arith, c.type_inv.file (a.at + 3)))
