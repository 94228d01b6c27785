-- A union with the place's bit.
use native.Mathlib.Omega.{arith}
use mathlib.Core.Path.{ap}
use Prim.Native.Nat.{ℕ, ◌+◌, ◌/◌, ◌%◌}
use lib.Bits.{bit_or}
use lib.ListN.{get_or, set}
use Rattle.tables.specs.bitmap.Bitmap.{raised}
use Rattle.tables.proofs.bitmap.Words.{one_shl}
use Rattle.tables.proofs.bitmap.raise.Goals as goal

pub returns : goal.returns
unfolding raised
returns c =
    let A = c.args in
    ap (λ (x : ℕ). set A.t.now (A.p + A.i / 32) (bit_or (get_or A.t.now (A.p + A.i / 32) 0) x)) (one_shl (A.i % 32) (omega arith))
