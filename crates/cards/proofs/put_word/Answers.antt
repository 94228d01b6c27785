-- The four bytes, masked, from the low one up.
use Prim.Native.Nat.{◌/◌}
use mathlib.Core.Path.{refl}
use native.Mathlib.Omega.{arith}
use lib.Bits.{mask_lt}
use lib.ListN.{length-set}
use Rattle.cards.proofs.Words.{word-put}
use Rattle.cards.proofs.put_word.Goals as goal

pub overflow_cast-out : goal.overflow_cast-out
overflow_cast-out c = record { fits = omega (arith, mask_lt c.args.word 8) }

pub overflow_cast-out-2 : goal.overflow_cast-out-2
overflow_cast-out-2 c = record { fits = omega (arith, mask_lt (c.args.word / 256) 8) }

pub bounds-out-at-2 : goal.bounds-out-at-2
bounds-out-at-2 c = simp length-set (omega arith)

pub overflow_cast-out-3 : goal.overflow_cast-out-3
overflow_cast-out-3 c = record { fits = omega (arith, mask_lt (c.args.word / 65536) 8) }

pub bounds-out-at-3 : goal.bounds-out-at-3
bounds-out-at-3 c = simp length-set (omega arith)

pub overflow_cast-out-4 : goal.overflow_cast-out-4
overflow_cast-out-4 c = record { fits = omega (arith, mask_lt (c.args.word / 16777216) 8) }

pub bounds-out-at-4 : goal.bounds-out-at-4
bounds-out-at-4 c = simp length-set (omega arith)

pub returns : goal.returns
returns c =
    let a = c.args in
    record { value = refl; out_after = word-put a.out.now a.at a.word c.requires _ _ _ _ refl refl refl refl }
