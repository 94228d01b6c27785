-- The mark and M, then one number after the other.
use mathlib.Core.List.{◌++◌}
use native.Mathlib.Omega.{arith}
use Rattle.plan.specs.Cards.{mark_bytes, word_bytes}
use Rattle.cards.proofs.put.Putting.{two-parts}
use Rattle.cards.proofs.put.put_head.Goals as goal

pub returns : goal.returns
returns c =
    let a = c.args in
    let room = c.requires in
    let out = a.out.now in
    let b1 = mark_bytes 72 ++ word_bytes a.m in
    let b2 = b1 ++ word_bytes a.i in
    let b3 = b2 ++ word_bytes a.l in
    let b4 = b3 ++ word_bytes a.o in
    let e2 = two-parts out _ _ b1 (word_bytes a.i) 0 c.put_card-first.result c.put_card-first.ensures.out_after (omega (arith, c.put_card-first.ensures.value)) c.put_word-second.ensures.out_after (omega arith) in
    let e3 = two-parts out _ _ b2 (word_bytes a.l) 0 c.put_word-second.result e2 (omega (arith, c.put_card-first.ensures.value, c.put_word-second.ensures.value)) c.put_word-third.ensures.out_after (omega arith) in
    let e4 = two-parts out _ _ b3 (word_bytes a.o) 0 c.put_word-third.result e3 (omega (arith, c.put_card-first.ensures.value, c.put_word-second.ensures.value, c.put_word-third.ensures.value)) c.put_word-fourth.ensures.out_after (omega arith) in
    let e5 = two-parts out _ _ b4 (word_bytes a.a) 0 c.put_word-fourth.result e4 (omega (arith, c.put_card-first.ensures.value, c.put_word-second.ensures.value, c.put_word-third.ensures.value, c.put_word-fourth.ensures.value)) c.put_word.ensures.out_after
    (omega arith) in
    record { value = omega (arith, c.put_card-first.ensures.value, c.put_word-second.ensures.value, c.put_word-third.ensures.value, c.put_word-fourth.ensures.value, c.put_word.ensures.value); out_after = e5 }
