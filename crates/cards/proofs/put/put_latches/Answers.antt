-- A turn puts one record.
use Prim.Native.Nat.{ℕ, ◌+◌, ◌*◌}
use mathlib.Core.List.{◌++◌}
use native.Mathlib.Omega.{arith}
use lib.ListN.{get_or}
use Rattle.plan.specs.Cards.{mark_bytes, word_bytes}
use Rattle.cards.specs.put.Parts.{latch_cards}
use Rattle.cards.proofs.put.Putting.{one-put, latches-more, latches-size}
use Rattle.cards.proofs.put.put_latches.Goals as goal

pub put_card-next-requires : goal.put_card-next-requires
put_card-next-requires c = omega (arith, c.loop-i.invariant.next-is, c.loop-i-test.true, latches-size c.args.latches.now c.loop-i.i)

pub loop-i-preserved : goal.loop-i-preserved
loop-i-preserved c =
    let a = c.args in
    let l = c.loop-i in
    let t = a.latches.now in
    let bytes = mark_bytes 76 ++ word_bytes (get_or t (2 * l.i + 1) 0) in
    let e = c.put_card-next.ensures in
    one-put a.out.now a.at (λ (k : ℕ). latch_cards k t) a.n l.out l.next l.i l.invariant c.loop-i-test.true bytes
    (latches-more t l.i) (omega (arith, c.loop-i-test.true, latches-size t (l.i + 1))) _ _ e.out_after e.value c.put_card-next.auto.out

pub returns-clause-value : goal.returns-clause-value
returns-clause-value c = omega (arith, c.loop-i.invariant.next-is, c.loop-i.invariant.bound, latches-size c.args.latches.now c.loop-i.i)
