-- A turn puts one record, of two numbers.
use Prim.Native.Nat.{ℕ, ◌+◌, ◌*◌}
use mathlib.Core.Path.{◌∙◌}
use mathlib.Core.List.{◌++◌}
use native.Mathlib.Omega.{arith}
use lib.ListN.{get_or}
use Rattle.plan.specs.Cards.{mark_bytes, word_bytes}
use Rattle.cards.specs.put.Parts.{gates_cards}
use Rattle.cards.proofs.put.Putting.{two-parts, one-put, gates-more, gates-size}
use Rattle.cards.proofs.put.put_gates.Goals as goal

pub put_card-next-requires : goal.put_card-next-requires
put_card-next-requires c = omega (arith, c.loop-i.invariant.next-is, c.loop-i-test.true, gates-size c.args.gates.now c.loop-i.i)

pub put_word-next-requires : goal.put_word-next-requires
put_word-next-requires c =
    omega (arith, c.loop-i.invariant.next-is, c.loop-i-test.true, gates-size c.args.gates.now c.loop-i.i, c.put_card-next.ensures.value)

pub loop-i-preserved : goal.loop-i-preserved
loop-i-preserved c =
    let a = c.args in
    let l = c.loop-i in
    let t = a.gates.now in
    let r0 = word_bytes (get_or t (3 * l.i + 1) 0) in
    let r1 = word_bytes (get_or t (3 * l.i + 2) 0) in
    let e = c.put_card-next.ensures in
    let f = c.put_word-next.ensures in
    let both = two-parts l.out _ _ (mark_bytes 65 ++ r0) r1 l.next _ e.out_after e.value f.out_after
    (omega (arith, c.loop-i-test.true, l.invariant.next-is, gates-size t l.i)) in
    one-put a.out.now a.at (λ (k : ℕ). gates_cards k t) a.n l.out l.next l.i l.invariant c.loop-i-test.true
    (mark_bytes 65 ++ (r0 ++ r1)) (gates-more t l.i) (omega (arith, c.loop-i-test.true, gates-size t (l.i + 1))) _ _ both
    (omega (arith, e.value, f.value)) (c.put_word-next.auto.out ∙ c.put_card-next.auto.out)

pub returns-clause-value : goal.returns-clause-value
returns-clause-value c = omega (arith, c.loop-i.invariant.next-is, c.loop-i.invariant.bound, gates-size c.args.gates.now c.loop-i.i)
