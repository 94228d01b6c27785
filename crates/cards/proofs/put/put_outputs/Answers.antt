-- A turn puts one record.
use Prim.Native.Nat.{ℕ, ◌+◌}
use mathlib.Core.List.{◌++◌}
use native.Mathlib.Omega.{arith}
use lib.ListN.{get_or}
use lib.Seq.{length-take-le}
use Rattle.plan.specs.Cards.{mark_bytes, word_bytes}
use Rattle.write.proofs.print.Turns.{word_taken}
use Rattle.cards.specs.put.Parts.{output_cards}
use Rattle.cards.proofs.put.Putting.{one-put, outputs-more, outputs-size}
use Rattle.cards.proofs.put.put_outputs.Goals as goal

pub put_card-next-requires : goal.put_card-next-requires
put_card-next-requires c =
    let a = c.args in
    let i = c.loop-output.output-index in
    let word = word_taken a.outputs.now a.n i c.requires.n_in_bounds_2 c.loop-output-test.true in
    omega (arith, word.0, outputs-size a.outputs.now i (omega (arith, word.0)))

pub loop-output-preserved : goal.loop-output-preserved
loop-output-preserved c =
    let a = c.args in
    let l = c.loop-output in
    let t = a.outputs.now in
    let i = l.output-index in
    let word = word_taken t a.n i c.requires.n_in_bounds_2 c.loop-output-test.true in
    let bytes = mark_bytes 79 ++ word_bytes (get_or t i 0) in
    let e = c.put_card-next.ensures in
    one-put a.out.now a.at (λ (k : ℕ). output_cards k t) a.n l.out l.next i l.invariant word.0 bytes
    (outputs-more t i (omega (arith, word.0))) (omega (arith, word.0, outputs-size t (i + 1) (omega (arith, word.0)))) _ _
    (rw word.1 at e.out_after) e.value c.put_card-next.auto.out

pub returns-clause-value : goal.returns-clause-value
returns-clause-value c =
    let t = c.args.outputs.now in
    omega (arith, length-take-le c.args.n t c.requires.n_in_bounds_2, outputs-size t c.loop-output.output-index (omega (arith, length-take-le c.args.n t c.requires.n_in_bounds_2)))
