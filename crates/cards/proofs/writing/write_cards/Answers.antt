-- A refusal before 19, 19, or what is put.
use mathlib.Core.Path.{sym, ap, ◌∙◌}
use mathlib.Core.Bool.{true}
use borrow.Author.Tests.{not-true, not-false}
use Rattle.plan.specs.Refusals.{first_of}
use Rattle.plan.specs.Given.{Given, given_circuit}
use Rattle.plan.specs.Outcome.{FileEntry, put_bytes}
use Rattle.laws.proofs.Pairs.{passed-on}
use Rattle.judge.proofs.Sound.{good_none, refused-some}
use Rattle.write.specs.Judged.{given_in, writer_stages}
use Rattle.write.proofs.Judging.{good-judged}
use Rattle.write.proofs.Writing.{refused-file, written-file}
use Rattle.plan.specs.Cards.{cards_of}
use Rattle.cards.proofs.writing.Holding.{held_same, cards-same, cardable, refused-first, at-nineteen, past-nineteen}
use Rattle.cards.proofs.writing.write_cards.Goals as goal

pub on_cards-requires : goal.on_cards-requires
on_cards-requires c =
    let gave : Given =
    let a = c.args in
    given_in a.n a.inputs.now a.latches.now a.outputs.now a.gates.now a.resets.now a.bads.now a.constraints.now a.scratch.now in
    (good-judged true (gave) c.args.tail.now c.judge.ensures.value c.in_ok-judge.was).fits.resets-long

pub returns-then-not-on_cards : goal.returns-then-not-on_cards
returns-then-not-on_cards c =
    let gave : Given =
    let a = c.args in
    given_in a.n a.inputs.now a.latches.now a.outputs.now a.gates.now a.resets.now a.bads.now a.constraints.now a.scratch.now in
    let entry : FileEntry =
    record { circuit = gave; tail = c.args.tail.now; out = c.args.out.now } in
    let g = gave in
    let good = good-judged true g c.args.tail.now c.judge.ensures.value c.in_ok-judge.was in
    refused-file (entry) (cards_of (given_circuit g)) _ c.judge.ensures.scratch_after _
    (at-nineteen g c.args.tail.now c.args.out.now (cards_of (given_circuit g)) (good_none (first_of (writer_stages true g c.args.tail.now)) (sym
    c.in_ok-judge.was ∙ c.judge.ensures.value))
    (held_same g good.fits c.args.tail.now ∙ (sym c.on_cards.ensures ∙ not-true _ c.if-not-on_cards.true-raw)))

pub put_cards-requires : goal.put_cards-requires
put_cards-requires c =
    let gave : Given =
    let a = c.args in
    given_in a.n a.inputs.now a.latches.now a.outputs.now a.gates.now a.resets.now a.bads.now a.constraints.now a.scratch.now in
    cardable (gave) (good-judged true (gave) c.args.tail.now c.judge.ensures.value c.in_ok-judge.was).fits

pub returns-in_err-judge : goal.returns-in_err-judge
returns-in_err-judge c =
    let gave : Given =
    let a = c.args in
    given_in a.n a.inputs.now a.latches.now a.outputs.now a.gates.now a.resets.now a.bads.now a.constraints.now a.scratch.now in
    let entry : FileEntry =
    record { circuit = gave; tail = c.args.tail.now; out = c.args.out.now } in
    let g = gave in
    rw (passed-on _ c.from_residual.ensures.1)
    (refused-file (entry) (cards_of (given_circuit g)) _ c.judge.ensures.scratch_after _
    (refused-first g c.args.tail.now c.args.out.now (cards_of (given_circuit g)) _ (refused-some _ (first_of (writer_stages true g
    c.args.tail.now)) (sym c.in_err-judge.was ∙ c.judge.ensures.value))))

pub returns : goal.returns
returns c =
    let gave : Given =
    let a = c.args in
    given_in a.n a.inputs.now a.latches.now a.outputs.now a.gates.now a.resets.now a.bads.now a.constraints.now a.scratch.now in
    let entry : FileEntry =
    record { circuit = gave; tail = c.args.tail.now; out = c.args.out.now } in
    let g = gave in
    let good = good-judged true g c.args.tail.now c.judge.ensures.value c.in_ok-judge.was in
    written-file (entry) (cards_of (given_circuit g)) _ c.judge.ensures.scratch_after
    (past-nineteen g c.args.tail.now c.args.out.now (cards_of (given_circuit g)) (good_none (first_of (writer_stages true g c.args.tail.now))
    (sym c.in_ok-judge.was ∙ c.judge.ensures.value))
    (held_same g good.fits c.args.tail.now ∙ (sym c.on_cards.ensures ∙ not-false _ c.if-not-on_cards.false-raw)))
    (c.put_cards.ensures ∙ ap (put_bytes c.args.out.now 0) (cards-same g good.fits))
