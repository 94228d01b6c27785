-- The length needed, or the cards.
use borrow.Author.Tests.{not-true, not-false}
use Rattle.cards.proofs.writing.Holding.{within, no_room, enough, with-cards}
use Rattle.cards.proofs.writing.put_cards.Goals as goal

pub bytes_asked-size-requires : goal.bytes_asked-size-requires
bytes_asked-size-requires c = within c.requires

pub returns-then-not-holds : goal.returns-then-not-holds
returns-then-not-holds c =
    let a = c.args in
    no_room a.n a.latches.now a.outputs.now a.gates.now c.requires a.out.now _ c.bytes_asked-size.ensures _ c.holds.ensures
    (not-true _ c.if-not-holds.true-raw)

pub fill_cards-requires : goal.fill_cards-requires
fill_cards-requires c =
    let a = c.args in
    record {
      cardable = c.requires;
      n_in_bounds = enough a.n a.latches.now a.outputs.now a.gates.now c.requires a.out.now _ c.bytes_asked-size.ensures _ c.holds.ensures
          (not-false _ c.if-not-holds.false-raw);
    }

pub returns : goal.returns
returns c =
    let a = c.args in
    with-cards a.n a.latches.now a.outputs.now a.gates.now c.requires a.out.now _ _
    (enough a.n a.latches.now a.outputs.now a.gates.now c.requires a.out.now _ c.bytes_asked-size.ensures _ c.holds.ensures
    (not-false _ c.if-not-holds.false-raw))
    c.fill_cards.ensures.value c.fill_cards.ensures.out_after
