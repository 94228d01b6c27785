-- Too small for a head, ended early, gone on, or of the right length.
use mathlib.Core.Path.{ap, ◌∙◌}
use Rattle.plan.specs.declared.Refusal.TheVariants.{WrongByte}
use Rattle.plan.specs.Cards.{card_bytes, bad_length}
use Rattle.cards.proofs.head.Told.{found, nothing, too_small, ends-early, goes_on_lem, ends-right}
use Rattle.cards.proofs.head.check_length.Goals as goal

pub returns-then-size-lt22 : goal.returns-then-size-lt22
returns-then-size-lt22 c =
    let f = c.args.file.now in
    found WrongByte (bad_length f) _ (too_small f c.if-size-lt22.true)

pub bytes_asked-asked-requires : goal.bytes_asked-asked-requires
bytes_asked-asked-requires c = c.counts_at.ensures.within

pub returns-then-size-asked : goal.returns-then-size-asked
returns-then-size-asked c =
    let f = c.args.file.now in
    found WrongByte (bad_length f) _
    (ends-early f c.bytes_asked-asked.result (c.bytes_asked-asked.ensures ∙ ap card_bytes c.counts_at.ensures.value)
    c.if-size-lt22.false c.if-size-asked.true)

pub returns-then-asked-size : goal.returns-then-asked-size
returns-then-asked-size c =
    let f = c.args.file.now in
    found WrongByte (bad_length f) _
    (goes_on_lem f c.bytes_asked-asked.result (c.bytes_asked-asked.ensures ∙ ap card_bytes
    c.counts_at.ensures.value) c.if-size-lt22.false
    c.if-size-asked.false c.if-asked-size.true)

pub returns : goal.returns
returns c =
    let f = c.args.file.now in
    nothing WrongByte (bad_length f)
    (ends-right f c.bytes_asked-asked.result (c.bytes_asked-asked.ensures ∙ ap card_bytes
    c.counts_at.ensures.value) c.if-size-lt22.false
    c.if-size-asked.false c.if-asked-size.false)
