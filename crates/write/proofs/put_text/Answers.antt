-- No room, or the text form and then the tail.
use Rattle.write.specs.forms.Forms.{text_bytes}
use Rattle.write.proofs.Answers.{no_room, form-fits, tail-fits, all-put}
use Rattle.write.proofs.put_text.Goals as goal

pub returns-then-not-holds : goal.returns-then-not-holds
returns-then-not-holds c =
    let a = c.args in
    let bytes = text_bytes a.n a.inputs.now a.latches.now a.outputs.now a.gates.now a.resets.now a.bads.now a.constraints.now in
    no_room bytes a.tail.now a.out.now c.text_length-text.ensures c.holds.ensures
    (c.if-not-holds.true) c.needed.ensures

pub fill_text-end-requires : goal.fill_text-end-requires
fill_text-end-requires c =
    let a = c.args in
    let bytes = text_bytes a.n a.inputs.now a.latches.now a.outputs.now a.gates.now a.resets.now a.bads.now a.constraints.now in
    let fits = form-fits bytes a.tail.now a.out.now c.text_length-text.ensures c.holds.ensures
    (c.if-not-holds.false) in
    record { fits = c.requires; constraints_in_bounds = fits }

pub append-requires : goal.append-requires
append-requires c =
    let a = c.args in
    let bytes = text_bytes a.n a.inputs.now a.latches.now a.outputs.now a.gates.now a.resets.now a.bads.now a.constraints.now in
    tail-fits bytes a.tail.now a.out.now c.text_length-text.ensures c.holds.ensures
    (c.if-not-holds.false)
    (c.fill_text-end.ensures.value, c.fill_text-end.ensures.out_after)

pub returns : goal.returns
returns c =
    let a = c.args in
    let bytes = text_bytes a.n a.inputs.now a.latches.now a.outputs.now a.gates.now a.resets.now a.bads.now a.constraints.now in
    all-put bytes a.tail.now a.out.now c.text_length-text.ensures c.holds.ensures
    (c.if-not-holds.false)
    (c.fill_text-end.ensures.value, c.fill_text-end.ensures.out_after) (c.append.ensures.value, c.append.ensures.out_after)
