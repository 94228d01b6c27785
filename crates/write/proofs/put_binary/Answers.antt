-- No room, or the binary form and then the tail.
use Rattle.write.specs.forms.Forms.{binary_bytes}
use Rattle.write.proofs.Answers.{no_room, form-fits, tail-fits, all-put}
use Rattle.write.proofs.put_binary.Goals as goal

pub returns-then-not-holds : goal.returns-then-not-holds
returns-then-not-holds c =
    let a = c.args in
    let bytes = binary_bytes a.n a.latches.now a.outputs.now a.gates.now a.resets.now a.bads.now a.constraints.now in
    no_room bytes a.tail.now a.out.now c.binary_length-binary.ensures c.holds.ensures
    (c.if-not-holds.true) c.needed.ensures

pub fill_binary-end-requires : goal.fill_binary-end-requires
fill_binary-end-requires c =
    let a = c.args in
    let bytes = binary_bytes a.n a.latches.now a.outputs.now a.gates.now a.resets.now a.bads.now a.constraints.now in
    let fits = form-fits bytes a.tail.now a.out.now c.binary_length-binary.ensures c.holds.ensures
    (c.if-not-holds.false) in
    record { printable = c.requires; constraints_in_bounds = fits }

pub append-requires : goal.append-requires
append-requires c =
    let a = c.args in
    let bytes = binary_bytes a.n a.latches.now a.outputs.now a.gates.now a.resets.now a.bads.now a.constraints.now in
    tail-fits bytes a.tail.now a.out.now c.binary_length-binary.ensures c.holds.ensures
    (c.if-not-holds.false)
    (c.fill_binary-end.ensures.value, c.fill_binary-end.ensures.out_after)

pub returns : goal.returns
returns c =
    let a = c.args in
    let bytes = binary_bytes a.n a.latches.now a.outputs.now a.gates.now a.resets.now a.bads.now a.constraints.now in
    all-put bytes a.tail.now a.out.now c.binary_length-binary.ensures c.holds.ensures
    (c.if-not-holds.false)
    (c.fill_binary-end.ensures.value, c.fill_binary-end.ensures.out_after) (c.append.ensures.value, c.append.ensures.out_after)
