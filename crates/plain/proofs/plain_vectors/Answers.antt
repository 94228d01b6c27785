-- A step whose tables and vectors are good. Each answer is given by `leaves_in`.
use Rattle.plain.proofs.Filling.{asks, outs-in, nexts-in, bytes-in, leaves_in}
use Rattle.plain.proofs.plain_vectors.Goals as goal

pub give_outputs-requires : goal.give_outputs-requires
give_outputs-requires c =
    record { teaches = asks c.requires.room c.requires.vectors c.requires.state_value c.requires.ins_value; outs = outs-in c.requires.room c.requires.vectors c.requires.state_value c.requires.ins_value }

pub hold_next-requires : goal.hold_next-requires
hold_next-requires c =
    record { teaches = asks c.requires.room c.requires.vectors c.requires.state_value c.requires.ins_value; nexts = nexts-in c.requires.room c.requires.vectors c.requires.state_value c.requires.ins_value }

pub take_next-requires : goal.take_next-requires
take_next-requires c =
    bytes-in c.requires.room c.requires.vectors c.requires.state_value c.requires.ins_value _ c.hold_next.auto.t c.hold_next.ensures

pub returns : goal.returns
returns c =
    λ inputs r.
    leaves_in c.requires.room c.requires.vectors c.requires.state_value c.requires.ins_value _ c.hold_next.auto.t c.hold_next.ensures inputs r _ _
    c.take_next.ensures c.give_outputs.ensures
