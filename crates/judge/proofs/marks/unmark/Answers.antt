-- The marks above go with the last of a word.
use Rattle.judge.proofs.marks.Marking.{taken-off}
use Rattle.judge.proofs.marks.unmark.Goals as goal

pub returns : goal.returns
returns c =
    let A = c.args in
    taken-off A.t.now c.lower-one.new.t c.lower-two.new.t c.lower-three.new.t c.lower.new.t A.n A.a A.j
    c.requires.2 c.requires.1 c.requires.3 c.requires.4 c.lower-one.result c.lower-two.result c.lower-three.result c.lower.result
    c.lower-one.ensures.1 c.lower-two.ensures.1 c.lower-one.ensures.0 c.lower-two.ensures.0 c.lower-three.ensures.0
    c.lower.ensures.0
