-- The literal that stands in for a gate with the sides a and b, or where the gate is to hang, larger side first. The answers are given by `by-rule`
-- and `by-twin`.
use Rattle.plan.specs.Literals.{word_of}
use Rattle.reduce.proofs.folding.Lookup.{rooted-sorted, by-rule, by-twin}
use Rattle.reduce.proofs.folding.stand_in.Goals as goal

pub find-requires : goal.find-requires
find-requires c =
    record { room = c.requires.room; n_bound = c.requires.n_bound; rooted = rooted-sorted c.requires.rooted c.larger.ensures c.smaller.ensures; tree = c.requires.tree }

pub returns-in-Some : goal.returns-in-Some
returns-in-Some c =
    let a = c.args in
    by-rule a.gates.now a.scratch.now a.base a.w a.n (word_of a.a) (word_of a.b) c.by_sides.result c.by_sides.ensures _
    c.in-Some.is

pub returns-in-None : goal.returns-in-None
returns-in-None c =
    let a = c.args in
    by-twin a.gates.now a.scratch.now a.base a.w a.n (word_of a.a) (word_of a.b) c.by_sides.result c.by_sides.ensures _ _
    c.in-None.is c.larger.ensures c.smaller.ensures c.find.result
    c.find.ensures
