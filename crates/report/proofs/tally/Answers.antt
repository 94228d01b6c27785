-- All vectors of a list, whose bytes are good, from the state that scratch holds. The loop keeps `Going`; `going_on` carries it from turn to turn,
-- and `all-gone` gives the answer.
use native.Mathlib.Omega.{arith}
use Rattle.report.proofs.Listing.{vector-length, going_on, all-gone}
use Rattle.report.proofs.tally.Goals as goal

pub turn-requires : goal.turn-requires
turn-requires c =
    let p = c.requires in
    let g = c.loop-k.invariant p.others p.state p.rest p.runs p.state-length p.rests p.held in
    record {
      others = p.others;
      state = g.state;
      runs = p.runs;
      scratch-long = omega arith;
      state-length = g.state-length;
      rests = g.rests;
      vector = vector-length {n = c.args.n} (record { whole = p.whole; more = c.loop-k-test.true });
      done = g.done;
      rest = p.rest;
      few = omega (arith, g.done-length, p.few);
      held = g.held;
    }

pub loop-k-preserved : goal.loop-k-preserved
loop-k-preserved c = λ x v rest r l z held.
    let g = c.loop-k.invariant x v rest r l z held in
    going_on (record { whole = c.requires.whole; more = c.loop-k-test.true }) r g (c.turn.ensures x g.state g.done rest r g.state-length g.rests g.held)

pub returns : goal.returns
returns c = λ x v rest r l z held.
    let a = c.args in
    all-gone a.n _ v a.number a.bytes.now rest c.loop-k.scratch c.loop-k.six c.loop-k.k c.loop-k-test.false (c.loop-k.invariant x v rest r l z held)
