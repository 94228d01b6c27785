-- A byte's bit in a lane, by a sum instead of a test: 127 and the bit, where it is lit, make 128 or more. Each answer is given by `lane-is`.
use native.Mathlib.Omega.{arith}
use Rattle.rows.proofs.lanes.Storing.{lane-fits, lane-is}
use Rattle.rows.proofs.lanes.lane_of.Goals as goal

pub overflow_add-result : goal.overflow_add-result
overflow_add-result c = omega (arith, lane-fits c.args.byte c.args.lane c.requires)

pub returns : goal.returns
returns c = lane-is c.args.byte c.args.lane c.requires
