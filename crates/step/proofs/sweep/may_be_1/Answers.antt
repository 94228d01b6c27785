-- Whether a literal may be 1: one read, whatever its sign, as each literal has a word of its own. The answer is that of the call below it.
use Prim.Native.Nat.{ℕ, ◌+◌}
use mathlib.Core.Path.{ap}
use lib.ListN.{get_or}
use Rattle.step.proofs.sweep.may_be_1.Goals as goal

pub returns : goal.returns
returns c = ap (λ (k : ℕ). get_or c.args.t.now (c.args.lits + k) 0) c.word.ensures
