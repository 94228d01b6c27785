-- How far the smaller side moves the root: its hash, a part of 2^32, on a scale of all roots. Each answer is given by `spread-is`.
use native.Mathlib.Omega.{arith}
use Rattle.plan.specs.Literals.{word_of}
use Rattle.reduce.proofs.pairs.Roots.{spread-fits, spread-is}
use Rattle.reduce.proofs.pairs.spread.Goals as goal

pub overflow_mul-result-2 : goal.overflow_mul-result-2
overflow_mul-result-2 c = record { fits = spread-fits _ c.args.w (omega arith) c.requires }

pub returns : goal.returns
returns c = let a = c.args in spread-is a.w (word_of a.y) _ c.word.ensures
