-- The count of a letter's list. Each answer is rewritten with the tests that led to it.
use native.Mathlib.Omega.{arith}
use borrow.Author.Tests.{ne_eqb}
use Rattle.lines.proofs.tail.count_of.Goals as goal

pub returns-in-105 : goal.returns-in-105
returns-in-105 c = rw c.in-105.is

pub returns-in-108 : goal.returns-in-108
returns-in-108 c = rw c.in-108.is

pub returns-in-111 : goal.returns-in-111
returns-in-111 c = rw c.in-111.is

pub returns-in-98 : goal.returns-in-98
returns-in-98 c = rw c.in-98.is

pub returns-in_default : goal.returns-in_default
returns-in_default c =
    simp (
      ne_eqb c.args.b 105 (omega arith),
      ne_eqb c.args.b 108 (omega arith),
      ne_eqb c.args.b 111
          (omega arith),
      ne_eqb c.args.b 98 (omega arith),
    )
