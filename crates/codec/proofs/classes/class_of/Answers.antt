-- Each arm of the match answers the class of the bytes that it takes.
use native.Mathlib.Omega.{arith}
use Rattle.codec.proofs.classes.ByClass.{digit, print-low, print-high, rest-low, rest-high}
use Rattle.codec.proofs.classes.class_of.Goals as goal

pub returns-in-10 : goal.returns-in-10
returns-in-10 c = rw c.in-10.is

pub returns-in-32 : goal.returns-in-32
returns-in-32 c = rw c.in-32.is

pub returns-in-48 : goal.returns-in-48
returns-in-48 c = rw c.in-48.is

pub returns-in-49-to-57 : goal.returns-in-49-to-57
returns-in-49-to-57 c = digit c.args.b (omega arith) (omega arith)

pub returns-in-33-to-126 : goal.returns-in-33-to-126
returns-in-33-to-126 c = print-low c.args.b (omega arith) (omega arith)

pub returns-in-33-to-126-2 : goal.returns-in-33-to-126-2
returns-in-33-to-126-2 c = print-high c.args.b (omega arith) (omega arith)

pub returns-in_default : goal.returns-in_default
returns-in_default c = rest-low c.args.b (omega arith) (omega arith) (omega arith)

pub returns-in_default-2 : goal.returns-in_default-2
returns-in_default-2 c = rest-high c.args.b (omega arith)
