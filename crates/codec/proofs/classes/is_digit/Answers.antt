-- Each arm says of the byte what the class of the byte with its lowest bit set is.
use Rattle.codec.proofs.classes.Odd.{odd-says}
use Rattle.codec.proofs.classes.is_digit.Goals as goal

pub returns-in-Digit : goal.returns-in-Digit
returns-in-Digit c = odd-says c.args.b c.class_of.ensures c.in-Digit.is

pub returns-in-Zero : goal.returns-in-Zero
returns-in-Zero c = odd-says c.args.b c.class_of.ensures c.in-Zero.is

pub returns-in-Line : goal.returns-in-Line
returns-in-Line c = odd-says c.args.b c.class_of.ensures c.in-Line.is

pub returns-in-Space : goal.returns-in-Space
returns-in-Space c = odd-says c.args.b c.class_of.ensures c.in-Space.is

pub returns-in-Print : goal.returns-in-Print
returns-in-Print c = odd-says c.args.b c.class_of.ensures c.in-Print.is

pub returns-in-Rest : goal.returns-in-Rest
returns-in-Rest c = odd-says c.args.b c.class_of.ensures c.in-Rest.is
