-- Whether a letter is one of a version's lists. The answers are given by `letter-i`, `letter-l` and `letter-o`.
use mathlib.Core.Path.{◌∙◌}
use native.Mathlib.Omega.{arith}
use Rattle.lines.proofs.tail.Letters.{letter-i, letter-l, letter-o, letter-b, letter-c, no-letter}
use Rattle.lines.proofs.tail.is_kind.Goals as goal

pub returns-in-105 : goal.returns-in-105
returns-in-105 c = let a = c.args in letter-i a.version a.b c.in-105.is

pub returns-in-108 : goal.returns-in-108
returns-in-108 c = let a = c.args in letter-l a.version a.b c.in-108.is

pub returns-in-111 : goal.returns-in-111
returns-in-111 c = let a = c.args in letter-o a.version a.b c.in-111.is

pub returns-in-98 : goal.returns-in-98
returns-in-98 c = let a = c.args in c.is_later.ensures ∙ letter-b a.version a.b c.in-98.is

pub returns-in-99 : goal.returns-in-99
returns-in-99 c = let a = c.args in c.is_later-in-99.ensures ∙ letter-c a.version a.b c.in-99.is

pub returns-in_default : goal.returns-in_default
returns-in_default c =
    let a = c.args in no-letter a.version a.b (omega arith) (omega arith) (omega arith) (omega arith) (omega arith)
