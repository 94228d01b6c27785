-- Whether a table's word is the literal of variable v. The answer is that of the call below it.
use Prim.Native.Nat.{ℕ, ◌<◌, ◌%◌}
use mathlib.Core.Path.{◌≡◌, ap, ap₂, ◌∙◌}
use native.Mathlib.Omega.{arith}
use lib.Dec.{eqb}
use Rattle.plan.specs.Literals.{lit_of, word_of, doubled}
use Rattle.judge.proofs.binary_order.stands_for.Goals as goal

-- a word of 32 bits doesn't cut the doubling
uncut : (v : ℕ) → v < 2147483648 → lit_of v % 4294967296 ≡ lit_of v
uncut v h = omega arith

pub returns : goal.returns
returns c =
    ap₂ eqb (c.word.ensures ∙ ap word_of c.at.ensures)
    (c.word-2.ensures ∙ ap word_of (c.lit.ensures ∙ ap doubled c.at-2.ensures) ∙ uncut c.args.v c.requires)
