-- The chain's answer is that of the test of each word.
use Prim.Native.Nat.{ℕ}
use mathlib.Core.Path.{◌∙◌}
use borrow.Author.Rules.{rules}
use borrow.Author.Tests.{tests}
use lib.Dec.{eqb}
use lib.ListN.{take}
use Rattle.std.proofs.lemmas.Iterator.{YieldsList-from_slice}
use Rattle.std.proofs.lemmas.Iterator.Search.{all_from_yields_List}
use Rattle.cards.proofs.writing.Holding.{zeros-tested}
use Rattle.cards.proofs.writing.all_zero.Goals as goal

pub returns : goal.returns
returns c =
    let words = take c.args.n c.args.table.now in
    all_from_yields_List (λ (w : ℕ). eqb w 0) _ _ c.all.result c.all.ensures.ran (YieldsList-from_slice words cc) (λ x b q k. search (rules, tests))
    ∙ zeros-tested words
