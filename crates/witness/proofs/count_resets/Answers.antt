-- What a filter keeps is counted.
use Prim.Native.Nat.{ℕ}
use mathlib.Core.Path.{◌∙◌}
use borrow.Author.Tests.{tests}
use lib.ListN.{take}
use Rattle.std.proofs.Common.{rules}
use Rattle.std.proofs.lemmas.Iterator.{YieldsList-from_slice}
use Rattle.std.proofs.lemmas.Iterator.Consumers.{YieldsList-from_filter, count_from_yields_List}
use Rattle.plan.specs.Step.{code_of, reset_value}
use Rattle.plan.specs.Fillings.{is_x}
use Rattle.witness.proofs.Words.{resets-filtered}
use Rattle.witness.proofs.count_resets.Goals as goal

pub returns : goal.returns
returns c =
    let part = take c.args.n c.args.resets.now in
    count_from_yields_List c.filter.result _ c.count.ensures.ran
    (YieldsList-from_filter _ (λ (r : ℕ). is_x (code_of (reset_value r))) (YieldsList-from_slice part cc) c.filter.ensures.closure
    (λ x b q k. search (rules, tests)))
    ∙ resets-filtered part
