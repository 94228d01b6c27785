-- What a filter keeps is counted.
use mathlib.Core.Path.{◌∙◌}
use borrow.Author.Tests.{tests}
use Rattle.std.proofs.Common.{rules}
use Rattle.std.proofs.lemmas.Iterator.{YieldsList-from_slice}
use Rattle.std.proofs.lemmas.Iterator.Consumers.{YieldsList-from_filter, count_from_yields_List}
use Rattle.plan.specs.Fillings.{is_x}
use Rattle.witness.proofs.Words.{x-filtered}
use Rattle.witness.proofs.count_x.Goals as goal

pub returns : goal.returns
returns c =
    count_from_yields_List c.filter.result _ c.count.ensures.ran
    (YieldsList-from_filter _ is_x (YieldsList-from_slice c.args.bytes.now cc) c.filter.ensures.closure (λ x b q k. search (rules, tests)))
    ∙ x-filtered c.args.bytes.now
