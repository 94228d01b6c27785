-- The answer of `all` is that of the closure at each byte.
use mathlib.Core.Path.{sym, ◌∙◌}
use borrow.Author.Tests.{tests}
use Rattle.std.proofs.Common.{rules}
use Rattle.std.proofs.lemmas.Iterator.{YieldsList-from_slice}
use Rattle.std.proofs.lemmas.Iterator.Search.{all_from_yields_List}
use Rattle.plan.specs.Step.{is_code}
use Rattle.step.proofs.codes.Codes.{codes-all}
use Rattle.step.proofs.codes.all_codes.Goals as goal

pub returns : goal.returns
returns c =
    all_from_yields_List is_code _ _ _ c.all.ensures.ran (YieldsList-from_slice c.args.bytes.now cc)
    (λ x b q k. search (rules, tests))
    ∙ sym (codes-all c.args.bytes.now)
