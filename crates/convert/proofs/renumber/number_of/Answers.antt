-- The number of a literal's variable. The answers hold by computing.
use mathlib.Core.Path.{◌≡◌, ap, ◌∙◌}
use native.Mathlib.Omega.{arith}
use lib.ListN.{get_or}
use Rattle.plan.specs.Literals.{var_of, word_of, index_of}
use Rattle.convert.proofs.renumber.number_of.Goals as goal

pub bounds-t-v : goal.bounds-t-v
bounds-t-v c =
    let var-is : c.index-v.result ≡ var_of (word_of c.args.l) =
    c.index-v.ensures ∙ ap index_of c.var.ensures in
    omega (arith, var-is, c.requires.0)

pub returns : goal.returns
returns c =
    let var-is : c.index-v.result ≡ var_of (word_of c.args.l) =
    c.index-v.ensures ∙ ap index_of c.var.ensures in
    ap (λ v. get_or c.args.t.now v 0) (var-is)
