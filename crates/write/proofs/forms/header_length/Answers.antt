-- Four bytes and one line of words.
use mathlib.Core.Path.{ap}
use native.Mathlib.Omega.{arith}
use lib.ListN.{length}
use Rattle.write.proofs.forms.Headers.{line-of-counts}
use borrow.Author.Rules.{rules}
use Rattle.write.proofs.forms.header_length.Goals as goal

pub returns : goal.returns
returns c =
    let line = ap length (line-of-counts _ c.counts_told-k.result c.args.n c.seven-words.ensures
    c.counts_told-k.ensures.n_value) in
    record { value = omega (arith, line); upper_bound = search rules }
