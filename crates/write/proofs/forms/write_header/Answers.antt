-- The four bytes, then the line of the counts.
use mathlib.Core.Path.{◌∙◌}
use native.Mathlib.Omega.{arith}
use lib.ListN.{length-set}
use Rattle.write.proofs.forms.Headers.{line-fits, header-ends, header-put}
use borrow.Author.Rules.{rules}
use Rattle.write.proofs.forms.write_header.Goals as goal

pub bounds-out-1 : goal.bounds-out-1
bounds-out-1 c = simp length-set (omega arith)

pub bounds-out-2 : goal.bounds-out-2
bounds-out-2 c = simp length-set (omega arith)

pub bounds-out-3 : goal.bounds-out-3
bounds-out-3 c = simp length-set (omega arith)

pub write_lines-requires : goal.write_lines-requires
write_lines-requires c =
    let a = c.args in
    let fits = line-fits a.out.now a.letter a.n c.requires.n_in_bounds _ c.counts_told-k.result c.seven-words.ensures c.counts_told-k.ensures.n_value in
    record { k_nonzero = search rules; n_in_bounds = search rules; n_bound = search rules; table_in_bounds = simp length-set fits }

pub shape_of-out : goal.shape_of-out
shape_of-out c = simp length-set at c.write_lines.auto.out

pub returns : goal.returns
returns c =
    let a = c.args in
    let seven = c.seven-words.ensures in
    record { value = c.write_lines.ensures.value ∙ header-ends a.out.now a.letter a.n c.requires.n_in_bounds _ c.counts_told-k.result seven c.counts_told-k.ensures.n_value; out_after = c.write_lines.ensures.out_after ∙ header-put a.out.now a.letter a.n c.requires.n_in_bounds _ c.counts_told-k.result seven c.counts_told-k.ensures.n_value }
