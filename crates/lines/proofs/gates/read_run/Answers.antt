-- A turn adds one gate to those that were read, or refuses as the whole does.
use mathlib.Core.Path.{sym, ◌∙◌}
use Rattle.lines.proofs.gates.Gathered.{one-refused, one_more}
use Rattle.laws.proofs.Pairs.{passed-on}
use Rattle.lines.proofs.gates.read_run.Goals as goal

pub loop-i-preserved : goal.loop-i-preserved
loop-i-preserved c =
    let a = c.args in
    one_more a.file.now a.at a.first a.n a.table.now c.loop-i.table c.loop-i.next c.loop-i.i c.loop-i.invariant
    c.in_ok-lhs.lhs c.in_ok-lhs.rhs0 c.in_ok-lhs.rhs1 c.in_ok-lhs.after c.loop-i-test.true c.requires.n_in_bounds (sym c.in_ok-lhs.was ∙ c.gate_at.ensures)
    _ _ _ c.word.ensures c.word-in-loop-i.ensures c.word-in-loop-i-2.ensures

pub returns-in_err-lhs : goal.returns-in_err-lhs
returns-in_err-lhs c =
    let a = c.args in
    rw (passed-on _ c.from_residual.ensures.1)
    (one-refused a.file.now a.at a.first a.n a.table.now c.loop-i.table c.loop-i.next c.loop-i.i c.loop-i.invariant _ c.loop-i.table
    c.loop-i-test.true (sym c.in_err-lhs.was ∙ c.gate_at.ensures))
