-- Half of the gates, then the others.
use Prim.Native.Nat.{◌+◌, ◌-◌, ◌/◌}
use mathlib.Core.Path.{sym, ◌∙◌}
use native.Mathlib.Omega.{arith}
use Rattle.lines.proofs.gates.Runs.{first-refused, both_say}
use Rattle.laws.proofs.Pairs.{passed-on}
use Rattle.lines.proofs.gates.read_gates.Goals as goal

pub returns-in_err-next : goal.returns-in_err-next
returns-in_err-next c =
    let a = c.args in
    rw (passed-on _ c.from_residual.ensures.1 ∙ sym c.in_err-next.was)
    (first-refused a.file.now (a.n / 2) (a.n - a.n / 2) a.n a.first (a.first + a.n / 2) a.at (omega arith) (omega arith) a.table.now
    _ _ _ c.in_err-next.was c.read_run.ensures)

pub returns : goal.returns
returns c =
    let a = c.args in
    both_say a.file.now (a.n / 2) (a.n - a.n / 2) a.n a.first (a.first + a.n / 2) a.at (omega arith) (omega arith) a.table.now
    c.requires.n_in_bounds _ _ _ c.in_ok-next.was c.read_run.ensures _ _ c.read_run-2.ensures
