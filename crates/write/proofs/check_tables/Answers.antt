-- The stages with 15, or without.
use mathlib.Core.Path.{sym, ap, ◌∙◌}
use mathlib.Core.Bool.{Bool}
use Rattle.plan.specs.Refusals.{first_of}
use Rattle.plan.specs.Outcome.{CheckExit, checked_by}
use Rattle.write.specs.Judged.{given_in, table_stages}
use Rattle.write.proofs.check_tables.Goals as goal

pub returns-then-ordered : goal.returns-then-ordered
returns-then-ordered c =
    let a = c.args in
    let g = given_in a.n a.inputs.now a.latches.now a.outputs.now a.gates.now a.resets.now a.bads.now a.constraints.now
    a.scratch.now in
    let exit = c.check_in_order.ensures in
    record {
      value = ap (λ (x : CheckExit). x.answer) exit
          ∙ ap (λ (ordered : Bool). checked_by (first_of (table_stages ordered g))) (sym c.if-ordered.true);
      scratch_after = ap (λ (x : CheckExit). x.scratch) exit;
    }

pub returns : goal.returns
returns c =
    let a = c.args in
    let g = given_in a.n a.inputs.now a.latches.now a.outputs.now a.gates.now a.resets.now a.bads.now a.constraints.now
    a.scratch.now in
    let exit = c.check.ensures in
    record {
      value = ap (λ (x : CheckExit). x.answer) exit
          ∙ ap (λ (ordered : Bool). checked_by (first_of (table_stages ordered g))) (sym c.if-ordered.false);
      scratch_after = ap (λ (x : CheckExit). x.scratch) exit;
    }
