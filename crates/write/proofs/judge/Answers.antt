-- The answer of the tables, then that of the tail.
use Prim.Native.Nat.{ℕ}
use mathlib.Core.Path.{sym, ap, ◌∙◌}
use lib.ListN.{replicate}
use Rattle.plan.specs.Given.{tail_stage}
use Rattle.plan.specs.Outcome.{checked_by}
use Rattle.write.specs.Judged.{given_in, table_stages}
use Rattle.write.proofs.Judging.{refused-before, good-before, good-tables, marks-hold, marks-blank}
use Rattle.laws.proofs.Pairs.{passed-on}
use Rattle.write.proofs.judge.Goals as goal

pub check-answer-requires : goal.check-answer-requires
check-answer-requires c =
    let a = c.args in
    let g = given_in a.n a.inputs.now a.latches.now a.outputs.now a.gates.now a.resets.now a.bads.now a.constraints.now
    a.scratch.now in
    let says = c.check_tables.ensures.value in
    let blank = c.check_tables.ensures.scratch_after in
    let good = good-tables a.ordered g says c.in_ok-check_tables.was in
    record { holds = marks-hold a.ordered g good _ blank; blank = marks-blank a.ordered g good _ blank }

pub returns-in_err-check_tables : goal.returns-in_err-check_tables
returns-in_err-check_tables c =
    let a = c.args in
    let g = given_in a.n a.inputs.now a.latches.now a.outputs.now a.gates.now a.resets.now a.bads.now a.constraints.now
    a.scratch.now in
    let says = c.check_tables.ensures.value in
    let blank = c.check_tables.ensures.scratch_after in
    record { value = passed-on _ c.from_residual.ensures.1 ∙ sym (ap checked_by (refused-before (table_stages a.ordered g) (tail_stage g a.tail.now) says _ c.in_err-check_tables.was)); scratch_after = blank }

pub returns : goal.returns
returns c =
    let a = c.args in
    let g = given_in a.n a.inputs.now a.latches.now a.outputs.now a.gates.now a.resets.now a.bads.now a.constraints.now
    a.scratch.now in
    let says = c.check_tables.ensures.value in
    let blank = c.check_tables.ensures.scratch_after in
    record {
      value = c.check-answer.ensures
          ∙ sym (ap checked_by (good-before (table_stages a.ordered g) (tail_stage g a.tail.now) says c.in_ok-check_tables.was));
      scratch_after = c.clear.ensures ∙ ap (λ (k : ℕ). replicate k 0)
          (c.check-answer.auto.marks ∙ c.check_tables.auto.scratch);
    }
