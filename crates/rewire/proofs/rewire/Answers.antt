-- The gate gets the two right sides, in either order, and the values become those of a fresh step of the edited circuit on the same inputs and state.
-- The answers are given by `refused-sides`, `refused-value` and `refused-tables`.
use Prim.Native.Nat.{◌+◌, ◌*◌, min, max}
use mathlib.Core.Path.{◌≡◌, ap₂, ◌∙◌}
use mathlib.Core.List.{[], ◌∷◌}
use native.Mathlib.Omega.{arith}
use lib.ListN.{length}
use Rattle.plan.specs.declared.Lit.{Lit}
use Rattle.plan.specs.Literals.{word_of}
use Rattle.plan.specs.Refusals.{first_of}
use Rattle.plan.specs.Circuit.{seven}
use Rattle.plan.specs.Outcome.{put, CheckExit, checked_by, check_in_order}
use Rattle.judge.specs.Judged.{given_at}
use Rattle.plan.specs.Rewire.{edit_stages, RewireEntry}
use Rattle.rewire.specs.Shown.{Counted}
use Rattle.rewire.proofs.Answers.{refused-tables, counted, refused-sides, ordered, refused-value, row_fits, gate-there, ordered-again, done}
use Rattle.laws.proofs.Pairs.{passed-on}
use Rattle.rewire.proofs.rewire.Goals as goal

pub judge_sides-requires : goal.judge_sides-requires
judge_sides-requires c =
    let entry : RewireEntry =
    let a = c.args in
    record {
      circuit = given_at a.n (seven a.inputs.now a.latches.now a.outputs.now a.gates.now a.resets.now
          a.bads.now a.constraints.now) a.scratch.now;
      gate = a.gate;
      rhs0 = a.rhs0;
      rhs1 = a.rhs1;
      values = a.values.now;
    } in
    let said : ◌≡◌ {A = CheckExit} (record { answer = c.check_in_order.result; scratch = c.check_in_order.new.scratch }) (check_in_order (entry).circuit) =
    c.check_in_order.ensures in
    let ready : Counted c.args.n =
    counted (entry) _ _ (said) c.in_ok-check_in_order.was in
    ready

pub returns-in_err-judge_sides : goal.returns-in_err-judge_sides
returns-in_err-judge_sides c =
    let entry : RewireEntry =
    let a = c.args in
    record {
      circuit = given_at a.n (seven a.inputs.now a.latches.now a.outputs.now a.gates.now a.resets.now
          a.bads.now a.constraints.now) a.scratch.now;
      gate = a.gate;
      rhs0 = a.rhs0;
      rhs1 = a.rhs1;
      values = a.values.now;
    } in
    let said : ◌≡◌ {A = CheckExit} (record { answer = c.check_in_order.result; scratch = c.check_in_order.new.scratch }) (check_in_order (entry).circuit) =
    c.check_in_order.ensures in
    let sides-told : let a = c.args in c.judge_sides.result ≡ checked_by (first_of (edit_stages a.n a.gate a.rhs0 a.rhs1 (length a.values.now))) =
    let a = c.args in
    c.judge_sides.ensures
    ∙ ap₂ (λ (x y : Lit). checked_by (first_of (edit_stages a.n a.gate (word_of x) (word_of y) (length a.values.now))))
    c.at-a.ensures c.at-b.ensures in
    rw (passed-on _ c.from_residual-in_err-judge_sides.ensures.1) (refused-sides (entry) _ _ (said) c.in_ok-check_in_order.was _ (sides-told) _ c.in_err-judge_sides.was)

pub overflow_add-base : goal.overflow_add-base
overflow_add-base c =
    let entry : RewireEntry =
    let a = c.args in
    record {
      circuit = given_at a.n (seven a.inputs.now a.latches.now a.outputs.now a.gates.now a.resets.now
          a.bads.now a.constraints.now) a.scratch.now;
      gate = a.gate;
      rhs0 = a.rhs0;
      rhs1 = a.rhs1;
      values = a.values.now;
    } in
    let said : ◌≡◌ {A = CheckExit} (record { answer = c.check_in_order.result; scratch = c.check_in_order.new.scratch }) (check_in_order (entry).circuit) =
    c.check_in_order.ensures in
    let ready : Counted c.args.n =
    counted (entry) _ _ (said) c.in_ok-check_in_order.was in
    let p = ready in omega (arith, p.sum, p.most-M)

pub overflow_add-base-2 : goal.overflow_add-base-2
overflow_add-base-2 c =
    let entry : RewireEntry =
    let a = c.args in
    record {
      circuit = given_at a.n (seven a.inputs.now a.latches.now a.outputs.now a.gates.now a.resets.now
          a.bads.now a.constraints.now) a.scratch.now;
      gate = a.gate;
      rhs0 = a.rhs0;
      rhs1 = a.rhs1;
      values = a.values.now;
    } in
    let said : ◌≡◌ {A = CheckExit} (record { answer = c.check_in_order.result; scratch = c.check_in_order.new.scratch }) (check_in_order (entry).circuit) =
    c.check_in_order.ensures in
    let ready : Counted c.args.n =
    counted (entry) _ _ (said) c.in_ok-check_in_order.was in
    let p = ready in omega (arith, p.sum, p.most-M)

pub wrong_value-requires : goal.wrong_value-requires
wrong_value-requires c =
    let entry : RewireEntry =
    let a = c.args in
    record {
      circuit = given_at a.n (seven a.inputs.now a.latches.now a.outputs.now a.gates.now a.resets.now
          a.bads.now a.constraints.now) a.scratch.now;
      gate = a.gate;
      rhs0 = a.rhs0;
      rhs1 = a.rhs1;
      values = a.values.now;
    } in
    let said : ◌≡◌ {A = CheckExit} (record { answer = c.check_in_order.result; scratch = c.check_in_order.new.scratch }) (check_in_order (entry).circuit) =
    c.check_in_order.ensures in
    let sides-told : let a = c.args in c.judge_sides.result ≡ checked_by (first_of (edit_stages a.n a.gate a.rhs0 a.rhs1 (length a.values.now))) =
    let a = c.args in
    c.judge_sides.ensures
    ∙ ap₂ (λ (x y : Lit). checked_by (first_of (edit_stages a.n a.gate (word_of x) (word_of y) (length a.values.now))))
    c.at-a.ensures c.at-b.ensures in
    record { ordered = ordered (entry) _ _ (said) c.in_ok-check_in_order.was _ (sides-told) c.in_ok-judge_sides.was; le_base = omega arith }

pub returns-in_err-wrong_value : goal.returns-in_err-wrong_value
returns-in_err-wrong_value c =
    let entry : RewireEntry =
    let a = c.args in
    record {
      circuit = given_at a.n (seven a.inputs.now a.latches.now a.outputs.now a.gates.now a.resets.now
          a.bads.now a.constraints.now) a.scratch.now;
      gate = a.gate;
      rhs0 = a.rhs0;
      rhs1 = a.rhs1;
      values = a.values.now;
    } in
    let said : ◌≡◌ {A = CheckExit} (record { answer = c.check_in_order.result; scratch = c.check_in_order.new.scratch }) (check_in_order (entry).circuit) =
    c.check_in_order.ensures in
    let sides-told : let a = c.args in c.judge_sides.result ≡ checked_by (first_of (edit_stages a.n a.gate a.rhs0 a.rhs1 (length a.values.now))) =
    let a = c.args in
    c.judge_sides.ensures
    ∙ ap₂ (λ (x y : Lit). checked_by (first_of (edit_stages a.n a.gate (word_of x) (word_of y) (length a.values.now))))
    c.at-a.ensures c.at-b.ensures in
    rw (passed-on _ c.from_residual-in_err-wrong_value.ensures.1) (
    refused-value (entry) _ _ (said) c.in_ok-check_in_order.was _ (sides-told) c.in_ok-judge_sides.was _ c.wrong_value.ensures _
    c.in_err-wrong_value.was)

pub set_sides-requires : goal.set_sides-requires
set_sides-requires c =
    let entry : RewireEntry =
    let a = c.args in
    record {
      circuit = given_at a.n (seven a.inputs.now a.latches.now a.outputs.now a.gates.now a.resets.now
          a.bads.now a.constraints.now) a.scratch.now;
      gate = a.gate;
      rhs0 = a.rhs0;
      rhs1 = a.rhs1;
      values = a.values.now;
    } in
    let said : ◌≡◌ {A = CheckExit} (record { answer = c.check_in_order.result; scratch = c.check_in_order.new.scratch }) (check_in_order (entry).circuit) =
    c.check_in_order.ensures in
    let sides-told : let a = c.args in c.judge_sides.result ≡ checked_by (first_of (edit_stages a.n a.gate a.rhs0 a.rhs1 (length a.values.now))) =
    let a = c.args in
    c.judge_sides.ensures
    ∙ ap₂ (λ (x y : Lit). checked_by (first_of (edit_stages a.n a.gate (word_of x) (word_of y) (length a.values.now))))
    c.at-a.ensures c.at-b.ensures in
    row_fits (entry) _ _ (said) c.in_ok-check_in_order.was _ (sides-told) c.in_ok-judge_sides.was _ c.wrong_value.ensures
    c.in_ok-wrong_value.was

pub recompute-requires : goal.recompute-requires
recompute-requires c =
    let entry : RewireEntry =
    let a = c.args in
    record {
      circuit = given_at a.n (seven a.inputs.now a.latches.now a.outputs.now a.gates.now a.resets.now
          a.bads.now a.constraints.now) a.scratch.now;
      gate = a.gate;
      rhs0 = a.rhs0;
      rhs1 = a.rhs1;
      values = a.values.now;
    } in
    let said : ◌≡◌ {A = CheckExit} (record { answer = c.check_in_order.result; scratch = c.check_in_order.new.scratch }) (check_in_order (entry).circuit) =
    c.check_in_order.ensures in
    let sides-told : let a = c.args in c.judge_sides.result ≡ checked_by (first_of (edit_stages a.n a.gate a.rhs0 a.rhs1 (length a.values.now))) =
    let a = c.args in
    c.judge_sides.ensures
    ∙ ap₂ (λ (x y : Lit). checked_by (first_of (edit_stages a.n a.gate (word_of x) (word_of y) (length a.values.now))))
    c.at-a.ensures c.at-b.ensures in
    let stored : let a = c.args in c.set_sides.new.gates ≡ put a.gates.now (3 * a.gate + 1) (max a.rhs0 a.rhs1 ∷ min a.rhs0 a.rhs1 ∷ []) =
    let a = c.args in
    c.set_sides.ensures
    ∙ ap₂ (λ (x y : Lit). put a.gates.now (3 * a.gate + 1) (max (word_of x) (word_of y) ∷ min (word_of x) (word_of y) ∷ []))
    c.at-a.ensures c.at-b.ensures in
    let there = gate-there (entry) _ _ (said) c.in_ok-check_in_order.was _ (sides-told) c.in_ok-judge_sides.was _ c.wrong_value.ensures
    c.in_ok-wrong_value.was in
    record {
      ordered = ordered-again (entry) _ _ (said) c.in_ok-check_in_order.was _ (sides-told) c.in_ok-judge_sides.was _ c.wrong_value.ensures
          c.in_ok-wrong_value.was _ (stored);
      k_le_a = omega arith;
    }

pub returns-in_err-check_in_order : goal.returns-in_err-check_in_order
returns-in_err-check_in_order c =
    let entry : RewireEntry =
    let a = c.args in
    record {
      circuit = given_at a.n (seven a.inputs.now a.latches.now a.outputs.now a.gates.now a.resets.now
          a.bads.now a.constraints.now) a.scratch.now;
      gate = a.gate;
      rhs0 = a.rhs0;
      rhs1 = a.rhs1;
      values = a.values.now;
    } in
    rw (passed-on _ c.from_residual.ensures.1) (refused-tables (entry) _ _ c.check_in_order.ensures _ c.in_err-check_in_order.was)

pub returns : goal.returns
returns c =
    let entry : RewireEntry =
    let a = c.args in
    record {
      circuit = given_at a.n (seven a.inputs.now a.latches.now a.outputs.now a.gates.now a.resets.now
          a.bads.now a.constraints.now) a.scratch.now;
      gate = a.gate;
      rhs0 = a.rhs0;
      rhs1 = a.rhs1;
      values = a.values.now;
    } in
    let said : ◌≡◌ {A = CheckExit} (record { answer = c.check_in_order.result; scratch = c.check_in_order.new.scratch }) (check_in_order (entry).circuit) =
    c.check_in_order.ensures in
    let sides-told : let a = c.args in c.judge_sides.result ≡ checked_by (first_of (edit_stages a.n a.gate a.rhs0 a.rhs1 (length a.values.now))) =
    let a = c.args in
    c.judge_sides.ensures
    ∙ ap₂ (λ (x y : Lit). checked_by (first_of (edit_stages a.n a.gate (word_of x) (word_of y) (length a.values.now))))
    c.at-a.ensures c.at-b.ensures in
    let stored : let a = c.args in c.set_sides.new.gates ≡ put a.gates.now (3 * a.gate + 1) (max a.rhs0 a.rhs1 ∷ min a.rhs0 a.rhs1 ∷ []) =
    let a = c.args in
    c.set_sides.ensures
    ∙ ap₂ (λ (x y : Lit). put a.gates.now (3 * a.gate + 1) (max (word_of x) (word_of y) ∷ min (word_of x) (word_of y) ∷ []))
    c.at-a.ensures c.at-b.ensures in
    done (entry) _ _ (said) c.in_ok-check_in_order.was _ (sides-told) c.in_ok-judge_sides.was _ c.wrong_value.ensures
    c.in_ok-wrong_value.was _ (stored) _ c.recompute.auto.values c.recompute.ensures
