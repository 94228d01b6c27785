-- The given tables are checked; the converted circuit is written into tables that are zero throughout.
use Prim.Native.Nat.{ℕ}
use mathlib.Core.Path.{◌≡◌, sym, ap, ◌∙◌}
use mathlib.Core.Bool.{false}
use Rattle.std.specs.Prelude.{Ok}
use native.Mathlib.Omega.{arith}
use lib.ListN.{replicate}
use Rattle.plan.specs.Refusals.{first_of}
use Rattle.plan.specs.Circuit.{Tables, seven, all_cleared}
use Rattle.plan.specs.Given.{given_circuit, lent_with}
use Rattle.plan.specs.Convert.{convert}
use Rattle.plan.specs.Outcome.{MakeEntry, checked_by}
use Rattle.laws.proofs.Pairs.{passed-on}
use Rattle.judge.specs.Judged.{all_stages}
use Rattle.convert.specs.Ready.{Ready}
use Rattle.convert.proofs.Answers.{sizes-cleared, all_hold, refused, ready, first-asks, last-asks, few, accepted}
use Rattle.convert.proofs.convert.Goals as goal

pub fill-requires : goal.fill-requires
fill-requires c =
    let entry : MakeEntry =
    let a = c.args in
    record {
      circuit = record {
        counts = a.n;
        tables = seven a.inputs.now a.latches.now a.outputs.now a.gates.now a.resets.now a.bads.now a.constraints.now;
        scratch = a.scratch.now;
      };
      written = seven a.to_inputs.now a.to_latches.now a.to_outputs.now a.to_gates.now a.to_resets.now a.to_bads.now
          a.to_constraints.now;
    } in
    let wiped : Tables =
    seven c.clear_all.new.inputs c.clear_all.new.latches c.clear_all.new.outputs c.clear_all.new.gates c.clear_all.new.resets c.clear_all.new.bads c.clear_all.new.constraints in
    let all-wiped : wiped ≡ all_cleared (entry).written =
    c.clear_all.ensures in
    let checked : let g = (entry).circuit in c.number.result ≡ checked_by (first_of (all_stages false g (lent_with g (entry).written))) =
    c.number.ensures.fact (entry).written (c.lengths-to.ensures ∙ sizes-cleared (entry).written (wiped) (all-wiped)) in
    let passed : let g = (entry).circuit in Ok tt ≡ checked_by (first_of (all_stages false g (lent_with g (entry).written))) =
    sym c.in_ok-number.was ∙ checked in
    first-asks (entry) (passed) _ c.number.auto.scratch (c.number.ensures.all_numbered c.in_ok-number.was) (wiped) (all-wiped)

pub fill_last-requires : goal.fill_last-requires
fill_last-requires c =
    let entry : MakeEntry =
    let a = c.args in
    record {
      circuit = record {
        counts = a.n;
        tables = seven a.inputs.now a.latches.now a.outputs.now a.gates.now a.resets.now a.bads.now a.constraints.now;
        scratch = a.scratch.now;
      };
      written = seven a.to_inputs.now a.to_latches.now a.to_outputs.now a.to_gates.now a.to_resets.now a.to_bads.now
          a.to_constraints.now;
    } in
    let wiped : Tables =
    seven c.clear_all.new.inputs c.clear_all.new.latches c.clear_all.new.outputs c.clear_all.new.gates c.clear_all.new.resets c.clear_all.new.bads c.clear_all.new.constraints in
    let all-wiped : wiped ≡ all_cleared (entry).written =
    c.clear_all.ensures in
    let checked : let g = (entry).circuit in c.number.result ≡ checked_by (first_of (all_stages false g (lent_with g (entry).written))) =
    c.number.ensures.fact (entry).written (c.lengths-to.ensures ∙ sizes-cleared (entry).written (wiped) (all-wiped)) in
    let passed : let g = (entry).circuit in Ok tt ≡ checked_by (first_of (all_stages false g (lent_with g (entry).written))) =
    sym c.in_ok-number.was ∙ checked in
    last-asks (entry) (passed) _ c.number.auto.scratch (c.number.ensures.all_numbered c.in_ok-number.was) (wiped) (all-wiped)

pub overflow_add-m : goal.overflow_add-m
overflow_add-m c =
    let entry : MakeEntry =
    let a = c.args in
    record {
      circuit = record {
        counts = a.n;
        tables = seven a.inputs.now a.latches.now a.outputs.now a.gates.now a.resets.now a.bads.now a.constraints.now;
        scratch = a.scratch.now;
      };
      written = seven a.to_inputs.now a.to_latches.now a.to_outputs.now a.to_gates.now a.to_resets.now a.to_bads.now
          a.to_constraints.now;
    } in
    let wiped : Tables =
    seven c.clear_all.new.inputs c.clear_all.new.latches c.clear_all.new.outputs c.clear_all.new.gates c.clear_all.new.resets c.clear_all.new.bads c.clear_all.new.constraints in
    let all-wiped : wiped ≡ all_cleared (entry).written =
    c.clear_all.ensures in
    let checked : let g = (entry).circuit in c.number.result ≡ checked_by (first_of (all_stages false g (lent_with g (entry).written))) =
    c.number.ensures.fact (entry).written (c.lengths-to.ensures ∙ sizes-cleared (entry).written (wiped) (all-wiped)) in
    let passed : let g = (entry).circuit in Ok tt ≡ checked_by (first_of (all_stages false g (lent_with g (entry).written))) =
    sym c.in_ok-number.was ∙ checked in
    record { fits = omega (arith, few (entry) (passed)) }

pub overflow_add-m-2 : goal.overflow_add-m-2
overflow_add-m-2 c =
    let entry : MakeEntry =
    let a = c.args in
    record {
      circuit = record {
        counts = a.n;
        tables = seven a.inputs.now a.latches.now a.outputs.now a.gates.now a.resets.now a.bads.now a.constraints.now;
        scratch = a.scratch.now;
      };
      written = seven a.to_inputs.now a.to_latches.now a.to_outputs.now a.to_gates.now a.to_resets.now a.to_bads.now
          a.to_constraints.now;
    } in
    let wiped : Tables =
    seven c.clear_all.new.inputs c.clear_all.new.latches c.clear_all.new.outputs c.clear_all.new.gates c.clear_all.new.resets c.clear_all.new.bads c.clear_all.new.constraints in
    let all-wiped : wiped ≡ all_cleared (entry).written =
    c.clear_all.ensures in
    let checked : let g = (entry).circuit in c.number.result ≡ checked_by (first_of (all_stages false g (lent_with g (entry).written))) =
    c.number.ensures.fact (entry).written (c.lengths-to.ensures ∙ sizes-cleared (entry).written (wiped) (all-wiped)) in
    let passed : let g = (entry).circuit in Ok tt ≡ checked_by (first_of (all_stages false g (lent_with g (entry).written))) =
    sym c.in_ok-number.was ∙ checked in
    record { fits = omega (arith, few (entry) (passed)) }

pub returns-in_err-number : goal.returns-in_err-number
returns-in_err-number c =
    let entry : MakeEntry =
    let a = c.args in
    record {
      circuit = record {
        counts = a.n;
        tables = seven a.inputs.now a.latches.now a.outputs.now a.gates.now a.resets.now a.bads.now a.constraints.now;
        scratch = a.scratch.now;
      };
      written = seven a.to_inputs.now a.to_latches.now a.to_outputs.now a.to_gates.now a.to_resets.now a.to_bads.now
          a.to_constraints.now;
    } in
    let wiped : Tables =
    seven c.clear_all.new.inputs c.clear_all.new.latches c.clear_all.new.outputs c.clear_all.new.gates c.clear_all.new.resets c.clear_all.new.bads c.clear_all.new.constraints in
    let all-wiped : wiped ≡ all_cleared (entry).written =
    c.clear_all.ensures in
    let checked : let g = (entry).circuit in c.number.result ≡ checked_by (first_of (all_stages false g (lent_with g (entry).written))) =
    c.number.ensures.fact (entry).written (c.lengths-to.ensures ∙ sizes-cleared (entry).written (wiped) (all-wiped)) in
    rw (passed-on _ c.from_residual.ensures.1)
    (refused (entry) _ (wiped) _ (all-wiped) (c.number.ensures.scratch_after _ c.in_err-number.was)
    (sym c.in_err-number.was ∙ checked))

pub returns : goal.returns
returns c =
    let entry : MakeEntry =
    let a = c.args in
    record {
      circuit = record {
        counts = a.n;
        tables = seven a.inputs.now a.latches.now a.outputs.now a.gates.now a.resets.now a.bads.now a.constraints.now;
        scratch = a.scratch.now;
      };
      written = seven a.to_inputs.now a.to_latches.now a.to_outputs.now a.to_gates.now a.to_resets.now a.to_bads.now
          a.to_constraints.now;
    } in
    let wiped : Tables =
    seven c.clear_all.new.inputs c.clear_all.new.latches c.clear_all.new.outputs c.clear_all.new.gates c.clear_all.new.resets c.clear_all.new.bads c.clear_all.new.constraints in
    let all-wiped : wiped ≡ all_cleared (entry).written =
    c.clear_all.ensures in
    let checked : let g = (entry).circuit in c.number.result ≡ checked_by (first_of (all_stages false g (lent_with g (entry).written))) =
    c.number.ensures.fact (entry).written (c.lengths-to.ensures ∙ sizes-cleared (entry).written (wiped) (all-wiped)) in
    let passed : let g = (entry).circuit in Ok tt ≡ checked_by (first_of (all_stages false g (lent_with g (entry).written))) =
    sym c.in_ok-number.was ∙ checked in
    let numbered : let g = (entry).circuit in Ready g.counts g.tables c.number.new.scratch =
    ready (entry) (passed) c.number.new.scratch c.number.auto.scratch
    (c.number.ensures.all_numbered c.in_ok-number.was) in
    let t = (entry).circuit.tables in
    accepted (entry) (passed) (wiped) _ _ (all-wiped)
    (all_hold (convert (given_circuit (entry).circuit)) (wiped) _ (c.fill.ensures t (numbered)) (c.fill_last.ensures t (numbered)))
    (c.clear.ensures ∙ ap (λ (n : ℕ). replicate n 0) c.number.auto.scratch)
