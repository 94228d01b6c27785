-- Tables in binary order; 5; 6; then 7, 8 and 15.
use mathlib.Core.Path.{◌≡◌, sym, ap, ◌∙◌}
use mathlib.Core.Bool.{not, false≢true}
use Rattle.std.specs.Prelude.{Result, None}
use Rattle.plan.specs.declared.Refusal.{Refusal}
use Rattle.plan.specs.Circuit.{Tables, seven, circuit_of}
use Rattle.plan.specs.Binary.{binary_order}
use Rattle.plan.specs.Given.{outside_in, twice_in}
use Rattle.laws.proofs.Reading.Common.{and_left, and_right}
use Rattle.judge.proofs.at_end.Closing.{not_good}
use Rattle.judge.specs.Judged.{unordered}
use Rattle.judge.proofs.Judging.{long-tables, at_five, in_order, at-six, past-six, ranged, judged}
use Rattle.judge.proofs.Judging.{cleared-wide, cleared-zero, not-in-order, unordered-good}
use Rattle.judge.proofs.judge_circuit.Goals as goal

pub found_in_order-in_order-requires : goal.found_in_order-in_order-requires
found_in_order-in_order-requires c = long-tables c.requires.fits

pub out_of_range-requires : goal.out_of_range-requires
out_of_range-requires c =
    let tables : Tables =
    let a = c.args in
    seven a.inputs.now a.latches.now a.outputs.now a.gates.now a.resets.now a.bads.now a.constraints.now in
    let t = tables in
    record {
      fits = c.requires.fits;
      constraints_value = λ e. and_right (not c.args.numbers) (binary_order (circuit_of c.args.n t))
          (sym (c.found_in_order-in_order.ensures t.outputs t.resets t.bads t.constraints) ∙ e);
    }

pub returns-in-Some : goal.returns-in-Some
returns-in-Some c =
    let tables : Tables =
    let a = c.args in
    seven a.inputs.now a.latches.now a.outputs.now a.gates.now a.resets.now a.bads.now a.constraints.now in
    record { value = at_five c.args.ordered c.args.n (tables) _ (sym c.out_of_range.ensures ∙ c.in-Some.is); all_numbered = λ asked good. not_good _ good }

pub returns-then-in_order : goal.returns-then-in_order
returns-then-in_order c =
    let tables : Tables =
    let a = c.args in
    seven a.inputs.now a.latches.now a.outputs.now a.gates.now a.resets.now a.bads.now a.constraints.now in
    let five : outside_in (circuit_of c.args.n (tables)) ≡ None =
    sym c.out_of_range.ensures ∙ c.in_default.is in
    let t = tables in
    let b = binary_order (circuit_of c.args.n t) in
    let found = sym (c.found_in_order-in_order.ensures t.outputs t.resets t.bads t.constraints) ∙ c.if-in_order.true in
    record { value = in_order c.args.ordered c.args.n t (five) (and_right (not c.args.numbers) b found); all_numbered = λ asked good. absurd (false≢true (sym (ap not asked) ∙ and_left (not c.args.numbers) b found)) }

pub defined_twice-requires : goal.defined_twice-requires
defined_twice-requires c =
    let tables : Tables =
    let a = c.args in
    seven a.inputs.now a.latches.now a.outputs.now a.gates.now a.resets.now a.bads.now a.constraints.now in
    let five : outside_in (circuit_of c.args.n (tables)) ≡ None =
    sym c.out_of_range.ensures ∙ c.in_default.is in
    let blank = c.clear.ensures in
    ranged c.args.ordered c.args.n (tables) (five) _ c.requires.fits (cleared-wide c.args.n c.args.scratch.now _ blank c.requires.scratch)
    (cleared-zero c.args.scratch.now _ blank)

pub returns-in-Some-defined_twice : goal.returns-in-Some-defined_twice
returns-in-Some-defined_twice c =
    let tables : Tables =
    let a = c.args in
    seven a.inputs.now a.latches.now a.outputs.now a.gates.now a.resets.now a.bads.now a.constraints.now in
    let five : outside_in (circuit_of c.args.n (tables)) ≡ None =
    sym c.out_of_range.ensures ∙ c.in_default.is in
    let t = tables in
    let told = c.defined_twice.ensures.told t.outputs t.resets t.bads t.constraints in
    record { value = at-six c.args.ordered c.args.n t (five) _ (sym told ∙ c.in-Some-defined_twice.is); all_numbered = λ asked good. not_good _ good }

pub check-requires : goal.check-requires
check-requires c =
    let tables : Tables =
    let a = c.args in
    seven a.inputs.now a.latches.now a.outputs.now a.gates.now a.resets.now a.bads.now a.constraints.now in
    let five : outside_in (circuit_of c.args.n (tables)) ≡ None =
    sym c.out_of_range.ensures ∙ c.in_default.is in
    let six : twice_in (circuit_of c.args.n (tables)) ≡ None =
    let t = tables in
    (sym (c.defined_twice.ensures.told t.outputs t.resets t.bads t.constraints) ∙ c.in_default-defined_twice.is) in
    let t = tables in
    judged c.args.ordered c.args.n t (five) c.args.scratch.now c.requires.fits c.requires.scratch (six) _
    (c.defined_twice.auto.marks ∙ c.clear.auto.table)
    (c.defined_twice.ensures.marked t.outputs t.resets t.bads t.constraints (six))

pub returns : goal.returns
returns c =
    let tables : Tables =
    let a = c.args in
    seven a.inputs.now a.latches.now a.outputs.now a.gates.now a.resets.now a.bads.now a.constraints.now in
    let five : outside_in (circuit_of c.args.n (tables)) ≡ None =
    sym c.out_of_range.ensures ∙ c.in_default.is in
    let six : twice_in (circuit_of c.args.n (tables)) ≡ None =
    let t = tables in
    (sym (c.defined_twice.ensures.told t.outputs t.resets t.bads t.constraints) ∙ c.in_default-defined_twice.is) in
    let a = c.args in
    let t = tables in
    let free = c.requires.ordered_value in
    let found = sym (c.found_in_order-in_order.ensures t.outputs t.resets t.bads t.constraints)
    ∙ c.if-in_order.false in
    let apart = not-in-order a.numbers a.ordered (binary_order (circuit_of a.n t)) free found in
    record {
      value = c.unordered.ensures
          ∙ (ap (λ (answer : Result Unit Refusal). unordered answer a.ordered) (c.check.ensures.by_index t.resets)
          ∙ past-six a.ordered a.n t (five) (six) apart);
      all_numbered = λ asked good. c.check.ensures.all_numbered asked (unordered-good _ a.ordered (free asked) (sym c.unordered.ensures ∙ good));
    }
