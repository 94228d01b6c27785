-- The witness question: whether stepping a list of `number` vectors from the resets gives 1 on some output or bad state at some step, every
-- constraint being 1 there and at all steps before. The answers are given by `refused-list`, `past-check` and `asked-witness`.
use Prim.Native.Nat.{ℕ, ◌*◌}
use mathlib.Core.Path.{◌≡◌, sym, ap, ◌∙◌}
use mathlib.Core.Bool.{true}
use Rattle.std.specs.Prelude.{Ok}
use native.Mathlib.Omega.{arith}
use borrow.Author.Tests.{not-true, not-false}
use lib.ListN.{length, replicate}
use Rattle.plan.specs.declared.Counts.{Counts}
use Rattle.plan.specs.Circuit.{cleared, seven}
use Rattle.plan.specs.Step.{first_state, witnessed}
use Rattle.plan.specs.Given.{given_circuit}
use Rattle.plan.specs.Outcome.{CheckExit, WitnessEntry, check_in_order, list_stage}
use Rattle.laws.proofs.Running.Resets.{first-length}
use Rattle.tables.specs.Held.{Scratch}
use Rattle.step.proofs.codes.Places.{codes_in}
use Rattle.step.specs.sweep.Running.{Runs}
use Rattle.step.proofs.Checks.{refused-by, past-check, runs, room}
use Rattle.witness.specs.three.Listing.{Starts}
use Rattle.witness.proofs.three.Verdicts.{good-list, refused-witness, refused-list, asked-witness}
use Rattle.laws.proofs.Pairs.{passed-on}
use Rattle.witness.proofs.three.witness3.Goals as goal

pub returns-then-not-whole_list : goal.returns-then-not-whole_list
returns-then-not-whole_list c =
    let entry : WitnessEntry =
    let a = c.args in
    record {
      circuit = record {
        counts = a.n;
        tables = seven a.inputs.now a.latches.now a.outputs.now a.gates.now a.resets.now a.bads.now a.constraints.now;
        scratch = a.scratch.now;
      };
      number = a.number;
      bytes = a.bytes.now;
    } in
    let told : c.check_in_order.result ≡ Ok tt =
    c.in_ok-check_in_order.was in
    let says : c.check_in_order.result ≡ (check_in_order (entry).circuit).answer =
    ap (λ (x : CheckExit). x.answer) c.check_in_order.ensures in
    let blank : c.check_in_order.new.scratch ≡ cleared c.args.scratch.now =
    ap (λ (x : CheckExit). x.scratch) c.check_in_order.ensures in
    let e = entry in
    refused-list e _ (blank) (past-check e.circuit (list_stage e) (says) (told))
    (sym c.whole_list.ensures ∙ not-true _ c.if-not-whole_list.true-raw)

pub start_values-requires : goal.start_values-requires
start_values-requires c =
    let entry : WitnessEntry =
    let a = c.args in
    record {
      circuit = record {
        counts = a.n;
        tables = seven a.inputs.now a.latches.now a.outputs.now a.gates.now a.resets.now a.bads.now a.constraints.now;
        scratch = a.scratch.now;
      };
      number = a.number;
      bytes = a.bytes.now;
    } in
    let told : c.check_in_order.result ≡ Ok tt =
    c.in_ok-check_in_order.was in
    let says : c.check_in_order.result ≡ (check_in_order (entry).circuit).answer =
    ap (λ (x : CheckExit). x.answer) c.check_in_order.ensures in
    let same : length c.check_in_order.new.scratch ≡ length c.args.scratch.now =
    c.check_in_order.auto.scratch in
    let holds : let g = (entry).circuit in Runs g.counts g.tables =
    let e = entry in runs e.circuit (list_stage e) (says) (told) in
    let long : Scratch c.args.n c.check_in_order.new.scratch =
    let e = entry in
    (room e.circuit (list_stage e) (says) (told) c.check_in_order.new.scratch (same)).scratch-long in
    let f = (holds).fits in
    (f.resets-long, omega (arith, long, f.sum))

pub shows_one-shown-requires : goal.shows_one-shown-requires
shows_one-shown-requires c =
    let entry : WitnessEntry =
    let a = c.args in
    record {
      circuit = record {
        counts = a.n;
        tables = seven a.inputs.now a.latches.now a.outputs.now a.gates.now a.resets.now a.bads.now a.constraints.now;
        scratch = a.scratch.now;
      };
      number = a.number;
      bytes = a.bytes.now;
    } in
    let told : c.check_in_order.result ≡ Ok tt =
    c.in_ok-check_in_order.was in
    let says : c.check_in_order.result ≡ (check_in_order (entry).circuit).answer =
    ap (λ (x : CheckExit). x.answer) c.check_in_order.ensures in
    let same : length c.check_in_order.new.scratch ≡ length c.args.scratch.now =
    c.check_in_order.auto.scratch in
    let whole-told : let e = entry in codes_in e.bytes (e.number * e.circuit.counts.I) ≡ true =
    sym c.whole_list.ensures ∙ not-false _ c.if-not-whole_list.false-raw in
    let holds : let g = (entry).circuit in Runs g.counts g.tables =
    let e = entry in runs e.circuit (list_stage e) (says) (told) in
    let long : Scratch c.args.n c.check_in_order.new.scratch =
    let e = entry in
    (room e.circuit (list_stage e) (says) (told) c.check_in_order.new.scratch (same)).scratch-long in
    let state-long : let g = (entry).circuit in length (first_state (given_circuit g)) ≡ g.counts.L =
    let g = (entry).circuit in
    first-length (given_circuit g) (holds).formed ∙ ap (λ (m : Counts). m.L) (holds).counts in
    let begins : let g = (entry).circuit in let t = g.tables in Starts g.counts t.latches t.outputs t.gates t.bads t.constraints c.start_values.new.t =
    let g = (entry).circuit in
    record {
      inputs = g.tables.inputs;
      resets = g.tables.resets;
      state = first_state (given_circuit g);
      runs = holds;
      scratch-long = omega (arith, long, c.start_values.auto.t);
      state-length = state-long;
      rests = c.start_values.ensures;
    } in
    record { starts = begins; bytes_len = good-list (entry) (whole-told) }

pub returns-in_err-check_in_order : goal.returns-in_err-check_in_order
returns-in_err-check_in_order c =
    let entry : WitnessEntry =
    let a = c.args in
    record {
      circuit = record {
        counts = a.n;
        tables = seven a.inputs.now a.latches.now a.outputs.now a.gates.now a.resets.now a.bads.now a.constraints.now;
        scratch = a.scratch.now;
      };
      number = a.number;
      bytes = a.bytes.now;
    } in
    let e = entry in
    let check = c.check_in_order.ensures in
    rw (passed-on _ c.from_residual.ensures.1) (
    refused-witness e _ (ap (λ (q : CheckExit). q.scratch) check) _
    (refused-by e.circuit (list_stage e) (ap (λ (q : CheckExit). q.answer) check) _ c.in_err-check_in_order.was))

pub returns : goal.returns
returns c =
    let entry : WitnessEntry =
    let a = c.args in
    record {
      circuit = record {
        counts = a.n;
        tables = seven a.inputs.now a.latches.now a.outputs.now a.gates.now a.resets.now a.bads.now a.constraints.now;
        scratch = a.scratch.now;
      };
      number = a.number;
      bytes = a.bytes.now;
    } in
    let told : c.check_in_order.result ≡ Ok tt =
    c.in_ok-check_in_order.was in
    let says : c.check_in_order.result ≡ (check_in_order (entry).circuit).answer =
    ap (λ (x : CheckExit). x.answer) c.check_in_order.ensures in
    let same : length c.check_in_order.new.scratch ≡ length c.args.scratch.now =
    c.check_in_order.auto.scratch in
    let whole-told : let e = entry in codes_in e.bytes (e.number * e.circuit.counts.I) ≡ true =
    sym c.whole_list.ensures ∙ not-false _ c.if-not-whole_list.false-raw in
    let holds : let g = (entry).circuit in Runs g.counts g.tables =
    let e = entry in runs e.circuit (list_stage e) (says) (told) in
    let state-long : let g = (entry).circuit in length (first_state (given_circuit g)) ≡ g.counts.L =
    let g = (entry).circuit in
    first-length (given_circuit g) (holds).formed ∙ ap (λ (m : Counts). m.L) (holds).counts in
    let zero : c.clear.new.table ≡ cleared c.args.scratch.now =
    c.clear.ensures ∙ ap (λ (k : ℕ). replicate k 0) (c.shows_one-shown.auto.scratch ∙ c.start_values.auto.t ∙ same) in
    let shown : let e = entry in c.shows_one-shown.result ≡ witnessed (given_circuit e.circuit) e.number e.bytes =
    let t = (entry).circuit.tables in
    c.shows_one-shown.ensures t.inputs t.resets _ (holds) (state-long) c.start_values.ensures in
    let e = entry in
    asked-witness e _ (zero) (past-check e.circuit (list_stage e) (says) (told)) (whole-told) _ shown
