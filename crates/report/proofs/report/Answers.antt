-- The needle report: for each output, then for each latch, how many of `number` steps from the resets have it at 0, at 1, at x, and how many differ
-- from the step before. The answers are given by `refused-some`, `runs` and `tables-good`.
use Prim.Native.Nat.{ℕ, ◌+◌, ◌-◌, ◌*◌}
use mathlib.Core.Path.{◌≡◌, refl, sym, ap, ◌∙◌}
use mathlib.Core.List.{List, [], ◌++◌}
use lib.ListN.{length, replicate}
use Rattle.std.specs.Prelude.{Ok, Err, Option, Some, None}
use Rattle.plan.specs.declared.Counts.{Counts}
use Rattle.plan.specs.declared.Refusal.{Refusal}
use Rattle.plan.specs.Refusals.{first_of}
use Rattle.plan.specs.Circuit.{seven, cleared}
use Rattle.plan.specs.Step.{first_state, run, vectors_of}
use Rattle.plan.specs.Given.{given_circuit}
use Rattle.plan.specs.Outcome.{checked_by}
use Rattle.judge.proofs.Sound.{good_none, refused-some}
use Rattle.step.specs.sweep.Running.{Runs}
use Rattle.step.proofs.Checks.{runs, room}
use Rattle.plan.specs.Report.{ReportEntry, ReportExit, report_stages, reported_by, report}
use Rattle.report.specs.Tallying.{tally}
use Rattle.report.proofs.Checks.{tables-good, six-long, steps-few, list-whole}
use Rattle.report.proofs.Filling.{blank-tally, filled-report}
use Rattle.laws.proofs.Pairs.{passed-on}
use Rattle.report.proofs.report.Goals as goal

-- a refusal leaves table 6 zero, and scratch
refused-report : (e : ReportEntry) (r : Refusal) → first_of (report_stages e) ≡ Some r
    → (t : List ℕ) → t ≡ cleared e.circuit.scratch → (six : List ℕ) → six ≡ cleared e.six
    → ◌≡◌ {A = ReportExit} (record { answer = Err r; scratch = t; six = six }) (report e)
refused-report e r q t blank six clean =
    (λ i. record { answer = Err r; scratch = blank i; six = clean i }) ∙ sym (ap (λ (o : Option Refusal). reported_by o e) q)

pub fill-requires : goal.fill-requires
fill-requires c =
    let entry : ReportEntry =
    let a = c.args in
    record {
      circuit = record {
        counts = a.n;
        tables = seven a.inputs.now a.latches.now a.outputs.now a.gates.now a.resets.now a.bads.now a.constraints.now;
        scratch = a.scratch.now;
      };
      number = a.number;
      bytes = a.bytes.now;
      six = a.six.now;
    } in
    let told : c.judge.result ≡ checked_by (first_of (report_stages (entry))) =
    c.judge.ensures.by_index c.args.six.now c.blank.auto.six in
    let blank : c.blank.new.six ≡ cleared c.args.six.now =
    c.blank.ensures in
    let found : first_of (report_stages (entry)) ≡ None =
    good_none _ (sym c.in_ok-judge.was ∙ told) in
    let holds : let g = (entry).circuit in Runs g.counts g.tables =
    let e = entry in runs e.circuit None (tables-good e (found)) refl in
    let rest : List ℕ =
    let n = c.args.n in replicate (length c.args.six.now - 4 * (n.O + n.L)) 0 in
    let held : c.blank.new.six ≡ tally c.args.n [] ++ rest =
    blank ∙ blank-tally c.args.n c.args.six.now (six-long (entry) (found)) in
    let e = entry in
    let t = e.circuit.tables in
    let r = holds in
    record {
      inputs = t.inputs;
      bads = t.bads;
      constraints = t.constraints;
      runs = record { fits = r.fits; counts = r.counts; formed = r.formed; order = r.order };
      scratch-long = (room e.circuit None (tables-good e (found)) refl c.judge.new.scratch
          c.judge.auto.scratch).scratch-long;
      whole = list-whole e (found);
      few = steps-few e (found);
      rest = rest;
      held = held;
    }

pub returns-in_err-judge : goal.returns-in_err-judge
returns-in_err-judge c =
    let entry : ReportEntry =
    let a = c.args in
    record {
      circuit = record {
        counts = a.n;
        tables = seven a.inputs.now a.latches.now a.outputs.now a.gates.now a.resets.now a.bads.now a.constraints.now;
        scratch = a.scratch.now;
      };
      number = a.number;
      bytes = a.bytes.now;
      six = a.six.now;
    } in
    let told : c.judge.result ≡ checked_by (first_of (report_stages (entry))) =
    c.judge.ensures.by_index c.args.six.now c.blank.auto.six in
    let blank : c.blank.new.six ≡ cleared c.args.six.now =
    c.blank.ensures in
    let e = entry in
    rw (passed-on _ c.from_residual.ensures.1)
    (refused-report e _ (refused-some _ _ (sym c.in_err-judge.was ∙ told)) _ c.judge.ensures.scratch_after _ blank)

pub returns : goal.returns
returns c =
    let entry : ReportEntry =
    let a = c.args in
    record {
      circuit = record {
        counts = a.n;
        tables = seven a.inputs.now a.latches.now a.outputs.now a.gates.now a.resets.now a.bads.now a.constraints.now;
        scratch = a.scratch.now;
      };
      number = a.number;
      bytes = a.bytes.now;
      six = a.six.now;
    } in
    let told : c.judge.result ≡ checked_by (first_of (report_stages (entry))) =
    c.judge.ensures.by_index c.args.six.now c.blank.auto.six in
    let blank : c.blank.new.six ≡ cleared c.args.six.now =
    c.blank.ensures in
    let found : first_of (report_stages (entry)) ≡ None =
    good_none _ (sym c.in_ok-judge.was ∙ told) in
    let holds : let g = (entry).circuit in Runs g.counts g.tables =
    let e = entry in runs e.circuit None (tables-good e (found)) refl in
    let rest : List ℕ =
    let n = c.args.n in replicate (length c.args.six.now - 4 * (n.O + n.L)) 0 in
    let held : c.blank.new.six ≡ tally c.args.n [] ++ rest =
    blank ∙ blank-tally c.args.n c.args.six.now (six-long (entry) (found)) in
    let e = entry in
    let n = c.args.n in
    let t = e.circuit.tables in
    let circuit = given_circuit e.circuit in
    let r = holds in
    let scratch = c.clear.ensures
    ∙ ap (λ (k : ℕ). replicate k 0) (c.fill.auto.scratch
    ∙ c.judge.auto.scratch) in
    let six =
    c.fill.ensures t.inputs t.bads t.constraints (rest) r (held)
    ∙ filled-report n circuit (run circuit (first_state circuit) (vectors_of circuit e.number e.bytes)) (rest) (ap (λ (m : Counts). m.O) r.counts)
    (ap (λ (m : Counts). m.L) r.counts) e.six in
    ◌∙◌ {A = ReportExit} (λ i. record { answer = Ok tt; scratch = scratch i; six = six i }) (sym (ap (λ (o : Option Refusal). reported_by o e) (found)))
