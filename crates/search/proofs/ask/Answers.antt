use mathlib.Core.Path.{sym, ap, ◌∙◌}
use lib.ListN.{length}
use Rattle.std.specs.Prelude.{None}
use Rattle.laws.proofs.Pairs.{passed-on}
use Rattle.plan.specs.Circuit.{seven}
use Rattle.plan.specs.Outcome.{CheckExit}
use Rattle.plan.specs.Search.{SearchEntry, search_stages}
use Rattle.tables.specs.Held.{Scratch}
use Rattle.step.specs.sweep.Running.{Runs}
use Rattle.step.proofs.Checks.{runs, room}
use Rattle.step.proofs.Beyond.{refused-by, past-check}
use Rattle.search.proofs.Answering.{fitting, asks-refused, asks-early, asks-found}
use Rattle.search.proofs.ask.Goals as goal

pub find-requires : goal.find-requires
find-requires c =
    let e : SearchEntry =
    let a = c.args in
    record {
      circuit = record {
        counts = a.n;
        tables = seven a.inputs.now a.latches.now a.outputs.now a.gates.now a.resets.now a.bads.now a.constraints.now;
        scratch = a.scratch.now;
      };
      split = a.split;
      watch = a.watch;
      allowance = a.allowance;
      met = a.met.now;
      marks = a.marks.now;
      out = a.out.now;
    } in
    let holds : let g = e.circuit in Runs g.counts g.tables =
    runs e.circuit None (ap (λ (x : CheckExit). x.answer) c.check_in_order.ensures) c.in_ok-check_in_order.was in
    let long : Scratch c.args.n c.check_in_order.new.scratch =
    (room e.circuit None (ap (λ (x : CheckExit). x.answer) c.check_in_order.ensures) c.in_ok-check_in_order.was c.check_in_order.new.scratch c.check_in_order.auto.scratch).scratch-long in
    let f = fitting e.circuit.counts e.watch (length e.met) (length e.marks) (sym c.in_ok-fit.was ∙ c.fit.ensures) in
    record {
      inputs = e.circuit.tables.inputs;
      runs = holds;
      scratch-long = long;
      few-latches = f.few-latches;
      few-inputs = f.few-inputs;
      there = f.there;
      met-long = f.met-long;
      marks-long = f.marks-long;
    }

pub returns-in_err-check_in_order : goal.returns-in_err-check_in_order
returns-in_err-check_in_order c =
    let e : SearchEntry =
    let a = c.args in
    record {
      circuit = record {
        counts = a.n;
        tables = seven a.inputs.now a.latches.now a.outputs.now a.gates.now a.resets.now a.bads.now a.constraints.now;
        scratch = a.scratch.now;
      };
      split = a.split;
      watch = a.watch;
      allowance = a.allowance;
      met = a.met.now;
      marks = a.marks.now;
      out = a.out.now;
    } in
    rw (passed-on _ c.from_residual.ensures.1) (asks-refused e _
    (refused-by e.circuit (search_stages e) (ap (λ (q : CheckExit). q.answer) c.check_in_order.ensures) _ c.in_err-check_in_order.was))

pub returns-in_err-fit : goal.returns-in_err-fit
returns-in_err-fit c =
    let e : SearchEntry =
    let a = c.args in
    record {
      circuit = record {
        counts = a.n;
        tables = seven a.inputs.now a.latches.now a.outputs.now a.gates.now a.resets.now a.bads.now a.constraints.now;
        scratch = a.scratch.now;
      };
      split = a.split;
      watch = a.watch;
      allowance = a.allowance;
      met = a.met.now;
      marks = a.marks.now;
      out = a.out.now;
    } in
    rw (passed-on _ c.from_residual-in_err-fit.ensures.1) (asks-early e (past-check e.circuit (search_stages e) (ap (λ (x : CheckExit). x.answer) c.check_in_order.ensures) c.in_ok-check_in_order.was) _ c.fit.ensures _ c.in_err-fit.was)

pub returns : goal.returns
returns c =
    let e : SearchEntry =
    let a = c.args in
    record {
      circuit = record {
        counts = a.n;
        tables = seven a.inputs.now a.latches.now a.outputs.now a.gates.now a.resets.now a.bads.now a.constraints.now;
        scratch = a.scratch.now;
      };
      split = a.split;
      watch = a.watch;
      allowance = a.allowance;
      met = a.met.now;
      marks = a.marks.now;
      out = a.out.now;
    } in
    let holds : let g = e.circuit in Runs g.counts g.tables =
    runs e.circuit None (ap (λ (x : CheckExit). x.answer) c.check_in_order.ensures) c.in_ok-check_in_order.was in
    asks-found e (past-check e.circuit (search_stages e) (ap (λ (x : CheckExit). x.answer) c.check_in_order.ensures) c.in_ok-check_in_order.was) _ c.fit.ensures c.in_ok-fit.was _ _
    (c.find.ensures e.circuit.tables.inputs (holds))
