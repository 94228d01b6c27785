-- The witness question: whether every filling of the x of the resets and of a list of `number` vectors shows 1 on some output or bad state, every
-- constraint being 1 there and at all steps before; at most `allowance` fillings are tried. The answers are given by `refused-list`, `past-check` and
-- `more`.
use Prim.Native.Nat.{ℕ, ◌+◌, ◌*◌}
use mathlib.Core.Path.{◌≡◌, sym, ap, ap₂, ◌∙◌}
use mathlib.Core.Bool.{true}
use Rattle.std.specs.Prelude.{Ok, None}
use native.Mathlib.Omega.{arith}
use borrow.Author.Tests.{not-true, not-false}
use lib.ListN.{length, replicate}
use Rattle.plan.specs.Circuit.{cleared, seven}
use Rattle.plan.specs.Given.{given_circuit}
use Rattle.plan.specs.Outcome.{CheckExit, check_in_order}
use Rattle.tables.specs.Held.{Scratch}
use Rattle.step.proofs.codes.Places.{codes_in}
use Rattle.step.specs.sweep.Running.{Runs}
use Rattle.step.proofs.Checks.{runs, room}
use Rattle.witness.proofs.three.Verdicts.{good-list}
use Rattle.plan.specs.Fillings.{x_count, asked, FilledEntry}
use Rattle.laws.proofs.Fillings.Numbering.{count-append}
use Rattle.laws.proofs.Fillings.Counting.{count_small}
use Rattle.witness.specs.Asked.{codes_of}
use Rattle.witness.proofs.Words.{codes-length}
use Rattle.step.proofs.Beyond.{refused-by, past-check}
use Rattle.witness.proofs.Verdicts.{more, refused-filled, refused-list, refused-x, found-filled}
use Rattle.laws.proofs.Pairs.{passed-on}
use Rattle.witness.proofs.witness.Goals as goal

pub returns-then-not-whole_list : goal.returns-then-not-whole_list
returns-then-not-whole_list c =
    let entry : FilledEntry =
    let a = c.args in
    record {
      list = record {
        circuit = record {
          counts = a.n;
          tables = seven a.inputs.now a.latches.now a.outputs.now a.gates.now a.resets.now a.bads.now a.constraints.now;
          scratch = a.scratch.now;
        };
        number = a.number;
        bytes = a.bytes.now;
      };
      allowance = a.allowance;
    } in
    let told : c.check_in_order.result ≡ Ok tt =
    c.in_ok-check_in_order.was in
    let says : c.check_in_order.result ≡ (check_in_order (entry).list.circuit).answer =
    ap (λ (x : CheckExit). x.answer) c.check_in_order.ensures in
    let blank : c.check_in_order.new.scratch ≡ cleared c.args.scratch.now =
    ap (λ (x : CheckExit). x.scratch) c.check_in_order.ensures in
    let e = entry in
    refused-list e _ (blank) (past-check e.list.circuit (more e) (says) (told))
    (sym c.whole_list.ensures ∙ not-true _ c.if-not-whole_list.true-raw)

pub count_resets-requires : goal.count_resets-requires
count_resets-requires c =
    let entry : FilledEntry =
    let a = c.args in
    record {
      list = record {
        circuit = record {
          counts = a.n;
          tables = seven a.inputs.now a.latches.now a.outputs.now a.gates.now a.resets.now a.bads.now a.constraints.now;
          scratch = a.scratch.now;
        };
        number = a.number;
        bytes = a.bytes.now;
      };
      allowance = a.allowance;
    } in
    let told : c.check_in_order.result ≡ Ok tt =
    c.in_ok-check_in_order.was in
    let says : c.check_in_order.result ≡ (check_in_order (entry).list.circuit).answer =
    ap (λ (x : CheckExit). x.answer) c.check_in_order.ensures in
    let holds : let g = (entry).list.circuit in Runs g.counts g.tables =
    runs (entry).list.circuit None (says) (told) in
    (holds).fits.resets-long

pub overflow_add-xs : goal.overflow_add-xs
overflow_add-xs c =
    let entry : FilledEntry =
    let a = c.args in
    record {
      list = record {
        circuit = record {
          counts = a.n;
          tables = seven a.inputs.now a.latches.now a.outputs.now a.gates.now a.resets.now a.bads.now a.constraints.now;
          scratch = a.scratch.now;
        };
        number = a.number;
        bytes = a.bytes.now;
      };
      allowance = a.allowance;
    } in
    let told : c.check_in_order.result ≡ Ok tt =
    c.in_ok-check_in_order.was in
    let says : c.check_in_order.result ≡ (check_in_order (entry).list.circuit).answer =
    ap (λ (x : CheckExit). x.answer) c.check_in_order.ensures in
    let holds : let g = (entry).list.circuit in Runs g.counts g.tables =
    runs (entry).list.circuit None (says) (told) in
    let counted : let a = c.args in c.count_resets.result + c.count_x.result ≡ x_count (codes_of a.resets.now a.n.L) + x_count a.bytes.now =
    ap₂ (λ (i j : ℕ). i + j) c.count_resets.ensures c.count_x.ensures in
    let a = c.args in
    let f = (holds).fits in
    let codes = codes_of a.resets.now a.n.L in
    record {
      fits = omega (
        arith,
        counted,
        count_small codes,
        codes-length a.resets.now a.n.L f.resets-long,
        f.sum,
        f.most-M,
        count_small a.bytes.now,
        c.well_formed,
      );
    }

pub returns-then-xs-gt-MOST_X : goal.returns-then-xs-gt-MOST_X
returns-then-xs-gt-MOST_X c =
    let entry : FilledEntry =
    let a = c.args in
    record {
      list = record {
        circuit = record {
          counts = a.n;
          tables = seven a.inputs.now a.latches.now a.outputs.now a.gates.now a.resets.now a.bads.now a.constraints.now;
          scratch = a.scratch.now;
        };
        number = a.number;
        bytes = a.bytes.now;
      };
      allowance = a.allowance;
    } in
    let told : c.check_in_order.result ≡ Ok tt =
    c.in_ok-check_in_order.was in
    let says : c.check_in_order.result ≡ (check_in_order (entry).list.circuit).answer =
    ap (λ (x : CheckExit). x.answer) c.check_in_order.ensures in
    let blank : c.check_in_order.new.scratch ≡ cleared c.args.scratch.now =
    ap (λ (x : CheckExit). x.scratch) c.check_in_order.ensures in
    let whole-told : let w = (entry).list in codes_in w.bytes (w.number * w.circuit.counts.I) ≡ true =
    sym c.whole_list.ensures ∙ not-false _ c.if-not-whole_list.false-raw in
    let counted : let a = c.args in c.count_resets.result + c.count_x.result ≡ x_count (codes_of a.resets.now a.n.L) + x_count a.bytes.now =
    ap₂ (λ (i j : ℕ). i + j) c.count_resets.ensures c.count_x.ensures in
    let count-told : let w = (entry).list in c.count_resets.result + c.count_x.result ≡ x_count (asked (given_circuit w.circuit) w.bytes) =
    let a = c.args in
    counted ∙ sym (count-append (codes_of a.resets.now a.n.L) a.bytes.now) in
    let e = entry in
    refused-x e _ (blank) (past-check e.list.circuit (more e) (says) (told)) (whole-told) _ (count-told) c.if-xs-gt-MOST_X.true

pub try_fillings-found-requires : goal.try_fillings-found-requires
try_fillings-found-requires c =
    let entry : FilledEntry =
    let a = c.args in
    record {
      list = record {
        circuit = record {
          counts = a.n;
          tables = seven a.inputs.now a.latches.now a.outputs.now a.gates.now a.resets.now a.bads.now a.constraints.now;
          scratch = a.scratch.now;
        };
        number = a.number;
        bytes = a.bytes.now;
      };
      allowance = a.allowance;
    } in
    let told : c.check_in_order.result ≡ Ok tt =
    c.in_ok-check_in_order.was in
    let says : c.check_in_order.result ≡ (check_in_order (entry).list.circuit).answer =
    ap (λ (x : CheckExit). x.answer) c.check_in_order.ensures in
    let same : length c.check_in_order.new.scratch ≡ length c.args.scratch.now =
    c.check_in_order.auto.scratch in
    let holds : let g = (entry).list.circuit in Runs g.counts g.tables =
    runs (entry).list.circuit None (says) (told) in
    let long : Scratch c.args.n c.check_in_order.new.scratch =
    (room (entry).list.circuit None (says) (told) c.check_in_order.new.scratch (same)
    ).scratch-long in
    let whole-told : let w = (entry).list in codes_in w.bytes (w.number * w.circuit.counts.I) ≡ true =
    sym c.whole_list.ensures ∙ not-false _ c.if-not-whole_list.false-raw in
    let counted : let a = c.args in c.count_resets.result + c.count_x.result ≡ x_count (codes_of a.resets.now a.n.L) + x_count a.bytes.now =
    ap₂ (λ (i j : ℕ). i + j) c.count_resets.ensures c.count_x.ensures in
    let e = entry in
    record {
      holds = record {
        inputs = c.args.inputs.now;
        runs = holds;
        scratch-long = long;
        whole = good-list e.list (whole-told);
        few = omega (arith, counted, c.if-xs-gt-MOST_X.false);
      };
      xs_value = counted;
    }

pub returns-in_err-check_in_order : goal.returns-in_err-check_in_order
returns-in_err-check_in_order c =
    let entry : FilledEntry =
    let a = c.args in
    record {
      list = record {
        circuit = record {
          counts = a.n;
          tables = seven a.inputs.now a.latches.now a.outputs.now a.gates.now a.resets.now a.bads.now a.constraints.now;
          scratch = a.scratch.now;
        };
        number = a.number;
        bytes = a.bytes.now;
      };
      allowance = a.allowance;
    } in
    let e = entry in
    let check = c.check_in_order.ensures in
    rw (passed-on _ c.from_residual.ensures.1) (
    refused-filled e _ (ap (λ (q : CheckExit). q.scratch) check) _
    (refused-by e.list.circuit (more e) (ap (λ (q : CheckExit). q.answer) check) _ c.in_err-check_in_order.was))

pub returns : goal.returns
returns c =
    let entry : FilledEntry =
    let a = c.args in
    record {
      list = record {
        circuit = record {
          counts = a.n;
          tables = seven a.inputs.now a.latches.now a.outputs.now a.gates.now a.resets.now a.bads.now a.constraints.now;
          scratch = a.scratch.now;
        };
        number = a.number;
        bytes = a.bytes.now;
      };
      allowance = a.allowance;
    } in
    let told : c.check_in_order.result ≡ Ok tt =
    c.in_ok-check_in_order.was in
    let says : c.check_in_order.result ≡ (check_in_order (entry).list.circuit).answer =
    ap (λ (x : CheckExit). x.answer) c.check_in_order.ensures in
    let same : length c.check_in_order.new.scratch ≡ length c.args.scratch.now =
    c.check_in_order.auto.scratch in
    let holds : let g = (entry).list.circuit in Runs g.counts g.tables =
    runs (entry).list.circuit None (says) (told) in
    let whole-told : let w = (entry).list in codes_in w.bytes (w.number * w.circuit.counts.I) ≡ true =
    sym c.whole_list.ensures ∙ not-false _ c.if-not-whole_list.false-raw in
    let counted : let a = c.args in c.count_resets.result + c.count_x.result ≡ x_count (codes_of a.resets.now a.n.L) + x_count a.bytes.now =
    ap₂ (λ (i j : ℕ). i + j) c.count_resets.ensures c.count_x.ensures in
    let count-told : let w = (entry).list in c.count_resets.result + c.count_x.result ≡ x_count (asked (given_circuit w.circuit) w.bytes) =
    let a = c.args in
    counted ∙ sym (count-append (codes_of a.resets.now a.n.L) a.bytes.now) in
    let e = entry in
    let zero = c.clear.ensures ∙ ap (λ (k : ℕ). replicate k 0) (c.try_fillings-found.auto.scratch ∙ same) in
    found-filled e _ zero (past-check e.list.circuit (more e) (says) (told)) (whole-told)
    (omega (arith, count-told, c.if-xs-gt-MOST_X.false)) _ (c.try_fillings-found.ensures e.list.circuit.tables.inputs (holds))
