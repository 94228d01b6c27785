-- 2, 3, 4 with a table 6 of these words, 5, 6, 7, 8, 15, then 13, then 12: whole vectors alone. The answers are given by `refused-long`,
-- `refused-list` and `refused-first`.
use Prim.Native.Nat.{ℕ, ◌+◌, ◌*◌}
use mathlib.Core.Path.{◌≡◌, sym, ap, ◌∙◌}
use mathlib.Core.List.{List}
use borrow.Author.Tests.{not-true, not-false, ltb-true, ltb-false}
use lib.Dec.{ltb}
use lib.ListN.{length}
use Rattle.plan.specs.Circuit.{seven, cleared}
use Rattle.plan.specs.Outcome.{CheckExit, check_in_order}
use Rattle.plan.specs.Report.{ReportEntry}
use Rattle.report.proofs.Checks.{refused-first, refused-long, refused-list, nothing-found}
use Rattle.laws.proofs.Pairs.{passed-on}
use Rattle.report.proofs.judge.Goals as goal

pub returns-then-long : goal.returns-then-long
returns-then-long c =
    let entry : List ℕ → ReportEntry =
    λ six. let a = c.args in
    record {
      circuit = record {
        counts = a.n;
        tables = seven a.inputs.now a.latches.now a.outputs.now a.gates.now a.resets.now a.bads.now a.constraints.now;
        scratch = a.scratch.now;
      };
      number = a.number;
      bytes = a.bytes.now;
      six = six;
    } in
    let told : (six : List ℕ) → c.check_in_order-checked.result ≡ (check_in_order (entry six).circuit).answer =
    λ six. ap (λ (x : CheckExit). x.answer) c.check_in_order-checked.ensures in
    let blank : c.check_in_order-checked.new.scratch ≡ cleared c.args.scratch.now =
    ap (λ (x : CheckExit). x.scratch) c.check_in_order-checked.ensures in
    let few : (six : List ℕ) → c.args.words ≡ length six → c.too_few-short.result ≡ ltb (length six) (4 * (c.args.n.O + c.args.n.L)) =
    λ six q. c.too_few-short.ensures ∙ ap (λ (k : ℕ). ltb k (4 * (c.args.n.O + c.args.n.L))) q in
    let long = ltb-true _ _ c.if-long.true-raw in
    record { by_index = λ six q. refused-long (entry six) (told six) (few six q) c.with_sixth.ensures c.in_ok-with_sixth.was long; scratch_after = blank }

pub returns-then-broken : goal.returns-then-broken
returns-then-broken c =
    let entry : List ℕ → ReportEntry =
    λ six. let a = c.args in
    record {
      circuit = record {
        counts = a.n;
        tables = seven a.inputs.now a.latches.now a.outputs.now a.gates.now a.resets.now a.bads.now a.constraints.now;
        scratch = a.scratch.now;
      };
      number = a.number;
      bytes = a.bytes.now;
      six = six;
    } in
    let told : (six : List ℕ) → c.check_in_order-checked.result ≡ (check_in_order (entry six).circuit).answer =
    λ six. ap (λ (x : CheckExit). x.answer) c.check_in_order-checked.ensures in
    let blank : c.check_in_order-checked.new.scratch ≡ cleared c.args.scratch.now =
    ap (λ (x : CheckExit). x.scratch) c.check_in_order-checked.ensures in
    let few : (six : List ℕ) → c.args.words ≡ length six → c.too_few-short.result ≡ ltb (length six) (4 * (c.args.n.O + c.args.n.L)) =
    λ six q. c.too_few-short.ensures ∙ ap (λ (k : ℕ). ltb k (4 * (c.args.n.O + c.args.n.L))) q in
    let few' = ltb-false _ _ c.if-long.false-raw in
    record {
      by_index = λ six q.
          refused-list (entry six) (told six) (few six q) c.with_sixth.ensures c.in_ok-with_sixth.was few'
          (sym c.whole_list-broken.ensures ∙ not-true _ c.if-broken.true-raw);
      scratch_after = blank;
    }

pub returns-in_err-with_sixth : goal.returns-in_err-with_sixth
returns-in_err-with_sixth c =
    let entry : List ℕ → ReportEntry =
    λ six. let a = c.args in
    record {
      circuit = record {
        counts = a.n;
        tables = seven a.inputs.now a.latches.now a.outputs.now a.gates.now a.resets.now a.bads.now a.constraints.now;
        scratch = a.scratch.now;
      };
      number = a.number;
      bytes = a.bytes.now;
      six = six;
    } in
    let told : (six : List ℕ) → c.check_in_order-checked.result ≡ (check_in_order (entry six).circuit).answer =
    λ six. ap (λ (x : CheckExit). x.answer) c.check_in_order-checked.ensures in
    let blank : c.check_in_order-checked.new.scratch ≡ cleared c.args.scratch.now =
    ap (λ (x : CheckExit). x.scratch) c.check_in_order-checked.ensures in
    let few : (six : List ℕ) → c.args.words ≡ length six → c.too_few-short.result ≡ ltb (length six) (4 * (c.args.n.O + c.args.n.L)) =
    λ six q. c.too_few-short.ensures ∙ ap (λ (k : ℕ). ltb k (4 * (c.args.n.O + c.args.n.L))) q in
    record { by_index = λ six q. passed-on _ c.from_residual.ensures.1 ∙ refused-first (entry six) (told six) (few six q) c.with_sixth.ensures _ c.in_err-with_sixth.was; scratch_after = blank }

pub returns : goal.returns
returns c =
    let entry : List ℕ → ReportEntry =
    λ six. let a = c.args in
    record {
      circuit = record {
        counts = a.n;
        tables = seven a.inputs.now a.latches.now a.outputs.now a.gates.now a.resets.now a.bads.now a.constraints.now;
        scratch = a.scratch.now;
      };
      number = a.number;
      bytes = a.bytes.now;
      six = six;
    } in
    let told : (six : List ℕ) → c.check_in_order-checked.result ≡ (check_in_order (entry six).circuit).answer =
    λ six. ap (λ (x : CheckExit). x.answer) c.check_in_order-checked.ensures in
    let blank : c.check_in_order-checked.new.scratch ≡ cleared c.args.scratch.now =
    ap (λ (x : CheckExit). x.scratch) c.check_in_order-checked.ensures in
    let few : (six : List ℕ) → c.args.words ≡ length six → c.too_few-short.result ≡ ltb (length six) (4 * (c.args.n.O + c.args.n.L)) =
    λ six q. c.too_few-short.ensures ∙ ap (λ (k : ℕ). ltb k (4 * (c.args.n.O + c.args.n.L))) q in
    let few' = ltb-false _ _ c.if-long.false-raw in
    record {
      by_index = λ six q.
          nothing-found (entry six) (told six) (few six q) c.with_sixth.ensures c.in_ok-with_sixth.was few'
          (sym c.whole_list-broken.ensures ∙ not-false _ c.if-broken.false-raw);
      scratch_after = blank;
    }
