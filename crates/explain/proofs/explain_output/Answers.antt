-- One output explained, where tables and vectors are good: 17, then 11, then the marks. The answers are given by `not_there`, `is_x` and `x-word`.
use Prim.Native.Nat.{ℕ, ◌+◌, ◌<◌}
use mathlib.Core.Path.{◌≡◌, sym, ap, ◌∙◌}
use mathlib.Core.List.{List, map}
use native.Mathlib.Omega.{arith}
use lib.ListN.{get_or, length}
use Rattle.plan.specs.declared.Lit.{Lit}
use Rattle.plan.specs.Literals.{var_of, word_of}
use Rattle.plan.specs.Circuit.{Tables, circuit_of}
use Rattle.plan.specs.Step.{value_of}
use Rattle.plan.specs.Outcome.{put}
use Rattle.judge.specs.Judged.{given_at}
use Rattle.step.specs.values.Words.{word}
use Rattle.step.specs.sweep.Running.{these, Runs}
use Rattle.plan.specs.Explain.{ExplainEntry, state_of, inputs_of, asked, value_asked, marks_asked, marks_for}
use Rattle.explain.specs.Asked.{Settled}
use Rattle.explain.proofs.Outputs.{x-word, gates-below, literal-is, literal-low, output-word, marks-long}
use Rattle.explain.proofs.Answers.{not_there, is_x, too_short, marked}
use Rattle.explain.proofs.explain_output.Goals as goal

pub returns-then-output-n : goal.returns-then-output-n
returns-then-output-n c =
    let entry : Tables → List ℕ → ExplainEntry =
    λ x t. let a = c.args in
    record {
      circuit = given_at a.n (these x a.latches.now a.outputs.now a.gates.now) t;
      state = a.state.now;
      inputs = a.ins.now;
      output = a.output;
      marks = a.marks.now;
    } in
    λ x t r.
    not_there (entry x t) (omega (arith, c.if-output-n.true))

pub overflow_add-needed : goal.overflow_add-needed
overflow_add-needed c =
    let f = c.requires.room.runs.fits in
    omega (arith, f.sum, f.most-M)

pub returns-then-value : goal.returns-then-value
returns-then-value c =
    let entry : Tables → List ℕ → ExplainEntry =
    λ x t. let a = c.args in
    record {
      circuit = given_at a.n (these x a.latches.now a.outputs.now a.gates.now) t;
      state = a.state.now;
      inputs = a.ins.now;
      output = a.output;
      marks = a.marks.now;
    } in
    let words : List ℕ =
    c.settle.new.scratch in
    let there : c.args.output < c.args.n.O =
    omega (arith, c.if-output-n.false) in
    let settled : (x : Tables) (t : List ℕ) (r : let a = c.args in Runs a.n (these x a.latches.now a.outputs.now a.gates.now)) → let a = c.args in Settled a.n (circuit_of a.n (these x a.latches.now a.outputs.now a.gates.now)) (map value_of a.state.now) (map value_of a.ins.now) (words) =
    λ x t r. c.settle.ensures x r in
    let told : (x : Tables) (t : List ℕ) (r : let a = c.args in Runs a.n (these x a.latches.now a.outputs.now a.gates.now)) → let a = c.args in get_or (words) (a.n.M + 1 + a.output) 0 ≡ word (value_asked (entry x t)) =
    λ x t r. output-word r c.args.output (there) (settled x t r) in
    λ x t r.
    is_x (entry x t) (there) (x-word (value_asked (entry x t)) (sym (told x t r) ∙ c.if-value.true))

pub returns-then-marks-needed : goal.returns-then-marks-needed
returns-then-marks-needed c =
    let entry : Tables → List ℕ → ExplainEntry =
    λ x t. let a = c.args in
    record {
      circuit = given_at a.n (these x a.latches.now a.outputs.now a.gates.now) t;
      state = a.state.now;
      inputs = a.ins.now;
      output = a.output;
      marks = a.marks.now;
    } in
    let words : List ℕ =
    c.settle.new.scratch in
    let there : c.args.output < c.args.n.O =
    omega (arith, c.if-output-n.false) in
    let settled : (x : Tables) (t : List ℕ) (r : let a = c.args in Runs a.n (these x a.latches.now a.outputs.now a.gates.now)) → let a = c.args in Settled a.n (circuit_of a.n (these x a.latches.now a.outputs.now a.gates.now)) (map value_of a.state.now) (map value_of a.ins.now) (words) =
    λ x t r. c.settle.ensures x r in
    let told : (x : Tables) (t : List ℕ) (r : let a = c.args in Runs a.n (these x a.latches.now a.outputs.now a.gates.now)) → let a = c.args in get_or (words) (a.n.M + 1 + a.output) 0 ≡ word (value_asked (entry x t)) =
    λ x t r. output-word r c.args.output (there) (settled x t r) in
    let long : (x : Tables) (t : List ℕ) (r : let a = c.args in Runs a.n (these x a.latches.now a.outputs.now a.gates.now)) → let a = c.args in length (marks_asked (entry x t)) ≡ a.n.L + a.n.I =
    λ x t r. let e = entry x t in marks-long r (state_of e) (inputs_of e) (asked e) in
    λ x t r.
    let f = r.fits in
    too_short (entry x t) (there) (λ q. c.if-value.false (told x t r ∙ ap word q)) _ (long x t r)
    (omega (arith, f.sum, f.most-M)) c.if-marks-needed.true

pub offset_bounds-outputs-output : goal.offset_bounds-outputs-output
offset_bounds-outputs-output c =
    let there : c.args.output < c.args.n.O =
    omega (arith, c.if-output-n.false) in
    omega (arith, there, c.requires.room.runs.fits.most-O)

pub bounds-outputs-output : goal.bounds-outputs-output
bounds-outputs-output c =
    let there : c.args.output < c.args.n.O =
    omega (arith, c.if-output-n.false) in
    omega (arith, there, c.requires.room.runs.fits.outputs-long)

pub explain_literal-requires : goal.explain_literal-requires
explain_literal-requires c =
    let there : c.args.output < c.args.n.O =
    omega (arith, c.if-output-n.false) in
    let b = c.requires.room in
    let at = ap (λ (l : Lit). var_of (word_of l)) c.at.ensures in
    record {
      most-M = b.runs.fits.most-M;
      most-O = b.runs.fits.most-O;
      sum = b.runs.fits.sum;
      gates-long = b.runs.fits.gates-long;
      below = gates-below b.runs;
      literal = omega (arith, at, literal-low b.runs c.args.output (there));
      scratch = omega (arith, b.scratch-long, c.settle.auto.scratch);
      room = omega (arith, c.if-marks-needed.false);
    }

pub returns : goal.returns
returns c =
    let entry : Tables → List ℕ → ExplainEntry =
    λ x t. let a = c.args in
    record {
      circuit = given_at a.n (these x a.latches.now a.outputs.now a.gates.now) t;
      state = a.state.now;
      inputs = a.ins.now;
      output = a.output;
      marks = a.marks.now;
    } in
    let words : List ℕ =
    c.settle.new.scratch in
    let there : c.args.output < c.args.n.O =
    omega (arith, c.if-output-n.false) in
    let settled : (x : Tables) (t : List ℕ) (r : let a = c.args in Runs a.n (these x a.latches.now a.outputs.now a.gates.now)) → let a = c.args in Settled a.n (circuit_of a.n (these x a.latches.now a.outputs.now a.gates.now)) (map value_of a.state.now) (map value_of a.ins.now) (words) =
    λ x t r. c.settle.ensures x r in
    let told : (x : Tables) (t : List ℕ) (r : let a = c.args in Runs a.n (these x a.latches.now a.outputs.now a.gates.now)) → let a = c.args in get_or (words) (a.n.M + 1 + a.output) 0 ≡ word (value_asked (entry x t)) =
    λ x t r. output-word r c.args.output (there) (settled x t r) in
    let long : (x : Tables) (t : List ℕ) (r : let a = c.args in Runs a.n (these x a.latches.now a.outputs.now a.gates.now)) → let a = c.args in length (marks_asked (entry x t)) ≡ a.n.L + a.n.I =
    λ x t r. let e = entry x t in marks-long r (state_of e) (inputs_of e) (asked e) in
    λ x t r.
    let a = c.args in
    let l = ap word_of c.at.ensures ∙ sym (literal-is r a.output (there)) in
    marked (entry x t) (there) (λ q. c.if-value.false (told x t r ∙ ap word q)) (omega (arith, long x t r, c.if-marks-needed.false)) _
    (c.explain_literal.ensures x a.latches.now a.outputs.now _ _ r (settled x t r)
    ∙ ap (λ (y : ℕ). put a.marks.now 0 (marks_for (circuit_of a.n (these x a.latches.now a.outputs.now a.gates.now))
    (map value_of a.state.now) (map value_of a.ins.now) y)) l)
