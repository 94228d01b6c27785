use Prim.Native.Nat.{ℕ}
use mathlib.Core.Path.{ap, ◌∙◌}
use lib.ListN.{replicate}
use Rattle.plan.specs.Circuit.{seven}
use Rattle.plan.specs.Search.{SearchEntry}
use Rattle.search.proofs.Answering.{searched-clear}
use Rattle.search.proofs.search.Goals as goal

pub returns : goal.returns
returns c =
    let entry : SearchEntry =
    let a = c.args in
    record {
      circuit = record {
        counts = a.n;
        tables = seven a.inputs.now a.latches.now a.outputs.now a.gates.now a.resets.now a.bads.now a.constraints.now;
        scratch = a.scratch.now;
      };
      split = a.split;
      watch = a.watch;
      allowance = a.allowance;
      met = a.met.now;
      marks = a.marks.now;
      out = a.out.now;
    } in
    searched-clear (entry) _ _ _ _ _ c.ask-answer.ensures (c.clear.ensures ∙ ap (λ (k : ℕ). replicate k 0) c.ask-answer.auto.scratch)
    (c.clear-2.ensures ∙ ap (λ (k : ℕ). replicate k 0) c.ask-answer.auto.met) (c.clear-3.ensures ∙ ap (λ (k : ℕ). replicate k 0) c.ask-answer.auto.marks)
