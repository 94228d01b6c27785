-- The state's bytes around a run: loaded before the first line, stored after the last.
use Prim.Native.Nat.{ℕ, ◌+◌}
use mathlib.Core.Path.{◌≡◌, ap, ◌∙◌}
use mathlib.Core.List.{List, map}
use native.Mathlib.Omega.{arith}
use lib.ListN.{length, set, length-set}
use Rattle.plan.specs.declared.Counts.{Counts}
use Rattle.plan.specs.Circuit.{Circuit}
use Rattle.plan.specs.Step.{Value, code_of, value_of}
use Rattle.plan.specs.Outcome.{put}
use Rattle.plan.specs.Whole.{state_after}
use Rattle.step.specs.values.Words.{words, values_at}
use Rattle.step.specs.Asked.{Room}
use Rattle.step.proofs.Buffers.{told_part, state-long, state-rests}
use Rattle.runs.specs.trace.Tracing.{Resting, Ran, Left}

module _ {n : Counts} {latches outputs gates scratch : List ℕ} (b : Room n latches outputs gates scratch) (state : List ℕ)
    (long : length state ≡ n.L) {t1 : List ℕ} (e1 : t1 ≡ put (set scratch 0 1) (1 + n.I) (words (map value_of state))) where
  abbrev s : List Value
  s = map value_of state

  pub state-resting : length t1 ≡ length (set scratch 0 1) → Resting n latches outputs gates t1
  state-resting same = record {
    others = b.others;
    state = s;
    runs = b.runs;
    scratch-long = omega (arith, b.scratch-long, same, length-set scratch 0 1);
    state-length = state-long b state long e1;
    rests = state-rests b state long e1;
  }

  pub state-left : (c : Circuit) (list : List (List Value)) (t2 state' out out' : List ℕ) → Ran n c s list t2 out out'
      → state' ≡ map code_of (values_at t2 (1 + n.I) (length state)) → Left c state list state' out out'
  state-left c list t2 state' out out' r e = record {
    state-is = e ∙ ap (map code_of) (told_part t2 (1 + n.I) n.L (length state) (state_after c s list) long r.rests.state);
    lines = r.lines;
  }
