-- Vectors around a step over words: loaded before it beside the constant, stored after it.
use Prim.Native.Nat.{ℕ, ◌+◌}
use mathlib.Core.Path.{◌≡◌, ap, ◌∙◌}
use mathlib.Core.List.{List, map}
use native.Mathlib.Omega.{arith}
use lib.ListN.{length, take, drop, set, length-map, length-set}
use Rattle.plan.specs.declared.Counts.{Counts}
use Rattle.plan.specs.Circuit.{Circuit}
use Rattle.plan.specs.Step.{Value, code_of, value_of, outputs_of, next_of}
use Rattle.plan.specs.Outcome.{put}
use Rattle.step.specs.values.Words.{told, words, values_at}
use Rattle.step.proofs.values.Codes.{told-words}
use Rattle.step.specs.sweep.Running.{Rests, Stands, Stepped, Ready}
use Rattle.step.proofs.sweep.Loading.{constant-set, rests-loaded, stands-loaded}
use Rattle.step.specs.Asked.{Room, Vectors, Leaves}

-- the values of words that are told
pub told_part : (t : List ℕ) (first n m : ℕ) (l : List Value) → m ≡ n → take n (drop first t) ≡ words l → values_at t first m ≡ l
told_part t first n m l e h =
    ap (λ (k : ℕ). map told (take k (drop first t))) e ∙ (ap (map told) h ∙ told-words l)

-- a state that is loaded beside the constant, whatever else scratch holds
module _ {n : Counts} {latches outputs gates scratch : List ℕ} (b : Room n latches outputs gates scratch)
    (state : List ℕ) (long : length state ≡ n.L)
    {t1 : List ℕ} (e1 : t1 ≡ put (set scratch 0 1) (1 + n.I) (words (map value_of state))) where
  pub state-long : length (map value_of state) ≡ n.L
  state-long = length-map state value_of ∙ long

  pub state-rests : Rests n (map value_of state) t1
  state-rests =
      rests-loaded n (set scratch 0 1) (map value_of state) t1 (constant-set scratch (omega (arith, b.scratch-long)))
      (omega (arith, b.scratch-long, b.runs.fits.sum, length-set scratch 0 1)) state-long e1

module _ {n : Counts} {latches outputs gates scratch : List ℕ} (b : Room n latches outputs gates scratch)
    {state ins outs : List ℕ} (v : Vectors n state ins outs)
    {t1 t2 : List ℕ} (e1 : t1 ≡ put (set scratch 0 1) (1 + n.I) (words (map value_of state)))
    (same1 : length t1 ≡ length (set scratch 0 1))
    (e2 : t2 ≡ put t1 1 (words (map value_of ins))) (same2 : length t2 ≡ length t1) where
  abbrev s : List Value
  s = map value_of state

  abbrev i : List Value
  i = map value_of ins

  same : length t1 ≡ length scratch
  same = same1 ∙ length-set scratch 0 1

  pub stands : Stands n s i t2
  stands =
      stands-loaded n s i t1 t2 (state-rests b state v.state-length e1) (state-long b state v.state-length e1)
      (length-map ins value_of ∙ v.inputs-length) (omega (arith, b.scratch-long, b.runs.fits.sum, same)) e2

  pub ready : Ready n latches outputs gates t2
  ready = record {
    others = b.others;
    state = s;
    ins = i;
    runs = b.runs;
    scratch = omega (arith, b.scratch-long, same, same2);
    stands = stands;
  }

  -- what is stored after it
  pub stored : (c : Circuit) (t3 state' outs' : List ℕ) → Stepped n c s i t3
      → state' ≡ map code_of (values_at t3 (1 + n.I) (length state))
      → outs' ≡ map code_of (values_at t3 (n.M + 1) (length outs))
      → Leaves c state ins state' outs'
  stored c t3 state' outs' p es eo = record {
    next = es ∙ ap (map code_of) (told_part t3 (1 + n.I) n.L (length state) (next_of c s i) v.state-length p.rests.state);
    outputs = eo ∙ ap (map code_of) (told_part t3 (n.M + 1) n.O (length outs) (outputs_of c s i) v.outputs-length p.outputs);
  }
