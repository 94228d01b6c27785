-- Runs of a converted circuit and of a reduced one.
use Prim.Native.Nat.{ℕ, suc}
use mathlib.Core.Path.{◌≡◌, refl, sym, ap, ◌∙◌}
use mathlib.Core.Bool.{true}
use mathlib.Core.List.{List, [], ◌∷◌}
use lib.ListN.{length, length-map}
use Rattle.plan.specs.Circuit.{Circuit, nexts}
use Rattle.plan.specs.Reading.{WellFormed}
use Rattle.plan.specs.Binary.{binary_order}
use Rattle.plan.specs.Convert.{convert}
use Rattle.plan.specs.Reduce.{reduce}
use Rattle.plan.specs.Step.{Value, lit, values_of, next_of, run}
use Rattle.laws.proofs.Reading.Runs.{length-nexts, order-exactly}
use Rattle.laws.proofs.Running.Refinement.{Les}
use Rattle.laws.proofs.Running.Monotone.{Replaced, Kept}
use Rattle.laws.proofs.Running.Accepted.{Accepted, accepted}
use Rattle.laws.proofs.Running.Binary.{Ordered}
use Rattle.laws.proofs.Running.InOrder.{well-ordered}
use Rattle.laws.proofs.Running.ReduceStep.{reduce-outputs, reduce-bads, reduce-constraints, reduce-next}
use Rattle.laws.proofs.Running.ConvertStep.{convert-outputs, convert-bads, convert-constraints, convert-next}

-- each vector holds n values
abbrev pub Sized : ℕ → List (List Value) → Type 0
Sized n [] = Unit {0}
Sized n (i ∷ is) = (length i ≡ n) × Sized n is

-- x replaced leaves the lengths
pub les-length : (xs ys : List Value) → Les xs ys → length xs ≡ length ys
les-length [] [] h = refl
les-length [] (y ∷ ys) h = absurd h
les-length (x ∷ xs) [] h = absurd h
les-length (x ∷ xs) (y ∷ ys) h = ap suc (les-length xs ys h.1)

pub replaced-sized : (n : ℕ) (is js : List (List Value)) → Replaced is js → Sized n is → Sized n js
replaced-sized n [] [] r z = tt
replaced-sized n [] (j ∷ js) r z = absurd r
replaced-sized n (i ∷ is) [] r z = absurd r
replaced-sized n (i ∷ is) (j ∷ js) r z = (sym (les-length i j r.0) ∙ z.0, replaced-sized n is js r.1 z.1)

pub next-length : (c : Circuit) (s i : List Value) → length (next_of c s i) ≡ length c.latches
next-length c s i = length-map (nexts c.latches) (lit (values_of c s i)) ∙ length-nexts c.latches

module _ (c : Circuit) (ok : Accepted c) where
  pub run-converted : (is : List (List Value)) → Sized (length c.inputs) is → (s : List Value) → length s ≡ length c.latches
      → run (convert c) s is ≡ run c s is
  run-converted [] z s h = refl
  run-converted (i ∷ is) z s h =
      let o = convert-outputs c ok s i h z.0 in
      let b = convert-bads c ok s i h z.0 in
      let k = convert-constraints c ok s i h z.0 in
      let n = convert-next c ok s i h z.0 in
      let t = ap (λ (x : List Value). run (convert c) x is) n ∙ run-converted is z.1 (next_of c s i) (next-length c s i) in
      λ j. record { state = s; inputs = i; outputs = o j; bads = b j; constraints = k j; next = n j } ∷ t j

module _ (c : Circuit) (ok : Ordered c) where
  pub run-reduced : (is js : List (List Value)) → Replaced is js → (s s' : List Value) → Les s s' → Kept (run c s is) (run (reduce c) s' js)
  run-reduced [] [] r s s' h = tt
  run-reduced [] (j ∷ js) r s s' h = absurd r
  run-reduced (i ∷ is) [] r s s' h = absurd r
  run-reduced (i ∷ is) (j ∷ js) r s s' h =
      let n = reduce-next c ok s s' i j h r.0 in (
        h,
        reduce-outputs c ok s s' i j h r.0,
        reduce-bads c ok s s' i j h r.0,
        reduce-constraints c ok s s' i j h r.0,
        n,
        run-reduced is js r.1 (next_of c s i) (next_of (reduce c) s' j) n,
      )

-- conversion changes no step
pub convert-run : (c : Circuit) → WellFormed c → (is : List (List Value)) → Sized (length c.inputs) is → (s : List Value)
    → length s ≡ length c.latches
    → run (convert c) s is ≡ run c s is
convert-run c w = run-converted c (accepted c w)

-- reduction changes nothing that was 0 or 1, whatever replaces x
pub reduce-run : (c : Circuit) → WellFormed c → binary_order c ≡ true → (is js : List (List Value)) → Replaced is js → (s s' : List Value)
    → Les s s'
    → Kept (run c s is) (run (reduce c) s' js)
reduce-run c w t = run-reduced c (well-ordered c ((order-exactly c).0 t) w)
