-- The vectors of a list, one after the other: what is left to step, the steps that are done, and the state that scratch keeps.
use Prim.Native.Nat.{ℕ, suc, ◌+◌, ◌-◌, ◌*◌, ◌≤◌, ◌<◌}
use mathlib.Core.Path.{◌≡◌, refl, sym, ap, ap₂, ◌∙◌}
use mathlib.Core.List.{List, [], ◌∷◌, ◌++◌, map, append_assoc, append-nil}
use native.Mathlib.Nat.{mul_comm}
use native.Mathlib.Omega.{arith}
use lib.ListN.{length, take, drop, length-append, length-drop}
use lib.Seq.{length-take-le, drop-drop}
use Rattle.plan.specs.declared.Counts.{Counts}
use Rattle.plan.specs.Circuit.{Circuit, Tables, circuit_of}
use Rattle.plan.specs.Step.{Value, value_of, next_of, Step, step_of, run, vectors_of}
use Rattle.laws.proofs.Tables.{row_ends, next_row}
use Rattle.laws.proofs.Running.Runs.{next-length}
use Rattle.step.specs.sweep.Running.{Runs, Rests}
use Rattle.report.specs.Tallying.{tally, Turned}

-- a whole list has a vector k
pub record Vector (n : Counts) (number : ℕ) (bytes : List ℕ) (k : ℕ) : Type 0 where
  pub whole : length bytes ≡ number * n.I
  pub more : k < number

-- after k vectors
pub record Going (n : Counts) (c : Circuit) (s : List Value) (number : ℕ) (bytes rest t six : List ℕ) (k : ℕ) : Type 0 where
  pub state : List Value
  pub state-length : length state ≡ n.L
  pub rests : Rests n state t
  pub done : List Step
  pub done-length : length done ≡ k
  pub held : six ≡ tally n done ++ rest
  pub left : run c s (vectors_of c number bytes) ≡ done ++ run c state (vectors_of c (number - k) (drop (n.I * k) bytes))

module _ {n : Counts} {number : ℕ} {bytes : List ℕ} {k : ℕ} (u : Vector n number bytes k) where
  abbrev at : ℕ
  at = n.I * k

  pub vector-ends : at + n.I ≤ length bytes
  vector-ends = row_ends n.I number k bytes (omega (arith, u.whole, mul_comm number n.I)) u.more

  pub vector-length : length (take (at + n.I - at) (drop at bytes)) ≡ n.I
  vector-length =
      let only : at + n.I - at ≡ n.I = omega arith in
      ap (λ (m : ℕ). length (take m (drop at bytes))) only ∙ length-take-le n.I (drop at bytes) (omega (arith, vector-ends, length-drop at bytes))

  module _ {x : Tables} (r : Runs n x) {s : List Value} {rest t six : List ℕ} (g : Going n (circuit_of n x) s number bytes rest t six k) {t' six' : List ℕ}
      (done : Turned n (circuit_of n x) g.state (map value_of (take (at + n.I - at) (drop at bytes))) g.done rest t' six') where
    abbrev c : Circuit
    c = circuit_of n x

    abbrev ins : List Value
    ins = map value_of (take (at + n.I - at) (drop at bytes))

    vectors-left : vectors_of c (number - k) (drop at bytes) ≡ ins ∷ vectors_of c (number - (k + 1)) (drop (n.I * (k + 1)) bytes)
    vectors-left =
        let one : number - k ≡ suc (number - (k + 1)) = omega (arith, u.more) in
        let wide : length c.inputs ≡ n.I = ap (λ (m : Counts). m.I) r.counts in
        let only : n.I ≡ at + n.I - at = omega arith in
        ap (λ (left : ℕ). vectors_of c left (drop at bytes)) one
        ∙ (ap (λ (l : List ℕ). map value_of (take (length c.inputs) (drop at bytes)) ∷ vectors_of c (number - (k + 1)) l)
        (drop-drop (length c.inputs) at bytes)
        ∙ (ap (λ (m : ℕ). map value_of (take m (drop at bytes)) ∷ vectors_of c (number - (k + 1)) (drop (at + m) bytes)) wide
        ∙ ap₂ (λ (m p : ℕ). map value_of (take m (drop at bytes)) ∷ vectors_of c (number - (k + 1)) (drop p bytes)) only (next_row n.I k at refl)))

    pub going_on : Going n c s number bytes rest t' six' (k + 1)
    going_on = record {
      state = next_of c g.state ins;
      state-length = next-length c g.state ins ∙ ap (λ (m : Counts). m.L) r.counts;
      rests = done.rests;
      done = g.done ++ (step_of c g.state ins ∷ []);
      done-length = length-append g.done (step_of c g.state ins ∷ []) ∙ omega (arith, g.done-length);
      held = done.held;
      left =
          g.left ∙ (ap (λ (vs : List (List Value)). g.done ++ run c g.state vs) vectors-left
          ∙ sym (append_assoc g.done (step_of c g.state ins ∷ [])
          (run c (next_of c g.state ins) (vectors_of c (number - (k + 1)) (drop (n.I * (k + 1)) bytes)))));
    }

module _ (n : Counts) (c : Circuit) (s : List Value) (number : ℕ) (bytes rest t six : List ℕ) where
  pub all-gone : (k : ℕ) → number ≤ k → Going n c s number bytes rest t six k → six ≡ tally n (run c s (vectors_of c number bytes)) ++ rest
  all-gone k h g =
      let none : number - k ≡ 0 = omega arith in
      g.held
      ∙ ap (λ (steps : List Step). tally n steps ++ rest)
      (sym (g.left ∙ (ap (λ (m : ℕ). g.done ++ run c g.state (vectors_of c m (drop (n.I * k) bytes))) none ∙ append-nil g.done)))
