-- The three loops of a step, and what they leave: the codes of outputs and of next states.
use Prim.Native.Nat.{ℕ, zero, suc, ◌+◌, ◌*◌, ◌≤◌, ◌<◌}
use mathlib.Core.Path.{◌≡◌, refl, sym, ap, ◌∙◌, subst}
use mathlib.Core.Bool.{true}
use mathlib.Core.List.{List, [], ◌∷◌, ◌++◌, map, append-nil}
use native.Mathlib.Nat.{not-suc-le-zero}
use native.Mathlib.Decide.{dec_lt}
use native.Mathlib.Omega.{arith}
use lib.ListN.{length, get_or, take, drop, drop_of_length-le, get_or-append}
use lib.Seq.{take_at, get_or-take, get_or-append_seam}
use Rattle.plan.specs.declared.Counts.{Counts}
use Rattle.plan.specs.Literals.{var_of}
use Rattle.plan.specs.Circuit.{Circuit, Tables, circuit_of}
use Rattle.plan.specs.Step.{Value, v0, v1, vx, code_of, value_of, lit, values_of, outputs_of, next_of}
use Rattle.plan.specs.Outcome.{all_codes, put}
use Rattle.laws.proofs.Tables.{firsts, length-firsts, words_take}
use Rattle.judge.proofs.used.Walked.{one_word}
use Rattle.step.proofs.values.Filling.{map-firsts}
use Rattle.step.specs.sweep.Running.{these, Runs}
use Rattle.step.proofs.sweep.Literals.{nexts-every, output-up, next_up}
use Rattle.step.specs.Asked.{Room, Vectors, Leaves}
use Rattle.plain.specs.Asked.{variable_in, Teaches, Outs, Nexts, Bytes, output_codes, next_codes}
use Rattle.plain.proofs.Worth.{teaches, worth-step}

pub code-small : (a : Value) → code_of a < 256
code-small v0 = omega arith
code-small v1 = omega arith
code-small vx = omega arith

-- a whole vector filled, and the first words of a table
pub filled-whole : (l : List ℕ) (at : ℕ → ℕ) (n : ℕ) → length l ≡ n → put l 0 (firsts at n) ≡ firsts at n
filled-whole l at n e =
    ap (λ (r : List ℕ). firsts at n ++ r) (drop_of_length-le l {i = 0 + length (firsts at n)} (omega (arith, length-firsts at n)))
    ∙ append-nil (firsts at n)

pub held-part : (l x : List ℕ) → take (length x) (put l 0 x) ≡ x
held-part l x = take_at x (drop (0 + length x) l) (length x) refl

pub firsts_at : (at : ℕ → ℕ) (n k : ℕ) → k < n → get_or (firsts at n) k 0 ≡ at k
firsts_at at zero k h = absurd (not-suc-le-zero h)
firsts_at at (suc n) k h = go (dec_lt k n) (λ q. firsts_at at n k q)
  where
    go : Dec (k < n) → (k < n → get_or (firsts at n) k 0 ≡ at k) → get_or (firsts at n ++ (at n ∷ [])) k 0 ≡ at k
    go (yes q) f = get_or-append (firsts at n) (at n ∷ []) 0 k (omega (arith, length-firsts at n)) ∙ f q
    go (no q) f =
        let e : k ≡ length (firsts at n) = omega (arith, length-firsts at n) in
        let l : n ≡ k = omega arith in
        ap (λ (j : ℕ). get_or (firsts at n ++ (at n ∷ [])) j 0) e ∙ (get_or-append_seam (firsts at n) (at n) [] 0 ∙ ap at l)

module _ {n : Counts} {latches outputs gates scratch : List ℕ} (b : Room n latches outputs gates scratch)
    {state ins outs : List ℕ} (v : Vectors n state ins outs) (hs : all_codes state ≡ true) (hi : all_codes ins ≡ true) where
  pub asks : Teaches n gates state ins
  asks = teaches b.runs state ins v.state-length v.inputs-length hs hi

  pub outs-in : Outs n outputs outs
  outs-in = record {
    literals-long = b.runs.fits.outputs-long;
    up = λ k h. subst (λ (l : ℕ). var_of l ≤ n.M) (sym (one_word outputs k)) (output-up b.runs k h);
    room = v.outputs-length;
  }

  pub nexts-in : Nexts n latches scratch
  nexts-in = record {
    literals-long = b.runs.fits.latches-long;
    up = λ k h. next_up b.runs k h;
    room = omega (arith, b.scratch-long, b.runs.fits.sum);
  }

  module _ (t : List ℕ) (same : length t ≡ length scratch) (held : t ≡ put scratch 0 (next_codes n latches gates state ins)) where
    abbrev next : List ℕ
    next = next_codes n latches gates state ins

    next-length : length next ≡ n.L
    next-length = length-firsts (λ k. code_of (lit (variable_in n gates state ins) (get_or latches (2 * k + 1) 0))) n.L

    taken : take n.L t ≡ next
    taken = ap (take n.L) held ∙ (ap (λ (k : ℕ). take k (put scratch 0 next)) (sym next-length) ∙ held-part scratch next)

    pub bytes-in : Bytes t state
    bytes-in = record {
      long = omega (arith, same, v.state-length, b.scratch-long, b.runs.fits.sum);
      small = λ k h.
          let q : k < n.L = omega (arith, v.state-length) in
          subst (λ (w : ℕ). w < 256)
          (sym (sym (get_or-take n.L t k 0 q) ∙ (ap (λ (l : List ℕ). get_or l k 0) taken ∙ firsts_at _ n.L k q)))
          (code-small (lit (variable_in n gates state ins) (get_or latches (2 * k + 1) 0)));
    }

    -- what stands in the buffers at the end
    pub leaves_in : (x : Tables) → Runs n (these x latches outputs gates) → (state' outs' : List ℕ) → state' ≡ take (length state) t
        → outs' ≡ output_codes n outputs gates state ins
        → Leaves (circuit_of n (these x latches outputs gates)) state ins state' outs'
    leaves_in x r state' outs' es eo = record { next = next-is; outputs = outputs-are }
      where
        c : Circuit
        c = circuit_of n (these x latches outputs gates)

        w : ℕ → Value
        w = variable_in n gates state ins

        same-values : w ≡ values_of c (map value_of state) (map value_of ins)
        same-values = λ j u. worth-step r state ins v.state-length v.inputs-length u j

        codes : (at : ℕ → ℕ) (k : ℕ) → firsts (λ i. code_of (lit w (at i))) k
            ≡ map code_of (map (lit (values_of c (map value_of state) (map value_of ins))) (firsts at k))
        codes at k =
            ap (λ (u : ℕ → Value). firsts (λ i. code_of (lit u (at i))) k) same-values
            ∙ sym (ap (map code_of) (map-firsts (lit (values_of c (map value_of state) (map value_of ins))) at k)
            ∙ map-firsts code_of (λ i. lit (values_of c (map value_of state) (map value_of ins)) (at i)) k)

        next-is : state' ≡ map code_of (next_of c (map value_of state) (map value_of ins))
        next-is =
            es ∙ (ap (λ (k : ℕ). take k t) v.state-length ∙ (taken
            ∙ (codes (λ k. get_or latches (2 * k + 1) 0) n.L
            ∙ ap (λ (l : List ℕ). map code_of (map (lit (values_of c (map value_of state) (map value_of ins))) l)) (sym (nexts-every r)))))

        outputs-are : outs' ≡ map code_of (outputs_of c (map value_of state) (map value_of ins))
        outputs-are =
            eo ∙ (codes (λ k. get_or outputs k 0) n.O
            ∙ ap (λ (l : List ℕ). map code_of (map (lit (values_of c (map value_of state) (map value_of ins))) l))
            (sym (words_take outputs n.O r.fits.outputs-long)))
