-- The loop that reads a number: what is still to be read gives the value and the end of the whole number.
use Prim.Native.Nat.{ℕ, suc, ◌+◌, ◌-◌, ◌*◌, ◌<◌, ◌≤◌, min}
use mathlib.Core.Path.{◌≡◌, sym, ap, ◌∙◌}
use mathlib.Core.List.{List, [], ◌∷◌}
use mathlib.Core.Bool.{true}
use Rattle.std.specs.Prelude.{Err}
use Rattle.plan.specs.declared.Refusal.TheVariants.{WrongByte}
use native.Mathlib.Omega.{arith}
use native.Mathlib.Nat.{le_refl, le_trans}
use native.Mathlib.Decide.{dec_le}
use lib.ListN.{length, drop, get_or, get_or-eq_default}
use Rattle.plan.specs.declared.Class.{Class}
use Rattle.plan.specs.declared.Class.TheVariants.{Digit}
use Rattle.plan.specs.Literals.{beyond}
use Rattle.plan.specs.Bytes.{class_of, digit_class, span, decimal, number_by}
use Rattle.plan.specs.Outcome.{cut_number, number_at}
use Rattle.laws.proofs.Reading.Spans.{span_more}

-- digits only make a value larger
grows : (v : ℕ) (l : List ℕ) → v ≤ decimal v l
grows v [] = le_refl v
grows v (b ∷ l) = le_trans (omega arith) (grows (v * 10 + (b - 48)) l)

-- a value that was cut at k is the same once more digits and the cut have come
cut : (k v : ℕ) (l : List ℕ) → min (decimal (min v k) l) k ≡ min (decimal v l) k
cut k v l = by_size (dec_le v k)
  where
    by_size : Dec (v ≤ k) → min (decimal (min v k) l) k ≡ min (decimal v l) k
    by_size (yes h) = let e : min v k ≡ v = omega arith in ap (λ (x : ℕ). min (decimal x l) k) e
    by_size (no h) =
        let e : min v k ≡ k = omega arith in
        ap (λ (x : ℕ). min (decimal x l) k) e ∙ omega (arith, grows v l, grows k l)

-- a number that does not start
module _ (s : List ℕ) (at : ℕ) where
  pub past_end : length s ≤ at → Err (WrongByte at) ≡ number_at s at
  past_end h = ap (λ (b : ℕ). cut_number (number_by (class_of b) (drop at s) at)) (sym (get_or-eq_default s 0 h))

  -- by the class of its first byte
  pub starting : (c : Class) → c ≡ class_of (get_or s at 0) → cut_number (number_by c (drop at s) at) ≡ number_at s at
  starting c e = ap (λ (k : Class). cut_number (number_by k (drop at s) at)) e

pub record Scan (s : List ℕ) (at v i : ℕ) : Type 0 where
  pub value : min (decimal v (span digit_class (drop i s))) beyond ≡ min (decimal 0 (span digit_class (drop at s))) beyond
  pub next : i + length (span digit_class (drop i s)) ≡ at + length (span digit_class (drop at s))
  pub small : v ≤ beyond
  pub first : class_of (get_or s at 0) ≡ Digit

module _ {s : List ℕ} {at v i : ℕ} (scan : Scan s at v i) where
  pub step : (w : ℕ) → i < length s → digit_class (class_of (get_or s i 0)) ≡ true → w ≡ min (v * 10 + (get_or s i 0 - 48)) beyond → Scan s at w (i + 1)
  step w h d e =
      let rest : List ℕ = span digit_class (drop (i + 1) s) in
      let one_more : span digit_class (drop i s) ≡ get_or s i 0 ∷ rest = span_more digit_class s i h d in
      let ends : i + suc (length rest) ≡ at + length (span digit_class (drop at s)) = ap (λ (l : List ℕ). i + length l) (sym one_more) ∙ scan.next in
      record {
        value =
            ap (λ (x : ℕ). min (decimal x rest) beyond) e
            ∙ (cut beyond (v * 10 + (get_or s i 0 - 48)) rest
            ∙ (ap (λ (l : List ℕ). min (decimal v l) beyond) (sym one_more) ∙ scan.value));
        next = omega arith;
        small = omega arith;
        first = scan.first;
      }
