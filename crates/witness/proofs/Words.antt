-- The word of a filled place, and those of a filled vector; the codes of resets.
use Prim.Native.Nat.{ℕ, zero, suc, ◌+◌, ◌/◌, ◌%◌, ◌^◌, ◌≤◌, ◌<◌}
use mathlib.Core.Path.{◌≡◌, refl, sym, ap, ap₂, ◌∙◌, subst}
use mathlib.Core.Bool.{Bool, true, false, cond}
use mathlib.Core.List.{List, [], ◌∷◌, map}
use native.Mathlib.Omega.{arith}
use borrow.Author.Tests.{ne_eqb}
use lib.Bits.{bit_and, and_mask}
use lib.ListN.{length, get_or, take, length-map}
use lib.Seq.{length-take-le}
use Rattle.std.specs.List.{filter}
use Rattle.plan.specs.Step.{v0, v1, vx, code_of, value_of, reset_value}
use Rattle.laws.proofs.Tables.{firsts}
use Rattle.step.specs.values.Words.{word, words}
use Rattle.step.proofs.values.Codes.{loaded}
use Rattle.plan.specs.Fillings.{is_x, x_of, x_count, bit_of, fill_from}
use Rattle.laws.proofs.Fillings.Numbering.{fill-length, fill-at, bit-small}
use Rattle.witness.specs.Asked.{codes_of}

abbrev pub filled_word : ℕ → ℕ → ℕ → ℕ
filled_word code k x = word (value_of (cond (is_x code) (bit_of k x) code))

module _ (code k x : ℕ) where
  pub word-0 : code ≡ 48 → 1 ≡ filled_word code k x
  word-0 e = sym (ap (λ (b : ℕ). filled_word b k x) e)

  pub word-1 : code ≡ 49 → 2 ≡ filled_word code k x
  word-1 e = sym (ap (λ (b : ℕ). filled_word b k x) e)

  bit_word : (w : ℕ) → w < 2 → word (value_of (48 + w)) ≡ 1 + w
  bit_word zero h = refl
  bit_word (suc zero) h = refl
  bit_word (suc (suc w)) h = absurd (omega arith)

  -- shift and mask
  pub word-bit : code ≡ 120 → 1 + bit_and (k / 2 ^ x) 1 ≡ filled_word code k x
  word-bit e =
      sym (ap (λ (b : ℕ). filled_word b k x) e
      ∙ (bit_word (k / 2 ^ x % 2) (bit-small k x) ∙ ap (λ (w : ℕ). 1 + w) (sym (and_mask (k / 2 ^ x) 1))))

  pub bit-fits : 1 + bit_and (k / 2 ^ x) 1 < 4294967296
  bit-fits = subst (λ (w : ℕ). 1 + w < 4294967296) (sym (and_mask (k / 2 ^ x) 1)) (small (k / 2 ^ x % 2) (bit-small k x))
    where
      small : (w : ℕ) → w < 2 → 1 + w < 4294967296
      small w h = omega arith

  pub word-other : (code ≡ 48 → ⊥) → (code ≡ 49 → ⊥) → (code ≡ 120 → ⊥) → 3 ≡ filled_word code k x
  word-other h0 h1 hx =
      sym (ap (λ (t : Bool). word (value_of (cond t (bit_of k x) code))) (ne_eqb code 120 hx)
      ∙ ap₂ (λ (s t : Bool). word (cond s v0 (cond t v1 vx))) (ne_eqb code 48 h0) (ne_eqb code 49 h1))

pub x-here : (code : ℕ) → code ≡ 120 → 1 ≡ x_of code
x-here code e = sym (ap x_of e)

pub x-not : (code : ℕ) → (code ≡ 120 → ⊥) → 0 ≡ x_of code
x-not code h = sym (ap (λ (t : Bool). cond t 1 0) (ne_eqb code 120 h))

-- the code of a reset
pub reset-other : (r : ℕ) → (r ≡ 0 → ⊥) → (r ≡ 1 → ⊥) → 120 ≡ code_of (reset_value r)
reset-other r h0 h1 = sym (ap₂ (λ (s t : Bool). code_of (cond s v0 (cond t v1 vx))) (ne_eqb r 0 h0) (ne_eqb r 1 h1))

-- those of n resets, place by place
pub codes-length : (resets : List ℕ) (n : ℕ) → n ≤ length resets → length (codes_of resets n) ≡ n
codes-length resets n h = length-map (map reset_value (take n resets)) code_of ∙ (length-map (take n resets) reset_value ∙ length-take-le n resets h)

pub code_at : (resets : List ℕ) (n i : ℕ) → n ≤ length resets → i < n → code_of (reset_value (get_or resets i 0)) ≡ get_or (codes_of resets n) i 0
code_at resets zero i h k = absurd (omega arith)
code_at [] (suc n) i h k = absurd (omega arith)
code_at (r ∷ resets) (suc n) zero h k = refl
code_at (r ∷ resets) (suc n) (suc i) h k = code_at resets n i (omega arith) (omega arith)

-- the words of a filled vector, place by place
pub filled-word-at : (k x : ℕ) (codes : List ℕ) (i : ℕ) → i < length codes
    → filled_word (get_or codes i 0) k (x + x_count (take i codes)) ≡ word (value_of (get_or (fill_from k x codes) i 0))
filled-word-at k x codes i h = ap (λ (b : ℕ). word (value_of b)) (sym (fill-at k x codes i h))

pub filled-words : (k x : ℕ) (codes : List ℕ)
    → firsts (λ i. word (value_of (get_or (fill_from k x codes) i 0))) (length codes) ≡ words (map value_of (fill_from k x codes))
filled-words k x codes =
    ap (firsts (λ i. word (value_of (get_or (fill_from k x codes) i 0)))) (sym (fill-length k x codes)) ∙ loaded (fill_from k x codes)

-- x that a filter keeps, among bytes and among the codes of resets
one_more : (t : Bool) (b : ℕ) (kept : List ℕ) (n : ℕ) → length kept ≡ n → length (cond t (b ∷ kept) kept) ≡ cond t 1 0 + n
one_more true b kept n e = omega arith
one_more false b kept n e = omega arith

pub x-filtered : (l : List ℕ) → length (filter is_x l) ≡ x_count l
x-filtered [] = refl
x-filtered (b ∷ l) = one_more (is_x b) b (filter is_x l) (x_count l) (x-filtered l)

pub resets-filtered : (l : List ℕ) → length (filter (λ r. is_x (code_of (reset_value r))) l) ≡ x_count (map code_of (map reset_value l))
resets-filtered [] = refl
resets-filtered (r ∷ l) =
    one_more (is_x (code_of (reset_value r))) r (filter (λ r. is_x (code_of (reset_value r))) l) (x_count (map code_of (map reset_value l)))
    (resets-filtered l)
