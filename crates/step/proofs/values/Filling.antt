-- A run of words that is filled from its first place on, and parts of tables, each as what stands at its places.
use Prim.Native.Nat.{ℕ, zero, suc, ◌+◌, ◌≤◌, ◌<◌}
use mathlib.Core.Path.{◌≡◌, refl, sym, ap, ap₂, ◌∙◌, subst}
use mathlib.Core.List.{List, [], ◌∷◌, ◌++◌, map, map-append}
use native.Mathlib.Numerals.{add-one}
use native.Mathlib.Omega.{arith}
use lib.ListN.{length, get_or, take, drop, set, length-append, length-drop, length-set}
use lib.Seq.{get_or-drop}
use Rattle.plan.specs.Outcome.{put}
use Rattle.laws.proofs.Put.{put-none, put_one, put-put}
use Rattle.laws.proofs.Tables.{firsts, length-firsts, words_take}
use Rattle.step.proofs.values.Parts.{word-past}

pub map-firsts : {A B : Type 0} (f : A → B) (at : ℕ → A) (n : ℕ) → map f (firsts at n) ≡ firsts (λ i. f (at i)) n
map-firsts f at zero = refl
map-firsts f at (suc n) = map-append f (firsts at n) (at n ∷ []) ∙ ap (λ l. l ++ (f (at n) ∷ [])) (map-firsts f at n)

-- n words from a position on
pub part-firsts : (t : List ℕ) (from n : ℕ) → from + n ≤ length t → take n (drop from t) ≡ firsts (λ i. get_or t (from + i) 0) n
part-firsts t from n h =
    words_take (drop from t) n (omega (arith, length-drop from t))
    ∙ ap (λ (at : ℕ → ℕ). firsts at n) (λ j i. get_or-drop from t i 0 j)

-- i words, each what `at` says, were put from `first` on
pub record Filled (t₀ : List ℕ) (first : ℕ) (at : ℕ → ℕ) (i : ℕ) (t : List ℕ) : Type 0 where
  pub same : length t ≡ length t₀
  pub put-there : t ≡ put t₀ first (firsts at i)

module _ (t₀ : List ℕ) (first : ℕ) (at : ℕ → ℕ) where
  pub filled_none : Filled t₀ first at 0 t₀
  filled_none = record { same = refl; put-there = sym (put-none t₀ first) }

  -- one more word
  pub filled_more : (i : ℕ) (t : List ℕ) (x : ℕ) → Filled t₀ first at i t → first + i < length t₀ → x ≡ at i
      → Filled t₀ first at (i + 1) (set t (first + i) x)
  filled_more i t x f h e = record { same = length-set t (first + i) x ∙ f.same; put-there = stored }
    where
      n : length (firsts at i) ≡ i
      n = length-firsts at i

      stored : set t (first + i) x ≡ put t₀ first (firsts at (i + 1))
      stored =
          put_one t (first + i) x (omega (arith, f.same))
          ∙ ap₂ (λ (l : List ℕ) (y : ℕ). put l (first + i) (y ∷ [])) f.put-there e
          ∙ ap (λ (k : ℕ). put (put t₀ first (firsts at i)) (first + k) (at i ∷ [])) (sym n)
          ∙ put-put t₀ first (firsts at i) (at i ∷ []) (omega (arith, n, length-append (firsts at i) (at i ∷ [])))
          ∙ ap (λ (k : ℕ). put t₀ first (firsts at k)) (sym (add-one i))

  -- all of n words
  pub filled-all : (n i : ℕ) (t : List ℕ) → Filled t₀ first at i t → i ≡ n → t ≡ put t₀ first (firsts at n)
  filled-all n i t f e = f.put-there ∙ ap (λ (k : ℕ). put t₀ first (firsts at k)) e

  -- a word past those that are filled is as it was
  pub filled-past : (i p : ℕ) (t : List ℕ) → Filled t₀ first at i t → first ≤ length t₀ → first + i ≤ p → get_or t p 0 ≡ get_or t₀ p 0
  filled-past i p t f h k =
      ap (λ (l : List ℕ). get_or l p 0) f.put-there ∙ word-past t₀ first (firsts at i) h p (omega (arith, length-firsts at i))

-- the same from the table's start
pub filled-front : (t₀ : List ℕ) (at : ℕ → ℕ) (i : ℕ) (t : List ℕ) (x : ℕ) → Filled t₀ 0 at i t → i < length t₀ → x ≡ at i
    → Filled t₀ 0 at (i + 1) (set t i x)
filled-front t₀ at i t x f h e =
    let here : 0 + i ≡ i = omega arith in
    subst (λ (k : ℕ). Filled t₀ 0 at (i + 1) (set t k x)) here (filled_more t₀ 0 at i t x f (omega arith) e)
