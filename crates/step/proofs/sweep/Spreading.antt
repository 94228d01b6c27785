-- A word for each literal: what stands there, the words of one variable more, and those of the leaves.
use Prim.Native.Nat.{ℕ, zero, suc, ◌+◌, ◌*◌, ◌≤◌, ◌<◌}
use mathlib.Core.Path.{◌≡◌, refl, sym, ap, ap₂, ◌∙◌, subst}
use mathlib.Core.List.{List, [], ◌∷◌, ◌++◌, append_assoc, map, map-append}
use native.Mathlib.Nat.{not-suc-le-zero}
use native.Mathlib.Numerals.{add-one}
use native.Mathlib.Omega.{arith}
use lib.ListN.{length, get_or, take, drop, set, length-append, length-map, get_or-append}
use lib.Seq.{length-take-le, take-suc, get_or-drop, sets-eq}
use Rattle.plan.specs.Literals.{var_of, sign_of}
use Rattle.plan.specs.Step.{Value, vx, signed_value, lit}
use Rattle.plan.specs.Outcome.{put}
use Rattle.laws.proofs.Put.{put-there, put-put}
use Rattle.laws.proofs.Running.Sweep.{at}
use Rattle.step.specs.values.Words.{may0, may1, told, values_at}
use Rattle.step.proofs.values.Parts.{word-before}
use Rattle.step.specs.sweep.Lookup.{lit_words, Spreads}
use Rattle.step.proofs.sweep.NotAnd.{may-not}

lit-words-length : (l : List Value) → length (lit_words l) ≡ 2 * length l
lit-words-length [] = refl
lit-words-length (a ∷ l) = omega (arith, lit-words-length l)

lit-words-append : (l m : List Value) → lit_words (l ++ m) ≡ lit_words l ++ lit_words m
lit-words-append [] m = refl
lit-words-append (a ∷ l) m = ap (λ (x : List ℕ). may1 a ∷ may0 a ∷ x) (lit-words-append l m)

lit-word-at : (vals : List Value) (l : ℕ) → var_of l < length vals → get_or (lit_words vals) l 0 ≡ may1 (lit (at vals) l)
lit-word-at [] l h = absurd (not-suc-le-zero h)
lit-word-at (a ∷ vals) zero h = refl
lit-word-at (a ∷ vals) (suc zero) h = sym (may-not a)
lit-word-at (a ∷ vals) (suc (suc l)) h =
    let var : var_of (suc (suc l)) ≡ suc (var_of l) = omega arith in
    let sign : sign_of (suc (suc l)) ≡ sign_of l = omega arith in
    lit-word-at vals l (omega arith)
    ∙ sym (ap₂ (λ (s : ℕ) (v : ℕ). may1 (signed_value s (get_or (a ∷ vals) v vx))) sign var)

-- two stores in a row
pub two-put : (t : List ℕ) (p x y : ℕ) → p + 2 ≤ length t → set (set t p x) (p + 1) y ≡ put t p (x ∷ y ∷ [])
two-put t p x y room =
    ap (λ (k : ℕ). set (set t p x) k y) (add-one p)
    ∙ (sets-eq (x ∷ y ∷ []) t p room ∙ append_assoc (take p t) (x ∷ y ∷ []) (drop (p + 2) t))

-- a word of those that are put
word-put : (l : List ℕ) (p : ℕ) (w : List ℕ) (k : ℕ) → p ≤ length l → k < length w → get_or (put l p w) (p + k) 0 ≡ get_or w k 0
word-put l p w k h i =
    sym (get_or-drop p (put l p w) k 0)
    ∙ (ap (λ (x : List ℕ). get_or x k 0) (put-there l p w h) ∙ get_or-append w (drop (p + length w) l) 0 k i)

-- the values of variables 0, 1 .. at their literals, from `lits` on
pub record Spread (lits : ℕ) (vals : List Value) (t₀ t : List ℕ) : Type 0 where
  pub same : length t ≡ length t₀
  pub put-there : t ≡ put t₀ lits (lit_words vals)

module _ {lits : ℕ} {vals : List Value} {t₀ t : List ℕ} (s : Spread lits vals t₀ t) where
  pub literal-word : lits ≤ length t₀ → (l : ℕ) → var_of l < length vals → get_or t (lits + l) 0 ≡ may1 (lit (at vals) l)
  literal-word h l k =
      ap (λ (x : List ℕ). get_or x (lits + l) 0) s.put-there
      ∙ (word-put t₀ lits (lit_words vals) l h (omega (arith, lit-words-length vals)) ∙ lit-word-at vals l k)

  -- one variable more
  pub spread-more : (a : Value) (to : ℕ) (t' : List ℕ) → to ≡ lits + 2 * length vals → to + 2 ≤ length t₀ → length t' ≡ length t
      → t' ≡ put t to (lit_words (a ∷ []))
      → Spread lits (vals ++ (a ∷ [])) t₀ t'
  spread-more a to t' here room len e = record { same = len ∙ s.same; put-there = stored }
    where
      two : List ℕ
      two = lit_words (a ∷ [])

      place : to ≡ lits + length (lit_words vals)
      place = omega (arith, lit-words-length vals)

      stored : t' ≡ put t₀ lits (lit_words (vals ++ (a ∷ [])))
      stored =
          e ∙ (ap₂ (λ (l : List ℕ) (k : ℕ). put l k two) s.put-there place
          ∙ (put-put t₀ lits (lit_words vals) two (omega (arith, place, length-append (lit_words vals) two))
          ∙ ap (put t₀ lits) (sym (lit-words-append vals (a ∷ [])))))

-- the values of n words that stand first
pub values_length : (t : List ℕ) (n : ℕ) → n ≤ length t → length (values_at t 0 n) ≡ n
values_length t n h = length-map (take n t) told ∙ length-take-le n t h

values-more : (t : List ℕ) (n : ℕ) → n < length t → values_at t 0 (n + 1) ≡ values_at t 0 n ++ (told (get_or t n 0) ∷ [])
values-more t n h =
    ap (λ (k : ℕ). map told (take k t)) (add-one n)
    ∙ (ap (map told) (take-suc t n 0 h) ∙ map-append told (take n t) (get_or t n 0 ∷ []))

-- the leaves' words one by one
module _ {n lits : ℕ} {t₀ : List ℕ} (p : Spreads n lits t₀) where
  module _ (v : ℕ) (t : List ℕ) (h : v < n) (s : Spread lits (values_at t₀ 0 v) t₀ t) where
    leaf-word : get_or t v 0 ≡ get_or t₀ v 0
    leaf-word =
        ap (λ (l : List ℕ). get_or l v 0) s.put-there
        ∙ word-before t₀ lits (lit_words (values_at t₀ 0 v)) (omega (arith, p.table-long)) v (omega (arith, p.before))

    pub leaves-more : (t' : List ℕ) → length t' ≡ length t → t' ≡ put t (lits + 2 * v) (lit_words (told (get_or t v 0) ∷ []))
        → Spread lits (values_at t₀ 0 (v + 1)) t₀ t'
    leaves-more t' len e =
        let count : length (values_at t₀ 0 v) ≡ v = values_length t₀ v (omega (arith, p.table-long)) in
        subst (λ (l : List Value). Spread lits l t₀ t')
        (ap (λ (w : ℕ). values_at t₀ 0 v ++ (told w ∷ [])) leaf-word ∙ sym (values-more t₀ v (omega (arith, p.table-long))))
        (spread-more s (told (get_or t v 0)) (lits + 2 * v) t' (omega (arith, count)) (omega (arith, p.table-long)) len e)
