-- Planes in words: two words each, from the start of a table on.
use Prim.Native.Nat.{ℕ, zero, suc, ◌+◌, ◌*◌, ◌/◌, ◌%◌, ◌≤◌, ◌<◌}
use mathlib.Core.Path.{◌≡◌, refl, sym, ap, ap₂, ◌∙◌}
use mathlib.Core.List.{List, [], ◌∷◌, ◌++◌}
use native.Mathlib.Nat.{not-suc-le-zero}
use native.Mathlib.Omega.{arith}
use lib.ListN.{length, get_or, take, drop, length-append}
use lib.Seq.{take-add, get_or-take}
use Rattle.plan.specs.Outcome.{put}
use Rattle.step.proofs.values.Parts.{front-stays, part-put}
use Rattle.rows.specs.Planes.Planes.{pairs}
use Rattle.rows.specs.lanes.Words.{plane_words, plane_at, Begins}

pub words-length : (q : List ℕ) → length (plane_words q) ≡ 2 * length q
words-length [] = refl
words-length (p ∷ q) = omega (arith, words-length q)

words_append : (q r : List ℕ) → plane_words (q ++ r) ≡ plane_words q ++ plane_words r
words_append [] r = refl
words_append (p ∷ q) r = ap (λ (l : List ℕ). p % 4294967296 ∷ p / 4294967296 ∷ l) (words_append q r)

-- what the words of a plane make up
words-plane : (q : List ℕ) (l : ℕ) → l < length q → plane_at (plane_words q) l ≡ get_or q l 0
words-plane [] l h = absurd (not-suc-le-zero h)
words-plane (p ∷ q) zero h = omega arith
words-plane (p ∷ q) (suc l) h =
    let low : 2 * suc l ≡ suc (suc (2 * l)) = omega arith in
    let high : 2 * suc l + 1 ≡ suc (suc (2 * l + 1)) = omega arith in
    ap₂ (λ (a b : ℕ). get_or (plane_words (p ∷ q)) a 0 + get_or (plane_words (p ∷ q)) b 0 * 4294967296) low high
    ∙ words-plane q l (omega arith)

module _ (q t : List ℕ) (b : Begins q t) where
  word-there : (p : ℕ) → p < 2 * length q → get_or t p 0 ≡ get_or (plane_words q) p 0
  word-there p h = sym (get_or-take (2 * length q) t p 0 h) ∙ ap (λ (l : List ℕ). get_or l p 0) b

  pub begins-plane : (l : ℕ) → l < length q → plane_at t l ≡ get_or q l 0
  begins-plane l h =
      ap₂ (λ (x y : ℕ). x + y * 4294967296) (word-there (2 * l) (omega arith)) (word-there (2 * l + 1) (omega arith))
      ∙ words-plane q l h

  -- planes put behind those that a table begins with
  pub begins-more : (r : List ℕ) (to : ℕ) (t' : List ℕ) → to ≡ 2 * length q → to + 2 * length r ≤ length t
      → t' ≡ put t to (plane_words r)
      → Begins (q ++ r) t'
  begins-more r to t' here room e =
      ap (λ (n : ℕ). take n t') whole
      ∙ (take-add to (2 * length r) t'
      ∙ (ap₂ (λ (x y : List ℕ). x ++ y) front back ∙ sym (words_append q r)))
    where
      whole : 2 * length (q ++ r) ≡ to + 2 * length r
      whole = omega (arith, length-append q r)

      front : take to t' ≡ plane_words q
      front =
          ap (take to) e ∙ (front-stays t to (plane_words r) (omega arith) to (omega arith)
          ∙ (ap (λ (n : ℕ). take n t) here ∙ b))

      back : take (2 * length r) (drop to t') ≡ plane_words r
      back =
          ap₂ (λ (n : ℕ) (l : List ℕ). take n (drop to l)) (sym (words-length r)) e
          ∙ part-put t to (plane_words r) (omega arith)

pub begins-none : (t : List ℕ) → Begins [] t
begins-none t = refl

pub pairs-length : (f g : ℕ → ℕ) (n : ℕ) → length (pairs f g n) ≡ 2 * n
pairs-length f g zero = refl
pairs-length f g (suc n) = omega (arith, length-append (pairs f g n) (f n ∷ g n ∷ []), pairs-length f g n)
