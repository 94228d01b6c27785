-- The loops over the words of lines: one turn takes one word.
use Prim.Native.Nat.{ℕ, suc, ◌+◌, ◌*◌, ◌-◌, ◌<◌, ◌≤◌}
use mathlib.Core.Path.{◌≡◌, refl, sym, ap, ap₂, subst, ◌∙◌}
use mathlib.Core.List.{List, [], ◌∷◌, ◌++◌}
use native.Mathlib.Omega.{arith}
use lib.ListN.{length, get_or, set, take, length-append}
use lib.Seq.{get_or-take, length-take-le}
use Rattle.plan.specs.Circuit.{rows_of}
use Rattle.plan.specs.Bytes.{digits, end_of, lines_of}
use Rattle.plan.specs.Outcome.{put}
use Rattle.laws.proofs.Put.{put_one, put-put, put-length}
use Rattle.write.specs.print.Words.{following, word_bytes, words_from}
use Rattle.write.proofs.print.Lines.{lines-words}
use Rattle.write.proofs.print.Filling.{Filling, none_filled, part_room, part_filled}

word-length : (j w : ℕ) → length (word_bytes j w) ≡ length (digits w) + 1
word-length j w = length-append (digits w) (end_of j ∷ [])

-- a number and then the byte after it
module _ (out : List ℕ) (at j w : ℕ) (fits : at + length (word_bytes j w) ≤ length out) where
  pub number_fits : at + length (digits w) ≤ length out
  number_fits = omega (arith, fits, word-length j w)

  module _ (out' : List ℕ) (end : ℕ) (o : out' ≡ put out at (digits w)) (e : end ≡ at + length (digits w)) where
    pub word-ends : end + 1 ≡ at + length (word_bytes j w)
    word-ends = omega (arith, e, word-length j w)

    pub word-put : (byte : ℕ) → byte ≡ end_of j → set out' end byte ≡ put out at (word_bytes j w)
    word-put byte b =
        let d : List ℕ = digits w in
        let same : length (put out at d) ≡ length out = put-length out at d number_fits in
        ap (λ (l : List ℕ). set l end byte) o
        ∙ (ap₂ (λ (k b : ℕ). set (put out at d) k b) e b
        ∙ (put_one (put out at d) (at + length d) (end_of j) (omega (arith, fits, word-length j w)) ∙ put-put out at d (end_of j ∷ []) fits))

-- a word of the first ones of a table
pub word_taken : (t : List ℕ) (m i : ℕ) → m ≤ length t → i < length (take m t) → (i < m) × (get_or (take m t) i 0 ≡ get_or t i 0)
word_taken t m i inside h = let below : i < m = omega (arith, length-take-le m t inside) in (below, get_or-take m t i 0 below)

-- the bytes of the first i words are counted
pub record Counted (t : List ℕ) (k n sum i : ℕ) : Type 0 where
  pub left : ℕ
  pub bound : i ≤ k * n
  pub few : sum ≤ 11 * i
  pub total : sum + length (words_from t (k - 1) (k * n - i) left i) ≡ length (lines_of (rows_of k n t))

-- the bytes of the first i words are written
pub record Printed (t : List ℕ) (k n : ℕ) (out₀ : List ℕ) (at : ℕ) (out : List ℕ) (next left i : ℕ) : Type 0 where
  pub bound : i ≤ k * n
  pub fill : Filling out₀ at (lines_of (rows_of k n t)) out next (words_from t (k - 1) (k * n - i) left i)

module _ (t : List ℕ) (k n : ℕ) where
  whole : 0 < k → k * n ≤ length t → words_from t (k - 1) (k * n - 0) (k - 1) 0 ≡ lines_of (rows_of k n t)
  whole some inside =
      let all : k * n - 0 ≡ k * n = omega arith in
      ap (λ (m : ℕ). words_from t (k - 1) m (k - 1) 0) all ∙ lines-words t (k - 1) k n 0 (k * n) (omega arith) refl (omega arith)

  -- the word at i, then the rest
  abbrev rest : ℕ → ℕ → List ℕ
  rest j i = words_from t (k - 1) (k * n - (i + 1)) (following (k - 1) j) (i + 1)

  one_word : (j i : ℕ) → i < k * n → words_from t (k - 1) (k * n - i) j i ≡ word_bytes j (get_or t i 0) ++ rest j i
  one_word j i h =
      let more : k * n - i ≡ suc (k * n - (i + 1)) = omega arith in
      ap (λ (m : ℕ). words_from t (k - 1) m j i) more

  pub none-counted : 0 < k → k * n ≤ length t → Counted t k n 0 0
  none-counted some inside =
      let w = ap length (whole some inside) in
      record { left = k - 1; bound = omega arith; few = omega arith; total = omega (arith, w) }

  pub one-counted : (sum i d : ℕ) → Counted t k n sum i → i < k * n → d ≡ length (digits (get_or t i 0)) → d ≤ 10
      → Counted t k n (sum + (d + 1)) (i + 1)
  one-counted sum i d s h d-is d-few =
      let j : ℕ = s.left in
      let size : length (words_from t (k - 1) (k * n - i) j i) ≡ length (word_bytes j (get_or t i 0)) + length (rest j i)
      = ap length (one_word j i h) ∙ length-append (word_bytes j (get_or t i 0)) (rest j i) in
      let one : length (word_bytes j (get_or t i 0)) ≡ length (digits (get_or t i 0)) + 1 = word-length j (get_or t i 0) in
      let before : sum + length (words_from t (k - 1) (k * n - i) j i) ≡ length (lines_of (rows_of k n t)) = s.total in
      let few : sum ≤ 11 * i = s.few in
      let total : sum + (d + 1) + length (rest j i) ≡ length (lines_of (rows_of k n t)) = omega arith in
      record { left = following (k - 1) j; bound = omega arith; few = omega arith; total = total }

  pub none-printed : (out : List ℕ) (at : ℕ) → 0 < k → k * n ≤ length t → at + length (lines_of (rows_of k n t)) ≤ length out
      → Printed t k n out at out at (k - 1) 0
  none-printed out at some inside fits = record {
    bound = omega arith;
    fill =
        subst (λ (l : List ℕ). Filling out at (lines_of (rows_of k n t)) out at l) (sym (whole some inside))
        (none_filled out at (lines_of (rows_of k n t)) fits);
  }

  module _ (out₀ : List ℕ) (at : ℕ) (out : List ℕ) (next left i : ℕ) (s : Printed t k n out₀ at out next left i) where
    pub word_fits : i < k * n → next + length (word_bytes left (get_or t i 0)) ≤ length out
    word_fits h = part_room s.fill (word_bytes left (get_or t i 0)) (rest left i) (one_word left i h)

    pub one-printed : (out' : List ℕ) (next' left' : ℕ) → i < k * n → out' ≡ put out next (word_bytes left (get_or t i 0))
        → next' ≡ next + length (word_bytes left (get_or t i 0)) → left' ≡ following (k - 1) left
        → Printed t k n out₀ at out' next' left' (i + 1)
    one-printed out' next' left' h o p q = record {
      bound = omega arith;
      fill =
          subst
          (λ (j : ℕ). Filling out₀ at (lines_of (rows_of k n t)) out' next' (words_from t (k - 1) (k * n - (i + 1)) j (i + 1)))
          (sym q)
          (part_filled s.fill (word_bytes left (get_or t i 0)) (rest left i) out' next' (one_word left i h) o p);
    }
