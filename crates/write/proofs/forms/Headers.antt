-- The header line: four bytes, then the counts as one line of five to seven words.
use Prim.Native.Nat.{ℕ, suc, zero, ◌+◌, ◌<◌, ◌≤◌}
use mathlib.Core.Path.{◌≡◌, refl, ap, ◌∙◌}
use mathlib.Core.List.{List, [], ◌∷◌, append-nil}
use native.Mathlib.Omega.{arith}
use lib.ListN.{length, take, set}
use Rattle.plan.specs.declared.Counts.{Counts}
use Rattle.plan.specs.Circuit.{rows_of}
use Rattle.plan.specs.Bytes.{line_of, lines_of, unless_zero}
use Rattle.plan.specs.Header.{list_of, short_counts}
use Rattle.plan.specs.Outcome.{put}
use Rattle.laws.proofs.Put.{put-put}
use Rattle.write.specs.forms.Forms.{head_bytes}

abbrev magic : ℕ → List ℕ
magic letter = 97 ∷ letter ∷ 103 ∷ 32 ∷ []

-- trailing zeros after A left off
both_left : (m i l o a b : ℕ) (c : ℕ) → 0 < c → m ∷ i ∷ l ∷ o ∷ a ∷ b ∷ c ∷ [] ≡ m ∷ i ∷ l ∷ o ∷ a ∷ unless_zero b (unless_zero c [])
both_left m i l o a b zero h = absurd (omega arith)
both_left m i l o a zero (suc c) h = refl
both_left m i l o a (suc b) (suc c) h = refl

one_left : (m i l o a b : ℕ) (c : ℕ) → c ≡ 0 → 0 < b → m ∷ i ∷ l ∷ o ∷ a ∷ b ∷ [] ≡ m ∷ i ∷ l ∷ o ∷ a ∷ unless_zero b (unless_zero c [])
one_left m i l o a zero c e h = absurd (omega arith)
one_left m i l o a (suc b) zero e h = refl
one_left m i l o a (suc b) (suc c) e h = absurd (omega arith)

none_left : (m i l o a b : ℕ) (c : ℕ) → c ≡ 0 → b ≡ 0 → m ∷ i ∷ l ∷ o ∷ a ∷ [] ≡ m ∷ i ∷ l ∷ o ∷ a ∷ unless_zero b (unless_zero c [])
none_left m i l o a zero zero e h = refl
none_left m i l o a zero (suc c) e h = absurd (omega arith)
none_left m i l o a (suc b) c e h = absurd (omega arith)

module _ (n : Counts) where
  pub seven-told : 0 < n.C → take 7 (list_of n) ≡ short_counts n
  seven-told h = both_left n.M n.I n.L n.O n.A n.B n.C h

  pub six-told : n.C ≡ 0 → 0 < n.B → take 6 (list_of n) ≡ short_counts n
  six-told e h = one_left n.M n.I n.L n.O n.A n.B n.C e h

  pub five-told : n.C ≡ 0 → n.B ≡ 0 → take 5 (list_of n) ≡ short_counts n
  five-told e h = none_left n.M n.I n.L n.O n.A n.B n.C e h

-- one line of them
pub line-of-counts : (words : List ℕ) (k : ℕ) (n : Counts) → words ≡ list_of n → take k (list_of n) ≡ short_counts n
    → lines_of (rows_of k 1 words) ≡ line_of (short_counts n)
line-of-counts words k n e t =
    ap (λ (l : List ℕ). lines_of (rows_of k 1 l)) e ∙ (append-nil (line_of (take k (list_of n))) ∙ ap line_of t)

abbrev pub four : List ℕ → ℕ → List ℕ
four out letter = set (set (set (set out 0 97) 1 letter) 2 103) 3 32

four-put : (out : List ℕ) (letter : ℕ) → 4 ≤ length out → four out letter ≡ put out 0 (magic letter)
four-put [] letter h = absurd (omega arith)
four-put (a ∷ []) letter h = absurd (omega arith)
four-put (a ∷ b ∷ []) letter h = absurd (omega arith)
four-put (a ∷ b ∷ c ∷ []) letter h = absurd (omega arith)
four-put (a ∷ b ∷ c ∷ d ∷ out) letter h = refl

module _ (out : List ℕ) (letter : ℕ) (n : Counts) (fits : length (head_bytes letter n) ≤ length out)
    (words : List ℕ) (k : ℕ) (words_are : words ≡ list_of n) (told : take k (list_of n) ≡ short_counts n) where
  pub line-fits : 4 + length (lines_of (rows_of k 1 words)) ≤ length out
  line-fits = omega (arith, ap length (line-of-counts words k n words_are told))

  pub header-ends : 4 + length (lines_of (rows_of k 1 words)) ≡ length (head_bytes letter n)
  header-ends = omega (arith, ap length (line-of-counts words k n words_are told))

  pub header-put : put (four out letter) 4 (lines_of (rows_of k 1 words)) ≡ put out 0 (head_bytes letter n)
  header-put =
      let long : 4 ≤ length out = omega arith in
      ap (λ (l : List ℕ). put l 4 (lines_of (rows_of k 1 words))) (four-put out letter long)
      ∙ (ap (put (put out 0 (magic letter)) 4) (line-of-counts words k n words_are told)
      ∙ put-put out 0 (magic letter) (line_of (short_counts n)) (omega arith))
