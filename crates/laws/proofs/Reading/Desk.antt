-- The desk question refuses with one fixed number, 2 ^ 64 - 1, and gives it exactly if the table's number is none of 1 to 5 and 7 to 9 or the header
-- is refused: no table needs so many words.
use Prim.Native.Nat.{ℕ, zero, suc, ◌-◌, ◌^◌, ◌≤◌}
use mathlib.Core.Path.{◌≡◌, refl, sym, ap, ◌∙◌}
use mathlib.Core.Bool.{Bool, true, false, cond, ◌&&◌, ◌||◌}
use mathlib.Core.Logic.{◌↔◌, ◌⊎◌, inl, inr}
use mathlib.Core.List.{List, [], ◌∷◌}
use native.Mathlib.Omega.{arith}
use lib.Dec.{leb}
use lib.ListN.{get_or}
use Rattle.plan.specs.declared.Counts.{Counts}
use Rattle.plan.specs.declared.Version.TheVariants.{V19}
use Rattle.plan.specs.declared.Refusal.{Refusal}
use Rattle.plan.specs.Refusals.{Parse, got, refused}
use Rattle.plan.specs.Header.{list_of, Form, text, binary, Head, header, scratch_to_read, words_to_read, words_by, words_for}
use Rattle.laws.proofs.Reading.Headers.{AllMost, header-took}

-- one of the tables that the question is asked of
abbrev pub is_table : ℕ → Bool
is_table t = (leb 1 t && leb t 5) || (leb 7 t && leb t 9)

-- words that are few
abbrev AllFew : List ℕ → Type 0
AllFew [] = Unit {0}
AllFew (x ∷ l) = (x ≤ 16777216) × AllFew l

few-at : (l : List ℕ) → AllFew l → (k : ℕ) → get_or l k 0 ≤ 16777216
few-at [] h k = omega arith
few-at (x ∷ l) h zero = h.0
few-at (x ∷ l) h (suc k) = few-at l h.1 k

scratch-few : (f : Form) (n : Counts) → AllMost (list_of n) → scratch_to_read f n ≤ 16777216
scratch-few text n h = omega (arith, h.0, h.1.1.1.0, h.1.1.1.1.1.0, h.1.1.1.1.1.1.0)
scratch-few binary n h = omega (arith, h.1.0, h.1.1.0, h.1.1.1.0, h.1.1.1.1.1.0, h.1.1.1.1.1.1.0)

words-few : (f : Form) (n : Counts) → AllMost (list_of n) → AllFew (words_to_read f n)
words-few f n h =
    let b = h.1.1.1.1.1 in (
      omega (arith, h.1.0),
      (
        omega (arith, h.1.1.0),
        (
          omega (arith, h.1.1.1.0),
          (
            omega (arith, h.1.1.1.1.0),
            (scratch-few f n h, (omega arith, (omega (arith, h.1.1.0), (omega (arith, b.0), (omega (arith, b.1.0), tt))))),
          ),
        ),
      ),
    )

pub desk-refuses : (file : List ℕ) (t : ℕ)
    → (words_for file t ≡ 2 ^ 64 - 1) ↔ (((r : Refusal) × (header V19 file 0 ≡ refused r)) ⊎ (is_table t ≡ false))
desk-refuses file t = go (header V19 file 0) refl (is_table t) refl
  where
    go : (p : Parse Head) → header V19 file 0 ≡ p → (b : Bool) → is_table t ≡ b
        → (words_for file t ≡ 2 ^ 64 - 1) ↔ (((r : Refusal) × (header V19 file 0 ≡ refused r)) ⊎ (is_table t ≡ false))
    go (refused r) q b s = (λ e. inl (r, q), λ h. ap (words_by t) q)
    go (got h n) q false s = (
      λ e. inr s,
      λ k. ap (words_by t) q ∙ ap (λ (x : Bool). cond x (get_or (words_to_read h.form h.counts) (t - 1) 0) (2 ^ 64 - 1)) s,
    )
    go (got h n) q true s = (λ e. absurd (many e), λ k. absurd (neither k))
      where
        words : words_for file t ≡ get_or (words_to_read h.form h.counts) (t - 1) 0
        words = ap (words_by t) q ∙ ap (λ (x : Bool). cond x (get_or (words_to_read h.form h.counts) (t - 1) 0) (2 ^ 64 - 1)) s

        many : words_for file t ≡ 2 ^ 64 - 1 → ⊥
        many e =
            let few = few-at (words_to_read h.form h.counts) (words-few h.form h.counts (header-took file V19 0 h n q).3) (t - 1) in
            let same : get_or (words_to_read h.form h.counts) (t - 1) 0 ≡ 2 ^ 64 - 1 = sym words ∙ e in
            omega (arith, few, same)

        neither : ((r : Refusal) × (header V19 file 0 ≡ refused r)) ⊎ (is_table t ≡ false) → ⊥
        neither (inl k) = let z : ◌≡◌ {A = Parse Head} (got h n) (refused k.0) = sym q ∙ k.1 in let d : ◌≡◌ {A = ℕ} 0 1 = cc in omega arith
        neither (inr k) = let z : true ≡ false = sym s ∙ k in let d : ◌≡◌ {A = ℕ} 0 1 = cc in omega arith
