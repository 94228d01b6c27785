-- Columns of a table as lists: outputs, and the next states of latches.
use Prim.Native.Nat.{ℕ, zero, suc, ◌+◌, ◌*◌, ◌<◌, ◌≤◌}
use mathlib.Core.Path.{◌≡◌, refl, sym, ap, ◌∙◌}
use mathlib.Core.List.{List, [], ◌∷◌, ◌++◌, map, map-append}
use native.Mathlib.Omega.{arith}
use native.Mathlib.Nat.{not-suc-le-zero}
use native.Mathlib.Decide.{dec_lt}
use lib.ListN.{length, get_or, take, get_or-append}
use lib.Seq.{get_or_at}
use Rattle.plan.specs.Circuit.{Latch, latch_of, rows_of, nexts}
use Rattle.laws.proofs.Tables.{firsts, length-firsts, latch_at, latches-rows, words_take}
use Rattle.convert.specs.renumber.Renumbered.{literal_by, word_at, column_by}

map-firsts : {A B : Type 0} (f : A → B) (at : ℕ → A) (n : ℕ) → firsts (λ i. f (at i)) n ≡ map f (firsts at n)
map-firsts f at zero = refl
map-firsts {B = B} f at (suc n) =
    ap (λ (l : List B). l ++ (f (at n) ∷ [])) (map-firsts f at n) ∙ sym (map-append f (firsts at n) (at n ∷ []))

nexts-snoc : (ls : List Latch) (l : Latch) → nexts (ls ++ (l ∷ [])) ≡ nexts ls ++ (l.next ∷ [])
nexts-snoc [] l = refl
nexts-snoc (x ∷ ls) l = ap (λ (xs : List ℕ). x.next ∷ xs) (nexts-snoc ls l)

nexts-firsts : (at : ℕ → Latch) (n : ℕ) → nexts (firsts at n) ≡ firsts (λ i. (at i).next) n
nexts-firsts at zero = refl
nexts-firsts at (suc n) = nexts-snoc (firsts at n) (at n) ∙ ap (λ (l : List ℕ). l ++ ((at n).next ∷ [])) (nexts-firsts at n)

pub nexts-column : (t latches : List ℕ) (n : ℕ)
    → firsts (column_by t latches 2 1) n ≡ map (literal_by t) (nexts (map latch_of (rows_of 2 n latches)))
nexts-column t latches n =
    map-firsts (literal_by t) (word_at latches 2 1) n
    ∙ ap (map (literal_by t)) (sym (ap nexts (latches-rows latches n) ∙ nexts-firsts (latch_at latches) n))

pub outputs-column : (t outputs : List ℕ) (n : ℕ) → n ≤ length outputs
    → firsts (column_by t outputs 1 0) n ≡ map (literal_by t) (take n outputs)
outputs-column t outputs n h =
    map-firsts (literal_by t) (word_at outputs 1 0) n
    ∙ ap (map (literal_by t)) (ap (λ (at : ℕ → ℕ). firsts at n) (λ j i. one-row i j) ∙ sym (words_take outputs n h))
  where
    one-row : (i : ℕ) → word_at outputs 1 0 i ≡ get_or outputs i 0
    one-row i = let at : 1 * i + 0 ≡ i = omega arith in ap (λ (k : ℕ). get_or outputs k 0) at

-- what stands at a place
pub get_d-firsts : {A : Type 0} (at : ℕ → A) (n i : ℕ) (d : A) → i < n → get_or (firsts at n) i d ≡ at i
get_d-firsts at zero i d h = absurd (not-suc-le-zero h)
get_d-firsts at (suc n) i d h = by_last (dec_lt i n) (get_d-firsts at n i d)
  where
    by_last : Dec (i < n) → (i < n → get_or (firsts at n) i d ≡ at i) → get_or (firsts at n ++ (at n ∷ [])) i d ≡ at i
    by_last (yes k) f = get_or-append (firsts at n) (at n ∷ []) d i (omega (arith, length-firsts at n)) ∙ f k
    by_last (no k) f =
        let last : i ≡ n = omega arith in
        get_or_at (firsts at n) (at n) [] d i (length-firsts at n ∙ sym last) ∙ ap at (sym last)
