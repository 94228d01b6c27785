-- Rows without their first, and latches with their resets.
use Prim.Native.Nat.{ℕ, suc, ◌+◌, ◌-◌, ◌*◌, ◌≤◌, ◌<◌}
use mathlib.Core.Path.{◌≡◌, refl, ap, ap₂, ◌∙◌}
use mathlib.Core.Bool.{Bool, true, false, ◌&&◌}
use mathlib.Core.List.{List, map}
use native.Mathlib.Numerals.{add-one}
use native.Mathlib.Omega.{arith}
use lib.ListN.{length, get_or, take, drop}
use lib.Seq.{drop-cons, drop-drop, get_or-take, get_or-drop}
use Rattle.plan.specs.Literals.{is_reset}
use Rattle.plan.specs.Circuit.{latch_of, resets_ok, inside, all_inside, rows_of}
use Rattle.laws.proofs.Tables.{next_row}

-- what is left of n after i has a first
left_one : (n i : ℕ) → i < n → n - i ≡ suc (n - (i + 1))
left_one n i h = omega arith

-- the rows left after i
module _ (d : Bool) (m : ℕ) (t : List ℕ) (k n : ℕ) where
  abbrev pub rows_left : ℕ → Bool
  rows_left i = all_inside d m (rows_of k (n - i) (drop (k * i) t))

  -- row i decides, then the rows after it
  row_first : (i : ℕ) → i < n → rows_left i ≡ (inside d m (take k (drop (k * i) t)) && rows_left (i + 1))
  row_first i h =
      ap (λ (left : ℕ). all_inside d m (rows_of k left (drop (k * i) t))) (left_one n i h)
      ∙ ap (λ (l : List ℕ). inside d m (take k (drop (k * i) t)) && all_inside d m (rows_of k (n - (i + 1)) l))
      (drop-drop k (k * i) t ∙ ap (λ (p : ℕ). drop p t) (next_row k i (k * i) refl))

  pub row_inside : (i : ℕ) → i < n → inside d m (take k (drop (k * i) t)) ≡ true → rows_left i ≡ rows_left (i + 1)
  row_inside i h e = row_first i h ∙ ap (λ (b : Bool). b && rows_left (i + 1)) e

-- the latches and resets left after i
module _ (t rs : List ℕ) (n : ℕ) where
  abbrev pub resets_left : ℕ → Bool
  resets_left i = resets_ok (map latch_of (rows_of 2 (n - i) (drop (2 * i) t))) (take (n - i) (drop i rs))

  -- latch i and its reset decide, then those after them
  reset-first : (i : ℕ) → i < n → n ≤ length rs
      → resets_left i ≡ (is_reset (get_or t (2 * i) 0) (get_or rs i 0) && resets_left (i + 1))
  reset-first i p h =
      let at = 2 * i in
      let left = n - (i + 1) in
      let there : i < length rs = omega arith in
      let z : at + 0 ≡ at = omega arith in
      let own : get_or (take 2 (drop at t)) 0 0 ≡ get_or t at 0
      = get_or-take 2 (drop at t) 0 0 (omega arith) ∙ get_or-drop at t 0 0 ∙ ap (λ (k : ℕ). get_or t k 0) z in
      ap₂ (λ (k : ℕ) (l : List ℕ). resets_ok (map latch_of (rows_of 2 k (drop at t))) (take k l)) (left_one n i p) (drop-cons rs i 0 there)
      ∙ ap₂ (λ (o : ℕ) (l : List ℕ). is_reset o (get_or rs i 0) && resets_ok (map latch_of (rows_of 2 left l)) (take left (drop (suc i) rs))) own
      (drop-drop 2 at t ∙ ap (λ (k : ℕ). drop k t) (next_row 2 i at refl))
      ∙ rw add-one

  pub reset-inside : (i : ℕ) → i < n → n ≤ length rs → is_reset (get_or t (2 * i) 0) (get_or rs i 0) ≡ true → resets_left i ≡ resets_left (i + 1)
  reset-inside i p h e = reset-first i p h ∙ ap (λ (b : Bool). b && resets_left (i + 1)) e

  pub reset-outside : (i : ℕ) → i < n → n ≤ length rs → is_reset (get_or t (2 * i) 0) (get_or rs i 0) ≡ false → resets_left i ≡ false
  reset-outside i p h e = reset-first i p h ∙ ap (λ (b : Bool). b && resets_left (i + 1)) e
