-- Literals in their ranges: the variable of each is at most M, at each place of a table.
use Prim.Native.Nat.{ℕ, zero, suc, ◌+◌, ◌*◌, ◌≤◌, ◌<◌}
use mathlib.Core.Path.{◌≡◌, refl, sym, subst}
use mathlib.Core.Bool.{Bool, true, false, ◌&&◌}
use mathlib.Core.List.{List, [], ◌∷◌, ◌++◌, map}
use native.Mathlib.Nat.{not-suc-le-zero}
use native.Mathlib.Omega.{arith}
use borrow.Author.Tests.{leb-true, eqb-true, eqb-false}
use lib.Dec.{eqb, leb}
use lib.ListN.{length, get_or, take}
use Rattle.plan.specs.Literals.{var_of, sign_of, in_range}
use Rattle.plan.specs.Circuit.{one_line, latch_line, gate_line, latch_of, gate_of, rows_of, inside, all_inside}
use Rattle.laws.proofs.Reading.Common.{and_left, and_right, and_intro}
use Rattle.laws.proofs.Tables.{firsts, head_at, latch_at, gate_at, latches-rows, gates-rows, words_take}

pub range-var : (d : Bool) (m l : ℕ) → in_range d m l ≡ true → var_of l ≤ m
range-var true m l h =
    omega (arith, leb-true l (2 * m) (and_right (leb 2 l) (leb l (2 * m)) (and_right (eqb (sign_of l) 0) (leb 2 l && leb l (2 * m)) h)))
range-var false m l h = omega (arith, leb-true l (2 * m + 1) h)

-- the first literal of a line, and the second
pub first-var : (d : Bool) (m l : ℕ) (ls : List ℕ) → inside d m (l ∷ ls) ≡ true → var_of l ≤ m
first-var d m l ls h = range-var d m l (and_left (in_range d m l) (inside false m ls) h)

pub second-var : (d : Bool) (m l k : ℕ) (ls : List ℕ) → inside d m (l ∷ k ∷ ls) ≡ true → var_of k ≤ m
second-var d m l k ls h = first-var false m k ls (and_right (in_range d m l) (inside false m (k ∷ ls)) h)

module _ {A : Type 0} (line : A → List ℕ) (d : Bool) (m : ℕ) where
  inside-front : (xs ys : List A) → all_inside d m (map line (xs ++ ys)) ≡ true → all_inside d m (map line xs) ≡ true
  inside-front [] ys h = refl
  inside-front (x ∷ xs) ys h =
      let more = all_inside d m (map line (xs ++ ys)) in
      and_intro (inside d m (line x)) (all_inside d m (map line xs)) (and_left (inside d m (line x)) more h)
      (inside-front xs ys (and_right (inside d m (line x)) more h))

  inside-last : (xs : List A) (x : A) → all_inside d m (map line (xs ++ (x ∷ []))) ≡ true → inside d m (line x) ≡ true
  inside-last [] x h = and_left (inside d m (line x)) true h
  inside-last (y ∷ xs) x h = inside-last xs x (and_right (inside d m (line y)) (all_inside d m (map line (xs ++ (x ∷ [])))) h)

  -- the line at each place
  pub inside-at : (at : ℕ → A) (n : ℕ) → all_inside d m (map line (firsts at n)) ≡ true → (i : ℕ) → i < n → inside d m (line (at i)) ≡ true
  inside-at at zero h i k = absurd (not-suc-le-zero k)
  inside-at at (suc n) h i k = go (eqb i n) refl (inside-at at n (inside-front (firsts at n) (at n ∷ []) h) i)
    where
      go : (b : Bool) → eqb i n ≡ b → (i < n → inside d m (line (at i)) ≡ true) → inside d m (line (at i)) ≡ true
      go true e f = subst (λ (j : ℕ). inside d m (line (at j)) ≡ true) (sym (eqb-true i n e)) (inside-last (firsts at n) (at n) h)
      go false e f = f (omega (arith, eqb-false i n e))

-- the variables that inputs, latches and gates of a table define, at each place
pub input-in : (m : ℕ) (t : List ℕ) (n : ℕ) → n ≤ length t → all_inside true m (map one_line (take n t)) ≡ true → (i : ℕ) → i < n → head_at t 1 i ≤ m
input-in m t n long h i k =
    let line = inside-at one_line true m (λ j. get_or t j 0) n
    (subst (λ (ls : List ℕ). all_inside true m (map one_line ls) ≡ true) (words_take t n long) h) i k in
    let at : i ≡ 1 * i = omega arith in
    subst (λ (j : ℕ). var_of (get_or t j 0) ≤ m) at (first-var true m (get_or t i 0) [] line)

pub latch-in : (m : ℕ) (t : List ℕ) (n : ℕ) → all_inside true m (map latch_line (map latch_of (rows_of 2 n t))) ≡ true
    → (i : ℕ) → i < n → head_at t 2 i ≤ m
latch-in m t n h i k =
    first-var true m (get_or t (2 * i) 0) (get_or t (2 * i + 1) 0 ∷ [])
    (inside-at latch_line true m (latch_at t) n (rw (← latches-rows t n) h) i k)

pub gate-in : (m : ℕ) (t : List ℕ) (n : ℕ) → all_inside true m (map gate_line (map gate_of (rows_of 3 n t))) ≡ true
    → (i : ℕ) → i < n → head_at t 3 i ≤ m
gate-in m t n h i k =
    first-var true m (get_or t (3 * i) 0) (get_or t (3 * i + 1) 0 ∷ get_or t (3 * i + 2) 0 ∷ [])
    (inside-at gate_line true m (gate_at t) n (rw (← gates-rows t n) h) i k)
