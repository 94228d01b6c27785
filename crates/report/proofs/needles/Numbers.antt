-- What the words mean: one value more, and the numbers after the last.
use Prim.Native.Nat.{ℕ, ◌+◌, ◌*◌, ◌/◌, ◌%◌}
use mathlib.Core.Path.{◌≡◌, refl, sym, ap, ap₂, ◌∙◌}
use mathlib.Core.Bool.{cond}
use mathlib.Core.List.{List, [], ◌∷◌, ◌++◌}
use native.Mathlib.Omega.{arith}
use lib.Dec.{eqb}
use Rattle.plan.specs.Step.{Value, v0, v1, vx, same}
use Rattle.step.specs.values.Words.{word}
use Rattle.plan.specs.Report.{times, changes_after, changes, numbers_of}
use Rattle.report.specs.needles.Tally.{last_after, last_word, kept, differs, counted, finished}

-- a value more at the end of a list
times-last : (a : Value) (l : List Value) (b : Value) → times a (l ++ (b ∷ [])) ≡ times a l + cond (same b a) 1 0
times-last a [] b = omega arith
times-last a (c ∷ l) b = ap (λ (k : ℕ). cond (same c a) 1 0 + k) (times-last a l b) ∙ omega arith

changes-last : (a : Value) (l : List Value) (b : Value) → changes_after a (l ++ (b ∷ [])) ≡ changes_after a l + cond (same (last_after a l) b) 0 1
changes-last a [] b = omega arith
changes-last a (c ∷ l) b = ap (λ (k : ℕ). cond (same a c) 0 1 + k) (changes-last c l b) ∙ omega arith

last-last : (a : Value) (l : List Value) (b : Value) → last_after a (l ++ (b ∷ [])) ≡ b
last-last a [] b = refl
last-last a (c ∷ l) b = last-last c l b

-- the fourth word
differs-word : (a b : Value) → differs (word a) (word b) ≡ cond (same a b) 0 1
differs-word v0 v0 = refl
differs-word v0 v1 = refl
differs-word v0 vx = refl
differs-word v1 v0 = refl
differs-word v1 v1 = refl
differs-word v1 vx = refl
differs-word vx v0 = refl
differs-word vx v1 = refl
differs-word vx vx = refl

last-two-bits : (a : Value) (k : ℕ) → ((4 * k + word a) / 4 ≡ k) × ((4 * k + word a) % 4 ≡ word a)
last-two-bits v0 k = (omega arith, omega arith)
last-two-bits v1 k = (omega arith, omega arith)
last-two-bits vx k = (omega arith, omega arith)

fourth-next : (l : List Value) (b : Value)
    → ((4 * changes l + last_word l) / 4 + differs ((4 * changes l + last_word l) % 4) (word b)) * 4 + word b
    ≡ 4 * changes (l ++ (b ∷ [])) + last_word (l ++ (b ∷ []))
fourth-next [] b = omega arith
fourth-next (a ∷ l) b =
    let k : ℕ = changes_after a l in
    let z : Value = last_after a l in
    let d : ℕ = cond (same z b) 0 1 in
    let e : k + d ≡ changes_after a (l ++ (b ∷ [])) = sym (changes-last a l b) in
    ap₂ (λ (q r : ℕ). (q + differs r (word b)) * 4 + word b) (last-two-bits z k).0 (last-two-bits z k).1
    ∙ (ap (λ (x : ℕ). (k + x) * 4 + word b) (differs-word z b)
    ∙ (ap (λ (x : ℕ). x * 4 + word b) e
    ∙ (swap (changes_after a (l ++ (b ∷ []))) (word b)
    ∙ ap (λ (v : Value). 4 * changes_after a (l ++ (b ∷ [])) + word v) (sym (last-last a l b)))))
  where
    swap : (x y : ℕ) → x * 4 + y ≡ 4 * x + y
    swap x y = omega arith

-- each count
count0 : (b : Value) → ◌≡◌ {A = ℕ} (cond (eqb (word b) 1) 1 0) (cond (same b v0) 1 0)
count0 v0 = refl
count0 v1 = refl
count0 vx = refl

count1 : (b : Value) → ◌≡◌ {A = ℕ} (cond (eqb (word b) 2) 1 0) (cond (same b v1) 1 0)
count1 v0 = refl
count1 v1 = refl
count1 vx = refl

countx : (b : Value) → ◌≡◌ {A = ℕ} (cond (eqb (word b) 3) 1 0) (cond (same b vx) 1 0)
countx v0 = refl
countx v1 = refl
countx vx = refl

-- a row counts one value more
pub counted-kept : (l : List Value) (b : Value) → counted (kept l) (word b) ≡ kept (l ++ (b ∷ []))
counted-kept l b =
    let p0 = ap (λ (k : ℕ). times v0 l + k) (count0 b) ∙ sym (times-last v0 l b) in
    let p1 = ap (λ (k : ℕ). times v1 l + k) (count1 b) ∙ sym (times-last v1 l b) in
    let px = ap (λ (k : ℕ). times vx l + k) (countx b) ∙ sym (times-last vx l b) in
    let p4 = fourth-next l b in
    λ j. p0 j ∷ p1 j ∷ px j ∷ p4 j ∷ []

-- and holds the numbers after the last
pub finished-kept : (l : List Value) → finished (kept l) ≡ numbers_of l
finished-kept [] = refl
finished-kept (a ∷ l) = ap (λ (k : ℕ). times v0 (a ∷ l) ∷ times v1 (a ∷ l) ∷ times vx (a ∷ l) ∷ k ∷ []) (last-two-bits (last_after a l) (changes_after a l)).0
