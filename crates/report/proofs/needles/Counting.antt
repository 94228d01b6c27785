-- One value counted: two stores put a row of four words.
use Prim.Native.Nat.{ℕ, zero, suc, ◌+◌, ◌-◌, ◌*◌, ◌/◌, ◌%◌, ◌≤◌}
use mathlib.Core.Path.{◌≡◌, refl, sym, ap, ap₂, ◌∙◌}
use mathlib.Core.Bool.{Bool, true, false, cond}
use mathlib.Core.List.{List, [], ◌∷◌, ◌++◌}
use native.Mathlib.Omega.{arith}
use lib.ListN.{length, get_or, take, drop, set, take-append-drop}
use lib.Dec.{eqb}
use lib.Seq.{drop-cons, take-set-le, drop-set-add, get_or-set_other}
use Rattle.plan.specs.Outcome.{put}
use Rattle.report.specs.needles.Tally.{differs, counted, finished}

-- a value's word is 1, 2 or 3
by_word : (P : ℕ → Type 0) → P 1 → P 2 → P 3 → (w : ℕ) → 1 ≤ w → w ≤ 3 → P w
by_word P p q r zero l h = absurd (omega arith)
by_word P p q r (suc zero) l h = p
by_word P p q r (suc (suc zero)) l h = q
by_word P p q r (suc (suc (suc zero))) l h = r
by_word P p q r (suc (suc (suc (suc k)))) l h = absurd (omega arith)

module _ (l : List ℕ) (at : ℕ) where
  -- a store past `at`
  one_set : (j y : ℕ) → set l (at + j) y ≡ take at l ++ set (drop at l) j y
  one_set j y =
      sym (take-append-drop at (set l (at + j) y))
      ∙ ap₂ ◌++◌ (take-set-le at l (at + j) y (omega arith)) (drop-set-add at l j y)

  module _ (fits : at + 4 ≤ length l) where
    abbrev word : ℕ → ℕ
    word j = get_or l (at + j) 0

    -- the four words of the row
    row_is : drop at l ≡ word 0 ∷ word 1 ∷ word 2 ∷ word 3 ∷ drop (at + 4) l
    row_is =
        let z : at ≡ at + 0 = omega arith in
        let s0 : suc (at + 0) ≡ at + 1 = omega arith in
        let s1 : suc (at + 1) ≡ at + 2 = omega arith in
        let s2 : suc (at + 2) ≡ at + 3 = omega arith in
        let s3 : suc (at + 3) ≡ at + 4 = omega arith in
        ap (λ (k : ℕ). drop k l) z
        ∙ (drop-cons l (at + 0) 0 (omega arith) ∙ ap (λ (t : List ℕ). word 0 ∷ t)
        (ap (λ (k : ℕ). drop k l) s0 ∙ (drop-cons l (at + 1) 0 (omega arith) ∙ ap (λ (t : List ℕ). word 1 ∷ t)
        (ap (λ (k : ℕ). drop k l) s1 ∙ (drop-cons l (at + 2) 0 (omega arith) ∙ ap (λ (t : List ℕ). word 2 ∷ t)
        (ap (λ (k : ℕ). drop k l) s2 ∙ (drop-cons l (at + 3) 0 (omega arith) ∙ ap (λ (t : List ℕ). word 3 ∷ t)
        (ap (λ (k : ℕ). drop k l) s3))))))))

    -- what is put there
    put-row : (row : List ℕ → List ℕ) → ((q : List ℕ) → length (row q) ≡ 4)
        → put l at (row (take 4 (drop at l))) ≡ take at l ++ (row (word 0 ∷ word 1 ∷ word 2 ∷ word 3 ∷ []) ++ drop (at + 4) l)
    put-row row four =
        ap₂ (λ (q : List ℕ) (k : ℕ). take at l ++ (row (take 4 q) ++ drop (at + k) l)) row_is (four (take 4 (drop at l)))

    abbrev fourth : ℕ → ℕ
    fourth w = (word 3 / 4 + differs (word 3 % 4) w) * 4 + w

    two-sets : (j y z : ℕ) → set (set l (at + j) y) (at + 3) z
        ≡ take at l ++ set (set (word 0 ∷ word 1 ∷ word 2 ∷ word 3 ∷ drop (at + 4) l) j y) 3 z
    two-sets j y z =
        sym (take-append-drop at (set (set l (at + j) y) (at + 3) z))
        ∙ ap₂ ◌++◌
        (take-set-le at (set l (at + j) y) (at + 3) z (omega arith) ∙ take-set-le at l (at + j) y (omega arith))
        (drop-set-add at (set l (at + j) y) 3 z
        ∙ (ap (λ (q : List ℕ). set q 3 z) (drop-set-add at l j y) ∙ ap (λ (q : List ℕ). set (set q j y) 3 z) row_is))

    pub counted-put : (w : ℕ) → 1 ≤ w → w ≤ 3
        → set (set l (at + (w - 1)) (get_or l (at + (w - 1)) 0 + 1)) (at + 3) (fourth w) ≡ put l at (counted (take 4 (drop at l)) w)
    counted-put =
        by_word (λ (w : ℕ). set (set l (at + (w - 1)) (get_or l (at + (w - 1)) 0 + 1)) (at + 3) (fourth w) ≡ put l at (counted (take 4 (drop at l)) w))
        (two-sets 0 (word 0 + 1) (fourth 1) ∙ (ap (λ (r : List ℕ). take at l ++ r) (λ k. (word 0 + 1) ∷ none 1 k ∷ none 2 k ∷ fourth 1 ∷ drop (at + 4) l)
        ∙ sym (put-row (λ (q : List ℕ). counted q 1) (λ q. refl))))
        (two-sets 1 (word 1 + 1) (fourth 2) ∙ (ap (λ (r : List ℕ). take at l ++ r) (λ k. none 0 k ∷ (word 1 + 1) ∷ none 2 k ∷ fourth 2 ∷ drop (at + 4) l)
        ∙ sym (put-row (λ (q : List ℕ). counted q 2) (λ q. refl))))
        (two-sets 2 (word 2 + 1) (fourth 3) ∙ (ap (λ (r : List ℕ). take at l ++ r) (λ k. none 0 k ∷ none 1 k ∷ (word 2 + 1) ∷ fourth 3 ∷ drop (at + 4) l)
        ∙ sym (put-row (λ (q : List ℕ). counted q 3) (λ q. refl))))
      where
        none : (j : ℕ) → word j ≡ word j + 0
        none j = omega arith

    pub finished-put : set l (at + 3) (word 3 / 4) ≡ put l at (finished (take 4 (drop at l)))
    finished-put =
        one_set 3 (word 3 / 4)
        ∙ (ap (λ (q : List ℕ). take at l ++ set q 3 (word 3 / 4)) row_is ∙ sym (put-row finished (λ q. refl)))

    -- the fourth word is not the one that counts
    pub fourth-stays : (w y : ℕ) → 1 ≤ w → w ≤ 3 → get_or (set l (at + (w - 1)) y) (at + 3) 0 ≡ word 3
    fourth-stays w y a b = get_or-set_other l (at + (w - 1)) (at + 3) y 0 (λ e. omega (arith, e))

pub differs-small : (last w : ℕ) → differs last w ≤ 1
differs-small last w = go (eqb last 0) (eqb last w)
  where
    go : (a b : Bool) → cond a 0 (cond b 0 1) ≤ 1
    go true b = omega arith
    go false true = omega arith
    go false false = omega arith
