-- The loop that places gates: words that are right stay right, so no gate that was placed is lost; in the end every row is.
use Prim.Native.Nat.{ℕ, zero, suc, ◌+◌, ◌*◌, ◌/◌, ◌%◌, ◌<◌, ◌≤◌}
use mathlib.Core.Path.{◌≡◌, refl, sym, ap, ◌∙◌, subst}
use mathlib.Core.Bool.{Bool, true, false}
use mathlib.Core.List.{List}
use native.Mathlib.Decide.{dec_lt}
use native.Mathlib.Omega.{arith}
use borrow.Author.Tests.{eqb-true, eqb-false}
use lib.Dec.{eqb}
use lib.ListN.{length, get_or, set, length-set}
use lib.Seq.{get_or-set_same, get_or-set_other, ext_get_or}
use Rattle.plan.specs.Circuit.{Gate}
use Rattle.laws.proofs.Tables.{gate_at}
use Rattle.convert.specs.renumber.Renumbered.{gate_by, row_of, with_gate, Placeable, Whole}

-- the tables agree at a word; on a row
abbrev Right : List ℕ → List ℕ → ℕ → Type 0
Right made to q = get_or to q 0 ≡ get_or made q 0

abbrev RightRow : List ℕ → List ℕ → ℕ → Type 0
RightRow made to row = (d : ℕ) → d < 3 → Right made to (3 * row + d)

module _ (made to : List ℕ) (q x : ℕ) (right : x ≡ get_or made q 0) (fits : q < length to) where
  -- a right word is stored: it is right, and what was right still is
  stored : Right made (set to q x) q
  stored = get_or-set_same to q x 0 fits ∙ right

  kept : (p : ℕ) → Right made to p → Right made (set to q x) p
  kept p h = go (eqb p q) refl
    where
      go : (b : Bool) → eqb p q ≡ b → Right made (set to q x) p
      go true e = subst (λ (k : ℕ). Right made (set to q x) k) (sym (eqb-true p q e)) stored
      go false e = get_or-set_other to q p x 0 (eqb-false p q e) ∙ h

module _ (made to : List ℕ) (row : ℕ) (g : Gate) (right : g ≡ gate_at made row) (fits : 3 * row + 2 < length to) where
  abbrev one : List ℕ
  one = set to (3 * row) g.lhs

  abbrev two : List ℕ
  two = set one (3 * row + 1) g.rhs0

  fits_one : 3 * row + 1 < length one
  fits_one = omega (arith, length-set to (3 * row) g.lhs)

  fits-two : 3 * row + 2 < length two
  fits-two = omega (arith, length-set to (3 * row) g.lhs, length-set one (3 * row + 1) g.rhs0)

  kept-one : (p : ℕ) → Right made to p → Right made one p
  kept-one = kept made to (3 * row) g.lhs (ap (λ (j : Gate). j.lhs) right) (omega arith)

  kept-two : (p : ℕ) → Right made one p → Right made two p
  kept-two = kept made one (3 * row + 1) g.rhs0 (ap (λ (j : Gate). j.rhs0) right) fits_one

  kept-three : (p : ℕ) → Right made two p → Right made (with_gate to row g) p
  kept-three = kept made two (3 * row + 2) g.rhs1 (ap (λ (j : Gate). j.rhs1) right) fits-two

  gate-kept : (p : ℕ) → Right made to p → Right made (with_gate to row g) p
  gate-kept p h = kept-three p (kept-two p (kept-one p h))

  gate-placed : RightRow made (with_gate to row g) row
  gate-placed zero h =
      let same : 3 * row ≡ 3 * row + 0 = omega arith in
      subst (λ (q : ℕ). Right made (with_gate to row g) q) same
      (kept-three (3 * row) (kept-two (3 * row) (stored made to (3 * row) g.lhs (ap (λ (j : Gate). j.lhs) right) (omega arith))))
  gate-placed (suc zero) h =
      kept-three (3 * row + 1) (stored made one (3 * row + 1) g.rhs0 (ap (λ (j : Gate). j.rhs0) right) fits_one)
  gate-placed (suc (suc zero)) h = stored made two (3 * row + 2) g.rhs1 (ap (λ (j : Gate). j.rhs1) right) fits-two
  gate-placed (suc (suc (suc d))) h = absurd (omega arith)

-- i gates are placed
module _ (gates t : List ℕ) (first a : ℕ) (to₀ : List ℕ) where
  abbrev row : ℕ → ℕ
  row i = row_of t first (gate_at gates i)

  pub record Placed (to : List ℕ) (i : ℕ) : Type 0 where
    pub bound : i ≤ a
    pub same : length to ≡ length to₀
    pub rows : (made : List ℕ) → Whole gates t first a to₀ made → (j : ℕ) → j < i → RightRow made to (row j)
    pub rest : (made : List ℕ) → Whole gates t first a to₀ made → (q : ℕ) → 3 * a ≤ q → Right made to q

  module _ (room : 3 * a ≤ length to₀) (to : List ℕ) (i : ℕ) (p : Placed to i) (h : i < a)
      (able : Placeable t first a (gate_at gates i)) where
    row_below : row i < a
    unfolding row_of
    row_below = omega (arith, able.from, able.below)

    ends : 3 * row i + 2 < length to
    ends = omega (arith, row_below, p.same)

    pub one_placed : (to' : List ℕ) → to' ≡ with_gate to (row i) (gate_by t (gate_at gates i)) → Placed to' (i + 1)
    one_placed to' e = subst (λ (l : List ℕ). Placed l (i + 1)) (sym e) (record {
      bound = omega arith;
      same = simp length-set p.same;
      rows = λ made w j k. by_last made w j k (dec_lt j i);
      rest = λ made w q k. gate-kept made to (row i) g (sym (w.rows i h)) ends q (p.rest made w q k);
    })
      where
        g : Gate
        g = gate_by t (gate_at gates i)

        by_last : (made : List ℕ) (w : Whole gates t first a to₀ made) (j : ℕ) → j < i + 1 → Dec (j < i)
            → RightRow made (with_gate to (row i) g) (row j)
        by_last made w j m (yes k) =
            λ d q. gate-kept made to (row i) g (sym (w.rows i h)) ends (3 * row j + d) (p.rows made w j k d q)
        by_last made w j m (no k) =
            let last : i ≡ j = omega arith in
            subst (λ (x : ℕ). RightRow made (with_gate to (row i) g) (row x)) last
            (gate-placed made to (row i) g (sym (w.rows i h)) ends)

  pub all_placed : (to : List ℕ) (i : ℕ) → Placed to i → a ≤ i → (made : List ℕ) → Whole gates t first a to₀ made → to ≡ made
  all_placed to i p h made w = ext_get_or 0 to made (p.same ∙ sym w.size) (λ q k. by_row q (dec_lt q (3 * a)))
    where
      by_row : (q : ℕ) → Dec (q < 3 * a) → Right made to q
      by_row q (yes k) =
          let e = w.every (q / 3) (omega arith) in
          let at : 3 * row e.0 + q % 3 ≡ q = omega (arith, e.2) in
          subst (Right made to) at (p.rows made w e.0 (omega (arith, e.1, p.bound)) (q % 3) (omega arith))
      by_row q (no k) = p.rest made w q (omega arith)
