-- No path leads past more than 22 gates, where no two gates have one pair: so many does a search look at, whatever the file.
use mathlib.Core.Path.{◌≡◌, refl, sym, ap, ap₂, ◌∙◌}
use mathlib.Core.Logic.{◌⊎◌, inl, inr, ⊎_elim}
use mathlib.Core.Bool.{Bool, true, false, ◌&&◌, cond}
use mathlib.Core.List.{List}
use Prim.Native.Nat.{ℕ, zero, suc, ◌*◌, ◌/◌, ◌%◌, ◌^◌, ◌<◌, ◌≤◌}
use native.Mathlib.Omega.{arith}
use native.Mathlib.Nat.{pow-suc}
use native.Mathlib.Decide.{dec_lt}
use borrow.Author.Tests.{eq-eqb}
use Rattle.laws.proofs.Tables.{gate_at}
use Rattle.reduce.specs.pairs.Tree.{depth, on, or_first}
use Rattle.reduce.specs.pairs.Pairs.{halves, path_of, paths}
use Rattle.reduce.proofs.pairs.Agree.{Agree, agreeing}
use Rattle.reduce.proofs.pairs.Depth.{depth-on, depth-off}
use Rattle.reduce.proofs.pairs.Roots.{same-pair}
use Rattle.reduce.proofs.pairs.Earliest.{same, earliest}

-- a number is told by its bits
halves-half : (y d : ℕ) → halves (y / 2) d ≡ halves y (suc d)
halves-half y zero = refl
halves-half y (suc d) = ap (λ (v : ℕ). v / 2) (halves-half y d)

bits-tell : (k y z : ℕ) → y < 2 ^ k → z < 2 ^ k → ((d : ℕ) → d < k → halves y d % 2 ≡ halves z d % 2) → y ≡ z
bits-tell zero y z h l e = omega arith
bits-tell (suc k) y z h l e =
    let low : y % 2 ≡ z % 2 = e 0 (omega arith) in
    let high : y / 2 ≡ z / 2
    = bits-tell k (y / 2) (z / 2) (omega (arith, pow-suc 2 k)) (omega (arith, pow-suc 2 k))
    (λ d q. ap (λ (v : ℕ). v % 2) (halves-half y d) ∙ e (suc d) (omega arith) ∙ sym (ap (λ (v : ℕ). v % 2) (halves-half z d))) in
    omega (arith, low, high)

-- where a gate has the pair, the earliest stays
some-stays : (a b : ℕ) → (a ≡ 0 → ⊥) → or_first a b ≡ 0 → ⊥
some-stays zero b h e = h refl
some-stays (suc a) b h e = omega arith

some-last : (a n : ℕ) → or_first a (suc n) ≡ 0 → ⊥
some-last zero n e = omega arith
some-last (suc a) n e = omega arith

-- no gate of the first n has the pair of an earlier one; a reduced circuit's are so (`Running.Irreducible.no-same-pair` of theorems)
abbrev pub Differ : List ℕ → ℕ → Type 0
Differ gates n = (j : ℕ) → j < n → earliest gates (gate_at gates j).rhs0 (gate_at gates j).rhs1 j ≡ 0

-- literals of the first w variables, of which there are no more than 2 ^ 20
abbrev pub Lits : List ℕ → ℕ → ℕ → Type 0
Lits gates w n = (j : ℕ) → j < n → ((gate_at gates j).rhs0 < 2 * w) × ((gate_at gates j).rhs1 < 2 * w)

module _ (gates : List ℕ) (w x y : ℕ) (few : w ≤ 1048576) (left : x < 2 * w) (right : y < 2 * w) where
  abbrev q : ℕ → ℕ
  q = path_of w x y

  abbrev S : ℕ → ℕ → ℕ
  S = paths w gates

  -- a gate that agrees with a path in 22 symbols has its pair
  has-pair : (i : ℕ) → ((gate_at gates i).rhs0 < 2 * w) × ((gate_at gates i).rhs1 < 2 * w) → Agree 22 q (S i)
      → ((gate_at gates i).rhs0 ≡ x) × ((gate_at gates i).rhs1 ≡ y)
  has-pair i l a =
      let smaller : y ≡ (gate_at gates i).rhs1
      = bits-tell 21 y (gate_at gates i).rhs1 (omega arith) (omega (arith, l.1)) (λ d h. a (suc d) (omega arith)) in
      (sym (same-pair w x y (gate_at gates i).rhs0 (gate_at gates i).rhs1 left l.0 (a 0 (omega arith)) smaller), sym smaller)

  -- either the gates lead along 22 symbols at most, or one of them has the pair and ends the path
  abbrev Short : ℕ → Type 0
  Short n = (depth S q n ≤ 22) ⊎ ((depth S q n ≡ 23) × (earliest gates x y n ≡ 0 → ⊥))

  short : (n : ℕ) → Lits gates w n → Differ gates n → Short n
  short zero l d = inl (omega arith)
  short (suc n) l d = go (on S q n) refl (short n (λ j h. l j (omega arith)) (λ j h. d j (omega arith)))
    where
      pair : on S q n ≡ true → 22 ≤ depth S q n → ((gate_at gates n).rhs0 ≡ x) × ((gate_at gates n).rhs1 ≡ y)
      pair e h = has-pair n (l n (omega arith)) (λ i k. agreeing (depth S q n) q (S n) e i (omega (arith, h)))

      found : on S q n ≡ true → 22 ≤ depth S q n → earliest gates x y (suc n) ≡ 0 → ⊥
      found e h z =
          let p = pair e h in
          let here : same gates x y n ≡ true
          = ap₂ (λ (a b : Bool). a && b) (eq-eqb (gate_at gates n).rhs0 x p.0) (eq-eqb (gate_at gates n).rhs1 y p.1) in
          some-last (earliest gates x y n) n (sym (ap (λ (b : Bool). or_first (earliest gates x y n) (cond b (suc n) 0)) here) ∙ z)

      longer : on S q n ≡ true → Dec (depth S q n < 22) → depth S q n ≤ 22 → Short (suc n)
      longer e (yes k) h = inl (omega (arith, depth-on S q n e, k))
      longer e (no k) h = inr (omega (arith, depth-on S q n e, k, h), found e (omega (arith, k)))

      go : (b : Bool) → on S q n ≡ b → Short n → Short (suc n)
      go false e (inl h) = inl (omega (arith, depth-off S q n e, h))
      go false e (inr h) =
          inr (depth-off S q n e ∙ h.0, some-stays (earliest gates x y n) (cond (same gates x y n) (suc n) 0) h.1)
      go true e (inl h) = longer e (dec_lt (depth S q n) 22) h
      go true e (inr h) =
          let p = pair e (omega (arith, h.0)) in
          absurd (h.1 (sym (ap₂ (λ (a b : ℕ). earliest gates a b n) p.0 p.1) ∙ d n (omega arith)))

  pub few-steps : (n : ℕ) → Lits gates w n → Differ gates n → depth S q n ≤ 23
  few-steps n l d = ⊎_elim (λ h. omega (arith, h)) (λ h. omega (arith, h.0)) (short n l d)
