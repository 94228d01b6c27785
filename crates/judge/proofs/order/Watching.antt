-- The word that a gate waits for: it tells whether the gate is ready, and changes only for the gates that wait for the one that is given
-- a number.
use Prim.Native.Nat.{ℕ, ◌+◌, ◌<◌, ◌≤◌}
use mathlib.Core.Path.{◌≡◌, refl, sym, ap, ap₂, ◌∙◌, subst}
use mathlib.Core.Bool.{Bool, true, false, not, cond, ◌&&◌, false≢true}
use mathlib.Core.List.{List}
use native.Mathlib.Omega.{arith}
use borrow.Author.Tests.{lt-ltb, le-ltb, ltb-true, ltb-false}
use lib.Dec.{ltb}
use lib.ListN.{length, get_or, set}
use lib.Seq.{get_or-set_same, get_or-set_other}
use Rattle.judge.specs.order.Numbers.{InRange}
use Rattle.judge.specs.marks.Levels.{Agree}
use Rattle.judge.specs.order.Waiting.{shown, numbered_v, ready_v, ready_at, lhs_of, rhs0_of, rhs1_of, watched, Named}
use Rattle.judge.proofs.order.Shown.{numbered-by, given-other, given-unnumbered}

pub watched-low : (gates t : List ℕ) (i : ℕ) → get_or t (rhs0_of gates i) 0 < 2147483648 → watched gates t i ≡ get_or t (rhs1_of gates i) 0
unfolding watched
watched-low gates t i h =
    ap (λ (b : Bool). cond b (get_or t (rhs1_of gates i) 0) (get_or t (rhs0_of gates i) 0)) (lt-ltb (get_or t (rhs0_of gates i) 0) 2147483648 h)

pub watched-high : (gates t : List ℕ) (i : ℕ) → 2147483648 ≤ get_or t (rhs0_of gates i) 0 → watched gates t i ≡ get_or t (rhs0_of gates i) 0
unfolding watched
watched-high gates t i h =
    ap (λ (b : Bool). cond b (get_or t (rhs1_of gates i) 0) (get_or t (rhs0_of gates i) 0)) (le-ltb (get_or t (rhs0_of gates i) 0) 2147483648 h)

pub watched-agree : (gates t u : List ℕ) (n a : ℕ) → InRange n gates a → Agree n t u → (i : ℕ) → i < a → watched gates u i ≡ watched gates t i
unfolding watched
watched-agree gates t u n a range low i h =
    ap₂ (λ (x y : ℕ). cond (ltb x 2147483648) y x) (low (rhs0_of gates i) (range i h).1) (low (rhs1_of gates i) (range i h).2)

pub numbered-agree : (t u : List ℕ) (n v : ℕ) → Agree n t u → v < n → numbered_v u v ≡ numbered_v t v
numbered-agree t u n v low h = numbered-by t u v (ap shown (low v h))

pub ready-agree : (gates t u : List ℕ) (n a : ℕ) → InRange n gates a → Agree n t u → (i : ℕ) → i < a → ready_at gates u i ≡ ready_at gates t i
unfolding ready_v
ready-agree gates t u n a range low i h =
    ap₂ (λ (x y : Bool). not x && y) (numbered-agree t u n (lhs_of gates i) low (range i h).0)
    (ap₂ (λ (x y : Bool). x && y) (numbered-agree t u n (rhs0_of gates i) low (range i h).1)
    (numbered-agree t u n (rhs1_of gates i) low (range i h).2))

pub named-agree : (gates t u : List ℕ) (n a : ℕ) → InRange n gates a → Agree n t u → Named gates t n a → Named gates u n a
named-agree gates t u n a range low s = record {
  own = λ i h e. low (lhs_of gates i) (range i h).0 ∙ s.own i h (sym (numbered-agree t u n (lhs_of gates i) low (range i h).0) ∙ e);
  names = λ v h e.
      let k = s.names v h (omega (arith, low v h)) in
      (omega (arith, low v h, k.0), numbered-agree t u n v low h ∙ k.1);
  low0 =
      λ i h e. let v = (range i h).1 in numbered-agree t u n (rhs0_of gates i) low v ∙ s.low0 i h (omega (arith, low (rhs0_of gates i) v));
  low1 =
      λ i h e. let v = (range i h).2 in numbered-agree t u n (rhs1_of gates i) low v ∙ s.low1 i h (omega (arith, low (rhs1_of gates i) v));
}

module _ (gates t : List ℕ) (n a : ℕ) (range : InRange n gates a) (s : Named gates t n a) where
  word_below : (v : ℕ) → v < n → get_or t v 0 < 2147483648 + a
  word_below v h = go (ltb (get_or t v 0) 2147483648) refl
    where
      go : (b : Bool) → ltb (get_or t v 0) 2147483648 ≡ b → get_or t v 0 < 2147483648 + a
      go true e = omega (arith, ltb-true (get_or t v 0) 2147483648 e)
      go false e = (s.names v h (ltb-false (get_or t v 0) 2147483648 e)).0

  -- what a gate waits for is a gate
  pub watched-below : (i : ℕ) → i < a → watched gates t i < 2147483648 + a
  watched-below i h = go (ltb (get_or t (rhs0_of gates i) 0) 2147483648) refl
    where
      go : (b : Bool) → ltb (get_or t (rhs0_of gates i) 0) 2147483648 ≡ b → watched gates t i < 2147483648 + a
      go true e =
          subst (λ (w : ℕ). w < 2147483648 + a) (sym (watched-low gates t i (ltb-true (get_or t (rhs0_of gates i) 0) 2147483648 e)))
          (word_below (rhs1_of gates i) (range i h).2)
      go false e =
          subst (λ (w : ℕ). w < 2147483648 + a) (sym (watched-high gates t i (ltb-false (get_or t (rhs0_of gates i) 0) 2147483648 e)))
          (word_below (rhs0_of gates i) (range i h).1)

  -- a gate is ready if it has no number and waits for none
  pub ready-watched : (i : ℕ) → i < a → ready_at gates t i ≡ (not (numbered_v t (lhs_of gates i)) && ltb (watched gates t i) 2147483648)
  unfolding ready_v
  ready-watched i h =
      ap (λ (b : Bool). not (numbered_v t (lhs_of gates i)) && b) (go (ltb (get_or t (rhs0_of gates i) 0) 2147483648) refl)
    where
      second : (b : Bool) → ltb (get_or t (rhs1_of gates i) 0) 2147483648 ≡ b → numbered_v t (rhs1_of gates i) ≡ b
      second true e = s.low1 i h (ltb-true (get_or t (rhs1_of gates i) 0) 2147483648 e)
      second false e = (s.names (rhs1_of gates i) (range i h).2 (ltb-false (get_or t (rhs1_of gates i) 0) 2147483648 e)).1

      go : (b : Bool) → ltb (get_or t (rhs0_of gates i) 0) 2147483648 ≡ b
          → (numbered_v t (rhs0_of gates i) && numbered_v t (rhs1_of gates i)) ≡ ltb (watched gates t i) 2147483648
      go true e =
          let k = ltb-true (get_or t (rhs0_of gates i) 0) 2147483648 e in
          ap₂ (λ (x y : Bool). x && y) (s.low0 i h k) (second (ltb (get_or t (rhs1_of gates i) 0) 2147483648) refl)
          ∙ ap (λ (w : ℕ). ltb w 2147483648) (sym (watched-low gates t i k))
      go false e =
          let k = ltb-false (get_or t (rhs0_of gates i) 0) 2147483648 e in
          ap (λ (x : Bool). x && numbered_v t (rhs1_of gates i)) (s.names (rhs0_of gates i) (range i h).1 k).1
          ∙ sym (ap (λ (w : ℕ). ltb w 2147483648) (watched-high gates t i k) ∙ e)

  -- gate j, which has no number, is given number x
  module _ (j x : ℕ) (hj : j < a) (open-j : numbered_v t (lhs_of gates j) ≡ false) (long : n ≤ length t) (pos : 0 < x)
      (small : x < 2147483648) where
    fits : lhs_of gates j < length t
    fits = omega (arith, (range j hj).0)

    -- the word of a variable that is another one
    pub given_word : (y : ℕ) → (get_or t y 0 ≡ 2147483648 + j → ⊥) → get_or (set t (lhs_of gates j) x) y 0 ≡ get_or t y 0
    given_word y d =
        get_or-set_other t (lhs_of gates j) y x 0 (λ e. d (ap (λ (z : ℕ). get_or t z 0) e ∙ s.own j hj open-j))

    pub watched-given : (i : ℕ) → (watched gates t i ≡ 2147483648 + j → ⊥) → watched gates (set t (lhs_of gates j) x) i ≡ watched gates t i
    watched-given i d = go (ltb (get_or t (rhs0_of gates i) 0) 2147483648) refl
      where
        go : (b : Bool) → ltb (get_or t (rhs0_of gates i) 0) 2147483648 ≡ b → watched gates (set t (lhs_of gates j) x) i ≡ watched gates t i
        go true e =
            let k = ltb-true (get_or t (rhs0_of gates i) 0) 2147483648 e in
            let same = given_word (rhs0_of gates i) (λ z. omega (arith, z)) in
            watched-low gates (set t (lhs_of gates j) x) i (omega (arith, same))
            ∙ (given_word (rhs1_of gates i) (λ z. d (watched-low gates t i k ∙ z)) ∙ sym (watched-low gates t i k))
        go false e =
            let k = ltb-false (get_or t (rhs0_of gates i) 0) 2147483648 e in
            let same = given_word (rhs0_of gates i) (λ z. d (watched-high gates t i k ∙ z)) in
            watched-high gates (set t (lhs_of gates j) x) i (omega (arith, same)) ∙ (same ∙ sym (watched-high gates t i k))

    -- a gate with the same left variable is the same
    pub only-j : (i : ℕ) → i < a → lhs_of gates i ≡ lhs_of gates j → i ≡ j
    only-j i h e =
        let mine = s.own i h (ap (numbered_v t) e ∙ open-j) in
        let its = s.own j hj open-j in
        omega (arith, sym mine ∙ (ap (λ (z : ℕ). get_or t z 0) e ∙ its))

    low-side : (y : ℕ) → (get_or t y 0 < 2147483648 → numbered_v t y ≡ true) → get_or (set t (lhs_of gates j) x) y 0 < 2147483648
        → numbered_v (set t (lhs_of gates j) x) y ≡ true
    low-side y f h = go (numbered_v (set t (lhs_of gates j) x) y) refl
      where
        go : (b : Bool) → numbered_v (set t (lhs_of gates j) x) y ≡ b → numbered_v (set t (lhs_of gates j) x) y ≡ true
        go true e = e
        go false e =
            let g = given-unnumbered t (lhs_of gates j) x fits pos small y e in
            absurd (false≢true (sym g.1 ∙ f (omega (arith, get_or-set_other t (lhs_of gates j) y x 0 g.0))))

    pub named-given : Named gates (set t (lhs_of gates j) x) n a
    named-given = record {
      own = λ i h e.
          let g = given-unnumbered t (lhs_of gates j) x fits pos small (lhs_of gates i) e in
          get_or-set_other t (lhs_of gates j) (lhs_of gates i) x 0 g.0 ∙ s.own i h g.1;
      names = names;
      low0 = λ i h e. low-side (rhs0_of gates i) (s.low0 i h) e;
      low1 = λ i h e. low-side (rhs1_of gates i) (s.low1 i h) e;
    }
      where
        names : (y : ℕ) → y < n → 2147483648 ≤ get_or (set t (lhs_of gates j) x) y 0
            → (get_or (set t (lhs_of gates j) x) y 0 < 2147483648 + a) × (numbered_v (set t (lhs_of gates j) x) y ≡ false)
        names y h e =
            let apart : y ≡ lhs_of gates j → ⊥ =
            λ z. omega (arith, ap (λ (w : ℕ). get_or (set t (lhs_of gates j) x) w 0) z ∙ get_or-set_same t (lhs_of gates j) x 0 fits) in
            let same = get_or-set_other t (lhs_of gates j) y x 0 apart in
            let k = s.names y h (omega (arith, same)) in
            (omega (arith, same, k.0), given-other t (lhs_of gates j) x fits pos small y apart ∙ k.1)
