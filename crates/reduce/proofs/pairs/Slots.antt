-- The words at which gates hang: no two nodes share one, and a path leaves a node by one of its own.
use mathlib.Core.Path.{◌≡◌, refl, sym, ap, ◌∙◌, subst}
use mathlib.Core.Bool.{Bool, true, false}
use Prim.Native.Nat.{ℕ, zero, suc, ◌+◌, ◌-◌, ◌*◌, ◌<◌, ◌≤◌}
use native.Mathlib.Omega.{arith}
use borrow.Author.Tests.{eqb-true, eqb-false, leb-true, leb-false}
use lib.Dec.{eqb, leb}
use Rattle.reduce.specs.pairs.Tree.{depth, node, symbol, slot_of, Good}
use Rattle.reduce.proofs.pairs.Agree.{Agree, agreeing}
use Rattle.reduce.proofs.pairs.Depth.{depth-on, depth-step, depth_pos, depth_same, on_same, node-depth}

pub link-high : (w i c : ℕ) → 3 * w ≤ slot_of w (suc i) c
link-high w i zero = omega arith
link-high w i (suc c) = omega arith

link-low : (w i c : ℕ) → slot_of w (suc i) c < 4 * w + suc i
link-low w i zero = omega arith
link-low w i (suc c) = omega arith

link-kept : (w i c : ℕ) → slot_of w (suc i) c < 4 * w → slot_of w (suc i) c < 3 * w + suc i
link-kept w i zero h = absurd (omega arith)
link-kept w i (suc c) h = omega arith

-- the links of the first w gates are all different
pub link-inj : (w i j c d : ℕ) → i < w → j < w → c < 2 → d < 2 → slot_of w (suc i) c ≡ slot_of w (suc j) d → (i ≡ j) × (c ≡ d)
link-inj w i j zero zero hi hj hc hd e = (omega arith, refl)
link-inj w i j zero (suc d) hi hj hc hd e = absurd (omega arith)
link-inj w i j (suc c) zero hi hj hc hd e = absurd (omega arith)
link-inj w i j (suc c) (suc d) hi hj hc hd e = (omega arith, omega arith)

pub slot-high : (w k c : ℕ) → w ≤ slot_of w k c
slot-high w zero c = omega arith
slot-high w (suc i) c = omega (arith, link-high w i c)

module _ (S : ℕ → ℕ → ℕ) where
  -- two paths that leave a node by the same symbol
  pub same-slot : (q p : ℕ → ℕ) (k : ℕ) → node S q k ≡ true → node S p k ≡ true → symbol S q k ≡ symbol S p k → Agree (depth S q k) q p
  same-slot q p zero nq np e j l = let z : 0 ≡ j = omega arith in subst (λ (i : ℕ). q i ≡ p i) z e
  same-slot q p (suc i) nq np e j l = go (eqb (depth S q i) j) refl
    where
      aq : Agree (depth S q i) q (S i)
      aq = agreeing (depth S q i) q (S i) nq

      bp : Agree (depth S p i) p (S i)
      bp = agreeing (depth S p i) p (S i) np

      dd : depth S q i ≡ depth S p i
      dd = depth_same S q (S i) i aq ∙ sym (depth_same S p (S i) i bp)

      go : (b : Bool) → eqb (depth S q i) j ≡ b → q j ≡ p j
      go true c =
          let jq : depth S q (suc i) - 1 ≡ j = omega (arith, depth-on S q i nq, eqb-true (depth S q i) j c) in
          let jp : depth S p (suc i) - 1 ≡ j = omega (arith, depth-on S p i np, eqb-true (depth S q i) j c, dd) in
          sym (ap q jq) ∙ e ∙ ap p jp
      go false c =
          let m : j < depth S q i = omega (arith, l, depth-on S q i nq, eqb-false (depth S q i) j c) in
          aq j m ∙ sym (bp j (omega (arith, m, dd)))

  pub node-same : (q p : ℕ → ℕ) (k : ℕ) → Agree (depth S q k) q p → node S q k ≡ true → node S p k ≡ true
  node-same q p zero h n = refl
  node-same q p (suc i) h n = let l = depth-step S q i in sym (on_same S q p i (λ e m. h e (omega (arith, m, l)))) ∙ n

  -- a path that agrees with p as far as the gates lead leaves by p's slot
  pub other-slot : (q p : ℕ → ℕ) (j k n : ℕ) → Agree (depth S q n) q p → depth S q n ≡ depth S q j → node S q j ≡ true
      → depth S p n ≡ depth S p k → node S p k ≡ true → (j ≡ k) × (symbol S q j ≡ symbol S p j)
  other-slot q p j k n h dq nq dp np =
      (go (leb j k) refl (leb k j) refl, a (depth S q j - 1) (omega (arith, depth_pos S q j)) ∙ ap (λ (d : ℕ). p (d - 1)) same)
    where
      a : Agree (depth S q j) q p
      a = subst (λ (d : ℕ). Agree d q p) dq h

      same : depth S q j ≡ depth S p j
      same = depth_same S q p j a

      nj : node S p j ≡ true
      nj = node-same q p j a nq

      level : depth S p j ≡ depth S p k
      level = sym same ∙ sym dq ∙ depth_same S q p n h ∙ dp

      go : (b : Bool) → leb j k ≡ b → (c : Bool) → leb k j ≡ c → j ≡ k
      go true e true f = omega (arith, leb-true j k e, leb-true k j f)
      go true e false f = absurd (omega (arith, level, node-depth S p j k (leb-false k j f) np))
      go false e c f = absurd (omega (arith, level, node-depth S p k j (leb-false j k e) nj))

  good-bit : (w : ℕ) (q : ℕ → ℕ) (j : ℕ) → Good w q → 0 < j → q j < 2
  good-bit w q zero g h = absurd (omega arith)
  good-bit w q (suc j) g h = g.bits j

  pub symbol-bit : (w : ℕ) (q : ℕ → ℕ) (i : ℕ) → Good w q → node S q (suc i) ≡ true → symbol S q (suc i) < 2
  symbol-bit w q i g n = good-bit w q (depth S q (suc i) - 1) g (omega (arith, depth-on S q i n, depth_pos S q i))

  -- a slot below the last gate's
  pub slot-low : (w : ℕ) (q : ℕ → ℕ) (k n : ℕ) → Good w q → k ≤ n → slot_of w k (symbol S q k) < 4 * w + n
  slot-low w q zero n g h = omega (arith, g.root)
  slot-low w q (suc i) n g h = omega (arith, link-low w i (symbol S q (suc i)))

  -- and so in the scratch
  pub slot_kept : (w : ℕ) (q : ℕ → ℕ) (k n : ℕ) → Good w q → k ≤ n → slot_of w k (symbol S q k) < 4 * w
      → slot_of w k (symbol S q k) < 3 * w + n
  slot_kept w q zero n g h l = omega (arith, g.root)
  slot_kept w q (suc i) n g h l = omega (arith, link-kept w i (symbol S q (suc i)) l)

  pub slot-inj : (w : ℕ) (q p : ℕ → ℕ) (j k : ℕ) → Good w q → Good w p → j ≤ w → k ≤ w → node S q j ≡ true → node S p k ≡ true
      → slot_of w j (symbol S q j) ≡ slot_of w k (symbol S p k) → (j ≡ k) × (symbol S q j ≡ symbol S p k)
  slot-inj w q p zero zero g h lj lk nq np e = (refl, omega arith)
  slot-inj w q p zero (suc k) g h lj lk nq np e = absurd (omega (arith, g.root, link-high w k (symbol S p (suc k))))
  slot-inj w q p (suc j) zero g h lj lk nq np e = absurd (omega (arith, h.root, link-high w j (symbol S q (suc j))))
  slot-inj w q p (suc j) (suc k) g h lj lk nq np e =
      let i = link-inj w j k (symbol S q (suc j)) (symbol S p (suc k)) lj lk (symbol-bit w q j g nq) (symbol-bit w p k h np) e in
      (ap suc i.0, i.1)
