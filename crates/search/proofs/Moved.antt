-- A circuit's gates moved up in another: their order, and the values of moved literals.
use Prim.Native.Nat.{ℕ, suc, ◌+◌, ◌*◌, ◌/◌, ◌%◌, ◌≤◌, ◌<◌}
use mathlib.Core.Path.{◌≡◌, refl, sym, ap, ap₂, ◌∙◌, subst}
use mathlib.Core.Bool.{Bool, true, false, cond}
use mathlib.Core.List.{List, [], ◌∷◌, ◌++◌, map}
use native.Mathlib.Omega.{arith}
use borrow.Author.Tests.{ltb-true, ltb-false, lt-ltb, le-ltb, leb-true, leb-false}
use lib.Dec.{ltb, leb}
use lib.ListN.{length, get_or, length-append, get_or-eq_default}
use Rattle.plan.specs.Literals.{var_of, sign_of}
use Rattle.plan.specs.Circuit.{Gate, Circuit}
use Rattle.plan.specs.Depends.{find}
use Rattle.plan.specs.Step.{Value, vx, and, signed_value, lit, gate_value, leaf_value, values_of}
use Rattle.laws.proofs.Reading.Order.{InOrder}
use Rattle.laws.proofs.Reading.Runs.{BinaryOrder}
use Rattle.laws.proofs.Running.Values.{Solves, unique, value-solves}
use Rattle.laws.proofs.Running.Binary.{Binary, Holds, holds, find_none, find-above, settled-binary, solves-in, leaf-given, inner, Bounded}
use Rattle.laws.proofs.Running.InOrder.{order-binary, leaves-order}
use Rattle.laws.proofs.Running.Upward.{given, leaf-at}
use Rattle.plan.specs.Product.{moved, move_lit, move_gate}

module _ (i l j k : ℕ) (jk : j ≤ k) where
  -- where each goes
  pub moved-low : (v : ℕ) → v < 1 + i → moved i l j k v ≡ v
  moved-low v h = ap (λ (t : Bool). cond t v (cond (ltb v (1 + i + l)) (v + j) (v + k))) (lt-ltb v (1 + i) h)

  pub moved-mid : (v : ℕ) → 1 + i ≤ v → v < 1 + i + l → moved i l j k v ≡ v + j
  moved-mid v h q =
      ap₂ (λ (t u : Bool). cond t v (cond u (v + j) (v + k))) (le-ltb v (1 + i) h) (lt-ltb v (1 + i + l) q)

  pub moved-high : (v : ℕ) → 1 + i + l ≤ v → moved i l j k v ≡ v + k
  moved-high v h =
      ap₂ (λ (t u : Bool). cond t v (cond u (v + j) (v + k))) (le-ltb v (1 + i) (omega arith)) (le-ltb v (1 + i + l) h)

  by_place : (P : Type 0) (v : ℕ) → (v < 1 + i → P) → (1 + i ≤ v → v < 1 + i + l → P) → (1 + i + l ≤ v → P) → P
  by_place P v f g h = go (ltb v (1 + i)) refl (ltb v (1 + i + l)) refl
    where
      go : (t : Bool) → ltb v (1 + i) ≡ t → (u : Bool) → ltb v (1 + i + l) ≡ u → P
      go true e u q = f (ltb-true v (1 + i) e)
      go false e true q = g (ltb-false v (1 + i) e) (ltb-true v (1 + i + l) q)
      go false e false q = h (ltb-false v (1 + i + l) q)

  pub moved-most : (v : ℕ) → moved i l j k v ≤ v + k
  moved-most v =
      by_place (moved i l j k v ≤ v + k) v (λ h. omega (arith, moved-low v h)) (λ h q. omega (arith, moved-mid v h q))
      (λ h. omega (arith, moved-high v h))

  pub moved-least : (v : ℕ) → v ≤ moved i l j k v
  moved-least v =
      by_place (v ≤ moved i l j k v) v (λ h. omega (arith, moved-low v h)) (λ h q. omega (arith, moved-mid v h q))
      (λ h. omega (arith, moved-high v h))

  moved_up : (u v : ℕ) → u < v → moved i l j k u < moved i l j k v
  moved_up u v h =
      by_place (moved i l j k u < moved i l j k v) v
      (λ p. omega (arith, moved-low v p, moved-low u (omega arith)))
      (λ p q. by_place (moved i l j k u < moved i l j k v) u (λ a. omega (arith, moved-mid v p q, moved-low u a))
      (λ a b. omega (arith, moved-mid v p q, moved-mid u a b)) (λ a. absurd (omega arith)))
      (λ p. omega (arith, moved-high v p, moved-most u))

  -- a moved literal
  pub lit-var : (a : ℕ) → var_of (move_lit i l j k a) ≡ moved i l j k (var_of a)
  lit-var a = go (moved i l j k (var_of a))
    where
      go : (n : ℕ) → (2 * n + a % 2) / 2 ≡ n
      go n = omega arith

  pub lit-sign : (a : ℕ) → sign_of (move_lit i l j k a) ≡ sign_of a
  lit-sign a = go (moved i l j k (var_of a))
    where
      go : (n : ℕ) → (2 * n + a % 2) % 2 ≡ a % 2
      go n = omega arith

  pub lit-moved : (w : ℕ → Value) (a : ℕ) → lit w (move_lit i l j k a) ≡ signed_value (sign_of a) (w (moved i l j k (var_of a)))
  lit-moved w a = ap₂ (λ (s v : ℕ). signed_value s (w v)) (lit-sign a) (lit-var a)

  lits-up : (a b : ℕ) → a ≤ b → move_lit i l j k a ≤ move_lit i l j k b
  lits-up a b h = go (moved i l j k (var_of a)) (moved i l j k (var_of b)) refl refl (moved_up (var_of a) (var_of b))
    where
      go : (m n : ℕ) → moved i l j k (var_of a) ≡ m → moved i l j k (var_of b) ≡ n → (var_of a < var_of b → moved i l j k (var_of a) < moved i l j k (var_of b))
          → 2 * moved i l j k (var_of a) + a % 2 ≤ 2 * moved i l j k (var_of b) + b % 2
      go m n p q f = cases (native.Mathlib.Decide.dec_le (suc (var_of a)) (var_of b))
        where
          cases : Dec (suc (var_of a) ≤ var_of b) → 2 * moved i l j k (var_of a) + a % 2 ≤ 2 * moved i l j k (var_of b) + b % 2
          cases (yes r) = last (moved i l j k (var_of a)) (moved i l j k (var_of b)) (f r)
            where
              last : (x y : ℕ) → x < y → 2 * x + a % 2 ≤ 2 * y + b % 2
              last x y t = omega arith
          cases (no r) =
              let e : var_of a ≡ var_of b = omega arith in
              same (moved i l j k (var_of a)) (moved i l j k (var_of b)) (ap (moved i l j k) e) e
            where
              same : (x y : ℕ) → x ≡ y → a / 2 ≡ b / 2 → 2 * x + a % 2 ≤ 2 * y + b % 2
              same x y t u = omega arith

  -- moved gates are in order
  pub order-moved : (n : ℕ) (gs : List Gate) → 1 + i + l ≤ n → InOrder n gs → InOrder (n + k) (map (move_gate i l j k) gs)
  order-moved n [] h o = tt
  order-moved n (g ∷ gs) h o = (
    left,
    right,
    lits-up g.rhs1 g.rhs0 o.2,
    subst (λ (m : ℕ). InOrder m (map (move_gate i l j k) gs)) swap (order-moved (suc n) gs (omega arith) o.3),
  )
    where
      swap : suc n + k ≡ suc (n + k)
      swap = omega arith

      var-n : var_of g.lhs ≡ n
      var-n = omega (arith, o.0)

      left : move_lit i l j k g.lhs ≡ 2 * (n + k)
      left =
          let s : sign_of g.lhs ≡ 0 = omega (arith, o.0) in
          ap₂ (λ (x y : ℕ). 2 * x + y) (ap (moved i l j k) var-n ∙ moved-high n h) s ∙ go (2 * (n + k))
        where
          go : (x : ℕ) → x + 0 ≡ x
          go x = omega arith

      right : move_lit i l j k g.rhs0 < move_lit i l j k g.lhs
      right =
          let q : var_of g.rhs0 < var_of g.lhs = omega (arith, o.0, o.1) in
          last (moved i l j k (var_of g.rhs0)) (moved i l j k (var_of g.lhs)) (moved_up (var_of g.rhs0) (var_of g.lhs) q)
        where
          last : (x y : ℕ) → x < y → 2 * x + g.rhs0 % 2 < 2 * y + g.lhs % 2
          last x y t = omega arith

  -- moved literals have a number
  pub bounded-moved : (n : ℕ) (ls : List ℕ) → Bounded n ls → Bounded (n + k) (map (move_lit i l j k) ls)
  bounded-moved n [] b = tt
  bounded-moved n (a ∷ ls) b = (
    subst (λ (v : ℕ). v < n + k) (sym (lit-var a)) (omega (arith, moved-most (var_of a), b.0)),
    bounded-moved n ls b.1,
  )

pub bounded-more : (n m : ℕ) (ls : List ℕ) → n ≤ m → Bounded n ls → Bounded m ls
bounded-more n m [] h b = tt
bounded-more n m (a ∷ ls) h b = (omega (arith, b.0), bounded-more n m ls h b.1)

pub order-append : (n : ℕ) (gs hs : List Gate) → InOrder n gs → InOrder (n + length gs) hs → InOrder n (gs ++ hs)
order-append n [] hs o p = let e : n + 0 ≡ n = omega arith in subst (λ (m : ℕ). InOrder m hs) e p
order-append n (g ∷ gs) hs o p =
    let e : n + suc (length gs) ≡ suc n + length gs = omega arith in
    (o.0, o.1, o.2, order-append (suc n) gs hs o.3 (subst (λ (m : ℕ). InOrder m hs) e p))

pub holds-left : (w : ℕ → Value) (gs hs : List Gate) → Holds w (gs ++ hs) → Holds w gs
holds-left w [] hs h = tt
holds-left w (g ∷ gs) hs h = (h.0, holds-left w gs hs h.1)

pub holds-right : (w : ℕ → Value) (gs hs : List Gate) → Holds w (gs ++ hs) → Holds w hs
holds-right w [] hs h = h
holds-right w (g ∷ gs) hs h = holds-right w gs hs h.1

-- the values of a circuit in binary order are the only ones with which its gates' equations hold
module _ (c : Circuit) (b : BinaryOrder c) (s ins : List Value) (ls : length s ≡ length c.latches) (li : length ins ≡ length c.inputs) where
  length-given : length (given s ins) ≡ inner c
  length-given = omega (arith, length-append ins s, ls, li)

  pub leaf-is : (v : ℕ) → leaf_value c s ins v ≡ get_or (given s ins) v vx
  leaf-is = leaf-at c (inner c) s ins (leaves-order c b) length-given

  pub in-binary : Binary (inner c) c.gates
  in-binary = order-binary (inner c) c.gates b.gates

  pub values-hold : Holds (values_of c s ins) c.gates
  values-hold =
      holds (leaf_value c s ins) (values_of c s ins) (inner c) c.gates in-binary
      (λ v h. value-solves c.gates (leaf_value c s ins) (length c.gates) (settled-binary (inner c) c.gates in-binary) v)

  pub values-leaf : (v : ℕ) → v < inner c → values_of c s ins v ≡ get_or (given s ins) v vx
  values-leaf v h = leaf-given (inner c) c.gates (leaf_value c s ins) in-binary v h ∙ leaf-is v

  pub values-only : (w : ℕ → Value) → Holds w c.gates → ((v : ℕ) → v < inner c → w v ≡ get_or (given s ins) v vx)
      → ((v : ℕ) → inner c + length c.gates ≤ v → w v ≡ vx) → (v : ℕ) → w v ≡ values_of c s ins v
  values-only w hs low high v =
      unique c.gates (leaf_value c s ins) w solved (length c.gates) v (settled-binary (inner c) c.gates in-binary v)
    where
      solved : Solves c.gates (leaf_value c s ins) w
      solved u = under (leb (inner c) u) refl
        where
          over : (t : Bool) → leb (inner c + length c.gates) u ≡ t → inner c ≤ u → w u ≡ gate_value w (leaf_value c s ins u) (find u c.gates)
          over false e h =
              solves-in w (leaf_value c s ins u) (inner c) c.gates in-binary hs u h (leb-false (inner c + length c.gates) u e)
          over true e h =
              let q : inner c + length c.gates ≤ u = leb-true (inner c + length c.gates) u e in
              high u q ∙ sym (get_or-eq_default (given s ins) vx {n = u} (omega (arith, length-given))) ∙ sym (leaf-is u)
              ∙ ap (gate_value w (leaf_value c s ins u)) (sym (find-above (inner c) c.gates in-binary u q))

          under : (t : Bool) → leb (inner c) u ≡ t → w u ≡ gate_value w (leaf_value c s ins u) (find u c.gates)
          under true e = over (leb (inner c + length c.gates) u) refl (leb-true (inner c) u e)
          under false e =
              let h : u < inner c = leb-false (inner c) u e in
              low u h ∙ sym (leaf-is u) ∙ ap (gate_value w (leaf_value c s ins u)) (sym (find_none (inner c) c.gates in-binary u h))

  -- its gates moved into another
  module _ (j k : ℕ) (jk : j ≤ k) (w : ℕ → Value)
      (hs : Holds w (map (move_gate (length c.inputs) (length c.latches) j k) c.gates))
      (low : (v : ℕ) → v < inner c → w (moved (length c.inputs) (length c.latches) j k v) ≡ get_or (given s ins) v vx) where
    back : ℕ → Value
    back v = cond (ltb v (inner c + length c.gates)) (w (moved (length c.inputs) (length c.latches) j k v)) vx

    back_in : (v : ℕ) → v < inner c + length c.gates → back v ≡ w (moved (length c.inputs) (length c.latches) j k v)
    unfolding back
    back_in v h =
        ap (λ (t : Bool). cond t (w (moved (length c.inputs) (length c.latches) j k v)) vx) (lt-ltb v (inner c + length c.gates) h)

    back-out : (v : ℕ) → inner c + length c.gates ≤ v → back v ≡ vx
    unfolding back
    back-out v h =
        ap (λ (t : Bool). cond t (w (moved (length c.inputs) (length c.latches) j k v)) vx) (le-ltb v (inner c + length c.gates) h)

    back-lit : (a : ℕ) → var_of a < inner c + length c.gates
        → lit w (move_lit (length c.inputs) (length c.latches) j k a) ≡ lit back a
    back-lit a h = lit-moved (length c.inputs) (length c.latches) j k jk w a ∙ ap (signed_value (sign_of a)) (sym (back_in (var_of a) h))

    back-holds : (n : ℕ) (gs : List Gate) → n + length gs ≤ inner c + length c.gates → InOrder n gs
        → Holds w (map (move_gate (length c.inputs) (length c.latches) j k) gs) → Holds back gs
    back-holds n [] h o q = tt
    back-holds n (g ∷ gs) h o q = (
      sym (back-lit g.lhs (omega (arith, o.0))) ∙ q.0
          ∙ ap₂ and (back-lit g.rhs0 (omega (arith, o.0, o.1))) (back-lit g.rhs1 (omega (arith, o.0, o.1, o.2))),
      back-holds (suc n) gs (omega arith) o.3 q.1,
    )

    -- a moved literal has the value that the literal has
    pub lit-same : (a : ℕ) → var_of a < inner c + length c.gates
        → lit w (move_lit (length c.inputs) (length c.latches) j k a) ≡ lit (values_of c s ins) a
    lit-same a h =
        back-lit a h ∙ ap (signed_value (sign_of a))
        (values-only back (back-holds (inner c) c.gates (omega arith) b.gates hs)
        (λ v q. back_in v (omega arith) ∙ low v q) back-out (var_of a))

    pub lits-same : (qs : List ℕ) → Bounded (inner c + length c.gates) qs
        → map (lit w) (map (move_lit (length c.inputs) (length c.latches) j k) qs) ≡ map (lit (values_of c s ins)) qs
    lits-same [] q = refl
    lits-same (a ∷ qs) q = ap₂ (λ (x : Value) (t : List Value). x ∷ t) (lit-same a q.0) (lits-same qs q.1)
