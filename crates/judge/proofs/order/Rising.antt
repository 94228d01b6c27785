-- The test of every gate, one after the other.
use Prim.Native.Nat.{ℕ, zero, suc, ◌+◌, ◌<◌, ◌≤◌}
use mathlib.Core.Path.{◌≡◌, refl, sym, ap, ap₂, ◌∙◌}
use mathlib.Core.Bool.{Bool, true, false, ◌&&◌}
use mathlib.Core.List.{List, map}
use native.Mathlib.Nat.{not-suc-le-zero}
use native.Mathlib.Numerals.{add-one}
use native.Mathlib.Omega.{arith}
use borrow.Author.Tests.{lt-ltb, le-ltb, eqb-true, eqb-false}
use lib.Dec.{eqb, ltb}
use Rattle.plan.specs.Literals.{var_of}
use Rattle.plan.specs.Circuit.{Gate, gate_of, rows_of}
use Rattle.laws.proofs.Running.Ascending.{above, ascends, ascends-snoc}
use Rattle.laws.proofs.Tables.{gate_at, gates_at, gates-rows}
use Rattle.judge.proofs.order.Shown.{and-false}

-- one gate
pub rises : (g : Gate) → var_of g.rhs0 < var_of g.lhs → var_of g.rhs1 < var_of g.lhs → above g ≡ true
rises g h k = ap₂ (λ (x y : Bool). x && y) (lt-ltb (var_of g.rhs0) (var_of g.lhs) h) (lt-ltb (var_of g.rhs1) (var_of g.lhs) k)

pub falls-first : (g : Gate) → var_of g.lhs ≤ var_of g.rhs0 → above g ≡ false
falls-first g h = ap (λ (x : Bool). x && ltb (var_of g.rhs1) (var_of g.lhs)) (le-ltb (var_of g.rhs0) (var_of g.lhs) h)

pub falls-second : (g : Gate) → var_of g.lhs ≤ var_of g.rhs1 → above g ≡ false
falls-second g h =
    ap (λ (x : Bool). ltb (var_of g.rhs0) (var_of g.lhs) && x) (le-ltb (var_of g.rhs1) (var_of g.lhs) h)
    ∙ and-false (ltb (var_of g.rhs0) (var_of g.lhs))

-- the gates up to i
pub rises-more : (gates : List ℕ) (i : ℕ) → ascends (gates_at gates i) ≡ true → above (gate_at gates i) ≡ true
    → ascends (gates_at gates (i + 1)) ≡ true
rises-more gates i h k =
    ap (λ (n : ℕ). ascends (gates_at gates n)) (add-one i)
    ∙ (ascends-snoc (gates_at gates i) (gate_at gates i) ∙ ap₂ (λ (x y : Bool). x && y) h k)

pub rises-all : (gates : List ℕ) (a i : ℕ) → i ≡ a → ascends (gates_at gates i) ≡ true → ascends (map gate_of (rows_of 3 a gates)) ≡ true
rises-all gates a i e h = ap ascends (gates-rows gates a) ∙ (ap (λ (n : ℕ). ascends (gates_at gates n)) (sym e) ∙ h)

falls_at : (gates : List ℕ) (a i : ℕ) → i < a → above (gate_at gates i) ≡ false → ascends (gates_at gates a) ≡ false
falls_at gates zero i h k = absurd (not-suc-le-zero h)
falls_at gates (suc a) i h k = ascends-snoc (gates_at gates a) (gate_at gates a) ∙ go (eqb i a) refl (λ q. falls_at gates a i q k)
  where
    go : (b : Bool) → eqb i a ≡ b → (i < a → ascends (gates_at gates a) ≡ false)
        → (ascends (gates_at gates a) && above (gate_at gates a)) ≡ false
    go true e ih =
        ap (λ (x : Bool). ascends (gates_at gates a) && x) (ap (λ (n : ℕ). above (gate_at gates n)) (sym (eqb-true i a e)) ∙ k)
        ∙ and-false (ascends (gates_at gates a))
    go false e ih = ap (λ (x : Bool). x && above (gate_at gates a)) (ih (omega (arith, eqb-false i a e)))

pub falls-all : (gates : List ℕ) (a i : ℕ) → i < a → above (gate_at gates i) ≡ false → ascends (map gate_of (rows_of 3 a gates)) ≡ false
falls-all gates a i h k = ap ascends (gates-rows gates a) ∙ falls_at gates a i h k
