-- The earliest gate with a pair, by its place in a table, which tells the twin's left side.
use mathlib.Core.Path.{◌≡◌, refl, sym, ap, ap₂, ◌∙◌}
use mathlib.Core.Bool.{Bool, true, false, ◌&&◌, cond}
use mathlib.Core.List.{List, [], ◌∷◌, ◌++◌}
use Rattle.std.specs.Prelude.{Option, Some, None}
use Prim.Native.Nat.{ℕ, zero, suc, ◌+◌, ◌<◌, ◌≤◌}
use native.Mathlib.Omega.{arith}
use native.Mathlib.Nat.{not-suc-le-zero}
use borrow.Author.Tests.{eqb-true, eqb-false}
use lib.Dec.{eqb}
use Rattle.plan.specs.Literals.{lit_of}
use Rattle.plan.specs.Circuit.{Gate}
use Rattle.plan.specs.Reduce.{twin}
use Rattle.laws.proofs.Tables.{gate_at}
use Rattle.reduce.specs.pairs.Tree.{or_first}
use Rattle.reduce.specs.pairs.Pairs.{named_at, named}

-- a gate has the sides x, y; gate i of a table
abbrev sides : ℕ → ℕ → Gate → Bool
sides x y g = eqb g.rhs0 x && eqb g.rhs1 y

abbrev pub same : List ℕ → ℕ → ℕ → ℕ → Bool
same t x y i = eqb (gate_at t i).rhs0 x && eqb (gate_at t i).rhs1 y

-- the earliest of the first n gates with the sides x, y, counted from 1; or 0
abbrev pub earliest : List ℕ → ℕ → ℕ → ℕ → ℕ
earliest t x y zero = 0
earliest t x y (suc n) = or_first (earliest t x y n) (cond (same t x y n) (suc n) 0)

-- the left side of a gate that is counted from 1
abbrev pub left_of : ℕ → ℕ → Option ℕ
left_of base zero = None
left_of base (suc i) = Some (lit_of (base + i))

abbrev or_some : Option ℕ → Option ℕ → Option ℕ
or_some None o = o
or_some (Some l) o = Some l

twin-snoc : (x y : ℕ) (gs : List Gate) (g : Gate)
    → twin x y (gs ++ (g ∷ [])) ≡ or_some (twin x y gs) (cond (sides x y g) (Some g.lhs) None)
twin-snoc x y [] g = refl
twin-snoc x y (k ∷ gs) g = go (sides x y k) (twin-snoc x y gs g)
  where
    go : (q : Bool) → twin x y (gs ++ (g ∷ [])) ≡ or_some (twin x y gs) (cond (sides x y g) (Some g.lhs) None)
        → cond q (Some k.lhs) (twin x y (gs ++ (g ∷ [])))
        ≡ or_some (cond q (Some k.lhs) (twin x y gs)) (cond (sides x y g) (Some g.lhs) None)
    go true h = refl
    go false h = h

pub twin-earliest : (base : ℕ) (t : List ℕ) (x y n : ℕ) → twin x y (named base t n) ≡ left_of base (earliest t x y n)
twin-earliest base t x y zero = refl
twin-earliest base t x y (suc n) =
    twin-snoc x y (named base t n) (named_at base t n)
    ∙ ap (λ (o : Option ℕ). or_some o (cond (same t x y n) (Some (lit_of (base + n))) None)) (twin-earliest base t x y n)
    ∙ go (earliest t x y n) (same t x y n)
  where
    go : (e : ℕ) (q : Bool) → or_some (left_of base e) (cond q (Some (lit_of (base + n))) None) ≡ left_of base (or_first e (cond q (suc n) 0))
    go zero true = refl
    go zero false = refl
    go (suc e) q = refl

pub earliest-none : (t : List ℕ) (x y k n : ℕ) → k ≤ n → earliest t x y k ≡ 0 → ((j : ℕ) → k ≤ j → j < n → same t x y j ≡ false)
    → earliest t x y n ≡ 0
earliest-none t x y k zero h e f = refl
earliest-none t x y k (suc n) h e f = go (eqb k (suc n)) refl (λ l. earliest-none t x y k n l e (λ j p q. f j p (omega arith)))
  where
    go : (c : Bool) → eqb k (suc n) ≡ c → (k ≤ n → earliest t x y n ≡ 0) → earliest t x y (suc n) ≡ 0
    go true c ih = ap (earliest t x y) (sym (eqb-true k (suc n) c)) ∙ e
    go false c ih =
        let l : k ≤ n = omega (arith, eqb-false k (suc n) c) in
        ap₂ (λ (v : ℕ) (q : Bool). or_first v (cond q (suc n) 0)) (ih l) (f n l (omega arith))

pub earliest-stays : (t : List ℕ) (x y i n : ℕ) → i < n → earliest t x y i ≡ 0 → same t x y i ≡ true → earliest t x y n ≡ suc i
earliest-stays t x y i zero h e s = absurd (not-suc-le-zero h)
earliest-stays t x y i (suc n) h e s = go (eqb n i) refl (λ l. earliest-stays t x y i n l e s)
  where
    go : (c : Bool) → eqb n i ≡ c → (i < n → earliest t x y n ≡ suc i) → earliest t x y (suc n) ≡ suc i
    go true c ih =
        let q = eqb-true n i c in
        ap₂ (λ (v : ℕ) (r : Bool). or_first v (cond r (suc n) 0)) (ap (earliest t x y) q ∙ e) (ap (same t x y) q ∙ s) ∙ ap suc q
    go false c ih = ap (λ (v : ℕ). or_first v (cond (same t x y n) (suc n) 0)) (ih (omega (arith, eqb-false n i c)))
