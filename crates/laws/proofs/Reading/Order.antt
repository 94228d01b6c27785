-- Gates in binary order, as facts and as the tests say it.
use Prim.Native.Nat.{ℕ, suc, ◌*◌, ◌<◌, ◌≤◌}
use mathlib.Core.Path.{◌≡◌, refl}
use mathlib.Core.Bool.{true, ◌&&◌}
use mathlib.Core.List.{List, [], ◌∷◌, map}
use lib.Dec.{eqb, leb, ltb}
use borrow.Author.Tests.{eqb-true, eq-eqb, leb-true, le-leb, ltb-true, lt-ltb}
use Rattle.plan.specs.Circuit.{Gate, gate_line}
use Rattle.plan.specs.Binary.{runs, falls}
use Rattle.laws.proofs.Reading.Common.{and_left, and_right, and_intro}

-- the left sides run from 2 * v on, and every gate keeps lhs > rhs0 ≥ rhs1
abbrev pub InOrder : ℕ → List Gate → Type 0
InOrder v [] = Unit {0}
InOrder v (g ∷ gs) = (g.lhs ≡ 2 * v) × (g.rhs0 < g.lhs) × (g.rhs1 ≤ g.rhs0) × InOrder (suc v) gs

pub order-tested : (v : ℕ) (gs : List Gate) → runs v (map gate_line gs) ≡ true → falls gs ≡ true → InOrder v gs
order-tested v [] r f = tt
order-tested v (g ∷ gs) r f =
    let f1 : (leb g.rhs1 g.rhs0 && falls gs) ≡ true = and_right (ltb g.rhs0 g.lhs) _ f in (
      eqb-true _ _ (and_left (eqb g.lhs (2 * v)) _ r),
      ltb-true _ _ (and_left (ltb g.rhs0 g.lhs) _ f),
      leb-true _ _ (and_left (leb g.rhs1 g.rhs0) _ f1),
      order-tested (suc v) gs (and_right (eqb g.lhs (2 * v)) _ r) (and_right (leb g.rhs1 g.rhs0) _ f1),
    )

pub order-runs : (v : ℕ) (gs : List Gate) → InOrder v gs → runs v (map gate_line gs) ≡ true
order-runs v [] o = refl
order-runs v (g ∷ gs) o = and_intro (eqb g.lhs (2 * v)) _ (eq-eqb _ _ o.0) (order-runs (suc v) gs o.3)

pub order-falls : (v : ℕ) (gs : List Gate) → InOrder v gs → falls gs ≡ true
order-falls v [] o = refl
order-falls v (g ∷ gs) o =
    and_intro (ltb g.rhs0 g.lhs) _ (lt-ltb _ _ o.1) (and_intro (leb g.rhs1 g.rhs0) _ (le-leb _ _ o.2) (order-falls (suc v) gs o.3))
