-- In binary order the list that is computed is the walk.
use Prim.Native.Nat.{ℕ, suc, ◌<◌}
use mathlib.Core.Path.{◌≡◌, refl, sym, ap, ◌∙◌, subst}
use mathlib.Core.Bool.{Bool, true, false, cond}
use mathlib.Core.Logic.{◌↔◌}
use mathlib.Core.List.{List, [], ◌∷◌, ◌++◌}
use Rattle.std.specs.Prelude.{Option, Some, None}
use native.Mathlib.Omega.{arith}
use borrow.Author.Tests.{eqb-true}
use lib.Dec.{eqb}
use Rattle.plan.specs.Literals.{var_of}
use Rattle.plan.specs.Circuit.{Gate, has}
use Rattle.plan.specs.Depends.{find}
use Rattle.laws.proofs.Running.Lists.{has_left, has_right, has_rest, absent}
use Rattle.laws.proofs.Running.Found.{AllG}
use Rattle.laws.proofs.Running.Binary.{Binary, find_none}
use Rattle.plan.specs.Walk.{Walked, start, onward, walk}

-- a gate leads on to variables below its own
abbrev pub Falls : (Gate → List ℕ) → Gate → Type 0
Falls on g = (v : ℕ) → has v (on g) ≡ true → v < var_of g.lhs

no-gate : (g : Gate) → ◌≡◌ {A = Option Gate} None (Some g) → ⊥
no-gate g e = let z : ◌≡◌ {A = ℕ} 0 1 = cc in omega arith

same-gate : (j g : Gate) → ◌≡◌ {A = Option Gate} (Some j) (Some g) → j ≡ g
same-gate j g e = cc

module _ (on : Gate → List ℕ) (from : List ℕ) where
  later-walked : (g : Gate) (gs : List Gate) (v : ℕ) → has v (walk on gs from) ≡ true → has v (walk on (g ∷ gs) from) ≡ true
  later-walked g gs v h = go (has (var_of g.lhs) (walk on gs from))
    where
      go : (t : Bool) → has v (cond t (on g ++ walk on gs from) (walk on gs from)) ≡ true
      go true = has_right v (on g) (walk on gs from) h
      go false = h

  walked-later : (g : Gate) (gs : List Gate) (v : ℕ) → (has v (on g) ≡ true → ⊥) → has v (walk on (g ∷ gs) from) ≡ true
      → has v (walk on gs from) ≡ true
  walked-later g gs v n h = go (has (var_of g.lhs) (walk on gs from)) h
    where
      go : (t : Bool) → has v (cond t (on g ++ walk on gs from) (walk on gs from)) ≡ true → has v (walk on gs from) ≡ true
      go true k = has_rest v (on g) (walk on gs from) k (absent (has v (on g)) n)
      go false k = k

  pub from-walked : (gs : List Gate) (v : ℕ) → has v from ≡ true → has v (walk on gs from) ≡ true
  from-walked [] v h = h
  from-walked (g ∷ gs) v h = later-walked g gs v (from-walked gs v h)

  -- a gate that is walked to leads on to what is walked to
  pub walk-closed : (n : ℕ) (gs : List Gate) → Binary n gs → AllG (Falls on) gs → (u v : ℕ) (g : Gate) → find u gs ≡ Some g
      → has v (on g) ≡ true → has u (walk on gs from) ≡ true → has v (walk on gs from) ≡ true
  walk-closed n [] b a u v g e k h = absurd (no-gate g e)
  walk-closed n (j ∷ gs) b a u v g e k h = go (eqb (var_of j.lhs) u) refl e (walk-closed (suc n) gs b.3 a.1 u v g)
    where
      not_on : var_of j.lhs < suc u → has u (on j) ≡ true → ⊥
      not_on p q = omega (arith, a.0 u q)

      go : (t : Bool) → eqb (var_of j.lhs) u ≡ t → cond t (Some j) (find u gs) ≡ Some g
          → (find u gs ≡ Some g → has v (on g) ≡ true → has u (walk on gs from) ≡ true → has v (walk on gs from) ≡ true)
          → has v (walk on (j ∷ gs) from) ≡ true
      go true p q ih =
          let same : var_of j.lhs ≡ u = eqb-true (var_of j.lhs) u p in
          let there = walked-later j gs u (not_on (omega arith)) h in
          let k' : has v (on j) ≡ true = subst (λ (x : Gate). has v (on x) ≡ true) (sym (same-gate j g q)) k in
          subst (λ (t : Bool). has v (cond t (on j ++ walk on gs from) (walk on gs from)) ≡ true)
          (sym (ap (λ (x : ℕ). has x (walk on gs from)) same ∙ there)) (has_left v (on j) (walk on gs from) k')
      go false p q ih = later-walked j gs v (ih q k (walked-later j gs u (λ r. low (a.0 u r)) h))
        where
          low : u < var_of j.lhs → ⊥
          low r = no-gate g (sym (find_none (suc n) gs b.3 u (omega (arith, b.0))) ∙ q)

  walk-sound : (all gs : List Gate) → AllG (λ g. find (var_of g.lhs) all ≡ Some g) gs → (v : ℕ) → has v (walk on gs from) ≡ true
      → Walked on all from v
  walk-sound all [] f v h = start h
  walk-sound all (g ∷ gs) f v h = go (has (var_of g.lhs) (walk on gs from)) refl h (walk-sound all gs f.1)
    where
      go : (t : Bool) → has (var_of g.lhs) (walk on gs from) ≡ t → has v (cond t (on g ++ walk on gs from) (walk on gs from)) ≡ true
          → ((u : ℕ) → has u (walk on gs from) ≡ true → Walked on all from u) → Walked on all from v
      go false e k ih = ih v k
      go true e k ih = side (has v (on g)) refl
        where
          side : (t : Bool) → has v (on g) ≡ t → Walked on all from v
          side true p = onward (ih (var_of g.lhs) e) f.0 p
          side false p = ih v (has_rest v (on g) (walk on gs from) k p)

  -- the list has exactly what is walked to
  pub walk-exactly : (n : ℕ) (gs : List Gate) → Binary n gs → AllG (Falls on) gs → AllG (λ g. find (var_of g.lhs) gs ≡ Some g) gs
      → (v : ℕ) → (has v (walk on gs from) ≡ true) ↔ Walked on gs from v
  walk-exactly n gs b a f v = (walk-sound gs gs f v, whole)
    where
      whole : {u : ℕ} → Walked on gs from u → has u (walk on gs from) ≡ true
      whole (start {v = u} h) = from-walked gs u h
      whole (onward {u = x} {v = u} {g = g} w e k) = walk-closed n gs b a x u g e k (whole w)
