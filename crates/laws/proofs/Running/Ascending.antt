-- Gates whose left variables are above their right ones: no gate depends on itself.
use Prim.Native.Nat.{ℕ, ◌<◌}
use mathlib.Core.Path.{◌≡◌, refl, subst}
use mathlib.Core.Bool.{Bool, true, false, ◌&&◌}
use mathlib.Core.List.{List, [], ◌∷◌, ◌++◌}
use Rattle.std.specs.Prelude.{Some, None}
use borrow.Author.Tests.{ltb-true}
use lib.Dec.{ltb}
use Rattle.plan.specs.Literals.{var_of}
use Rattle.plan.specs.Circuit.{Gate, Circuit}
use Rattle.plan.specs.Depends.{side, Uses, cyclic_in}
use Rattle.laws.proofs.Reading.Common.{and_left, and_right}
use Rattle.laws.proofs.Reading.Cycles.{cycle-none}
use Rattle.laws.proofs.Running.Found.{AllG, FindSays, find-says}
use Rattle.laws.proofs.Running.Rank.{rank-acyclic}

-- a gate's left variable is above its right ones
abbrev pub above : Gate → Bool
above g = ltb (var_of g.rhs0) (var_of g.lhs) && ltb (var_of g.rhs1) (var_of g.lhs)

abbrev pub ascends : List Gate → Bool
ascends [] = true
ascends (g ∷ gs) = above g && ascends gs

all_above : (gs : List Gate) → ascends gs ≡ true → AllG (λ g. above g ≡ true) gs
all_above [] h = tt
all_above (g ∷ gs) h = (and_left (above g) (ascends gs) h, all_above gs (and_right (above g) (ascends gs) h))

side-below : (g : Gate) (b : Bool) → above g ≡ true → side b g < var_of g.lhs
side-below g true h = ltb-true (var_of g.rhs0) (var_of g.lhs) (and_left (ltb (var_of g.rhs0) (var_of g.lhs)) _ h)
side-below g false h = ltb-true (var_of g.rhs1) (var_of g.lhs) (and_right (ltb (var_of g.rhs0) (var_of g.lhs)) _ h)

-- 8 is not given
pub ascends_none : (c : Circuit) → ascends c.gates ≡ true → cyclic_in c ≡ None
ascends_none c h = cycle-none c.gates c.gates (rank-acyclic c.gates (λ v. v) lower)
  where
    lower : (u v : ℕ) → Uses c.gates u v → v < u
    lower u v x =
        let says : FindSays u c.gates (Some x.0) = subst (FindSays u c.gates) x.2 (find-says u c.gates) in
        let below = side-below x.0 x.1 (says.1 (λ g. above g ≡ true) (all_above c.gates h)) in
        subst (λ (y : ℕ). v < y) says.0 (subst (λ (y : ℕ). y < var_of x.0.lhs) x.3 below)

-- one more gate at the end
pub ascends-snoc : (gs : List Gate) (g : Gate) → ascends (gs ++ (g ∷ [])) ≡ (ascends gs && above g)
ascends-snoc [] g = go (above g)
  where
    go : (b : Bool) → (b && true) ≡ b
    go true = refl
    go false = refl
ascends-snoc (x ∷ gs) g = go (above x) (ascends-snoc gs g)
  where
    go : (b : Bool) → ascends (gs ++ (g ∷ [])) ≡ (ascends gs && above g) → (b && ascends (gs ++ (g ∷ []))) ≡ ((b && ascends gs) && above g)
    go true e = e
    go false e = refl
