-- Text form: each variable used must be defined; no gate may depend, in any number of steps, on itself.
use Rattle.std.specs.Prelude.{ℕ, suc, zero, ◌≡◌, Bool, true, false, cond, ◌&&◌, List, [], ◌∷◌, eqb, length, Option, Some, None}
use Rattle.plan.specs.Literals.{var_of}
use Rattle.plan.specs.Circuit.{Gate, Circuit, has, defined_in, used_in, or_less}

-- 7: the least used variable that is not defined; variable 0, of the constants, is
abbrev pub least_missing : List ℕ → List ℕ → Option ℕ
least_missing defined [] = None
least_missing defined (v ∷ vs) = cond (has v defined) (least_missing defined vs) (or_less v (least_missing defined vs))

abbrev pub undefined_in : Circuit → Option ℕ
undefined_in c = least_missing (zero ∷ defined_in c) (used_in c)

-- the gate of a variable
abbrev pub find : ℕ → List Gate → Option Gate
find v [] = None
find v (g ∷ gs) = cond (eqb (var_of g.lhs) v) (Some g) (find v gs)

-- u uses v: v is the variable of a right side of the gate of u
abbrev pub side : Bool → Gate → ℕ
side true g = var_of g.rhs0
side false g = var_of g.rhs1

abbrev pub Uses : List Gate → ℕ → ℕ → Type 0
Uses gs u v = (g : Gate) × (b : Bool) × (find u gs ≡ Some g) × (side b g ≡ v)

-- u depends on v, in any number of steps
pub data Depends (gs : List Gate) : ℕ → ℕ → Type 0 where
  one : {u v : ℕ} → Uses gs u v → Depends gs u v
  more : {u v w : ℕ} → Uses gs u v → Depends gs v w → Depends gs u w

-- the test that computes it. Settled in k rounds: no gate's, or both right sides settled in the round before
abbrev pub is_none : Option Gate → Bool
is_none None = true
is_none (Some g) = false

abbrev pub both : (ℕ → Bool) → Option Gate → Bool
both f None = true
both f (Some g) = f (var_of g.rhs0) && f (var_of g.rhs1)

abbrev pub settled : List Gate → ℕ → ℕ → Bool
settled gs zero v = is_none (find v gs)
settled gs (suc k) v = both (λ u. settled gs k u) (find v gs)

-- 8: the first gate in file order that is not settled in as many rounds as there are gates, so that it depends on itself or on
-- one that does; the number of rounds is no rule of its own (laws, Reading.Cycles: no-cycle)
abbrev pub first_stuck : List Gate → List Gate → Option ℕ
first_stuck all [] = None
first_stuck all (g ∷ gs) = cond (settled all (length all) (var_of g.lhs)) (first_stuck all gs) (Some (var_of g.lhs))

abbrev pub cyclic_in : Circuit → Option ℕ
cyclic_in c = first_stuck c.gates c.gates
