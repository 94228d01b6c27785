-- Values: the equation of every gate has one solution where the gates settle; refining what is given refines every value.
use Prim.Native.Nat.{ℕ, zero, suc}
use mathlib.Core.Path.{◌≡◌, refl, sym, ap, ap₂, ◌∙◌}
use mathlib.Core.Bool.{Bool, true, false≢true}
use mathlib.Core.List.{List}
use Rattle.std.specs.Prelude.{Option, Some, None}
use Rattle.plan.specs.Literals.{var_of, sign_of}
use Rattle.plan.specs.Circuit.{Gate}
use Rattle.plan.specs.Depends.{find, is_none, both, settled}
use Rattle.plan.specs.Step.{Value, and, signed_value, lit, gate_value, value_in}
use Rattle.laws.proofs.Reading.Common.{and_left, and_right, and_intro}
use Rattle.laws.proofs.Running.Refinement.{Le, and-le, lit-le}

gate_value-le : (w w' : ℕ → Value) → ((v : ℕ) → Le (w v) (w' v)) → (a b : Value) → Le a b → (o : Option Gate)
    → Le (gate_value w a o) (gate_value w' b o)
gate_value-le w w' h a b k None = k
gate_value-le w w' h a b k (Some g) =
    and-le (lit w g.rhs0) (lit w' g.rhs0) (lit w g.rhs1) (lit w' g.rhs1) (lit-le w w' g.rhs0 (h (var_of g.rhs0)))
    (lit-le w w' g.rhs1 (h (var_of g.rhs1)))

-- refining what is given refines every value
pub value-le : (gs : List Gate) (e e' : ℕ → Value) → ((v : ℕ) → Le (e v) (e' v)) → (k v : ℕ) → Le (value_in gs e k v) (value_in gs e' k v)
value-le gs e e' h zero v = h v
value-le gs e e' h (suc k) v =
    gate_value-le (λ u. value_in gs e k u) (λ u. value_in gs e' k u) (λ u. value-le gs e e' h k u) (e v) (e' v) (h v) (find v gs)

-- the equation and its only solution
abbrev pub Solves : List Gate → (ℕ → Value) → (ℕ → Value) → Type 0
Solves gs e w = (v : ℕ) → w v ≡ gate_value w (e v) (find v gs)

agree : (f : ℕ → Bool) (w w' : ℕ → Value) → ((u : ℕ) → f u ≡ true → w u ≡ w' u) → (a : Value) (o : Option Gate) → both f o ≡ true
    → gate_value w a o ≡ gate_value w' a o
agree f w w' h a None p = refl
agree f w w' h a (Some g) p =
    ap₂ and (ap (signed_value (sign_of g.rhs0)) (h (var_of g.rhs0) (and_left (f (var_of g.rhs0)) (f (var_of g.rhs1)) p)))
    (ap (signed_value (sign_of g.rhs1)) (h (var_of g.rhs1) (and_right (f (var_of g.rhs0)) (f (var_of g.rhs1)) p)))

leaf : (w : ℕ → Value) (a : Value) (o : Option Gate) → is_none o ≡ true → gate_value w a o ≡ a
leaf w a None p = refl
leaf w a (Some g) p = absurd (false≢true p)

-- one round more changes nothing at what is settled
pub stable : (gs : List Gate) (e : ℕ → Value) (k v : ℕ) → settled gs k v ≡ true → value_in gs e (suc k) v ≡ value_in gs e k v
stable gs e zero v p = leaf e (e v) (find v gs) p
stable gs e (suc k) v p =
    agree (λ u. settled gs k u) (λ u. value_in gs e (suc k) u) (λ u. value_in gs e k u) (λ u q. stable gs e k u q) (e v) (find v gs) p

pub value-solves : (gs : List Gate) (e : ℕ → Value) (k : ℕ) → ((v : ℕ) → settled gs k v ≡ true) → Solves gs e (value_in gs e k)
value-solves gs e k p v = sym (stable gs e k v (p v))

pub unique : (gs : List Gate) (e w : ℕ → Value) → Solves gs e w → (k v : ℕ) → settled gs k v ≡ true → w v ≡ value_in gs e k v
unique gs e w s zero v p = s v ∙ leaf w (e v) (find v gs) p
unique gs e w s (suc k) v p = s v ∙ agree (λ u. settled gs k u) w (λ u. value_in gs e k u) (λ u q. unique gs e w s k u q) (e v) (find v gs) p

-- more rounds keep what is settled, and its value
both-more : (f f' : ℕ → Bool) → ((u : ℕ) → f u ≡ true → f' u ≡ true) → (o : Option Gate) → both f o ≡ true → both f' o ≡ true
both-more f f' h None p = refl
both-more f f' h (Some g) p =
    and_intro (f' (var_of g.rhs0)) (f' (var_of g.rhs1)) (h (var_of g.rhs0) (and_left (f (var_of g.rhs0)) (f (var_of g.rhs1)) p))
    (h (var_of g.rhs1) (and_right (f (var_of g.rhs0)) (f (var_of g.rhs1)) p))

both-none : (f : ℕ → Bool) (o : Option Gate) → is_none o ≡ true → both f o ≡ true
both-none f None p = refl
both-none f (Some g) p = absurd (false≢true p)

pub settled-more : (gs : List Gate) (k v : ℕ) → settled gs k v ≡ true → settled gs (suc k) v ≡ true
settled-more gs zero v p = both-none (λ u. settled gs zero u) (find v gs) p
settled-more gs (suc k) v p = both-more (λ u. settled gs k u) (λ u. settled gs (suc k) u) (λ u q. settled-more gs k u q) (find v gs) p

pub settled-none : (gs : List Gate) (k v : ℕ) → find v gs ≡ None → settled gs k v ≡ true
settled-none gs zero v p = rw p
settled-none gs (suc k) v p = rw p
