-- In every well-formed circuit a gate's value is the And of its right sides' values, and what is no gate's has what it is given.
use Prim.Native.Nat.{ℕ}
use mathlib.Core.Path.{◌≡◌, ap, ◌∙◌}
use mathlib.Core.Bool.{true}
use mathlib.Core.List.{List, Memᴰ}
use lib.ListN.{length}
use Rattle.std.specs.Prelude.{Some}
use Rattle.plan.specs.Literals.{var_of}
use Rattle.plan.specs.Circuit.{Gate, Circuit, left_vars, has, leaves}
use Rattle.plan.specs.Depends.{find}
use Rattle.plan.specs.Reading.{WellFormed}
use Rattle.plan.specs.Step.{Value, and, lit, gate_value, leaf_value, values_of}
use Rattle.laws.proofs.Reading.Cycles.{none_of}
use Rattle.laws.proofs.Running.Values.{Solves, value-solves}
use Rattle.laws.proofs.Running.Lists.{distinct-right, distinct_apart}
use Rattle.laws.proofs.Running.Found.{AllG, all-at, all_map, found-own}
use Rattle.laws.proofs.Running.Accepted.{Accepted, accepted}

abbrev pub GateEq : (ℕ → Value) → Gate → Type 0
GateEq w g = w (var_of g.lhs) ≡ and (lit w g.rhs0) (lit w g.rhs1)

module _ (c : Circuit) (ok : Accepted c) where
  pub values-solve : (s i : List Value) → Solves c.gates (leaf_value c s i) (values_of c s i)
  values-solve s i = value-solves c.gates (leaf_value c s i) (length c.gates) ok.settles

  pub gates-found : AllG (λ g. find (var_of g.lhs) c.gates ≡ Some g) c.gates
  gates-found = found-own c.gates (distinct-right (leaves c) (left_vars c.gates) ok.once)

  pub gates-hold : (s i : List Value) → AllG (GateEq (values_of c s i)) c.gates
  gates-hold s i =
      all_map (λ g. find (var_of g.lhs) c.gates ≡ Some g) (GateEq (values_of c s i))
      (λ g e. values-solve s i (var_of g.lhs) ∙ ap (gate_value (values_of c s i) (leaf_value c s i (var_of g.lhs))) e)
      c.gates gates-found

  pub leaf-holds : (s i : List Value) (v : ℕ) → has v (leaves c) ≡ true → values_of c s i v ≡ leaf_value c s i v
  leaf-holds s i v h =
      values-solve s i v ∙ ap (gate_value (values_of c s i) (leaf_value c s i v))
      (none_of v c.gates (distinct_apart v (leaves c) (left_vars c.gates) ok.once h))

module _ (c : Circuit) (ok : WellFormed c) where
  -- every gate of the list is the gate of its left side's variable
  pub gate-found : (g : Gate) → Memᴰ g c.gates → find (var_of g.lhs) c.gates ≡ Some g
  gate-found g m = all-at (λ j. find (var_of j.lhs) c.gates ≡ Some j) m (gates-found c (accepted c ok))

  -- a gate's value is the And of its right sides' values
  pub gate-value : (s i : List Value) (g : Gate) → Memᴰ g c.gates
      → values_of c s i (var_of g.lhs) ≡ and (lit (values_of c s i) g.rhs0) (lit (values_of c s i) g.rhs1)
  gate-value s i g m = all-at (GateEq (values_of c s i)) m (gates-hold c (accepted c ok) s i)

  -- the constant, an input or a latch has what it is given
  pub leaf-value : (s i : List Value) (v : ℕ) → has v (leaves c) ≡ true → values_of c s i v ≡ leaf_value c s i v
  leaf-value s i v h = leaf-holds c (accepted c ok) s i v h
