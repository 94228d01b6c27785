-- A step of a reduced circuit refines a step of the circuit.
use Prim.Native.Nat.{ℕ, ◌+◌, ◌<◌}
use mathlib.Core.Path.{◌≡◌, refl, sym, ap, ◌∙◌, subst}
use mathlib.Core.List.{List, [], ◌∷◌, ◌++◌, map}
use native.Mathlib.Omega.{arith}
use lib.ListN.{length, get_or}
use Rattle.plan.specs.Literals.{lit_of, var_of}
use Rattle.plan.specs.Circuit.{Latch, Circuit, current_vars, nexts, leaves, index}
use Rattle.plan.specs.Binary.{lits_from}
use Rattle.plan.specs.Reduce.{Reduced, becomes, reduced, latch_becomes, reduce}
use Rattle.plan.specs.Step.{Value, v0, lit, leaf_value, values_of, outputs_of, bads_of, constraints_of, next_of}
use Rattle.laws.proofs.Reading.Runs.{length-lits}
use Rattle.laws.proofs.Running.Refinement.{Le, Les, les-append, les-at}
use Rattle.laws.proofs.Running.Values.{value-solves}
use Rattle.laws.proofs.Running.Signs.{lit-double}
use Rattle.laws.proofs.Running.Binary.{settled-binary, holds, leaf-given, inner, Bounded, Ordered}
use Rattle.laws.proofs.Running.Upward.{lits-at, lits-low}
use Rattle.laws.proofs.Running.ReduceGates.{Refines, becomes-le, refines-all, Ok, ok-all, length-all}

currents-becomes : (m : List ℕ) (ls : List Latch) → current_vars (map (latch_becomes m) ls) ≡ current_vars ls
currents-becomes m [] = refl
currents-becomes m (l ∷ ls) = ap (λ (t : List ℕ). var_of l.current ∷ t) (currents-becomes m ls)

pub nexts-becomes : (m : List ℕ) (ls : List Latch) → nexts (map (latch_becomes m) ls) ≡ map (becomes m) (nexts ls)
nexts-becomes m [] = refl
nexts-becomes m (l ∷ ls) = ap (λ (t : List ℕ). becomes m l.next ∷ t) (nexts-becomes m ls)

becomes-les : (w w' : ℕ → Value) (m : List ℕ) → Refines w w' m → (ls : List ℕ) → Bounded (length m) ls
    → Les (map (lit w) ls) (map (lit w') (map (becomes m) ls))
becomes-les w w' m h [] b = tt
becomes-les w w' m h (l ∷ ls) b = (becomes-le w w' m h l b.0, becomes-les w w' m h ls b.1)

module _ (c : Circuit) where
  start : Reduced
  start = record { became = lits_from 0 (inner c); retained = []; fresh = inner c }

  pub reduced-ok : Ok (inner c) (reduced c)
  unfolding start
  reduced-ok =
      ok-all (inner c) start c.gates (record {
        some-var = omega arith;
        order = tt;
        count = omega arith;
        low = lits-low 0 (inner c) (inner c) (omega arith) (omega arith);
      })

  pub length-became : length (reduced c).became ≡ inner c + length c.gates
  unfolding start
  length-became = length-all start c.gates ∙ ap (λ (n : ℕ). n + length c.gates) (length-lits 0 (inner c))

module _ (c : Circuit) (good : Ordered c) (s s' i i' : List Value) (hs : Les s s') (hi : Les i i') where
  e : ℕ → Value
  e = leaf_value c s i

  e' : ℕ → Value
  e' = leaf_value (reduce c) s' i'

  w : ℕ → Value
  w = values_of c s i

  w' : ℕ → Value
  w' = values_of (reduce c) s' i'

  e-le : (v : ℕ) → Le (e v) (e' v)
  unfolding e e'
  e-le v =
      rw (currents-becomes (reduced c).became c.latches)
      (les-at (v0 ∷ (i ++ s)) (v0 ∷ (i' ++ s')) (tt, les-append i i' s s' hi hs) (index v (leaves c)))

  w-leaf : (v : ℕ) → v < inner c → w v ≡ e v
  unfolding w e
  w-leaf v h = leaf-given (inner c) c.gates e good.gates-in v h

  w'-leaf : (v : ℕ) → v < inner c → w' v ≡ e' v
  unfolding w' e'
  w'-leaf v h = leaf-given (inner c) (reduced c).retained e' (reduced-ok c).order v h

  leaf-le : (v : ℕ) → v < inner c → Le (w v) (lit w' (get_or (lits_from 0 (inner c)) v 0))
  leaf-le v h =
      let q : lit_of (0 + v) ≡ lit_of v = omega arith in
      subst (λ (t : Value). Le t (lit w' (get_or (lits_from 0 (inner c)) v 0))) (sym (w-leaf v h))
      (subst (λ (t : Value). Le (e v) t) (sym (ap (lit w') (lits-at 0 (inner c) v h ∙ q) ∙ lit-double w' v ∙ w'-leaf v h)) (e-le v))

  refines : Refines w w' (reduced c).became
  unfolding w w' e e' start
  refines =
      refines-all w w' (w'-leaf 0 (omega arith)) (start c) c.gates
      (rw (length-lits 0 (inner c)) good.gates-in)
      (holds e w (inner c) c.gates good.gates-in
      (λ v _. value-solves c.gates e (length c.gates) (settled-binary (inner c) c.gates good.gates-in) v))
      (holds e' w' (inner c) (reduced c).retained (reduced-ok c).order
      (λ v _. value-solves (reduced c).retained e' (length (reduced c).retained)
      (settled-binary (inner c) (reduced c).retained (reduced-ok c).order) v))
      (λ v h. leaf-le v (omega (arith, h, length-lits 0 (inner c))))

  pub reduce-outputs : Les (outputs_of c s i) (outputs_of (reduce c) s' i')
  unfolding w w'
  reduce-outputs = becomes-les w w' (reduced c).became refines c.outputs (rw (length-became c) good.output-in)

  pub reduce-bads : Les (bads_of c s i) (bads_of (reduce c) s' i')
  unfolding w w'
  reduce-bads = becomes-les w w' (reduced c).became refines c.bads (rw (length-became c) good.bad-in)

  pub reduce-constraints : Les (constraints_of c s i) (constraints_of (reduce c) s' i')
  unfolding w w'
  reduce-constraints = becomes-les w w' (reduced c).became refines c.constraints (rw (length-became c) good.constraint-in)

  pub reduce-next : Les (next_of c s i) (next_of (reduce c) s' i')
  unfolding w w'
  reduce-next =
      rw (nexts-becomes (reduced c).became c.latches)
      (becomes-les w w' (reduced c).became refines (nexts c.latches) (rw (length-became c) good.next-in))
