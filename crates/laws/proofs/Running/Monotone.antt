-- Stepping is monotone in x, for any circuit: replacing x by 0 or 1 changes only what was x.
use Prim.Native.Nat.{ℕ}
use mathlib.Core.List.{List, [], ◌∷◌, ◌++◌}
use lib.ListN.{length}
use Rattle.plan.specs.Circuit.{Circuit, nexts, leaves, index}
use Rattle.plan.specs.Step.{Value, v0, leaf_value, values_of, outputs_of, bads_of, constraints_of, next_of, Step, run}
use Rattle.laws.proofs.Running.Refinement.{Le, Les, les-append, les-at, lits-le}
use Rattle.laws.proofs.Running.Values.{value-le}

-- x replaced in a list of input vectors
abbrev pub Replaced : List (List Value) → List (List Value) → Type 0
Replaced [] [] = Unit {0}
Replaced [] (j ∷ js) = ⊥
Replaced (i ∷ is) [] = ⊥
Replaced (i ∷ is) (j ∷ js) = Les i j × Replaced is js

-- at every step each latch, before and after, and each output, bad state and constraint that was 0 or 1 is the same
abbrev pub Kept : List Step → List Step → Type 0
Kept [] [] = Unit {0}
Kept [] (b ∷ ys) = ⊥
Kept (a ∷ xs) [] = ⊥
Kept (a ∷ xs) (b ∷ ys) =
    Les a.state b.state × Les a.outputs b.outputs × Les a.bads b.bads × Les a.constraints b.constraints
    × Les a.next b.next × Kept xs ys

module _ (c : Circuit) where
  module _ (s s' i i' : List Value) (hs : Les s s') (hi : Les i i') where
    leaf-le : (v : ℕ) → Le (leaf_value c s i v) (leaf_value c s' i' v)
    leaf-le v = les-at (v0 ∷ (i ++ s)) (v0 ∷ (i' ++ s')) (tt, les-append i i' s s' hi hs) (index v (leaves c))

    pub values-le : (v : ℕ) → Le (values_of c s i v) (values_of c s' i' v)
    values-le v = value-le c.gates (leaf_value c s i) (leaf_value c s' i') leaf-le (length c.gates) v

    pub step-monotone : Les (outputs_of c s i) (outputs_of c s' i') × Les (bads_of c s i) (bads_of c s' i')
        × Les (constraints_of c s i) (constraints_of c s' i') × Les (next_of c s i) (next_of c s' i')
    step-monotone = (
      lits-le (values_of c s i) (values_of c s' i') values-le c.outputs,
      lits-le (values_of c s i) (values_of c s' i') values-le c.bads,
      lits-le (values_of c s i) (values_of c s' i') values-le c.constraints,
      lits-le (values_of c s i) (values_of c s' i') values-le (nexts c.latches),
    )

  pub run-monotone : (is js : List (List Value)) → Replaced is js → (s s' : List Value) → Les s s' → Kept (run c s is) (run c s' js)
  run-monotone [] [] r s s' h = tt
  run-monotone [] (j ∷ js) r s s' h = absurd r
  run-monotone (i ∷ is) [] r s s' h = absurd r
  run-monotone (i ∷ is) (j ∷ js) r s s' h =
      let t = step-monotone s s' i j h r.0 in
      (h, t.0, t.1, t.2, t.3, run-monotone is js r.1 (next_of c s i) (next_of c s' j) t.3)
