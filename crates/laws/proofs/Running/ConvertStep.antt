-- A step of a converted circuit is a step of the circuit.
use Prim.Native.Nat.{ℕ, ◌+◌, ◌≤◌, ◌<◌}
use mathlib.Core.Path.{◌≡◌, refl, sym, ap, ap₂, ◌∙◌}
use mathlib.Core.Bool.{Bool, true, false}
use mathlib.Core.List.{List, [], ◌∷◌, ◌++◌, map}
use native.Mathlib.Omega.{arith}
use borrow.Author.Tests.{leb-true, leb-false}
use lib.Dec.{leb}
use lib.ListN.{length, get_or, length-append, get_or-eq_default}
use Rattle.plan.specs.Literals.{var_of, sign_of}
use Rattle.plan.specs.Circuit.{Circuit, left_vars, nexts, leaves}
use Rattle.plan.specs.Depends.{find}
use Rattle.plan.specs.Convert.{sorted, numbered, renumber, convert}
use Rattle.plan.specs.Step.{Value, vx, signed_value, lit, gate_value, leaf_value, values_of, outputs_of, bads_of, constraints_of, next_of}
use Rattle.laws.proofs.Running.Values.{Solves, unique}
use Rattle.laws.proofs.Running.Lists.{distinct-left, has-at, index_at, all_in, in_head, in_tail}
use Rattle.laws.proofs.Running.Accepted.{Accepted}
use Rattle.laws.proofs.Running.GateValue.{GateEq, gates-hold, leaf-holds}
use Rattle.laws.proofs.Running.Binary.{Holds, find_none, find-above, settled-binary, solves-in, inner}
use Rattle.laws.proofs.Running.Upward.{given, leaf-at}
use Rattle.laws.proofs.Running.Renumber.{look, look-past, look-front, lit-renumber, renumber_gates-hold}
use Rattle.laws.proofs.Running.Numbering.{order-readied, order-all}
use Rattle.laws.proofs.Running.Converted.{length-leaves, leaves-convert, nexts-convert, gates-binary, length-numbered, gets-number}

module _ (c : Circuit) (ok : Accepted c) (s i : List Value) (ls : length s ≡ length c.latches) (li : length i ≡ length c.inputs) where
  length-given : length (given s i) ≡ inner c
  length-given = omega (arith, length-append i s, ls, li)

  leaf-convert : (v : ℕ) → leaf_value (convert c) s i v ≡ get_or (given s i) v vx
  leaf-convert = leaf-at (convert c) (inner c) s i (leaves-convert c) length-given

  before : ℕ → Value
  before = values_of c s i

  after_holds : Holds (look before (numbered c)) (convert c).gates
  unfolding before
  after_holds =
      rw (length-leaves c) at (renumber_gates-hold before (numbered c) (leaves c) (sorted c)
      (order-readied (length c.gates) (leaves c) c.gates) refl
      (order-all (GateEq before) (length c.gates) (leaves c) c.gates (gates-hold c ok s i)))

  before-leaf : (v : ℕ) → v < inner c → look before (numbered c) v ≡ get_or (given s i) v vx
  unfolding before
  before-leaf v h =
      let h' : v < length (leaves c) = omega (arith, length-leaves c) in
      let u = get_or (leaves c) v 0 in
      look-front before (leaves c) (left_vars (sorted c)) v h' ∙ leaf-holds c ok s i u (has-at (leaves c) v h')
      ∙ ap (λ (n : ℕ). get_or (given s i) n vx) (index_at (leaves c) (distinct-left (leaves c) (left_vars c.gates) ok.once) v h')

  after-solves : Solves (convert c).gates (leaf_value (convert c) s i) (look before (numbered c))
  after-solves v = low (leb (inner c) v) refl
    where
      high : (t : Bool) → leb (inner c + length (convert c).gates) v ≡ t → inner c ≤ v
          → look before (numbered c) v ≡ gate_value (look before (numbered c)) (leaf_value (convert c) s i v) (find v (convert c).gates)
      high false e h =
          solves-in (look before (numbered c)) (leaf_value (convert c) s i v) (inner c) (convert c).gates (gates-binary c) after_holds v h
          (leb-false (inner c + length (convert c).gates) v e)
      high true e h =
          let k : inner c + length (convert c).gates ≤ v = leb-true (inner c + length (convert c).gates) v e in
          look-past before (numbered c) v (omega (arith, length-numbered c))
          ∙ sym (get_or-eq_default (given s i) vx {n = v} (omega (arith, length-given))) ∙ sym (leaf-convert v)
          ∙ ap (gate_value (look before (numbered c)) (leaf_value (convert c) s i v))
          (sym (find-above (inner c) (convert c).gates (gates-binary c) v k))

      low : (t : Bool) → leb (inner c) v ≡ t
          → look before (numbered c) v ≡ gate_value (look before (numbered c)) (leaf_value (convert c) s i v) (find v (convert c).gates)
      low true e = high (leb (inner c + length (convert c).gates) v) refl (leb-true (inner c) v e)
      low false e =
          let h : v < inner c = leb-false (inner c) v e in
          before-leaf v h ∙ sym (leaf-convert v) ∙ ap (gate_value (look before (numbered c)) (leaf_value (convert c) s i v))
          (sym (find_none (inner c) (convert c).gates (gates-binary c) v h))

  after-values : (v : ℕ) → values_of (convert c) s i v ≡ look before (numbered c) v
  after-values v =
      sym (unique (convert c).gates (leaf_value (convert c) s i) (look before (numbered c)) after-solves (length (convert c).gates) v
      (settled-binary (inner c) (convert c).gates (gates-binary c) v))

  lits-renumber : (ls : List ℕ) → all_in ls (leaves c ++ left_vars c.gates) ≡ true
      → map (lit (values_of (convert c) s i)) (map (renumber (numbered c)) ls) ≡ map (lit (values_of c s i)) ls
  unfolding before
  lits-renumber [] a = refl
  lits-renumber (l ∷ ls) a =
      ap₂ (λ (x : Value) (t : List Value). x ∷ t)
      (ap (signed_value (sign_of (renumber (numbered c) l))) (after-values (var_of (renumber (numbered c) l)))
      ∙ lit-renumber before (numbered c) l (gets-number c ok (var_of l) (in_head l ls (leaves c ++ left_vars c.gates) a)))
      (lits-renumber ls (in_tail l ls (leaves c ++ left_vars c.gates) a))

  pub convert-outputs : outputs_of (convert c) s i ≡ outputs_of c s i
  convert-outputs = lits-renumber c.outputs ok.used-output

  pub convert-bads : bads_of (convert c) s i ≡ bads_of c s i
  convert-bads = lits-renumber c.bads ok.used-bad

  pub convert-constraints : constraints_of (convert c) s i ≡ constraints_of c s i
  convert-constraints = lits-renumber c.constraints ok.used-constraint

  pub convert-next : next_of (convert c) s i ≡ next_of c s i
  convert-next = ap (map (lit (values_of (convert c) s i))) (nexts-convert c) ∙ lits-renumber (nexts c.latches) ok.used-next
