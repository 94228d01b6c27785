-- The value of each variable of tables in binary order: the constant's, an input's, a latch's, a gate's; and that it is the step's.
use Prim.Native.Nat.{ℕ, suc, ◌+◌, ◌-◌, ◌≤◌, ◌<◌}
use mathlib.Core.Path.{◌≡◌, sym, ap, ◌∙◌, subst}
use mathlib.Core.Bool.{true}
use mathlib.Core.List.{List, map}
use native.Mathlib.Omega.{arith}
use lib.ListN.{length, get_or, length-map, length-append, get_or-append, get_or-map}
use lib.Seq.{get_or-append-add}
use Rattle.plan.specs.declared.Counts.{Counts}
use Rattle.plan.specs.Circuit.{Gate, Circuit, Tables, circuit_of}
use Rattle.plan.specs.Depends.{find}
use Rattle.plan.specs.Step.{Value, vx, code_of, value_of, and, lit, gate_value, value_in, values_of}
use Rattle.plan.specs.Outcome.{all_codes}
use Rattle.laws.proofs.Tables.{gate_at, gates_at, gates-rows}
use Rattle.laws.proofs.Reading.Runs.{BinaryOrder, order-exactly}
use Rattle.laws.proofs.Running.Values.{value-solves}
use Rattle.laws.proofs.Running.Binary.{Binary, leaf-given, settled-binary, inner}
use Rattle.laws.proofs.Running.InOrder.{order-binary, leaves-order}
use Rattle.laws.proofs.Running.Sides.{Sides, sides-below}
use Rattle.laws.proofs.Running.Sweep.{at}
use Rattle.laws.proofs.Running.Upward.{given, leaf-at}
use Rattle.step.specs.sweep.Running.{Runs}
use Rattle.plain.specs.Asked.{variable_in, Teaches}
use Rattle.plain.proofs.Codes.{code-value, codes_at}
use Rattle.plain.proofs.Gates.{find_at}

module _ {n : Counts} {gates state ins : List ℕ} (p : Teaches n gates state ins) where
  abbrev s : List Value
  s = map value_of state

  abbrev i : List Value
  i = map value_of ins

  abbrev gs : List Gate
  gs = gates_at gates n.A

  abbrev w : ℕ → Value
  w = variable_in n gates state ins

  leaf : (v : ℕ) → v < 1 + n.I + n.L → w v ≡ at (given s i) v
  leaf v h = leaf-given (1 + n.I + n.L) gs (at (given s i)) p.ordered v h

  -- a code of a vector, from its value
  code-of : (l : List ℕ) → all_codes l ≡ true → (k : ℕ) → k < length l → code_of (get_or (map value_of l) k vx) ≡ get_or l k 0
  code-of l h k lt = ap code_of (get_or-map value_of l k 0) ∙ code-value (get_or l k 0) (codes_at l h k lt)

  pub constant-worth : (v : ℕ) → v ≡ 0 → 48 ≡ code_of (w v)
  constant-worth v e = sym (ap (λ (k : ℕ). code_of (w k)) e ∙ ap code_of (leaf 0 (omega arith)))

  pub input-worth : (v : ℕ) → (v ≡ 0 → ⊥) → v ≤ n.I → get_or ins (v - 1) 0 ≡ code_of (w v)
  input-worth v h k =
      let q : v ≡ suc (v - 1) = omega arith in
      sym (ap (λ (j : ℕ). code_of (w j)) q
      ∙ (ap code_of (leaf (suc (v - 1)) (omega arith) ∙ get_or-append i s vx (v - 1) (omega (arith, length-map ins value_of, p.inputs-length)))
      ∙ code-of ins p.inputs-codes (v - 1) (omega (arith, p.inputs-length))))

  pub latch-worth : (v : ℕ) → n.I < v → v ≤ n.I + n.L → get_or state (v - 1 - n.I) 0 ≡ code_of (w v)
  latch-worth v h k =
      let j : ℕ = v - 1 - n.I in
      let q : v ≡ suc (length i + (v - 1 - n.I)) = omega (arith, length-map ins value_of, p.inputs-length) in
      sym (ap (λ (u : ℕ). code_of (w u)) q
      ∙ (ap code_of (leaf (suc (length i + (v - 1 - n.I))) (omega arith) ∙ get_or-append-add i s (v - 1 - n.I) vx)
      ∙ code-of state p.state-codes (v - 1 - n.I) (omega (arith, p.state-length))))

  -- the gate of a variable past the leaves
  abbrev pub gate_of : ℕ → Gate
  gate_of v = gate_at gates (v - 1 - n.I - n.L)

  module _ (v : ℕ) (past : n.I + n.L < v) (up : v ≤ n.M) where
    pub gate-in : v - 1 - n.I - n.L < n.A
    gate-in = omega (arith, p.sum)

    here : 1 + n.I + n.L + (v - 1 - n.I - n.L) ≡ v
    here = omega arith

    pub sides-in : Sides v (gate_of v)
    sides-in = subst (λ (k : ℕ). Sides k (gate_of v)) here (sides-below (1 + n.I + n.L) gates n.A (v - 1 - n.I - n.L) gate-in p.ordered)

    pub gate-worth : w v ≡ and (lit w (gate_of v).rhs0) (lit w (gate_of v).rhs1)
    gate-worth =
        value-solves gs (at (given s i)) (length gs) (settled-binary (1 + n.I + n.L) gs p.ordered) v
        ∙ ap (gate_value w (at (given s i) v))
        (ap (λ (k : ℕ). find k gs) (sym here) ∙ find_at (1 + n.I + n.L) gates n.A (v - 1 - n.I - n.L) gate-in p.ordered)

-- tables that hold an accepted circuit in binary order
module _ {n : Counts} {x : Tables} (r : Runs n x) where
  abbrev c : Circuit
  c = circuit_of n x

  abbrev gates : List ℕ
  gates = x.gates

  in_order : BinaryOrder c
  in_order = (order-exactly c).0 r.order

  all-leaves : inner c ≡ 1 + n.I + n.L
  all-leaves = ap (λ (m : Counts). 1 + m.I + m.L) r.counts

  module _ (state ins : List ℕ) (ls : length state ≡ n.L) (li : length ins ≡ n.I) where
    -- what the plain engine asks holds
    pub teaches : all_codes state ≡ true → all_codes ins ≡ true → Teaches n gates state ins
    teaches hs hi = record {
      most-M = r.fits.most-M;
      sum =
          let a = ap (λ (m : Counts). m.I) r.counts in
          let b = ap (λ (m : Counts). m.L) r.counts in
          let d = ap (λ (m : Counts). m.A) r.counts in
          omega (arith, in_order.sum, a, b, d);
      gates-long = r.fits.gates-long;
      ordered =
          subst (λ (k : ℕ). Binary k (gates_at gates n.A)) all-leaves
          (subst (λ (l : List Gate). Binary (inner c) l) (gates-rows gates n.A) (order-binary (inner c) c.gates in_order.gates));
      state-length = ls;
      inputs-length = li;
      state-codes = hs;
      inputs-codes = hi;
    }

    -- the values are the step's
    pub worth-step : (v : ℕ) → variable_in n gates state ins v ≡ values_of c (map value_of state) (map value_of ins) v
    worth-step v =
        ap (λ (l : List Gate). value_in l (at (given s' i')) (length l) v) (sym (gates-rows gates n.A))
        ∙ ap (λ (e : ℕ → Value). value_in c.gates e (length c.gates) v)
        (λ j u. sym (leaf-at c (inner c) s' i' (leaves-order c in_order) count u) j)
      where
        s' : List Value
        s' = map value_of state

        i' : List Value
        i' = map value_of ins

        count : length (given s' i') ≡ inner c
        count = omega (arith, length-append i' s', length-map state value_of, length-map ins value_of, ls, li, all-leaves)
