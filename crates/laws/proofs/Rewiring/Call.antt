-- What the call leaves: the edited circuit in the tables, its fresh step on the screen, and all else as it was.
use Prim.Native.Nat.{ℕ, ◌+◌, ◌*◌, ◌≤◌, ◌<◌, min, max}
use mathlib.Core.Path.{◌≡◌, refl, sym, ap, ◌∙◌, subst}
use mathlib.Core.Bool.{true, ◌&&◌}
use mathlib.Core.List.{List, [], ◌∷◌, ◌++◌}
use Rattle.std.specs.Prelude.{Ok, Err, Option, Some, None}
use native.Mathlib.Omega.{arith}
use borrow.Author.Tests.{ltb-true, eqb-true}
use lib.Dec.{eqb, ltb}
use lib.ListN.{length, get_or, length-replicate}
use Rattle.plan.specs.declared.Counts.{Counts}
use Rattle.plan.specs.declared.Refusal.{Refusal}
use Rattle.plan.specs.declared.Refusal.TheVariants.{NotInOrder, BadVector, NoGate, WrongValue}
use Rattle.plan.specs.Literals.{lit_of}
use Rattle.plan.specs.Refusals.{stage, first_of}
use Rattle.plan.specs.Circuit.{Gate, Circuit, Tables, counts_of, words_to_work, against, least_short}
use Rattle.plan.specs.Depends.{Depends}
use Rattle.plan.specs.Reading.{WellFormed}
use Rattle.plan.specs.Binary.{binary_order}
use Rattle.plan.specs.Given.{Given, given_circuit, lent_alone, failing_at, failing, stages, order_stage}
use Rattle.plan.specs.Step.{code_of, values_of}
use Rattle.plan.specs.Outcome.{put}
use Rattle.laws.proofs.Reading.Common.{and_left, and_right}
use Rattle.laws.proofs.Reading.Short.{short_none}
use Rattle.laws.proofs.Put.{put-length}
use Rattle.laws.proofs.Tables.{gate_at, gates_at, gates-rows}
use Rattle.laws.proofs.Reading.Runs.{order-exactly}
use Rattle.laws.proofs.Running.Binary.{Binary, inner}
use Rattle.laws.proofs.Running.InOrder.{order-binary}
use Rattle.laws.proofs.Writing.Nothing.{stepped-none, stage-none, at_none, failing-none, first-all, first-both}
use Rattle.laws.proofs.Writing.Fine.{nothing-fine, fine-nothing, counts-given}
use Rattle.laws.proofs.Writing.Holding.{formed-fine}
use Rattle.laws.proofs.Writing.Later.{Left}
use Rattle.plan.specs.Rewire.{rewired_gates, rewire, screen, inputs_on, state_on, wrong_on, left_at, edit_stages, RewireEntry, rewired_by, rewiring}
use Rattle.laws.proofs.Rewiring.Rewired.{length-rewired, rewire-in-order, rewire-well-formed, rewire-apart}
use Rattle.laws.proofs.Rewiring.Screen.{screen-exactly, screen-at}
use Rattle.laws.proofs.Rewiring.Rows.{left-side, other-gate, table-rewired, two-stores}

-- the tables with another one of gates
abbrev pub with_gates : Tables → List ℕ → Tables
with_gates t gates = record {
  inputs = t.inputs;
  latches = t.latches;
  outputs = t.outputs;
  gates = gates;
  resets = t.resets;
  bads = t.bads;
  constraints = t.constraints;
}

-- a circuit and an edit that are refused for nothing
pub record Edits (e : RewireEntry) : Type 0 where
  pub fine : first_of (stages e.circuit (lent_alone e.circuit)) ≡ None
  pub formed : WellFormed (given_circuit e.circuit)
  pub order : binary_order (given_circuit e.circuit) ≡ true
  pub counts : counts_of (given_circuit e.circuit) ≡ e.circuit.counts
  pub room : 3 * e.circuit.counts.A ≤ length e.circuit.tables.gates
  pub there : e.gate < e.circuit.counts.A
  pub below0 : e.rhs0 < lit_of (inner (given_circuit e.circuit) + e.gate)
  pub below1 : e.rhs1 < lit_of (inner (given_circuit e.circuit) + e.gate)
  pub size : length e.values ≡ e.circuit.counts.M + 1
  pub right : wrong_on (given_circuit e.circuit) e.values ≡ None

module _ (e : RewireEntry) where
  abbrev g : Given
  g = e.circuit

  abbrev c : Circuit
  c = given_circuit g

  abbrev n : Counts
  n = g.counts

  abbrev lasts : List (Option Refusal)
  lasts = edit_stages n e.gate e.rhs0 e.rhs1 (length e.values) ++ (stage WrongValue (wrong_on c e.values) ∷ [])

  -- nothing is found
  pub found_nothing : first_of (stages g (lent_alone g) ++ (order_stage g ∷ lasts)) ≡ None → Edits e
  found_nothing f =
      let h = first-both (stages g (lent_alone g)) (order_stage g ∷ lasts) f in
      let k = first-all (order_stage g ∷ lasts) h.1 in
      let m = nothing-fine g (lent_alone g) h.0 in
      let l = (short_none (lent_alone g)).0 m.room in
      let held = counts-given g m.room in
      let lefts : left_at n e.gate ≡ lit_of (inner c + e.gate)
      = ap (λ (x : Counts). lit_of (1 + x.I + x.L + e.gate)) (sym held) in
      let b0 = ltb e.rhs0 (left_at n e.gate) in
      let b1 = ltb e.rhs1 (left_at n e.gate) in
      let both : (b0 && b1) ≡ true = failing-none (b0 && b1) (stage-none NotInOrder (failing (b0 && b1)) k.1.1.1.0) in
      record {
        fine = h.0;
        formed = m.formed;
        order = failing-none (binary_order c) (stage-none NotInOrder (failing (binary_order c)) k.0);
        counts = held;
        room = l.1.1.1.0;
        there = ltb-true _ _ (at_none e.gate (ltb e.gate n.A) (stage-none NoGate (failing_at e.gate (ltb e.gate n.A)) k.1.0));
        below0 = subst (λ (x : ℕ). e.rhs0 < x) lefts (ltb-true _ _ (and_left b0 b1 both));
        below1 = subst (λ (x : ℕ). e.rhs1 < x) lefts (ltb-true _ _ (and_right b0 b1 both));
        size = eqb-true _ _ (at_none 4 (eqb (length e.values) (n.M + 1))
            (stage-none BadVector (failing_at 4 (eqb (length e.values) (n.M + 1))) k.1.1.1.1.0));
        right = stage-none WrongValue (wrong_on c e.values) k.1.1.1.1.1.0;
      }

  -- what 15 holds a right side to is the left side in the gate's row
  pub left-judged : first_of (stages g (lent_alone g) ++ (order_stage g ∷ [])) ≡ None → e.gate < n.A
      → (gate_at g.tables.gates e.gate).lhs ≡ left_at n e.gate
  left-judged f there =
      let h = first-both (stages g (lent_alone g)) (order_stage g ∷ []) f in
      let held = counts-given g (nothing-fine g (lent_alone g) h.0).room in
      let order = failing-none (binary_order c) (stage-none NotInOrder (failing (binary_order c)) (first-all (order_stage g ∷ []) h.1).0) in
      left-side (inner c) g.tables.gates n.A e.gate there
      (subst (λ (gs : List Gate). Binary (inner c) gs) (gates-rows g.tables.gates n.A)
      (order-binary (inner c) c.gates ((order-exactly c).0 order).gates))
      ∙ ap (λ (x : Counts). lit_of (1 + x.I + x.L + e.gate)) held

  abbrev pub edited : Circuit
  edited = rewire c e.gate e.rhs0 e.rhs1

  -- what is given after the call
  abbrev pub after : Given
  after = record { counts = n; tables = with_gates g.tables (rewiring e).gates; scratch = (rewiring e).scratch }

  module _ (d : (rewiring e).answer ≡ Ok tt) where
    nothing : first_of (stages g (lent_alone g) ++ (order_stage g ∷ lasts)) ≡ None
    nothing = stepped-none (λ o. (rewired_by o e).answer) (λ r. refl) (first_of (stages g (lent_alone g) ++ (order_stage g ∷ lasts))) d

    -- what was not refused
    pub done-edits : Edits e
    done-edits = found_nothing nothing

    row_fits : 3 * e.gate + 3 ≤ length g.tables.gates
    row_fits = omega (arith, done-edits.room, done-edits.there)

    gates-are : (rewiring e).gates ≡ put g.tables.gates (3 * e.gate + 1) (max e.rhs0 e.rhs1 ∷ min e.rhs0 e.rhs1 ∷ [])
    gates-are = ap (λ (o : Option Refusal). (rewired_by o e).gates) nothing

    pub values-are : (rewiring e).values ≡ screen edited (state_on c e.values) (inputs_on c e.values)
    values-are = ap (λ (o : Option Refusal). (rewired_by o e).values) nothing

    -- the tables hold the edited circuit
    pub holds-edited : given_circuit after ≡ edited
    holds-edited = λ i. record {
      M = n.M;
      inputs = c.inputs;
      latches = c.latches;
      resets = c.resets;
      outputs = c.outputs;
      bads = c.bads;
      constraints = c.constraints;
      gates = gates-edited i;
    }
      where
        gates-edited : (given_circuit after).gates ≡ rewired_gates e.gate e.rhs0 e.rhs1 c.gates
        gates-edited =
            gates-rows (rewiring e).gates n.A
            ∙ ap (λ (t : List ℕ). gates_at t n.A)
            (gates-are ∙ sym (two-stores g.tables.gates e.gate (max e.rhs0 e.rhs1) (min e.rhs0 e.rhs1) row_fits))
            ∙ table-rewired g.tables.gates e.gate e.rhs0 e.rhs1 n.A row_fits done-edits.there
            ∙ ap (rewired_gates e.gate e.rhs0 e.rhs1) (sym (gates-rows g.tables.gates n.A))

    pub edited-in-order : binary_order edited ≡ true
    edited-in-order =
        let p = done-edits in rewire-in-order c p.formed p.order e.gate e.rhs0 e.rhs1 p.below0 p.below1

    pub edited-formed : WellFormed edited
    edited-formed =
        let p = done-edits in rewire-well-formed c p.formed p.order e.gate e.rhs0 e.rhs1 p.below0 p.below1

    -- and every later call accepts them: the circuit in them is the edited one, which no check of given tables refuses
    pub rewiring-left : Left after edited
    rewiring-left = record {
      holds = holds-edited;
      counts = counts-edited;
      fine = fine-nothing after (lent_alone after) (formed-fine after (lent_alone after) edited holds-edited counts-edited edited-formed still-long);
    }
      where
        counts-edited : n ≡ counts_of edited
        counts-edited = sym done-edits.counts ∙ λ i. record {
          M = c.M;
          I = length c.inputs;
          L = length c.latches;
          O = length c.outputs;
          A = sym (length-rewired e.gate e.rhs0 e.rhs1 c.gates) i;
          B = length c.bads;
          C = length c.constraints;
        }

        gates-long : length (rewiring e).gates ≡ length g.tables.gates
        gates-long =
            ap length gates-are
            ∙ put-length g.tables.gates (3 * e.gate + 1) (max e.rhs0 e.rhs1 ∷ min e.rhs0 e.rhs1 ∷ []) (omega (arith, row_fits))

        scratch-long : length (rewiring e).scratch ≡ length g.scratch
        scratch-long =
            ap (λ (o : Option Refusal). length (rewired_by o e).scratch) nothing ∙ length-replicate {A = ℕ} (length g.scratch) 0

        still-long : least_short (lent_alone after) ≡ None
        still-long =
            let t = g.tables in
            (λ i. least_short (against 1 (words_to_work n) (length t.inputs ∷ length t.latches ∷ length t.outputs ∷ gates-long i ∷ scratch-long i ∷ 0
            ∷ length t.resets ∷ length t.bads ∷ length t.constraints ∷ [])))
            ∙ (nothing-fine g (lent_alone g) done-edits.fine).room

    -- the values are those of a fresh step of the circuit that the tables hold then, on the inputs and the state that were on the screen
    pub values-fresh : (v : ℕ) → v < c.M + 1
        → get_or (rewiring e).values v 0 ≡ code_of (values_of (given_circuit after) (state_on c e.values) (inputs_on c e.values) v)
    values-fresh v h =
        ap (λ (l : List ℕ). get_or l v 0) values-are ∙ screen-at edited (state_on c e.values) (inputs_on c e.values) v h
        ∙ ap (λ (x : Circuit). code_of (values_of x (state_on c e.values) (inputs_on c e.values) v)) (sym holds-edited)

    -- no gate but the named one changes
    pub others-stay : (j : ℕ) → (j ≡ e.gate → ⊥) → gate_at (rewiring e).gates j ≡ gate_at g.tables.gates j
    others-stay j m =
        let x = max e.rhs0 e.rhs1 in
        let y = min e.rhs0 e.rhs1 in
        ap (λ (t : List ℕ). gate_at t j) (gates-are ∙ sym (two-stores g.tables.gates e.gate x y row_fits))
        ∙ other-gate g.tables.gates e.gate x y row_fits j m

    -- no value changes of another variable that does not depend on the gate
    pub apart-stays : (u : ℕ) → u < c.M + 1 → (u ≡ inner c + e.gate → ⊥) → (Depends c.gates u (inner c + e.gate) → ⊥)
        → get_or (rewiring e).values u 0 ≡ get_or e.values u 0
    apart-stays u h m far =
        let p = done-edits in
        let s = state_on c e.values in
        let i = inputs_on c e.values in
        ap (λ (l : List ℕ). get_or l u 0) values-are ∙ screen-at edited s i u h
        ∙ ap code_of (rewire-apart c p.formed p.order e.gate e.rhs0 e.rhs1 p.below0 p.below1 s i u m far)
        ∙ sym (ap (λ (l : List ℕ). get_or l u 0) ((screen-exactly c p.formed p.order e.values p.size).0 p.right) ∙ screen-at c s i u h)

  -- a refusal changes neither the gates' table nor a value
  pub refused-stays : (r : Refusal) → (rewiring e).answer ≡ Err r
      → ((rewiring e).gates ≡ g.tables.gates) × ((rewiring e).values ≡ e.values)
  refused-stays r = by (first_of (stages g (lent_alone g) ++ (order_stage g ∷ lasts)))
    where
      by : (o : Option Refusal) → (rewired_by o e).answer ≡ Err r
          → ((rewired_by o e).gates ≡ g.tables.gates) × ((rewired_by o e).values ≡ e.values)
      by None q = let z : ◌≡◌ {A = ℕ} 0 1 = cc in absurd (omega arith)
      by (Some s) q = (refl, refl)
