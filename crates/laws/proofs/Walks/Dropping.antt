-- Over the calls of dropping: it leaves exactly the reached gates, under their new numbers, and a second dropping changes nothing.
use Prim.Native.Nat.{ℕ, suc}
use mathlib.Core.Path.{◌≡◌, refl, sym, ap, ◌∙◌, subst}
use mathlib.Core.Bool.{Bool, true, false, cond, ◌||◌, false≢true}
use mathlib.Core.Logic.{◌↔◌}
use mathlib.Core.List.{List, [], ◌∷◌, ◌++◌}
use Rattle.std.specs.Prelude.{Ok, Some, None}
use native.Mathlib.Omega.{arith}
use borrow.Author.Tests.{eqb-true}
use lib.Dec.{eqb}
use Rattle.plan.specs.declared.Counts.{Counts}
use Rattle.plan.specs.declared.Refusal.TheVariants.{NotInOrder}
use Rattle.plan.specs.Refusals.{first_of}
use Rattle.plan.specs.Literals.{var_of}
use Rattle.plan.specs.Circuit.{Gate, Circuit, Tables, counts_of, left_vars, has, words_to_work, against, least_short, lengths_of, leaves, index}
use Rattle.plan.specs.Depends.{find}
use Rattle.plan.specs.Binary.{binary_order}
use Rattle.plan.specs.Reading.{WellFormed}
use Rattle.plan.specs.Given.{Given, given_circuit, lent_with, failing, stages, order_stage}
use Rattle.plan.specs.Convert.{renumber, gate_for}
use Rattle.plan.specs.Outcome.{made_by}
use Rattle.plan.specs.Drop.{Reached, reached, used, left, drop_unused, dropping}
use Rattle.laws.proofs.Reading.Members.{distinct}
use Rattle.laws.proofs.Running.Lists.{has_right}
use Rattle.laws.proofs.Running.Found.{AllG, all_map, FindSays, find-says}
use Rattle.laws.proofs.Running.Accepted.{accepted}
use Rattle.laws.proofs.Running.GateValue.{gates-found}
use Rattle.laws.proofs.Writing.Nothing.{made_none, stage-none, failing-none, first-all, first-both}
use Rattle.laws.proofs.Writing.Fine.{nothing-fine}
use Rattle.laws.proofs.Writing.Calls.{MakeCall, made_circuit, FromMade, from-made}
use Rattle.laws.proofs.Walks.Parts.{find-of, all_of, of-lefts}
use Rattle.laws.proofs.Walks.Used.{reached-exactly, used-well-formed}
use Rattle.laws.proofs.Walks.Twice.{gate-left, found_at, all-renumbered, gates-at, drop-again}
use Rattle.laws.proofs.Walks.Later.{dropping-left, dropped-is, dropping-accepted}

-- two variables at one place of a list, of which one is in it, are one
same_place : (v u : ℕ) (o : List ℕ) → has u o ≡ true → index v o ≡ index u o → v ≡ u
same_place v u [] h e = absurd (false≢true h)
same_place v u (x ∷ o) h e = go (eqb x u) (eqb x v) refl refl h e (same_place v u o)
  where
    go : (a b : Bool) → eqb x u ≡ a → eqb x v ≡ b → (a || has u o) ≡ true → cond b 0 (suc (index v o)) ≡ cond a 0 (suc (index u o))
        → (has u o ≡ true → index v o ≡ index u o → v ≡ u) → v ≡ u
    go true true p q h e ih = sym (eqb-true x v q) ∙ eqb-true x u p
    go true false p q h e ih = absurd (omega (arith, e))
    go false true p q h e ih = absurd (omega (arith, e))
    go false false p q h e ih = ih h (omega (arith, e))

-- a gate under its new number, which is its place among the variables that are left
abbrev pub new_number : Circuit → ℕ → ℕ
new_number c v = index v (left (used c))

abbrev pub renumbered : Circuit → ℕ → Gate → Gate
renumbered c v g = gate_for (new_number c v) (renumber (left (used c)) g.rhs0) (renumber (left (used c)) g.rhs1)

-- a reached gate of the circuit that has this new number
abbrev pub ReachedGate : Circuit → ℕ → Type 0
ReachedGate c n = (v : ℕ) × (g : Gate) × (find v c.gates ≡ Some g) × Reached c v × (n ≡ new_number c v)

module _ (c : Circuit) (w : WellFormed c) (t : binary_order c ≡ true) where
  once : distinct (left (used c)) ≡ true
  once = (accepted (used c) (used-well-formed c w t)).once

  -- every reached gate is left
  gate-kept : (v : ℕ) (g : Gate) → find v c.gates ≡ Some g → Reached c v → find (new_number c v) (drop_unused c).gates ≡ Some (renumbered c v g)
  gate-kept v g f r =
      ap (find (new_number c v)) (gates-at (used c) once)
      ∙ found_at (left (used c)) (leaves (used c)) (used c).gates once refl v g
      (find-of v (reached c) c.gates ∙ (ap (λ (b : Bool). cond b (find v c.gates) None) ((reached-exactly c w t v).1 r) ∙ f))

  -- every gate that is left is one
  pub retains-only-reached : AllG (λ h. ReachedGate c (var_of h.lhs)) (drop_unused c).gates
  retains-only-reached =
      subst (λ (gs : List Gate). AllG (λ h. ReachedGate c (var_of h.lhs)) gs) (sym (gates-at (used c) once))
      (all-renumbered (left (used c)) (ReachedGate c) (leaves (used c)) (used c).gates once refl
      (all_of (λ g. ReachedGate c (index (var_of g.lhs) (left (used c)))) (reached c) c.gates
      (all_map (λ g. find (var_of g.lhs) c.gates ≡ Some g)
      (λ g. has (var_of g.lhs) (reached c) ≡ true → ReachedGate c (index (var_of g.lhs) (left (used c))))
      (λ g f h. (var_of g.lhs, g, f, (reached-exactly c w t (var_of g.lhs)).0 h, refl)) c.gates (gates-found c (accepted c w)))))

  there : (u : ℕ) (g : Gate) → find u c.gates ≡ Some g → Reached c u → has u (left (used c)) ≡ true
  there u g f r =
      has_right u (leaves (used c)) (left_vars (used c).gates)
      (of-lefts (reached c) c.gates u (gate-left u c.gates g f) ((reached-exactly c w t u).1 r))

  -- so a gate is left exactly if it is reached
  pub retains-reached : (v : ℕ) (g : Gate) → find v c.gates ≡ Some g
      → Reached c v ↔ (find (new_number c v) (drop_unused c).gates ≡ Some (renumbered c v g))
  retains-reached v g f =
      let gs = (drop_unused c).gates in
      (gate-kept v g f, λ e. back (subst (FindSays (new_number c v) gs) e (find-says (new_number c v) gs)))
    where
      back : FindSays (new_number c v) (drop_unused c).gates (Some (renumbered c v g)) → Reached c v
      back s =
          let k = s.1 (λ h. ReachedGate c (var_of h.lhs)) retains-only-reached in
          let same : v ≡ k.0 = same_place v k.0 (left (used c)) (there k.0 k.1 k.2 k.3) (sym s.0 ∙ k.4) in
          subst (Reached c) (sym same) k.3

-- what an accepted dropping was given
module _ (u : MakeCall dropping) where
  abbrev g : Given
  g = u.entry.circuit

  abbrev before : Circuit
  before = given_circuit u.entry.circuit

  passed : first_of (stages g (lent_with g u.entry.written) ++ (order_stage g ∷ [])) ≡ None
  passed =
      made_none (λ o. (made_by o u.entry (drop_unused before)).answer) (λ r. refl)
      (first_of (stages g (lent_with g u.entry.written) ++ (order_stage g ∷ []))) u.counts u.accepted

  pub given-formed : WellFormed (given_circuit u.entry.circuit)
  given-formed =
      (nothing-fine g (lent_with g u.entry.written) (first-both (stages g (lent_with g u.entry.written)) (order_stage g ∷ []) passed).0).formed

  pub given-in-order : binary_order (given_circuit u.entry.circuit) ≡ true
  given-in-order =
      let last = first-all (order_stage g ∷ []) (first-both (stages g (lent_with g u.entry.written)) (order_stage g ∷ []) passed).1 in
      failing-none (binary_order before) (stage-none NotInOrder (failing (binary_order before)) last.0)

  -- what it leaves has exactly the reached gates of what it was given, under their new numbers
  pub call-retains-exactly : (v : ℕ) (g : Gate) → find v (given_circuit u.entry.circuit).gates ≡ Some g
      → Reached (given_circuit u.entry.circuit) v
      ↔ (find (new_number (given_circuit u.entry.circuit) v) (made_circuit dropping u).gates ≡ Some (renumbered (given_circuit u.entry.circuit) v g))
  call-retains-exactly v h f =
      subst (λ (d : Circuit). Reached before v ↔ (find (new_number before v) d.gates ≡ Some (renumbered before v h))) (sym (dropped-is u))
      (retains-reached before given-formed given-in-order v h f)

  pub call-retains-only : AllG (λ h. ReachedGate (given_circuit u.entry.circuit) (var_of h.lhs)) (made_circuit dropping u).gates
  call-retains-only =
      subst (λ (d : Circuit). AllG (λ h. ReachedGate before (var_of h.lhs)) d.gates) (sym (dropped-is u))
      (retains-only-reached before given-formed given-in-order)

  -- a second dropping of what it left changes nothing
  again : drop_unused (made_circuit dropping u) ≡ made_circuit dropping u
  again = ap drop_unused (dropped-is u) ∙ (drop-again before given-formed given-in-order ∙ sym (dropped-is u))

  pub dropped-twice : (u' : MakeCall dropping) → FromMade dropping u'.entry.circuit u
      → (made_circuit dropping u' ≡ made_circuit dropping u) × (u'.counts ≡ u.counts)
  dropped-twice u' from =
      let same = dropped-is u' ∙ (ap drop_unused (from-made dropping u'.entry.circuit u from) ∙ again) in
      let one = (dropping-left u.entry u.counts u.accepted).0 in
      let two = (dropping-left u'.entry u'.counts u'.accepted).0 in
      (same, two.counts ∙ (ap counts_of (sym (dropped-is u') ∙ (same ∙ dropped-is u)) ∙ sym one.counts))

  -- and with tables as long as the counts ask it is not refused
  abbrev pub left_by : Given
  left_by = record { counts = u.counts; tables = (dropping u.entry).written; scratch = (dropping u.entry).scratch }

  pub drop-again-accepted : (t : Tables) → least_short (against 1 (words_to_work u.counts) (lengths_of t (dropping u.entry).scratch)) ≡ None
      → (dropping (record { circuit = left_by; written = t })).answer ≡ Ok u.counts
  drop-again-accepted t long =
      let l = dropping-left u.entry u.counts u.accepted in
      let d = drop_unused before in
      dropping-accepted left_by d l.0 t
      (ap (λ (m : Counts). least_short (against 1 (words_to_work m) (lengths_of t (dropping u.entry).scratch))) (sym l.0.counts) ∙ long) l.1
      ∙ (ap (λ (x : Circuit). Ok (counts_of x)) (drop-again before given-formed given-in-order)
      ∙ ap Ok (sym l.0.counts))
