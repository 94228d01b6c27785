-- Conversion and reduction give well-formed circuits in binary order; converting again changes nothing.
use Prim.Native.Nat.{ℕ, suc, ◌+◌, ◌≤◌, ◌<◌, min, max}
use mathlib.Core.Path.{◌≡◌, refl, sym, ap, ap₂, ◌∙◌, subst}
use mathlib.Core.Bool.{true}
use mathlib.Core.List.{List, [], ◌∷◌, ◌++◌, map}
use Rattle.std.specs.Prelude.{Option, Some, None}
use native.Mathlib.Omega.{arith}
use lib.ListN.{length, get_or, length-append, length-map}
use Rattle.plan.specs.Literals.{lit_of, var_of, sign_of}
use Rattle.plan.specs.Circuit.{Gate, Latch, Circuit, nexts}
use Rattle.plan.specs.Reading.{WellFormed}
use Rattle.plan.specs.Binary.{lits_from, latches_from, binary_order}
use Rattle.plan.specs.Convert.{sorted, numbered, renumber, gate_for, renumber_gates, convert}
use Rattle.plan.specs.Reduce.{Reduced, becomes, stand_in, retain, reduce_gate, reduce_gates, reduced, latch_becomes, reduce}
use Rattle.laws.proofs.Reading.Cycles.{length-lefts}
use Rattle.laws.proofs.Reading.Order.{InOrder}
use Rattle.laws.proofs.Reading.Runs.{length-lits, BinaryOrder, order-exactly}
use Rattle.laws.proofs.Running.Found.{AllG}
use Rattle.laws.proofs.Running.Accepted.{accepted}
use Rattle.laws.proofs.Running.Signs.{signed-half}
use Rattle.laws.proofs.Running.Binary.{inner, Bounded}
use Rattle.laws.proofs.Running.InOrder.{LargerFirst, binary-order, well-formed}
use Rattle.laws.proofs.Running.Converted.{length-renumber_gates, latches-convert, nexts-convert, inner-convert, gates-binary, convert-ordered}
use Rattle.laws.proofs.Running.Scan.{every-gate}
use Rattle.laws.proofs.Running.Resets.{resets-become, resets-convert}
use Rattle.laws.proofs.Running.Unchanged.{convert-same}
use Rattle.laws.proofs.Running.ReduceStep.{nexts-becomes, reduced-ok}

renumbered-larger : (o : List ℕ) (v : ℕ) (gs : List Gate) → AllG LargerFirst (renumber_gates o v gs)
renumbered-larger o v [] = tt
renumbered-larger o v (g ∷ gs) = (least (renumber o g.rhs0) (renumber o g.rhs1), renumbered-larger o (suc v) gs)
  where
    least : (a b : ℕ) → min a b ≤ max a b
    least a b = omega arith

-- conversion, of a well-formed circuit
module _ (c : Circuit) (w : WellFormed c) where
  pub gates-convert : length (convert c).gates ≡ length c.gates
  gates-convert = length-renumber_gates (numbered c) (inner c) (sorted c) ∙ length-lefts (sorted c) ∙ every-gate c (accepted c w)

  convert-order : BinaryOrder (convert c)
  convert-order = record {
    sum = ap₂ (λ (m n : ℕ). m + n) (ap₂ (λ (m n : ℕ). m + n) (length-lits 1 (length c.inputs)) (latches-convert c)) gates-convert;
    inputs = ap (lits_from 1) (sym (length-lits 1 (length c.inputs)));
    latches = ap₂ (λ (n : ℕ) (ls : List ℕ). latches_from (1 + n) ls) (sym (length-lits 1 (length c.inputs))) (sym (nexts-convert c));
    gates = subst (λ (n : ℕ). InOrder n (convert c).gates) (sym (inner-convert c))
        (binary-order (inner c) (convert c).gates (gates-binary c) (renumbered-larger (numbered c) (inner c) (sorted c)));
  }

  pub convert-in-order : binary_order (convert c) ≡ true
  convert-in-order = (order-exactly (convert c)).1 convert-order

  pub convert-well-formed : WellFormed (convert c)
  convert-well-formed =
      well-formed (convert c) convert-order (omega (arith, w.sum, w.most-M))
      (omega (arith, w.most-O, length-map c.outputs (renumber (numbered c))))
      (omega (arith, w.most-B, length-map c.bads (renumber (numbered c))))
      (omega (arith, w.most-C, length-map c.constraints (renumber (numbered c))))
      (resets-convert c w (accepted c w))
      (subst (λ (n : ℕ). Bounded n (nexts (convert c).latches)) numbers (convert-ordered c (accepted c w)).next-in)
      (subst (λ (n : ℕ). Bounded n (convert c).outputs) numbers (convert-ordered c (accepted c w)).output-in)
      (subst (λ (n : ℕ). Bounded n (convert c).bads) numbers (convert-ordered c (accepted c w)).bad-in)
      (subst (λ (n : ℕ). Bounded n (convert c).constraints) numbers (convert-ordered c (accepted c w)).constraint-in)
    where
      numbers : inner (convert c) + length (convert c).gates ≡ suc (convert c).M
      numbers = omega (arith, convert-order.sum)

  pub convert-again : convert (convert c) ≡ convert c
  convert-again = convert-same (convert c) convert-well-formed convert-in-order

-- retained gates: larger right side first, no more than the gates
all_more : (P : Gate → Type 0) (gs : List Gate) (g : Gate) → AllG P gs → P g → AllG P (gs ++ (g ∷ []))
all_more P [] g a p = (p, tt)
all_more P (j ∷ gs) g a p = (a.0, all_more P gs g a.1 p)

retain-larger : (r : Reduced) (a b : ℕ) (o : Option ℕ) → AllG LargerFirst r.retained → AllG LargerFirst (retain r a b o).retained
retain-larger r a b (Some l) h = h
retain-larger r a b None h = all_more LargerFirst r.retained (gate_for r.fresh a b) h (omega arith)

reduced-larger : (r : Reduced) (gs : List Gate) → AllG LargerFirst r.retained → AllG LargerFirst (reduce_gates r gs).retained
reduced-larger r [] h = h
reduced-larger r (g ∷ gs) h =
    let a = becomes r.became g.rhs0 in
    let b = becomes r.became g.rhs1 in
    reduced-larger (reduce_gate r a b) gs (retain-larger r a b (stand_in a b r.retained) h)

retain-length : (r : Reduced) (a b : ℕ) (o : Option ℕ) → length (retain r a b o).retained ≤ suc (length r.retained)
retain-length r a b (Some l) = omega arith
retain-length r a b None = omega (arith, length-append r.retained (gate_for r.fresh a b ∷ []))

pub retained-length : (r : Reduced) (gs : List Gate) → length (reduce_gates r gs).retained ≤ length r.retained + length gs
retained-length r [] = omega arith
retained-length r (g ∷ gs) =
    let a = becomes r.became g.rhs0 in
    let b = becomes r.became g.rhs1 in
    omega (arith, retained-length (reduce_gate r a b) gs, retain-length r a b (stand_in a b r.retained))

-- what a literal became is of a variable in use
becomes-bounded : (n : ℕ) (m : List ℕ) → ((v : ℕ) → var_of (get_or m v 0) < n) → (ls : List ℕ) → Bounded n (map (becomes m) ls)
becomes-bounded n m h [] = tt
becomes-bounded n m h (l ∷ ls) = (rw (signed-half (sign_of l) (get_or m (var_of l) 0)) (h (var_of l)), becomes-bounded n m h ls)

latches-become : (m : List ℕ) (v : ℕ) (ls : List ℕ) → map (latch_becomes m) (latches_from v ls) ≡ latches_from v (map (becomes m) ls)
latches-become m v [] = refl
latches-become m v (l ∷ ls) = ap (λ (t : List Latch). record { current = lit_of v; next = becomes m l } ∷ t) (latches-become m (suc v) ls)

-- reduction, of a well-formed circuit in binary order
module _ (c : Circuit) (w : WellFormed c) (t : binary_order c ≡ true) where
  b : BinaryOrder c
  b = (order-exactly c).0 t

  reduce-order : BinaryOrder (reduce c)
  reduce-order = record {
    sum = ap (λ (n : ℕ). length c.inputs + n + length (reduced c).retained)
        (length-map c.latches (latch_becomes (reduced c).became));
    inputs = b.inputs;
    latches =
        ap (map (latch_becomes (reduced c).became)) b.latches
        ∙ latches-become (reduced c).became (1 + length c.inputs) (nexts c.latches)
        ∙ ap (latches_from (1 + length c.inputs)) (sym (nexts-becomes (reduced c).became c.latches));
    gates =
        subst (λ (n : ℕ). InOrder (1 + length c.inputs + n) (reduced c).retained)
        (sym (length-map c.latches (latch_becomes (reduced c).became)))
        (binary-order (inner c) (reduced c).retained (reduced-ok c).order
        (reduced-larger (record { became = lits_from 0 (inner c); retained = []; fresh = inner c }) c.gates tt));
  }

  pub reduce-in-order : binary_order (reduce c) ≡ true
  reduce-in-order = (order-exactly (reduce c)).1 reduce-order

  pub reduce-fewer : length (reduce c).gates ≤ length c.gates
  reduce-fewer = omega (arith, retained-length (record { became = lits_from 0 (inner c); retained = []; fresh = inner c }) c.gates)

  pub reduce-well-formed : WellFormed (reduce c)
  reduce-well-formed =
      well-formed (reduce c) reduce-order (omega (arith, w.sum, w.most-M, reduce-fewer))
      (omega (arith, w.most-O, length-map c.outputs (becomes (reduced c).became)))
      (omega (arith, w.most-B, length-map c.bads (becomes (reduced c).became)))
      (omega (arith, w.most-C, length-map c.constraints (becomes (reduced c).became)))
      (resets-become (reduced c).became c.latches c.resets ∙ w.resets)
      (rw (nexts-becomes (reduced c).became c.latches)
      (becomes-bounded (suc (reduce c).M) (reduced c).became low (nexts c.latches)))
      (becomes-bounded (suc (reduce c).M) (reduced c).became low c.outputs)
      (becomes-bounded (suc (reduce c).M) (reduced c).became low c.bads)
      (becomes-bounded (suc (reduce c).M) (reduced c).became low c.constraints)
    where
      low : (v : ℕ) → var_of (get_or (reduced c).became v 0) < suc (reduce c).M
      low v = omega (arith, (reduced-ok c).low v, (reduced-ok c).count)
