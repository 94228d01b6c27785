-- What an accepted dropping leaves every later call accepts: the tables hold the circuit without its unused gates, pass the checks of given
-- tables and are in binary order; and dropping refuses nothing that an earlier call in binary order left.
use Prim.Native.Nat.{ℕ, ◌+◌, ◌≤◌}
use mathlib.Core.Path.{◌≡◌, refl, sym, ◌∙◌}
use mathlib.Core.Bool.{true}
use mathlib.Core.List.{List}
use Rattle.std.specs.Prelude.{Ok, None}
use native.Mathlib.Omega.{arith}
use lib.ListN.{length, length-map}
use Rattle.plan.specs.declared.Counts.{Counts}
use Rattle.plan.specs.declared.Version.{Version}
use Rattle.plan.specs.Circuit.{Circuit, Tables, counts_of, words_to_work, against, least_short, lengths_of}
use Rattle.plan.specs.Tail.{TailOk}
use Rattle.plan.specs.Reading.{WellFormed}
use Rattle.plan.specs.Binary.{binary_order}
use Rattle.plan.specs.Given.{Given, given_circuit}
use Rattle.plan.specs.Convert.{renumber}
use Rattle.plan.specs.Outcome.{MakeEntry}
use Rattle.plan.specs.Drop.{reached, used, left, latch_renumbered, drop_unused, dropping}
use Rattle.laws.proofs.Reading.Cycles.{length-lefts}
use Rattle.laws.proofs.Running.Binary.{inner}
use Rattle.laws.proofs.Running.Converted.{length-renumber_gates}
use Rattle.laws.proofs.Running.Counts.{same-tail}
use Rattle.laws.proofs.Writing.Later.{Left, Fitting, in-order-left}
use Rattle.laws.proofs.Writing.Accepting.{in-order-accepted}
use Rattle.laws.proofs.Writing.Calls.{MakeCall, made_circuit}
use Rattle.laws.proofs.Walks.Parts.{length-of}
use Rattle.laws.proofs.Walks.Dropped.{drop-in-order, drop-well-formed}

-- as many gates as are used, and no more than there were
pub gates-dropped : (c : Circuit) → length (drop_unused c).gates ≡ length (used c).gates
gates-dropped c = length-renumber_gates (left (used c)) (inner c) (used c).gates ∙ length-lefts (used c).gates

pub drop-fewer : (c : Circuit) → length (drop_unused c).gates ≤ length c.gates
drop-fewer c = omega (arith, gates-dropped c, length-of (reached c) c.gates)

-- I, L, O, B and C stay
pub counts-drop : (c : Circuit) → counts_of (drop_unused c) ≡ record {
  M = length c.inputs + length c.latches + length (drop_unused c).gates;
  I = length c.inputs;
  L = length c.latches;
  O = length c.outputs;
  A = length (drop_unused c).gates;
  B = length c.bads;
  C = length c.constraints;
}
counts-drop c = λ i. record {
  M = length c.inputs + length c.latches + sym (gates-dropped c) i;
  I = length c.inputs;
  L = length-map c.latches (latch_renumbered (left (used c))) i;
  O = length-map c.outputs (renumber (left (used c))) i;
  A = length (drop_unused c).gates;
  B = length-map c.bads (renumber (left (used c))) i;
  C = length-map c.constraints (renumber (left (used c))) i;
}

-- so a tail suits as it did
pub tail-drop : (v : Version) (c : Circuit) (tail : List ℕ) → TailOk v (counts_of c) tail → TailOk v (counts_of (drop_unused c)) tail
tail-drop v c tail =
    let o = left (used c) in
    same-tail v (counts_of c) (counts_of (drop_unused c)) refl (sym (length-map c.latches (latch_renumbered o)))
    (sym (length-map c.outputs (renumber o))) (sym (length-map c.bads (renumber o))) (sym (length-map c.constraints (renumber o))) tail

fitting : (c : Circuit) → WellFormed c → binary_order c ≡ true → Fitting c (drop_unused c)
fitting c w t = record {
  formed = drop-well-formed c w t;
  order = drop-in-order c w t;
  M = omega (arith, w.sum, length-of (reached c) c.gates);
  I = refl;
  L = length-map c.latches (latch_renumbered (left (used c)));
  O = length-map c.outputs (renumber (left (used c)));
  A = drop-fewer c;
  B = length-map c.bads (renumber (left (used c)));
  C = length-map c.constraints (renumber (left (used c)));
}

pub dropping-left : (e : MakeEntry) (n : Counts) → (dropping e).answer ≡ Ok n
    → Left (record { counts = n; tables = (dropping e).written; scratch = (dropping e).scratch }) (drop_unused (given_circuit e.circuit))
    × (binary_order (drop_unused (given_circuit e.circuit)) ≡ true)
dropping-left = in-order-left drop_unused fitting

pub dropped-is : (m : MakeCall dropping) → made_circuit dropping m ≡ drop_unused (given_circuit m.entry.circuit)
dropped-is m = (dropping-left m.entry m.counts m.accepted).0.holds

-- and dropping accepts what an earlier call left in binary order
pub dropping-accepted : (g : Given) (c : Circuit) → Left g c → (t : Tables)
    → least_short (against 1 (words_to_work (counts_of c)) (lengths_of t g.scratch)) ≡ None → binary_order c ≡ true
    → (dropping (record { circuit = g; written = t })).answer ≡ Ok (counts_of (drop_unused c))
dropping-accepted g c l t long o = in-order-accepted g c l t long drop_unused o
