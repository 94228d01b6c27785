-- What an accepted call leaves in written tables is the circuit, in tables as long as they were; every later call accepts them.
use Prim.Native.Nat.{ℕ, ◌+◌, ◌-◌, ◌*◌, ◌≤◌}
use mathlib.Core.Path.{◌≡◌, refl, sym, subst}
use mathlib.Core.List.{List, [], ◌∷◌, map}
use Rattle.std.specs.Prelude.{None}
use native.Mathlib.Omega.{arith}
use lib.ListN.{length, replicate, length-append, length-replicate}
use Rattle.plan.specs.declared.Counts.{Counts}
use Rattle.plan.specs.Circuit.{Latch, Gate, Circuit, Tables, Lent, counts_of, latch_line, gate_line, circuit_of, lengths_of, flat, filled, holding, least_short}
use Rattle.plan.specs.Header.{list_of}
use Rattle.plan.specs.Reading.{WellFormed}
use Rattle.plan.specs.Given.{Given, given_circuit}
use Rattle.laws.proofs.Held.{starts-circuit}
use Rattle.laws.proofs.Reading.Headers.{AllMost}
use Rattle.laws.proofs.Reading.Exactly.{all_most}
use Rattle.laws.proofs.Running.Resets.{resets-length}
use Rattle.laws.proofs.Writing.Fine.{Fine}

pub holding-circuit : (t : Tables) (c : Circuit) → WellFormed c → circuit_of (counts_of c) (holding t c) ≡ c
holding-circuit t c w =
    starts-circuit (holding t c) c (resets-length c.latches c.resets w.resets) (record {
      inputs = (_, refl);
      latches = (_, refl);
      outputs = (_, refl);
      gates = (_, refl);
      resets = (_, refl);
      bads = (_, refl);
      constraints = (_, refl);
    })

-- the words of latches and gates
pub length-latch-words : (ls : List Latch) → length (flat (map latch_line ls)) ≡ 2 * length ls
length-latch-words [] = refl
length-latch-words (l ∷ ls) = omega (arith, length-latch-words ls)

pub length-gate-words : (gs : List Gate) → length (flat (map gate_line gs)) ≡ 3 * length gs
length-gate-words [] = refl
length-gate-words (g ∷ gs) = omega (arith, length-gate-words gs)

-- a filled table is as long as it was
pub length-filled : (table words : List ℕ) → length words ≤ length table → length (filled table words) ≡ length table
length-filled table words h =
    omega (arith, length-append words (replicate (length table - length words) 0), length-replicate {A = ℕ} (length table - length words) 0)

-- the tables are long enough for a circuit
pub record Enough (c : Circuit) (t : Tables) : Type 0 where
  pub inputs : length c.inputs ≤ length t.inputs
  pub latches : 2 * length c.latches ≤ length t.latches
  pub outputs : length c.outputs ≤ length t.outputs
  pub gates : 3 * length c.gates ≤ length t.gates
  pub resets : length c.resets ≤ length t.resets
  pub bads : length c.bads ≤ length t.bads
  pub constraints : length c.constraints ≤ length t.constraints

pub holding-lengths : (t : Tables) (c : Circuit) (scratch : List ℕ) → Enough c t → lengths_of (holding t c) scratch ≡ lengths_of t scratch
holding-lengths t c scratch h = λ i. ins i ∷ lats i ∷ outs i ∷ gs i ∷ length scratch ∷ 0 ∷ rs i ∷ bs i ∷ cs i ∷ []
  where
    ins : length (holding t c).inputs ≡ length t.inputs
    ins = length-filled t.inputs c.inputs h.inputs

    lats : length (holding t c).latches ≡ length t.latches
    lats = length-filled t.latches (flat (map latch_line c.latches)) (omega (arith, h.latches, length-latch-words c.latches))

    outs : length (holding t c).outputs ≡ length t.outputs
    outs = length-filled t.outputs c.outputs h.outputs

    rs : length (holding t c).resets ≡ length t.resets
    rs = length-filled t.resets c.resets h.resets

    bs : length (holding t c).bads ≡ length t.bads
    bs = length-filled t.bads c.bads h.bads

    cs : length (holding t c).constraints ≡ length t.constraints
    cs = length-filled t.constraints c.constraints h.constraints

    gs : length (holding t c).gates ≡ length t.gates
    gs = length-filled t.gates (flat (map gate_line c.gates)) (omega (arith, h.gates, length-gate-words c.gates))

-- tables that hold a well-formed circuit, with room: no check finds anything
pub formed-fine : (g : Given) (lent : List Lent) (c : Circuit) → given_circuit g ≡ c → g.counts ≡ counts_of c → WellFormed c → least_short lent ≡ None
    → Fine g lent
formed-fine g lent c e n w r = record {
  small = subst (λ (x : Counts). AllMost (list_of x)) (sym n) (all_most c w);
  sum = subst (λ (x : Counts). x.I + x.L + x.A ≤ x.M) (sym n) w.sum;
  room = r;
  formed = subst WellFormed (sym e) w;
}
