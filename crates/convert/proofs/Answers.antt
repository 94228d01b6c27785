-- The whole call: what the check leaves to conversion, and what is answered.
use Prim.Native.Nat.{ℕ, ◌+◌, ◌≤◌}
use mathlib.Core.Path.{◌≡◌, sym, ap, ◌∙◌, subst}
use mathlib.Core.Bool.{false}
use mathlib.Core.List.{List}
use Rattle.std.specs.Prelude.{Ok, Err, Option}
use native.Mathlib.Omega.{arith}
use lib.ListN.{length, length-replicate}
use Rattle.plan.specs.declared.Counts.{Counts}
use Rattle.plan.specs.declared.Refusal.{Refusal}
use Rattle.plan.specs.Literals.{most}
use Rattle.plan.specs.Refusals.{first_of}
use Rattle.plan.specs.Circuit.{Circuit, Tables, counts_of, cleared, all_cleared}
use Rattle.plan.specs.Given.{Given, given_circuit, lent_with}
use Rattle.plan.specs.Convert.{convert}
use Rattle.plan.specs.Outcome.{MakeEntry, MakeExit, made_by, conversion, checked_by}
use Rattle.laws.proofs.Held.{Holds, holds-filled}
use Rattle.laws.proofs.Running.Counts.{counts-convert}
use Rattle.tables.specs.Lengths.{sizes_of}
use Rattle.judge.specs.at_end.Leaves.{AllNumbered}
use Rattle.judge.specs.Judged.{all_stages}
use Rattle.judge.proofs.Sound.{Good, Wide, good_none, refused-some, good-with}
use Rattle.convert.specs.Ready.{Ready, First, FirstHeld, Last, LastHeld}

length-cleared : (t : List ℕ) → length (cleared t) ≡ length t
length-cleared t = length-replicate (length t) 0

pub sizes-cleared : (t t' : Tables) → t' ≡ all_cleared t → sizes_of t' ≡ sizes_of t
sizes-cleared t t' e =
    ap sizes_of e
    ∙ λ i. record {
      inputs = length-cleared t.inputs i;
      latches = length-cleared t.latches i;
      outputs = length-cleared t.outputs i;
      gates = length-cleared t.gates i;
      resets = length-cleared t.resets i;
      bads = length-cleared t.bads i;
      constraints = length-cleared t.constraints i;
    }

-- tables 1 to 4 and tables 7 to 9 together
pub all_hold : (c : Circuit) (w w' : Tables)
    → FirstHeld c w.inputs w.latches w.outputs w.gates w'.inputs w'.latches w'.outputs w'.gates
    → LastHeld c w.resets w.bads w.constraints w'.resets w'.bads w'.constraints → Holds w c w'
all_hold c w w' f l = record {
  inputs = f.inputs-held;
  latches = f.latches-held;
  outputs = f.outputs-held;
  gates = f.gates-held;
  resets = l.resets-held;
  bads = l.bads-held;
  constraints = l.constraints-held;
}

module _ (e : MakeEntry) where
  abbrev g : Given
  g = e.circuit

  abbrev n : Counts
  n = g.counts

  abbrev found : Option Refusal
  found = first_of (all_stages false g (lent_with g e.written))

  -- after a refusal
  pub refused : (r : Refusal) (w' : Tables) (scratch' : List ℕ) → w' ≡ all_cleared e.written → scratch' ≡ cleared g.scratch
      → Err r ≡ checked_by found
      → ◌≡◌ {A = MakeExit} (record { answer = Err r; written = w'; scratch = scratch' }) (conversion e)
  refused r w' scratch' p q h =
      (λ i. record { answer = Err r; written = p i; scratch = q i })
      ∙ ap (λ (o : Option Refusal). made_by o e (convert (given_circuit g))) (sym (refused-some r found h))

  -- nothing is found
  module _ (h : Ok tt ≡ checked_by found) where
    passed : Good false g × Wide n e.written
    passed = good-with false g e.written (good_none found h)

    module _ (t : List ℕ) (same : length t ≡ length g.scratch)
        (numbers : AllNumbered n g.tables.inputs g.tables.latches g.tables.gates t) where
      pub ready : Ready n g.tables t
      ready = record {
        fits = passed.0.fits;
        good = passed.0.formed;
        numbers-long = omega (arith, passed.0.scratch, same);
        numbers = numbers;
      }

      -- the tables to write are as long as they were
      module _ (w : Tables) (p : w ≡ all_cleared e.written) where
        pub first-asks : First n g.tables.latches g.tables.outputs g.tables.gates t w.inputs w.latches w.outputs w.gates
        first-asks = record {
          others = g.tables;
          ready = record { fits = ready.fits; good = ready.good; numbers-long = ready.numbers-long; numbers = ready.numbers };
          inputs_long = omega (arith, passed.1.inputs, ap (λ (x : Tables). length x.inputs) p, length-cleared e.written.inputs);
          latches-long = omega (arith, passed.1.latches, ap (λ (x : Tables). length x.latches) p, length-cleared e.written.latches);
          outputs-long = omega (arith, passed.1.outputs, ap (λ (x : Tables). length x.outputs) p, length-cleared e.written.outputs);
          gates-long = omega (arith, passed.1.gates, ap (λ (x : Tables). length x.gates) p, length-cleared e.written.gates);
        }

        pub last-asks : Last n g.tables.resets g.tables.bads g.tables.constraints t w.resets w.bads w.constraints
        last-asks = record {
          others = g.tables;
          ready = record { fits = ready.fits; good = ready.good; numbers-long = ready.numbers-long; numbers = ready.numbers };
          resets-long = omega (arith, passed.1.resets, ap (λ (x : Tables). length x.resets) p, length-cleared e.written.resets);
          bads-long = omega (arith, passed.1.bads, ap (λ (x : Tables). length x.bads) p, length-cleared e.written.bads);
          constraints-long =
              omega (arith, passed.1.constraints, ap (λ (x : Tables). length x.constraints) p, length-cleared e.written.constraints);
        }

    pub few : n.I + n.L + n.A ≤ most
    few = let f = passed.0.fits in omega (arith, f.sum, f.most-M)

    -- the counts of the converted circuit
    counts-are : record { M = n.I + n.L + n.A; I = n.I; L = n.L; O = n.O; A = n.A; B = n.B; C = n.C } ≡ counts_of (convert (given_circuit g))
    counts-are =
        ap (λ (m : Counts). record { M = m.I + m.L + m.A; I = m.I; L = m.L; O = m.O; A = m.A; B = m.B; C = m.C }) (sym passed.0.counts)
        ∙ sym (counts-convert (given_circuit g) passed.0.formed)

    pub accepted : (w w' : Tables) (scratch' : List ℕ) → w ≡ all_cleared e.written → Holds w (convert (given_circuit g)) w'
        → scratch' ≡ cleared g.scratch
        → ◌≡◌ {A = MakeExit} (record {
          answer = Ok (record { M = n.I + n.L + n.A; I = n.I; L = n.L; O = n.O; A = n.A; B = n.B; C = n.C });
          written = w';
          scratch = scratch';
        }) (conversion e)
    accepted w w' scratch' p held q =
        let filled = holds-filled e.written w' (convert (given_circuit g)) (subst (λ (t : Tables). Holds t (convert (given_circuit g)) w') p held) in
        (λ i. record { answer = Ok (counts-are i); written = filled i; scratch = q i })
        ∙ ap (λ (o : Option Refusal). made_by o e (convert (given_circuit g))) (sym (good_none found h))
