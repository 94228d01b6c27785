-- What a check that finds nothing says of the tables: they fit, and the circuit in them is well formed.
use Prim.Native.Nat.{ℕ, ◌*◌, ◌≤◌}
use mathlib.Core.Path.{◌≡◌, refl, sym, ap}
use mathlib.Core.Bool.{Bool, true, false}
use mathlib.Core.List.{List, [], ◌∷◌}
use Rattle.std.specs.Prelude.{Result, Ok, Err, Option, Some, None}
use native.Mathlib.Omega.{arith}
use lib.ListN.{length}
use Rattle.plan.specs.declared.Counts.{Counts}
use Rattle.plan.specs.declared.Refusal.{Refusal}
use Rattle.plan.specs.declared.Refusal.TheVariants.{NotInOrder}
use Rattle.plan.specs.Refusals.{first_of}
use Rattle.plan.specs.Circuit.{Tables, Lent, counts_of, circuit_of, lengths_of, words_to_work, against}
use Rattle.plan.specs.Binary.{binary_order}
use Rattle.plan.specs.Reading.{WellFormed}
use Rattle.plan.specs.Given.{Given, given_circuit, failing, lent_alone, lent_with, stages, order_stage}
use Rattle.plan.specs.Outcome.{checked_by}
use Rattle.laws.proofs.Reading.Short.{AllLong, first-long, last-long, short_none}
use Rattle.laws.proofs.Writing.Nothing.{stage-none, failing-none, first-all, first-both}
use Rattle.laws.proofs.Writing.Fine.{Fine, nothing-fine, counts-held}
use Rattle.tables.specs.Held.{Fits, Scratch}
use Rattle.judge.specs.Judged.{all_stages, then_order}

-- the answers, back to the stages
pub good_none : (o : Option Refusal) → Ok tt ≡ checked_by o → o ≡ None
good_none None e = refl
good_none (Some r) e = let z : ◌≡◌ {A = ℕ} 0 1 = cc in absurd (omega arith)

-- the refusal of an answer
abbrev refusal_in : Refusal → Result Unit Refusal → Refusal
refusal_in s (Ok tt) = s
refusal_in s (Err r) = r

pub refused-some : (r : Refusal) (o : Option Refusal) → Err r ≡ checked_by o → o ≡ Some r
refused-some r None e = let z : ◌≡◌ {A = ℕ} 0 1 = cc in absurd (omega arith)
refused-some r (Some s) e = ap Some (sym (ap (refusal_in s) e))

-- the counts of the circuit in tables that fit
pub held-counts : (n : Counts) (t : Tables) → Fits n t.inputs t.latches t.outputs t.gates t.resets t.bads t.constraints
    → counts_of (circuit_of n t) ≡ n
held-counts n t f =
    counts-held (record { counts = n; tables = t; scratch = [] }) f.inputs_long f.outputs-long f.bads-long f.constraints-long

-- nothing is found, and where 15 is asked the tables are in binary order
pub record Good (ordered : Bool) (g : Given) : Type 0 where
  pub fits : let t = g.tables in
      Fits g.counts t.inputs t.latches t.outputs t.gates t.resets t.bads t.constraints
  pub scratch : Scratch g.counts g.scratch
  pub counts : counts_of (given_circuit g) ≡ g.counts
  pub formed : WellFormed (given_circuit g)
  pub order : ordered ≡ true → binary_order (given_circuit g) ≡ true

order-stage : (ordered : Bool) (g : Given) → first_of (then_order ordered g) ≡ None → ordered ≡ true → binary_order (given_circuit g) ≡ true
order-stage true g e o =
    failing-none (binary_order (given_circuit g)) (stage-none NotInOrder (failing (binary_order (given_circuit g))) (first-all (order_stage g ∷ []) e).0)
order-stage false g e o = let z : ◌≡◌ {A = ℕ} 0 1 = cc in absurd (omega arith)

module _ (ordered : Bool) (g : Given) (lent : List Lent) (e : first_of (all_stages ordered g lent) ≡ None) where
  fine : Fine g lent
  fine = nothing-fine g lent (first-both (stages g lent) (then_order ordered g) e).0

  all-long : AllLong lent
  all-long = (short_none lent).0 fine.room

  good : AllLong (lent_alone g) → Good ordered g
  good l = record {
    fits = record {
      most-M = fine.small.0;
      most-O = fine.small.1.1.1.0;
      most-B = fine.small.1.1.1.1.1.0;
      most-C = fine.small.1.1.1.1.1.1.0;
      sum = fine.sum;
      inputs_long = l.0;
      latches-long = l.1.0;
      outputs-long = l.1.1.0;
      gates-long = l.1.1.1.0;
      resets-long = l.1.1.1.1.1.1.0;
      bads-long = l.1.1.1.1.1.1.1.0;
      constraints-long = l.1.1.1.1.1.1.1.1.0;
    };
    scratch = l.1.1.1.1.0;
    counts = counts-held g l.0 l.1.1.0 l.1.1.1.1.1.1.1.0 l.1.1.1.1.1.1.1.1.0;
    formed = fine.formed;
    order = order-stage ordered g (first-both (stages g lent) (then_order ordered g) e).1;
  }

pub good-alone : (ordered : Bool) (g : Given) → first_of (all_stages ordered g (lent_alone g)) ≡ None → Good ordered g
good-alone ordered g e = good ordered g (lent_alone g) e (all-long ordered g (lent_alone g) e)

-- with tables lent for writing, which are as long as the given counts ask
pub record Wide (n : Counts) (t : Tables) : Type 0 where
  pub inputs : n.I ≤ length t.inputs
  pub latches : 2 * n.L ≤ length t.latches
  pub outputs : n.O ≤ length t.outputs
  pub gates : 3 * n.A ≤ length t.gates
  pub resets : n.L ≤ length t.resets
  pub bads : n.B ≤ length t.bads
  pub constraints : n.C ≤ length t.constraints

pub good-with : (ordered : Bool) (g : Given) (t : Tables) → first_of (all_stages ordered g (lent_with g t)) ≡ None → Good ordered g × Wide g.counts t
good-with ordered g t e =
    let l = all-long ordered g (lent_with g t) e in
    let to = against 1 (words_to_work g.counts) (lengths_of t g.scratch) in
    let more = last-long (lent_alone g) to l in (
      good ordered g (lent_with g t) e (first-long (lent_alone g) to l),
      record {
        inputs = more.0;
        latches = more.1.0;
        outputs = more.1.1.0;
        gates = more.1.1.1.0;
        resets = more.1.1.1.1.1.1.0;
        bads = more.1.1.1.1.1.1.1.0;
        constraints = more.1.1.1.1.1.1.1.1.0;
      },
    )
