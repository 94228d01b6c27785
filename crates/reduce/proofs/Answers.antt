-- The outcome of a call on tables in binary order: a refusal of the checks, or the circuit made in tables that were cleared before.
use Prim.Native.Nat.{ℕ, ◌+◌, ◌≤◌}
use mathlib.Core.Path.{◌≡◌, sym, ap, ap₂, ◌∙◌, subst}
use mathlib.Core.Bool.{true}
use mathlib.Core.List.{List}
use Rattle.std.specs.Prelude.{Result, Ok, Err, Option, Some, None}
use native.Mathlib.Omega.{arith}
use lib.ListN.{length, get_or, replicate, length-replicate}
use Rattle.plan.specs.declared.Counts.{Counts}
use Rattle.plan.specs.declared.Refusal.{Refusal}
use Rattle.plan.specs.Literals.{most}
use Rattle.plan.specs.Refusals.{first_of}
use Rattle.plan.specs.Circuit.{Circuit, Tables, counts_of, cleared, all_cleared, holding}
use Rattle.plan.specs.Given.{Given, given_circuit, lent_with}
use Rattle.plan.specs.Outcome.{CheckExit, MakeExit, checked_by, check_by, made_by}
use Rattle.laws.proofs.Held.{Holds, holds-filled}
use Rattle.laws.proofs.Marks.{zeros}
use Rattle.tables.specs.Lengths.{sizes_of}
use Rattle.judge.specs.Judged.{all_stages}
use Rattle.judge.proofs.Sound.{Good, Wide, good_none, refused-some, good-with}
use Rattle.reduce.proofs.Reducing.{Ready, Written}

-- the counts of a circuit of which k gates are retained
abbrev pub counts_with : Counts → ℕ → Counts
counts_with n k = record { M = n.I + n.L + k; I = n.I; L = n.L; O = n.O; A = k; B = n.B; C = n.C }

-- cleared tables are as long as they were
blank-long : (l : List ℕ) → length (cleared l) ≡ length l
blank-long l = length-replicate (length l) 0

pub sizes-cleared : (t t' : Tables) → t' ≡ all_cleared t → sizes_of t' ≡ sizes_of t
sizes-cleared t t' e =
    ap sizes_of e
    ∙ λ i. record {
      inputs = blank-long t.inputs i;
      latches = blank-long t.latches i;
      outputs = blank-long t.outputs i;
      gates = blank-long t.gates i;
      resets = blank-long t.resets i;
      bads = blank-long t.bads i;
      constraints = blank-long t.constraints i;
    }

module _ (g : Given) (t : Tables) where
  abbrev pub first : Option Refusal
  first = first_of (all_stages true g (lent_with g t))

  -- what the check says of tables as long as those lent for writing
  abbrev pub Judged : Result Unit Refusal → List ℕ → Type 0
  Judged r s = ◌≡◌ {A = CheckExit} (record { answer = r; scratch = s }) (check_by (all_stages true g (lent_with g t)) g)

  module _ (r : Result Unit Refusal) (s : List ℕ) (judged : Judged r s) where
    answer-is : r ≡ checked_by first
    answer-is = ap (λ (x : CheckExit). x.answer) judged

    scratch-is : s ≡ cleared g.scratch
    scratch-is = ap (λ (x : CheckExit). x.scratch) judged

    -- a refusal leaves the tables cleared
    pub refused : (d : Circuit) (x : Refusal) → r ≡ Err x → (to : Tables) → to ≡ all_cleared t
        → ◌≡◌ {A = MakeExit} (record { answer = Err x; written = to; scratch = s })
        (made_by first (record { circuit = g; written = t }) d)
    refused d x e to cleared-is =
        let found : first ≡ Some x = refused-some x first (sym e ∙ answer-is) in
        ap₂ (λ (w : Tables) (z : List ℕ). record { answer = Err x; written = w; scratch = z }) cleared-is scratch-is
        ∙ sym (ap (λ (o : Option Refusal). made_by o (record { circuit = g; written = t }) d) found)

    module _ (e : r ≡ Ok tt) where
      no-refusal : first ≡ None
      no-refusal = good_none first (sym e ∙ answer-is)

      pub passed : Good true g
      passed = (good-with true g t no-refusal).0

      wide : Wide g.counts t
      wide = (good-with true g t no-refusal).1

      size : length s ≡ length g.scratch
      size = ap length scratch-is ∙ length-replicate (length g.scratch) 0

      -- the core is ready
      pub ready : (to : Tables) → to ≡ all_cleared t → Ready (record { counts = g.counts; tables = g.tables; scratch = s }) to
      ready to cleared-is = record {
        good = record {
          fits = passed.fits;
          scratch = omega (arith, passed.scratch, size);
          counts = passed.counts;
          formed = passed.formed;
          order = passed.order;
        };
        wide = subst (λ (x : Tables). Wide g.counts x) (sym cleared-is) (record {
          inputs = omega (arith, wide.inputs, length-replicate {A = ℕ} (length t.inputs) 0);
          latches = omega (arith, wide.latches, length-replicate {A = ℕ} (length t.latches) 0);
          outputs = omega (arith, wide.outputs, length-replicate {A = ℕ} (length t.outputs) 0);
          gates = omega (arith, wide.gates, length-replicate {A = ℕ} (length t.gates) 0);
          resets = omega (arith, wide.resets, length-replicate {A = ℕ} (length t.resets) 0);
          bads = omega (arith, wide.bads, length-replicate {A = ℕ} (length t.bads) 0);
          constraints = omega (arith, wide.constraints, length-replicate {A = ℕ} (length t.constraints) 0);
        });
        to-blank = λ i. ap (λ (x : Tables). get_or x.gates i 0) cleared-is ∙ zeros (length t.gates) i;
        scratch-blank = λ i. ap (λ (l : List ℕ). get_or l i 0) scratch-is ∙ zeros (length g.scratch) i;
      }

      -- of a circuit with the same I, L, O, B and C, and no more gates
      module _ (d : Circuit) (fewer : length d.gates ≤ length (given_circuit g).gates) where
        pub few : (k : ℕ) → k ≡ length d.gates → g.counts.I + g.counts.L + k ≤ most
        few k count = omega (arith, count, fewer, passed.fits.sum, passed.fits.most-M, ap (λ (m : Counts). m.A) passed.counts)

        module _ (same : counts_of d ≡ counts_with (counts_of (given_circuit g)) (length d.gates)) (to₀ to : Tables) (k : ℕ) (cleared-is : to₀ ≡ all_cleared t)
            (written : Written d to₀ to k) where
          counts-are : counts_with g.counts k ≡ counts_of d
          counts-are = ap₂ counts_with (sym passed.counts) written.count ∙ sym same

          tables-are : to ≡ holding t d
          tables-are = holds-filled t to d (subst (λ (x : Tables). Holds x d to) cleared-is written.holds)

          pub accepted : (m : ℕ) (s' : List ℕ) → m ≡ length s → s' ≡ replicate m 0
              → ◌≡◌ {A = MakeExit}
              (record { answer = Ok (counts_with g.counts k); written = to; scratch = s' })
              (made_by first (record { circuit = g; written = t }) d)
          accepted m s' same blank =
              let clean : s' ≡ cleared g.scratch = blank ∙ ap (λ (j : ℕ). replicate j 0) (same ∙ size) in
              (λ j. record { answer = Ok (counts-are j); written = tables-are j; scratch = clean j })
              ∙ sym (ap (λ (o : Option Refusal). made_by o (record { circuit = g; written = t }) d) no-refusal)
