-- What is watched, as outputs of a circuit of its own.
use Prim.Native.Nat.{ℕ, zero, suc, ◌+◌, ◌^◌, ◌≤◌, ◌<◌}
use mathlib.Core.Path.{◌≡◌, sym, ap, ◌∙◌, subst}
use mathlib.Core.List.{List, [], ◌∷◌}
use native.Mathlib.Omega.{arith}
use lib.ListN.{length, get_or, take, drop, length-drop}
use lib.Seq.{drop-cons, get_or-take}
use Rattle.plan.specs.declared.Counts.{Counts}
use Rattle.plan.specs.Literals.{most}
use Rattle.plan.specs.Circuit.{Circuit, Tables, counts_of, circuit_of, seven, nexts}
use Rattle.plan.specs.Reading.{WellFormed}
use Rattle.plan.specs.Binary.{binary_order}
use Rattle.plan.specs.Search.{watching, watched, system_of}
use Rattle.laws.proofs.Reading.Runs.{BinaryOrder}
use Rattle.laws.proofs.Reading.Runs.{order-exactly}
use Rattle.laws.proofs.Running.Binary.{inner, Bounded}
use Rattle.laws.proofs.Running.InOrder.{well-ordered, well-formed}
use Rattle.step.specs.sweep.Running.{Runs}
use Rattle.search.specs.declared.Reach.{Reach}
use Rattle.search.specs.Exploring.{ExploredBy, SearchesAll}
use Rattle.search.specs.Starting.{Seeks}
use Rattle.search.specs.Asking.{Watches, WatchesAll}

-- a circuit that is accepted in binary order stays so, whatever of its literals are its outputs
watching-formed : (c : Circuit) → BinaryOrder c → WellFormed c → (ls : List ℕ) → length ls ≤ most → Bounded (inner c + length c.gates) ls
    → WellFormed (watching ls c)
watching-formed c b w ls few h =
    let o = well-ordered c b w in
    let e : inner c + length c.gates ≡ suc c.M = omega (arith, b.sum) in
    well-formed (watching ls c) (record { sum = b.sum; inputs = b.inputs; latches = b.latches; gates = b.gates }) w.most-M few (omega arith) w.most-C
    w.resets (subst (λ (n : ℕ). Bounded n (nexts c.latches)) e o.next-in) (subst (λ (n : ℕ). Bounded n ls) e h) tt
    (subst (λ (n : ℕ). Bounded n c.constraints) e o.constraint-in)

bounded-one : (n : ℕ) (ls : List ℕ) (k : ℕ) → k < length ls → Bounded n ls → Bounded n (get_or ls k 0 ∷ [])
bounded-one n [] k h b = absurd (omega arith)
bounded-one n (l ∷ ls) zero h b = (b.0, tt)
bounded-one n (l ∷ ls) (suc k) h b = bounded-one n ls k (omega arith) b.1

-- one output of a table, from its place on
one-output : (table : List ℕ) (n k : ℕ) → k < n → n ≤ length table → take 1 (drop k table) ≡ get_or (take n table) k 0 ∷ []
one-output table n k h q =
    ap (take 1) (drop-cons table k 0 (omega arith)) ∙ ap (λ (x : ℕ). x ∷ []) (sym (get_or-take n table k 0 h))

-- all bad states as outputs
abbrev pub all_counts : Counts → Counts
all_counts n = record { M = n.M; I = n.I; L = n.L; O = n.B; A = n.A; B = 0; C = n.C }

abbrev pub one_count : Counts → Counts
one_count n = record { M = n.M; I = n.I; L = n.L; O = 1; A = n.A; B = 0; C = n.C }

module _ {n : Counts} {x : Tables} (r : Runs n x) where
  abbrev c : Circuit
  c = circuit_of n x

  b : BinaryOrder (circuit_of n x)
  b = (order-exactly (circuit_of n x)).0 r.order

  pub all_runs : Runs (all_counts n) (seven x.inputs x.latches x.bads x.gates x.resets x.bads x.constraints)
  all_runs =
      let f = r.fits in
      record {
        fits = record {
          most-M = f.most-M;
          most-O = f.most-B;
          most-B = omega arith;
          most-C = f.most-C;
          sum = f.sum;
          inputs_long = f.inputs_long;
          latches-long = f.latches-long;
          outputs-long = f.bads-long;
          gates-long = f.gates-long;
          resets-long = f.resets-long;
          bads-long = omega arith;
          constraints-long = f.constraints-long;
        };
        counts = ap all_counts r.counts;
        formed = watching-formed (circuit_of n x) b r.formed (circuit_of n x).bads r.formed.most-B (well-ordered (circuit_of n x) b r.formed).bad-in;
        order = r.order;
      }

  module _ (k : ℕ) (h : k < n.O) where
    abbrev one : List ℕ
    one = drop k x.outputs

    same-output : take 1 (drop k x.outputs) ≡ get_or (circuit_of n x).outputs k 0 ∷ []
    same-output = one-output x.outputs n.O k h r.fits.outputs-long

    pub one-circuit : circuit_of (one_count n) (seven x.inputs x.latches (drop k x.outputs) x.gates x.resets x.bads x.constraints)
        ≡ watching (get_or (circuit_of n x).outputs k 0 ∷ []) (circuit_of n x)
    one-circuit = ap (λ (ls : List ℕ). watching ls (circuit_of n x)) same-output

    pub one-runs : Runs (one_count n) (seven x.inputs x.latches (drop k x.outputs) x.gates x.resets x.bads x.constraints)
    one-runs =
        let f = r.fits in
        record {
          fits = record {
            most-M = f.most-M;
            most-O = omega arith;
            most-B = omega arith;
            most-C = f.most-C;
            sum = f.sum;
            inputs_long = f.inputs_long;
            latches-long = f.latches-long;
            outputs-long = omega (arith, f.outputs-long, length-drop k x.outputs);
            gates-long = f.gates-long;
            resets-long = f.resets-long;
            bads-long = omega arith;
            constraints-long = f.constraints-long;
          };
          counts = ap counts_of one-circuit ∙ ap one_count r.counts;
          formed = subst WellFormed (sym one-circuit)
              (watching-formed (circuit_of n x) b r.formed (get_or (circuit_of n x).outputs k 0 ∷ []) (omega arith)
              (bounded-one (inner (circuit_of n x) + length (circuit_of n x).gates) (circuit_of n x).outputs k
              (omega (arith, ap (λ (m : Counts). m.O) r.counts)) (well-ordered (circuit_of n x) b r.formed).output-in));
          order = ap binary_order one-circuit ∙ r.order;
        }

-- the search of all bad states, and of one output, as it is asked and answered
module _ (n : Counts) (latches outputs gates resets bads constraints : List ℕ) (watch : ℕ) where
  module _ (scratch met marks : List ℕ) (w : Watches n latches outputs gates resets bads constraints scratch watch met marks) where
    pub all-searches : Seeks (all_counts n) latches bads gates resets bads constraints scratch met marks
    all-searches =
        let f = w.finds in
        record {
          inputs = f.inputs;
          runs = all_runs f.runs;
          scratch-long = omega (arith, f.scratch-long);
          few-latches = f.few-latches;
          few-inputs = f.few-inputs;
          met-long = f.met-long;
          marks-long = f.marks-long;
          blank = w.blank;
        }

    pub one-searches : (k : ℕ) → k + 1 ≡ watch → (rest : List ℕ) → rest ≡ drop k outputs
        → Seeks (one_count n) latches rest gates resets bads constraints scratch met marks
    one-searches k e rest er =
        let f = w.finds in
        record {
          inputs = f.inputs;
          runs = subst (λ (o : List ℕ). Runs (one_count n) (seven f.inputs latches o gates resets bads constraints)) (sym er)
              (one-runs f.runs k (omega (arith, f.there)));
          scratch-long = omega (arith, f.scratch-long, f.there);
          few-latches = f.few-latches;
          few-inputs = f.few-inputs;
          met-long = f.met-long;
          marks-long = f.marks-long;
          blank = w.blank;
        }

  module _ (split allowance : ℕ) (reach : Reach) (met : List ℕ) where
    pub all-watched : watch ≡ 0 → SearchesAll split (all_counts n) latches bads gates resets bads constraints allowance reach met
        → WatchesAll split watch n latches outputs gates resets bads constraints allowance reach met
    all-watched e s inputs r =
        subst (λ (k : ℕ). ExploredBy (system_of split (watched k (circuit_of n (seven inputs latches outputs gates resets bads constraints)))) (2 ^ n.L)
        allowance reach met) (sym e) (s inputs (all_runs r))

    pub one-watched : (k : ℕ) → k + 1 ≡ watch → watch ≤ n.O → (rest : List ℕ) → rest ≡ drop k outputs
        → SearchesAll split (one_count n) latches rest gates resets bads constraints allowance reach met
        → WatchesAll split watch n latches outputs gates resets bads constraints allowance reach met
    one-watched k e h rest er s inputs r =
        let c = circuit_of n (seven inputs latches outputs gates resets bads constraints) in
        let less : k < n.O = omega arith in
        let is-next : suc k ≡ watch = omega arith in
        subst (λ (j : ℕ). ExploredBy (system_of split (watched j (circuit_of n (seven inputs latches outputs gates resets bads constraints)))) (2 ^ n.L)
        allowance reach met) is-next
        (subst (λ (d : Circuit). ExploredBy (system_of split d) (2 ^ n.L) allowance reach met)
        (ap (λ (o : List ℕ). circuit_of (one_count n) (seven inputs latches o gates resets bads constraints)) er ∙ one-circuit r k less)
        (s inputs (subst (λ (o : List ℕ). Runs (one_count n) (seven inputs latches o gates resets bads constraints)) (sym er) (one-runs r k less))))
