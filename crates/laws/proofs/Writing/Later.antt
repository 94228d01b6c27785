-- What an accepted read, conversion or reduction leaves, every later call accepts: the tables hold the circuit and pass the checks of given
-- tables; after a conversion or a reduction they are in binary order too.
use Prim.Native.Nat.{ℕ, ◌+◌, ◌*◌, ◌≤◌}
use mathlib.Core.Path.{◌≡◌, refl, sym, ap, ◌∙◌, subst}
use mathlib.Core.Bool.{true}
use mathlib.Core.List.{List, [], ◌∷◌, ◌++◌}
use Rattle.std.specs.Prelude.{Ok, Option, Some, None}
use native.Mathlib.Omega.{arith}
use lib.ListN.{length, drop, length-replicate}
use Rattle.plan.specs.declared.Version.{Version}
use Rattle.plan.specs.declared.Counts.{Counts}
use Rattle.plan.specs.declared.Refusal.{Refusal}
use Rattle.plan.specs.declared.Refusal.TheVariants.{NotInOrder}
use Rattle.plan.specs.Refusals.{Parse, got, refused, first_of}
use Rattle.plan.specs.Circuit.{Circuit, Tables, counts_of, circuit_of, scratch_to_work, words_to_work, against, least_short, lengths_of, holding, cleared}
use Rattle.plan.specs.Reading.{read_file, WellFormed, LongEnough}
use Rattle.plan.specs.Binary.{binary_order}
use Rattle.plan.specs.Given.{Given, given_circuit, lent_alone, lent_with, failing, stages, order_stage}
use Rattle.plan.specs.Convert.{convert}
use Rattle.plan.specs.Reduce.{reduce}
use Rattle.plan.specs.Outcome.{ReadEntry, load_by, load_as, checked_by, check, check_in_order, MakeEntry, made_by, conversion, reduction}
use Rattle.laws.proofs.Reading.Differences.{Bytes}
use Rattle.laws.proofs.Reading.Exactly.{sound, formed, room-to-work}
use Rattle.laws.proofs.Reading.Short.{short_none, first-long, last-long}
use Rattle.laws.proofs.Running.Counts.{counts-convert, counts-reduce}
use Rattle.laws.proofs.Running.Results.{convert-well-formed, convert-in-order, reduce-well-formed, reduce-in-order, reduce-fewer}
use Rattle.laws.proofs.Running.Resets.{resets-length}
use Rattle.laws.proofs.Writing.Nothing.{stage-none, failing-none, first-all, first-both, both_first}
use Rattle.laws.proofs.Writing.Fine.{Fine, counts-given, nothing-fine, fine-nothing}
use Rattle.laws.proofs.Writing.Holding.{Enough, holding-circuit, holding-lengths, formed-fine}
use Rattle.laws.proofs.Pairs.{ok-pair}

-- tables that hold a circuit, and that no check of given tables refuses
pub record Left (g : Given) (c : Circuit) : Type 0 where
  pub holds : given_circuit g ≡ c
  pub counts : g.counts ≡ counts_of c
  pub fine : first_of (stages g (lent_alone g)) ≡ None

pub left-good : (g : Given) (c : Circuit) → Left g c → (check g).answer ≡ Ok tt
left-good g c l = ap checked_by l.fine

pub left-in-order : (g : Given) (c : Circuit) → Left g c → binary_order c ≡ true → (check_in_order g).answer ≡ Ok tt
left-in-order g c l o =
    let order : binary_order (given_circuit g) ≡ true = ap binary_order l.holds ∙ o in
    let last : first_of (order_stage g ∷ []) ≡ None = rw order in
    ap checked_by (both_first (stages g (lent_alone g)) (order_stage g ∷ []) l.fine ∙ last)

module _ (c : Circuit) (t : Tables) (scratch : List ℕ) where
  abbrev after : Given
  after = record { counts = counts_of c; tables = holding t c; scratch = cleared scratch }

  -- the tables are as long as they were
  after-room : WellFormed c → LongEnough c (lengths_of t scratch) → least_short (lent_alone after) ≡ None
  after-room w room =
      let l = (short_none (against 1 (words_to_work (counts_of c)) (lengths_of t scratch))).0 room in
      let enough : Enough c t = record {
        inputs = l.0;
        latches = l.1.0;
        outputs = l.1.1.0;
        gates = l.1.1.1.0;
        resets = omega (arith, l.1.1.1.1.1.1.0, resets-length c.latches c.resets w.resets);
        bads = l.1.1.1.1.1.1.1.0;
        constraints = l.1.1.1.1.1.1.1.1.0;
      } in
      ap (λ (x : List ℕ). least_short (against 1 (words_to_work (counts_of c)) x))
      (holding-lengths t c (cleared scratch) enough ∙ same_length (length-replicate {A = ℕ} (length scratch) 0))
      ∙ room
    where
      same_length : length (cleared scratch) ≡ length scratch → lengths_of t (cleared scratch) ≡ lengths_of t scratch
      same_length e = λ i. length t.inputs ∷ length t.latches ∷ length t.outputs ∷ length t.gates ∷ e i ∷ 0
          ∷ length t.resets ∷ length t.bads ∷ length t.constraints ∷ []

  pub left : WellFormed c → LongEnough c (lengths_of t scratch) → Left after c
  left w room = record {
    holds = holding-circuit t c w;
    counts = refl;
    fine = fine-nothing after (lent_alone after) (formed-fine after (lent_alone after) c (holding-circuit t c w) refl w (after-room w room));
  }

-- after reading by a version, where table 5 is long enough for later calls: a binary file may have been read with less
pub load-left : (v : Version) (e : ReadEntry) → Bytes e.file → (n : Counts) (start : ℕ) → (load_as v e).answer ≡ Ok (n, start)
    → (c : Circuit) × (read_file v e.file (lengths_of e.tables e.scratch) ≡ got c start)
    × (n ≡ counts_of c) × (circuit_of n (load_as v e).tables ≡ c)
    × (scratch_to_work n ≤ length e.scratch → Left (record { counts = n; tables = (load_as v e).tables; scratch = (load_as v e).scratch }) c)
load-left v e bytes n start a = go (read_file v e.file (lengths_of e.tables e.scratch)) refl a
  where
    go : (p : Parse Circuit) → read_file v e.file (lengths_of e.tables e.scratch) ≡ p
        → (load_by e p).answer ≡ Ok (n, start)
        → (c : Circuit) × (p ≡ got c start) × (n ≡ counts_of c) × (circuit_of n (load_by e p).tables ≡ c)
        × (scratch_to_work n ≤ length e.scratch → Left (record { counts = n; tables = (load_by e p).tables; scratch = (load_by e p).scratch }) c)
    go (got c s) q a =
        let both = ok-pair (counts_of c) n s start a in
        let n-is = both.0 in
        let s-is = both.1 in
        let r = sound v e.file (lengths_of e.tables e.scratch) bytes c s q in
        let w = formed v e.file c (drop s e.file) r.0 in (
          c,
          ap (got c) s-is,
          sym n-is,
          ap (λ (x : Counts). circuit_of x (holding e.tables c)) (sym n-is) ∙ holding-circuit e.tables c w,
          λ five. subst (λ (x : Counts). Left (record { counts = x; tables = holding e.tables c; scratch = cleared e.scratch }) c) n-is
              (left c e.tables e.scratch w (room-to-work e.file c (lengths_of e.tables e.scratch)
              (subst (λ (x : Counts). scratch_to_work x ≤ length e.scratch) (sym n-is) five) r.1)),
        )
    go (refused r) q a = let z : ◌≡◌ {A = ℕ} 0 1 = cc in absurd (omega arith)

-- after conversion and reduction: written tables as long as the given counts ask have room for the result
module _ (e : MakeEntry) (f : first_of (stages e.circuit (lent_with e.circuit e.written)) ≡ None) where
  abbrev g : Given
  g = e.circuit

  fine : Fine g (lent_with g e.written)
  fine = nothing-fine g (lent_with g e.written) f

  counts-are : counts_of (given_circuit g) ≡ g.counts
  counts-are =
      let l = (short_none (lent_with g e.written)).0 fine.room in
      counts-given g ((short_none (lent_alone g)).1 (first-long (lent_alone g) (against 1 (words_to_work g.counts) (lengths_of e.written g.scratch)) l))

  -- of a circuit with the same I, L, O, B and C, and M and A no larger
  room_for : (c : Circuit) → c.M ≤ g.counts.M → length c.inputs ≡ g.counts.I → length c.latches ≡ g.counts.L
      → length c.outputs ≡ g.counts.O → length c.gates ≤ g.counts.A → length c.bads ≡ g.counts.B
      → length c.constraints ≡ g.counts.C
      → LongEnough c (lengths_of e.written g.scratch)
  room_for c m i l o a b k =
      let r = (short_none (lent_with g e.written)).0 fine.room in
      let s = last-long (lent_alone g) (against 1 (words_to_work g.counts) (lengths_of e.written g.scratch)) r in
      let h1 : length c.inputs ≤ length e.written.inputs = omega (arith, s.0) in
      let h2 : 2 * length c.latches ≤ length e.written.latches = omega (arith, s.1.0) in
      let h3 : length c.outputs ≤ length e.written.outputs = omega (arith, s.1.1.0) in
      let h4 : 3 * length c.gates ≤ length e.written.gates = omega (arith, s.1.1.1.0) in
      let h5 : 4 * (c.M + 1) + length c.outputs + length c.bads + length c.constraints ≤ length g.scratch
      = omega (arith, s.1.1.1.1.0) in
      let h7 : length c.latches ≤ length e.written.resets = omega (arith, s.1.1.1.1.1.1.0) in
      let h8 : length c.bads ≤ length e.written.bads = omega (arith, s.1.1.1.1.1.1.1.0) in
      let h9 : length c.constraints ≤ length e.written.constraints = omega (arith, s.1.1.1.1.1.1.1.1.0) in
      (short_none (against 1 (words_to_work (counts_of c)) (lengths_of e.written g.scratch))).1
      (h1, (h2, (h3, (h4, (h5, (omega arith, (h7, (h8, (h9, tt)))))))))

made-left : (o : Option Refusal) (e : MakeEntry) (c : Circuit) (n : Counts) → (made_by o e c).answer ≡ Ok n
    → (o ≡ None → Left (after c e.written e.circuit.scratch) c)
    → (o ≡ None) × Left (record { counts = n; tables = (made_by o e c).written; scratch = (made_by o e c).scratch }) c
made-left None e c n a l =
    let n-is : counts_of c ≡ n = cc in (
      refl,
      subst (λ (x : Counts). Left (record { counts = x; tables = holding e.written c; scratch = cleared e.circuit.scratch }) c) n-is
          (l refl),
    )
made-left (Some r) e c n a l = let z : ◌≡◌ {A = ℕ} 0 1 = cc in absurd (omega arith)

abbrev inputs_of : Counts → ℕ
inputs_of n = n.I

abbrev latches_of : Counts → ℕ
latches_of n = n.L

abbrev outputs_of : Counts → ℕ
outputs_of n = n.O

abbrev gates_of : Counts → ℕ
gates_of n = n.A

abbrev bads_of : Counts → ℕ
bads_of n = n.B

abbrev constraints_of : Counts → ℕ
constraints_of n = n.C

pub conversion-left : (e : MakeEntry) (n : Counts) → (conversion e).answer ≡ Ok n
    → Left (record { counts = n; tables = (conversion e).written; scratch = (conversion e).scratch }) (convert (given_circuit e.circuit))
    × (binary_order (convert (given_circuit e.circuit)) ≡ true)
conversion-left e n a =
    let all = stages e.circuit (lent_with e.circuit e.written) in
    let m = made-left (first_of all) e (convert (given_circuit e.circuit)) n a (λ f. of f) in
    (m.1, convert-in-order (given_circuit e.circuit) (fine e m.0).formed)
  where
    of : first_of (stages e.circuit (lent_with e.circuit e.written)) ≡ None
        → Left (after (convert (given_circuit e.circuit)) e.written e.circuit.scratch) (convert (given_circuit e.circuit))
    of f =
        let c = given_circuit e.circuit in
        let w = (fine e f).formed in
        let k = counts-convert c w in
        let q = counts-are e f in
        left (convert c) e.written e.circuit.scratch (convert-well-formed c w)
        (room_for e f (convert c) (omega (arith, w.sum)) (ap inputs_of k ∙ ap inputs_of q) (ap latches_of k ∙ ap latches_of q)
        (ap outputs_of k ∙ ap outputs_of q) (omega (arith, ap gates_of k, ap gates_of q)) (ap bads_of k ∙ ap bads_of q)
        (ap constraints_of k ∙ ap constraints_of q))

-- a call on circuits in binary order, of which it keeps I, L, O, B and C and has M and A grow no larger
pub record Fitting (c d : Circuit) : Type 0 where
  pub formed : WellFormed d
  pub order : binary_order d ≡ true
  pub M : d.M ≤ c.M
  pub I : length d.inputs ≡ length c.inputs
  pub L : length d.latches ≡ length c.latches
  pub O : length d.outputs ≡ length c.outputs
  pub A : length d.gates ≤ length c.gates
  pub B : length d.bads ≡ length c.bads
  pub C : length d.constraints ≡ length c.constraints

pub in-order-left : (make : Circuit → Circuit) → ((c : Circuit) → WellFormed c → binary_order c ≡ true → Fitting c (make c))
    → (e : MakeEntry) (n : Counts)
    → let x = made_by (first_of (stages e.circuit (lent_with e.circuit e.written) ++ (order_stage e.circuit ∷ []))) e (make (given_circuit e.circuit)) in
    x.answer ≡ Ok n
    → Left (record { counts = n; tables = x.written; scratch = x.scratch }) (make (given_circuit e.circuit))
    × (binary_order (make (given_circuit e.circuit)) ≡ true)
in-order-left make fit e n a =
    let all = stages e.circuit (lent_with e.circuit e.written) ++ (order_stage e.circuit ∷ []) in
    let m = made-left (first_of all) e (make (given_circuit e.circuit)) n a (λ f. of f) in
    let h = first-both (stages e.circuit (lent_with e.circuit e.written)) (order_stage e.circuit ∷ []) m.0 in
    (m.1, (fit (given_circuit e.circuit) (fine e h.0).formed (ordered h.1)).order)
  where
    ordered : first_of (order_stage e.circuit ∷ []) ≡ None → binary_order (given_circuit e.circuit) ≡ true
    ordered h =
        let t = binary_order (given_circuit e.circuit) in
        failing-none t (stage-none NotInOrder (failing t) (first-all (order_stage e.circuit ∷ []) h).0)

    of : first_of (stages e.circuit (lent_with e.circuit e.written) ++ (order_stage e.circuit ∷ [])) ≡ None
        → Left (after (make (given_circuit e.circuit)) e.written e.circuit.scratch) (make (given_circuit e.circuit))
    of f' =
        let h = first-both (stages e.circuit (lent_with e.circuit e.written)) (order_stage e.circuit ∷ []) f' in
        let f = h.0 in
        let c = given_circuit e.circuit in
        let k = fit c (fine e f).formed (ordered h.1) in
        let q = counts-are e f in
        left (make c) e.written e.circuit.scratch k.formed
        (room_for e f (make c) (omega (arith, k.M, ap (λ (m : Counts). m.M) q)) (k.I ∙ ap inputs_of q) (k.L ∙ ap latches_of q)
        (k.O ∙ ap outputs_of q) (omega (arith, k.A, ap gates_of q)) (k.B ∙ ap bads_of q) (k.C ∙ ap constraints_of q))

pub reduction-left : (e : MakeEntry) (n : Counts) → (reduction e).answer ≡ Ok n
    → Left (record { counts = n; tables = (reduction e).written; scratch = (reduction e).scratch }) (reduce (given_circuit e.circuit))
    × (binary_order (reduce (given_circuit e.circuit)) ≡ true)
reduction-left = in-order-left reduce fitting
  where
    fitting : (c : Circuit) → WellFormed c → binary_order c ≡ true → Fitting c (reduce c)
    fitting c w t =
        let k = counts-reduce c in
        record {
          formed = reduce-well-formed c w t;
          order = reduce-in-order c w t;
          M = omega (arith, w.sum, reduce-fewer c w t);
          I = ap inputs_of k;
          L = ap latches_of k;
          O = ap outputs_of k;
          A = reduce-fewer c w t;
          B = ap bads_of k;
          C = ap constraints_of k;
        }
