-- A report that is done: of each output and latch the first three words of table 6 add up to the number of vectors, and of each output of a row
-- report its three words to the number of rows.
use Prim.Native.Nat.{ℕ, zero, suc, ◌+◌, ◌-◌, ◌*◌, ◌<◌}
use mathlib.Core.Path.{◌≡◌, refl, sym, ap, ◌∙◌}
use mathlib.Core.List.{List, [], ◌∷◌, ◌++◌, append_assoc, map}
use Rattle.std.specs.Prelude.{Ok, Option, None}
use native.Mathlib.Nat.{mul-zero, mul-suc}
use native.Mathlib.Decide.{dec_lt}
use native.Mathlib.Omega.{arith}
use lib.ListN.{length, get_or, replicate, length-map, length-append, get_or-append}
use lib.Seq.{get_or-append-add}
use Rattle.plan.specs.declared.Counts.{Counts}
use Rattle.plan.specs.declared.Refusal.{Refusal}
use Rattle.plan.specs.Refusals.{first_of}
use Rattle.plan.specs.Circuit.{Circuit, counts_of, rows_of}
use Rattle.plan.specs.Given.{Given, given_circuit, lent_alone, stages, order_stage}
use Rattle.plan.specs.Sixth.{lent_sixth, sixth_stages}
use Rattle.plan.specs.Step.{Value, v0, v1, vx, value_of, next_of, Step, step_of, run, first_state, vectors_of}
use Rattle.plan.specs.Outcome.{list_stage}
use Rattle.plan.specs.Report.{times, times_of, numbers_of, output_along, latch_along, in_turn, needles, long_stage, ReportEntry, reported_by, report_stages, report}
use Rattle.plan.specs.Rows.{row_steps, row_report, RowReportEntry, row_report_stage, reported_rows, report_rows}
use Rattle.laws.proofs.Reading.Short.{short_none, first-long}
use Rattle.laws.proofs.Running.Times.{all-counted}
use Rattle.laws.proofs.Writing.Nothing.{stepped-none, first-both}
use Rattle.laws.proofs.Writing.Fine.{counts-given, nothing-fine, length-rows}

-- word j of what is told of i, where w words are told of each
module _ (tell : ℕ → List ℕ) (w : ℕ) (long : (i : ℕ) → length (tell i) ≡ w) where
  turn-length : (n : ℕ) → length (in_turn tell n) ≡ w * n
  turn-length zero = sym (mul-zero w)
  turn-length (suc n) = omega (arith, length-append (in_turn tell n) (tell n), turn-length n, long n, mul-suc w n)

  turn_at : (n i j : ℕ) (rest : List ℕ) → i < n → j < w → get_or (in_turn tell n ++ rest) (w * i + j) 0 ≡ get_or (tell i) j 0
  turn_at zero i j rest h k = absurd (omega arith)
  turn_at (suc n) i j rest h k =
      ap (λ (l : List ℕ). get_or l (w * i + j) 0) (append_assoc (in_turn tell n) (tell n) rest) ∙ go (turn_at n i j (tell n ++ rest)) (dec_lt i n)
    where
      go : (i < n → j < w → get_or (in_turn tell n ++ (tell n ++ rest)) (w * i + j) 0 ≡ get_or (tell i) j 0) → Dec (i < n)
          → get_or (in_turn tell n ++ (tell n ++ rest)) (w * i + j) 0 ≡ get_or (tell i) j 0
      go ih (yes p) = ih p k
      go ih (no p) =
          let e : n ≡ i = omega arith in
          let at : w * n + j ≡ length (in_turn tell n) + j = ap (λ (x : ℕ). x + j) (sym (turn-length n)) in
          ap (λ (x : ℕ). get_or (in_turn tell n ++ (tell n ++ rest)) (w * x + j) 0) (sym e)
          ∙ (ap (λ (x : ℕ). get_or (in_turn tell n ++ (tell n ++ rest)) x 0) at
          ∙ (get_or-append-add (in_turn tell n) (tell n ++ rest) j 0
          ∙ (get_or-append (tell n) rest 0 j (omega (arith, long n)) ∙ ap (λ (x : ℕ). get_or (tell x) j 0) e)))

run_length : (c : Circuit) (s : List Value) (list : List (List Value)) → length (run c s list) ≡ length list
run_length c s [] = refl
run_length c s (i ∷ list) = ap suc (run_length c (next_of c s i) list)

vectors-length : (c : Circuit) (number : ℕ) (bytes : List ℕ) → length (vectors_of c number bytes) ≡ number
vectors-length c number bytes = length-map (rows_of (length c.inputs) number bytes) (map value_of) ∙ length-rows (length c.inputs) number bytes

-- the counts of given tables that pass with a table 6
sixth-counts : (g : Given) (needed : ℕ) (six : List ℕ) (more : List (Option Refusal)) → first_of (sixth_stages g needed six ++ more) ≡ None
    → counts_of (given_circuit g) ≡ g.counts
sixth-counts g needed six more f =
    let one = (first-both (sixth_stages g needed six) more f).0 in
    let two = (first-both (stages g (lent_sixth g needed six)) (order_stage g ∷ []) one).0 in
    let room = (nothing-fine g (lent_sixth g needed six) two).room in
    counts-given g ((short_none (lent_alone g)).1 (first-long (lent_alone g) (record { table = 6; needed = needed; words = length six } ∷ [])
    ((short_none (lent_sixth g needed six)).0 room)))

-- the first three words of a place
abbrev pub three_at : List ℕ → ℕ → ℕ
three_at table at = get_or table at 0 + get_or table (at + 1) 0 + get_or table (at + 2) 0

module _ (e : ReportEntry) (done : (report e).answer ≡ Ok tt) where
  abbrev g : Given
  g = e.circuit

  abbrev c : Circuit
  c = given_circuit e.circuit

  abbrev steps : List Step
  steps = run c (first_state c) (vectors_of c e.number e.bytes)

  passed : first_of (report_stages e) ≡ None
  passed = stepped-none (λ o. (reported_by o e).answer) (λ r. refl) (first_of (report_stages e)) done

  counts : counts_of c ≡ g.counts
  counts =
      sixth-counts g (4 * (g.counts.O + g.counts.L)) e.six
      (long_stage e.number ∷ list_stage (record { circuit = g; number = e.number; bytes = e.bytes }) ∷ []) passed

  abbrev of_outputs : List ℕ
  of_outputs = in_turn (λ i. numbers_of (output_along steps i)) (length c.outputs)

  abbrev of_latches : List ℕ
  of_latches = in_turn (λ i. numbers_of (latch_along steps i)) (length c.latches)

  abbrev zeros : List ℕ
  zeros = replicate (length e.six - length (needles c steps)) 0

  six-is : (report e).six ≡ of_outputs ++ (of_latches ++ zeros)
  six-is = ap (λ (o : Option Refusal). (reported_by o e).six) passed ∙ append_assoc of_outputs of_latches zeros

  output-word : (i j : ℕ) → i < length c.outputs → j < 4 → get_or (report e).six (4 * i + j) 0 ≡ get_or (numbers_of (output_along steps i)) j 0
  output-word i j h k =
      ap (λ (l : List ℕ). get_or l (4 * i + j) 0) six-is
      ∙ turn_at (λ (i : ℕ). numbers_of (output_along steps i)) 4 (λ i. refl) (length c.outputs) i j (of_latches ++ zeros) h k

  latch-word : (i j : ℕ) → i < length c.latches → j < 4
      → get_or (report e).six (4 * (length c.outputs + i) + j) 0 ≡ get_or (numbers_of (latch_along steps i)) j 0
  latch-word i j h k =
      let at : 4 * (length c.outputs + i) + j ≡ length of_outputs + (4 * i + j)
      = omega (arith, turn-length (λ (i : ℕ). numbers_of (output_along steps i)) 4 (λ i. refl) (length c.outputs)) in
      ap (λ (l : List ℕ). get_or l (4 * (length c.outputs + i) + j) 0) six-is
      ∙ (ap (λ (p : ℕ). get_or (of_outputs ++ (of_latches ++ zeros)) p 0) at
      ∙ (get_or-append-add of_outputs (of_latches ++ zeros) (4 * i + j) 0
      ∙ turn_at (λ (i : ℕ). numbers_of (latch_along steps i)) 4 (λ i. refl) (length c.latches) i j zeros h k))

  steps-length : length steps ≡ e.number
  steps-length = run_length c (first_state c) (vectors_of c e.number e.bytes) ∙ vectors-length c e.number e.bytes

  -- of each output, then of each latch
  pub report-adds-up : (i : ℕ) → i < e.circuit.counts.O + e.circuit.counts.L → three_at (report e).six (4 * i) ≡ e.number
  report-adds-up i h = go (dec_lt i (length c.outputs))
    where
      none_more : 4 * i ≡ 4 * i + 0
      none_more = omega arith

      there : (m : ℕ) (l : List Value) → m ≡ i → ((j : ℕ) → j < 4 → get_or (report e).six (4 * m + j) 0 ≡ get_or (numbers_of l) j 0) → length l ≡ e.number
          → three_at (report e).six (4 * i) ≡ e.number
      there m l at words size =
          let w0 : get_or (report e).six (4 * i) 0 ≡ times v0 l
          = ap (λ (p : ℕ). get_or (report e).six p 0) (none_more ∙ ap (λ (x : ℕ). 4 * x + 0) (sym at)) ∙ words 0 (omega arith) in
          let w1 : get_or (report e).six (4 * i + 1) 0 ≡ times v1 l
          = ap (λ (x : ℕ). get_or (report e).six (4 * x + 1) 0) (sym at) ∙ words 1 (omega arith) in
          let w2 : get_or (report e).six (4 * i + 2) 0 ≡ times vx l
          = ap (λ (x : ℕ). get_or (report e).six (4 * x + 2) 0) (sym at) ∙ words 2 (omega arith) in
          omega (arith, w0, w1, w2, all-counted l, size)

      go : Dec (i < length c.outputs) → three_at (report e).six (4 * i) ≡ e.number
      go (yes p) =
          there i (output_along steps i) refl (λ j k. output-word i j p k) (length-map steps (λ (s : Step). get_or s.outputs i vx) ∙ steps-length)
      go (no p) =
          let k = i - length c.outputs in
          let at : length c.outputs + (i - length c.outputs) ≡ i = omega arith in
          let small : i - length c.outputs < length c.latches
          = omega (arith, ap (λ (m : Counts). m.O) counts, ap (λ (m : Counts). m.L) counts) in
          there (length c.outputs + k) (latch_along steps k) at (λ j q. latch-word k j small q)
          (length-map steps (λ (s : Step). get_or s.state k vx) ∙ steps-length)

-- and of a row report
module _ (e : RowReportEntry) (done : (report_rows e).answer ≡ Ok tt) where
  pub row-report-adds-up : (i : ℕ) → i < e.circuit.counts.O → three_at (report_rows e).report (3 * i) ≡ e.rows
  row-report-adds-up i h =
      let g = e.circuit in
      let c = given_circuit e.circuit in
      let all = sixth_stages g (3 * g.counts.O) e.report ++ (row_report_stage e ∷ []) in
      let passed = stepped-none (λ o. (reported_rows o e).answer) (λ r. refl) (first_of all) done in
      let counts = sixth-counts g (3 * g.counts.O) e.report (row_report_stage e ∷ []) passed in
      let steps = row_steps c e.rows e.inputs in
      let l = output_along steps i in
      let zeros : List ℕ = replicate (length e.report - length (row_report c steps)) 0 in
      let table_is : (report_rows e).report ≡ row_report c steps ++ zeros = ap (λ (o : Option Refusal). (reported_rows o e).report) passed in
      let small : i < length c.outputs = omega (arith, ap (λ (m : Counts). m.O) counts) in
      let word : (j : ℕ) → j < 3 → get_or (report_rows e).report (3 * i + j) 0 ≡ get_or (times_of l) j 0
      = λ j k. ap (λ (t : List ℕ). get_or t (3 * i + j) 0) table_is
      ∙ turn_at (λ (i : ℕ). times_of (output_along steps i)) 3 (λ i. refl) (length c.outputs) i j zeros small k in
      let none_more : 3 * i ≡ 3 * i + 0 = omega arith in
      let w0 : get_or (report_rows e).report (3 * i) 0 ≡ times v0 l = ap (λ (p : ℕ). get_or (report_rows e).report p 0) none_more ∙ word 0 (omega arith) in
      let w1 : get_or (report_rows e).report (3 * i + 1) 0 ≡ times v1 l = word 1 (omega arith) in
      let w2 : get_or (report_rows e).report (3 * i + 2) 0 ≡ times vx l = word 2 (omega arith) in
      let size : length l ≡ e.rows
      = length-map steps (λ (s : Step). get_or s.outputs i vx) ∙ (length-map (vectors_of c e.rows e.inputs) (step_of c (first_state c))
      ∙ vectors-length c e.rows e.inputs) in
      omega (arith, w0, w1, w2, all-counted l, size)
