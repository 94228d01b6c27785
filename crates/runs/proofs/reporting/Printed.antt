-- What the reporter prints: the count of lines tells every refusal of standard input, a table 6 that is too short comes before it, and the report of
-- an accepted file on the packed lines, written by needles, is what is printed.
use Prim.Native.Nat.{ℕ, zero, suc, ◌+◌, ◌*◌, ◌-◌, ◌≤◌, ◌<◌}
use mathlib.Core.Path.{◌≡◌, refl, sym, ap, ap₂, ◌∙◌}
use mathlib.Core.Bool.{Bool, true, false, cond}
use mathlib.Core.List.{List, ◌++◌, map}
use Rattle.std.specs.Prelude.{Ok, Err, Option, Some}
use native.Mathlib.Nat.{mul-zero, mul-suc}
use native.Mathlib.Omega.{arith}
use borrow.Author.Tests.{le-leb, lt-leb}
use lib.Dec.{leb}
use lib.ListN.{length, take, drop, replicate, length-append, length-drop}
use lib.Seq.{take-append-le, drop-append-le}
use Rattle.plan.specs.declared.Refusal.{Refusal}
use Rattle.plan.specs.declared.Refusal.TheVariants.{WrongByte, BadVector, LongInput, ShortTable}
use Rattle.plan.specs.Refusals.{Parse, got, refused, ◌then◌, unless, first_of}
use Rattle.plan.specs.Circuit.{Circuit}
use Rattle.plan.specs.Given.{given_circuit, failing_at}
use Rattle.plan.specs.Reading.{read_to_work}
use Rattle.plan.specs.Convert.{convert}
use Rattle.plan.specs.Step.{Value, value_of, Step, run, first_state, vectors_of}
use Rattle.plan.specs.Programs.{lent_words, refusal_line, printed, input, lines_in, all_vectors, stimulus}
use Rattle.plan.specs.Whole.{counted_by, count_lines}
use Rattle.plan.specs.Report.{in_turn, numbers_of, output_along, latch_along, needles, report_of, ReportEntry, reported_by, report_stages, report}
use Rattle.plan.specs.Reporter.{six_words, needle_line, needle_lines, reporter}
use Rattle.laws.proofs.Reading.Runs.{length-lits}
use Rattle.laws.proofs.Writing.Nothing.{stepped-none}
use Rattle.runs.specs.stimulus.Scan.{ended}
use Rattle.runs.specs.reporting.Packing.{packed}
use Rattle.runs.specs.reporting.Fitting.{fitting_lines}
use Rattle.runs.proofs.reporting.Lines.{all_fit}
use Rattle.runs.proofs.reporting.Together.{vectors-packed}
use Rattle.runs.proofs.trace.Printed.{all_lines, count-refuses-by, input-then}

-- what is told of each in turn
turn-same : (f g : ℕ → List ℕ) (n : ℕ) → ((i : ℕ) → i < n → f i ≡ g i) → in_turn f n ≡ in_turn g n
turn-same f g zero h = refl
turn-same f g (suc n) h = ap₂ (λ (x y : List ℕ). x ++ y) (turn-same f g n (λ i p. h i (omega arith))) (h n (omega arith))

turn-long : (tell : ℕ → List ℕ) (w : ℕ) → ((i : ℕ) → length (tell i) ≡ w) → (n : ℕ) → length (in_turn tell n) ≡ w * n
turn-long tell w long zero = sym (mul-zero w)
turn-long tell w long (suc n) = omega (arith, length-append (in_turn tell n) (tell n), turn-long tell w long n, long n, mul-suc w n)

needles-long : (c : Circuit) (steps : List Step) → length (needles c steps) ≡ 4 * (length c.outputs + length c.latches)
needles-long c steps =
    let o = in_turn (λ i. numbers_of (output_along steps i)) (length c.outputs) in
    let l = in_turn (λ i. numbers_of (latch_along steps i)) (length c.latches) in
    omega (
      arith,
      length-append o l,
      turn-long (λ i. numbers_of (output_along steps i)) 4 (λ i. refl) (length c.outputs),
      turn-long (λ i. numbers_of (latch_along steps i)) 4 (λ i. refl) (length c.latches),
    )

-- the lines look at four words for each needle and at no other
four : (k : ℕ) (l m : List ℕ) → k + 4 ≤ length l → take 4 (drop k (l ++ m)) ≡ take 4 (drop k l)
four k l m h =
    ap (take 4) (drop-append-le k l m (omega arith)) ∙ take-append-le 4 (drop k l) m (omega (arith, length-drop k l))

lines-first : (outputs latches : ℕ) (l m : List ℕ) → 4 * (outputs + latches) ≤ length l → needle_lines outputs latches (l ++ m) ≡ needle_lines outputs latches l
lines-first outputs latches l m h =
    ap₂ (λ (x y : List ℕ). x ++ y)
    (turn-same _ _ outputs (λ i p. ap (needle_line 111 i) (four (4 * i) l m (omega arith))))
    (turn-same _ _ latches (λ i p. ap (needle_line 108 i) (four (4 * (outputs + i)) l m (omega arith))))

-- lines that are counted are whole vectors, as many as are told
counted-good : (rows : List (List ℕ)) (size k : ℕ) (x y z : Refusal) (t u v : Bool)
    → counted_by (cond t (cond u (cond v (got rows size) (refused x)) (refused y)) (refused z)) ≡ Ok k
    → (u ≡ true) × (v ≡ true) × (length rows ≡ k)
counted-good rows size k x y z true true true e = (refl, refl, cc)
counted-good rows size k x y z true true false e = let d : ◌≡◌ {A = ℕ} 0 1 = cc in absurd (omega arith)
counted-good rows size k x y z true false v e = let d : ◌≡◌ {A = ℕ} 0 1 = cc in absurd (omega arith)
counted-good rows size k x y z false u v e = let d : ◌≡◌ {A = ℕ} 0 1 = cc in absurd (omega arith)

module _ (file : List ℕ) (c : Circuit) (start : ℕ) (short : length file ≤ 65536) (reads : read_to_work file lent_words lent_words ≡ got c start)
    (source : Option (List ℕ)) where
  abbrev d : Circuit
  d = convert c

  abbrev report-lines : Circuit → List (List ℕ) → ℕ → Parse (List ℕ)
  report-lines c list end =
      let d = convert c in
      got (needle_lines (length d.outputs) (length d.latches) (needles d (run d (first_state d) (map (map value_of) list)))) end

  abbrev after-file : Circuit → ℕ → Parse (List ℕ)
  after-file c _ =
      unless (failing_at 6 (leb (4 * (length c.outputs + length c.latches)) six_words)) ShortTable
      (input source (λ bytes. stimulus (length c.inputs) bytes then report-lines c))

  opened : reporter (Some file) source ≡ printed (after-file c start)
  opened =
      ap (λ (t : Bool). printed (cond t (read_to_work file lent_words lent_words then after-file) (refused (LongInput 65536))))
      (le-leb (length file) 65536 short)
      ∙ ap (λ (p : Parse Circuit). printed (p then after-file)) reads

  abbrev by-six : Bool → List ℕ
  by-six t = printed (unless (failing_at 6 t) ShortTable (input source (λ bytes. stimulus (length c.inputs) bytes then report-lines c)))

  -- table 6 is too short, whatever standard input has
  pub reporter-short : six_words < 4 * (length c.outputs + length c.latches) → reporter (Some file) source ≡ refusal_line (ShortTable 6)
  reporter-short h = opened ∙ ap by-six (lt-leb (4 * (length c.outputs + length c.latches)) six_words h)

  module _ (six : 4 * (length c.outputs + length c.latches) ≤ six_words) where
    accepted : reporter (Some file) source ≡ printed (input source (stimulus (length c.inputs)) then report-lines c)
    accepted =
        opened ∙ (ap by-six (le-leb (4 * (length c.outputs + length c.latches)) six_words six)
        ∙ ap printed (input-then (stimulus (length c.inputs)) (report-lines c) source))

    -- the count of lines is refused
    pub reporter-refuses : (r : Refusal) → count_lines source (length c.inputs) ≡ Err r → reporter (Some file) source ≡ refusal_line r
    reporter-refuses r e = accepted ∙ count-refuses-by (report-lines c) (input source (stimulus (length c.inputs))) r e

    -- or tells how many there are: a report that is done on the converted circuit and the packed lines, its lines put where there is room for all
    pub reporter-prints : (bytes : List ℕ) → source ≡ Some bytes → (k : ℕ) → count_lines source (length c.inputs) ≡ Ok k
        → (e : ReportEntry) → given_circuit e.circuit ≡ convert c → e.number ≡ k → e.bytes ≡ packed bytes → (report e).answer ≡ Ok tt
        → (out : List ℕ) → 4 * (length (convert c).outputs + length (convert c).latches) ≤ length (report e).six
        → 66 * (length (convert c).outputs + length (convert c).latches) ≤ length out
        → fitting_lines (length (convert c).outputs) (length (convert c).latches) (report e).six out ≡ reporter (Some file) source
    reporter-prints bytes is k counted e holds number packs done out words room =
        let n = length c.inputs in
        let told = ap (λ (o : Option (List ℕ)). count_lines o n) (sym is) ∙ counted in
        let test = leb (length bytes) 65536 in
        let good = counted-good (lines_in bytes) (length bytes) k (BadVector 2) (WrongByte (length bytes)) (LongInput 65536) test
        (ended bytes) (all_vectors n (lines_in bytes)) told in
        let whole : input source (stimulus n) ≡ got (lines_in bytes) (length bytes)
        = ap (λ (o : Option (List ℕ)). input o (stimulus n)) is
        ∙ all_lines (lines_in bytes) (length bytes) k (BadVector 2) (WrongByte (length bytes)) (LongInput 65536) test (ended bytes)
        (all_vectors n (lines_in bytes)) told in
        let list = map (map value_of) (lines_in bytes) in
        let wide : all_vectors (length d.inputs) (lines_in bytes) ≡ true
        = ap (λ (w : ℕ). all_vectors w (lines_in bytes)) (length-lits 1 n) ∙ good.1 in
        let vectors : vectors_of (given_circuit e.circuit) e.number e.bytes ≡ list
        = (λ j. vectors_of (holds j) ((number ∙ sym good.2) j) (packs j)) ∙ vectors-packed d bytes good.0 wide in
        let numbers : report_of (given_circuit e.circuit) e.number e.bytes ≡ needles d (run d (first_state d) list)
        = ap₂ (λ (x : Circuit) (l : List (List Value)). needles x (run x (first_state x) l)) holds vectors in
        let o = length d.outputs in
        let l = length d.latches in
        let rest : List ℕ = replicate (length e.six - length (report_of (given_circuit e.circuit) e.number e.bytes)) 0 in
        let table : (report e).six ≡ needles d (run d (first_state d) list) ++ rest
        = ap (λ (z : Option Refusal). (reported_by z e).six)
        (stepped-none (λ z. (reported_by z e).answer) (λ r. refl) (first_of (report_stages e)) done)
        ∙ ap (λ (x : List ℕ). x ++ rest) numbers in
        all_fit o l (report e).six out words room
        ∙ (ap (needle_lines o l) table
        ∙ (lines-first o l (needles d (run d (first_state d) list)) rest (omega (arith, needles-long d (run d (first_state d) list)))
        ∙ sym (accepted ∙ ap (λ (p : Parse (List (List ℕ))). printed (p then report-lines c)) whole)))
