-- The row report: what is asked, what is counted, and the outcome, with table 6 judged among the tables.
use Prim.Native.Nat.{ℕ, zero, suc, ◌+◌, ◌-◌, ◌*◌, ◌/◌, ◌≤◌, ◌<◌}
use mathlib.Core.Path.{◌≡◌, sym, ap, ◌∙◌}
use mathlib.Core.Bool.{Bool, true, false, ◌&&◌}
use mathlib.Core.List.{List, [], ◌∷◌, ◌++◌}
use Rattle.std.specs.Prelude.{Result, Ok, Err, Option, Some, None}
use native.Mathlib.Nat.{mul_comm}
use native.Mathlib.Decide.{dec_lt}
use native.Mathlib.Omega.{arith}
use borrow.Author.Tests.{eqb-true, lt-ltb, le-ltb, ltb-false, le-leb, lt-leb}
use lib.Dec.{eqb, ltb}
use lib.ListN.{length, drop, replicate}
use Rattle.plan.specs.declared.Counts.{Counts}
use Rattle.plan.specs.declared.Refusal.{Refusal}
use Rattle.plan.specs.declared.Refusal.TheVariants.{BadVector, LongInput}
use Rattle.plan.specs.Refusals.{first_of}
use Rattle.plan.specs.Circuit.{filled, cleared}
use Rattle.plan.specs.Given.{given_circuit}
use Rattle.plan.specs.Outcome.{put, all_codes, checked_by, check_in_order}
use Rattle.laws.proofs.Reading.Common.{and_left}
use Rattle.laws.proofs.Writing.Nothing.{some_first, both_first}
use Rattle.judge.proofs.Sound.{good_none, refused-some}
use Rattle.plan.specs.Sixth.{sixth_stages}
use Rattle.judge.specs.table_six.Judged.{with_sixth}
use Rattle.judge.proofs.table_six.Among.{with-sixth, nothing-refused}
use Rattle.step.specs.sweep.Running.{Runs}
use Rattle.step.proofs.sweep.Literals.{output-up}
use Rattle.step.proofs.Checks as checks
use Rattle.plan.specs.Rows.{RowReportEntry, RowReportExit, row_report_stage, reported_rows, report_rows, row_report, row_steps}
use Rattle.rows.specs.lanes.Working.{these, Ready, Shows}
use Rattle.rows.specs.Asked.{Reports}

-- a report: zero past what is counted
drop-zeros : (m k : ℕ) → drop {A = ℕ} m (replicate k 0) ≡ replicate (k - m) 0
drop-zeros zero k = ap (λ (j : ℕ). replicate j 0) (all k)
  where
    all : (k : ℕ) → k ≡ k - 0
    all k = omega arith
drop-zeros (suc m) zero = ap (λ (j : ℕ). replicate j 0) (none_left m)
  where
    none_left : (m : ℕ) → 0 ≡ 0 - suc m
    none_left m = omega arith
drop-zeros (suc m) (suc k) = drop-zeros m k ∙ ap (λ (j : ℕ). replicate j 0) (less m k)
  where
    less : (m k : ℕ) → k - m ≡ suc k - suc m
    less m k = omega arith

pub put-cleared : (l z x w : List ℕ) → z ≡ cleared l → x ≡ put z 0 w → x ≡ filled l w
put-cleared l z x w ez ex =
    let from : 0 + length w ≡ length w = omega arith in
    ex ∙ (ap (λ (y : List ℕ). put y 0 w) ez
    ∙ ap (λ (y : List ℕ). w ++ y) (ap (λ (m : ℕ). drop {A = ℕ} m (replicate (length l) 0)) from ∙ drop-zeros (length w) (length l)))

module _ {n : Counts} {outputs gates resets : List ℕ} {rows : ℕ} {ins scratch report : List ℕ}
    (p : Reports n outputs gates resets rows ins scratch report) where
  pub report-ready : Ready n gates resets ins rows scratch
  report-ready = record {
    others = these p.others p.others.latches outputs gates resets;
    runs = p.runs;
    scratch = p.scratch-long;
    most = p.most;
    whole = omega (arith, p.ins-length, mul_comm rows n.I);
  }

  pub report-shows : (t : List ℕ) → length t ≡ length scratch → Shows outputs 0 1 n.O t
  report-shows t same = record {
    start-in = omega arith;
    literals-long = omega (arith, p.runs.fits.outputs-long);
    inside = λ j h. omega (arith, output-up p.runs j h, p.scratch-long);
  }

-- table 6 is too short, by a division that fits whatever the counts are
pub third : (m o : ℕ) → ltb (m / 3) o ≡ ltb m (3 * o)
third m o = go (dec_lt m (3 * o))
  where
    go : Dec (m < 3 * o) → ltb (m / 3) o ≡ ltb m (3 * o)
    go (yes h) = let less : m / 3 < o = omega arith in lt-ltb (m / 3) o less ∙ sym (lt-ltb m (3 * o) h)
    go (no h) =
        let most : o ≤ m / 3 = omega arith in
        let more : 3 * o ≤ m = omega arith in
        le-ltb (m / 3) o most ∙ sym (le-ltb m (3 * o) more)

module _ (e : RowReportEntry) where
  abbrev needed : ℕ
  needed = 3 * e.circuit.counts.O

  abbrev pub reply : Option Refusal
  reply = first_of (sixth_stages e.circuit needed e.report ++ (row_report_stage e ∷ []))

  -- 13, then 12
  pub many : 64 < e.rows → row_report_stage e ≡ Some (LongInput 64)
  many h = simp (lt-leb _ _ h)

  pub wrong : e.rows ≤ 64 → (eqb (length e.inputs) (e.rows * e.circuit.counts.I) && all_codes e.inputs) ≡ false
      → row_report_stage e ≡ Some (BadVector 2)
  wrong h q = simp (le-leb _ _ h, q)

  pub right : e.rows ≤ 64 → (eqb (length e.inputs) (e.rows * e.circuit.counts.I) && all_codes e.inputs) ≡ true
      → row_report_stage e ≡ None
  right h q = simp (le-leb _ _ h, q)

  -- a: the answer of the checks without table 6; b: whether that is too short
  module _ (a r : Result Unit Refusal) (b : Bool) (judged : a ≡ (check_in_order e.circuit).answer) (short : b ≡ ltb (length e.report) needed)
      (told : r ≡ with_sixth a b) where
    says : r ≡ checked_by (first_of (sixth_stages e.circuit needed e.report))
    says = told ∙ (ap (λ (x : Result Unit Refusal). with_sixth x b) judged ∙ with-sixth e.circuit needed e.report b short)

    pub refused-six : (q : Refusal) → r ≡ Err q → reply ≡ Some q
    refused-six q h = some_first q (sixth_stages e.circuit needed e.report) (row_report_stage e ∷ []) (refused-some q _ (sym h ∙ says))

    module _ (h : r ≡ Ok tt) where
      both : (a ≡ Ok tt) × (b ≡ false)
      both = nothing-refused a b (sym told ∙ h)

      pub past-six : reply ≡ first_of (row_report_stage e ∷ [])
      past-six = both_first (sixth_stages e.circuit needed e.report) (row_report_stage e ∷ []) (good_none _ (sym h ∙ says))

      pub runs : Runs e.circuit.counts e.circuit.tables
      runs = checks.runs e.circuit (row_report_stage e) judged both.0

      pub reports : (s : List ℕ) → length s ≡ length e.circuit.scratch → e.rows ≤ 64
          → (eqb (length e.inputs) (e.rows * e.circuit.counts.I) && all_codes e.inputs) ≡ true
          → let t = e.circuit.tables in
          Reports e.circuit.counts t.outputs t.gates t.resets e.rows e.inputs s e.report
      reports s same most q = record {
        others = e.circuit.tables;
        runs = record { fits = runs.fits; counts = runs.counts; formed = runs.formed; order = runs.order };
        scratch-long = (checks.room e.circuit (row_report_stage e) judged both.0 s same).scratch-long;
        most = most;
        ins-length = eqb-true _ _ (and_left (eqb (length e.inputs) (e.rows * e.circuit.counts.I)) (all_codes e.inputs) q);
        report-long = ltb-false (length e.report) needed (sym short ∙ both.1);
      }

  module _ (t : List ℕ) (blank : t ≡ cleared e.circuit.scratch) where
    pub refused-report : (a : Result Unit Refusal) (w : List ℕ) (q : Refusal) → a ≡ Err q → w ≡ cleared e.report → reply ≡ Some q
        → ◌≡◌ {A = RowReportExit} (record { answer = a; scratch = t; report = w }) (report_rows e)
    refused-report a w q ea ew h =
        (λ j. record { answer = ea j; scratch = blank j; report = ew j })
        ∙ sym (ap (λ (o : Option Refusal). reported_rows o e) h)

    pub done-report : (w : List ℕ)
        → w ≡ filled e.report (row_report (given_circuit e.circuit) (row_steps (given_circuit e.circuit) e.rows e.inputs))
        → reply ≡ None
        → ◌≡◌ {A = RowReportExit} (record { answer = Ok tt; scratch = t; report = w }) (report_rows e)
    done-report w ew h =
        (λ j. record { answer = Ok tt; scratch = blank j; report = ew j })
        ∙ sym (ap (λ (o : Option Refusal). reported_rows o e) h)

  -- a stage after the tables decides
  pub late : reply ≡ first_of (row_report_stage e ∷ []) → (o : Option Refusal) → row_report_stage e ≡ o → reply ≡ first_of (o ∷ [])
  late past o h = past ∙ ap (λ (x : Option Refusal). first_of (x ∷ [])) h
