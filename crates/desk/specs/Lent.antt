-- What C lends to each call, at entry and at exit, so that a contract names its parameters and no moments.
use Rattle.std.specs.Prelude.{ℕ}
use Rattle.plan.specs.Given.{Given}
use Rattle.plan.specs.Outcome.{ReadEntry, FileEntry, MakeEntry, StepEntry, WitnessEntry}
use Rattle.plan.specs.Explain.{ExplainEntry}
use Rattle.plan.specs.Fillings.{FilledEntry}
use Rattle.plan.specs.Report.{ReportEntry}
use Rattle.plan.specs.Rows.{RowsEntry, RowReportEntry}
use Rattle.plan.specs.Rewire.{RewireEntry}
use Rattle.plan.specs.Header.{counts_from}
use Rattle.plan.specs.Outcome.{Says}
use Rattle.plan.specs.Lent.{Slice, MutSlice, Seven, MutSeven, after, to_read, to_check, to_write, to_make, to_step, to_explain, to_try, to_ask}
use Rattle.plan.specs.Lent.{to_report, to_step_rows, to_report_rows, to_rewire}
use Rattle.desk.specs.Told.{ReadTold, CardsTold, CheckTold, FileTold, MakeTold, StepTold, ExplainTold}
use Rattle.desk.specs.Told.{WitnessTold, RewireTold}
use Rattle.desk.specs.Reported.{ReportTold}
use Rattle.desk.specs.RowsTold.{RowsTold, RowReportTold}

-- the two readers
abbrev pub Reads : (ReadEntry → ReadTold) → Slice → MutSeven (MutSlice → MutSlice → ℕ → Type 0)
Reads f file i l o a r b c s answer start =
    Says f (to_read file i l o a r b c s) (record {
      start = start;
      answer = answer.exit.now;
      tables = after i l o a r b c;
      scratch = s.exit.now;
    })

-- cards read
abbrev pub Loads : (ReadEntry → CardsTold) → Slice → MutSeven (MutSlice → MutSlice → Type 0)
Loads f file i l o a r b c s answer =
    Says f (to_read file i l o a r b c s) (record {
      answer = answer.exit.now;
      tables = after i l o a r b c;
      scratch = s.exit.now;
    })

-- the check of given tables
abbrev pub Checks : (Given → CheckTold) → Slice → Seven (MutSlice → MutSlice → Type 0)
Checks f n i l o a r b c s answer =
    Says f (to_check (counts_from n.entry.now) i l o a r b c s)
    (record { answer = answer.exit.now; scratch = s.exit.now })

-- the writers
abbrev pub Writes : (FileEntry → FileTold) → Slice → Seven (MutSlice → Slice → MutSlice → MutSlice → Type 0)
Writes f n i l o a r b c s tail out answer =
    Says f (to_write (counts_from n.entry.now) i l o a r b c s tail out)
    (record { answer = answer.exit.now; scratch = s.exit.now; out = out.exit.now })

-- conversion, reduction and dropping: from given tables to written ones
abbrev pub Makes : (MakeEntry → MakeTold) → Slice → Seven (MutSeven (MutSlice → MutSlice → Type 0))
Makes f n i l o a r b c i' l' o' a' r' b' c' s answer =
    Says f (to_make (counts_from n.entry.now) i l o a r b c i' l' o' a' r' b' c' s)
    (record { answer = answer.exit.now; written = after i' l' o' a' r' b' c'; scratch = s.exit.now })

-- both engines
abbrev pub Steps : (StepEntry → StepTold) → Slice → Seven (MutSlice → MutSlice → Slice → MutSlice → MutSlice → Type 0)
Steps f n i l o a r b c s state ins outs answer =
    Says f (to_step (counts_from n.entry.now) i l o a r b c s state ins outs)
    (record {
      answer = answer.exit.now;
      scratch = s.exit.now;
      state = state.exit.now;
      outputs = outs.exit.now;
    })

-- the explainer
abbrev pub Blames : (ExplainEntry → ExplainTold) → Slice → Seven (MutSlice → Slice → Slice → ℕ → MutSlice → MutSlice → Type 0)
Blames f n i l o a r b c s state ins output marks answer =
    Says f (to_explain (counts_from n.entry.now) i l o a r b c s state ins output marks)
    (record { answer = answer.exit.now; scratch = s.exit.now; marks = marks.exit.now })

-- the witness question by fillings
abbrev pub Tries : (FilledEntry → WitnessTold) → Slice → Seven (MutSlice → ℕ → Slice → ℕ → MutSlice → Type 0)
Tries f n i l o a r b c s number bytes allowance answer =
    Says f (to_try (counts_from n.entry.now) i l o a r b c s number bytes allowance)
    (record { answer = answer.exit.now; scratch = s.exit.now })

-- the witness question in three values
abbrev pub Asks : (WitnessEntry → WitnessTold) → Slice → Seven (MutSlice → ℕ → Slice → MutSlice → Type 0)
Asks f n i l o a r b c s number bytes answer =
    Says f (to_ask (counts_from n.entry.now) i l o a r b c s number bytes)
    (record { answer = answer.exit.now; scratch = s.exit.now })

-- the needle report
abbrev pub Reports : (ReportEntry → ReportTold) → Slice → Seven (MutSlice → ℕ → Slice → MutSlice → MutSlice → Type 0)
Reports f n i l o a r b c s number bytes six answer =
    Says f (to_report (counts_from n.entry.now) i l o a r b c s number bytes six)
    (record { answer = answer.exit.now; scratch = s.exit.now; six = six.exit.now })

-- rows stepped
abbrev pub StepsRows : (RowsEntry → RowsTold) → Slice → Seven (MutSlice → ℕ → MutSlice → Slice → MutSlice → MutSlice → Type 0)
StepsRows f n i l o a r b c s rows nexts ins outs answer =
    Says f (to_step_rows (counts_from n.entry.now) i l o a r b c s rows nexts ins outs)
    (record {
      answer = answer.exit.now;
      scratch = s.exit.now;
      nexts = nexts.exit.now;
      outputs = outs.exit.now;
    })

-- the row report
abbrev pub ReportsRows : (RowReportEntry → RowReportTold) → Slice → Seven (MutSlice → ℕ → Slice → MutSlice → MutSlice → Type 0)
ReportsRows f n i l o a r b c s rows ins report answer =
    Says f (to_report_rows (counts_from n.entry.now) i l o a r b c s rows ins report)
    (record { answer = answer.exit.now; scratch = s.exit.now; report = report.exit.now })

-- one gate rewired
abbrev pub Rewires : (RewireEntry → RewireTold) → Slice → Slice → Slice → Slice → MutSlice → Slice → Slice → Slice → MutSlice → ℕ → ℕ → ℕ → MutSlice → MutSlice → Type 0
Rewires f n i l o a r b c s gate rhs0 rhs1 values answer =
    Says f (to_rewire (counts_from n.entry.now) i l o a r b c s gate rhs0 rhs1 values)
    (record {
      answer = answer.exit.now;
      gates = a.exit.now;
      scratch = s.exit.now;
      values = values.exit.now;
    })
