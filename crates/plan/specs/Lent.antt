-- What a call is lent, at entry and at exit, so that a contract names its parameters and no moments.
use Rattle.std.specs.Prelude.{ℕ, List, Result, Bool}
use Rattle.std.specs.Borrow.{Bor, MutBor}
use Rattle.plan.specs.declared.Refusal.{Refusal}
use denote.Triple.Both.{Both}
use Rattle.plan.specs.declared.Counts.{Counts}
use Rattle.plan.specs.Circuit.{Tables, seven}
use Rattle.plan.specs.Given.{Given}
use Rattle.plan.specs.Outcome.{ReadEntry, FileEntry, MakeEntry, StepEntry, WitnessEntry}
use Rattle.plan.specs.Explain.{ExplainEntry}
use Rattle.plan.specs.Fillings.{FilledEntry}
use Rattle.plan.specs.Report.{ReportEntry}
use Rattle.plan.specs.Rows.{RowsEntry, RowReportEntry}
use Rattle.plan.specs.Rewire.{RewireEntry}
use Rattle.plan.specs.Search.{SearchEntry}
use Rattle.plan.specs.declared.Finding.{Finding}
use Rattle.plan.specs.declared.Happening.{Happening}
use Rattle.plan.specs.Outcome.{Says, LoadExit, CheckExit, FileExit, MakeExit, StepExit, WitnessExit}
use Rattle.plan.specs.Explain.{ExplainExit}
use Rattle.plan.specs.Fillings.{FilledExit}
use Rattle.plan.specs.Report.{ReportExit}
use Rattle.plan.specs.Rows.{RowsExit, RowReportExit}
use Rattle.plan.specs.Rewire.{RewireExit}
use Rattle.plan.specs.Search.{SearchExit}

-- a slice or an array that is lent to be read, or to be written, at entry and at exit
abbrev pub Slice : Type 0
Slice = Both (Bor (List ℕ)) (Bor (List ℕ))

abbrev pub MutSlice : Type 0
MutSlice = Both (MutBor (List ℕ)) (MutBor (List ℕ))

-- the seven tables of a circuit, lent to be read, or to be written
abbrev pub Seven {ℓ} : Type ℓ → Type ℓ
Seven T = Slice → Slice → Slice → Slice → Slice → Slice → Slice → T

abbrev pub MutSeven {ℓ} : Type ℓ → Type ℓ
MutSeven T = MutSlice → MutSlice → MutSlice → MutSlice → MutSlice → MutSlice → MutSlice → T

abbrev pub given : Seven Tables
given i l o a r b c = seven i.entry.now l.entry.now o.entry.now a.entry.now r.entry.now b.entry.now c.entry.now

abbrev pub before : MutSeven Tables
before i l o a r b c = seven i.entry.now l.entry.now o.entry.now a.entry.now r.entry.now b.entry.now c.entry.now

abbrev pub after : MutSeven Tables
after i l o a r b c = seven i.exit.now l.exit.now o.exit.now a.exit.now r.exit.now b.exit.now c.exit.now

-- what each call is handed
abbrev pub to_read : Slice → MutSeven (MutSlice → ReadEntry)
to_read file i l o a r b c s =
    record { file = file.entry.now; tables = before i l o a r b c; scratch = s.entry.now }

abbrev pub to_check : Counts → Seven (MutSlice → Given)
to_check n i l o a r b c s =
    record { counts = n; tables = given i l o a r b c; scratch = s.entry.now }

abbrev pub to_write : Counts → Seven (MutSlice → Slice → MutSlice → FileEntry)
to_write n i l o a r b c s tail out =
    record { circuit = to_check n i l o a r b c s; tail = tail.entry.now; out = out.entry.now }

abbrev pub to_make : Counts → Seven (MutSeven (MutSlice → MakeEntry))
to_make n i l o a r b c i' l' o' a' r' b' c' s =
    record { circuit = to_check n i l o a r b c s; written = before i' l' o' a' r' b' c' }

abbrev pub to_step : Counts → Seven (MutSlice → MutSlice → Slice → MutSlice → StepEntry)
to_step n i l o a r b c s state ins outs =
    record { circuit = to_check n i l o a r b c s; state = state.entry.now; inputs = ins.entry.now; outputs = outs.entry.now }

abbrev pub to_explain : Counts → Seven (MutSlice → Slice → Slice → ℕ → MutSlice → ExplainEntry)
to_explain n i l o a r b c s state ins output marks =
    record { circuit = to_check n i l o a r b c s; state = state.entry.now; inputs = ins.entry.now; output = output; marks = marks.entry.now }

abbrev pub to_try : Counts → Seven (MutSlice → ℕ → Slice → ℕ → FilledEntry)
to_try n i l o a r b c s number bytes allowance =
    record { list = record { circuit = to_check n i l o a r b c s; number = number; bytes = bytes.entry.now }; allowance = allowance }

abbrev pub to_ask : Counts → Seven (MutSlice → ℕ → Slice → WitnessEntry)
to_ask n i l o a r b c s number bytes =
    record { circuit = to_check n i l o a r b c s; number = number; bytes = bytes.entry.now }

abbrev pub to_report : Counts → Seven (MutSlice → ℕ → Slice → MutSlice → ReportEntry)
to_report n i l o a r b c s number bytes six =
    record { circuit = to_check n i l o a r b c s; number = number; bytes = bytes.entry.now; six = six.entry.now }

abbrev pub to_step_rows : Counts → Seven (MutSlice → ℕ → MutSlice → Slice → MutSlice → RowsEntry)
to_step_rows n i l o a r b c s rows nexts ins outs =
    record { circuit = to_check n i l o a r b c s; rows = rows; nexts = nexts.entry.now; inputs = ins.entry.now; outputs = outs.entry.now }

abbrev pub to_report_rows : Counts → Seven (MutSlice → ℕ → Slice → MutSlice → RowReportEntry)
to_report_rows n i l o a r b c s rows ins report =
    record { circuit = to_check n i l o a r b c s; rows = rows; inputs = ins.entry.now; report = report.entry.now }

abbrev pub to_rewire : Counts → Slice → Slice → Slice → MutSlice → Slice → Slice → Slice → MutSlice → ℕ → ℕ → ℕ → MutSlice → RewireEntry
to_rewire n i l o a r b c s gate rhs0 rhs1 values = record {
  circuit = record {
    counts = n;
    tables = seven i.entry.now l.entry.now o.entry.now a.entry.now r.entry.now b.entry.now c.entry.now;
    scratch = s.entry.now;
  };
  gate = gate;
  rhs0 = rhs0;
  rhs1 = rhs1;
  values = values.entry.now;
}

abbrev pub to_search : Counts → Seven (MutSlice → ℕ → ℕ → ℕ → MutSlice → MutSlice → MutSlice → SearchEntry)
to_search n i l o a r b c s split watch allowance met marks out = record {
  circuit = to_check n i l o a r b c s;
  split = split;
  watch = watch;
  allowance = allowance;
  met = met.entry.now;
  marks = marks.entry.now;
  out = out.entry.now;
}

-- cards read
abbrev pub Loads : (ReadEntry → LoadExit) → Slice → MutSeven (MutSlice → Result (Counts × ℕ) Refusal → Type 0)
Loads f file i l o a r b c s answer =
    Says f (to_read file i l o a r b c s) (record { answer = answer; tables = after i l o a r b c; scratch = s.exit.now })

-- the check of given tables
abbrev pub Checks : (Given → CheckExit) → Counts → Seven (MutSlice → Result Unit Refusal → Type 0)
Checks f n i l o a r b c s answer =
    Says f (to_check n i l o a r b c s) (record { answer = answer; scratch = s.exit.now })

-- the writers
abbrev pub Writes : (FileEntry → FileExit) → Counts → Seven (MutSlice → Slice → MutSlice → Result ℕ Refusal → Type 0)
Writes f n i l o a r b c s tail out answer =
    Says f (to_write n i l o a r b c s tail out) (record { answer = answer; scratch = s.exit.now; out = out.exit.now })

-- conversion, reduction and dropping: from given tables to written ones
abbrev pub Makes : (MakeEntry → MakeExit) → Counts → Seven (MutSeven (MutSlice → Result Counts Refusal → Type 0))
Makes f n i l o a r b c i' l' o' a' r' b' c' s answer =
    Says f (to_make n i l o a r b c i' l' o' a' r' b' c' s) (record { answer = answer; written = after i' l' o' a' r' b' c'; scratch = s.exit.now })

-- both engines
abbrev pub Steps : (StepEntry → StepExit) → Counts → Seven (MutSlice → MutSlice → Slice → MutSlice → Result Unit Refusal → Type 0)
Steps f n i l o a r b c s state ins outs answer =
    Says f (to_step n i l o a r b c s state ins outs) (record { answer = answer; scratch = s.exit.now; state = state.exit.now; outputs = outs.exit.now })

-- the explainer
abbrev pub Blames : (ExplainEntry → ExplainExit) → Counts → Seven (MutSlice → Slice → Slice → ℕ → MutSlice → Result Unit Refusal → Type 0)
Blames f n i l o a r b c s state ins output marks answer =
    Says f (to_explain n i l o a r b c s state ins output marks) (record { answer = answer; scratch = s.exit.now; marks = marks.exit.now })

-- the witness question by fillings
abbrev pub Tries : (FilledEntry → FilledExit) → Counts → Seven (MutSlice → ℕ → Slice → ℕ → Result Finding Refusal → Type 0)
Tries f n i l o a r b c s number bytes allowance answer =
    Says f (to_try n i l o a r b c s number bytes allowance) (record { answer = answer; scratch = s.exit.now })

-- the witness question in three values
abbrev pub Asks : (WitnessEntry → WitnessExit) → Counts → Seven (MutSlice → ℕ → Slice → Result Bool Refusal → Type 0)
Asks f n i l o a r b c s number bytes answer =
    Says f (to_ask n i l o a r b c s number bytes) (record { answer = answer; scratch = s.exit.now })

-- the needle report
abbrev pub Reports : (ReportEntry → ReportExit) → Counts → Seven (MutSlice → ℕ → Slice → MutSlice → Result Unit Refusal → Type 0)
Reports f n i l o a r b c s number bytes six answer =
    Says f (to_report n i l o a r b c s number bytes six) (record { answer = answer; scratch = s.exit.now; six = six.exit.now })

-- rows stepped
abbrev pub StepsRows : (RowsEntry → RowsExit) → Counts → Seven (MutSlice → ℕ → MutSlice → Slice → MutSlice → Result Unit Refusal → Type 0)
StepsRows f n i l o a r b c s rows nexts ins outs answer =
    Says f (to_step_rows n i l o a r b c s rows nexts ins outs) (record { answer = answer; scratch = s.exit.now; nexts = nexts.exit.now; outputs = outs.exit.now })

-- the row report
abbrev pub ReportsRows : (RowReportEntry → RowReportExit) → Counts → Seven (MutSlice → ℕ → Slice → MutSlice → Result Unit Refusal → Type 0)
ReportsRows f n i l o a r b c s rows ins report answer =
    Says f (to_report_rows n i l o a r b c s rows ins report) (record { answer = answer; scratch = s.exit.now; report = report.exit.now })

-- one gate rewired
abbrev pub Rewires : (RewireEntry → RewireExit) → Counts → Slice → Slice → Slice → MutSlice → Slice → Slice → Slice → MutSlice → ℕ → ℕ → ℕ → MutSlice → Result Unit Refusal → Type 0
Rewires f n i l o a r b c s gate rhs0 rhs1 values answer =
    Says f (to_rewire n i l o a r b c s gate rhs0 rhs1 values) (record { answer = answer; gates = a.exit.now; scratch = s.exit.now; values = values.exit.now })

-- the search
abbrev pub Searches : (SearchEntry → SearchExit) → Counts → Seven (MutSlice → ℕ → ℕ → ℕ → MutSlice → MutSlice → MutSlice → Result Happening Refusal → Type 0)
Searches f n i l o a r b c s split watch allowance met marks out answer =
    Says f (to_search n i l o a r b c s split watch allowance met marks out)
    (record { answer = answer; scratch = s.exit.now; met = met.exit.now; marks = marks.exit.now; out = out.exit.now })
