-- Many rows at once, computed on a small circuit.
use Prim.Native.Nat.{ℕ}
use mathlib.Core.Path.{◌≡◌, refl}
use mathlib.Core.List.{List, [], ◌∷◌}
use lib.ListN.{replicate}
use Rattle.std.specs.Prelude.{Ok, Err}
use Rattle.plan.specs.declared.Refusal.TheVariants.{ShortTable, BadVector, LongInput}
use Rattle.plan.specs.Circuit.{seven}
use Rattle.plan.specs.Given.{Given}
use Rattle.plan.specs.Programs.{bytes_of}
use Rattle.plan.specs.Rows.{RowsEntry, step_rows, RowReportEntry, report_rows}

-- one input, one latch that starts as x, one gate, the And of both: it is the next state and an output, the negated input another
abbrev small : Given
small = record {
  counts = record { M = 3; I = 1; L = 1; O = 2; A = 1; B = 0; C = 0 };
  tables = seven (2 ∷ []) (4 ∷ 6 ∷ []) (6 ∷ 3 ∷ []) (6 ∷ 4 ∷ 2 ∷ []) (4 ∷ []) [] [];
  scratch = replicate 18 7;
}

abbrev handed : ℕ → ℕ → List ℕ → ℕ → RowsEntry
handed rows nexts ins outs = record { circuit = small; rows = rows; nexts = replicate nexts 7; inputs = ins; outputs = replicate outs 7 }

-- rows 0, 1 and x
pub three-rows : step_rows (handed 3 3 (bytes_of "01x") 6)
    ≡ record { answer = Ok tt; scratch = replicate 18 0; nexts = bytes_of "0xx"; outputs = bytes_of "01x0xx" }
three-rows = refl

pub no_rows : step_rows (handed 0 0 [] 0) ≡ record { answer = Ok tt; scratch = replicate 18 0; nexts = []; outputs = [] }
no_rows = refl

-- 64 rows have lanes, 65 do not; 13 comes before 12, and 12 has the least place
pub all_lanes : (step_rows (handed 64 64 (replicate 64 49) 128)).answer ≡ Ok tt
all_lanes = refl

pub too_many : (step_rows (handed 65 0 [] 0)).answer ≡ Err (LongInput 64)
too_many = refl

pub short-nexts : (step_rows (handed 3 2 (bytes_of "0?") 0)).answer ≡ Err (BadVector 1)
short-nexts = refl

pub wrong-input : (step_rows (handed 3 3 (bytes_of "0?x") 0)).answer ≡ Err (BadVector 2)
wrong-input = refl

pub short-outputs : step_rows (handed 3 3 (bytes_of "01x") 5)
    ≡ record { answer = Err (BadVector 3); scratch = replicate 18 0; nexts = replicate 3 7; outputs = replicate 5 7 }
short-outputs = refl

abbrev asked : ℕ → List ℕ → ℕ → RowReportEntry
asked rows ins words = record { circuit = small; rows = rows; inputs = ins; report = replicate words 7 }

-- the first output is 0 in one row and x in two, the second 0, 1 and x in one each; zero past them
pub report-of-three : report_rows (asked 3 (bytes_of "01x") 8)
    ≡ record { answer = Ok tt; scratch = replicate 18 0; report = 1 ∷ 0 ∷ 2 ∷ 1 ∷ 1 ∷ 1 ∷ 0 ∷ 0 ∷ [] }
report-of-three = refl

pub report-of-none : (report_rows (asked 0 [] 6)).report ≡ replicate 6 0
report-of-none = refl

-- table 6 is judged among the tables, and zero after a refusal
pub short-report : report_rows (asked 65 [] 5) ≡ record { answer = Err (ShortTable 6); scratch = replicate 18 0; report = replicate 5 0 }
short-report = refl

pub report-of-many : report_rows (asked 65 [] 6) ≡ record { answer = Err (LongInput 64); scratch = replicate 18 0; report = replicate 6 0 }
report-of-many = refl

pub report-of-wrong : (report_rows (asked 1 (bytes_of "01") 6)).answer ≡ Err (BadVector 2)
report-of-wrong = refl
