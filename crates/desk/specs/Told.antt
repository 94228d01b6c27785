-- What C sees of each call: the answer as numbers, and the exit contents of all that is lent.
use Rattle.std.specs.Prelude.{ℕ, List, length, Result, Ok, Err}
use Rattle.plan.specs.declared.Refusal.{Refusal}
use Rattle.plan.specs.declared.Counts.{Counts}
use Rattle.plan.specs.declared.Version.TheVariants.{V2007, V19}
use Rattle.plan.specs.Given.{Given}
use Rattle.plan.specs.Circuit.{Tables}
use Rattle.plan.specs.Outcome.{ReadEntry, LoadExit, FileEntry, FileExit, MakeEntry, MakeExit, StepEntry, StepExit}
use Rattle.plan.specs.Outcome.{WitnessEntry}
use Rattle.plan.specs.Outcome.{loaded_values, checked_values, written_values, made_values, stepped_values, verdict_values}
use Rattle.plan.specs.Outcome.{finding_values}
use Rattle.plan.specs.Outcome as outcome
use Rattle.plan.specs.Drop as drop
use Rattle.plan.specs.Fillings.{FilledEntry}
use Rattle.plan.specs.Fillings as fillings
use Rattle.plan.specs.Explain as blame
use Rattle.plan.specs.Plain as plain
use Rattle.plan.specs.Rewire.{RewireEntry}
use Rattle.plan.specs.Rewire as rewire
use Rattle.plan.specs.Cards as cards

-- both readers: where the tail starts, which after a refusal is the file's end
pub record ReadTold : Type 0 where
  pub start : ℕ
  pub answer : List ℕ
  pub tables : Tables
  pub scratch : List ℕ

abbrev pub start_of : List ℕ → Result (Counts × ℕ) Refusal → ℕ
start_of file (Ok (n, start)) = start
start_of file (Err r) = length file

abbrev pub told_read : ReadEntry → LoadExit → ReadTold
told_read e x = record {
  start = start_of e.file x.answer;
  answer = loaded_values x.answer;
  tables = x.tables;
  scratch = x.scratch;
}

abbrev pub read : ReadEntry → ReadTold
read e = told_read e (outcome.load_as V19 e)

abbrev pub read2007 : ReadEntry → ReadTold
read2007 e = told_read e (outcome.load_as V2007 e)

pub record CheckTold : Type 0 where
  pub answer : List ℕ
  pub scratch : List ℕ

abbrev pub check : Given → CheckTold
check g = let x = outcome.check g in record { answer = checked_values x.answer; scratch = x.scratch }

-- both writers
pub record FileTold : Type 0 where
  pub answer : List ℕ
  pub scratch : List ℕ
  pub out : List ℕ

abbrev pub told_file : FileExit → FileTold
told_file x = record { answer = written_values x.answer; scratch = x.scratch; out = x.out }

abbrev pub write_text : FileEntry → FileTold
write_text e = told_file (outcome.write_text e)

abbrev pub write_binary : FileEntry → FileTold
write_binary e = told_file (outcome.write_binary e)

-- plan cards
abbrev pub write_cards : FileEntry → FileTold
write_cards e = told_file (cards.write_cards e)

pub record CardsTold : Type 0 where
  pub answer : List ℕ
  pub tables : Tables
  pub scratch : List ℕ

abbrev pub read_cards : ReadEntry → CardsTold
read_cards e = let x = cards.load_cards e in record {
  answer = loaded_values x.answer;
  tables = x.tables;
  scratch = x.scratch;
}

-- conversion, reduction and dropping
pub record MakeTold : Type 0 where
  pub answer : List ℕ
  pub written : Tables
  pub scratch : List ℕ

abbrev pub told_made : MakeExit → MakeTold
told_made x = record { answer = made_values x.answer; written = x.written; scratch = x.scratch }

abbrev pub conversion : MakeEntry → MakeTold
conversion e = told_made (outcome.conversion e)

abbrev pub reduction : MakeEntry → MakeTold
reduction e = told_made (outcome.reduction e)

abbrev pub dropping : MakeEntry → MakeTold
dropping e = told_made (drop.dropping e)

-- both engines
pub record StepTold : Type 0 where
  pub answer : List ℕ
  pub scratch : List ℕ
  pub state : List ℕ
  pub outputs : List ℕ

abbrev pub told_step : StepExit → StepTold
told_step x = record { answer = stepped_values x.answer; scratch = x.scratch; state = x.state; outputs = x.outputs }

abbrev pub step : StepEntry → StepTold
step e = told_step (outcome.step e)

abbrev pub step_plain : StepEntry → StepTold
step_plain e = told_step (plain.plain_step e)

-- the explainer
pub record ExplainTold : Type 0 where
  pub answer : List ℕ
  pub scratch : List ℕ
  pub marks : List ℕ

abbrev pub explain : blame.ExplainEntry → ExplainTold
explain e =
    let x = blame.explain e in record { answer = stepped_values x.answer; scratch = x.scratch; marks = x.marks }

-- the witness question
pub record WitnessTold : Type 0 where
  pub answer : List ℕ
  pub scratch : List ℕ

abbrev pub witness : FilledEntry → WitnessTold
witness e = let x = fillings.witness e in record { answer = finding_values x.answer; scratch = x.scratch }

abbrev pub witness3 : WitnessEntry → WitnessTold
witness3 e = let x = outcome.witness3 e in record { answer = verdict_values x.answer; scratch = x.scratch }

-- the rewiring of one gate
pub record RewireTold : Type 0 where
  pub answer : List ℕ
  pub gates : List ℕ
  pub scratch : List ℕ
  pub values : List ℕ

abbrev pub rewiring : RewireEntry → RewireTold
rewiring e =
    let x = rewire.rewiring e in record {
      answer = stepped_values x.answer;
      gates = x.gates;
      scratch = x.scratch;
      values = x.values;
    }
