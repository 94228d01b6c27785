-- Both engines over a part of a run: what each leaves, and whether it is the same.
use Rattle.std.specs.Prelude.{ℕ, Bool, true, false, ◌&&◌, List, [], ◌∷◌, eqb, Option, Some, None, Result, Ok, Err}
use Rattle.plan.specs.declared.Refusal.{Refusal}
use Rattle.plan.specs.Outcome.{refusal_values, traced_values}
use Rattle.plan.specs.Whole.{TraceEntry, TraceExit, trace}
use Rattle.plan.specs.Plain.{plain_trace}

abbrev pub same_bytes : List ℕ → List ℕ → Bool
same_bytes [] [] = true
same_bytes [] (b ∷ m) = false
same_bytes (a ∷ l) [] = false
same_bytes (a ∷ l) (b ∷ m) = eqb a b && same_bytes l m

-- as many lines, or the same refusal
abbrev pub same_answer : Result ℕ Refusal → Result ℕ Refusal → Bool
same_answer a b = same_bytes (traced_values a) (traced_values b)

abbrev pub agree : TraceExit → TraceExit → Bool
agree a b = same_answer a.answer b.answer && (same_bytes a.state b.state && same_bytes a.out b.out)

-- a part of a run, and for the plain engine a state and a buffer of its own
pub record CompareEntry : Type 0 where
  pub part : TraceEntry
  pub twin : List ℕ
  pub again : List ℕ

pub record CompareExit : Type 0 where
  pub answer : Result (Option ℕ) Refusal
  pub scratch : List ℕ
  pub state : List ℕ
  pub out : List ℕ
  pub twin : List ℕ
  pub again : List ℕ

-- the answer as numbers: 1 if both engines leave the same and 0 if they part, and how many lines
abbrev pub compared_values : Result (Option ℕ) Refusal → List ℕ
compared_values (Ok (Some k)) = 0 ∷ 0 ∷ 1 ∷ k ∷ []
compared_values (Ok None) = 0 ∷ 0 ∷ 0 ∷ 0 ∷ []
compared_values (Err r) = refusal_values r (0 ∷ 0 ∷ [])

-- the number of lines where both engines leave the same, none where they part, or the refusal
abbrev pub compared_by : Bool → Result ℕ Refusal → Result (Option ℕ) Refusal
compared_by true (Ok k) = Ok (Some k)
compared_by true (Err r) = Err r
compared_by false t = Ok None

abbrev pub both : TraceExit → TraceExit → CompareExit
both a b = record {
  answer = compared_by (agree a b) a.answer;
  scratch = b.scratch;
  state = a.state;
  out = a.out;
  twin = b.state;
  again = b.out;
}

-- the plain engine's call, after the stepper's
abbrev pub twin_of : CompareEntry → List ℕ → TraceEntry
twin_of e scratch = record {
  circuit = record { counts = e.part.circuit.counts; tables = e.part.circuit.tables; scratch = scratch };
  state = e.twin;
  vectors = e.part.vectors;
  out = e.again;
}

abbrev pub compare : CompareEntry → CompareExit
compare e = let a = trace e.part in both a (plain_trace (twin_of e a.scratch))
