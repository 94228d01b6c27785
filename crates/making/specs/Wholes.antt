-- What a whole-file call is lent, at entry and at exit, and what is made of a file.
use Rattle.std.specs.Prelude.{◌≡◌, Bool, true, false, List, ℕ, Result}
use Rattle.plan.specs.declared.Refusal.{Refusal}
use Rattle.plan.specs.Refusals.{Parse}
use Rattle.plan.specs.Outcome.{Says}
use Rattle.plan.specs.Lent.{Slice, MutSlice, MutSeven, after}
use Rattle.plan.specs.Whole.{WholeEntry, WholeExit, whole_by, converted_file, reduced_file, dropped_file}
use Rattle.whole.specs.Parts.{told_by}
use Rattle.whole.specs.Lent.{to_whole}

-- the other form, the reduced form, or that without unused gates
abbrev pub made_file : Bool → Bool → WholeEntry → Parse (List ℕ)
made_file false dropped = converted_file
made_file true false = reduced_file
made_file true true = dropped_file

abbrev pub make_whole : Bool → Bool → WholeEntry → WholeExit
make_whole reduced dropped e = whole_by e (made_file reduced dropped e)

abbrev pub MakesWhole : (WholeEntry → WholeExit) → Bool → Slice → MutSeven (MutSeven (MutSlice → MutSlice → Result ℕ Refusal → Type 0))
MakesWhole f readable file i l o a r b c i' l' o' a' r' b' c' s out answer =
    Says f (to_whole readable file i l o a r b c i' l' o' a' r' b' c' s out.entry.now)
    (record {
      answer = answer;
      read = after i l o a r b c;
      made = after i' l' o' a' r' b' c';
      scratch = s.exit.now;
      out = out.exit.now;
    })

-- the answer and the buffer, whatever is left in the tables
abbrev pub TellsFile : (WholeEntry → Parse (List ℕ)) → Bool → Slice → MutSeven (MutSeven (MutSlice → MutSlice → Result ℕ Refusal → Type 0))
TellsFile f readable file i l o a r b c i' l' o' a' r' b' c' s out answer =
    record { answer = answer; out = out.exit.now }
    ≡ told_by out.entry.now (f (to_whole readable file i l o a r b c i' l' o' a' r' b' c' s out.entry.now))
