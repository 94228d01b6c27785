-- What the calls on whole files are lent, at entry and at exit, so that a contract names its parameters and no moments.
use Rattle.std.specs.Prelude.{ℕ, ◌≡◌, Bool, List, [], Result}
use Rattle.plan.specs.declared.Refusal.{Refusal}
use Rattle.plan.specs.declared.Counts.{Counts}
use Rattle.plan.specs.Refusals.{Parse}
use Rattle.plan.specs.Outcome.{Says, MakeExit, WriteExit}
use Rattle.plan.specs.Whole.{WholeEntry, input_of, open_whole}
use Rattle.plan.specs.Cards.{CardEntry, CardExit}
use Rattle.plan.specs.Lent.{Slice, MutSlice, MutSeven, before, after}
use Rattle.tables.specs.declared.Sizes.{Sizes}
use Rattle.whole.specs.Opening.{OpenEntry, Opens}
use Rattle.whole.specs.Parts.{told_by}
use Rattle.whole.specs.ordered.Leaving.{left_by}

-- what each call is handed
abbrev pub to_open : Bool → Slice → MutSeven (MutSlice → Sizes → OpenEntry)
to_open readable file i l o a r b c s made = record {
  readable = readable;
  file = file.entry.now;
  tables = before i l o a r b c;
  scratch = s.entry.now;
  made = made;
}

abbrev pub to_whole : Bool → Slice → MutSeven (MutSeven (MutSlice → List ℕ → WholeEntry))
to_whole readable file i l o a r b c i' l' o' a' r' b' c' s out = record {
  plan = input_of readable file.entry.now;
  read = before i l o a r b c;
  made = before i' l' o' a' r' b' c';
  scratch = s.entry.now;
  out = out;
}

abbrev pub to_move : Bool → Slice → MutSeven (MutSlice → MutSlice → CardEntry)
to_move readable file i l o a r b c s out = record {
  plan = input_of readable file.entry.now;
  tables = before i l o a r b c;
  scratch = s.entry.now;
  out = out.entry.now;
}

-- a file opened
abbrev pub OpensFile : Bool → Slice → MutSeven (MutSlice → Sizes → Result (Counts × ℕ) Refusal → Type 0)
OpensFile readable file i l o a r b c s made answer =
    Opens (to_open readable file i l o a r b c s made) answer (after i l o a r b c) s.exit.now

-- a file opened and converted
abbrev pub OpensWhole : Bool → Slice → MutSeven (MutSeven (MutSlice → Result Counts Refusal → Type 0))
OpensWhole readable file i l o a r b c i' l' o' a' r' b' c' s answer =
    Says open_whole (to_whole readable file i l o a r b c i' l' o' a' r' b' c' s [])
    (record {
      answer = answer;
      read = after i l o a r b c;
      made = after i' l' o' a' r' b' c';
      scratch = s.exit.now;
    })

-- the same but for the tables it was read into
abbrev pub OpensMade : Bool → Slice → MutSeven (MutSeven (MutSlice → Result Counts Refusal → Type 0))
OpensMade readable file i l o a r b c i' l' o' a' r' b' c' s answer =
    ◌≡◌ {A = MakeExit}
    (record { answer = answer; written = after i' l' o' a' r' b' c'; scratch = s.exit.now })
    (left_by (open_whole (to_whole readable file i l o a r b c i' l' o' a' r' b' c' s [])))

-- plan cards to a file, or a file to plan cards
abbrev pub Moves : (CardEntry → CardExit) → Bool → Slice → MutSeven (MutSlice → MutSlice → Result ℕ Refusal → Type 0)
Moves f readable file i l o a r b c s out answer =
    Says f (to_move readable file i l o a r b c s out)
    (record { answer = answer; tables = after i l o a r b c; scratch = s.exit.now; out = out.exit.now })

-- the answer and the buffer, whatever is left in the tables
abbrev pub TellsMove : (CardEntry → Parse (List ℕ)) → Bool → Slice → MutSeven (MutSlice → MutSlice → Result ℕ Refusal → Type 0)
TellsMove f readable file i l o a r b c s out answer =
    ◌≡◌ {A = WriteExit} (record { answer = answer; out = out.exit.now })
    (told_by out.entry.now (f (to_move readable file i l o a r b c s out)))
