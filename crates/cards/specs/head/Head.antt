-- What reading the head of cards answers.
use Rattle.std.specs.Prelude.{Result, Ok, Err, ℕ}
use Rattle.plan.specs.declared.Refusal.{Refusal}
use Rattle.plan.specs.declared.Counts.{Counts}
use Rattle.plan.specs.Refusals.{Parse, got, refused}

-- the counts and the position after the head's record
abbrev pub headed_cards : Parse Counts → Result (Counts × ℕ) Refusal
headed_cards (got n at) = Ok (n, at)
headed_cards (refused r) = Err r
