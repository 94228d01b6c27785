-- What cards can hold of given tables, and the checks before 11.
use Rattle.std.specs.Prelude.{ℕ, Bool, true, ◌&&◌, List, [], ◌∷◌, ◌++◌, eqb, length, take, Option}
use Rattle.plan.specs.declared.Counts.{Counts}
use Rattle.plan.specs.declared.Refusal.{Refusal}
use Rattle.plan.specs.Given.{Given}
use Rattle.write.specs.Judged.{writer_stages}
use Rattle.plan.specs.Cards.{all_zero, card_stage}

-- no tail, resets of 0, no bad states and no constraints
abbrev pub holdable_in : Counts → List ℕ → List ℕ → Bool
holdable_in n resets tail = eqb (length tail) 0 && (all_zero (take n.L resets) && (eqb n.B 0 && eqb n.C 0))

-- 2 to 8, 15, the tail, then 19
abbrev pub card_stages : Given → List ℕ → List (Option Refusal)
card_stages g tail = writer_stages true g tail ++ (card_stage g tail ∷ [])
