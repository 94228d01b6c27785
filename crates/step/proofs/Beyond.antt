-- What the check of given tables tells where more stages come after 15: the refusal that is answered, or what those stages say.
use mathlib.Core.Path.{◌≡◌, sym, ◌∙◌}
use mathlib.Core.Bool.{true}
use mathlib.Core.List.{List, ◌∷◌, ◌++◌}
use Rattle.std.specs.Prelude.{Result, Ok, Err, Option, Some}
use Rattle.plan.specs.declared.Refusal.{Refusal}
use Rattle.plan.specs.Refusals.{first_of}
use Rattle.plan.specs.Given.{Given, lent_alone, stages, order_stage}
use Rattle.plan.specs.Outcome.{check_in_order}
use Rattle.laws.proofs.Writing.Nothing.{some_first, both_first}
use Rattle.judge.specs.Judged.{all_stages}
use Rattle.judge.proofs.Sound.{good_none, refused-some}

module _ (g : Given) (more : List (Option Refusal)) where
  abbrev pub answer : Option Refusal
  answer = first_of (stages g (lent_alone g) ++ (order_stage g ∷ more))

  module _ {a : Result Unit Refusal} (told : a ≡ (check_in_order g).answer) where
    pub refused-by : (r : Refusal) → a ≡ Err r → answer ≡ Some r
    refused-by r q = some_first r (all_stages true g (lent_alone g)) more (refused-some r _ (sym q ∙ told))

    pub past-check : a ≡ Ok tt → answer ≡ first_of more
    past-check q =
        both_first (all_stages true g (lent_alone g)) more (good_none (first_of (all_stages true g (lent_alone g))) (sym q ∙ told))
