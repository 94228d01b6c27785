-- What the check of given tables tells: the refusal that is answered, or tables that a step can run on.
use Prim.Native.Nat.{ℕ}
use mathlib.Core.Path.{◌≡◌, refl, sym, ◌∙◌}
use mathlib.Core.Bool.{true}
use mathlib.Core.List.{List, [], ◌∷◌}
use Rattle.std.specs.Prelude.{Result, Ok, Err, Option, Some}
use native.Mathlib.Omega.{arith}
use lib.ListN.{length}
use Rattle.plan.specs.declared.Refusal.{Refusal}
use Rattle.plan.specs.Refusals.{first_of}
use Rattle.plan.specs.Given.{Given, lent_alone}
use Rattle.plan.specs.Outcome.{check_in_order}
use Rattle.judge.specs.Judged.{all_stages}
use Rattle.judge.proofs.Sound.{Good, good_none, good-alone}
use Rattle.step.specs.sweep.Running.{Runs}
use Rattle.step.specs.Asked.{Room}
use Rattle.step.proofs.Beyond as beyond

-- the answer where one stage more comes after 15
module _ (g : Given) (last : Option Refusal) where
  abbrev pub answer : Option Refusal
  answer = beyond.answer g (last ∷ [])

  module _ {a : Result Unit Refusal} (told : a ≡ (check_in_order g).answer) where
    pub refused-by : (r : Refusal) → a ≡ Err r → answer ≡ Some r
    refused-by = beyond.refused-by g (last ∷ []) told

    module _ (q : a ≡ Ok tt) where
      pub past-check : answer ≡ first_of (last ∷ [])
      past-check = beyond.past-check g (last ∷ []) told q

      good : Good true g
      good = good-alone true g (good_none (first_of (all_stages true g (lent_alone g))) (sym q ∙ told))

      pub runs : Runs g.counts g.tables
      runs = record { fits = good.fits; counts = good.counts; formed = good.formed; order = good.order refl }

      pub room : (s : List ℕ) → length s ≡ length g.scratch → Room g.counts g.tables.latches g.tables.outputs g.tables.gates s
      room s count = record {
        others = g.tables;
        runs = record { fits = runs.fits; counts = runs.counts; formed = runs.formed; order = runs.order };
        scratch-long = omega (arith, good.scratch, count);
      }
