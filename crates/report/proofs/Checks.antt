-- The answer of all checks, from what was told on the way; and what it says of the tables where nothing is refused.
use Prim.Native.Nat.{ℕ, ◌+◌, ◌*◌, ◌≤◌, ◌<◌}
use mathlib.Core.Path.{◌≡◌, refl, sym, ap, ap₂, ◌∙◌}
use mathlib.Core.Bool.{Bool, true, false}
use mathlib.Core.List.{List, [], ◌∷◌}
use Rattle.std.specs.Prelude.{Result, Ok, Err, Option, None}
use borrow.Author.Tests.{ltb-false, leb-true, le-leb, lt-leb, eqb-true}
use lib.Dec.{eqb, ltb, leb}
use lib.ListN.{length}
use Rattle.plan.specs.declared.Refusal.{Refusal}
use Rattle.plan.specs.declared.Refusal.TheVariants.{LongInput, BadVector}
use Rattle.plan.specs.Refusals.{stage, first_of}
use Rattle.plan.specs.Given.{Given, failing_at}
use Rattle.plan.specs.Outcome.{WitnessEntry, all_codes, list_stage, checked_by, check_in_order}
use Rattle.laws.proofs.Reading.Common.{and_left}
use Rattle.laws.proofs.Writing.Nothing.{stage-none, at_none, first-all, first-both, both_first, some_first}
use Rattle.judge.proofs.Sound.{good_none, refused-some}
use Rattle.step.proofs.codes.Places.{codes_in}
use Rattle.plan.specs.Sixth.{sixth_stages}
use Rattle.judge.specs.table_six.Judged.{with_sixth}
use Rattle.judge.proofs.table_six.Among.{with-sixth, nothing-refused}
use Rattle.plan.specs.Report.{ReportEntry, most_steps, long_stage, report_stages}

module _ (e : ReportEntry) where
  abbrev g : Given
  g = e.circuit

  abbrev needed : ℕ
  needed = 4 * (g.counts.O + g.counts.L)

  abbrev list : WitnessEntry
  list = record { circuit = g; number = e.number; bytes = e.bytes }

  abbrev sixth : List (Option Refusal)
  sixth = sixth_stages g needed e.six

  abbrev later : List (Option Refusal)
  later = long_stage e.number ∷ list_stage list ∷ []

  abbrev whole : Bool
  whole = codes_in e.bytes (e.number * g.counts.I)

  -- the answer with table 6
  module _ {a b : Result Unit Refusal} {short : Bool} (told : a ≡ (check_in_order g).answer) (few : short ≡ ltb (length e.six) needed) (both : b ≡ with_sixth a short) where
    sixth-is : b ≡ checked_by (first_of sixth)
    sixth-is = both ∙ (ap (λ (x : Result Unit Refusal). with_sixth x short) told ∙ with-sixth g needed e.six short few)

    pub refused-first : (r : Refusal) → b ≡ Err r → Err r ≡ checked_by (first_of (report_stages e))
    refused-first r q = sym (ap checked_by (some_first r sixth later (refused-some r (first_of sixth) (sym q ∙ sixth-is))))

    module _ (q : b ≡ Ok tt) where
      past : first_of (report_stages e) ≡ first_of later
      past = both_first sixth later (good_none (first_of sixth) (sym q ∙ sixth-is))

      pub refused-long : most_steps < e.number → Err (LongInput most_steps) ≡ checked_by (first_of (report_stages e))
      refused-long h =
          sym (ap checked_by (past ∙ ap (λ (t : Bool). first_of (stage LongInput (failing_at most_steps t) ∷ list_stage list ∷ []))
          (lt-leb e.number most_steps h)))

      module _ (h : e.number ≤ most_steps) where
        by-list : (t : Bool) → whole ≡ t → first_of (report_stages e) ≡ first_of (None ∷ stage BadVector (failing_at 2 t) ∷ [])
        by-list t w =
            past ∙ ap₂ (λ (s t : Bool). first_of (stage LongInput (failing_at most_steps s) ∷ stage BadVector (failing_at 2 t) ∷ []))
            (le-leb e.number most_steps h) w

        pub refused-list : whole ≡ false → Err (BadVector 2) ≡ checked_by (first_of (report_stages e))
        refused-list w = sym (ap checked_by (by-list false w))

        pub nothing-found : whole ≡ true → Ok tt ≡ checked_by (first_of (report_stages e))
        nothing-found w = sym (ap checked_by (by-list true w))

  -- nothing is refused
  module _ (found : first_of (report_stages e) ≡ None) where
    parts : (first_of sixth ≡ None) × (first_of later ≡ None)
    parts = first-both sixth later found

    six-good : ((check_in_order g).answer ≡ Ok tt) × (ltb (length e.six) needed ≡ false)
    six-good =
        nothing-refused (check_in_order g).answer (ltb (length e.six) needed)
        (with-sixth g needed e.six (ltb (length e.six) needed) refl ∙ ap checked_by parts.0)

    pub tables-good : Ok tt ≡ (check_in_order g).answer
    tables-good = sym six-good.0

    pub six-long : needed ≤ length e.six
    six-long = ltb-false (length e.six) needed six-good.1

    pub steps-few : e.number ≤ most_steps
    steps-few =
        leb-true e.number most_steps
        (at_none most_steps (leb e.number most_steps) (stage-none LongInput (failing_at most_steps (leb e.number most_steps)) (first-all later parts.1).0))

    pub list-whole : length e.bytes ≡ e.number * g.counts.I
    list-whole =
        eqb-true _ _ (and_left (eqb (length e.bytes) (e.number * g.counts.I)) (all_codes e.bytes)
        (at_none 2 whole (stage-none BadVector (failing_at 2 whole) (first-all later parts.1).1.0)))
