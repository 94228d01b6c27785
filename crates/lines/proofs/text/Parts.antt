-- The parts of the body that define: lines of inputs or gates, and lines of latches, read or refused.
use Prim.Native.Nat.{ℕ, ◌≤◌}
use mathlib.Core.Path.{◌≡◌, refl, subst}
use mathlib.Core.Bool.{true}
use mathlib.Core.List.{List, map}
use Rattle.std.specs.Prelude.{Result}
use Rattle.plan.specs.declared.Refusal.{Refusal}
use native.Mathlib.Omega.{arith}
use Rattle.plan.specs.declared.Version.{Version}
use Rattle.plan.specs.declared.Version.TheVariants.{V2007, V19}
use Rattle.plan.specs.Refusals.{Parse, got, refused}
use Rattle.plan.specs.Circuit.{flat, latch_line, latch_of}
use Rattle.plan.specs.Bytes.{lines, latch_lines, reset_after, latch_form}
use Rattle.plan.specs.Header.{more_resets}
use Rattle.plan.specs.Outcome.{put}
use Rattle.laws.proofs.Marks.{Agrees}
use Rattle.laws.proofs.Reading.Lines.{lines-took}
use Rattle.laws.proofs.Reading.Rows.{Long, rows_long}
use Rattle.lines.specs.Rows.{seen_after, LinesSay}
use Rattle.lines.specs.latches.Latches.{LatchesSay}
use Rattle.lines.proofs.outputs.Answers.{Answered}

-- lines of k literals from the start of their table, and marks of what they define
pub record RowsHeld (k m : ℕ) (seen table table' marks' : List ℕ) (rows : List (List ℕ)) : Type 0 where
  pub long : Long k rows
  pub held : table' ≡ put table 0 (flat rows)
  pub agrees : Agrees m (seen_after true seen rows) marks'

pub rows_told : (file : List ℕ) (k m n at : ℕ) (seen table : List ℕ) (r : Result ℕ Refusal) (table' marks' : List ℕ)
    → LinesSay true m seen table (lines file k true m n seen at) r table' marks'
    → Answered (RowsHeld k m seen table table' marks') (lines file k true m n seen at) r
rows_told file k m n at seen table r table' marks' says = go (lines file k true m n seen at) refl says
  where
    go : (p : Parse (List (List ℕ))) → lines file k true m n seen at ≡ p → LinesSay true m seen table p r table' marks'
        → Answered (RowsHeld k m seen table table' marks') p r
    go (got rows next) e h =
        (h.0, record { long = rows_long k true m seen rows (lines-took file k true m n seen at rows next e).2; held = h.1; agrees = h.2 })
    go (refused q) e h = h

pub few : (v : Version) → more_resets v ≤ 1
few V2007 = omega arith
few V19 = omega arith

-- the same of latches
pub record LatchesHeld (m : ℕ) (seen table resets table' resets' marks' : List ℕ) (rows : List (List ℕ)) : Type 0 where
  pub held : table' ≡ put table 0 (flat (map latch_line (map latch_of rows)))
  pub kept : resets' ≡ put resets 0 (map (reset_after 2) rows)
  pub agrees : Agrees m (seen_after true seen rows) marks'

pub latches-told : (v : Version) (file : List ℕ) (m more n at : ℕ) (seen table resets : List ℕ) (r : Result ℕ Refusal) (table' resets' marks' : List ℕ)
    → more ≡ more_resets v
    → LatchesSay true m 0 seen table resets (latch_lines file (latch_form 2 true more) m n 0 seen at) r table' resets' marks'
    → Answered (LatchesHeld m seen table resets table' resets' marks') (latch_lines file (latch_form 2 true (more_resets v)) m n 0 seen at) r
latches-told v file m more n at seen table resets r table' resets' marks' e says =
    go (latch_lines file (latch_form 2 true (more_resets v)) m n 0 seen at)
    (subst (λ (x : ℕ). LatchesSay true m 0 seen table resets (latch_lines file (latch_form 2 true x) m n 0 seen at) r table' resets' marks') e says)
  where
    go : (p : Parse (List (List ℕ))) → LatchesSay true m 0 seen table resets p r table' resets' marks'
        → Answered (LatchesHeld m seen table resets table' resets' marks') p r
    go (got rows next) h = (h.0, record { held = h.1; kept = h.2; agrees = h.3 })
    go (refused q) h = h
