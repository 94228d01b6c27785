-- The parts of the body: lines of next states with their resets, whatever the marks are, and gates.
use Prim.Native.Nat.{ℕ, suc, zero, ◌≤◌}
use mathlib.Core.Path.{◌≡◌, refl, ap, ◌∙◌, subst}
use mathlib.Core.Bool.{false}
use mathlib.Core.List.{List, [], ◌∷◌, ◌++◌, map}
use Rattle.std.specs.Prelude.{Result}
use Rattle.plan.specs.declared.Refusal.{Refusal}
use native.Mathlib.Omega.{arith}
use Rattle.plan.specs.declared.Version.{Version}
use Rattle.plan.specs.declared.Version.TheVariants.{V2007, V19}
use Rattle.plan.specs.Literals.{var_of}
use Rattle.plan.specs.Refusals.{Parse, got, refused, ◌then◌}
use Rattle.plan.specs.Circuit.{Gate, literal_of, flat, latch_line, gate_line}
use Rattle.plan.specs.Bytes.{latch_line_at, latch_lines, reset_after, latch_form}
use Rattle.plan.specs.Header.{more_resets}
use Rattle.plan.specs.Binary.{latches_from}
use Rattle.plan.specs.Outcome.{put}
use Rattle.laws.proofs.Marks.{Agrees}
use Rattle.lines.specs.gates.Gates.{GatesSay}
use Rattle.lines.specs.latches.Latches.{LatchesSay}
use Rattle.lines.proofs.outputs.Answers.{Answered}

-- lines that define nothing do not depend on what was defined before them
latches-using : (file : List ℕ) (k m more n v : ℕ) (s s' : List ℕ) (at : ℕ)
    → latch_lines file (latch_form k false more) m n v s at ≡ latch_lines file (latch_form k false more) m n v s' at
latches-using file k m more zero v s s' at = refl
latches-using file k m more (suc n) v s s' at = λ i.
    latch_line_at file (latch_form k false more) m v s at then λ row next.
    latches-using file k m more n (suc v) (s ++ (var_of (literal_of row) ∷ [])) (s' ++ (var_of (literal_of row) ∷ [])) next i then λ rows last.
    got (row ∷ rows) last

pub few : (v : Version) → more_resets v ≤ 1
few V2007 = omega arith
few V19 = omega arith

-- latches of the variables from v on, their resets, and marks as they were
pub record LatchesHeld (m v : ℕ) (seen table resets table' resets' marks' : List ℕ) (rows : List (List ℕ)) : Type 0 where
  pub held : table' ≡ put table 0 (flat (map latch_line (latches_from v (map literal_of rows))))
  pub kept : resets' ≡ put resets 0 (map (reset_after 1) rows)
  pub agrees : Agrees m seen marks'

pub latches-told : (version : Version) (file : List ℕ) (m more n v at : ℕ) (seen table resets : List ℕ) (r : Result ℕ Refusal) (table' resets' marks' : List ℕ)
    → more ≡ more_resets version
    → LatchesSay false m v seen table resets (latch_lines file (latch_form 1 false more) m n v seen at) r table' resets' marks'
    → Answered (LatchesHeld m v seen table resets table' resets' marks') (latch_lines file (latch_form 1 false (more_resets version)) m n v [] at) r
latches-told version file m more n v at seen table resets r table' resets' marks' e says =
    go (latch_lines file (latch_form 1 false (more_resets version)) m n v [] at)
    (subst (λ (p : Parse (List (List ℕ))). LatchesSay false m v seen table resets p r table' resets' marks')
    (ap (λ (x : ℕ). latch_lines file (latch_form 1 false x) m n v seen at) e ∙ latches-using file 1 m (more_resets version) n v seen [] at) says)
  where
    go : (p : Parse (List (List ℕ))) → LatchesSay false m v seen table resets p r table' resets' marks'
        → Answered (LatchesHeld m v seen table resets table' resets' marks') p r
    go (got rows next) h = (h.0, record { held = h.1; kept = h.2; agrees = h.3 })
    go (refused q) h = h

abbrev pub GatesHeld : List ℕ → List ℕ → List Gate → Type 0
GatesHeld table table' gs = table' ≡ put table 0 (flat (map gate_line gs))

pub gates-told : (table : List ℕ) (p : Parse (List Gate)) (r : Result ℕ Refusal) (table' : List ℕ) → GatesSay table p r table'
    → Answered (GatesHeld table table') p r
gates-told table (got gs next) r table' h = h
gates-told table (refused q) r table' h = h
