-- Over the calls: a read accepts exactly what its version states and the tables have room for, and then leaves just that; and the reader of 2007
-- refuses, or answers and leaves all that the reader of 1.9 does.
use Prim.Native.Nat.{ℕ, ◌≤◌}
use mathlib.Core.Path.{◌≡◌, refl, sym, ap, ◌∙◌}
use mathlib.Core.Logic.{◌↔◌, ◌⊎◌, inl, inr}
use mathlib.Core.List.{List, ◌∷◌}
use Rattle.std.specs.Prelude.{Err}
use native.Mathlib.Omega.{arith}
use lib.ListN.{length, get_or, drop, length-drop}
use Rattle.plan.specs.declared.Version.{Version}
use Rattle.plan.specs.declared.Version.TheVariants.{V2007, V19}
use Rattle.plan.specs.declared.Refusal.{Refusal}
use Rattle.plan.specs.declared.Refusal.TheVariants as refusal
use Rattle.plan.specs.Refusals.{Parse, got, refused, number_of}
use Rattle.plan.specs.Circuit.{Circuit, counts_of, lengths_of, holding, cleared}
use Rattle.plan.specs.Header.{list_of}
use Rattle.plan.specs.Reading.{read_file, States, LongEnoughToRead}
use Rattle.plan.specs.Outcome.{ReadEntry, LoadExit, ReadExit, loaded_values, tail_of, load_by, load_as, read_as, read, read2007}
use Rattle.laws.proofs.Reading.Differences.{Bytes}
use Rattle.laws.proofs.Reading.Exactly.{sound, complete}
use Rattle.laws.proofs.Reading.Versions.{states-more}
use Rattle.laws.proofs.Reading.Places.{start-within}
use Rattle.laws.proofs.Writing.Written.{read-accepts}

-- two positions of a file at which the same is left
same_start : (file : List ℕ) (s t : ℕ) → s ≤ length file → t ≤ length file → drop s file ≡ drop t file → s ≡ t
same_start file s t h k e = omega (arith, length-drop s file, length-drop t file, ap length e)

module _ (e : ReadEntry) (bytes : Bytes e.file) where
  abbrev lengths : List ℕ
  lengths = lengths_of e.tables e.scratch

  -- what the parse of 2007 gives, that of 1.9 gives
  same-parse : (c : Circuit) (start : ℕ) → read_file V2007 e.file lengths ≡ got c start → read_file V19 e.file lengths ≡ got c start
  same-parse c start q =
      let s = sound V2007 e.file lengths bytes c start q in
      let a = complete V19 e.file lengths c (drop start e.file) (states-more e.file c (drop start e.file) s.0) s.1 in
      let at : a.0 ≡ start
      = same_start e.file a.0 start (start-within e.file V19 lengths c a.0 a.1) (start-within e.file V2007 lengths c start q) a.2 in
      a.1 ∙ ap (got c) at

  pub old-load : ((r : Refusal) × ((load_as V2007 e).answer ≡ Err r)) ⊎ (load_as V2007 e ≡ load_as V19 e)
  old-load = go (read_file V2007 e.file lengths) refl
    where
      go : (p : Parse Circuit) → read_file V2007 e.file lengths ≡ p
          → ((r : Refusal) × ((load_as V2007 e).answer ≡ Err r)) ⊎ (load_as V2007 e ≡ load_as V19 e)
      go (got c start) q = inr (ap (load_by e) (q ∙ sym (same-parse c start q)))
      go (refused r) q = inl (r, ap (λ (p : Parse Circuit). (load_by e p).answer) q)

  -- the same of the calls that answer in numbers
  abbrev answered : LoadExit → ReadExit
  answered x = record { answer = loaded_values x.answer; tail = tail_of e.file x.answer; tables = x.tables; scratch = x.scratch }

  pub old-read : ((r : Refusal) × ((read2007 e).answer ≡ loaded_values (Err r))) ⊎ (read2007 e ≡ read e)
  old-read = go old-load
    where
      go : ((r : Refusal) × ((load_as V2007 e).answer ≡ Err r)) ⊎ (load_as V2007 e ≡ load_as V19 e)
          → ((r : Refusal) × ((read2007 e).answer ≡ loaded_values (Err r))) ⊎ (read2007 e ≡ read e)
      go (inl h) = inl (h.0, ap loaded_values h.1)
      go (inr h) = inr (ap answered h)

-- no refusal has the number 0
pub refusal-number : (r : Refusal) → ¬ (number_of r ≡ 0)
refusal-number (refusal.WrongByte place) e = omega (arith, e)
refusal-number (refusal.LargeCount place) e = omega (arith, e)
refusal-number (refusal.WrongSum place) e = omega (arith, e)
refusal-number (refusal.ShortTable place) e = omega (arith, e)
refusal-number (refusal.OutOfRange place) e = omega (arith, e)
refusal-number (refusal.DefinedTwice place) e = omega (arith, e)
refusal-number (refusal.NotDefined place) e = omega (arith, e)
refusal-number (refusal.Cyclic place) e = omega (arith, e)
refusal-number (refusal.BadDifference place) e = omega (arith, e)
refusal-number (refusal.BadSymbol place) e = omega (arith, e)
refusal-number (refusal.ShortBuffer place) e = omega (arith, e)
refusal-number (refusal.BadVector place) e = omega (arith, e)
refusal-number (refusal.LongInput place) e = omega (arith, e)
refusal-number (refusal.Unreadable place) e = omega (arith, e)
refusal-number (refusal.NotInOrder place) e = omega (arith, e)
refusal-number (refusal.LongDifference place) e = omega (arith, e)
refusal-number (refusal.NotExplained place) e = omega (arith, e)
refusal-number (refusal.WrongMark place) e = omega (arith, e)
refusal-number (refusal.NotOnCards place) e = omega (arith, e)
refusal-number (refusal.ManyX place) e = omega (arith, e)
refusal-number (refusal.Justice place) e = omega (arith, e)
refusal-number (refusal.NoGate place) e = omega (arith, e)
refusal-number (refusal.WrongValue place) e = omega (arith, e)
refusal-number (refusal.ManyGates place) e = omega (arith, e)
refusal-number (refusal.ManyLatches place) e = omega (arith, e)
refusal-number (refusal.ManyInputs place) e = omega (arith, e)
refusal-number (refusal.NotAlike place) e = omega (arith, e)

-- what a read leaves of a circuit and a tail
abbrev pub read_answer : ReadEntry → Circuit → List ℕ → ReadExit
read_answer e c tail = record { answer = 0 ∷ 0 ∷ list_of (counts_of c); tail = tail; tables = holding e.tables c; scratch = cleared e.scratch }

-- the circuit and the tail are stated, and the tables have room to read them
abbrev pub Readable : Version → ReadEntry → Circuit → List ℕ → Type 0
Readable v e c tail = States v e.file c tail × LongEnoughToRead e.file c (lengths_of e.tables e.scratch)

module _ (v : Version) (e : ReadEntry) (bytes : Bytes e.file) where
  abbrev lent : List ℕ
  lent = lengths_of e.tables e.scratch

  readable : (p : Parse Circuit) → read_file v e.file lent ≡ p → get_or (loaded_values (load_by e p).answer) 0 0 ≡ 0
      → (c : Circuit) × (tail : List ℕ) × Readable v e c tail
  readable (got c start) q h = (c, drop start e.file, sound v e.file lent bytes c start q)
  readable (refused r) q h = absurd (refusal-number r h)

  -- the answer's number is 0 exactly if some circuit and tail are stated and have room; the answer, the tail and the tables are then those
  pub reads-exactly : ((get_or (read_as v e).answer 0 0 ≡ 0) ↔ ((c : Circuit) × (tail : List ℕ) × Readable v e c tail))
      × ((c : Circuit) (tail : List ℕ) → Readable v e c tail → read_as v e ≡ read_answer e c tail)
  reads-exactly =
      let then-reads : (c : Circuit) (tail : List ℕ) → Readable v e c tail → read_as v e ≡ read_answer e c tail
      = λ c tail s. read-accepts v e c tail (complete v e.file lent c tail s.0 s.1) in
      ((λ h. readable (read_file v e.file lent) refl h, λ s. ap (λ (x : ReadExit). get_or x.answer 0 0) (then-reads s.0 s.1 s.2)), then-reads)
