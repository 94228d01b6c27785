-- Where a tail starts, by its length.
use Prim.Native.Nat.{ℕ, ◌-◌, ◌≤◌}
use mathlib.Core.Path.{◌≡◌, refl, ap, ◌∙◌}
use mathlib.Core.List.{List}
use Rattle.std.specs.Prelude.{Result, Ok, Err}
use Rattle.plan.specs.declared.Refusal.{Refusal}
use Rattle.plan.specs.declared.Counts.{Counts}
use native.Mathlib.Omega.{arith}
use lib.ListN.{length, length-drop}
use Rattle.plan.specs.declared.Version.{Version}
use Rattle.plan.specs.Refusals.{Parse, got, refused}
use Rattle.plan.specs.Circuit.{Circuit, lengths_of}
use Rattle.plan.specs.Reading.{read_file}
use Rattle.plan.specs.Outcome.{ReadEntry, ReadExit, load_by, load_as, read_as, tail_of}
use Rattle.laws.proofs.Reading.Places.{start-within}
use Rattle.desk.specs.Told.{ReadTold, start_of, told_read}

shorter : (file : List ℕ) (r : Result (Counts × ℕ) Refusal) → length (tail_of file r) ≤ length file
shorter file (Ok (n, start)) = omega (arith, length-drop start file)
shorter file (Err r) = omega arith

module _ (v : Version) (e : ReadEntry) (x : ReadExit) (said : x ≡ read_as v e) where
  abbrev lengths : List ℕ
  lengths = lengths_of e.tables e.scratch

  tail-is : x.tail ≡ tail_of e.file (load_as v e).answer
  tail-is = ap (λ (y : ReadExit). y.tail) said

  pub tail-shorter : length x.tail ≤ length e.file
  tail-shorter = omega (arith, ap length tail-is, shorter e.file (load_as v e).answer)

  by_length : (p : Parse Circuit) → read_file v e.file lengths ≡ p
      → length e.file - length (tail_of e.file (load_by e p).answer) ≡ start_of e.file (load_by e p).answer
  by_length (got c start) q = omega (arith, length-drop start e.file, start-within e.file v lengths c start q)
  by_length (refused r) q = omega arith

  pub tail-starts : ◌≡◌ {A = ReadTold}
      (record { start = length e.file - length x.tail; answer = x.answer; tables = x.tables; scratch = x.scratch })
      (told_read e (load_as v e))
  tail-starts =
      let here : length e.file - length x.tail ≡ start_of e.file (load_as v e).answer
      = ap (λ (t : List ℕ). length e.file - length t) tail-is ∙ by_length (read_file v e.file lengths) refl in
      λ i. record { start = here i; answer = (said i).answer; tables = (said i).tables; scratch = (said i).scratch }
