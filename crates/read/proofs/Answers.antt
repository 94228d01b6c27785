-- A reader's answer and tail, by what was loaded.
use Prim.Native.Nat.{ℕ, ◌-◌, ◌≤◌}
use mathlib.Core.Path.{◌≡◌, sym, ap, ◌∙◌}
use mathlib.Core.List.{List, []}
use Rattle.std.specs.Prelude.{Ok}
use native.Mathlib.Omega.{arith}
use borrow.Rule.Slice.PartMut.{mid_of}
use lib.ListN.{length, drop, length-drop}
use lib.Seq.{drop-length, take_all}
use Rattle.plan.specs.declared.Counts.{Counts}
use Rattle.plan.specs.declared.Version.{Version}
use Rattle.plan.specs.Refusals.{Parse, got, refused}
use Rattle.plan.specs.Circuit.{Circuit, lengths_of, counts_of}
use Rattle.plan.specs.Reading.{read_file}
use Rattle.plan.specs.Outcome.{ReadEntry, LoadExit, load_as, load_by, read_as, loaded_values, tail_of}
use Rattle.laws.proofs.Pairs.{ok-pair}
use Rattle.laws.proofs.Reading.Places.{start-within}

-- the part from a position on is the rest of the list
pub part-from : (start : ℕ) (l : List ℕ) → mid_of start (length l - start) l ≡ drop start l
part-from start l = take_all (length l - start) (drop start l) (omega (arith, length-drop start l))

pub part_none : (l : List ℕ) → mid_of (length l) (length l - length l) l ≡ []
part_none l = part-from (length l) l ∙ drop-length l

module _ (v : Version) (e : ReadEntry) (x : LoadExit) (said : x ≡ load_as v e) where
  by-parse : (p : Parse Circuit) (n : Counts) (start : ℕ) → (load_by e p).answer ≡ Ok (n, start) → (c : Circuit) × (p ≡ got c start)
  by-parse (got c s) n start q = (c, ap (got c) (ok-pair (counts_of c) n s start q).1)
  by-parse (refused r) n start q = let z : ◌≡◌ {A = ℕ} 0 1 = cc in absurd (omega arith)

  -- the tail starts in the file
  pub starts-within : (n : Counts) (start : ℕ) → x.answer ≡ Ok (n, start) → start ≤ length e.file
  starts-within n start q =
      let p = by-parse (read_file v e.file (lengths_of e.tables e.scratch)) n start (ap (λ (y : LoadExit). y.answer) (sym said) ∙ q) in
      start-within e.file v (lengths_of e.tables e.scratch) p.0 start p.1

  pub read_by : (answer tail : List ℕ) → answer ≡ loaded_values x.answer → tail ≡ tail_of e.file x.answer
      → record { answer = answer; tail = tail; tables = x.tables; scratch = x.scratch } ≡ read_as v e
  read_by answer tail a t = (λ i. record { answer = a i; tail = t i; tables = x.tables; scratch = x.scratch })
      ∙ ap (λ (y : LoadExit). record { answer = loaded_values y.answer; tail = tail_of e.file y.answer; tables = y.tables; scratch = y.scratch }) said
