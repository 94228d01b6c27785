-- What a reader leaves of tables that were cleared before it filled them.
use Prim.Native.Nat.{ℕ}
use mathlib.Core.Path.{◌≡◌, sym, ap, ap₂, ◌∙◌, subst₂}
use mathlib.Core.List.{List}
use Rattle.std.specs.Prelude.{Result, Ok, Err}
use native.Mathlib.Omega.{arith}
use lib.ListN.{length, replicate, length-replicate}
use Rattle.plan.specs.declared.Counts.{Counts}
use Rattle.plan.specs.declared.Version.{Version}
use Rattle.plan.specs.declared.Refusal.{Refusal}
use Rattle.plan.specs.Refusals.{Parse, got, refused}
use Rattle.plan.specs.Circuit.{Circuit, Tables, lengths_of, cleared, all_cleared}
use Rattle.plan.specs.Reading.{read_file}
use Rattle.plan.specs.Outcome.{ReadEntry, load_as, load_by}
use Rattle.laws.proofs.Held.{holds-filled}
use Rattle.read.specs.body.Rest.{LoadedSays}

-- clearing keeps the lengths
pub lengths-cleared : (t : Tables) (scratch : List ℕ) → lengths_of (all_cleared t) (cleared scratch) ≡ lengths_of t scratch
lengths-cleared t scratch = simp length-replicate

-- the outcome by the answer of the filled tables
module _ (v : Version) (e : ReadEntry) (t' : Tables) where
  by-parse : (p : Parse Circuit) (r : Result (Counts × ℕ) Refusal) → LoadedSays (all_cleared e.tables) p r t' → (n : Counts) (start : ℕ) → r ≡ Ok (n, start)
      → record { answer = Ok (n, start); tables = t'; scratch = cleared e.scratch } ≡ load_by e p
  by-parse (got c s) r h n start q =
      ap₂ (λ (x : Result (Counts × ℕ) Refusal) (y : Tables). record { answer = x; tables = y; scratch = cleared e.scratch }) (sym q ∙ h.0) (holds-filled e.tables t' c h.1)
  by-parse (refused k) r h n start q = let z : ◌≡◌ {A = ℕ} 0 1 = cc in absurd (omega arith)

  pub accepted : (r : Result (Counts × ℕ) Refusal) → LoadedSays (all_cleared e.tables) (read_file v e.file (lengths_of (all_cleared e.tables) (cleared e.scratch))) r t'
      → (n : Counts) (start : ℕ) → r ≡ Ok (n, start) → record { answer = Ok (n, start); tables = t'; scratch = cleared e.scratch } ≡ load_as v e
  accepted r h n start q =
      by-parse (read_file v e.file (lengths_of (all_cleared e.tables) (cleared e.scratch))) r h n start q
      ∙ ap (λ (x : List ℕ). load_by e (read_file v e.file x)) (lengths-cleared e.tables e.scratch)

by-refusal : (e : ReadEntry) (t' : Tables) (p : Parse Circuit) (r : Result (Counts × ℕ) Refusal) → LoadedSays (all_cleared e.tables) p r t' → (k : Refusal) → r ≡ Err k
    → record { answer = Err k; tables = all_cleared e.tables; scratch = cleared e.scratch } ≡ load_by e p
by-refusal e t' (got c s) r h k q = let a = h.0 in let z : ◌≡◌ {A = ℕ} 0 1 = cc in absurd (omega arith)
by-refusal e t' (refused j) r h k q =
    let same : k ≡ j = cc in
    ap (λ (x : Refusal). record { answer = Err x; tables = all_cleared e.tables; scratch = cleared e.scratch }) same

pub not-accepted : (v : Version) (e : ReadEntry) (t' : Tables) (r : Result (Counts × ℕ) Refusal)
    → LoadedSays (all_cleared e.tables) (read_file v e.file (lengths_of (all_cleared e.tables) (cleared e.scratch))) r t' → (k : Refusal) → r
    ≡ Err k
    → record { answer = Err k; tables = all_cleared e.tables; scratch = cleared e.scratch } ≡ load_as v e
not-accepted v e t' r h k q =
    by-refusal e t' (read_file v e.file (lengths_of (all_cleared e.tables) (cleared e.scratch))) r h k q
    ∙ ap (λ (x : List ℕ). load_by e (read_file v e.file x)) (lengths-cleared e.tables e.scratch)

-- what clearing leaves goes by the lengths
pub same-cleared : (a b : List ℕ) → length a ≡ length b → cleared a ≡ cleared b
same-cleared a b e = ap (λ (k : ℕ). replicate k 0) e

pub all_same : (t u : Tables) → length t.inputs ≡ length u.inputs → length t.latches ≡ length u.latches
    → length t.outputs ≡ length u.outputs → length t.gates ≡ length u.gates → length t.resets ≡ length u.resets
    → length t.bads ≡ length u.bads → length t.constraints ≡ length u.constraints → all_cleared t ≡ all_cleared u
all_same t u i l o g r b c = λ j. record {
  inputs = same-cleared t.inputs u.inputs i j;
  latches = same-cleared t.latches u.latches l j;
  outputs = same-cleared t.outputs u.outputs o j;
  gates = same-cleared t.gates u.gates g j;
  resets = same-cleared t.resets u.resets r j;
  bads = same-cleared t.bads u.bads b j;
  constraints = same-cleared t.constraints u.constraints c j;
}

-- the whole call: cleared, filled, and cleared again
module _ (v : Version) (e : ReadEntry) (T t' : Tables) (S : List ℕ) (r : Result (Counts × ℕ) Refusal) (T-is : T ≡ all_cleared e.tables) (S-is : S ≡ cleared e.scratch)
    (h : LoadedSays T (read_file v e.file (lengths_of T S)) r t') (scratch : List ℕ) (s-is : scratch ≡ cleared e.scratch) where
  carried : LoadedSays (all_cleared e.tables) (read_file v e.file (lengths_of (all_cleared e.tables) (cleared e.scratch))) r t'
  carried = subst₂ (λ (x : Tables) (y : List ℕ). LoadedSays x (read_file v e.file (lengths_of x y)) r t') T-is S-is h

  pub load-accepted : (n : Counts) (start : ℕ) → r ≡ Ok (n, start) → record { answer = r; tables = t'; scratch = scratch } ≡ load_as v e
  load-accepted n start q = (λ i. record { answer = q i; tables = t'; scratch = s-is i }) ∙ accepted v e t' r carried n start q

  pub load-refused : (k : Refusal) → r ≡ Err k → (x : Tables) → x ≡ all_cleared e.tables
      → record { answer = Err k; tables = x; scratch = scratch } ≡ load_as v e
  load-refused k q x x-is = (λ i. record { answer = Err k; tables = x-is i; scratch = s-is i }) ∙ not-accepted v e t' r carried k q
