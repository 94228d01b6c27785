-- What the reader of cards leaves of tables that were cleared before it filled them.
use Prim.Native.Nat.{ℕ}
use mathlib.Core.Path.{◌≡◌, sym, ap, ap₂, ◌∙◌, subst}
use mathlib.Core.List.{List}
use Rattle.std.specs.Prelude.{Result, Ok, Err}
use native.Mathlib.Omega.{arith}
use lib.ListN.{length, replicate, length-replicate}
use Rattle.plan.specs.declared.Counts.{Counts}
use Rattle.plan.specs.declared.Refusal.{Refusal}
use Rattle.plan.specs.Refusals.{Parse, got, refused}
use Rattle.plan.specs.Circuit.{Circuit, Tables, lengths_of, cleared, all_cleared}
use Rattle.plan.specs.Outcome.{ReadEntry, load_by}
use Rattle.laws.proofs.Held.{holds-filled}
use Rattle.tables.specs.Lengths.{lengths_in, sizes_of}
use Rattle.read.specs.body.Rest.{LoadedSays}
use Rattle.plan.specs.Cards.{read_cards, load_cards}

-- a table that was cleared is zero throughout
pub stays-cleared : (table x : List ℕ) → x ≡ cleared table → x ≡ cleared x
stays-cleared table x e =
    let size : length x ≡ length table = ap length e ∙ length-replicate {A = ℕ} (length table) 0 in
    e ∙ ap (λ (k : ℕ). replicate k 0) (sym size)

module _ (e : ReadEntry) (t' : Tables) (r : Result (Counts × ℕ) Refusal) where
  accepted : (p : Parse Circuit) → LoadedSays (all_cleared e.tables) p r t' → (n : Counts) (start : ℕ) → r ≡ Ok (n, start)
      → record { answer = r; tables = t'; scratch = cleared e.scratch } ≡ load_by e p
  accepted (got c s) h n start q =
      ap₂ (λ (x : Result (Counts × ℕ) Refusal) (y : Tables). record { answer = x; tables = y; scratch = cleared e.scratch }) h.0 (holds-filled e.tables t' c h.1)
  accepted (refused k) h n start q = let z : ◌≡◌ {A = ℕ} 0 1 = cc in absurd (omega arith)

  not-accepted : (p : Parse Circuit) → LoadedSays (all_cleared e.tables) p r t' → (k : Refusal) → r ≡ Err k
      → record { answer = Err k; tables = all_cleared e.tables; scratch = cleared e.scratch } ≡ load_by e p
  not-accepted (got c s) h k q = let a = h.0 in let z : ◌≡◌ {A = ℕ} 0 1 = cc in absurd (omega arith)
  not-accepted (refused j) h k q =
      let same : k ≡ j = cc in
      ap (λ (x : Refusal). record { answer = Err x; tables = all_cleared e.tables; scratch = cleared e.scratch }) same

  -- the whole call: cleared, filled, and cleared again
  module _ (T : Tables) (words : ℕ) (T-is : T ≡ all_cleared e.tables) (words_are : words ≡ length e.scratch)
      (h : LoadedSays T (read_cards e.file (lengths_in (sizes_of T) words)) r t') (scratch : List ℕ) (s-is : scratch ≡ cleared e.scratch) where
    lens : lengths_in (sizes_of (all_cleared e.tables)) (length e.scratch) ≡ lengths_of e.tables e.scratch
    lens = simp length-replicate

    carried : LoadedSays (all_cleared e.tables) (read_cards e.file (lengths_of e.tables e.scratch)) r t'
    carried =
        subst (λ (x : List ℕ). LoadedSays (all_cleared e.tables) (read_cards e.file x) r t')
        (ap (lengths_in (sizes_of (all_cleared e.tables))) words_are ∙ lens)
        (subst (λ (x : Tables). LoadedSays x (read_cards e.file (lengths_in (sizes_of x) words)) r t') T-is h)

    pub load-accepted : (n : Counts) (start : ℕ) → r ≡ Ok (n, start) → record { answer = r; tables = t'; scratch = scratch } ≡ load_cards e
    load-accepted n start q =
        (λ i. record { answer = r; tables = t'; scratch = s-is i })
        ∙ accepted (read_cards e.file (lengths_of e.tables e.scratch)) carried n start q

    pub load-refused : (k : Refusal) → r ≡ Err k → (x : Tables) → x ≡ all_cleared e.tables
        → record { answer = Err k; tables = x; scratch = scratch } ≡ load_cards e
    load-refused k q x x-is =
        (λ i. record { answer = Err k; tables = x-is i; scratch = s-is i })
        ∙ not-accepted (read_cards e.file (lengths_of e.tables e.scratch)) carried k q
