-- The literals of a circuit in tables: where each stands, and that its variable is at most M; their values.
use Prim.Native.Nat.{ℕ, zero, suc, ◌+◌, ◌*◌, ◌≤◌, ◌<◌}
use mathlib.Core.Path.{◌≡◌, refl, sym, ap, ap₂, ◌∙◌, subst}
use mathlib.Core.Bool.{true, false}
use mathlib.Core.List.{List, [], ◌∷◌, ◌++◌, map, map-append}
use native.Mathlib.Omega.{arith}
use lib.ListN.{length, get_or, take}
use Rattle.plan.specs.declared.Counts.{Counts}
use Rattle.plan.specs.Literals.{var_of}
use Rattle.plan.specs.Circuit.{Latch, Circuit, Tables, circuit_of, one_line, latch_line, nexts, all_inside}
use Rattle.laws.proofs.Ranges.{first-var, second-var, inside-at}
use Rattle.laws.proofs.Tables.{firsts, latch_at, latches-rows, words_take}
use Rattle.judge.specs.used.Least.{every}
use Rattle.judge.proofs.used.Walked.{one_word}
use Rattle.step.proofs.values.Filling.{map-firsts}
use Rattle.step.specs.sweep.Running.{Runs}

nexts-map : (ls : List Latch) → nexts ls ≡ map (λ (l : Latch). l.next) ls
nexts-map [] = refl
nexts-map (l ∷ ls) = ap (λ (x : List ℕ). l.next ∷ x) (nexts-map ls)

-- two functions that agree at n places
pub firsts-agree : {A B : Type 0} (f g : A → B) (at : ℕ → A) (n : ℕ) → ((i : ℕ) → i < n → f (at i) ≡ g (at i))
    → map f (firsts at n) ≡ map g (firsts at n)
firsts-agree f g at zero h = refl
firsts-agree f g at (suc n) h =
    map-append f (firsts at n) (at n ∷ [])
    ∙ (ap₂ (λ x y. x ++ (y ∷ [])) (firsts-agree f g at n (λ i k. h i (omega arith))) (h n (omega arith))
    ∙ sym (map-append g (firsts at n) (at n ∷ [])))

-- a literal of a table that is observed
pub literal-up : (m : ℕ) (table : List ℕ) (n : ℕ) → n ≤ length table → all_inside false m (map one_line (take n table)) ≡ true
    → (i : ℕ) → i < n → var_of (get_or table i 0) ≤ m
literal-up m table n long ok i h =
    first-var false m (get_or table i 0) []
    (inside-at one_line false m (λ k. get_or table k 0) n
    (subst (λ (ls : List ℕ). all_inside false m (map one_line ls) ≡ true) (words_take table n long) ok)
    i h)

module _ {n : Counts} {x : Tables} (r : Runs n x) where
  abbrev c : Circuit
  c = circuit_of n x

  pub outputs-every : c.outputs ≡ every x.outputs 0 1 n.O
  outputs-every =
      words_take x.outputs n.O r.fits.outputs-long ∙ ap (λ (at : ℕ → ℕ). firsts at n.O) (λ j i. one_word x.outputs i j)

  pub nexts-every : nexts c.latches ≡ every x.latches 1 2 n.L
  nexts-every =
      nexts-map c.latches ∙ (ap (map (λ (l : Latch). l.next)) (latches-rows x.latches n.L) ∙ map-firsts _ (latch_at x.latches) n.L)

  pub output-up : (i : ℕ) → i < n.O → var_of (get_or x.outputs (1 * i + 0) 0) ≤ n.M
  output-up i h =
      subst (λ (l : ℕ). var_of l ≤ n.M) (one_word x.outputs i)
      (literal-up n.M x.outputs n.O r.fits.outputs-long r.formed.outputs i h)

  pub next_up : (i : ℕ) → i < n.L → var_of (get_or x.latches (2 * i + 1) 0) ≤ n.M
  next_up i h =
      second-var true n.M (get_or x.latches (2 * i) 0) (get_or x.latches (2 * i + 1) 0) []
      (inside-at latch_line true n.M (latch_at x.latches) n.L (rw (← latches-rows x.latches n.L) r.formed.latches) i h)
