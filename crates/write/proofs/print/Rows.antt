-- Rows that a loop takes from a table one after the other.
use Prim.Native.Nat.{ℕ, ◌+◌, ◌-◌, ◌*◌, ◌<◌, ◌≤◌}
use mathlib.Core.Path.{◌≡◌, sym, ap, subst, ◌∙◌}
use mathlib.Core.List.{List, ◌++◌}
use native.Mathlib.Nat.{mul-suc}
use native.Mathlib.Numerals.{add-one}
use native.Mathlib.Omega.{arith}
use lib.ListN.{length, get_or, take, drop, length-append, length-drop, get_or-append}
use lib.Seq.{get_or-take, get_or-drop, length-take-le, drop-drop, drop_at}
use denote.Ref.{Bor}
use Rattle.std.specs.declared.option.Option.{Option}
use Rattle.std.specs.declared.option.Option.TheVariants.{None, Some}
use Rattle.std.specs.declared.slice.ChunksExact.{ChunksExact}
use Rattle.std.specs.Slice.Iter.{chunks_exact_rest, chunks_exact_size, chunks_exact_steps}

-- what is left after i of n rows of s words
abbrev pub rows_left : List ℕ → ℕ → ℕ → ℕ → List ℕ
rows_left t s n i = drop (s * i) (take (s * n) t)

pub length-rows_left : (t : List ℕ) (s n i : ℕ) → s * n ≤ length t → length (rows_left t s n i) ≡ s * n - s * i
length-rows_left t s n i long = omega (arith, length-drop (s * i) (take (s * n) t), length-take-le (s * n) t long)

-- an iterator over chunks has come to row i
pub record AtRow (t : List ℕ) (s n : ℕ) (it : ChunksExact ℕ) (i : ℕ) : Type 0 where
  pub size : chunks_exact_size it ≡ s
  pub rest : chunks_exact_rest it ≡ rows_left t s n i

-- row i, which it takes
pub record Row (t : List ℕ) (s n i : ℕ) (row : List ℕ) (it : ChunksExact ℕ) : Type 0 where
  pub fits : s * i + s ≤ s * n
  pub word : (j : ℕ) → j < s → get_or row j 0 ≡ get_or t (s * i + j) 0
  pub next : (k : ℕ) → k ≡ i + 1 → AtRow t s n it k

module _ (t : List ℕ) (s n i : ℕ) (long : s * n ≤ length t) (some : 0 < s) (it it' : ChunksExact ℕ) (p : AtRow t s n it i)
    (r : Option (Bor (List ℕ))) (row : Bor (List ℕ)) (is : r ≡ Some row) (steps : chunks_exact_steps it r it') where
  step : chunks_exact_steps it (Some row) it'
  step = subst (λ (o : Option (Bor (List ℕ))). chunks_exact_steps it o it') is steps

  size : length row.now ≡ s
  size = step.1.1 ∙ p.size

  cut : rows_left t s n i ≡ row.now ++ chunks_exact_rest it'
  cut = sym p.rest ∙ step.1.0

  room : s * i + s ≤ s * n
  room = omega (arith, length-rows_left t s n i long, ap length cut, length-append row.now (chunks_exact_rest it'), size)

  pub row_taken : Row t s n i row.now it'
  row_taken = record {
    fits = room;
    word = λ j h.
        sym (get_or-append row.now (chunks_exact_rest it') 0 j (omega (arith, size)))
        ∙ (ap (λ (l : List ℕ). get_or l j 0) (sym cut)
        ∙ (get_or-drop (s * i) (take (s * n) t) j 0 ∙ get_or-take (s * n) t (s * i + j) 0 (omega (arith, room))));
    next = λ k k-is. record {
      size = step.0 ∙ p.size;
      rest =
          (let place : s * i + s ≡ s * k = sym (ap (λ (k : ℕ). s * k) (k-is ∙ add-one i) ∙ mul-suc s i) in
          sym (drop_at row.now (chunks_exact_rest it') s size)
          ∙ (ap (drop s) (sym cut) ∙ (drop-drop s (s * i) (take (s * n) t) ∙ ap (λ (k : ℕ). drop k (take (s * n) t)) place)));
    };
  }

-- no row is left
pub rows_end : (t : List ℕ) (s n i : ℕ) → s * n ≤ length t → (it it' : ChunksExact ℕ) → AtRow t s n it i
    → (r : Option (Bor (List ℕ))) → r ≡ None → chunks_exact_steps it r it' → s * n < s * i + s
rows_end t s n i long it it' p r is steps =
    let step : chunks_exact_steps it None it' = subst (λ (o : Option (Bor (List ℕ))). chunks_exact_steps it o it') is steps in
    omega (arith, step.1.0, p.size, ap length p.rest, length-rows_left t s n i long)
