-- Rows of four words, one after the other: each at its own place, and a list of rows that grows by its last one.
use Prim.Native.Nat.{ℕ, zero, suc, ◌+◌, ◌*◌, ◌≤◌, ◌<◌}
use mathlib.Core.Path.{◌≡◌, refl, sym, ap, ap₂, ◌∙◌}
use mathlib.Core.List.{List, ◌++◌, append_assoc, append-nil}
use native.Mathlib.Omega.{arith}
use native.Mathlib.Decide.{dec_lt}
use lib.ListN.{length, take, drop, length-append}
use lib.Seq.{drop_at, take_at, drop-drop}
use Rattle.plan.specs.Outcome.{put}
use Rattle.laws.proofs.Put.{put-put, put-there}
use Rattle.plan.specs.Report.{in_turn}

-- the same rows
pub same_turn : (f g : ℕ → List ℕ) (n : ℕ) → ((i : ℕ) → i < n → f i ≡ g i) → in_turn f n ≡ in_turn g n
same_turn f g zero e = refl
same_turn f g (suc n) e = ap₂ ◌++◌ (same_turn f g n (λ i h. e i (omega arith))) (e n (omega arith))

-- the rows of two parts
pub turn-add : (f : ℕ → List ℕ) (a b : ℕ) → in_turn f (a + b) ≡ in_turn f a ++ in_turn (λ i. f (a + i)) b
turn-add f a zero = let none : a + 0 ≡ a = omega arith in ap (in_turn f) none ∙ sym (append-nil (in_turn f a))
turn-add f a (suc b) =
    let one : a + suc b ≡ suc (a + b) = omega arith in
    ap (in_turn f) one ∙ (ap (λ (l : List ℕ). l ++ f (a + b)) (turn-add f a b) ∙ append_assoc (in_turn f a) (in_turn (λ i. f (a + i)) b) (f (a + b)))

module _ (f : ℕ → List ℕ) (four : (i : ℕ) → length (f i) ≡ 4) where
  pub turn-length : (n : ℕ) → length (in_turn f n) ≡ 4 * n
  turn-length zero = refl
  turn-length (suc n) = length-append (in_turn f n) (f n) ∙ omega (arith, turn-length n, four n)

  -- row i
  pub turn-row : (n i : ℕ) (rest : List ℕ) → i < n → take 4 (drop (4 * i) (in_turn f n ++ rest)) ≡ f i
  turn-row zero i rest h = absurd (omega arith)
  turn-row (suc n) i rest h =
      ap (λ (l : List ℕ). take 4 (drop (4 * i) l)) (append_assoc (in_turn f n) (f n) rest) ∙ by_last (dec_lt i n) (turn-row n i (f n ++ rest))
    where
      by_last : Dec (i < n) → (i < n → take 4 (drop (4 * i) (in_turn f n ++ (f n ++ rest))) ≡ f i)
          → take 4 (drop (4 * i) (in_turn f n ++ (f n ++ rest))) ≡ f i
      by_last (yes l) before = before l
      by_last (no l) before =
          let last : n ≡ i = omega arith in
          let size : length (in_turn f n) ≡ 4 * i = omega (arith, turn-length n) in
          ap (take 4) (drop_at (in_turn f n) (f n ++ rest) (4 * i) size) ∙ (take_at (f n) rest 4 (four n) ∙ ap f last)

  -- i rows are put in a table, and the next: all before stay, and what comes after them is as it was
  module _ (six : List ℕ) (at n i : ℕ) (fits : at + 4 * n ≤ length six) (h : i < n) where
    pub next-put : put (put six at (in_turn f i)) (at + 4 * i) (f i) ≡ put six at (in_turn f (i + 1))
    next-put =
        let more : suc i ≡ i + 1 = omega arith in
        let size : length (in_turn f i) ≡ 4 * i = turn-length i in
        ap (λ (k : ℕ). put (put six at (in_turn f i)) (at + k) (f i)) (sym size)
        ∙ (put-put six at (in_turn f i) (f i) (omega (arith, length-append (in_turn f i) (f i), size, four i)) ∙ ap (λ (k : ℕ). put six at (in_turn f k)) more)

    pub rest-stays : drop (at + 4 * i) (put six at (in_turn f i)) ≡ drop (at + 4 * i) six
    rest-stays =
        let size : length (in_turn f i) ≡ 4 * i = turn-length i in
        sym (drop-drop (4 * i) at (put six at (in_turn f i)))
        ∙ (ap (drop (4 * i)) (put-there six at (in_turn f i) (omega arith))
        ∙ (drop_at (in_turn f i) (drop (at + length (in_turn f i)) six) (4 * i) size ∙ ap (λ (k : ℕ). drop (at + k) six) size))
