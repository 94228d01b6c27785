-- One needle more: the rows before it are done, and its own is as it was.
use Prim.Native.Nat.{ℕ, ◌+◌, ◌*◌, ◌/◌, ◌≤◌, ◌<◌}
use mathlib.Core.Path.{◌≡◌, refl, sym, ap, ◌∙◌}
use mathlib.Core.List.{List}
use native.Mathlib.Omega.{arith}
use lib.ListN.{length, get_or, take, drop, set}
use lib.Seq.{get_or-drop}
use Rattle.plan.specs.Outcome.{put}
use Rattle.plan.specs.Report.{in_turn}
use Rattle.report.specs.needles.Tally.{counted, counted_all, finished, finished_all, row_from, Counts1, CountsAll}
use Rattle.report.proofs.needles.Rows.{next-put, rest-stays}
use Rattle.report.proofs.needles.Counting.{finished-put}

module _ (f : ℕ → List ℕ) (four : (i : ℕ) → length (f i) ≡ 4) (at n : ℕ) (six₀ : List ℕ) (fits : at + 4 * n ≤ length six₀) (i : ℕ) (six : List ℕ)
    (h : i < n) (r : six ≡ put six₀ at (in_turn f i)) where
  left : drop (at + 4 * i) six ≡ drop (at + 4 * i) six₀
  left = ap (drop (at + 4 * i)) r ∙ rest-stays f four six₀ at n i fits h

  pub own_row : take 4 (drop (at + 4 * i) six) ≡ row_from six₀ at i
  own_row = ap (take 4) left

  pub own-word : (j : ℕ) → get_or six (at + 4 * i + j) 0 ≡ get_or six₀ (at + (4 * i + j)) 0
  own-word j =
      let sum : at + 4 * i + j ≡ at + (4 * i + j) = omega arith in
      sym (get_or-drop (at + 4 * i) six j 0) ∙ (ap (λ (l : List ℕ). get_or l j 0) left
      ∙ (get_or-drop (at + 4 * i) six₀ j 0 ∙ ap (λ (k : ℕ). get_or six₀ k 0) sum))

  pub rowed-more : (six' : List ℕ) → six' ≡ put six (at + 4 * i) (f i) → six' ≡ put six₀ at (in_turn f (i + 1))
  rowed-more six' e = e ∙ (ap (λ (l : List ℕ). put l (at + 4 * i) (f i)) r ∙ next-put f four six₀ at n i fits h)

module _ {t : List ℕ} {from n at : ℕ} {six₀ : List ℕ} (p : CountsAll t from n at six₀) {i : ℕ} {six : List ℕ} (h : i < n)
    (long : length six ≡ length six₀) (r : six ≡ put six₀ at (counted_all t from i at six₀)) where
  abbrev f : ℕ → List ℕ
  f i = counted (row_from six₀ at i) (get_or t (from + i) 0)

  pub asks : Counts1 (get_or t (from + i) 0) (at + 4 * i) six
  asks = record {
    inside = omega (arith, p.rows_inside);
    some = p.some i h;
    coded = p.coded i h;
    few = λ j k. omega (arith, own-word f (λ i. refl) at n six₀ p.rows_inside i six h r j, p.few i j h k);
  }

  pub counts-more : (six' : List ℕ) → six' ≡ put six (at + 4 * i) (counted (take 4 (drop (at + 4 * i) six)) (get_or t (from + i) 0))
      → six' ≡ put six₀ at (counted_all t from (i + 1) at six₀)
  counts-more six' e =
      rowed-more f (λ i. refl) at n six₀ p.rows_inside i six h r six'
      (e ∙ ap (λ (q : List ℕ). put six (at + 4 * i) (counted q (get_or t (from + i) 0))) (own_row f (λ i. refl) at n six₀ p.rows_inside i six h r))

pub finish-more : (n : ℕ) (six₀ : List ℕ) → 4 * n ≤ length six₀ → (i : ℕ) (six : List ℕ) → i < n → length six ≡ length six₀
    → six ≡ put six₀ 0 (finished_all i six₀)
    → set six (4 * i + 3) (get_or six (4 * i + 3) 0 / 4) ≡ put six₀ 0 (finished_all (i + 1) six₀)
finish-more n six₀ fits i six h long r =
    let place : 4 * i + 3 ≡ 0 + 4 * i + 3 = omega arith in
    ap (λ (k : ℕ). set six k (get_or six k 0 / 4)) place
    ∙ rowed-more g (λ k. refl) 0 n six₀ (omega arith) i six h r _
    (finished-put six (0 + 4 * i) (omega arith)
    ∙ ap (λ (q : List ℕ). put six (0 + 4 * i) (finished q)) (own_row g (λ k. refl) 0 n six₀ (omega arith) i six h r))
  where
    g : ℕ → List ℕ
    g k = finished (row_from six₀ 0 k)
