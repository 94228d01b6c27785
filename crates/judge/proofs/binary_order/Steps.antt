-- One row more of a table, where its rows run on or its gates fall.
use Prim.Native.Nat.{ℕ, suc, ◌+◌, ◌*◌, ◌-◌, ◌<◌}
use mathlib.Core.Path.{◌≡◌, refl, sym, ap, ap₂, ◌∙◌}
use mathlib.Core.Bool.{Bool, true, false, not, ◌&&◌}
use mathlib.Core.List.{List, map}
use native.Mathlib.Omega.{arith}
use borrow.Author.Tests.{not-true, not-false}
use lib.Dec.{eqb, leb, ltb}
use lib.ListN.{get_or, take, drop}
use lib.Seq.{get_or-take, get_or-drop, drop-drop}
use Rattle.plan.specs.Literals.{lit_of}
use Rattle.plan.specs.Circuit.{gate_of, rows_of}
use Rattle.plan.specs.Binary.{runs, falls}
use Rattle.laws.proofs.Tables.{next_row}

-- a test that is part of the whole answer: where it fails the answer is false, where it passes the rest answers
module _ (result test rest whole : Bool) (parts : whole ≡ (test && rest)) (same : result ≡ test) where
  pub test-fails : not result ≡ true → false ≡ whole
  test-fails h = sym (parts ∙ ap (λ (b : Bool). b && rest) (sym same ∙ not-true result h))

  pub test-passes : not result ≡ false → whole ≡ rest
  test-passes h = parts ∙ ap (λ (b : Bool). b && rest) (sym same ∙ not-false result h)

-- word j of the row that starts at a position
word_at : (k : ℕ) (t : List ℕ) (at j : ℕ) → j < k → get_or (take k (drop at t)) j 0 ≡ get_or t (at + j) 0
word_at k t at j h = get_or-take k (drop at t) j 0 h ∙ get_or-drop at t j 0

-- what is left of n rows after i of them has a first row
left_one : (n i : ℕ) → i < n → n - i ≡ suc (n - (i + 1))
left_one n i h = omega arith

-- the rows left after i run on
abbrev pub runs_left : List ℕ → ℕ → ℕ → ℕ → ℕ → Bool
runs_left table stride first n i = runs (first + i) (rows_of stride (n - i) (drop (stride * i) table))

pub runs-turn : (table : List ℕ) (stride first n i : ℕ) → 0 < stride → i < n
    → runs_left table stride first n i
    ≡ (eqb (get_or table (stride * i) 0) (lit_of (first + i)) && runs_left table stride first n (i + 1))
runs-turn table stride first n i h k =
    let at = stride * i in
    let here : at + 0 ≡ at = omega arith in
    let next : suc (first + i) ≡ first + (i + 1) = omega arith in
    ap (λ (left : ℕ). runs (first + i) (rows_of stride left (drop at table))) (left_one n i k)
    ∙ ap₂ (λ (w : ℕ) (t : List ℕ). eqb w (lit_of (first + i)) && runs (suc (first + i)) (rows_of stride (n - (i + 1)) t))
    (word_at stride table at 0 h ∙ ap (λ (p : ℕ). get_or table p 0) here)
    (drop-drop stride at table ∙ ap (λ (p : ℕ). drop p table) (next_row stride i at refl))
    ∙ ap (λ (u : ℕ). eqb (get_or table at 0) (lit_of (first + i)) && runs u (rows_of stride (n - (i + 1)) (drop (stride * (i + 1)) table))) next

-- the gates left after i fall
abbrev pub falls_left : List ℕ → ℕ → ℕ → Bool
falls_left gates n i = falls (map gate_of (rows_of 3 (n - i) (drop (3 * i) gates)))

abbrev pub gate_test : ℕ → ℕ → ℕ → Bool
gate_test lhs rhs0 rhs1 = ltb rhs0 lhs && leb rhs1 rhs0

and_assoc : (a b d : Bool) → (a && (b && d)) ≡ ((a && b) && d)
and_assoc true b d = refl
and_assoc false b d = refl

pub falls-turn : (gates : List ℕ) (n i : ℕ) → i < n
    → falls_left gates n i
    ≡ (gate_test (get_or gates (3 * i) 0) (get_or gates (3 * i + 1) 0) (get_or gates (3 * i + 2) 0) && falls_left gates n (i + 1))
falls-turn gates n i k =
    let at = 3 * i in
    let first : at + 0 ≡ at = omega arith in
    let row = take 3 (drop at gates) in
    let rest : Bool = falls_left gates n (i + 1) in
    ap (λ (left : ℕ). falls (map gate_of (rows_of 3 left (drop at gates)))) (left_one n i k)
    ∙ and_assoc (ltb (get_or row 1 0) (get_or row 0 0)) (leb (get_or row 2 0) (get_or row 1 0)) _
    ∙ ap (λ (t : List ℕ). gate_test (get_or row 0 0) (get_or row 1 0) (get_or row 2 0) && falls (map gate_of (rows_of 3 (n - (i + 1)) t)))
    (drop-drop 3 at gates ∙ ap (λ (p : ℕ). drop p gates) (next_row 3 i at refl))
    ∙ ap₂ (λ (x y : ℕ). gate_test x y (get_or row 2 0) && rest)
    (word_at 3 gates at 0 (omega arith) ∙ ap (λ (p : ℕ). get_or gates p 0) first) (word_at 3 gates at 1 (omega arith))
    ∙ ap (λ (z : ℕ). gate_test (get_or gates at 0) (get_or gates (at + 1) 0) z && rest) (word_at 3 gates at 2 (omega arith))

-- the gates left after i run on, and fall
abbrev pub order_left : List ℕ → ℕ → ℕ → ℕ → Bool
order_left gates first n i = runs_left gates 3 first n i && falls_left gates n i

regroup : (a b c d : Bool) → ((a && c) && (b && d)) ≡ ((a && b) && (c && d))
regroup false b c d = refl
regroup true true c d = refl
regroup true false true d = refl
regroup true false false d = refl

pub order-turn : (gates : List ℕ) (first n i : ℕ) → i < n
    → order_left gates first n i
    ≡ ((eqb (get_or gates (3 * i) 0) (lit_of (first + i))
    && gate_test (get_or gates (3 * i) 0) (get_or gates (3 * i + 1) 0) (get_or gates (3 * i + 2) 0))
    && order_left gates first n (i + 1))
order-turn gates first n i k =
    ap₂ (λ (x y : Bool). x && y) (runs-turn gates 3 first n i (omega arith) k) (falls-turn gates n i k)
    ∙ regroup (eqb (get_or gates (3 * i) 0) (lit_of (first + i)))
    (gate_test (get_or gates (3 * i) 0) (get_or gates (3 * i + 1) 0) (get_or gates (3 * i + 2) 0))
    (runs_left gates 3 first n (i + 1)) (falls_left gates n (i + 1))
