-- For the code: lines in the form "the whole answer is the answer from here on", and numbers that are cut at a limit.
use Prim.Native.Nat.{ℕ, suc, zero, ◌+◌, ◌*◌, ◌%◌, ◌<◌, ◌≤◌, min}
use mathlib.Core.Path.{◌≡◌, refl, sym, ap, ap₂, ◌∙◌}
use mathlib.Core.Bool.{Bool, true, false, ◌||◌, and-false}
use mathlib.Core.List.{List, [], ◌∷◌, ◌++◌, append-nil}
use native.Mathlib.Omega.{arith}
use native.Mathlib.Decide.{dec_le}
use borrow.Author.Tests.{lt-leb, ne_eqb}
use lib.Dec.{eqb, leb}
use lib.Seq.{append_snoc}
use Rattle.plan.specs.declared.Refusal.{Refusal}
use Rattle.plan.specs.Refusals.{Parse, got, refused, ◌then◌}
use Rattle.plan.specs.Literals.{most, beyond, var_of, in_range, is_reset}
use Rattle.plan.specs.Circuit.{literal_of}
use Rattle.plan.specs.Bytes.{number, expect, end_of, Placed, goes_on, numbers, line, lines, latch_line_at, latch_lines, latch_form}

-- the rows that are read, before the rest
abbrev pub on_rows : List (List ℕ) → Parse (List (List ℕ)) → Parse (List (List ℕ))
on_rows rows p = p then λ more e. got (rows ++ more) e

on_one : (rows : List (List ℕ)) (row : List ℕ) (p : Parse (List (List ℕ)))
    → on_rows rows (p then λ more e. got (row ∷ more) e) ≡ on_rows (rows ++ (row ∷ [])) p
on_one rows row (got more e) = ap (λ (x : List (List ℕ)). got x e) (sym (append_snoc rows row more))
on_one rows row (refused r) = refl

module _ (file : List ℕ) (k : ℕ) (d : Bool) (m : ℕ) where
  pub lines-turn : (rows : List (List ℕ)) (n : ℕ) (seen : List ℕ) (at : ℕ) (row : List ℕ) (next : ℕ)
      → line file k d m seen at ≡ got row next
      → on_rows rows (lines file k d m (suc n) seen at) ≡ on_rows (rows ++ (row ∷ [])) (lines file k d m n (seen ++ (var_of (literal_of row) ∷ [])) next)
  lines-turn rows n seen at row next e = rw e (on_one rows row (lines file k d m n (seen ++ (var_of (literal_of row) ∷ [])) next))

  pub lines-stop : (rows : List (List ℕ)) (n : ℕ) (seen : List ℕ) (at : ℕ) (r : Refusal) → line file k d m seen at ≡ refused r
      → on_rows rows (lines file k d m (suc n) seen at) ≡ refused r
  lines-stop rows n seen at r e = rw e

  pub lines-done : (rows : List (List ℕ)) (seen : List ℕ) (at : ℕ) → on_rows rows (lines file k d m zero seen at) ≡ got rows at
  lines-done rows seen at = ap (λ (x : List (List ℕ)). got x at) (append-nil rows)

-- the same of lines of latches
module _ (file : List ℕ) (k : ℕ) (d : Bool) (m more : ℕ) where
  pub latches-turn : (rows : List (List ℕ)) (n v : ℕ) (seen : List ℕ) (at : ℕ) (row : List ℕ) (next : ℕ)
      → latch_line_at file (latch_form k d more) m v seen at ≡ got row next
      → on_rows rows (latch_lines file (latch_form k d more) m (suc n) v seen at)
      ≡ on_rows (rows ++ (row ∷ [])) (latch_lines file (latch_form k d more) m n (suc v) (seen ++ (var_of (literal_of row) ∷ [])) next)
  latches-turn rows n v seen at row next e =
      rw e (on_one rows row (latch_lines file (latch_form k d more) m n (suc v) (seen ++ (var_of (literal_of row) ∷ [])) next))

  pub latches-stop : (rows : List (List ℕ)) (n v : ℕ) (seen : List ℕ) (at : ℕ) (r : Refusal) → latch_line_at file (latch_form k d more) m v seen at ≡ refused r
      → on_rows rows (latch_lines file (latch_form k d more) m (suc n) v seen at) ≡ refused r
  latches-stop rows n v seen at r e = rw e

  pub latches-done : (rows : List (List ℕ)) (v : ℕ) (seen : List ℕ) (at : ℕ) → on_rows rows (latch_lines file (latch_form k d more) m zero v seen at) ≡ got rows at
  latches-done rows v seen at = ap (λ (x : List (List ℕ)). got x at) (append-nil rows)

-- a line of exactly k + 1 numbers: the first, then a space or, after the last, the new line, then the others
pub numbers-exactly : (file : List ℕ) (k at : ℕ) → numbers file (suc k) (suc k) at
    ≡ (number file at then λ n end. expect file (end_of k) end then λ _ next. numbers file k k next then λ ns last.
    got (record { value = n; place = at } ∷ ns) last)
numbers-exactly file k at = go (number file at)
  where
    last-number : (n : ℕ) (p : Parse ℕ) → ◌≡◌ {A = Parse (List Placed)}
        ((p then λ _ next. got false next) then λ b next. elim b [ true ↦ numbers file zero zero next | false ↦ got [] next ] then λ ns last.
        got (record { value = n; place = at } ∷ ns) last)
        (p then λ _ next. numbers file zero zero next then λ ns last. got (record { value = n; place = at } ∷ ns) last)
    last-number n (got x next) = refl
    last-number n (refused r) = refl

    other-number : (n j : ℕ) (p : Parse ℕ) → ◌≡◌ {A = Parse (List Placed)}
        ((p then λ _ next. got true next) then λ b next. elim b [ true ↦ numbers file (suc j) (suc j) next | false ↦ got [] next ] then λ ns last.
        got (record { value = n; place = at } ∷ ns) last)
        (p then λ _ next. numbers file (suc j) (suc j) next then λ ns last. got (record { value = n; place = at } ∷ ns) last)
    other-number n j (got x next) = refl
    other-number n j (refused r) = refl

    by_count : (n e j : ℕ) → ◌≡◌ {A = Parse (List Placed)}
        (goes_on file j j e then λ b next. elim b [ true ↦ numbers file j j next | false ↦ got [] next ] then λ ns last.
        got (record { value = n; place = at } ∷ ns) last)
        (expect file (end_of j) e then λ _ next. numbers file j j next then λ ns last. got (record { value = n; place = at } ∷ ns) last)
    by_count n e zero = last-number n (expect file 10 e)
    by_count n e (suc j) = other-number n j (expect file 32 e)

    go : (p : Parse ℕ) → ◌≡◌ {A = Parse (List Placed)}
        (p then λ n end. goes_on file k k end then λ b next. elim b [ true ↦ numbers file k k next | false ↦ got [] next ] then λ ns last.
        got (record { value = n; place = at } ∷ ns) last)
        (p then λ n end. expect file (end_of k) end then λ _ next. numbers file k k next then λ ns last.
        got (record { value = n; place = at } ∷ ns) last)
    go (got n e) = by_count n e k
    go (refused r) = refl

-- a count of J or F, and a reset, that are cut beyond every literal fail the same tests
pub cut-zero : (v : ℕ) → eqb (min v beyond) 0 ≡ eqb v 0
cut-zero v = by_size (dec_le v beyond)
  where
    by_size : Dec (v ≤ beyond) → eqb (min v beyond) 0 ≡ eqb v 0
    by_size (yes l) = let e : min v beyond ≡ v = omega arith in ap (λ (x : ℕ). eqb x 0) e
    by_size (no l) = ne_eqb (min v beyond) 0 (λ e. omega arith) ∙ sym (ne_eqb v 0 (λ e. omega arith))

pub cut-reset : (own v : ℕ) → own < beyond → is_reset own (min v beyond) ≡ is_reset own v
cut-reset own v h = by_size (dec_le v beyond)
  where
    large : (x : ℕ) → beyond ≤ x → is_reset own x ≡ false
    large x l =
        ap₂ (λ (a b : Bool). a || b) (ne_eqb x 0 (λ e. omega arith))
        (ap₂ (λ (a b : Bool). a || b) (ne_eqb x 1 (λ e. omega arith)) (ne_eqb x own (λ e. omega arith)))

    by_size : Dec (v ≤ beyond) → is_reset own (min v beyond) ≡ is_reset own v
    by_size (yes l) = let e : min v beyond ≡ v = omega arith in ap (is_reset own) e
    by_size (no l) = large (min v beyond) (omega arith) ∙ sym (large v (omega arith))

-- a literal that is cut beyond every literal is out of range as it was
pub cut_range : (d : Bool) (m v : ℕ) → m ≤ most → in_range d m (min v beyond) ≡ in_range d m v
cut_range d m v h = by_size (dec_le v beyond)
  where
    out : (b : Bool) (x : ℕ) → beyond ≤ x → in_range b m x ≡ false
    out true x l =
        let hi : 2 * m < x = omega arith in
        rw (lt-leb x (2 * m) hi, and-false (leb 2 x)) (and-false (eqb (x % 2) 0))
    out false x l = lt-leb x (2 * m + 1) (omega arith)

    by_size : Dec (v ≤ beyond) → in_range d m (min v beyond) ≡ in_range d m v
    by_size (yes l) = let e : min v beyond ≡ v = omega arith in ap (in_range d m) e
    by_size (no l) = out d (min v beyond) (omega arith) ∙ sym (out d v (omega arith))
