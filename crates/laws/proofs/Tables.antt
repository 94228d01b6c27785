-- A table's rows, each at its own place: a list of n rows grows by its last one.
use Prim.Native.Nat.{ℕ, zero, suc, ◌+◌, ◌*◌, ◌≤◌, ◌<◌}
use mathlib.Core.Path.{◌≡◌, refl, sym, ap, ap₂, ◌∙◌}
use mathlib.Core.List.{List, [], ◌∷◌, ◌++◌, map, map-append, append-nil, append_assoc}
use native.Mathlib.Nat.{mul-zero, mul-suc, mul-le-mul_left}
use native.Mathlib.Numerals.{add-one}
use native.Mathlib.Omega.{arith}
use lib.ListN.{length, get_or, take, drop, length-append, length-drop}
use lib.Seq.{get_or-take, get_or-drop, drop-drop, take-suc, length-take-le}
use Rattle.plan.specs.Literals.{var_of}
use Rattle.plan.specs.Circuit.{Gate, Latch, one_line, latch_line, gate_line, literal_of, latch_of, gate_of, rows_of, flat, heads, vars, current_vars, left_vars}
use Rattle.laws.proofs.Reading.Rows.{Long, one-back, latch-back, gate-back}

-- row i of k words
abbrev pub row_at : ℕ → List ℕ → ℕ → List ℕ
row_at k t i = take k (drop (k * i) t)

-- rows one after the other, and one more
pub flat-snoc : (rows : List (List ℕ)) (row : List ℕ) → flat (rows ++ (row ∷ [])) ≡ flat rows ++ row
flat-snoc [] row = append-nil row
flat-snoc (r ∷ rows) row = ap (λ (x : List ℕ). r ++ x) (flat-snoc rows row) ∙ sym (append_assoc r (flat rows) row)

rows_snoc : (k n : ℕ) (t : List ℕ) → rows_of k (suc n) t ≡ rows_of k n t ++ (row_at k t n ∷ [])
rows_snoc k zero t = ap (λ (m : ℕ). take k (drop m t) ∷ []) (sym (mul-zero k))
rows_snoc k (suc n) t =
    ap (λ (r : List (List ℕ)). take k t ∷ r) (rows_snoc k n (drop k t))
    ∙ ap (λ (l : List ℕ). take k t ∷ (rows_of k n (drop k t) ++ (take k l ∷ [])))
    (drop-drop (k * n) k t ∙ ap (λ (m : ℕ). drop m t) (next k n))
  where
    next : (k n : ℕ) → k + k * n ≡ k * suc n
    next k n = omega (arith, mul-suc k n)

module _ {A : Type 0} where
  -- the first n of what stands at each place
  abbrev pub firsts : (ℕ → A) → ℕ → List A
  firsts at zero = []
  firsts at (suc n) = firsts at n ++ (at n ∷ [])

  pub length-firsts : (at : ℕ → A) (n : ℕ) → length (firsts at n) ≡ n
  length-firsts at zero = refl
  length-firsts at (suc n) = length-append (firsts at n) (at n ∷ []) ∙ omega (arith, length-firsts at n)

  -- a table as a list of rows is the list of what stands at each place
  pub rows-firsts : (k : ℕ) (f : List ℕ → A) (at : ℕ → A) (t : List ℕ) → ((i : ℕ) → f (row_at k t i) ≡ at i) → (n : ℕ)
      → map f (rows_of k n t) ≡ firsts at n
  rows-firsts k f at t e zero = refl
  rows-firsts k f at t e (suc n) =
      ap (map f) (rows_snoc k n t) ∙ (map-append f (rows_of k n t) (row_at k t n ∷ [])
      ∙ ap₂ (λ (xs : List A) (x : A). xs ++ (x ∷ [])) (rows-firsts k f at t e n) (e n))

-- word j of row i
pub row_word : (k : ℕ) (t : List ℕ) (i j : ℕ) → j < k → get_or (row_at k t i) j 0 ≡ get_or t (k * i + j) 0
row_word k t i j h = get_or-take k (drop (k * i) t) j 0 h ∙ get_or-drop (k * i) t j 0

-- gates
abbrev pub gate_at : List ℕ → ℕ → Gate
gate_at t i = record { lhs = get_or t (3 * i) 0; rhs0 = get_or t (3 * i + 1) 0; rhs1 = get_or t (3 * i + 2) 0 }

abbrev pub gates_at : List ℕ → ℕ → List Gate
gates_at t = firsts (gate_at t)

pub gates-rows : (t : List ℕ) (n : ℕ) → map gate_of (rows_of 3 n t) ≡ gates_at t n
gates-rows t = rows-firsts 3 gate_of (gate_at t) t (λ i. row i)
  where
    row : (i : ℕ) → gate_of (row_at 3 t i) ≡ gate_at t i
    row i =
        let z : 3 * i + 0 ≡ 3 * i = omega arith in
        λ j. record {
          lhs = (row_word 3 t i 0 (omega arith) ∙ ap (λ (m : ℕ). get_or t m 0) z) j;
          rhs0 = row_word 3 t i 1 (omega arith) j;
          rhs1 = row_word 3 t i 2 (omega arith) j;
        }

-- latches
abbrev pub latch_at : List ℕ → ℕ → Latch
latch_at t i = record { current = get_or t (2 * i) 0; next = get_or t (2 * i + 1) 0 }

pub latches-rows : (t : List ℕ) (n : ℕ) → map latch_of (rows_of 2 n t) ≡ firsts (latch_at t) n
latches-rows t = rows-firsts 2 latch_of (latch_at t) t (λ i. row i)
  where
    row : (i : ℕ) → latch_of (row_at 2 t i) ≡ latch_at t i
    row i =
        let z : 2 * i + 0 ≡ 2 * i = omega arith in
        λ j. record {
          current = (row_word 2 t i 0 (omega arith) ∙ ap (λ (m : ℕ). get_or t m 0) z) j;
          next = row_word 2 t i 1 (omega arith) j;
        }

-- inputs and outputs: rows of one word
pub words-rows : (t : List ℕ) (n : ℕ) → map literal_of (rows_of 1 n t) ≡ firsts (λ i. get_or t i 0) n
words-rows t = rows-firsts 1 literal_of (λ i. get_or t i 0) t (λ i. row i)
  where
    row : (i : ℕ) → literal_of (row_at 1 t i) ≡ get_or t i 0
    row i =
        let z : 1 * i + 0 ≡ i = omega arith in
        row_word 1 t i 0 (omega arith) ∙ ap (λ (m : ℕ). get_or t m 0) z

pub words_take : (t : List ℕ) (n : ℕ) → n ≤ length t → take n t ≡ firsts (λ i. get_or t i 0) n
words_take t zero h = refl
words_take t (suc n) h = take-suc t n 0 (omega arith) ∙ ap (λ (l : List ℕ). l ++ (get_or t n 0 ∷ [])) (words_take t n (omega arith))

-- the variables that lines define, at each place
pub heads-snoc : (rows : List (List ℕ)) (row : List ℕ) → heads (rows ++ (row ∷ [])) ≡ heads rows ++ (var_of (literal_of row) ∷ [])
heads-snoc [] row = refl
heads-snoc (r ∷ rows) row = ap (λ (l : List ℕ). var_of (literal_of r) ∷ l) (heads-snoc rows row)

pub heads-firsts : {A : Type 0} (line : A → List ℕ) (at : ℕ → A) (n : ℕ)
    → heads (map line (firsts at n)) ≡ firsts (λ i. var_of (literal_of (line (at i)))) n
heads-firsts line at zero = refl
heads-firsts line at (suc n) =
    ap heads (map-append line (firsts at n) (at n ∷ []))
    ∙ (heads-snoc (map line (firsts at n)) (line (at n))
    ∙ ap (λ (l : List ℕ). l ++ (var_of (literal_of (line (at n))) ∷ [])) (heads-firsts line at n))

-- the variable of the first word of row i, of `stride` words; those of n rows
abbrev pub head_at : List ℕ → ℕ → ℕ → ℕ
head_at table stride i = var_of (get_or table (stride * i) 0)

abbrev pub heads_at : List ℕ → ℕ → ℕ → List ℕ
heads_at table stride n = firsts (head_at table stride) n

-- the variables that inputs, latches and gates of a table define
pub inputs-heads : (t : List ℕ) (n : ℕ) → n ≤ length t → vars (take n t) ≡ heads_at t 1 n
inputs-heads t n h =
    ap vars (words_take t n h) ∙ (heads-firsts one_line (λ i. get_or t i 0) n ∙ ap (λ (at : ℕ → ℕ). firsts at n) (λ j i. one-row i j))
  where
    one-row : (i : ℕ) → var_of (get_or t i 0) ≡ head_at t 1 i
    one-row i = let at : i ≡ 1 * i = omega arith in ap (λ (k : ℕ). var_of (get_or t k 0)) at

pub latches-heads : (t : List ℕ) (n : ℕ) → current_vars (map latch_of (rows_of 2 n t)) ≡ heads_at t 2 n
latches-heads t n = ap current_vars (latches-rows t n) ∙ heads-firsts latch_line (latch_at t) n

pub gates-heads : (t : List ℕ) (n : ℕ) → left_vars (map gate_of (rows_of 3 n t)) ≡ heads_at t 3 n
gates-heads t n = ap left_vars (gates-rows t n) ∙ heads-firsts gate_line (gate_at t) n

-- row i of those that the table has room for ends in it, and the next row starts there
pub row_ends : (stride n i : ℕ) (table : List ℕ) → stride * n ≤ length table → i < n → stride * i + stride ≤ length table
row_ends stride n i table room h =
    let more : stride * suc i ≤ stride * n = mul-le-mul_left stride h in
    omega (arith, mul-suc stride i)

pub next_row : (stride i at : ℕ) → at ≡ stride * i → at + stride ≡ stride * (i + 1)
next_row stride i at e = rw (add-one, mul-suc) (omega arith)

-- the lines of a circuit that tables hold are the tables' rows
rows-of-long : (k n : ℕ) (t : List ℕ) → k * n ≤ length t → Long k (rows_of k n t)
rows-of-long k zero t h = tt
rows-of-long k (suc n) t h =
    (length-take-le k t (omega (arith, mul-suc k n)), rows-of-long k n (drop k t) (omega (arith, mul-suc k n, length-drop k t)))

pub one-rows : (n : ℕ) (t : List ℕ) → n ≤ length t → map one_line (take n t) ≡ rows_of 1 n t
one-rows n t h =
    ap (map one_line) (words_take t n h ∙ sym (words-rows t n)) ∙ one-back (rows_of 1 n t) (rows-of-long 1 n t (omega arith))

pub latch-rows : (n : ℕ) (t : List ℕ) → 2 * n ≤ length t → map latch_line (map latch_of (rows_of 2 n t)) ≡ rows_of 2 n t
latch-rows n t h = latch-back (rows_of 2 n t) (rows-of-long 2 n t h)

pub gate-rows : (n : ℕ) (t : List ℕ) → 3 * n ≤ length t → map gate_line (map gate_of (rows_of 3 n t)) ≡ rows_of 3 n t
gate-rows n t h = gate-back (rows_of 3 n t) (rows-of-long 3 n t h)
