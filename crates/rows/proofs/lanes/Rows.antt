-- What is stored and counted, from lanes that hold: the outputs, the next states and the row report of the plain stepper, row by row.
use Prim.Native.Nat.{ℕ, zero, suc, ◌+◌, ◌-◌, ◌*◌, ◌^◌, ◌≤◌, ◌<◌}
use mathlib.Core.Path.{◌≡◌, refl, sym, ap, ap₂, ◌∙◌}
use mathlib.Core.List.{List, [], ◌∷◌, ◌++◌, map}
use native.Mathlib.Decide.{dec_lt}
use native.Mathlib.Nat.{not-suc-le-zero}
use native.Mathlib.Omega.{arith}
use lib.Bits.{bit_and}
use lib.ListN.{length, get_or, get_or-append}
use lib.Seq.{get_or-append_seam}
use Rattle.plan.specs.declared.Counts.{Counts}
use Rattle.plan.specs.Literals.{var_of, neg_of}
use Rattle.plan.specs.Circuit.{Circuit, Tables, circuit_of, flat, nexts, rows_of}
use Rattle.plan.specs.Step.{Value, v0, v1, vx, code_of, value_of, lit, values_of, outputs_of, Step, step_of, first_state}
use Rattle.laws.proofs.Tables.{firsts, length-firsts, row_at, rows-firsts, flat-snoc}
use Rattle.judge.specs.used.Least.{every}
use Rattle.judge.proofs.used.Walked.{one_word}
use Rattle.step.specs.values.Words.{may0, may1}
use Rattle.step.proofs.values.Filling.{map-firsts}
use Rattle.step.specs.sweep.Running.{Runs}
use Rattle.step.proofs.sweep.NotAnd.{negated-may}
use Rattle.step.proofs.sweep.Literals.{outputs-every, nexts-every, output-up, next_up}
use Rattle.plan.specs.Report.{times, times_of, output_along, in_turn}
use Rattle.plan.specs.Rows.{row_steps, outputs_of_row, next_of_row, output_bytes, next_bytes, row_report}
use Rattle.rows.specs.Planes.Planes.{bit}
use Rattle.rows.proofs.Planes.Bits.{sum, bit-and}
use Rattle.rows.proofs.Planes.Counting.{one-if, rows_all}
use Rattle.rows.specs.lanes.Words.{plane_at, code_at}
use Rattle.rows.specs.lanes.Working.{Holds, codes_in, codes_of, counts_at, counts_of}
use Rattle.rows.proofs.lanes.Storing.{firsts_same}

-- the code of a value, by its two bits
code-bits : (a : Value) → 48 + may1 a + 71 * bit_and (may1 a) (may0 a) ≡ code_of a
code-bits v0 = refl
code-bits v1 = refl
code-bits vx = refl

-- lists of what stands at each place
get_d-firsts : {A : Type 0} (f : ℕ → A) (n i : ℕ) (d : A) → i < n → get_or (firsts f n) i d ≡ f i
get_d-firsts f zero i d h = absurd (not-suc-le-zero h)
get_d-firsts f (suc n) i d h = go (dec_lt i n) (get_d-firsts f n i d)
  where
    go : Dec (i < n) → (i < n → get_or (firsts f n) i d ≡ f i) → get_or (firsts f n ++ (f n ∷ [])) i d ≡ f i
    go (yes p) ih = get_or-append (firsts f n) (f n ∷ []) d i (omega (arith, length-firsts f n)) ∙ ih p
    go (no p) ih =
        let e : i ≡ length (firsts f n) = omega (arith, length-firsts f n) in
        let last : n ≡ i = omega arith in
        ap (λ (k : ℕ). get_or (firsts f n ++ (f n ∷ [])) k d) e ∙ (get_or-append_seam (firsts f n) (f n) [] d ∙ ap f last)

-- the steps of all rows
module _ {n : Counts} {x : Tables} (r : Runs n x) (bytes : List ℕ) (rows : ℕ) where
  abbrev c : Circuit
  c = circuit_of n x

  abbrev outputs : List ℕ
  outputs = x.outputs

  abbrev latches : List ℕ
  latches = x.latches

  abbrev row : ℕ → List Value
  row k = map value_of (row_at n.I bytes k)

  steps-firsts : row_steps c rows bytes ≡ firsts (λ k. step_of c (first_state c) (row k)) rows
  steps-firsts =
      ap (map (step_of c (first_state c)))
      (ap (λ (i : ℕ). map (map value_of) (rows_of i rows bytes)) (ap (λ (m : Counts). m.I) r.counts)
      ∙ rows-firsts n.I (map value_of) row bytes (λ k. refl) rows)
      ∙ map-firsts (step_of c (first_state c)) row rows

  module _ {t : List ℕ} (holds : Holds n c bytes rows t) where
    -- the value of a literal in lane k
    negated : (k : ℕ) → k < rows → (l : ℕ) → var_of l ≤ n.M → bit k (plane_at t (neg_of l)) ≡ may0 (lit (values_of c (first_state c) (row k)) l)
    negated k h l up =
        let half : var_of (neg_of l) ≡ var_of l = omega arith in
        holds.is k h (neg_of l) (omega arith) ∙ negated-may (values_of c (first_state c) (row k)) l

    lane-code : (k : ℕ) → k < rows → (l : ℕ) → var_of l ≤ n.M → code_at t k l ≡ code_of (lit (values_of c (first_state c) (row k)) l)
    lane-code k h l up =
        ap₂ (λ (a b : ℕ). 48 + a + 71 * b) (holds.is k h l up)
        (bit-and k (plane_at t l) (plane_at t (neg_of l)) ∙ ap₂ bit_and (holds.is k h l up) (negated k h l up))
        ∙ code-bits (lit (values_of c (first_state c) (row k)) l)

    -- the codes of a row
    row-codes : (table : List ℕ) (start stride m : ℕ) (ls : List ℕ) → ls ≡ every table start stride m
        → ((j : ℕ) → j < m → var_of (get_or table (stride * j + start) 0) ≤ n.M)
        → (k : ℕ) → k < rows → codes_in table start stride m t k ≡ map code_of (map (lit (values_of c (first_state c) (row k))) ls)
    row-codes table start stride m ls e up k h =
        firsts_same _ _ m (λ j q. lane-code k h (get_or table (stride * j + start) 0) (up j q))
        ∙ sym (ap (λ (l : List ℕ). map code_of (map w l)) e
        ∙ (ap (map code_of) (map-firsts w (λ j. get_or table (stride * j + start) 0) m)
        ∙ map-firsts code_of (λ j. w (get_or table (stride * j + start) 0)) m))
      where
        w : ℕ → Value
        w = lit (values_of c (first_state c) (row k))

    -- O bytes a row
    pub outputs-are : codes_of outputs 0 1 n.O rows t ≡ output_bytes (row_steps c rows bytes)
    outputs-are =
        ap flat (firsts_same _ (λ k. outputs_of_row (step_of c (first_state c) (row k))) rows
        (λ k h. row-codes outputs 0 1 n.O c.outputs (outputs-every r) (output-up r) k h)
        ∙ sym (ap (map outputs_of_row) steps-firsts ∙ map-firsts outputs_of_row (λ k. step_of c (first_state c) (row k)) rows))

    -- L bytes a row
    pub nexts-are : codes_of latches 1 2 n.L rows t ≡ next_bytes (row_steps c rows bytes)
    nexts-are =
        ap flat (firsts_same _ (λ k. next_of_row (step_of c (first_state c) (row k))) rows
        (λ k h. row-codes latches 1 2 n.L (nexts c.latches) (nexts-every r) (next_up r) k h)
        ∙ sym (ap (map next_of_row) steps-firsts ∙ map-firsts next_of_row (λ k. step_of c (first_state c) (row k)) rows))

    -- the values of an output in all rows, and how many are a
    times_snoc : (a : Value) (l : List Value) (b : Value) → times a (l ++ (b ∷ [])) ≡ one-if a b + times a l
    times_snoc a [] b = refl
    times_snoc a (x ∷ l) b = ap (λ (m : ℕ). one-if a x + m) (times_snoc a l b) ∙ omega arith

    times-sum : (a : Value) (v : ℕ → Value) (m : ℕ) → times a (firsts v m) ≡ sum (λ k. one-if a (v k)) m
    times-sum a v zero = refl
    times-sum a v (suc m) = times_snoc a (firsts v m) (v m) ∙ ap (λ (x : ℕ). one-if a (v m) + x) (times-sum a v m)

    output-value : (k j : ℕ) → j < n.O
        → get_or (outputs_of c (first_state c) (row k)) j vx ≡ lit (values_of c (first_state c) (row k)) (get_or outputs (1 * j + 0) 0)
    output-value k j h =
        ap (λ (ls : List ℕ). get_or (map w ls) j vx) (outputs-every r)
        ∙ (ap (λ (l : List Value). get_or l j vx) (map-firsts w (λ i. get_or outputs (1 * i + 0) 0) n.O)
        ∙ get_d-firsts (λ i. w (get_or outputs (1 * i + 0) 0)) n.O j vx h)
      where
        w : ℕ → Value
        w = lit (values_of c (first_state c) (row k))

    -- per output the rows at 0, at 1 and at x
    abbrev counted : ℕ → List ℕ
    counted j = times_of (output_along (row_steps c rows bytes) j)

    output-counts : (j : ℕ) → j < n.O → counts_at t (2 ^ rows - 1) (get_or outputs j 0) ≡ counted j
    output-counts j h =
        ap (counts_at t (2 ^ rows - 1)) (one_word outputs j)
        ∙ (rows_all (plane_at t (get_or outputs (1 * j + 0) 0)) (plane_at t (neg_of (get_or outputs (1 * j + 0) 0))) rows v bits
        ∙ (λ i. back v0 i ∷ back v1 i ∷ back vx i ∷ []))
      where
        v : ℕ → Value
        v k = get_or (outputs_of c (first_state c) (row k)) j vx

        bits : (k : ℕ) → k < rows → (bit k (plane_at t (get_or outputs (1 * j + 0) 0)) ≡ may1 (v k))
            × (bit k (plane_at t (neg_of (get_or outputs (1 * j + 0) 0))) ≡ may0 (v k))
        bits k q = (
          holds.is k q (get_or outputs (1 * j + 0) 0) (output-up r j h) ∙ sym (ap may1 (output-value k j h)),
          negated k q (get_or outputs (1 * j + 0) 0) (output-up r j h) ∙ sym (ap may0 (output-value k j h)),
        )

        along : output_along (row_steps c rows bytes) j ≡ firsts v rows
        along =
            ap (λ (steps : List Step). output_along steps j) steps-firsts
            ∙ map-firsts (λ (s : Step). get_or s.outputs j vx) (λ k. step_of c (first_state c) (row k)) rows

        back : (a : Value) → sum (λ k. one-if a (v k)) rows ≡ times a (output_along (row_steps c rows bytes) j)
        back a = sym (ap (times a) along ∙ times-sum a v rows)

    turn-flat : (f : ℕ → List ℕ) (m : ℕ) → in_turn f m ≡ flat (firsts f m)
    turn-flat f zero = refl
    turn-flat f (suc m) = ap (λ (l : List ℕ). l ++ f m) (turn-flat f m) ∙ sym (flat-snoc (firsts f m) (f m))

    pub report-is : counts_of outputs n.O (2 ^ rows - 1) t ≡ row_report c (row_steps c rows bytes)
    report-is =
        ap flat (firsts_same _ counted n.O output-counts)
        ∙ (sym (turn-flat counted n.O) ∙ ap (in_turn counted) (sym (ap (λ (m : Counts). m.O) r.counts)))
