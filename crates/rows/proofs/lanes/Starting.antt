-- What the lanes hold at the start, and at the end: in each lane what the plain stepper gives its row.
use Prim.Native.Nat.{ℕ, zero, suc, ◌+◌, ◌*◌, ◌≤◌, ◌<◌}
use mathlib.Core.Path.{◌≡◌, refl, sym, ap, ◌∙◌, subst}
use mathlib.Core.Bool.{Bool, true, false, cond}
use mathlib.Core.List.{List, [], ◌∷◌, ◌++◌, map}
use native.Mathlib.Omega.{arith}
use borrow.Author.Tests.{eqb-true}
use lib.Dec.{eqb}
use lib.ListN.{length, get_or, length-append}
use lib.Pow.{shr_le}
use Rattle.plan.specs.declared.Counts.{Counts}
use Rattle.plan.specs.Literals.{var_of, sign_of}
use Rattle.plan.specs.Circuit.{Gate, Circuit, Tables, circuit_of}
use Rattle.plan.specs.Step.{Value, v0, v1, vx, value_of, reset_value, signed_value, lit, values_of, first_state}
use Rattle.laws.proofs.Reading.Runs.{BinaryOrder, order-exactly}
use Rattle.laws.proofs.Tables.{firsts, length-firsts, row_at, gate_at, gates_at, gates-rows, row_ends, words_take}
use Rattle.laws.proofs.Running.Binary.{Binary, inner}
use Rattle.laws.proofs.Running.InOrder.{order-binary}
use Rattle.laws.proofs.Running.Upward.{given}
use Rattle.laws.proofs.Running.Sweep.{sweep, at, length-sweep, sweep-step}
use Rattle.step.specs.values.Words.{may0, may1}
use Rattle.step.proofs.values.Filling.{map-firsts, part-firsts}
use Rattle.step.specs.sweep.Running.{Runs}
use Rattle.rows.specs.Planes.Planes.{bit, other, column, sweep_planes}
use Rattle.rows.proofs.Planes.Bits.{plane-bit, plane-full}
use Rattle.rows.proofs.Planes.Lanes.{Lane, lane-none, lane-more, lane-pairs, lane-sweep}
use Rattle.rows.specs.lanes.Words.{plane_at, Begins, every_row, constant_planes, start_planes}
use Rattle.rows.proofs.lanes.Words.{begins-plane}

-- a bit in every lane of 64
full-bit : (k : ℕ) → k < 64 → bit k 18446744073709551615 ≡ 1
full-bit k h = ap (bit k) (sym (plane-full 64)) ∙ plane-bit (λ _. 1) (λ _. omega arith) 64 k h

zero_bit : (k : ℕ) → bit k 0 ≡ 0
unfolding bit
zero_bit k = omega (arith, shr_le 0 k)

every-bit : (k b : ℕ) → k < 64 → b < 2 → bit k (every_row b) ≡ b
every-bit k zero h s = zero_bit k
every-bit k (suc zero) h s = full-bit k h
every-bit k (suc (suc b)) h s = absurd (omega arith)

pub other-small : (code b : ℕ) → other code b < 2
other-small code b = go (eqb b code)
  where
    go : (t : Bool) → cond t 0 1 < 2
    go true = omega arith
    go false = omega arith

-- a value that is 0 at one number, 1 at another, and x at all else
module _ (zero one b : ℕ) (apart : zero < one) where
  abbrev value : Value
  value = cond (eqb b zero) v0 (cond (eqb b one) v1 vx)

  pub may1-other : other zero b ≡ may1 value
  may1-other = go (eqb b zero) (eqb b one)
    where
      go : (z o : Bool) → cond z 0 1 ≡ may1 (cond z v0 (cond o v1 vx))
      go true o = refl
      go false true = refl
      go false false = refl

  pub may0-other : other one b ≡ may0 value
  may0-other = go (eqb b zero) (eqb b one) refl refl
    where
      go : (z o : Bool) → eqb b zero ≡ z → eqb b one ≡ o → cond o 0 1 ≡ may0 (cond z v0 (cond o v1 vx))
      go true true e f = absurd (omega (arith, eqb-true b zero e, eqb-true b one f, apart))
      go true false e f = refl
      go false true e f = refl
      go false false e f = refl

column-bit : (code : ℕ) (bytes : List ℕ) (from stride rows k : ℕ) → k < rows
    → bit k (column code bytes from stride rows) ≡ other code (get_or bytes (stride * k + from) 0)
column-bit code bytes from stride rows k h =
    plane-bit (λ i. other code (get_or bytes (stride * i + from) 0)) (λ i. other-small code (get_or bytes (stride * i + from) 0)) rows k h

-- row k of a list
abbrev pub row_of : ℕ → List ℕ → ℕ → List Value
row_of i bytes k = map value_of (row_at i bytes k)

row-firsts : (i : ℕ) (bytes : List ℕ) (rows k : ℕ) → i * rows ≤ length bytes → k < rows
    → firsts (λ j. value_of (get_or bytes (i * k + j) 0)) i ≡ row_of i bytes k
row-firsts i bytes rows k room h =
    sym (ap (map value_of) (part-firsts bytes (i * k) i (row_ends i rows k bytes room h))
    ∙ map-firsts value_of (λ j. get_or bytes (i * k + j) 0) i)

-- the first state, latch by latch
abbrev pub start_of : List ℕ → ℕ → List Value
start_of resets l = firsts (λ j. reset_value (get_or resets j 0)) l

pub lane-start : (i l rows : ℕ) (bytes resets : List ℕ) (k : ℕ) → rows ≤ 64 → i * rows ≤ length bytes → k < rows
    → Lane k (start_planes bytes resets i l rows) (given (start_of resets l) (row_of i bytes k))
lane-start i l rows bytes resets k most room h =
    subst (λ (v : List Value). Lane k (start_planes bytes resets i l rows) v)
    (ap (λ (y : List Value). v0 ∷ (y ++ start_of resets l)) (row-firsts i bytes rows k room h))
    (lane-pairs k _ _ _ _ (λ j. reset_value (get_or resets j 0)) l
    (lane-pairs k constant_planes (v0 ∷ []) _ _ (λ j. value_of (get_or bytes (i * k + j) 0)) i
    (lane-more (lane-none k) 0 18446744073709551615 v0 (zero_bit k) (full-bit k lane))
    (λ j p. (
      column-bit 48 bytes j i rows k h ∙ may1-other 48 49 (get_or bytes (i * k + j) 0) (omega arith),
      column-bit 49 bytes j i rows k h ∙ may0-other 48 49 (get_or bytes (i * k + j) 0) (omega arith),
    )))
    (λ j p. (
      every-bit k (other 0 (get_or resets j 0)) lane (other-small 0 (get_or resets j 0)) ∙ may1-other 0 1 (get_or resets j 0) (omega arith),
      every-bit k (other 1 (get_or resets j 0)) lane (other-small 1 (get_or resets j 0)) ∙ may0-other 0 1 (get_or resets j 0) (omega arith),
    )))
  where
    lane : k < 64
    lane = omega (arith, most)

-- tables in binary order whose planes were swept
module _ {n : Counts} {x : Tables} (r : Runs n x) (bytes : List ℕ) (rows : ℕ) (most : rows ≤ 64) (room : n.I * rows ≤ length bytes) where
  abbrev c : Circuit
  c = circuit_of n x

  in_order : BinaryOrder c
  in_order = (order-exactly c).0 r.order

  abbrev leaves : ℕ
  leaves = 1 + n.I + n.L

  pub gates-binary : Binary leaves (gates_at x.gates n.A)
  gates-binary =
      subst (λ (k : ℕ). Binary k (gates_at x.gates n.A)) (ap (λ (m : Counts). 1 + m.I + m.L) r.counts)
      (subst (λ (gs : List Gate). Binary (inner c) gs) (gates-rows x.gates n.A) (order-binary (inner c) c.gates in_order.gates))

  abbrev pub end_planes : List ℕ
  end_planes = sweep_planes (start_planes bytes x.resets n.I n.L rows) (gates_at x.gates n.A)

  first-is : start_of x.resets n.L ≡ first_state c
  first-is =
      sym (ap (map reset_value) (words_take x.resets n.L r.fits.resets-long) ∙ map-firsts reset_value (λ j. get_or x.resets j 0) n.L)

  module _ (k : ℕ) (h : k < rows) where
    abbrev s : List Value
    s = start_of x.resets n.L

    abbrev i : List Value
    i = row_of n.I bytes k

    start-length : length s ≡ n.L
    start-length = length-firsts (λ j. reset_value (get_or x.resets j 0)) n.L

    row-length : length i ≡ n.I
    row-length =
        ap length (sym (row-firsts n.I bytes rows k room h)) ∙ length-firsts (λ j. value_of (get_or bytes (n.I * k + j) 0)) n.I

    given-length : length (given s i) ≡ leaves
    given-length = omega (arith, length-append i s, start-length, row-length)

    lane-end : Lane k end_planes (sweep (given s i) (gates_at x.gates n.A))
    lane-end =
        lane-sweep k (start_planes bytes x.resets n.I n.L rows) (given s i) (gates_at x.gates n.A)
        (lane-start n.I n.L rows bytes x.resets k most room h)
        (subst (λ (m : ℕ). Binary m (gates_at x.gates n.A)) (sym given-length) gates-binary)

    vals-length : length (sweep (given s i) (gates_at x.gates n.A)) ≡ n.M + 1
    vals-length =
        let ni = ap (λ (m : Counts). m.I) r.counts in
        let nl = ap (λ (m : Counts). m.L) r.counts in
        let na = ap (λ (m : Counts). m.A) r.counts in
        length-sweep (given s i) (gates_at x.gates n.A)
        ∙ omega (arith, given-length, length-firsts (gate_at x.gates) n.A, in_order.sum, ni, nl, na)

    value-is : (v : ℕ) → at (sweep (given s i) (gates_at x.gates n.A)) v ≡ values_of c (first_state c) i v
    value-is v =
        ap (λ (gs : List Gate). at (sweep (given s i) gs) v) (sym (gates-rows x.gates n.A))
        ∙ (sweep-step c in_order s i (start-length ∙ sym (ap (λ (m : Counts). m.L) r.counts))
        (row-length ∙ sym (ap (λ (m : Counts). m.I) r.counts)) v
        ∙ ap (λ (l : List Value). values_of c l i v) first-is)

    lit-value : (l : ℕ) → lit (at (sweep (given s i) (gates_at x.gates n.A))) l ≡ lit (values_of c (first_state c) i) l
    lit-value l = ap (signed_value (sign_of l)) (value-is (var_of l))

    -- lane by lane it equals the plain stepper
    pub lanes-hold : (t : List ℕ) → Begins end_planes t → (l : ℕ) → var_of l ≤ n.M
        → bit k (plane_at t l) ≡ may1 (lit (values_of c (first_state c) i) l)
    lanes-hold t b l up =
        ap (bit k) (begins-plane end_planes t b l (omega (arith, lane-end.two, vals-length)))
        ∙ (lane-end.is l (omega (arith, vals-length)) ∙ ap may1 (lit-value l))
