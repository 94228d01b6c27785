-- Two circuits as one: it is in binary order, its steps are those of both, and the search says never exactly if both always give the same.
use Prim.Native.Nat.{ℕ, zero, suc, ◌+◌, ◌-◌, ◌*◌, ◌/◌, ◌%◌, ◌^◌, ◌≤◌, ◌<◌}
use mathlib.Core.Path.{◌≡◌, refl, sym, ap, ap₂, ◌∙◌, subst}
use mathlib.Core.Bool.{Bool, true, false, not, cond, ◌&&◌, ◌||◌, false≢true}
use mathlib.Core.Logic.{◌↔◌}
use mathlib.Core.List.{List, [], ◌∷◌, ◌++◌, map, append_assoc, map-append}
use native.Mathlib.Omega.{arith}
use borrow.Author.Tests.{eq-eqb, ne_eqb}
use lib.Dec.{eqb}
use lib.ListN.{length, get_or, take, drop, length-append, length-map, get_or-append}
use lib.Seq.{get_or-append-add, take_at, drop_at}
use Rattle.plan.specs.Literals.{most, lit_of, var_of, sign_of, neg_of, is_reset}
use Rattle.plan.specs.Circuit.{Gate, Latch, Circuit, nexts, rows_of, resets_ok}
use Rattle.plan.specs.Reading.{WellFormed}
use Rattle.plan.specs.Binary.{lits_from, latches_from}
use Rattle.plan.specs.Step.{Value, v0, v1, vx, code_of, value_of, is_code, vectors_of, lit, values_of, outputs_of, bads_of, constraints_of, next_of, Step, run, reset_value, first_state, is1, any1, all1, shows1}
use Rattle.laws.proofs.Reading.Common.{and_left, and_right, and_intro}
use Rattle.laws.proofs.Reading.Order.{InOrder}
use Rattle.laws.proofs.Reading.Runs.{length-lits, length-latches, length-nexts, nexts-latches, BinaryOrder}
use Rattle.laws.proofs.Running.WithoutX.{NotX, NoX, NoXs, lits-nox}
use Rattle.laws.proofs.Running.Lists.{absent}
use Rattle.laws.proofs.Writing.Stepping.{all_codes_lem}
use Rattle.laws.proofs.Fillings.Numbering.{fill-length, fill-fills}
use Rattle.laws.proofs.Fillings.Question.{fills-two-valued}
use Rattle.laws.proofs.Running.Accepted.{Accepted, accepted}
use Rattle.laws.proofs.Running.Binary.{Holds, inner, Bounded, Ordered}
use Rattle.laws.proofs.Running.InOrder.{well-ordered, well-formed}
use Rattle.laws.proofs.Running.Resets.{by-reset, first-length}
use Rattle.laws.proofs.Running.Runs.{Sized, next-length}
use Rattle.laws.proofs.Running.Upward.{given}
use Rattle.plan.specs.Outcome.{all_codes}
use Rattle.plan.specs.Fillings.{x_of, x_count, filling, start_of, shows_at}
use Rattle.plan.specs.Search.{Way, never, happens, fill_both, start_at, can_happen, CanHappen}
use Rattle.plan.specs.Product.{moved, move_lit, move_gate, as_first, as_second, compare, alike_lit, after_both, gates_of_both, product, same_all, differ, Alike}
use Rattle.search.proofs.Witnesses.{rows-sized}
use Rattle.search.proofs.Happening.{never-cannot, happens-can, none-shorter, never-exactly}
use Rattle.search.proofs.Moved.{moved-low, moved-mid, moved-least, order-moved, bounded-moved, bounded-more, order-append, holds-left, holds-right, values-hold, values-leaf, lits-same}
use Rattle.search.proofs.Compared.{compare-order, alike-low, compare-is, inv-is}
use Rattle.search.proofs.Ordered.{ordered-accepted}

bounded-append : (n : ℕ) (xs ys : List ℕ) → Bounded n xs → Bounded n ys → Bounded n (xs ++ ys)
bounded-append n [] ys b d = d
bounded-append n (x ∷ xs) ys b d = (b.0, bounded-append n xs ys b.1 d)

all1-append : (xs ys : List Value) → all1 (xs ++ ys) ≡ (all1 xs && all1 ys)
all1-append [] ys = refl
all1-append (x ∷ xs) ys = ap (λ (b : Bool). is1 x && b) (all1-append xs ys) ∙ assoc (is1 x) (all1 xs) (all1 ys)
  where
    assoc : (p q r : Bool) → (p && (q && r)) ≡ ((p && q) && r)
    assoc true q r = refl
    assoc false q r = refl

-- a moved reset
reset-moved : (i l j k : ℕ) → j ≤ k → (r : ℕ) → reset_value (move_lit i l j k r) ≡ reset_value r
reset-moved i l j k jk zero = ap (λ (m : ℕ). reset_value (2 * m + 0)) (moved-low i l j k jk 0 (omega arith))
reset-moved i l j k jk (suc zero) = ap (λ (m : ℕ). reset_value (2 * m + 1)) (moved-low i l j k jk 0 (omega arith))
reset-moved i l j k jk (suc (suc r)) =
    let h : 2 ≤ move_lit i l j k (suc (suc r)) = big (moved i l j k (var_of (suc (suc r)))) (moved-least i l j k jk (var_of (suc (suc r)))) in
    ap₂ (λ (p q : Bool). cond p v0 (cond q v1 vx)) (ne_eqb (move_lit i l j k (suc (suc r))) 0 (λ e. omega arith))
    (ne_eqb (move_lit i l j k (suc (suc r))) 1 (λ e. omega arith))
    ∙ ap₂ (λ (p q : Bool). cond p v0 (cond q v1 vx)) (sym (ne_eqb (suc (suc r)) 0 (λ e. omega arith))) (sym (ne_eqb (suc (suc r)) 1 (λ e. omega arith)))
  where
    big : (m : ℕ) → var_of (suc (suc r)) ≤ m → 2 ≤ 2 * m + sign_of (suc (suc r))
    big m q = omega arith

resets-moved : (i l j k : ℕ) → j ≤ k → (rs : List ℕ) → map reset_value (map (move_lit i l j k) rs) ≡ map reset_value rs
resets-moved i l j k jk [] = refl
resets-moved i l j k jk (r ∷ rs) = ap₂ (λ (x : Value) (t : List Value). x ∷ t) (reset-moved i l j k jk r) (resets-moved i l j k jk rs)

-- the resets of latches that are moved
lit-at : (i l j k : ℕ) → j ≤ k → (v : ℕ) → 1 + i ≤ v → v < 1 + i + l → move_lit i l j k (lit_of v) ≡ lit_of (v + j)
lit-at i l j k jk v h q =
    let e : var_of (lit_of v) ≡ v = half v in
    ap₂ (λ (m n : ℕ). 2 * m + n) (ap (moved i l j k) e ∙ moved-mid i l j k jk v h q) (even v) ∙ none (2 * (v + j))
  where
    half : (n : ℕ) → (2 * n) / 2 ≡ n
    half n = omega arith

    even : (n : ℕ) → (2 * n) % 2 ≡ 0
    even n = omega arith

    none : (n : ℕ) → n + 0 ≡ n
    none n = omega arith

resets-at : (i l j k : ℕ) → j ≤ k → (ns ms rs : List ℕ) (v : ℕ) → 1 + i ≤ v → v + length ns ≤ 1 + i + l → length ms ≡ length ns
    → resets_ok (latches_from v ns) rs ≡ true → resets_ok (latches_from (v + j) ms) (map (move_lit i l j k) rs) ≡ true
resets-at i l j k jk [] [] [] v h q e r = refl
resets-at i l j k jk [] [] (x ∷ rs) v h q e r = absurd (false≢true r)
resets-at i l j k jk [] (m ∷ ms) rs v h q e r = absurd (omega arith)
resets-at i l j k jk (n ∷ ns) [] rs v h q e r = absurd (omega arith)
resets-at i l j k jk (n ∷ ns) (m ∷ ms) [] v h q e r = absurd (false≢true r)
resets-at i l j k jk (n ∷ ns) (m ∷ ms) (x ∷ rs) v h q e r =
    and_intro (is_reset (lit_of (v + j)) (move_lit i l j k x)) (resets_ok (latches_from (suc (v + j)) ms) (map (move_lit i l j k) rs))
    (by-reset (lit_of v) x (λ (y : ℕ). is_reset (lit_of (v + j)) (move_lit i l j k y) ≡ true)
    (and_left (is_reset (lit_of v) x) (resets_ok (latches_from (suc v) ns) rs) r)
    (ap (is_reset (lit_of (v + j))) (low 0))
    (ap (is_reset (lit_of (v + j))) (low 1))
    (ap (is_reset (lit_of (v + j))) (lit-at i l j k jk v h (omega arith)) ∙ own (eqb (lit_of (v + j)) 0) (eqb (lit_of (v + j)) 1)))
    (subst (λ (u : ℕ). resets_ok (latches_from u ms) (map (move_lit i l j k) rs) ≡ true) swap
    (resets-at i l j k jk ns ms rs (suc v) (omega arith) (omega arith) (omega arith)
    (and_right (is_reset (lit_of v) x) (resets_ok (latches_from (suc v) ns) rs) r)))
  where
    swap : suc v + j ≡ suc (v + j)
    swap = omega arith

    low : (s : ℕ) → lit_of (moved i l j k 0) + s ≡ s
    low s = ap (λ (z : ℕ). 2 * z + s) (moved-low i l j k jk 0 (omega arith)) ∙ zeros s
      where
        zeros : (n : ℕ) → 2 * 0 + n ≡ n
        zeros n = omega arith

    own : (p t : Bool) → (p || (t || eqb (lit_of (v + j)) (lit_of (v + j)))) ≡ true
    own true t = refl
    own false true = refl
    own false false = eq-eqb (lit_of (v + j)) (lit_of (v + j)) refl

resets_append : (ls ms : List Latch) (rs ts : List ℕ) → resets_ok ls rs ≡ true → resets_ok ms ts ≡ true → resets_ok (ls ++ ms) (rs ++ ts) ≡ true
resets_append [] ms [] ts h q = q
resets_append [] ms (r ∷ rs) ts h q = absurd (false≢true h)
resets_append (l ∷ ls) ms [] ts h q = absurd (false≢true h)
resets_append (l ∷ ls) ms (r ∷ rs) ts h q =
    and_intro (is_reset l.current r) (resets_ok (ls ++ ms) (rs ++ ts)) (and_left (is_reset l.current r) (resets_ok ls rs) h)
    (resets_append ls ms rs ts (and_right (is_reset l.current r) (resets_ok ls rs) h) q)

from-append : (v : ℕ) (xs ys : List ℕ) → latches_from v (xs ++ ys) ≡ latches_from v xs ++ latches_from (v + length xs) ys
from-append v [] ys = let e : v ≡ v + 0 = omega arith in ap (λ (u : ℕ). latches_from u ys) e
from-append v (x ∷ xs) ys =
    let e : suc v + length xs ≡ v + suc (length xs) = omega arith in
    ap (λ (t : List Latch). record { current = lit_of v; next = x } ∷ t)
    (from-append (suc v) xs ys ∙ ap (λ (u : ℕ). latches_from (suc v) xs ++ latches_from u ys) e)

-- good bytes without x are values without x
code-nox : (b : ℕ) → is_code b ≡ true → x_of b ≡ 0 → NotX (value_of b)
code-nox b h q = go (eqb b 48) (eqb b 49) (eqb b 120) h q
  where
    go : (x y z : Bool) → (x || (y || z)) ≡ true → ◌≡◌ {A = ℕ} (cond z 1 0) 0 → NotX (cond x v0 (cond y v1 vx))
    go true y z e f = tt
    go false true z e f = tt
    go false false true e f = absurd (omega (arith, f))
    go false false false e f = absurd (false≢true e)

pub codes-nox : (t : List ℕ) → all_codes t ≡ true → x_count t ≡ 0 → NoX (map value_of t)
codes-nox [] h q = tt
codes-nox (b ∷ t) h q =
    let e : x_of b ≡ 0 = omega (arith, q) in
    let f : x_count t ≡ 0 = omega (arith, q) in
    (code-nox b (and_left (is_code b) (all_codes t) h) e, codes-nox t (and_right (is_code b) (all_codes t) h) f)

nox-take : (n : ℕ) (t : List ℕ) → NoX (map value_of t) → NoX (map value_of (take n t))
nox-take zero t h = tt
nox-take (suc n) [] h = tt
nox-take (suc n) (b ∷ t) h = (h.0, nox-take n t h.1)

nox-drop : (n : ℕ) (t : List ℕ) → NoX (map value_of t) → NoX (map value_of (drop n t))
nox-drop zero t h = h
nox-drop (suc n) [] h = tt
nox-drop (suc n) (b ∷ t) h = nox-drop n t h.1

pub rows-nox : (k n : ℕ) (t : List ℕ) → NoX (map value_of t) → NoXs (map (map value_of) (rows_of k n t))
rows-nox k zero t h = tt
rows-nox k (suc n) t h = (nox-take k t h, rows-nox k n (drop k t) (nox-drop k t h))

module _ (a b : Circuit) (oa : BinaryOrder a) (ob : BinaryOrder b) (wa : WellFormed a) (wb : WellFormed b)
    (inputs-same : length b.inputs ≡ length a.inputs) (outputs-same : length a.outputs ≡ length b.outputs) where
  abbrev I : ℕ
  I = length a.inputs

  abbrev La : ℕ
  La = length a.latches

  abbrev Lb : ℕ
  Lb = length b.latches

  abbrev Aa : ℕ
  Aa = length a.gates

  abbrev Ab : ℕ
  Ab = length b.gates

  abbrev firsts : List Gate
  firsts = map (move_gate (length a.inputs) (length a.latches) 0 (length b.latches)) a.gates

  abbrev seconds : List Gate
  seconds = map (move_gate (length b.inputs) (length b.latches) (length a.latches) (length a.latches + length a.gates)) b.gates

  abbrev ps : List ℕ
  ps = map (as_first a b) a.outputs

  abbrev qs : List ℕ
  qs = map (as_second a b) b.outputs

  abbrev thirds : List Gate
  thirds = compare (after_both a b) 1 (map (as_first a b) a.outputs) (map (as_second a b) b.outputs)

  -- its latches
  abbrev both-next : List ℕ
  both-next = map (as_first a b) (nexts a.latches) ++ map (as_second a b) (nexts b.latches)

  length_both : length both-next ≡ La + Lb
  length_both =
      length-append (map (as_first a b) (nexts a.latches)) (map (as_second a b) (nexts b.latches))
      ∙ ap₂ (λ (m n : ℕ). m + n) (length-map (nexts a.latches) (as_first a b) ∙ length-nexts a.latches)
      (length-map (nexts b.latches) (as_second a b) ∙ length-nexts b.latches)

  inputs-product : length (product a b).inputs ≡ I
  inputs-product = length-lits 1 I

  latches-product : length (product a b).latches ≡ La + Lb
  latches-product = length-latches (1 + I) both-next ∙ length_both

  inner-product : inner (product a b) ≡ 1 + I + (La + Lb)
  inner-product = omega (arith, inputs-product, latches-product)

  -- what has a number in either has one in both
  orda : Ordered a
  orda = well-ordered a oa wa

  ordb : Ordered b
  ordb = well-ordered b ob wb

  -- the literals of the first and of the second
  as_first_lem : (ls : List ℕ) → Bounded (inner a + Aa) ls → Bounded (after_both a b) (map (as_first a b) ls)
  as_first_lem ls h =
      bounded-more (inner a + Aa + Lb) (after_both a b) (map (as_first a b) ls) (omega arith) (bounded-moved I La 0 Lb (omega arith) (inner a + Aa) ls h)

  as-second : (ls : List ℕ) → Bounded (inner b + Ab) ls → Bounded (after_both a b) (map (as_second a b) ls)
  as-second ls h =
      bounded-more (inner b + Ab + (La + Aa)) (after_both a b) (map (as_second a b) ls) (omega arith)
      (bounded-moved (length b.inputs) Lb La (La + Aa) (omega arith) (inner b + Ab) ls h)

  gates-order : InOrder (1 + I + (La + Lb)) (gates_of_both a b)
  gates-order =
      order-append (1 + I + (La + Lb)) firsts (seconds ++ thirds)
      (cast (1 + I + La + Lb) (1 + I + (La + Lb)) firsts (omega arith) (order-moved I La 0 Lb (omega arith) (1 + I + La) a.gates (omega arith) oa.gates))
      (order-append (1 + I + (La + Lb) + length firsts) seconds thirds
      (cast (1 + length b.inputs + Lb + (La + Aa)) (1 + I + (La + Lb) + length firsts) seconds (omega (arith, lf))
      (order-moved (length b.inputs) Lb La (La + Aa) (omega arith) (1 + length b.inputs + Lb) b.gates (omega arith) ob.gates))
      (cast (after_both a b) (1 + I + (La + Lb) + length firsts + length seconds) thirds (omega (arith, lf, lg))
      (compare-order (after_both a b) 1 ps qs (as_first_lem a.outputs orda.output-in) (as-second b.outputs ordb.output-in) (omega arith))))
    where
      cast : (m n : ℕ) (gs : List Gate) → m ≡ n → InOrder m gs → InOrder n gs
      cast m n gs e o = subst (λ (k : ℕ). InOrder k gs) e o

      lf : length firsts ≡ Aa
      lf = length-map a.gates (move_gate I La 0 Lb)

      lg : length seconds ≡ Ab
      lg = length-map b.gates (move_gate (length b.inputs) Lb La (La + Aa))

  pub product-order : BinaryOrder (product a b)
  product-order = record {
    sum = ap₂ (λ (m n : ℕ). m + n + length (gates_of_both a b)) inputs-product latches-product;
    inputs = ap (lits_from 1) (sym inputs-product);
    latches = ap₂ (λ (n : ℕ) (ls : List ℕ). latches_from (1 + n) ls) (sym inputs-product) (sym (nexts-latches (1 + I) both-next));
    gates = subst (λ (n : ℕ). InOrder n (gates_of_both a b)) (sym inner-product) gates-order;
  }

  -- the variables of both are below those of all
  all-gates : after_both a b + length thirds ≡ inner (product a b) + length (gates_of_both a b)
  all-gates =
      omega (
        arith,
        inner-product,
        length-append firsts (seconds ++ thirds),
        length-append seconds thirds,
        length-map a.gates (move_gate I La 0 Lb),
        length-map b.gates (move_gate (length b.inputs) Lb La (La + Aa)),
      )

  within : (ls : List ℕ) → Bounded (after_both a b) ls → Bounded (inner (product a b) + length (gates_of_both a b)) ls
  within ls h = bounded-more (after_both a b) (inner (product a b) + length (gates_of_both a b)) ls (omega (arith, all-gates)) h

  pub product-ordered : Ordered (product a b)
  product-ordered = record {
    gates-in = Rattle.laws.proofs.Running.InOrder.order-binary (inner (product a b)) (gates_of_both a b) product-order.gates;
    next-in = subst (Bounded (inner (product a b) + length (gates_of_both a b))) (sym (nexts-latches (1 + I) both-next))
        (within both-next
        (bounded-append (after_both a b) (map (as_first a b) (nexts a.latches)) (map (as_second a b) (nexts b.latches))
        (as_first_lem (nexts a.latches) orda.next-in) (as-second (nexts b.latches) ordb.next-in)));
    output-in = tt;
    bad-in = (neg (alike_lit (after_both a b) 1 ps qs) (omega (arith, all-gates, alike-low (after_both a b) 1 ps qs (omega arith))), tt);
    constraint-in = within (map (as_first a b) a.constraints ++ map (as_second a b) b.constraints)
        (bounded-append (after_both a b) (map (as_first a b) a.constraints) (map (as_second a b) b.constraints)
        (as_first_lem a.constraints orda.constraint-in) (as-second b.constraints ordb.constraint-in));
  }
    where
      neg : (l : ℕ) → var_of l < inner (product a b) + length (gates_of_both a b) → var_of (neg_of l) < inner (product a b) + length (gates_of_both a b)
      neg l h = go (inner (product a b) + length (gates_of_both a b)) h
        where
          go : (n : ℕ) → var_of l < n → var_of (neg_of l) < n
          go n q = omega arith

  pub product-accepted : Accepted (product a b)
  product-accepted = ordered-accepted (product a b) product-order product-ordered

  -- it starts as both
  pub product-first : first_state (product a b) ≡ first_state a ++ first_state b
  product-first =
      map-append reset_value (map (as_first a b) a.resets) (map (as_second a b) b.resets)
      ∙ ap₂ (λ (s t : List Value). s ++ t) (resets-moved I La 0 Lb (omega arith) a.resets)
      (resets-moved (length b.inputs) Lb La (La + Aa) (omega arith) b.resets)

  pub product-sized : length (first_state (product a b)) ≡ length (product a b).latches
  product-sized =
      ap length product-first ∙ length-append (first_state a) (first_state b)
      ∙ ap₂ (λ (m n : ℕ). m + n) (first-length a wa) (first-length b wb) ∙ sym latches-product

  -- a step
  module _ (sa sb ins : List Value) (la : length sa ≡ La) (lb : length sb ≡ Lb) (li : length ins ≡ I) where
    abbrev w : ℕ → Value
    w = values_of (product a b) (sa ++ sb) ins

    ls : length (sa ++ sb) ≡ length (product a b).latches
    ls = length-append sa sb ∙ omega (arith, latches-product)

    lip : length ins ≡ length (product a b).inputs
    lip = li ∙ sym inputs-product

    lis : length ins ≡ length b.inputs
    lis = li ∙ sym inputs-same

    hold : Holds (values_of (product a b) (sa ++ sb) ins) (gates_of_both a b)
    hold = values-hold (product a b) product-order (sa ++ sb) ins ls lip

    leaf : (v : ℕ) → v < 1 + I + (La + Lb) → values_of (product a b) (sa ++ sb) ins v ≡ get_or (given (sa ++ sb) ins) v vx
    leaf v h = values-leaf (product a b) product-order (sa ++ sb) ins ls lip v (omega (arith, inner-product))

    low_first : (v : ℕ) → v < inner a → values_of (product a b) (sa ++ sb) ins (moved I La 0 Lb v) ≡ get_or (given sa ins) v vx
    low_first v h =
        ap (values_of (product a b) (sa ++ sb) ins) (stays (native.Mathlib.Decide.dec_le (1 + I) v)) ∙ leaf v (omega arith)
        ∙ ap (λ (t : List Value). get_or (v0 ∷ t) v vx) (sym (append_assoc ins sa sb))
        ∙ get_or-append (v0 ∷ (ins ++ sa)) sb vx v (omega (arith, length-append ins sa))
      where
        stays : Dec (1 + I ≤ v) → moved I La 0 Lb v ≡ v
        stays (yes q) = moved-mid I La 0 Lb (omega arith) v q h ∙ same v
          where
            same : (n : ℕ) → n + 0 ≡ n
            same n = omega arith
        stays (no q) = moved-low I La 0 Lb (omega arith) v (omega arith)

    low_second : (v : ℕ) → v < inner b
        → values_of (product a b) (sa ++ sb) ins (moved (length b.inputs) Lb La (La + Aa) v) ≡ get_or (given sb ins) v vx
    low_second v h = go (native.Mathlib.Decide.dec_le (1 + length b.inputs) v)
      where
        go : Dec (1 + length b.inputs ≤ v)
            → values_of (product a b) (sa ++ sb) ins (moved (length b.inputs) Lb La (La + Aa) v) ≡ get_or (given sb ins) v vx
        go (no q) =
            ap (values_of (product a b) (sa ++ sb) ins) (moved-low (length b.inputs) Lb La (La + Aa) (omega arith) v (omega arith))
            ∙ leaf v (omega (arith, inputs-same))
            ∙ get_or-append (v0 ∷ ins) (sa ++ sb) vx v (omega (arith, inputs-same, li))
            ∙ sym (get_or-append (v0 ∷ ins) sb vx v (omega (arith, inputs-same, li)))
        go (yes q) =
            ap (values_of (product a b) (sa ++ sb) ins) (moved-mid (length b.inputs) Lb La (La + Aa) (omega arith) v q h)
            ∙ leaf (v + La) (omega (arith, inputs-same))
            ∙ far (v - (1 + length b.inputs)) (omega arith)
          where
            far : (n : ℕ) → v ≡ 1 + length b.inputs + n → get_or (given (sa ++ sb) ins) (v + La) vx ≡ get_or (given sb ins) v vx
            far n e =
                let e1 : v + La ≡ length (v0 ∷ (ins ++ sa)) + n = omega (arith, length-append ins sa, la, li, inputs-same) in
                let e2 : v ≡ length (v0 ∷ ins) + n = omega (arith, li, inputs-same) in
                ap₂ (λ (t : List Value) (k : ℕ). get_or (v0 ∷ t) k vx) (sym (append_assoc ins sa sb)) e1
                ∙ get_or-append-add (v0 ∷ (ins ++ sa)) sb n vx
                ∙ sym (get_or-append-add (v0 ∷ ins) sb n vx)
                ∙ ap (λ (k : ℕ). get_or (given sb ins) k vx) (sym e2)

    first-lits : (ks : List ℕ) → Bounded (inner a + Aa) ks
        → map (lit (values_of (product a b) (sa ++ sb) ins)) (map (as_first a b) ks) ≡ map (lit (values_of a sa ins)) ks
    first-lits = lits-same a oa sa ins la li 0 Lb (omega arith) w (holds-left w firsts (seconds ++ thirds) hold) low_first

    second-lits : (ks : List ℕ) → Bounded (inner b + Ab) ks
        → map (lit (values_of (product a b) (sa ++ sb) ins)) (map (as_second a b) ks) ≡ map (lit (values_of b sb ins)) ks
    second-lits =
        lits-same b ob sb ins lb lis La (La + Aa) (omega arith) w
        (holds-left w seconds thirds (holds-right w firsts (seconds ++ thirds) hold)) low_second

    both-lits : (ks bs : List ℕ) → Bounded (inner a + Aa) ks → Bounded (inner b + Ab) bs
        → map (lit (values_of (product a b) (sa ++ sb) ins)) (map (as_first a b) ks ++ map (as_second a b) bs)
        ≡ map (lit (values_of a sa ins)) ks ++ map (lit (values_of b sb ins)) bs
    both-lits ks bs p q =
        map-append (lit w) (map (as_first a b) ks) (map (as_second a b) bs) ∙ ap₂ (λ (s t : List Value). s ++ t) (first-lits ks p) (second-lits bs q)

    pub product-next : next_of (product a b) (sa ++ sb) ins ≡ next_of a sa ins ++ next_of b sb ins
    product-next =
        ap (map (lit w)) (nexts-latches (1 + I) both-next)
        ∙ both-lits (nexts a.latches) (nexts b.latches) orda.next-in ordb.next-in

    pub product-constraints : constraints_of (product a b) (sa ++ sb) ins ≡ constraints_of a sa ins ++ constraints_of b sb ins
    product-constraints = both-lits a.constraints b.constraints orda.constraint-in ordb.constraint-in

    module _ (na : NoX sa) (nb : NoX sb) (ni : NoX ins) where
      outs-a : NoX (outputs_of a sa ins)
      outs-a = lits-nox a (accepted a wa) sa ins la li na ni a.outputs (accepted a wa).used-output

      outs-b : NoX (outputs_of b sb ins)
      outs-b = lits-nox b (accepted b wb) sb ins lb lis nb ni b.outputs (accepted b wb).used-output

      pub nexts-a : NoX (next_of a sa ins)
      nexts-a = lits-nox a (accepted a wa) sa ins la li na ni (nexts a.latches) (accepted a wa).used-next

      pub nexts-b : NoX (next_of b sb ins)
      nexts-b = lits-nox b (accepted b wb) sb ins lb lis nb ni (nexts b.latches) (accepted b wb).used-next

      one : lit (values_of (product a b) (sa ++ sb) ins) 1 ≡ v1
      one = ap Rattle.plan.specs.Step.inv (leaf 0 (omega arith))

      -- its bad state: some output differs
      pub product-bads : any1 (bads_of (product a b) (sa ++ sb) ins) ≡ not (same_all (outputs_of a sa ins) (outputs_of b sb ins))
      product-bads =
          let pa = first-lits a.outputs orda.output-in in
          let pb = second-lits b.outputs ordb.output-in in
          let r = compare-is w (after_both a b) 1 ps qs
          (length-map a.outputs (as_first a b) ∙ outputs-same ∙ sym (length-map b.outputs (as_second a b)))
          (holds-right w seconds thirds (holds-right w firsts (seconds ++ thirds) hold)) (subst NoX (sym pa) outs-a)
          (subst NoX (sym pb) outs-b) (subst Rattle.laws.proofs.Running.WithoutX.NotX (sym one) tt) in
          or-none (is1 (lit w (neg_of (alike_lit (after_both a b) 1 ps qs))))
          ∙ ap is1 (Rattle.laws.proofs.Running.Signs.lit-neg w (alike_lit (after_both a b) 1 ps qs))
          ∙ inv-is (lit w (alike_lit (after_both a b) 1 ps qs)) r.0
          ∙ ap not (r.1 ∙ ap (λ (x : Value). is1 x && same_all (map (lit w) ps) (map (lit w) qs)) one ∙ ap₂ same_all pa pb)
        where
          or-none : (x : Bool) → (x || false) ≡ x
          or-none true = refl
          or-none false = refl

  -- a run shows a 1 exactly if the two runs differ
  pub product-run : (is : List (List Value)) (sa sb : List Value) → length sa ≡ La → length sb ≡ Lb → NoX sa → NoX sb → Sized I is → NoXs is
      → shows1 (run (product a b) (sa ++ sb) is) ≡ differ (run a sa is) (run b sb is)
  product-run [] sa sb la lb na nb z ni = refl
  product-run (i ∷ is) sa sb la lb na nb z ni =
      ap₂ (λ (p q : Bool). p && q)
      (ap all1 (product-constraints sa sb i la lb z.0) ∙ all1-append (constraints_of a sa i) (constraints_of b sb i))
      (ap₂ (λ (p q : Bool). p || q) (product-bads sa sb i la lb z.0 na nb ni.0)
      (ap (λ (s : List Value). shows1 (run (product a b) s is)) (product-next sa sb i la lb z.0)
      ∙ product-run is (next_of a sa i) (next_of b sb i) (next-length a sa i) (next-length b sb i)
      (nexts-a sa sb i la lb z.0 na nb ni.0) (nexts-b sa sb i la lb z.0 na nb ni.0) z.1 ni.1))

  -- it starts as both, filled by the same number
  codes-product : start_of (product a b) ≡ start_of a ++ start_of b
  codes-product = ap (map code_of) product-first ∙ map-append code_of (first_state a) (first_state b)

  length-start : length (start_of a) ≡ length a.latches
  length-start = length-map (first_state a) code_of ∙ first-length a wa

  pub product-start : (k : ℕ) → start_at (length a.latches) (product a b) k ≡ filling k (start_of a) ++ filling k (start_of b)
  product-start k =
      ap (fill_both (length a.latches) k) codes-product
      ∙ ap₂ (λ (s t : List ℕ). filling k s ++ filling k t) (take_at (start_of a) (start_of b) (length a.latches) length-start)
      (drop_at (start_of a) (start_of b) (length a.latches) length-start)

  -- a list that shows its bad state parts the two, and the other way round
  pub product-shows : (k number : ℕ) (bytes : List ℕ) → length bytes ≡ number * length a.inputs → all_codes bytes ≡ true → x_count bytes ≡ 0
      → shows_at (product a b) (start_at (length a.latches) (product a b) k) number bytes
      ≡ differ (run a (map value_of (filling k (start_of a))) (vectors_of a number bytes)) (run b (map value_of (filling k (start_of b))) (vectors_of b number bytes))
  product-shows k number bytes z q x =
      let sa = map value_of (filling k (start_of a)) in
      let sb = map value_of (filling k (start_of b)) in
      let is = map (map value_of) (rows_of (length a.inputs) number bytes) in
      ap₂ (λ (s : List ℕ) (n : ℕ). shows1 (run (product a b) (map value_of s) (map (map value_of) (rows_of n number bytes)))) (product-start k) inputs-product
      ∙ ap (λ (s : List Value). shows1 (run (product a b) s is)) (map-append value_of (filling k (start_of a)) (filling k (start_of b)))
      ∙ product-run is sa sb
      (length-map (filling k (start_of a)) value_of ∙ fill-length k 0 (start_of a) ∙ length-start)
      (length-map (filling k (start_of b)) value_of ∙ fill-length k 0 (start_of b) ∙ length-map (first_state b) code_of ∙ first-length b wb)
      (fills-two-valued (start_of a) (filling k (start_of a)) (all_codes_lem (first_state a)) (fill-fills k 0 (start_of a)))
      (fills-two-valued (start_of b) (filling k (start_of b)) (all_codes_lem (first_state b)) (fill-fills k 0 (start_of b)))
      (rows-sized (length a.inputs) number bytes z) (rows-nox (length a.inputs) number bytes (codes-nox bytes q x))
      ∙ ap (λ (n : ℕ). differ (run a sa is) (run b sb (map (map value_of) (rows_of n number bytes)))) (sym inputs-same)

  -- what parts them: a filling, and bytes without x
  pub record Parting : Type 0 where
    pub filled : ℕ
    pub number : ℕ
    pub bytes : List ℕ
    pub sized : length bytes ≡ number * length a.inputs
    pub codes : all_codes bytes ≡ true
    pub without-x : x_count bytes ≡ 0
    pub parts : differ (run a (map value_of (filling filled (start_of a))) (vectors_of a number bytes))
        (run b (map value_of (filling filled (start_of b))) (vectors_of b number bytes)) ≡ true

  as-parting : CanHappen (length a.latches) (product a b) → Parting
  as-parting h =
      let z : length h.bytes ≡ h.number * length a.inputs = h.sized ∙ ap (λ (n : ℕ). h.number * n) inputs-product in
      record {
        filled = h.filling;
        number = h.number;
        bytes = h.bytes;
        sized = z;
        codes = h.codes;
        without-x = h.without-x;
        parts = sym (product-shows h.filling h.number h.bytes z h.codes h.without-x) ∙ h.shows;
      }

  as-happening : Parting → CanHappen (length a.latches) (product a b)
  as-happening h = record {
    filling = h.filled;
    number = h.number;
    bytes = h.bytes;
    sized = h.sized ∙ ap (λ (n : ℕ). h.number * n) (sym inputs-product);
    codes = h.codes;
    without-x = h.without-x;
    shows = product-shows h.filled h.number h.bytes h.sized h.codes h.without-x ∙ h.parts;
  }

  -- never: both are alike
  pub never-alike : (allowance n t : ℕ) → can_happen (length a.latches) (product a b) allowance ≡ never n t → Alike a b
  never-alike allowance n t e k number bytes z q x =
      absent (differ (run a (map value_of (filling k (start_of a))) (vectors_of a number bytes))
      (run b (map value_of (filling k (start_of b))) (vectors_of b number bytes)))
      (λ p. never-cannot (length a.latches) (product a b) product-accepted product-sized allowance n t e
      (as-happening (record { filled = k; number = number; bytes = bytes; sized = z; codes = q; without-x = x; parts = p })))

  -- it happens: the list that is found parts them, and no shorter one does
  pub happens-parts : (allowance t : ℕ) (way : Way) → can_happen (length a.latches) (product a b) allowance ≡ happens way t → Parting
  happens-parts allowance t way e =
      as-parting (happens-can (length a.latches) (product a b) product-accepted product-sized allowance t way e)

  pub parts-shortest : (allowance t : ℕ) (way : Way) → can_happen (length a.latches) (product a b) allowance ≡ happens way t
      → (h : Parting) → h.number < length way.list → ⊥
  unfolding as-happening
  parts-shortest allowance t way e h =
      none-shorter (length a.latches) (product a b) product-accepted product-sized allowance t way e (as-happening h)

  -- with allowance for all: never exactly if both are alike
  pub alike-exactly : (allowance : ℕ) → 2 ^ length (product a b).latches * 2 ^ length (product a b).inputs ≤ allowance
      → ((n : ℕ) × (t : ℕ) × (can_happen (length a.latches) (product a b) allowance ≡ never n t)) ↔ Alike a b
  alike-exactly allowance h = (
    (λ r. never-alike allowance r.0 r.1 r.2),
    (λ alike. (never-exactly (length a.latches) (product a b) product-accepted product-sized allowance h).1
        (λ can. let p = as-parting can in
        false≢true (sym (alike p.filled p.number p.bytes p.sized p.codes p.without-x) ∙ p.parts))),
  )

  -- within the limits it is well formed, so that it can be given as tables
  resets-product : resets_ok (product a b).latches (product a b).resets ≡ true
  resets-product =
      ap (λ (ls : List Latch). resets_ok ls (product a b).resets)
      (from-append (1 + I) (map (as_first a b) (nexts a.latches)) (map (as_second a b) (nexts b.latches)))
      ∙ resets_append (latches_from (1 + I) (map (as_first a b) (nexts a.latches)))
      (latches_from (1 + I + length (map (as_first a b) (nexts a.latches))) (map (as_second a b) (nexts b.latches)))
      (map (as_first a b) a.resets) (map (as_second a b) b.resets) one two
    where
      na : length (nexts a.latches) ≡ La
      na = length-nexts a.latches

      nb : length (nexts b.latches) ≡ Lb
      nb = length-nexts b.latches

      place : 1 + length b.inputs + La ≡ 1 + I + length (map (as_first a b) (nexts a.latches))
      place = omega (arith, inputs-same, length-map (nexts a.latches) (as_first a b), na)

      same_place : 1 + I + 0 ≡ 1 + I
      same_place = omega arith

      one : resets_ok (latches_from (1 + I) (map (as_first a b) (nexts a.latches))) (map (as_first a b) a.resets) ≡ true
      one =
          ap (λ (v : ℕ). resets_ok (latches_from v (map (as_first a b) (nexts a.latches))) (map (as_first a b) a.resets)) (sym same_place)
          ∙ resets-at I La 0 Lb (omega arith) (nexts a.latches) (map (as_first a b) (nexts a.latches)) a.resets (1 + I) (omega arith)
          (omega (arith, na)) (length-map (nexts a.latches) (as_first a b))
          (ap (λ (ls : List Latch). resets_ok ls a.resets) (sym oa.latches) ∙ wa.resets)

      two : resets_ok (latches_from (1 + I + length (map (as_first a b) (nexts a.latches))) (map (as_second a b) (nexts b.latches)))
          (map (as_second a b) b.resets) ≡ true
      two =
          ap (λ (v : ℕ). resets_ok (latches_from v (map (as_second a b) (nexts b.latches))) (map (as_second a b) b.resets)) (sym place)
          ∙ resets-at (length b.inputs) Lb La (La + Aa) (omega arith) (nexts b.latches) (map (as_second a b) (nexts b.latches)) b.resets
          (1 + length b.inputs) (omega arith) (omega (arith, nb)) (length-map (nexts b.latches) (as_second a b))
          (ap (λ (ls : List Latch). resets_ok ls b.resets) (sym ob.latches) ∙ wb.resets)

  pub product-formed : (product a b).M ≤ most → length (product a b).constraints ≤ most → WellFormed (product a b)
  product-formed m q =
      let e : inner (product a b) + length (gates_of_both a b) ≡ suc (product a b).M = omega (arith, product-order.sum) in
      let o = product-ordered in
      well-formed (product a b) product-order m (omega arith) (omega arith) q resets-product
      (subst (λ (n : ℕ). Bounded n (nexts (product a b).latches)) e o.next-in) tt
      (subst (λ (n : ℕ). Bounded n (product a b).bads) e o.bad-in)
      (subst (λ (n : ℕ). Bounded n (product a b).constraints) e o.constraint-in)
