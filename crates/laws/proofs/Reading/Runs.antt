-- Literals that run from a variable on: their ranges, their variables, which are all new; binary order as the runs that it asks for.
use Prim.Native.Nat.{ℕ, suc, zero, ◌+◌, ◌*◌, ◌/◌, ◌%◌, ◌<◌, ◌≤◌}
use mathlib.Core.Path.{◌≡◌, refl, sym, ap, ap₂, ◌∙◌}
use mathlib.Core.Bool.{Bool, true, false, not, ◌&&◌, ◌||◌}
use mathlib.Core.Logic.{◌↔◌}
use mathlib.Core.List.{List, [], ◌∷◌, ◌++◌, map}
use native.Mathlib.Omega.{arith}
use borrow.Author.Tests.{eqb-true, eq-eqb, le-leb}
use lib.Dec.{eqb, leb}
use lib.ListN.{length, length-map}
use Rattle.plan.specs.Literals.{var_of, in_range}
use Rattle.plan.specs.Circuit.{Gate, Latch, Circuit, counts_of, one_line, latch_line, gate_line, literal_of, vars, current_vars, left_vars, nexts, has, all_new}
use Rattle.plan.specs.Circuit.{inside, all_inside}
use Rattle.plan.specs.Header.{binary, adds}
use Rattle.plan.specs.Binary.{lits_from, latches_from, runs, falls, binary_order}
use Rattle.laws.proofs.Reading.Common.{and_left, and_right, and_intro}
use Rattle.laws.proofs.Reading.Order.{InOrder, order-tested, order-runs, order-falls}

-- ranges of a run
even-in : (m v : ℕ) → 1 ≤ v → v ≤ m → in_range true m (2 * v) ≡ true
even-in m v h k =
    let e : (2 * v) % 2 ≡ 0 = omega arith in
    and_intro (eqb ((2 * v) % 2) 0) _ (eq-eqb _ _ e)
    (and_intro (leb 2 (2 * v)) (leb (2 * v) (2 * m)) (le-leb 2 (2 * v) (omega arith)) (le-leb (2 * v) (2 * m) (omega arith)))

pub lits-inside : (m n v : ℕ) → 1 ≤ v → v + n ≤ m + 1 → all_inside true m (map one_line (lits_from v n)) ≡ true
lits-inside m zero v h k = refl
lits-inside m (suc n) v h k =
    and_intro (inside true m (one_line (2 * v))) _ (and_intro (in_range true m (2 * v)) _ (even-in m v h (omega arith)) refl)
    (lits-inside m n (suc v) (omega arith) (omega arith))

pub latches-inside : (m v : ℕ) (ls : List ℕ) → 1 ≤ v → v + length ls ≤ m + 1 → all_inside false m (map one_line ls) ≡ true
    → all_inside true m (map latch_line (latches_from v ls)) ≡ true
latches-inside m v [] h k i = refl
latches-inside m v (l ∷ ls) h k i =
    and_intro (inside true m (2 * v ∷ l ∷ [])) _
    (and_intro (in_range true m (2 * v)) _ (even-in m v h (omega arith)) (and_left (inside false m (one_line l)) _ i))
    (latches-inside m (suc v) ls (omega arith) (omega arith) (and_right (inside false m (one_line l)) _ i))

pub gates-inside : (m v : ℕ) (gs : List Gate) → InOrder v gs → 1 ≤ v → v + length gs ≤ m + 1 → all_inside true m (map gate_line gs) ≡ true
gates-inside m v [] o h k = refl
gates-inside m v (g ∷ gs) o h k =
    and_intro (inside true m (gate_line g)) _
    (and_intro (in_range true m g.lhs) _ (ap (in_range true m) o.0 ∙ even-in m v h (omega arith))
    (and_intro (in_range false m g.rhs0) _ (le-leb g.rhs0 (2 * m + 1) (omega (arith, o.0, o.1)))
    (and_intro (in_range false m g.rhs1) _ (le-leb g.rhs1 (2 * m + 1) (omega (arith, o.0, o.1, o.2))) refl)))
    (gates-inside m (suc v) gs o.3 (omega arith) (omega arith))

-- the variables of a run
abbrev pub up_from : ℕ → ℕ → List ℕ
up_from v zero = []
up_from v (suc n) = v ∷ up_from (suc v) n

pub up-append : (v n k : ℕ) → up_from v (n + k) ≡ up_from v n ++ up_from (v + n) k
up-append v zero k =
    let a : 0 + k ≡ k = omega arith in
    let b : v ≡ v + 0 = omega arith in
    ap (up_from v) a ∙ ap (λ (x : ℕ). up_from x k) b
up-append v (suc n) k =
    let a : suc n + k ≡ suc (n + k) = omega arith in
    let b : suc v + n ≡ v + suc n = omega arith in
    ap (up_from v) a ∙ ap (λ (l : List ℕ). v ∷ l) (up-append (suc v) n k ∙ ap (λ (x : ℕ). up_from (suc v) n ++ up_from x k) b)

half : (v : ℕ) → (2 * v) / 2 ≡ v
half v = omega arith

pub vars-lits : (v n : ℕ) → vars (lits_from v n) ≡ up_from v n
vars-lits v zero = refl
vars-lits v (suc n) = ap₂ (λ (x : ℕ) (l : List ℕ). x ∷ l) (half v) (vars-lits (suc v) n)

pub currents-latches : (v : ℕ) (ls : List ℕ) → current_vars (latches_from v ls) ≡ up_from v (length ls)
currents-latches v [] = refl
currents-latches v (l ∷ ls) = ap₂ (λ (x : ℕ) (l : List ℕ). x ∷ l) (half v) (currents-latches (suc v) ls)

pub lefts-gates : (v : ℕ) (gs : List Gate) → InOrder v gs → left_vars gs ≡ up_from v (length gs)
lefts-gates v [] o = refl
lefts-gates v (g ∷ gs) o = ap₂ (λ (x : ℕ) (l : List ℕ). x ∷ l) (ap var_of o.0 ∙ half v) (lefts-gates (suc v) gs o.3)

-- all below v
abbrev Below : ℕ → List ℕ → Type 0
Below v [] = Unit {0}
Below v (u ∷ us) = (u < v) × Below v us

below-not : (v : ℕ) (us : List ℕ) → Below v us → has v us ≡ false
below-not v [] h = refl
below-not v (u ∷ us) h = go (eqb u v) refl (below-not v us h.1)
  where
    go : (t : Bool) → eqb u v ≡ t → has v us ≡ false → (t || has v us) ≡ false
    go true e k = absurd (omega (arith, eqb-true u v e, h.0))
    go false e k = k

below_more : (v : ℕ) (us : List ℕ) → Below v us → Below (suc v) (us ++ (v ∷ []))
below_more v [] h = (omega arith, tt)
below_more v (u ∷ us) h = (omega (arith, h.0), below_more v us h.1)

up-new : (n v : ℕ) (seen : List ℕ) → Below v seen → all_new seen (up_from v n) ≡ true
up-new zero v seen h = refl
up-new (suc n) v seen h =
    and_intro (not (has v seen)) _ (ap not (below-not v seen h)) (up-new n (suc v) (seen ++ (v ∷ [])) (below_more v seen h))

pub run-new : (i l a : ℕ) → all_new [] (up_from 1 i ++ (up_from (1 + i) l ++ up_from (1 + i + l) a)) ≡ true
run-new i l a =
    ap (all_new []) (ap (λ (x : List ℕ). up_from 1 i ++ x) (sym (up-append (1 + i) l a)) ∙ sym (up-append 1 i (l + a)))
    ∙ up-new (i + (l + a)) 1 [] tt

-- lengths
pub length-lits : (v n : ℕ) → length (lits_from v n) ≡ n
length-lits v zero = refl
length-lits v (suc n) = ap suc (length-lits (suc v) n)

pub length-latches : (v : ℕ) (ls : List ℕ) → length (latches_from v ls) ≡ length ls
length-latches v [] = refl
length-latches v (l ∷ ls) = ap suc (length-latches (suc v) ls)

pub length-nexts : (ls : List Latch) → length (nexts ls) ≡ length ls
length-nexts [] = refl
length-nexts (l ∷ ls) = ap suc (length-nexts ls)

pub nexts-latches : (v : ℕ) (ls : List ℕ) → nexts (latches_from v ls) ≡ ls
nexts-latches v [] = refl
nexts-latches v (l ∷ ls) = ap (λ (x : List ℕ). l ∷ x) (nexts-latches (suc v) ls)

-- binary order as what it asks for
pub record BinaryOrder (c : Circuit) : Type 0 where
  pub sum : length c.inputs + length c.latches + length c.gates ≡ c.M
  pub inputs : c.inputs ≡ lits_from 1 (length c.inputs)
  pub latches : c.latches ≡ latches_from (1 + length c.inputs) (nexts c.latches)
  pub gates : InOrder (1 + length c.inputs + length c.latches) c.gates

runs_append : (v : ℕ) (a b : List (List ℕ)) → runs v (a ++ b) ≡ (runs v a && runs (v + length a) b)
runs_append v [] b = let e : v ≡ v + 0 = omega arith in ap (λ (x : ℕ). runs x b) e
runs_append v (row ∷ a) b = go (eqb (literal_of row) (2 * v)) (runs_append (suc v) a b)
  where
    go : (t : Bool) → runs (suc v) (a ++ b) ≡ (runs (suc v) a && runs (suc v + length a) b)
        → (t && runs (suc v) (a ++ b)) ≡ ((t && runs (suc v) a) && runs (v + suc (length a)) b)
    go true h = let e : suc v + length a ≡ v + suc (length a) = omega arith in h ∙ ap (λ (x : ℕ). runs (suc v) a && runs x b) e
    go false h = refl

lits-run : (v n : ℕ) → runs v (map one_line (lits_from v n)) ≡ true
lits-run v zero = refl
lits-run v (suc n) = and_intro (eqb (2 * v) (2 * v)) _ (eq-eqb (2 * v) (2 * v) refl) (lits-run (suc v) n)

run-lits : (v : ℕ) (ls : List ℕ) → runs v (map one_line ls) ≡ true → ls ≡ lits_from v (length ls)
run-lits v [] h = refl
run-lits v (l ∷ ls) h =
    ap₂ (λ (x : ℕ) (y : List ℕ). x ∷ y) (eqb-true _ _ (and_left (eqb l (2 * v)) _ h)) (run-lits (suc v) ls (and_right (eqb l (2 * v)) _ h))

latches-run : (v : ℕ) (ls : List ℕ) → runs v (map latch_line (latches_from v ls)) ≡ true
latches-run v [] = refl
latches-run v (l ∷ ls) = and_intro (eqb (2 * v) (2 * v)) _ (eq-eqb (2 * v) (2 * v) refl) (latches-run (suc v) ls)

run-latches : (v : ℕ) (ls : List Latch) → runs v (map latch_line ls) ≡ true → ls ≡ latches_from v (nexts ls)
run-latches v [] h = refl
run-latches v (l ∷ ls) h =
    let e : l.current ≡ 2 * v = eqb-true _ _ (and_left (eqb l.current (2 * v)) _ h) in
    let t = run-latches (suc v) ls (and_right (eqb l.current (2 * v)) _ h) in
    λ i. record { current = e i; next = l.next } ∷ t i

module _ (c : Circuit) where
  -- the rows of the three tables run on, one table after the other
  pub all_runs : runs 1 (map one_line c.inputs ++ (map latch_line c.latches ++ map gate_line c.gates))
      ≡ (runs 1 (map one_line c.inputs)
      && (runs (1 + length c.inputs) (map latch_line c.latches) && runs (1 + length c.inputs + length c.latches)
      (map gate_line c.gates)))
  all_runs =
      runs_append 1 (map one_line c.inputs) (map latch_line c.latches ++ map gate_line c.gates)
      ∙ ap (λ (x : Bool). runs 1 (map one_line c.inputs) && x)
      (ap (λ (n : ℕ). runs (1 + n) (map latch_line c.latches ++ map gate_line c.gates)) (length-map c.inputs one_line)
      ∙ (runs_append (1 + length c.inputs) (map latch_line c.latches) (map gate_line c.gates)
      ∙ ap (λ (n : ℕ). runs (1 + length c.inputs) (map latch_line c.latches) && runs (1 + length c.inputs + n)
      (map gate_line c.gates))
      (length-map c.latches latch_line)))

  -- the test of binary order passes exactly if it holds
  pub order-exactly : (binary_order c ≡ true) ↔ BinaryOrder c
  order-exactly = (holds, passes)
    where
      rows : List (List ℕ)
      rows = map one_line c.inputs ++ (map latch_line c.latches ++ map gate_line c.gates)

      holds : binary_order c ≡ true → BinaryOrder c
      holds h =
          let i = length c.inputs in
          let l = length c.latches in
          let h1 = and_right (adds binary (counts_of c)) _ h in
          let h2 = sym all_runs ∙ and_left (runs 1 rows) (falls c.gates) h1 in
          let h3 = and_right (runs 1 (map one_line c.inputs)) _ h2 in
          record {
            sum = eqb-true _ _ (and_left (adds binary (counts_of c)) _ h);
            inputs = run-lits 1 c.inputs (and_left (runs 1 (map one_line c.inputs)) _ h2);
            latches = run-latches (1 + i) c.latches (and_left (runs (1 + i) (map latch_line c.latches)) _ h3);
            gates =
                order-tested (1 + i + l) c.gates (and_right (runs (1 + i) (map latch_line c.latches)) _ h3)
                (and_right (runs 1 rows) (falls c.gates) h1);
          }

      passes : BinaryOrder c → binary_order c ≡ true
      passes o =
          let i = length c.inputs in
          let l = length c.latches in
          let r1 : runs 1 (map one_line c.inputs) ≡ true = ap (λ (x : List ℕ). runs 1 (map one_line x)) o.inputs ∙ lits-run 1 i in
          let r2 : runs (1 + i) (map latch_line c.latches) ≡ true
          = ap (λ (x : List Latch). runs (1 + i) (map latch_line x)) o.latches ∙ latches-run (1 + i) (nexts c.latches) in
          and_intro (adds binary (counts_of c)) _ (eq-eqb _ _ o.sum)
          (and_intro (runs 1 rows) (falls c.gates)
          (all_runs ∙ and_intro (runs 1 (map one_line c.inputs)) _ r1
          (and_intro (runs (1 + i) (map latch_line c.latches)) _ r2 (order-runs (1 + i + l) c.gates o.gates)))
          (order-falls (1 + i + l) c.gates o.gates))
