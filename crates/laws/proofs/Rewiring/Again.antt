-- Rewiring accepts what an earlier call left in binary order where a step's values are on the screen; and after a rewiring a step's values are
-- on the screen, so that the drawer may go on.
use Prim.Native.Nat.{ℕ, ◌+◌, ◌*◌, ◌≤◌, ◌<◌}
use mathlib.Core.Path.{◌≡◌, sym, ap, ap₂, ◌∙◌, subst}
use mathlib.Core.Bool.{true}
use mathlib.Core.List.{List, [], ◌∷◌, ◌++◌, map}
use Rattle.std.specs.Prelude.{Ok, Option, None}
use native.Mathlib.Omega.{arith}
use borrow.Author.Tests.{lt-ltb, le-leb, eq-eqb}
use lib.Dec.{eqb, leb, ltb}
use lib.ListN.{length, get_or, take, drop, length-drop}
use lib.Seq.{get_or-take, get_or-drop, length-take-le, ext_get_or}
use Rattle.plan.specs.declared.Counts.{Counts}
use Rattle.plan.specs.declared.Refusal.{Refusal}
use Rattle.plan.specs.declared.Refusal.TheVariants.{WrongValue}
use Rattle.plan.specs.Literals.{lit_of}
use Rattle.plan.specs.Refusals.{stage, first_of}
use Rattle.plan.specs.Circuit.{Circuit}
use Rattle.plan.specs.Binary.{binary_order}
use Rattle.plan.specs.Given.{given_circuit, lent_alone, stages, order_stage}
use Rattle.plan.specs.Step.{Value, value_of}
use Rattle.laws.proofs.Reading.Runs.{order-exactly}
use Rattle.laws.proofs.Running.Binary.{inner}
use Rattle.laws.proofs.Running.InOrder.{order-binary}
use Rattle.laws.proofs.Writing.Nothing.{both_first}
use Rattle.laws.proofs.Writing.Later.{Left}
use Rattle.plan.specs.Rewire.{screen, inputs_on, state_on, wrong_on, left_at, edit_stages, RewireEntry, rewired_by, rewiring}
use Rattle.laws.proofs.Rewiring.Rewired.{depends-below}
use Rattle.laws.proofs.Rewiring.Screen.{screen-exactly, length-screen}
use Rattle.laws.proofs.Rewiring.Call.{edited, after, done-edits, values-are, edited-in-order, edited-formed, holds-edited, apart-stays}

pub rewiring-accepted : (e : RewireEntry) (c : Circuit) → Left e.circuit c → binary_order c ≡ true → e.gate < length c.gates
    → e.rhs0 < lit_of (inner c + e.gate) → e.rhs1 < lit_of (inner c + e.gate) → length e.values ≡ c.M + 1
    → wrong_on c e.values ≡ None → (rewiring e).answer ≡ Ok tt
rewiring-accepted e c l o there low0 low1 size right =
    let g = e.circuit in
    let n = g.counts in
    let sum = ((order-exactly c).0 o).sum in
    let a-is : n.A ≡ length c.gates = ap (λ (x : Counts). x.A) l.counts in
    let m-is : n.M ≡ c.M = ap (λ (x : Counts). x.M) l.counts in
    let left_is : left_at n e.gate ≡ lit_of (inner c + e.gate) = ap (λ (x : Counts). lit_of (1 + x.I + x.L + e.gate)) l.counts in
    let order : binary_order (given_circuit g) ≡ true = ap binary_order l.holds ∙ o in
    let e1 : ltb e.gate n.A ≡ true = lt-ltb e.gate n.A (omega arith) in
    let e2 : leb e.rhs0 (2 * n.M + 1) ≡ true = le-leb e.rhs0 (2 * n.M + 1) (omega (arith, sum)) in
    let e3 : leb e.rhs1 (2 * n.M + 1) ≡ true = le-leb e.rhs1 (2 * n.M + 1) (omega (arith, sum)) in
    let e4 : ltb e.rhs0 (left_at n e.gate) ≡ true = lt-ltb _ _ (subst (λ (x : ℕ). e.rhs0 < x) (sym left_is) low0) in
    let e5 : ltb e.rhs1 (left_at n e.gate) ≡ true = lt-ltb _ _ (subst (λ (x : ℕ). e.rhs1 < x) (sym left_is) low1) in
    let e6 : eqb (length e.values) (n.M + 1) ≡ true = eq-eqb _ _ (size ∙ ap (λ (m : ℕ). m + 1) (sym m-is)) in
    let e7 : wrong_on (given_circuit g) e.values ≡ None = ap (λ (x : Circuit). wrong_on x e.values) l.holds ∙ right in
    let lasts : List (Option Refusal)
    = edit_stages n e.gate e.rhs0 e.rhs1 (length e.values) ++ (stage WrongValue (wrong_on (given_circuit g) e.values) ∷ []) in
    let rest : first_of (order_stage g ∷ lasts) ≡ None = rw (order, e1, e2, e3, e4, e5, e6, e7) in
    ap (λ (x : Option Refusal). (rewired_by x e).answer) (both_first (stages g (lent_alone g)) (order_stage g ∷ lasts) l.fine ∙ rest)

-- parts of two lists that are the same place by place
same-part : (xs ys : List ℕ) (a n : ℕ) → a + n ≤ length xs → a + n ≤ length ys → ((u : ℕ) → u < a + n → get_or xs u 0 ≡ get_or ys u 0)
    → take n (drop a xs) ≡ take n (drop a ys)
same-part xs ys a n h k same =
    let px : length (take n (drop a xs)) ≡ n = length-take-le n (drop a xs) (omega (arith, length-drop a xs)) in
    let py : length (take n (drop a ys)) ≡ n = length-take-le n (drop a ys) (omega (arith, length-drop a ys)) in
    ext_get_or 0 (take n (drop a xs)) (take n (drop a ys)) (px ∙ sym py)
    (λ v q.
    let lt : v < n = omega arith in
    get_or-take n (drop a xs) v 0 lt ∙ get_or-drop a xs v 0 ∙ same (a + v) (omega arith) ∙ sym (get_or-take n (drop a ys) v 0 lt ∙ get_or-drop a ys v 0))

module _ (e : RewireEntry) (d : (rewiring e).answer ≡ Ok tt) where
  abbrev c : Circuit
  c = given_circuit e.circuit

  now-long : length (rewiring e).values ≡ c.M + 1
  now-long = ap length (values-are e d) ∙ length-screen (edited e) (state_on c e.values) (inputs_on c e.values)

  -- what lies below the gate stays
  below_stays : (u : ℕ) → u < inner c + e.gate → get_or (rewiring e).values u 0 ≡ get_or e.values u 0
  below_stays u h =
      let p = done-edits e d in
      let order = (order-exactly c).0 p.order in
      let a-is : length c.gates ≡ e.circuit.counts.A = ap (λ (x : Counts). x.A) p.counts in
      apart-stays e d u (omega (arith, order.sum, p.there)) (λ q. omega arith)
      (λ q. let lt = depends-below (inner c) c.gates (order-binary (inner c) c.gates order.gates) q in omega arith)

  leaves-fit : inner c ≤ c.M + 1
  leaves-fit = omega (arith, ((order-exactly c).0 (done-edits e d).order).sum)

  inputs-stay : inputs_on (edited e) (rewiring e).values ≡ inputs_on c e.values
  inputs-stay =
      ap (map value_of) (same-part (rewiring e).values e.values 1 (length c.inputs) (omega (arith, now-long, leaves-fit))
      (omega (arith, (done-edits e d).size, leaves-fit)) (λ u h. below_stays u (omega arith)))

  state-stays : state_on (edited e) (rewiring e).values ≡ state_on c e.values
  state-stays =
      ap (map value_of) (same-part (rewiring e).values e.values (1 + length c.inputs) (length c.latches) (omega (arith, now-long, leaves-fit))
      (omega (arith, (done-edits e d).size, leaves-fit)) (λ u h. below_stays u (omega arith)))

  -- no value on the screen is wrong afterwards
  pub right-after : wrong_on (given_circuit (after e)) (rewiring e).values ≡ None
  right-after =
      ap (λ (x : Circuit). wrong_on x (rewiring e).values) (holds-edited e d)
      ∙ (screen-exactly (edited e) (edited-formed e d) (edited-in-order e d) (rewiring e).values now-long).1
      (values-are e d ∙ ap₂ (λ (s i : List Value). screen (edited e) s i) (sym state-stays) (sym inputs-stay))
