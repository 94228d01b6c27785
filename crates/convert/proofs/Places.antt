-- The place of each gate in the order of new numbers: its variable's number less the leaves. Every place has its gate.
use Prim.Native.Nat.{ℕ, zero, suc, ◌+◌, ◌<◌}
use mathlib.Core.Path.{◌≡◌, refl, sym, ap, ◌∙◌, subst}
use mathlib.Core.Bool.{Bool, true, false, cond, ◌||◌, false≢true}
use mathlib.Core.List.{List, [], ◌∷◌, ◌++◌, append-nil}
use Rattle.std.specs.Prelude.{Some}
use native.Mathlib.Omega.{arith}
use borrow.Author.Tests.{eqb-true}
use lib.Dec.{eqb}
use lib.ListN.{length, get_or}
use Rattle.plan.specs.Literals.{var_of}
use Rattle.plan.specs.Circuit.{Gate, Circuit, gate_line, left_vars, has, leaves, index}
use Rattle.plan.specs.Depends.{find}
use Rattle.plan.specs.Convert.{sorted, numbered}
use Rattle.laws.proofs.Tables.{firsts, length-firsts, heads-firsts}
use Rattle.laws.proofs.Reading.Cycles.{length-lefts}
use Rattle.laws.proofs.Reading.Members.{has-self, has-later, has-cases}
use Rattle.laws.proofs.Running.Lists.{has_rest, has_right, distinct-right, apart, has-at, index_at, index-front}
use Rattle.laws.proofs.Running.Accepted.{Accepted}
use Rattle.laws.proofs.Running.Converted.{gets-number}
use Rattle.laws.proofs.Running.Found.{AllG, all_map, found-own}
use Rattle.laws.proofs.Running.Numbering.{order-all}
use Rattle.laws.proofs.Running.Scan.{every-gate}
use Rattle.judge.proofs.order.Places.{of_places}
use Rattle.judge.proofs.order.Spaces.{all-places}
use Rattle.convert.proofs.Different.{numbered-distinct}

-- the place of a variable of the second part
index-past : (v : ℕ) (xs ys : List ℕ) → has v xs ≡ false → index v (xs ++ ys) ≡ length xs + index v ys
index-past v [] ys h = omega arith
index-past v (x ∷ xs) ys h = go (eqb x v) (index-past v xs ys) h
  where
    go : (t : Bool) → (has v xs ≡ false → index v (xs ++ ys) ≡ length xs + index v ys) → (t || has v xs) ≡ false
        → cond t zero (suc (index v (xs ++ ys))) ≡ suc (length xs) + index v ys
    go true f p = absurd (false≢true (sym p))
    go false f p = omega (arith, f p)

-- the gate at the place of its variable
gate-found : (P : Gate → Type 0) (gs : List Gate) (v : ℕ) (d : Gate) → has v (left_vars gs) ≡ true → AllG P gs
    → (var_of (get_or gs (index v (left_vars gs)) d).lhs ≡ v) × P (get_or gs (index v (left_vars gs)) d)
gate-found P [] v d h a = absurd (false≢true h)
gate-found P (g ∷ gs) v d h a = go (eqb (var_of g.lhs) v) refl h (gate-found P gs v d)
  where
    go : (t : Bool) → eqb (var_of g.lhs) v ≡ t → (t || has v (left_vars gs)) ≡ true
        → (has v (left_vars gs) ≡ true → AllG P gs → (var_of (get_or gs (index v (left_vars gs)) d).lhs ≡ v) × P (get_or gs (index v (left_vars gs)) d))
        → (var_of (get_or (g ∷ gs) (cond t zero (suc (index v (left_vars gs)))) d).lhs ≡ v)
        × P (get_or (g ∷ gs) (cond t zero (suc (index v (left_vars gs)))) d)
    go true e p f = (eqb-true (var_of g.lhs) v e, a.0)
    go false e p f = f p a.1

-- a number that stands at some place
has-place : (at : ℕ → ℕ) (n v : ℕ) → has v (firsts at n) ≡ true → (i : ℕ) × (i < n) × (at i ≡ v)
has-place at n v h = of_places (λ (u : ℕ). (i : ℕ) × (i < n) × (at i ≡ u)) at n v (λ i k. (i, k, refl)) h

-- every gate's left variable is among them; variables of gates that are
own-left : (gs : List Gate) → AllG (λ g. has (var_of g.lhs) (left_vars gs) ≡ true) gs
own-left [] = tt
own-left (g ∷ gs) = (
  has-self (var_of g.lhs) (left_vars gs),
  all_map (λ j. has (var_of j.lhs) (left_vars gs) ≡ true) (λ j. has (var_of j.lhs) (left_vars (g ∷ gs)) ≡ true)
      (λ j h. has-later (var_of j.lhs) (var_of g.lhs) (left_vars gs) h) gs (own-left gs),
)

has-lefts : (gs hs : List Gate) → AllG (λ g. has (var_of g.lhs) (left_vars gs) ≡ true) hs → (v : ℕ) → has v (left_vars hs) ≡ true
    → has v (left_vars gs) ≡ true
has-lefts gs [] a v h = absurd (false≢true h)
has-lefts gs (g ∷ hs) a v h =
    has-cases (has v (left_vars gs) ≡ true) (var_of g.lhs) v (left_vars hs) h
    (λ e. subst (λ (u : ℕ). has u (left_vars gs) ≡ true) e a.0) (has-lefts gs hs a.1 v)

-- gates that stand at their places in a well-formed circuit
module _ (c : Circuit) (ok : Accepted c) (at : ℕ → Gate) (a : ℕ) (its : c.gates ≡ firsts at a) where
  -- the place of gate i in the order of new numbers
  abbrev pub place_at : ℕ → ℕ
  place_at i = index (var_of (at i).lhs) (left_vars (sorted c))

  gates-count : length c.gates ≡ a
  gates-count = ap length its ∙ length-firsts at a

  pub sorted-count : length (sorted c) ≡ a
  sorted-count = every-gate c ok ∙ gates-count

  pub at_each : (P : Gate → Type 0) → AllG P c.gates → (i : ℕ) → i < a → P (at i)
  at_each P all = all-places P at a (subst (AllG P) its all)

  own : AllG (λ g. find (var_of g.lhs) c.gates ≡ Some g) c.gates
  own = found-own c.gates (distinct-right (leaves c) (left_vars c.gates) ok.once)

  pub left-has : (i : ℕ) → i < a → has (var_of (at i).lhs) (left_vars c.gates) ≡ true
  left-has = at_each (λ g. has (var_of g.lhs) (left_vars c.gates) ≡ true) (own-left c.gates)

  left-new : (i : ℕ) → i < a → has (var_of (at i).lhs) (leaves c) ≡ false
  left-new i h = apart (leaves c) (left_vars c.gates) ok.once (var_of (at i).lhs) (left-has i h)

  left-sorted : (i : ℕ) → i < a → has (var_of (at i).lhs) (left_vars (sorted c)) ≡ true
  left-sorted i h =
      has_rest (var_of (at i).lhs) (leaves c) (left_vars (sorted c))
      (gets-number c ok (var_of (at i).lhs) (has_right (var_of (at i).lhs) (leaves c) (left_vars c.gates) (left-has i h))) (left-new i h)

  pub number_is : (i : ℕ) → i < a → index (var_of (at i).lhs) (numbered c) ≡ length (leaves c) + place_at i
  number_is i h = index-past (var_of (at i).lhs) (leaves c) (left_vars (sorted c)) (left-new i h)

  pub place-below : (i : ℕ) → i < a → place_at i < a
  place-below i h =
      let v = var_of (at i).lhs in
      let front = index-front v (left_vars (sorted c)) [] (left-sorted i h) in
      let same : index v (left_vars (sorted c) ++ []) ≡ place_at i = ap (index v) (append-nil (left_vars (sorted c))) in
      omega (arith, front, same, length-lefts (sorted c), sorted-count)

  -- gate i stands there
  pub gate-there : (i : ℕ) → i < a → (d : Gate) → get_or (sorted c) (place_at i) d ≡ at i
  gate-there i h d =
      let v = var_of (at i).lhs in
      let found : find v c.gates ≡ Some (at i) = at_each (λ g. find (var_of g.lhs) c.gates ≡ Some g) own i h in
      let r = gate-found (λ g. find (var_of g.lhs) c.gates ≡ Some g) (sorted c) v d (left-sorted i h)
      (order-all (λ g. find (var_of g.lhs) c.gates ≡ Some g) (length c.gates) (leaves c) c.gates own) in
      let same : Some (get_or (sorted c) (place_at i) d) ≡ Some (at i)
      = sym r.1 ∙ (ap (λ (u : ℕ). find u c.gates) r.0 ∙ found) in
      cc

  -- every place has its gate
  pub every-place : (j : ℕ) → j < a → (i : ℕ) × (i < a) × (place_at i ≡ j)
  every-place j h =
      let ls = left_vars (sorted c) in
      let v = get_or ls j 0 in
      let long : j < length ls = omega (arith, length-lefts (sorted c), sorted-count) in
      let listed : has v (left_vars c.gates) ≡ true = has-lefts c.gates (sorted c)
      (order-all (λ g. has (var_of g.lhs) (left_vars c.gates) ≡ true) (length c.gates) (leaves c) c.gates (own-left c.gates))
      v (has-at ls j long) in
      let p = has-place (λ i. var_of (at i).lhs) a v (ap (has v) (sym (ap left_vars its ∙ heads-firsts gate_line at a)) ∙ listed) in (
        p.0,
        p.1,
        ap (λ (u : ℕ). index u ls) p.2 ∙ index_at ls (distinct-right (leaves c) ls (numbered-distinct c ok)) j long,
      )
