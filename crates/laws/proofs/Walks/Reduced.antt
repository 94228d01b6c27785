-- A reduced circuit without its unused gates is reduced: none of its gates could be replaced, so reducing again changes nothing.
use Prim.Native.Nat.{ℕ, zero, suc, ◌+◌, ◌-◌, ◌<◌, ◌≤◌, min, max}
use mathlib.Core.Path.{◌≡◌, refl, sym, ap, ◌∙◌}
use mathlib.Core.Bool.{Bool, true, false, cond, ◌&&◌, ◌||◌, false≢true}
use mathlib.Core.List.{List, [], ◌∷◌, ◌++◌}
use Rattle.std.specs.Prelude.{None}
use native.Mathlib.Omega.{arith}
use native.Mathlib.Decide.{dec_le}
use borrow.Author.Tests.{eqb-true}
use lib.Dec.{eqb}
use lib.ListN.{get_or}
use Rattle.plan.specs.Literals.{lit_of, var_of, sign_of, neg_of}
use Rattle.plan.specs.Circuit.{Gate, Circuit, has, index}
use Rattle.plan.specs.Reading.{WellFormed}
use Rattle.plan.specs.Binary.{binary_order}
use Rattle.plan.specs.Convert.{renumber, gate_for, renumber_gates}
use Rattle.plan.specs.Reduce.{twin, reduce}
use Rattle.plan.specs.Drop.{reached, gates_of, used, left, drop_unused}
use Rattle.laws.proofs.Reading.Common.{and_left, and_right}
use Rattle.laws.proofs.Reading.Order.{InOrder}
use Rattle.laws.proofs.Reading.Runs.{order-exactly}
use Rattle.laws.proofs.Running.Lists.{absent}
use Rattle.laws.proofs.Running.Found.{AllG, all_map, Sides, sides-in}
use Rattle.laws.proofs.Running.Accepted.{accepted}
use Rattle.laws.proofs.Running.Binary.{inner}
use Rattle.laws.proofs.Running.InOrder.{LargerFirst}
use Rattle.laws.proofs.Running.Results.{reduce-in-order, reduce-well-formed}
use Rattle.laws.proofs.Running.Irreducible.{Plain, pick-none, plain-larger, Free, reduce-free, twin-seam}
use Rattle.laws.proofs.Running.ReduceAgain.{reduce-same}
use Rattle.laws.proofs.Walks.Parts.{all_of}
use Rattle.laws.proofs.Walks.Used.{used-well-formed}
use Rattle.laws.proofs.Walks.Dropped.{drop-in-order, drop-well-formed}

-- no gate of two lists has the pair exactly if none of each has
none_both : (a b : ℕ) (xs ys : List Gate) → twin a b (xs ++ ys) ≡ None → (twin a b xs ≡ None) × (twin a b ys ≡ None)
none_both a b [] ys e = (refl, e)
none_both a b (x ∷ xs) ys e =
    let t = pick-none (eqb x.rhs0 a && eqb x.rhs1 b) x.lhs (twin a b (xs ++ ys)) e in
    let r = none_both a b xs ys t.1 in
    (rw t.0 r.0, r.1)

both-none : (a b : ℕ) (xs ys : List Gate) → twin a b xs ≡ None → twin a b ys ≡ None → twin a b (xs ++ ys) ≡ None
both-none a b [] ys e f = f
both-none a b (x ∷ xs) ys e f =
    let t = pick-none (eqb x.rhs0 a && eqb x.rhs1 b) x.lhs (twin a b xs) e in
    rw t.0 (both-none a b xs ys t.1 f)

-- some of the gates, after some of those before
free_of : (vs : List ℕ) (seen seen' gs : List Gate) → ((a b : ℕ) → twin a b seen ≡ None → twin a b seen' ≡ None) → Free seen gs
    → Free seen' (gates_of vs gs)
free_of vs seen seen' [] k f = tt
free_of vs seen seen' (g ∷ gs) k f = go (has (var_of g.lhs) vs) (λ s m. free_of vs (seen ++ (g ∷ [])) s gs m f.1)
  where
    go : (t : Bool) → ((s : List Gate) → ((a b : ℕ) → twin a b (seen ++ (g ∷ [])) ≡ None → twin a b s ≡ None) → Free s (gates_of vs gs))
        → Free seen' (cond t (g ∷ gates_of vs gs) (gates_of vs gs))
    go true ih = (
      (f.0.0, k g.rhs0 g.rhs1 f.0.1),
      ih (seen' ++ (g ∷ []))
          (λ a b e. let r = none_both a b seen (g ∷ []) e in both-none a b seen' (g ∷ []) (k a b r.0) r.1),
    )
    go false ih = ih seen' (λ a b e. k a b (none_both a b seen (g ∷ []) e).0)

-- different literals get different numbers
index_back : (o : List ℕ) (v : ℕ) → has v o ≡ true → get_or o (index v o) 0 ≡ v
index_back [] v h = absurd (false≢true h)
index_back (x ∷ o) v h = go (eqb x v) refl h (index_back o v)
  where
    go : (t : Bool) → eqb x v ≡ t → (t || has v o) ≡ true → (has v o ≡ true → get_or o (index v o) 0 ≡ v)
        → get_or (x ∷ o) (cond t 0 (suc (index v o))) 0 ≡ v
    go true e k ih = eqb-true x v e
    go false e k ih = ih k

same_index : (o : List ℕ) (u v : ℕ) → has u o ≡ true → has v o ≡ true → index u o ≡ index v o → u ≡ v
same_index o u v h k e = sym (index_back o u h) ∙ ap (λ (i : ℕ). get_or o i 0) e ∙ index_back o v k

-- a literal and a negated one that are equal: the variables are, the signs are not
negated-parts : (i s j t : ℕ) → s < 2 → t < 2 → lit_of i + s ≡ neg_of (lit_of j + t) → (i ≡ j) × (s + t ≡ 1)
negated-parts i s j zero p q e = let k : neg_of (lit_of j + zero) ≡ lit_of j + 1 = omega arith in (omega (arith, e, k), omega (arith, e, k))
negated-parts i s j (suc zero) p q e = let k : neg_of (lit_of j + 1) ≡ lit_of j = omega arith in (omega (arith, e, k), omega (arith, e, k))
negated-parts i s j (suc (suc t)) p q e = absurd (omega arith)

parts-negated : (l m s t : ℕ) → sign_of l ≡ s → sign_of m ≡ t → var_of l ≡ var_of m → s + t ≡ 1 → l ≡ neg_of m
parts-negated l m s zero p q v e = let k : neg_of m ≡ m + 1 = omega arith in omega (arith, k)
parts-negated l m s (suc t) p q v e = let k : neg_of m ≡ m - 1 = omega arith in omega (arith, k)

module _ (o : List ℕ) (zero_in : has 0 o ≡ true) (zero-first : index 0 o ≡ 0) where
  apart : (l m : ℕ) → has (var_of l) o ≡ true → has (var_of m) o ≡ true → renumber o l ≡ renumber o m → l ≡ m
  apart l m h k e =
      let i : index (var_of l) o ≡ index (var_of m) o = omega (arith, e) in
      omega (arith, e, same_index o (var_of l) (var_of m) h k i)

  apart-negated : (l m : ℕ) → has (var_of l) o ≡ true → has (var_of m) o ≡ true → renumber o l ≡ neg_of (renumber o m) → l ≡ neg_of m
  apart-negated l m h k e =
      let p = negated-parts (index (var_of l) o) (sign_of l) (index (var_of m) o) (sign_of m) (omega arith) (omega arith) e in
      parts-negated l m (sign_of l) (sign_of m) refl refl (same_index o (var_of l) (var_of m) h k p.0) p.1

  not-constant : (l k : ℕ) → has (var_of l) o ≡ true → var_of k ≡ 0 → renumber o k ≡ k → renumber o l ≡ k → l ≡ k
  not-constant l k h z s e = apart l k h (ap (λ (v : ℕ). has v o) z ∙ zero_in) (e ∙ sym s)

  plain-renumbered : (a b : ℕ) → has (var_of a) o ≡ true → has (var_of b) o ≡ true → Plain a b → Plain (renumber o a) (renumber o b)
  plain-renumbered a b h k p =
      let s0 : renumber o 0 ≡ 0 = omega (arith, zero-first) in
      let s1 : renumber o 1 ≡ 1 = omega (arith, zero-first) in
      record {
        unequal = λ e. p.unequal (apart a b h k e);
        unnegated = λ e. p.unnegated (apart-negated a b h k e);
        not-0 = (λ e. p.not-0.0 (not-constant a 0 h refl s0 e), λ e. p.not-0.1 (not-constant b 0 k refl s0 e));
        not-1 = (λ e. p.not-1.0 (not-constant a 1 h refl s1 e), λ e. p.not-1.1 (not-constant b 1 k refl s1 e));
      }

  abbrev larger : Gate → ℕ
  larger g = max (renumber o g.rhs0) (renumber o g.rhs1)

  abbrev smaller : Gate → ℕ
  smaller g = min (renumber o g.rhs0) (renumber o g.rhs1)

  -- the same pair of numbers was the same pair
  same-pair : (g h : Gate) → Sides o g → Sides o h → LargerFirst g → LargerFirst h → larger g ≡ larger h → smaller g ≡ smaller h
      → (g.rhs0 ≡ h.rhs0) × (g.rhs1 ≡ h.rhs1)
  same-pair g h s t lg lh e f =
      go (dec_le (renumber o g.rhs1) (renumber o g.rhs0)) (dec_le (renumber o h.rhs1) (renumber o h.rhs0))
    where
      straight : renumber o g.rhs0 ≡ renumber o h.rhs0 → renumber o g.rhs1 ≡ renumber o h.rhs1
          → (g.rhs0 ≡ h.rhs0) × (g.rhs1 ≡ h.rhs1)
      straight p q = (apart g.rhs0 h.rhs0 s.0 t.0 p, apart g.rhs1 h.rhs1 s.1 t.1 q)

      crossed : renumber o g.rhs0 ≡ renumber o h.rhs1 → renumber o g.rhs1 ≡ renumber o h.rhs0
          → (g.rhs0 ≡ h.rhs0) × (g.rhs1 ≡ h.rhs1)
      crossed p q =
          let x = apart g.rhs0 h.rhs1 s.0 t.1 p in
          let y = apart g.rhs1 h.rhs0 s.1 t.0 q in
          (omega (arith, x, y, lg, lh), omega (arith, x, y, lg, lh))

      go : Dec (renumber o g.rhs1 ≤ renumber o g.rhs0) → Dec (renumber o h.rhs1 ≤ renumber o h.rhs0)
          → (g.rhs0 ≡ h.rhs0) × (g.rhs1 ≡ h.rhs1)
      go (yes x) (yes y) = straight (omega (arith, e, f)) (omega (arith, e, f))
      go (yes x) (no y) = crossed (omega (arith, e, f)) (omega (arith, e, f))
      go (no x) (yes y) = crossed (omega (arith, e, f)) (omega (arith, e, f))
      go (no x) (no y) = straight (omega (arith, e, f)) (omega (arith, e, f))

  free-renumbered : (n : ℕ) (seen seen' gs : List Gate) → AllG (Sides o) gs → AllG LargerFirst gs
      → ((h : Gate) → Sides o h → LargerFirst h → twin h.rhs0 h.rhs1 seen ≡ None → twin (larger h) (smaller h) seen' ≡ None)
      → Free seen gs → Free seen' (renumber_gates o n gs)
  free-renumbered n seen seen' [] a l k f = tt
  free-renumbered n seen seen' (g ∷ gs) a l k f = (
    (
      plain-larger (renumber o g.rhs0) (renumber o g.rhs1)
          (plain-renumbered g.rhs0 g.rhs1 a.0.0 a.0.1 f.0.0),
      k g a.0 l.0 f.0.1,
    ),
    free-renumbered (suc n) (seen ++ (g ∷ [])) (seen' ++ (this ∷ [])) gs a.1 l.1 later f.1,
  )
    where
      this : Gate
      this = gate_for n (renumber o g.rhs0) (renumber o g.rhs1)

      later : (h : Gate) → Sides o h → LargerFirst h → twin h.rhs0 h.rhs1 (seen ++ (g ∷ [])) ≡ None
          → twin (larger h) (smaller h) (seen' ++ (this ∷ [])) ≡ None
      later h s m e =
          let r = none_both h.rhs0 h.rhs1 seen (g ∷ []) e in
          both-none (larger h) (smaller h) seen' (this ∷ []) (k h s m r.0) (differ r.1)
        where
          same : (eqb (larger g) (larger h) && eqb (smaller g) (smaller h)) ≡ true → (g.rhs0 ≡ h.rhs0) × (g.rhs1 ≡ h.rhs1)
          same q =
              same-pair g h a.0 s l.0 m
              (eqb-true _ _ (and_left (eqb (larger g) (larger h)) (eqb (smaller g) (smaller h)) q))
              (eqb-true _ _ (and_right (eqb (larger g) (larger h)) (eqb (smaller g) (smaller h)) q))

          differ : twin h.rhs0 h.rhs1 (g ∷ []) ≡ None → twin (larger h) (smaller h) (this ∷ []) ≡ None
          differ p =
              rw (absent (eqb (larger g) (larger h) && eqb (smaller g) (smaller h)) (λ q. twin-seam h.rhs0 h.rhs1 [] g [] p (same q)))

larger-first : (n : ℕ) (gs : List Gate) → InOrder n gs → AllG LargerFirst gs
larger-first n [] o = tt
larger-first n (g ∷ gs) o = (o.2, larger-first (suc n) gs o.3)

-- where no gate can be replaced, none of those left can
pub drop-free : (c : Circuit) → WellFormed c → binary_order c ≡ true → Free [] c.gates → Free [] (drop_unused c).gates
drop-free c w t f =
    free-renumbered (left (used c)) refl refl (inner c) [] [] (used c).gates
    (sides-in (left (used c)) (used c).gates (accepted (used c) (used-well-formed c w t)).used-gate)
    (all_of LargerFirst (reached c) c.gates
    (all_map LargerFirst (λ g. has (var_of g.lhs) (reached c) ≡ true → LargerFirst g) (λ g x _. x) c.gates
    (larger-first (inner c) c.gates ((order-exactly c).0 t).gates)))
    (λ h s m e. refl) (free_of (reached c) [] [] c.gates (λ a b e. e) f)

-- after reduction a reduced circuit is left
module _ (c : Circuit) (w : WellFormed c) (t : binary_order c ≡ true) where
  pub reduced-free : Free [] (drop_unused (reduce c)).gates
  reduced-free = drop-free (reduce c) (reduce-well-formed c w t) (reduce-in-order c w t) (reduce-free c)

  pub drop-reduced : reduce (drop_unused (reduce c)) ≡ drop_unused (reduce c)
  drop-reduced =
      let wd = reduce-well-formed c w t in
      let td = reduce-in-order c w t in
      reduce-same (drop_unused (reduce c)) (drop-well-formed (reduce c) wd td) (drop-in-order (reduce c) wd td) reduced-free
