-- From the tables of a circuit to those of the circuit without its unused gates: what marking asks, and what is left.
use Prim.Native.Nat.{ℕ, zero, suc, ◌+◌, ◌*◌, ◌≤◌, ◌<◌}
use mathlib.Core.Path.{◌≡◌, refl, sym, ap, ap₂, ◌∙◌, subst}
use mathlib.Core.Bool.{true}
use mathlib.Core.List.{List, [], ◌∷◌, ◌++◌, map, append-nil}
use native.Mathlib.Omega.{arith}
use lib.ListN.{length, get_or, take}
use lib.Seq.{get_or-take, length-take-le}
use Rattle.plan.specs.declared.Counts.{Counts}
use Rattle.plan.specs.Literals.{lit_of, var_of, sign_of, signed}
use Rattle.plan.specs.Circuit.{Gate, Latch, Circuit, Tables, gate_line, flat, nexts, observed, vars, has, leaves}
use Rattle.plan.specs.Reading.{WellFormed}
use Rattle.plan.specs.Binary.{lits_from, binary_order}
use Rattle.plan.specs.Given.{Given, given_circuit}
use Rattle.plan.specs.Reduce.{Reduced, becomes}
use Rattle.plan.specs.Outcome.{put}
use Rattle.plan.specs.Walk.{walk}
use Rattle.plan.specs.Drop.{sides_of, reached, drop_unused}
use Rattle.laws.proofs.Held.{Holds}
use Rattle.laws.proofs.Tables.{firsts, gates-rows, latch_at, latches-rows, words_take}
use Rattle.laws.proofs.Running.Lists.{has_left}
use Rattle.laws.proofs.Running.Binary.{inner, Bounded}
use Rattle.laws.proofs.Running.Sides.{sides-below}
use Rattle.laws.proofs.Running.Upward.{has-up}
use Rattle.laws.proofs.Running.InOrder.{leaves-order}
use Rattle.laws.proofs.Walks.Dropped.{leaf-index}
use Rattle.laws.proofs.Walks.Later.{drop-fewer}
use Rattle.laws.proofs.Walks.Places.{left_at}
use Rattle.reduce.specs.Becoming.{replaced}
use Rattle.reduce.proofs.Replaced.{bounded_at}
use Rattle.reduce.proofs.Reducing.{Ready, Written, base, top, order, inner-is, in_order, foldable, latches-low, outputs-low, bads-low, constraints-low, held}
use Rattle.drop.specs.Marks.{var_at}
use Rattle.drop.specs.Retained.{retain_gates, kept, InPlace, Done}
use Rattle.drop.specs.Reached.{column, reached_in, Marking, Reachable}
use Rattle.drop.proofs.Folds.{folded, all-numbered, drop-folds}

-- the variables of a column
vars-append : (xs ys : List ℕ) → vars (xs ++ ys) ≡ vars xs ++ vars ys
vars-append [] ys = refl
vars-append (x ∷ xs) ys = ap (λ (t : List ℕ). var_of x ∷ t) (vars-append xs ys)

nexts-append : (xs ys : List Latch) → nexts (xs ++ ys) ≡ nexts xs ++ nexts ys
nexts-append [] ys = refl
nexts-append (x ∷ xs) ys = ap (λ (t : List ℕ). x.next ∷ t) (nexts-append xs ys)

vars-firsts : (f : ℕ → ℕ) (n : ℕ) → vars (firsts f n) ≡ firsts (λ i. var_of (f i)) n
vars-firsts f zero = refl
vars-firsts f (suc n) = vars-append (firsts f n) (f n ∷ []) ∙ ap (λ (t : List ℕ). t ++ (var_of (f n) ∷ [])) (vars-firsts f n)

words-column : (t : List ℕ) (n : ℕ) → n ≤ length t → column t 1 0 n ≡ vars (take n t)
words-column t n h = sym (ap vars (words_take t n h) ∙ vars-firsts (λ i. get_or t i 0) n ∙ ap (λ (f : ℕ → ℕ). firsts f n) (λ j i. same i j))
  where
    same : (i : ℕ) → var_of (get_or t i 0) ≡ var_at t 1 0 i
    same i = let e : i ≡ 1 * i + 0 = omega arith in ap (λ (k : ℕ). var_of (get_or t k 0)) e

nexts-firsts : (t : List ℕ) (n : ℕ) → nexts (firsts (latch_at t) n) ≡ firsts (λ i. get_or t (2 * i + 1) 0) n
nexts-firsts t zero = refl
nexts-firsts t (suc n) =
    nexts-append (firsts (latch_at t) n) (latch_at t n ∷ []) ∙ ap (λ (l : List ℕ). l ++ (get_or t (2 * n + 1) 0 ∷ [])) (nexts-firsts t n)

nexts-column : (t : List ℕ) (n : ℕ) → column t 2 1 n ≡ vars (nexts (firsts (latch_at t) n))
nexts-column t n = sym (ap vars (nexts-firsts t n) ∙ vars-firsts (λ i. get_or t (2 * i + 1) 0) n)

-- a table whose literals are of variables below k, each of which has a word
low-words : (k : ℕ) (table : List ℕ) (n : ℕ) (t : List ℕ) → n ≤ length table → Bounded k (take n table) → k ≤ length t → Marking table 1 0 n t
low-words k table n t long b room = record { long = omega (arith, long); low = low }
  where
    low : (i : ℕ) → i < n → var_at table 1 0 i < length t
    low i h =
        let e : i ≡ 1 * i + 0 = omega arith in
        let below = bounded_at k (take n table) b i (omega (arith, length-take-le n table long)) in
        subst (λ (j : ℕ). var_of (get_or table j 0) < length t) e (omega (arith, below, room, ap var_of (get_or-take n table i 0 h)))

low-nexts : (k : ℕ) (table : List ℕ) (n : ℕ) (t : List ℕ) → 2 * n ≤ length table → Bounded k (take (2 * n) table) → k ≤ length t
    → Marking table 2 1 n t
low-nexts k table n t long b room = record { long = long; low = low }
  where
    low : (i : ℕ) → i < n → var_at table 2 1 i < length t
    low i h =
        let below = bounded_at k (take (2 * n) table) b (2 * i + 1) (omega (arith, length-take-le (2 * n) table long)) in
        omega (arith, below, room, ap var_of (get_or-take (2 * n) table (2 * i + 1) 0 (omega arith)))

module _ (g : Given) (to : Tables) (ready : Ready g to) where
  abbrev n : Counts
  n = g.counts

  abbrev c : Circuit
  c = given_circuit g

  w : WellFormed c
  w = ready.good.formed

  t : binary_order c ≡ true
  t = ready.good.order refl

  long : top g to ready ≤ length g.scratch
  long = omega (arith, (foldable g to ready).scratch-long)

  in_place : (k : ℕ) → k < n.A → InPlace g.tables.gates (base g to ready) k
  in_place k h =
      let sides = sides-below (base g to ready) g.tables.gates n.A k h (in_order g to ready) in
      record { lhs = left_at (base g to ready) g.tables.gates n.A k h (in_order g to ready); rhs0 = sides.0; rhs1 = sides.1 }

  -- what marking asks
  pub reachable : Reachable n g.tables.latches g.tables.outputs g.tables.gates g.tables.bads g.tables.constraints to.gates
      g.scratch
  reachable = record {
    from-nexts = low-nexts (top g to ready) g.tables.latches n.L g.scratch ready.good.fits.latches-long (latches-low g to ready) long;
    from-outputs = low-words (top g to ready) g.tables.outputs n.O g.scratch ready.good.fits.outputs-long (outputs-low g to ready) long;
    from-bads = low-words (top g to ready) g.tables.bads n.B g.scratch ready.good.fits.bads-long (bads-low g to ready) long;
    from-constraints = low-words (top g to ready) g.tables.constraints n.C g.scratch ready.good.fits.constraints-long
        (constraints-low g to ready) long;
    through-gates = record {
      few = (foldable g to ready).few;
      gates-long = (foldable g to ready).gates-long;
      to-long = (foldable g to ready).to-long;
      t-long = long;
      in_place = in_place;
    };
    blank = ready.scratch-blank;
  }

  -- the marks are those of what is reached
  abbrev pub marked : List ℕ
  marked = reached_in n g.tables.latches g.tables.outputs g.tables.gates g.tables.bads g.tables.constraints

  observed-are : column g.tables.outputs 1 0 n.O ++ (column g.tables.bads 1 0 n.B ++ (column g.tables.constraints 1 0 n.C ++ []))
      ≡ vars (observed c)
  observed-are =
      ap₂ (λ (x y : List ℕ). x ++ y) (words-column g.tables.outputs n.O ready.good.fits.outputs-long)
      (ap₂ (λ (x y : List ℕ). x ++ y) (words-column g.tables.bads n.B ready.good.fits.bads-long)
      (append-nil (column g.tables.constraints 1 0 n.C) ∙ words-column g.tables.constraints n.C ready.good.fits.constraints-long)
      ∙ sym (vars-append c.bads c.constraints))
      ∙ sym (vars-append c.outputs (c.bads ++ c.constraints))

  nexts-are : column g.tables.latches 2 1 n.L ≡ vars (nexts c.latches)
  nexts-are =
      nexts-column g.tables.latches n.L ∙ ap (λ (l : List Latch). vars (nexts l)) (sym (latches-rows g.tables.latches n.L))

  marked-is : marked ≡ reached c
  marked-is =
      ap₂ (λ (gs : List Gate) (l : List ℕ). walk sides_of gs l) (sym (gates-rows g.tables.gates n.A))
      (ap₂ (λ (x y : List ℕ). x ++ y) nexts-are observed-are ∙ sym (vars-append (nexts c.latches) (observed c)))

  kept-is : kept marked g.tables.gates (base g to ready) n.A ≡ folded c w t
  unfolding kept
  kept-is =
      λ j. retain_gates (marked-is j) (record { became = lits_from 0 (sym (inner-is g to ready) j); retained = []; fresh = sym (inner-is g to ready) j })
      (sym (gates-rows g.tables.gates n.A) j)

  -- leaves stay
  leaf-stays : (v : ℕ) → v < inner c → becomes (folded c w t).became (lit_of v) ≡ lit_of v
  leaf-stays v h =
      let in-leaves : has v (leaves c) ≡ true
      = subst (λ (l : List ℕ). has v l ≡ true) (sym (leaves-order c (order g to ready))) (has-up 0 (inner c) v (omega arith) (omega arith)) in
      let known = (all-numbered c w t).all_known v (has_left v (leaves c) _ in-leaves) in
      ap₂ (λ (s u : ℕ). signed s (get_or (folded c w t).became u 0)) (even v) (half v) ∙ known ∙ ap lit_of (leaf-index c w t v h)
    where
      even : (v : ℕ) → sign_of (lit_of v) ≡ 0
      even v = omega arith

      half : (v : ℕ) → var_of (lit_of v) ≡ v
      half v = omega arith

  pub made-fewer : length (drop_unused c).gates ≤ length c.gates
  made-fewer = drop-fewer c

  -- after the gates
  module _ (gates scratch : List ℕ) (r : ℕ) (done : Done marked g.tables.gates to.gates gates scratch (base g to ready) n.A r) where
    pub count : r ≡ length (drop_unused c).gates
    count = done.count ∙ ap (λ (x : Reduced). length x.retained) kept-is ∙ ap (λ (d : Circuit). length d.gates) (drop-folds c w t)

    pub written : (to' : Tables) → to'.inputs ≡ replaced n.I g.tables.inputs scratch to.inputs
        → to'.latches ≡ replaced (2 * n.L) g.tables.latches scratch to.latches
        → to'.outputs ≡ replaced n.O g.tables.outputs scratch to.outputs → to'.gates ≡ gates
        → to'.resets ≡ replaced n.L g.tables.resets scratch to.resets
        → to'.bads ≡ replaced n.B g.tables.bads scratch to.bads
        → to'.constraints ≡ replaced n.C g.tables.constraints scratch to.constraints → Written (drop_unused c) to to' r
    written to' i l o gs rs bs cs = record {
      count = count;
      holds = subst (λ (d : Circuit). Holds to d to') (drop-folds c w t)
          (held g to ready (folded c w t) leaf-stays scratch (done.became ∙ ap (λ (x : Reduced). x.became) kept-is) to' i l o
          (gs ∙ done.retained ∙ ap (λ (x : Reduced). put to.gates 0 (flat (map gate_line x.retained))) kept-is) rs bs cs);
    }
