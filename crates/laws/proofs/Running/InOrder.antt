-- Circuits in binary order: what is in range has a number, and where what is used has a number the circuit is well formed.
use Prim.Native.Nat.{ℕ, zero, suc, ◌+◌, ◌*◌, ◌≤◌, ◌<◌}
use mathlib.Core.Path.{◌≡◌, refl, sym, ap, ap₂, ◌∙◌}
use mathlib.Core.Bool.{true, false, false≢true}
use mathlib.Core.List.{List, [], ◌∷◌, ◌++◌, map}
use native.Mathlib.Omega.{arith}
use borrow.Author.Tests.{leb-true, le-leb}
use lib.ListN.{length}
use Rattle.plan.specs.Literals.{most, var_of, in_range}
use Rattle.plan.specs.Circuit.{Gate, Latch, Circuit, one_line, latch_line, vars, current_vars, defined_in, used_in, nexts, roots, rights, has, all_new, inside, leaves}
use Rattle.plan.specs.Circuit.{all_inside, observed, resets_ok}
use Rattle.plan.specs.Depends.{Depends}
use Rattle.plan.specs.Reading.{WellFormed}
use Rattle.laws.proofs.Reading.Common.{and_left, and_right, and_intro}
use Rattle.laws.proofs.Reading.Members.{has-cases}
use Rattle.laws.proofs.Reading.Cycles.{settled-exactly}
use Rattle.laws.proofs.Reading.Order.{InOrder}
use Rattle.laws.proofs.Reading.Runs.{up_from, up-append, lits-inside, latches-inside, gates-inside, vars-lits, currents-latches, lefts-gates}
use Rattle.laws.proofs.Reading.Runs.{run-new, length-nexts, BinaryOrder}
use Rattle.laws.proofs.Running.Found.{AllG}
use Rattle.laws.proofs.Running.Accepted.{leaves-lefts}
use Rattle.laws.proofs.Running.Binary.{Binary, settled-binary, inner, Bounded, Ordered}
use Rattle.laws.proofs.Running.Upward.{has-up, leaves-up}

-- larger right side first
abbrev pub LargerFirst : Gate → Type 0
LargerFirst g = g.rhs1 ≤ g.rhs0

pub order-binary : (n : ℕ) (gs : List Gate) → InOrder n gs → Binary n gs
order-binary n [] o = tt
order-binary n (g ∷ gs) o = (o.0, omega (arith, o.0, o.1), omega (arith, o.0, o.1, o.2), order-binary (suc n) gs o.3)

pub binary-order : (n : ℕ) (gs : List Gate) → Binary n gs → AllG LargerFirst gs → InOrder n gs
binary-order n [] b a = tt
binary-order n (g ∷ gs) b a = (b.0, omega (arith, b.0, b.1), a.0, binary-order (suc n) gs b.3 a.1)

-- what is in range has a number
pub outputs-bounded : (m n : ℕ) (ls : List ℕ) → m < n → all_inside false m (map one_line ls) ≡ true → Bounded n ls
outputs-bounded m n [] k h = tt
outputs-bounded m n (l ∷ ls) k h = (
  omega (
    arith,
    leb-true l (2 * m + 1) (and_left (in_range false m l) true
        (and_left (inside false m (one_line l)) (all_inside false m (map one_line ls)) h)),
  ),
  outputs-bounded m n ls k (and_right (inside false m (one_line l)) (all_inside false m (map one_line ls)) h),
)

pub nexts-bounded : (m n : ℕ) (ls : List Latch) → m < n → all_inside true m (map latch_line ls) ≡ true → Bounded n (nexts ls)
nexts-bounded m n [] k h = tt
nexts-bounded m n (l ∷ ls) k h = (
  omega (
    arith,
    leb-true l.next (2 * m + 1)
        (and_left (in_range false m l.next) true
        (and_right (in_range true m l.current) (inside false m (l.next ∷ []))
        (and_left (inside true m (latch_line l)) (all_inside true m (map latch_line ls)) h))),
  ),
  nexts-bounded m n ls k (and_right (inside true m (latch_line l)) (all_inside true m (map latch_line ls)) h),
)

pub bounded-outputs : (m : ℕ) (ls : List ℕ) → Bounded (suc m) ls → all_inside false m (map one_line ls) ≡ true
bounded-outputs m [] b = refl
bounded-outputs m (l ∷ ls) b =
    and_intro (inside false m (one_line l)) (all_inside false m (map one_line ls))
    (and_intro (in_range false m l) true (le-leb l (2 * m + 1) (omega (arith, b.0))) refl)
    (bounded-outputs m ls b.1)

bounded-append : (n : ℕ) (xs ys : List ℕ) → Bounded n xs → Bounded n ys → Bounded n (xs ++ ys)
bounded-append n [] ys b d = d
bounded-append n (x ∷ xs) ys b d = (b.0, bounded-append n xs ys b.1 d)

rights-bounded : (m n : ℕ) (gs : List Gate) → InOrder n gs → n + length gs ≤ m → Bounded m (rights gs)
rights-bounded m n [] o h = tt
rights-bounded m n (g ∷ gs) o h =
    (omega (arith, o.0, o.1), (omega (arith, o.0, o.1, o.2), rights-bounded m (suc n) gs o.3 (omega arith)))

bounded-has : (n : ℕ) (ls : List ℕ) → Bounded n ls → (v : ℕ) → has v (vars ls) ≡ true → v < n
bounded-has n [] b v h = absurd (false≢true h)
bounded-has n (l ∷ ls) b v h = has-cases (v < n) (var_of l) v (vars ls) h (λ e. omega (arith, e, b.0)) (bounded-has n ls b.1 v)

module _ (c : Circuit) (b : BinaryOrder c) where
  inputs-up : vars c.inputs ≡ up_from 1 (length c.inputs)
  inputs-up = ap vars b.inputs ∙ vars-lits 1 (length c.inputs)

  latches-up : current_vars c.latches ≡ up_from (1 + length c.inputs) (length c.latches)
  latches-up =
      ap current_vars b.latches ∙ currents-latches (1 + length c.inputs) (nexts c.latches)
      ∙ ap (up_from (1 + length c.inputs)) (length-nexts c.latches)

  pub leaves-order : leaves c ≡ up_from 0 (inner c)
  leaves-order = leaves-up c (length c.inputs) (length c.latches) inputs-up latches-up

  defined-order : zero ∷ defined_in c ≡ up_from 0 (suc c.M)
  defined-order =
      let p : inner c ≡ 0 + inner c = omega arith in
      let q : inner c + length c.gates ≡ suc c.M = omega (arith, b.sum) in
      sym (leaves-lefts c) ∙ ap₂ (λ (s t : List ℕ). s ++ t) leaves-order (lefts-gates (inner c) c.gates b.gates)
      ∙ ap (λ (k : ℕ). up_from 0 (inner c) ++ up_from k (length c.gates)) p ∙ sym (up-append 0 (inner c) (length c.gates))
      ∙ ap (up_from 0) q

  pub well-ordered : WellFormed c → Ordered c
  well-ordered w = record {
    gates-in = order-binary (inner c) c.gates b.gates;
    next-in = nexts-bounded c.M (inner c + length c.gates) c.latches (omega (arith, b.sum)) w.latches;
    output-in = outputs-bounded c.M (inner c + length c.gates) c.outputs (omega (arith, b.sum)) w.outputs;
    bad-in = outputs-bounded c.M (inner c + length c.gates) c.bads (omega (arith, b.sum)) w.bads;
    constraint-in = outputs-bounded c.M (inner c + length c.gates) c.constraints (omega (arith, b.sum)) w.constraints;
  }

  pub defined-ordered : Bounded (suc c.M) (nexts c.latches) → Bounded (suc c.M) c.outputs → Bounded (suc c.M) c.bads
      → Bounded (suc c.M) c.constraints
      → (v : ℕ) → has v (used_in c) ≡ true → has v (zero ∷ defined_in c) ≡ true
  defined-ordered n u x y v h =
      ap (has v) defined-order ∙ has-up 0 (suc c.M) v (omega arith)
      (omega (arith, bounded-has (suc c.M) (roots c ++ rights c.gates) used v h))
    where
      used : Bounded (suc c.M) (roots c ++ rights c.gates)
      used =
          bounded-append (suc c.M) (roots c) (rights c.gates) (bounded-append (suc c.M) (nexts c.latches) (observed c) n
          (bounded-append (suc c.M) c.outputs (c.bads ++ c.constraints) u (bounded-append (suc c.M) c.bads c.constraints x y)))
          (rights-bounded (suc c.M) (inner c) c.gates b.gates (omega (arith, b.sum)))

  pub acyclic-ordered : (v : ℕ) → ¬ Depends c.gates v v
  acyclic-ordered = (settled-exactly c.gates).0 (settled-binary (inner c) c.gates (order-binary (inner c) c.gates b.gates))

  -- the variables that are defined run from 1 on, so each is defined once
  pub different-ordered : all_new [] (defined_in c) ≡ true
  different-ordered =
      ap (all_new []) in_a_row ∙ run-new (length c.inputs) (length c.latches) (length c.gates)
    where
      in_a_row : defined_in c
          ≡ up_from 1 (length c.inputs) ++ (up_from (1 + length c.inputs) (length c.latches) ++ up_from (inner c) (length c.gates))
      in_a_row =
          ap₂ (λ (s t : List ℕ). s ++ t) inputs-up
          (ap₂ (λ (s t : List ℕ). s ++ t) latches-up (lefts-gates (inner c) c.gates b.gates))

  pub well-formed : c.M ≤ most → length c.outputs ≤ most → length c.bads ≤ most → length c.constraints ≤ most
      → resets_ok c.latches c.resets ≡ true → Bounded (suc c.M) (nexts c.latches) → Bounded (suc c.M) c.outputs
      → Bounded (suc c.M) c.bads → Bounded (suc c.M) c.constraints → WellFormed c
  well-formed m o p q r n u x y = record {
    most-M = m;
    most-I = omega (arith, b.sum);
    most-L = omega (arith, b.sum);
    most-O = o;
    most-A = omega (arith, b.sum);
    most-B = p;
    most-C = q;
    sum = omega (arith, b.sum);
    inputs = ap (λ (ls : List ℕ). all_inside true c.M (map one_line ls)) b.inputs
        ∙ lits-inside c.M (length c.inputs) 1 (omega arith) (omega (arith, b.sum));
    latches = ap (λ (ls : List Latch). all_inside true c.M (map latch_line ls)) b.latches
        ∙ latches-inside c.M (1 + length c.inputs) (nexts c.latches) (omega arith)
        (omega (arith, b.sum, length-nexts c.latches)) (bounded-outputs c.M (nexts c.latches) n);
    resets = r;
    outputs = bounded-outputs c.M c.outputs u;
    bads = bounded-outputs c.M c.bads x;
    constraints = bounded-outputs c.M c.constraints y;
    gates = gates-inside c.M (inner c) c.gates b.gates (omega arith) (omega (arith, b.sum));
    different = different-ordered;
    defined = defined-ordered n u x y;
    acyclic = acyclic-ordered;
  }
