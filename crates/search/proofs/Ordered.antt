-- A circuit in binary order whose literals have a number is accepted, whatever its counts.
use Prim.Native.Nat.{ℕ, zero, suc, ◌+◌, ◌≤◌, ◌<◌}
use mathlib.Core.Path.{◌≡◌, refl, sym, ap, ap₂, ◌∙◌}
use mathlib.Core.Bool.{Bool, true, false, ◌||◌}
use mathlib.Core.List.{List, [], ◌∷◌, ◌++◌}
use native.Mathlib.Omega.{arith}
use borrow.Author.Tests.{ne_eqb}
use lib.ListN.{length}
use Rattle.plan.specs.Literals.{var_of}
use Rattle.plan.specs.Circuit.{Gate, Circuit, left_vars, nexts, rights, has, leaves}
use Rattle.laws.proofs.Reading.Common.{and_intro}
use Rattle.laws.proofs.Reading.Members.{distinct}
use Rattle.laws.proofs.Reading.Order.{InOrder}
use Rattle.laws.proofs.Reading.Runs.{up_from, up-append, lefts-gates, BinaryOrder}
use Rattle.laws.proofs.Running.Lists.{distinct_cons, all_in}
use Rattle.laws.proofs.Running.Accepted.{Accepted}
use Rattle.laws.proofs.Running.Binary.{settled-binary, inner, Bounded, Ordered}
use Rattle.laws.proofs.Running.InOrder.{order-binary, leaves-order}
use Rattle.laws.proofs.Running.Upward.{has-up}

up-below : (n u v : ℕ) → v < u → has v (up_from u n) ≡ false
up-below zero u v h = refl
up-below (suc n) u v h = ap (λ (b : Bool). b || has v (up_from (suc u) n)) (ne_eqb u v (λ e. omega arith)) ∙ up-below n (suc u) v (omega arith)

up-distinct : (n u : ℕ) → distinct (up_from u n) ≡ true
up-distinct zero u = refl
up-distinct (suc n) u = distinct_cons u (up_from (suc u) n) (up-below n (suc u) u (omega arith)) (up-distinct n (suc u))

bounded-in : (n : ℕ) (ls : List ℕ) → Bounded n ls → all_in ls (up_from 0 n) ≡ true
bounded-in n [] b = refl
bounded-in n (l ∷ ls) b =
    and_intro (has (var_of l) (up_from 0 n)) (all_in ls (up_from 0 n)) (has-up 0 n (var_of l) (omega arith) (omega (arith, b.0))) (bounded-in n ls b.1)

sides-bounded : (m n : ℕ) (gs : List Gate) → InOrder n gs → n + length gs ≤ m → Bounded m (rights gs)
sides-bounded m n [] o h = tt
sides-bounded m n (g ∷ gs) o h =
    (omega (arith, o.0, o.1), (omega (arith, o.0, o.1, o.2), sides-bounded m (suc n) gs o.3 (omega arith)))

module _ (c : Circuit) (b : BinaryOrder c) (o : Ordered c) where
  all_up : leaves c ++ left_vars c.gates ≡ up_from 0 (inner c + length c.gates)
  all_up =
      let p : inner c ≡ 0 + inner c = omega arith in
      ap₂ (λ (s t : List ℕ). s ++ t) (leaves-order c b) (lefts-gates (inner c) c.gates b.gates)
      ∙ ap (λ (k : ℕ). up_from 0 (inner c) ++ up_from k (length c.gates)) p ∙ sym (up-append 0 (inner c) (length c.gates))

  inside : (ls : List ℕ) → Bounded (inner c + length c.gates) ls → all_in ls (leaves c ++ left_vars c.gates) ≡ true
  inside ls h = ap (all_in ls) all_up ∙ bounded-in (inner c + length c.gates) ls h

  pub ordered-accepted : Accepted c
  ordered-accepted = record {
    once = ap distinct all_up ∙ up-distinct (inner c + length c.gates) 0;
    used-next = inside (nexts c.latches) o.next-in;
    used-output = inside c.outputs o.output-in;
    used-bad = inside c.bads o.bad-in;
    used-constraint = inside c.constraints o.constraint-in;
    used-gate = inside (rights c.gates) (sides-bounded (inner c + length c.gates) (inner c) c.gates b.gates (omega arith));
    settles = settled-binary (inner c) c.gates (order-binary (inner c) c.gates b.gates);
  }
