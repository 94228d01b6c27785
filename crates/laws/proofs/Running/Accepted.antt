-- A well-formed circuit: its leaves and gates are all different, what is used is among them, and every variable settles.
use Prim.Native.Nat.{ℕ, zero, ◌*◌}
use mathlib.Core.Path.{◌≡◌, refl, ap, ◌∙◌}
use mathlib.Core.Bool.{Bool, true, false, ◌&&◌, false≢true}
use mathlib.Core.List.{List, [], ◌∷◌, ◌++◌, map, append_assoc}
use native.Mathlib.Omega.{arith}
use borrow.Author.Tests.{leb-true}
use lib.Dec.{eqb, leb}
use lib.ListN.{length}
use Rattle.plan.specs.Literals.{var_of, sign_of, in_range}
use Rattle.plan.specs.Circuit.{Latch, Gate, Circuit, one_line, latch_line, gate_line, heads, vars, current_vars, left_vars, defined_in, nexts, observed, roots, leaves}
use Rattle.plan.specs.Circuit.{rights, used_in, has, all_new, inside, all_inside}
use Rattle.plan.specs.Depends.{settled}
use Rattle.plan.specs.Reading.{WellFormed}
use Rattle.laws.proofs.Reading.Common.{and_left, and_right}
use Rattle.laws.proofs.Reading.Members.{has-cases, distinct}
use Rattle.laws.proofs.Reading.Cycles.{settled-exactly}
use Rattle.laws.proofs.Running.Lists.{has_left, has_right, has-but, absent, distinct_cons, new-distinct, all_in, all_in_lem}

pub record Accepted (c : Circuit) : Type 0 where
  pub once : distinct (leaves c ++ left_vars c.gates) ≡ true
  pub used-next : all_in (nexts c.latches) (leaves c ++ left_vars c.gates) ≡ true
  pub used-output : all_in c.outputs (leaves c ++ left_vars c.gates) ≡ true
  pub used-bad : all_in c.bads (leaves c ++ left_vars c.gates) ≡ true
  pub used-constraint : all_in c.constraints (leaves c ++ left_vars c.gates) ≡ true
  pub used-gate : all_in (rights c.gates) (leaves c ++ left_vars c.gates) ≡ true
  pub settles : (v : ℕ) → settled c.gates (length c.gates) v ≡ true

-- a line that defines a literal within range does not define variable 0
module _ {A : Type 0} (m : ℕ) (literal : A → ℕ) (others : A → List ℕ) where
  abbrev line : A → List ℕ
  line a = literal a ∷ others a

  not-zero : (ls : List A) → all_inside true m (map line ls) ≡ true → has 0 (heads (map line ls)) ≡ true → ⊥
  not-zero [] h k = false≢true k
  not-zero (a ∷ ls) h k =
      let within : in_range true m (literal a) ≡ true
      = and_left (in_range true m (literal a)) (inside false m (others a))
      (and_left (inside true m (line a)) (all_inside true m (map line ls)) h) in
      let least = leb-true 2 (literal a) (and_left (leb 2 (literal a)) (leb (literal a) (2 * m))
      (and_right (eqb (sign_of (literal a)) 0) (leb 2 (literal a) && leb (literal a) (2 * m)) within)) in
      has-cases ⊥ (var_of (literal a)) 0 (heads (map line ls)) k (λ e. omega arith)
      (not-zero ls (and_right (inside true m (line a)) (all_inside true m (map line ls)) h))

vars-append : (xs ys : List ℕ) → vars (xs ++ ys) ≡ vars xs ++ vars ys
vars-append [] ys = refl
vars-append (x ∷ xs) ys = ap (λ (t : List ℕ). var_of x ∷ t) (vars-append xs ys)

-- the constant, then what is defined
pub leaves-lefts : (c : Circuit) → leaves c ++ left_vars c.gates ≡ zero ∷ defined_in c
leaves-lefts c = ap (λ (t : List ℕ). zero ∷ t) (append_assoc (vars c.inputs) (current_vars c.latches) (left_vars c.gates))

-- literals in their ranges, none defined twice: the leaves and the gates are all different
module _ (c : Circuit) (inputs : all_inside true c.M (map one_line c.inputs) ≡ true)
    (latches : all_inside true c.M (map latch_line c.latches) ≡ true) (gates : all_inside true c.M (map gate_line c.gates) ≡ true)
    (different : all_new [] (defined_in c) ≡ true) where
  zero-new : has 0 (defined_in c) ≡ false
  zero-new = absent (has 0 (defined_in c)) (λ h. go h (has 0 (current_vars c.latches ++ left_vars c.gates)) refl)
    where
      gates-not : has 0 (left_vars c.gates) ≡ true → ⊥
      gates-not = not-zero c.M (λ (g : Gate). g.lhs) (λ (g : Gate). g.rhs0 ∷ g.rhs1 ∷ []) c.gates gates

      latches-not : has 0 (current_vars c.latches) ≡ true → ⊥
      latches-not = not-zero c.M (λ (l : Latch). l.current) (λ (l : Latch). l.next ∷ []) c.latches latches

      inputs-not : has 0 (vars c.inputs) ≡ true → ⊥
      inputs-not = not-zero c.M (λ (l : ℕ). l) (λ (l : ℕ). []) c.inputs inputs

      go : has 0 (defined_in c) ≡ true → (t : Bool) → has 0 (current_vars c.latches ++ left_vars c.gates) ≡ t → ⊥
      go h true e = latches-not (has-but 0 (current_vars c.latches) (left_vars c.gates) e (absent (has 0 (left_vars c.gates)) gates-not))
      go h false e = inputs-not (has-but 0 (vars c.inputs) (current_vars c.latches ++ left_vars c.gates) h e)

  pub all_once : distinct (leaves c ++ left_vars c.gates) ≡ true
  all_once = ap distinct (leaves-lefts c) ∙ (distinct_cons zero (defined_in c) zero-new (new-distinct [] (defined_in c) different).0)

-- what is used is defined: it is among the leaves and the gates
module _ (c : Circuit) (defined : (v : ℕ) → has v (used_in c) ≡ true → has v (zero ∷ defined_in c) ≡ true) where
  used-in : (ls : List ℕ) → ((v : ℕ) → has v (vars ls) ≡ true → has v (used_in c) ≡ true) → all_in ls (leaves c ++ left_vars c.gates) ≡ true
  used-in ls h = rw (leaves-lefts c) (all_in_lem ls (zero ∷ defined_in c) (λ v k. defined v (h v k)))

  has-roots : (v : ℕ) → has v (vars (roots c)) ≡ true → has v (used_in c) ≡ true
  has-roots v k = rw (vars-append (roots c) (rights c.gates)) (has_left v (vars (roots c)) (vars (rights c.gates)) k)

  pub nexts-in : all_in (nexts c.latches) (leaves c ++ left_vars c.gates) ≡ true
  nexts-in =
      used-in (nexts c.latches)
      (λ v k. has-roots v (rw (vars-append (nexts c.latches) (observed c))
      (has_left v (vars (nexts c.latches)) (vars (observed c)) k)))

  has-observed : (v : ℕ) → has v (vars (observed c)) ≡ true → has v (used_in c) ≡ true
  has-observed v k =
      has-roots v (rw (vars-append (nexts c.latches) (observed c)) (has_right v (vars (nexts c.latches)) (vars (observed c)) k))

  pub outputs-in : all_in c.outputs (leaves c ++ left_vars c.gates) ≡ true
  outputs-in =
      used-in c.outputs
      (λ v k. has-observed v (rw (vars-append c.outputs (c.bads ++ c.constraints))
      (has_left v (vars c.outputs) (vars (c.bads ++ c.constraints)) k)))

  pub bads-in : all_in c.bads (leaves c ++ left_vars c.gates) ≡ true
  bads-in =
      used-in c.bads
      (λ v k. has-observed v (rw (vars-append c.outputs (c.bads ++ c.constraints), vars-append c.bads c.constraints)
      (has_right v (vars c.outputs) (vars c.bads ++ vars c.constraints) (has_left v (vars c.bads) (vars c.constraints) k))))

  pub constraints-in : all_in c.constraints (leaves c ++ left_vars c.gates) ≡ true
  constraints-in =
      used-in c.constraints
      (λ v k. has-observed v (rw (vars-append c.outputs (c.bads ++ c.constraints), vars-append c.bads c.constraints)
      (has_right v (vars c.outputs) (vars c.bads ++ vars c.constraints) (has_right v (vars c.bads) (vars c.constraints) k))))

  pub rights-in : all_in (rights c.gates) (leaves c ++ left_vars c.gates) ≡ true
  rights-in =
      used-in (rights c.gates)
      (λ v k. rw (vars-append (roots c) (rights c.gates)) (has_right v (vars (roots c)) (vars (rights c.gates)) k))

pub accepted : (c : Circuit) → WellFormed c → Accepted c
accepted c ok = record {
  once = all_once c ok.inputs ok.latches ok.gates ok.different;
  used-next = nexts-in c ok.defined;
  used-output = outputs-in c ok.defined;
  used-bad = bads-in c ok.defined;
  used-constraint = constraints-in c ok.defined;
  used-gate = rights-in c ok.defined;
  settles = (settled-exactly c.gates).1 ok.acyclic;
}
