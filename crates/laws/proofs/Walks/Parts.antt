-- The gates of some variables, as a part of a list of gates: what is found there, what it keeps.
use Prim.Native.Nat.{ℕ, suc, ◌≤◌}
use mathlib.Core.Path.{◌≡◌, refl, sym, ap, ◌∙◌, subst}
use mathlib.Core.Bool.{Bool, true, false, cond, not, false≢true}
use mathlib.Core.List.{List, [], ◌∷◌, ◌++◌, map}
use Rattle.std.specs.Prelude.{Some, None}
use native.Mathlib.Omega.{arith}
use borrow.Author.Tests.{eqb-true}
use lib.Dec.{eqb}
use lib.ListN.{length}
use Rattle.plan.specs.Literals.{var_of}
use Rattle.plan.specs.Circuit.{Gate, gate_line, left_vars, has, all_new, inside, all_inside}
use Rattle.plan.specs.Depends.{find, Depends, one, more}
use Rattle.laws.proofs.Reading.Common.{and_left, and_right, and_intro}
use Rattle.laws.proofs.Reading.Members.{has-self, has-later, has-cases, has-not, distinct}
use Rattle.laws.proofs.Running.Lists.{has_left, has_right, has-but, absent, distinct_head, distinct_tail, distinct_cons}
use Rattle.laws.proofs.Running.Found.{AllG}
use Rattle.laws.proofs.Running.Scan.{has-snoc}
use Rattle.plan.specs.Drop.{gates_of}

-- the gate of a variable is found exactly if the variable is one of them
pub find-of : (v : ℕ) (vs : List ℕ) (gs : List Gate) → find v (gates_of vs gs) ≡ cond (has v vs) (find v gs) None
find-of v vs [] = go (has v vs)
  where
    go : (t : Bool) → None ≡ cond t (find v []) None
    go true = refl
    go false = refl
find-of v vs (g ∷ gs) = go (eqb (var_of g.lhs) v) refl (has (var_of g.lhs) vs) refl (find-of v vs gs)
  where
    go : (t : Bool) → eqb (var_of g.lhs) v ≡ t → (r : Bool) → has (var_of g.lhs) vs ≡ r
        → find v (gates_of vs gs) ≡ cond (has v vs) (find v gs) None
        → find v (cond r (g ∷ gates_of vs gs) (gates_of vs gs)) ≡ cond (has v vs) (cond t (Some g) (find v gs)) None
    go true e true p ih =
        let same : has v vs ≡ true = ap (λ (x : ℕ). has x vs) (sym (eqb-true (var_of g.lhs) v e)) ∙ p in
        rw (e, same)
    go true e false p ih =
        let same : has v vs ≡ false = ap (λ (x : ℕ). has x vs) (sym (eqb-true (var_of g.lhs) v e)) ∙ p in
        ih ∙ ap (λ (t : Bool). cond t (find v gs) None) same ∙ ap (λ (t : Bool). cond t (Some g) None) (sym same)
    go false e true p ih = rw e ih
    go false e false p ih = ih

pub find-in : (v : ℕ) (vs : List ℕ) (gs : List Gate) (g : Gate) → find v (gates_of vs gs) ≡ Some g → (has v vs ≡ true) × (find v gs ≡ Some g)
find-in v vs gs g e = go (has v vs) refl (sym (find-of v vs gs) ∙ e)
  where
    go : (t : Bool) → has v vs ≡ t → cond t (find v gs) None ≡ Some g → (has v vs ≡ true) × (find v gs ≡ Some g)
    go true p q = (p, q)
    go false p q = let z : ◌≡◌ {A = ℕ} 0 1 = cc in absurd (omega arith)

-- what depends on a variable among them did so before
pub depends-of : (vs : List ℕ) (gs : List Gate) {u v : ℕ} → Depends (gates_of vs gs) u v → Depends gs u v
depends-of vs gs (one {u = u} x) = one (x.0, x.1, (find-in u vs gs x.0 x.2).1, x.3)
depends-of vs gs (more {u = u} x d) = more (x.0, x.1, (find-in u vs gs x.0 x.2).1, x.3) (depends-of vs gs d)

pub length-of : (vs : List ℕ) (gs : List Gate) → length (gates_of vs gs) ≤ length gs
length-of vs [] = omega arith
length-of vs (g ∷ gs) = go (has (var_of g.lhs) vs) (length-of vs gs)
  where
    go : (t : Bool) → length (gates_of vs gs) ≤ length gs → length (cond t (g ∷ gates_of vs gs) (gates_of vs gs)) ≤ suc (length gs)
    go true h = omega arith
    go false h = omega arith

pub inside_of : (vs : List ℕ) (m : ℕ) (gs : List Gate) → all_inside true m (map gate_line gs) ≡ true
    → all_inside true m (map gate_line (gates_of vs gs)) ≡ true
inside_of vs m [] h = refl
inside_of vs m (g ∷ gs) h =
    go (has (var_of g.lhs) vs) (and_left (inside true m (gate_line g)) (all_inside true m (map gate_line gs)) h)
    (inside_of vs m gs (and_right (inside true m (gate_line g)) (all_inside true m (map gate_line gs)) h))
  where
    go : (t : Bool) → inside true m (gate_line g) ≡ true → all_inside true m (map gate_line (gates_of vs gs)) ≡ true
        → all_inside true m (map gate_line (cond t (g ∷ gates_of vs gs) (gates_of vs gs))) ≡ true
    go true k ih = and_intro (inside true m (gate_line g)) (all_inside true m (map gate_line (gates_of vs gs))) k ih
    go false k ih = ih

-- of each of the gates
pub all_of : (P : Gate → Type 0) (vs : List ℕ) (gs : List Gate) → AllG (λ g. has (var_of g.lhs) vs ≡ true → P g) gs → AllG P (gates_of vs gs)
all_of P vs [] a = tt
all_of P vs (g ∷ gs) a = go (has (var_of g.lhs) vs) refl (all_of P vs gs a.1)
  where
    go : (t : Bool) → has (var_of g.lhs) vs ≡ t → AllG P (gates_of vs gs) → AllG P (cond t (g ∷ gates_of vs gs) (gates_of vs gs))
    go true e ih = (a.0 e, ih)
    go false e ih = ih

-- where all are meant, all are there
pub of-all : (vs : List ℕ) (gs : List Gate) → AllG (λ g. has (var_of g.lhs) vs ≡ true) gs → gates_of vs gs ≡ gs
of-all vs [] a = refl
of-all vs (g ∷ gs) a = rw a.0 (ap (λ (t : List Gate). g ∷ t) (of-all vs gs a.1))

-- left sides
pub lefts-of : (vs : List ℕ) (gs : List Gate) (v : ℕ) → has v (left_vars (gates_of vs gs)) ≡ true → has v (left_vars gs) ≡ true
lefts-of vs [] v h = h
lefts-of vs (g ∷ gs) v h = go (has (var_of g.lhs) vs) h (lefts-of vs gs v)
  where
    go : (t : Bool) → has v (left_vars (cond t (g ∷ gates_of vs gs) (gates_of vs gs))) ≡ true
        → (has v (left_vars (gates_of vs gs)) ≡ true → has v (left_vars gs) ≡ true) → has v (left_vars (g ∷ gs)) ≡ true
    go true k ih =
        has-cases (has v (left_vars (g ∷ gs)) ≡ true) (var_of g.lhs) v (left_vars (gates_of vs gs)) k
        (λ e. subst (λ (x : ℕ). has x (left_vars (g ∷ gs)) ≡ true) e (has-self (var_of g.lhs) (left_vars gs)))
        (λ p. has-later v (var_of g.lhs) (left_vars gs) (ih p))
    go false k ih = has-later v (var_of g.lhs) (left_vars gs) (ih k)

pub of-lefts : (vs : List ℕ) (gs : List Gate) (v : ℕ) → has v (left_vars gs) ≡ true → has v vs ≡ true → has v (left_vars (gates_of vs gs)) ≡ true
of-lefts vs [] v h k = h
of-lefts vs (g ∷ gs) v h k =
    has-cases (has v (left_vars (gates_of vs (g ∷ gs))) ≡ true) (var_of g.lhs) v (left_vars gs) h
    (λ e. subst (λ (x : ℕ). has x (left_vars (gates_of vs (g ∷ gs))) ≡ true) e (here (subst (λ (x : ℕ). has x vs ≡ true) (sym e) k)))
    (λ p. later (has (var_of g.lhs) vs) (of-lefts vs gs v p k))
  where
    here : has (var_of g.lhs) vs ≡ true → has (var_of g.lhs) (left_vars (gates_of vs (g ∷ gs))) ≡ true
    here e = rw e (has-self (var_of g.lhs) (left_vars (gates_of vs gs)))

    later : (t : Bool) → has v (left_vars (gates_of vs gs)) ≡ true → has v (left_vars (cond t (g ∷ gates_of vs gs) (gates_of vs gs))) ≡ true
    later true p = has-later v (var_of g.lhs) (left_vars (gates_of vs gs)) p
    later false p = p

-- after some variables, the left sides stay all different
distinct-lefts : (vs : List ℕ) (gs : List Gate) → distinct (left_vars gs) ≡ true → distinct (left_vars (gates_of vs gs)) ≡ true
distinct-lefts vs [] d = refl
distinct-lefts vs (g ∷ gs) d = go (has (var_of g.lhs) vs) (distinct-lefts vs gs (distinct_tail (var_of g.lhs) (left_vars gs) d))
  where
    go : (t : Bool) → distinct (left_vars (gates_of vs gs)) ≡ true → distinct (left_vars (cond t (g ∷ gates_of vs gs) (gates_of vs gs))) ≡ true
    go true ih =
        distinct_cons (var_of g.lhs) (left_vars (gates_of vs gs))
        (absent (has (var_of g.lhs) (left_vars (gates_of vs gs)))
        (λ p. false≢true (sym (distinct_head (var_of g.lhs) (left_vars gs) d) ∙ lefts-of vs gs (var_of g.lhs) p)))
        ih
    go false ih = ih

-- what is in a joined list, if the second part has no more than it had
joined_of : (xs : List ℕ) (vs : List ℕ) (gs : List Gate) (v : ℕ) → has v (xs ++ left_vars (gates_of vs gs)) ≡ true → has v (xs ++ left_vars gs) ≡ true
joined_of xs vs gs v h = go (has v (left_vars (gates_of vs gs))) refl
  where
    go : (t : Bool) → has v (left_vars (gates_of vs gs)) ≡ t → has v (xs ++ left_vars gs) ≡ true
    go true p = has_right v xs (left_vars gs) (lefts-of vs gs v p)
    go false p = has_left v xs (left_vars gs) (has-but v xs (left_vars (gates_of vs gs)) h p)

pub distinct_of : (xs : List ℕ) (vs : List ℕ) (gs : List Gate) → distinct (xs ++ left_vars gs) ≡ true → distinct (xs ++ left_vars (gates_of vs gs)) ≡ true
distinct_of [] vs gs d = distinct-lefts vs gs d
distinct_of (x ∷ xs) vs gs d =
    distinct_cons x (xs ++ left_vars (gates_of vs gs))
    (absent (has x (xs ++ left_vars (gates_of vs gs)))
    (λ p. false≢true (sym (distinct_head x (xs ++ left_vars gs) d) ∙ joined_of xs vs gs x p)))
    (distinct_of xs vs gs (distinct_tail x (xs ++ left_vars gs) d))

-- all different and none of `seen`: none stands among `seen` or earlier in the list
pub distinct-new : (seen xs : List ℕ) → distinct xs ≡ true → ((v : ℕ) → has v xs ≡ true → has v seen ≡ false) → all_new seen xs ≡ true
distinct-new seen [] d h = refl
distinct-new seen (x ∷ xs) d h =
    and_intro (not (has x seen)) (all_new (seen ++ (x ∷ [])) xs) (ap not (h x (has-self x xs)))
    (distinct-new (seen ++ (x ∷ [])) xs (distinct_tail x xs d)
    (λ v k. has-snoc v x seen (has-not v x xs (distinct_head x xs d) k) ∙ h v (has-later v x xs k)))
