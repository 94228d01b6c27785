-- The gates that as many rounds as there are gates leave unsettled are those that depend on themselves, or on one that does; 8 names
-- the first of them.
use Prim.Native.Nat.{ℕ, zero, suc, ◌+◌, ◌/◌, ◌<◌}
use mathlib.Core.Path.{◌≡◌, refl, sym, ap, ◌∙◌, subst}
use mathlib.Core.Bool.{Bool, true, false, not, cond, ◌&&◌, ◌||◌, false≢true}
use mathlib.Core.Logic.{◌⊎◌, inl, inr, ◌↔◌}
use mathlib.Core.List.{List, [], ◌∷◌}
use Rattle.std.specs.Prelude.{Option, Some, None}
use native.Mathlib.Omega.{arith}
use native.Mathlib.Nat.{not-suc-le-zero}
use lib.Dec.{eqb}
use lib.ListN.{length}
use Rattle.plan.specs.Circuit.{Gate, left_vars, has}
use Rattle.plan.specs.Depends.{find, is_none, both, settled, first_stuck, side, Uses, Depends, one, more}
use Rattle.laws.proofs.Reading.Common.{and_left, and_right, and_intro}
use Rattle.laws.proofs.Reading.Members.{has-cases, distinct, pigeon}

-- u depends on itself, or on one that does
abbrev pub Stuck : List Gate → ℕ → Type 0
Stuck gs u = Depends gs u u ⊎ ((w : ℕ) × Depends gs u w × Depends gs w w)

pub none_of : (v : ℕ) (gs : List Gate) → has v (left_vars gs) ≡ false → find v gs ≡ None
none_of v [] h = refl
none_of v (g ∷ gs) h = go (eqb (g.lhs / 2) v) (none_of v gs) h
  where
    go : (t : Bool) → (has v (left_vars gs) ≡ false → find v gs ≡ None) → (t || has v (left_vars gs)) ≡ false → cond t (Some g) (find v gs) ≡ None
    go true f p = absurd (false≢true (sym p))
    go false f p = f p

-- soundness: what is settled depends only on what was settled in an earlier round
side-settled : (f : ℕ → Bool) (b : Bool) (g : Gate) → both f (Some g) ≡ true → f (side b g) ≡ true
side-settled f true g p = and_left (f (g.rhs0 / 2)) (f (g.rhs1 / 2)) p
side-settled f false g p = and_right (f (g.rhs0 / 2)) (f (g.rhs1 / 2)) p

uses-settled : (gs : List Gate) (k u v : ℕ) → Uses gs u v → settled gs k u ≡ true → (j : ℕ) × (j < k) × (settled gs j v ≡ true)
uses-settled gs zero u v x p = absurd (false≢true (sym (ap is_none x.2) ∙ p))
uses-settled gs (suc k) u v x p = (
  k,
  omega arith,
  subst (λ (t : ℕ). settled gs k t ≡ true) x.3
      (side-settled (λ t. settled gs k t) x.1 x.0 (sym (ap (both (λ t. settled gs k t)) x.2) ∙ p)),
)

depends-settled : (gs : List Gate) (k : ℕ) {u v : ℕ} → Depends gs u v → settled gs k u ≡ true → (j : ℕ) × (j < k) × (settled gs j v ≡ true)
depends-settled gs k (one {u = u} {v = v} x) p = uses-settled gs k u v x p
depends-settled gs k (more {u = u} {v = v} x d) p =
    let t = uses-settled gs k u v x p in
    let r = depends-settled gs t.0 d t.2 in
    (r.0, omega (arith, r.1, t.1), r.2)

-- a gate that depends on itself is never settled
never : (gs : List Gate) (n : ℕ) (u : ℕ) → Depends gs u u → (k : ℕ) → k < n → settled gs k u ≡ true → ⊥
never gs zero u d k h p = not-suc-le-zero h
never gs (suc n) u d k h p = let t = depends-settled gs k d p in never gs n u d t.0 (omega (arith, t.1)) t.2

pub stuck-unsettled : (gs : List Gate) (u : ℕ) → Stuck gs u → (k : ℕ) → settled gs k u ≡ true → ⊥
stuck-unsettled gs u (inl d) k p = never gs (suc k) u d k (omega arith) p
stuck-unsettled gs u (inr x) k p = let t = depends-settled gs k x.1 p in never gs (suc t.0) x.0 x.2 t.0 (omega arith) t.2

-- completeness: a walk from an unsettled gate, through unsettled ones, comes back to one that it has seen
snoc : (gs : List Gate) {u v : ℕ} (w : ℕ) → Depends gs u v → Uses gs v w → Depends gs u w
snoc gs w (one x) y = more x (one y)
snoc gs w (more x d) y = more x (snoc gs w d y)

unsettled-side : (f : ℕ → Bool) (o : Option Gate) → both f o ≡ false → (g : Gate) × (b : Bool) × (o ≡ Some g) × (f (side b g) ≡ false)
unsettled-side f None p = absurd (false≢true (sym p))
unsettled-side f (Some g) p = go (f (g.rhs0 / 2)) refl p
  where
    go : (t : Bool) → f (g.rhs0 / 2) ≡ t → (t && f (g.rhs1 / 2)) ≡ false
        → (j : Gate) × (b : Bool) × (◌≡◌ {A = Option Gate} (Some g) (Some j)) × (f (side b j) ≡ false)
    go true e q = (g, false, refl, q)
    go false e q = (g, true, refl, e)

pub length-lefts : (gs : List Gate) → length (left_vars gs) ≡ length gs
length-lefts [] = refl
length-lefts (g ∷ gs) = ap suc (length-lefts gs)

gate-in : (v : ℕ) (gs : List Gate) → is_none (find v gs) ≡ false → has v (left_vars gs) ≡ true
gate-in v gs p = go (has v (left_vars gs)) refl
  where
    go : (t : Bool) → has v (left_vars gs) ≡ t → t ≡ true
    go true e = refl
    go false e = absurd (false≢true (sym p ∙ ap is_none (none_of v gs e)))

none-unsettled : (gs : List Gate) (k v : ℕ) → settled gs k v ≡ false → is_none (find v gs) ≡ false
none-unsettled gs zero v p = p
none-unsettled gs (suc k) v p = let t = unsettled-side (λ u. settled gs k u) (find v gs) p in ap is_none t.2

abbrev Ends : List Gate → ℕ → Type 0
Ends gs v = (w : ℕ) × ((v ≡ w) ⊎ Depends gs v w) × Depends gs w w

ends_more : (gs : List Gate) (v u : ℕ) → Uses gs v u → Ends gs u → Ends gs v
ends_more gs v u x t = go t.1
  where
    go : (u ≡ t.0) ⊎ Depends gs u t.0 → Ends gs v
    go (inl e) = (t.0, inr (subst (λ (w : ℕ). Depends gs v w) e (one x)), t.2)
    go (inr r) = (t.0, inr (more x r), t.2)

-- seen: the gates that the walk came through, all different, each of which depends on the one it has come to
record Seen (gs : List Gate) (k : ℕ) (seen : List ℕ) (v : ℕ) : Type 0 where
  open-yet : settled gs k v ≡ false
  different : distinct seen ≡ true
  gates-all : (u : ℕ) → has u seen ≡ true → has u (left_vars gs) ≡ true
  came : (u : ℕ) → has u seen ≡ true → Depends gs u v
  count : length seen + k ≡ length gs

seen-in : (gs : List Gate) (k : ℕ) (seen : List ℕ) (v : ℕ) → Seen gs k seen v → (u : ℕ) → has u (v ∷ seen) ≡ true → has u (left_vars gs) ≡ true
seen-in gs k seen v s u h =
    has-cases (has u (left_vars gs) ≡ true) v u seen h (λ q. subst (λ (x : ℕ). has x (left_vars gs) ≡ true) q
    (gate-in v gs (none-unsettled gs k v s.open-yet))) (s.gates-all u)

seen-new : (gs : List Gate) (k : ℕ) (seen : List ℕ) (v : ℕ) → Seen gs k seen v → has v seen ≡ false → distinct (v ∷ seen) ≡ true
seen-new gs k seen v s e = and_intro (not (has v seen)) (distinct seen) (ap not e) s.different

climb : (gs : List Gate) (k : ℕ) (seen : List ℕ) (v : ℕ) → Seen gs k seen v → Ends gs v
climb gs zero seen v s = go (has v seen) refl
  where
    go : (t : Bool) → has v seen ≡ t → Ends gs v
    go true e = (v, inl refl, s.came v e)
    go false e =
        absurd (omega (
          arith,
          s.count,
          length-lefts gs,
          pigeon (v ∷ seen) (left_vars gs) (seen-new gs zero seen v s e) (seen-in gs zero seen v s),
        ))
climb gs (suc k) seen v s =
    let t = unsettled-side (λ u. settled gs k u) (find v gs) s.open-yet in
    go t (has v seen) refl (climb gs k (v ∷ seen) (side t.1 t.0))
  where
    go : (t : (g : Gate) × (b : Bool) × (find v gs ≡ Some g) × (settled gs k (side b g) ≡ false)) (r : Bool) → has v seen ≡ r
        → (Seen gs k (v ∷ seen) (side t.1 t.0) → Ends gs (side t.1 t.0)) → Ends gs v
    go t true e ih = (v, inl refl, s.came v e)
    go t false e ih =
        let x : Uses gs v (side t.1 t.0) = (t.0, t.1, t.2, refl) in
        ends_more gs v (side t.1 t.0) x (ih (record {
          open-yet = t.3;
          different = seen-new gs (suc k) seen v s e;
          gates-all = seen-in gs (suc k) seen v s;
          came =
              λ u h. has-cases (Depends gs u (side t.1 t.0)) v u seen h
              (λ q. subst (λ (w : ℕ). Depends gs w (side t.1 t.0)) q (one x)) (λ q. snoc gs (side t.1 t.0) (s.came u q) x);
          count = omega (arith, s.count);
        }))

pub unsettled-stuck : (gs : List Gate) (v : ℕ) → settled gs (length gs) v ≡ false → Stuck gs v
unsettled-stuck gs v p =
    go (climb gs (length gs) [] v (record {
      open-yet = p;
      different = refl;
      gates-all = λ u h. absurd (false≢true h);
      came = λ u h. absurd (false≢true h);
      count = omega arith;
    }))
  where
    go : Ends gs v → Stuck gs v
    go t = again t.1
      where
        again : (v ≡ t.0) ⊎ Depends gs v t.0 → Stuck gs v
        again (inl e) = inl (subst (λ (w : ℕ). Depends gs w w) (sym e) t.2)
        again (inr d) = inr (t.0, d, t.2)

-- what it says: the gates before it are not stuck, and it is
pub data FirstIs (all : List Gate) : List Gate → ℕ → Type 0 where
  here : {g : Gate} {gs : List Gate} → Stuck all (g.lhs / 2) → FirstIs all (g ∷ gs) (g.lhs / 2)
  there : {g : Gate} {gs : List Gate} {v : ℕ} → ¬ Stuck all (g.lhs / 2) → FirstIs all gs v → FirstIs all (g ∷ gs) v

abbrev pub NoneStuck : List Gate → List Gate → Type 0
NoneStuck all [] = Unit {0}
NoneStuck all (g ∷ gs) = (¬ Stuck all (g.lhs / 2)) × NoneStuck all gs

abbrev pub PlaceSays : List Gate → List Gate → Option ℕ → Type 0
PlaceSays all gs None = NoneStuck all gs
PlaceSays all gs (Some v) = FirstIs all gs v

place-past : (all : List Gate) (g : Gate) (gs : List Gate) → ¬ Stuck all (g.lhs / 2) → (o : Option ℕ) → PlaceSays all gs o
    → PlaceSays all (g ∷ gs) o
place-past all g gs n None h = (n, h)
place-past all g gs n (Some v) h = there n h

pub place-says : (all gs : List Gate) → PlaceSays all gs (first_stuck all gs)
place-says all [] = tt
place-says all (g ∷ gs) = go (settled all (length all) (g.lhs / 2)) refl (place-says all gs)
  where
    go : (t : Bool) → settled all (length all) (g.lhs / 2) ≡ t → PlaceSays all gs (first_stuck all gs)
        → PlaceSays all (g ∷ gs) (cond t (first_stuck all gs) (Some (g.lhs / 2)))
    go true e h = place-past all g gs (λ x. stuck-unsettled all (g.lhs / 2) x (length all) e) (first_stuck all gs) h
    go false e h = here (unsettled-stuck all (g.lhs / 2) e)

-- 8 names a gate exactly if it is the first in file order that depends on itself or on one that does
pub first-named : (all gs : List Gate) (v : ℕ) → (first_stuck all gs ≡ Some v) ↔ FirstIs all gs v
first-named all gs v = (λ e. subst (PlaceSays all gs) e (place-says all gs), named)
  where
    named : {gs : List Gate} {v : ℕ} → FirstIs all gs v → first_stuck all gs ≡ Some v
    named (here {g = g} {gs = gs} s) = go (settled all (length all) (g.lhs / 2)) refl
      where
        go : (t : Bool) → settled all (length all) (g.lhs / 2) ≡ t → cond t (first_stuck all gs) (Some (g.lhs / 2)) ≡ Some (g.lhs / 2)
        go true e = absurd (stuck-unsettled all (g.lhs / 2) s (length all) e)
        go false e = refl
    named (there {g = g} {gs = gs} {v = v} n f) = go (settled all (length all) (g.lhs / 2)) refl (named f)
      where
        go : (t : Bool) → settled all (length all) (g.lhs / 2) ≡ t → first_stuck all gs ≡ Some v
            → cond t (first_stuck all gs) (Some (g.lhs / 2)) ≡ Some v
        go true e k = k
        go false e k = absurd (n (unsettled-stuck all (g.lhs / 2) e))

-- 8 is not given exactly if no gate depends on itself
none_stuck : (all gs : List Gate) → first_stuck all gs ≡ None → NoneStuck all gs
none_stuck all gs e = subst (PlaceSays all gs) e (place-says all gs)

in-stuck : (all gs : List Gate) (v : ℕ) → NoneStuck all gs → has v (left_vars gs) ≡ true → ¬ Stuck all v
in-stuck all [] v h k = absurd (false≢true k)
in-stuck all (g ∷ gs) v h k =
    has-cases (¬ Stuck all v) (g.lhs / 2) v (left_vars gs) k (λ q. subst (λ (x : ℕ). ¬ Stuck all x) q h.0) (in-stuck all gs v h.1)

depends-left : (gs : List Gate) {u v : ℕ} → Depends gs u v → has u (left_vars gs) ≡ true
depends-left gs (one {u = u} x) = gate-in u gs (ap is_none x.2)
depends-left gs (more {u = u} x d) = gate-in u gs (ap is_none x.2)

pub no-cycle : (gs : List Gate) → first_stuck gs gs ≡ None → (v : ℕ) → ¬ Depends gs v v
no-cycle gs e v d = in-stuck gs gs v (none_stuck gs gs e) (depends-left gs d) (inl d)

not_stuck : (gs : List Gate) → ((v : ℕ) → ¬ Depends gs v v) → (u : ℕ) → Stuck gs u → ⊥
not_stuck gs h u (inl d) = h u d
not_stuck gs h u (inr x) = h x.0 x.2

pub cycle-none : (all gs : List Gate) → ((v : ℕ) → ¬ Depends all v v) → first_stuck all gs ≡ None
cycle-none all [] h = refl
cycle-none all (g ∷ gs) h = go (settled all (length all) (g.lhs / 2)) refl (cycle-none all gs h)
  where
    go : (t : Bool) → settled all (length all) (g.lhs / 2) ≡ t → first_stuck all gs ≡ None
        → cond t (first_stuck all gs) (Some (g.lhs / 2)) ≡ None
    go true e k = k
    go false e k = absurd (not_stuck all h (g.lhs / 2) (unsettled-stuck all (g.lhs / 2) e))

-- settled after as many rounds as there are gates exactly if nothing depends on itself
pub settled-exactly : (gs : List Gate) → ((v : ℕ) → settled gs (length gs) v ≡ true) ↔ ((v : ℕ) → ¬ Depends gs v v)
settled-exactly gs = (λ h v d. stuck-unsettled gs v (inl d) (length gs) (h v), λ h v. go h v (settled gs (length gs) v) refl)
  where
    go : ((v : ℕ) → ¬ Depends gs v v) → (v : ℕ) (t : Bool) → settled gs (length gs) v ≡ t → t ≡ true
    go h v true e = refl
    go h v false e = absurd (not_stuck gs h v (unsettled-stuck gs v e))
