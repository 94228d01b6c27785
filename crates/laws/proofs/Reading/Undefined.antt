-- 7 names the least used variable that is not defined, and nothing if there is none.
use Prim.Native.Nat.{ℕ, ◌≤◌, ◌<◌, min}
use mathlib.Core.Path.{◌≡◌, refl, sym, ap, ◌∙◌, subst}
use mathlib.Core.Bool.{Bool, true, false, cond, false≢true}
use mathlib.Core.Logic.{◌↔◌}
use mathlib.Core.List.{List, [], ◌∷◌}
use Rattle.std.specs.Prelude.{Option, Some, None}
use native.Mathlib.Omega.{arith}
use native.Mathlib.Decide.{dec_le}
use Rattle.plan.specs.Circuit.{has, or_less}
use Rattle.plan.specs.Depends.{least_missing}
use Rattle.laws.proofs.Reading.Members.{has-self, has-later, has-cases}

abbrev pub LeastSays : List ℕ → List ℕ → Option ℕ → Type 0
LeastSays ds us None = (v : ℕ) → has v us ≡ true → has v ds ≡ true
LeastSays ds us (Some v) = (has v us ≡ true) × (has v ds ≡ false) × ((u : ℕ) → u < v → has u us ≡ true → has u ds ≡ true)

pub least-says : (ds us : List ℕ) → LeastSays ds us (least_missing ds us)
least-says ds [] = λ v h. absurd (false≢true h)
least-says ds (x ∷ us) = go (has x ds) refl (least_missing ds us) (least-says ds us)
  where
    go : (t : Bool) → has x ds ≡ t → (r : Option ℕ) → LeastSays ds us r → LeastSays ds (x ∷ us) (cond t r (or_less x r))
    go true e None h = λ v k. has-cases (has v ds ≡ true) x v us k (λ q. subst (λ (y : ℕ). has y ds ≡ true) q e) (h v)
    go true e (Some w) h = (
      has-later w x us h.0,
      h.1,
      λ u l k. has-cases (has u ds ≡ true) x u us k (λ q. subst (λ (y : ℕ). has y ds ≡ true) q e) (h.2 u l),
    )
    go false e None h = (has-self x us, e, λ u l k. has-cases (has u ds ≡ true) x u us k (λ q. absurd (omega arith)) (h u))
    go false e (Some w) h = by_size (dec_le w x)
      where
        by_size : Dec (w ≤ x) → LeastSays ds (x ∷ us) (Some (min w x))
        by_size (yes l) =
            let m : w ≡ min w x = omega arith in
            subst (λ (y : ℕ). LeastSays ds (x ∷ us) (Some y)) m
            (has-later w x us h.0, h.1, λ u k p. has-cases (has u ds ≡ true) x u us p (λ q. absurd (omega arith)) (h.2 u k))
        by_size (no n) =
            let m : x ≡ min w x = omega arith in
            subst (λ (y : ℕ). LeastSays ds (x ∷ us) (Some y)) m
            (has-self x us, e, λ u k p. has-cases (has u ds ≡ true) x u us p (λ q. absurd (omega arith)) (h.2 u (omega arith)))

pub all-defined : (ds us : List ℕ) → least_missing ds us ≡ None → (v : ℕ) → has v us ≡ true → has v ds ≡ true
all-defined ds us e = subst (LeastSays ds us) e (least-says ds us)

pub defined-none : (ds us : List ℕ) → ((v : ℕ) → has v us ≡ true → has v ds ≡ true) → least_missing ds us ≡ None
defined-none ds us h = go (least_missing ds us) (least-says ds us)
  where
    go : (r : Option ℕ) → LeastSays ds us r → r ≡ None
    go None k = refl
    go (Some v) k = absurd (false≢true (sym k.1 ∙ h v k.0))

-- 7 names a variable exactly if it is the least that is used and not defined
pub least-named : (ds us : List ℕ) (v : ℕ) → (least_missing ds us ≡ Some v) ↔ LeastSays ds us (Some v)
least-named ds us v = (λ e. subst (LeastSays ds us) e (least-says ds us), λ k. go k (least_missing ds us) (least-says ds us))
  where
    apart : (u w : ℕ) → u < w → LeastSays ds us (Some u) → LeastSays ds us (Some w) → ⊥
    apart u w l k j = false≢true (sym k.1 ∙ j.2 u l k.0)

    go : LeastSays ds us (Some v) → (r : Option ℕ) → LeastSays ds us r → r ≡ Some v
    go k None j = absurd (false≢true (sym k.1 ∙ j v k.0))
    go k (Some u) j = by_size (dec_le u v) (dec_le v u)
      where
        by_size : Dec (u ≤ v) → Dec (v ≤ u) → Some u ≡ Some v
        by_size (yes l) (yes m) = let e : u ≡ v = omega arith in ap Some e
        by_size (yes l) (no m) = absurd (apart u v (omega arith) j k)
        by_size (no l) _ = absurd (apart v u (omega arith) k j)
