-- The gates of a list: what holds of each, the gate of a variable, every gate found by its own left side.
use Prim.Native.Nat.{ℕ}
use mathlib.Core.Path.{◌≡◌, refl, sym, subst}
use mathlib.Core.Bool.{Bool, true, false, cond, ◌||◌, false≢true}
use mathlib.Core.List.{List, [], ◌∷◌, Memᴰ}
use Rattle.std.specs.Prelude.{Option, Some, None}
use borrow.Author.Tests.{eqb-true, eqb-false, eq-eqb, ne_eqb}
use lib.Dec.{eqb}
use Rattle.plan.specs.Literals.{var_of}
use Rattle.plan.specs.Circuit.{Gate, left_vars, rights, has}
use Rattle.plan.specs.Depends.{find}
use Rattle.laws.proofs.Reading.Members.{distinct}
use Rattle.laws.proofs.Running.Lists.{distinct_head, distinct_tail, all_in, in_head, in_tail}

-- each of the gates
abbrev pub AllG : (Gate → Type 0) → List Gate → Type 0
AllG P [] = Unit {0}
AllG P (g ∷ gs) = P g × AllG P gs

pub all-at : (P : Gate → Type 0) {g : Gate} {gs : List Gate} → Memᴰ g gs → AllG P gs → P g
all-at P (Memᴰ.head e) a = subst P (sym e) a.0
all-at P (Memᴰ.tail m) a = all-at P m a.1

pub all_map : (P Q : Gate → Type 0) → ((g : Gate) → P g → Q g) → (gs : List Gate) → AllG P gs → AllG Q gs
all_map P Q f [] a = tt
all_map P Q f (g ∷ gs) a = (f g a.0, all_map P Q f gs a.1)

all_both : (P Q : Gate → Type 0) (gs : List Gate) → AllG P gs → AllG Q gs → AllG (λ g. P g × Q g) gs
all_both P Q [] a b = tt
all_both P Q (g ∷ gs) a b = ((a.0, b.0), all_both P Q gs a.1 b.1)

-- the gate of a variable
abbrev pub FindSays : ℕ → List Gate → Option Gate → Type 1
FindSays v gs None = (◌≡◌ {A = Bool} (has v (left_vars gs)) false) × Unit {1}
FindSays v gs (Some g) = (var_of g.lhs ≡ v) × ((P : Gate → Type 0) → AllG P gs → P g)

find_past : (v : ℕ) (g : Gate) (gs : List Gate) → eqb (var_of g.lhs) v ≡ false → (r : Option Gate) → FindSays v gs r
    → FindSays v (g ∷ gs) r
find_past v g gs e None h = (rw e h.0, tt)
find_past v g gs e (Some j) h = (h.0, λ P a. h.1 P a.1)

pub find-says : (v : ℕ) (gs : List Gate) → FindSays v gs (find v gs)
find-says v [] = (refl, tt)
find-says v (g ∷ gs) = go (eqb (var_of g.lhs) v) refl (find-says v gs)
  where
    go : (t : Bool) → eqb (var_of g.lhs) v ≡ t → FindSays v gs (find v gs) → FindSays v (g ∷ gs) (cond t (Some g) (find v gs))
    go true e h = (eqb-true (var_of g.lhs) v e, λ P a. a.0)
    go false e h = find_past v g gs e (find v gs) h

-- both right sides are among some variables
abbrev pub Sides : List ℕ → Gate → Type 0
Sides ds g = (has (var_of g.rhs0) ds ≡ true) × (has (var_of g.rhs1) ds ≡ true)

pub sides-in : (ds : List ℕ) (gs : List Gate) → all_in (rights gs) ds ≡ true → AllG (Sides ds) gs
sides-in ds [] h = tt
sides-in ds (g ∷ gs) h =
    let k = in_tail g.rhs0 (g.rhs1 ∷ rights gs) ds h in (
      (in_head g.rhs0 (g.rhs1 ∷ rights gs) ds h, in_head g.rhs1 (rights gs) ds k),
      sides-in ds gs (in_tail g.rhs1 (rights gs) ds k),
    )

-- every gate is found by its own left side
pub or-none : (a b : Bool) → (a || b) ≡ false → (a ≡ false) × (b ≡ false)
or-none true b h = absurd (false≢true (sym h))
or-none false b h = (refl, h)

other-left : (x : ℕ) (gs : List Gate) → has x (left_vars gs) ≡ false → AllG (λ g. eqb x (var_of g.lhs) ≡ false) gs
other-left x [] h = tt
other-left x (g ∷ gs) h = (
  ne_eqb x (var_of g.lhs) (λ e. eqb-false (var_of g.lhs) x (or-none (eqb (var_of g.lhs) x) (has x (left_vars gs)) h).0 (sym e)),
  other-left x gs (or-none (eqb (var_of g.lhs) x) (has x (left_vars gs)) h).1,
)

pub found-own : (gs : List Gate) → distinct (left_vars gs) ≡ true → AllG (λ g. find (var_of g.lhs) gs ≡ Some g) gs
found-own [] h = tt
found-own (g ∷ gs) h = (
  rw (eq-eqb (var_of g.lhs) (var_of g.lhs) refl),
  all_map (λ j. (eqb (var_of g.lhs) (var_of j.lhs) ≡ false) × (find (var_of j.lhs) gs ≡ Some j))
      (λ j. find (var_of j.lhs) (g ∷ gs) ≡ Some j) (λ j t. rw t.0 t.1) gs
      (all_both (λ j. eqb (var_of g.lhs) (var_of j.lhs) ≡ false) (λ j. find (var_of j.lhs) gs ≡ Some j) gs
      (other-left (var_of g.lhs) gs (distinct_head (var_of g.lhs) (left_vars gs) h))
      (found-own gs (distinct_tail (var_of g.lhs) (left_vars gs) h))),
)
