-- Room: of the list of gates and by their places; in the words that are lent; for a circuit whose literals are in range.
use Prim.Native.Nat.{ℕ, suc, zero, ◌+◌, ◌*◌, ◌/◌, ◌<◌, ◌≤◌}
use mathlib.Core.Path.{◌≡◌, refl, sym, subst}
use mathlib.Core.Bool.{Bool, true, false}
use mathlib.Core.List.{List, [], ◌∷◌, ◌++◌, map}
use native.Mathlib.Omega.{arith}
use borrow.Author.Tests.{eqb-true, eqb-false}
use lib.Dec.{eqb}
use lib.ListN.{length}
use Rattle.plan.specs.Literals.{in_range}
use Rattle.plan.specs.Circuit.{Gate, gate_line, inside, all_inside}
use Rattle.laws.proofs.Ranges.{range-var}
use Rattle.laws.proofs.Reading.Common.{and_left, and_right}
use Rattle.laws.proofs.Running.Found.{AllG}
use Rattle.laws.proofs.Tables.{firsts, gate_at, gates-rows}
use Rattle.judge.specs.order.Numbers.{InTable}
use Rattle.judge.specs.marks.Levels.{p3}
use Rattle.judge.specs.order.Waiting.{Room, Space, words_for}

-- what holds of each gate of a table holds at each place
all-front : (P : Gate → Type 0) (gs hs : List Gate) → AllG P (gs ++ hs) → AllG P gs
all-front P [] hs h = tt
all-front P (g ∷ gs) hs h = (h.0, all-front P gs hs h.1)

all-last : (P : Gate → Type 0) (gs : List Gate) (g : Gate) → AllG P (gs ++ (g ∷ [])) → P g
all-last P [] g h = h.0
all-last P (x ∷ gs) g h = all-last P gs g h.1

pub all-places : (P : Gate → Type 0) (at : ℕ → Gate) (a : ℕ) → AllG P (firsts at a) → (i : ℕ) → i < a → P (at i)
all-places P at zero h i k = absurd (omega arith)
all-places P at (suc a) h i k = go (eqb i a) refl (all-places P at a (all-front P (firsts at a) (at a ∷ []) h) i)
  where
    go : (b : Bool) → eqb i a ≡ b → (i < a → P (at i)) → P (at i)
    go true e f = subst (λ (x : ℕ). P (at x)) (sym (eqb-true i a e)) (all-last P (firsts at a) (at a) h)
    go false e f = f (omega (arith, eqb-false i a e))

pub space-of : (gates t : List ℕ) (n a : ℕ) → Room gates t n a → Space gates t n a
space-of gates t n a r = record {
  gates-long = r.gates-long;
  table-long = r.table-long;
  small = r.small;
  inside = all-places (InTable n) (gate_at gates) a (subst (AllG (InTable n)) (gates-rows gates a) r.inside);
}

pub space-again : (gates t u : List ℕ) (n a : ℕ) → length u ≡ length t → Space gates t n a → Space gates u n a
space-again gates t u n a e s = record {
  gates-long = s.gates-long;
  table-long = omega (arith, s.table-long);
  small = s.small;
  inside = s.inside;
}

-- gate i is in the table
pub gate-fits : (gates t : List ℕ) (n a i : ℕ) → Space gates t n a → i < a → InTable (length t) (gate_at gates i)
gate-fits gates t n a i s h =
    let g = s.inside i h in
    (omega (arith, g.0, s.table-long), omega (arith, g.1, s.table-long), omega (arith, g.2, s.table-long))

-- where there is a gate the top level of marks has its word
pub top-word : (n a l : ℕ) → 0 < a → words_for n a ≤ l → p3 n a < l
top-word n a l h k = let one : 1 ≤ (a + 1048575) / 1048576 = omega arith in omega arith

-- 4 * (M + 1) words are enough, where A is at most M
top-few : (a : ℕ) → a < 1048576 → (a + 1048575) / 1048576 ≤ 1
top-few a h = omega arith

pub words-enough : (m a : ℕ) → a ≤ m → a < 1048576 → words_for (m + 1) a ≤ 4 * (m + 1)
words-enough m zero h s = omega arith
words-enough m (suc a) h s = enough m (suc a) ((suc a + 1048575) / 1048576) h (omega arith) (top-few (suc a) s)
  where
    enough : (m a top : ℕ) → a ≤ m → 1 ≤ a → top ≤ 1
        → m + 1 + 2 * a + (a / 32 + 1) + (a / 1024 + 1) + (a / 32768 + 1) + top ≤ 4 * (m + 1)
    enough m a top h k t = omega arith

-- gates whose literals are in their ranges have variables below M + 1
pub gates-inside : (m : ℕ) (gs : List Gate) → all_inside true m (map gate_line gs) ≡ true → AllG (InTable (m + 1)) gs
gates-inside m [] h = tt
gates-inside m (g ∷ gs) h = (this, gates-inside m gs (and_right (inside true m (gate_line g)) _ h))
  where
    line : inside true m (gate_line g) ≡ true
    line = and_left (inside true m (gate_line g)) _ h

    sides : inside false m (g.rhs0 ∷ g.rhs1 ∷ []) ≡ true
    sides = and_right (in_range true m g.lhs) _ line

    this : InTable (m + 1) g
    this = (
      omega (arith, range-var true m g.lhs (and_left (in_range true m g.lhs) _ line)),
      omega (arith, range-var false m g.rhs0 (and_left (in_range false m g.rhs0) _ sides)),
      omega (arith, range-var false m g.rhs1 (and_left (in_range false m g.rhs1) _ (and_right (in_range false m g.rhs0) _ sides))),
    )
