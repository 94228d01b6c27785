-- Gates in a tree by their pair of right sides.
use Rattle.std.specs.Prelude.{◌≡◌, true, cond, List, ℕ, zero, suc, ◌+◌, ◌-◌, ◌*◌, ◌/◌, ◌%◌, ◌<◌, ◌≤◌, ltb, length, get_or, set, Some, None}
use Rattle.plan.specs.Literals.{most, lit_of, var_of}
use Rattle.plan.specs.Circuit.{Gate}
use Rattle.plan.specs.Reduce.{twin}
use Rattle.laws.proofs.Tables.{firsts, gate_at}
use Rattle.reduce.specs.declared.pairs.Slot.{Slot}
use Rattle.reduce.specs.declared.pairs.Slot.TheVariants.{Root, Under}
use Rattle.reduce.specs.declared.pairs.Place.{Place}
use Rattle.reduce.specs.declared.pairs.Place.TheVariants.{Taken, Free}
use Rattle.reduce.specs.pairs.Tree.{node, symbol, slot_of, Grown}

-- how far the smaller side moves a pair's root: its product with 2 ^ 32 over the golden ratio, cut to 32 bits, on a
-- scale of 2 × w
unfoldable pub spread_of : ℕ → ℕ → ℕ
spread_of w y = y * 2654435769 % 4294967296 * (2 * w) / 4294967296

-- which of the 2 × w roots is a pair's: the larger side, moved on
unfoldable pub root_of : ℕ → ℕ → ℕ → ℕ
root_of w x y = (x + spread_of w y) % (2 * w)

-- the path of a pair: its root, then the bits of the smaller side
abbrev pub halves : ℕ → ℕ → ℕ
halves key zero = key
halves key (suc d) = halves key d / 2

abbrev pub path_of : ℕ → ℕ → ℕ → ℕ → ℕ
path_of w x y zero = root_of w x y
path_of w x y (suc d) = halves y d % 2

-- the path of gate i of a table
abbrev pub paths : ℕ → List ℕ → ℕ → ℕ → ℕ
paths w gates i = path_of w (gate_at gates i).rhs0 (gate_at gates i).rhs1

-- what stands at a slot: from 4 × w on the first words of the gates' rows are links, until left sides are written there
abbrev pub word : List ℕ → List ℕ → ℕ → ℕ → ℕ
word gates scratch w s = cond (ltb s (4 * w)) (get_or scratch s 0) (get_or gates (3 * (s - 4 * w)) 0)

-- gate i of such a table is of variable base + i
abbrev pub named_at : ℕ → List ℕ → ℕ → Gate
named_at base gates i =
    record { lhs = lit_of (base + i); rhs0 = get_or gates (3 * i + 1) 0; rhs1 = get_or gates (3 * i + 2) 0 }

abbrev pub named : ℕ → List ℕ → ℕ → List Gate
named base gates = firsts (named_at base gates)

-- n gates hang in the tree, and no link of a later gate is set
pub record Tree (gates scratch : List ℕ) (w n : ℕ) : Type 0 where
  pub grown : Grown (paths w gates) w n (word gates scratch w)
  pub blank-rows : (i : ℕ) → n ≤ i → get_or gates (3 * i) 0 ≡ 0
  pub blank-links : (i : ℕ) → n ≤ i → i < w → get_or scratch (3 * w + i) 0 ≡ 0

-- room for one gate more
pub record Room (gates scratch : List ℕ) (w n : ℕ) : Type 0 where
  pub few : w ≤ most + 1
  pub fewer : n < w
  pub gates-long : 3 * n + 3 ≤ length gates
  pub scratch-long : 4 * w ≤ length scratch

-- both sides are of the first w variables
pub record Rooted (w x y : ℕ) : Type 0 where
  pub larger : var_of x < w
  pub smaller : var_of y < w

-- the slot at which a gate with the sides x, y is to hang
pub record Hangs (gates scratch : List ℕ) (w n x y slot : ℕ) : Type 0 where
  pub k : ℕ
  pub below : k ≤ n
  pub stands : node (paths w gates) (path_of w x y) k ≡ true
  pub at : slot ≡ slot_of w k (symbol (paths w gates) (path_of w x y) k)
  pub free : word gates scratch w slot ≡ 0

-- a slot's number; each has one slot that is so within bounds
abbrev pub number_of : ℕ → Slot → ℕ
number_of w (Root at) = at
number_of w (Under i bit) = slot_of w (suc i) bit

abbrev pub Within : ℕ → ℕ → Slot → Type 0
Within w n (Root at) = at < 3 * w
Within w n (Under i bit) = (i < n) × (bit < 2)

-- the earlier gate with the same pair, or where the gate is to hang
abbrev pub Sought : List ℕ → List ℕ → ℕ → ℕ → ℕ → ℕ → ℕ → Place → Type 0
Sought gates scratch base w n x y (Taken l) = twin x y (named base gates n) ≡ Some l
Sought gates scratch base w n x y (Free slot) =
    (twin x y (named base gates n) ≡ None) × (Within w n slot × Hangs gates scratch w n x y (number_of w slot))

-- the sides of gate n of a table
abbrev pub stored : List ℕ → ℕ → ℕ → ℕ → List ℕ
stored gates n x y = set (set gates (3 * n + 1) x) (3 * n + 2) y

-- a slot leads to gate n
abbrev pub gates_hung : List ℕ → ℕ → ℕ → ℕ → List ℕ
gates_hung gates w slot n = cond (ltb slot (4 * w)) gates (set gates (3 * (slot - 4 * w)) (n + 1))

abbrev pub scratch_hung : List ℕ → ℕ → ℕ → ℕ → List ℕ
scratch_hung scratch w slot n = cond (ltb slot (4 * w)) (set scratch slot (n + 1)) scratch
