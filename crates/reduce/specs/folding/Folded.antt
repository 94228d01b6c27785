-- Gates of a table folded in order: the state after k of them, and what is asked of the tables.
use Rattle.std.specs.Prelude.{◌≡◌, List, [], map, ℕ, ◌+◌, ◌*◌, ◌<◌, ◌≤◌, length, get_or, take, drop}
use Rattle.plan.specs.Literals.{most, var_of}
use Rattle.plan.specs.Circuit.{gate_line, flat}
use Rattle.plan.specs.Binary.{lits_from}
use Rattle.plan.specs.Reduce.{Reduced, reduce_gates}
use Rattle.plan.specs.Outcome.{put}
use Rattle.laws.proofs.Tables.{gates_at}
use Rattle.reduce.specs.pairs.Pairs.{named, Tree}

-- the first k gates of a table, over the variables below base
unfoldable pub folded : List ℕ → ℕ → ℕ → Reduced
folded gates base k = reduce_gates (record { became = lits_from 0 base; retained = []; fresh = base }) (gates_at gates k)

-- the right sides of gate k are of variables below its own
pub record Below (gates : List ℕ) (base k : ℕ) : Type 0 where
  pub rhs0 : var_of (get_or gates (3 * k + 1) 0) < base + k
  pub rhs1 : var_of (get_or gates (3 * k + 2) 0) < base + k

-- k gates are done, of which n are retained: what the variables became stands first in the scratch, the tree after it
pub record Held (gates to scratch : List ℕ) (base w k n : ℕ) : Type 0 where
  pub count : n ≤ k
  pub became : take (base + k) scratch ≡ (folded gates base k).became
  pub retained : named base to n ≡ (folded gates base k).retained
  pub fresh : (folded gates base k).fresh ≡ base + n
  pub tree : Tree to scratch w n

-- room for gate k
pub record Roomy (gates to scratch : List ℕ) (base w k : ℕ) : Type 0 where
  pub leaf : 0 < base
  pub within : base + k < w
  pub few : w ≤ most + 1
  pub gates-long : 3 * k + 3 ≤ length gates
  pub to-long : 3 * k + 3 ≤ length to
  pub scratch-long : 4 * w ≤ length scratch
  pub below : Below gates base k

-- one gate later, r are retained
pub record Stepped (gates to₀ to scratch : List ℕ) (base w k n r : ℕ) : Type 0 where
  pub more : n ≤ r
  pub held : Held gates to scratch base w (k + 1) r
  pub past : drop (3 * r) to ≡ drop (3 * r) to₀

-- gates in binary order, with room, and tables to work in that are zero
pub record Foldable (gates to scratch : List ℕ) (base a : ℕ) : Type 0 where
  pub leaf : 0 < base
  pub few : base + a ≤ most + 1
  pub gates-long : 3 * a ≤ length gates
  pub to-long : 3 * a ≤ length to
  pub scratch-long : 4 * (base + a) ≤ length scratch
  pub below : (k : ℕ) → k < a → Below gates base k
  pub to-blank : (s : ℕ) → get_or to s 0 ≡ 0
  pub scratch-blank : (s : ℕ) → get_or scratch s 0 ≡ 0

-- all gates are done: how many are retained, what the variables became, and the retained gates in their table
pub record Done (gates to₀ to scratch : List ℕ) (base a r : ℕ) : Type 0 where
  pub count : r ≡ length (folded gates base a).retained
  pub became : take (base + a) scratch ≡ (folded gates base a).became
  pub retained : to ≡ put to₀ 0 (flat (map gate_line (folded gates base a).retained))
