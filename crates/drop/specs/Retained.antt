-- Gates of a table dropped or retained in order: the state after k of them, and what is asked of the tables.
use Rattle.std.specs.Prelude.{ℕ, ◌+◌, ◌*◌, ◌<◌, ◌≤◌, ◌≡◌, Bool, true, false, List, [], ◌∷◌, map, length, get_or, take, Option, Some, None}
use Rattle.plan.specs.Literals.{most, var_of}
use Rattle.plan.specs.Circuit.{Gate, gate_line, flat, has}
use Rattle.plan.specs.Binary.{lits_from}
use Rattle.plan.specs.Reduce.{Reduced, becomes, retain}
use Rattle.plan.specs.Outcome.{put}
use Rattle.laws.proofs.Tables.{gates_at}
use Rattle.drop.specs.Marks.{bit}

-- a gate of one of the variables vs is retained, another one becomes 0
abbrev pub dropped : Bool → Option ℕ
dropped true = None
dropped false = Some 0

abbrev pub retain_gate : List ℕ → Reduced → Gate → Reduced
retain_gate vs r g =
    retain r (becomes r.became g.rhs0) (becomes r.became g.rhs1) (dropped (has (var_of g.lhs) vs))

abbrev pub retain_gates : List ℕ → Reduced → List Gate → Reduced
retain_gates vs r [] = r
retain_gates vs r (g ∷ gs) = retain_gates vs (retain_gate vs r g) gs

-- the first k gates of a table, over the variables below base
unfoldable pub kept : List ℕ → List ℕ → ℕ → ℕ → Reduced
kept vs gates base k =
    retain_gates vs (record { became = lits_from 0 base; retained = []; fresh = base }) (gates_at gates k)

-- k gates are done, of which n are retained: what the variables became stands first in t, the marks after it
pub record Held (vs gates to₀ to t : List ℕ) (base k n : ℕ) : Type 0 where
  pub count : n ≡ length (kept vs gates base k).retained
  pub fresh : (kept vs gates base k).fresh ≡ base + n
  pub became : take (base + k) t ≡ (kept vs gates base k).became
  pub marks : (v : ℕ) → base + k ≤ v → get_or t v 0 ≡ bit (has v vs)
  pub retained : to ≡ put to₀ 0 (flat (map gate_line (kept vs gates base k).retained))
  pub same : length to ≡ length to₀

-- gate k's variable is its own, and its right sides are of lower ones
pub record InPlace (gates : List ℕ) (base k : ℕ) : Type 0 where
  pub lhs : var_of (get_or gates (3 * k) 0) ≡ base + k
  pub rhs0 : var_of (get_or gates (3 * k + 1) 0) < base + k
  pub rhs1 : var_of (get_or gates (3 * k + 2) 0) < base + k

-- room for gate k
pub record Roomy (gates to t : List ℕ) (base k n : ℕ) : Type 0 where
  pub within : base + k ≤ most
  pub few : n ≤ k
  pub gates-long : 3 * k + 3 ≤ length gates
  pub to-long : 3 * n + 3 ≤ length to
  pub t-long : base + k < length t
  pub in_place : InPlace gates base k

-- one gate later r are retained
pub record Stepped (gates to to' t t' : List ℕ) (base k n r : ℕ) : Type 0 where
  pub most-one : r ≤ n + 1
  pub held : (vs to₀ : List ℕ) → Held vs gates to₀ to t base k n → Held vs gates to₀ to' t' base (k + 1) r

-- gates in binary order, with room
pub record Retainable (gates to t : List ℕ) (base a : ℕ) : Type 0 where
  pub few : base + a ≤ most + 1
  pub gates-long : 3 * a ≤ length gates
  pub to-long : 3 * a ≤ length to
  pub t-long : base + a ≤ length t
  pub in_place : (k : ℕ) → k < a → InPlace gates base k

-- all gates are done: how many are retained, what the variables became, and the retained gates in their table
pub record Done (vs gates to₀ to t : List ℕ) (base a r : ℕ) : Type 0 where
  pub count : r ≡ length (kept vs gates base a).retained
  pub became : take (base + a) t ≡ (kept vs gates base a).became
  pub retained : to ≡ put to₀ 0 (flat (map gate_line (kept vs gates base a).retained))
