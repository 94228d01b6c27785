-- What reading one difference, one gate and n gates answers, from what the plan says is read there.
use Rattle.std.specs.Prelude.{ℕ, ◌-◌, ◌≡◌, List, map, Result, Ok, Err}
use Rattle.plan.specs.declared.Refusal.{Refusal}
use Rattle.plan.specs.declared.Lit.{Lit}
use Rattle.plan.specs.Literals.{lit_at}
use Rattle.plan.specs.Refusals.{Parse, got, refused}
use Rattle.plan.specs.Circuit.{Gate, flat, gate_line}
use Rattle.plan.specs.Outcome.{put}

-- a difference, taken from a literal
abbrev pub side_by : ℕ → Parse ℕ → Result (Lit × ℕ) Refusal
side_by from (got d next) = Ok (lit_at (from - d), next)
side_by from (refused r) = Err r

abbrev pub gate_by : Parse Gate → Result (Lit × Lit × Lit × ℕ) Refusal
gate_by (got g next) = Ok (lit_at g.lhs, lit_at g.rhs0, lit_at g.rhs1, next)
gate_by (refused r) = Err r

-- the gates stand at the table's start, all else as it was; after a refusal nothing is said of the table but its length
abbrev pub GatesSay : List ℕ → Parse (List Gate) → Result ℕ Refusal → List ℕ → Type 0
GatesSay table (got gs next) r table' = (r ≡ Ok next) × (table' ≡ put table 0 (flat (map gate_line gs)))
GatesSay table (refused r') r table' = r ≡ Err r'
