-- What is observed: outputs, bad states and constraints, and what reading them leaves.
use Rattle.std.specs.Prelude.{ℕ, ◌≡◌, false, List, [], map, Result, Ok, Err}
use Rattle.plan.specs.declared.Refusal.{Refusal}
use Rattle.plan.specs.declared.Counts.{Counts}
use Rattle.plan.specs.Refusals.{Parse, got, refused, ◌then◌}
use Rattle.plan.specs.Circuit.{literal_of}
use Rattle.plan.specs.Bytes.{lines}
use Rattle.plan.specs.Outcome.{put}
use Rattle.laws.proofs.Marks.{Agrees}

pub record Observed : Type 0 where
  pub outputs : List ℕ
  pub bads : List ℕ
  pub constraints : List ℕ

-- O, B and C lines of one literal
abbrev pub observed_at : List ℕ → Counts → ℕ → Parse Observed
observed_at file n at =
    lines file 1 false n.M n.O [] at then λ outs at.
    lines file 1 false n.M n.B [] at then λ bads at.
    lines file 1 false n.M n.C [] at then λ cons at.
    got (record { outputs = map literal_of outs; bads = map literal_of bads; constraints = map literal_of cons }) at

-- the three lists from the start of their tables, and marks as they were; after a refusal only the refusal counts
abbrev pub ObservedSay : ℕ → List ℕ → List ℕ → List ℕ → List ℕ → Parse Observed → Result ℕ Refusal → List ℕ → List ℕ → List ℕ
    → List ℕ → Type 0
ObservedSay m seen a b c (got o next) r a' b' c' marks' =
    (r ≡ Ok next) × (a' ≡ put a 0 o.outputs) × (b' ≡ put b 0 o.bads) × (c' ≡ put c 0 o.constraints)
    × Agrees m seen marks'
ObservedSay m seen a b c (refused r') r a' b' c' marks' = r ≡ Err r'
