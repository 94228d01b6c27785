-- What is left to check of a circuit whose literals are in range and whose variables are each defined once: 7, then 8.
use Rattle.std.specs.Prelude.{ℕ, ◌+◌, ◌*◌, ◌<◌, ◌≤◌, ◌≡◌, true, false, List, [], ◌∷◌, map, length, take, drop, Option}
use Rattle.plan.specs.declared.Counts.{Counts}
use Rattle.plan.specs.declared.Refusal.{Refusal}
use Rattle.plan.specs.declared.Refusal.TheVariants.{NotDefined, Cyclic}
use Rattle.plan.specs.Literals.{most}
use Rattle.plan.specs.Refusals.{stage, first_of}
use Rattle.plan.specs.Circuit.{Circuit, one_line, latch_line, gate_line, latch_of, gate_of, rows_of, defined_in, all_new}
use Rattle.plan.specs.Circuit.{all_inside}
use Rattle.plan.specs.Depends.{undefined_in, cyclic_in}
use Rattle.laws.proofs.Marks.{Agrees}
use Rattle.tables.specs.Held.{circuit_in}

-- 7, then 8
abbrev pub closing : Circuit → Option Refusal
closing c = first_of (stage NotDefined (undefined_in c) ∷ stage Cyclic (cyclic_in c) ∷ [])

-- the tables hold a circuit in which no check before 7 fails, whatever the resets are, and scratch, from `base` on,
-- marks the variables that are defined
pub record Read (n : Counts) (inputs latches outputs gates bads constraints scratch : List ℕ) (base : ℕ) : Type 0 where
  pub most-M : n.M ≤ most
  pub sum : n.I + n.L + n.A ≤ n.M
  pub inputs_long : n.I ≤ length inputs
  pub latches-long : 2 * n.L ≤ length latches
  pub outputs-long : n.O ≤ length outputs
  pub gates-long : 3 * n.A ≤ length gates
  pub bads-long : n.B ≤ length bads
  pub constraints-long : n.C ≤ length constraints
  pub scratch-long : 4 * (n.M + 1) ≤ length scratch
  pub marks-long : base + n.M < length scratch
  pub inputs-inside : all_inside true n.M (map one_line (take n.I inputs)) ≡ true
  pub latches-inside : all_inside true n.M (map latch_line (map latch_of (rows_of 2 n.L latches))) ≡ true
  pub outputs-inside : all_inside false n.M (map one_line (take n.O outputs)) ≡ true
  pub gates-inside : all_inside true n.M (map gate_line (map gate_of (rows_of 3 n.A gates))) ≡ true
  pub bads-inside : all_inside false n.M (map one_line (take n.B bads)) ≡ true
  pub constraints-inside : all_inside false n.M (map one_line (take n.C constraints)) ≡ true
  pub different : all_new [] (defined_in (circuit_in n inputs latches outputs gates [] bads constraints)) ≡ true
  pub marked : Agrees n.M (defined_in (circuit_in n inputs latches outputs gates [] bads constraints))
      (drop base scratch)
