-- What is asked of given tables whose literals are in range, and what marking the variables that they define answers.
use Rattle.std.specs.Prelude.{ℕ, ◌*◌, ◌<◌, ◌≤◌, ◌≡◌, Bool, true, false, not, List, ◌++◌, map, length, get_or, take, None, Option}
use Rattle.plan.specs.declared.Counts.{Counts}
use Rattle.plan.specs.Literals.{most}
use Rattle.plan.specs.Circuit.{latch_of, gate_of, rows_of, one_line, latch_line, gate_line, defined_in, all_new, all_inside}
use Rattle.plan.specs.Given.{twice_in}
use Rattle.laws.proofs.Marks.{Agrees}
use Rattle.tables.specs.Held.{circuit_in}

-- what rows that define these variables answer, after the variables `seen`: whether one of them was seen already;
-- if none was, they are marked too
pub record RowsSay (m : ℕ) (seen heads : List ℕ) (r : Bool) (marks' : List ℕ) : Type 0 where
  pub told : r ≡ not (all_new seen heads)
  pub marked : r ≡ false → Agrees m (seen ++ heads) marks'

-- tables with the words that the counts ask, of which those that define are in range, and blank marks for the
-- variables up to M
pub record Ranged (n : Counts) (inputs latches gates marks : List ℕ) : Type 0 where
  pub most-M : n.M ≤ most
  pub inputs_long : n.I ≤ length inputs
  pub latches-long : 2 * n.L ≤ length latches
  pub gates-long : 3 * n.A ≤ length gates
  pub marks-long : n.M < length marks
  pub inputs-inside : all_inside true n.M (map one_line (take n.I inputs)) ≡ true
  pub latches-inside : all_inside true n.M (map latch_line (map latch_of (rows_of 2 n.L latches))) ≡ true
  pub gates-inside : all_inside true n.M (map gate_line (map gate_of (rows_of 3 n.A gates))) ≡ true
  pub blank : (v : ℕ) → v ≤ n.M → get_or marks v 0 ≡ 0

-- 6 names the table that is answered, whatever the other tables are; without 6, each variable that is defined has a
-- mark
pub record TwiceSays (n : Counts) (inputs latches gates : List ℕ) (r : Option ℕ) (marks' : List ℕ) : Type 0 where
  pub told : (outputs resets bads constraints : List ℕ) → r
      ≡ twice_in (circuit_in n inputs latches outputs gates resets bads constraints)
  pub marked : (outputs resets bads constraints : List ℕ)
      → twice_in (circuit_in n inputs latches outputs gates resets bads constraints) ≡ None
      → Agrees n.M (defined_in (circuit_in n inputs latches outputs gates resets bads constraints)) marks'
