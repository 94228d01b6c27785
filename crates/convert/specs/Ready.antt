-- What conversion starts from when no check has failed: a well-formed circuit, the numbers of its variables, and
-- room in the tables that are written; and what it leaves. It writes tables 1 to 4 first, and then tables 7 to 9.
use Rattle.std.specs.Prelude.{ℕ, ◌*◌, ◌≤◌, ◌≡◌, List, map, length}
use Rattle.plan.specs.declared.Counts.{Counts}
use Rattle.plan.specs.Circuit.{Circuit, Tables, circuit_of, seven, flat, latch_line, gate_line}
use Rattle.plan.specs.Reading.{WellFormed}
use Rattle.plan.specs.Outcome.{put}
use Rattle.tables.specs.Held.{Fits, Scratch}
use Rattle.judge.specs.at_end.Leaves.{AllNumbered}

pub record Ready (n : Counts) (x : Tables) (t : List ℕ) : Type 0 where
  pub fits : Fits n x.inputs x.latches x.outputs x.gates x.resets x.bads x.constraints
  pub good : WellFormed (circuit_of n x)
  pub numbers-long : Scratch n t
  pub numbers : AllNumbered n x.inputs x.latches x.gates t

-- tables of which latches, outputs and gates are these; of which resets, bad states and constraints are
abbrev pub with_first : Tables → List ℕ → List ℕ → List ℕ → Tables
with_first x latches outputs gates = seven x.inputs latches outputs gates x.resets x.bads x.constraints

abbrev pub with_last : Tables → List ℕ → List ℕ → List ℕ → Tables
with_last x resets bads constraints = seven x.inputs x.latches x.outputs x.gates resets bads constraints

-- what writing tables 1 to 4 asks and leaves
pub record First (n : Counts) (latches outputs gates t to-inputs to-latches to-outputs to-gates : List ℕ) : Type 0 where
  pub others : Tables
  pub ready : Ready n (with_first others latches outputs gates) t
  pub inputs_long : n.I ≤ length to-inputs
  pub latches-long : 2 * n.L ≤ length to-latches
  pub outputs-long : n.O ≤ length to-outputs
  pub gates-long : 3 * n.A ≤ length to-gates

pub record FirstHeld (c : Circuit) (inputs latches outputs gates inputs' latches' outputs' gates' : List ℕ) : Type 0
  where
    pub inputs-held : inputs' ≡ put inputs 0 c.inputs
    pub latches-held : latches' ≡ put latches 0 (flat (map latch_line c.latches))
    pub outputs-held : outputs' ≡ put outputs 0 c.outputs
    pub gates-held : gates' ≡ put gates 0 (flat (map gate_line c.gates))

-- and tables 7 to 9
pub record Last (n : Counts) (resets bads constraints t to-resets to-bads to-constraints : List ℕ) : Type 0 where
  pub others : Tables
  pub ready : Ready n (with_last others resets bads constraints) t
  pub resets-long : n.L ≤ length to-resets
  pub bads-long : n.B ≤ length to-bads
  pub constraints-long : n.C ≤ length to-constraints

pub record LastHeld (c : Circuit) (resets bads constraints resets' bads' constraints' : List ℕ) : Type 0 where
  pub resets-held : resets' ≡ put resets 0 c.resets
  pub bads-held : bads' ≡ put bads 0 c.bads
  pub constraints-held : constraints' ≡ put constraints 0 c.constraints
