-- Tables in binary order whose literals are in range can't be refused by 6, 7 or 8 (AIGER report, section 7: "the binary format
-- does not require such an explicit check").
use Prim.Native.Nat.{zero, suc}
use mathlib.Core.Path.{◌≡◌}
use mathlib.Core.Bool.{true, false}
use mathlib.Core.List.{◌∷◌, map}
use Rattle.std.specs.Prelude.{None}
use native.Mathlib.Omega.{arith}
use Rattle.plan.specs.Circuit.{Circuit, one_line, latch_line, defined_in, used_in, all_inside}
use Rattle.plan.specs.Depends.{undefined_in, cyclic_in}
use Rattle.plan.specs.Binary.{binary_order}
use Rattle.plan.specs.Given.{twice_in}
use Rattle.laws.proofs.Reading.Runs.{order-exactly}
use Rattle.laws.proofs.Reading.Undefined.{defined-none}
use Rattle.laws.proofs.Reading.Cycles.{cycle-none}
use Rattle.laws.proofs.Running.Different.{different-once}
use Rattle.laws.proofs.Running.InOrder.{nexts-bounded, outputs-bounded, defined-ordered, acyclic-ordered, different-ordered}

pub no-six-to-eight : (c : Circuit) → binary_order c ≡ true → all_inside true c.M (map latch_line c.latches) ≡ true
    → all_inside false c.M (map one_line c.outputs) ≡ true → all_inside false c.M (map one_line c.bads) ≡ true
    → all_inside false c.M (map one_line c.constraints) ≡ true
    → (twice_in c ≡ None) × (undefined_in c ≡ None) × (cyclic_in c ≡ None)
no-six-to-eight c order latches outputs bads constraints =
    let b = (order-exactly c).0 order in
    let next-in = nexts-bounded c.M (suc c.M) c.latches (omega arith) latches in
    let output-in = outputs-bounded c.M (suc c.M) c.outputs (omega arith) outputs in
    let bad-in = outputs-bounded c.M (suc c.M) c.bads (omega arith) bads in
    let constraint-in = outputs-bounded c.M (suc c.M) c.constraints (omega arith) constraints in (
      different-once c (different-ordered c b),
      defined-none (zero ∷ defined_in c) (used_in c) (defined-ordered c b next-in output-in bad-in constraint-in),
      cycle-none c.gates c.gates (acyclic-ordered c b),
    )
