-- The values of gates k to a - 1, whose variables run on from `base`, in order: what lies below the rewired gate stays. The loop keeps `Going gates k
-- a base values₀ values j`. `sides-below`, `going_more` and `gate_at` carry it from turn to turn.
use Prim.Native.Nat.{◌+◌}
use native.Mathlib.Omega.{arith}
use lib.ListN.{length-set}
use Rattle.plan.specs.Literals.{var_of}
use Rattle.laws.proofs.Tables.{gate_at}
use Rattle.laws.proofs.Running.Sides.{sides-below}
use Rattle.rewire.specs.Shown.{Ordered}
use Rattle.rewire.proofs.Codes.{going_more}
use Rattle.rewire.proofs.Wrong.{row_at}
use Rattle.rewire.proofs.recompute.Goals as goal

pub gate_code-requires : goal.gate_code-requires
gate_code-requires c =
    let ordered : let a = c.args in Ordered a.gates.now a.a a.base c.loop-j.values =
    let p = c.requires.ordered in
    record { gates-long = p.gates-long; values-long = omega (arith, p.values-long, c.loop-j.invariant.size); binary = p.binary } in
    row_at _ _ _ _ ordered c.loop-j.j c.loop-j-test.true

pub loop-j-preserved : goal.loop-j-preserved
loop-j-preserved c =
    let a = c.args in
    let s = sides-below a.base a.gates.now a.a c.loop-j.j c.loop-j-test.true c.requires.ordered.binary in
    going_more _ _ _ _ _ c.loop-j.values c.loop-j.j c.gate_code.result c.loop-j.auto.j c.loop-j-test.true
    (omega (arith, c.requires.ordered.values-long, c.loop-j.invariant.size))
    (length-set c.loop-j.values (a.base + c.loop-j.j) c.gate_code.result)
    (λ w shows.
    c.gate_code.ensures w (shows (var_of (gate_at a.gates.now c.loop-j.j).rhs0) s.0)
    (shows (var_of (gate_at a.gates.now c.loop-j.j).rhs1) s.1))
    c.loop-j.invariant
