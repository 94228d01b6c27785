-- The table, 1, 2 or 4, of the first definition of a variable that is defined before it, in the order of the tables; 0 if there is none. The answers
-- are given by `told-inputs`, `told-latches` and `told-gates`.
use native.Mathlib.Omega.{arith}
use Rattle.laws.proofs.Ranges.{input-in, latch-in, gate-in}
use Rattle.judge.proofs.twice.Marking.{told-inputs, told-latches, told-gates, told_none}
use Rattle.judge.proofs.twice.defined_twice.Goals as goal

pub mark_rows-requires : goal.mark_rows-requires
mark_rows-requires c =
    let a = c.args in
    let p = c.requires in
    record {
      stride_nonzero = omega arith;
      n_in_bounds = omega (arith, p.inputs_long);
      by_index = λ i h. omega
          (arith, input-in a.n.M a.inputs.now a.n.I p.inputs_long p.inputs-inside i h, p.marks-long);
    }

pub returns-then-mark_rows : goal.returns-then-mark_rows
returns-then-mark_rows c =
    told-inputs c.requires _ _ c.mark_rows.ensures
    c.if-mark_rows.true

pub mark_rows-requires-2 : goal.mark_rows-requires-2
mark_rows-requires-2 c =
    let a = c.args in
    let p = c.requires in
    record {
      stride_nonzero = omega arith;
      n_in_bounds = omega (arith, p.latches-long);
      by_index = λ i h. omega
          (arith, latch-in a.n.M a.latches.now a.n.L p.latches-inside i h, p.marks-long, c.mark_rows.auto.marks);
    }

pub returns-then-mark_rows-2 : goal.returns-then-mark_rows-2
returns-then-mark_rows-2 c =
    told-latches c.requires _ _ c.mark_rows.ensures c.if-mark_rows.false _ _
    c.mark_rows-2.ensures c.if-mark_rows-2.true

pub mark_rows-requires-3 : goal.mark_rows-requires-3
mark_rows-requires-3 c =
    let a = c.args in
    let p = c.requires in
    record {
      stride_nonzero = omega arith;
      n_in_bounds = omega (arith, p.gates-long);
      by_index = λ i h. omega (
        arith,
        gate-in a.n.M a.gates.now a.n.A p.gates-inside i h,
        p.marks-long,
        c.mark_rows-2.auto.marks,
        c.mark_rows.auto.marks,
      );
    }

pub returns-then-mark_rows-3 : goal.returns-then-mark_rows-3
returns-then-mark_rows-3 c =
    told-gates c.requires _ _ c.mark_rows.ensures c.if-mark_rows.false _ _
    c.mark_rows-2.ensures c.if-mark_rows-2.false
    _ _ c.mark_rows-3.ensures c.if-mark_rows-3.true

pub returns : goal.returns
returns c =
    told_none c.requires _ _ c.mark_rows.ensures c.if-mark_rows.false _ _
    c.mark_rows-2.ensures c.if-mark_rows-2.false
    _ _ c.mark_rows-3.ensures c.if-mark_rows-3.false
