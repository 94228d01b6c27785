-- Each turn counts one gate.
use Prim.Native.Nat.{ℕ, ◌+◌}
use mathlib.Core.Path.{sym, ap, subst, ◌∙◌}
use native.Mathlib.Omega.{arith}
use borrow.Author.Rules.{rules}
use lib.ListN.{length}
use Rattle.std.proofs.lemmas.List.{length_push}
use Rattle.write.proofs.print.Rows.{row_taken}
use Rattle.write.proofs.print.Gates.{Counted, row-bytes, none-counted, one-counted}
use Rattle.write.proofs.print.gates_length.Goals as goal

pub loop-gate-init : goal.loop-gate-init
loop-gate-init c = record { row = record { size = search rules; rest = search rules }; counted = none-counted c.args.gates.now c.args.n }

pub loop-gate-preserved : goal.loop-gate-preserved
loop-gate-preserved c =
    let a = c.args in
    let l = c.loop-gate in
    let i = length l.yielded in
    let gate = c.in-Some.gate in
    let row = row_taken a.gates.now 3 a.n i c.requires.n_in_bounds (omega arith) _ _ l.invariant.row _ _ c.in-Some.is c.next.ensures.steps in
    let more = length_push l.yielded gate in
    let e = c.gate_length-sum.ensures in
    record {
      row = row.next _ more;
      counted =
          subst (λ (k : ℕ). Counted a.gates.now a.n (l.sum + c.gate_length-sum.result) k) (sym more)
          (one-counted a.gates.now a.n l.sum i c.gate_length-sum.result l.invariant.counted (omega (arith, row.fits))
          (e.value ∙ ap length (row-bytes a.gates.now gate.now i row.word)) e.upper_bound);
    }
