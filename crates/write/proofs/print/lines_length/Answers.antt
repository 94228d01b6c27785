-- Each turn counts one word.
use Prim.Native.Nat.{ℕ, ◌*◌}
use mathlib.Core.Path.{ap, ◌∙◌}
use native.Mathlib.Omega.{arith}
use lib.ListN.{length, get_or, take}
use Rattle.plan.specs.Bytes.{digits}
use Rattle.write.proofs.print.Sizes.{digits-ten}
use Rattle.write.proofs.print.Turns.{word_taken, none-counted, one-counted}
use Rattle.write.proofs.print.lines_length.Goals as goal

pub loop-word-init : goal.loop-word-init
loop-word-init c = let a = c.args in none-counted a.table.now a.k a.n c.requires.k_nonzero c.requires.n_in_bounds

pub overflow_add-sum : goal.overflow_add-sum
overflow_add-sum c =
    let t = take (c.args.k * c.args.n) c.args.table.now in
    let few = digits-ten (get_or t c.loop-word.word-index 0) (omega (arith, c.type_inv.table c.loop-word.word-index)) in
    omega (arith, few, c.digits_in.ensures)

pub overflow_add-sum-in-loop-word : goal.overflow_add-sum-in-loop-word
overflow_add-sum-in-loop-word c =
    let t = take (c.args.k * c.args.n) c.args.table.now in
    let few = digits-ten (get_or t c.loop-word.word-index 0) (omega (arith, c.type_inv.table c.loop-word.word-index)) in
    omega (arith, few, c.digits_in.ensures)

pub loop-word-preserved : goal.loop-word-preserved
loop-word-preserved c =
    let a = c.args in
    let l = c.loop-word in
    let word = word_taken a.table.now (a.k * a.n) l.word-index c.requires.n_in_bounds c.loop-word-test.true in
    let few = digits-ten (get_or a.table.now l.word-index 0) (omega (arith, c.type_inv.table l.word-index)) in
    let d = c.digits_in.ensures ∙ ap (λ (w : ℕ). length (digits w)) word.1 in
    one-counted a.table.now a.k a.n l.sum l.word-index c.digits_in.result l.invariant word.0 d (omega (arith, few, d))
