-- With the current state, or without.
use mathlib.Core.Path.{sym, ap, ◌∙◌}
use native.Mathlib.Omega.{arith}
use lib.ListN.{length}
use Rattle.write.proofs.print.Latches.{binary-line, current-count}
use Rattle.write.proofs.print.latch_length.Goals as goal

pub returns-then-binary : goal.returns-then-binary
returns-then-binary c =
    let a = c.args in
    record { value = c.next_length-last.ensures.value ∙ ap length (sym (binary-line a.binary a.current a.next a.reset c.if-binary.true)); upper_bound = omega (arith, c.next_length-last.ensures.upper_bound) }

pub overflow_add-result : goal.overflow_add-result
overflow_add-result c =
    let a = c.args in
    omega (
      arith,
      (current-count a.binary a.current a.next a.reset _ _ c.if-binary.false (omega arith) c.digits_in.ensures
          c.next_length-last.ensures.value c.next_length-last.ensures.upper_bound).1,
    )

pub overflow_add-result-2 : goal.overflow_add-result-2
overflow_add-result-2 c =
    let a = c.args in
    omega (
      arith,
      (current-count a.binary a.current a.next a.reset _ _ c.if-binary.false (omega arith) c.digits_in.ensures
          c.next_length-last.ensures.value c.next_length-last.ensures.upper_bound).1,
    )

pub returns : goal.returns
returns c =
    let a = c.args in
    let whole = current-count a.binary a.current a.next a.reset _ _ c.if-binary.false (omega arith) c.digits_in.ensures
    c.next_length-last.ensures.value c.next_length-last.ensures.upper_bound in
    record { value = whole.0; upper_bound = whole.1 }
