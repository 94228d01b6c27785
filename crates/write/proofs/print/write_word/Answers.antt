-- The number, then the byte after it.
use native.Mathlib.Omega.{arith}
use Rattle.write.proofs.print.Turns.{number_fits, word-ends, word-put}
use Rattle.write.proofs.print.write_word.Goals as goal

pub put_digits-end-requires : goal.put_digits-end-requires
put_digits-end-requires c =
    let a = c.args in
    number_fits a.out.now a.at a.left a.word c.requires

pub bounds-out-end : goal.bounds-out-end
bounds-out-end c =
    let a = c.args in
    omega (
      arith,
      c.requires,
      word-ends a.out.now a.at a.left a.word c.requires c.put_digits-end.new.out c.put_digits-end.result c.put_digits-end.ensures.out_after c.put_digits-end.ensures.value,
      c.put_digits-end.auto.out,
    )

pub overflow_add-result : goal.overflow_add-result
overflow_add-result c =
    let a = c.args in
    omega (
      arith,
      c.requires,
      word-ends a.out.now a.at a.left a.word c.requires c.put_digits-end.new.out c.put_digits-end.result c.put_digits-end.ensures.out_after c.put_digits-end.ensures.value,
    )

pub returns : goal.returns
returns c =
    let a = c.args in
    record {
      value = word-ends a.out.now a.at a.left a.word c.requires c.put_digits-end.new.out c.put_digits-end.result c.put_digits-end.ensures.out_after c.put_digits-end.ensures.value;
      out_after = word-put a.out.now a.at a.left a.word c.requires c.put_digits-end.new.out c.put_digits-end.result c.put_digits-end.ensures.out_after c.put_digits-end.ensures.value
          _ c.end_of.ensures;
    }
