-- One line and its step: the state that scratch holds, the inputs, the outputs and the next state, which scratch holds then. The answers are given by
-- `line-stands` and `line_wrote`.
use mathlib.Core.Path.{◌∙◌}
use native.Mathlib.Omega.{arith}
use Rattle.runs.proofs.trace.Writing.{line-stands, line-ready, line_wrote}
use Rattle.runs.proofs.trace.write_line.Goals as goal

pub step_values-requires : goal.step_values-requires
step_values-requires c =
    let p = c.requires.resting in
    line-ready p.runs p.state c.args.ins.now p.state-length p.rests p.scratch-long c.requires.ins_len
    c.load.ensures c.load.auto.t

pub overflow_add-n-2 : goal.overflow_add-n-2
overflow_add-n-2 c = omega (arith, c.requires.resting.runs.fits.most-M)

pub put_part-next_at-requires : goal.put_part-next_at-requires
put_part-next_at-requires c =
    record {
      count_in_bounds = omega (arith, c.requires.resting.scratch-long, c.step_values.auto.t, c.load.auto.t);
      count_in_bounds_2 = omega (
        arith,
        c.requires.n_in_bounds,
        c.put_part-outputs_at.auto.out,
        c.put_part-outputs_at.ensures.value,
        c.put_part-inputs_at.auto.out,
        c.put_part-inputs_at.ensures.value,
      );
    }

pub put_part-requires : goal.put_part-requires
put_part-requires c =
    record {
      count_in_bounds = omega (
        arith,
        c.requires.resting.scratch-long,
        c.requires.resting.runs.fits.sum,
        c.step_values.auto.t,
        c.load.auto.t,
      );
      count_in_bounds_2 = omega (
        arith,
        c.requires.n_in_bounds,
        c.put_part-next_at.auto.out,
        c.put_part-next_at.ensures.value,
        c.put_part-outputs_at.auto.out,
        c.put_part-outputs_at.ensures.value,
        c.put_part-inputs_at.auto.out,
        c.put_part-inputs_at.ensures.value,
      );
    }

pub shape_of-out : goal.shape_of-out
shape_of-out c =
    let late = c.put_part.auto.out ∙ c.put_part-next_at.auto.out in
    late ∙ (c.put_part-outputs_at.auto.out ∙ c.put_part-inputs_at.auto.out)

pub returns : goal.returns
returns c =
    let a = c.args in
    let e1 = c.load.ensures in
    record {
      value = omega (arith, c.put_part-inputs_at.ensures.value, c.put_part-outputs_at.ensures.value, c.put_part-next_at.ensures.value, c.put_part.ensures.value);
      wrote = λ others s r ls rests.
          let room = c.requires.resting.scratch-long in
          let stands = line-stands r s a.ins.now ls rests room c.requires.ins_len e1 in
          let step = c.step_values.ensures others _ _ r stands in
          line_wrote r s a.ins.now ls rests room c.requires.ins_len e1 step a.out.now a.at c.requires.n_in_bounds
          c.put_part-inputs_at.ensures.out_after c.put_part-inputs_at.ensures.value c.put_part-outputs_at.ensures.out_after c.put_part-outputs_at.ensures.value c.put_part-next_at.ensures.out_after c.put_part-next_at.ensures.value c.put_part.ensures.out_after c.put_part.ensures.value;
    }
