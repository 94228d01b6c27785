-- One line and its step: the state, the inputs, the outputs and the next state, which stands in the state's place then. The answers are given by
-- `line-lined`, `part-last` and `outs-long`.
use Prim.Native.Nat.{ℕ, ◌+◌, ◌-◌, ◌≤◌, ◌<◌}
use mathlib.Core.Path.{◌≡◌, refl, ◌∙◌}
use native.Mathlib.Omega.{arith}
use borrow.Rule.Slice.PartMut.{same_len_mid, put_mid}
use lib.ListN.{length, length-set}
use Rattle.runs.proofs.comparing.Parts.{part-long, part-last}
use Rattle.runs.proofs.comparing.Lines.{outs-long, line-lined}
use Rattle.runs.proofs.comparing.plain_line.Goals as goal

pub overflow_add-end : goal.overflow_add-end
overflow_add-end c =
    let room : let q = c.args in c.put_bytes-outputs_at.result + q.n.O + q.n.L + 2 ≤ length q.out.now =
    omega (arith, c.requires.n_in_bounds, c.requires.vector.long, c.requires.vector_2.long, c.put_bytes-outputs_at.ensures.value, c.put_bytes-inputs_at.ensures.value) in
    omega (arith, room, c.well_formed)

pub plain_vectors-requires : goal.plain_vectors-requires
plain_vectors-requires c =
    let room : let q = c.args in c.put_bytes-outputs_at.result + q.n.O + q.n.L + 2 ≤ length q.out.now =
    omega (arith, c.requires.n_in_bounds, c.requires.vector.long, c.requires.vector_2.long, c.put_bytes-outputs_at.ensures.value, c.put_bytes-inputs_at.ensures.value) in
    let same : length c.put_bytes-outputs_at.new.out ≡ length c.args.out.now =
    c.put_bytes-outputs_at.auto.out ∙ c.put_bytes-inputs_at.auto.out in
    let inside : c.put_bytes-outputs_at.result + c.args.n.O < length c.put_bytes-outputs_at.new.out =
    omega (arith, room, same) in
    let outs = part-long _ _ _ (inside) in
    record { room = c.requires.room; vectors = record { state-length = c.requires.vector.long; inputs-length = c.requires.vector_2.long; outputs-length = outs }; state_value = c.requires.vector.codes; ins_value = c.requires.vector_2.codes }

pub bounds-out-end : goal.bounds-out-end
bounds-out-end c =
    let room : let q = c.args in c.put_bytes-outputs_at.result + q.n.O + q.n.L + 2 ≤ length q.out.now =
    omega (arith, c.requires.n_in_bounds, c.requires.vector.long, c.requires.vector_2.long, c.put_bytes-outputs_at.ensures.value, c.put_bytes-inputs_at.ensures.value) in
    let same : length c.put_bytes-outputs_at.new.out ≡ length c.args.out.now =
    c.put_bytes-outputs_at.auto.out ∙ c.put_bytes-inputs_at.auto.out in
    let inside : c.put_bytes-outputs_at.result + c.args.n.O < length c.put_bytes-outputs_at.new.out =
    omega (arith, room, same) in
    omega (arith, inside, c.plain_vectors.auto.outs)

pub overflow_add-end-2 : goal.overflow_add-end-2
overflow_add-end-2 c =
    let room : let q = c.args in c.put_bytes-outputs_at.result + q.n.O + q.n.L + 2 ≤ length q.out.now =
    omega (arith, c.requires.n_in_bounds, c.requires.vector.long, c.requires.vector_2.long, c.put_bytes-outputs_at.ensures.value, c.put_bytes-inputs_at.ensures.value) in
    omega (arith, room, c.well_formed)

pub put_bytes-requires : goal.put_bytes-requires
put_bytes-requires c =
    let room : let q = c.args in c.put_bytes-outputs_at.result + q.n.O + q.n.L + 2 ≤ length q.out.now =
    omega (arith, c.requires.n_in_bounds, c.requires.vector.long, c.requires.vector_2.long, c.put_bytes-outputs_at.ensures.value, c.put_bytes-inputs_at.ensures.value) in
    let same : length c.put_bytes-outputs_at.new.out ≡ length c.args.out.now =
    c.put_bytes-outputs_at.auto.out ∙ c.put_bytes-inputs_at.auto.out in
    simp length-set (omega (
      arith,
      room,
      same,
      c.plain_vectors.auto.outs,
      c.plain_vectors.auto.state,
      c.requires.vector.long,
    ))

pub shape_of-out : goal.shape_of-out
shape_of-out c =
    let same : length c.put_bytes-outputs_at.new.out ≡ length c.args.out.now =
    c.put_bytes-outputs_at.auto.out ∙ c.put_bytes-inputs_at.auto.out in
    let at : ℕ = c.put_bytes-outputs_at.result in
    let size : ℕ = at + c.args.n.O - at in
    let out = c.put_bytes-outputs_at.new.out in
    let outs = c.plain_vectors.new.outs in
    let back : length (put_mid at size out outs) ≡ length out = same_len_mid at size out outs c.plain_vectors.auto.outs in
    c.put_bytes.auto.out ∙ (length-set (put_mid at size out outs) (at + c.args.n.O) 32 ∙ (back ∙ same))

pub returns : goal.returns
returns c =
    let room : let q = c.args in c.put_bytes-outputs_at.result + q.n.O + q.n.L + 2 ≤ length q.out.now =
    omega (arith, c.requires.n_in_bounds, c.requires.vector.long, c.requires.vector_2.long, c.put_bytes-outputs_at.ensures.value, c.put_bytes-inputs_at.ensures.value) in
    let same : length c.put_bytes-outputs_at.new.out ≡ length c.args.out.now =
    c.put_bytes-outputs_at.auto.out ∙ c.put_bytes-inputs_at.auto.out in
    let inside : c.put_bytes-outputs_at.result + c.args.n.O < length c.put_bytes-outputs_at.new.out =
    omega (arith, room, same) in
    record {
      value = omega (
        arith,
        c.requires.vector.long,
        c.requires.vector_2.long,
        c.put_bytes-outputs_at.ensures.value,
        c.put_bytes-inputs_at.ensures.value,
        c.put_bytes.ensures.value,
        c.plain_vectors.auto.state,
      );
      lined = λ x r.
          let l = c.plain_vectors.ensures x r in
          line-lined r c.requires.vector c.requires.vector_2 l c.args.out.now c.args.at c.requires.n_in_bounds
          c.put_bytes-inputs_at.ensures.out_after c.put_bytes-inputs_at.ensures.value
          c.put_bytes-outputs_at.ensures.out_after c.put_bytes-outputs_at.ensures.value
          (part-last _ _ _ (inside) c.plain_vectors.new.outs 32 (outs-long r c.requires.vector c.requires.vector_2 l)) refl c.put_bytes.ensures.out_after;
    }
