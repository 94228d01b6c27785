-- What follows the header of a text file: the body, the tail, then 7 and 8. The answers are given by `stops`, `tail-told` and `read_as`.
use Prim.Native.Nat.{◌+◌, ◌-◌, ◌≤◌, ◌<◌}
use mathlib.Core.Path.{◌≡◌, refl, sym, ap, ◌∙◌}
use native.Mathlib.Nat.{le_refl}
use native.Mathlib.Omega.{arith}
use borrow.Rule.Slice.PartMut.{mid_of, put_mid, mid_len, same_len_mid}
use lib.ListN.{length}
use Rattle.plan.specs.Circuit.{Circuit, Tables, seven}
use Rattle.plan.specs.Text.{text_body}
use Rattle.plan.specs.Outcome.{checked_by}
use Rattle.read.specs.body.Rest.{closed}
use Rattle.read.proofs.body.After.{stops, read_as, tail-told, accepted-as, closing-told, closing-good}
use Rattle.read.proofs.body.Parts.{zeros-mid, second, second-length, first-blank, first-length, second-part}
use Rattle.read.proofs.body.TextRead.{same-circuit, text-read}
use Rattle.laws.proofs.Pairs.{passed-on}
use Rattle.read.proofs.body.rest_of_text.Goals as goal

pub overflow_add-base : goal.overflow_add-base
overflow_add-base c = omega arith

pub overflow_add-base-2 : goal.overflow_add-base-2
overflow_add-base-2 c = omega arith

pub overflow_add-base-3 : goal.overflow_add-base-3
overflow_add-base-3 c = omega arith

pub overflow_add-base-4 : goal.overflow_add-base-4
overflow_add-base-4 c = omega arith

pub read_text-requires : goal.read_text-requires
read_text-requires c =
    let a = c.args in
    let room = c.requires.room in
    let base = a.n.I + a.n.L + a.n.O + a.n.B + a.n.C in
    let s = a.scratch.now in
    let long : length (mid_of base (length s - base) s) ≡ length s - base = mid_len base (length s) s (le_refl (length s)) in
    let enough : a.n.M < length (mid_of base (length s - base) s) = omega (arith, room.words, c.requires.a_bound) in
    record { m_le_most = room.most-M; l_le_m = omega (arith, c.requires.a_bound); i_in_bounds = room.inputs; l_in_bounds = room.latches; o_in_bounds = room.outputs; a_in_bounds = room.gates; l_in_bounds_2 = room.resets; b_in_bounds = room.bads; c_in_bounds = room.constraints; m_in_bounds = enough; by_index = λ v h. zeros-mid base (length s - base) s room.blank v }

pub returns-in_err-next : goal.returns-in_err-next
returns-in_err-next c =
    let a = c.args in
    let t : Tables = seven a.inputs.now a.latches.now a.outputs.now a.gates.now a.resets.now a.bads.now a.constraints.now in
    let t' : Tables = seven c.read_text.new.inputs c.read_text.new.latches c.read_text.new.outputs c.read_text.new.gates
    c.read_text.new.resets c.read_text.new.bads c.read_text.new.constraints in
    let body = text_body a.version a.file.now a.n a.at in
    rw (passed-on _ c.from_residual.ensures.1)
    (stops a.version a.file.now a.n body t t' _ c.read_text.ensures.body _ c.in_err-next.was)

pub slice_bounds-check-end : goal.slice_bounds-check-end
slice_bounds-check-end c =
    let a = c.args in
    let room = c.requires.room in
    let base = a.n.I + a.n.L + a.n.O + a.n.B + a.n.C in
    let s = a.scratch.now in
    let ys = c.read_text.new.marks in
    let fits : base ≤ length s = omega (arith, room.words, room.most-M, c.requires.a_bound) in
    let ys-long : length ys ≡ length (mid_of base (length s - base) s) = c.read_text.auto.marks in
    omega (arith, second-length base s ys fits ys-long, room.words, room.most-M, c.requires.a_bound)

pub check-requires : goal.check-requires
check-requires c =
    let a = c.args in
    let room = c.requires.room in
    let base = a.n.I + a.n.L + a.n.O + a.n.B + a.n.C in
    let s = a.scratch.now in
    let ys = c.read_text.new.marks in
    let fits : base ≤ length s = omega (arith, room.words, room.most-M, c.requires.a_bound) in
    record {
      holds = record {
        most-I = room.most-I;
        most-L = room.most-L;
        most-O = room.most-O;
        most-B = room.most-B;
        most-C = room.most-C;
        words = omega (arith, first-length base s ys fits);
      };
      blank = λ i h. first-blank base s ys fits room.blank i;
    }

pub check-requires-2 : goal.check-requires-2
check-requires-2 c =
    let a = c.args in
    let t : Tables = seven a.inputs.now a.latches.now a.outputs.now a.gates.now a.resets.now a.bads.now a.constraints.now in
    let t' : Tables = seven c.read_text.new.inputs c.read_text.new.latches c.read_text.new.outputs c.read_text.new.gates
    c.read_text.new.resets c.read_text.new.bads c.read_text.new.constraints in
    let body = text_body a.version a.file.now a.n a.at in
    let p = read_as a.version a.file.now a.n body t t' _ c.read_text.ensures.body _ c.in_ok-next.was in
    let room = c.requires.room in
    let base = a.n.I + a.n.L + a.n.O + a.n.B + a.n.C in
    let s = a.scratch.now in
    let ys = c.read_text.new.marks in
    let fits : base ≤ length s = omega (arith, room.words, room.most-M, c.requires.a_bound) in
    let zs = c.check.new.marks in
    let ys-long : length ys ≡ length (mid_of base (length s - base) s) = c.read_text.auto.marks in
    let zs-long : length zs ≡ length (mid_of 0 (base - 0) (second base s ys fits)) = c.check.auto.marks in
    text-read a.version a.file.now a.n a.at t t' p.0 _ p.1 p.2 s (put_mid 0 (base - 0) (second base s ys fits) zs) ys base room
    c.requires.a_bound refl
    c.read_text.auto.inputs c.read_text.auto.latches c.read_text.auto.outputs c.read_text.auto.gates c.read_text.auto.bads c.read_text.auto.constraints
    (same_len_mid 0 (base - 0) (second base s ys fits) zs zs-long ∙ second-length base s ys fits ys-long) (second-part base s ys fits zs ys-long zs-long)
    (c.read_text.ensures.marked p.0 _ p.1)

pub shape_of-scratch-in_err-check : goal.shape_of-scratch-in_err-check
shape_of-scratch-in_err-check c =
    let a = c.args in
    let room = c.requires.room in
    let base = a.n.I + a.n.L + a.n.O + a.n.B + a.n.C in
    let s = a.scratch.now in
    let ys = c.read_text.new.marks in
    let fits : base ≤ length s = omega (arith, room.words, room.most-M, c.requires.a_bound) in
    let ys-long : length ys ≡ length (mid_of base (length s - base) s) = c.read_text.auto.marks in
    let zs = c.check.new.marks in
    let zs-long : length zs ≡ length (mid_of 0 (base - 0) (second base s ys fits)) = c.check.auto.marks in
    same_len_mid 0 (base - 0) (second base s ys fits) zs zs-long ∙ second-length base s ys fits ys-long

pub returns-in_err-check : goal.returns-in_err-check
returns-in_err-check c =
    let a = c.args in
    let t : Tables = seven a.inputs.now a.latches.now a.outputs.now a.gates.now a.resets.now a.bads.now a.constraints.now in
    let t' : Tables = seven c.read_text.new.inputs c.read_text.new.latches c.read_text.new.outputs c.read_text.new.gates
    c.read_text.new.resets c.read_text.new.bads c.read_text.new.constraints in
    let body = text_body a.version a.file.now a.n a.at in
    rw (passed-on _ c.from_residual-in_err-check.ensures.1)
    (tail-told a.version a.file.now a.n body t t' _ c.read_text.ensures.body _ c.in_ok-next.was _ c.check.ensures _ c.in_err-check.was)

pub returns-in_err-check-2 : goal.returns-in_err-check-2
returns-in_err-check-2 c =
    let a = c.args in
    let t : Tables = seven a.inputs.now a.latches.now a.outputs.now a.gates.now a.resets.now a.bads.now a.constraints.now in
    let t' : Tables = seven c.read_text.new.inputs c.read_text.new.latches c.read_text.new.outputs c.read_text.new.gates
    c.read_text.new.resets c.read_text.new.bads c.read_text.new.constraints in
    let body = text_body a.version a.file.now a.n a.at in
    let p = read_as a.version a.file.now a.n body t t' _ c.read_text.ensures.body _ c.in_ok-next.was in
    rw (passed-on _ c.from_residual-in_err-check-2.ensures.1)
    (closing-told a.version a.file.now a.n body t t' _ c.read_text.ensures.body _ c.in_ok-next.was _ c.check.ensures c.in_ok-check.was _
    (sym c.in_err-check-2.was ∙ (c.check-2.ensures.by_index t'.resets ∙ ap (λ (x : Circuit). checked_by (closed x)) (same-circuit
    a.version a.file.now a.n a.at t t' p.0 _ p.1 p.2))))

pub returns : goal.returns
returns c =
    let a = c.args in
    let t : Tables = seven a.inputs.now a.latches.now a.outputs.now a.gates.now a.resets.now a.bads.now a.constraints.now in
    let t' : Tables = seven c.read_text.new.inputs c.read_text.new.latches c.read_text.new.outputs c.read_text.new.gates
    c.read_text.new.resets c.read_text.new.bads c.read_text.new.constraints in
    let body = text_body a.version a.file.now a.n a.at in
    let p = read_as a.version a.file.now a.n body t t' _ c.read_text.ensures.body _ c.in_ok-next.was in
    let shut = closing-good p.0 (sym c.in_ok-check-2.was ∙ (c.check-2.ensures.by_index t'.resets ∙ ap (λ
    (x : Circuit). checked_by (closed x)) (same-circuit a.version a.file.now a.n a.at t t' p.0 _ p.1 p.2))) in
    accepted-as a.version a.file.now a.n body t t' _ c.read_text.ensures.body _ c.in_ok-next.was _ c.check.ensures c.in_ok-check.was shut.0 shut.1
