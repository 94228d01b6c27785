-- What follows the header of a binary file: the body and the tail. The answers are given by `stops`, `tail-told` and `good`.
use Prim.Native.Nat.{◌+◌, ◌-◌, ◌≤◌}
use mathlib.Core.Path.{◌≡◌, ◌∙◌}
use native.Mathlib.Omega.{arith}
use borrow.Rule.Slice.PartMut.{mid_of, same_len_mid}
use lib.ListN.{length}
use Rattle.plan.specs.Circuit.{Tables, seven}
use Rattle.plan.specs.Binary.{binary_body}
use Rattle.laws.proofs.Reading.NoSixSevenEight.{no-six-seven-eight}
use Rattle.read.proofs.body.After.{stops, tail-told, good}
use Rattle.read.proofs.body.Parts.{second, second-length, first-blank, first-length}
use Rattle.laws.proofs.Pairs.{passed-on}
use Rattle.read.proofs.body.rest_of_binary.Goals as goal

pub overflow_add-base : goal.overflow_add-base
overflow_add-base c = omega arith

pub overflow_add-base-2 : goal.overflow_add-base-2
overflow_add-base-2 c = omega arith

pub overflow_add-base-3 : goal.overflow_add-base-3
overflow_add-base-3 c = omega arith

pub overflow_add-base-4 : goal.overflow_add-base-4
overflow_add-base-4 c = omega arith

pub read_binary-requires : goal.read_binary-requires
read_binary-requires c =
    let a = c.args in
    let room = c.requires.room in
    record { m_le_most = room.most-M; a_value = c.requires.a_value; i_in_bounds = room.inputs; l_in_bounds = room.latches; o_in_bounds = room.outputs; a_in_bounds = room.gates; l_in_bounds_2 = room.resets; b_in_bounds = room.bads; c_in_bounds = room.constraints }

pub returns-in_err-end : goal.returns-in_err-end
returns-in_err-end c =
    let a = c.args in
    let t : Tables = seven a.inputs.now a.latches.now a.outputs.now a.gates.now a.resets.now a.bads.now a.constraints.now in
    let t' : Tables = seven c.read_binary.new.inputs c.read_binary.new.latches c.read_binary.new.outputs c.read_binary.new.gates
    c.read_binary.new.resets c.read_binary.new.bads c.read_binary.new.constraints in
    let body = binary_body a.version a.file.now a.n a.at in
    rw (passed-on _ c.from_residual.ensures.1)
    (stops a.version a.file.now a.n body t t' _ c.read_binary.ensures _ c.in_err-end.was)

pub slice_bounds-check-end : goal.slice_bounds-check-end
slice_bounds-check-end c =
    let a = c.args in
    let room = c.requires.room in
    let base = a.n.I + a.n.L + a.n.O + a.n.B + a.n.C in
    let s = a.scratch.now in
    let ys = c.read_binary.new.marks in
    let fits : base ≤ length s = omega (arith, room.words, room.most-M, c.requires.a_value) in
    let ys-long : length ys ≡ length (mid_of base (length s - base) s) = c.read_binary.auto.marks in
    omega (arith, second-length base s ys fits ys-long, room.words, room.most-M, c.requires.a_value)

pub check-requires : goal.check-requires
check-requires c =
    let a = c.args in
    let room = c.requires.room in
    let base = a.n.I + a.n.L + a.n.O + a.n.B + a.n.C in
    let s = a.scratch.now in
    let ys = c.read_binary.new.marks in
    let fits : base ≤ length s = omega (arith, room.words, room.most-M, c.requires.a_value) in
    record {
      holds = record {
        most-I = room.most-I;
        most-L = room.most-L;
        most-O = room.most-O;
        most-B = room.most-B;
        most-C = room.most-C;
        words = omega (arith, first-length base s ys fits);
      };
      blank = λ i h. first-blank base s ys fits room.blank i;
    }

pub shape_of-scratch-in_err-check : goal.shape_of-scratch-in_err-check
shape_of-scratch-in_err-check c =
    let a = c.args in
    let room = c.requires.room in
    let base = a.n.I + a.n.L + a.n.O + a.n.B + a.n.C in
    let s = a.scratch.now in
    let ys = c.read_binary.new.marks in
    let fits : base ≤ length s = omega (arith, room.words, room.most-M, c.requires.a_value) in
    let ys-long : length ys ≡ length (mid_of base (length s - base) s) = c.read_binary.auto.marks in
    let zs = c.check.new.marks in
    let zs-long : length zs ≡ length (mid_of 0 (base - 0) (second base s ys fits)) = c.check.auto.marks in
    same_len_mid 0 (base - 0) (second base s ys fits) zs zs-long ∙ second-length base s ys fits ys-long

pub returns-in_err-check : goal.returns-in_err-check
returns-in_err-check c =
    let a = c.args in
    let t : Tables = seven a.inputs.now a.latches.now a.outputs.now a.gates.now a.resets.now a.bads.now a.constraints.now in
    let t' : Tables = seven c.read_binary.new.inputs c.read_binary.new.latches c.read_binary.new.outputs c.read_binary.new.gates
    c.read_binary.new.resets c.read_binary.new.bads c.read_binary.new.constraints in
    let body = binary_body a.version a.file.now a.n a.at in
    rw (passed-on _ c.from_residual-in_err-check.ensures.1)
    (tail-told a.version a.file.now a.n body t t' _ c.read_binary.ensures _ c.in_ok-end.was _ c.check.ensures _ c.in_err-check.was)

pub returns : goal.returns
returns c =
    let a = c.args in
    let t : Tables = seven a.inputs.now a.latches.now a.outputs.now a.gates.now a.resets.now a.bads.now a.constraints.now in
    let t' : Tables = seven c.read_binary.new.inputs c.read_binary.new.latches c.read_binary.new.outputs c.read_binary.new.gates
    c.read_binary.new.resets c.read_binary.new.bads c.read_binary.new.constraints in
    let body = binary_body a.version a.file.now a.n a.at in
    good a.version a.file.now a.n body t t' _ c.read_binary.ensures _ c.in_ok-end.was _ c.check.ensures c.in_ok-check.was
    (λ d e. let k = no-six-seven-eight a.file.now (λ k. (c.type_inv.file k).fits) a.version a.n a.at d _
    c.requires.a_value e in (k.1, k.2))
