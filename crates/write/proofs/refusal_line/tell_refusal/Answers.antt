-- The line's parts one after the other, each where the one before ended.
use Prim.Native.Nat.{◌+◌, ◌≤◌}
use mathlib.Core.List.{[], ◌++◌}
use native.Mathlib.Omega.{arith}
use lib.ListN.{length}
use Rattle.plan.specs.Bytes.{digits}
use Rattle.plan.specs.Programs.{bytes_of}
use Rattle.codec.proofs.numbers.Length.{digits-twenty}
use Rattle.write.proofs.refusal_line.Line.{Told, nothing-told, more-told, byte-told, no_room, all_told}
use Rattle.write.proofs.refusal_line.tell_refusal.Goals as goal

pub overflow_add-line : goal.overflow_add-line
overflow_add-line c = omega (arith, c.digits_in.ensures, digits-twenty c.told_number-number.result (omega arith))

pub overflow_add-line-2 : goal.overflow_add-line-2
overflow_add-line-2 c =
    omega (
      arith,
      c.digits_in.ensures,
      digits-twenty c.told_number-number.result (omega arith),
      c.digits_in-2.ensures,
      digits-twenty c.told_place-place.result (omega arith),
    )

pub returns-then-out-line : goal.returns-then-out-line
returns-then-out-line c =
    let a = c.args in
    no_room a.out.now a.r _ _ _ c.told_number-number.ensures c.told_place-place.ensures
    (omega (arith, c.digits_in.ensures, c.digits_in-2.ensures)) (omega arith) (omega arith) c.if-out-line.true

pub shape_of-out : goal.shape_of-out
shape_of-out c =
    let told : let a = c.args in Told a.out.now (((bytes_of "refused " ++ digits c.told_number-number.result) ++ bytes_of " at ") ++ digits c.told_place-place.result) c.put_digits-end.new.out c.put_digits-end.result =
    let out = c.args.out.now in
    let n = c.told_number-number.result in
    let p = c.told_place-place.result in
    let enough = c.if-out-line.false in
    let number = c.digits_in.ensures in
    let place = c.digits_in-2.ensures in
    let t1 = more-told out [] out 0 (nothing-told out) (bytes_of "refused ") c.append-number_at.new.out c.append-number_at.result
    (omega (arith, enough)) c.append-number_at.ensures.out_after c.append-number_at.ensures.value in
    let t2 = more-told out (bytes_of "refused ") c.append-number_at.new.out c.append-number_at.result t1 (digits n) c.put_digits-number_end.new.out c.put_digits-number_end.result
    (omega (arith, enough, number, c.append-number_at.ensures.value)) c.put_digits-number_end.ensures.out_after c.put_digits-number_end.ensures.value in
    let t3 = more-told out (bytes_of "refused " ++ digits n) c.put_digits-number_end.new.out c.put_digits-number_end.result t2 (bytes_of " at ") c.append-place_at.new.out
    c.append-place_at.result (omega (arith, enough, number, c.append-number_at.ensures.value, c.put_digits-number_end.ensures.value)) c.append-place_at.ensures.out_after c.append-place_at.ensures.value in
    more-told out ((bytes_of "refused " ++ digits n) ++ bytes_of " at ") c.append-place_at.new.out c.append-place_at.result t3 (digits p) c.put_digits-end.new.out
    c.put_digits-end.result (omega (arith, enough, number, place, c.append-number_at.ensures.value, c.put_digits-number_end.ensures.value, c.append-place_at.ensures.value))
    c.put_digits-end.ensures.out_after c.put_digits-end.ensures.value in
    let room : c.put_digits-end.result + 1 ≤ length c.args.out.now =
    let enough = c.if-out-line.false in
    omega (
      arith,
      enough,
      c.digits_in.ensures,
      c.digits_in-2.ensures,
      c.append-number_at.ensures.value,
      c.put_digits-number_end.ensures.value,
      c.append-place_at.ensures.value,
      c.put_digits-end.ensures.value,
    ) in
    (byte-told _ _ _ _ 10 (told) (omega (arith, room))).size

pub returns : goal.returns
returns c =
    let told : let a = c.args in Told a.out.now (((bytes_of "refused " ++ digits c.told_number-number.result) ++ bytes_of " at ") ++ digits c.told_place-place.result) c.put_digits-end.new.out c.put_digits-end.result =
    let out = c.args.out.now in
    let n = c.told_number-number.result in
    let p = c.told_place-place.result in
    let enough = c.if-out-line.false in
    let number = c.digits_in.ensures in
    let place = c.digits_in-2.ensures in
    let t1 = more-told out [] out 0 (nothing-told out) (bytes_of "refused ") c.append-number_at.new.out c.append-number_at.result
    (omega (arith, enough)) c.append-number_at.ensures.out_after c.append-number_at.ensures.value in
    let t2 = more-told out (bytes_of "refused ") c.append-number_at.new.out c.append-number_at.result t1 (digits n) c.put_digits-number_end.new.out c.put_digits-number_end.result
    (omega (arith, enough, number, c.append-number_at.ensures.value)) c.put_digits-number_end.ensures.out_after c.put_digits-number_end.ensures.value in
    let t3 = more-told out (bytes_of "refused " ++ digits n) c.put_digits-number_end.new.out c.put_digits-number_end.result t2 (bytes_of " at ") c.append-place_at.new.out
    c.append-place_at.result (omega (arith, enough, number, c.append-number_at.ensures.value, c.put_digits-number_end.ensures.value)) c.append-place_at.ensures.out_after c.append-place_at.ensures.value in
    more-told out ((bytes_of "refused " ++ digits n) ++ bytes_of " at ") c.append-place_at.new.out c.append-place_at.result t3 (digits p) c.put_digits-end.new.out
    c.put_digits-end.result (omega (arith, enough, number, place, c.append-number_at.ensures.value, c.put_digits-number_end.ensures.value, c.append-place_at.ensures.value))
    c.put_digits-end.ensures.out_after c.put_digits-end.ensures.value in
    let room : c.put_digits-end.result + 1 ≤ length c.args.out.now =
    let enough = c.if-out-line.false in
    omega (
      arith,
      enough,
      c.digits_in.ensures,
      c.digits_in-2.ensures,
      c.append-number_at.ensures.value,
      c.put_digits-number_end.ensures.value,
      c.append-place_at.ensures.value,
      c.put_digits-end.ensures.value,
    ) in
    let a = c.args in
    all_told a.out.now a.r _ _ _ c.told_number-number.ensures c.told_place-place.ensures
    (omega (arith, c.digits_in.ensures, c.digits_in-2.ensures)) _ _ (byte-told _ _ _ _ 10 (told) (omega (arith, room)))
    c.if-out-line.false
