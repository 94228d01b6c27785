-- Each return is one of the ways through a difference.
use Prim.Native.Nat.{◌+◌}
use mathlib.Core.Path.{sym}
use native.Mathlib.Omega.{arith}
use Rattle.codec.proofs.differences.Ways.{ends0, value1, ends1, bad2, value2, ends2, bad4, bad3, value3}
use Rattle.codec.proofs.differences.read_difference.Goals as goal

pub returns-then-file-at : goal.returns-then-file-at
returns-then-file-at c =
    let a = c.args in
    sym (ends0 a.file.now a.at c.if-file-at.true)

pub overflow_cast-a : goal.overflow_cast-a
overflow_cast-a c = omega (arith, c.type_inv.file c.args.at)

pub returns-then-a-lt128 : goal.returns-then-a-lt128
returns-then-a-lt128 c =
    let a = c.args in
    sym (value1 a.file.now a.at c.if-file-at.false c.if-a-lt128.true)

pub returns-then-file-i : goal.returns-then-file-i
returns-then-file-i c =
    let a = c.args in
    sym (ends1 a.file.now a.at c.if-file-at.false c.if-a-lt128.false c.if-file-i.true)

pub overflow_cast-b : goal.overflow_cast-b
overflow_cast-b c = omega (arith, c.type_inv.file (c.args.at + 1))

pub returns-then-b-eq0 : goal.returns-then-b-eq0
returns-then-b-eq0 c =
    let a = c.args in
    sym (bad2 a.file.now a.at c.if-file-at.false c.if-a-lt128.false
    c.if-file-i.false c.if-b-eq0.true)

pub returns-then-b-lt128 : goal.returns-then-b-lt128
returns-then-b-lt128 c =
    let a = c.args in
    sym (value2 a.file.now a.at c.if-file-at.false c.if-a-lt128.false
    c.if-file-i.false c.if-b-lt128.true c.if-b-eq0.false)

pub returns-then-file-j : goal.returns-then-file-j
returns-then-file-j c =
    let a = c.args in
    sym (ends2 a.file.now a.at c.if-file-at.false c.if-a-lt128.false
    c.if-file-i.false c.if-b-lt128.false c.if-file-j.true)

pub overflow_cast-d : goal.overflow_cast-d
overflow_cast-d c = omega (arith, c.type_inv.file (c.args.at + 1 + 1))

pub returns-then-d-eq0 : goal.returns-then-d-eq0
returns-then-d-eq0 c =
    let a = c.args in
    sym (bad3 a.file.now a.at c.if-file-at.false
    c.if-a-lt128.false c.if-file-i.false
    c.if-b-lt128.false c.if-file-j.false c.if-d-eq0.true)

pub returns-then-d-lt128 : goal.returns-then-d-lt128
returns-then-d-lt128 c =
    let a = c.args in
    sym (value3 a.file.now a.at c.if-file-at.false
    c.if-a-lt128.false c.if-file-i.false
    c.if-b-lt128.false c.if-file-j.false c.if-d-lt128.true c.if-d-eq0.false)

pub returns : goal.returns
returns c =
    let a = c.args in
    sym (bad4 a.file.now a.at c.if-file-at.false
    c.if-a-lt128.false c.if-file-i.false
    c.if-b-lt128.false c.if-file-j.false c.if-d-lt128.false)
