-- Marks the variable of a literal that defines; whether it was marked already. The answers are given by `unasked`, `was-marked` and `now-marked`.
use Prim.Native.Nat.{◌<◌}
use mathlib.Core.Path.{◌≡◌, ap, ◌∙◌}
use native.Mathlib.Omega.{arith}
use lib.ListN.{length}
use Rattle.plan.specs.Literals.{var_of, word_of, index_of}
use Rattle.lines.proofs.Marks.{marks-for, unasked, was-marked, now-marked}
use Rattle.lines.proofs.defined_before.Goals as goal

pub returns-then-not-defines : goal.returns-then-not-defines
returns-then-not-defines c =
    let a = c.args in
    let whole = unasked a.defines (var_of (word_of a.l)) a.marks.now c.if-not-defines.true in
    record { value = whole.0; marks_after = whole.1 }

pub is_on-requires : goal.is_on-requires
is_on-requires c =
    let var-is : c.index-v.result ≡ var_of (word_of c.args.l) =
    c.index-v.ensures ∙ ap index_of c.var.ensures in
    let words : var_of (word_of c.args.l) < length c.args.marks.now =
    let a = c.args in
    marks-for a.defines (var_of (word_of a.l)) a.marks.now c.if-not-defines.false c.requires in
    omega (arith, var-is, words)

pub returns-then-is_on : goal.returns-then-is_on
returns-then-is_on c =
    let var-is : c.index-v.result ≡ var_of (word_of c.args.l) =
    c.index-v.ensures ∙ ap index_of c.var.ensures in
    let a = c.args in
    let whole = was-marked a.defines (var_of (word_of a.l)) a.marks.now c.index-v.result (var-is) c.is_on.result c.is_on.ensures
    c.if-not-defines.false c.if-is_on.true in
    record { value = whole.0; marks_after = whole.1 }

pub raise-requires : goal.raise-requires
raise-requires c =
    let var-is : c.index-v.result ≡ var_of (word_of c.args.l) =
    c.index-v.ensures ∙ ap index_of c.var.ensures in
    let words : var_of (word_of c.args.l) < length c.args.marks.now =
    let a = c.args in
    marks-for a.defines (var_of (word_of a.l)) a.marks.now c.if-not-defines.false c.requires in
    omega (arith, var-is, words)

pub returns : goal.returns
returns c =
    let var-is : c.index-v.result ≡ var_of (word_of c.args.l) =
    c.index-v.ensures ∙ ap index_of c.var.ensures in
    let a = c.args in
    let whole = now-marked a.defines (var_of (word_of a.l)) a.marks.now c.index-v.result (var-is) c.is_on.result c.is_on.ensures
    _ c.raise.ensures c.if-not-defines.false c.if-is_on.false in
    record { value = whole.0; marks_after = whole.1 }
