-- 22, 5, 15, then 12, of a gate's number, its right sides and the length of the values. The answers are given by `no-gate`, `out_first` and
-- `out-second`.
use mathlib.Core.Path.{◌≡◌, sym, ap, ◌∙◌}
use mathlib.Core.Bool.{true, false}
use native.Mathlib.Omega.{arith}
use borrow.Author.Tests.{not-true, not-false, lt-ltb, le-ltb, eq-eqb, ne_eqb}
use lib.Dec.{ltb}
use Rattle.plan.specs.Literals.{word_of, in_range, doubled}
use Rattle.plan.specs.Rewire.{left_at}
use Rattle.rewire.proofs.Sides.{left_word, no-gate, out_first, out-second, high-first, high-second, wrong-length, all_pass}
use Rattle.rewire.proofs.judge_sides.Goals as goal

pub returns-then-gate-n : goal.returns-then-gate-n
returns-then-gate-n c =
    let a = c.args in
    no-gate a.n a.gate (word_of a.rhs0) (word_of a.rhs1) a.len (le-ltb _ _ c.if-gate-n.true)

pub overflow_cast-m : goal.overflow_cast-m
overflow_cast-m c = let p = c.requires in record { fits = omega (arith, p.most-M) }

pub returns-then-not-within : goal.returns-then-not-within
returns-then-not-within c =
    let there : let a = c.args in ltb a.gate a.n.A ≡ true =
    lt-ltb _ _ c.if-gate-n.false in
    let a = c.args in
    out_first a.n a.gate (word_of a.rhs0) (word_of a.rhs1) a.len (there) (sym c.within.ensures ∙ not-true _ c.if-not-within.true-raw)

pub returns-then-not-within-2 : goal.returns-then-not-within-2
returns-then-not-within-2 c =
    let there : let a = c.args in ltb a.gate a.n.A ≡ true =
    lt-ltb _ _ c.if-gate-n.false in
    let in0 : let a = c.args in in_range false a.n.M (word_of a.rhs0) ≡ true =
    sym c.within.ensures ∙ not-false _ c.if-not-within.false-raw in
    let a = c.args in
    out-second a.n a.gate (word_of a.rhs0) (word_of a.rhs1) a.len (there) (in0)
    (sym c.within-2.ensures ∙ not-true _ c.if-not-within-2.true-raw)

pub overflow_add-n : goal.overflow_add-n
overflow_add-n c = let p = c.requires in omega (arith, p.sum, p.most-M, c.if-gate-n.false)

pub overflow_add-n-2 : goal.overflow_add-n-2
overflow_add-n-2 c = let p = c.requires in omega (arith, p.sum, p.most-M, c.if-gate-n.false)

pub overflow_add-n-3 : goal.overflow_add-n-3
overflow_add-n-3 c = let p = c.requires in omega (arith, p.sum, p.most-M, c.if-gate-n.false)

pub overflow_cast-n : goal.overflow_cast-n
overflow_cast-n c = let p = c.requires in record { fits = omega (arith, p.sum, p.most-M, c.if-gate-n.false) }

pub returns-then-not-below : goal.returns-then-not-below
returns-then-not-below c =
    let there : let a = c.args in ltb a.gate a.n.A ≡ true =
    lt-ltb _ _ c.if-gate-n.false in
    let in0 : let a = c.args in in_range false a.n.M (word_of a.rhs0) ≡ true =
    sym c.within.ensures ∙ not-false _ c.if-not-within.false-raw in
    let in1 : let a = c.args in in_range false a.n.M (word_of a.rhs1) ≡ true =
    sym c.within-2.ensures ∙ not-false _ c.if-not-within-2.false-raw in
    let left_is : let a = c.args in word_of c.lit-left.result ≡ left_at a.n a.gate =
    ap word_of (c.lit-left.ensures ∙ ap doubled c.at.ensures) ∙ left_word c.args.n c.args.gate c.requires c.if-gate-n.false in
    let a = c.args in
    high-first a.n a.gate (word_of a.rhs0) (word_of a.rhs1) a.len (there) (in0) (in1)
    (ap (ltb (word_of a.rhs0)) (sym (left_is)) ∙ sym c.below.ensures ∙ not-true _ c.if-not-below.true-raw)

pub returns-then-not-below-2 : goal.returns-then-not-below-2
returns-then-not-below-2 c =
    let there : let a = c.args in ltb a.gate a.n.A ≡ true =
    lt-ltb _ _ c.if-gate-n.false in
    let in0 : let a = c.args in in_range false a.n.M (word_of a.rhs0) ≡ true =
    sym c.within.ensures ∙ not-false _ c.if-not-within.false-raw in
    let in1 : let a = c.args in in_range false a.n.M (word_of a.rhs1) ≡ true =
    sym c.within-2.ensures ∙ not-false _ c.if-not-within-2.false-raw in
    let left_is : let a = c.args in word_of c.lit-left.result ≡ left_at a.n a.gate =
    ap word_of (c.lit-left.ensures ∙ ap doubled c.at.ensures) ∙ left_word c.args.n c.args.gate c.requires c.if-gate-n.false in
    let low0 : let a = c.args in ltb (word_of a.rhs0) (left_at a.n a.gate) ≡ true =
    let a = c.args in
    ap (ltb (word_of a.rhs0)) (sym (left_is)) ∙ sym c.below.ensures ∙ not-false _ c.if-not-below.false-raw in
    let a = c.args in
    high-second a.n a.gate (word_of a.rhs0) (word_of a.rhs1) a.len (there) (in0) (in1) (low0)
    (ap (ltb (word_of a.rhs1)) (sym (left_is)) ∙ sym c.below-2.ensures ∙ not-true _ c.if-not-below-2.true-raw)

pub overflow_add-n-4 : goal.overflow_add-n-4
overflow_add-n-4 c = omega (arith, c.requires.most-M)

pub returns-then-len-n : goal.returns-then-len-n
returns-then-len-n c =
    let there : let a = c.args in ltb a.gate a.n.A ≡ true =
    lt-ltb _ _ c.if-gate-n.false in
    let in0 : let a = c.args in in_range false a.n.M (word_of a.rhs0) ≡ true =
    sym c.within.ensures ∙ not-false _ c.if-not-within.false-raw in
    let in1 : let a = c.args in in_range false a.n.M (word_of a.rhs1) ≡ true =
    sym c.within-2.ensures ∙ not-false _ c.if-not-within-2.false-raw in
    let left_is : let a = c.args in word_of c.lit-left.result ≡ left_at a.n a.gate =
    ap word_of (c.lit-left.ensures ∙ ap doubled c.at.ensures) ∙ left_word c.args.n c.args.gate c.requires c.if-gate-n.false in
    let low0 : let a = c.args in ltb (word_of a.rhs0) (left_at a.n a.gate) ≡ true =
    let a = c.args in
    ap (ltb (word_of a.rhs0)) (sym (left_is)) ∙ sym c.below.ensures ∙ not-false _ c.if-not-below.false-raw in
    let low1 : let a = c.args in ltb (word_of a.rhs1) (left_at a.n a.gate) ≡ true =
    let a = c.args in
    ap (ltb (word_of a.rhs1)) (sym (left_is)) ∙ sym c.below-2.ensures ∙ not-false _ c.if-not-below-2.false-raw in
    let a = c.args in
    wrong-length a.n a.gate (word_of a.rhs0) (word_of a.rhs1) a.len (there) (in0) (in1) (low0) (low1)
    (ne_eqb _ _ c.if-len-n.true)

pub returns : goal.returns
returns c =
    let there : let a = c.args in ltb a.gate a.n.A ≡ true =
    lt-ltb _ _ c.if-gate-n.false in
    let in0 : let a = c.args in in_range false a.n.M (word_of a.rhs0) ≡ true =
    sym c.within.ensures ∙ not-false _ c.if-not-within.false-raw in
    let in1 : let a = c.args in in_range false a.n.M (word_of a.rhs1) ≡ true =
    sym c.within-2.ensures ∙ not-false _ c.if-not-within-2.false-raw in
    let left_is : let a = c.args in word_of c.lit-left.result ≡ left_at a.n a.gate =
    ap word_of (c.lit-left.ensures ∙ ap doubled c.at.ensures) ∙ left_word c.args.n c.args.gate c.requires c.if-gate-n.false in
    let low0 : let a = c.args in ltb (word_of a.rhs0) (left_at a.n a.gate) ≡ true =
    let a = c.args in
    ap (ltb (word_of a.rhs0)) (sym (left_is)) ∙ sym c.below.ensures ∙ not-false _ c.if-not-below.false-raw in
    let low1 : let a = c.args in ltb (word_of a.rhs1) (left_at a.n a.gate) ≡ true =
    let a = c.args in
    ap (ltb (word_of a.rhs1)) (sym (left_is)) ∙ sym c.below-2.ensures ∙ not-false _ c.if-not-below-2.false-raw in
    let a = c.args in
    all_pass a.n a.gate (word_of a.rhs0) (word_of a.rhs1) a.len (there) (in0) (in1) (low0) (low1) (eq-eqb _ _ c.if-len-n.false)
