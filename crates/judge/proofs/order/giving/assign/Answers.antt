-- The scan yields the first gate that is ready: none before it is, and where none is the order is at its end.
use mathlib.Core.Bool.{true}
use mathlib.Core.Path.{◌≡◌, refl, sym, ◌∙◌}
use native.Mathlib.Omega.{arith}
use lib.ListN.{length}
use Rattle.judge.proofs.order.Spaces.{space-again, top-word}
use Rattle.judge.proofs.order.Assigning.{idle-first, idle-more, marked-ready, state-start, state-more, state-break, state-end}
use Rattle.judge.proofs.order.giving.assign.Goals as goal

pub numbers-init : goal.numbers-init
numbers-init c =
    let A = c.args in
    (omega arith, refl, omega arith, state-start A.gates.now A.t.now A.n A.a A.first (omega (arith, c.requires.0.table-long)) c.requires.3 c.requires.4)

pub first_pair-j-requires : goal.first_pair-j-requires
first_pair-j-requires c =
    let A = c.args in
    let more = c.numbers-test.true in
    let top = top-word A.n A.a (length A.t.now) (omega (arith, more)) c.requires.0.table-long in
    (omega (arith, top, c.numbers.invariant.1), c.requires.0.small, omega (arith, more), c.numbers.invariant.3.waiting.marks.levels)

pub loop-j-init : goal.loop-j-init
loop-j-init c =
    let A = c.args in
    idle-first A.gates.now c.numbers.t A.n A.a c.numbers.invariant.3.waiting c.first_pair-j.result c.first_pair-j.ensures

pub overflow_mul-a : goal.overflow_mul-a
overflow_mul-a c = omega arith

pub overflow_add-n : goal.overflow_add-n
overflow_add-n c = omega arith

pub is_on-requires : goal.is_on-requires
is_on-requires c =
    let A = c.args in
    let in-gates = c.if-a-j.false in
    let top = top-word A.n A.a (length A.t.now) (omega (arith, in-gates)) c.requires.0.table-long in
    omega (arith, top, c.numbers.invariant.1, in-gates)

pub overflow_add-j : goal.overflow_add-j
overflow_add-j c = record { fits = omega (arith, c.requires.0.small, c.if-a-j.false) }

pub loop-j-smaller : goal.loop-j-smaller
loop-j-smaller c = omega (arith, c.if-a-j.false)

pub loop-j-preserved : goal.loop-j-preserved
loop-j-preserved c =
    let A = c.args in
    idle-more A.gates.now c.numbers.t A.n A.a c.numbers.invariant.3.waiting c.loop-j.j c.loop-j.invariant (sym c.is_on.ensures ∙ c.if-is_on.false)

pub give-requires : goal.give-requires
give-requires c =
    let A = c.args in
    let inn = c.if-a-j.false in
    record {
      space = space-again A.gates.now A.t.now c.numbers.t A.n A.a c.numbers.invariant.1 c.requires.0;
      within = omega (arith, inn);
      pos = omega (arith, c.requires.1, c.numbers.invariant.2);
      small = omega (arith, c.requires.2, c.numbers.invariant.2, c.numbers-test.true);
      is-ready = marked-ready A.gates.now c.numbers.t A.n A.a c.numbers.invariant.3.waiting c.loop-j.j true (omega (arith, inn))
          (sym c.is_on.ensures ∙ c.if-is_on.true);
      waiting = c.numbers.invariant.3.waiting;
    }

pub overflow_add-next : goal.overflow_add-next
overflow_add-next c = record { fits = omega (arith, c.requires.2, c.numbers.invariant.2, c.numbers-test.true) }

pub overflow_add-k : goal.overflow_add-k
overflow_add-k c = omega arith

pub numbers-smaller : goal.numbers-smaller
numbers-smaller c = omega arith

pub numbers-preserved : goal.numbers-preserved
numbers-preserved c =
    let A = c.args in
    let inn = c.if-a-j.false in
    let u = c.give.new.t in
    let same : length u ≡ length c.numbers.t = c.give.auto.t in
    let more = c.numbers-test.true in (
      omega arith,
      same ∙ c.numbers.invariant.1,
      omega (arith, c.numbers.invariant.2),
      state-more A.gates.now A.t.now c.numbers.t A.n A.a A.first c.numbers.next c.numbers.k c.requires.0.inside c.numbers.invariant.3 u c.loop-j.j
          more (omega (arith, inn)) (omega (arith, c.requires.1, c.numbers.invariant.2)) (omega (arith, c.requires.2, c.numbers.invariant.2)) c.loop-j.invariant
          (marked-ready A.gates.now c.numbers.t A.n A.a c.numbers.invariant.3.waiting c.loop-j.j true (omega (arith, inn))
          (sym c.is_on.ensures ∙ c.if-is_on.true)) same c.give.ensures,
    )

pub shape_of-t-after-numbers : goal.shape_of-t-after-numbers
shape_of-t-after-numbers c = c.numbers.invariant.1

pub returns-after-numbers : goal.returns-after-numbers
returns-after-numbers c =
    let A = c.args in
    record {
      value = sym c.numbers.invariant.3.count;
      by_index = state-end A.gates.now A.t.now c.numbers.t A.n A.a A.first c.numbers.next c.numbers.k c.requires.0.inside c.numbers.invariant.3
          (omega (arith, c.numbers-test.false));
    }

pub shape_of-t-then-a-j : goal.shape_of-t-then-a-j
shape_of-t-then-a-j c = c.numbers.invariant.1

pub returns-then-a-j : goal.returns-then-a-j
returns-then-a-j c =
    let A = c.args in
    record {
      value = sym c.numbers.invariant.3.count;
      by_index = state-break A.gates.now A.t.now c.numbers.t A.n A.a A.first c.numbers.next c.numbers.k c.requires.0.inside c.numbers.invariant.3 c.loop-j.j
          c.if-a-j.true c.loop-j.invariant;
    }
