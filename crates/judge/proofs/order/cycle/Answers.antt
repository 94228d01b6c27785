-- All gates have numbers, or the first without one is named.
use Prim.Native.Nat.{ℕ, ◌<◌}
use mathlib.Core.Path.{◌≡◌, refl, sym, ap, ◌∙◌}
use Rattle.std.specs.Prelude.{Err, Option}
use native.Mathlib.Omega.{arith}
use lib.ListN.{length}
use Rattle.plan.specs.declared.Refusal.TheVariants.{Cyclic}
use Rattle.plan.specs.Refusals.{stage}
use Rattle.plan.specs.Outcome.{checked_by}
use Rattle.judge.specs.order.Waiting.{Space}
use Rattle.judge.proofs.order.Spaces.{space-of, space-again, gate-fits}
use Rattle.judge.proofs.order.Refusing.{cycle-good, cycle-here, first-none, first_some}
use Rattle.judge.proofs.order.cycle.Goals as goal

pub returns-then-number-a : goal.returns-then-number-a
returns-then-number-a c =
    let space : let A = c.args in Space A.gates.now c.number.new.t A.n A.a =
    let A = c.args in
    let same : length c.number.new.t ≡ length A.t.now = c.number.auto.t in
    space-again A.gates.now A.t.now c.number.new.t A.n A.a same
    (space-of A.gates.now A.t.now A.n A.a c.requires.0) in
    let A = c.args in
    let y = c.number.new.t in
    record {
      value = λ circuit its once used tab count.
          let S = space in
          sym (ap (λ (o : Option ℕ). checked_by (stage Cyclic o))
          (cycle-good A.gates.now y A.n A.a A.first circuit its once used count (omega (arith, S.table-long)) S.inside
          c.requires.2 (c.number.ensures.by_index _ tab refl count) A.a
          (first-none A.gates.now y A.a (sym c.number.ensures.value ∙ c.if-number-a.true)) refl));
      by_index = c.number.ensures.by_index;
    }

pub first_out-i-requires : goal.first_out-i-requires
first_out-i-requires c =
    let space : let A = c.args in Space A.gates.now c.number.new.t A.n A.a =
    let A = c.args in
    let same : length c.number.new.t ≡ length A.t.now = c.number.auto.t in
    space-again A.gates.now A.t.now c.number.new.t A.n A.a same
    (space-of A.gates.now A.t.now A.n A.a c.requires.0) in
    let A = c.args in
    let S = space in
    (S.gates-long, λ i h. gate-fits A.gates.now c.number.new.t A.n A.a i S h)

pub bounds-gates-i : goal.bounds-gates-i
bounds-gates-i c =
    let inn : c.first_out-i.result < c.args.a =
    let A = c.args in
    first_some A.gates.now c.number.new.t A.a c.number.result c.first_out-i.result c.number.ensures.value
    c.if-number-a.false c.first_out-i.ensures in
    omega (arith, inn, c.requires.0.gates-long)

pub returns : goal.returns
returns c =
    let space : let A = c.args in Space A.gates.now c.number.new.t A.n A.a =
    let A = c.args in
    let same : length c.number.new.t ≡ length A.t.now = c.number.auto.t in
    space-again A.gates.now A.t.now c.number.new.t A.n A.a same
    (space-of A.gates.now A.t.now A.n A.a c.requires.0) in
    let inn : c.first_out-i.result < c.args.a =
    let A = c.args in
    first_some A.gates.now c.number.new.t A.a c.number.result c.first_out-i.result c.number.ensures.value
    c.if-number-a.false c.first_out-i.ensures in
    let A = c.args in
    let y = c.number.new.t in
    record {
      value = λ circuit its once used tab count.
          let S = space in
          ap (λ (v : ℕ). Err (Cyclic v)) c.var_of.ensures
          ∙ sym (ap (λ (o : Option ℕ). checked_by (stage Cyclic o))
          (cycle-here A.gates.now y A.n A.a A.first circuit its once used count (omega (arith, S.table-long)) S.inside
          c.requires.2 (c.number.ensures.by_index _ tab refl count) c.first_out-i.result c.first_out-i.ensures
          (λ e. omega (arith, e, inn))));
      by_index = c.number.ensures.by_index;
    }
