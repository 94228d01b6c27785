-- `going_on` carries the invariant from turn to turn, and `none-counts`, `found-one` and `none-shown` give the answer.
use mathlib.Core.Path.{◌∙◌}
use native.Mathlib.Omega.{arith}
use Rattle.plan.specs.Circuit.{seven}
use Rattle.step.proofs.sweep.Seeing.{sees-constraints}
use Rattle.witness.proofs.three.Listing.{vector-ready, shown-asks, none-counts, found-one, going_on, none-shown}
use Rattle.witness.proofs.three.shows_one.Goals as goal

pub step_values-requires : goal.step_values-requires
step_values-requires c =
    let p = c.requires.starts in
    vector-ready (record { whole = c.requires.bytes_len; more = c.loop-k-test.true }) p.runs
    (omega (arith, p.scratch-long, c.loop-k.invariant.0)) (c.loop-k.invariant.1 p.inputs p.resets p.state p.runs p.state-length p.rests)
    c.load.ensures c.load.auto.t

pub all_lits-requires : goal.all_lits-requires
all_lits-requires c =
    let p = c.requires.starts in
    sees-constraints p.runs (omega (arith, p.scratch-long, c.step_values.auto.t ∙ c.load.auto.t ∙ c.loop-k.invariant.0))

pub returns-then-not-all_lits : goal.returns-then-not-all_lits
returns-then-not-all_lits c =
    let a = c.args in
    λ inputs resets s r l z.
    none-counts (record { whole = c.requires.bytes_len; more = c.loop-k-test.true }) r
    (omega (arith, c.requires.starts.scratch-long, c.loop-k.invariant.0)) (c.loop-k.invariant.1 inputs resets s r l z) c.load.ensures
    (c.step_values.ensures (seven inputs a.latches.now a.outputs.now a.gates.now resets a.bads.now a.constraints.now) _ _ r) _ c.all_lits.ensures
    c.if-not-all_lits.true

pub shown-requires : goal.shown-requires
shown-requires c =
    let p = c.requires.starts in
    shown-asks p.runs (omega (arith, p.scratch-long, c.step_values.auto.t ∙ c.load.auto.t ∙ c.loop-k.invariant.0))

pub returns-then-shown : goal.returns-then-shown
returns-then-shown c =
    let a = c.args in
    λ inputs resets s r l z.
    found-one (record { whole = c.requires.bytes_len; more = c.loop-k-test.true }) r
    (omega (arith, c.requires.starts.scratch-long, c.loop-k.invariant.0)) (c.loop-k.invariant.1 inputs resets s r l z) c.load.ensures
    (c.step_values.ensures (seven inputs a.latches.now a.outputs.now a.gates.now resets a.bads.now a.constraints.now) _ _ r) _ c.all_lits.ensures
    c.if-not-all_lits.false _ c.shown.ensures c.if-shown.true

pub loop-k-preserved : goal.loop-k-preserved
loop-k-preserved c =
    let a = c.args in (
      c.step_values.auto.t ∙ c.load.auto.t ∙ c.loop-k.invariant.0,
      λ inputs resets s r l z.
          going_on (record { whole = c.requires.bytes_len; more = c.loop-k-test.true }) r
          (omega (arith, c.requires.starts.scratch-long, c.loop-k.invariant.0)) (c.loop-k.invariant.1 inputs resets s r l z) c.load.ensures
          (c.step_values.ensures (seven inputs a.latches.now a.outputs.now a.gates.now resets a.bads.now a.constraints.now) _ _ r) _
          c.all_lits.ensures c.if-not-all_lits.false _ c.shown.ensures c.if-shown.false,
    )

pub returns : goal.returns
returns c =
    let a = c.args in
    λ inputs resets s r l z.
    none-shown a.n _ s a.number a.bytes.now c.loop-k.scratch c.loop-k.k c.loop-k-test.false (c.loop-k.invariant.1 inputs resets s r l z)
