-- `next-x` and `going_on` carry the invariant from turn to turn, and `none-counts`, `found-one` and `none-shown` give the answer.
use Prim.Native.Nat.{ℕ, ◌+◌, ◌*◌, ◌-◌}
use mathlib.Core.Path.{refl, ap, ◌∙◌}
use native.Mathlib.Omega.{arith}
use lib.ListN.{take, drop}
use Rattle.plan.specs.Circuit.{seven}
use Rattle.plan.specs.Fillings.{x_count, fill_from}
use Rattle.laws.proofs.Tables.{next_row}
use Rattle.step.proofs.sweep.Seeing.{sees-constraints}
use Rattle.witness.proofs.three.Listing.{part-short, vector-ready, shown-asks, none-counts, found-one, going_on, none-shown}
use Rattle.witness.proofs.Vectors.{filled-turn, filled-vector, next-x, few-x}
use Rattle.witness.proofs.shows_filled.Goals as goal

pub load_filled-x-requires : goal.load_filled-x-requires
load_filled-x-requires c =
    let p = c.requires.starts in
    let at = c.args.n.I * c.loop-k.k in
    record {
      room = omega (arith, part-short (at + c.args.n.I - at) (drop at c.args.bytes.now), p.scratch-long, c.loop-k.invariant.0, p.runs.fits.sum);
      few = few-x c.args.first at c.args.n.I c.loop-k.x c.args.bytes.now c.loop-k.invariant.1 c.requires.bytes_bound;
    }

pub step_values-requires : goal.step_values-requires
step_values-requires c =
    let a = c.args in
    let p = c.requires.starts in
    vector-ready (filled-turn a.which a.first a.bytes.now c.requires.bytes_len c.loop-k-test.true) p.runs
    (omega (arith, p.scratch-long, c.loop-k.invariant.0)) (c.loop-k.invariant.2 p.inputs p.resets p.state p.runs p.state-length p.rests)
    (filled-vector a.first _ a.n.I c.loop-k.x a.bytes.now c.loop-k.invariant.1 a.which c.loop-k.scratch _ c.load_filled-x.ensures.t_after)
    c.load_filled-x.auto.t

pub all_lits-requires : goal.all_lits-requires
all_lits-requires c =
    let p = c.requires.starts in
    sees-constraints p.runs (omega (arith, p.scratch-long, c.step_values.auto.t ∙ c.load_filled-x.auto.t ∙ c.loop-k.invariant.0))

pub returns-then-not-all_lits : goal.returns-then-not-all_lits
returns-then-not-all_lits c =
    let a = c.args in
    λ inputs resets s r l z.
    none-counts (filled-turn a.which a.first a.bytes.now c.requires.bytes_len c.loop-k-test.true) r
    (omega (arith, c.requires.starts.scratch-long, c.loop-k.invariant.0)) (c.loop-k.invariant.2 inputs resets s r l z)
    (filled-vector a.first _ a.n.I c.loop-k.x a.bytes.now c.loop-k.invariant.1 a.which c.loop-k.scratch _ c.load_filled-x.ensures.t_after)
    (c.step_values.ensures (seven inputs a.latches.now a.outputs.now a.gates.now resets a.bads.now a.constraints.now) _ _ r) _ c.all_lits.ensures
    c.if-not-all_lits.true

pub shown-requires : goal.shown-requires
shown-requires c =
    let p = c.requires.starts in
    shown-asks p.runs (omega (arith, p.scratch-long, c.step_values.auto.t ∙ c.load_filled-x.auto.t ∙ c.loop-k.invariant.0))

pub returns-then-shown : goal.returns-then-shown
returns-then-shown c =
    let a = c.args in
    λ inputs resets s r l z.
    found-one (filled-turn a.which a.first a.bytes.now c.requires.bytes_len c.loop-k-test.true) r
    (omega (arith, c.requires.starts.scratch-long, c.loop-k.invariant.0)) (c.loop-k.invariant.2 inputs resets s r l z)
    (filled-vector a.first _ a.n.I c.loop-k.x a.bytes.now c.loop-k.invariant.1 a.which c.loop-k.scratch _ c.load_filled-x.ensures.t_after)
    (c.step_values.ensures (seven inputs a.latches.now a.outputs.now a.gates.now resets a.bads.now a.constraints.now) _ _ r) _ c.all_lits.ensures
    c.if-not-all_lits.false _ c.shown.ensures c.if-shown.true

pub loop-k-preserved : goal.loop-k-preserved
loop-k-preserved c =
    let a = c.args in
    let at = a.n.I * c.loop-k.k in (
      c.step_values.auto.t ∙ c.load_filled-x.auto.t ∙ c.loop-k.invariant.0,
      next-x a.first at a.n.I c.loop-k.x a.bytes.now c.loop-k.invariant.1 _ c.load_filled-x.ensures.value
          ∙ ap (λ (m : ℕ). a.first + x_count (take m a.bytes.now)) (next_row a.n.I c.loop-k.k at refl),
      λ inputs resets s r l z.
          going_on (filled-turn a.which a.first a.bytes.now c.requires.bytes_len c.loop-k-test.true) r
          (omega (arith, c.requires.starts.scratch-long, c.loop-k.invariant.0)) (c.loop-k.invariant.2 inputs resets s r l z)
          (filled-vector a.first _ a.n.I c.loop-k.x a.bytes.now c.loop-k.invariant.1 a.which c.loop-k.scratch _ c.load_filled-x.ensures.t_after)
          (c.step_values.ensures (seven inputs a.latches.now a.outputs.now a.gates.now resets a.bads.now a.constraints.now) _ _ r) _ c.all_lits.ensures
          c.if-not-all_lits.false _ c.shown.ensures c.if-shown.false,
    )

pub returns : goal.returns
returns c =
    let a = c.args in
    λ inputs resets s r l z.
    none-shown a.n _ s a.number (fill_from a.which a.first a.bytes.now) c.loop-k.scratch c.loop-k.k c.loop-k-test.false
    (c.loop-k.invariant.2 inputs resets s r l z)
