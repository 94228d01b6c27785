-- Whether filling number `which` of start and list shows a 1. The answers are given by `start-length` and `number-shows`.
use Prim.Native.Nat.{ℕ}
use mathlib.Core.Path.{◌≡◌, sym, ap, ◌∙◌}
use mathlib.Core.List.{List, map}
use native.Mathlib.Omega.{arith}
use lib.ListN.{length}
use Rattle.plan.specs.Circuit.{Circuit, circuit_of, seven}
use Rattle.plan.specs.Step.{Value, value_of}
use Rattle.witness.specs.three.Listing.{shows_from}
use Rattle.plan.specs.Fillings.{fill_from, filling}
use Rattle.laws.proofs.Fillings.Question.{number-shows}
use Rattle.witness.specs.Asked.{codes_of}
use Rattle.witness.proofs.Attempts.{start-length}
use Rattle.witness.proofs.filling_shows.Goals as goal

pub start_filled-first-requires : goal.start_filled-first-requires
start_filled-first-requires c =
    let p = c.requires in
    record {
      resets-long = p.runs.fits.resets-long;
      room = omega (arith, p.scratch-long, p.runs.fits.sum);
      few = omega (arith, p.few);
    }

pub shows_filled-requires : goal.shows_filled-requires
shows_filled-requires c =
    let state_of : List Value =
    map value_of (filling c.args.which (codes_of c.args.resets.now c.args.n.L)) in
    let state-long : length (state_of) ≡ c.args.n.L =
    start-length c.args.resets.now c.args.n.L c.args.which c.requires.runs.fits.resets-long in
    let p = c.requires in
    record {
      starts = record {
        inputs = p.inputs;
        resets = c.args.resets.now;
        state = state_of;
        runs = p.runs;
        scratch-long = omega (arith, p.scratch-long, c.start_filled-first.auto.t);
        state-length = state-long;
        rests = c.start_filled-first.ensures.rests;
      };
      bytes_len = p.whole;
      bytes_bound = omega (arith, p.few, c.start_filled-first.ensures.value);
    }

pub shape_of-scratch : goal.shape_of-scratch
shape_of-scratch c = c.shows_filled.auto.scratch ∙ c.start_filled-first.auto.t

pub returns : goal.returns
returns c =
    let state_of : List Value =
    map value_of (filling c.args.which (codes_of c.args.resets.now c.args.n.L)) in
    let state-long : length (state_of) ≡ c.args.n.L =
    start-length c.args.resets.now c.args.n.L c.args.which c.requires.runs.fits.resets-long in
    λ inputs r.
    let a = c.args in
    let held : Circuit = circuit_of a.n (seven inputs a.latches.now a.outputs.now a.gates.now a.resets.now a.bads.now
    a.constraints.now) in
    c.shows_filled.ensures inputs a.resets.now (state_of) r (state-long) c.start_filled-first.ensures.rests
    ∙ (ap (λ (j : ℕ). shows_from held (state_of) a.number (fill_from a.which j a.bytes.now)) c.start_filled-first.ensures.value
    ∙ sym (number-shows held a.number a.bytes.now a.which))
