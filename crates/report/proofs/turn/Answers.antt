-- One vector: the latches are counted by the state that scratch holds before the step, the outputs after it. The answers are given by `stands`,
-- `outputs-counted` and `latches-counted`.
use mathlib.Core.Path.{◌≡◌, refl, ◌∙◌}
use mathlib.Core.List.{List, map}
use native.Mathlib.Omega.{arith}
use lib.ListN.{length, length-map}
use Rattle.plan.specs.Circuit.{Tables, Circuit, circuit_of}
use Rattle.plan.specs.Step.{Value, value_of, step_of}
use Rattle.step.specs.sweep.Running.{these, Runs, Rests, Stepped}
use Rattle.report.proofs.Turning.{latches-counted, latches-count, outputs-counted, outputs-count, stands, ready, outputs-long}
use Rattle.report.proofs.turn.Goals as goal

pub count_all-requires : goal.count_all-requires
count_all-requires c =
    let p = c.requires in
    latches-count c.args.n p.done p.rest _ p.held p.state _ p.state-length p.rests.state
    (omega (arith, p.scratch-long, p.runs.fits.sum)) p.few

pub step_values-requires : goal.step_values-requires
step_values-requires c =
    let ins : List Value =
    map value_of c.args.ins.now in
    let p = c.requires in
    ready p.runs (ins) p.scratch-long p.state-length p.rests (length-map c.args.ins.now value_of ∙ p.vector) c.load.ensures
    c.load.auto.t

pub overflow_add-n-2 : goal.overflow_add-n-2
overflow_add-n-2 c = omega (arith, c.requires.runs.fits.most-M)

pub count_all-requires-2 : goal.count_all-requires-2
count_all-requires-2 c =
    let ins : List Value =
    map value_of c.args.ins.now in
    let tables : Tables → Tables =
    λ x. these x c.args.latches.now c.args.outputs.now c.args.gates.now in
    let circuit : Tables → Circuit =
    λ x. circuit_of c.args.n (tables x) in
    let after : (x : Tables) (v : List Value) → Runs c.args.n (tables x) → length v ≡ c.args.n.L → Rests c.args.n v c.args.scratch.now → Stepped c.args.n (circuit x) v (ins) c.step_values.new.t =
    λ x v r l z. c.step_values.ensures x v (ins) r
    (stands r (ins) c.requires.scratch-long l z (length-map c.args.ins.now value_of ∙ c.requires.vector) c.load.ensures) in
    let n = c.args.n in
    let p = c.requires in
    outputs-count n p.done p.rest _ p.held p.state (step_of (circuit p.others) p.state (ins)) refl _ _
    (c.count_all.ensures
    ∙ latches-counted n p.done p.rest _ p.held p.state _ p.state-length p.rests.state)
    (outputs-long p.runs p.state (ins)) (after p.others p.state p.runs p.state-length p.rests).outputs
    (omega (arith, p.scratch-long, c.step_values.auto.t, c.load.auto.t)) p.few

pub returns : goal.returns
returns c =
    let ins : List Value =
    map value_of c.args.ins.now in
    let tables : Tables → Tables =
    λ x. these x c.args.latches.now c.args.outputs.now c.args.gates.now in
    let circuit : Tables → Circuit =
    λ x. circuit_of c.args.n (tables x) in
    let after : (x : Tables) (v : List Value) → Runs c.args.n (tables x) → length v ≡ c.args.n.L → Rests c.args.n v c.args.scratch.now → Stepped c.args.n (circuit x) v (ins) c.step_values.new.t =
    λ x v r l z. c.step_values.ensures x v (ins) r
    (stands r (ins) c.requires.scratch-long l z (length-map c.args.ins.now value_of ∙ c.requires.vector) c.load.ensures) in
    λ x v done rest r l z held.
    let n = c.args.n in
    let st = after x v r l z in
    record {
      rests = st.rests;
      held =
          c.count_all-2.ensures
          ∙ outputs-counted n done rest _ held v (step_of (circuit x) v (ins)) refl _ _
          (c.count_all.ensures ∙ latches-counted n done rest _ held v _ l z.state)
          (outputs-long r v (ins)) st.outputs;
    }
