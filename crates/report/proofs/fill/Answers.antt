-- The numbers of all needles, from the resets. Each answer is given by `all_finished`.
use Prim.Native.Nat.{ℕ}
use mathlib.Core.Path.{◌≡◌, ap, ◌∙◌}
use mathlib.Core.List.{List, []}
use native.Mathlib.Omega.{arith}
use lib.ListN.{length, length-append}
use Rattle.plan.specs.declared.Counts.{Counts}
use Rattle.plan.specs.Circuit.{Tables, seven, circuit_of}
use Rattle.plan.specs.Step.{first_state, run, vectors_of}
use Rattle.laws.proofs.Running.Resets.{first-length}
use Rattle.step.specs.sweep.Running.{Runs}
use Rattle.report.specs.Tallying.{tally}
use Rattle.report.proofs.Filling.{tally-long, all_finished}
use Rattle.report.proofs.fill.Goals as goal

first-long : {n : Counts} {x : Tables} → Runs n x → length (first_state (circuit_of n x)) ≡ n.L
first-long {n} {x} r = first-length (circuit_of n x) r.formed ∙ ap (λ (m : Counts). m.L) r.counts

pub start_values-requires : goal.start_values-requires
start_values-requires c =
    let p = c.requires in
    (p.runs.fits.resets-long, omega (arith, p.scratch-long, p.runs.fits.sum))

pub tally-requires : goal.tally-requires
tally-requires c =
    let tables : List ℕ → List ℕ → List ℕ → Tables =
    λ inputs bads constraints. let a = c.args in
    seven inputs a.latches.now a.outputs.now a.gates.now a.resets.now bads constraints in
    let p = c.requires in
    record {
      others = tables p.inputs p.bads p.constraints;
      state = first_state (circuit_of c.args.n (tables p.inputs p.bads p.constraints));
      runs = record { fits = p.runs.fits; counts = p.runs.counts; formed = p.runs.formed; order = p.runs.order };
      scratch-long = omega (arith, p.scratch-long, c.start_values.auto.t);
      state-length = first-long p.runs;
      rests = c.start_values.ensures;
      whole = p.whole;
      few = p.few;
      rest = p.rest;
      held = p.held;
    }

pub finish-requires : goal.finish-requires
finish-requires c =
    let p = c.requires in
    omega (arith, ap length p.held ∙ length-append (tally c.args.n []) p.rest, tally-long c.args.n [], c.tally.auto.six)

pub returns : goal.returns
returns c =
    let tables : List ℕ → List ℕ → List ℕ → Tables =
    λ inputs bads constraints. let a = c.args in
    seven inputs a.latches.now a.outputs.now a.gates.now a.resets.now bads constraints in
    λ inputs bads constraints rest r held.
    let n = c.args.n in
    let x = tables inputs bads constraints in
    let d = circuit_of n x in
    c.finish.ensures
    ∙ all_finished n d (run d (first_state d) (vectors_of d c.args.number c.args.bytes.now)) rest (ap (λ (m : Counts). m.O) r.counts)
    (ap (λ (m : Counts). m.L) r.counts) _
    (c.tally.ensures x (first_state d) rest r (first-long r)
    c.start_values.ensures held)
