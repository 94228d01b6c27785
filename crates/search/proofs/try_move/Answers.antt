use Prim.Native.Nat.{ℕ, ◌+◌, ◌≤◌}
use mathlib.Core.Path.{◌≡◌, ◌∙◌}
use mathlib.Core.List.{List}
use native.Mathlib.Omega.{arith}
use borrow.Author.Tests.{not-true, not-false}
use lib.ListN.{length, length-set}
use Rattle.plan.specs.Circuit.{Tables, circuit_of, seven}
use Rattle.tables.specs.Held.{Scratch}
use Rattle.step.specs.sweep.Running.{Runs, Stepped}
use Rattle.step.proofs.sweep.Seeing.{sees-constraints}
use Rattle.witness.proofs.three.Listing.{shown-asks}
use Rattle.plan.specs.Search.{bits}
use Rattle.search.proofs.Attempts.{try-stands, is-barred, is_seen, is-to}
use Rattle.search.proofs.try_move.Goals as goal

pub bounds-scratch-0 : goal.bounds-scratch-0
bounds-scratch-0 c =
    let leaves-room : 1 + c.args.n.I + c.args.n.L ≤ length c.args.scratch.now =
    omega (arith, c.requires.scratch-long, c.requires.runs.fits.sum) in
    omega (arith, leaves-room)

pub overflow_add-n : goal.overflow_add-n
overflow_add-n c = omega (arith, c.requires.few-inputs)

pub load_number-requires : goal.load_number-requires
load_number-requires c =
    let leaves-room : 1 + c.args.n.I + c.args.n.L ≤ length c.args.scratch.now =
    omega (arith, c.requires.scratch-long, c.requires.runs.fits.sum) in
    (c.requires.few-latches, omega (arith, leaves-room, length-set c.args.scratch.now 0 1))

pub load_number-requires-2 : goal.load_number-requires-2
load_number-requires-2 c =
    let leaves-room : 1 + c.args.n.I + c.args.n.L ≤ length c.args.scratch.now =
    omega (arith, c.requires.scratch-long, c.requires.runs.fits.sum) in
    (c.requires.few-inputs, omega (arith, leaves-room, length-set c.args.scratch.now 0 1, c.load_number.auto.t))

pub step_values-requires : goal.step_values-requires
step_values-requires c =
    let tables_of : List ℕ → List ℕ → Tables =
    λ inputs resets. let a = c.args in
    seven inputs a.latches.now a.outputs.now a.gates.now resets a.bads.now a.constraints.now in
    let leaves-room : 1 + c.args.n.I + c.args.n.L ≤ length c.args.scratch.now =
    omega (arith, c.requires.scratch-long, c.requires.runs.fits.sum) in
    let a = c.args in
    let r = c.requires.runs in
    record {
      others = tables_of c.requires.inputs c.requires.resets;
      state = bits a.n.L a.s;
      ins = bits a.n.I a.m;
      runs = record { fits = r.fits; counts = r.counts; formed = r.formed; order = r.order };
      scratch = omega (
        arith,
        c.requires.scratch-long,
        length-set a.scratch.now 0 1,
        c.load_number.auto.t,
        c.load_number-2.auto.t,
      );
      stands = try-stands a.n a.s a.m a.scratch.now _ _ (leaves-room) c.load_number.ensures c.load_number-2.ensures;
    }

pub overflow_add-n-2 : goal.overflow_add-n-2
overflow_add-n-2 c = omega (arith, c.requires.runs.fits.most-M)

pub overflow_add-n-3 : goal.overflow_add-n-3
overflow_add-n-3 c =
    let f = c.requires.runs.fits in
    omega (arith, f.most-M, f.most-O)

pub all_lits-requires : goal.all_lits-requires
all_lits-requires c =
    let after : List ℕ =
    c.step_values.new.t in
    let same : length (after) ≡ length c.args.scratch.now =
    c.step_values.auto.t ∙ c.load_number-2.auto.t ∙ c.load_number.auto.t ∙ length-set c.args.scratch.now 0 1 in
    let room_after : Scratch c.args.n (after) =
    omega (arith, c.requires.scratch-long, same) in
    sees-constraints c.requires.runs (room_after)

pub shape_of-scratch-then-not-all_lits : goal.shape_of-scratch-then-not-all_lits
shape_of-scratch-then-not-all_lits c =
    let after : List ℕ =
    c.step_values.new.t in
    let same : length (after) ≡ length c.args.scratch.now =
    c.step_values.auto.t ∙ c.load_number-2.auto.t ∙ c.load_number.auto.t ∙ length-set c.args.scratch.now 0 1 in
    same

pub returns-then-not-all_lits : goal.returns-then-not-all_lits
returns-then-not-all_lits c =
    let tables_of : List ℕ → List ℕ → Tables =
    λ inputs resets. let a = c.args in
    seven inputs a.latches.now a.outputs.now a.gates.now resets a.bads.now a.constraints.now in
    let leaves-room : 1 + c.args.n.I + c.args.n.L ≤ length c.args.scratch.now =
    omega (arith, c.requires.scratch-long, c.requires.runs.fits.sum) in
    let after : List ℕ =
    c.step_values.new.t in
    let stepped : (inputs resets : List ℕ) → Runs c.args.n (tables_of inputs resets) → Stepped c.args.n (circuit_of c.args.n (tables_of inputs resets)) (bits c.args.n.L c.args.s) (bits c.args.n.I c.args.m) (after) =
    λ inputs resets r. let a = c.args in
    c.step_values.ensures (tables_of inputs resets) _ _ r
    (try-stands a.n a.s a.m a.scratch.now _ _ (leaves-room) c.load_number.ensures c.load_number-2.ensures) in
    λ inputs resets r.
    is-barred r c.args.s c.args.m (stepped inputs resets r) _ c.all_lits.ensures (not-true _ c.if-not-all_lits.true-raw)

pub shown-requires : goal.shown-requires
shown-requires c =
    let after : List ℕ =
    c.step_values.new.t in
    let same : length (after) ≡ length c.args.scratch.now =
    c.step_values.auto.t ∙ c.load_number-2.auto.t ∙ c.load_number.auto.t ∙ length-set c.args.scratch.now 0 1 in
    let room_after : Scratch c.args.n (after) =
    omega (arith, c.requires.scratch-long, same) in
    shown-asks c.requires.runs (room_after)

pub shape_of-scratch-then-shown : goal.shape_of-scratch-then-shown
shape_of-scratch-then-shown c =
    let after : List ℕ =
    c.step_values.new.t in
    let same : length (after) ≡ length c.args.scratch.now =
    c.step_values.auto.t ∙ c.load_number-2.auto.t ∙ c.load_number.auto.t ∙ length-set c.args.scratch.now 0 1 in
    same

pub returns-then-shown : goal.returns-then-shown
returns-then-shown c =
    let tables_of : List ℕ → List ℕ → Tables =
    λ inputs resets. let a = c.args in
    seven inputs a.latches.now a.outputs.now a.gates.now resets a.bads.now a.constraints.now in
    let leaves-room : 1 + c.args.n.I + c.args.n.L ≤ length c.args.scratch.now =
    omega (arith, c.requires.scratch-long, c.requires.runs.fits.sum) in
    let after : List ℕ =
    c.step_values.new.t in
    let stepped : (inputs resets : List ℕ) → Runs c.args.n (tables_of inputs resets) → Stepped c.args.n (circuit_of c.args.n (tables_of inputs resets)) (bits c.args.n.L c.args.s) (bits c.args.n.I c.args.m) (after) =
    λ inputs resets r. let a = c.args in
    c.step_values.ensures (tables_of inputs resets) _ _ r
    (try-stands a.n a.s a.m a.scratch.now _ _ (leaves-room) c.load_number.ensures c.load_number-2.ensures) in
    λ inputs resets r.
    is_seen r c.args.s c.args.m (stepped inputs resets r) _ c.all_lits.ensures (not-false _
    c.if-not-all_lits.false-raw) _
    c.shown.ensures c.if-shown.true

pub overflow_add-n-4 : goal.overflow_add-n-4
overflow_add-n-4 c = omega (arith, c.requires.few-inputs)

pub number_in-requires : goal.number_in-requires
number_in-requires c =
    let leaves-room : 1 + c.args.n.I + c.args.n.L ≤ length c.args.scratch.now =
    omega (arith, c.requires.scratch-long, c.requires.runs.fits.sum) in
    let after : List ℕ =
    c.step_values.new.t in
    let same : length (after) ≡ length c.args.scratch.now =
    c.step_values.auto.t ∙ c.load_number-2.auto.t ∙ c.load_number.auto.t ∙ length-set c.args.scratch.now 0 1 in
    (c.requires.few-latches, omega (arith, leaves-room, same))

pub shape_of-scratch : goal.shape_of-scratch
shape_of-scratch c =
    let after : List ℕ =
    c.step_values.new.t in
    let same : length (after) ≡ length c.args.scratch.now =
    c.step_values.auto.t ∙ c.load_number-2.auto.t ∙ c.load_number.auto.t ∙ length-set c.args.scratch.now 0 1 in
    same

pub returns : goal.returns
returns c =
    let tables_of : List ℕ → List ℕ → Tables =
    λ inputs resets. let a = c.args in
    seven inputs a.latches.now a.outputs.now a.gates.now resets a.bads.now a.constraints.now in
    let leaves-room : 1 + c.args.n.I + c.args.n.L ≤ length c.args.scratch.now =
    omega (arith, c.requires.scratch-long, c.requires.runs.fits.sum) in
    let after : List ℕ =
    c.step_values.new.t in
    let stepped : (inputs resets : List ℕ) → Runs c.args.n (tables_of inputs resets) → Stepped c.args.n (circuit_of c.args.n (tables_of inputs resets)) (bits c.args.n.L c.args.s) (bits c.args.n.I c.args.m) (after) =
    λ inputs resets r. let a = c.args in
    c.step_values.ensures (tables_of inputs resets) _ _ r
    (try-stands a.n a.s a.m a.scratch.now _ _ (leaves-room) c.load_number.ensures c.load_number-2.ensures) in
    λ inputs resets r.
    is-to r c.args.s c.args.m (stepped inputs resets r) _ c.all_lits.ensures (not-false _ c.if-not-all_lits.false-raw) _
    c.shown.ensures c.if-shown.false _ c.number_in.ensures
