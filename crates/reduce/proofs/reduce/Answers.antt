-- Cleared, checked, folded, replaced, and cleared again.
use Prim.Native.Nat.{ℕ, ◌+◌, ◌≤◌}
use mathlib.Core.Path.{◌≡◌, refl, ◌∙◌}
use mathlib.Core.List.{List}
use native.Mathlib.Omega.{arith}
use lib.ListN.{length}
use Rattle.plan.specs.Literals.{most}
use Rattle.plan.specs.Circuit.{Circuit, Tables, seven, circuit_of, all_cleared}
use Rattle.plan.specs.Given.{Given}
use Rattle.plan.specs.Reduce.{reduce}
use Rattle.laws.proofs.Pairs.{passed-on}
use Rattle.laws.proofs.Running.Counts.{counts-reduce}
use Rattle.judge.specs.Judged.{given_at}
use Rattle.reduce.proofs.Reducing.{Ready, foldable, inputs_in, latches-in, outputs-in, resets-in, bads-in, constraints-in}
use Rattle.reduce.proofs.Reducing.{made-fewer, count, written}
use Rattle.reduce.proofs.Answers.{sizes-cleared, Judged, refused, ready, few, accepted}
use Rattle.reduce.proofs.reduce.Goals as goal

pub overflow_add-n : goal.overflow_add-n
overflow_add-n c =
    let given : List ℕ → Given =
    λ scratch. let a = c.args in
    given_at a.n (seven a.inputs.now a.latches.now a.outputs.now a.gates.now a.resets.now
    a.bads.now a.constraints.now) scratch in
    let circuit : Given =
    given c.args.scratch.now in
    let lent : Tables =
    let a = c.args in
    seven a.to_inputs.now a.to_latches.now a.to_outputs.now a.to_gates.now a.to_resets.now a.to_bads.now a.to_constraints.now in
    let wiped : Tables =
    seven c.clear_all.new.inputs c.clear_all.new.latches c.clear_all.new.outputs c.clear_all.new.gates c.clear_all.new.resets c.clear_all.new.bads c.clear_all.new.constraints in
    let all-wiped : wiped ≡ all_cleared (lent) =
    c.clear_all.ensures in
    let blank : List ℕ =
    c.check_to_make.new.scratch in
    let judged : Judged (circuit) (lent) c.check_to_make.result (blank) =
    c.check_to_make.ensures (lent)
    (c.lengths-to.ensures ∙ sizes-cleared (lent) (wiped) (all-wiped)) in
    let core : Ready (given (blank)) (wiped) =
    ready (circuit) (lent) c.check_to_make.result (blank) (judged) c.in_ok-check_to_make.was (wiped) (all-wiped) in
    let f = (core).good.fits in record { fits = omega (arith, f.sum, f.most-M) }

pub overflow_add-n-2 : goal.overflow_add-n-2
overflow_add-n-2 c =
    let given : List ℕ → Given =
    λ scratch. let a = c.args in
    given_at a.n (seven a.inputs.now a.latches.now a.outputs.now a.gates.now a.resets.now
    a.bads.now a.constraints.now) scratch in
    let circuit : Given =
    given c.args.scratch.now in
    let lent : Tables =
    let a = c.args in
    seven a.to_inputs.now a.to_latches.now a.to_outputs.now a.to_gates.now a.to_resets.now a.to_bads.now a.to_constraints.now in
    let wiped : Tables =
    seven c.clear_all.new.inputs c.clear_all.new.latches c.clear_all.new.outputs c.clear_all.new.gates c.clear_all.new.resets c.clear_all.new.bads c.clear_all.new.constraints in
    let all-wiped : wiped ≡ all_cleared (lent) =
    c.clear_all.ensures in
    let blank : List ℕ =
    c.check_to_make.new.scratch in
    let judged : Judged (circuit) (lent) c.check_to_make.result (blank) =
    c.check_to_make.ensures (lent)
    (c.lengths-to.ensures ∙ sizes-cleared (lent) (wiped) (all-wiped)) in
    let core : Ready (given (blank)) (wiped) =
    ready (circuit) (lent) c.check_to_make.result (blank) (judged) c.in_ok-check_to_make.was (wiped) (all-wiped) in
    let f = (core).good.fits in record { fits = omega (arith, f.sum, f.most-M) }

pub fold_gates-retained-requires : goal.fold_gates-retained-requires
fold_gates-retained-requires c =
    let given : List ℕ → Given =
    λ scratch. let a = c.args in
    given_at a.n (seven a.inputs.now a.latches.now a.outputs.now a.gates.now a.resets.now
    a.bads.now a.constraints.now) scratch in
    let circuit : Given =
    given c.args.scratch.now in
    let lent : Tables =
    let a = c.args in
    seven a.to_inputs.now a.to_latches.now a.to_outputs.now a.to_gates.now a.to_resets.now a.to_bads.now a.to_constraints.now in
    let wiped : Tables =
    seven c.clear_all.new.inputs c.clear_all.new.latches c.clear_all.new.outputs c.clear_all.new.gates c.clear_all.new.resets c.clear_all.new.bads c.clear_all.new.constraints in
    let all-wiped : wiped ≡ all_cleared (lent) =
    c.clear_all.ensures in
    let blank : List ℕ =
    c.check_to_make.new.scratch in
    let judged : Judged (circuit) (lent) c.check_to_make.result (blank) =
    c.check_to_make.ensures (lent)
    (c.lengths-to.ensures ∙ sizes-cleared (lent) (wiped) (all-wiped)) in
    let core : Ready (given (blank)) (wiped) =
    ready (circuit) (lent) c.check_to_make.result (blank) (judged) c.in_ok-check_to_make.was (wiped) (all-wiped) in
    foldable (given (blank)) (wiped) (core)

pub overflow_mul-n : goal.overflow_mul-n
overflow_mul-n c =
    let given : List ℕ → Given =
    λ scratch. let a = c.args in
    given_at a.n (seven a.inputs.now a.latches.now a.outputs.now a.gates.now a.resets.now
    a.bads.now a.constraints.now) scratch in
    let circuit : Given =
    given c.args.scratch.now in
    let lent : Tables =
    let a = c.args in
    seven a.to_inputs.now a.to_latches.now a.to_outputs.now a.to_gates.now a.to_resets.now a.to_bads.now a.to_constraints.now in
    let wiped : Tables =
    seven c.clear_all.new.inputs c.clear_all.new.latches c.clear_all.new.outputs c.clear_all.new.gates c.clear_all.new.resets c.clear_all.new.bads c.clear_all.new.constraints in
    let all-wiped : wiped ≡ all_cleared (lent) =
    c.clear_all.ensures in
    let blank : List ℕ =
    c.check_to_make.new.scratch in
    let judged : Judged (circuit) (lent) c.check_to_make.result (blank) =
    c.check_to_make.ensures (lent)
    (c.lengths-to.ensures ∙ sizes-cleared (lent) (wiped) (all-wiped)) in
    let core : Ready (given (blank)) (wiped) =
    ready (circuit) (lent) c.check_to_make.result (blank) (judged) c.in_ok-check_to_make.was (wiped) (all-wiped) in
    let f = (core).good.fits in
    record { fits = omega (arith, f.sum, f.most-M) }

pub three_become-requires : goal.three_become-requires
three_become-requires c =
    let given : List ℕ → Given =
    λ scratch. let a = c.args in
    given_at a.n (seven a.inputs.now a.latches.now a.outputs.now a.gates.now a.resets.now
    a.bads.now a.constraints.now) scratch in
    let circuit : Given =
    given c.args.scratch.now in
    let lent : Tables =
    let a = c.args in
    seven a.to_inputs.now a.to_latches.now a.to_outputs.now a.to_gates.now a.to_resets.now a.to_bads.now a.to_constraints.now in
    let wiped : Tables =
    seven c.clear_all.new.inputs c.clear_all.new.latches c.clear_all.new.outputs c.clear_all.new.gates c.clear_all.new.resets c.clear_all.new.bads c.clear_all.new.constraints in
    let all-wiped : wiped ≡ all_cleared (lent) =
    c.clear_all.ensures in
    let blank : List ℕ =
    c.check_to_make.new.scratch in
    let judged : Judged (circuit) (lent) c.check_to_make.result (blank) =
    c.check_to_make.ensures (lent)
    (c.lengths-to.ensures ∙ sizes-cleared (lent) (wiped) (all-wiped)) in
    let core : Ready (given (blank)) (wiped) =
    ready (circuit) (lent) c.check_to_make.result (blank) (judged) c.in_ok-check_to_make.was (wiped) (all-wiped) in
    let became : List ℕ =
    c.fold_gates-retained.new.scratch in
    let size = c.fold_gates-retained.auto.scratch in
    record { replaceable = inputs_in (given (blank)) (wiped) (core) (became) size; replaceable_2 = latches-in (given (blank)) (wiped) (core) (became) size; replaceable_3 = outputs-in (given (blank)) (wiped) (core) (became) size }

pub three_become-requires-2 : goal.three_become-requires-2
three_become-requires-2 c =
    let given : List ℕ → Given =
    λ scratch. let a = c.args in
    given_at a.n (seven a.inputs.now a.latches.now a.outputs.now a.gates.now a.resets.now
    a.bads.now a.constraints.now) scratch in
    let circuit : Given =
    given c.args.scratch.now in
    let lent : Tables =
    let a = c.args in
    seven a.to_inputs.now a.to_latches.now a.to_outputs.now a.to_gates.now a.to_resets.now a.to_bads.now a.to_constraints.now in
    let wiped : Tables =
    seven c.clear_all.new.inputs c.clear_all.new.latches c.clear_all.new.outputs c.clear_all.new.gates c.clear_all.new.resets c.clear_all.new.bads c.clear_all.new.constraints in
    let all-wiped : wiped ≡ all_cleared (lent) =
    c.clear_all.ensures in
    let blank : List ℕ =
    c.check_to_make.new.scratch in
    let judged : Judged (circuit) (lent) c.check_to_make.result (blank) =
    c.check_to_make.ensures (lent)
    (c.lengths-to.ensures ∙ sizes-cleared (lent) (wiped) (all-wiped)) in
    let core : Ready (given (blank)) (wiped) =
    ready (circuit) (lent) c.check_to_make.result (blank) (judged) c.in_ok-check_to_make.was (wiped) (all-wiped) in
    let became : List ℕ =
    c.fold_gates-retained.new.scratch in
    let size = c.fold_gates-retained.auto.scratch in
    record { replaceable = resets-in (given (blank)) (wiped) (core) (became) size; replaceable_2 = bads-in (given (blank)) (wiped) (core) (became) size; replaceable_3 = constraints-in (given (blank)) (wiped) (core) (became) size }

pub overflow_add-result : goal.overflow_add-result
overflow_add-result c =
    let given : List ℕ → Given =
    λ scratch. let a = c.args in
    given_at a.n (seven a.inputs.now a.latches.now a.outputs.now a.gates.now a.resets.now
    a.bads.now a.constraints.now) scratch in
    let circuit : Given =
    given c.args.scratch.now in
    let lent : Tables =
    let a = c.args in
    seven a.to_inputs.now a.to_latches.now a.to_outputs.now a.to_gates.now a.to_resets.now a.to_bads.now a.to_constraints.now in
    let wiped : Tables =
    seven c.clear_all.new.inputs c.clear_all.new.latches c.clear_all.new.outputs c.clear_all.new.gates c.clear_all.new.resets c.clear_all.new.bads c.clear_all.new.constraints in
    let all-wiped : wiped ≡ all_cleared (lent) =
    c.clear_all.ensures in
    let blank : List ℕ =
    c.check_to_make.new.scratch in
    let judged : Judged (circuit) (lent) c.check_to_make.result (blank) =
    c.check_to_make.ensures (lent)
    (c.lengths-to.ensures ∙ sizes-cleared (lent) (wiped) (all-wiped)) in
    let core : Ready (given (blank)) (wiped) =
    ready (circuit) (lent) c.check_to_make.result (blank) (judged) c.in_ok-check_to_make.was (wiped) (all-wiped) in
    let made : Circuit =
    let g = circuit in reduce (circuit_of g.counts g.tables) in
    let fewer : let g = circuit in length (made).gates ≤ length (circuit_of g.counts g.tables).gates =
    made-fewer (given (blank)) (wiped) (core) in
    let became : List ℕ =
    c.fold_gates-retained.new.scratch in
    let sums : let a = c.args in a.n.I + a.n.L + c.fold_gates-retained.result ≤ most =
    few (circuit) (lent) c.check_to_make.result (blank) (judged) c.in_ok-check_to_make.was (made) (fewer)
    c.fold_gates-retained.result
    (count (given (blank)) (wiped) (core) c.fold_gates-retained.new.to (became) c.fold_gates-retained.result c.fold_gates-retained.ensures) in
    omega (arith, sums)

pub overflow_add-result-2 : goal.overflow_add-result-2
overflow_add-result-2 c =
    let given : List ℕ → Given =
    λ scratch. let a = c.args in
    given_at a.n (seven a.inputs.now a.latches.now a.outputs.now a.gates.now a.resets.now
    a.bads.now a.constraints.now) scratch in
    let circuit : Given =
    given c.args.scratch.now in
    let lent : Tables =
    let a = c.args in
    seven a.to_inputs.now a.to_latches.now a.to_outputs.now a.to_gates.now a.to_resets.now a.to_bads.now a.to_constraints.now in
    let wiped : Tables =
    seven c.clear_all.new.inputs c.clear_all.new.latches c.clear_all.new.outputs c.clear_all.new.gates c.clear_all.new.resets c.clear_all.new.bads c.clear_all.new.constraints in
    let all-wiped : wiped ≡ all_cleared (lent) =
    c.clear_all.ensures in
    let blank : List ℕ =
    c.check_to_make.new.scratch in
    let judged : Judged (circuit) (lent) c.check_to_make.result (blank) =
    c.check_to_make.ensures (lent)
    (c.lengths-to.ensures ∙ sizes-cleared (lent) (wiped) (all-wiped)) in
    let core : Ready (given (blank)) (wiped) =
    ready (circuit) (lent) c.check_to_make.result (blank) (judged) c.in_ok-check_to_make.was (wiped) (all-wiped) in
    let made : Circuit =
    let g = circuit in reduce (circuit_of g.counts g.tables) in
    let fewer : let g = circuit in length (made).gates ≤ length (circuit_of g.counts g.tables).gates =
    made-fewer (given (blank)) (wiped) (core) in
    let became : List ℕ =
    c.fold_gates-retained.new.scratch in
    let sums : let a = c.args in a.n.I + a.n.L + c.fold_gates-retained.result ≤ most =
    few (circuit) (lent) c.check_to_make.result (blank) (judged) c.in_ok-check_to_make.was (made) (fewer)
    c.fold_gates-retained.result
    (count (given (blank)) (wiped) (core) c.fold_gates-retained.new.to (became) c.fold_gates-retained.result c.fold_gates-retained.ensures) in
    omega (arith, sums)

pub returns-in_err-check_to_make : goal.returns-in_err-check_to_make
returns-in_err-check_to_make c =
    let given : List ℕ → Given =
    λ scratch. let a = c.args in
    given_at a.n (seven a.inputs.now a.latches.now a.outputs.now a.gates.now a.resets.now
    a.bads.now a.constraints.now) scratch in
    let circuit : Given =
    given c.args.scratch.now in
    let lent : Tables =
    let a = c.args in
    seven a.to_inputs.now a.to_latches.now a.to_outputs.now a.to_gates.now a.to_resets.now a.to_bads.now a.to_constraints.now in
    let wiped : Tables =
    seven c.clear_all.new.inputs c.clear_all.new.latches c.clear_all.new.outputs c.clear_all.new.gates c.clear_all.new.resets c.clear_all.new.bads c.clear_all.new.constraints in
    let all-wiped : wiped ≡ all_cleared (lent) =
    c.clear_all.ensures in
    let blank : List ℕ =
    c.check_to_make.new.scratch in
    let judged : Judged (circuit) (lent) c.check_to_make.result (blank) =
    c.check_to_make.ensures (lent)
    (c.lengths-to.ensures ∙ sizes-cleared (lent) (wiped) (all-wiped)) in
    rw (passed-on _ c.from_residual.ensures.1)
    (refused (circuit) (lent) c.check_to_make.result (blank) (judged) _ _ c.in_err-check_to_make.was (wiped) (all-wiped))

pub returns : goal.returns
returns c =
    let given : List ℕ → Given =
    λ scratch. let a = c.args in
    given_at a.n (seven a.inputs.now a.latches.now a.outputs.now a.gates.now a.resets.now
    a.bads.now a.constraints.now) scratch in
    let circuit : Given =
    given c.args.scratch.now in
    let lent : Tables =
    let a = c.args in
    seven a.to_inputs.now a.to_latches.now a.to_outputs.now a.to_gates.now a.to_resets.now a.to_bads.now a.to_constraints.now in
    let wiped : Tables =
    seven c.clear_all.new.inputs c.clear_all.new.latches c.clear_all.new.outputs c.clear_all.new.gates c.clear_all.new.resets c.clear_all.new.bads c.clear_all.new.constraints in
    let all-wiped : wiped ≡ all_cleared (lent) =
    c.clear_all.ensures in
    let blank : List ℕ =
    c.check_to_make.new.scratch in
    let judged : Judged (circuit) (lent) c.check_to_make.result (blank) =
    c.check_to_make.ensures (lent)
    (c.lengths-to.ensures ∙ sizes-cleared (lent) (wiped) (all-wiped)) in
    let core : Ready (given (blank)) (wiped) =
    ready (circuit) (lent) c.check_to_make.result (blank) (judged) c.in_ok-check_to_make.was (wiped) (all-wiped) in
    let made : Circuit =
    let g = circuit in reduce (circuit_of g.counts g.tables) in
    let fewer : let g = circuit in length (made).gates ≤ length (circuit_of g.counts g.tables).gates =
    made-fewer (given (blank)) (wiped) (core) in
    let became : List ℕ =
    c.fold_gates-retained.new.scratch in
    let left = seven c.three_become.new.to_a c.three_become.new.to_b c.three_become.new.to_c c.fold_gates-retained.new.to
    c.three_become-2.new.to_a c.three_become-2.new.to_b c.three_become-2.new.to_c in
    accepted (circuit) (lent) c.check_to_make.result (blank) (judged) c.in_ok-check_to_make.was (made) (fewer)
    (counts-reduce (circuit_of (circuit).counts (circuit).tables)) (wiped) left c.fold_gates-retained.result (all-wiped)
    (written (given (blank)) (wiped) (core) c.fold_gates-retained.new.to (became) c.fold_gates-retained.result c.fold_gates-retained.ensures left c.three_become.ensures.to_a_after c.three_become.ensures.to_b_after
    c.three_become.ensures.to_c_after refl c.three_become-2.ensures.to_a_after c.three_become-2.ensures.to_b_after c.three_become-2.ensures.to_c_after)
    (length (became)) _ c.fold_gates-retained.auto.scratch c.clear.ensures
