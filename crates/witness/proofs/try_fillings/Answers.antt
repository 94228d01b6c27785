-- The answer for a list whose bytes are good, where start and list have `xs` x, which are few. The answers are given by `found-no`, `total-is` and
-- `count-append`.
use Prim.Native.Nat.{ℕ, ◌*◌, ◌%◌, ◌^◌, ◌≤◌, ◌<◌}
use mathlib.Core.Path.{◌≡◌, sym, ap, ◌∙◌}
use mathlib.Core.List.{List, []}
use native.Mathlib.Omega.{arith}
use Rattle.plan.specs.Circuit.{Circuit, circuit_of, seven}
use Rattle.plan.specs.Fillings.{x_count, asked, filled_shows}
use Rattle.laws.proofs.Fillings.Numbering.{count-append}
use Rattle.witness.specs.Asked.{codes_of}
use Rattle.witness.proofs.Attempts.{total-is, total-small, first-within, found-no, found-yes, found-cut}
use Rattle.witness.proofs.try_fillings.Goals as goal

pub overflow_shl-total : goal.overflow_shl-total
overflow_shl-total c =
    let few : c.args.xs ≤ 20 =
    omega (arith, c.requires.holds.few, c.requires.xs_value) in
    omega (arith, few)

pub first_failing-failing-requires : goal.first_failing-failing-requires
first_failing-failing-requires c =
    let few : c.args.xs ≤ 20 =
    omega (arith, c.requires.holds.few, c.requires.xs_value) in
    record { holds = c.requires.holds; most_bound = omega (arith, c.lesser-most.ensures, total-is c.args.xs (few), total-small c.args.xs (few)) }

pub overflow_add-result : goal.overflow_add-result
overflow_add-result c =
    let few : c.args.xs ≤ 20 =
    omega (arith, c.requires.holds.few, c.requires.xs_value) in
    let h = c.requires.holds in
    let within : c.in-Some.k < c.lesser-most.result = first-within _ _ _ (c.in-Some.ensures h.inputs h.runs) in
    record { fits = omega (arith, within, c.lesser-most.ensures, total-is c.args.xs few, total-small c.args.xs few) }

pub returns-in-Some : goal.returns-in-Some
returns-in-Some c =
    let held : List ℕ → Circuit =
    λ inputs. let a = c.args in
    circuit_of a.n (seven inputs a.latches.now a.outputs.now a.gates.now a.resets.now a.bads.now a.constraints.now) in
    let few : c.args.xs ≤ 20 =
    omega (arith, c.requires.holds.few, c.requires.xs_value) in
    let total-told : (1 * 2 ^ c.args.xs) % 2 ^ 64 ≡ 2 ^ x_count (asked (held []) c.args.bytes.now) =
    total-is c.args.xs (few)
    ∙ ap (λ (k : ℕ). 2 ^ k) (c.requires.xs_value ∙ sym (count-append (codes_of c.args.resets.now c.args.n.L) c.args.bytes.now)) in
    λ inputs r.
    found-no (filled_shows (held inputs) c.args.number c.args.bytes.now) (x_count (asked (held inputs) c.args.bytes.now))
    c.args.allowance (total-told) c.lesser-most.ensures _ (c.in-Some.ensures inputs r)

pub returns-then-total-allowance : goal.returns-then-total-allowance
returns-then-total-allowance c =
    let held : List ℕ → Circuit =
    λ inputs. let a = c.args in
    circuit_of a.n (seven inputs a.latches.now a.outputs.now a.gates.now a.resets.now a.bads.now a.constraints.now) in
    let few : c.args.xs ≤ 20 =
    omega (arith, c.requires.holds.few, c.requires.xs_value) in
    let total-told : (1 * 2 ^ c.args.xs) % 2 ^ 64 ≡ 2 ^ x_count (asked (held []) c.args.bytes.now) =
    total-is c.args.xs (few)
    ∙ ap (λ (k : ℕ). 2 ^ k) (c.requires.xs_value ∙ sym (count-append (codes_of c.args.resets.now c.args.n.L) c.args.bytes.now)) in
    λ inputs r.
    found-yes (filled_shows (held inputs) c.args.number c.args.bytes.now) (x_count (asked (held inputs) c.args.bytes.now))
    c.args.allowance (total-told) c.lesser-most.ensures (sym c.in_default.is ∙ c.first_failing-failing.ensures inputs r) c.if-total-allowance.true

pub returns : goal.returns
returns c =
    let held : List ℕ → Circuit =
    λ inputs. let a = c.args in
    circuit_of a.n (seven inputs a.latches.now a.outputs.now a.gates.now a.resets.now a.bads.now a.constraints.now) in
    let few : c.args.xs ≤ 20 =
    omega (arith, c.requires.holds.few, c.requires.xs_value) in
    let total-told : (1 * 2 ^ c.args.xs) % 2 ^ 64 ≡ 2 ^ x_count (asked (held []) c.args.bytes.now) =
    total-is c.args.xs (few)
    ∙ ap (λ (k : ℕ). 2 ^ k) (c.requires.xs_value ∙ sym (count-append (codes_of c.args.resets.now c.args.n.L) c.args.bytes.now)) in
    λ inputs r.
    found-cut (filled_shows (held inputs) c.args.number c.args.bytes.now) (x_count (asked (held inputs) c.args.bytes.now))
    c.args.allowance (total-told) c.lesser-most.ensures (sym c.in_default.is ∙ c.first_failing-failing.ensures inputs r) c.if-total-allowance.false
