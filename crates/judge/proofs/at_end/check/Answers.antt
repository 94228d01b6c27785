-- 7 from the marks; else gates that ascend, or the order of gates from the numbers of the leaves.
use Prim.Native.Nat.{ℕ}
use mathlib.Core.Path.{◌≡◌, refl, sym, ap, ◌∙◌}
use mathlib.Core.Bool.{false≢true}
use mathlib.Core.List.{List, []}
use Rattle.std.specs.Prelude.{Option, None}
use native.Mathlib.Omega.{arith}
use lib.ListN.{length, get_or}
use Rattle.plan.specs.declared.Refusal.TheVariants.{Cyclic}
use Rattle.plan.specs.Refusals.{stage}
use Rattle.plan.specs.Circuit.{Circuit}
use Rattle.plan.specs.Depends.{undefined_in}
use Rattle.plan.specs.Outcome.{checked_by}
use Rattle.laws.proofs.Marks.{zeros}
use Rattle.laws.proofs.Running.Ascending.{ascends_none}
use Rattle.judge.specs.at_end.Leaves.{Leaves}
use Rattle.tables.specs.Held.{circuit_in}
use Rattle.judge.proofs.at_end.Leaving.{leaves-count}
use Rattle.judge.proofs.at_end.Closing.{in_reach, part-marked, once, used, leaves-ask, room, fresh, blank-rest, known, by-missing, by-cycle, not_good}
use Rattle.judge.proofs.at_end.check.Goals as goal

pub undefined-requires : goal.undefined-requires
undefined-requires c = in_reach c.requires

pub returns-then-needs_no_order : goal.returns-then-needs_no_order
returns-then-needs_no_order c =
    let circuit : Circuit =
    let a = c.args in
    circuit_in a.n a.inputs.now a.latches.now a.outputs.now a.gates.now [] a.bads.now a.constraints.now in
    let all_named : None ≡ undefined_in (circuit) =
    sym c.in-None.is
    ∙ c.undefined.ensures c.args.inputs.now [] (part-marked c.requires) in
    let known = c.needs_no_order.ensures c.if-needs_no_order.true in
    record {
      by_index = λ resets. by-cycle (circuit) _ (all_named)
          (sym (ap (λ (o : Option ℕ). checked_by (stage Cyclic o)) (ascends_none (circuit) known.1)));
      all_numbered = λ asked good. absurd (false≢true (sym known.0 ∙ asked));
    }

pub number_leaves-requires : goal.number_leaves-requires
number_leaves-requires c =
    let blank : (v : ℕ) → get_or c.clear.new.table v 0 ≡ 0 =
    λ v. ap (λ (l : List ℕ). get_or l v 0) c.clear.ensures ∙ zeros (length c.args.scratch.now) v in
    let asked : let a = c.args in Leaves a.n a.inputs.now a.latches.now c.clear.new.table =
    leaves-ask c.requires c.clear.new.table c.clear.auto.table blank in
    asked

pub overflow_add-n-in-None : goal.overflow_add-n-in-None
overflow_add-n-in-None c = record { fits = omega (arith, c.requires.most-M, c.requires.sum) }

pub overflow_cast-n : goal.overflow_cast-n
overflow_cast-n c = record { fits = omega (arith, c.requires.most-M, c.requires.sum) }

pub overflow_add-n-in-None-2 : goal.overflow_add-n-in-None-2
overflow_add-n-in-None-2 c = omega (arith, c.requires.most-M)

pub cycle-requires : goal.cycle-requires
cycle-requires c =
    let circuit : Circuit =
    let a = c.args in
    circuit_in a.n a.inputs.now a.latches.now a.outputs.now a.gates.now [] a.bads.now a.constraints.now in
    let all_named : None ≡ undefined_in (circuit) =
    sym c.in-None.is
    ∙ c.undefined.ensures c.args.inputs.now [] (part-marked c.requires) in
    let blank : (v : ℕ) → get_or c.clear.new.table v 0 ≡ 0 =
    λ v. ap (λ (l : List ℕ). get_or l v 0) c.clear.ensures ∙ zeros (length c.args.scratch.now) v in
    let asked : let a = c.args in Leaves a.n a.inputs.now a.latches.now c.clear.new.table =
    leaves-ask c.requires c.clear.new.table c.clear.auto.table blank in
    let p = c.requires in
    let t = c.clear.new.table in
    let u = c.number_leaves.new.t in
    let kept : length u ≡ length t = c.number_leaves.auto.t in
    let same : length t ≡ length c.args.scratch.now = c.clear.auto.table in
    let done = c.number_leaves.ensures in (
      room p t same (asked) u kept done,
      omega arith,
      omega (arith, p.sum, p.most-M),
      fresh p t same (asked) u kept done,
      blank-rest p t same (asked) u kept done (blank),
      known p t same (asked) u kept done (all_named),
    )

pub returns-in-Some : goal.returns-in-Some
returns-in-Some c =
    let circuit : Circuit =
    let a = c.args in
    circuit_in a.n a.inputs.now a.latches.now a.outputs.now a.gates.now [] a.bads.now a.constraints.now in
    record {
      by_index = λ resets. by-missing (circuit) _
          (sym c.in-Some.is
          ∙ c.undefined.ensures c.args.inputs.now [] (part-marked c.requires));
      all_numbered = λ asked good. not_good _ good;
    }

pub returns-else-needs_no_order : goal.returns-else-needs_no_order
returns-else-needs_no_order c =
    let circuit : Circuit =
    let a = c.args in
    circuit_in a.n a.inputs.now a.latches.now a.outputs.now a.gates.now [] a.bads.now a.constraints.now in
    let all_named : None ≡ undefined_in (circuit) =
    sym c.in-None.is
    ∙ c.undefined.ensures c.args.inputs.now [] (part-marked c.requires) in
    let blank : (v : ℕ) → get_or c.clear.new.table v 0 ≡ 0 =
    λ v. ap (λ (l : List ℕ). get_or l v 0) c.clear.ensures ∙ zeros (length c.args.scratch.now) v in
    let asked : let a = c.args in Leaves a.n a.inputs.now a.latches.now c.clear.new.table =
    leaves-ask c.requires c.clear.new.table c.clear.auto.table blank in
    let named = all_named in
    let leaves = c.number_leaves.ensures.numbers in
    record {
      by_index = λ resets. by-cycle (circuit) _ named
          (c.cycle.ensures.value (circuit) refl (once c.requires) (used c.requires named) leaves (leaves-count (asked)));
      all_numbered = λ wanted good. c.cycle.ensures.by_index _ leaves refl (leaves-count (asked));
    }
