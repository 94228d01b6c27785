-- 2, 3 and 4, then the circuit.
use mathlib.Core.Path.{◌≡◌, sym, ap, ◌∙◌}
use mathlib.Core.List.{List}
use Rattle.std.specs.Prelude.{Ok, None}
use Prim.Native.Nat.{ℕ}
use lib.ListN.{length}
use Rattle.plan.specs.Refusals.{first_of}
use Rattle.plan.specs.Circuit.{Tables, seven}
use Rattle.plan.specs.Outcome.{checked_by}
use Rattle.tables.specs.declared.Sizes.{Sizes}
use Rattle.tables.specs.Lengths.{lengths_in, sizes_of, shorter_of}
use Rattle.judge.proofs.at_end.Closing.{not_good}
use Rattle.judge.specs.Judged.{lent_stages}
use Rattle.judge.proofs.Judging.{fits, fits-scratch}
use Rattle.judge.proofs.Sound.{good_none, refused-some}
use Rattle.judge.proofs.Stages.{lent-refuses, lent-passes}
use Rattle.laws.proofs.Pairs.{passed-on}
use Rattle.judge.proofs.judge.Goals as goal

pub returns-in_err-lent_enough : goal.returns-in_err-lent_enough
returns-in_err-lent_enough c =
    let tables : Tables =
    let a = c.args in
    seven a.inputs.now a.latches.now a.outputs.now a.gates.now a.resets.now a.bads.now a.constraints.now in
    let shorters : List ℕ =
    lengths_in (shorter_of (sizes_of (tables)) c.args.to) (length c.args.scratch.now) in
    let told : c.lent_enough.result ≡ checked_by (first_of (lent_stages c.args.n (shorters))) =
    c.lent_enough.ensures
    ∙ ap (λ (x : Sizes). checked_by (first_of (lent_stages c.args.n (lengths_in x (length c.args.scratch.now)))))
    (c.shorter.ensures ∙ ap (λ (x : Sizes). shorter_of x c.args.to) c.lengths-own.ensures) in
    let a = c.args in
    rw (passed-on _ c.from_residual.ensures.1)
    (record {
      result_value = sym (ap checked_by (lent-refuses a.ordered a.n (tables) a.scratch.now (shorters) _
          (refused-some _ _ (sym c.in_err-lent_enough.was ∙ told))));
      all_numbered = λ asked good. not_good _ good;
    })

pub judge_circuit-requires : goal.judge_circuit-requires
judge_circuit-requires c =
    let tables : Tables =
    let a = c.args in
    seven a.inputs.now a.latches.now a.outputs.now a.gates.now a.resets.now a.bads.now a.constraints.now in
    let shorters : List ℕ =
    lengths_in (shorter_of (sizes_of (tables)) c.args.to) (length c.args.scratch.now) in
    let told : c.lent_enough.result ≡ checked_by (first_of (lent_stages c.args.n (shorters))) =
    c.lent_enough.ensures
    ∙ ap (λ (x : Sizes). checked_by (first_of (lent_stages c.args.n (lengths_in x (length c.args.scratch.now)))))
    (c.shorter.ensures ∙ ap (λ (x : Sizes). shorter_of x c.args.to) c.lengths-own.ensures) in
    let passed : c.lent_enough.result ≡ Ok tt → first_of (lent_stages c.args.n (shorters)) ≡ None =
    λ good. good_none _ (sym good ∙ told) in
    let a = c.args in
    let e = passed c.in_ok-lent_enough.was in
    record { fits = fits a.n (tables) a.scratch.now a.to e; scratch = fits-scratch a.n (tables) a.scratch.now a.to e; ordered_value = c.requires }

pub returns : goal.returns
returns c =
    let tables : Tables =
    let a = c.args in
    seven a.inputs.now a.latches.now a.outputs.now a.gates.now a.resets.now a.bads.now a.constraints.now in
    let shorters : List ℕ =
    lengths_in (shorter_of (sizes_of (tables)) c.args.to) (length c.args.scratch.now) in
    let told : c.lent_enough.result ≡ checked_by (first_of (lent_stages c.args.n (shorters))) =
    c.lent_enough.ensures
    ∙ ap (λ (x : Sizes). checked_by (first_of (lent_stages c.args.n (lengths_in x (length c.args.scratch.now)))))
    (c.shorter.ensures ∙ ap (λ (x : Sizes). shorter_of x c.args.to) c.lengths-own.ensures) in
    let passed : c.lent_enough.result ≡ Ok tt → first_of (lent_stages c.args.n (shorters)) ≡ None =
    λ good. good_none _ (sym good ∙ told) in
    let a = c.args in
    record {
      result_value = c.judge_circuit.ensures.value
          ∙ sym (ap checked_by (lent-passes a.ordered a.n (tables) a.scratch.now (shorters)
          (passed c.in_ok-lent_enough.was)));
      all_numbered = c.judge_circuit.ensures.all_numbered;
    }
