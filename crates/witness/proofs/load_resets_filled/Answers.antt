-- The same of n resets, whose x are numbered from 0.
use Prim.Native.Nat.{ℕ}
use mathlib.Core.Path.{◌≡◌, ap, ◌∙◌, sym}
use native.Mathlib.Nat.{zero-add}
use native.Mathlib.Omega.{arith}
use lib.ListN.{length, get_or}
use Rattle.plan.specs.Outcome.{put}
use Rattle.plan.specs.Fillings.{x_of}
use Rattle.step.proofs.values.Filling.{filled_more, filled-all}
use Rattle.laws.proofs.Fillings.Counting.{count-more, count-take, x-small}
use Rattle.witness.specs.Asked.{codes_of}
use Rattle.witness.proofs.Words.{filled_word, codes-length, code_at, filled-word-at, filled-words}
use Rattle.witness.proofs.load_resets_filled.Goals as goal

pub filled_word-requires : goal.filled_word-requires
filled_word-requires c =
    omega (arith, c.requires.loads.few, c.loop-i.invariant.0, count-take c.loop-i.i (codes_of c.args.resets.now c.args.n))

pub overflow_add-next : goal.overflow_add-next
overflow_add-next c =
    omega (
      arith,
      c.x_of-next.ensures,
      x-small c.code_of_reset-code.result,
      c.requires.loads.few,
      c.loop-i.invariant.0,
      count-take c.loop-i.i (codes_of c.args.resets.now c.args.n),
    )

pub loop-i-preserved : goal.loop-i-preserved
loop-i-preserved c =
    let codes = codes_of c.args.resets.now c.args.n in
    let long : length codes ≡ c.args.n = codes-length c.args.resets.now c.args.n c.requires.n_in_bounds in
    let i = c.loop-i.i in
    let more = c.loop-i-test.true in
    let code : c.code_of_reset-code.result ≡ get_or codes i 0 =
    c.code_of_reset-code.ensures ∙ code_at c.args.resets.now c.args.n i c.requires.n_in_bounds more in
    let here : c.x_of-next.result ≡ x_of (get_or codes i 0) = c.x_of-next.ensures ∙ ap x_of code in (
      omega (arith, here, c.loop-i.invariant.0, count-more codes i (omega (arith, long, more))),
      filled_more _ _ _ i c.loop-i.t _ c.loop-i.invariant.1 (omega (arith, c.requires.loads.room, long, more))
          (c.filled_word.ensures
          ∙ (ap (λ (b : ℕ). filled_word b c.args.k c.loop-i.next) code
          ∙ (ap (filled_word (get_or codes i 0) c.args.k) (c.loop-i.invariant.0 ∙ sym (zero-add _))
          ∙ filled-word-at c.args.k 0 codes i (omega (arith, long, more))))),
    )

pub returns-clause-t_after : goal.returns-clause-t_after
returns-clause-t_after c =
    let codes = codes_of c.args.resets.now c.args.n in
    let long : length codes ≡ c.args.n = codes-length c.args.resets.now c.args.n c.requires.n_in_bounds in
    filled-all _ _ _ (length codes) c.loop-i.i c.loop-i.t c.loop-i.invariant.1 (omega (arith, long))
    ∙ ap (put c.args.t.now c.args.first) (filled-words c.args.k 0 codes)
