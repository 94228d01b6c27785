use native.Mathlib.Omega.{arith}
use mathlib.Core.Path.{◌∙◌, ap}
use Rattle.std.specs.Iterator.Adapters.{rev_source}
use Rattle.std.specs.Slice.Iter.{iter_rest}
use Rattle.search.proofs.Numbers.{numbered-none, numbered_more, numbered-low, numbered-all, one-small}
use Rattle.search.proofs.number_in.Goals as goal

pub loop-w-init : goal.loop-w-init
loop-w-init c =
    let a = c.args in
    let source = ap rev_source c.into_iter-w-iterator.ensures.into_iter_gives ∙ c.rev-w-items.ensures.source in
    (tt, tt, numbered-none a.t.now a.first a.n _ (ap iter_rest source ∙ c.iter.ensures.rest))

pub overflow_mul-s : goal.overflow_mul-s
overflow_mul-s c =
    let a = c.args in
    omega (arith, numbered-low a.t.now a.first a.n c.loop-w.invariant.2 c.requires.0)

pub overflow_add-s : goal.overflow_add-s
overflow_add-s c =
    let a = c.args in
    omega (arith, numbered-low a.t.now a.first a.n c.loop-w.invariant.2 c.requires.0, one-small _ _ c.one_of.ensures)

pub loop-w-preserved : goal.loop-w-preserved
loop-w-preserved c = (tt, tt, numbered_more c.loop-w.invariant.2 _ _ c.in-Some.ensures.steps _ c.one_of.ensures)

pub returns : goal.returns
returns c = numbered-all _ _ _ c.loop-w.invariant.2 c.in-None.ensures.steps.0
