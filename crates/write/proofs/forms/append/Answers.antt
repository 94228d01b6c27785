-- Each turn copies one byte.
use Prim.Native.Nat.{ℕ, ◌+◌}
use mathlib.Core.Path.{ap, ◌∙◌}
use mathlib.Core.List.{List}
use lib.ListN.{get_or, set}
use Rattle.write.proofs.forms.Copies.{one-copied}
use Rattle.write.proofs.forms.append.Goals as goal

pub loop-i-preserved : goal.loop-i-preserved
loop-i-preserved c =
    let a = c.args in
    let i = c.loop-i.i in
    ap (λ (l : List ℕ). set l (a.at + i) (get_or a.tail.now i 0)) c.loop-i.invariant
    ∙ one-copied a.out.now a.tail.now a.at i c.requires c.loop-i-test.true
