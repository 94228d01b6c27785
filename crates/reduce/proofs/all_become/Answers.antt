-- Each turn replaces one literal.
use Prim.Native.Nat.{ℕ}
use mathlib.Core.Path.{◌≡◌, ap, ap₂, ◌∙◌}
use mathlib.Core.List.{List}
use native.Mathlib.Omega.{arith}
use lib.ListN.{length, get_or, set, take}
use lib.Seq.{get_or-take, length-take-le}
use Rattle.plan.specs.declared.Lit.{Lit}
use Rattle.plan.specs.Literals.{word_of, var_of}
use Rattle.plan.specs.Reduce.{becomes}
use Rattle.reduce.proofs.Replaced.{bounded_at, none_done, one_more}
use Rattle.reduce.proofs.all_become.Goals as goal

pub loop-i-init : goal.loop-i-init
loop-i-init c = let a = c.args in none_done a.table.now a.became.now a.to.now

pub becomes-requires : goal.becomes-requires
becomes-requires c =
    let a = c.args in
    let i = c.loop-i.i in
    let low = bounded_at (length a.became.now) (take a.n a.table.now) c.requires.low i
    (omega (arith, length-take-le a.n a.table.now c.requires.table-long)) in
    omega (arith, ap (λ (l : Lit). var_of (word_of l)) c.at.ensures, low, ap var_of (get_or-take a.n a.table.now i 0 (omega arith)))

pub loop-i-preserved : goal.loop-i-preserved
loop-i-preserved c =
    let a = c.args in
    let word : c.word.result ≡ becomes a.became.now (get_or a.table.now c.loop-i.i 0)
    = c.word.ensures ∙ ap word_of c.becomes.ensures
    ∙ ap (λ (x : Lit). becomes a.became.now (word_of x)) c.at.ensures in
    ap₂ (λ (t : List ℕ) (x : ℕ). set t c.loop-i.i x) c.loop-i.invariant word
    ∙ one_more a.table.now a.became.now a.to.now c.loop-i.i (omega arith) (omega arith)
