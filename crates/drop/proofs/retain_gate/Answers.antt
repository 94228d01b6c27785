-- Gate k. The answers are given by `drops` and `retains`.
use Prim.Native.Nat.{◌+◌, ◌*◌}
use mathlib.Core.Path.{◌≡◌, ap, ◌∙◌}
use native.Mathlib.Omega.{arith}
use lib.ListN.{get_or, length-set}
use Rattle.plan.specs.declared.Lit.{Lit}
use Rattle.plan.specs.Literals.{var_of, word_of}
use Rattle.plan.specs.Reduce.{becomes}
use Rattle.drop.proofs.Retaining.{drops, retains}
use Rattle.drop.proofs.retain_gate.Goals as goal

pub returns-then-t-base-eq0 : goal.returns-then-t-base-eq0
returns-then-t-base-eq0 c = drops _ _ _ _ _ _ c.requires c.if-t-base-eq0.true

pub becomes-a-requires : goal.becomes-a-requires
becomes-a-requires c =
    omega (arith, ap (λ (l : Lit). var_of (word_of l)) c.at.ensures, c.requires.in_place.rhs0, c.requires.t-long)

pub becomes-b-requires : goal.becomes-b-requires
becomes-b-requires c =
    omega (arith, ap (λ (l : Lit). var_of (word_of l)) c.at-2.ensures, c.requires.in_place.rhs1, c.requires.t-long)

pub bounds-to-row-2 : goal.bounds-to-row-2
bounds-to-row-2 c = simp length-set (omega arith)

pub bounds-to-row-3 : goal.bounds-to-row-3
bounds-to-row-3 c = simp length-set (omega arith)

pub returns : goal.returns
returns c =
    let x = c.word.ensures ∙ ap word_of c.larger.ensures in
    let y = c.word-2.ensures ∙ ap word_of c.smaller.ensures in
    let ae : word_of c.becomes-a.result ≡ becomes c.args.t.now (get_or c.args.gates.now (3 * c.args.k + 1) 0)
    = ap word_of c.becomes-a.ensures ∙ ap (λ (q : Lit). becomes c.args.t.now (word_of q)) c.at.ensures in
    let be : word_of c.becomes-b.result ≡ becomes c.args.t.now (get_or c.args.gates.now (3 * c.args.k + 2) 0)
    = ap word_of c.becomes-b.ensures ∙ ap (λ (q : Lit). becomes c.args.t.now (word_of q)) c.at-2.ensures in
    retains _ _ _ _ _ _ c.requires c.if-t-base-eq0.false _ (word_of c.becomes-a.result) (word_of c.becomes-b.result) _ _
    (c.word-l.ensures ∙ c.left_side.ensures) x y ae be
