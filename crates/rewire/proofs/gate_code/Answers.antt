-- The value of gate j by those of its right sides; no test on a value decides the way (the paper, stepping). Each answer is given by `gate_at`.
use mathlib.Core.Path.{ap, ◌∙◌}
use native.Mathlib.Omega.{arith}
use lib.ListN.{get_or}
use Rattle.plan.specs.declared.Lit.{Lit}
use Rattle.plan.specs.Literals.{var_of, sign_of, word_of}
use Rattle.plan.specs.Step.{code_of, signed_value, lit}
use Rattle.laws.proofs.Tables.{gate_at}
use Rattle.rewire.proofs.gate_code.Goals as goal

pub code_at-x-requires : goal.code_at-x-requires
code_at-x-requires c = omega (arith, ap (λ (l : Lit). var_of (word_of l)) c.at.ensures, c.requires.rhs0)

pub code_at-y-requires : goal.code_at-y-requires
code_at-y-requires c = omega (arith, ap (λ (l : Lit). var_of (word_of l)) c.at-2.ensures, c.requires.rhs1)

pub returns : goal.returns
returns c =
    λ w h0 h1.
    let s = c.args in
    let g = gate_at s.gates.now s.j in
    let r0 = c.at.ensures in
    let r1 = c.at-2.ensures in
    c.and_code.ensures (lit w g.rhs0) (lit w g.rhs1)
    (c.code_at-x.ensures (w (var_of g.rhs0)) (ap (λ (x : Lit). get_or s.values.now (var_of (word_of x)) 0) r0 ∙ h0)
    ∙ ap (λ (x : Lit). code_of (signed_value (sign_of (word_of x)) (w (var_of g.rhs0)))) r0)
    (c.code_at-y.ensures (w (var_of g.rhs1)) (ap (λ (x : Lit). get_or s.values.now (var_of (word_of x)) 0) r1 ∙ h1)
    ∙ ap (λ (x : Lit). code_of (signed_value (sign_of (word_of x)) (w (var_of g.rhs1)))) r1)
