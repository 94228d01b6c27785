-- This literal, negated if the other is: `toggled-by` gives the word.
use Rattle.std.proofs.Common.{ℕ, ◌%◌, ap, ◌∙◌, arith, bit_xor}
use Rattle.plan.specs.Literals.{lit_at}
use Rattle.plan.proofs.Bits.{toggled-by}
use Rattle.plan.proofs.Lit.signed_as.Goals as goal

pub returns : goal.returns
returns c =
    let a = c.args in
    ap (λ (s : ℕ). lit_at (bit_xor a.self.0 s)) c.sign.ensures ∙ ap lit_at (toggled-by a.self.0 (a.other.0 % 2) (omega arith))
