use Prim.Native.Nat.{◌/◌, ◌%◌, ◌^◌}
use mathlib.Core.Path.{sym, ◌∙◌}
use lib.Bits.{and_mask}
use Rattle.laws.proofs.Fillings.Numbering.{bit-small}
use Rattle.search.proofs.Walking.{code_one, code-zero}
use Rattle.search.proofs.back.bit_code.Goals as goal

pub returns-then-bit-eq1 : goal.returns-then-bit-eq1
returns-then-bit-eq1 c =
    let a = c.args in code_one (a.k / 2 ^ a.i % 2) (sym (and_mask (a.k / 2 ^ a.i) 1) ∙ c.if-bit-eq1.true)

pub returns : goal.returns
returns c =
    let a = c.args in
    code-zero (a.k / 2 ^ a.i % 2) (bit-small a.k a.i) (λ e. c.if-bit-eq1.false (and_mask (a.k / 2 ^ a.i) 1 ∙ e))
