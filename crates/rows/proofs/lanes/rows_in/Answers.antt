-- The rows of a plane: each lane word's count of ones, added up, with spare lanes masked off. Each answer is given by `ones-words`.
use Prim.Native.Nat.{ℕ, ◌+◌}
use mathlib.Core.Path.{◌≡◌, ap₂, ◌∙◌}
use native.Mathlib.Omega.{arith}
use lib.Bits.{bit_and, and_le_l}
use lib.Count.{ones}
use Rattle.rows.proofs.lanes.Turns.{ones-words, ones_small}
use Rattle.rows.proofs.lanes.rows_in.Goals as goal

pub overflow_add-result : goal.overflow_add-result
overflow_add-result c =
    let counted : let a = c.args in ones c.low.result + ones c.high.result ≡ ones (bit_and a.plane a.mask) =
    let a = c.args in
    ap₂ (λ (x y : ℕ). ones x + ones y) c.low.ensures c.high.ensures ∙ ones-words (bit_and a.plane a.mask) in
    let kept = bit_and c.args.plane c.args.mask in
    record { fits = omega (arith, counted, ones_small kept (omega (arith, and_le_l c.args.plane c.args.mask, c.well_formed))) }

pub returns : goal.returns
returns c =
    let counted : let a = c.args in ones c.low.result + ones c.high.result ≡ ones (bit_and a.plane a.mask) =
    let a = c.args in
    ap₂ (λ (x y : ℕ). ones x + ones y) c.low.ensures c.high.ensures ∙ ones-words (bit_and a.plane a.mask) in
    counted
