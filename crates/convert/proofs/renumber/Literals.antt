-- A literal under its variable's number, as the code makes it: the number doubled, with the literal's sign.
use Prim.Native.Nat.{ℕ, zero, suc, ◌+◌, ◌<◌}
use mathlib.Core.Path.{◌≡◌, ap, ◌∙◌}
use mathlib.Core.List.{List}
use native.Mathlib.Omega.{arith}
use Rattle.plan.specs.declared.Lit.{Lit}
use Rattle.plan.specs.Literals.{lit_of, sign_of, signed, lit_at, word_of, var_at, doubled, signed_as}
use Rattle.convert.specs.renumber.Renumbered.{number_in, literal_by, Known}

-- no bit of a number's literal is cut
pub double-word : (k : ℕ) → k < 2147483648 → word_of (doubled (var_at k)) ≡ lit_of k
double-word k h = omega arith

sign-on : (k s : ℕ) → s < 2 → signed s (lit_of k) ≡ lit_of k + s
sign-on k zero h = omega arith
sign-on k (suc zero) h = omega arith
sign-on k (suc (suc s)) h = absurd (omega arith)

pub by_number : (t : List ℕ) (l : Lit) → Known t (word_of l)
    → signed_as (doubled (var_at (number_in t (word_of l)))) l ≡ lit_at (literal_by t (word_of l))
unfolding literal_by
by_number t l h =
    let k = number_in t (word_of l) in
    ap lit_at (ap (signed (sign_of (word_of l))) (double-word k h.1) ∙ sign-on k (sign_of (word_of l)) (omega arith))
