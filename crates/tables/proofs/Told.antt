-- An answer 0 tells that there is no table, any other the table's number.
use Prim.Native.Nat.{ℕ, suc, zero}
use mathlib.Core.Path.{◌≡◌, refl, sym, ap, ◌∙◌}
use Rattle.std.specs.Prelude.{Option, Some, None}
use Rattle.tables.specs.Lengths.{table_of}

-- no second number tells the same
abbrev number : Option ℕ → ℕ
number None = 0
number (Some k) = k

back : (k : ℕ) → number (table_of k) ≡ k
back zero = refl
back (suc k) = refl

pub told-once : (j k : ℕ) → table_of j ≡ table_of k → j ≡ k
told-once j k e = sym (back j) ∙ ap number e ∙ back k

-- an answer that is a table's number or none: no second one fits the same contract
pub answered-once : (told j k : Option ℕ) → j ≡ told → k ≡ told → j ≡ k
answered-once told j k e f = e ∙ sym f
