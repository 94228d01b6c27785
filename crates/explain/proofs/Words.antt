-- Where the words of a variable's two literals stand.
use Prim.Native.Nat.{ℕ, ◌+◌, ◌*◌, ◌%◌, ◌^◌, ◌<◌}
use mathlib.Core.Path.{◌≡◌}
use native.Mathlib.Omega.{arith}
use Rattle.plan.specs.Literals.{lit_of, var_of, neg_of}

-- the doubling of a literal's variable is not cut
pub uncut : (v l : ℕ) → v ≡ var_of l → l < 4294967296 → lit_of v % 2 ^ 32 ≡ 2 * var_of l
uncut v l e h = omega arith

-- the negated literal's word comes after the literal's
pub not-word : (lits x own v : ℕ) → x ≡ neg_of own → own ≡ 2 * v → lits + x ≡ lits + 2 * v + 1
not-word lits x own v e h = omega arith
