-- Planes: a number with a bit for each row, of any width. Each literal has one, which says in which rows the
-- literal may be 1. A negated literal may be 1 where the literal may be 0, so a variable's two planes are its two
-- bits in every row.
use Rattle.std.specs.Prelude.{ℕ, zero, suc, ◌+◌, ◌*◌, ◌/◌, ◌%◌, ◌^◌, cond, List, [], ◌∷◌, ◌++◌, eqb, get_or}
use Rattle.std.specs.Int.Bits.{bit_and, bit_or}
use Rattle.plan.specs.Literals.{neg_of}
use Rattle.plan.specs.Circuit.{Gate}

-- lane k of a plane
unfoldable pub bit : ℕ → ℕ → ℕ
bit k p = p / 2 ^ k % 2

-- the plane of n lanes that has these bits
abbrev pub plane_of : (ℕ → ℕ) → ℕ → ℕ
plane_of f zero = 0
plane_of f (suc n) = f n * 2 ^ n + plane_of f n

-- the planes of n variables: where each may be 1, and where it may be 0
abbrev pub pairs : (ℕ → ℕ) → (ℕ → ℕ) → ℕ → List ℕ
pairs f g zero = []
pairs f g (suc n) = pairs f g n ++ (f n ∷ g n ∷ [])

-- a gate may be 1 where both sides may, and 0 where either may
abbrev pub and_plane : List ℕ → Gate → ℕ
and_plane q g = bit_and (get_or q g.rhs0 0) (get_or q g.rhs1 0)

abbrev pub or_plane : List ℕ → Gate → ℕ
or_plane q g = bit_or (get_or q (neg_of g.rhs0) 0) (get_or q (neg_of g.rhs1) 0)

abbrev pub sweep_planes : List ℕ → List Gate → List ℕ
sweep_planes q [] = q
sweep_planes q (g ∷ gs) = sweep_planes (q ++ (and_plane q g ∷ or_plane q g ∷ [])) gs

-- 1 where a number differs from a code, else 0
abbrev pub other : ℕ → ℕ → ℕ
other code b = cond (eqb b code) 0 1

-- the rows of a list of bytes in which the byte at `from` differs from a code
abbrev pub column : ℕ → List ℕ → ℕ → ℕ → ℕ → ℕ
column code bytes from stride rows = plane_of (λ k. other code (get_or bytes (stride * k + from) 0)) rows
