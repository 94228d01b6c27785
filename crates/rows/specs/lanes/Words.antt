-- Planes of 64 lanes in words of scratch, two each, low lanes first.
use Rattle.std.specs.Prelude.{ℕ, ◌+◌, ◌*◌, ◌/◌, ◌%◌, ◌^◌, ◌≡◌, List, [], ◌∷◌, ◌++◌, length, get_or, take}
use Rattle.std.specs.Int.Bits.{bit_and}
use Rattle.plan.specs.Literals.{neg_of}
use Rattle.rows.specs.Planes.Planes.{bit, pairs, other, column}

abbrev pub plane_words : List ℕ → List ℕ
plane_words [] = []
plane_words (p ∷ ps) = p % 4294967296 ∷ p / 4294967296 ∷ plane_words ps

abbrev pub plane_at : List ℕ → ℕ → ℕ
plane_at t l = get_or t (2 * l) 0 + get_or t (2 * l + 1) 0 * 4294967296

-- a table that begins with the words of planes
abbrev pub Begins : List ℕ → List ℕ → Type 0
Begins q t = take (2 * length q) t ≡ plane_words q

-- a bit in every lane
abbrev pub every_row : ℕ → ℕ
every_row b = b * 18446744073709551615

-- the code in lane k, by the planes where it may be 1 and where it may be both: "0" is 48, "1" one more, and "x" is
-- 71 more again
abbrev pub code_by : ℕ → ℕ → ℕ → ℕ
code_by one both k = 48 + bit k one + 71 * bit k both

-- where a literal may be both; its code in lane k
abbrev pub both_at : List ℕ → ℕ → ℕ
both_at t l = bit_and (plane_at t l) (plane_at t (neg_of l))

abbrev pub code_at : List ℕ → ℕ → ℕ → ℕ
code_at t k l = code_by (plane_at t l) (both_at t l) k

-- byte g of a plane has the lanes from 8 g on
abbrev pub byte_of : ℕ → ℕ → ℕ
byte_of p g = p / 2 ^ (8 * g) % 256

-- a column of a block as lane words, each in two halves, and as a plane
abbrev pub half_in : List ℕ → ℕ → ℕ
half_in block at = get_or block at 0 + 256 * get_or block (at + 64) 0

abbrev pub word_in : List ℕ → ℕ → ℕ
word_in block at = half_in block at + 65536 * half_in block (at + 128)

abbrev pub block_plane : List ℕ → ℕ → ℕ
block_plane block j = word_in block j + word_in block (j + 256) * 4294967296

-- the constant; inputs, whose rows are given: a byte but "0" may be 1, and a byte but "1" may be 0; latches, by
-- their resets, in every row the same: a reset but 0 may be 1, and a reset but 1 may be 0
abbrev pub constant_planes : List ℕ
constant_planes = 0 ∷ 18446744073709551615 ∷ []

abbrev pub input_planes : List ℕ → ℕ → ℕ → List ℕ
input_planes bytes i rows = pairs (λ j. column 48 bytes j i rows) (λ j. column 49 bytes j i rows) i

abbrev pub reset_planes : List ℕ → ℕ → List ℕ
reset_planes resets l = pairs (λ j. every_row (other 0 (get_or resets j 0))) (λ j. every_row (other 1 (get_or resets j 0))) l

abbrev pub start_planes : List ℕ → List ℕ → ℕ → ℕ → ℕ → List ℕ
start_planes bytes resets i l rows = (constant_planes ++ input_planes bytes i rows) ++ reset_planes resets l
