-- Bitmaps that stand in a table of words: place i of the one that starts at p is bit i % 32 of word p + i / 32.
use Rattle.std.specs.Prelude.{◌≡◌, Bool, List, ℕ, ◌+◌, ◌*◌, ◌/◌, ◌%◌, ◌^◌, ◌<◌, ◌≤◌, eqb, get_or, set}
use Rattle.std.specs.Int.Bits.{bit_or, bit_xor}

-- bit c of w is 1
unfoldable pub On : ℕ → ℕ → Type 0
On w c = w / 2 ^ c % 2 ≡ 1

-- place i of the bitmap that starts at p is on
unfoldable pub OnAt : List ℕ → ℕ → ℕ → Type 0
unfolding On
OnAt t p i = On (get_or t (p + i / 32) 0) (i % 32)

-- whether it is
unfoldable pub is_on : List ℕ → ℕ → ℕ → Bool
is_on t p i = eqb (get_or t (p + i / 32) 0 / 2 ^ (i % 32) % 2) 1

-- place i put on; turned over
unfoldable pub raised : List ℕ → ℕ → ℕ → List ℕ
raised t p i = set t (p + i / 32) (bit_or (get_or t (p + i / 32) 0) (2 ^ (i % 32)))

unfoldable pub toggled : List ℕ → ℕ → ℕ → List ℕ
toggled t p i = set t (p + i / 32) (bit_xor (get_or t (p + i / 32) 0) (2 ^ (i % 32)))

-- r is the first place from i on in i's word that is on, or where the next word starts
pub record NextOn (t : List ℕ) (p i r : ℕ) : Type 0 where
  pub from : i ≤ r
  pub near : r ≤ 32 * (i / 32) + 32
  pub dark : (c : ℕ) → i ≤ c → c < r → OnAt t p c → ⊥
  pub there : r < 32 * (i / 32) + 32 → OnAt t p r
