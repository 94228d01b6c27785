-- Blocks: up to 64 columns of rows, eight rows to a byte, so that the bits of a row stand side by side.
use Rattle.std.specs.Prelude.{ℕ, ◌+◌, ◌*◌, ◌≤◌, ◌<◌, ◌≡◌, List, length, get_or}
use Rattle.rows.specs.lanes.Words.{byte_of}

-- byte g of column j's plane stands at 64 g + j
abbrev pub Packed : (ℕ → ℕ) → ℕ → List ℕ → Type 0
Packed p w block = (g j : ℕ) → g < 8 → j < w → get_or block (64 * g + j) 0 ≡ byte_of (p j) g

-- one column of rows of n is written, and no other changes
pub record Striped (f : ℕ → ℕ) (from n rows : ℕ) (out out' : List ℕ) : Type 0 where
  pub same : length out' ≡ length out
  pub stored : (k : ℕ) → k < rows → get_or out' (n * k + from) 0 ≡ f k
  pub others : (k j : ℕ) → j < n → (j ≡ from → ⊥) → get_or out' (n * k + j) 0 ≡ get_or out (n * k + j) 0

-- w places from `to` on are written, and no other changes
pub record Written (f : ℕ → ℕ) (to w : ℕ) (out out' : List ℕ) : Type 0 where
  pub same : length out' ≡ length out
  pub stored : (j : ℕ) → j < w → get_or out' (to + j) 0 ≡ f j
  pub before : (i : ℕ) → i < to → get_or out' i 0 ≡ get_or out i 0
  pub after : (i : ℕ) → to + w ≤ i → get_or out' i 0 ≡ get_or out i 0

-- w columns of rows of n, from column `from` on
pub record Block (from w n rows : ℕ) (list : List ℕ) : Type 0 where
  pub some : 0 < w
  pub inside : from + w ≤ n
  pub narrow : w ≤ 64
  pub most : rows ≤ 64
  pub whole : n * rows ≤ length list

-- they are written, and no column before them changes
pub record Blocked (f : ℕ → ℕ → ℕ) (from w n rows : ℕ) (out out' : List ℕ) : Type 0 where
  pub same : length out' ≡ length out
  pub stored : (k j : ℕ) → k < rows → j < w → get_or out' (n * k + (from + j)) 0 ≡ f k j
  pub others : (k j : ℕ) → j < from → get_or out' (n * k + j) 0 ≡ get_or out (n * k + j) 0
