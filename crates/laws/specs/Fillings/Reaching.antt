-- How far trying reaches.
use Rattle.std.specs.Prelude.{ℕ, ◌≤◌, ◌<◌, ◌≡◌, Bool, true, false}

-- of the first `most` numbers all below r pass the test, and r fails it or there are no more
pub record Reaches (shows : ℕ → Bool) (most r : ℕ) : Type 0 where
  pub within : r ≤ most
  pub before : (i : ℕ) → i < r → shows i ≡ true
  pub fails : r < most → shows r ≡ false
