-- Marks of variables: looked up, set, and what they agree with.
use Prim.Native.Nat.{ℕ, ◌<◌, ◌≤◌}
use mathlib.Core.Path.{◌≡◌, refl, sym, ◌∙◌}
use mathlib.Core.Bool.{Bool, true, false, false≢true}
use mathlib.Core.List.{List}
use native.Mathlib.Omega.{arith}
use lib.ListN.{length}
use Rattle.tables.specs.bitmap.Bitmap.{is_on, raised}
use Rattle.lines.specs.Rows.{MarksFor, marked, marking}

-- marks for lines that define; for a variable up to m, in words as many
pub marks-for : (d : Bool) (m : ℕ) (marks : List ℕ) → d ≡ true → MarksFor d m marks → m < length marks
marks-for true m marks e h = h
marks-for false m marks e h = absurd (false≢true e)

pub marks-less : (d : Bool) (v m : ℕ) (marks₀ marks : List ℕ) → v ≤ m → length marks ≡ length marks₀ → MarksFor d m marks₀ → MarksFor d v marks
marks-less true v m marks₀ marks h e k = omega arith
marks-less false v m marks₀ marks h e k = tt

module _ (d : Bool) (v : ℕ) (marks : List ℕ) where
  pub unasked : d ≡ false → (false ≡ marked d v marks) × (marks ≡ marking d false v marks)
  unasked e = rw e (refl, refl)

  pub was-marked : (w : ℕ) → w ≡ v → (t : Bool) → t ≡ is_on marks 0 w → d ≡ true → t ≡ true
      → (true ≡ marked d v marks) × (marks ≡ marking d true v marks)
  was-marked w at t tells e on = rw (e, ← at, sym tells ∙ on) (refl, refl)

  pub now-marked : (w : ℕ) → w ≡ v → (t : Bool) → t ≡ is_on marks 0 w → (marks' : List ℕ) → marks' ≡ raised marks 0 w → d ≡ true → t ≡ false
      → (false ≡ marked d v marks) × (marks' ≡ marking d false v marks)
  now-marked w at t tells marks' new e off =
      rw (e, ← at, sym tells ∙ off) (refl, new)
