-- A state that is met: what stands in the tables afterwards.
use Prim.Native.Nat.{ℕ, ◌+◌}
use mathlib.Core.Path.{◌≡◌, refl, sym, subst}
use mathlib.Core.Bool.{Bool, true, false}
use mathlib.Core.List.{List}
use Rattle.tables.specs.bitmap.Bitmap.{raised}
use Rattle.search.specs.Rows.{new_row}
use Rattle.search.specs.Exploring.{MeetBy}

module _ (met marks : List ℕ) (reached s place m : ℕ) where
  pub meet-on : (b : Bool) → b ≡ true → MeetBy b met marks reached s place m reached met marks
  meet-on b e = subst (λ (t : Bool). MeetBy t met marks reached s place m reached met marks) (sym e) (refl, refl, refl)

  pub meet-off : (b : Bool) → b ≡ false → (marks' : List ℕ) → marks' ≡ raised marks 0 s
      → MeetBy b met marks reached s place m (reached + 1) (new_row met reached s (place + 1) m) marks'
  meet-off b e marks' f =
      subst (λ (t : Bool). MeetBy t met marks reached s place m (reached + 1) (new_row met reached s (place + 1) m) marks') (sym e) (refl, refl, f)
