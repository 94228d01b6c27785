-- For the code: the bytes that pass a test, one byte at a time.
use Prim.Native.Nat.{ℕ, ◌+◌, ◌<◌, ◌≤◌}
use mathlib.Core.Path.{◌≡◌, ap, ◌∙◌}
use mathlib.Core.List.{List, [], ◌∷◌}
use mathlib.Core.Bool.{Bool, true, false}
use native.Mathlib.Numerals.{add-one}
use lib.ListN.{length, drop, get_or, drop_of_length-le}
use lib.Seq.{drop-cons}
use Rattle.plan.specs.declared.Class.{Class}
use Rattle.plan.specs.Bytes.{class_of, span}

module _ (t : Class → Bool) (s : List ℕ) (i : ℕ) where
  pub span_more : i < length s → t (class_of (get_or s i 0)) ≡ true → span t (drop i s) ≡ get_or s i 0 ∷ span t (drop (i + 1) s)
  span_more h d = ap (span t) (drop-cons s i 0 h) ∙ rw (d, add-one)

  pub span_none : i < length s → t (class_of (get_or s i 0)) ≡ false → span t (drop i s) ≡ []
  span_none h d = ap (span t) (drop-cons s i 0 h) ∙ rw d

  pub span-past : length s ≤ i → span t (drop i s) ≡ []
  span-past h = ap (span t) (drop_of_length-le s h)
