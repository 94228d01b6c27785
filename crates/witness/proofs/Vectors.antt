-- The vectors of a filled list: the x of each are numbered on from those of the vectors before it.
use Prim.Native.Nat.{ℕ, ◌+◌, ◌-◌, ◌*◌, ◌≤◌, ◌<◌}
use mathlib.Core.Path.{◌≡◌, refl, sym, ap, ◌∙◌}
use mathlib.Core.List.{List, map}
use native.Mathlib.Omega.{arith}
use lib.ListN.{length, take, drop}
use Rattle.plan.specs.declared.Counts.{Counts}
use Rattle.plan.specs.Step.{value_of}
use Rattle.plan.specs.Outcome.{put}
use Rattle.step.specs.values.Words.{words}
use Rattle.plan.specs.Fillings.{x_count, fill_from}
use Rattle.laws.proofs.Fillings.Numbering.{fill-length, fill-part}
use Rattle.laws.proofs.Fillings.Counting.{count-take, count-part}
use Rattle.witness.proofs.three.Listing.{Turn}

-- the vector of `each` places at `at`, whose first x has the number x, where the list's own are numbered from `base` on
module _ (base at each x : ℕ) (bytes : List ℕ) (here : x ≡ base + x_count (take at bytes)) where
  abbrev part : List ℕ
  part = take (at + each - at) (drop at bytes)

  only : at + each - at ≡ each
  only = omega arith

  pub filled-vector : (k : ℕ) (t t1 : List ℕ) → t1 ≡ put t 1 (words (map value_of (fill_from k x part)))
      → t1 ≡ put t 1 (words (map value_of (take (at + each - at) (drop at (fill_from k base bytes)))))
  filled-vector k t t1 e =
      e ∙ ap (λ (l : List ℕ). put t 1 (words (map value_of l)))
      (ap (λ (j : ℕ). fill_from k j part) here ∙ sym (fill-part k base at (at + each - at) bytes))

  pub next-x : (r : ℕ) → r ≡ x + x_count part → r ≡ base + x_count (take (at + each) bytes)
  next-x r e =
      let sized : x_count part ≡ x_count (take each (drop at bytes)) = ap (λ (m : ℕ). x_count (take m (drop at bytes))) only in
      omega (arith, here, sized, count-part at each bytes)

  pub few-x : base + x_count bytes ≤ 20 → x + x_count part ≤ 20
  few-x h = omega (arith, next-x (x + x_count part) refl, count-take (at + each) bytes)

-- a filled list is as whole as the list
pub filled-turn : {n : Counts} {number k : ℕ} (which base : ℕ) (bytes : List ℕ) → length bytes ≡ number * n.I → k < number
    → Turn n number (fill_from which base bytes) k
filled-turn which base bytes whole more = record { whole = fill-length which base bytes ∙ whole; more = more }
