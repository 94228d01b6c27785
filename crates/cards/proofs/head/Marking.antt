-- The loop over marks: the answer from here on.
use Prim.Native.Nat.{ℕ, suc, ◌+◌, ◌-◌, ◌*◌, ◌<◌}
use mathlib.Core.Path.{◌≡◌, sym, ap, ◌∙◌}
use mathlib.Core.Bool.{Bool, true, cond}
use mathlib.Core.List.{List}
use Rattle.std.specs.Prelude.{Option, Some}
use native.Mathlib.Nat.{mul-suc}
use native.Mathlib.Numerals.{add-one}
use native.Mathlib.Omega.{arith}
use lib.ListN.{drop}
use lib.Seq.{drop-drop}
use Rattle.plan.specs.Cards.{marked, wrong_in}

module _ (file : List ℕ) (letter size n at : ℕ) where
  -- the first wrong mark, where those of the first i records are right
  abbrev pub wrong_from : ℕ → Option ℕ
  wrong_from i = wrong_in letter size (n - i) (at + size * i) (drop (at + size * i) file)

  pub mark-fine : (i : ℕ) → wrong_in letter size n at (drop at file) ≡ wrong_from i → i < n
      → (b : Bool) → b ≡ marked letter (drop (at + size * i) file) → b ≡ true
      → wrong_in letter size n at (drop at file) ≡ wrong_from (i + 1)
  mark-fine i s h b e f =
      let next : ℕ = at + size * i in
      let one : n - i ≡ suc (n - (i + 1)) = omega arith in
      let product : size * (i + 1) ≡ size * i + size = ap (λ (k : ℕ). size * k) (add-one i) ∙ mul-suc size i in
      let place : next + size ≡ at + size * (i + 1) = omega arith in
      s
      ∙ (ap (λ (k : ℕ). wrong_in letter size k next (drop next file)) one
      ∙ (ap (λ (l : List ℕ). cond (marked letter (drop next file)) (wrong_in letter size (n - (i + 1)) (next + size) l) (Some next))
      (drop-drop size next file)
      ∙ (ap (λ (b : Bool). cond b (wrong_in letter size (n - (i + 1)) (next + size) (drop (next + size) file)) (Some next)) (sym e ∙ f)
      ∙ ap (λ (k : ℕ). wrong_in letter size (n - (i + 1)) k (drop k file)) place)))
