-- The first of three vectors that is refused, from what each test told.
use Prim.Native.Nat.{ℕ}
use mathlib.Core.Path.{◌≡◌, sym, ap, ap₂, ◌∙◌}
use mathlib.Core.Bool.{Bool, true, false, ◌&&◌}
use mathlib.Core.List.{List}
use lib.Dec.{eqb}
use lib.ListN.{length}
use Rattle.std.specs.Prelude.{Option, Some, None}
use Rattle.plan.specs.Given.{or_else, failing_at}
use Rattle.plan.specs.Outcome.{all_codes}

abbrev pub codes_in : List ℕ → ℕ → Bool
codes_in bytes n = eqb (length bytes) n && all_codes bytes

-- the state's, the inputs' and the outputs' vectors are good
abbrev pub first_bad : Bool → Bool → Bool → Option ℕ
first_bad s i o = or_else (failing_at 1 s) (or_else (failing_at 2 i) (failing_at 3 o))

module _ (s i o : Bool) where
  pub bad-state : s ≡ false → Some 1 ≡ first_bad s i o
  bad-state e = sym (ap (λ (b : Bool). first_bad b i o) e)

  pub bad-inputs : s ≡ true → i ≡ false → Some 2 ≡ first_bad s i o
  bad-inputs e f = sym (ap₂ (λ (a b : Bool). first_bad a b o) e f)

  last : s ≡ true → i ≡ true → first_bad s i o ≡ failing_at 3 o
  last e f = ap₂ (λ (a b : Bool). first_bad a b o) e f

  pub bad-outputs : s ≡ true → i ≡ true → o ≡ false → Some 3 ≡ first_bad s i o
  bad-outputs e f g = sym (last e f ∙ ap (failing_at 3) g)

  pub none-bad : s ≡ true → i ≡ true → o ≡ true → None ≡ first_bad s i o
  none-bad e f g = sym (last e f ∙ ap (failing_at 3) g)
