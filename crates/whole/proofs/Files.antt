-- An input that can be read, and what follows it.
use Prim.Native.Nat.{ℕ}
use mathlib.Core.Path.{◌≡◌, refl}
use mathlib.Core.Bool.{Bool, true, false, cond}
use mathlib.Core.List.{List}
use lib.Dec.{leb}
use lib.ListN.{length}
use Rattle.plan.specs.declared.Refusal.TheVariants.{LongInput}
use Rattle.plan.specs.Refusals.{Parse, refused, ◌then◌}
use Rattle.plan.specs.Programs.{input}
use Rattle.plan.specs.Whole.{input_of}

-- what follows an input that can be read
pub after-input : {A B : Type 0} (b : Bool) (file : List ℕ) (f : List ℕ → Parse A) (k : List ℕ → A → ℕ → Parse B)
    → input (input_of b file) (λ l. f l then k l) ≡ (input (input_of b file) f) then k file
after-input false file f k = refl
after-input true file f k = go (leb (length file) 65536)
  where
    go : (t : Bool) → cond t (f file then k file) (refused (LongInput 65536)) ≡ (cond t (f file) (refused (LongInput 65536))) then k file
    go true = refl
    go false = refl
