-- Reports computed on small circuits.
use Prim.Native.Nat.{ℕ}
use mathlib.Core.Path.{◌≡◌, refl}
use mathlib.Core.List.{List, [], ◌∷◌}
use Rattle.plan.specs.declared.Version.TheVariants.{V19}
use Rattle.plan.specs.Refusals.{got, ◌then◌}
use Rattle.plan.specs.Reading.{read_file}
use Rattle.plan.specs.Programs.{bytes_of, lent_words, printed}
use Rattle.laws.proofs.Paper.{toggle}
use Rattle.plan.specs.Report.{report_of}

-- the numbers of a file's circuit over a list
abbrev reported : List ℕ → ℕ → List ℕ → List ℕ
reported file number bytes = printed (read_file V19 file lent_words then λ c start. got (report_of c number bytes) start)

-- the toggle circuit over the four lines of the paper: q is 0, 1, 0, x, its negation 1, 0, 1, x, and the latch as q
pub toggle-report : reported toggle 4 (bytes_of "1111x110") ≡ (2 ∷ 1 ∷ 1 ∷ 3 ∷ 1 ∷ 2 ∷ 1 ∷ 3 ∷ 2 ∷ 1 ∷ 1 ∷ 3 ∷ [])
toggle-report = refl

-- no vectors: no numbers but 0
pub no-vectors : reported toggle 0 [] ≡ (0 ∷ 0 ∷ 0 ∷ 0 ∷ 0 ∷ 0 ∷ 0 ∷ 0 ∷ 0 ∷ 0 ∷ 0 ∷ 0 ∷ [])
no-vectors = refl

-- from the resets: a latch that starts as x and one that starts as 1, counted by the state at the start of each step
pub from-resets : reported (bytes_of "aag 3 1 2 1 0\n2\n4 2 4\n6 2 1\n4\n") 2 (bytes_of "00") ≡ (1 ∷ 0 ∷ 1 ∷ 1 ∷ 1 ∷ 0 ∷ 1 ∷ 1 ∷ 1 ∷ 1 ∷ 0 ∷ 1 ∷ [])
from-resets = refl

-- from x and to x are changes, from x to x is none
pub x-changes : reported (bytes_of "aag 1 1 0 1 0\n2\n2\n") 5 (bytes_of "x0xx1") ≡ (1 ∷ 1 ∷ 3 ∷ 3 ∷ [])
x-changes = refl
