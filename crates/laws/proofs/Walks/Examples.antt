-- Unused gates dropped, computed on small circuits.
use Prim.Native.Nat.{ℕ}
use mathlib.Core.Path.{◌≡◌, refl}
use mathlib.Core.List.{List, [], ◌∷◌, ◌++◌}
use Rattle.plan.specs.declared.Version.TheVariants.{V19}
use Rattle.plan.specs.Refusals.{got, ◌then◌}
use Rattle.plan.specs.Binary.{binary_of}
use Rattle.plan.specs.Reading.{read_file}
use Rattle.plan.specs.Convert.{convert}
use Rattle.plan.specs.Programs.{bytes_of, lent_words, printed}
use Rattle.plan.specs.Drop.{drop_unused}

-- a file converted, without its unused gates
abbrev dropped : List ℕ → List ℕ
dropped file = printed (read_file V19 file lent_words then λ c start. got (binary_of (drop_unused (convert c))) start)

-- of three gates the second feeds nothing: it is dropped, and the third takes its variable
pub gap-closed : dropped (bytes_of "aag 5 2 0 1 3\n2\n4\n10\n6 4 2\n8 5 3\n10 7 3\n")
    ≡ bytes_of "aig 4 2 0 1 2\n8\n" ++ (0x02 ∷ 0x02 ∷ 0x01 ∷ 0x04 ∷ [])
gap-closed = refl

-- a next state reaches, also of a latch that nothing uses
pub next-reaches : dropped (bytes_of "aag 4 1 1 0 2\n2\n4 6\n6 3 2\n8 5 3\n") ≡ bytes_of "aig 3 1 1 0 1\n6\n" ++ (0x03 ∷ 0x01 ∷ [])
next-reaches = refl

-- a bad state reaches, and a constraint does, also through another gate
pub bad-reaches : dropped (bytes_of "aag 4 1 0 0 3 1\n2\n6\n4 2 2\n6 4 3\n8 5 3\n")
    ≡ bytes_of "aig 3 1 0 0 2 1\n6\n" ++ (0x02 ∷ 0x00 ∷ 0x02 ∷ 0x01 ∷ [])
bad-reaches = refl

pub constraint-reaches : dropped (bytes_of "aag 4 1 0 0 3 0 1\n2\n6\n4 2 2\n6 4 3\n8 5 3\n")
    ≡ bytes_of "aig 3 1 0 0 2 0 1\n6\n" ++ (0x02 ∷ 0x00 ∷ 0x02 ∷ 0x01 ∷ [])
constraint-reaches = refl

-- a literal of an input that is negated stays, and its latch's reset
pub leaves-stay : dropped (bytes_of "aag 3 1 1 1 1\n2\n4 3 4\n5\n6 4 2\n") ≡ bytes_of "aig 2 1 1 1 0\n3 4\n5\n"
leaves-stay = refl
