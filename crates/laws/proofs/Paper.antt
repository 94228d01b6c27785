-- "Plans on both sides of the line": the examples of every line with a mark P, from the paper's bytes to the paper's bytes, by both reports.
use Prim.Native.Nat.{ℕ}
use mathlib.Core.Path.{◌≡◌, refl}
use mathlib.Core.List.{List, [], ◌∷◌, ◌++◌, map}
use Rattle.std.specs.Prelude.{Some}
use Rattle.plan.specs.declared.Version.{Version}
use Rattle.plan.specs.declared.Version.TheVariants.{V2007, V19}
use Rattle.plan.specs.Refusals.{got, ◌then◌}
use Rattle.plan.specs.Circuit.{Circuit}
use Rattle.plan.specs.Bytes.{digits}
use Rattle.plan.specs.Difference.{difference_at, difference_says}
use Rattle.plan.specs.Binary.{binary_of}
use Rattle.plan.specs.Reading.{read_file}
use Rattle.plan.specs.Convert.{convert}
use Rattle.plan.specs.Reduce.{reduce}
use Rattle.plan.specs.Step.{code_of, value_of, outputs_of, first_state}
use Rattle.plan.specs.Programs.{bytes_of, lent_words, printed, tracer}

-- what is asked of some bytes: the number of a difference; whether a file is accepted; its conversion; its reduction; the outputs
-- of the first step on an input vector, of the file's circuit and of the reduced one
pub data Asked : Type 0 where
  value accepted converted reduced : Asked
  outputs-on reduced-outputs-on : List ℕ → Asked

abbrev circuit : Version → List ℕ → (Circuit → List ℕ) → List ℕ
circuit v file f = printed (read_file v file lent_words then λ c start. got (f c) start)

abbrev outputs : List ℕ → Circuit → List ℕ
outputs ins c = map code_of (outputs_of c (first_state c) (map value_of ins))

-- the answer, in bytes, by a version of the report; a refusal is the programs' line
abbrev pub answer : Version → Asked → List ℕ → List ℕ
answer v value bytes = printed (difference_says (difference_at bytes 0) then λ d next. got (digits d) next)
answer v accepted bytes = circuit v bytes (λ c. bytes_of "accepted")
answer v converted bytes = circuit v bytes (λ c. binary_of (convert c))
answer v reduced bytes = circuit v bytes (λ c. binary_of (reduce (convert c)))
answer v (outputs-on ins) bytes = circuit v bytes (outputs ins)
answer v (reduced-outputs-on ins) bytes = circuit v bytes (λ c. outputs ins (reduce (convert c)))

pub record Example : Type 0 where
  pub asked : Asked
  pub bytes : List ℕ
  pub answered : List ℕ

infix 4 ◌of◌is◌
abbrev pub ◌of◌is◌ : Asked → List ℕ → List ℕ → Example
a of bytes is said = record { asked = a; bytes = bytes; answered = said }

abbrev halves : List ℕ
halves = bytes_of "aag 2 1 0 1 1\n2\n5\n4 2 3\n"

-- the toggle circuit T of the AIGER report
abbrev pub toggle : List ℕ
toggle = bytes_of "aag 7 2 1 2 4\n2\n4\n6 8\n6\n7\n8 4 10\n10 13 15\n12 2 6\n14 3 7\n"

abbrev pub examples : List Example
examples =
    (value of 0x81 ∷ 0x02 ∷ [] is bytes_of "257")
    ∷ (value of 0x82 ∷ 0x02 ∷ [] is bytes_of "258")
    ∷ (value of 0x7f ∷ [] is bytes_of "127")
    ∷ (value of 0x80 ∷ 0x01 ∷ [] is bytes_of "128")
    ∷ (accepted of bytes_of "aag 0 0 0 0 0\n" is bytes_of "accepted")
    ∷ (accepted of bytes_of "aag 0 0 0 0 0" is bytes_of "refused 1 at 13\n")
    ∷ (accepted of [] is bytes_of "refused 1 at 0\n")
    ∷ (accepted of bytes_of "aag 1 1 0 1 0\n2\n4\n" is bytes_of "refused 5 at 16\n")
    ∷ (accepted of bytes_of "aag 2 2 0 0 0\n2\n2\n" is bytes_of "refused 6 at 16\n")
    ∷ (accepted of bytes_of "aag 2 1 0 1 0\n2\n4\n" is bytes_of "refused 7 at 2\n")
    ∷ (accepted of bytes_of "aag 2 0 0 0 2\n2 4 1\n4 2 1\n" is bytes_of "refused 8 at 1\n")
    ∷ (accepted of bytes_of "aig 1 0 0 0 1\n" ++ (0x02 ∷ 0x00 ∷ []) is bytes_of "accepted")
    ∷ (accepted of bytes_of "aig 1 0 0 0 1\n" ++ (0x00 ∷ 0x00 ∷ []) is bytes_of "refused 9 at 14\n")
    ∷ (accepted of bytes_of "aig 1 0 0 0 1\n" ++ (0x82 ∷ 0x00 ∷ []) is bytes_of "refused 16 at 14\n")
    ∷ (accepted of bytes_of "aig 1 0 0 0 1\n" ++ (0x02 ∷ 0x01 ∷ []) is bytes_of "refused 9 at 15\n")
    ∷ (accepted of bytes_of "aig 1 0 0 0 1\n" ++ (0x02 ∷ []) is bytes_of "refused 1 at 15\n")
    ∷ (converted of toggle is bytes_of "aig 7 2 1 2 4\n14\n6\n7\n" ++ (0x02 ∷ 0x04 ∷ 0x03 ∷ 0x04 ∷ 0x01 ∷ 0x02 ∷ 0x02 ∷ 0x08 ∷ []))
    ∷ (reduced of halves is bytes_of "aig 1 1 0 1 0\n1\n")
    ∷ (outputs-on (bytes_of "x") of halves is bytes_of "x")
    ∷ (reduced-outputs-on (bytes_of "x") of halves is bytes_of "1")
    ∷ []

pub examples-hold : (v : Version) → map (λ (x : Example). answer v x.asked x.bytes) examples ≡ map (λ (x : Example). x.answered) examples
examples-hold V2007 = refl
examples-hold V19 = refl

-- the tracer on the toggle circuit: its whole output
pub tracer-lines : tracer (Some toggle) (Some (bytes_of "11\n11\nx1\n10\n")) ≡ bytes_of "0 11 01 1\n1 11 10 0\n0 x1 01 x\nx 10 xx 0\n"
tracer-lines = refl
