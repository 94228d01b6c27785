-- What is written is read back: a well-formed circuit and its tail, in text form and, in binary order, in binary form.
use Prim.Native.Nat.{ℕ, ◌≤◌}
use mathlib.Core.Path.{◌≡◌, refl, ap, ◌∙◌}
use mathlib.Core.Bool.{true}
use mathlib.Core.List.{List, ◌++◌}
use native.Mathlib.Omega.{arith}
use lib.ListN.{length, length-append, length-drop}
use Rattle.plan.specs.declared.Version.TheVariants.{V19}
use Rattle.plan.specs.Refusals.{got}
use Rattle.plan.specs.Circuit.{Circuit, counts_of}
use Rattle.plan.specs.Text.{text_of}
use Rattle.plan.specs.Binary.{binary_of, binary_order}
use Rattle.plan.specs.Tail.{TailOk}
use Rattle.plan.specs.Reading.{read_file, WellFormed, LongEnough}
use Rattle.laws.proofs.Reading.Places.{start-within}
use Rattle.laws.proofs.Reading.Exactly.{Accepts, complete, room-to-read}
use Rattle.laws.proofs.Reading.Shortest.{states-text, states-binary}

-- a tail that is handed back starts after the circuit's bytes
tail-starts : (bytes tail lengths : List ℕ) (c : Circuit) → Accepts V19 (bytes ++ tail) lengths c tail
    → read_file V19 (bytes ++ tail) lengths ≡ got c (length bytes)
tail-starts bytes tail lengths c a =
    let within : a.0 ≤ length (bytes ++ tail) = start-within (bytes ++ tail) V19 lengths c a.0 a.1 in
    let at : a.0 ≡ length bytes
    = omega (arith, length-append bytes tail, length-drop a.0 (bytes ++ tail), ap length a.2) in
    a.1 ∙ ap (got c) at

module _ (c : Circuit) (tail lengths : List ℕ) (w : WellFormed c) (t : TailOk V19 (counts_of c) tail) (room : LongEnough c lengths) where
  pub text-back : read_file V19 (text_of c ++ tail) lengths ≡ got c (length (text_of c))
  text-back =
      tail-starts (text_of c) tail lengths c (complete V19 (text_of c ++ tail) lengths c tail (states-text (text_of c ++ tail) c tail w t refl)
      (room-to-read (text_of c ++ tail) c lengths w room))

  pub binary-back : binary_order c ≡ true → read_file V19 (binary_of c ++ tail) lengths ≡ got c (length (binary_of c))
  binary-back o =
      tail-starts (binary_of c) tail lengths c (complete V19 (binary_of c ++ tail) lengths c tail (states-binary (binary_of c ++ tail) c tail w t refl o)
      (room-to-read (binary_of c ++ tail) c lengths w room))
