-- The same of calls in a row, each handed what the one before left, whatever tables and buffers they are lent: two text files that agree,
-- read, converted and written as binary, or read, converted, reduced and written, give the same bytes.
use Prim.Native.Nat.{ℕ}
use mathlib.Core.Path.{◌≡◌, sym, ap, ap₂, ◌∙◌}
use mathlib.Core.List.{List, ◌++◌}
use Rattle.plan.specs.Circuit.{Circuit, circuit_of}
use Rattle.plan.specs.Binary.{binary_of}
use Rattle.plan.specs.Convert.{convert}
use Rattle.plan.specs.Reduce.{reduce}
use Rattle.plan.specs.Outcome.{write_binary, conversion, reduction}
use Rattle.laws.proofs.Writing.Calls.{ReadCall, MakeCall, WriteCall, read_circuit, read_tail, made_circuit, file_of, FromRead, FromMade}
use Rattle.laws.proofs.Writing.Calls.{read-formed, converted-is, reduced-is}
use Rattle.laws.proofs.Writing.Written.{binary-bytes}
use Rattle.same.specs.Agreement.{Agree}
use Rattle.same.proofs.Accepted.{accepted-same-conversion}

-- a read and a conversion of what was read
pub record Converting : Type 0 where
  pub read : ReadCall
  pub make : MakeCall conversion
  pub from : FromRead make.entry.circuit read

circuit-converted : (x : Converting) → made_circuit conversion x.make ≡ convert (read_circuit x.read)
circuit-converted x = converted-is x.make ∙ ap convert (ap₂ circuit_of x.from.0 x.from.1)

-- then written, with the tail that was read
pub record ConvertedWrite (x : Converting) : Type 0 where
  pub write : WriteCall write_binary
  pub from : FromMade conversion write.entry.circuit x.make
  pub tail : write.entry.tail ≡ read_tail x.read

-- or reduced and then written
pub record ReducedWrite (x : Converting) : Type 0 where
  pub lessen : MakeCall reduction
  pub handed : FromMade conversion lessen.entry.circuit x.make
  pub write : WriteCall write_binary
  pub from : FromMade reduction write.entry.circuit lessen
  pub tail : write.entry.tail ≡ read_tail x.read

converted-file : (x : Converting) (w : ConvertedWrite x) → file_of write_binary w.write ≡ binary_of (convert (read_circuit x.read)) ++ read_tail x.read
converted-file x w =
    binary-bytes w.write.entry w.write.size w.write.accepted
    ∙ ap₂ (λ (c : Circuit) (t : List ℕ). binary_of c ++ t) (ap₂ circuit_of w.from.0 w.from.1 ∙ circuit-converted x) w.tail

reduced-file : (x : Converting) (w : ReducedWrite x)
    → file_of write_binary w.write ≡ binary_of (reduce (convert (read_circuit x.read))) ++ read_tail x.read
reduced-file x w =
    binary-bytes w.write.entry w.write.size w.write.accepted
    ∙ ap₂ (λ (c : Circuit) (t : List ℕ). binary_of c ++ t)
    (ap₂ circuit_of w.from.0 w.from.1
    ∙ (reduced-is w.lessen ∙ ap reduce (ap₂ circuit_of w.handed.0 w.handed.1 ∙ circuit-converted x))) w.tail

module _ (rename : ℕ → ℕ) (fixed : rename 0 ≡ 0) (x y : Converting) (agree : Agree rename (read_circuit x.read) (read_circuit y.read))
    (tails : read_tail x.read ≡ read_tail y.read) where
  same : convert (read_circuit x.read) ≡ convert (read_circuit y.read)
  same =
      accepted-same-conversion rename fixed (read_circuit x.read) (read_circuit y.read) agree (read-formed x.read) (read-formed y.read)

  pub same-converted-file : (v : ConvertedWrite x) (w : ConvertedWrite y) → file_of write_binary v.write ≡ file_of write_binary w.write
  same-converted-file v w =
      converted-file x v ∙ (ap₂ (λ (c : Circuit) (t : List ℕ). binary_of c ++ t) same tails ∙ sym (converted-file y w))

  pub same-reduced-file : (v : ReducedWrite x) (w : ReducedWrite y) → file_of write_binary v.write ≡ file_of write_binary w.write
  same-reduced-file v w =
      reduced-file x v ∙ (ap₂ (λ (c : Circuit) (t : List ℕ). binary_of (reduce c) ++ t) same tails ∙ sym (reduced-file y w))
