-- Circuits that agree under a one-to-one renaming convert to the same circuit, so to the same bytes, and reduce to the same.
use Prim.Native.Nat.{ℕ}
use mathlib.Core.Path.{◌≡◌, ap}
use Rattle.plan.specs.Circuit.{Circuit}
use Rattle.plan.specs.Binary.{binary_of}
use Rattle.plan.specs.Convert.{convert}
use Rattle.plan.specs.Reduce.{reduce}
use Rattle.same.specs.Agreement.{OneToOne, Agree}
use Rattle.same.proofs.Entries.{all_any}
use Rattle.same.proofs.Named.{Known}
use Rattle.same.proofs.Converted.{converted}

-- where nothing need be known of a variable
abbrev pub Any : ℕ → Type 0
Any v = Unit {0}

pub any-known : (c : Circuit) → Known Any c
any-known c = record {
  constants = tt;
  inputs = all_any (λ l. tt) c.inputs;
  latches = all_any (λ l. (tt, tt)) c.latches;
  resets = all_any (λ l. tt) c.resets;
  outputs = all_any (λ l. tt) c.outputs;
  bads = all_any (λ l. tt) c.bads;
  constraints = all_any (λ l. tt) c.constraints;
  gates = all_any (λ g. (tt, tt, tt)) c.gates;
}

module _ (rename : ℕ → ℕ) (one-to-one : OneToOne rename) (c d : Circuit) (agree : Agree rename c d) where
  pub same-conversion : convert c ≡ convert d
  same-conversion = converted rename Any (λ u v p q. one-to-one.different u v) one-to-one.constants c d (any-known c) agree

  pub same-reduction : reduce (convert c) ≡ reduce (convert d)
  same-reduction = ap reduce same-conversion

  pub same-converted-bytes : binary_of (convert c) ≡ binary_of (convert d)
  same-converted-bytes = ap binary_of same-conversion

  pub same-reduced-bytes : binary_of (reduce (convert c)) ≡ binary_of (reduce (convert d))
  same-reduced-bytes = ap binary_of same-reduction
