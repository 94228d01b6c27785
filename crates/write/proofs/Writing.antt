-- What a writer answers and leaves: the refusal before, or what is put.
use Prim.Native.Nat.{ℕ}
use mathlib.Core.Path.{◌≡◌, ap, sym, ◌∙◌}
use mathlib.Core.List.{List}
use Rattle.std.specs.Prelude.{Result, Err, Option, Some, None}
use Rattle.plan.specs.declared.Refusal.{Refusal}
use Rattle.plan.specs.declared.Refusal.TheVariants.{ShortBuffer}
use Rattle.plan.specs.Refusals.{stage}
use Rattle.plan.specs.Circuit.{cleared}
use Rattle.plan.specs.Given.{lacking_room, room_stage}
use Rattle.plan.specs.Outcome.{WriteExit, FileEntry, FileExit, put_by, put_bytes, written_by}

module _ (e : FileEntry) (bytes : List ℕ) (o : Option Refusal) {scratch : List ℕ} (blank : scratch ≡ cleared e.circuit.scratch) where
  pub refused-file : (r : Refusal) → o ≡ Some r
      → ◌≡◌ {A = FileExit} (record { answer = Err r; scratch = scratch; out = e.out }) (written_by o e bytes)
  refused-file r q =
      ap (λ (s : List ℕ). record { answer = Err r; scratch = s; out = e.out }) blank
      ∙ ap (λ (p : Option Refusal). written_by p e bytes) (sym q)

  pub written-file : {answer : Result ℕ Refusal} {out : List ℕ} → o ≡ room_stage e.out bytes
      → ◌≡◌ {A = WriteExit} (record { answer = answer; out = out }) (put_bytes e.out 0 bytes)
      → ◌≡◌ {A = FileExit} (record { answer = answer; scratch = scratch; out = out }) (written_by o e bytes)
  written-file {answer} {out} q w = go (lacking_room e.out 0 bytes) w ∙ ap (λ (p : Option Refusal). written_by p e bytes) (sym q)
    where
      go : (p : Option ℕ) → ◌≡◌ {A = WriteExit} (record { answer = answer; out = out }) (put_by p e.out 0 bytes)
          → ◌≡◌ {A = FileExit} (record { answer = answer; scratch = scratch; out = out }) (written_by (stage ShortBuffer p) e bytes)
      go None w = λ i. record { answer = (w i).answer; scratch = blank i; out = (w i).out }
      go (Some k) w = λ i. record { answer = (w i).answer; scratch = blank i; out = (w i).out }
