-- A refusal, after which what was lent is cleared; or the file is open, and its circuit is converted.
use Prim.Native.Nat.{ℕ}
use mathlib.Core.Path.{◌≡◌, ◌∙◌, subst}
use mathlib.Core.List.{List}
use Rattle.std.specs.Prelude.{Result}
use Rattle.plan.specs.declared.Refusal.{Refusal}
use Rattle.plan.specs.declared.Counts.{Counts}
use Rattle.plan.specs.Circuit.{Tables, seven}
use Rattle.tables.specs.declared.Sizes.{Sizes}
use Rattle.tables.specs.Lengths.{sizes_of}
use Rattle.read.proofs.Loads.{same-cleared}
use Rattle.whole.specs.Opening.{OpenEntry, Opens}
use Rattle.whole.proofs.ordered.Converted.{not_opened, opened-made}
use Rattle.whole.proofs.ordered.open_made.Goals as goal

pub returns-in-Err : goal.returns-in-Err
returns-in-Err c =
    let read : Tables =
    let a = c.args in
    seven a.inputs.now a.latches.now a.outputs.now a.gates.now a.resets.now a.bads.now a.constraints.now in
    let lent : Tables =
    let a = c.args in
    seven a.made_inputs.now a.made_latches.now a.made_outputs.now a.made_gates.now
    a.made_resets.now a.made_bads.now a.made_constraints.now in
    let entry : OpenEntry =
    let a = c.args in
    record { readable = a.readable; file = a.file.now; tables = read; scratch = a.scratch.now; made = sizes_of (lent) } in
    let held : Tables =
    seven c.open_file.new.inputs c.open_file.new.latches c.open_file.new.outputs c.open_file.new.gates
    c.open_file.new.resets c.open_file.new.bads c.open_file.new.constraints in
    let blank : List ℕ =
    c.open_file.new.scratch in
    let opens : (r : Result (Counts × ℕ) Refusal) → c.open_file.result ≡ r → Opens (entry) r (held) (blank) =
    λ r e. let sizes = c.lengths-made.ensures in
    subst (λ (x : Result (Counts × ℕ) Refusal). Opens (entry) x (held) (blank)) e
    (subst (λ (z : Sizes). Opens (record {
      readable = c.args.readable;
      file = c.args.file.now;
      tables = read;
      scratch = c.args.scratch.now;
      made = z;
    }) c.open_file.result (held) (blank)) sizes c.open_file.ensures) in
    let a = c.args in
    not_opened a.readable a.file.now (read) (lent) a.scratch.now _ (opens _ c.in-Err.is) _ _
    c.clear_all.ensures
    (c.clear.ensures ∙ same-cleared (blank) a.scratch.now c.open_file.auto.scratch)

pub returns-in-Ok : goal.returns-in-Ok
returns-in-Ok c =
    let read : Tables =
    let a = c.args in
    seven a.inputs.now a.latches.now a.outputs.now a.gates.now a.resets.now a.bads.now a.constraints.now in
    let lent : Tables =
    let a = c.args in
    seven a.made_inputs.now a.made_latches.now a.made_outputs.now a.made_gates.now
    a.made_resets.now a.made_bads.now a.made_constraints.now in
    let entry : OpenEntry =
    let a = c.args in
    record { readable = a.readable; file = a.file.now; tables = read; scratch = a.scratch.now; made = sizes_of (lent) } in
    let held : Tables =
    seven c.open_file.new.inputs c.open_file.new.latches c.open_file.new.outputs c.open_file.new.gates
    c.open_file.new.resets c.open_file.new.bads c.open_file.new.constraints in
    let blank : List ℕ =
    c.open_file.new.scratch in
    let opens : (r : Result (Counts × ℕ) Refusal) → c.open_file.result ≡ r → Opens (entry) r (held) (blank) =
    λ r e. let sizes = c.lengths-made.ensures in
    subst (λ (x : Result (Counts × ℕ) Refusal). Opens (entry) x (held) (blank)) e
    (subst (λ (z : Sizes). Opens (record {
      readable = c.args.readable;
      file = c.args.file.now;
      tables = read;
      scratch = c.args.scratch.now;
      made = z;
    }) c.open_file.result (held) (blank)) sizes c.open_file.ensures) in
    let a = c.args in
    let h = opens _ c.in-Ok.is in
    opened-made a.readable a.file.now (read) (lent) a.scratch.now _ _ h.0 _ h.2
    c.open_file.auto.scratch _ c.convert.ensures
