-- A file that is not opened is told by its refusal; else its circuit stands ready, and what was written is what is wanted of the file: `not_made`
-- and `made_told`.
use Prim.Native.Nat.{ℕ}
use mathlib.Core.Path.{◌≡◌, subst}
use mathlib.Core.List.{List}
use Rattle.std.specs.Prelude.{Result}
use Rattle.plan.specs.declared.Refusal.{Refusal}
use Rattle.plan.specs.declared.Counts.{Counts}
use Rattle.plan.specs.Circuit.{Tables, seven}
use Rattle.tables.specs.declared.Sizes.{Sizes}
use Rattle.tables.specs.Lengths.{sizes_of}
use Rattle.laws.proofs.Pairs.{passed-on}
use Rattle.whole.specs.Opening.{OpenEntry, Opens}
use Rattle.making.proofs.Files.{not_made, made_told, rest-ready}
use Rattle.making.proofs.make_file.Goals as goal

pub write_made-requires : goal.write_made-requires
write_made-requires c =
    let read : Tables =
    let a = c.args in
    seven a.inputs.now a.latches.now a.outputs.now a.gates.now a.resets.now a.bads.now a.constraints.now in
    let made : Tables =
    let a = c.args in
    seven a.made_inputs.now a.made_latches.now a.made_outputs.now a.made_gates.now a.made_resets.now a.made_bads.now
    a.made_constraints.now in
    let entry : Sizes → OpenEntry =
    λ sizes. let a = c.args in
    record { readable = a.readable; file = a.file.now; tables = read; scratch = a.scratch.now; made = sizes } in
    let held : Tables =
    seven c.open_file.new.inputs c.open_file.new.latches c.open_file.new.outputs c.open_file.new.gates c.open_file.new.resets c.open_file.new.bads
    c.open_file.new.constraints in
    let blank : List ℕ =
    c.open_file.new.scratch in
    let opens : (r : Result (Counts × ℕ) Refusal) → c.open_file.result ≡ r → Opens (entry (sizes_of (made))) r (held) (blank) =
    λ r e. subst (λ (x : Result (Counts × ℕ) Refusal). Opens (entry (sizes_of (made))) x (held) (blank)) e
    (subst (λ (z : Sizes). Opens (entry z) c.open_file.result (held) (blank)) c.lengths-made.ensures
    c.open_file.ensures) in
    let h = opens _ c.in_ok-n.was in
    rest-ready _ _ c.args.file.now (sizes_of (made)) h.2

pub returns-in_err-n : goal.returns-in_err-n
returns-in_err-n c =
    let read : Tables =
    let a = c.args in
    seven a.inputs.now a.latches.now a.outputs.now a.gates.now a.resets.now a.bads.now a.constraints.now in
    let made : Tables =
    let a = c.args in
    seven a.made_inputs.now a.made_latches.now a.made_outputs.now a.made_gates.now a.made_resets.now a.made_bads.now
    a.made_constraints.now in
    let entry : Sizes → OpenEntry =
    λ sizes. let a = c.args in
    record { readable = a.readable; file = a.file.now; tables = read; scratch = a.scratch.now; made = sizes } in
    let held : Tables =
    seven c.open_file.new.inputs c.open_file.new.latches c.open_file.new.outputs c.open_file.new.gates c.open_file.new.resets c.open_file.new.bads
    c.open_file.new.constraints in
    let blank : List ℕ =
    c.open_file.new.scratch in
    let opens : (r : Result (Counts × ℕ) Refusal) → c.open_file.result ≡ r → Opens (entry (sizes_of (made))) r (held) (blank) =
    λ r e. subst (λ (x : Result (Counts × ℕ) Refusal). Opens (entry (sizes_of (made))) x (held) (blank)) e
    (subst (λ (z : Sizes). Opens (entry z) c.open_file.result (held) (blank)) c.lengths-made.ensures
    c.open_file.ensures) in
    let a = c.args in
    rw (passed-on _ c.from_residual.ensures.1) (
    not_made a.readable a.file.now (read) (made) a.scratch.now a.out.now a.reduced a.dropped _ (opens _ c.in_err-n.was))

pub returns : goal.returns
returns c =
    let read : Tables =
    let a = c.args in
    seven a.inputs.now a.latches.now a.outputs.now a.gates.now a.resets.now a.bads.now a.constraints.now in
    let made : Tables =
    let a = c.args in
    seven a.made_inputs.now a.made_latches.now a.made_outputs.now a.made_gates.now a.made_resets.now a.made_bads.now
    a.made_constraints.now in
    let entry : Sizes → OpenEntry =
    λ sizes. let a = c.args in
    record { readable = a.readable; file = a.file.now; tables = read; scratch = a.scratch.now; made = sizes } in
    let held : Tables =
    seven c.open_file.new.inputs c.open_file.new.latches c.open_file.new.outputs c.open_file.new.gates c.open_file.new.resets c.open_file.new.bads
    c.open_file.new.constraints in
    let blank : List ℕ =
    c.open_file.new.scratch in
    let opens : (r : Result (Counts × ℕ) Refusal) → c.open_file.result ≡ r → Opens (entry (sizes_of (made))) r (held) (blank) =
    λ r e. subst (λ (x : Result (Counts × ℕ) Refusal). Opens (entry (sizes_of (made))) x (held) (blank)) e
    (subst (λ (z : Sizes). Opens (entry z) c.open_file.result (held) (blank)) c.lengths-made.ensures
    c.open_file.ensures) in
    let h = opens _ c.in_ok-n.was in
    let a = c.args in
    made_told a.readable a.file.now (read) (made) a.scratch.now a.out.now _ _ h.0 a.reduced a.dropped c.as_text.result c.as_text.ensures _
    c.write_made.ensures
