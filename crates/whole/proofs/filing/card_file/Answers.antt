-- A refusal before anything is written, or the cards.
use Prim.Native.Nat.{ℕ}
use mathlib.Core.Path.{◌≡◌, refl, subst}
use mathlib.Core.List.{List}
use Rattle.std.specs.Prelude.{Result}
use Rattle.plan.specs.declared.Refusal.{Refusal}
use Rattle.plan.specs.declared.Counts.{Counts}
use Rattle.plan.specs.Circuit.{Tables, seven}
use Rattle.plan.specs.Given.{Given}
use Rattle.tables.specs.declared.Sizes.{Sizes}
use Rattle.tables.specs.Lengths.{sizes_of}
use Rattle.laws.proofs.Pairs.{passed-on}
use Rattle.whole.specs.Opening.{OpenEntry, Opens}
use Rattle.whole.proofs.filing.Moving.{not-carded, file-carded}
use Rattle.whole.proofs.filing.card_file.Goals as goal

pub returns-in_err-n : goal.returns-in_err-n
returns-in_err-n c =
    let tables : Tables =
    let a = c.args in seven a.inputs.now a.latches.now a.outputs.now a.gates.now a.resets.now a.bads.now a.constraints.now in
    let entry : Sizes → OpenEntry =
    λ sizes. let a = c.args in
    record { readable = a.readable; file = a.file.now; tables = tables; scratch = a.scratch.now; made = sizes } in
    let held : Tables =
    seven c.open_file.new.inputs c.open_file.new.latches c.open_file.new.outputs c.open_file.new.gates
    c.open_file.new.resets c.open_file.new.bads c.open_file.new.constraints in
    let blank : List ℕ =
    c.open_file.new.scratch in
    let opens : (r : Result (Counts × ℕ) Refusal) → c.open_file.result ≡ r → Opens (entry (sizes_of (tables))) r (held) (blank) =
    λ r e. subst (λ (x : Result (Counts × ℕ) Refusal). Opens (entry (sizes_of (tables))) x (held) (blank)) e
    (subst (λ (z : Sizes). Opens (entry z) c.open_file.result (held) (blank)) c.lengths-own.ensures c.open_file.ensures) in
    let a = c.args in
    rw (passed-on _ c.from_residual.ensures.1) (
    not-carded a.readable a.file.now (tables) a.scratch.now a.out.now _ (opens _ c.in_err-n.was))

pub returns : goal.returns
returns c =
    let tables : Tables =
    let a = c.args in seven a.inputs.now a.latches.now a.outputs.now a.gates.now a.resets.now a.bads.now a.constraints.now in
    let entry : Sizes → OpenEntry =
    λ sizes. let a = c.args in
    record { readable = a.readable; file = a.file.now; tables = tables; scratch = a.scratch.now; made = sizes } in
    let held : Tables =
    seven c.open_file.new.inputs c.open_file.new.latches c.open_file.new.outputs c.open_file.new.gates
    c.open_file.new.resets c.open_file.new.bads c.open_file.new.constraints in
    let blank : List ℕ =
    c.open_file.new.scratch in
    let opens : (r : Result (Counts × ℕ) Refusal) → c.open_file.result ≡ r → Opens (entry (sizes_of (tables))) r (held) (blank) =
    λ r e. subst (λ (x : Result (Counts × ℕ) Refusal). Opens (entry (sizes_of (tables))) x (held) (blank)) e
    (subst (λ (z : Sizes). Opens (entry z) c.open_file.result (held) (blank)) c.lengths-own.ensures c.open_file.ensures) in
    let a = c.args in
    let h = opens _ c.in_ok-n.was in
    let g : Given = record { counts = c.in_ok-n.n; tables = held; scratch = blank } in
    file-carded a.readable a.file.now (tables) a.scratch.now a.out.now g c.in_ok-n.start h.0 h.2.fine h.2.tail-ok _ refl _
    c.write_cards.ensures
