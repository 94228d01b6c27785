-- The header by 1, 2, 21, 3, then 4, then the file in order, then 7, then 8. The answers are given by `accepted`, `short-told` and `some-table`.
use Prim.Native.Nat.{ℕ}
use mathlib.Core.Path.{sym, ap₂, ◌∙◌}
use lib.ListN.{length}
use Rattle.plan.specs.Circuit.{Tables, seven, words_with, against, least_short}
use Rattle.lines.proofs.header.Accepted.{accepted, not-accepted}
use Rattle.tables.specs.declared.Sizes.{Sizes}
use Rattle.tables.specs.Lengths.{lengths_in}
use Rattle.read.proofs.Fills.{header-told, short-told, rest-refused, rest-accepted, room_for}
use Rattle.laws.proofs.Pairs.{passed-on}
use Rattle.read.proofs.fill.Goals as goal

pub scratch_to_read-needed-requires : goal.scratch_to_read-needed-requires
scratch_to_read-needed-requires c =
    let head = accepted c.args.version c.args.file.now _ _ _ (sym c.in_ok-binary.was ∙ c.read_header.ensures) in
    let m = head.small in
    record { m_le_most = (m.0, m.1.1.1.0, m.1.1.1.1.1.0, m.1.1.1.1.1.1.0); i_le_most = (m.1.0, m.1.1.0) }

pub too_short-requires : goal.too_short-requires
too_short-requires c =
    let head = accepted c.args.version c.args.file.now _ _ _ (sym c.in_ok-binary.was ∙ c.read_header.ensures) in
    let m = head.small in
    (m.1.1.0, m.1.1.1.1.0)

pub returns-in-Some : goal.returns-in-Some
returns-in-Some c =
    let a = c.args in
    let t : Tables = seven a.inputs.now a.latches.now a.outputs.now a.gates.now a.resets.now a.bads.now a.constraints.now in
    let head = accepted c.args.version c.args.file.now _ _ _ (sym c.in_ok-binary.was ∙ c.read_header.ensures) in
    short-told a.version a.file.now t t a.scratch.now _ _ _ head.head _ (sym (c.too_short.ensures
    ∙ ap₂ (λ (k : ℕ) (x : Sizes). least_short (against 1 (words_with k c.in_ok-binary.n) (lengths_in x (length
    a.scratch.now)))) c.scratch_to_read-needed.ensures c.lengths-to.ensures) ∙ c.in-Some.is)

pub rest_of-requires : goal.rest_of-requires
rest_of-requires c =
    let a = c.args in
    let t : Tables = seven a.inputs.now a.latches.now a.outputs.now a.gates.now a.resets.now a.bads.now a.constraints.now in
    let head = accepted c.args.version c.args.file.now _ _ _ (sym c.in_ok-binary.was ∙ c.read_header.ensures) in
    record {
      room = room_for _ _ t a.scratch.now head.small (sym (c.too_short.ensures ∙ ap₂ (λ (k : ℕ)
          (x : Sizes). least_short (against 1 (words_with k c.in_ok-binary.n) (lengths_in x (length a.scratch.now))))
          c.scratch_to_read-needed.ensures c.lengths-to.ensures) ∙ c.in_default.is) c.requires;
      n_value = head.sum;
    }

pub returns-in_err-binary : goal.returns-in_err-binary
returns-in_err-binary c =
    let a = c.args in
    let t : Tables = seven a.inputs.now a.latches.now a.outputs.now a.gates.now a.resets.now a.bads.now a.constraints.now in
    rw (passed-on _ c.from_residual.ensures.1)
    (header-told a.version a.file.now t t a.scratch.now _ (not-accepted a.version a.file.now _ (sym c.in_err-binary.was
    ∙ c.read_header.ensures)))

pub returns-in_err-next : goal.returns-in_err-next
returns-in_err-next c =
    let a = c.args in
    let t : Tables = seven a.inputs.now a.latches.now a.outputs.now a.gates.now a.resets.now a.bads.now a.constraints.now in
    let t' : Tables = seven c.rest_of.new.inputs c.rest_of.new.latches c.rest_of.new.outputs
    c.rest_of.new.gates c.rest_of.new.resets c.rest_of.new.bads
    c.rest_of.new.constraints in
    let head = accepted c.args.version c.args.file.now _ _ _ (sym c.in_ok-binary.was ∙ c.read_header.ensures) in
    rw (passed-on _ c.from_residual-in_err-next.ensures.1)
    (rest-refused a.version a.file.now t t' a.scratch.now _ _ _ head.head (sym (c.too_short.ensures ∙ ap₂ (λ (k : ℕ) (x : Sizes). least_short (against 1 (words_with k c.in_ok-binary.n) (lengths_in x (length a.scratch.now)))) c.scratch_to_read-needed.ensures c.lengths-to.ensures) ∙ c.in_default.is) _ _ c.rest_of.ensures c.in_err-next.was)

pub returns : goal.returns
returns c =
    let a = c.args in
    let t : Tables = seven a.inputs.now a.latches.now a.outputs.now a.gates.now a.resets.now a.bads.now a.constraints.now in
    let t' : Tables = seven c.rest_of.new.inputs c.rest_of.new.latches c.rest_of.new.outputs
    c.rest_of.new.gates c.rest_of.new.resets c.rest_of.new.bads
    c.rest_of.new.constraints in
    let head = accepted c.args.version c.args.file.now _ _ _ (sym c.in_ok-binary.was ∙ c.read_header.ensures) in
    rest-accepted a.version a.file.now t t' a.scratch.now _ _ _ head.head (sym (c.too_short.ensures ∙ ap₂ (λ (k : ℕ) (x : Sizes). least_short (against 1 (words_with k c.in_ok-binary.n) (lengths_in x (length a.scratch.now)))) c.scratch_to_read-needed.ensures c.lengths-to.ensures) ∙ c.in_default.is) _ _
    (λ k. (c.type_inv.file k).fits) head.sum c.rest_of.ensures c.in_ok-next.was
