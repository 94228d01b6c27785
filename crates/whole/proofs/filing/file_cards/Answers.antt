-- A refusal before anything is written, or the binary form.
use Prim.Native.Nat.{ℕ}
use mathlib.Core.Path.{refl, sym, ap, ◌∙◌}
use mathlib.Core.List.{List}
use native.Mathlib.Omega.{arith}
use borrow.Author.Tests.{not-false}
use Rattle.plan.specs.Refusals.{Parse, ◌then◌}
use Rattle.plan.specs.Circuit.{Circuit, Tables, seven, lengths_of}
use Rattle.plan.specs.Binary.{binary_of}
use Rattle.plan.specs.Outcome.{ReadEntry, LoadExit}
use Rattle.plan.specs.Whole.{fitting_in}
use Rattle.laws.proofs.Pairs.{passed-on}
use Rattle.whole.specs.Parts.{told_by}
use Rattle.plan.specs.Cards.{read_cards}
use Rattle.whole.proofs.filing.Moving.{was_read, cards-refused, cards-end, cards-filed}
use Rattle.whole.proofs.filing.file_cards.Goals as goal

pub slice_bounds-write_binary-count : goal.slice_bounds-write_binary-count
slice_bounds-write_binary-count c =
    let tables : Tables =
    let a = c.args in seven a.inputs.now a.latches.now a.outputs.now a.gates.now a.resets.now a.bads.now a.constraints.now in
    let entry : ReadEntry =
    record { file = c.args.file.now; tables = tables; scratch = c.args.scratch.now } in
    let left : LoadExit =
    record {
      answer = c.read_cards.result;
      tables = seven c.read_cards.new.inputs c.read_cards.new.latches c.read_cards.new.outputs c.read_cards.new.gates
          c.read_cards.new.resets c.read_cards.new.bads c.read_cards.new.constraints;
      scratch = c.read_cards.new.scratch;
    } in
    let end = cards-end (entry) (left) c.read_cards.ensures c.in_ok-n.n c.in_ok-n.end c.in_ok-n.was in
    omega arith

pub slice_bounds-write_binary-start : goal.slice_bounds-write_binary-start
slice_bounds-write_binary-start c =
    let tables : Tables =
    let a = c.args in seven a.inputs.now a.latches.now a.outputs.now a.gates.now a.resets.now a.bads.now a.constraints.now in
    let entry : ReadEntry =
    record { file = c.args.file.now; tables = tables; scratch = c.args.scratch.now } in
    let left : LoadExit =
    record {
      answer = c.read_cards.result;
      tables = seven c.read_cards.new.inputs c.read_cards.new.latches c.read_cards.new.outputs c.read_cards.new.gates
          c.read_cards.new.resets c.read_cards.new.bads c.read_cards.new.constraints;
      scratch = c.read_cards.new.scratch;
    } in
    let end = cards-end (entry) (left) c.read_cards.ensures c.in_ok-n.n c.in_ok-n.end c.in_ok-n.was in
    omega arith

pub returns-in_err-n : goal.returns-in_err-n
returns-in_err-n c =
    let tables : Tables =
    let a = c.args in seven a.inputs.now a.latches.now a.outputs.now a.gates.now a.resets.now a.bads.now a.constraints.now in
    let filed : List ℕ → Parse (List ℕ) =
    λ file. read_cards file (lengths_of (tables) c.args.scratch.now) then λ x _. fitting_in c.args.out.now (binary_of x) in
    let entry : ReadEntry =
    record { file = c.args.file.now; tables = tables; scratch = c.args.scratch.now } in
    let left : LoadExit =
    record {
      answer = c.read_cards.result;
      tables = seven c.read_cards.new.inputs c.read_cards.new.latches c.read_cards.new.outputs c.read_cards.new.gates
          c.read_cards.new.resets c.read_cards.new.bads c.read_cards.new.constraints;
      scratch = c.read_cards.new.scratch;
    } in
    let a = c.args in
    rw (passed-on _ c.from_residual.ensures.1) (
    sym (ap (λ (p : Parse Circuit). told_by a.out.now (p then λ k _. fitting_in a.out.now (binary_of k)))
    (cards-refused (entry) (left) c.read_cards.ensures _ c.in_err-n.was))
    ∙ was_read a.file.now a.out.now (filed) a.readable (not-false _ c.if-not-readable.false-raw) c.if-file-gt-LONGEST.false)

pub returns : goal.returns
returns c =
    let tables : Tables =
    let a = c.args in seven a.inputs.now a.latches.now a.outputs.now a.gates.now a.resets.now a.bads.now a.constraints.now in
    let filed : List ℕ → Parse (List ℕ) =
    λ file. read_cards file (lengths_of (tables) c.args.scratch.now) then λ x _. fitting_in c.args.out.now (binary_of x) in
    let entry : ReadEntry =
    record { file = c.args.file.now; tables = tables; scratch = c.args.scratch.now } in
    let left : LoadExit =
    record {
      answer = c.read_cards.result;
      tables = seven c.read_cards.new.inputs c.read_cards.new.latches c.read_cards.new.outputs c.read_cards.new.gates
          c.read_cards.new.resets c.read_cards.new.bads c.read_cards.new.constraints;
      scratch = c.read_cards.new.scratch;
    } in
    let a = c.args in
    cards-filed (entry) (left) c.read_cards.ensures c.in_ok-n.n c.in_ok-n.end c.in_ok-n.was
    _ a.out.now refl _ c.write_binary.ensures
    ∙ was_read a.file.now a.out.now (filed) a.readable (not-false _ c.if-not-readable.false-raw) c.if-file-gt-LONGEST.false
