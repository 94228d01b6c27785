-- 14, 13, what the reader answers, then 4.
use Prim.Native.Nat.{◌≤◌}
use mathlib.Core.Path.{◌≡◌}
use mathlib.Core.Bool.{true}
use borrow.Author.Tests.{not-false}
use lib.ListN.{length}
use Rattle.plan.specs.Circuit.{seven}
use Rattle.plan.specs.Outcome.{LoadExit}
use Rattle.laws.proofs.Reading.Differences.{Bytes}
use Rattle.laws.proofs.Pairs.{passed-on}
use Rattle.whole.specs.Opening.{OpenEntry}
use Rattle.whole.proofs.Opened.{not-read, limits, made-short, made-long}
use Rattle.whole.proofs.open_file.Goals as goal

pub scratch_to_work-needed-requires : goal.scratch_to_work-needed-requires
scratch_to_work-needed-requires c =
    let entry : OpenEntry =
    let a = c.args in
    record {
      readable = a.readable;
      file = a.file.now;
      tables = seven a.inputs.now a.latches.now a.outputs.now a.gates.now
          a.resets.now a.bads.now a.constraints.now;
      scratch = a.scratch.now;
      made = a.made;
    } in
    let exit : LoadExit =
    record {
      answer = c.load.result;
      tables = seven c.load.new.inputs c.load.new.latches c.load.new.outputs c.load.new.gates
          c.load.new.resets c.load.new.bads c.load.new.constraints;
      scratch = c.load.new.scratch;
    } in
    let readable : (entry).readable ≡ true =
    not-false _ c.if-not-readable.false-raw in
    let fits : length (entry).file ≤ 65536 =
    c.if-file-gt-LONGEST.false in
    let bytes : Bytes (entry).file =
    λ k. (c.type_inv.file k).fits in
    let m = limits (entry) (readable) (fits) (exit) c.load.ensures (bytes) _ _ c.in_ok-n.was in
    (m.0, m.1.1.1.0, m.1.1.1.1.1.0, m.1.1.1.1.1.1.0)

pub too_short-requires : goal.too_short-requires
too_short-requires c =
    let entry : OpenEntry =
    let a = c.args in
    record {
      readable = a.readable;
      file = a.file.now;
      tables = seven a.inputs.now a.latches.now a.outputs.now a.gates.now
          a.resets.now a.bads.now a.constraints.now;
      scratch = a.scratch.now;
      made = a.made;
    } in
    let exit : LoadExit =
    record {
      answer = c.load.result;
      tables = seven c.load.new.inputs c.load.new.latches c.load.new.outputs c.load.new.gates
          c.load.new.resets c.load.new.bads c.load.new.constraints;
      scratch = c.load.new.scratch;
    } in
    let readable : (entry).readable ≡ true =
    not-false _ c.if-not-readable.false-raw in
    let fits : length (entry).file ≤ 65536 =
    c.if-file-gt-LONGEST.false in
    let bytes : Bytes (entry).file =
    λ k. (c.type_inv.file k).fits in
    let m = limits (entry) (readable) (fits) (exit) c.load.ensures (bytes) _ _ c.in_ok-n.was in
    (m.1.1.0, m.1.1.1.1.0)

pub returns-in-Some : goal.returns-in-Some
returns-in-Some c =
    let entry : OpenEntry =
    let a = c.args in
    record {
      readable = a.readable;
      file = a.file.now;
      tables = seven a.inputs.now a.latches.now a.outputs.now a.gates.now
          a.resets.now a.bads.now a.constraints.now;
      scratch = a.scratch.now;
      made = a.made;
    } in
    let exit : LoadExit =
    record {
      answer = c.load.result;
      tables = seven c.load.new.inputs c.load.new.latches c.load.new.outputs c.load.new.gates
          c.load.new.resets c.load.new.bads c.load.new.constraints;
      scratch = c.load.new.scratch;
    } in
    let readable : (entry).readable ≡ true =
    not-false _ c.if-not-readable.false-raw in
    let fits : length (entry).file ≤ 65536 =
    c.if-file-gt-LONGEST.false in
    let bytes : Bytes (entry).file =
    λ k. (c.type_inv.file k).fits in
    made-short (entry) (readable) (fits) (exit) c.load.ensures (bytes) _ _ c.in_ok-n.was _
    c.scratch_to_work-needed.ensures _ c.too_short.ensures _ c.in-Some.is

pub returns-in_err-n : goal.returns-in_err-n
returns-in_err-n c =
    let entry : OpenEntry =
    let a = c.args in
    record {
      readable = a.readable;
      file = a.file.now;
      tables = seven a.inputs.now a.latches.now a.outputs.now a.gates.now
          a.resets.now a.bads.now a.constraints.now;
      scratch = a.scratch.now;
      made = a.made;
    } in
    let exit : LoadExit =
    record {
      answer = c.load.result;
      tables = seven c.load.new.inputs c.load.new.latches c.load.new.outputs c.load.new.gates
          c.load.new.resets c.load.new.bads c.load.new.constraints;
      scratch = c.load.new.scratch;
    } in
    let readable : (entry).readable ≡ true =
    not-false _ c.if-not-readable.false-raw in
    let fits : length (entry).file ≤ 65536 =
    c.if-file-gt-LONGEST.false in
    rw (passed-on _ c.from_residual.ensures.1) (
    not-read (entry) (readable) (fits) (exit) c.load.ensures _ c.in_err-n.was)

pub returns : goal.returns
returns c =
    let entry : OpenEntry =
    let a = c.args in
    record {
      readable = a.readable;
      file = a.file.now;
      tables = seven a.inputs.now a.latches.now a.outputs.now a.gates.now
          a.resets.now a.bads.now a.constraints.now;
      scratch = a.scratch.now;
      made = a.made;
    } in
    let exit : LoadExit =
    record {
      answer = c.load.result;
      tables = seven c.load.new.inputs c.load.new.latches c.load.new.outputs c.load.new.gates
          c.load.new.resets c.load.new.bads c.load.new.constraints;
      scratch = c.load.new.scratch;
    } in
    let readable : (entry).readable ≡ true =
    not-false _ c.if-not-readable.false-raw in
    let fits : length (entry).file ≤ 65536 =
    c.if-file-gt-LONGEST.false in
    let bytes : Bytes (entry).file =
    λ k. (c.type_inv.file k).fits in
    made-long (entry) (readable) (fits) (exit) c.load.ensures (bytes) _ _ c.in_ok-n.was _
    c.scratch_to_work-needed.ensures _ c.too_short.ensures c.in_default.is
