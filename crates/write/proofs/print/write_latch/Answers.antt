-- With the current state, or without.
use Prim.Native.Nat.{ℕ, ◌+◌}
use mathlib.Core.Path.{sym, ap, ◌∙◌}
use mathlib.Core.List.{List}
use native.Mathlib.Omega.{arith}
use lib.ListN.{length}
use Rattle.plan.specs.Outcome.{put}
use Rattle.write.specs.print.Words.{word_bytes}
use Rattle.write.specs.print.Latches.{next_line}
use Rattle.write.proofs.print.Latches.{binary-line, text-line, fits-first, fits-second, ends-second, puts-second}
use Rattle.write.proofs.print.write_latch.Goals as goal

pub write_next-requires : goal.write_next-requires
write_next-requires c =
    let a = c.args in
    omega (arith, c.requires, ap length (binary-line a.binary a.current a.next a.reset c.if-binary.true))

pub returns-then-binary : goal.returns-then-binary
returns-then-binary c =
    let a = c.args in
    let line = sym (binary-line a.binary a.current a.next a.reset c.if-binary.true) in
    record { value = c.write_next.ensures.value ∙ ap (λ (l : List ℕ). a.at + length l) line; out_after = c.write_next.ensures.out_after ∙ ap (put a.out.now a.at) line }

pub write_word-second-requires : goal.write_word-second-requires
write_word-second-requires c =
    let a = c.args in
    fits-first a.out.now a.at (word_bytes 1 a.current) (next_line a.next a.reset) _
    (text-line a.binary a.current a.next a.reset c.if-binary.false) c.requires

pub write_next-requires-2 : goal.write_next-requires-2
write_next-requires-2 c =
    let a = c.args in
    fits-second a.out.now a.at (word_bytes 1 a.current) (next_line a.next a.reset) _
    (text-line a.binary a.current a.next a.reset c.if-binary.false) c.requires _ _
    c.write_word-second.ensures.value
    c.write_word-second.ensures.out_after

pub returns : goal.returns
returns c =
    let a = c.args in
    let line = text-line a.binary a.current a.next a.reset c.if-binary.false in
    record {
      value = ends-second a.out.now a.at (word_bytes 1 a.current) (next_line a.next a.reset) _ line c.requires _ _
          c.write_word-second.ensures.value c.write_word-second.ensures.out_after _ c.write_next-2.ensures.value;
      out_after = puts-second a.out.now a.at (word_bytes 1 a.current) (next_line a.next a.reset) _ line c.requires _ _
          c.write_word-second.ensures.value c.write_word-second.ensures.out_after _ c.write_next-2.ensures.out_after;
    }
