-- The next state alone, or its reset after it.
use mathlib.Core.Path.{sym, ap, ◌∙◌}
use native.Mathlib.Omega.{arith}
use mathlib.Core.List.{List}
use Prim.Native.Nat.{ℕ, ◌+◌}
use lib.ListN.{length}
use Rattle.plan.specs.Outcome.{put}
use Rattle.write.specs.print.Words.{word_bytes}
use Rattle.write.proofs.print.Latches.{next-alone, next_both, fits-first, fits-second, ends-second, puts-second}
use Rattle.write.proofs.print.write_next.Goals as goal

pub write_word-requires : goal.write_word-requires
write_word-requires c =
    let a = c.args in
    omega (arith, c.requires, ap length (next-alone a.next a.reset c.if-reset-eq0.true))

pub returns-then-reset-eq0 : goal.returns-then-reset-eq0
returns-then-reset-eq0 c =
    let a = c.args in
    let line = sym (next-alone a.next a.reset c.if-reset-eq0.true) in
    record { value = c.write_word.ensures.value ∙ ap (λ (l : List ℕ). a.at + length l) line; out_after = c.write_word.ensures.out_after ∙ ap (put a.out.now a.at) line }

pub write_word-second-requires : goal.write_word-second-requires
write_word-second-requires c =
    let a = c.args in
    fits-first a.out.now a.at (word_bytes 1 a.next) (word_bytes 0 a.reset) _
    (next_both a.next a.reset (omega (arith, c.if-reset-eq0.false))) c.requires

pub write_word-requires-2 : goal.write_word-requires-2
write_word-requires-2 c =
    let a = c.args in
    fits-second a.out.now a.at (word_bytes 1 a.next) (word_bytes 0 a.reset) _
    (next_both a.next a.reset (omega (arith, c.if-reset-eq0.false))) c.requires _ _ c.write_word-second.ensures.value c.write_word-second.ensures.out_after

pub returns : goal.returns
returns c =
    let a = c.args in
    let line = next_both a.next a.reset (omega (arith, c.if-reset-eq0.false)) in
    record {
      value = ends-second a.out.now a.at (word_bytes 1 a.next) (word_bytes 0 a.reset) _ line c.requires _ _
          c.write_word-second.ensures.value c.write_word-second.ensures.out_after _ c.write_word-2.ensures.value;
      out_after = puts-second a.out.now a.at (word_bytes 1 a.next) (word_bytes 0 a.reset) _ line c.requires _ _
          c.write_word-second.ensures.value c.write_word-second.ensures.out_after _ c.write_word-2.ensures.out_after;
    }
