-- The numbers of a latch's line as its own literal, its next state and its reset, which is 0 if it is left off: by 1. The answers are given by
-- `in-text` and `in-binary`.
use Prim.Native.Nat.{◌%◌, ◌^◌}
use mathlib.Core.Path.{◌≡◌, ap, ap₂, ◌∙◌}
use mathlib.Core.List.{List}
use native.Mathlib.Omega.{arith}
use Prim.Native.Nat.{ℕ}
use lib.ListN.{length, set, length-set}
use Rattle.plan.specs.Literals.{lit_of, word_of, doubled}
use Rattle.lines.proofs.latches.Frame.{in-text, in-binary}
use Rattle.lines.proofs.latches.read_frame.Goals as goal

pub overflow_add-more : goal.overflow_add-more
overflow_add-more c = omega arith

pub read_numbers-requires : goal.read_numbers-requires
read_numbers-requires c =
    record { must_le_may = omega arith; may_in_bounds = omega (arith, c.requires.more_bound, ap length c.requires.words_value); may_in_bounds_2 = omega (arith, c.requires.more_bound, ap length c.requires.places_value) }

pub returns-then-defines : goal.returns-then-defines
returns-then-defines c =
    let a = c.args in
    let whole = in-text a.file.now a.defines a.more a.v a.at c.requires.more_bound _ _ _ _ _
    c.if-defines.true c.requires.words_value c.requires.places_value c.read_numbers.ensures.value c.read_numbers.ensures.numbered in
    record { value = whole.0; words_after = whole.1 }

pub bounds-words-0 : goal.bounds-words-0
bounds-words-0 c = omega (arith, ap length c.requires.words_value)

pub overflow_add-more-2 : goal.overflow_add-more-2
overflow_add-more-2 c = omega arith

pub read_numbers-requires-2 : goal.read_numbers-requires-2
read_numbers-requires-2 c =
    record { must_le_may = omega arith; may_in_bounds = simp length-set (omega (arith, c.requires.more_bound, ap length c.requires.words_value)); may_in_bounds_2 = omega (arith, c.requires.more_bound, ap length c.requires.places_value) }

pub shape_of-words : goal.shape_of-words
shape_of-words c = c.read_numbers-2.auto.words ∙ simp length-set

pub returns : goal.returns
returns c =
    let a = c.args in
    let small : lit_of a.v % 2 ^ 32 ≡ lit_of a.v = omega (arith, c.requires.v_bound) in
    let own : c.word.result ≡ lit_of a.v
    = c.word.ensures
    ∙ ap word_of (c.lit.ensures
    ∙ ap doubled c.at.ensures) ∙ small in
    let whole = in-binary a.file.now a.defines a.more a.v a.at c.requires.more_bound _ _ _ _ _
    c.if-defines.false
    (ap₂ (λ (x : List ℕ) (y : ℕ). set x 0 y) c.requires.words_value own) c.requires.places_value c.read_numbers-2.ensures.value c.read_numbers-2.ensures.numbered in
    record { value = whole.0; words_after = whole.1 }
