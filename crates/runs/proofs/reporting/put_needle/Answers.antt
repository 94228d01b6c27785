-- A needle's line from a position on: a letter with its number, and its four numbers. The answers are given by `line-parts`, `one_line` and
-- `wrote-more`.
use Prim.Native.Nat.{ℕ, ◌+◌, ◌≤◌}
use mathlib.Core.Path.{ap, ◌∙◌}
use mathlib.Core.List.{List, [], ◌∷◌, ◌++◌}
use native.Mathlib.Omega.{arith}
use lib.ListN.{length, set}
use Rattle.plan.specs.Bytes.{digits, line_of}
use Rattle.plan.specs.Outcome.{put}
use Rattle.codec.proofs.numbers.Length.{digits-twenty}
use Rattle.runs.proofs.reporting.Lines.{Wrote, wrote-first, wrote-more, wrote-byte, line-parts, one_line, line-short}
use Rattle.runs.proofs.reporting.put_needle.Goals as goal

pub put_digits-end-requires : goal.put_digits-end-requires
put_digits-end-requires c =
    let few-digits : length (digits c.args.number) ≤ 20 =
    digits-twenty c.args.number (omega (arith, c.well_formed)) in
    let lettered : let a = c.args in Wrote a.out.now a.at (a.letter ∷ []) (set a.out.now a.at a.letter) (a.at + 1) =
    let a = c.args in wrote-first a.out.now a.at a.letter (omega (arith, c.requires.at_in_bounds)) in
    omega (arith, few-digits, (lettered).size, c.requires.at_in_bounds)

pub bounds-out-end : goal.bounds-out-end
bounds-out-end c =
    let few-digits : length (digits c.args.number) ≤ 20 =
    digits-twenty c.args.number (omega (arith, c.well_formed)) in
    let lettered : let a = c.args in Wrote a.out.now a.at (a.letter ∷ []) (set a.out.now a.at a.letter) (a.at + 1) =
    let a = c.args in wrote-first a.out.now a.at a.letter (omega (arith, c.requires.at_in_bounds)) in
    let numbered : let a = c.args in Wrote a.out.now a.at ((a.letter ∷ []) ++ digits a.number) c.put_digits-end.new.out c.put_digits-end.result =
    wrote-more (lettered) (digits c.args.number) _ _ (omega (arith, few-digits, c.requires.at_in_bounds)) c.put_digits-end.ensures.out_after c.put_digits-end.ensures.value in
    omega (arith, few-digits, c.requires.at_in_bounds, (numbered).size, c.put_digits-end.ensures.value)

pub overflow_add-end : goal.overflow_add-end
overflow_add-end c =
    let few-digits : length (digits c.args.number) ≤ 20 =
    digits-twenty c.args.number (omega (arith, c.well_formed)) in
    omega (arith, few-digits, c.requires.at_in_bounds, c.put_digits-end.ensures.value, c.well_formed)

pub write_lines-requires : goal.write_lines-requires
write_lines-requires c =
    let few-digits : length (digits c.args.number) ≤ 20 =
    digits-twenty c.args.number (omega (arith, c.well_formed)) in
    let lettered : let a = c.args in Wrote a.out.now a.at (a.letter ∷ []) (set a.out.now a.at a.letter) (a.at + 1) =
    let a = c.args in wrote-first a.out.now a.at a.letter (omega (arith, c.requires.at_in_bounds)) in
    let numbered : let a = c.args in Wrote a.out.now a.at ((a.letter ∷ []) ++ digits a.number) c.put_digits-end.new.out c.put_digits-end.result =
    wrote-more (lettered) (digits c.args.number) _ _ (omega (arith, few-digits, c.requires.at_in_bounds)) c.put_digits-end.ensures.out_after c.put_digits-end.ensures.value in
    let spaced : let a = c.args in Wrote a.out.now a.at (((a.letter ∷ []) ++ digits a.number) ++ (32 ∷ [])) (set c.put_digits-end.new.out c.put_digits-end.result 32) (c.put_digits-end.result + 1) =
    wrote-byte (numbered) 32 (omega (arith, few-digits, c.requires.at_in_bounds, c.put_digits-end.ensures.value)) in
    let short : length (line_of c.args.row.now) ≤ 44 =
    let a = c.args in
    omega (arith, line-short a.row.now (λ i. omega (arith, c.type_inv.row i)), c.requires.row_len) in
    let size = ap length (one_line c.args.row.now c.requires.row_len) in
    record { k_nonzero = omega arith; n_in_bounds = omega (arith, c.requires.row_len); n_bound = omega arith; table_in_bounds = omega (arith, size, short, few-digits, c.requires.at_in_bounds, c.put_digits-end.ensures.value, (spaced).size) }

pub shape_of-out : goal.shape_of-out
shape_of-out c =
    let few-digits : length (digits c.args.number) ≤ 20 =
    digits-twenty c.args.number (omega (arith, c.well_formed)) in
    let lettered : let a = c.args in Wrote a.out.now a.at (a.letter ∷ []) (set a.out.now a.at a.letter) (a.at + 1) =
    let a = c.args in wrote-first a.out.now a.at a.letter (omega (arith, c.requires.at_in_bounds)) in
    let numbered : let a = c.args in Wrote a.out.now a.at ((a.letter ∷ []) ++ digits a.number) c.put_digits-end.new.out c.put_digits-end.result =
    wrote-more (lettered) (digits c.args.number) _ _ (omega (arith, few-digits, c.requires.at_in_bounds)) c.put_digits-end.ensures.out_after c.put_digits-end.ensures.value in
    let spaced : let a = c.args in Wrote a.out.now a.at (((a.letter ∷ []) ++ digits a.number) ++ (32 ∷ [])) (set c.put_digits-end.new.out c.put_digits-end.result 32) (c.put_digits-end.result + 1) =
    wrote-byte (numbered) 32 (omega (arith, few-digits, c.requires.at_in_bounds, c.put_digits-end.ensures.value)) in
    let short : length (line_of c.args.row.now) ≤ 44 =
    let a = c.args in
    omega (arith, line-short a.row.now (λ i. omega (arith, c.type_inv.row i)), c.requires.row_len) in
    let written : let a = c.args in Wrote a.out.now a.at ((((a.letter ∷ []) ++ digits a.number) ++ (32 ∷ [])) ++ line_of a.row.now) c.write_lines.new.out c.write_lines.result =
    let line = one_line c.args.row.now c.requires.row_len in
    wrote-more (spaced) (line_of c.args.row.now) _ _
    (omega (arith, short, few-digits, c.requires.at_in_bounds, c.put_digits-end.ensures.value))
    (c.write_lines.ensures.out_after ∙ ap (put (set c.put_digits-end.new.out c.put_digits-end.result 32)
    (c.put_digits-end.result + 1)) line)
    (c.write_lines.ensures.value ∙ ap (λ (l : List ℕ). c.put_digits-end.result + 1 + length l) line) in
    (written).size

pub returns : goal.returns
returns c =
    let few-digits : length (digits c.args.number) ≤ 20 =
    digits-twenty c.args.number (omega (arith, c.well_formed)) in
    let lettered : let a = c.args in Wrote a.out.now a.at (a.letter ∷ []) (set a.out.now a.at a.letter) (a.at + 1) =
    let a = c.args in wrote-first a.out.now a.at a.letter (omega (arith, c.requires.at_in_bounds)) in
    let numbered : let a = c.args in Wrote a.out.now a.at ((a.letter ∷ []) ++ digits a.number) c.put_digits-end.new.out c.put_digits-end.result =
    wrote-more (lettered) (digits c.args.number) _ _ (omega (arith, few-digits, c.requires.at_in_bounds)) c.put_digits-end.ensures.out_after c.put_digits-end.ensures.value in
    let spaced : let a = c.args in Wrote a.out.now a.at (((a.letter ∷ []) ++ digits a.number) ++ (32 ∷ [])) (set c.put_digits-end.new.out c.put_digits-end.result 32) (c.put_digits-end.result + 1) =
    wrote-byte (numbered) 32 (omega (arith, few-digits, c.requires.at_in_bounds, c.put_digits-end.ensures.value)) in
    let short : length (line_of c.args.row.now) ≤ 44 =
    let a = c.args in
    omega (arith, line-short a.row.now (λ i. omega (arith, c.type_inv.row i)), c.requires.row_len) in
    let written : let a = c.args in Wrote a.out.now a.at ((((a.letter ∷ []) ++ digits a.number) ++ (32 ∷ [])) ++ line_of a.row.now) c.write_lines.new.out c.write_lines.result =
    let line = one_line c.args.row.now c.requires.row_len in
    wrote-more (spaced) (line_of c.args.row.now) _ _
    (omega (arith, short, few-digits, c.requires.at_in_bounds, c.put_digits-end.ensures.value))
    (c.write_lines.ensures.out_after ∙ ap (put (set c.put_digits-end.new.out c.put_digits-end.result 32)
    (c.put_digits-end.result + 1)) line)
    (c.write_lines.ensures.value ∙ ap (λ (l : List ℕ). c.put_digits-end.result + 1 + length l) line) in
    let a = c.args in
    let line = line-parts a.letter a.number a.row.now in
    record {
      value = (written).place ∙ ap (λ (l : List ℕ). a.at + length l) line;
      upper_bound = omega (
        arith,
        c.write_lines.ensures.value,
        ap length
            (one_line a.row.now c.requires.row_len),
        short,
        few-digits,
        c.put_digits-end.ensures.value,
      );
      out_after = (written).filled ∙ ap (put a.out.now a.at) line;
    }
