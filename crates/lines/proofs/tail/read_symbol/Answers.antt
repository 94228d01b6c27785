-- A line that was read is judged by its entry's word.
use mathlib.Core.Path.{sym, ◌∙◌}
use native.Mathlib.Omega.{arith}
use Rattle.lines.proofs.tail.Words.{line_refused, too_far, word_fits, second, first-time}
use Rattle.laws.proofs.Pairs.{passed-on}
use Rattle.lines.proofs.tail.read_symbol.Goals as goal

pub returns-then-count_of-e : goal.returns-then-count_of-e
returns-then-count_of-e c =
    let a = c.args in
    let whole = too_far a.file.now a.n a.marks.now a.at c.requires.holds c.in_ok-entry.entry c.in_ok-entry.next (sym c.in_ok-entry.was ∙ c.read_line.ensures) _
    c.count_of.ensures c.if-count_of-e.true in
    record { value = whole.0; marks_after = whole.1 }

pub overflow_add-w : goal.overflow_add-w
overflow_add-w c =
    let a = c.args in
    let inside =
    word_fits a.file.now a.n a.marks.now a.at c.requires.holds c.in_ok-entry.entry c.in_ok-entry.next (sym c.in_ok-entry.was ∙ c.read_line.ensures) _ _
    c.count_of.ensures c.if-count_of-e.false c.first_word.ensures in
    omega arith

pub offset_bounds-marks-w : goal.offset_bounds-marks-w
offset_bounds-marks-w c =
    let a = c.args in
    let inside =
    word_fits a.file.now a.n a.marks.now a.at c.requires.holds c.in_ok-entry.entry c.in_ok-entry.next (sym c.in_ok-entry.was ∙ c.read_line.ensures) _ _
    c.count_of.ensures c.if-count_of-e.false c.first_word.ensures in
    omega arith

pub bounds-marks-w : goal.bounds-marks-w
bounds-marks-w c =
    let a = c.args in
    let inside =
    word_fits a.file.now a.n a.marks.now a.at c.requires.holds c.in_ok-entry.entry c.in_ok-entry.next (sym c.in_ok-entry.was ∙ c.read_line.ensures) _ _
    c.count_of.ensures c.if-count_of-e.false c.first_word.ensures in
    omega arith

pub returns-then-marks-w-ne0 : goal.returns-then-marks-w-ne0
returns-then-marks-w-ne0 c =
    let a = c.args in
    let whole = second a.file.now a.n a.marks.now a.at c.requires.holds c.in_ok-entry.entry c.in_ok-entry.next (sym c.in_ok-entry.was ∙ c.read_line.ensures) _ _
    c.count_of.ensures c.if-count_of-e.false c.first_word.ensures c.if-marks-w-ne0.true in
    record { value = whole.0; marks_after = whole.1 }

pub offset_bounds-marks-w-2 : goal.offset_bounds-marks-w-2
offset_bounds-marks-w-2 c =
    let a = c.args in
    let inside =
    word_fits a.file.now a.n a.marks.now a.at c.requires.holds c.in_ok-entry.entry c.in_ok-entry.next (sym c.in_ok-entry.was ∙ c.read_line.ensures) _ _
    c.count_of.ensures c.if-count_of-e.false c.first_word.ensures in
    omega arith

pub bounds-marks-w-2 : goal.bounds-marks-w-2
bounds-marks-w-2 c =
    let a = c.args in
    let inside =
    word_fits a.file.now a.n a.marks.now a.at c.requires.holds c.in_ok-entry.entry c.in_ok-entry.next (sym c.in_ok-entry.was ∙ c.read_line.ensures) _ _
    c.count_of.ensures c.if-count_of-e.false c.first_word.ensures in
    omega arith

pub returns-in_err-entry : goal.returns-in_err-entry
returns-in_err-entry c =
    let a = c.args in
    let whole = line_refused a.file.now a.n a.marks.now a.at _ (sym c.in_err-entry.was ∙ c.read_line.ensures) in
    record { value = passed-on _ c.from_residual.ensures.1 ∙ whole.0; marks_after = whole.1 }

pub returns : goal.returns
returns c =
    let a = c.args in
    let whole = first-time a.file.now a.n a.marks.now a.at c.requires.holds c.in_ok-entry.entry c.in_ok-entry.next (sym c.in_ok-entry.was ∙ c.read_line.ensures) _ _
    c.count_of.ensures c.if-count_of-e.false c.first_word.ensures c.if-marks-w-ne0.false in
    record { value = whole.0; marks_after = whole.1 }
