-- The number of lines: 1 at the length where the last has no end, then 12 (the paper, programs and their output). The answer is given by `scan-is`.
use mathlib.Core.Path.{sym, ◌∙◌}
use borrow.Author.Tests.{not-false}
use Rattle.runs.proofs.stimulus.Passing.{scan-is}
use Rattle.runs.proofs.stimulus.whole_lines.Goals as goal

pub returns : goal.returns
returns c =
    let a = c.args in
    let whole = sym c.ends.ensures ∙ not-false _ c.if-not-ends.false-raw in
    c.scan_lines.ensures ∙ scan-is a.width a.bytes.now whole
