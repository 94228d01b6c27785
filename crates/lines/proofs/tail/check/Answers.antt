-- The loop keeps the answer from here on, with the symbols seen; the measure is what is left of the file.
use mathlib.Core.Path.{sym, ◌∙◌}
use Rattle.lines.proofs.tail.Turns.{starts, ends, remarks, stops, falls, turns}
use Rattle.laws.proofs.Pairs.{passed-on}
use Rattle.lines.proofs.tail.check.Goals as goal

pub loop-pos-init : goal.loop-pos-init
loop-pos-init c =
    starts c.args.version c.args.file.now c.args.n c.args.at c.args.marks.now c.requires.holds c.requires.blank

pub returns-then-not-starts_symbol : goal.returns-then-not-starts_symbol
returns-then-not-starts_symbol c =
    remarks c.loop-pos.invariant _ c.loop-pos-test.true
    (sym c.starts_symbol.ensures ∙ c.if-not-starts_symbol.true)
    c.comment.ensures

pub returns-in_err-pos : goal.returns-in_err-pos
returns-in_err-pos c =
    passed-on _ c.from_residual.ensures.1
    ∙ stops c.loop-pos.invariant c.loop-pos-test.true
    (sym c.starts_symbol.ensures ∙ c.if-not-starts_symbol.false) _
    (sym c.in_err-pos.was ∙ c.read_symbol.ensures.value)

pub loop-pos-smaller : goal.loop-pos-smaller
loop-pos-smaller c =
    falls c.loop-pos.invariant c.loop-pos-test.true
    (sym c.starts_symbol.ensures ∙ c.if-not-starts_symbol.false) _
    (sym c.in_ok-pos.was ∙ c.read_symbol.ensures.value)

pub loop-pos-preserved : goal.loop-pos-preserved
loop-pos-preserved c =
    turns c.loop-pos.invariant c.loop-pos-test.true
    (sym c.starts_symbol.ensures ∙ c.if-not-starts_symbol.false) _
    (sym c.in_ok-pos.was ∙ c.read_symbol.ensures.value) _ c.read_symbol.ensures.marks_after

pub returns : goal.returns
returns c = ends c.loop-pos.invariant c.loop-pos-test.false
