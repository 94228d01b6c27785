-- Equal sides give that side; a side and its negation give 0; a side 0 gives 0; a side 1 gives the other. The answers are given by `equal`,
-- `opposite` and `left-zero`.
use mathlib.Core.Path.{◌≡◌, ap, ◌∙◌}
use Rattle.plan.specs.Literals.{word_of, neg_of}
use Rattle.reduce.proofs.folding.Rules.{equal, opposite, left-zero, right_zero, left_one, right-one, no-rule}
use Rattle.reduce.proofs.folding.by_sides.Goals as goal

pub returns-then-x-y : goal.returns-then-x-y
returns-then-x-y c = equal c.word-x.ensures c.word-y.ensures c.if-x-y.true

pub returns-then-x-word : goal.returns-then-x-word
returns-then-x-word c =
    let turned : c.word.result ≡ neg_of (word_of c.args.b) =
    c.word.ensures ∙ ap word_of c.negated.ensures in
    opposite c.word-x.ensures c.word-y.ensures c.if-x-y.false (turned)
    c.if-x-word.true

pub returns-then-x-eq0 : goal.returns-then-x-eq0
returns-then-x-eq0 c =
    let turned : c.word.result ≡ neg_of (word_of c.args.b) =
    c.word.ensures ∙ ap word_of c.negated.ensures in
    left-zero c.word-x.ensures c.word-y.ensures c.if-x-y.false (turned)
    c.if-x-word.false c.if-x-eq0.true

pub returns-then-y-eq0 : goal.returns-then-y-eq0
returns-then-y-eq0 c =
    let turned : c.word.result ≡ neg_of (word_of c.args.b) =
    c.word.ensures ∙ ap word_of c.negated.ensures in
    right_zero c.word-x.ensures c.word-y.ensures c.if-x-y.false (turned)
    c.if-x-word.false c.if-x-eq0.false c.if-y-eq0.true

pub returns-then-x-eq1 : goal.returns-then-x-eq1
returns-then-x-eq1 c =
    let turned : c.word.result ≡ neg_of (word_of c.args.b) =
    c.word.ensures ∙ ap word_of c.negated.ensures in
    left_one c.word-x.ensures c.word-y.ensures c.if-x-y.false (turned)
    c.if-x-word.false c.if-x-eq0.false c.if-y-eq0.false c.if-x-eq1.true

pub returns-then-y-eq1 : goal.returns-then-y-eq1
returns-then-y-eq1 c =
    let turned : c.word.result ≡ neg_of (word_of c.args.b) =
    c.word.ensures ∙ ap word_of c.negated.ensures in
    right-one c.word-x.ensures c.word-y.ensures c.if-x-y.false (turned)
    c.if-x-word.false c.if-x-eq0.false c.if-y-eq0.false
    c.if-x-eq1.false c.if-y-eq1.true

pub returns : goal.returns
returns c =
    let turned : c.word.result ≡ neg_of (word_of c.args.b) =
    c.word.ensures ∙ ap word_of c.negated.ensures in
    no-rule c.word-x.ensures c.word-y.ensures c.if-x-y.false (turned)
    c.if-x-word.false c.if-x-eq0.false c.if-y-eq0.false
    c.if-x-eq1.false c.if-y-eq1.false
