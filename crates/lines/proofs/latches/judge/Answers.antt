-- The place of the first of a latch's three numbers that is out of its range. Each answer is rewritten with the tests that led to it.
use mathlib.Core.Path.{◌≡◌, sym, ap, ◌∙◌}
use mathlib.Core.Bool.{true, false}
use Rattle.plan.specs.declared.Lit.{Lit}
use Rattle.plan.specs.Literals.{word_of, in_range, is_reset}
use Rattle.lines.proofs.latches.judge.Goals as goal

pub returns-then-not-within : goal.returns-then-not-within
returns-then-not-within c =
    let a = c.args in
    let one : in_range true a.m a.own ≡ false = sym
    (c.within.ensures ∙ ap (λ (l : Lit). in_range true a.m (word_of l)) c.at.ensures) ∙ c.if-not-within.true in
    rw one

pub returns-then-not-within-2 : goal.returns-then-not-within-2
returns-then-not-within-2 c =
    let a = c.args in
    let one : in_range true a.m a.own ≡ true = sym
    (c.within.ensures
    ∙ ap (λ (l : Lit). in_range true a.m (word_of l)) c.at.ensures)
    ∙ c.if-not-within.false in
    let two : in_range false a.m a.next ≡ false = sym
    (c.within-2.ensures ∙ ap (λ (l : Lit). in_range false a.m (word_of l)) c.at-2.ensures)
    ∙ c.if-not-within-2.true in
    rw (one, two)

pub returns-then-not-is_reset : goal.returns-then-not-is_reset
returns-then-not-is_reset c =
    let a = c.args in
    let one : in_range true a.m a.own ≡ true = sym
    (c.within.ensures
    ∙ ap (λ (l : Lit). in_range true a.m (word_of l)) c.at.ensures)
    ∙ c.if-not-within.false in
    let two : in_range false a.m a.next ≡ true = sym
    (c.within-2.ensures ∙ ap (λ (l : Lit). in_range false a.m (word_of l))
    c.at-2.ensures) ∙ c.if-not-within-2.false in
    let three : is_reset a.own a.reset ≡ false = sym c.is_reset.ensures ∙ c.if-not-is_reset.true in
    rw (one, two, three)

pub returns : goal.returns
returns c =
    let a = c.args in
    let one : in_range true a.m a.own ≡ true = sym
    (c.within.ensures
    ∙ ap (λ (l : Lit). in_range true a.m (word_of l)) c.at.ensures)
    ∙ c.if-not-within.false in
    let two : in_range false a.m a.next ≡ true = sym
    (c.within-2.ensures ∙ ap (λ (l : Lit). in_range false a.m (word_of l))
    c.at-2.ensures) ∙ c.if-not-within-2.false in
    let three : is_reset a.own a.reset ≡ true = sym c.is_reset.ensures ∙ c.if-not-is_reset.false in
    rw (one, two, three)
