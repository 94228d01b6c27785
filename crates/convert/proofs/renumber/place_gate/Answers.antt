-- Gate i goes to the row of its number. The answers are given by `gate_at` and `double-word`.
use Prim.Native.Nat.{◌+◌, ◌*◌, ◌-◌, ◌<◌, ◌≤◌, min, max}
use mathlib.Core.Path.{◌≡◌, sym, ap, ap₂, ◌∙◌, subst}
use native.Mathlib.Omega.{arith}
use lib.ListN.{length, length-set}
use Rattle.plan.specs.Circuit.{Gate}
use Rattle.plan.specs.Literals.{lit_of, lit_at, word_of, var_at, doubled}
use Rattle.laws.proofs.Tables.{gate_at}
use Rattle.convert.specs.renumber.Renumbered.{number_in, literal_by, Known, gate_by, row_of, with_gate}
use Rattle.convert.proofs.renumber.Literals.{double-word}
use Rattle.convert.proofs.renumber.place_gate.Goals as goal

pub number_of-number-requires : goal.number_of-number-requires
number_of-number-requires c = subst (λ l. Known c.args.t.now (word_of l)) (sym c.at.ensures) c.requires.placeable.lhs

pub renumbered-rhs0-requires : goal.renumbered-rhs0-requires
renumbered-rhs0-requires c =
    subst (λ l. Known c.args.t.now (word_of l)) (sym c.at-2.ensures) c.requires.placeable.rhs0

pub renumbered-rhs1-requires : goal.renumbered-rhs1-requires
renumbered-rhs1-requires c =
    subst (λ l. Known c.args.t.now (word_of l)) (sym c.at-3.ensures) c.requires.placeable.rhs1

pub overflow_sub-k : goal.overflow_sub-k
overflow_sub-k c =
    let gate : Gate =
    gate_at c.args.gates.now c.args.i in
    let number_is : c.number_of-number.result ≡ number_in c.args.t.now (gate).lhs =
    c.number_of-number.ensures ∙ ap (λ l. number_in c.args.t.now (word_of l)) c.at.ensures in
    let row_ends : let a = c.args in (a.first ≤ c.number_of-number.result) × (3 * (c.number_of-number.result - a.first) + 2 < length a.to.now) =
    let n = number_is in
    (omega (arith, n, c.requires.placeable.from), omega (arith, n, c.requires.placeable.from, c.requires.placeable.below, c.requires.i_in_bounds.1)) in
    (row_ends).0

pub bounds-to-k : goal.bounds-to-k
bounds-to-k c =
    let gate : Gate =
    gate_at c.args.gates.now c.args.i in
    let number_is : c.number_of-number.result ≡ number_in c.args.t.now (gate).lhs =
    c.number_of-number.ensures ∙ ap (λ l. number_in c.args.t.now (word_of l)) c.at.ensures in
    let row_ends : let a = c.args in (a.first ≤ c.number_of-number.result) × (3 * (c.number_of-number.result - a.first) + 2 < length a.to.now) =
    let n = number_is in
    (omega (arith, n, c.requires.placeable.from), omega (arith, n, c.requires.placeable.from, c.requires.placeable.below, c.requires.i_in_bounds.1)) in
    omega (arith, (row_ends).1)

pub bounds-to-k-2 : goal.bounds-to-k-2
bounds-to-k-2 c =
    let gate : Gate =
    gate_at c.args.gates.now c.args.i in
    let number_is : c.number_of-number.result ≡ number_in c.args.t.now (gate).lhs =
    c.number_of-number.ensures ∙ ap (λ l. number_in c.args.t.now (word_of l)) c.at.ensures in
    let row_ends : let a = c.args in (a.first ≤ c.number_of-number.result) × (3 * (c.number_of-number.result - a.first) + 2 < length a.to.now) =
    let n = number_is in
    (omega (arith, n, c.requires.placeable.from), omega (arith, n, c.requires.placeable.from, c.requires.placeable.below, c.requires.i_in_bounds.1)) in
    simp length-set (omega (arith, (row_ends).1))

pub bounds-to-k-3 : goal.bounds-to-k-3
bounds-to-k-3 c =
    let gate : Gate =
    gate_at c.args.gates.now c.args.i in
    let number_is : c.number_of-number.result ≡ number_in c.args.t.now (gate).lhs =
    c.number_of-number.ensures ∙ ap (λ l. number_in c.args.t.now (word_of l)) c.at.ensures in
    let row_ends : let a = c.args in (a.first ≤ c.number_of-number.result) × (3 * (c.number_of-number.result - a.first) + 2 < length a.to.now) =
    let n = number_is in
    (omega (arith, n, c.requires.placeable.from), omega (arith, n, c.requires.placeable.from, c.requires.placeable.below, c.requires.i_in_bounds.1)) in
    simp length-set (omega (arith, (row_ends).1))

pub returns : goal.returns
unfolding gate_by row_of
returns c =
    let gate : Gate =
    gate_at c.args.gates.now c.args.i in
    let number_is : c.number_of-number.result ≡ number_in c.args.t.now (gate).lhs =
    c.number_of-number.ensures ∙ ap (λ l. number_in c.args.t.now (word_of l)) c.at.ensures in
    let first-is : c.renumbered-rhs0.result ≡ lit_at (literal_by c.args.t.now (gate).rhs0) =
    c.renumbered-rhs0.ensures ∙ ap (λ l. lit_at (literal_by c.args.t.now (word_of l))) c.at-2.ensures in
    let second_is : c.renumbered-rhs1.result ≡ lit_at (literal_by c.args.t.now (gate).rhs1) =
    c.renumbered-rhs1.ensures ∙ ap (λ l. lit_at (literal_by c.args.t.now (word_of l))) c.at-3.ensures in
    let t = c.args.t.now in
    let g = gate in
    let number = number_is in
    let row : c.number_of-number.result - c.args.first ≡ number_in t g.lhs - c.args.first = ap (λ k. k - c.args.first) number in
    let var = ap doubled (c.at-4.ensures ∙ ap var_at number) in
    let lhs : c.word.result ≡ lit_of (number_in t g.lhs)
    = c.word.ensures ∙ (ap word_of (c.lit.ensures ∙ var) ∙ double-word (number_in t g.lhs) c.requires.placeable.lhs.1) in
    let rhs0 : c.word-2.result ≡ max (literal_by t g.rhs0) (literal_by t g.rhs1)
    = c.word-2.ensures ∙ (ap word_of c.larger.ensures ∙ ap₂ (λ a b. max (word_of a) (word_of b)) (first-is) (second_is)) in
    let rhs1 : c.word-3.result ≡ min (literal_by t g.rhs0) (literal_by t g.rhs1)
    = c.word-3.ensures ∙ (ap word_of c.smaller.ensures ∙ ap₂ (λ a b. min (word_of a) (word_of b)) (first-is) (second_is)) in
    λ j. with_gate c.args.to.now (row j) (record { lhs = lhs j; rhs0 = rhs0 j; rhs1 = rhs1 j })
