-- The lines passed are read: `passed_to`, `line_word` and `fits` carry `Loop` from turn to turn, and `stops`, `twice-told` and `ends-here` give
-- the answer.
use Prim.Native.Nat.{ℕ, ◌*◌, ◌≤◌}
use mathlib.Core.Path.{◌≡◌, sym, ap, ap₂, ◌∙◌}
use mathlib.Core.Bool.{Bool}
use native.Mathlib.Omega.{arith}
use Rattle.plan.specs.Literals.{var_of, word_of}
use Rattle.plan.specs.Circuit.{literal_of}
use Rattle.lines.specs.Rows.{row, marked, marking}
use Rattle.lines.proofs.OneLine.{row-var}
use Rattle.lines.proofs.Marks.{marks-less}
use Rattle.lines.proofs.LinesLoop.{begins, fits, stops, passed_to, twice-told, turns, ends-here, line_word}
use Rattle.laws.proofs.Pairs.{passed-on}
use Rattle.lines.proofs.read_lines.Goals as goal

pub defined_before-requires : goal.defined_before-requires
defined_before-requires c =
    let a = c.args in
    let p = passed_to (row a.file.now a.k a.defines a.m c.loop-i.pos) _
    (sym c.in_ok-next.was ∙ c.read_row.ensures.value) in
    let held = c.read_row.ensures.by_index p.0 _ p.1 in
    let word : word_of c.at.result ≡ literal_of p.0
    = ap word_of c.at.ensures ∙ line_word a.file.now a.k a.defines a.m c.loop-i.pos p.0 _ p.1 c.requires.k_nonzero _ _
    (c.loop-i.i * a.k) held (fits c.loop-i.invariant c.requires.k_in_bounds c.loop-i-test.true) in
    let small : var_of (literal_of p.0) ≤ a.m = row-var a.file.now a.k a.defines a.m c.loop-i.pos p.0 _ c.requires.k_nonzero p.1 in
    marks-less a.defines _ a.m a.marks.now _ (omega (arith, ap var_of word, small)) c.loop-i.invariant.wide-marks c.requires.marks_for

pub returns-then-defined_before : goal.returns-then-defined_before
returns-then-defined_before c =
    let a = c.args in
    let room = c.requires.k_in_bounds in
    let p = passed_to (row a.file.now a.k a.defines a.m c.loop-i.pos) _ (sym c.in_ok-next.was ∙ c.read_row.ensures.value) in
    let held = c.read_row.ensures.by_index p.0 _ p.1 in
    let word : word_of c.at.result ≡ literal_of p.0
    = ap word_of c.at.ensures ∙ line_word a.file.now a.k a.defines a.m c.loop-i.pos p.0 _ p.1 c.requires.k_nonzero _ _ (c.loop-i.i * a.k) held
    (fits c.loop-i.invariant room c.loop-i-test.true) in
    let told = c.defined_before.ensures.value ∙ ap (λ (x : ℕ). marked a.defines (var_of x) c.loop-i.marks) word in
    twice-told c.loop-i.invariant room c.loop-i-test.true c.requires.k_nonzero p.0 _ p.1 _ _ (sym told ∙ c.if-defined_before.true)

pub loop-i-preserved : goal.loop-i-preserved
loop-i-preserved c =
    let a = c.args in
    let room = c.requires.k_in_bounds in
    let p = passed_to (row a.file.now a.k a.defines a.m c.loop-i.pos) _ (sym c.in_ok-next.was ∙ c.read_row.ensures.value) in
    let held = c.read_row.ensures.by_index p.0 _ p.1 in
    let word : word_of c.at.result ≡ literal_of p.0
    = ap word_of c.at.ensures ∙ line_word a.file.now a.k a.defines a.m c.loop-i.pos p.0 _ p.1 c.requires.k_nonzero _ _ (c.loop-i.i * a.k) held
    (fits c.loop-i.invariant room c.loop-i-test.true) in
    let told = c.defined_before.ensures.value ∙ ap (λ (x : ℕ). marked a.defines (var_of x) c.loop-i.marks) word in
    turns c.loop-i.invariant room c.loop-i-test.true c.requires.k_nonzero p.0 _ p.1 _ _ c.requires.marks_for (sym told ∙ c.if-defined_before.false) held
    (c.defined_before.ensures.marks_after ∙ ap₂ (λ (x : ℕ) (y : Bool). marking a.defines y (var_of x) c.loop-i.marks) word c.if-defined_before.false)

pub loop-i-init : goal.loop-i-init
loop-i-init c = let a = c.args in begins a.file.now a.k a.defines a.m a.n a.at a.table.now a.marks.now

pub returns-in_err-next : goal.returns-in_err-next
returns-in_err-next c =
    rw (passed-on _ c.from_residual.ensures.1) (stops c.loop-i.invariant c.requires.k_in_bounds c.loop-i-test.true _ _ _
    (sym c.in_err-next.was ∙ c.read_row.ensures.value))

pub returns : goal.returns
returns c = ends-here c.loop-i.invariant c.requires.k_in_bounds (omega arith)
