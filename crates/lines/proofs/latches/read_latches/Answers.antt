-- The lines passed are read: `own_at`, `passed_to` and `own-word` carry `Loop` from turn to turn, and `stops`, `twice-told` and `ends-here` give
-- the answer.
use Prim.Native.Nat.{ℕ, ◌+◌, ◌≤◌}
use mathlib.Core.Path.{◌≡◌, sym, ap, ap₂, ◌∙◌}
use mathlib.Core.Bool.{Bool, false}
use native.Mathlib.Omega.{arith}
use Rattle.plan.specs.Literals.{var_of, word_of}
use Rattle.lines.specs.Rows.{marked, marking}
use Rattle.lines.proofs.Marks.{marks-less}
use Rattle.lines.proofs.LinesLoop.{passed_to}
use Rattle.lines.specs.latches.Latches.{latch_row, latch_in}
use Rattle.lines.proofs.latches.OneLatch.{latch-var, same-mark, same-marking, own-word}
use Rattle.lines.proofs.latches.LatchLoop.{begins, own_at, fits, stops, twice-told, turns, ends-here}
use Rattle.laws.proofs.Pairs.{passed-on}
use Rattle.lines.proofs.latches.read_latches.Goals as goal

pub defined_before-requires : goal.defined_before-requires
defined_before-requires c =
    let h = c.loop-i-test.true in
    let a = c.args in
    let own = own_at a.defines a.m a.first a.n c.loop-i.i c.requires.own_all h in
    let p = passed_to (latch_row a.file.now a.defines a.m a.more (a.first + c.loop-i.i) c.loop-i.pos) _
    (sym c.in_ok-next.was ∙ c.read_latch.ensures.value) in
    let held = c.read_latch.ensures.by_index p.0 _ p.1 in
    let word : word_of c.at.result ≡ (latch_in a.defines (a.first + c.loop-i.i) p.0).current
    = ap word_of c.at.ensures ∙ own-word _ _ c.loop-i.i a.defines (a.first + c.loop-i.i) p.0 held.0
    (fits c.loop-i.invariant c.requires.n_in_bounds c.requires.n_in_bounds_2 h) in
    let small : var_of (latch_in a.defines (a.first + c.loop-i.i) p.0).current ≤ a.m = latch-var a.file.now a.defines a.m a.more
    (a.first + c.loop-i.i) c.loop-i.pos p.0 _ own p.1 in
    marks-less a.defines _ a.m a.marks.now _ (omega (arith, ap var_of word, small)) c.loop-i.invariant.wide-marks c.requires.marks_for

pub returns-then-defined_before : goal.returns-then-defined_before
returns-then-defined_before c =
    let h = c.loop-i-test.true in
    let a = c.args in
    let own = own_at a.defines a.m a.first a.n c.loop-i.i c.requires.own_all h in
    let p = passed_to (latch_row a.file.now a.defines a.m a.more (a.first + c.loop-i.i) c.loop-i.pos) _
    (sym c.in_ok-next.was ∙ c.read_latch.ensures.value) in
    let held = c.read_latch.ensures.by_index p.0 _ p.1 in
    let word : word_of c.at.result ≡ (latch_in a.defines (a.first + c.loop-i.i) p.0).current
    = ap word_of c.at.ensures
    ∙ own-word _ _ c.loop-i.i a.defines (a.first + c.loop-i.i) p.0 held.0
    (fits c.loop-i.invariant c.requires.n_in_bounds c.requires.n_in_bounds_2 h) in
    let told = c.defined_before.ensures.value
    ∙ (ap (λ (x : ℕ). marked a.defines (var_of x) c.loop-i.marks) word ∙ same-mark a.defines (a.first + c.loop-i.i) p.0 c.loop-i.marks) in
    twice-told c.loop-i.invariant c.requires.n_in_bounds c.requires.n_in_bounds_2 h p.0 _ p.1 _ _ _ (sym told ∙ c.if-defined_before.true)

pub loop-i-preserved : goal.loop-i-preserved
loop-i-preserved c =
    let h = c.loop-i-test.true in
    let a = c.args in
    let own = own_at a.defines a.m a.first a.n c.loop-i.i c.requires.own_all h in
    let p = passed_to (latch_row a.file.now a.defines a.m a.more (a.first + c.loop-i.i) c.loop-i.pos) _
    (sym c.in_ok-next.was ∙ c.read_latch.ensures.value) in
    let held = c.read_latch.ensures.by_index p.0 _ p.1 in
    let word : word_of c.at.result ≡ (latch_in a.defines (a.first + c.loop-i.i) p.0).current
    = ap word_of c.at.ensures
    ∙ own-word _ _ c.loop-i.i a.defines (a.first + c.loop-i.i) p.0 held.0
    (fits c.loop-i.invariant c.requires.n_in_bounds c.requires.n_in_bounds_2 h) in
    let told = c.defined_before.ensures.value
    ∙ (ap (λ (x : ℕ). marked a.defines (var_of x) c.loop-i.marks) word ∙ same-mark a.defines (a.first + c.loop-i.i) p.0 c.loop-i.marks) in
    turns c.loop-i.invariant c.requires.n_in_bounds c.requires.n_in_bounds_2 h p.0 _ p.1 _ _ _ c.requires.marks_for
    (sym told ∙ c.if-defined_before.false) held
    (c.defined_before.ensures.marks_after ∙ (ap₂ (λ (x : ℕ) (y : Bool). marking a.defines y (var_of x) c.loop-i.marks) word c.if-defined_before.false
    ∙ same-marking a.defines false (a.first + c.loop-i.i) p.0 c.loop-i.marks))

pub loop-i-init : goal.loop-i-init
loop-i-init c =
    let a = c.args in begins a.file.now a.defines a.m a.more a.first a.n a.at a.table.now
    a.resets.now a.marks.now

pub returns : goal.returns
returns c =
    ends-here c.loop-i.invariant c.requires.n_in_bounds
    c.requires.n_in_bounds_2 (omega arith)

pub returns-in_err-next : goal.returns-in_err-next
returns-in_err-next c =
    let h = c.loop-i-test.true in
    rw (passed-on _ c.from_residual.ensures.1)
    (stops c.loop-i.invariant c.requires.n_in_bounds c.requires.n_in_bounds_2 h _ _ _ _
    (sym c.in_err-next.was ∙ c.read_latch.ensures.value))
