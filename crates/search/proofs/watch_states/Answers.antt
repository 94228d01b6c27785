use Prim.Native.Nat.{ℕ, zero, suc, ◌+◌, ◌-◌}
use mathlib.Core.Path.{◌≡◌, refl}
use native.Mathlib.Omega.{arith}
use Rattle.search.proofs.Beginning.{part-rest}
use Rattle.search.proofs.Watching.{all-searches, one-searches, all-watched, one-watched}
use Rattle.search.proofs.watch_states.Goals as goal

before : (w : ℕ) → (w ≡ 0 → ⊥) → w - 1 + 1 ≡ w
before zero h = absurd (h refl)
before (suc w) h = omega arith

pub search_states-requires : goal.search_states-requires
search_states-requires c =
    let a = c.args in
    all-searches a.n a.latches.now a.outputs.now a.gates.now a.resets.now a.bads.now a.constraints.now a.watch
    a.scratch.now a.met.now a.marks.now c.requires

pub returns-then-watch-eq0 : goal.returns-then-watch-eq0
returns-then-watch-eq0 c =
    let a = c.args in
    all-watched a.n a.latches.now a.outputs.now a.gates.now a.resets.now a.bads.now a.constraints.now a.watch
    a.split a.allowance c.search_states.result c.search_states.new.met c.if-watch-eq0.true c.search_states.ensures

pub search_states-requires-2 : goal.search_states-requires-2
search_states-requires-2 c =
    let a = c.args in
    one-searches a.n a.latches.now a.outputs.now a.gates.now a.resets.now a.bads.now a.constraints.now a.watch
    a.scratch.now a.met.now a.marks.now c.requires (a.watch - 1) (before a.watch c.if-watch-eq0.false) _
    (part-rest (a.watch - 1) a.outputs.now)

pub returns : goal.returns
returns c =
    let a = c.args in
    one-watched a.n a.latches.now a.outputs.now a.gates.now a.resets.now a.bads.now a.constraints.now a.watch
    a.split a.allowance c.search_states-2.result c.search_states-2.new.met (a.watch - 1) (before a.watch c.if-watch-eq0.false) c.requires.finds.there _ (part-rest (a.watch - 1) a.outputs.now)
    c.search_states-2.ensures
