-- The number is stored, the mark goes, and the chain is walked.
use Prim.Native.Nat.{ℕ}
use mathlib.Core.Bool.{true}
use mathlib.Core.Path.{◌≡◌, sym, ◌∙◌, subst}
use native.Mathlib.Omega.{arith}
use lib.ListN.{length, set, length-set}
use Rattle.tables.specs.bitmap.Bitmap.{is_on}
use Rattle.judge.specs.marks.Levels.{p0, Levels, TakenOff}
use Rattle.judge.specs.order.Waiting.{lhs_of}
use Rattle.judge.proofs.order.Spaces.{top-word}
use Rattle.judge.proofs.order.NewNumber.{give-fits, give-levels, give-on, give-space, give-waking, give-done}
use Rattle.judge.proofs.order.giving.give.Goals as goal

pub offset_bounds-t-v : goal.offset_bounds-t-v
offset_bounds-t-v c =
    let A = c.args in
    let fits = give-fits A.gates.now A.t.now A.n A.a A.j A.x c.requires in
    record { fits = omega (arith, fits, c.var_of-v.ensures) }

pub bounds-t-v : goal.bounds-t-v
bounds-t-v c =
    let A = c.args in
    let fits = give-fits A.gates.now A.t.now A.n A.a A.j A.x c.requires in
    omega (arith, fits, c.var_of-v.ensures)

pub unmark-requires : goal.unmark-requires
unmark-requires c =
    let A = c.args in
    let e = sym c.var_of-v.ensures in
    let top = top-word A.n A.a (length A.t.now) (omega (arith, c.requires.within)) c.requires.space.table-long in (
      omega (arith, top, length-set A.t.now c.var_of-v.result A.x),
      c.requires.space.small,
      c.requires.within,
      subst (λ (v : ℕ). Levels (set A.t.now v A.x) A.n A.a) e
          (give-levels A.gates.now A.t.now A.n A.a A.j A.x c.requires),
      subst (λ (v : ℕ). is_on (set A.t.now v A.x) (p0 A.n A.a) A.j ≡ true) e
          (give-on A.gates.now A.t.now A.n A.a A.j A.x c.requires),
    )

pub wake-requires : goal.wake-requires
wake-requires c =
    let off : let A = c.args in TakenOff (set A.t.now (lhs_of A.gates.now A.j) A.x) c.unmark.new.t A.n A.a A.j =
    let A = c.args in
    subst (λ (v : ℕ). TakenOff (set A.t.now v A.x) c.unmark.new.t A.n A.a A.j) c.var_of-v.ensures c.unmark.ensures in
    let kept : let A = c.args in length c.unmark.new.t ≡ length (set A.t.now (lhs_of A.gates.now A.j) A.x) =
    let A = c.args in
    let same : length c.unmark.new.t ≡ length (set A.t.now c.var_of-v.result A.x) = c.unmark.auto.t in
    same ∙ (length-set A.t.now c.var_of-v.result A.x ∙ sym (length-set A.t.now (lhs_of A.gates.now A.j) A.x)) in
    let A = c.args in
    let u = c.unmark.new.t in (
      give-space A.gates.now A.t.now A.n A.a A.j A.x c.requires u (kept) (off),
      give-waking A.gates.now A.t.now A.n A.a A.j A.x c.requires u (kept) (off)
          c.ix-h.result c.ix-h.ensures,
    )

pub shape_of-t : goal.shape_of-t
shape_of-t c =
    let kept : let A = c.args in length c.unmark.new.t ≡ length (set A.t.now (lhs_of A.gates.now A.j) A.x) =
    let A = c.args in
    let same : length c.unmark.new.t ≡ length (set A.t.now c.var_of-v.result A.x) = c.unmark.auto.t in
    same ∙ (length-set A.t.now c.var_of-v.result A.x ∙ sym (length-set A.t.now (lhs_of A.gates.now A.j) A.x)) in
    let A = c.args in
    let after : length c.wake.new.t ≡ length c.unmark.new.t = c.wake.auto.t in
    after ∙ (kept ∙ length-set A.t.now (lhs_of A.gates.now A.j) A.x)

pub returns : goal.returns
returns c =
    let off : let A = c.args in TakenOff (set A.t.now (lhs_of A.gates.now A.j) A.x) c.unmark.new.t A.n A.a A.j =
    let A = c.args in
    subst (λ (v : ℕ). TakenOff (set A.t.now v A.x) c.unmark.new.t A.n A.a A.j) c.var_of-v.ensures c.unmark.ensures in
    let kept : let A = c.args in length c.unmark.new.t ≡ length (set A.t.now (lhs_of A.gates.now A.j) A.x) =
    let A = c.args in
    let same : length c.unmark.new.t ≡ length (set A.t.now c.var_of-v.result A.x) = c.unmark.auto.t in
    same ∙ (length-set A.t.now c.var_of-v.result A.x ∙ sym (length-set A.t.now (lhs_of A.gates.now A.j) A.x)) in
    let A = c.args in
    give-done A.gates.now A.t.now A.n A.a A.j A.x c.requires c.unmark.new.t (kept) (off)
    c.wake.new.t c.wake.ensures.0 c.wake.ensures.1
