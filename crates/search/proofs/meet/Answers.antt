use Prim.Native.Nat.{◌+◌, ◌*◌, ◌≤◌}
use mathlib.Core.Path.{sym, ◌∙◌}
use native.Mathlib.Omega.{arith}
use lib.ListN.{length, length-set}
use Rattle.search.proofs.Meeting.{meet-on, meet-off}
use Rattle.search.proofs.meet.Goals as goal

pub returns-then-is_on : goal.returns-then-is_on
returns-then-is_on c =
    let a = c.args in
    meet-on a.met.now a.marks.now a.reached a.s a.place a.m _ (sym c.is_on.ensures ∙ c.if-is_on.true)

pub bounds-met-row : goal.bounds-met-row
bounds-met-row c =
    let room : 3 * c.args.reached + 3 ≤ length c.args.met.now =
    c.requires.room (sym c.is_on.ensures ∙ c.if-is_on.false) in
    omega (arith, room)

pub bounds-met-row-2 : goal.bounds-met-row-2
bounds-met-row-2 c =
    let room : 3 * c.args.reached + 3 ≤ length c.args.met.now =
    c.requires.room (sym c.is_on.ensures ∙ c.if-is_on.false) in
    let a = c.args in
    omega (arith, room, length-set a.met.now (3 * a.reached) a.s)

pub bounds-met-row-3 : goal.bounds-met-row-3
bounds-met-row-3 c =
    let room : 3 * c.args.reached + 3 ≤ length c.args.met.now =
    c.requires.room (sym c.is_on.ensures ∙ c.if-is_on.false) in
    simp length-set (omega (arith, room))

pub returns : goal.returns
returns c =
    let a = c.args in
    meet-off a.met.now a.marks.now a.reached a.s a.place a.m _ (sym c.is_on.ensures ∙
    c.if-is_on.false) _
    c.raise.ensures
