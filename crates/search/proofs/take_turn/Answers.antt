use Prim.Native.Nat.{ℕ}
use mathlib.Core.Path.{refl, sym, ◌∙◌, subst}
use mathlib.Core.List.{List}
use native.Mathlib.Omega.{arith}
use Rattle.plan.specs.Circuit.{Tables, seven}
use Rattle.search.specs.declared.Attempt.TheVariants.{Barred, Seen}
use Rattle.search.specs.Exploring.{LeftBy}
use Rattle.search.proofs.Turning.{found-seen, tells, left-barred, meets-to, left-to}
use Rattle.search.proofs.take_turn.Goals as goal

pub meet-requires : goal.meet-requires
meet-requires c =
    let a = c.args in
    let q = c.requires in
    meets-to q.runs q.tries q.ways a.met.now a.marks.now q.searched (omega (arith, q.here, q.count, q.there)) _
    (tells q.runs q.tries q.ways a.met.now a.marks.now q.searched a.reached a.place a.m q.count q.here q.move q.there _
    (sym c.in-To.is ∙ c.try_move-found.ensures q.inputs q.resets q.runs))
    a.reached a.place q.count q.here q.few-latches q.met-long q.marks-long a.m

pub returns-in-Barred : goal.returns-in-Barred
returns-in-Barred c =
    let tables_of : List ℕ → List ℕ → Tables =
    λ inputs resets. let a = c.args in
    seven inputs a.latches.now a.outputs.now a.gates.now resets a.bads.now a.constraints.now in
    λ split inputs resets p ways r sd er ep em.
    let a = c.args in
    let q = c.requires in
    subst (λ (k : ℕ). LeftBy split a.n (tables_of inputs resets) p ways k a.met.now a.marks.now) er
    (left-barred r p ways a.met.now a.marks.now sd (omega (arith, ep, er, q.there))
    (tells r p ways a.met.now a.marks.now sd a.reached a.place a.m er ep em q.there Barred
    (sym c.in-Barred.is ∙ c.try_move-found.ensures inputs resets r)))

pub returns-in-Seen : goal.returns-in-Seen
returns-in-Seen c =
    λ split inputs resets p ways r sd er ep em.
    let a = c.args in
    let q = c.requires in
    found-seen r p ways a.met.now a.marks.now sd
    (tells r p ways a.met.now a.marks.now sd a.reached a.place a.m er ep em q.there Seen
    (sym c.in-Seen.is ∙ c.try_move-found.ensures inputs resets r))

pub returns-in-To : goal.returns-in-To
returns-in-To c =
    λ split inputs resets p ways r sd er ep em.
    let a = c.args in
    let q = c.requires in
    left-to r p ways a.met.now a.marks.now sd (omega (arith, ep, er, q.there)) _
    (tells r p ways a.met.now a.marks.now sd a.reached a.place a.m er ep em q.there _
    (sym c.in-To.is ∙ c.try_move-found.ensures inputs resets r))
    a.reached a.place a.m _ _ _ er ep em q.met-long q.marks-long _ refl c.meet.ensures
