-- The earliest of the n gates with the sides x and y, or where it is to hang. The loop keeps `Come gates scratch w n (word_of x) (word_of y) i key`;
-- the measure is `n - i`. `way_next` carries it from turn to turn, and `way-start`, `way_out` and `word-scratch` give the answer.
use Prim.Native.Nat.{ℕ, suc, ◌+◌, ◌-◌, ◌*◌, ◌%◌, ◌<◌}
use mathlib.Core.Path.{◌≡◌, refl, sym, ap, ◌∙◌, subst}
use native.Mathlib.Omega.{arith}
use lib.ListN.{get_or}
use Rattle.plan.specs.Literals.{word_of}
use Rattle.reduce.specs.declared.pairs.Place.TheVariants.{Taken}
use Rattle.reduce.specs.pairs.Tree.{slot_of}
use Rattle.reduce.specs.pairs.Pairs.{word, Sought}
use Rattle.reduce.proofs.pairs.Roots.{root-low}
use Rattle.reduce.proofs.pairs.Words.{word-scratch}
use Rattle.reduce.proofs.pairs.Way.{Way, way-start, way_out, way-low, way-found, way_next, way-after}
use Rattle.reduce.proofs.pairs.find.Goals as goal

pub root-requires : goal.root-requires
root-requires c = (omega (arith, c.requires.rooted.larger), c.requires.room.few)

pub overflow_add-at : goal.overflow_add-at
overflow_add-at c =
    let under : let a = c.args in a.w + c.root.result < 3 * a.w =
    let a = c.args in
    let low = root-low a.w (word_of a.x) (word_of a.y) (omega (arith, c.requires.rooted.larger)) in
    omega (arith, low, c.root.ensures) in
    record { fits = omega (arith, under, c.requires.room.few) }

pub offset_bounds-scratch-at : goal.offset_bounds-scratch-at
offset_bounds-scratch-at c =
    let under : let a = c.args in a.w + c.root.result < 3 * a.w =
    let a = c.args in
    let low = root-low a.w (word_of a.x) (word_of a.y) (omega (arith, c.requires.rooted.larger)) in
    omega (arith, low, c.root.ensures) in
    omega (arith, under, c.requires.room.few)

pub bounds-scratch-at : goal.bounds-scratch-at
bounds-scratch-at c =
    let under : let a = c.args in a.w + c.root.result < 3 * a.w =
    let a = c.args in
    let low = root-low a.w (word_of a.x) (word_of a.y) (omega (arith, c.requires.rooted.larger)) in
    omega (arith, low, c.root.ensures) in
    omega (arith, under, c.requires.room.scratch-long)

pub returns-then-first-eq0 : goal.returns-then-first-eq0
returns-then-first-eq0 c =
    let under : let a = c.args in a.w + c.root.result < 3 * a.w =
    let a = c.args in
    let low = root-low a.w (word_of a.x) (word_of a.y) (omega (arith, c.requires.rooted.larger)) in
    omega (arith, low, c.root.ensures) in
    let at-root : let a = c.args in word a.gates.now a.scratch.now a.w (a.w + c.root.result) ≡ get_or a.scratch.now (a.w + c.root.result) 0 =
    let a = c.args in
    word-scratch a.gates.now a.scratch.now a.w (a.w + c.root.result) (omega (arith, under)) in
    let begun : (key : ℕ) → let a = c.args in key ≡ word_of a.y → Way a.gates.now a.w a.n (word_of a.x) (word_of a.y) (a.w + c.root.result) key =
    λ key e. way-start c.requires.tree c.requires.rooted (ap (λ (v : ℕ). c.args.w + v) c.root.ensures) e in
    let way = begun (word_of c.args.y) refl in
    let out = way_out c.requires.tree c.requires.rooted way c.args.base (at-root ∙ c.if-first-eq0.true) in
    (out.0, (omega (arith, under), out.1))

pub overflow_sub-i : goal.overflow_sub-i
overflow_sub-i c = omega (arith, c.if-first-eq0.false)

pub overflow_cast-i : goal.overflow_cast-i
overflow_cast-i c =
    let under : let a = c.args in a.w + c.root.result < 3 * a.w =
    let a = c.args in
    let low = root-low a.w (word_of a.x) (word_of a.y) (omega (arith, c.requires.rooted.larger)) in
    omega (arith, low, c.root.ensures) in
    let at-root : let a = c.args in word a.gates.now a.scratch.now a.w (a.w + c.root.result) ≡ get_or a.scratch.now (a.w + c.root.result) 0 =
    let a = c.args in
    word-scratch a.gates.now a.scratch.now a.w (a.w + c.root.result) (omega (arith, under)) in
    let begun : (key : ℕ) → let a = c.args in key ≡ word_of a.y → Way a.gates.now a.w a.n (word_of a.x) (word_of a.y) (a.w + c.root.result) key =
    λ key e. way-start c.requires.tree c.requires.rooted (ap (λ (v : ℕ). c.args.w + v) c.root.ensures) e in
    let there : let a = c.args in word a.gates.now a.scratch.now a.w (a.w + c.root.result) ≡ suc (get_or a.scratch.now (a.w + c.root.result) 0 - 1) =
    at-root ∙ omega (arith, c.if-first-eq0.false) in
    let low = way-low c.requires.tree c.requires.rooted (begun (word_of c.args.y) refl) (there) in
    record { fits = omega (arith, low, c.requires.room.few, c.requires.room.fewer) }

pub loop-x-init : goal.loop-x-init
loop-x-init c =
    let under : let a = c.args in a.w + c.root.result < 3 * a.w =
    let a = c.args in
    let low = root-low a.w (word_of a.x) (word_of a.y) (omega (arith, c.requires.rooted.larger)) in
    omega (arith, low, c.root.ensures) in
    let at-root : let a = c.args in word a.gates.now a.scratch.now a.w (a.w + c.root.result) ≡ get_or a.scratch.now (a.w + c.root.result) 0 =
    let a = c.args in
    word-scratch a.gates.now a.scratch.now a.w (a.w + c.root.result) (omega (arith, under)) in
    let begun : (key : ℕ) → let a = c.args in key ≡ word_of a.y → Way a.gates.now a.w a.n (word_of a.x) (word_of a.y) (a.w + c.root.result) key =
    λ key e. way-start c.requires.tree c.requires.rooted (ap (λ (v : ℕ). c.args.w + v) c.root.ensures) e in
    let there : let a = c.args in word a.gates.now a.scratch.now a.w (a.w + c.root.result) ≡ suc (get_or a.scratch.now (a.w + c.root.result) 0 - 1) =
    at-root ∙ omega (arith, c.if-first-eq0.false) in
    record { slot = _; way = begun _ c.word-key.ensures; leads = there }

pub has_sides-requires : goal.has_sides-requires
has_sides-requires c =
    let known : c.loop-x.i < c.args.n =
    way-low c.requires.tree c.requires.rooted c.loop-x.invariant.way c.loop-x.invariant.leads in
    omega (arith, known, c.requires.room.gates-long)

pub left_side-requires : goal.left_side-requires
left_side-requires c =
    let known : c.loop-x.i < c.args.n =
    way-low c.requires.tree c.requires.rooted c.loop-x.invariant.way c.loop-x.invariant.leads in
    omega (arith, known, c.requires.room.few, c.requires.n_bound)

pub returns-then-has_sides : goal.returns-then-has_sides
returns-then-has_sides c =
    let a = c.args in
    let found = way-found c.requires.tree c.requires.rooted c.loop-x.invariant.way c.loop-x.invariant.leads a.base
    (sym c.has_sides.ensures ∙ c.if-has_sides.true) in
    subst (λ (l : ℕ). Sought a.gates.now a.scratch.now a.base a.w a.n (word_of a.x) (word_of a.y) (Taken l))
    (sym (c.word.ensures ∙ c.left_side.ensures)) found

pub leads-next-requires : goal.leads-next-requires
leads-next-requires c =
    let known : c.loop-x.i < c.args.n =
    way-low c.requires.tree c.requires.rooted c.loop-x.invariant.way c.loop-x.invariant.leads in
    record { i_in_bounds = (omega (arith, known, c.requires.room.gates-long), c.requires.room.scratch-long); w_bound = (c.requires.room.few, omega (arith, known, c.requires.room.fewer)) }

pub returns-then-next-eq0 : goal.returns-then-next-eq0
returns-then-next-eq0 c =
    let known : c.loop-x.i < c.args.n =
    way-low c.requires.tree c.requires.rooted c.loop-x.invariant.way c.loop-x.invariant.leads in
    let a = c.args in
    let next = way_next c.requires.tree c.requires.rooted c.loop-x.invariant.way c.loop-x.invariant.leads
    (sym c.has_sides.ensures ∙ c.if-has_sides.false) in
    let out = way_out c.requires.tree c.requires.rooted next a.base (sym c.leads-next.ensures ∙ c.if-next-eq0.true) in
    (out.0, ((known, omega arith), out.1))

pub overflow_sub-i-in-loop-x : goal.overflow_sub-i-in-loop-x
overflow_sub-i-in-loop-x c = omega (arith, c.if-next-eq0.false)

pub loop-x-smaller : goal.loop-x-smaller
loop-x-smaller c =
    let known : c.loop-x.i < c.args.n =
    way-low c.requires.tree c.requires.rooted c.loop-x.invariant.way c.loop-x.invariant.leads in
    let led : let a = c.args in word a.gates.now a.scratch.now a.w (slot_of a.w (suc c.loop-x.i) (c.loop-x.key % 2)) ≡ suc (c.leads-next.result - 1) =
    sym c.leads-next.ensures ∙ omega (arith, c.if-next-eq0.false) in
    let after = way-after c.requires.tree c.requires.rooted c.loop-x.invariant.way c.loop-x.invariant.leads
    (sym c.has_sides.ensures ∙ c.if-has_sides.false) (led) in
    omega (arith, after, known)

pub loop-x-preserved : goal.loop-x-preserved
loop-x-preserved c =
    let led : let a = c.args in word a.gates.now a.scratch.now a.w (slot_of a.w (suc c.loop-x.i) (c.loop-x.key % 2)) ≡ suc (c.leads-next.result - 1) =
    sym c.leads-next.ensures ∙ omega (arith, c.if-next-eq0.false) in
    record {
      slot = _;
      way = way_next c.requires.tree c.requires.rooted c.loop-x.invariant.way c.loop-x.invariant.leads
          (sym c.has_sides.ensures ∙ c.if-has_sides.false);
      leads = led;
    }
