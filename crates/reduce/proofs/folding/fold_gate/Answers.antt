-- Gate k: what its variable becomes, and how many gates are retained then. The answers are given by `stands`, `answered` and `retained-as`.
use Prim.Native.Nat.{ℕ, min, max}
use mathlib.Core.Path.{◌≡◌, sym, ap, ap₂, ◌∙◌, subst₂}
use native.Mathlib.Omega.{arith}
use Rattle.plan.specs.declared.Lit.{Lit}
use Rattle.plan.specs.Literals.{lit_at, word_of, var_of}
use Rattle.plan.specs.Reduce.{becomes}
use Rattle.reduce.specs.declared.pairs.Place.{Place}
use Rattle.reduce.specs.declared.pairs.Place.TheVariants.{Taken, Free}
use Rattle.reduce.specs.pairs.Pairs.{Rooted}
use Rattle.reduce.specs.folding.Rules.{StandsIn}
use Rattle.reduce.proofs.folding.Step.{left, right, room, rooted, named-low, answered, stands, retained-as}
use Rattle.reduce.proofs.folding.fold_gate.Goals as goal

pub becomes-a-requires : goal.becomes-a-requires
becomes-a-requires c =
    let r = c.requires.roomy in
    omega (arith, ap (λ (l : Lit). var_of (word_of l)) c.at.ensures, r.below.rhs0, r.within, r.scratch-long)

pub becomes-b-requires : goal.becomes-b-requires
becomes-b-requires c =
    let r = c.requires.roomy in
    omega (arith, ap (λ (l : Lit). var_of (word_of l)) c.at-2.ensures, r.below.rhs1, r.within, r.scratch-long)

pub stand_in-requires : goal.stand_in-requires
stand_in-requires c =
    let left_is : c.becomes-a.result ≡ lit_at (left c.requires.held c.requires.roomy) =
    c.becomes-a.ensures ∙ ap (λ (l : Lit). lit_at (becomes c.args.scratch.now (word_of l))) c.at.ensures in
    let right_is : c.becomes-b.result ≡ lit_at (right c.requires.held c.requires.roomy) =
    c.becomes-b.ensures ∙ ap (λ (l : Lit). lit_at (becomes c.args.scratch.now (word_of l))) c.at-2.ensures in
    let sides = rooted c.requires.held c.requires.roomy in
    record { room = room c.requires.held c.requires.roomy; n_bound = named-low c.requires.held c.requires.roomy; rooted = subst₂ (λ (x y : Lit). Rooted c.args.w (word_of x) (word_of y)) (sym (left_is)) (sym (right_is)) sides; tree = c.requires.held.tree }

pub returns-in-Taken : goal.returns-in-Taken
returns-in-Taken c =
    let left_is : c.becomes-a.result ≡ lit_at (left c.requires.held c.requires.roomy) =
    c.becomes-a.ensures ∙ ap (λ (l : Lit). lit_at (becomes c.args.scratch.now (word_of l))) c.at.ensures in
    let right_is : c.becomes-b.result ≡ lit_at (right c.requires.held c.requires.roomy) =
    c.becomes-b.ensures ∙ ap (λ (l : Lit). lit_at (becomes c.args.scratch.now (word_of l))) c.at-2.ensures in
    let found : (p : Place) → c.stand_in.result ≡ p → let a = c.args in StandsIn a.to.now a.scratch.now a.base a.w a.n (left c.requires.held c.requires.roomy) (right c.requires.held c.requires.roomy) p =
    λ p e. answered c.requires.held c.requires.roomy (left_is) (right_is) e c.stand_in.ensures in
    stands c.requires.held c.requires.roomy _ (found (Taken _) c.in-Taken.is)

pub hang-requires : goal.hang-requires
hang-requires c =
    let left_is : c.becomes-a.result ≡ lit_at (left c.requires.held c.requires.roomy) =
    c.becomes-a.ensures ∙ ap (λ (l : Lit). lit_at (becomes c.args.scratch.now (word_of l))) c.at.ensures in
    let right_is : c.becomes-b.result ≡ lit_at (right c.requires.held c.requires.roomy) =
    c.becomes-b.ensures ∙ ap (λ (l : Lit). lit_at (becomes c.args.scratch.now (word_of l))) c.at-2.ensures in
    let found : (p : Place) → c.stand_in.result ≡ p → let a = c.args in StandsIn a.to.now a.scratch.now a.base a.w a.n (left c.requires.held c.requires.roomy) (right c.requires.held c.requires.roomy) p =
    λ p e. answered c.requires.held c.requires.roomy (left_is) (right_is) e c.stand_in.ensures in
    let there = found (Free _) c.in-Free.is in
    record { room = room c.requires.held c.requires.roomy; within = there.1.0 }

pub left_side-requires : goal.left_side-requires
left_side-requires c = omega (arith, named-low c.requires.held c.requires.roomy, c.requires.roomy.few)

pub overflow_add-scratch-in-Free : goal.overflow_add-scratch-in-Free
overflow_add-scratch-in-Free c = let r = c.requires.roomy in omega (arith, r.within, r.few)

pub offset_bounds-scratch-base-in-Free : goal.offset_bounds-scratch-base-in-Free
offset_bounds-scratch-base-in-Free c = let r = c.requires.roomy in omega (arith, r.within, r.few)

pub bounds-scratch-base-in-Free : goal.bounds-scratch-base-in-Free
bounds-scratch-base-in-Free c =
    let r = c.requires.roomy in
    omega (arith, c.scratch-1.given, r.within, r.scratch-long)

pub overflow_add-result : goal.overflow_add-result
overflow_add-result c = omega (arith, c.requires.held.count, c.requires.roomy.within, c.requires.roomy.few)

pub returns-in-Free : goal.returns-in-Free
returns-in-Free c =
    let left_is : c.becomes-a.result ≡ lit_at (left c.requires.held c.requires.roomy) =
    c.becomes-a.ensures ∙ ap (λ (l : Lit). lit_at (becomes c.args.scratch.now (word_of l))) c.at.ensures in
    let right_is : c.becomes-b.result ≡ lit_at (right c.requires.held c.requires.roomy) =
    c.becomes-b.ensures ∙ ap (λ (l : Lit). lit_at (becomes c.args.scratch.now (word_of l))) c.at-2.ensures in
    let found : (p : Place) → c.stand_in.result ≡ p → let a = c.args in StandsIn a.to.now a.scratch.now a.base a.w a.n (left c.requires.held c.requires.roomy) (right c.requires.held c.requires.roomy) p =
    λ p e. answered c.requires.held c.requires.roomy (left_is) (right_is) e c.stand_in.ensures in
    let there = found (Free _) c.in-Free.is in
    let sorted : (f : ℕ → ℕ → ℕ) → f (word_of c.becomes-a.result) (word_of c.becomes-b.result) ≡ _
    = λ f. ap₂ (λ (x y : Lit). f (word_of x) (word_of y)) (left_is) (right_is) in
    retained-as c.requires.held c.requires.roomy there.0 there.1.1 (ap word_of c.larger.ensures ∙ sorted max)
    (ap word_of c.smaller.ensures ∙ sorted min) (c.word.ensures ∙ c.left_side.ensures)
    c.hang.ensures.0 c.hang.ensures.1
