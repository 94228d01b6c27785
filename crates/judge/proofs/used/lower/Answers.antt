-- The least so far, or the variable of a used literal below it that has no mark. The answer is that of the call below it.
use Prim.Native.Nat.{ℕ, min}
use mathlib.Core.Path.{◌≡◌, refl, sym, ◌∙◌}
use mathlib.Core.Bool.{Bool, true, false, cond, ◌||◌}
use mathlib.Core.List.{List}
use native.Mathlib.Omega.{arith}
use borrow.Author.Tests.{eq-eqb, ne_eqb}
use lib.Dec.{eqb}
use Rattle.plan.specs.Literals.{var_of}
use Rattle.tables.specs.bitmap.Bitmap.{is_on}
use Rattle.judge.specs.used.Least.{lower}
use Rattle.judge.proofs.used.lower.Goals as goal

module _ (marks : List ℕ) (k l v : ℕ) (var : v ≡ var_of l) where
  has-mark : is_on marks 0 v ≡ true → k ≡ lower marks k l
  unfolding lower
  has-mark on = rw (← var, on) (either (eqb 0 v))
    where
      either : (s : Bool) → k ≡ cond (s || true) k (min v k)
      either true = refl
      either false = refl

  constant : v ≡ 0 → k ≡ lower marks k l
  unfolding lower
  constant z = rw (← var, eq-eqb 0 v (sym z))

  no-mark : is_on marks 0 v ≡ false → (v ≡ 0 → ⊥) → min v k ≡ lower marks k l
  unfolding lower
  no-mark off n = rw (← var, ne_eqb 0 v (λ e. n (sym e)), off)

pub is_on-requires : goal.is_on-requires
is_on-requires c = omega (arith, c.variable-v.ensures, c.requires)

pub returns-then-is_on : goal.returns-then-is_on
returns-then-is_on c =
    let a = c.args in
    has-mark a.marks.now a.least a.word c.variable-v.result c.variable-v.ensures (sym c.is_on.ensures ∙ c.if-is_on.true)

pub returns-then-v-eq0 : goal.returns-then-v-eq0
returns-then-v-eq0 c =
    let a = c.args in
    constant a.marks.now a.least a.word c.variable-v.result c.variable-v.ensures c.if-v-eq0.true

pub returns-then-v-least : goal.returns-then-v-least
returns-then-v-least c =
    let lesser : let a = c.args in min c.variable-v.result a.least ≡ lower a.marks.now a.least a.word =
    let a = c.args in
    no-mark a.marks.now a.least a.word c.variable-v.result c.variable-v.ensures
    (sym c.is_on.ensures ∙ c.if-is_on.false) c.if-v-eq0.false in
    omega (arith, lesser)

pub returns : goal.returns
returns c =
    let lesser : let a = c.args in min c.variable-v.result a.least ≡ lower a.marks.now a.least a.word =
    let a = c.args in
    no-mark a.marks.now a.least a.word c.variable-v.result c.variable-v.ensures
    (sym c.is_on.ensures ∙ c.if-is_on.false) c.if-v-eq0.false in
    omega (arith, lesser)
