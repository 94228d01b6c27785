-- The literal that stands in, from what the rules give and what the search for a twin answers.
use mathlib.Core.Path.{◌≡◌, ap, ◌∙◌, subst}
use mathlib.Core.List.{List}
use Prim.Native.Nat.{ℕ, min, max}
use Rattle.std.specs.Prelude.{Option, Some, None}
use native.Mathlib.Omega.{arith}
use Rattle.plan.specs.declared.Lit.{Lit}
use Rattle.plan.specs.Literals.{lit_at, word_of, var_of}
use Rattle.plan.specs.Given.{or_else}
use Rattle.plan.specs.Reduce.{twin, stand_in}
use Rattle.reduce.specs.declared.pairs.Place.{Place}
use Rattle.reduce.specs.declared.pairs.Place.TheVariants.{Taken, Free}
use Rattle.reduce.specs.pairs.Pairs.{named, Rooted, Sought}
use Rattle.reduce.specs.folding.Rules.{Ruled, StandsIn}

pub rooted-sorted : {w a b : ℕ} {x y : Lit} → Rooted w a b → x ≡ lit_at (max a b) → y ≡ lit_at (min a b) → Rooted w (word_of x) (word_of y)
rooted-sorted {w} {a} {b} {x} {y} r p q = record {
  larger = omega (arith, ap (λ (l : Lit). var_of (word_of l)) p, r.larger, r.smaller);
  smaller = omega (arith, ap (λ (l : Lit). var_of (word_of l)) q, r.larger, r.smaller);
}

module _ (gates scratch : List ℕ) (base w n a b : ℕ) (rule : Option ℕ) (ruled : Ruled a b rule) where
  pub by-rule : (l : ℕ) → rule ≡ Some l → StandsIn gates scratch base w n a b (Taken l)
  by-rule l e = ruled (named base gates n) ∙ ap (λ (r : Option ℕ). or_else r (twin (max a b) (min a b) (named base gates n))) e

  module _ (x y : Lit) (e : rule ≡ None) (p : x ≡ lit_at (max a b)) (q : y ≡ lit_at (min a b)) where
    pub by-twin : (place : Place) → Sought gates scratch base w n (word_of x) (word_of y) place → StandsIn gates scratch base w n a b place
    by-twin place found =
        sorted place (subst (λ (l : Lit). Sought gates scratch base w n (max a b) (word_of l) place) q
        (subst (λ (l : Lit). Sought gates scratch base w n (word_of l) (word_of y) place) p found))
      where
        at-twin : stand_in a b (named base gates n) ≡ twin (max a b) (min a b) (named base gates n)
        at-twin = ruled (named base gates n) ∙ ap (λ (r : Option ℕ). or_else r (twin (max a b) (min a b) (named base gates n))) e

        sorted : (place : Place) → Sought gates scratch base w n (max a b) (min a b) place → StandsIn gates scratch base w n a b place
        sorted (Taken l) f = at-twin ∙ f
        sorted (Free slot) f = (at-twin ∙ f.0, f.1)
