-- The byte that ends a number of a line, by its class.
use Prim.Native.Nat.{ℕ, ◌+◌, suc, zero}
use mathlib.Core.Path.{◌≡◌, refl, sym, ap, ◌∙◌}
use mathlib.Core.Bool.{Bool, true, false, not, cond, ◌&&◌}
use native.Mathlib.Omega.{arith}
use borrow.Author.Tests.{eqb-true, eq-eqb, ne_eqb}
use lib.Dec.{eqb, leb}
use Rattle.plan.specs.declared.Class.{Class}
use Rattle.plan.specs.declared.Class.TheVariants.{Line, Space, Zero, Digit, Print, Rest}
use Rattle.plan.specs.Bytes.{class_of, end_of}
use Rattle.lines.specs.Rows.{end_for}

-- whether a class is that of the end
abbrev pub end_class : Bool → Class → Bool
end_class last Line = last
end_class last Space = not last
end_class last Zero = false
end_class last Digit = false
end_class last Print = false
end_class last Rest = false

pub by-class : (last : Bool) (b : ℕ) → end_class last (class_of b) ≡ eqb b (end_for last)
by-class last b = go (eqb b 10) (eqb b 32) refl refl last
  where
    others : (t1 t2 t3 : Bool) (l : Bool) → end_class l (cond t1 Zero (cond t2 Digit (cond t3 Print Rest))) ≡ false
    others true t2 t3 l = refl
    others false true t3 l = refl
    others false false true l = refl
    others false false false l = refl

    go : (t1 t2 : Bool) → eqb b 10 ≡ t1 → eqb b 32 ≡ t2 → (l : Bool)
        → end_class l (cond t1 Line (cond t2 Space
        (cond (eqb b 48) Zero (cond (leb 49 b && leb b 57) Digit (cond (leb 33 b && leb b 126) Print Rest))))) ≡ eqb b (end_for l)
    go true t2 e1 e2 true = sym e1
    go true t2 e1 e2 false = sym (ne_eqb b 32 (λ h. omega (arith, eqb-true b 10 e1)))
    go false true e1 e2 true = sym e1
    go false true e1 e2 false = sym e2
    go false false e1 e2 true = others (eqb b 48) (leb 49 b && leb b 57) (leb 33 b && leb b 126) true ∙ sym e1
    go false false e1 e2 false = others (eqb b 48) (leb 49 b && leb b 57) (leb 33 b && leb b 126) false ∙ sym e2

-- with l numbers to come after number j of k
pub end_is : (j k l : ℕ) → j + 1 + l ≡ k → end_for (eqb (j + 1) k) ≡ end_of l
end_is j k zero h = ap end_for (eq-eqb (j + 1) k (omega arith))
end_is j k (suc l) h = ap end_for (ne_eqb (j + 1) k (omega arith))

pub told : (last : Bool) (b : ℕ) (r k : Class) → r ≡ class_of b → r ≡ k → end_class last k ≡ eqb b (end_for last)
told last b r k e t = ap (end_class last) (sym t ∙ e) ∙ by-class last b

-- past the end of the file nothing ends a number
pub past_end : (last : Bool) (b : ℕ) → b ≡ 0 → false ≡ eqb b (end_for last)
past_end true b e = rw e
past_end false b e = rw e
