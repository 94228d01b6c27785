-- New numbers: a literal's value by its new number; gates whose right sides come first are renumbered into binary order.
use Prim.Native.Nat.{ℕ, zero, suc, ◌≤◌, ◌<◌, min, max}
use mathlib.Core.Path.{◌≡◌, refl, sym, ap, ap₂, ◌∙◌, subst}
use mathlib.Core.Bool.{Bool, true, false, cond, ◌||◌, false≢true}
use mathlib.Core.List.{List, [], ◌∷◌, ◌++◌}
use native.Mathlib.Omega.{arith}
use native.Mathlib.Nat.{not-suc-le-zero}
use borrow.Author.Tests.{eqb-true}
use lib.Dec.{eqb}
use lib.ListN.{length, get_or, length-append}
use lib.Seq.{append_snoc}
use Rattle.plan.specs.Literals.{lit_of, var_of, sign_of}
use Rattle.plan.specs.Circuit.{Gate, left_vars, has, index}
use Rattle.plan.specs.Convert.{ready, renumber, renumber_gates}
use Rattle.plan.specs.Step.{Value, vx, and, signed_value, lit}
use Rattle.laws.proofs.Reading.Common.{and_left, and_right}
use Rattle.laws.proofs.Running.Lists.{has_left, index-front}
use Rattle.laws.proofs.Running.Found.{AllG}
use Rattle.laws.proofs.Running.GateValue.{GateEq}
use Rattle.laws.proofs.Running.Signs.{lit-double, larger-first}
use Rattle.laws.proofs.Running.Binary.{Binary, Holds}

-- values read by the place
abbrev pub look : (ℕ → Value) → List ℕ → ℕ → Value
look w [] n = vx
look w (x ∷ xs) zero = w x
look w (x ∷ xs) (suc n) = look w xs n

pub look-index : (w : ℕ → Value) (v : ℕ) (xs : List ℕ) → has v xs ≡ true → look w xs (index v xs) ≡ w v
look-index w v [] h = absurd (false≢true h)
look-index w v (x ∷ xs) h = go (eqb x v) refl (look-index w v xs) h
  where
    go : (t : Bool) → eqb x v ≡ t → (has v xs ≡ true → look w xs (index v xs) ≡ w v) → (t || has v xs) ≡ true
        → look w (x ∷ xs) (cond t zero (suc (index v xs))) ≡ w v
    go true e f p = ap w (eqb-true x v e)
    go false e f p = f p

look-seam : (w : ℕ → Value) (xs : List ℕ) (v : ℕ) (ys : List ℕ) → look w (xs ++ v ∷ ys) (length xs) ≡ w v
look-seam w [] v ys = refl
look-seam w (x ∷ xs) v ys = look-seam w xs v ys

pub look-past : (w : ℕ → Value) (xs : List ℕ) (n : ℕ) → length xs ≤ n → look w xs n ≡ vx
look-past w [] n h = refl
look-past w (x ∷ xs) zero h = absurd (not-suc-le-zero h)
look-past w (x ∷ xs) (suc n) h = look-past w xs n (omega arith)

pub look-front : (w : ℕ → Value) (xs ys : List ℕ) (n : ℕ) → n < length xs → look w (xs ++ ys) n ≡ w (get_or xs n 0)
look-front w [] ys n h = absurd (not-suc-le-zero h)
look-front w (x ∷ xs) ys zero h = refl
look-front w (x ∷ xs) ys (suc n) h = look-front w xs ys n (omega arith)

pub renumber-half : (o : List ℕ) (l : ℕ) → var_of (renumber o l) ≡ index (var_of l) o
renumber-half o l = omega arith

renumber-mod : (o : List ℕ) (l : ℕ) → sign_of (renumber o l) ≡ sign_of l
renumber-mod o l = omega arith

pub lit-renumber : (w : ℕ → Value) (o : List ℕ) (l : ℕ) → has (var_of l) o ≡ true → lit (look w o) (renumber o l) ≡ lit w l
lit-renumber w o l h =
    ap₂ (λ (s u : ℕ). signed_value s (look w o u)) (renumber-mod o l) (renumber-half o l)
    ∙ ap (signed_value (sign_of l)) (look-index w (var_of l) o h)

-- a gate list in an order where right sides come first
abbrev pub Readied : List ℕ → List Gate → Type 0
Readied p [] = Unit {0}
Readied p (g ∷ gs) = (ready p g ≡ true) × Readied (p ++ (var_of g.lhs ∷ [])) gs

length-snoc : (p : List ℕ) (x : ℕ) → length (p ++ (x ∷ [])) ≡ suc (length p)
length-snoc p x = length-append p (x ∷ []) ∙ omega arith

pub renumber_gates-binary : (o p : List ℕ) (gs : List Gate) → Readied p gs → o ≡ p ++ left_vars gs
    → Binary (length p) (renumber_gates o (length p) gs)
renumber_gates-binary o p [] r e = tt
renumber_gates-binary o p (g ∷ gs) r e = (
  refl,
  high,
  low,
  subst (λ (n : ℕ). Binary n (renumber_gates o n gs)) (length-snoc p (var_of g.lhs))
      (renumber_gates-binary o (p ++ (var_of g.lhs ∷ [])) gs r.1 (e ∙ sym (append_snoc p (var_of g.lhs) (left_vars gs)))),
)
  where
    in0 : index (var_of g.rhs0) o < length p
    in0 = rw e (index-front (var_of g.rhs0) p (left_vars (g ∷ gs)) (and_left (has (var_of g.rhs0) p) (has (var_of g.rhs1) p) r.0))

    in1 : index (var_of g.rhs1) o < length p
    in1 = rw e (index-front (var_of g.rhs1) p (left_vars (g ∷ gs)) (and_right (has (var_of g.rhs0) p) (has (var_of g.rhs1) p) r.0))

    high : var_of (max (renumber o g.rhs0) (renumber o g.rhs1)) < length p
    high = omega (arith, in0, in1)

    low : var_of (min (renumber o g.rhs0) (renumber o g.rhs1)) < length p
    low = omega (arith, in0, in1)

pub renumber_gates-hold : (w : ℕ → Value) (o p : List ℕ) (gs : List Gate) → Readied p gs → o ≡ p ++ left_vars gs → AllG (GateEq w) gs
    → Holds (look w o) (renumber_gates o (length p) gs)
renumber_gates-hold w o p [] r e a = tt
renumber_gates-hold w o p (g ∷ gs) r e a = (
  this,
  subst (λ (n : ℕ). Holds (look w o) (renumber_gates o n gs)) (length-snoc p (var_of g.lhs))
      (renumber_gates-hold w o (p ++ (var_of g.lhs ∷ [])) gs r.1 (e ∙ sym (append_snoc p (var_of g.lhs) (left_vars gs))) a.1),
)
  where
    in0 : has (var_of g.rhs0) o ≡ true
    in0 = rw e (has_left (var_of g.rhs0) p (left_vars (g ∷ gs)) (and_left (has (var_of g.rhs0) p) (has (var_of g.rhs1) p) r.0))

    in1 : has (var_of g.rhs1) o ≡ true
    in1 = rw e (has_left (var_of g.rhs1) p (left_vars (g ∷ gs)) (and_right (has (var_of g.rhs0) p) (has (var_of g.rhs1) p) r.0))

    at : look w o (length p) ≡ w (var_of g.lhs)
    at = rw e (look-seam w p (var_of g.lhs) (left_vars gs))

    this : lit (look w o) (lit_of (length p)) ≡ and (lit (look w o) (max (renumber o g.rhs0) (renumber o g.rhs1)))
        (lit (look w o) (min (renumber o g.rhs0) (renumber o g.rhs1)))
    this =
        lit-double (look w o) (length p) ∙ at ∙ a.0
        ∙ ap₂ and (sym (lit-renumber w o g.rhs0 in0)) (sym (lit-renumber w o g.rhs1 in1))
        ∙ sym (larger-first (look w o) (renumber o g.rhs0) (renumber o g.rhs1))
