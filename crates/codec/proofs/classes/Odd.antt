-- A byte is a digit exactly if it is one of 1 to 9 once its lowest bit is set.
use Prim.Native.Nat.{ℕ, ◌+◌, ◌-◌, ◌%◌, ◌≤◌}
use mathlib.Core.Path.{◌≡◌, refl, sym, ap, ◌∙◌}
use mathlib.Core.Bool.{Bool, true, false}
use native.Mathlib.Omega.{arith}
use native.Mathlib.Decide.{dec_le}
use lib.Bits.{bit_or, and_mask, or_add_and}
use Rattle.plan.specs.declared.Class.{Class}
use Rattle.plan.specs.declared.Class.TheVariants.{Line, Space, Zero, Digit, Print, Rest}
use Rattle.plan.specs.Bytes.{class_of, digit_class}
use Rattle.laws.proofs.Reading.Number.{class-says, digit-bounds, class-digit}

-- `b | 1`
odd : (b : ℕ) → bit_or b 1 ≡ b + 1 - b % 2
odd b = omega (arith, or_add_and b 1, and_mask b 1)

-- the class of 1 to 9, and no other
abbrev pub from1 : Class → Bool
from1 Line = false
from1 Space = false
from1 Zero = false
from1 Digit = true
from1 Print = false
from1 Rest = false

from1-digit : (c : Class) → from1 c ≡ true → digit_class c ≡ true
from1-digit Line e = e
from1-digit Space e = e
from1-digit Zero e = refl
from1-digit Digit e = refl
from1-digit Print e = e
from1-digit Rest e = e

-- digits by their bounds
is_digit : (b : ℕ) → 48 ≤ b → b ≤ 57 → digit_class (class_of b) ≡ true
is_digit b l h = go (dec_le 49 b)
  where
    go : Dec (49 ≤ b) → digit_class (class_of b) ≡ true
    go (yes m) = ap digit_class (class-digit b m h)
    go (no m) = let e : b ≡ 48 = omega arith in ap (λ (x : ℕ). digit_class (class_of x)) e

both : (r s : Bool) → (r ≡ true → s ≡ true) → (s ≡ true → r ≡ true) → r ≡ s
both true s f g = sym (f refl)
both false true f g = g refl
both false false f g = refl

pub odd-digit : (b : ℕ) → from1 (class_of (bit_or b 1)) ≡ digit_class (class_of b)
odd-digit b = both (from1 (class_of (bit_or b 1))) (digit_class (class_of b)) to from
  where
    to : from1 (class_of (bit_or b 1)) ≡ true → digit_class (class_of b) ≡ true
    to e =
        let k = digit-bounds (bit_or b 1) (class_of (bit_or b 1)) (class-says (bit_or b 1)) (from1-digit (class_of (bit_or b 1)) e) in
        is_digit b (omega (arith, odd b, k.0)) (omega (arith, odd b, k.1))

    from : digit_class (class_of b) ≡ true → from1 (class_of (bit_or b 1)) ≡ true
    from e =
        let k = digit-bounds b (class_of b) (class-says b) e in
        ap from1 (class-digit (bit_or b 1) (omega (arith, odd b, k.0)) (omega (arith, odd b, k.1)))

-- what the class of `b | 1` says of b
pub odd-says : (b : ℕ) {c d : Class} → c ≡ class_of (bit_or b 1) → c ≡ d → from1 d ≡ digit_class (class_of b)
odd-says b p q = ap from1 (sym q ∙ p) ∙ odd-digit b
