-- The bits "may be 0" and "may be 1" of a value: of a negation and of an And, and of the word that holds both.
use Prim.Native.Nat.{ℕ, ◌+◌, ◌*◌, ◌/◌, ◌%◌, ◌≤◌}
use mathlib.Core.Path.{◌≡◌, refl, sym, ap, ap₂, ◌∙◌}
use mathlib.Core.List.{List}
use native.Mathlib.Omega.{arith}
use lib.Bits.{bit_and, bit_or}
use lib.ListN.{get_or}
use Rattle.plan.specs.Literals.{var_of, neg_of}
use Rattle.plan.specs.Step.{Value, v0, v1, vx, inv, and, lit}
use Rattle.laws.proofs.Running.Signs.{lit-neg}
use Rattle.step.specs.values.Words.{may0, may1, word, told, Coded}
use Rattle.step.proofs.values.Codes.{word-coded}
use Rattle.step.specs.sweep.Lookup.{word_at}

-- "may be 0" and "may be 1" exchange
pub may-not : (a : Value) → may1 (inv a) ≡ may0 a
may-not v0 = refl
may-not v1 = refl
may-not vx = refl

pub negated-may : (w : ℕ → Value) (l : ℕ) → may1 (lit w (neg_of l)) ≡ may0 (lit w l)
negated-may w l = ap may1 (lit-neg w l) ∙ may-not (lit w l)

-- it may be 1 if both may, and 0 if either may
pub and-may1 : (x y : Value) → bit_and (may1 x) (may1 y) ≡ may1 (and x y)
and-may1 v0 v0 = refl
and-may1 v0 v1 = refl
and-may1 v0 vx = refl
and-may1 v1 v0 = refl
and-may1 v1 v1 = refl
and-may1 v1 vx = refl
and-may1 vx v0 = refl
and-may1 vx v1 = refl
and-may1 vx vx = refl

pub and-may0 : (x y : Value) → bit_or (may0 x) (may0 y) ≡ may0 (and x y)
and-may0 v0 v0 = refl
and-may0 v0 v1 = refl
and-may0 v0 vx = refl
and-may0 v1 v0 = refl
and-may0 v1 v1 = refl
and-may0 v1 vx = refl
and-may0 vx v0 = refl
and-may0 vx v1 = refl
and-may0 vx vx = refl

-- a value's word is coded
pub is-coded : (a : Value) (w : ℕ) → w ≡ word a → Coded w
is-coded a w e = e ∙ (word-coded a ∙ sym (ap (λ (k : ℕ). word (told k)) e))

-- the word of both bits, and both bits of a word
pub both_bits : (a : Value) → bit_or (may0 a) (may1 a * 2 % 4294967296) ≡ word a
both_bits v0 = refl
both_bits v1 = refl
both_bits vx = refl

high_value : (a : Value) → word a / 2 ≡ may1 a
high_value v0 = refl
high_value v1 = refl
high_value vx = refl

low_value : (a : Value) → bit_and (word a) 1 ≡ may0 a
low_value v0 = refl
low_value v1 = refl
low_value vx = refl

pub high_bit : (w : ℕ) → Coded w → w / 2 ≡ may1 (told w)
high_bit w h = ap (λ (k : ℕ). k / 2) h ∙ high_value (told w)

pub low_bit : (w : ℕ) → Coded w → bit_and w 1 ≡ may0 (told w)
low_bit w h = ap (λ (k : ℕ). bit_and k 1) h ∙ low_value (told w)

-- the word of a literal, by both its words
pub word-there : (lits : ℕ) (t : List ℕ) (w : ℕ → Value) (m : ℕ) → ((l : ℕ) → var_of l ≤ m → get_or t (lits + l) 0 ≡ may1 (lit w l))
    → (l : ℕ) → var_of l ≤ m → word_at lits t l ≡ word (lit w l)
word-there lits t w m h l up =
    let half : var_of (neg_of l) ≡ var_of l = omega arith in
    ap₂ (λ (x y : ℕ). bit_or x (y * 2 % 4294967296)) (h (neg_of l) (omega arith) ∙ negated-may w l) (h l up) ∙ both_bits (lit w l)
