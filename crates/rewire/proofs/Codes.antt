-- Not and And of codes by a formula, and the loop that computes values anew.
use Prim.Native.Nat.{ℕ, zero, suc, ◌+◌, ◌*◌, ◌/◌, ◌%◌, ◌≤◌, ◌<◌}
use mathlib.Core.Path.{◌≡◌, refl, sym, ap, ap₂, ◌∙◌, subst}
use mathlib.Core.List.{List}
use native.Mathlib.Omega.{arith}
use native.Mathlib.Decide.{ℕ_discrete}
use lib.Bits.{bit_and, bit_or, bit_xor}
use lib.ListN.{length, get_or, set}
use lib.Seq.{get_or-set_same, get_or-set_other}
use Rattle.plan.specs.Step.{Value, v0, v1, vx, code_of, and, signed_value, lit}
use Rattle.laws.proofs.Tables.{gate_at}
use Rattle.rewire.specs.Shown.{Shows, Follows}

-- the formula of Not, as often as a sign says
abbrev pub signed_by : ℕ → ℕ → ℕ
signed_by s code = bit_xor code (bit_and s (bit_xor 1 (code / 64)))

by_sign : (s : ℕ) (a : Value) → s < 2 → signed_by s (code_of a) ≡ code_of (signed_value s a)
by_sign zero v0 h = refl
by_sign zero v1 h = refl
by_sign zero vx h = refl
by_sign (suc zero) v0 h = refl
by_sign (suc zero) v1 h = refl
by_sign (suc zero) vx h = refl
by_sign (suc (suc s)) a h = absurd (omega arith)

pub signed-codes : (s code : ℕ) (a : Value) → s < 2 → code ≡ code_of a → signed_by s code ≡ code_of (signed_value s a)
signed-codes s code a h e = ap (signed_by s) e ∙ by_sign s a h

-- the formula of And: the bit of 1, and whether x, which has the bits of 8 and of 64
abbrev pub one_of : ℕ → ℕ → ℕ
one_of x y = bit_and (bit_and x y) 1

abbrev pub unknown_of : ℕ → ℕ → ℕ
unknown_of x y = bit_xor (one_of x y) (bit_and (bit_and (bit_or x (x / 64)) (bit_or y (y / 64))) 1)

abbrev pub and_by : ℕ → ℕ → ℕ
and_by x y = bit_or (bit_or (bit_or 48 (one_of x y)) (unknown_of x y * 8 % 256)) (unknown_of x y * 64 % 256)

by_values : (a b : Value) → and_by (code_of a) (code_of b) ≡ code_of (and a b)
by_values v0 v0 = refl
by_values v0 v1 = refl
by_values v0 vx = refl
by_values v1 v0 = refl
by_values v1 v1 = refl
by_values v1 vx = refl
by_values vx v0 = refl
by_values vx v1 = refl
by_values vx vx = refl

pub and-codes : (x y : ℕ) (a b : Value) → x ≡ code_of a → y ≡ code_of b → and_by x y ≡ code_of (and a b)
and-codes x y a b e f = ap₂ and_by e f ∙ by_values a b

-- the loop: the values of variables below base + j are there
pub record Going (gates : List ℕ) (k a base : ℕ) (values₀ values : List ℕ) (j : ℕ) : Type 0 where
  pub size : length values ≡ length values₀
  pub shown : (w : ℕ → Value) → Shows w (base + k) values₀ → Follows w gates base k a → Shows w (base + j) values

pub going_more : (gates : List ℕ) (k a base : ℕ) (values₀ values : List ℕ) (j r : ℕ) → k ≤ j → j < a → base + j < length values
    → length (set values (base + j) r) ≡ length values
    → ((w : ℕ → Value) → Shows w (base + j) values → r ≡ code_of (and (lit w (gate_at gates j).rhs0) (lit w (gate_at gates j).rhs1)))
    → Going gates k a base values₀ values j → Going gates k a base values₀ (set values (base + j) r) (j + 1)
going_more gates k a base values₀ values j r from lt room same val g = record {
  size = same ∙ g.size;
  shown = λ w s f v h. here w s f v h (ℕ_discrete (base + j) v);
}
  where
    here : (w : ℕ → Value) → Shows w (base + k) values₀ → Follows w gates base k a → (v : ℕ) → v < base + (j + 1) → Dec (base + j ≡ v)
        → get_or (set values (base + j) r) v 0 ≡ code_of (w v)
    here w s f v h (yes e) =
        subst (λ (u : ℕ). get_or (set values (base + j) r) u 0 ≡ code_of (w u)) e
        (get_or-set_same values (base + j) r 0 room ∙ val w (g.shown w s f) ∙ ap code_of (sym (f.holds j (omega arith) lt)))
    here w s f v h (no n) =
        get_or-set_other values (base + j) v r 0 (λ e. n (sym e)) ∙ g.shown w s f v (omega arith)
