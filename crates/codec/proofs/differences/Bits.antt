-- Groups of seven bits, masked, shifted and joined at 32 bits, as sums.
use Prim.Native.Nat.{ℕ, ◌+◌, ◌*◌, ◌%◌, ◌<◌}
use mathlib.Core.Path.{◌≡◌, ap, ap₂, ◌∙◌}
use native.Mathlib.Omega.{arith}
use lib.Bits.{bit_and, bit_or, and_mask, or_shifted_r}

-- `a & 0x7f`
pub low7 : (a : ℕ) → bit_and a 127 ≡ a % 128
low7 a = and_mask a 7

-- `a & 0x7f | b << 7`
pub join2 : (a b : ℕ) → b < 128 → bit_or (bit_and a 127) (b * 128 % 4294967296) ≡ a % 128 + 128 * b
join2 a b h =
    let whole : b * 128 % 4294967296 ≡ b * 128 = omega arith in
    let sum : bit_or (a % 128) (b * 128) ≡ b * 128 + a % 128 = or_shifted_r b 7 (a % 128) (omega arith) in
    ap₂ bit_or (low7 a) whole ∙ (sum ∙ omega arith)

-- `a & 0x7f | (b & 0x7f) << 7 | d << 14`
pub join3 : (a b d : ℕ) → d < 128
    → bit_or (bit_or (bit_and a 127) (bit_and b 127 * 128 % 4294967296)) (d * 16384 % 4294967296) ≡ a % 128 + 128 * (b % 128 + 128 * d)
join3 a b d h =
    let masked : bit_and b 127 < 128 = omega (arith, low7 b) in
    let two : bit_or (bit_and a 127) (bit_and b 127 * 128 % 4294967296) ≡ a % 128 + 128 * (b % 128)
    = join2 a (bit_and b 127) masked ∙ ap (λ (n : ℕ). a % 128 + 128 * n) (low7 b) in
    let whole : d * 16384 % 4294967296 ≡ d * 16384 = omega arith in
    let sum : bit_or (a % 128 + 128 * (b % 128)) (d * 16384) ≡ d * 16384 + (a % 128 + 128 * (b % 128))
    = or_shifted_r d 14 (a % 128 + 128 * (b % 128)) (omega arith) in
    ap₂ bit_or two whole ∙ (sum ∙ omega arith)

-- `a & 0x7f | 0x80`: a group with the high bit set
pub high7 : (a : ℕ) → bit_or (bit_and a 127) 128 ≡ a % 128 + 128
high7 a =
    let sum : bit_or (a % 128) (1 * 128) ≡ 1 * 128 + a % 128 = or_shifted_r 1 7 (a % 128) (omega arith) in
    ap (λ (n : ℕ). bit_or n 128) (low7 a) ∙ (sum ∙ omega arith)
