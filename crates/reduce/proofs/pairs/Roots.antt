-- The roots of pairs: each is one of the 2 × w, and a pair's root and its smaller side give the pair back.
use mathlib.Core.Path.{◌≡◌, sym, ap, ap₂, ◌∙◌}
use Prim.Native.Nat.{ℕ, ◌+◌, ◌-◌, ◌*◌, ◌/◌, ◌%◌, ◌^◌, ◌<◌, ◌≤◌}
use native.Mathlib.Omega.{arith}
use native.Mathlib.Nat.{mod-lt, mod-eq_of_lt, mod-eq-sub-mod, mod-add-mod, add-mod_right, mul-le-mul, mul-lt-mul_of_pos_right}
use Rattle.plan.specs.Literals.{most, lit_of}
use Rattle.reduce.specs.pairs.Pairs.{spread_of, root_of}

-- a part of 2 ^ 32, on a scale that the code allows, fits 64 bits
pub spread-fits : (part w : ℕ) → part < 4294967296 → w ≤ most + 1 → part * (2 * w) < 18446744073709551616
spread-fits part w h l = omega (arith, mul-le-mul {n₁ = part} {m₁ = 2 * w} {n₂ = 4294967295} {m₂ = 2097152} (omega arith) (omega arith))

pub spread-is : (w y word : ℕ) → word ≡ y → word * 2654435769 % 4294967296 * (2 * w) / 4294967296 ≡ spread_of w y
unfolding spread_of
spread-is w y word e = ap (λ (v : ℕ). v * 2654435769 % 4294967296 * (2 * w) / 4294967296) e

pub root-low : (w x y : ℕ) → 0 < w → root_of w x y < 2 * w
unfolding root_of
root-low w x y h = mod-lt (x + spread_of w y) (omega arith)

-- a part of 2 ^ 32, on a scale of s, is below s
scaled-low : (part s : ℕ) → part < 4294967296 → 0 < s → part * s / 4294967296 < s
scaled-low part s h p = omega (arith, mul-lt-mul_of_pos_right {m = part} {n = 4294967296} {k = s} h p)

pub spread-low : (w y : ℕ) → 0 < w → spread_of w y < 2 * w
unfolding spread_of
spread-low w y h = scaled-low (y * 2654435769 % 4294967296) (2 * w) (omega arith) (omega arith)

-- a sum below 2 × w is the root, any other is that much too high
pub root-under : (w x y v : ℕ) → v ≡ x + spread_of w y → v < 2 * w → v ≡ root_of w x y
unfolding root_of
root-under w x y v e h = sym (ap (λ (z : ℕ). z % (2 * w)) (sym e) ∙ mod-eq_of_lt h)

pub root_over : (w x y v : ℕ) → x < 2 * w → v ≡ x + spread_of w y → 2 * w ≤ v → v - 2 * w ≡ root_of w x y
unfolding root_of
root_over w x y v l e h =
    sym (ap (λ (z : ℕ). z % (2 * w)) (sym e) ∙ mod-eq-sub-mod h ∙ mod-eq_of_lt (omega (arith, spread-low w y (omega arith))))

-- the larger side, back from the root
root-back : (w x y : ℕ) → x < 2 * w → (root_of w x y + (2 * w - spread_of w y)) % (2 * w) ≡ x
unfolding root_of
root-back w x y h =
    let e : x + spread_of w y + (2 * w - spread_of w y) ≡ x + 2 * w = omega (arith, spread-low w y (omega arith)) in
    mod-add-mod (x + spread_of w y) (2 * w) (2 * w - spread_of w y) ∙ ap (λ (v : ℕ). v % (2 * w)) e ∙ add-mod_right x (2 * w)
    ∙ mod-eq_of_lt h

-- pairs under one root have smaller sides that differ, so that no search takes more steps than a literal has bits, and one
pub same-pair : (w x y x' y' : ℕ) → x < 2 * w → x' < 2 * w → root_of w x y ≡ root_of w x' y' → y ≡ y' → x ≡ x'
same-pair w x y x' y' h h' r e =
    sym (root-back w x y h) ∙ ap₂ (λ (v z : ℕ). (v + (2 * w - spread_of w z)) % (2 * w)) r e ∙ root-back w x' y' h'

-- the doubling of a variable in use is not cut
pub whole : (v : ℕ) → v ≤ 1048576 → lit_of v % 2 ^ 32 ≡ lit_of v
whole v h = omega arith
