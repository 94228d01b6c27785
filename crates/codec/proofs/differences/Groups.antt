-- How many groups a number has, and the loop that puts them.
use Prim.Native.Nat.{ℕ, suc, ◌+◌, ◌-◌, ◌*◌, ◌/◌, ◌%◌, ◌^◌, ◌<◌, ◌≤◌}
use mathlib.Core.Path.{◌≡◌, sym, ap, ◌∙◌}
use mathlib.Core.List.{List, [], ◌∷◌}
use native.Mathlib.Omega.{arith}
use native.Mathlib.Nat.{pow-suc}
use native.Mathlib.Decide.{dec_le}
use lib.Bits.{bit_or, and_mask, or_add_and, or_lt}
use lib.Count.{count_leading_zeros, leading_length}
use lib.Pow.{pow_mono}
use lib.ListN.{length, set, length-set}
use Rattle.plan.specs.Difference.{groups_of}
use Rattle.plan.specs.Outcome.{put}
use Rattle.laws.proofs.Put.{put_one, put-put}
use Rattle.laws.proofs.Reading.Differences.{groups-small, groups-step, groups-some}

-- the numbers of groups, by size
pub count_small : (d : ℕ) → d < 128 → 1 ≡ length (groups_of d)
count_small d h = sym (ap length (groups-small d h))

pub count-step : (d n : ℕ) → 128 ≤ d → n ≡ length (groups_of (d / 128)) → suc n ≡ length (groups_of d)
count-step d n h e = ap suc e ∙ sym (ap length (groups-step d h))

-- a number of m bits lies between powers of two
bits_most : (k m a : ℕ) → a < 2 ^ k → 2 ^ m ≤ 2 * a + 1 → m ≤ k
bits_most k m a h top = by_size (dec_le m k)
  where
    by_size : Dec (m ≤ k) → m ≤ k
    by_size (yes g) = g
    by_size (no g) =
        let more : 2 ^ suc k ≤ 2 ^ m = pow_mono {i = suc k} {j = m} (omega arith) in
        let twice : 2 ^ suc k ≡ 2 ^ k * 2 = pow-suc 2 k in
        omega arith

bits-least : (k m a : ℕ) → 2 ^ k ≤ a → a < 2 ^ m → k < m
bits-least k m a h low = by_size (dec_le m k)
  where
    by_size : Dec (m ≤ k) → k < m
    by_size (yes g) = let less : 2 ^ m ≤ 2 ^ k = pow_mono {i = m} {j = k} g in omega arith
    by_size (no g) = omega arith

-- the number of groups, from the number m of bits; 0 has one bit too
module _ (d m : ℕ) (small : d < 2 ^ 32) (low : bit_or d 1 < 2 ^ m) (top : 2 ^ m ≤ 2 * bit_or d 1 + 1) where
  odd : bit_or d 1 + d % 2 ≡ d + 1
  odd = ap (λ (x : ℕ). bit_or d 1 + x) (sym (and_mask d 1)) ∙ or_add_and d 1

  five : 268435456 ≤ d → m * 9 / 64 + 1 ≡ length (groups_of d)
  five g =
      let least : 28 < m = bits-least 28 m (bit_or d 1) (omega (arith, odd)) low in
      let most : m ≤ 32 = bits_most 32 m (bit_or d 1) (omega (arith, odd)) top in
      let is : m * 9 / 64 + 1 ≡ 5 = omega arith in
      is
      ∙ count-step d 4 (omega arith)
      (count-step (d / 128) 3 (omega arith)
      (count-step (d / 128 / 128) 2 (omega arith)
      (count-step (d / 128 / 128 / 128) 1 (omega arith) (count_small (d / 128 / 128 / 128 / 128) (omega arith)))))

  four : 2097152 ≤ d → Dec (268435456 ≤ d) → m * 9 / 64 + 1 ≡ length (groups_of d)
  four h (yes g) = five g
  four h (no g) =
      let least : 21 < m = bits-least 21 m (bit_or d 1) (omega (arith, odd)) low in
      let most : m ≤ 28 = bits_most 28 m (bit_or d 1) (omega (arith, odd)) top in
      let is : m * 9 / 64 + 1 ≡ 4 = omega arith in
      is
      ∙ count-step d 3 (omega arith)
      (count-step (d / 128) 2 (omega arith) (count-step (d / 128 / 128) 1 (omega arith) (count_small (d / 128 / 128 / 128) (omega arith))))

  three : 16384 ≤ d → Dec (2097152 ≤ d) → m * 9 / 64 + 1 ≡ length (groups_of d)
  three h (yes g) = four g (dec_le 268435456 d)
  three h (no g) =
      let least : 14 < m = bits-least 14 m (bit_or d 1) (omega (arith, odd)) low in
      let most : m ≤ 21 = bits_most 21 m (bit_or d 1) (omega (arith, odd)) top in
      let is : m * 9 / 64 + 1 ≡ 3 = omega arith in
      is ∙ count-step d 2 (omega arith) (count-step (d / 128) 1 (omega arith) (count_small (d / 128 / 128) (omega arith)))

  two : 128 ≤ d → Dec (16384 ≤ d) → m * 9 / 64 + 1 ≡ length (groups_of d)
  two h (yes g) = three g (dec_le 2097152 d)
  two h (no g) =
      let least : 7 < m = bits-least 7 m (bit_or d 1) (omega (arith, odd)) low in
      let most : m ≤ 14 = bits_most 14 m (bit_or d 1) (omega (arith, odd)) top in
      let is : m * 9 / 64 + 1 ≡ 2 = omega arith in
      is ∙ count-step d 1 (omega arith) (count_small (d / 128) (omega arith))

  one : Dec (128 ≤ d) → m * 9 / 64 + 1 ≡ length (groups_of d)
  one (yes g) = two g (dec_le 16384 d)
  one (no g) =
      let most : m ≤ 7 = bits_most 7 m (bit_or d 1) (omega (arith, odd)) top in
      let is : m * 9 / 64 + 1 ≡ 1 = omega arith in
      is ∙ count_small d (omega arith)

pub count_bits : (d : ℕ) → d < 2 ^ 32 → (32 - count_leading_zeros 32 (bit_or d 1)) * 9 / 64 + 1 ≡ length (groups_of d)
count_bits d h =
    let s = leading_length 32 (bit_or d 1) (or_lt 32 d 1 h (omega arith)) in
    let bits : 32 - count_leading_zeros 32 (bit_or d 1) ≡ s.0 = omega (arith, s.1) in
    ap (λ (m : ℕ). m * 9 / 64 + 1) bits ∙ one d s.0 h s.2 s.3 (dec_le 128 d)

-- the loop's state: what is left to put, from i on, completes what was to be put
pub record Putting (out₀ : List ℕ) (at d : ℕ) (out : List ℕ) (i x : ℕ) : Type 0 where
  pub left : put out i (groups_of x) ≡ put out₀ at (groups_of d)
  pub ends : i + length (groups_of x) ≡ at + length (groups_of d)
  pub room : i + length (groups_of x) ≤ length out
  pub size : length out ≡ length out₀
  pub most : x ≤ d

module _ {out₀ : List ℕ} {at d : ℕ} {out : List ℕ} {i x : ℕ} (p : Putting out₀ at d out i x) where
  pub in-room : i < length out
  in-room = omega (arith, p.room, groups-some x)

  pub next-group : 128 ≤ x → (b : ℕ) → b ≡ x % 128 + 128 → Putting out₀ at d (set out i b) (i + 1) (x / 128)
  next-group h b e =
      let w : groups_of x ≡ b ∷ groups_of (x / 128) = groups-step x h ∙ ap (λ (n : ℕ). n ∷ groups_of (x / 128)) (sym e) in
      let l : length (groups_of x) ≡ suc (length (groups_of (x / 128))) = ap length w in
      let fits : i + length (b ∷ groups_of (x / 128)) ≤ length out = omega (arith, p.room) in
      record {
        left =
            ap (λ (o : List ℕ). put o (i + 1) (groups_of (x / 128))) (put_one out i b (omega arith))
            ∙ (put-put out i (b ∷ []) (groups_of (x / 128)) fits ∙ (ap (put out i) (sym w) ∙ p.left));
        ends = omega (arith, p.ends);
        room = simp length-set (omega arith);
        size = length-set out i b ∙ p.size;
        most = omega (arith, p.most);
      }

  pub last_end : x < 128 → i + 1 ≡ at + length (groups_of d)
  last_end h = omega (arith, p.ends, count_small x h)

  pub last-group : x < 128 → set out i x ≡ put out₀ at (groups_of d)
  last-group h =
      let w : groups_of x ≡ x ∷ [] = groups-small x h in
      put_one out i x (omega (arith, p.room, ap length w)) ∙ (ap (put out i) (sym w) ∙ p.left)
