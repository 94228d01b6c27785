-- Rows loaded block by block: the bytes of a column's plane, a row more, and the plane that they make up.
use Prim.Native.Nat.{ℕ, zero, suc, ◌+◌, ◌-◌, ◌*◌, ◌/◌, ◌%◌, ◌^◌, ◌≤◌, ◌<◌}
use mathlib.Core.Path.{◌≡◌, refl, sym, ap, ap₂, ◌∙◌, subst}
use mathlib.Core.List.{List, [], ◌∷◌, ◌++◌, append_assoc, append-nil}
use native.Mathlib.Decide.{dec_lt}
use native.Mathlib.Nat.{add-mul, mul_assoc, mul_comm, pow-suc}
use native.Mathlib.Omega.{arith}
use borrow.Author.Tests.{eq-eqb, ne_eqb}
use lib.Bits.{bit_xor, xor_add_and, xor_lt, xor_self, and_le_l, and_le_r}
use lib.ListN.{get_or, length-append, replicate}
use lib.Pow.{high, low, pow-add, pow_mono, shr-shr}
use Rattle.rows.specs.Planes.Planes.{plane_of, pairs, other, column}
use Rattle.rows.proofs.Planes.Bits.{plane-lt}
use Rattle.rows.specs.lanes.Words.{Begins, byte_of, word_in, block_plane}
use Rattle.rows.specs.lanes.Blocks.{Packed, Written}
use Rattle.rows.specs.lanes.Working.{Grows}
use Rattle.rows.proofs.lanes.Words.{pairs-length}
use Rattle.rows.proofs.lanes.Starting.{other-small}
use Rattle.rows.proofs.lanes.Storing.{one-lit}

-- lanes from a on, above the first a
plane-split : (f : ℕ → ℕ) (a m : ℕ) → plane_of f (a + m) ≡ plane_of (λ i. f (a + i)) m * 2 ^ a + plane_of f a
plane-split f a zero = let none : a + 0 ≡ a = omega arith in ap (plane_of f) none ∙ omega arith
plane-split f a (suc m) =
    let more : a + suc m ≡ suc (a + m) = omega arith in
    ap (plane_of f) more
    ∙ (ap₂ (λ (x y : ℕ). f (a + m) * x + y) (pow-add 2 a m ∙ mul_comm (2 ^ a) (2 ^ m)) (plane-split f a m)
    ∙ joins (f (a + m)) (2 ^ m) (2 ^ a) (plane_of (λ i. f (a + i)) m) (plane_of f a))
  where
    joins : (b p q x y : ℕ) → b * (p * q) + (x * q + y) ≡ (b * p + x) * q + y
    joins b p q x y =
        omega (arith, add-mul (b * p) x q, mul_assoc b p q)

module _ (f : ℕ → ℕ) (bits : (k : ℕ) → f k < 2) (g : ℕ) where
  abbrev part : ℕ → ℕ
  part = plane_of (λ i. f (8 * g + i))

  part-lt : (c : ℕ) → part c < 2 ^ c
  part-lt = plane-lt (λ i. f (8 * g + i)) (λ i. bits (8 * g + i))

  shifted : (c : ℕ) → plane_of f (8 * g + c) / 2 ^ (8 * g) ≡ part c
  shifted c = ap (λ (x : ℕ). x / 2 ^ (8 * g)) (plane-split f (8 * g) c) ∙ high (part c) (8 * g) (plane-lt f bits (8 * g))

  pub byte-part : (c : ℕ) → c ≤ 8 → byte_of (plane_of f (8 * g + c)) g ≡ part c
  byte-part c h =
      let top : 2 ^ c ≤ 256 = pow_mono h in
      ap (λ (x : ℕ). x % 256) (shifted c) ∙ omega (arith, part-lt c, top)

  pub byte_full : (c : ℕ) → byte_of (plane_of f (8 * g + (8 + c))) g ≡ part 8
  byte_full c =
      ap (λ (x : ℕ). x % 256) (shifted (8 + c) ∙ plane-split (λ i. f (8 * g + i)) 8 c) ∙ low _ 8 (part-lt 8)

  pub byte-empty : (k : ℕ) → k ≤ 8 * g → byte_of (plane_of f k) g ≡ 0
  byte-empty k h =
      let top : 2 ^ k ≤ 2 ^ (8 * g) = pow_mono h in
      ap (λ (x : ℕ). x % 256) (small (plane_of f k) (omega (arith, plane-lt f bits k, top)))
    where
      small : (p : ℕ) → p < 2 ^ (8 * g) → p / 2 ^ (8 * g) ≡ 0
      small p l =
          let none : p ≡ 0 * 2 ^ (8 * g) + p = omega arith in
          ap (λ (x : ℕ). x / 2 ^ (8 * g)) none ∙ high 0 (8 * g) l

-- a row more
module _ (f : ℕ → ℕ) (bits : (k : ℕ) → f k < 2) (k : ℕ) where
  whole : k ≡ 8 * (k / 8) + k % 8
  whole = omega arith

  next : suc k ≡ 8 * (k / 8) + suc (k % 8)
  next = omega arith

  pub byte-here : byte_of (plane_of f (suc k)) (k / 8) ≡ byte_of (plane_of f k) (k / 8) + f k * 2 ^ (k % 8)
  byte-here =
      let less : suc (k % 8) ≤ 8 = omega arith in
      let also : k % 8 ≤ 8 = omega arith in
      let turned : f (8 * (k / 8) + k % 8) * 2 ^ (k % 8) + part f bits (k / 8) (k % 8)
      ≡ part f bits (k / 8) (k % 8) + f (8 * (k / 8) + k % 8) * 2 ^ (k % 8) = omega arith in
      ap (λ (m : ℕ). byte_of (plane_of f m) (k / 8)) next
      ∙ (byte-part f bits (k / 8) (suc (k % 8)) less
      ∙ (turned ∙ ap₂ (λ (x y : ℕ). x + y)
      (sym (byte-part f bits (k / 8) (k % 8) also) ∙ ap (λ (m : ℕ). byte_of (plane_of f m) (k / 8)) (sym whole))
      (ap (λ (m : ℕ). f m * 2 ^ (k % 8)) (sym whole))))

  pub byte-below : (g : ℕ) → g < k / 8 → byte_of (plane_of f (suc k)) g ≡ byte_of (plane_of f k) g
  byte-below g h =
      let a : suc k ≡ 8 * g + (8 + (suc k - (8 * g + 8))) = omega arith in
      let b : k ≡ 8 * g + (8 + (k - (8 * g + 8))) = omega arith in
      ap (λ (m : ℕ). byte_of (plane_of f m) g) a ∙ (byte_full f bits g _ ∙ sym (ap (λ (m : ℕ). byte_of (plane_of f m) g) b ∙ byte_full f bits g _))

  pub byte_above : (g : ℕ) → k / 8 < g → byte_of (plane_of f (suc k)) g ≡ byte_of (plane_of f k) g
  byte_above g h = byte-empty f bits g (suc k) (omega arith) ∙ sym (byte-empty f bits g k (omega arith))

  pub byte-room : byte_of (plane_of f k) (k / 8) + 2 ^ (k % 8) < 256
  byte-room =
      let also : k % 8 ≤ 8 = omega arith in
      let less : suc (k % 8) ≤ 8 = omega arith in
      let top : 2 ^ suc (k % 8) ≤ 256 = pow_mono less in
      omega (
        arith,
        ap (λ (m : ℕ). byte_of (plane_of f m) (k / 8)) whole ∙ byte-part f bits (k / 8) (k % 8) also,
        part-lt f bits (k / 8) (k % 8),
        top,
        pow-suc 2 (k % 8),
      )

-- two bytes make up a half of a lane word, four a word, eight a plane of 64 lanes
byte-up : (p a b : ℕ) → byte_of p (a + b) ≡ byte_of (p / 2 ^ (8 * a)) b
byte-up p a b =
    let whole : 8 * a + 8 * b ≡ 8 * (a + b) = omega arith in
    ap (λ (x : ℕ). x % 256) (sym (shr-shr p (8 * a) (8 * b) ∙ ap (λ (m : ℕ). p / 2 ^ m) whole))

two_bytes : (p : ℕ) → byte_of p 0 + 256 * byte_of p 1 ≡ p % 65536
two_bytes p = omega arith

four_bytes : (p : ℕ) → byte_of p 0 + 256 * byte_of p 1 + 65536 * (byte_of p 2 + 256 * byte_of p 3) ≡ p % 4294967296
four_bytes p =
    ap₂ (λ (x y : ℕ). x + 65536 * y) (two_bytes p) (ap₂ (λ (x y : ℕ). x + 256 * y) (byte-up p 2 0) (byte-up p 2 1) ∙ two_bytes (p / 65536))
    ∙ omega arith

bytes_whole : (p : ℕ) → p < 18446744073709551616
    → (byte_of p 0 + 256 * byte_of p 1 + 65536 * (byte_of p 2 + 256 * byte_of p 3))
    + (byte_of p 4 + 256 * byte_of p 5 + 65536 * (byte_of p 6 + 256 * byte_of p 7)) * 4294967296 ≡ p
bytes_whole p h =
    ap₂ (λ (x y : ℕ). x + y * 4294967296) (four_bytes p)
    (ap₂ (λ (x y : ℕ). x + 65536 * y) (ap₂ (λ (x y : ℕ). x + 256 * y) (byte-up p 4 0) (byte-up p 4 1))
    (ap₂ (λ (x y : ℕ). x + 256 * y) (byte-up p 4 2) (byte-up p 4 3))
    ∙ four_bytes (p / 4294967296))
    ∙ omega (arith, h)

-- planes of w variables more
pub pairs-same : (f g f' g' : ℕ → ℕ) (n : ℕ) → ((i : ℕ) → i < n → f i ≡ f' i) → ((i : ℕ) → i < n → g i ≡ g' i) → pairs f g n ≡ pairs f' g' n
pairs-same f g f' g' zero h k = refl
pairs-same f g f' g' (suc n) h k =
    ap₂ (λ (l r : List ℕ). l ++ r) (pairs-same f g f' g' n (λ i l. h i (omega arith)) (λ i l. k i (omega arith)))
    (ap₂ (λ (x y : ℕ). x ∷ y ∷ []) (h n (omega arith)) (k n (omega arith)))

pub pairs-add : (f g : ℕ → ℕ) (j w : ℕ) → pairs f g (j + w) ≡ pairs f g j ++ pairs (λ i. f (j + i)) (λ i. g (j + i)) w
pairs-add f g j zero = let none : j + 0 ≡ j = omega arith in ap (pairs f g) none ∙ sym (append-nil (pairs f g j))
pairs-add f g j (suc w) =
    let more : j + suc w ≡ suc (j + w) = omega arith in
    ap (pairs f g) more
    ∙ (ap (λ (l : List ℕ). l ++ (f (j + w) ∷ g (j + w) ∷ [])) (pairs-add f g j w)
    ∙ append_assoc (pairs f g j) (pairs (λ i. f (j + i)) (λ i. g (j + i)) w) (f (j + w) ∷ g (j + w) ∷ []))

pub grows_same : (before : ℕ) (f g f' g' : ℕ → ℕ) (n : ℕ) (t t' : List ℕ) → ((i : ℕ) → i < n → f i ≡ f' i) → ((i : ℕ) → i < n → g i ≡ g' i)
    → Grows before f g n t t' → Grows before f' g' n t t'
grows_same before f g f' g' n t t' h k w q l s = subst (λ (x : List ℕ). Begins (q ++ x) t') (pairs-same f g f' g' n h k) (w q l s)

pub grows-join : (before : ℕ) (f g : ℕ → ℕ) (j w m : ℕ) → j + w ≡ m → (t₀ t t' : List ℕ) → Grows before f g j t₀ t
    → Grows (before + j) (λ i. f (j + i)) (λ i. g (j + i)) w t t'
    → Grows before f g m t₀ t'
grows-join before f g j w m e t₀ t t' a b q l s =
    subst (λ (x : List ℕ). Begins x t')
    (append_assoc q (pairs f g j) (pairs (λ i. f (j + i)) (λ i. g (j + i)) w)
    ∙ ap (λ (x : List ℕ). q ++ x) (sym (pairs-add f g j w) ∙ ap (pairs f g) e))
    (b (q ++ pairs f g j) (omega (arith, l, length-append q (pairs f g j), pairs-length f g j)) (a q l s))

-- a block after k rows of some columns
module _ (code : ℕ) (bytes : List ℕ) (from n w : ℕ) where
  abbrev pub loaded : ℕ → ℕ → ℕ
  loaded k j = column code bytes (from + j) n k

  abbrev differs : ℕ → ℕ → ℕ
  differs j k = other code (get_or bytes (n * k + (from + j)) 0)

  small : (j k : ℕ) → differs j k < 2
  small j k = other-small code (get_or bytes (n * k + (from + j)) 0)

  module _ (k : ℕ) (block : List ℕ) (p : Packed (loaded k) w block) (most : k < 64) where
    here : k / 8 < 8
    here = omega arith

    pub packed-room : (j : ℕ) → j < w → get_or block (64 * (k / 8) + j) 0 + 1 * 2 ^ (k % 8) % 256 < 256
    packed-room j i =
        let lane : k % 8 < 8 = omega arith in
        omega (arith, p (k / 8) j here i, byte-room (differs j) (small j) k, one-lit (k % 8) lane)

    pub packed_more : w ≤ 64 → (block' : List ℕ)
        → Written (λ j. get_or block (64 * (k / 8) + j) 0 + other code (get_or bytes (n * k + from + j) 0) * (1 * 2 ^ (k % 8) % 256)) (64 * (k / 8)) w block block'
        → Packed (loaded (k + 1)) w block'
    packed_more narrow block' r g j l i =
        let next : k + 1 ≡ suc k = omega arith in
        go (dec_lt g (k / 8)) (dec_lt (k / 8) g) ∙ ap (λ (m : ℕ). byte_of (loaded m j) g) (sym next)
      where
        go : Dec (g < k / 8) → Dec (k / 8 < g) → get_or block' (64 * g + j) 0 ≡ byte_of (loaded (suc k) j) g
        go (yes q) _ = r.before (64 * g + j) (omega arith) ∙ (p g j l i ∙ sym (byte-below (differs j) (small j) k g q))
        go (no q) (yes s) = r.after (64 * g + j) (omega arith) ∙ (p g j l i ∙ sym (byte_above (differs j) (small j) k g s))
        go (no q) (no s) =
            let same : g ≡ k / 8 = omega arith in
            let lane : k % 8 < 8 = omega arith in
            let place : n * k + from + j ≡ n * k + (from + j) = omega arith in
            ap (λ (m : ℕ). get_or block' (64 * m + j) 0) same
            ∙ (r.stored j i
            ∙ (ap₂ (λ (x y : ℕ). x + y) (p (k / 8) j here i)
            (ap₂ (λ (x y : ℕ). x * y) (ap (λ (m : ℕ). other code (get_or bytes m 0)) place) (one-lit (k % 8) lane))
            ∙ (sym (byte-here (differs j) (small j) k) ∙ ap (byte_of (loaded (suc k) j)) (sym same))))

  -- the planes that a whole block makes up
  pub block-plane : (rows : ℕ) → rows ≤ 64 → (block : List ℕ) → Packed (loaded rows) w block → (j : ℕ) → j < w → block_plane block j ≡ loaded rows j
  block-plane rows most block p j i =
      ap₂ (λ (x y : ℕ). x + y * 4294967296)
      (four j 0 (omega arith) (omega arith)) (four (j + 256) 4 (omega arith) (omega arith))
      ∙ bytes_whole (loaded rows j) (omega (arith, plane-lt (differs j) (small j) rows, top))
    where
      top : 2 ^ rows ≤ 18446744073709551616
      top = pow_mono most

      byte : (g at : ℕ) → g < 8 → at ≡ 64 * g + j → get_or block at 0 ≡ byte_of (loaded rows j) g
      byte g at l e = ap (λ (q : ℕ). get_or block q 0) e ∙ p g j l i

      four : (at g : ℕ) → at ≡ 64 * g + j → g < 5
          → word_in block at ≡ byte_of (loaded rows j) g + 256 * byte_of (loaded rows j) (g + 1)
          + 65536 * (byte_of (loaded rows j) (g + 2) + 256 * byte_of (loaded rows j) (g + 3))
      four at g e l =
          ap₂ (λ (x y : ℕ). x + 65536 * y)
          (ap₂ (λ (x y : ℕ). x + 256 * y) (byte g at (omega arith) e) (byte (g + 1) (at + 64) (omega arith) (omega arith)))
          (ap₂ (λ (x y : ℕ). x + 256 * y) (byte (g + 2) (at + 128) (omega arith) (omega arith))
          (byte (g + 3) (at + 128 + 64) (omega arith) (omega arith)))

-- a difference by a sum
xor-none : (a b : ℕ) → bit_xor a b ≡ 0 → a ≡ b
xor-none a b e = omega (arith, xor_add_and a b, and_le_l a b, and_le_r a b, e)

pub differs-fits : (b code : ℕ) → b < 256 → code < 256 → bit_xor b code < 256
differs-fits b code h k = xor_lt 8 b code h k

pub differs-is : (b code : ℕ) → b < 256 → code < 256 → (bit_xor b code / 2 + bit_xor b code % 2 + 127) / 128 ≡ other code b
differs-is b code h k = go (dec_lt b code) (dec_lt code b)
  where
    some : (b ≡ code → ⊥) → (bit_xor b code / 2 + bit_xor b code % 2 + 127) / 128 ≡ other code b
    some ne =
        let lit : 0 < bit_xor b code = up (bit_xor b code) (λ e. ne (xor-none b code e)) in
        let one : (bit_xor b code / 2 + bit_xor b code % 2 + 127) / 128 ≡ 1 = omega (arith, lit, differs-fits b code h k) in
        one ∙ sym (simp (ne_eqb _ _ ne))
      where
        up : (x : ℕ) → (x ≡ 0 → ⊥) → 0 < x
        up zero n = absurd (n refl)
        up (suc x) n = omega arith

    go : Dec (b < code) → Dec (code < b) → (bit_xor b code / 2 + bit_xor b code % 2 + 127) / 128 ≡ other code b
    go (yes p) q = some (λ e. omega (arith, p, e))
    go (no p) (yes q) = some (λ e. omega (arith, q, e))
    go (no p) (no q) =
        let same : b ≡ code = omega arith in
        ap (λ (x : ℕ). (x / 2 + x % 2 + 127) / 128) (ap (λ (y : ℕ). bit_xor y code) same ∙ xor_self code) ∙ sym (simp (eq-eqb _ _ same))

-- a list of zeros
pub all-zero : (n i : ℕ) → ◌≡◌ {A = ℕ} (get_or (replicate n 0) i 0) 0
all-zero zero i = refl
all-zero (suc n) zero = refl
all-zero (suc n) (suc i) = all-zero n i
