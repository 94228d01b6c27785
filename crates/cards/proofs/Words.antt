-- Four bytes joined at 32 bits and taken apart, as sums; stores in a row; a mark's two bytes.
use Prim.Native.Nat.{ℕ, suc, ◌+◌, ◌*◌, ◌/◌, ◌%◌, ◌<◌, ◌≤◌}
use mathlib.Core.Path.{◌≡◌, sym, ap, ap₂, ◌∙◌}
use mathlib.Core.Bool.{true, false, ◌&&◌}
use mathlib.Core.List.{List, [], ◌∷◌, append_assoc}
use native.Mathlib.Nat.{add-zero}
use native.Mathlib.Omega.{arith}
use borrow.Author.Tests.{eq-eqb}
use lib.Bits.{bit_and, bit_or, and_mask, or_shifted_r}
use lib.Dec.{eqb}
use lib.ListN.{length, get_or, set, take, drop}
use lib.Seq.{sets-eq, get_or-drop}
use Rattle.plan.specs.Outcome.{put}
use Rattle.plan.specs.Cards.{word_at, word_bytes, marked}

-- `x & 0xff`
pub low8 : (x : ℕ) → bit_and x 255 ≡ x % 256
low8 x = and_mask x 8

-- `a | b << 8 | c << 16 | d << 24`
pub join4 : (a b c d : ℕ) → a < 256 → b < 256 → c < 256 → d < 256
    → bit_or (bit_or (bit_or a (b * 256 % 4294967296)) (c * 65536 % 4294967296)) (d * 16777216 % 4294967296)
    ≡ a + 256 * b + 65536 * c + 16777216 * d
join4 a b c d ha hb hc hd =
    let b-whole : b * 256 % 4294967296 ≡ b * 256 = omega arith in
    let c-whole : c * 65536 % 4294967296 ≡ c * 65536 = omega arith in
    let d-whole : d * 16777216 % 4294967296 ≡ d * 16777216 = omega arith in
    let two : bit_or a (b * 256) ≡ b * 256 + a = or_shifted_r b 8 a ha in
    let three : bit_or (b * 256 + a) (c * 65536) ≡ c * 65536 + (b * 256 + a) = or_shifted_r c 16 (b * 256 + a) (omega arith) in
    let four : bit_or (c * 65536 + (b * 256 + a)) (d * 16777216) ≡ d * 16777216 + (c * 65536 + (b * 256 + a))
    = or_shifted_r d 24 (c * 65536 + (b * 256 + a)) (omega arith) in
    ap₂ bit_or (ap₂ bit_or (ap (bit_or a) b-whole ∙ two) c-whole ∙ three) d-whole ∙ (four ∙ omega arith)

-- a byte at a position, as one of those that stand there
module _ (file : List ℕ) (at : ℕ) where
  pub first-there : get_or (drop at file) 0 0 ≡ get_or file at 0
  first-there = get_or-drop at file 0 0 ∙ ap (λ (k : ℕ). get_or file k 0) (add-zero at)

  -- the four bytes of a number, joined
  pub word-joined : (a b c d : ℕ) → a ≡ get_or file at 0 → b ≡ get_or file (at + 1) 0 → c ≡ get_or file (at + 2) 0 → d ≡ get_or file (at + 3) 0
      → a < 256 → b < 256 → c < 256 → d < 256
      → bit_or (bit_or (bit_or a (b * 256 % 4294967296)) (c * 65536 % 4294967296)) (d * 16777216 % 4294967296) ≡ word_at file at
  word-joined a b c d ea eb ec ed ha hb hc hd =
      let a-is : a ≡ get_or (drop at file) 0 0 = ea ∙ sym first-there in
      let b-is : b ≡ get_or (drop at file) 1 0 = eb ∙ sym (get_or-drop at file 1 0) in
      let c-is : c ≡ get_or (drop at file) 2 0 = ec ∙ sym (get_or-drop at file 2 0) in
      let d-is : d ≡ get_or (drop at file) 3 0 = ed ∙ sym (get_or-drop at file 3 0) in
      join4 a b c d ha hb hc hd
      ∙ ap₂ ◌+◌ (ap₂ ◌+◌ (ap₂ (λ (x y : ℕ). x + 256 * y) a-is b-is) (ap (λ (x : ℕ). 65536 * x) c-is)) (ap (λ (x : ℕ). 16777216 * x) d-is)

  -- the two bytes of a mark
  pub other-first : (letter : ℕ) → eqb (get_or file at 0) 80 ≡ false → false ≡ marked letter (drop at file)
  other-first letter e =
      sym (ap (λ (x : ℕ). eqb x 80 && eqb (get_or (drop at file) 1 0) letter) first-there ∙ rw e)

  pub second-decides : (letter : ℕ) → get_or file at 0 ≡ 80 → eqb (get_or file (at + 1) 0) letter ≡ marked letter (drop at file)
  second-decides letter e =
      let p : eqb (get_or (drop at file) 0 0) 80 ≡ true = eq-eqb _ _ (first-there ∙ e) in
      let q : eqb (get_or (drop at file) 1 0) letter ≡ eqb (get_or file (at + 1) 0) letter
      = ap (λ (x : ℕ). eqb x letter) (get_or-drop at file 1 0) in
      sym (rw p q)

-- stores in a row
pub four-put : (t : List ℕ) (k a b c d : ℕ) → k + 4 ≤ length t
    → set (set (set (set t k a) (k + 1) b) (k + 2) c) (k + 3) d ≡ put t k (a ∷ b ∷ c ∷ d ∷ [])
four-put t k a b c d h =
    let one : k + 1 ≡ suc k = omega arith in
    let two : k + 2 ≡ suc (suc k) = omega arith in
    let three : k + 3 ≡ suc (suc (suc k)) = omega arith in
    let words : List ℕ = a ∷ b ∷ c ∷ d ∷ [] in
    (λ j. set (set (set (set t k a) (one j) b) (two j) c) (three j) d)
    ∙ (sets-eq words t k h ∙ append_assoc (take k t) words (drop (k + 4) t))

pub two-put : (t : List ℕ) (k a b : ℕ) → k + 2 ≤ length t → set (set t k a) (k + 1) b ≡ put t k (a ∷ b ∷ [])
two-put t k a b h =
    let one : k + 1 ≡ suc k = omega arith in
    let words : List ℕ = a ∷ b ∷ [] in
    ap (λ (i : ℕ). set (set t k a) i b) one ∙ (sets-eq words t k h ∙ append_assoc (take k t) words (drop (k + 2) t))

-- the four bytes of a number, masked
pub word-put : (t : List ℕ) (k w : ℕ) → k + 4 ≤ length t → (a b c d : ℕ) → a ≡ bit_and w 255 → b ≡ bit_and (w / 256) 255
    → c ≡ bit_and (w / 65536) 255 → d ≡ bit_and (w / 16777216) 255
    → set (set (set (set t k a) (k + 1) b) (k + 2) c) (k + 3) d ≡ put t k (word_bytes w)
word-put t k w h a b c d ea eb ec ed =
    let a-is : a ≡ w % 256 = ea ∙ low8 w in
    let b-is : b ≡ w / 256 % 256 = eb ∙ low8 (w / 256) in
    let c-is : c ≡ w / 65536 % 256 = ec ∙ low8 (w / 65536) in
    let d-is : d ≡ w / 16777216 % 256 = ed ∙ low8 (w / 16777216) in
    four-put t k a b c d h ∙ (λ j. put t k (a-is j ∷ b-is j ∷ c-is j ∷ d-is j ∷ []))
