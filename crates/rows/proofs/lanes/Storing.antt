-- Codes stored block by block: where the columns of rows lie apart, what a block's bytes have, and what all columns make up.
use Prim.Native.Nat.{ℕ, zero, suc, ◌+◌, ◌-◌, ◌*◌, ◌/◌, ◌%◌, ◌^◌, ◌≤◌, ◌<◌}
use mathlib.Core.Path.{◌≡◌, refl, sym, ap, ap₂, ◌∙◌}
use mathlib.Core.List.{List, [], ◌∷◌, ◌++◌}
use native.Mathlib.Decide.{dec_lt}
use native.Mathlib.Nat.{mul-zero, mul-suc, mul-le-mul_left, pow-suc}
use native.Mathlib.Omega.{arith}
use lib.Bits.{bit_and, and_high, and_le_r}
use lib.ListN.{length, get_or, take}
use lib.Pow.{shr-shr, shl_exact, pow_mono, pow_pos}
use lib.Seq.{take-add, take_all}
use Rattle.plan.specs.Circuit.{flat}
use Rattle.laws.proofs.Tables.{firsts}
use Rattle.step.proofs.values.Filling.{part-firsts}
use Rattle.rows.specs.Planes.Planes.{bit}
use Rattle.rows.proofs.Planes.Bits.{bit_cut}
use Rattle.rows.specs.lanes.Words.{code_by, byte_of}
use Rattle.rows.specs.lanes.Blocks.{Packed, Written, Blocked}
use Rattle.rows.proofs.lanes.Turns.{flat-snoc}

-- a place of a row of n is before those of a later row
above : (n i k j from : ℕ) → j < n → i < k → n * i + j < n * k + from
above n i k j from h p =
    let more : n * suc i ≤ n * k = mul-le-mul_left n p in
    omega (arith, mul-suc n i)

-- one row more of a block
module _ {f : ℕ → ℕ → ℕ} {from w n : ℕ} {out₀ : List ℕ} {k : ℕ} {out : List ℕ} (s : Blocked f from w n k out₀ out)
    (inside : from + w ≤ n) (out' : List ℕ) (r : Written (f k) (n * k + from) w out out') where
  pub blocked-more : Blocked f from w n (k + 1) out₀ out'
  blocked-more = record {
    same = r.same ∙ s.same;
    stored = λ i j h g. go i j h g (dec_lt i k);
    others = λ i j h. apart i j h (dec_lt k i) ∙ s.others i j h;
  }
    where
      go : (i j : ℕ) → i < k + 1 → j < w → Dec (i < k) → get_or out' (n * i + (from + j)) 0 ≡ f i j
      go i j h g (yes p) =
          r.before (n * i + (from + j)) (omega (arith, above n i k (from + j) from (omega (arith, inside, g)) p)) ∙ s.stored i j p g
      go i j h g (no p) =
          let last : i ≡ k = omega arith in
          let row : n * i ≡ n * k = ap (λ (m : ℕ). n * m) last in
          let place : n * i + (from + j) ≡ n * k + from + j = omega (arith, row) in
          ap (λ (q : ℕ). get_or out' q 0) place ∙ (r.stored j g ∙ ap (λ (m : ℕ). f m j) (sym last))

      apart : (i j : ℕ) → j < from → Dec (k < i) → get_or out' (n * i + j) 0 ≡ get_or out (n * i + j) 0
      apart i j h (yes p) =
          let more : n * suc k ≤ n * i = mul-le-mul_left n p in
          r.after (n * i + j) (omega (arith, more, mul-suc n k, inside))
      apart i j h (no p) =
          let up : i ≤ k = omega arith in
          let less : n * i ≤ n * k = mul-le-mul_left n up in
          r.before (n * i + j) (omega (arith, less, h))

pub blocked-same : {f g : ℕ → ℕ → ℕ} {from w n rows : ℕ} {out out' : List ℕ} → ((k j : ℕ) → k < rows → j < w → f k j ≡ g k j)
    → Blocked f from w n rows out out' → Blocked g from w n rows out out'
blocked-same e s = record { same = s.same; stored = λ k j h i. s.stored k j h i ∙ e k j h i; others = s.others }

-- the bits of a plane's bytes are its own
byte-bit : (p k : ℕ) → bit (k % 8) (byte_of p (k / 8)) ≡ bit k p
unfolding bit
byte-bit p k =
    let lane : k % 8 < 8 = omega arith in
    let whole : 8 * (k / 8) + k % 8 ≡ k = omega arith in
    bit_cut (k % 8) 8 (p / 2 ^ (8 * (k / 8))) lane
    ∙ ap (λ (x : ℕ). x % 2) (shr-shr p (8 * (k / 8)) (k % 8) ∙ ap (λ (m : ℕ). p / 2 ^ m) whole)

pub packed-code : (p q : ℕ → ℕ) (w : ℕ) (ones boths : List ℕ) → Packed p w ones → Packed q w boths → (k j : ℕ) → k < 64 → j < w
    → code_by (get_or ones (64 * (k / 8) + j) 0) (get_or boths (64 * (k / 8) + j) 0) (k % 8) ≡ code_by (p j) (q j) k
packed-code p q w ones boths po pb k j h i =
    let group : k / 8 < 8 = omega arith in
    ap₂ (λ (x y : ℕ). 48 + x + 71 * y)
    (ap (bit (k % 8)) (po (k / 8) j group i) ∙ byte-bit (p j) k)
    (ap (bit (k % 8)) (pb (k / 8) j group i) ∙ byte-bit (q j) k)

-- a lane by a sum
lane-sum : (b q : ℕ) → b < 2 → 1 ≤ q → q ≤ 128 → (b * q + 127) / 128 ≡ b
lane-sum zero q h l m = omega arith
lane-sum (suc zero) q h l m = omega arith
lane-sum (suc (suc b)) q h l m = absurd (omega arith)

pub one-lit : (r : ℕ) → r < 8 → 1 * 2 ^ r % 256 ≡ 2 ^ r
one-lit r h = shl_exact 1 r 8 (omega arith) (omega arith) ∙ omega arith

module _ (x r : ℕ) (h : r < 8) where
  top : 2 ^ r ≤ 128
  top = let less : r ≤ 7 = omega arith in pow_mono less

  lit-or-not : bit_and x (1 * 2 ^ r % 256) ≡ x / 2 ^ r % 2 * 2 ^ r
  lit-or-not =
      let more : 1 + r ≡ suc r = omega arith in
      let twice : 2 ^ (1 + r) ≡ 2 ^ r * 2 = ap (λ (m : ℕ). 2 ^ m) more ∙ pow-suc 2 r in
      let one : 2 ^ r ≡ 2 ^ (1 + r) - 2 ^ r = omega (arith, twice) in
      ap (bit_and x) (one-lit r h ∙ one) ∙ and_high x 1 r

  pub lane-fits : bit_and x (1 * 2 ^ r % 256) ≤ 128
  lane-fits = omega (arith, and_le_r x (1 * 2 ^ r % 256), one-lit r h, top)

  pub lane-is : (bit_and x (1 * 2 ^ r % 256) + 127) / 128 ≡ bit r x
  unfolding bit
  lane-is =
      let two : x / 2 ^ r % 2 < 2 = omega arith in
      ap (λ (y : ℕ). (y + 127) / 128) lit-or-not ∙ lane-sum (x / 2 ^ r % 2) (2 ^ r) two (pow_pos r) top

-- columns below j hold what f says
abbrev pub Below : (ℕ → ℕ → ℕ) → ℕ → ℕ → ℕ → List ℕ → Type 0
Below f n rows j out = (k i : ℕ) → k < rows → i < j → get_or out (n * k + i) 0 ≡ f k i

pub below-block : (f : ℕ → ℕ → ℕ) (n rows j w m : ℕ) → j + w ≡ m → (out out' : List ℕ) → Below f n rows j out
    → Blocked (λ k i. f k (j + i)) j w n rows out out'
    → Below f n rows m out'
below-block f n rows j w m e out out' b s k i p q = go (dec_lt i j)
  where
    go : Dec (i < j) → get_or out' (n * k + i) 0 ≡ f k i
    go (yes r) = s.others k i r ∙ b k i p r
    go (no r) =
        let place : j + (i - j) ≡ i = omega arith in
        ap (λ (m : ℕ). get_or out' (n * k + m) 0) (sym place) ∙ (s.stored k (i - j) p (omega arith) ∙ ap (f k) place)

pub firsts_same : {A : Type 0} (f g : ℕ → A) (n : ℕ) → ((i : ℕ) → i < n → f i ≡ g i) → firsts f n ≡ firsts g n
firsts_same f g zero h = refl
firsts_same f g (suc n) h = ap₂ (λ l x. l ++ (x ∷ [])) (firsts_same f g n (λ i k. h i (omega arith))) (h n (omega arith))

-- all columns make up the rows
rows-there : (f : ℕ → ℕ → ℕ) (n rows : ℕ) (out : List ℕ) → n * rows ≤ length out → Below f n rows n out
    → take (n * rows) out ≡ flat (firsts (λ k. firsts (f k) n) rows)
rows-there f n zero out h b = ap (λ (m : ℕ). take m out) (mul-zero n)
rows-there f n (suc rows) out h b =
    ap (λ (m : ℕ). take m out) whole
    ∙ (take-add (n * rows) n out
    ∙ (ap₂ (λ (x y : List ℕ). x ++ y) (rows-there f n rows out (omega (arith, whole)) (λ k i p q. b k i (omega arith) q))
    (part-firsts out (n * rows) n (omega (arith, whole)) ∙ firsts_same _ (f rows) n (λ i p. b rows i (omega arith) p))
    ∙ sym (flat-snoc (firsts (λ k. firsts (f k) n) rows) (firsts (f rows) n))))
  where
    whole : n * suc rows ≡ n * rows + n
    whole = mul-suc n rows ∙ omega arith

pub rows_are : (f : ℕ → ℕ → ℕ) (n rows : ℕ) (out : List ℕ) → length out ≡ n * rows → Below f n rows n out
    → out ≡ flat (firsts (λ k. firsts (f k) n) rows)
rows_are f n rows out e b =
    sym (take_all (n * rows) out (omega arith)) ∙ rows-there f n rows out (omega arith) b
