-- Fillings of two parts at once: every number gives a filling, the numbers below 2 to the larger count of x give all, and each another one.
use Prim.Native.Nat.{ℕ, zero, suc, ◌+◌, ◌*◌, ◌/◌, ◌%◌, ◌^◌, ◌≤◌, ◌<◌}
use mathlib.Core.Path.{◌≡◌, refl, sym, ap, ap₂, ◌∙◌, subst}
use mathlib.Core.Bool.{Bool, true, false, cond}
use mathlib.Core.Logic.{◌↔◌}
use mathlib.Core.List.{List, [], ◌∷◌, ◌++◌, append-nil}
use native.Mathlib.Nat.{pow-zero, pow-succ', add-zero}
use native.Mathlib.Decide.{dec_le}
use native.Mathlib.Omega.{arith}
use lib.ListN.{length, get_or, take, drop, length-append, length-take, take-append-drop, drop_of_length-le}
use lib.Seq.{take_at, drop_at, take_all}
use Rattle.plan.specs.Fillings.{is_x, x_count, bit_of, FillsAt, Fills, fill_from, filling}
use Rattle.plan.specs.Search.{fill_both, x_both}
use Rattle.laws.proofs.Fillings.Numbering.{fill-length, fill-fills, fill-once, bit-half, bit-first, fills-number}

-- the lowest n bits of a number
abbrev pub cut : ℕ → ℕ → ℕ
cut zero k = zero
cut (suc n) k = k % 2 + 2 * cut n (k / 2)

pub cut_small : (n k : ℕ) → cut n k < 2 ^ n
cut_small zero k = omega (arith, pow-zero 2)
cut_small (suc n) k = omega (arith, cut_small n (k / 2), pow-succ' 2 n)

cut-bit : (n k i : ℕ) → i < n → bit_of (cut n k) i ≡ bit_of k i
cut-bit zero k i h = absurd (omega arith)
cut-bit (suc n) k zero h = bit-first (cut (suc n) k) ∙ (low (cut n (k / 2)) ∙ sym (bit-first k))
  where
    low : (m : ℕ) → 48 + (k % 2 + 2 * m) % 2 ≡ 48 + k % 2
    low m = omega arith
cut-bit (suc n) k (suc i) h =
    bit-half (cut (suc n) k) i ∙ (ap (λ (m : ℕ). bit_of m i) (high (cut n (k / 2))) ∙ (cut-bit n (k / 2) i (omega arith) ∙ sym (bit-half k i)))
  where
    high : (m : ℕ) → (k % 2 + 2 * m) / 2 ≡ m
    high m = omega arith

fill-cut : (n k i : ℕ) (l : List ℕ) → i + x_count l ≤ n → fill_from (cut n k) i l ≡ fill_from k i l
fill-cut n k i [] h = refl
fill-cut n k i (b ∷ l) h = go (is_x b) h (λ j. fill-cut n k j l)
  where
    go : (t : Bool) → i + (cond t 1 0 + x_count l) ≤ n → ((j : ℕ) → j + x_count l ≤ n → fill_from (cut n k) j l ≡ fill_from k j l)
        → cond t (bit_of (cut n k) i) b ∷ fill_from (cut n k) (i + cond t 1 0) l ≡ cond t (bit_of k i) b ∷ fill_from k (i + cond t 1 0) l
    go true q again = ap₂ (λ (d : ℕ) (r : List ℕ). d ∷ r) (cut-bit n k i (omega arith)) (again (i + 1) (omega arith))
    go false q again = ap (λ (r : List ℕ). b ∷ r) (again (i + 0) (omega arith))

pub both-cut : (split k : ℕ) (l : List ℕ) → fill_both split (cut (x_both split l) k) l ≡ fill_both split k l
both-cut split k l =
    ap₂ (λ (a b : List ℕ). a ++ b) (fill-cut (x_both split l) k 0 (take split l) (omega arith)) (fill-cut (x_both split l) k 0 (drop split l) (omega arith))

fills-append : (a b d e : List ℕ) → Fills a d → Fills b e → Fills (a ++ b) (d ++ e)
fills-append [] b [] e p q = q
fills-append [] b (x ∷ d) e p q = absurd p
fills-append (y ∷ a) b [] e p q = absurd p
fills-append (y ∷ a) b (x ∷ d) e p q = (p.0, fills-append a b d e p.1 q)

pub both-fills : (split k : ℕ) (l : List ℕ) → Fills l (fill_both split k l)
both-fills split k l =
    subst (λ (m : List ℕ). Fills m (fill_both split k l)) (take-append-drop split l)
    (fills-append (take split l) (drop split l) (filling k (take split l)) (filling k (drop split l)) (fill-fills k 0 (take split l))
    (fill-fills k 0 (drop split l)))

pub both-length : (split k : ℕ) (l : List ℕ) → length (fill_both split k l) ≡ length l
both-length split k l =
    length-append (filling k (take split l)) (filling k (drop split l))
    ∙ (ap₂ (λ (a b : ℕ). a + b) (fill-length k 0 (take split l)) (fill-length k 0 (drop split l))
    ∙ (sym (length-append (take split l) (drop split l)) ∙ ap length (take-append-drop split l)))

-- two parts, each as long as the other's
pub same_first : (a b d e : List ℕ) → length a ≡ length d → a ++ b ≡ d ++ e → a ≡ d
same_first a b d e h q = sym (take_at a b (length a) refl) ∙ (ap (take (length a)) q ∙ take_at d e (length a) (sym h))

pub same_second : (a b d e : List ℕ) → length a ≡ length d → a ++ b ≡ d ++ e → b ≡ e
same_second a b d e h q = sym (drop_at a b (length a) refl) ∙ (ap (drop (length a)) q ∙ drop_at d e (length a) (sym h))

pub both-once : (split : ℕ) (l : List ℕ) (k j : ℕ) → k < 2 ^ x_both split l → j < 2 ^ x_both split l → fill_both split k l ≡ fill_both split j l → k ≡ j
both-once split l k j p q e = go (dec_le (x_count (drop split l)) (x_count (take split l)))
  where
    long : length (filling k (take split l)) ≡ length (filling j (take split l))
    long = fill-length k 0 (take split l) ∙ sym (fill-length j 0 (take split l))

    go : Dec (x_count (drop split l) ≤ x_count (take split l)) → k ≡ j
    go (yes h) =
        let f : x_both split l ≡ x_count (take split l) = omega arith in
        fill-once (take split l) k j (subst (λ (n : ℕ). k < 2 ^ n) f p) (subst (λ (n : ℕ). j < 2 ^ n) f q)
        (same_first (filling k (take split l)) (filling k (drop split l)) (filling j (take split l)) (filling j (drop split l)) long e)
    go (no h) =
        let f : x_both split l ≡ x_count (drop split l) = omega arith in
        fill-once (drop split l) k j (subst (λ (n : ℕ). k < 2 ^ n) f p) (subst (λ (n : ℕ). j < 2 ^ n) f q)
        (same_second (filling k (take split l)) (filling k (drop split l)) (filling j (take split l)) (filling j (drop split l)) long e)

-- one plan alone: every filling has a number
pub whole-number : (split : ℕ) (l m : List ℕ) → length l ≤ split → Fills l m → (k : ℕ) × (fill_both split k l ≡ m)
whole-number split l m h f =
    let r = fills-number l m f in (
      r.number,
      ap₂ (λ (a b : List ℕ). filling r.number a ++ filling r.number b) (take_all split l h) (drop_of_length-le l h)
          ∙ (append-nil (filling r.number l) ∙ r.is-it),
    )

-- two plans: what stands at the x, in order, is in both parts the same as far as both go
abbrev pub xs_of : List ℕ → List ℕ → List ℕ
xs_of [] m = []
xs_of (b ∷ l) [] = []
xs_of (b ∷ l) (d ∷ m) = cond (is_x b) (d ∷ xs_of l m) (xs_of l m)

pub record Paired (split : ℕ) (l m : List ℕ) : Type 0 where
  pub fills : Fills l m
  pub pairs : (i : ℕ) → i < x_count (take split l) → i < x_count (drop split l)
      → get_or (xs_of (take split l) (take split m)) i 0 ≡ get_or (xs_of (drop split l) (drop split m)) i 0

xs-filled : (k i : ℕ) (l : List ℕ) (p : ℕ) → p < x_count l → get_or (xs_of l (fill_from k i l)) p 0 ≡ bit_of k (i + p)
xs-filled k i [] p h = absurd (omega arith)
xs-filled k i (b ∷ l) p h = go (is_x b) p h (λ j q. xs-filled k j l q)
  where
    go : (t : Bool) (q : ℕ) → q < cond t 1 0 + x_count l → ((j q : ℕ) → q < x_count l → get_or (xs_of l (fill_from k j l)) q 0 ≡ bit_of k (j + q))
        → get_or (cond t (cond t (bit_of k i) b ∷ xs_of l (fill_from k (i + cond t 1 0) l)) (xs_of l (fill_from k (i + cond t 1 0) l))) q 0 ≡ bit_of k (i + q)
    go true zero r again = ap (bit_of k) (sym (add-zero i))
    go true (suc q) r again = let e : i + 1 + q ≡ i + suc q = omega arith in again (i + 1) q (omega arith) ∙ ap (bit_of k) e
    go false q r again = let e : i + 0 + q ≡ i + q = omega arith in again (i + 0) q (omega arith) ∙ ap (bit_of k) e

fill-by : (k i : ℕ) (l m : List ℕ) → Fills l m → ((p : ℕ) → p < x_count l → get_or (xs_of l m) p 0 ≡ bit_of k (i + p)) → fill_from k i l ≡ m
fill-by k i [] [] f e = refl
fill-by k i [] (d ∷ m) f e = absurd f
fill-by k i (b ∷ l) [] f e = absurd f
fill-by k i (b ∷ l) (d ∷ m) f e = go (is_x b) f.0 e (λ j g. fill-by k j l m f.1 g)
  where
    go : (t : Bool) → FillsAt t b d
        → ((p : ℕ) → p < cond t 1 0 + x_count l → get_or (cond t (d ∷ xs_of l m) (xs_of l m)) p 0 ≡ bit_of k (i + p))
        → ((j : ℕ) → ((p : ℕ) → p < x_count l → get_or (xs_of l m) p 0 ≡ bit_of k (j + p)) → fill_from k j l ≡ m)
        → cond t (bit_of k i) b ∷ fill_from k (i + cond t 1 0) l ≡ d ∷ m
    go true g h again =
        ap₂ (λ (x : ℕ) (r : List ℕ). x ∷ r) (ap (bit_of k) (sym (add-zero i)) ∙ sym (h 0 (omega arith)))
        (again (i + 1) (λ p q. let r : i + suc p ≡ i + 1 + p = omega arith in h (suc p) (omega arith) ∙ ap (bit_of k) r))
    go false g h again =
        ap₂ (λ (x : ℕ) (r : List ℕ). x ∷ r) (sym g)
        (again (i + 0) (λ p q. let r : i + p ≡ i + 0 + p = omega arith in h p (omega arith) ∙ ap (bit_of k) r))

fills-take : (n : ℕ) (l m : List ℕ) → Fills l m → Fills (take n l) (take n m)
fills-take zero l m f = tt
fills-take (suc n) [] [] f = tt
fills-take (suc n) [] (d ∷ m) f = absurd f
fills-take (suc n) (b ∷ l) [] f = absurd f
fills-take (suc n) (b ∷ l) (d ∷ m) f = (f.0, fills-take n l m f.1)

fills-drop : (n : ℕ) (l m : List ℕ) → Fills l m → Fills (drop n l) (drop n m)
fills-drop zero l m f = f
fills-drop (suc n) [] [] f = tt
fills-drop (suc n) [] (d ∷ m) f = absurd f
fills-drop (suc n) (b ∷ l) [] f = absurd f
fills-drop (suc n) (b ∷ l) (d ∷ m) f = fills-drop n l m f.1

-- so the starts are exactly the fillings in which the k-th x of one has the value of the k-th x of the other
pub paired-exactly : (split : ℕ) (l m : List ℕ) → Paired split l m ↔ ((k : ℕ) × (fill_both split k l ≡ m))
paired-exactly split l m = (into, λ r. back r.0 m r.1)
  where
    into : Paired split l m → (k : ℕ) × (fill_both split k l ≡ m)
    into h = go (dec_le (x_count (drop split l)) (x_count (take split l)))
      where
        one : Rattle.laws.proofs.Fillings.Numbering.Numbered (take split l) (take split m)
        one = fills-number (take split l) (take split m) (fills-take split l m h.fills)

        two : Rattle.laws.proofs.Fillings.Numbering.Numbered (drop split l) (drop split m)
        two = fills-number (drop split l) (drop split m) (fills-drop split l m h.fills)

        x-one : (p : ℕ) → p < x_count (take split l) → get_or (xs_of (take split l) (take split m)) p 0 ≡ bit_of one.number (0 + p)
        x-one p q =
            ap (λ (t : List ℕ). get_or (xs_of (take split l) t) p 0) (sym one.is-it) ∙ xs-filled one.number 0 (take split l) p q

        x-two : (p : ℕ) → p < x_count (drop split l) → get_or (xs_of (drop split l) (drop split m)) p 0 ≡ bit_of two.number (0 + p)
        x-two p q =
            ap (λ (t : List ℕ). get_or (xs_of (drop split l) t) p 0) (sym two.is-it) ∙ xs-filled two.number 0 (drop split l) p q

        go : Dec (x_count (drop split l) ≤ x_count (take split l)) → (k : ℕ) × (fill_both split k l ≡ m)
        go (yes q) = (
          one.number,
          ap₂ (λ (a b : List ℕ). a ++ b) one.is-it
              (fill-by one.number 0 (drop split l) (drop split m) (fills-drop split l m h.fills)
              (λ p r. sym (h.pairs p (omega arith) r) ∙ x-one p (omega arith)))
              ∙ take-append-drop split m,
        )
        go (no q) = (
          two.number,
          ap₂ (λ (a b : List ℕ). a ++ b)
              (fill-by two.number 0 (take split l) (take split m) (fills-take split l m h.fills)
              (λ p r. h.pairs p r (omega arith) ∙ x-two p (omega arith))) two.is-it
              ∙ take-append-drop split m,
        )

    back : (k : ℕ) (n : List ℕ) → fill_both split k l ≡ n → Paired split l n
    back k n e = subst (Paired split l) e (record { fills = both-fills split k l; pairs = pairs })
      where
        long : length (filling k (take split l)) ≡ length (take split l)
        long = fill-length k 0 (take split l)

        front : Dec (length l ≤ split) → take split (fill_both split k l) ≡ filling k (take split l)
        front (yes q) =
            let none : filling k (drop split l) ≡ [] = ap (filling k) (drop_of_length-le l q) in
            ap (λ (t : List ℕ). take split (filling k (take split l) ++ t)) none
            ∙ (ap (take split) (append-nil (filling k (take split l)))
            ∙ take_all split (filling k (take split l)) (omega (arith, long, length-take split l)))
        front (no q) = take_at (filling k (take split l)) (filling k (drop split l)) split (long ∙ (length-take split l ∙ omega arith))

        later : Dec (length l ≤ split) → drop split (fill_both split k l) ≡ filling k (drop split l)
        later (yes q) =
            let none : drop split l ≡ [] = drop_of_length-le l q in
            drop_of_length-le (fill_both split k l) {i = split} (omega (arith, both-length split k l)) ∙ ap (filling k) (sym none)
        later (no q) = drop_at (filling k (take split l)) (filling k (drop split l)) split (long ∙ (length-take split l ∙ omega arith))

        pairs : (i : ℕ) → i < x_count (take split l) → i < x_count (drop split l)
            → get_or (xs_of (take split l) (take split (fill_both split k l))) i 0 ≡ get_or (xs_of (drop split l) (drop split (fill_both split k l))) i 0
        pairs i p q =
            ap (λ (t : List ℕ). get_or (xs_of (take split l) t) i 0) (front (dec_le (length l) split))
            ∙ (xs-filled k 0 (take split l) i p
            ∙ (sym (xs-filled k 0 (drop split l) i q) ∙ ap (λ (t : List ℕ). get_or (xs_of (drop split l) t) i 0) (sym (later (dec_le (length l) split)))))
