-- The numbers of x and of fillings: a list's x go on where those of the list before it end, every filling number gives a filling, and
-- every filling has a number below 2 to the number of x.
use Prim.Native.Nat.{ℕ, zero, suc, ◌+◌, ◌*◌, ◌/◌, ◌%◌, ◌^◌, ◌<◌}
use mathlib.Core.Path.{◌≡◌, refl, sym, ap, ap₂, ◌∙◌, subst}
use mathlib.Core.Bool.{Bool, true, false, cond, ◌||◌, false≢true}
use mathlib.Core.List.{List, [], ◌∷◌, ◌++◌}
use native.Mathlib.Nat.{add-zero, zero-add, suc-add, add_assoc, pow-zero, pow-succ', div-one, div-div-eq-div-mul, not-suc-le-zero}
use native.Mathlib.Omega.{arith}
use borrow.Author.Tests.{eqb-true}
use lib.Dec.{eqb}
use lib.ListN.{length, get_or, take, drop}
use lib.Seq.{take_at, drop_at}
use Rattle.plan.specs.Fillings.{is_x, x_of, x_count, bit_of, fill_from, filling}
use Rattle.plan.specs.Fillings.{FillsAt, Fills}

pub fill-length : (k i : ℕ) (l : List ℕ) → length (fill_from k i l) ≡ length l
fill-length k i [] = refl
fill-length k i (b ∷ l) = ap suc (fill-length k (i + x_of b) l)

-- two lists, one after the other: the x of the second are numbered after those of the first
pub count-append : (l m : List ℕ) → x_count (l ++ m) ≡ x_count l + x_count m
count-append [] m = sym (zero-add (x_count m))
count-append (b ∷ l) m = ap (λ (n : ℕ). x_of b + n) (count-append l m) ∙ sym (add_assoc (x_of b) (x_count l) (x_count m))

pub fill-append : (k i : ℕ) (l m : List ℕ) → fill_from k i (l ++ m) ≡ fill_from k i l ++ fill_from k (i + x_count l) m
fill-append k i [] m = ap (λ (j : ℕ). fill_from k j m) (sym (add-zero i))
fill-append k i (b ∷ l) m =
    ap (λ (r : List ℕ). cond (is_x b) (bit_of k i) b ∷ r)
    (fill-append k (i + x_of b) l m
    ∙ ap (λ (j : ℕ). fill_from k (i + x_of b) l ++ fill_from k j m) (add_assoc i (x_of b) (x_count l)))

-- a part of a list, filled
pub fill-take : (k i n : ℕ) (l : List ℕ) → take n (fill_from k i l) ≡ fill_from k i (take n l)
fill-take k i zero l = refl
fill-take k i (suc n) [] = refl
fill-take k i (suc n) (b ∷ l) = ap (λ (r : List ℕ). cond (is_x b) (bit_of k i) b ∷ r) (fill-take k (i + x_of b) n l)

pub fill-drop : (k i n : ℕ) (l : List ℕ) → drop n (fill_from k i l) ≡ fill_from k (i + x_count (take n l)) (drop n l)
fill-drop k i zero l = ap (λ (j : ℕ). fill_from k j l) (sym (add-zero i))
fill-drop k i (suc n) [] = refl
fill-drop k i (suc n) (b ∷ l) =
    fill-drop k (i + x_of b) n l ∙ ap (λ (j : ℕ). fill_from k j (drop n l)) (add_assoc i (x_of b) (x_count (take n l)))

pub fill-part : (k i at n : ℕ) (l : List ℕ) → take n (drop at (fill_from k i l)) ≡ fill_from k (i + x_count (take at l)) (take n (drop at l))
fill-part k i at n l = ap (take n) (fill-drop k i at l) ∙ fill-take k (i + x_count (take at l)) n (drop at l)

-- what stands at a place
pub fill-at : (k i : ℕ) (l : List ℕ) (j : ℕ) → j < length l
    → get_or (fill_from k i l) j 0 ≡ cond (is_x (get_or l j 0)) (bit_of k (i + x_count (take j l))) (get_or l j 0)
fill-at k i [] j h = absurd (not-suc-le-zero h)
fill-at k i (b ∷ l) zero h = ap (λ (n : ℕ). cond (is_x b) (bit_of k n) b) (sym (add-zero i))
fill-at k i (b ∷ l) (suc j) h =
    fill-at k (i + x_of b) l j (omega arith)
    ∙ ap (λ (n : ℕ). cond (is_x (get_or l j 0)) (bit_of k n) (get_or l j 0)) (add_assoc i (x_of b) (x_count (take j l)))

-- a bit is "0" or "1"
bit-code : (w : ℕ) → w < 2 → (eqb (48 + w) 48 || eqb (48 + w) 49) ≡ true
bit-code zero h = refl
bit-code (suc zero) h = refl
bit-code (suc (suc w)) h = absurd (omega arith)

pub bit-small : (k i : ℕ) → k / 2 ^ i % 2 < 2
bit-small k i = let w : ℕ = k / 2 ^ i in small (k / 2 ^ i)
  where
    small : (w : ℕ) → w % 2 < 2
    small w = omega arith

-- every number gives a filling
fills-here : (t : Bool) (k i b : ℕ) → FillsAt t b (cond t (bit_of k i) b)
fills-here true k i b = bit-code (k / 2 ^ i % 2) (bit-small k i)
fills-here false k i b = refl

pub fill-fills : (k i : ℕ) (l : List ℕ) → Fills l (fill_from k i l)
fill-fills k i [] = tt
fill-fills k i (b ∷ l) = (fills-here (is_x b) k i b, fill-fills k (i + x_of b) l)

-- the bits of half a number
pub bit-half : (k i : ℕ) → bit_of k (suc i) ≡ bit_of (k / 2) i
bit-half k i =
    ap (λ (n : ℕ). 48 + n % 2) (ap (λ (d : ℕ). k / d) (pow-succ' 2 i) ∙ sym (div-div-eq-div-mul k 2 (2 ^ i)))

pub fill-half : (k i : ℕ) (l : List ℕ) → fill_from k (suc i) l ≡ fill_from (k / 2) i l
fill-half k i [] = refl
fill-half k i (b ∷ l) =
    ap₂ (λ (d : ℕ) (r : List ℕ). cond (is_x b) d b ∷ r) (bit-half k i)
    (ap (λ (j : ℕ). fill_from k j l) (suc-add i (x_of b)) ∙ fill-half k (i + x_of b) l)

-- a filling and its number
pub record Numbered (l m : List ℕ) : Type 0 where
  pub number : ℕ
  pub below : number < 2 ^ x_count l
  pub is-it : filling number l ≡ m

first_bit : (w k : ℕ) → w < 2 → bit_of (2 * k + w) 0 ≡ 48 + w
first_bit w k h =
    ap (λ (n : ℕ). 48 + n % 2) (ap (λ (d : ℕ). (2 * k + w) / d) (pow-zero 2) ∙ div-one (2 * k + w)) ∙ omega arith

-- "0" or "1" as a bit
code-bit : (d : ℕ) → (eqb d 48 || eqb d 49) ≡ true → (w : ℕ) × (w < 2) × (48 + w ≡ d)
code-bit d h = go (eqb d 48) (eqb d 49) refl refl h
  where
    go : (x y : Bool) → eqb d 48 ≡ x → eqb d 49 ≡ y → (x || y) ≡ true → (w : ℕ) × (w < 2) × (48 + w ≡ d)
    go true y p q r = (0, omega arith, omega (arith, eqb-true d 48 p))
    go false true p q r = (1, omega arith, omega (arith, eqb-true d 49 q))
    go false false p q r = absurd (false≢true r)

-- every filling has a number
pub fills-number : (l m : List ℕ) → Fills l m → Numbered l m
fills-number [] [] f = record { number = 0; below = subst (λ (n : ℕ). 0 < n) (sym (pow-zero 2)) (omega arith); is-it = refl }
fills-number [] (d ∷ m) f = absurd f
fills-number (b ∷ l) [] f = absurd f
fills-number (b ∷ l) (d ∷ m) f = go (is_x b) refl f.0 (fills-number l m f.1)
  where
    -- with the test as it went
    build : (t : Bool) → is_x b ≡ t → (k : ℕ) → k < 2 ^ (cond t 1 0 + x_count l)
        → cond t (bit_of k 0) b ∷ fill_from k (0 + cond t 1 0) l ≡ d ∷ m → Numbered (b ∷ l) (d ∷ m)
    build t e k h q = record {
      number = k;
      below = subst (λ (s : Bool). k < 2 ^ (cond s 1 0 + x_count l)) (sym e) h;
      is-it = ap (λ (s : Bool). cond s (bit_of k 0) b ∷ fill_from k (0 + cond s 1 0) l) e ∙ q;
    }

    go : (t : Bool) → is_x b ≡ t → FillsAt t b d → Numbered l m → Numbered (b ∷ l) (d ∷ m)
    go false e g r =
        build false e r.number (subst (λ (n : ℕ). r.number < 2 ^ n) (sym (zero-add (x_count l))) r.below)
        (ap₂ (λ (x : ℕ) (y : List ℕ). x ∷ y) (sym g) (ap (λ (j : ℕ). fill_from r.number j l) (zero-add 0) ∙ r.is-it))
    go true e g r =
        let w = code-bit d g in
        let k : ℕ = 2 * r.number + w.0 in
        build true e (2 * r.number + w.0) (twice r.number w.0 (x_count l) w.1 r.below)
        (ap₂ (λ (x : ℕ) (y : List ℕ). x ∷ y) (first_bit w.0 r.number w.1 ∙ w.2)
        (ap (λ (j : ℕ). fill_from (2 * r.number + w.0) j l) one_more
        ∙ (fill-half (2 * r.number + w.0) 0 l ∙ (ap (λ (n : ℕ). fill_from n 0 l) (halved r.number w.0 w.1) ∙ r.is-it))))
      where
        one_more : 0 + 1 ≡ suc 0
        one_more = omega arith

        halved : (n v : ℕ) → v < 2 → (2 * n + v) / 2 ≡ n
        halved n v h = omega arith

        twice : (n v x : ℕ) → v < 2 → n < 2 ^ x → 2 * n + v < 2 ^ (1 + x)
        twice n v x h q =
            let p : 1 + x ≡ suc x = omega arith in
            subst (λ (y : ℕ). 2 * n + v < y) (sym (ap (λ (y : ℕ). 2 ^ y) p ∙ pow-succ' 2 x)) (omega arith)

-- no filling has two numbers
same_head : (x y : ℕ) (l m : List ℕ) → x ∷ l ≡ y ∷ m → x ≡ y
same_head x y l m e = cc

same-tail : (x y : ℕ) (l m : List ℕ) → x ∷ l ≡ y ∷ m → l ≡ m
same-tail x y l m e = cc

pub bit-first : (k : ℕ) → bit_of k 0 ≡ 48 + k % 2
bit-first k = ap (λ (n : ℕ). 48 + n % 2) (ap (λ (d : ℕ). k / d) (pow-zero 2) ∙ div-one k)

pub fill-once : (l : List ℕ) (k j : ℕ) → k < 2 ^ x_count l → j < 2 ^ x_count l → filling k l ≡ filling j l → k ≡ j
fill-once [] k j p q e = omega (arith, p, q, pow-zero 2)
fill-once (b ∷ l) k j p q e = go (is_x b) (λ n m. fill-once l n m) p q e
  where
    go : (t : Bool) → ((n m : ℕ) → n < 2 ^ x_count l → m < 2 ^ x_count l → filling n l ≡ filling m l → n ≡ m)
        → k < 2 ^ (cond t 1 0 + x_count l) → j < 2 ^ (cond t 1 0 + x_count l)
        → cond t (bit_of k 0) b ∷ fill_from k (0 + cond t 1 0) l ≡ cond t (bit_of j 0) b ∷ fill_from j (0 + cond t 1 0) l → k ≡ j
    go false again h i r =
        let none : 0 + x_count l ≡ x_count l = omega arith in
        again k j (subst (λ (n : ℕ). k < 2 ^ n) none h) (subst (λ (n : ℕ). j < 2 ^ n) none i) (same-tail b b _ _ r)
    go true again h i r =
        let one : 1 + x_count l ≡ suc (x_count l) = omega arith in
        let twice : 2 ^ (1 + x_count l) ≡ 2 * 2 ^ x_count l = ap (λ (n : ℕ). 2 ^ n) one ∙ pow-succ' 2 (x_count l) in
        let halves : k / 2 ≡ j / 2 =
        again (k / 2) (j / 2) (half k (2 ^ x_count l) (subst (λ (n : ℕ). k < n) twice h))
        (half j (2 ^ x_count l) (subst (λ (n : ℕ). j < n) twice i))
        (sym (fill-half k 0 l) ∙ (same-tail _ _ _ _ r ∙ fill-half j 0 l)) in
        rest k j halves (sym (bit-first k) ∙ (same_head _ _ _ _ r ∙ bit-first j))
      where
        half : (n m : ℕ) → n < 2 * m → n / 2 < m
        half n m f = omega arith

        rest : (n m : ℕ) → n / 2 ≡ m / 2 → 48 + n % 2 ≡ 48 + m % 2 → n ≡ m
        rest n m f g = omega arith

-- a start before the list: its x are numbered first
module _ (k : ℕ) (start list : List ℕ) where
  pub start-filled : take (length start) (filling k (start ++ list)) ≡ filling k start
  start-filled =
      ap (take (length start)) (fill-append k 0 start list)
      ∙ take_at (filling k start) (fill_from k (0 + x_count start) list) (length start) (fill-length k 0 start)

  pub list-filled : drop (length start) (filling k (start ++ list)) ≡ fill_from k (x_count start) list
  list-filled =
      ap (drop (length start)) (fill-append k 0 start list)
      ∙ (drop_at (filling k start) (fill_from k (0 + x_count start) list) (length start) (fill-length k 0 start)
      ∙ ap (λ (j : ℕ). fill_from k j list) (zero-add (x_count start)))
