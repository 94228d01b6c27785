-- Numbers as words, bit by bit.
use Prim.Native.Nat.{ℕ, zero, suc, ◌+◌, ◌-◌, ◌*◌, ◌/◌, ◌%◌, ◌^◌, ◌≤◌, ◌<◌}
use mathlib.Core.Path.{◌≡◌, refl, sym, ap, ap₂, ◌∙◌, subst}
use mathlib.Core.Bool.{Bool, true, false, cond}
use mathlib.Core.List.{List, [], ◌∷◌, ◌++◌, map, append-nil, append_assoc}
use native.Mathlib.Nat.{pow-zero, pow-succ', div-one, div-div-eq-div-mul, pow-le-pow_right}
use lib.Pow.{shl_exact}
use native.Mathlib.Nat.{one-mul}
use native.Mathlib.Omega.{arith}
use lib.Bits.{bit_and, and_mask}
use lib.ListN.{length, get_or, take, drop, length-map, length-append, length-take}
use lib.Seq.{take_all}
use Rattle.plan.specs.Step.{Value, is1}
use Rattle.laws.proofs.Tables.{firsts, words_take}
use Rattle.step.specs.values.Words.{word, told}
use Rattle.step.proofs.values.Codes.{is_one, no_one}
use Rattle.plan.specs.Search.{bit_value, bits, as_number}
use Rattle.search.proofs.Vectors.{bits-length, number_small}
use Rattle.laws.proofs.Fillings.Numbering.{bit-small}

bit_is : (b : ℕ) → b < 2 → 1 + b ≡ word (bit_value b)
bit_is zero h = refl
bit_is (suc zero) h = refl
bit_is (suc (suc b)) h = absurd (omega arith)

pub bit-word-is : (k i : ℕ) → 1 + bit_and (k / 2 ^ i) 1 ≡ word (bit_value (k / 2 ^ i % 2))
bit-word-is k i = ap (λ (w : ℕ). 1 + w) (and_mask (k / 2 ^ i) 1) ∙ bit_is (k / 2 ^ i % 2) (bit-small k i)

pub bit-fits : (k i : ℕ) → 1 + bit_and (k / 2 ^ i) 1 < 4294967296
bit-fits k i = subst (λ (w : ℕ). 1 + w < 4294967296) (sym (and_mask (k / 2 ^ i) 1)) (small (k / 2 ^ i % 2) (bit-small k i))
  where
    small : (w : ℕ) → w < 2 → 1 + w < 4294967296
    small w h = omega arith

-- what is made of each bit of a number
bit_at : (f : Value → ℕ) (n k j : ℕ) → j < n → get_or (map f (bits n k)) j 0 ≡ f (bit_value (k / 2 ^ j % 2))
bit_at f zero k j h = absurd (omega arith)
bit_at f (suc n) k zero h = ap (λ (m : ℕ). f (bit_value (m % 2))) (sym (ap (λ (d : ℕ). k / d) (pow-zero 2) ∙ div-one k))
bit_at f (suc n) k (suc j) h =
    bit_at f n (k / 2) j (omega arith)
    ∙ ap (λ (m : ℕ). f (bit_value (m % 2))) (div-div-eq-div-mul k 2 (2 ^ j) ∙ ap (λ (d : ℕ). k / d) (sym (pow-succ' 2 j)))

firsts_same : (f g : ℕ → ℕ) (n : ℕ) → ((i : ℕ) → i < n → f i ≡ g i) → firsts f n ≡ firsts g n
firsts_same f g zero h = refl
firsts_same f g (suc n) h = ap₂ (λ (l : List ℕ) (x : ℕ). l ++ (x ∷ [])) (firsts_same f g n (λ i k. h i (omega arith))) (h n (omega arith))

pub bits-firsts : (f : Value → ℕ) (n k : ℕ) → firsts (λ j. f (bit_value (k / 2 ^ j % 2))) n ≡ map f (bits n k)
bits-firsts f n k =
    let long : length (map f (bits n k)) ≡ n = length-map (bits n k) f ∙ bits-length n k in
    firsts_same (λ j. f (bit_value (k / 2 ^ j % 2))) (λ j. get_or (map f (bits n k)) j 0) n (λ j h. sym (bit_at f n k j h))
    ∙ sym (words_take (map f (bits n k)) n (omega arith)) ∙ take_all n (map f (bits n k)) (omega arith)

pub one-is : (w : ℕ) → w ≡ 2 → ◌≡◌ {A = ℕ} 1 (cond (is1 (told w)) 1 0)
one-is w e = sym (ap {B = ℕ} (λ (b : Bool). cond b 1 0) (is_one w e))

pub one-not : (w : ℕ) → (w ≡ 2 → ⊥) → ◌≡◌ {A = ℕ} 0 (cond (is1 (told w)) 1 0)
one-not w h = sym (ap {B = ℕ} (λ (b : Bool). cond b 1 0) (no_one w h))

-- of the words ws, those of rest are still to come, and s is the number of those past them
pub record Numbered (ws rest : List ℕ) (s : ℕ) : Type 0 where
  pub past : List ℕ
  pub parts : rest ++ past ≡ ws
  pub number : s ≡ as_number (map told past)

pub numbered-none : (t : List ℕ) (first n : ℕ) (rest : List ℕ) → rest ≡ take (first + n - first) (drop first t)
    → Numbered (take n (drop first t)) rest 0
numbered-none t first n rest e =
    let k : first + n - first ≡ n = omega arith in
    record { past = []; parts = append-nil rest ∙ e ∙ ap (λ (m : ℕ). take m (drop first t)) k; number = refl }

pub numbered_more : {ws rest : List ℕ} {s : ℕ} → Numbered ws rest s → (before : List ℕ) (w : ℕ) → rest ≡ before ++ (w ∷ []) → (b : ℕ)
    → b ≡ cond (is1 (told w)) 1 0 → Numbered ws before (2 * s + b)
numbered_more {ws} {rest} {s} m before w e b f =
    let p : before ++ (w ∷ m.past) ≡ (before ++ (w ∷ [])) ++ m.past = sym (append_assoc before (w ∷ []) m.past) in
    record {
      past = w ∷ m.past;
      parts = p ∙ ap (λ (l : List ℕ). l ++ m.past) (sym e) ∙ m.parts;
      number = ap₂ (λ (x y : ℕ). 2 * x + y) m.number f ∙ swap (cond (is1 (told w)) 1 0) (as_number (map told m.past));
    }
  where
    swap : (x y : ℕ) → 2 * y + x ≡ x + 2 * y
    swap x y = omega arith

pub numbered-low : (t : List ℕ) (first n : ℕ) {rest : List ℕ} {s : ℕ} → Numbered (take n (drop first t)) rest s → n ≤ 20 → s < 1048576
numbered-low t first n {rest} {s} m h =
    let few : length (map told m.past) ≤ 20 =
    omega (arith, length-map m.past told, length-append rest m.past, ap length m.parts, length-take n (drop first t)) in
    omega (
      arith,
      m.number,
      number_small (map told m.past),
      pow-le-pow_right {n = 2} (omega arith) {i = length (map told m.past)} {j = 20} few,
    )

pub numbered-all : (ws rest : List ℕ) (s : ℕ) → Numbered ws rest s → length rest ≡ 0 → s ≡ as_number (map told ws)
numbered-all ws [] s m e = m.number ∙ ap (λ (l : List ℕ). as_number (map told l)) m.parts
numbered-all ws (w ∷ rest) s m e = absurd (omega arith)

pub one-small : (w b : ℕ) → b ≡ cond (is1 (told w)) 1 0 → b ≤ 1
one-small w b e = go (is1 (told w)) e
  where
    go : (t : Bool) → b ≡ cond t 1 0 → b ≤ 1
    go true q = omega arith
    go false q = omega arith

pub power-is : (n : ℕ) → n ≤ 20 → (1 * 2 ^ n) % 2 ^ 64 ≡ 2 ^ n
power-is n h = shl_exact {a = 1} 1 n 64 (omega arith) (omega arith) ∙ one-mul (2 ^ n)
