-- A level of marks tells which words of the level below are not 0: kept where neither is touched, and where a place of both is put on or
-- turned over.
use mathlib.Core.Path.{◌≡◌, refl, sym, ap, ◌∙◌, subst}
use mathlib.Core.Bool.{Bool, true, false, not, cond}
use mathlib.Core.List.{List}
use Prim.Native.Nat.{ℕ, zero, suc, ◌+◌, ◌*◌, ◌/◌, ◌%◌, ◌^◌, ◌<◌, ◌≤◌}
use native.Mathlib.Nat.{zero-mul}
use native.Mathlib.Omega.{arith}
use borrow.Author.Tests.{eqb-true, eqb-false, lt-ltb, le-ltb}
use lib.Bits.{bit_xor, xor_zero_r}
use lib.Dec.{eqb, ltb}
use lib.ListN.{length, get_or, set}
use lib.Seq.{set-get_or}
use Rattle.tables.specs.bitmap.Bitmap.{is_on, raised, toggled}
use Rattle.tables.proofs.bitmap.Words.{one_shl}
use Rattle.tables.proofs.bitmap.Places.{raised-off, toggled-off}
use Rattle.tables.proofs.bitmap.Telling.{told_same, raised-on, raised-others}
use Rattle.judge.specs.marks.Levels.{Level, Lowered}
use Rattle.judge.proofs.marks.Turning.{lit-pos, turned-here, turned-others}

pub level-same : (t u : List ℕ) (p q m : ℕ) → ((w : ℕ) → w ≤ m → get_or u (p + w) 0 ≡ get_or t (p + w) 0)
    → ((w : ℕ) → w ≤ m / 32 → get_or u (q + w) 0 ≡ get_or t (q + w) 0) → Level t p q m → Level u p q m
level-same t u p q m words bits l = record {
  same = λ w h. told_same t u q w (bits (w / 32) (omega arith)) ∙ (l.same w h ∙ ap (ltb 0) (sym (words w h)));
  past = λ w h k. told_same t u q w (bits (w / 32) k) ∙ l.past w h k;
}

-- one place changes
level-change : (t u : List ℕ) (p q m k : ℕ) → k ≤ m → ((w : ℕ) → w ≤ m → (w ≡ k → ⊥) → get_or u (p + w) 0 ≡ get_or t (p + w) 0)
    → ((w : ℕ) → w / 32 ≤ m / 32 → (w ≡ k → ⊥) → is_on u q w ≡ is_on t q w) → is_on u q k ≡ ltb 0 (get_or u (p + k) 0) → Level t p q m
    → Level u p q m
level-change t u p q m k inn words bits here l = record { same = same; past = λ w h i. bits w i (λ e. omega (arith, e)) ∙ l.past w h i }
  where
    same : (w : ℕ) → w ≤ m → is_on u q w ≡ ltb 0 (get_or u (p + w) 0)
    same w h = go (eqb w k) refl
      where
        go : (b : Bool) → eqb w k ≡ b → is_on u q w ≡ ltb 0 (get_or u (p + w) 0)
        go true e = subst (λ (x : ℕ). is_on u q x ≡ ltb 0 (get_or u (p + x) 0)) (sym (eqb-true w k e)) here
        go false e = let n = eqb-false w k e in bits w (omega arith) n ∙ (l.same w h ∙ ap (ltb 0) (sym (words w h n)))

-- place i is put on, and the place of its word
pub level-raised : (t : List ℕ) (p q m i k : ℕ) → i / 32 ≡ k → k ≤ m → p + m < q → q + m / 32 < length t
    → length (raised t p i) ≡ length t → Level t p q m → Level (raised (raised t p i) q k) p q m
level-raised t p q m i k at inn apart fits same_length l =
    let t₁ = raised t p i in
    let f₁ : p + i / 32 < length t = omega arith in
    let f₂ : q + k / 32 < length t₁ = omega (arith, same_length) in
    let word : (w : ℕ) → w ≤ m → get_or (raised t₁ q k) (p + w) 0 ≡ get_or t₁ (p + w) 0 = λ w h. raised-off t₁ q k f₂ (p + w) (λ e. omega (arith, e)) in
    let pos : 0 < get_or t₁ (p + k) 0 = subst (λ (x : ℕ). 0 < get_or t₁ (p + x) 0) at (lit-pos t₁ p i (raised-on t p i f₁)) in
    level-change t (raised t₁ q k) p q m k inn (λ w h n. word w h ∙ raised-off t p i f₁ (p + w) (λ e. n (omega (arith, e, at))))
    (λ w h n. raised-others t₁ q k f₂ w n ∙ told_same t t₁ q w (raised-off t p i f₁ (q + w / 32) (λ e. omega (arith, e, at))))
    (raised-on t₁ q k f₂ ∙ sym (ap (ltb 0) (word k inn) ∙ lt-ltb 0 (get_or t₁ (p + k) 0) pos)) l

-- what `lower` leaves
pub lowered : (t u : List ℕ) (p i e r : ℕ) → p + i / 32 < length t → e < 2
    → u ≡ set t (p + i / 32) (bit_xor (get_or t (p + i / 32) 0) (e * 2 ^ (i % 32) % 4294967296))
    → r ≡ cond (eqb (get_or u (p + i / 32) 0) 0) e 0 → Lowered t u p i e r
unfolding toggled
lowered t u p i zero r fits few e gives = record {
  off = λ k n. ap (λ (l : List ℕ). get_or l k 0) same;
  others = λ c n. ap (λ (l : List ℕ). is_on l p c) same;
  still = λ z. (ap (λ (l : List ℕ). get_or l (p + i / 32) 0) same, gives ∙ either (eqb (get_or u (p + i / 32) 0) 0));
  turned = λ z. absurd (omega (arith, z));
}
  where
    either : (b : Bool) → cond b zero zero ≡ zero
    either true = refl
    either false = refl

    same : u ≡ t
    same =
        e ∙ (ap (λ (x : ℕ). set t (p + i / 32) (bit_xor (get_or t (p + i / 32) 0) (x % 4294967296))) (zero-mul (2 ^ (i % 32)))
        ∙ (ap (set t (p + i / 32)) (xor_zero_r (get_or t (p + i / 32) 0)) ∙ set-get_or t (p + i / 32) 0))
lowered t u p i (suc zero) r fits few e gives = record {
  off = λ k n. ap (λ (l : List ℕ). get_or l k 0) same ∙ toggled-off t p i fits k n;
  others = λ c n. ap (λ (l : List ℕ). is_on l p c) same ∙ turned-others t p i fits c n;
  still = λ z. absurd (omega (arith, z));
  turned = λ z. (ap (λ (l : List ℕ). is_on l p i) same ∙ turned-here t p i fits, gives);
}
  where
    same : u ≡ toggled t p i
    same = e ∙ ap (λ (x : ℕ). set t (p + i / 32) (bit_xor (get_or t (p + i / 32) 0) x)) (one_shl (i % 32) (omega arith))
lowered t u p i (suc (suc x)) r fits few e gives = absurd (omega arith)

-- place i is turned over and then, if its word is 0, the place of its word
module _ (t t₁ t₂ : List ℕ) (p q m i k e r s : ℕ) (at : i / 32 ≡ k) (inn : k ≤ m) (apart : p + m < q) (few : e < 2)
    (one : Lowered t t₁ p i e r) (two : Lowered t₁ t₂ q k r s) (sure : e ≡ 1 → is_on t p i ≡ true) (l : Level t p q m) where
  kept : (w : ℕ) → get_or t₁ (q + w) 0 ≡ get_or t (q + w) 0
  kept w = one.off (q + w) (λ z. omega (arith, z, at))

  lit-above : e ≡ 1 → is_on t₁ q k ≡ true
  lit-above z =
      told_same t t₁ q k (kept (k / 32))
      ∙ (l.same k inn ∙ lt-ltb 0 (get_or t (p + k) 0) (subst (λ (x : ℕ). 0 < get_or t (p + x) 0) at (lit-pos t p i (sure z))))

  stays : r ≡ 0 → is_on t₂ q k ≡ is_on t₁ q k
  stays z = told_same t₁ t₂ q k (two.still z).0

  turn : (x : ℕ) → e ≡ x → x < 2 → (is_on t₂ q k ≡ ltb 0 (get_or t₁ (p + k) 0)) × (r ≡ 1 → is_on t₁ q k ≡ true)
  turn zero z h = (
    stays (one.still z).1
        ∙ (told_same t t₁ q k (kept (k / 32))
        ∙ (l.same k inn ∙ ap (ltb 0) (sym (subst (λ (x : ℕ). get_or t₁ (p + x) 0 ≡ get_or t (p + x) 0) at (one.still z).0)))),
    λ y. absurd (omega (arith, y, (one.still z).1)),
  )
  turn (suc zero) z h = (go (eqb (get_or t₁ (p + k) 0) 0) refl, λ y. lit-above z)
    where
      gives : r ≡ cond (eqb (get_or t₁ (p + k) 0) 0) 1 0
      gives = subst (λ (x : ℕ). r ≡ cond (eqb (get_or t₁ (p + x) 0) 0) 1 0) at (one.turned z).1

      go : (b : Bool) → eqb (get_or t₁ (p + k) 0) 0 ≡ b → is_on t₂ q k ≡ ltb 0 (get_or t₁ (p + k) 0)
      go true y =
          (two.turned (gives ∙ ap (λ (b : Bool). cond b 1 0) y)).0
          ∙ (ap not (lit-above z) ∙ sym (le-ltb 0 (get_or t₁ (p + k) 0) (omega (arith, eqb-true (get_or t₁ (p + k) 0) 0 y))))
      go false y =
          stays (gives ∙ ap (λ (b : Bool). cond b 1 0) y)
          ∙ (lit-above z ∙ sym (lt-ltb 0 (get_or t₁ (p + k) 0) (omega (arith, eqb-false (get_or t₁ (p + k) 0) 0 y))))
  turn (suc (suc x)) z h = absurd (omega arith)

  pub level-sure : r ≡ 1 → is_on t₁ q k ≡ true
  level-sure = (turn e refl few).1

  pub level-lowered : Level t₂ p q m
  level-lowered =
      let word : (w : ℕ) → w ≤ m → get_or t₂ (p + w) 0 ≡ get_or t₁ (p + w) 0 = λ w h. two.off (p + w) (λ z. omega (arith, z)) in
      level-change t t₂ p q m k inn (λ w h n. word w h ∙ one.off (p + w) (λ z. n (omega (arith, z, at))))
      (λ w h n. two.others w n ∙ told_same t t₁ q w (kept (w / 32)))
      ((turn e refl few).0 ∙ ap (ltb 0) (sym (word k inn))) l
