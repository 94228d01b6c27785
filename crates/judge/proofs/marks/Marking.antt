-- A gate is marked, and the words above it; a mark is taken away, and the marks above it of words that are 0 then.
use mathlib.Core.Path.{◌≡◌, refl, ap, ◌∙◌}
use mathlib.Core.Bool.{true, not}
use mathlib.Core.List.{List}
use Prim.Native.Nat.{ℕ, ◌+◌, ◌/◌, ◌<◌, ◌≤◌}
use native.Mathlib.Omega.{arith}
use lib.ListN.{length, get_or}
use Rattle.tables.specs.bitmap.Bitmap.{is_on, raised}
use Rattle.tables.proofs.bitmap.Places.{raised-length, raised-off}
use Rattle.tables.proofs.bitmap.Telling.{told_same, raised-on, raised-others}
use Rattle.judge.specs.marks.Levels.{p0, p1, p2, p3, Level, Levels, Agree, marked, Lowered, TakenOff}
use Rattle.judge.proofs.marks.Levels.{level-same, level-raised, level-sure, level-lowered}

module _ (t : List ℕ) (n a i : ℕ) (long : p3 n a < length t) (small : a < 1048576) (h : i < a) where
  u₁ : List ℕ
  u₁ = raised t (p0 n a) i

  u₂ : List ℕ
  unfolding u₁
  u₂ = raised u₁ (p1 n a) (i / 32)

  u₃ : List ℕ
  unfolding u₂
  u₃ = raised u₂ (p2 n a) (i / 1024)

  u₄ : List ℕ
  unfolding u₃
  u₄ = raised u₃ (p3 n a) (i / 32768)

  n₁ : length u₁ ≡ length t
  unfolding u₁
  n₁ = raised-length t (p0 n a) i

  n₂ : length u₂ ≡ length t
  unfolding u₂
  n₂ = raised-length u₁ (p1 n a) (i / 32) ∙ n₁

  n₃ : length u₃ ≡ length t
  unfolding u₃
  n₃ = raised-length u₂ (p2 n a) (i / 1024) ∙ n₂

  o₁ : (p : ℕ) → (p ≡ p0 n a + i / 32 → ⊥) → get_or u₁ p 0 ≡ get_or t p 0
  unfolding u₁
  o₁ p d = raised-off t (p0 n a) i (omega arith) p d

  o₂ : (p : ℕ) → (p ≡ p1 n a + i / 32 / 32 → ⊥) → get_or u₂ p 0 ≡ get_or u₁ p 0
  unfolding u₂
  o₂ p d = raised-off u₁ (p1 n a) (i / 32) (omega (arith, n₁)) p d

  o₃ : (p : ℕ) → (p ≡ p2 n a + i / 1024 / 32 → ⊥) → get_or u₃ p 0 ≡ get_or u₂ p 0
  unfolding u₃
  o₃ p d = raised-off u₂ (p2 n a) (i / 1024) (omega (arith, n₂)) p d

  o₄ : (p : ℕ) → (p ≡ p3 n a + i / 32768 / 32 → ⊥) → get_or u₄ p 0 ≡ get_or u₃ p 0
  unfolding u₄
  o₄ p d = raised-off u₃ (p3 n a) (i / 32768) (omega (arith, n₃)) p d

  levels : Levels t n a → Levels u₄ n a
  unfolding u₄
  levels l = record { one = one; two = two; three = three }
    where
      one : Level u₄ (p0 n a) (p1 n a) (a / 32)
      one =
          level-same u₂ u₄ (p0 n a) (p1 n a) (a / 32)
          (λ w k. o₄ (p0 n a + w) (λ e. omega (arith, e)) ∙ o₃ (p0 n a + w) (λ e. omega (arith, e)))
          (λ w k. o₄ (p1 n a + w) (λ e. omega (arith, e)) ∙ o₃ (p1 n a + w) (λ e. omega (arith, e)))
          (level-raised t (p0 n a) (p1 n a) (a / 32) i (i / 32) refl (omega arith) (omega arith) (omega arith) n₁ l.one)

      two : Level u₄ (p1 n a) (p2 n a) (a / 1024)
      two =
          level-same u₃ u₄ (p1 n a) (p2 n a) (a / 1024) (λ w k. o₄ (p1 n a + w) (λ e. omega (arith, e)))
          (λ w k. o₄ (p2 n a + w) (λ e. omega (arith, e)))
          (level-raised u₁ (p1 n a) (p2 n a) (a / 1024) (i / 32) (i / 1024) (omega arith) (omega arith) (omega arith) (omega (arith, n₁))
          (raised-length u₁ (p1 n a) (i / 32))
          (level-same t u₁ (p1 n a) (p2 n a) (a / 1024) (λ w k. o₁ (p1 n a + w) (λ e. omega (arith, e)))
          (λ w k. o₁ (p2 n a + w) (λ e. omega (arith, e))) l.two))

      three : Level u₄ (p2 n a) (p3 n a) (a / 32768)
      three =
          level-raised u₂ (p2 n a) (p3 n a) (a / 32768) (i / 1024) (i / 32768) (omega arith) (omega arith) (omega arith) (omega (arith, n₂))
          (raised-length u₂ (p2 n a) (i / 1024))
          (level-same t u₂ (p2 n a) (p3 n a) (a / 32768)
          (λ w k. o₂ (p2 n a + w) (λ e. omega (arith, e)) ∙ o₁ (p2 n a + w) (λ e. omega (arith, e)))
          (λ w k. o₂ (p3 n a + w) (λ e. omega (arith, e)) ∙ o₁ (p3 n a + w) (λ e. omega (arith, e))) l.three)

  -- above the gates' own marks nothing changes these
  later : (p : ℕ) → p < p1 n a → get_or u₄ p 0 ≡ get_or u₁ p 0
  later p k = o₄ p (λ e. omega (arith, e)) ∙ (o₃ p (λ e. omega (arith, e)) ∙ o₂ p (λ e. omega (arith, e)))

  pub marked-low : Agree (p0 n a) t (marked t n a i)
  unfolding marked u₄
  marked-low p k = later p (omega arith) ∙ o₁ p (λ e. omega (arith, e))

  pub marked-here : is_on (marked t n a i) (p0 n a) i ≡ true
  unfolding marked u₄
  marked-here = told_same u₁ u₄ (p0 n a) i (later (p0 n a + i / 32) (omega arith)) ∙ raised-on t (p0 n a) i (omega arith)

  pub marked-others : (c : ℕ) → (c ≡ i → ⊥) → c / 32 ≤ a / 32 → is_on (marked t n a i) (p0 n a) c ≡ is_on t (p0 n a) c
  unfolding marked u₄
  marked-others c d k =
      told_same u₁ u₄ (p0 n a) c (later (p0 n a + c / 32) (omega arith)) ∙ raised-others t (p0 n a) i (omega arith) c d

  pub marked-levels : Levels t n a → Levels (marked t n a i) n a
  unfolding marked u₄
  marked-levels l = levels l

-- the other way
module _ (t t₁ t₂ t₃ t₄ : List ℕ) (n a j : ℕ) (h : j < a) (small : a < 1048576) (l : Levels t n a) (on : is_on t (p0 n a) j ≡ true)
    (e₁ e₂ e₃ e₄ : ℕ) (s₁ : e₁ < 2) (s₂ : e₂ < 2)
    (one : Lowered t t₁ (p0 n a) j 1 e₁) (two : Lowered t₁ t₂ (p1 n a) (j / 32) e₁ e₂) (three : Lowered t₂ t₃ (p2 n a) (j / 1024) e₂ e₃)
    (four : Lowered t₃ t₄ (p3 n a) (j / 32768) e₃ e₄) where
  two-in-1 : Level t₁ (p1 n a) (p2 n a) (a / 1024)
  two-in-1 =
      level-same t t₁ (p1 n a) (p2 n a) (a / 1024) (λ w k. one.off (p1 n a + w) (λ e. omega (arith, e)))
      (λ w k. one.off (p2 n a + w) (λ e. omega (arith, e))) l.two

  three-in-2 : Level t₂ (p2 n a) (p3 n a) (a / 32768)
  three-in-2 =
      level-same t t₂ (p2 n a) (p3 n a) (a / 32768)
      (λ w k. two.off (p2 n a + w) (λ e. omega (arith, e)) ∙ one.off (p2 n a + w) (λ e. omega (arith, e)))
      (λ w k. two.off (p3 n a + w) (λ e. omega (arith, e)) ∙ one.off (p3 n a + w) (λ e. omega (arith, e))) l.three

  sure₁ : e₁ ≡ 1 → is_on t₁ (p1 n a) (j / 32) ≡ true
  sure₁ =
      level-sure t t₁ t₂ (p0 n a) (p1 n a) (a / 32) j (j / 32) 1 e₁ e₂ refl (omega arith) (omega arith) (omega arith) one two (λ e. on) l.one

  sure₂ : e₂ ≡ 1 → is_on t₂ (p2 n a) (j / 1024) ≡ true
  sure₂ =
      level-sure t₁ t₂ t₃ (p1 n a) (p2 n a) (a / 1024) (j / 32) (j / 1024) e₁ e₂ e₃ (omega arith) (omega arith) (omega arith) s₁ two three
      sure₁ two-in-1

  later₂ : (p : ℕ) → p < p2 n a → get_or t₄ p 0 ≡ get_or t₂ p 0
  later₂ p k = four.off p (λ e. omega (arith, e)) ∙ three.off p (λ e. omega (arith, e))

  later₁ : (p : ℕ) → p < p1 n a → get_or t₄ p 0 ≡ get_or t₁ p 0
  later₁ p k = later₂ p (omega arith) ∙ two.off p (λ e. omega (arith, e))

  pub taken-off : TakenOff t t₄ n a j
  taken-off = record {
    low = λ p k. later₁ p (omega arith) ∙ one.off p (λ e. omega (arith, e));
    others = λ c d k. told_same t₁ t₄ (p0 n a) c (later₁ (p0 n a + c / 32) (omega arith)) ∙ one.others c d;
    gone = told_same t₁ t₄ (p0 n a) j (later₁ (p0 n a + j / 32) (omega arith)) ∙ ((one.turned refl).0 ∙ ap not on);
    levels = record {
      one =
          level-same t₂ t₄ (p0 n a) (p1 n a) (a / 32) (λ w k. later₂ (p0 n a + w) (omega arith)) (λ w k. later₂ (p1 n a + w) (omega arith))
          (level-lowered t t₁ t₂ (p0 n a) (p1 n a) (a / 32) j (j / 32) 1 e₁ e₂ refl (omega arith) (omega arith) (omega arith) one two
          (λ e. on) l.one);
      two =
          level-same t₃ t₄ (p1 n a) (p2 n a) (a / 1024) (λ w k. four.off (p1 n a + w) (λ e. omega (arith, e)))
          (λ w k. four.off (p2 n a + w) (λ e. omega (arith, e)))
          (level-lowered t₁ t₂ t₃ (p1 n a) (p2 n a) (a / 1024) (j / 32) (j / 1024) e₁ e₂ e₃ (omega arith) (omega arith) (omega arith) s₁
          two three sure₁ two-in-1);
      three =
          level-lowered t₂ t₃ t₄ (p2 n a) (p3 n a) (a / 32768) (j / 1024) (j / 32768) e₂ e₃ e₄ (omega arith) (omega arith) (omega arith) s₂
          three four sure₂ three-in-2;
    };
  }
