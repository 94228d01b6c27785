-- The first mark: from the top level down, each time the first place of the word that the level above names.
use mathlib.Core.Path.{◌≡◌, refl, sym, ◌∙◌, subst}
use mathlib.Core.Bool.{true, false, false≢true}
use mathlib.Core.List.{List}
use Prim.Native.Nat.{ℕ, zero, suc, ◌+◌, ◌-◌, ◌*◌, ◌/◌, ◌^◌, ◌<◌, ◌≤◌}
use native.Mathlib.Omega.{arith}
use borrow.Author.Tests.{lt-ltb, ltb-true}
use lib.ListN.{get_or}
use Rattle.laws.proofs.Running.Lists.{absent}
use Rattle.tables.specs.bitmap.Bitmap.{is_on, NextOn}
use Rattle.judge.specs.marks.Levels.{p0, p1, p2, p3, Level, Levels, FirstPair}
use Rattle.judge.proofs.marks.Turning.{lit, told, lit-pos, next-there}

-- r is the first place that is on at p, in a word up to the one numbered m
pub record FirstOn (t : List ℕ) (p m r : ℕ) : Type 0 where
  pub on : is_on t p r ≡ true
  pub within : r / 32 ≤ m
  pub dark : (c : ℕ) → c < r → is_on t p c ≡ false

-- a place that is on is seen above
up : (t : List ℕ) (p q m c : ℕ) → Level t p q m → c / 32 ≤ m → is_on t p c ≡ true → is_on t q (c / 32) ≡ true
up t p q m c l h on = l.same (c / 32) h ∙ lt-ltb 0 (get_or t (p + c / 32) 0) (lit-pos t p c on)

pub first-in : (t : List ℕ) (p q m w : ℕ) → Level t p q m → FirstOn t q (m / 32) w → w ≤ m
first-in t p q m w l f = go (w - m) refl
  where
    go : (d : ℕ) → w - m ≡ d → w ≤ m
    go zero e = omega arith
    go (suc d) e = absurd (false≢true (sym (l.past w (omega (arith, e)) f.within) ∙ f.on))

pub first_word : (t : List ℕ) (p q m w : ℕ) → Level t p q m → FirstOn t q (m / 32) w → 0 < get_or t (p + w) 0
first_word t p q m w l f = ltb-true 0 (get_or t (p + w) 0) (sym (l.same w (first-in t p q m w l f)) ∙ f.on)

pub first-down : (t : List ℕ) (p q m w r : ℕ) → Level t p q m → FirstOn t q (m / 32) w → get_or t (p + w) 0 < 2 ^ 32 → NextOn t p (32 * w) r
    → FirstOn t p m r
first-down t p q m w r l f small s =
    record { on = told t p r (s.there (omega (arith, below))); within = omega (arith, below, s.from, first-in t p q m w l f); dark = dark }
  where
    below : r < 32 * w + 32
    below = next-there t p w r small (first_word t p q m w l f) s

    dark : (c : ℕ) → c < r → is_on t p c ≡ false
    dark c h = absent (is_on t p c) (λ on. go (w - c / 32) refl on)
      where
        go : (d : ℕ) → w - c / 32 ≡ d → is_on t p c ≡ true → ⊥
        go zero e on = s.dark c (omega (arith, e)) h (lit t p c on)
        go (suc d) e on =
            false≢true (sym (f.dark (c / 32) (omega (arith, e))) ∙ up t p q m c l (omega (arith, e, first-in t p q m w l f)) on)

pub first-top : (t : List ℕ) (q r : ℕ) → 0 < get_or t q 0 → get_or t q 0 < 2 ^ 32 → NextOn t q 0 r → FirstOn t q 0 r
first-top t q r pos small s =
    record { on = told t q r (s.there below); within = omega (arith, below); dark = λ c h. absent (is_on t q c) (λ on. s.dark c (omega arith) h (lit t q c on)) }
  where
    here : q + 0 ≡ q
    here = omega arith

    below : r < 32
    below =
        next-there t q 0 r (subst (λ (x : ℕ). get_or t x 0 < 2 ^ 32) (sym here) small) (subst (λ (x : ℕ). 0 < get_or t x 0) (sym here) pos) s

-- where the top word is 0 nothing is marked
pub none-marked : (t : List ℕ) (n a c : ℕ) → a < 1048576 → Levels t n a → get_or t (p3 n a) 0 ≡ 0 → c < a → is_on t (p0 n a) c ≡ false
none-marked t n a c small l z h = absent (is_on t (p0 n a) c) dark
  where
    dark : is_on t (p0 n a) c ≡ true → ⊥
    dark on =
        let on₁ = up t (p0 n a) (p1 n a) (a / 32) c l.one (omega arith) on in
        let on₂ = up t (p1 n a) (p2 n a) (a / 1024) (c / 32) l.two (omega arith) on₁ in
        let on₃ = up t (p2 n a) (p3 n a) (a / 32768) (c / 32 / 32) l.three (omega arith) on₂ in
        let top : p3 n a + c / 32 / 32 / 32 / 32 ≡ p3 n a = omega arith in
        omega (arith, z, subst (λ (x : ℕ). 0 < get_or t x 0) top (lit-pos t (p3 n a) (c / 32 / 32 / 32) on₃))

-- the pair of the first gate that is marked, if it is one of a gates
pub pair_found : (t : List ℕ) (n a j : ℕ) → FirstOn t (p0 n a) (a / 32) j → j < a → FirstPair t n a (j / 2 * 2)
pair_found t n a j f h = record {
  within = omega arith;
  dark = λ c l k. f.dark c (omega arith);
  there = λ l. record { gate = j; even = omega arith; low = omega arith; high = omega arith; within = h; on = f.on };
}

pub pair-past : (t : List ℕ) (n a j : ℕ) → FirstOn t (p0 n a) (a / 32) j → a ≤ j → FirstPair t n a a
pair-past t n a j f h = record { within = omega arith; dark = λ c l k. f.dark c (omega arith); there = λ l. absurd (omega arith) }
