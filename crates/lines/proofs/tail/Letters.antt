-- The letters of a version, and whether a symbol line starts with one.
use Prim.Native.Nat.{ℕ, ◌+◌}
use mathlib.Core.Path.{◌≡◌, refl, ap, ◌∙◌}
use mathlib.Core.Bool.{Bool, true, false, not, ◌||◌}
use native.Mathlib.Omega.{arith}
use borrow.Author.Tests.{eq-eqb, ne_eqb}
use lib.Dec.{eqb}
use mathlib.Core.List.{List}
use lib.ListN.{get_or}
use Rattle.plan.specs.declared.Version.{Version}
use Rattle.plan.specs.declared.Version.TheVariants.{V2007, V19}
use Rattle.plan.specs.Tail.{is_kind, starts_symbol}
use Rattle.lines.specs.tail.Marks.{later}

-- every letter of 2007 is one of 1.9
pub kind-19 : (v : Version) (b : ℕ) → is_kind v b ≡ true → is_kind V19 b ≡ true
kind-19 V19 b e = e
kind-19 V2007 b e = go (eqb b 105) (eqb b 108) (eqb b 111) e
  where
    go : (t u w : Bool) → (t || (u || w)) ≡ true → (t || (u || (w || (eqb b 98 || eqb b 99)))) ≡ true
    go true u w e = refl
    go false true w e = refl
    go false false true e = refl
    go false false false e = absurd (let z : ◌≡◌ {A = ℕ} 0 1 = cc in z-not z)
      where
        z-not : ◌≡◌ {A = ℕ} 0 1 → ⊥
        z-not h = omega arith

module _ (v : Version) (b : ℕ) where
  pub letter-i : b ≡ 105 → true ≡ is_kind v b
  letter-i e = go v
    where
      go : (x : Version) → true ≡ is_kind x b
      go V2007 = rw e
      go V19 = rw e

  pub letter-l : b ≡ 108 → true ≡ is_kind v b
  letter-l e = go v
    where
      go : (x : Version) → true ≡ is_kind x b
      go V2007 = rw e
      go V19 = rw e

  pub letter-o : b ≡ 111 → true ≡ is_kind v b
  letter-o e = go v
    where
      go : (x : Version) → true ≡ is_kind x b
      go V2007 = rw e
      go V19 = rw e

  pub letter-b : b ≡ 98 → later v ≡ is_kind v b
  letter-b e = go v
    where
      go : (x : Version) → later x ≡ is_kind x b
      go V2007 = rw e
      go V19 = rw e

  pub letter-c : b ≡ 99 → later v ≡ is_kind v b
  letter-c e = go v
    where
      go : (x : Version) → later x ≡ is_kind x b
      go V2007 = rw e
      go V19 = rw e

  pub no-letter : (b ≡ 105 → ⊥) → (b ≡ 108 → ⊥) → (b ≡ 111 → ⊥) → (b ≡ 98 → ⊥) → (b ≡ 99 → ⊥) → false ≡ is_kind v b
  no-letter i l o x c = go v
    where
      go : (y : Version) → false ≡ is_kind y b
      go V2007 = rw (ne_eqb b 105 i, ne_eqb b 108 l, ne_eqb b 111 o)
      go V19 = rw (ne_eqb b 105 i, ne_eqb b 108 l, ne_eqb b 111 o, ne_eqb b 98 x, ne_eqb b 99 c)

module _ (v : Version) (file : List ℕ) (at : ℕ) where
  pub no_kind : is_kind v (get_or file at 0) ≡ false → false ≡ starts_symbol v file at
  no_kind e = rw e

  pub no-comment : is_kind v (get_or file at 0) ≡ true → (get_or file at 0 ≡ 99 → ⊥) → true ≡ starts_symbol v file at
  no-comment e n = rw (e, ne_eqb (get_or file at 0) 99 n)

  pub by_next : (t : Bool) → is_kind v (get_or file at 0) ≡ true → get_or file at 0 ≡ 99 → t ≡ eqb (get_or file (at + 1) 0) 10
      → not t ≡ starts_symbol v file at
  by_next t e c q = ap not q ∙ rw (e, eq-eqb (get_or file at 0) 99 c)
