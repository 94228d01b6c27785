-- A header is read from its text, and from nothing else.
use Prim.Native.Nat.{ℕ, suc, zero, ◌+◌, ◌-◌, ◌≤◌}
use mathlib.Core.Path.{◌≡◌, refl, sym, ap, ap₂, ◌∙◌, subst}
use mathlib.Core.Bool.{Bool, true, false, cond}
use mathlib.Core.List.{List, [], ◌∷◌, ◌++◌}
use Rattle.std.specs.Prelude.{Some, None}
use native.Mathlib.Omega.{arith}
use borrow.Author.Tests.{eqb-true, eq-eqb, leb-true, le-leb}
use lib.Dec.{eqb, leb}
use lib.ListN.{length, get_or, drop, replicate}
use Rattle.plan.specs.declared.Refusal.TheVariants.{WrongByte}
use Rattle.plan.specs.declared.Version.{Version}
use Rattle.plan.specs.declared.Version.TheVariants.{V2007, V19}
use Rattle.plan.specs.Refusals.{got, refused}
use Rattle.plan.specs.declared.Counts.{Counts}
use Rattle.plan.specs.Literals.{most}
use Rattle.plan.specs.Bytes.{expect, Placed, numbers, values, Spells}
use Rattle.plan.specs.Header.{more_counts, Form, text, binary, letter_of, letter, counts_from, list_of, all_counts, over, above0, adds, Head, header, header_of}
use Rattle.laws.proofs.Reading.Common.{not-got, got-value, got-next, then-got, unless-got, cond-got, Reads, byte-there, byte-is, byte_past}
use Rattle.laws.proofs.Reading.Common.{expect-took, expect-reads}
use Rattle.laws.proofs.Reading.Lines.{numbers-took, numbers-reads}

abbrev pub AllMost : List ℕ → Type 0
AllMost [] = Unit {0}
AllMost (x ∷ l) = (x ≤ most) × AllMost l

pub over_none : (xs : List Placed) → over xs ≡ None → AllMost (values xs)
over_none [] e = tt
over_none (x ∷ xs) e = go (leb x.value most) refl (over_none xs) e
  where
    go : (t : Bool) → leb x.value most ≡ t → (over xs ≡ None → AllMost (values xs)) → cond t (over xs) (Some x.place) ≡ None
        → AllMost (values (x ∷ xs))
    go true q ih e = (leb-true _ _ q, ih e)
    go false q ih e = let z : ◌≡◌ {A = ℕ} 0 1 = cc in absurd (omega arith)

pub most-none : (xs : List Placed) → AllMost (values xs) → over xs ≡ None
most-none [] h = refl
most-none (x ∷ xs) h = rw (le-leb _ _ h.0) (most-none xs h.1)

-- 21
abbrev pub AllZero : List ℕ → Type 0
AllZero [] = Unit {0}
AllZero (x ∷ l) = (x ≡ 0) × AllZero l

pub above-none : (xs : List Placed) → above0 xs ≡ None → AllZero (values xs)
above-none [] e = tt
above-none (x ∷ xs) e = go (eqb x.value 0) refl (above-none xs) e
  where
    go : (t : Bool) → eqb x.value 0 ≡ t → (above0 xs ≡ None → AllZero (values xs)) → cond t (above0 xs) (Some x.place) ≡ None
        → AllZero (values (x ∷ xs))
    go true q ih e = (eqb-true _ _ q, ih e)
    go false q ih e = let z : ◌≡◌ {A = ℕ} 0 1 = cc in absurd (omega arith)

pub zero-none : (xs : List Placed) → AllZero (values xs) → above0 xs ≡ None
zero-none [] h = refl
zero-none (x ∷ xs) h = rw (eq-eqb _ _ h.0) (zero-none xs h.1)

pub values-drop : (k : ℕ) (xs : List Placed) → values (drop k xs) ≡ drop k (values xs)
values-drop zero xs = refl
values-drop (suc k) [] = refl
values-drop (suc k) (x ∷ xs) = values-drop k xs

-- the counts of a header that spells them
pub counts-at-most : (v : Version) → more_counts v ≤ 4
counts-at-most V2007 = omega arith
counts-at-most V19 = omega arith

-- five to nine numbers, of which the last two are 0
row-fills : (l : List ℕ) → 5 ≤ length l → length l ≤ 9 → AllZero (drop 7 l)
    → l ++ replicate (9 - length l) 0 ≡ all_counts (counts_from l)
row-fills [] a b z = absurd (omega arith)
row-fills (m ∷ []) a b z = absurd (omega arith)
row-fills (m ∷ i ∷ []) a b z = absurd (omega arith)
row-fills (m ∷ i ∷ l ∷ []) a b z = absurd (omega arith)
row-fills (m ∷ i ∷ l ∷ o ∷ []) a b z = absurd (omega arith)
row-fills (m ∷ i ∷ l ∷ o ∷ g ∷ []) a b z = refl
row-fills (m ∷ i ∷ l ∷ o ∷ g ∷ x ∷ []) a b z = refl
row-fills (m ∷ i ∷ l ∷ o ∷ g ∷ x ∷ c ∷ []) a b z = refl
row-fills (m ∷ i ∷ l ∷ o ∷ g ∷ x ∷ c ∷ j ∷ []) a b z = ap (λ (y : ℕ). m ∷ i ∷ l ∷ o ∷ g ∷ x ∷ c ∷ y ∷ 0 ∷ []) z.0
row-fills (m ∷ i ∷ l ∷ o ∷ g ∷ x ∷ c ∷ j ∷ f ∷ []) a b z =
    ap₂ (λ (y w : ℕ). m ∷ i ∷ l ∷ o ∷ g ∷ x ∷ c ∷ y ∷ w ∷ []) z.0 z.1.0
row-fills (m ∷ i ∷ l ∷ o ∷ g ∷ x ∷ c ∷ j ∷ f ∷ y ∷ t) a b z = absurd (omega arith)

row-zeros : (l : List ℕ) → length l ≤ 9 → AllZero (drop 7 (l ++ replicate (9 - length l) 0)) → AllZero (drop 7 l)
row-zeros [] b z = tt
row-zeros (m ∷ []) b z = tt
row-zeros (m ∷ i ∷ []) b z = tt
row-zeros (m ∷ i ∷ l ∷ []) b z = tt
row-zeros (m ∷ i ∷ l ∷ o ∷ []) b z = tt
row-zeros (m ∷ i ∷ l ∷ o ∷ g ∷ []) b z = tt
row-zeros (m ∷ i ∷ l ∷ o ∷ g ∷ x ∷ []) b z = tt
row-zeros (m ∷ i ∷ l ∷ o ∷ g ∷ x ∷ c ∷ []) b z = tt
row-zeros (m ∷ i ∷ l ∷ o ∷ g ∷ x ∷ c ∷ j ∷ []) b z = (z.0, tt)
row-zeros (m ∷ i ∷ l ∷ o ∷ g ∷ x ∷ c ∷ j ∷ f ∷ []) b z = z
row-zeros (m ∷ i ∷ l ∷ o ∷ g ∷ x ∷ c ∷ j ∷ f ∷ y ∷ t) b z = absurd (omega arith)

most-append : (l t : List ℕ) → AllMost (l ++ t) → AllMost l
most-append [] t h = tt
most-append (x ∷ l) t h = (h.0, most-append l t h.1)

most-at : (l : List ℕ) → AllMost l → (k : ℕ) → get_or l k 0 ≤ most
most-at [] h k = omega arith
most-at (x ∷ l) h zero = h.0
most-at (x ∷ l) h (suc k) = most-at l h.1 k

most-counts : (l : List ℕ) → AllMost l → AllMost (list_of (counts_from l))
most-counts l h =
    (most-at l h 0, (most-at l h 1, (most-at l h 2, (most-at l h 3, (most-at l h 4, (most-at l h 5, (most-at l h 6, tt)))))))

pub spells-counts : (v : Version) (l : List ℕ) → 5 ≤ length l → length l ≤ 5 + more_counts v → AllZero (drop 7 l)
    → Spells 5 (5 + more_counts v) (all_counts (counts_from l)) l
spells-counts v l a b z = (a, b, row-fills l a (omega (arith, counts-at-most v)) z)

pub counts-spelled : (v : Version) (n : Counts) (l : List ℕ) → Spells 5 (5 + more_counts v) (all_counts n) l
    → (counts_from l ≡ n) × AllZero (drop 7 l)
counts-spelled v n l s =
    let small : length l ≤ 9 = omega (arith, s.1, counts-at-most v) in
    let z = row-zeros l small (subst (λ (x : List ℕ). AllZero (drop 7 x)) (sym s.2) (refl, (refl, tt))) in
    (ap counts_from (sym (row-fills l s.0 small z) ∙ s.2), z)

module _ (file : List ℕ) where
  letter-took : (at : ℕ) (f : Form) (n : ℕ) → letter file at ≡ got f n → drop at file ≡ letter_of f ∷ drop n file
  letter-took at f n e = go (eqb (get_or file at 0) 97) refl e
    where
      second : (t : Bool) → eqb (get_or file at 0) 105 ≡ t → cond t (got binary (at + 1)) (refused (WrongByte at)) ≡ got f n
          → drop at file ≡ letter_of f ∷ drop n file
      second true q e =
          let f-is : binary ≡ f = cc in
          let n-is : at + 1 ≡ n = cc in
          byte-there file at 105 (omega arith) (eqb-true _ _ q) ∙ ap₂ (λ (x : Form) (y : ℕ). letter_of x ∷ drop y file) f-is n-is
      second false q e = absurd (not-got _ _ _ e)

      go : (t : Bool) → eqb (get_or file at 0) 97 ≡ t
          → cond t (got text (at + 1)) (cond (eqb (get_or file at 0) 105) (got binary (at + 1)) (refused (WrongByte at))) ≡ got f n
          → drop at file ≡ letter_of f ∷ drop n file
      go true q e =
          let f-is : text ≡ f = cc in
          let n-is : at + 1 ≡ n = cc in
          byte-there file at 97 (omega arith) (eqb-true _ _ q) ∙ ap₂ (λ (x : Form) (y : ℕ). letter_of x ∷ drop y file) f-is n-is
      go false q e = second (eqb (get_or file at 0) 105) refl e

  letter-reads : (at : ℕ) (f : Form) (s : List ℕ) → drop at file ≡ letter_of f ∷ s → Reads file (letter file at) f s
  letter-reads at text s e = (at + 1, rw (byte-is file at 97 s e), byte_past file at 97 s e)
  letter-reads at binary s e = (at + 1, rw (byte-is file at 105 s e), byte_past file at 105 s e)

  pub header-took : (v : Version) (at : ℕ) (h : Head) (n : ℕ) → header v file at ≡ got h n
      → (row : List ℕ) × (drop at file ≡ header_of h.form row ++ drop n file) × Spells 5 (5 + more_counts v) (all_counts h.counts) row
      × AllMost (list_of h.counts) × (adds h.form h.counts ≡ true)
  header-took v at h n e =
      let t1 = then-got (expect file 97 at) _ h n e in
      let t2 = then-got (letter file t1.1) _ h n t1.3 in
      let t3 = then-got (expect file 103 t2.1) _ h n t2.3 in
      let t4 = then-got (expect file 32 t3.1) _ h n t3.3 in
      let t5 = then-got (numbers file 5 (5 + more_counts v) t4.1) _ h n t4.3 in
      let u = unless-got (over t5.0) _ _ h n t5.3 in
      let j = unless-got (above0 (drop 7 t5.0)) _ _ h n u.1 in
      let w = cond-got (adds t2.0 (counts_from (values t5.0))) _ _ h n j.1 in
      let took = numbers-took file 5 (5 + more_counts v) t4.1 t5.0 t5.1 (omega arith) t5.2 in
      let z : AllZero (drop 7 (values t5.0)) = subst AllZero (values-drop 7 t5.0) (above-none (drop 7 t5.0) j.0) in
      let h-is : record { form = t2.0; counts = counts_from (values t5.0) } ≡ h = got-value _ h t5.1 n w.1 in
      let n-is : t5.1 ≡ n = got-next _ h t5.1 n w.1 in (
        values t5.0,
        expect-took file 97 at t1.0 t1.1 (omega arith) t1.2
            ∙ (ap (λ (x : List ℕ). 97 ∷ x) (letter-took t1.1 t2.0 t2.1 t2.2
            ∙ ap (λ (x : List ℕ). letter_of t2.0 ∷ x) (expect-took file 103 t2.1 t3.0 t3.1 (omega arith) t3.2
            ∙ ap (λ (x : List ℕ). 103 ∷ x) (expect-took file 32 t3.1 t4.0 t4.1 (omega arith) t4.2
            ∙ ap (λ (x : List ℕ). 32 ∷ x) took.0)))
            ∙ ap₂ (λ (x : Head) (y : ℕ). header_of x.form (values t5.0) ++ drop y file) h-is n-is),
        subst (λ (x : Head). Spells 5 (5 + more_counts v) (all_counts x.counts) (values t5.0)) h-is
            (spells-counts v (values t5.0) took.1 took.2 z),
        subst (λ (x : Head). AllMost (list_of x.counts)) h-is (most-counts (values t5.0) (over_none t5.0 u.0)),
        subst (λ (x : Head). adds x.form x.counts ≡ true) h-is w.0,
      )

  pub header-reads : (v : Version) (at : ℕ) (f : Form) (n : Counts) (row s : List ℕ) → Spells 5 (5 + more_counts v) (all_counts n) row
      → AllMost (list_of n) → adds f n ≡ true → drop at file ≡ header_of f row ++ s
      → Reads file (header v file at) (record { form = f; counts = n }) s
  header-reads v at f n row s p h a e =
      let r1 = expect-reads file 97 at _ e in
      let r2 = letter-reads r1.0 f _ r1.2 in
      let r3 = expect-reads file 103 r2.0 _ r2.2 in
      let r4 = expect-reads file 32 r3.0 _ r3.2 in
      let r5 = numbers-reads file row 5 (5 + more_counts v) r4.0 s p.0 p.1 (λ _. omega (arith, p.0)) r4.2 in
      let xs = r5.0 in
      let k = counts-spelled v n row p in
      let all : AllMost (row ++ replicate (9 - length row) 0) = subst AllMost (sym p.2)
      (h.0, (h.1.0, (h.1.1.0, (h.1.1.1.0, (h.1.1.1.1.0, (h.1.1.1.1.1.0, (h.1.1.1.1.1.1.0, (omega arith, (omega arith, tt))))))))) in
      let small : over xs ≡ None = most-none xs (subst AllMost (sym r5.1) (most-append row _ all)) in
      let flat : above0 (drop 7 xs) ≡ None
      = zero-none (drop 7 xs) (subst AllZero (sym (values-drop 7 xs ∙ ap (drop 7) r5.1)) k.1) in
      let c-is : counts_from (values xs) ≡ n = ap counts_from r5.1 ∙ k.0 in
      let sum : adds f (counts_from (values xs)) ≡ true = ap (adds f) c-is ∙ a in (
        r5.2.0,
        rw (r1.1, r2.1, r3.1, r4.1, r5.2.1, small, flat, sum)
            (ap (λ (x : Counts). got (record { form = f; counts = x }) r5.2.0) c-is),
        r5.2.2,
      )
