-- Lines of literals are read from their text, and from nothing else.
use Prim.Native.Nat.{ℕ, suc, zero, ◌+◌, ◌<◌, ◌≤◌}
use mathlib.Core.Path.{◌≡◌, refl, sym, ap, ap₂, ◌∙◌, subst}
use mathlib.Core.Bool.{Bool, true, false, cond}
use mathlib.Core.List.{List, [], ◌∷◌, ◌++◌, append_assoc}
use Rattle.std.specs.Prelude.{Some, None}
use native.Mathlib.Omega.{arith}
use native.Mathlib.Nat.{le_refl}
use borrow.Author.Tests.{eqb-true, eq-eqb}
use lib.Dec.{eqb}
use lib.ListN.{length, get_or, drop}
use Rattle.plan.specs.Refusals.{Parse, got, ◌then◌}
use Rattle.plan.specs.Literals.{var_of, in_range}
use Rattle.plan.specs.Circuit.{literal_of, has, inside}
use Rattle.plan.specs.Bytes.{class_of, digit_class, number, expect, end_of, Placed, goes_on, less, numbers, values, outside, twice, line, lines, digits}
use Rattle.plan.specs.Bytes.{line_of, lines_of}
use Rattle.laws.proofs.Reading.Common.{got-value, got-next, then-got, unless-got, Reads, byte-there, byte-is, byte_past, expect-took}
use Rattle.laws.proofs.Reading.Common.{expect-reads, and_left, and_right, and_intro}
use Rattle.laws.proofs.Reading.Number.{number-took, number-reads}

pub end-pos : (k : ℕ) → 0 < end_of k
end-pos zero = omega arith
end-pos (suc k) = omega arith

end-class : (k : ℕ) → digit_class (class_of (end_of k)) ≡ false
end-class zero = refl
end-class (suc k) = refl

-- numbers go on after a space, which only then stands there, and end with a new line
abbrev pub Going : ℕ → ℕ → Bool → Type 0
Going must may true = 0 < may
Going must may false = must ≡ 0

abbrev end_by : Bool → ℕ
end_by true = 32
end_by false = 10

less-more : (k m : ℕ) → k ≤ suc m → less k ≤ m
less-more zero m h = omega arith
less-more (suc k) m h = omega arith

less-suc : (k m : ℕ) → less k ≤ m → k ≤ suc m
less-suc zero m h = omega arith
less-suc (suc k) m h = omega arith

less_one : (k : ℕ) → less k ≡ 0 → k ≤ 1
less_one zero h = omega arith
less_one (suc k) h = omega arith

module _ (file : List ℕ) where
  goes-took : (must may at : ℕ) (b : Bool) (n : ℕ) → must ≤ may → goes_on file must may at ≡ got b n
      → (drop at file ≡ end_by b ∷ drop n file) × Going must may b
  goes-took must zero at b n h e =
      let t = then-got (expect file 10 at) _ b n e in
      let b-is : false ≡ b = got-value false b t.1 n t.3 in
      subst (λ (x : Bool). (drop at file ≡ end_by x ∷ drop n file) × Going must zero x) b-is
      (expect-took file 10 at t.0 t.1 (omega arith) t.2 ∙ ap (λ (k : ℕ). 10 ∷ drop k file) (got-next false b t.1 n t.3), omega arith)
  goes-took (suc must) (suc may) at b n h e = space file (suc must) may at b n e
    where
      space : (file : List ℕ) (must may at : ℕ) (b : Bool) (n : ℕ) → ◌≡◌ {A = Parse Bool} (expect file 32 at then λ _ next. got true next) (got b n)
          → (drop at file ≡ end_by b ∷ drop n file) × Going must (suc may) b
      space file must may at b n e =
          let t = then-got (expect file 32 at) _ b n e in
          subst (λ (x : Bool). (drop at file ≡ end_by x ∷ drop n file) × Going must (suc may) x) (got-value true b t.1 n t.3)
          (expect-took file 32 at t.0 t.1 (omega arith) t.2 ∙ ap (λ (k : ℕ). 32 ∷ drop k file) (got-next true b t.1 n t.3), omega arith)
  goes-took zero (suc may) at b n h e = go (eqb (get_or file at 0) 10) refl e
    where
      go : (t : Bool) → eqb (get_or file at 0) 10 ≡ t
          → cond t (got false (at + 1)) (expect file 32 at then λ _ next. got true next) ≡ got b n
          → (drop at file ≡ end_by b ∷ drop n file) × Going zero (suc may) b
      go true q e =
          subst (λ (x : Bool). (drop at file ≡ end_by x ∷ drop n file) × Going zero (suc may) x) (got-value false b (at + 1) n e)
          (byte-there file at 10 (omega arith) (eqb-true _ _ q) ∙ ap (λ (k : ℕ). 10 ∷ drop k file) (got-next false b (at + 1) n e), refl)
      go false q e =
          let t = then-got (expect file 32 at) _ b n e in
          subst (λ (x : Bool). (drop at file ≡ end_by x ∷ drop n file) × Going zero (suc may) x) (got-value true b t.1 n t.3)
          (expect-took file 32 at t.0 t.1 (omega arith) t.2 ∙ ap (λ (k : ℕ). 32 ∷ drop k file) (got-next true b t.1 n t.3), omega arith)

  goes-ends : (must may at : ℕ) (s : List ℕ) → must ≡ 0 → drop at file ≡ 10 ∷ s → Reads file (goes_on file must may at) false s
  goes-ends must zero at s h e = let r = expect-reads file 10 at s e in (r.0, rw r.1, r.2)
  goes-ends (suc must) (suc may) at s h e = absurd (omega arith)
  goes-ends zero (suc may) at s h e = (at + 1, rw (eq-eqb _ _ (byte-is file at 10 s e)), byte_past file at 10 s e)

  goes_on_lem : (must may at : ℕ) (s : List ℕ) → 0 < may → drop at file ≡ 32 ∷ s → Reads file (goes_on file must may at) true s
  goes_on_lem must zero at s h e = absurd (omega arith)
  goes_on_lem (suc must) (suc may) at s h e = let r = expect-reads file 32 at s e in (r.0, rw r.1, r.2)
  goes_on_lem zero (suc may) at s h e =
      let r = expect-reads file 32 at s e in
      let q : eqb (get_or file at 0) 10 ≡ false = ap (λ (x : ℕ). eqb x 10) (byte-is file at 32 s e) in
      (r.0, rw (q, r.1), r.2)

-- a line of numbers
module _ (file : List ℕ) where
  pub numbers-took : (must may at : ℕ) (xs : List Placed) (n : ℕ) → must ≤ may → numbers file must may at ≡ got xs n
      → (drop at file ≡ line_of (values xs) ++ drop n file) × (must ≤ length (values xs)) × (length (values xs) ≤ may)
      × (0 < may → 0 < length (values xs))
  numbers-took must zero at xs n h e =
      let x-is : [] ≡ xs = got-value [] xs at n e in
      let n-is : at ≡ n = got-next [] xs at n e in
      subst (λ (y : List Placed). (drop at file ≡ line_of (values y) ++ drop n file) × (must ≤ length (values y)) × (length (values y) ≤ 0)
      × (0 < 0 → 0 < length (values y))) x-is
      (ap (λ (k : ℕ). drop k file) n-is, h, omega arith, λ p. p)
  numbers-took must (suc may) at xs n h e =
      let t1 = then-got (number file at) _ xs n e in
      let t2 = then-got (goes_on file (less must) may t1.1) _ xs n t1.3 in
      let g = goes-took file (less must) may t1.1 t2.0 t2.1 (less-more must may h) t2.2 in
      go t1.0 t1.1 t2.0 t2.1 (number-took file at t1.0 t1.1 t1.2) g.0 g.1 t2.3
      (λ ys k q. numbers-took (less must) may t2.1 ys k (less-more must may h) q)
    where
      go : (v a : ℕ) (b : Bool) (m : ℕ) → drop at file ≡ digits v ++ drop a file → drop a file ≡ end_by b ∷ drop m file
          → Going (less must) may b
          → ◌≡◌ {A = Parse (List Placed)} (elim b [ true ↦ numbers file (less must) may m | false ↦ got [] m ]
          then λ ns last. got (record { value = v; place = at } ∷ ns) last) (got xs n)
          → ((ys : List Placed) (k : ℕ) → numbers file (less must) may m ≡ got ys k
          → (drop m file ≡ line_of (values ys) ++ drop k file) × (less must ≤ length (values ys)) × (length (values ys) ≤ may)
          × (0 < may → 0 < length (values ys)))
          → (drop at file ≡ line_of (values xs) ++ drop n file) × (must ≤ length (values xs)) × (length (values xs) ≤ suc may)
          × (0 < suc may → 0 < length (values xs))
      go v a true m d1 d2 g e ih =
          let t = then-got (numbers file (less must) may m) _ xs n e in
          let i = ih t.0 t.1 t.2 in
          let l = values t.0 in
          let ends : 32 ≡ end_of (length l) = end-some (length l) (i.3 g) in
          let x-is : record { value = v; place = at } ∷ t.0 ≡ xs = got-value _ xs t.1 n t.3 in
          let n-is : t.1 ≡ n = got-next _ xs t.1 n t.3 in
          subst (λ (y : List Placed). (drop at file ≡ line_of (values y) ++ drop n file) × (must ≤ length (values y)) × (length (values y) ≤ suc may)
          × (0 < suc may → 0 < length (values y))) x-is (
            d1 ∙ (ap (λ (r : List ℕ). digits v ++ r) (d2 ∙ ap₂ (λ (j : ℕ) (r : List ℕ). j ∷ r) ends i.0)
                ∙ (sym (append_assoc (digits v) (end_of (length l) ∷ line_of l) (drop t.1 file))
                ∙ ap (λ (k : ℕ). (digits v ++ (end_of (length l) ∷ line_of l)) ++ drop k file) n-is)),
            less-suc must (length l) i.1,
            omega (arith, i.2),
            λ p. omega arith,
          )
        where
          end-some : (k : ℕ) → 0 < k → 32 ≡ end_of k
          end-some zero h = absurd (omega arith)
          end-some (suc k) h = refl
      go v a false m d1 d2 g e ih =
          let x-is : record { value = v; place = at } ∷ [] ≡ xs = got-value _ xs m n e in
          let n-is : m ≡ n = got-next _ xs m n e in
          subst (λ (y : List Placed). (drop at file ≡ line_of (values y) ++ drop n file) × (must ≤ length (values y)) × (length (values y) ≤ suc may)
          × (0 < suc may → 0 < length (values y))) x-is (
            d1 ∙ (ap (λ (r : List ℕ). digits v ++ r) d2
                ∙ (sym (append_assoc (digits v) (10 ∷ []) (drop m file)) ∙ ap (λ (k : ℕ). (digits v ++ (10 ∷ [])) ++ drop k file) n-is)),
            less_one must g,
            omega arith,
            λ p. omega arith,
          )

  numbers-end : (must may at n a c : ℕ) → number file at ≡ got n a → goes_on file (less must) may a ≡ got false c
      → numbers file must (suc may) at ≡ got (record { value = n; place = at } ∷ []) c
  numbers-end must may at n a c p q = rw (p, q)

  numbers_on : (must may at n a c : ℕ) (ns : List Placed) (last : ℕ) → number file at ≡ got n a → goes_on file (less must) may a ≡ got true c
      → numbers file (less must) may c ≡ got ns last
      → numbers file must (suc may) at ≡ got (record { value = n; place = at } ∷ ns) last
  numbers_on must may at n a c ns last p q r = rw (p, q, r)

  pub numbers-reads : (l : List ℕ) (must may at : ℕ) (s : List ℕ) → must ≤ length l → length l ≤ may → (0 < may → 0 < length l)
      → drop at file ≡ line_of l ++ s
      → (xs : List Placed) × (values xs ≡ l) × Reads file (numbers file must may at) xs s
  numbers-reads [] must zero at s a b p e = ([], refl, (at, refl, e))
  numbers-reads [] must (suc may) at s a b p e = absurd (omega (arith, p (omega arith)))
  numbers-reads (n ∷ l) must zero at s a b p e = absurd (omega arith)
  numbers-reads (n ∷ l) must (suc may) at s a b p e = go l a b e (λ c h1 h2 h3 d. numbers-reads l (less must) may c s h1 h2 h3 d)
    where
      go : (l : List ℕ) → must ≤ suc (length l) → suc (length l) ≤ suc may → drop at file ≡ line_of (n ∷ l) ++ s
          → ((c : ℕ) → less must ≤ length l → length l ≤ may → (0 < may → 0 < length l) → drop c file ≡ line_of l ++ s
          → (xs : List Placed) × (values xs ≡ l) × Reads file (numbers file (less must) may c) xs s)
          → (xs : List Placed) × (values xs ≡ n ∷ l) × Reads file (numbers file must (suc may) at) xs s
      go [] a b e ih =
          let r1 = number-reads file at n 10 s refl (e ∙ append_assoc (digits n) (10 ∷ []) s) in
          let z : less must ≡ 0 = omega (arith, less-more must 0 a) in
          let r2 = goes-ends file (less must) may r1.0 s z r1.2 in
          (record { value = n; place = at } ∷ [], refl, (r2.0, numbers-end must may at n r1.0 r2.0 r1.1 r2.1, r2.2))
      go (m ∷ l) a b e ih =
          let r1 = number-reads file at n 32 (line_of (m ∷ l) ++ s) refl (e ∙ append_assoc (digits n) (32 ∷ line_of (m ∷ l)) s) in
          let r2 = goes_on_lem file (less must) may r1.0 (line_of (m ∷ l) ++ s) (omega arith) r1.2 in
          let r3 = ih r2.0 (less-more must (suc (length l)) a) (omega arith) (λ q. omega arith) r2.2 in (
            record { value = n; place = at } ∷ r3.0,
            ap (λ (y : List ℕ). n ∷ y) r3.1,
            (r3.2.0, numbers_on must may at n r1.0 r2.0 r3.0 r3.2.0 r1.1 r2.1 r3.2.1, r3.2.2),
          )

-- one line of literals
abbrev pub New : Bool → List ℕ → List ℕ → Type 0
New true seen [] = Unit {0}
New true seen (l ∷ ls) = has (var_of l) seen ≡ false
New false seen row = Unit {0}

pub outside-none : (d : Bool) (m : ℕ) (xs : List Placed) → outside d m xs ≡ None → inside d m (values xs) ≡ true
outside-none d m [] e = refl
outside-none d m (x ∷ xs) e = go (in_range d m x.value) refl (outside-none false m xs) e
  where
    go : (t : Bool) → in_range d m x.value ≡ t → (outside false m xs ≡ None → inside false m (values xs) ≡ true)
        → cond t (outside false m xs) (Some x.place) ≡ None
        → inside d m (values (x ∷ xs)) ≡ true
    go true q ih e = and_intro (in_range d m x.value) _ q (ih e)
    go false q ih e = let z : ◌≡◌ {A = ℕ} 0 1 = cc in absurd (omega arith)

pub inside-none : (d : Bool) (m : ℕ) (xs : List Placed) → inside d m (values xs) ≡ true → outside d m xs ≡ None
inside-none d m [] e = refl
inside-none d m (x ∷ xs) e = rw (and_left (in_range d m x.value) _ e) (inside-none false m xs (and_right (in_range d m x.value) _ e))

pub twice-none : (d : Bool) (seen : List ℕ) (xs : List Placed) → twice d seen xs ≡ None → New d seen (values xs)
twice-none true seen [] e = tt
twice-none true seen (x ∷ xs) e = go (has (var_of x.value) seen) e
  where
    go : (t : Bool) → cond t (Some x.place) None ≡ None → t ≡ false
    go true e = let z : ◌≡◌ {A = ℕ} 0 1 = cc in absurd (omega arith)
    go false e = refl
twice-none false seen xs e = tt

pub new_none : (d : Bool) (seen : List ℕ) (xs : List Placed) → New d seen (values xs) → twice d seen xs ≡ None
new_none true seen [] h = refl
new_none true seen (x ∷ xs) h = rw h
new_none false seen xs h = refl

pub record RowOk (k : ℕ) (d : Bool) (m : ℕ) (seen row : List ℕ) : Type 0 where
  pub long : length row ≡ k
  pub within : inside d m row ≡ true
  pub new : New d seen row

abbrev pub RowsOk : ℕ → Bool → ℕ → List ℕ → List (List ℕ) → Type 0
RowsOk k d m seen [] = Unit {0}
RowsOk k d m seen (row ∷ rows) = RowOk k d m seen row × RowsOk k d m (seen ++ (var_of (literal_of row) ∷ [])) rows

module _ (file : List ℕ) (k : ℕ) (d : Bool) (m : ℕ) where
  pub line-took : (seen : List ℕ) (at : ℕ) (row : List ℕ) (n : ℕ) → line file k d m seen at ≡ got row n
      → (drop at file ≡ line_of row ++ drop n file) × RowOk k d m seen row
  line-took seen at row n e =
      let t = then-got (numbers file k k at) _ row n e in
      let u = unless-got (outside d m t.0) _ _ row n t.3 in
      let w = unless-got (twice d seen t.0) _ _ row n u.1 in
      let took = numbers-took file k k at t.0 t.1 (le_refl k) t.2 in
      let r-is : values t.0 ≡ row = got-value _ row t.1 n w.1 in
      let n-is : t.1 ≡ n = got-next _ row t.1 n w.1 in (
        took.0 ∙ ap₂ (λ (x : List ℕ) (y : ℕ). line_of x ++ drop y file) r-is n-is,
        subst (RowOk k d m seen) r-is (record {
          long = omega (arith, took.1, took.2);
          within = outside-none d m t.0 u.0;
          new = twice-none d seen t.0 w.0;
        }),
      )

  pub line_reads : (seen : List ℕ) (at : ℕ) (row s : List ℕ) → RowOk k d m seen row → drop at file ≡ line_of row ++ s
      → Reads file (line file k d m seen at) row s
  line_reads seen at row s ok e =
      let r = numbers-reads file row k k at s (omega (arith, ok.long)) (omega (arith, ok.long)) (λ p. omega (arith, ok.long)) e in
      let xs = r.0 in
      let inn : outside d m xs ≡ None = inside-none d m xs (subst (λ (x : List ℕ). inside d m x ≡ true) (sym r.1) ok.within) in
      let new : twice d seen xs ≡ None = new_none d seen xs (subst (New d seen) (sym r.1) ok.new) in
      (r.2.0, rw (r.2.1, inn, new) (ap (λ (x : List ℕ). got x r.2.0) r.1), r.2.2)

  pub lines-took : (n : ℕ) (seen : List ℕ) (at : ℕ) (rows : List (List ℕ)) (e : ℕ) → lines file k d m n seen at ≡ got rows e
      → (drop at file ≡ lines_of rows ++ drop e file) × (length rows ≡ n) × RowsOk k d m seen rows
  lines-took zero seen at rows e q =
      let r-is : [] ≡ rows = got-value [] rows at e q in
      let n-is : at ≡ e = got-next [] rows at e q in
      (ap₂ (λ (x : List (List ℕ)) (y : ℕ). lines_of x ++ drop y file) r-is n-is, ap length (sym r-is), subst (RowsOk k d m seen) r-is tt)
  lines-took (suc n) seen at rows e q =
      let t = then-got (line file k d m seen at) _ rows e q in
      let u = then-got (lines file k d m n (seen ++ (var_of (literal_of t.0) ∷ [])) t.1) _ rows e t.3 in
      let one = line-took seen at t.0 t.1 t.2 in
      let ih = lines-took n (seen ++ (var_of (literal_of t.0) ∷ [])) t.1 u.0 u.1 u.2 in
      let r-is : t.0 ∷ u.0 ≡ rows = got-value _ rows u.1 e u.3 in
      let n-is : u.1 ≡ e = got-next _ rows u.1 e u.3 in (
        one.0 ∙ (ap (λ (x : List ℕ). line_of t.0 ++ x) ih.0 ∙ (sym (append_assoc (line_of t.0) (lines_of u.0) (drop u.1 file))
            ∙ ap₂ (λ (x : List (List ℕ)) (y : ℕ). lines_of x ++ drop y file) r-is n-is)),
        ap length (sym r-is) ∙ ap suc ih.1,
        subst (RowsOk k d m seen) r-is (one.1, ih.2),
      )

  pub lines-reads : (rows : List (List ℕ)) (seen : List ℕ) (at : ℕ) (s : List ℕ) → RowsOk k d m seen rows → drop at file ≡ lines_of rows ++ s
      → Reads file (lines file k d m (length rows) seen at) rows s
  lines-reads [] seen at s ok e = (at, refl, e)
  lines-reads (row ∷ rows) seen at s ok e =
      let r1 = line_reads seen at row (lines_of rows ++ s) ok.0 (e ∙ append_assoc (line_of row) (lines_of rows) s) in
      let r2 = lines-reads rows (seen ++ (var_of (literal_of row) ∷ [])) r1.0 s ok.1 r1.2 in
      (r2.0, rw (r1.1, r2.1), r2.2)
