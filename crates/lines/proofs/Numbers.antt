-- The loop over the numbers of a line of which some may be left off.
use Prim.Native.Nat.{ℕ, suc, zero, ◌+◌, ◌-◌, ◌≤◌, ◌<◌}
use mathlib.Core.Path.{◌≡◌, refl, sym, ap, ap₂, ◌∙◌, subst}
use mathlib.Core.Bool.{Bool, true, false, cond, ◌&&◌}
use mathlib.Core.List.{List, [], ◌∷◌, ◌++◌, map, map-append}
use Rattle.std.specs.Prelude.{Ok, Err}
use native.Mathlib.Omega.{arith}
use native.Mathlib.Nat.{zero-add, sub-zero}
use native.Mathlib.Decide.{dec_le}
use borrow.Author.Tests.{eqb-true, leb-false, leb-true, lt-ltb, le-ltb}
use lib.Dec.{eqb, leb, ltb}
use lib.ListN.{length, get_or, set, length-append, length-map, get_or-eq_default}
use lib.Seq.{append_snoc}
use Rattle.plan.specs.declared.Class.{Class}
use Rattle.plan.specs.declared.Class.TheVariants.{Line, Space, Zero, Digit, Print, Rest}
use Rattle.plan.specs.declared.Refusal.{Refusal}
use Rattle.plan.specs.declared.Refusal.TheVariants.{WrongByte}
use Rattle.plan.specs.Refusals.{Parse, got, refused, ◌then◌}
use Rattle.plan.specs.Bytes.{class_of, number, Placed, goes_on, less, numbers, values}
use Rattle.plan.specs.Outcome.{passed_by, put, number_at}
use Rattle.laws.proofs.Put.{put-none}
use Rattle.laws.proofs.Reading.Common.{got-value, not-got}
use Rattle.laws.proofs.Reading.Cut.{cut, value-is, wrong-is}
use Rattle.lines.specs.declared.Going.{Going}
use Rattle.lines.specs.declared.Going.TheVariants.{Stop, On, Wrong}
use Rattle.lines.specs.Rows.{going, places_of, Numbered}
use Rattle.lines.proofs.RowLoop.{put-more}

-- by the class of the byte
abbrev pub going_by : Bool → Bool → Class → Going
going_by must may Line = cond must Wrong Stop
going_by must may Space = cond may On Wrong
going_by must may Zero = Wrong
going_by must may Digit = Wrong
going_by must may Print = Wrong
going_by must may Rest = Wrong

pub by-class : (must may : Bool) (b : ℕ) → going_by must may (class_of b) ≡ going must may b
by-class must may b = go (eqb b 10) (eqb b 32) (eqb b 48) (leb 49 b && leb b 57) (leb 33 b && leb b 126)
  where
    go : (t1 t2 t3 t4 t5 : Bool)
        → going_by must may (cond t1 Line (cond t2 Space (cond t3 Zero (cond t4 Digit (cond t5 Print Rest)))))
        ≡ cond t1 (cond must Wrong Stop) (cond t2 (cond may On Wrong) Wrong)
    go true t2 t3 t4 t5 = refl
    go false true t3 t4 t5 = refl
    go false false true t4 t5 = refl
    go false false false true t5 = refl
    go false false false false true = refl
    go false false false false false = refl

pub told : (must may : Bool) (b : ℕ) (r k : Class) → r ≡ class_of b → r ≡ k → going_by must may k ≡ going must may b
told must may b r k e t = ap (going_by must may) (sym t ∙ e) ∙ by-class must may b

pub past_end : (must may : Bool) (b : ℕ) → b ≡ 0 → Wrong ≡ going must may b
past_end must may b e = rw e

-- what it says of the line
abbrev gone_by : ℕ → Going → Parse Bool
gone_by at Stop = got false (at + 1)
gone_by at On = got true (at + 1)
gone_by at Wrong = refused (WrongByte at)

abbrev above : ℕ → Bool
above zero = false
above (suc n) = true

gone : (file : List ℕ) (must may at : ℕ) → must ≤ may → goes_on file must may at ≡ gone_by at (going (above must) (above may) (get_or file at 0))
gone file must may at h = go must may h (eqb (get_or file at 0) 10) (eqb (get_or file at 0) 32) refl refl
  where
    go : (mu ma : ℕ) → mu ≤ ma → (t1 t2 : Bool) → eqb (get_or file at 0) 10 ≡ t1 → eqb (get_or file at 0) 32 ≡ t2
        → goes_on file mu ma at ≡ gone_by at (going (above mu) (above ma) (get_or file at 0))
    go (suc mu) zero h t1 t2 p q = absurd (omega arith)
    go zero zero h true t2 p q = rw p
    go zero zero h false true p q = rw (p, q)
    go zero zero h false false p q = rw (p, q)
    go (suc mu) (suc ma) h true true p q = absurd (omega (arith, eqb-true (get_or file at 0) 10 p, eqb-true (get_or file at 0) 32 q))
    go (suc mu) (suc ma) h true false p q = rw (p, q)
    go (suc mu) (suc ma) h false true p q = rw (p, q)
    go (suc mu) (suc ma) h false false p q = rw (p, q)
    go zero (suc ma) h true t2 p q = rw p
    go zero (suc ma) h false true p q = rw (p, q)
    go zero (suc ma) h false false p q = rw (p, q)

-- a byte that stops a line or leads on stands in the file
pub inner : (file : List ℕ) (at : ℕ) (must may : Bool) → (going must may (get_or file at 0) ≡ Wrong → ⊥) → at < length file
inner file at must may h = go (leb (length file) at) refl
  where
    go : (t : Bool) → leb (length file) at ≡ t → at < length file
    go true e = absurd (h (sym (past_end must may (get_or file at 0) (get_or-eq_default file 0 (leb-true _ _ e)))))
    go false e = leb-false _ _ e

pub stop-inner : (file : List ℕ) (at : ℕ) (must may : Bool) → going must may (get_or file at 0) ≡ Stop → at < length file
stop-inner file at must may e = inner file at must may (λ w. let z : ◌≡◌ {A = ℕ} 0 1 = cc in omega arith)

pub on-inner : (file : List ℕ) (at : ℕ) (must may : Bool) → going must may (get_or file at 0) ≡ On → at < length file
on-inner file at must may e = inner file at must may (λ w. let z : ◌≡◌ {A = ℕ} 0 1 = cc in omega arith)

-- the numbers that are read, before the rest
abbrev on_placed : List Placed → Parse (List Placed) → Parse (List Placed)
on_placed xs p = p then λ ys n. got (xs ++ ys) n

on_one : (xs : List Placed) (x : Placed) (p : Parse (List Placed))
    → on_placed xs (p then λ ns last. got (x ∷ ns) last) ≡ on_placed (xs ++ (x ∷ [])) p
on_one xs x (got ns last) = ap (λ (y : List Placed). got y last) (sym (append_snoc xs x ns))
on_one xs x (refused r) = refl

on_none : (p : Parse (List Placed)) → p ≡ on_placed [] p
on_none (got xs n) = refl
on_none (refused r) = refl

module _ (file : List ℕ) (xs : List Placed) (must may pos : ℕ) where
  wrong : (r : Refusal) → number file pos ≡ refused r → on_placed xs (numbers file must (suc may) pos) ≡ refused r
  wrong r e = rw e

  module _ (v next : ℕ) (e : number file pos ≡ got v next) where
    cut_off : (r : Refusal) → goes_on file (less must) may next ≡ refused r → on_placed xs (numbers file must (suc may) pos) ≡ refused r
    cut_off r g = rw (e, g)

    last_one : (n : ℕ) → goes_on file (less must) may next ≡ got false n
        → on_placed xs (numbers file must (suc may) pos) ≡ got (xs ++ (record { value = v; place = pos } ∷ [])) n
    last_one n g = rw (e, g)

    one_more : (n : ℕ) → goes_on file (less must) may next ≡ got true n
        → on_placed xs (numbers file must (suc may) pos) ≡ on_placed (xs ++ (record { value = v; place = pos } ∷ [])) (numbers file (less must) may n)
    one_more n g = rw (e, g) (on_one xs (record { value = v; place = pos }) (numbers file (less must) may n))

values-append : (xs ys : List Placed) → values (xs ++ ys) ≡ values xs ++ values ys
values-append [] ys = refl
values-append (x ∷ xs) ys = ap (λ (l : List ℕ). x.value ∷ l) (values-append xs ys)

places-append : (xs ys : List Placed) → places_of (xs ++ ys) ≡ places_of xs ++ places_of ys
places-append [] ys = refl
places-append (x ∷ xs) ys = ap (λ (l : List ℕ). x.place ∷ l) (places-append xs ys)

pub values_length : (xs : List Placed) → length (values xs) ≡ length xs
values_length [] = refl
values_length (x ∷ xs) = ap suc (values_length xs)

pub places-length : (xs : List Placed) → length (places_of xs) ≡ length xs
places-length [] = refl
places-length (x ∷ xs) = ap suc (places-length xs)

less-is : (k : ℕ) → less k ≡ k - 1
less-is zero = refl
less-is (suc k) = omega arith

below-is : (a b c : ℕ) → c ≡ b - a → ltb a b ≡ above c
below-is a b c e = by_size (dec_le b a)
  where
    over : (x : ℕ) → 0 < x → true ≡ above x
    over zero h = absurd (omega arith)
    over (suc x) h = refl

    by_size : Dec (b ≤ a) → ltb a b ≡ above c
    by_size (yes l) = let z : zero ≡ c = omega arith in le-ltb a b l ∙ ap above z
    by_size (no l) = lt-ltb a b (omega arith) ∙ over c (omega arith)

-- the numbers xs are read, `left` may come, and their words and places stand in the tables
pub record Scan (file : List ℕ) (must may at base : ℕ) (w₀ p₀ w p : List ℕ) (pos j : ℕ) : Type 0 where
  pub xs : List Placed
  pub left : ℕ
  pub sum : j + left ≡ may
  pub count : length xs ≡ j
  pub whole : numbers file must may at ≡ on_placed xs (numbers file (must - j) left pos)
  pub held : Numbered xs base w₀ p₀ w p

pub begins : (file : List ℕ) (must may at base : ℕ) (w₀ p₀ : List ℕ) → Scan file must may at base w₀ p₀ w₀ p₀ at 0
begins file must may at base w₀ p₀ = record {
  xs = [];
  left = may;
  sum = zero-add may;
  count = refl;
  whole = on_none (numbers file must may at) ∙ ap (λ (n : ℕ). on_placed [] (numbers file n may at)) (sym (sub-zero must));
  held = record { words = sym (put-none w₀ base); places = sym (put-none p₀ base) };
}

module _ {file : List ℕ} {must may at base : ℕ} {w₀ p₀ w p : List ℕ} {pos j : ℕ} (s : Scan file must may at base w₀ p₀ w p pos j)
    (low : must ≤ may) (room : base + may ≤ length w₀) (room-p : base + may ≤ length p₀) where
  rest : j < may → (l : ℕ) × (s.left ≡ suc l) × (j + 1 + l ≡ may)
  rest h = go s.left s.sum
    where
      go : (n : ℕ) → j + n ≡ may → (l : ℕ) × (n ≡ suc l) × (j + 1 + l ≡ may)
      go zero e = absurd (omega arith)
      go (suc l) e = (l, refl, omega arith)

  turned : (h : j < may) → numbers file must may at ≡ on_placed s.xs (numbers file (must - j) (suc (rest h).0) pos)
  turned h = s.whole ∙ ap (λ (n : ℕ). on_placed s.xs (numbers file (must - j) n pos)) (rest h).1

  -- a refusal, after which nothing is said of the tables
  refuses : (r : Refusal) → numbers file must may at ≡ refused r → (w' p' : List ℕ)
      → (Err r ≡ passed_by (numbers file must may at))
      × ((xs : List Placed) (next : ℕ) → numbers file must may at ≡ got xs next → Numbered xs base w₀ p₀ w' p')
  refuses r e w' p' = (sym (ap passed_by e), λ xs next q. absurd (not-got r xs next (sym e ∙ q)))

  accepts : (ys : List Placed) (n : ℕ) → numbers file must may at ≡ got ys n → (w' p' : List ℕ) → Numbered ys base w₀ p₀ w' p'
      → (Ok n ≡ passed_by (numbers file must may at))
      × ((xs : List Placed) (next : ℕ) → numbers file must may at ≡ got xs next → Numbered xs base w₀ p₀ w' p')
  accepts ys n e w' p' h =
      (sym (ap passed_by e), λ xs next q. subst (λ (z : List Placed). Numbered z base w₀ p₀ w' p') (got-value ys xs n next (sym e ∙ q)) h)

  pub wrong-number : (r : Refusal) → j < may → Err r ≡ number_at file pos → (w' p' : List ℕ)
      → (Err r ≡ passed_by (numbers file must may at))
      × ((xs : List Placed) (next : ℕ) → numbers file must may at ≡ got xs next → Numbered xs base w₀ p₀ w' p')
  wrong-number r h e =
      refuses r (turned h ∙ wrong file s.xs (must - j) (rest h).0 pos r (wrong-is file pos r e))

  module _ (v next : ℕ) (h : j < may) (e : Ok (v, next) ≡ number_at file pos) where
    abbrev value : ℕ
    value = (value-is (number file pos) v next e).0

    abbrev more : List Placed
    more = s.xs ++ (record { value = value; place = pos } ∷ [])

    -- what stands after the number
    then-goes : (g : Going) → going (ltb (j + 1) must) (ltb (j + 1) may) (get_or file next 0) ≡ g
        → goes_on file (less (must - j)) (rest h).0 next ≡ gone_by next g
    then-goes g q =
        let l = rest h in
        let left-must : less (must - j) ≡ must - (j + 1) = less-is (must - j) ∙ omega arith in
        let left-may : l.0 ≡ may - (j + 1) = omega (arith, l.2) in
        gone file (less (must - j)) l.0 next (omega arith)
        ∙ ap (gone_by next) (ap₂ (λ (x y : Bool). going x y (get_or file next 0))
        (sym (below-is (j + 1) must _ left-must)) (sym (below-is (j + 1) may _ left-may)) ∙ q)

    stored : Numbered more base w₀ p₀ (set w (base + j) v) (set p (base + j) pos)
    stored =
        let size : length (map cut (values s.xs)) ≡ j = length-map (values s.xs) cut ∙ values_length s.xs ∙ s.count in
        let size-p : length (places_of s.xs) ≡ j = places-length s.xs ∙ s.count in
        record {
          words = ap₂ (λ (x : List ℕ) (n : ℕ). set x (base + n) v) s.held.words (sym size)
              ∙ put-more w₀ base (map cut (values s.xs)) v (omega arith)
              ∙ ap (put w₀ base) (ap (λ (x : ℕ). map cut (values s.xs) ++ (x ∷ [])) (value-is (number file pos) v next e).2
              ∙ sym (map-append cut (values s.xs) (value ∷ []))
              ∙ ap (map cut) (sym (values-append s.xs (record { value = value; place = pos } ∷ []))));
          places = ap₂ (λ (x : List ℕ) (n : ℕ). set x (base + n) pos) s.held.places (sym size-p)
              ∙ put-more p₀ base (places_of s.xs) pos (omega arith)
              ∙ ap (put p₀ base) (sym (places-append s.xs (record { value = value; place = pos } ∷ [])));
        }

    pub wrong-end : going (ltb (j + 1) must) (ltb (j + 1) may) (get_or file next 0) ≡ Wrong → (w' p' : List ℕ)
        → (Err (WrongByte next) ≡ passed_by (numbers file must may at))
        × ((xs : List Placed) (n : ℕ) → numbers file must may at ≡ got xs n → Numbered xs base w₀ p₀ w' p')
    wrong-end q =
        refuses (WrongByte next) (turned h
        ∙ cut_off file s.xs (must - j) (rest h).0 pos value next (value-is (number file pos) v next e).1 (WrongByte next) (then-goes Wrong q))

    pub stops : going (ltb (j + 1) must) (ltb (j + 1) may) (get_or file next 0) ≡ Stop
        → (Ok (next + 1) ≡ passed_by (numbers file must may at))
        × ((xs : List Placed) (n : ℕ) → numbers file must may at ≡ got xs n
        → Numbered xs base w₀ p₀ (set w (base + j) v) (set p (base + j) pos))
    stops q =
        accepts more (next + 1) (turned h
        ∙ last_one file s.xs (must - j) (rest h).0 pos value next (value-is (number file pos) v next e).1 (next + 1) (then-goes Stop q)) _ _ stored

    pub turns : going (ltb (j + 1) must) (ltb (j + 1) may) (get_or file next 0) ≡ On
        → Scan file must may at base w₀ p₀ (set w (base + j) v) (set p (base + j) pos) (next + 1) (j + 1)
    turns q =
        let l = rest h in
        let left-must : less (must - j) ≡ must - (j + 1) = less-is (must - j) ∙ omega arith in
        record {
          xs = more;
          left = l.0;
          sum = l.2;
          count = length-append s.xs (record { value = value; place = pos } ∷ []) ∙ ap (λ (n : ℕ). n + 1) s.count;
          whole = turned h
              ∙ one_more file s.xs (must - j) l.0 pos value next (value-is (number file pos) v next e).1 (next + 1) (then-goes On q)
              ∙ ap (λ (n : ℕ). on_placed more (numbers file n l.0 (next + 1))) left-must;
          held = stored;
        }
