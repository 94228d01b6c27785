-- A number is read from its digits, and from nothing else.
use Prim.Native.Nat.{ℕ, suc, zero, ◌+◌, ◌-◌, ◌*◌, ◌/◌, ◌%◌, ◌<◌, ◌≤◌}
use mathlib.Core.Path.{◌≡◌, refl, sym, ap, ap₂, ◌∙◌, subst}
use mathlib.Core.Bool.{Bool, true, false, cond, ◌&&◌, false≢true}
use mathlib.Core.List.{List, [], ◌∷◌, ◌++◌, append-nil}
use native.Mathlib.Omega.{arith}
use borrow.Author.Tests.{eqb-true, eqb-false, ne_eqb, leb-true, leb-false, le-leb, ltb-true, ltb-false, lt-ltb, le-ltb}
use lib.Dec.{eqb, leb, ltb}
use lib.ListN.{length, get_or, drop, length-append}
use lib.Seq.{append_snoc, drop-drop}
use Rattle.plan.specs.Refusals.{got}
use Rattle.plan.specs.declared.Class.{Class}
use Rattle.plan.specs.declared.Class.TheVariants.{Line, Space, Zero, Digit, Print, Rest}
use Rattle.plan.specs.Bytes.{class_of, digit_class, span, decimal, number_by, number, spell, digits}
use Rattle.laws.proofs.Reading.Common.{not-got, Reads, byte-there, byte-is, past}

-- classes
abbrev pub Says : ℕ → Class → Type 0
Says b Line = (48 ≤ b → b ≤ 57 → ⊥)
Says b Space = (48 ≤ b → b ≤ 57 → ⊥)
Says b Zero = b ≡ 48
Says b Digit = (49 ≤ b) × (b ≤ 57)
Says b Print = (48 ≤ b → b ≤ 57 → ⊥)
Says b Rest = (48 ≤ b → b ≤ 57 → ⊥)

pub class-says : (b : ℕ) → Says b (class_of b)
class-says b = ways (eqb b 10) (eqb b 32) (eqb b 48) (leb 49 b) (leb b 57) (leb 33 b && leb b 126) refl refl refl refl refl
  where
    other : (t : Bool) → (48 ≤ b → b ≤ 57 → ⊥) → Says b (cond t Print Rest)
    other true h = h
    other false h = h

    ways : (t1 t2 t3 t4 t5 t6 : Bool) → eqb b 10 ≡ t1 → eqb b 32 ≡ t2 → eqb b 48 ≡ t3 → leb 49 b ≡ t4 → leb b 57 ≡ t5
        → Says b (cond t1 Line (cond t2 Space (cond t3 Zero (cond (t4 && t5) Digit (cond t6 Print Rest)))))
    ways true t2 t3 t4 t5 t6 e1 e2 e3 e4 e5 = λ h k. omega (arith, eqb-true b 10 e1)
    ways false true t3 t4 t5 t6 e1 e2 e3 e4 e5 = λ h k. omega (arith, eqb-true b 32 e2)
    ways false false true t4 t5 t6 e1 e2 e3 e4 e5 = eqb-true b 48 e3
    ways false false false true true t6 e1 e2 e3 e4 e5 = (leb-true _ _ e4, leb-true _ _ e5)
    ways false false false true false t6 e1 e2 e3 e4 e5 = other t6 (λ h k. omega (arith, leb-false b 57 e5))
    ways false false false false t5 t6 e1 e2 e3 e4 e5 = other t6 (λ h k. eqb-false b 48 e3 (omega (arith, leb-false 49 b e4)))

pub digit-bounds : (b : ℕ) (c : Class) → Says b c → digit_class c ≡ true → (48 ≤ b) × (b ≤ 57)
digit-bounds b Line s e = absurd (false≢true e)
digit-bounds b Space s e = absurd (false≢true e)
digit-bounds b Zero s e = (omega arith, omega arith)
digit-bounds b Digit s e = (omega (arith, s.0), s.1)
digit-bounds b Print s e = absurd (false≢true e)
digit-bounds b Rest s e = absurd (false≢true e)

pub class-digit : (b : ℕ) → 49 ≤ b → b ≤ 57 → class_of b ≡ Digit
class-digit b h k =
    let n10 : (b ≡ 10 → ⊥) = λ e. omega arith in
    let n32 : (b ≡ 32 → ⊥) = λ e. omega arith in
    let n48 : (b ≡ 48 → ⊥) = λ e. omega arith in
    simp (ne_eqb _ _ n10, ne_eqb _ _ n32, ne_eqb _ _ n48, le-leb _ _ h, le-leb _ _ k)

digit-class : (b : ℕ) → 48 ≤ b → b ≤ 57 → digit_class (class_of b) ≡ true
digit-class b h k = go (eqb b 48) refl
  where
    go : (t : Bool) → eqb b 48 ≡ t → digit_class (class_of b) ≡ true
    go true e = ap (λ (x : ℕ). digit_class (class_of x)) (eqb-true b 48 e)
    go false e =
        let n : (b ≡ 48 → ⊥) = eqb-false b 48 e in
        ap digit_class (class-digit b (omega arith) k)

-- the bytes that pass a test
abbrev pub AllPass : (Class → Bool) → List ℕ → Type 0
AllPass t [] = Unit {0}
AllPass t (b ∷ l) = (t (class_of b) ≡ true) × AllPass t l

pub span-pass : (t : Class → Bool) (l : List ℕ) → AllPass t (span t l)
span-pass t [] = tt
span-pass t (b ∷ l) = go (t (class_of b)) refl (span-pass t l)
  where
    go : (x : Bool) → t (class_of b) ≡ x → AllPass t (span t l) → AllPass t (cond x (b ∷ span t l) [])
    go true e h = (e, h)
    go false e h = tt

pub span-split : (t : Class → Bool) (l : List ℕ) → l ≡ span t l ++ drop (length (span t l)) l
span-split t [] = refl
span-split t (b ∷ l) = go (t (class_of b)) (span-split t l)
  where
    go : (x : Bool) → l ≡ span t l ++ drop (length (span t l)) l
        → b ∷ l ≡ cond x (b ∷ span t l) [] ++ drop (length (cond x (b ∷ span t l) [])) (b ∷ l)
    go true h = ap (λ (r : List ℕ). b ∷ r) h
    go false h = refl

-- past the end stands the byte 0
pub span-stops : (t : Class → Bool) (w s : List ℕ) → AllPass t w → t (class_of (get_or s 0 0)) ≡ false → span t (w ++ s) ≡ w
span-stops t [] [] h e = refl
span-stops t [] (x ∷ s) h e = rw e
span-stops t (b ∷ w) s h e = rw h.0 (ap (λ (r : List ℕ). b ∷ r) (span-stops t w s h.1 e))

pub span-all : (t : Class → Bool) (w : List ℕ) (x : ℕ) (s : List ℕ) → AllPass t w → t (class_of x) ≡ false → span t (w ++ (x ∷ s)) ≡ w
span-all t w x s h e = span-stops t w (x ∷ s) h e

pass-append : (t : Class → Bool) (w v : List ℕ) → AllPass t w → AllPass t v → AllPass t (w ++ v)
pass-append t [] v h k = k
pass-append t (b ∷ w) v h k = (h.0, pass-append t w v h.1 k)

-- spelling
spell-small : (k n : ℕ) → n < 10 → spell k n ≡ (48 + n) ∷ []
spell-small zero n h = refl
spell-small (suc k) n h = rw (lt-ltb n 10 h, spell)

spell-step : (k n : ℕ) → 10 ≤ n → spell (suc k) n ≡ spell k (n / 10) ++ ((48 + n % 10) ∷ [])
spell-step k n h = rw (le-ltb n 10 h, spell)

spell-fuel : (k j n : ℕ) → n ≤ k → n ≤ j → spell k n ≡ spell j n
spell-fuel zero j n hk hj = sym (spell-small j n (omega arith))
spell-fuel (suc k) zero n hk hj = spell-small (suc k) n (omega arith)
spell-fuel (suc k) (suc j) n hk hj = go (ltb n 10) refl (λ a b. spell-fuel k j (n / 10) a b)
  where
    go : (t : Bool) → ltb n 10 ≡ t → (n / 10 ≤ k → n / 10 ≤ j → spell k (n / 10) ≡ spell j (n / 10)) → spell (suc k) n ≡ spell (suc j) n
    go true e ih = spell-small (suc k) n (ltb-true _ _ e) ∙ sym (spell-small (suc j) n (ltb-true _ _ e))
    go false e ih =
        let h : 10 ≤ n = ltb-false _ _ e in
        spell-step k n h ∙ (ap (λ (l : List ℕ). l ++ ((48 + n % 10) ∷ [])) (ih (omega arith) (omega arith)) ∙ sym (spell-step j n h))

digits_more : (v d : ℕ) → 0 < v → d < 10 → digits (v * 10 + d) ≡ digits v ++ ((48 + d) ∷ [])
digits_more v d p h =
    let n = v * 10 + d in
    let q : n / 10 ≡ v = omega arith in
    let r : n % 10 ≡ d = omega arith in
    spell-fuel n (suc n) n (omega arith) (omega arith)
    ∙ (spell-step n n (omega arith)
    ∙ (ap₂ (λ (x y : ℕ). spell n x ++ ((48 + y) ∷ [])) q r
    ∙ ap (λ (l : List ℕ). l ++ ((48 + d) ∷ [])) (spell-fuel n v v (omega arith) (omega arith))))

pub digits-small : (n : ℕ) → n < 10 → digits n ≡ (48 + n) ∷ []
digits-small n h = spell-small n n h

-- the last digit is what a division by ten leaves
pub digits_step : (n : ℕ) → 10 ≤ n → digits n ≡ digits (n / 10) ++ ((48 + n % 10) ∷ [])
digits_step n h =
    let e : n / 10 * 10 + n % 10 ≡ n = omega arith in
    ap digits (sym e) ∙ digits_more (n / 10) (n % 10) (omega arith) (omega arith)

pub digits-some : (n : ℕ) → 1 ≤ length (digits n)
digits-some n = go (ltb n 10) refl
  where
    go : (t : Bool) → ltb n 10 ≡ t → 1 ≤ length (digits n)
    go true e = omega (arith, ap length (digits-small n (ltb-true _ _ e)))
    go false e = omega (arith, ap length (digits_step n (ltb-false _ _ e)) ∙ length-append (digits (n / 10)) ((48 + n % 10) ∷ []))

digits_decimal : (v : ℕ) (l : List ℕ) → 0 < v → AllPass digit_class l → digits (decimal v l) ≡ digits v ++ l
digits_decimal v [] p h = sym (append-nil (digits v))
digits_decimal v (b ∷ l) p h =
    let k = digit-bounds b (class_of b) (class-says b) h.0 in
    let b-is : 48 + (b - 48) ≡ b = omega (arith, k.0) in
    digits_decimal (v * 10 + (b - 48)) l (omega arith) h.1
    ∙ (ap (λ (x : List ℕ). x ++ l) (digits_more v (b - 48) p (omega (arith, k.0, k.1)))
    ∙ (append_snoc (digits v) (48 + (b - 48)) l ∙ ap (λ (x : ℕ). digits v ++ (x ∷ l)) b-is))

-- what a number took, and where it ends
module _ (file : List ℕ) (at n next : ℕ) where
  by-class : (c : Class) → class_of (get_or file at 0) ≡ c → number_by c (drop at file) at ≡ got n next
      → (drop at file ≡ digits n ++ drop next file) × (next ≡ at + length (digits n))
  by-class Zero c e =
      let b : get_or file at 0 ≡ 48 = subst (Says (get_or file at 0)) c (class-says (get_or file at 0)) in
      let z : 0 ≡ n = cc in
      let m : at + 1 ≡ next = cc in
      (byte-there file at 48 (omega arith) b ∙ ap₂ (λ (x y : ℕ). digits x ++ drop y file) z m, sym m ∙ ap (λ (x : ℕ). at + length (digits x)) z)
  by-class Digit c e =
      let b = get_or file at 0 in
      let k : (49 ≤ b) × (b ≤ 57) = subst (Says b) c (class-says b) in
      let there : drop at file ≡ b ∷ drop (at + 1) file = byte-there file at b (omega (arith, k.0)) refl in
      let l = span digit_class (drop (at + 1) file) in
      let w : span digit_class (drop at file) ≡ b ∷ l = ap (span digit_class) there ∙ rw c in
      let v : decimal 0 (span digit_class (drop at file)) ≡ n = cc in
      let m : at + length (span digit_class (drop at file)) ≡ next = cc in
      let spelled : digits n ≡ b ∷ l
      = ap digits (sym v ∙ ap (decimal 0) w)
      ∙ (digits_decimal (0 * 10 + (b - 48)) l (omega (arith, k.0)) (span-pass digit_class (drop (at + 1) file))
      ∙ (ap (λ (x : List ℕ). x ++ l) (spell-small (0 * 10 + (b - 48)) (0 * 10 + (b - 48)) (omega (arith, k.1)))
      ∙ ap (λ (x : ℕ). x ∷ l) (omega (arith, k.0)))) in (
        span-split digit_class (drop at file)
            ∙ ap₂ (λ (x y : List ℕ). x ++ y) (w ∙ sym spelled) (drop-drop (length (span digit_class (drop at file))) at file ∙ ap (λ (x : ℕ). drop x file) m),
        sym m ∙ ap (λ (x : List ℕ). at + length x) (w ∙ sym spelled),
      )
  by-class Line c e = absurd (not-got _ _ _ e)
  by-class Space c e = absurd (not-got _ _ _ e)
  by-class Print c e = absurd (not-got _ _ _ e)
  by-class Rest c e = absurd (not-got _ _ _ e)

  pub number-took : number file at ≡ got n next → drop at file ≡ digits n ++ drop next file
  number-took e = (by-class (class_of (get_or file at 0)) refl e).0

  pub number-next : number file at ≡ got n next → next ≡ at + length (digits n)
  number-next e = (by-class (class_of (get_or file at 0)) refl e).1

-- digits are read back
decimal-snoc : (v : ℕ) (l : List ℕ) (b : ℕ) → decimal v (l ++ (b ∷ [])) ≡ decimal v l * 10 + (b - 48)
decimal-snoc v [] b = refl
decimal-snoc v (x ∷ l) b = decimal-snoc (v * 10 + (x - 48)) l b

decimal-spell : (k n : ℕ) → n ≤ k → decimal 0 (spell k n) ≡ n
decimal-spell zero n h = omega arith
decimal-spell (suc k) n h = go (ltb n 10) refl (λ a. decimal-spell k (n / 10) a)
  where
    go : (t : Bool) → ltb n 10 ≡ t → (n / 10 ≤ k → decimal 0 (spell k (n / 10)) ≡ n / 10) → decimal 0 (spell (suc k) n) ≡ n
    go true e ih = ap (decimal 0) (spell-small (suc k) n (ltb-true _ _ e)) ∙ omega arith
    go false e ih =
        let g : 10 ≤ n = ltb-false _ _ e in
        let q : decimal 0 (spell k (n / 10)) ≡ n / 10 = ih (omega arith) in
        ap (decimal 0) (spell-step k n g) ∙ (decimal-snoc 0 (spell k (n / 10)) (48 + n % 10) ∙ omega arith)

spell-pass : (k n : ℕ) → n ≤ k → AllPass digit_class (spell k n)
spell-pass zero n h = (digit-class (48 + n) (omega arith) (omega arith), tt)
spell-pass (suc k) n h = go (ltb n 10) refl (λ a. spell-pass k (n / 10) a)
  where
    go : (t : Bool) → ltb n 10 ≡ t → (n / 10 ≤ k → AllPass digit_class (spell k (n / 10))) → AllPass digit_class (spell (suc k) n)
    go true e ih =
        let q : n < 10 = ltb-true _ _ e in
        subst (AllPass digit_class) (sym (spell-small (suc k) n q)) (digit-class (48 + n) (omega arith) (omega arith), tt)
    go false e ih =
        let g : 10 ≤ n = ltb-false _ _ e in
        subst (AllPass digit_class) (sym (spell-step k n g))
        (pass-append digit_class (spell k (n / 10)) _ (ih (omega arith)) (digit-class (48 + n % 10) (omega arith) (omega arith), tt))

abbrev First : List ℕ → Type 0
First w = (b : ℕ) × (l : List ℕ) × (w ≡ b ∷ l) × (49 ≤ b) × (b ≤ 57)

spell-first : (k n : ℕ) → n ≤ k → 0 < n → First (spell k n)
spell-first zero n h p = absurd (omega arith)
spell-first (suc k) n h p = go (ltb n 10) refl (λ a b. spell-first k (n / 10) a b)
  where
    go : (t : Bool) → ltb n 10 ≡ t → (n / 10 ≤ k → 0 < n / 10 → First (spell k (n / 10))) → First (spell (suc k) n)
    go true e ih =
        let q : n < 10 = ltb-true _ _ e in
        (48 + n, [], spell-small (suc k) n q, omega arith, omega arith)
    go false e ih =
        let g : 10 ≤ n = ltb-false _ _ e in
        let f = ih (omega arith) (omega arith) in
        (f.0, f.1 ++ ((48 + n % 10) ∷ []), spell-step k n g ∙ ap (λ (l : List ℕ). l ++ ((48 + n % 10) ∷ [])) f.2, f.3, f.4)

-- digits with no digit after them
pub number_digits : (file : List ℕ) (at n : ℕ) (s : List ℕ) → digit_class (class_of (get_or s 0 0)) ≡ false → drop at file ≡ digits n ++ s
    → number file at ≡ got n (at + length (digits n))
number_digits file at zero s c e = rw (byte-is file at 48 s e)
number_digits file at (suc n) s c e =
    let m = suc n in
    let f = spell-first m m (omega arith) (omega arith) in
    let b-is : get_or file at 0 ≡ f.0 = byte-is file at f.0 (f.1 ++ s) (e ∙ ap (λ (l : List ℕ). l ++ s) f.2) in
    let is_digit : class_of (get_or file at 0) ≡ Digit = ap class_of b-is ∙ class-digit f.0 f.3 f.4 in
    let w : span digit_class (drop at file) ≡ digits m = ap (span digit_class) e ∙ span-stops digit_class (digits m) s (spell-pass m m (omega arith)) c in
    ap (λ (k : Class). number_by k (drop at file) at) is_digit
    ∙ (ap (λ (l : List ℕ). got (decimal 0 l) (at + length l)) w ∙ ap (λ (v : ℕ). got v (at + length (digits m))) (decimal-spell m m (omega arith)))

pub number-reads : (file : List ℕ) (at n x : ℕ) (s : List ℕ) → digit_class (class_of x) ≡ false → drop at file ≡ digits n ++ (x ∷ s)
    → Reads file (number file at) n (x ∷ s)
number-reads file at n x s c e = (at + length (digits n), number_digits file at n (x ∷ s) c e, past file at (digits n) (x ∷ s) e)
