-- The three numbers of a latch, whichever of them stand in its line.
use Prim.Native.Nat.{ℕ, ◌+◌, ◌*◌, ◌≤◌, ◌<◌}
use mathlib.Core.Path.{◌≡◌, refl, sym, ap, ap₂, ◌∙◌}
use mathlib.Core.Bool.{Bool, true, false, cond, ◌||◌, false≢true}
use mathlib.Core.List.{List, [], ◌∷◌, map}
use Rattle.std.specs.Prelude.{Result, Some, None}
use Rattle.plan.specs.declared.Refusal.{Refusal}
use native.Mathlib.Omega.{arith}
use borrow.Author.Tests.{eqb-true, eq-eqb, le-leb, leb-true}
use lib.Dec.{eqb, leb}
use lib.ListN.{length, get_or, length-map}
use Rattle.plan.specs.Literals.{most, beyond, lit_of, sign_of, in_range, is_reset}
use Rattle.plan.specs.Refusals.{got}
use Rattle.plan.specs.Bytes.{Placed, numbers, values}
use Rattle.plan.specs.Given.{or_else}
use Rattle.plan.specs.Outcome.{passed_by, put}
use Rattle.laws.proofs.Reading.Common.{and_right}
use Rattle.laws.proofs.Reading.Cut.{cut}
use Rattle.laws.proofs.Reading.Lines.{numbers-took}
use Rattle.laws.proofs.Reading.Steps.{cut_range, cut-reset}
use Rattle.lines.specs.Rows.{places_of, Numbered}
use Rattle.lines.proofs.Numbers.{values_length, places-length}
use Rattle.lines.specs.latches.Latches.{literals, frame_of, judged, faults, Own}

-- the words of a line, put where its numbers belong
pub framed-text : (own : ℕ) (l : List ℕ) → 2 ≤ length l → length l ≤ 3 → put (0 ∷ 0 ∷ 0 ∷ []) 0 l ≡ frame_of true own l
framed-text own [] a b = absurd (omega arith)
framed-text own (x ∷ []) a b = absurd (omega arith)
framed-text own (x ∷ y ∷ []) a b = refl
framed-text own (x ∷ y ∷ z ∷ []) a b = refl
framed-text own (x ∷ y ∷ z ∷ w ∷ l) a b = absurd (omega arith)

pub framed-binary : (own : ℕ) (l : List ℕ) → 1 ≤ length l → length l ≤ 2 → put (own ∷ 0 ∷ 0 ∷ []) 1 l ≡ frame_of false own l
framed-binary own [] a b = absurd (omega arith)
framed-binary own (x ∷ []) a b = refl
framed-binary own (x ∷ y ∷ []) a b = refl
framed-binary own (x ∷ y ∷ z ∷ l) a b = absurd (omega arith)

-- what the code answers, by the form
abbrev Framed : List ℕ → Bool → ℕ → ℕ → ℕ → Result ℕ Refusal → List ℕ → List ℕ → Type 0
Framed file d more v at r w' p' =
    (r ≡ passed_by (numbers file (literals d) (literals d + more) at))
    × ((xs : List Placed) (next : ℕ) → numbers file (literals d) (literals d + more) at ≡ got xs next
    → (w' ≡ frame_of d (lit_of v) (map cut (values xs))) × (p' ≡ frame_of d 0 (places_of xs)))

module _ (file : List ℕ) (d : Bool) (more v at : ℕ) (few : more ≤ 1) (r : Result ℕ Refusal) (w p w' p' : List ℕ) where
  pub in-text : d ≡ true → w ≡ 0 ∷ 0 ∷ 0 ∷ [] → p ≡ 0 ∷ 0 ∷ 0 ∷ [] → r ≡ passed_by (numbers file 2 (2 + more) at)
      → ((xs : List Placed) (next : ℕ) → numbers file 2 (2 + more) at ≡ got xs next → Numbered xs 0 w p w' p')
      → Framed file d more v at r w' p'
  in-text e w-is p-is r-is held = go d e
    where
      go : (x : Bool) → x ≡ true → Framed file x more v at r w' p'
      go false q = absurd (false≢true q)
      go true q = (
        r-is,
        λ xs next h.
            let n = held xs next h in
            let took = numbers-took file 2 (2 + more) at xs next (omega arith) h in
            let size : length (map cut (values xs)) ≡ length (values xs) = length-map (values xs) cut in (
              n.words ∙ ap (λ (x : List ℕ). put x 0 (map cut (values xs))) w-is
                  ∙ framed-text (lit_of v) (map cut (values xs)) (omega (arith, took.1)) (omega (arith, took.2)),
              n.places ∙ ap (λ (x : List ℕ). put x 0 (places_of xs)) p-is
                  ∙ framed-text 0 (places_of xs) (omega (arith, took.1, values_length xs, places-length xs))
                  (omega (arith, took.2, values_length xs, places-length xs)),
            ),
      )

  pub in-binary : d ≡ false → w ≡ lit_of v ∷ 0 ∷ 0 ∷ [] → p ≡ 0 ∷ 0 ∷ 0 ∷ [] → r ≡ passed_by (numbers file 1 (1 + more) at)
      → ((xs : List Placed) (next : ℕ) → numbers file 1 (1 + more) at ≡ got xs next → Numbered xs 1 w p w' p')
      → Framed file d more v at r w' p'
  in-binary e w-is p-is r-is held = go d e
    where
      go : (x : Bool) → x ≡ false → Framed file x more v at r w' p'
      go true q = absurd (false≢true (sym q))
      go false q = (
        r-is,
        λ xs next h.
            let n = held xs next h in
            let took = numbers-took file 1 (1 + more) at xs next (omega arith) h in
            let size : length (map cut (values xs)) ≡ length (values xs) = length-map (values xs) cut in (
              n.words ∙ ap (λ (x : List ℕ). put x 1 (map cut (values xs))) w-is
                  ∙ framed-binary (lit_of v) (map cut (values xs)) (omega (arith, took.1)) (omega (arith, took.2)),
              n.places ∙ ap (λ (x : List ℕ). put x 1 (places_of xs)) p-is
                  ∙ framed-binary 0 (places_of xs) (omega (arith, took.1, values_length xs, places-length xs))
                  (omega (arith, took.2, values_length xs, places-length xs)),
            ),
      )

in-turn : (a b c : Bool) (p q r : ℕ)
    → cond a (cond b (cond c None (Some r)) (Some q)) (Some p) ≡ or_else (cond a (cond b None (Some q)) (Some p)) (cond c None (Some r))
in-turn true true true p q r = refl
in-turn true true false p q r = refl
in-turn true false c p q r = refl
in-turn false b c p q r = refl

own_range : (m v : ℕ) → 0 < v → v ≤ m → in_range true m (lit_of v) ≡ true
own_range m v a b = rw (eq-eqb (sign_of (lit_of v)) 0 (omega arith), le-leb 2 (lit_of v) (omega arith)) (le-leb (lit_of v) (2 * m) (omega arith))

range-cut : (m v : ℕ) → m ≤ most → in_range true m v ≡ true → cut v ≡ v
range-cut m v h e =
    let k : v ≤ 2 * m = leb-true v (2 * m) (and_right (leb 2 v) _ (and_right (eqb (sign_of v) 0) _ e)) in
    omega arith

use-cut : (m v : ℕ) → m ≤ most → in_range false m v ≡ true → cut v ≡ v
use-cut m v h e = let k : v ≤ 2 * m + 1 = leb-true v (2 * m + 1) e in omega arith

reset-cut : (own r : ℕ) → own < beyond → is_reset own r ≡ true → cut r ≡ r
reset-cut own r h e = go (eqb r 0) (eqb r 1) refl refl e
  where
    go : (a b : Bool) → eqb r 0 ≡ a → eqb r 1 ≡ b → (a || (b || eqb r own)) ≡ true → cut r ≡ r
    go true b p q e = let z : r ≡ 0 = eqb-true r 0 p in omega arith
    go false true p q e = let z : r ≡ 1 = eqb-true r 1 q in omega arith
    go false false p q e = let z : r ≡ own = eqb-true r own e in omega arith

module _ (m : ℕ) (small : m ≤ most) where
  -- a reset after an own literal that is in its range
  same-reset : (x z : ℕ) (p q r : ℕ) (b : Bool)
      → cond (in_range true m x) (cond b (cond (is_reset (cut x) (cut z)) None (Some r)) (Some q)) (Some p)
      ≡ cond (in_range true m x) (cond b (cond (is_reset x z) None (Some r)) (Some q)) (Some p)
  same-reset x z p q r b = go (in_range true m x) refl
    where
      go : (t : Bool) → in_range true m x ≡ t
          → cond t (cond b (cond (is_reset (cut x) (cut z)) None (Some r)) (Some q)) (Some p)
          ≡ cond t (cond b (cond (is_reset x z) None (Some r)) (Some q)) (Some p)
      go false e = refl
      go true e =
          let x-is : cut x ≡ x = range-cut m x small e in
          let k : x ≤ 2 * m = leb-true x (2 * m) (and_right (leb 2 x) _ (and_right (eqb (sign_of x) 0) _ e)) in
          ap (λ (t : Bool). cond b (cond t None (Some r)) (Some q))
          (ap (λ (y : ℕ). is_reset y (cut z)) x-is ∙ cut-reset x z (omega arith))

  pub judge-is : (d : Bool) (v : ℕ) (xs : List Placed) (w p : List ℕ) → literals d ≤ length (values xs) → length (values xs) ≤ literals d + 1
      → Own d m v → w ≡ frame_of d (lit_of v) (map cut (values xs)) → p ≡ frame_of d 0 (places_of xs)
      → judged m (get_or w 0 0) (get_or w 1 0) (get_or w 2 0) (get_or p 0 0) (get_or p 1 0) (get_or p 2 0) ≡ faults d m v xs
  judge-is d v xs w p lo hi own w-is p-is = rw (w-is, p-is) (go d xs lo hi own)
    where
      go : (d : Bool) (xs : List Placed) → literals d ≤ length (values xs) → length (values xs) ≤ literals d + 1 → Own d m v
          → judged m (get_or (frame_of d (lit_of v) (map cut (values xs))) 0 0) (get_or (frame_of d (lit_of v) (map cut (values xs))) 1 0)
          (get_or (frame_of d (lit_of v) (map cut (values xs))) 2 0) (get_or (frame_of d 0 (places_of xs)) 0 0) (get_or (frame_of d 0 (places_of xs)) 1 0)
          (get_or (frame_of d 0 (places_of xs)) 2 0) ≡ faults d m v xs
      go true [] lo hi own = absurd (omega arith)
      go true (x ∷ []) lo hi own = absurd (omega arith)
      go true (x ∷ y ∷ []) lo hi own =
          rw (cut_range true m x.value small, cut_range false m y.value small)
          (in-turn (in_range true m x.value) (in_range false m y.value) true x.place y.place 0)
      go true (x ∷ y ∷ z ∷ []) lo hi own =
          rw (cut_range true m x.value small, cut_range false m y.value small)
          (same-reset x.value z.value x.place y.place z.place (in_range false m y.value)
          ∙ in-turn (in_range true m x.value) (in_range false m y.value) (is_reset x.value z.value) x.place y.place z.place)
      go true (x ∷ y ∷ z ∷ u ∷ l) lo hi own = absurd (omega arith)
      go false [] lo hi own = absurd (omega arith)
      go false (x ∷ []) lo hi own =
          rw (own_range m v own.0 own.1, cut_range false m x.value small)
          (in-turn true (in_range false m x.value) true 0 x.place 0)
      go false (x ∷ y ∷ []) lo hi own =
          rw (own_range m v own.0 own.1, cut_range false m x.value small, cut-reset (lit_of v) y.value (omega (arith, own.1)))
          (in-turn true (in_range false m x.value) (is_reset (lit_of v) y.value) 0 x.place y.place)
      go false (x ∷ y ∷ z ∷ l) lo hi own = absurd (omega arith)

  -- numbers without a fault are held whole
  none_first : (a b c : Bool) (p q r : ℕ) → or_else (cond a (cond b None (Some q)) (Some p)) (cond c None (Some r)) ≡ None
      → (a ≡ true) × (b ≡ true) × (c ≡ true)
  none_first true true true p q r e = (refl, refl, refl)
  none_first true true false p q r e = let z : ◌≡◌ {A = ℕ} 0 1 = cc in absurd (omega arith)
  none_first true false c p q r e = let z : ◌≡◌ {A = ℕ} 0 1 = cc in absurd (omega arith)
  none_first false b c p q r e = let z : ◌≡◌ {A = ℕ} 0 1 = cc in absurd (omega arith)

  pub held_whole : (d : Bool) (v : ℕ) (xs : List Placed) → literals d ≤ length (values xs) → length (values xs) ≤ literals d + 1
      → Own d m v → faults d m v xs ≡ None → map cut (values xs) ≡ values xs
  held_whole true v [] lo hi own e = absurd (omega arith)
  held_whole true v (x ∷ []) lo hi own e = absurd (omega arith)
  held_whole true v (x ∷ y ∷ []) lo hi own e =
      let f = none_first (in_range true m x.value) (in_range false m y.value) true x.place y.place 0 e in
      ap₂ (λ (a b : ℕ). a ∷ b ∷ []) (range-cut m x.value small f.0) (use-cut m y.value small f.1)
  held_whole true v (x ∷ y ∷ z ∷ []) lo hi own e =
      let f = none_first (in_range true m x.value) (in_range false m y.value) (is_reset x.value z.value) x.place y.place z.place e in
      let x-is : cut x.value ≡ x.value = range-cut m x.value small f.0 in
      let k : x.value ≤ 2 * m = leb-true x.value (2 * m) (and_right (leb 2 x.value) _ (and_right (eqb (sign_of x.value) 0) _ f.0)) in
      let z-is : cut z.value ≡ z.value = reset-cut x.value z.value (omega arith) f.2 in
      ap₂ (λ (a b : ℕ). a ∷ b ∷ cut z.value ∷ []) x-is (use-cut m y.value small f.1)
      ∙ ap (λ (a : ℕ). x.value ∷ y.value ∷ a ∷ []) z-is
  held_whole true v (x ∷ y ∷ z ∷ u ∷ l) lo hi own e = absurd (omega arith)
  held_whole false v [] lo hi own e = absurd (omega arith)
  held_whole false v (x ∷ []) lo hi own e =
      let f = none_first (in_range false m x.value) true true x.place 0 0 e in
      ap (λ (a : ℕ). a ∷ []) (use-cut m x.value small f.0)
  held_whole false v (x ∷ y ∷ []) lo hi own e =
      let f = none_first (in_range false m x.value) true (is_reset (lit_of v) y.value) x.place 0 y.place e in
      ap₂ (λ (a b : ℕ). a ∷ b ∷ []) (use-cut m x.value small f.0) (reset-cut (lit_of v) y.value (omega (arith, own.1)) f.2)
  held_whole false v (x ∷ y ∷ z ∷ l) lo hi own e = absurd (omega arith)
