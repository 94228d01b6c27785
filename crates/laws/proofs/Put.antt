-- Bytes put into a buffer: what stands there then, one byte more at either end, and what a writer answers with room and without.
use Prim.Native.Nat.{ℕ, suc, ◌+◌, ◌-◌, ◌^◌, ◌<◌, ◌≤◌, min}
use mathlib.Core.Path.{◌≡◌, refl, sym, ap, ap₂, ◌∙◌}
use mathlib.Core.List.{List, [], ◌∷◌, ◌++◌, append_assoc}
use Rattle.std.specs.Prelude.{Ok, Err, Option, Some, None}
use native.Mathlib.Nat.{add-zero}
use native.Mathlib.Numerals.{add-one}
use native.Mathlib.Omega.{arith}
use borrow.Author.Tests.{le-leb, lt-leb}
use lib.ListN.{length, get_or, take, drop, set, length-append, length-drop, take-append-drop}
use lib.Seq.{length-take-le, take-suc, take_at, append_snoc, set_at, set_split, drop_at, drop-append-add, drop-drop}
use Rattle.plan.specs.declared.Refusal.TheVariants.{ShortBuffer}
use Rattle.plan.specs.Given.{lacking_room}
use Rattle.plan.specs.Outcome.{WriteExit, put, put_by, put_bytes}

pub put-none : (l : List ℕ) (at : ℕ) → put l at [] ≡ l
put-none l at = ap (λ (k : ℕ). take at l ++ drop k l) (add-zero at) ∙ take-append-drop at l

pub put-length : (l : List ℕ) (at : ℕ) (w : List ℕ) → at + length w ≤ length l → length (put l at w) ≡ length l
put-length l at w h =
    length-append (take at l) (w ++ drop (at + length w) l)
    ∙ (ap₂ ◌+◌ (length-take-le at l (omega arith)) (length-append w (drop (at + length w) l) ∙ ap (λ (k : ℕ). length w + k) (length-drop (at + length w) l))
    ∙ omega arith)

-- a byte set before the bytes that are put
pub put-before : (l : List ℕ) (i b : ℕ) (w : List ℕ) → i + 1 + length w ≤ length l → set (put l (i + 1) w) i b ≡ put l i (b ∷ w)
put-before l i b w h =
    let rest : List ℕ = w ++ drop (i + 1 + length w) l in
    let one_more : take (i + 1) l ≡ take i l ++ (get_or l i 0 ∷ []) = ap (λ (k : ℕ). take k l) (add-one i) ∙ take-suc l i 0 (omega arith) in
    let ends : i + 1 + length w ≡ i + suc (length w) = omega arith in
    ap (λ (x : List ℕ). set (x ++ rest) i b) one_more
    ∙ (ap (λ (x : List ℕ). set x i b) (append_snoc (take i l) (get_or l i 0) rest)
    ∙ (set_at (take i l) (get_or l i 0) rest b i (length-take-le i l (omega arith))
    ∙ ap (λ (k : ℕ). take i l ++ (b ∷ (w ++ drop k l))) ends))

-- what is put stands there, and what stands there may be put
pub put-there : (l : List ℕ) (at : ℕ) (w : List ℕ) → at ≤ length l → drop at (put l at w) ≡ w ++ drop (at + length w) l
put-there l at w h = drop_at (take at l) (w ++ drop (at + length w) l) at (length-take-le at l h)

pub put_same : (l : List ℕ) (at : ℕ) (w : List ℕ) → drop at l ≡ w ++ drop (at + length w) l → put l at w ≡ l
put_same l at w e = ap (λ (x : List ℕ). take at l ++ x) (sym e) ∙ take-append-drop at l

-- a store puts one byte
pub put_one : (l : List ℕ) (at b : ℕ) → at < length l → set l at b ≡ put l at (b ∷ [])
put_one l at b h = set_split l at b h ∙ ap (λ (k : ℕ). take at l ++ (b ∷ drop k l)) (sym (add-one at))

module _ (l : List ℕ) (at : ℕ) (x y : List ℕ) (fits : at + length (x ++ y) ≤ length l) where
  -- putting y after x is putting both
  pub put-put : put (put l at x) (at + length x) y ≡ put l at (x ++ y)
  put-put =
      let p : List ℕ = take at l ++ x in
      let q : List ℕ = drop (at + length x) l in
      let both : length (x ++ y) ≡ length x + length y = length-append x y in
      let size : length p ≡ at + length x
      = length-append (take at l) x ∙ ap (λ (n : ℕ). n + length x) (length-take-le at l (omega arith)) in
      let whole : put l at x ≡ p ++ q = sym (append_assoc (take at l) x q) in
      let sum : at + length x + length y ≡ at + length (x ++ y) = omega arith in
      let front : take (at + length x) (put l at x) ≡ p = ap (take (at + length x)) whole ∙ take_at p q (at + length x) size in
      let back : drop (at + length x + length y) (put l at x) ≡ drop (at + length (x ++ y)) l
      = ap (drop (at + length x + length y)) whole
      ∙ (ap (λ (n : ℕ). drop (n + length y) (p ++ q)) (sym size)
      ∙ (drop-append-add p q (length y) ∙ (drop-drop (length y) (at + length x) l ∙ ap (λ (n : ℕ). drop n l) sum))) in
      ap₂ (λ (a b : List ℕ). a ++ (y ++ b)) front back
      ∙ (append_assoc (take at l) x _ ∙ ap (λ (b : List ℕ). take at l ++ b) (sym (append_assoc x y _)))

-- what is put over a part that is no longer is all that was put
pub put-over : (l : List ℕ) (at : ℕ) (x y : List ℕ) → at ≤ length l → length x ≤ length y → put (put l at x) at y ≡ put l at y
put-over l at x y h k =
    let d : ℕ = length y - length x in
    let q : List ℕ = drop (at + length x) l in
    let long : length y ≡ length x + d = omega arith in
    let ends : at + length x + d ≡ at + length y = omega arith in
    let front : take at (put l at x) ≡ take at l = take_at (take at l) (x ++ q) at (length-take-le at l h) in
    let back : drop (at + length y) (put l at x) ≡ drop (at + length y) l
    = sym (drop-drop (length y) at (put l at x)) ∙ (ap (drop (length y)) (put-there l at x h)
    ∙ (ap (λ (n : ℕ). drop n (x ++ q)) long ∙ (drop-append-add x q d ∙ (drop-drop d (at + length x) l ∙ ap (λ (n : ℕ). drop n l) ends)))) in
    ap₂ (λ (a b : List ℕ). a ++ (y ++ b)) front back

-- the first part of what is put at the start
pub put_first : (l x : List ℕ) → take (length x) (put l 0 x) ≡ x
put_first l x = take_at x (drop (0 + length x) l) (length x) refl

-- the writer's answers
module _ (l : List ℕ) (at : ℕ) (w : List ℕ) where
  pub with-room : (k : ℕ) (x : List ℕ) → at + length w ≤ length l → k ≡ length w → x ≡ put l at w
      → ◌≡◌ {A = WriteExit} (record { answer = Ok k; out = x }) (put_bytes l at w)
  with-room k x h e p =
      let enough : None ≡ lacking_room l at w = sym (rw (le-leb (at + length w) (length l) h)) in
      ap₂ (λ (k : ℕ) (x : List ℕ). record { answer = Ok k; out = x }) e p ∙ ap (λ (o : Option ℕ). put_by o l at w) enough

  pub without-room : (k : ℕ) → length l < at + length w → k ≡ min (at + length w) (2 ^ 64 - 1)
      → ◌≡◌ {A = WriteExit} (record { answer = Err (ShortBuffer k); out = l }) (put_bytes l at w)
  without-room k h e =
      let short : Some k ≡ lacking_room l at w = ap Some e ∙ sym (rw (lt-leb (at + length w) (length l) h)) in
      ap (λ (o : Option ℕ). put_by o l at w) short
