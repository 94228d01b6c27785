-- The parts of a line, put into a buffer one after the other.
use Prim.Native.Nat.{ℕ, ◌+◌, ◌-◌, ◌^◌, ◌<◌, ◌≤◌, min}
use mathlib.Core.Path.{◌≡◌, refl, sym, ap, ap₂, ◌∙◌}
use mathlib.Core.List.{List, [], ◌∷◌, ◌++◌, append_assoc}
use Rattle.std.specs.Prelude.{Ok, Err}
use native.Mathlib.Omega.{arith}
use lib.ListN.{length, set, length-append}
use Rattle.plan.specs.declared.Refusal.{Refusal}
use Rattle.plan.specs.declared.Refusal.TheVariants.{ShortBuffer}
use Rattle.plan.specs.Refusals.{number_of, place_of}
use Rattle.plan.specs.Bytes.{digits}
use Rattle.plan.specs.Outcome.{WriteExit, put}
use Rattle.plan.specs.Programs.{bytes_of, refusal_line}
use Rattle.plan.specs.Whole.{tell_refusal}
use Rattle.laws.proofs.Put.{put-none, put-length, put-put, put_one, with-room, without-room}
use Rattle.codec.proofs.numbers.Length.{digits-twenty}

-- w stands at the start of the buffer, and k is the position after it
pub record Told (out w o : List ℕ) (k : ℕ) : Type 0 where
  pub filled : o ≡ put out 0 w
  pub place : k ≡ length w
  pub size : length o ≡ length out

pub nothing-told : (out : List ℕ) → Told out [] out 0
nothing-told out = record { filled = sym (put-none out 0); place = refl; size = refl }

-- y after it
pub more-told : (out w o : List ℕ) (k : ℕ) → Told out w o k → (y o' : List ℕ) (k' : ℕ) → k + length y ≤ length out → o' ≡ put o k y
    → k' ≡ k + length y
    → Told out (w ++ y) o' k'
more-told out w o k s y o' k' h e f =
    let both : length (w ++ y) ≡ length w + length y = length-append w y in
    let fits : 0 + length (w ++ y) ≤ length out = omega (arith, s.place) in
    let from_zero : k ≡ 0 + length w = omega (arith, s.place) in
    let here : o' ≡ put out 0 (w ++ y)
    = e ∙ (ap₂ (λ (x : List ℕ) (i : ℕ). put x i y) s.filled from_zero ∙ put-put out 0 w y fits) in
    record { filled = here; place = omega (arith, s.place); size = ap length here ∙ put-length out 0 (w ++ y) fits }

-- a byte after it
pub byte-told : (out w o : List ℕ) (k b : ℕ) → Told out w o k → k < length out → Told out (w ++ (b ∷ [])) (set o k b) (k + 1)
byte-told out w o k b s h =
    more-told out w o k s (b ∷ []) (set o k b) (k + 1) (omega arith) (put_one o k b (omega (arith, s.size))) refl

module _ (n p : ℕ) where
  abbrev front : List ℕ
  front = bytes_of "refused "

  abbrev middle : List ℕ
  middle = bytes_of " at "

  -- the parts in a row
  abbrev pub row : List ℕ
  row = (((front ++ digits n) ++ middle) ++ digits p) ++ (10 ∷ [])

  pub row_is : row ≡ front ++ (digits n ++ (middle ++ (digits p ++ (10 ∷ []))))
  row_is =
      append_assoc ((front ++ digits n) ++ middle) (digits p) (10 ∷ [])
      ∙ (append_assoc (front ++ digits n) middle (digits p ++ (10 ∷ []))
      ∙ append_assoc front (digits n) (middle ++ (digits p ++ (10 ∷ []))))

  pub row-length : length row ≡ 13 + length (digits n) + length (digits p)
  row-length =
      let e1 : length row ≡ length (((front ++ digits n) ++ middle) ++ digits p) + 1
      = length-append (((front ++ digits n) ++ middle) ++ digits p) (10 ∷ []) in
      let e2 : length (((front ++ digits n) ++ middle) ++ digits p) ≡ length ((front ++ digits n) ++ middle) + length (digits p)
      = length-append ((front ++ digits n) ++ middle) (digits p) in
      let e3 : length ((front ++ digits n) ++ middle) ≡ length (front ++ digits n) + 4 = length-append (front ++ digits n) middle in
      let e4 : length (front ++ digits n) ≡ 8 + length (digits n) = length-append front (digits n) in
      omega arith

pub line-is : (r : Refusal) → row (number_of r) (place_of r) ≡ refusal_line r
line-is r = row_is (number_of r) (place_of r)

pub line-length : (r : Refusal) → length (refusal_line r) ≡ 13 + length (digits (number_of r)) + length (digits (place_of r))
line-length r = ap length (sym (line-is r)) ∙ row-length (number_of r) (place_of r)

-- the line of a number and a place that are a refusal's
module _ (out : List ℕ) (r : Refusal) (n p line : ℕ) (n-is : n ≡ number_of r) (p-is : p ≡ place_of r)
    (line-is-long : line ≡ 13 + length (digits n) + length (digits p)) where
  same : row n p ≡ refusal_line r
  same = ap₂ row n-is p-is ∙ line-is r

  long : line ≡ length (refusal_line r)
  long = line-is-long ∙ (sym (row-length n p) ∙ ap length same)

  pub no_room : n < 2 ^ 64 → p < 2 ^ 64 → length out < line
      → ◌≡◌ {A = WriteExit} (record { answer = Err (ShortBuffer line); out = out }) (tell_refusal r out)
  no_room number place h =
      let cut : line ≡ min (0 + length (refusal_line r)) (2 ^ 64 - 1)
      = omega (arith, line-is-long, long, digits-twenty n number, digits-twenty p place) in
      without-room out 0 (refusal_line r) line (omega (arith, long)) cut

  pub all_told : (o : List ℕ) (k : ℕ) → Told out (row n p) o k → line ≤ length out
      → ◌≡◌ {A = WriteExit} (record { answer = Ok line; out = o }) (tell_refusal r out)
  all_told o k s h =
      with-room out 0 (refusal_line r) line o (omega (arith, long)) long (s.filled ∙ ap (put out 0) same)
