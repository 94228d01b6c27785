-- Bytes put where others follow: what follows is put over up to two bytes too many.
use Prim.Native.Nat.{ℕ, ◌+◌, ◌-◌, ◌*◌, ◌/◌, ◌%◌, ◌<◌, ◌≤◌}
use mathlib.Core.Path.{◌≡◌, refl, sym, ap, ap₂, ◌∙◌}
use mathlib.Core.Bool.{Bool, true, false}
use mathlib.Core.List.{List, [], ◌∷◌, ◌++◌, append_assoc, append-nil}
use native.Mathlib.Omega.{arith}
use borrow.Author.Tests.{leb-true, leb-false}
use mir.Val.{bool_byte}
use lib.Bits.{bit_and, bit_or, or_zero_r}
use lib.Dec.{leb}
use lib.ListN.{length, set, length-append}
use Rattle.plan.specs.Difference.{groups_of}
use Rattle.plan.specs.Outcome.{put}
use Rattle.laws.proofs.Put.{put_one, put-put, put-over, put-length}
use Rattle.laws.proofs.Reading.Differences.{groups-small, groups-step}
use Rattle.codec.proofs.differences.Bits.{low7, high7}
use Rattle.write.specs.print.Words.{Begun, sides_bytes}

-- up to two bytes too many
pub begun-over : (out : List ℕ) (at : ℕ) (x more out' : List ℕ) (next : ℕ) → out' ≡ put out at (x ++ more) → length more ≤ 2 → next ≡ at + length x
    → Begun out at x out' next
begun-over out at x more out' next o few n y two fits =
    let sum : length (x ++ more) ≡ length x + length more = length-append x more in
    let sum₂ : length (x ++ y) ≡ length x + length y = length-append x y in
    let same : length (put out at x) ≡ length out = put-length out at x (omega arith) in
    ap₂ (λ (l : List ℕ) (k : ℕ). put l k y) (o ∙ sym (put-put out at x more (omega arith))) n
    ∙ (put-over (put out at x) (at + length x) more y (omega arith) (omega arith) ∙ put-put out at x y (omega arith))

-- none too many
pub begun-put : (out : List ℕ) (at : ℕ) (x out' : List ℕ) (next : ℕ) → out' ≡ put out at x → next ≡ at + length x → Begun out at x out' next
begun-put out at x out' next o n =
    begun-over out at x [] out' next (o ∙ ap (put out at) (sym (append-nil x))) (omega arith) n

-- a group and the mark of more
pub marked : (a : ℕ) (t : Bool) → bit_or (bit_and a 127) (bool_byte t * 128 % 4294967296) ≡ a % 128 + bool_byte t * 128
marked a true = high7 a
marked a false = or_zero_r (bit_and a 127) ∙ (low7 a ∙ omega arith)

pub mark-one : (t : Bool) → bool_byte t ≤ 1
mark-one true = omega arith
mark-one false = omega arith

-- three bytes are the groups and up to two more
record Three (d s t : ℕ) : Type 0 where
  more : List ℕ
  few : length more ≤ 2
  bytes : (d % 128 + s * 128) ∷ (d / 128 % 128 + t * 128) ∷ (d / 16384) ∷ [] ≡ groups_of d ++ more
  count : 1 + s + t ≡ length (groups_of d)

three : (d : ℕ) → d < 2097152 → (s t : Bool) → leb 128 d ≡ s → leb 16384 d ≡ t → Three d (bool_byte s) (bool_byte t)
three d h false false e f =
    let l : d < 128 = leb-false 128 d e in
    let w : groups_of d ≡ d ∷ [] = groups-small d l in
    let rest : List ℕ = (d / 128 % 128 + 0 * 128) ∷ (d / 16384) ∷ [] in
    record {
      more = rest;
      few = omega arith;
      bytes = ap (λ (b : ℕ). b ∷ rest) (omega arith) ∙ ap (λ (g : List ℕ). g ++ rest) (sym w);
      count = omega (arith, ap length w);
    }
three d h false true e f = absurd (omega (arith, leb-false 128 d e, leb-true 16384 d f))
three d h true false e f =
    let l : 128 ≤ d = leb-true 128 d e in
    let k : d < 16384 = leb-false 16384 d f in
    let w : groups_of d ≡ (d % 128 + 128) ∷ (d / 128) ∷ []
    = groups-step d l ∙ ap (λ (g : List ℕ). (d % 128 + 128) ∷ g) (groups-small (d / 128) (omega arith)) in
    let rest : List ℕ = (d / 16384) ∷ [] in
    record {
      more = rest;
      few = omega arith;
      bytes =
          ap₂ (λ (a b : ℕ). a ∷ b ∷ rest) {x = d % 128 + 1 * 128} {y = d % 128 + 128} (omega arith) (omega arith)
          ∙ ap (λ (g : List ℕ). g ++ rest) (sym w);
      count = omega (arith, ap length w);
    }
three d h true true e f =
    let l : 128 ≤ d = leb-true 128 d e in
    let k : 16384 ≤ d = leb-true 16384 d f in
    let w : groups_of d ≡ (d % 128 + 128) ∷ (d / 128 % 128 + 128) ∷ (d / 128 / 128) ∷ []
    = groups-step d l
    ∙ ap (λ (g : List ℕ). (d % 128 + 128) ∷ g)
    (groups-step (d / 128) (omega arith) ∙ ap (λ (g : List ℕ). (d / 128 % 128 + 128) ∷ g) (groups-small (d / 128 / 128) (omega arith))) in
    let third : d / 16384 ≡ d / 128 / 128 = omega arith in
    record {
      more = [];
      few = omega arith;
      bytes =
          ap (λ (b : ℕ). (d % 128 + 1 * 128) ∷ (d / 128 % 128 + 1 * 128) ∷ b ∷ []) third
          ∙ (sym w ∙ sym (append-nil (groups_of d)));
      count = omega (arith, ap length w);
    }

-- the three stores of a number that has three groups at most
module _ (out : List ℕ) (at d : ℕ) (small : d < 2097152) (fits : at + 3 ≤ length out) (a b c : ℕ) where
  stores : set (set (set out at a) (at + 1) b) (at + 2) c ≡ put out at (a ∷ b ∷ c ∷ [])
  stores =
      let one : set out at a ≡ put out at (a ∷ []) = put_one out at a (omega arith) in
      let size : length (put out at (a ∷ [])) ≡ length out = put-length out at (a ∷ []) (omega arith) in
      let two : set (put out at (a ∷ [])) (at + 1) b ≡ put out at (a ∷ b ∷ [])
      = put_one (put out at (a ∷ [])) (at + 1) b (omega arith) ∙ put-put out at (a ∷ []) (b ∷ []) (omega arith) in
      let size₂ : length (put out at (a ∷ b ∷ [])) ≡ length out = put-length out at (a ∷ b ∷ []) (omega arith) in
      ap (λ (l : List ℕ). set (set l (at + 1) b) (at + 2) c) one
      ∙ (ap (λ (l : List ℕ). set l (at + 2) c) two
      ∙ (put_one (put out at (a ∷ b ∷ [])) (at + 2) c (omega arith) ∙ put-put out at (a ∷ b ∷ []) (c ∷ []) (omega arith)))

  module _ (a-is : a ≡ d % 128 + bool_byte (leb 128 d) * 128) (b-is : b ≡ d / 128 % 128 + bool_byte (leb 16384 d) * 128) (c-is : c ≡ d / 16384) where
    pub three-end : at + 1 + bool_byte (leb 128 d) + bool_byte (leb 16384 d) ≡ at + length (groups_of d)
    three-end = omega (arith, (three d small (leb 128 d) (leb 16384 d) refl refl).count)

    pub three-begun : Begun out at (groups_of d) (set (set (set out at a) (at + 1) b) (at + 2) c)
        (at + 1 + bool_byte (leb 128 d) + bool_byte (leb 16384 d))
    three-begun =
        let r = three d small (leb 128 d) (leb 16384 d) refl refl in
        begun-over out at (groups_of d) r.more _ _
        (stores
        ∙ (ap₂ (λ (x y : ℕ). put out at (x ∷ y ∷ c ∷ [])) a-is b-is
        ∙ (ap (λ (z : ℕ). put out at ((d % 128 + bool_byte (leb 128 d) * 128) ∷ (d / 128 % 128 + bool_byte (leb 16384 d) * 128) ∷ z ∷ [])) c-is
        ∙ ap (put out at) r.bytes)))
        r.few
        three-end

-- two differences, of which the second and what follows it are put over the end of the first
module _ (out : List ℕ) (at lhs rhs0 rhs1 : ℕ) (fits : at + length (sides_bytes lhs rhs0 rhs1) + 2 ≤ length out) (d e : ℕ) (d-is : d ≡ lhs - rhs0)
    (e-is : e ≡ rhs0 - rhs1) where
  sides : groups_of d ++ groups_of e ≡ sides_bytes lhs rhs0 rhs1
  sides = ap₂ (λ (d e : ℕ). groups_of d ++ groups_of e) d-is e-is

  both : length (groups_of d) + length (groups_of e) ≡ length (sides_bytes lhs rhs0 rhs1)
  both = sym (length-append (groups_of d) (groups_of e)) ∙ ap length sides

  module _ (out' : List ℕ) (middle : ℕ) (same : length out' ≡ length out) (m : middle ≡ at + length (groups_of d)) where
    pub second-begins : middle + length (groups_of e) + 2 ≤ length out'
    second-begins = omega (arith, fits, both)

    module _ (out₂ : List ℕ) (end : ℕ) (end_is : end ≡ middle + length (groups_of e)) where
      pub begun-end : end ≡ at + length (sides_bytes lhs rhs0 rhs1)
      begun-end = omega (arith, both)

      pub begun-sides : Begun out at (groups_of d) out' middle → Begun out' middle (groups_of e) out₂ end → Begun out at (sides_bytes lhs rhs0 rhs1) out₂ end
      begun-sides b c y two room =
          let sum : length (groups_of e ++ y) ≡ length (groups_of e) + length y = length-append (groups_of e) y in
          c y two (omega (arith, both))
          ∙ (b (groups_of e ++ y) (omega arith) (omega (arith, both))
          ∙ (ap (put out at) (sym (append_assoc (groups_of d) (groups_of e) y)) ∙ ap (λ (l : List ℕ). put out at (l ++ y)) sides))

pub first-begins : (out : List ℕ) (at lhs rhs0 rhs1 : ℕ) → at + length (sides_bytes lhs rhs0 rhs1) + 2 ≤ length out
    → (d : ℕ) → d ≡ lhs - rhs0 → at + length (groups_of d) + 2 ≤ length out
first-begins out at lhs rhs0 rhs1 fits d d-is = omega (arith, fits, both out at lhs rhs0 rhs1 fits d (rhs0 - rhs1) d-is refl)
