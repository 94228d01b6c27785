-- A number that was written is read back, and one that was read is written as the same bytes.
use Prim.Native.Nat.{ℕ, ◌+◌, ◌-◌, ◌^◌, ◌<◌, ◌≤◌, min}
use mathlib.Core.Path.{◌≡◌, refl, sym, ap, ap₂, ◌∙◌}
use mathlib.Core.Bool.{Bool, true, false, cond}
use mathlib.Core.List.{List, ◌++◌}
use Rattle.std.specs.Prelude.{Ok, Err, Option, Some, None}
use native.Mathlib.Nat.{add-zero}
use native.Mathlib.Omega.{arith}
use borrow.Author.Tests.{le-leb, leb-true}
use lib.Dec.{leb}
use lib.ListN.{length, get_or, drop, length-append, length-drop}
use lib.Seq.{get_or-drop}
use Rattle.plan.specs.declared.Refusal.TheVariants.{ShortBuffer}
use Rattle.plan.specs.Literals.{beyond}
use Rattle.plan.specs.Refusals.{Parse, got, refused}
use Rattle.plan.specs.Bytes.{class_of, digit_class, number, digits}
use Rattle.plan.specs.Given.{lacking_room}
use Rattle.plan.specs.Outcome.{cut_number, number_at, put, put_by, WriteExit, write_number}
use Rattle.laws.proofs.Put.{put-there, put_same}
use Rattle.laws.proofs.Reading.Number.{number-took, number-next, number_digits, digits-some}
use Rattle.laws.proofs.Pairs.{ok-pair}

-- the byte after the number is no digit, or the buffer ends there
pub written-is-read : (out : List ℕ) (at n : ℕ) → n < beyond → at + length (digits n) ≤ length out
    → digit_class (class_of (get_or out (at + length (digits n)) 0)) ≡ false → number_at (put out at (digits n)) at ≡ Ok (n, at + length (digits n))
written-is-read out at n small h e =
    let end = at + length (digits n) in
    let after : get_or (drop end out) 0 0 ≡ get_or out end 0 = get_or-drop end out 0 0 ∙ ap (λ (k : ℕ). get_or out k 0) (add-zero end) in
    let cut : min n beyond ≡ n = omega arith in
    ap cut_number
    (number_digits (put out at (digits n)) at n (drop end out) (ap (λ (b : ℕ). digit_class (class_of b)) after ∙ e) (put-there out at (digits n) (omega arith)))
    ∙ ap (λ (v : ℕ). Ok (v, end)) cut

-- the same of what the writer leaves
pub reads-what-was-written : (out x : List ℕ) (at n k : ℕ) → n < beyond → write_number (record { out = out; at = at; value = n })
    ≡ record { answer = Ok k; out = x }
    → digit_class (class_of (get_or out (at + k) 0)) ≡ false → number_at x at ≡ Ok (n, at + k)
reads-what-was-written out x at n k small e after = go (leb (at + length (digits n)) (length out)) refl e
  where
    go : (t : Bool) → leb (at + length (digits n)) (length out) ≡ t
        → put_by (cond t None (Some (min (at + length (digits n)) (2 ^ 64 - 1)))) out at (digits n) ≡ record { answer = Ok k; out = x }
        → number_at x at ≡ Ok (n, at + k)
    go true h e =
        let answer : Ok (length (digits n)) ≡ Ok k = ap (λ (r : WriteExit). r.answer) e in
        let count : length (digits n) ≡ k = cc in
        let bytes : put out at (digits n) ≡ x = ap (λ (r : WriteExit). r.out) e in
        ap (λ (l : List ℕ). number_at l at) (sym bytes)
        ∙ (written-is-read out at n small (leb-true _ _ h) (ap (λ (j : ℕ). digit_class (class_of (get_or out (at + j) 0))) count ∙ after)
        ∙ ap (λ (j : ℕ). Ok (n, at + j)) count)
    go false h e =
        let answer : Err (ShortBuffer (min (at + length (digits n)) (2 ^ 64 - 1))) ≡ Ok k = ap (λ (r : WriteExit). r.answer) e in
        let z : ◌≡◌ {A = ℕ} 0 1 = cc in
        absurd (omega arith)

-- a value below the cut is the number itself
uncut : (p : Parse ℕ) (v next : ℕ) → v < beyond → cut_number p ≡ Ok (v, next) → p ≡ got v next
uncut (got u m) v next small e =
    let both = ok-pair (min u beyond) v m next e in
    let value = both.0 in
    let end = both.1 in
    let same : u ≡ v = omega arith in
    ap₂ {C = Parse ℕ} got same end
uncut (refused r) v next small e = let z : ◌≡◌ {A = ℕ} 0 1 = cc in absurd (omega arith)

module _ (file : List ℕ) (at v next : ℕ) where
  took-again : number file at ≡ got v next → drop at file ≡ digits v ++ drop (at + length (digits v)) file
  took-again e = number-took file at v next e ∙ ap (λ (k : ℕ). digits v ++ drop k file) (number-next file at v next e)

  pub read-is-written : number file at ≡ got v next → (put file at (digits v) ≡ file) × (next ≡ at + length (digits v))
  read-is-written e = (put_same file at (digits v) (took-again e), number-next file at v next e)

  fits : number file at ≡ got v next → at + length (digits v) ≤ length file
  fits e =
      let sizes : length file - at ≡ length (digits v) + (length file - (at + length (digits v)))
      = sym (length-drop at file)
      ∙ (ap length (took-again e)
      ∙ (length-append (digits v) (drop (at + length (digits v)) file) ∙ ap (λ (k : ℕ). length (digits v) + k) (length-drop (at + length (digits v)) file))) in
      omega (arith, digits-some v)

  -- the writer leaves a file as it was where it writes what the reader read
  pub writes-what-was-read : v < beyond → number_at file at ≡ Ok (v, next)
      → write_number (record { out = file; at = at; value = v }) ≡ record { answer = Ok (length (digits v)); out = file }
  writes-what-was-read small e =
      let n = uncut (number file at) v next small e in
      let enough : lacking_room file at (digits v) ≡ None = rw (le-leb (at + length (digits v)) (length file) (fits n)) in
      ap (λ (o : Option ℕ). put_by o file at (digits v)) enough
      ∙ ap (λ (x : List ℕ). record { answer = Ok (length (digits v)); out = x }) (read-is-written n).0
