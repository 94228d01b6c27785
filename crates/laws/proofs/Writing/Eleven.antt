-- 11 is the buffer's alone: no check of a circuit or of a tail refuses by it.
use Prim.Native.Nat.{ℕ, zero, suc, ◌+◌}
use mathlib.Core.Path.{◌≡◌, refl, ap, ◌∙◌}
use mathlib.Core.Bool.{Bool, true, false, cond}
use mathlib.Core.List.{List, [], ◌∷◌, ◌++◌}
use Rattle.std.specs.Prelude.{Option, Some, None}
use native.Mathlib.Omega.{arith}
use lib.Dec.{eqb, leb}
use lib.ListN.{length, get_or, drop}
use Rattle.plan.specs.declared.Version.TheVariants.{V19}
use Rattle.plan.specs.declared.Class.{Class}
use Rattle.plan.specs.declared.Class.TheVariants.{Line, Space, Zero, Digit, Print, Rest}
use Rattle.plan.specs.declared.Counts.{Counts}
use Rattle.plan.specs.declared.Refusal.{Refusal}
use Rattle.plan.specs.declared.Refusal.TheVariants.{WrongByte, LargeCount, WrongSum, ShortTable, OutOfRange, DefinedTwice, NotDefined, Cyclic}
use Rattle.plan.specs.declared.Refusal.TheVariants.{BadSymbol, NotInOrder}
use Rattle.plan.specs.Refusals.{Parse, got, refused, ◌then◌, number_of, stage, first_of}
use Rattle.plan.specs.Bytes.{class_of, name_class, span, number_by, number, expect}
use Rattle.plan.specs.Binary.{binary_order}
use Rattle.plan.specs.Circuit.{least_short}
use Rattle.plan.specs.Header.{text, list_of, over, adds}
use Rattle.plan.specs.Depends.{undefined_in, cyclic_in}
use Rattle.plan.specs.Tail.{Symbol, fits, symbol, ends_line, starts_symbol, tail_from, tail_at}
use Rattle.plan.specs.Given.{Given, given_circuit, lent_alone, counted, failing, outside_in, twice_in, stages, order_stage, refusal_of}

-- a reading that refuses by a number other than 11
abbrev Other : {A : Type 0} → Parse A → Type 0
Other (got a n) = Unit {0}
Other (refused r) = number_of r ≡ 11 → ⊥

other-then : {A B : Type 0} (p : Parse A) (f : A → ℕ → Parse B) → Other p → ((a : A) (n : ℕ) → Other (f a n)) → Other (p then f)
other-then (got a n) f h k = k a n
other-then (refused r) f h k = h

other-cond : {A : Type 0} (b : Bool) (p q : Parse A) → Other p → Other q → Other (cond b p q)
other-cond true p q h k = h
other-cond false p q h k = k

module _ (file : List ℕ) where
  other-number : (at : ℕ) → Other (number file at)
  other-number at = go (class_of (get_or file at 0))
    where
      go : (c : Class) → Other (number_by c (drop at file) at)
      go Zero = tt
      go Digit = tt
      go Line = λ e. omega arith
      go Space = λ e. omega arith
      go Print = λ e. omega arith
      go Rest = λ e. omega arith

  other-expect : (b at : ℕ) → Other (expect file b at)
  other-expect b at = other-cond (eqb (get_or file at 0) b) (got b (at + 1)) (refused (WrongByte at)) tt (λ e. omega arith)

  abbrev spelled : ℕ → ℕ → ℕ → Symbol
  spelled at entry name-at = record { kind = get_or file at 0; entry = entry; name = span name_class (drop name-at file) }

  other-tail : (n : Counts) (k : ℕ) (seen : List Symbol) (at : ℕ) → Other (tail_from V19 file n k seen at)
  other-tail n zero seen at = λ e. omega arith
  other-tail n (suc k) seen at =
      other-cond (leb (length file) at) _ _ tt
      (other-cond (starts_symbol V19 file at) _ _
      (other-then (symbol file n seen at) _
      (other-then (number file (at + 1)) _ (other-number (at + 1)) (λ entry m1.
      other-then (expect file 32 m1) _ (other-expect 32 m1) (λ _ m2.
      other-then (expect file 10 _) _ (other-expect 10 _) (λ _ m3.
      other-cond (fits n seen (spelled at entry m2)) (got (spelled at entry m2) m3) (refused (BadSymbol at)) tt (λ e. omega arith)))))
      (λ s m. other-then (tail_from V19 file n k (s ∷ seen) m) _ (other-tail n k (s ∷ seen) m) (λ ss l. tt)))
      (other-then (expect file 99 at) _ (other-expect 99 at) (λ _ m1.
      other-then (expect file 10 m1) _ (other-expect 10 m1)
      (λ _ m2. other-cond (ends_line file) (got [] (length file)) (refused (WrongByte (length file))) tt (λ e. omega arith)))))

-- stages that refuse by a number other than 11
abbrev pub OtherThan11 : Option Refusal → Type 0
OtherThan11 None = Unit {0}
OtherThan11 (Some r) = number_of r ≡ 11 → ⊥

abbrev pub Others : List (Option Refusal) → Type 0
Others [] = Unit {0}
Others (o ∷ os) = OtherThan11 o × Others os

other-stage : (r : ℕ → Refusal) → ((p : ℕ) → number_of (r p) ≡ 11 → ⊥) → (o : Option ℕ) → OtherThan11 (stage r o)
other-stage r h None = tt
other-stage r h (Some p) = h p

pub other-tail-stage : (n : Counts) (tail : List ℕ) → OtherThan11 (refusal_of (tail_at V19 tail n 0))
other-tail-stage n tail = go (tail_at V19 tail n 0) (other-tail tail n (suc (length tail)) [] 0)
  where
    go : (p : Parse (List Symbol)) → Other p → OtherThan11 (refusal_of p)
    go (got ss end) h = tt
    go (refused r) h = h

pub other-order-stage : (g : Given) → OtherThan11 (order_stage g)
other-order-stage g = other-stage NotInOrder (λ p e. omega arith) (failing (binary_order (given_circuit g)))

pub others-circuit : (g : Given) (os : List (Option Refusal)) → Others os → Others (stages g (lent_alone g) ++ os)
others-circuit g os k =
    let s2 = other-stage LargeCount (λ p e. omega arith) (over (counted 1 (list_of g.counts))) in
    let s3 = other-stage WrongSum (λ p e. omega arith) (failing (adds text g.counts)) in
    let s4 = other-stage ShortTable (λ p e. omega arith) (least_short (lent_alone g)) in
    let s5 = other-stage OutOfRange (λ p e. omega arith) (outside_in (given_circuit g)) in
    let s6 = other-stage DefinedTwice (λ p e. omega arith) (twice_in (given_circuit g)) in
    let s7 = other-stage NotDefined (λ p e. omega arith) (undefined_in (given_circuit g)) in
    let s8 = other-stage Cyclic (λ p e. omega arith) (cyclic_in (given_circuit g)) in
    (s2, (s3, (s4, (s5, (s6, (s7, (s8, k)))))))

pub others-first : (os ps : List (Option Refusal)) (r : Refusal) → Others os → number_of r ≡ 11 → first_of (os ++ ps) ≡ Some r
    → (first_of os ≡ None) × (first_of ps ≡ Some r)
others-first [] ps r h e f = (refl, f)
others-first (None ∷ os) ps r h e f = others-first os ps r h.1 e f
others-first (Some q ∷ os) ps r h e f = let q-is : q ≡ r = cc in absurd (h.0 (ap number_of q-is ∙ e))
