-- Cards can't meet 6, 7 or 8: no refusal of the reader is one of them, and what it accepts none of them would refuse. A gate that depends on
-- itself is not in binary order: 15 comes before 8 could be asked.
use Prim.Native.Nat.{ℕ, ◌<◌, ◌≤◌}
use mathlib.Core.Path.{◌≡◌, refl, subst}
use mathlib.Core.List.{List}
use Rattle.std.specs.Prelude.{Option, Some, None}
use native.Mathlib.Omega.{arith}
use Rattle.plan.specs.declared.Counts.{Counts}
use Rattle.plan.specs.declared.Refusal.{Refusal}
use Rattle.plan.specs.declared.Refusal.TheVariants.{WrongByte, LargeCount, WrongSum, ShortTable, OutOfRange, NotInOrder, WrongMark}
use Rattle.plan.specs.Refusals.{Parse, got, refused, ◌then◌, number_of}
use Rattle.plan.specs.Circuit.{Circuit, words_to_work, against, least_short}
use Rattle.plan.specs.Binary.{binary_order}
use Rattle.plan.specs.Depends.{undefined_in, cyclic_in}
use Rattle.plan.specs.Header.{binary, over, adds}
use Rattle.plan.specs.Given.{failing, outside_in, twice_in}
use Rattle.plan.specs.Cards.{counts_at, counts_placed, bad_length, wrong_marks, carded, past, card_head, read_cards}
use Rattle.laws.proofs.Reading.Differences.{Bytes}
use Rattle.laws.proofs.Reading.NoSixSevenEight.{Apart}
use Rattle.laws.proofs.Running.NoSixToEight.{no-six-to-eight}
use Rattle.cards.proofs.Laws.Exactly.{cards-state}

-- read, or refused by none of the three
abbrev Spared : {A : Type 0} → Parse A → Type 0
Spared (got a next) = Unit {0}
Spared (refused r) = Apart r

-- a check before what is read next, whose refusal has another number
apart : (r : Refusal) (k : ℕ) → number_of r ≡ k → (k ≤ 8 → k ≤ 5) → Apart r
apart r k e h = record {
  six = λ x. other 6 x (omega arith, omega arith);
  seven = λ x. other 7 x (omega arith, omega arith);
  eight = λ x. other 8 x
      (omega arith, omega arith);
}
  where
    other : (n : ℕ) → number_of r ≡ n → (5 < n) × (n ≤ 8) → ⊥
    other n x i = omega (arith, e, x, i.0, i.1, h (omega (arith, e, x, i.1)))

spared-past : {A : Type 0} (o : Option ℕ) (r : ℕ → Refusal) (f : ℕ → ℕ → Parse A) (k : ℕ) → ((x : ℕ) → number_of (r x) ≡ k) → (k ≤ 8 → k ≤ 5)
    → Spared (f 0 0) → Spared (past o r then f)
spared-past None r f k e h s = s
spared-past (Some x) r f k e h s = apart (r x) k (e x) h

spared-then : {A B : Type 0} (p : Parse A) (f : A → ℕ → Parse B) → Spared p → ((a : A) (n : ℕ) → Spared (f a n)) → Spared (p then f)
spared-then (got a n) f h k = k a n
spared-then (refused r) f h k = h

head-spared : (file : List ℕ) → Spared (card_head file)
head-spared file =
    spared-past (bad_length file) WrongByte _ 1 (λ x. refl) (λ h. omega arith)
    (spared-past (wrong_marks file (counts_at file)) WrongMark _ 18 (λ x. refl) (λ h. omega arith)
    (spared-past (over (counts_placed (counts_at file))) LargeCount _ 2 (λ x. refl) (λ h. omega arith)
    (spared-past (failing (adds binary (counts_at file))) WrongSum _ 3 (λ x. refl) (λ h. omega arith) tt)))

-- no cards are refused by 6, 7 or 8
pub cards-apart : (file lengths : List ℕ) (r : Refusal) → read_cards file lengths ≡ refused r → Apart r
cards-apart file lengths r q = subst Spared q whole
  where
    rest : (n : Counts) (at : ℕ) → Spared (past (least_short (against 1 (words_to_work n) lengths)) ShortTable then λ _ _.
        past (outside_in (carded file n)) OutOfRange then λ _ _. past (failing (binary_order (carded file n))) NotInOrder then λ _ _.
        got (carded file n) at)
    rest n at =
        spared-past (least_short (against 1 (words_to_work n) lengths)) ShortTable _ 4 (λ x. refl) (λ h. omega arith)
        (spared-past (outside_in (carded file n)) OutOfRange _ 5 (λ x. refl) (λ h. omega arith)
        (spared-past (failing (binary_order (carded file n))) NotInOrder _ 15 (λ x. refl) (λ h. omega arith) tt))

    whole : Spared (read_cards file lengths)
    whole = spared-then (card_head file) _ (head-spared file) (λ n at. rest n _)

-- and the circuit of accepted cards would not be
pub cards-spared : (file lengths : List ℕ) → Bytes file → (c : Circuit) (start : ℕ) → read_cards file lengths ≡ got c start
    → (twice_in c ≡ None) × (undefined_in c ≡ None) × (cyclic_in c ≡ None)
cards-spared file lengths bytes c start q =
    let s = cards-state file lengths c start q bytes in
    let w = s.formed in
    no-six-to-eight c s.order w.latches w.outputs w.bads w.constraints
