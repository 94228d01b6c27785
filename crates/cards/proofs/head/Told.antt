-- The head's checks as answers: each stage alone, the length, the places of counts.
use Prim.Native.Nat.{ℕ, ◌-◌, ◌*◌, ◌<◌, ◌≤◌}
use mathlib.Core.Path.{◌≡◌, refl, sym, ap, ◌∙◌}
use mathlib.Core.Bool.{Bool, true, false, cond}
use mathlib.Core.List.{List}
use Rattle.std.specs.Prelude.{Ok, Err, Option, Some, None}
use native.Mathlib.Omega.{arith}
use borrow.Author.Tests.{lt-ltb, le-ltb}
use lib.Dec.{leb}
use lib.ListN.{length}
use Rattle.plan.specs.declared.Counts.{Counts}
use Rattle.plan.specs.declared.Refusal.{Refusal}
use Rattle.plan.specs.declared.Refusal.TheVariants.{WrongByte, LargeCount, WrongMark}
use Rattle.plan.specs.Literals.{most}
use Rattle.plan.specs.Refusals.{stage}
use Rattle.plan.specs.Header.{list_of, over}
use Rattle.plan.specs.Given.{counted}
use Rattle.plan.specs.Outcome.{checked_by}
use Rattle.plan.specs.Cards.{counts_at, counts_placed, card_bytes, wrong_length, bad_length, wrong_marks, card_head}
use Rattle.cards.proofs.Laws.Passing.{past-none, past-some}
use Rattle.cards.specs.head.Head.{headed_cards}

-- one stage, as an answer
module _ (r : ℕ → Refusal) where
  pub found : (o : Option ℕ) (place : ℕ) → o ≡ Some place → Err (r place) ≡ checked_by (stage r o)
  found o place e = sym (ap (λ (x : Option ℕ). checked_by (stage r x)) e)

  pub nothing : (o : Option ℕ) → o ≡ None → Ok tt ≡ checked_by (stage r o)
  nothing o e = sym (ap (λ (x : Option ℕ). checked_by (stage r x)) e)

  pub was-nothing : (o : Option ℕ) → checked_by (stage r o) ≡ Ok tt → o ≡ None
  was-nothing None e = refl
  was-nothing (Some place) e = let z : ◌≡◌ {A = ℕ} 0 1 = cc in absurd (omega arith)

-- 1, by the length and the counts as read
module _ (file : List ℕ) where
  pub too_small : length file < 22 → bad_length file ≡ Some (length file)
  too_small h = rw (lt-ltb (length file) 22 h)

  module _ (asked : ℕ) (a-is : asked ≡ card_bytes (counts_at file)) (h : 22 ≤ length file) where
    by-asked : bad_length file ≡ wrong_length asked (length file)
    by-asked = rw (le-ltb (length file) 22 h) (ap (λ (x : ℕ). wrong_length x (length file)) (sym a-is))

    pub ends-early : length file < asked → bad_length file ≡ Some (length file)
    ends-early k = by-asked ∙ rw (lt-ltb (length file) asked k)

    pub goes_on_lem : asked ≤ length file → asked < length file → bad_length file ≡ Some asked
    goes_on_lem j k = by-asked ∙ rw (le-ltb (length file) asked j, lt-ltb asked (length file) k)

    pub ends-right : asked ≤ length file → length file ≤ asked → bad_length file ≡ None
    ends-right j k = by-asked ∙ rw (le-ltb (length file) asked j, le-ltb asked (length file) k)

-- 2: the place of the first count over the limit is its first byte
placed_by : (k : ℕ) (a b c d e : Bool)
    → cond a (cond b (cond c (cond d (cond e None (Some 5)) (Some 4)) (Some 3)) (Some 2)) (Some 1) ≡ Some k
    → (cond a (cond b (cond c (cond d (cond e None (Some 18)) (Some 14)) (Some 10)) (Some 6)) (Some 2) ≡ Some (4 * k - 2)) × (1 ≤ k) × (k ≤ 5)
placed_by k true true true true true q = let z : ◌≡◌ {A = ℕ} 0 1 = cc in absurd (omega arith)
placed_by k true true true true false q = let e : 5 ≡ k = cc in let p : 18 ≡ 4 * k - 2 = omega arith in (ap Some p, omega arith, omega arith)
placed_by k true true true false e q = let e : 4 ≡ k = cc in let p : 14 ≡ 4 * k - 2 = omega arith in (ap Some p, omega arith, omega arith)
placed_by k true true false d e q = let e : 3 ≡ k = cc in let p : 10 ≡ 4 * k - 2 = omega arith in (ap Some p, omega arith, omega arith)
placed_by k true false c d e q = let e : 2 ≡ k = cc in let p : 6 ≡ 4 * k - 2 = omega arith in (ap Some p, omega arith, omega arith)
placed_by k false b c d e q = let e : 1 ≡ k = cc in let p : 2 ≡ 4 * k - 2 = omega arith in (ap Some p, omega arith, omega arith)

module _ (file : List ℕ) where
  abbrev n : Counts
  n = counts_at file

  pub large-placed : (k : ℕ) → over (counted 1 (list_of n)) ≡ Some k
      → (over (counts_placed n) ≡ Some (4 * k - 2)) × (1 ≤ k) × (k ≤ 5)
  large-placed k q = placed_by k (leb n.M most) (leb n.I most) (leb n.L most) (leb n.O most) (leb n.A most) q

  -- 2, where 1 and 18 find nothing
  pub head-2 : bad_length file ≡ None → wrong_marks file n ≡ None → (place : ℕ) → over (counts_placed n) ≡ Some place
      → Err (LargeCount place) ≡ headed_cards (card_head file)
  head-2 e1 e18 place e =
      let whole = past-none WrongByte _ (bad_length file) e1
      ∙ (past-none WrongMark _ (wrong_marks file n) e18 ∙ past-some LargeCount _ (over (counts_placed n)) place e) in
      sym (ap headed_cards whole)
