-- From the head's answer, 4 and the judged tables to the reader's answer.
use Prim.Native.Nat.{ℕ, zero, suc, ◌+◌, ◌≤◌}
use mathlib.Core.Path.{◌≡◌, refl, sym, ap, ap₂, ◌∙◌, subst}
use mathlib.Core.List.{List, [], ◌∷◌, ◌++◌}
use Rattle.std.specs.Prelude.{Ok, Err, Option, Some, None}
use native.Mathlib.Nat.{zero-add}
use native.Mathlib.Omega.{arith}
use borrow.Author.Tests.{eqb-true}
use lib.ListN.{length, drop, replicate, length-replicate}
use Rattle.plan.specs.declared.Counts.{Counts}
use Rattle.plan.specs.declared.Refusal.{Refusal}
use Rattle.plan.specs.declared.Refusal.TheVariants.{ShortTable, OutOfRange, NotInOrder}
use Rattle.plan.specs.Literals.{most}
use Rattle.plan.specs.Refusals.{Parse, got, refused, ◌then◌, stage, first_of}
use Rattle.plan.specs.Circuit.{Circuit, Tables, seven, counts_of, circuit_of, words_to_work, against, least_short, cleared}
use Rattle.plan.specs.Binary.{binary_order}
use Rattle.plan.specs.Given.{failing, outside_in}
use Rattle.plan.specs.Outcome.{put, checked_by}
use Rattle.laws.proofs.Held.{Holds, holds-circuit}
use Rattle.laws.proofs.Pairs.{ok-pair}
use Rattle.laws.proofs.Put.{put-none, put_same}
use Rattle.laws.proofs.Reading.Short.{short_none}
use Rattle.tables.specs.Held.{Fits}
use Rattle.tables.specs.Lengths.{lengths_in, sizes_of}
use Rattle.read.specs.body.Rest.{LoadedSays}
use Rattle.plan.specs.Cards.{counts_at, card_bytes, carded, past, card_head, read_cards}
use Rattle.cards.proofs.Laws.Exactly.{head-accepted, made-counts}
use Rattle.cards.proofs.Laws.Passing.{past-none, past-some}
use Rattle.cards.specs.head.Head.{headed_cards}
use Rattle.cards.specs.fill.Filled.{Ready, FirstHold, judged_by}

-- what an answer says of the head
pub head-got : (p : Parse Counts) (n : Counts) (at : ℕ) → Ok (n, at) ≡ headed_cards p → p ≡ got n at
head-got (got m k) n at e = let same = ok-pair n m at k e in ap₂ got (sym same.0) (sym same.1)
head-got (refused r) n at e = let z : ◌≡◌ {A = ℕ} 0 1 = cc in absurd (omega arith)

pub head-refused : (p : Parse Counts) (r : Refusal) → Err r ≡ headed_cards p → p ≡ refused r
head-refused (got m k) r e = let z : ◌≡◌ {A = ℕ} 0 1 = cc in absurd (omega arith)
head-refused (refused q) r e = let q-is : q ≡ r = cc in ap refused q-is

-- zeros put into zeros
zeros-split : (n k : ℕ) → n ≤ k → replicate k zero ≡ replicate n zero ++ drop n (replicate k zero)
zeros-split zero k h = refl
zeros-split (suc n) zero h = absurd (omega arith)
zeros-split (suc n) (suc k) h = ap (λ (l : List ℕ). zero ∷ l) (zeros-split n k (omega arith))

zeros-put : (table : List ℕ) (n : ℕ) → table ≡ cleared table → n ≤ length table → table ≡ put table 0 (replicate n 0)
zeros-put table n blank h =
    let size : length (replicate n zero) ≡ n = length-replicate {A = ℕ} n 0 in
    let split : table ≡ replicate n 0 ++ drop (0 + length (replicate n zero)) table
    = blank ∙ (zeros-split n (length table) h
    ∙ ap₂ (λ (k : ℕ) (t : List ℕ). replicate n 0 ++ drop k t) (sym size ∙ sym (zero-add (length (replicate n zero)))) (sym blank)) in
    sym (put_same table 0 (replicate n 0) split)

-- 5, then 15
judged-refused : (r : Refusal) (f : ℕ → ℕ → Parse Circuit) (o p : Option ℕ)
    → Err r ≡ checked_by (first_of (stage OutOfRange o ∷ stage NotInOrder p ∷ []))
    → (past o OutOfRange then λ _ _. past p NotInOrder then f) ≡ refused r
judged-refused r f None None e = let z : ◌≡◌ {A = ℕ} 0 1 = cc in absurd (omega arith)
judged-refused r f None (Some x) e = let r-is : NotInOrder x ≡ r = cc in ap refused r-is
judged-refused r f (Some x) p e = let r-is : OutOfRange x ≡ r = cc in ap refused r-is

judged-good : (f : ℕ → ℕ → Parse Circuit) (o p : Option ℕ)
    → Ok tt ≡ checked_by (first_of (stage OutOfRange o ∷ stage NotInOrder p ∷ []))
    → (past o OutOfRange then λ _ _. past p NotInOrder then f) ≡ f 0 0
judged-good f None None e = refl
judged-good f None (Some x) e = let z : ◌≡◌ {A = ℕ} 0 1 = cc in absurd (omega arith)
judged-good f (Some x) p e = let z : ◌≡◌ {A = ℕ} 0 1 = cc in absurd (omega arith)

module _ (file : List ℕ) (t : Tables) (words : ℕ) where
  abbrev lens : List ℕ
  lens = lengths_in (sizes_of t) words

  told : (t' : Tables) (r : Refusal) → read_cards file (lengths_in (sizes_of t) words) ≡ refused r
      → LoadedSays t (read_cards file (lengths_in (sizes_of t) words)) (Err r) t'
  told t' r e = subst (λ (q : Parse Circuit). LoadedSays t q (Err r) t') (sym e) refl

  pub take_head : (t' : Tables) (r : Refusal) → card_head file ≡ refused r → LoadedSays t (read_cards file (lengths_in (sizes_of t) words)) (Err r) t'
  take_head t' r e = told t' r (rw e)

  module _ (n : Counts) (at : ℕ) (head : card_head file ≡ got n at) where
    n-is : n ≡ counts_at file
    n-is = (head-accepted file n at head).4

    pub small : (n.M ≤ most) × (n.L ≤ most) × (n.O ≤ most) × (n.A ≤ most) × (n.I + n.L + n.A ≡ n.M) × (length file ≡ card_bytes n)
        × (n.B ≡ 0) × (n.C ≡ 0)
    small =
        let h = head-accepted file n at head in
        subst (λ (m : Counts). (m.M ≤ most) × (m.L ≤ most) × (m.O ≤ most) × (m.A ≤ most) × (m.I + m.L + m.A ≡ m.M) × (length file ≡ card_bytes m)
        × (m.B ≡ 0) × (m.C ≡ 0))
        (sym n-is)
        (h.2.0, h.2.1.1.0, h.2.1.1.1.0, h.2.1.1.1.1.0, eqb-true _ _ h.3, h.0, refl, refl)

    pub take_short : (t' : Tables) (k : ℕ) → least_short (against 1 (words_to_work n) (lengths_in (sizes_of t) words)) ≡ Some k
        → LoadedSays t (read_cards file (lengths_in (sizes_of t) words)) (Err (ShortTable k)) t'
    take_short t' k s = told t' (ShortTable k) (rw head (past-some ShortTable _ (least_short (against 1 (words_to_work n) lens)) k s))

    module _ (s : least_short (against 1 (words_to_work n) (lengths_in (sizes_of t) words)) ≡ None) where
      pub ready : Ready file n t.inputs t.latches t.outputs t.gates
      ready =
          let l = (short_none (against 1 (words_to_work n) lens)).0 s in
          record {
            size = small.5;
            most-M = small.0;
            most-O = small.2;
            sum = small.4;
            inputs_long = l.0;
            latches-long = l.1.0;
            outputs-long = l.1.1.0;
            gates-long = l.1.1.1.0;
          }

      pub fits : (inputs latches outputs gates : List ℕ) → length inputs ≡ length t.inputs → length latches ≡ length t.latches
          → length outputs ≡ length t.outputs → length gates ≡ length t.gates
          → Fits n inputs latches outputs gates t.resets t.bads t.constraints
      fits inputs latches outputs gates i l o g =
          let k = (short_none (against 1 (words_to_work n) lens)).0 s in
          record {
            most-M = small.0;
            most-O = small.2;
            most-B = omega (arith, small.6);
            most-C = omega (arith, small.7);
            sum = omega (arith, small.4);
            inputs_long = omega (arith, k.0, i);
            latches-long = omega (arith, k.1.0, l);
            outputs-long = omega (arith, k.1.1.0, o);
            gates-long = omega (arith, k.1.1.1.0, g);
            resets-long = k.1.1.1.1.1.1.0;
            bads-long = omega (arith, small.6);
            constraints-long = omega (arith, small.7);
          }

      module _ (blank : t.resets ≡ cleared t.resets) (inputs latches outputs gates : List ℕ)
          (h : FirstHold t.inputs t.latches t.outputs t.gates (carded file n) inputs latches outputs gates) where
        abbrev after : Tables
        after = seven inputs latches outputs gates t.resets t.bads t.constraints

        holds : Holds t (carded file n) after
        holds =
            let l = (short_none (against 1 (words_to_work n) lens)).0 s in
            record {
              inputs = h.inputs-held;
              latches = h.latches-held;
              outputs = h.outputs-held;
              gates = h.gates-held;
              resets = zeros-put t.resets n.L blank l.1.1.1.1.1.1.0;
              bads = sym (put-none t.bads 0);
              constraints = sym (put-none t.constraints 0);
            }

        counts-are : counts_of (carded file n) ≡ n
        counts-are = ap (λ (m : Counts). counts_of (carded file m)) n-is ∙ (made-counts file ∙ sym n-is)

        circuit-is : circuit_of n after ≡ carded file n
        circuit-is =
            holds-circuit n t after (carded file n)
            (length-replicate {A = ℕ} n.L 0 ∙ sym (ap (λ (m : Counts). m.L) counts-are)) holds counts-are

        past-four : (r : Parse Circuit)
            → (past (outside_in (carded file n)) OutOfRange then λ _ _. past (failing (binary_order (carded file n))) NotInOrder then λ _ _.
            got (carded file n) (length file)) ≡ r
            → read_cards file (lengths_in (sizes_of t) words) ≡ r
        past-four r e = rw head (past-none ShortTable _ (least_short (against 1 (words_to_work n) lens)) s ∙ e)

        pub take-judged : (r : Refusal)
            → Err r ≡ checked_by (first_of (judged_by (circuit_of n (seven inputs latches outputs gates t.resets t.bads t.constraints))))
            → LoadedSays t (read_cards file (lengths_in (sizes_of t) words)) (Err r)
            (seven inputs latches outputs gates t.resets t.bads t.constraints)
        take-judged r e =
            told after r (past-four (refused r)
            (judged-refused r _ (outside_in (carded file n)) (failing (binary_order (carded file n)))
            (e ∙ ap (λ (c : Circuit). checked_by (first_of (judged_by c))) circuit-is)))

        pub take-good : Ok tt
            ≡ checked_by (first_of (judged_by (circuit_of n (seven inputs latches outputs gates t.resets t.bads t.constraints))))
            → LoadedSays t (read_cards file (lengths_in (sizes_of t) words)) (Ok (n, length file))
            (seven inputs latches outputs gates t.resets t.bads t.constraints)
        take-good e =
            let whole : read_cards file (lengths_in (sizes_of t) words) ≡ got (carded file n) (length file)
            = past-four (got (carded file n) (length file))
            (judged-good _ (outside_in (carded file n)) (failing (binary_order (carded file n)))
            (e ∙ ap (λ (c : Circuit). checked_by (first_of (judged_by c))) circuit-is)) in
            subst (λ (q : Parse Circuit). LoadedSays t q (Ok (n, length file)) after) (sym whole)
            (ap (λ (m : Counts). Ok (m, length file)) (sym counts-are), holds)
