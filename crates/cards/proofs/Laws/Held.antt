-- What a binary file of 2007 states, cards can hold: its latches start as 0, and it has no bad states and no constraints.
use Prim.Native.Nat.{ℕ, zero, suc, ◌+◌, ◌-◌, ◌≤◌}
use mathlib.Core.Path.{◌≡◌, refl, sym, ap, ◌∙◌}
use mathlib.Core.Bool.{true, ◌&&◌, false≢true}
use mathlib.Core.List.{List, [], ◌∷◌, ◌++◌, map}
use native.Mathlib.Omega.{arith}
use borrow.Author.Tests.{eq-eqb}
use lib.Dec.{eqb}
use lib.ListN.{length, get_or, replicate}
use Rattle.plan.specs.declared.Version.TheVariants.{V2007}
use Rattle.plan.specs.Circuit.{Circuit, Latch, one_line, nexts, resets_ok, counts_of}
use Rattle.plan.specs.Literals.{is_reset}
use Rattle.plan.specs.Bytes.{with_resets, Spells, AllSpell}
use Rattle.plan.specs.Header.{text, binary, form_in, all_counts}
use Rattle.plan.specs.Reading.{States, as_text, as_binary}
use Rattle.plan.specs.Cards.{all_zero, holdable}
use Rattle.laws.proofs.Reading.Common.{and_right, and_intro}

-- a number that is left off is 0
past-zero : (row : List ℕ) (j i : ℕ) → length row ≤ i → get_or (row ++ replicate j 0) i 0 ≡ 0
past-zero [] zero i h = refl
past-zero [] (suc j) zero h = refl
past-zero [] (suc j) (suc i) h = past-zero [] j i (omega arith)
past-zero (x ∷ row) j zero h = absurd (omega arith)
past-zero (x ∷ row) j (suc i) h = past-zero row j i (omega arith)

left-off : (k i : ℕ) (full row : List ℕ) → Spells k (k + 0) full row → k ≤ i → get_or full i 0 ≡ 0
left-off k i full row s h =
    ap (λ (l : List ℕ). get_or l i 0) (sym s.2) ∙ past-zero row (length full - length row) i (omega (arith, s.1))

-- the resets of latches whose lines have none are 0
resets-zero : (ls : List Latch) (rs : List ℕ) (rows : List (List ℕ)) → resets_ok ls rs ≡ true
    → AllSpell 1 (1 + 0) (with_resets (map one_line (nexts ls)) rs) rows → all_zero rs ≡ true
resets-zero [] [] rows ok s = refl
resets-zero [] (r ∷ rs) rows ok s = absurd (false≢true ok)
resets-zero (l ∷ ls) [] rows ok s = absurd (false≢true ok)
resets-zero (l ∷ ls) (r ∷ rs) [] ok s = absurd s
resets-zero (l ∷ ls) (r ∷ rs) (row ∷ rows) ok s =
    let zero-here : r ≡ 0 = left-off 1 1 (l.next ∷ r ∷ []) row s.0 (omega arith) in
    and_intro (eqb r 0) (all_zero rs) (eq-eqb r 0 zero-here)
    (resets-zero ls rs rows (and_right (is_reset l.current r) (resets_ok ls rs) ok) s.1)

-- so cards can hold what a binary file of 2007 states
pub stated-2007-holdable : (file : List ℕ) (c : Circuit) (tail : List ℕ) → States V2007 file c tail → form_in file ≡ binary → holdable c ≡ true
stated-2007-holdable file c tail (as_text s e w t) f =
    let h : text ≡ binary = sym (ap form_in e) ∙ f in let z : ◌≡◌ {A = ℕ} 0 1 = cc in absurd (omega arith)
stated-2007-holdable file c tail (as_binary s e o w t) f =
    let full = all_counts (counts_of c) in
    let no-bads : length c.bads ≡ 0 = left-off 5 5 full s.counts s.all-counts (omega arith) in
    let no-constraints : length c.constraints ≡ 0 = left-off 5 6 full s.counts s.all-counts (omega arith) in
    and_intro (all_zero c.resets) (eqb (length c.bads) 0 && eqb (length c.constraints) 0)
    (resets-zero c.latches c.resets s.latches w.resets s.all-latches)
    (and_intro (eqb (length c.bads) 0) (eqb (length c.constraints) 0) (eq-eqb _ _ no-bads) (eq-eqb _ _ no-constraints))
