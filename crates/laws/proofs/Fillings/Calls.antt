-- The laws over whole calls, refusals too: what a yes says, a larger allowance, and the yes of the question in three values.
use Prim.Native.Nat.{ℕ, ◌*◌, ◌≤◌}
use mathlib.Core.Path.{◌≡◌, refl, sym, ap, ap₂, ◌∙◌}
use mathlib.Core.Bool.{Bool, true, false, ◌&&◌}
use mathlib.Core.List.{List, [], ◌∷◌, ◌++◌, map}
use Rattle.std.specs.Prelude.{Ok, Err, Option, Some, None}
use native.Mathlib.Omega.{arith}
use borrow.Author.Tests.{le-leb, lt-leb, eqb-true}
use lib.Dec.{eqb}
use lib.ListN.{length, length-map}
use Rattle.plan.specs.declared.Counts.{Counts}
use Rattle.plan.specs.declared.Refusal.{Refusal}
use Rattle.plan.specs.declared.Refusal.TheVariants.{BadVector, ManyX}
use Rattle.plan.specs.declared.Finding.{Finding}
use Rattle.plan.specs.declared.Finding.TheVariants.{Yes, No}
use Rattle.plan.specs.Refusals.{stage, first_of}
use Rattle.plan.specs.Circuit.{Circuit}
use Rattle.plan.specs.Given.{given_circuit, lent_alone, failing_at, stages, order_stage}
use Rattle.plan.specs.Step.{value_of, code_of, first_state, run, vectors_of, witnessed}
use Rattle.plan.specs.Outcome.{all_codes, WitnessEntry, list_stage, verdict_by, witness3}
use Rattle.plan.specs.Fillings.{x_count, Fills, start_of, asked, total_of, question, FilledEntry, x_stage, finding_by, witness}
use Rattle.laws.proofs.Reading.Common.{and_left, and_right}
use Rattle.laws.proofs.Running.Resets.{first-length}
use Rattle.laws.proofs.Running.TwoValued.{RunNoX, run-nox}
use Rattle.laws.proofs.Writing.Nothing.{AllNone, stage-none, at_none, first-all, first-both}
use Rattle.laws.proofs.Writing.Fine.{Fine, nothing-fine, counts-given}
use Rattle.laws.proofs.Writing.Stepping.{all_codes_lem}
use Rattle.laws.proofs.Writing.KeptBytes.{sized_rows, no-x-rows}
use Rattle.laws.proofs.Fillings.Question.{fills-length, fills-two-valued, EveryShows, yes-every, every-yes, old-yes, larger-yes, larger-no}

-- an answer but a refusal is the question's
yes-only : (o : Option Refusal) (f : Finding) (t : ℕ) → finding_by o f ≡ Ok (Yes t) → (o ≡ None) × (f ≡ Yes t)
yes-only None f t e = (refl, cc)
yes-only (Some r) f t e = let z : ◌≡◌ {A = ℕ} 0 1 = cc in absurd (omega arith)

no-only : (o : Option Refusal) (f : Finding) (t : ℕ) → finding_by o f ≡ Ok (No t) → (o ≡ None) × (f ≡ No t)
no-only None f t e = (refl, cc)
no-only (Some r) f t e = let z : ◌≡◌ {A = ℕ} 0 1 = cc in absurd (omega arith)

answer-none : (o : Option Refusal) (f : Finding) → ((r : Refusal) → ¬ (finding_by o f ≡ Err r)) → o ≡ None
answer-none None f h = refl
answer-none (Some r) f h = absurd (h r refl)

-- the yes in three values: nothing was refused, and a 1 was seen
old-says : (o : Option Refusal) (b : Bool) → verdict_by o b ≡ Ok true → (o ≡ None) × (b ≡ true)
old-says None true e = (refl, refl)
old-says None false e = let z : ◌≡◌ {A = ℕ} 0 1 = cc in absurd (omega arith)
old-says (Some r) b e = let z : ◌≡◌ {A = ℕ} 0 1 = cc in absurd (omega arith)

-- a last stage that finds nothing
last_none : (os : List (Option Refusal)) (o l : Option Refusal) → first_of (os ++ (o ∷ l ∷ None ∷ [])) ≡ first_of (os ++ (o ∷ l ∷ []))
last_none [] None None = refl
last_none [] None (Some r) = refl
last_none [] (Some r) l = refl
last_none (None ∷ os) o l = last_none os o l
last_none (Some r ∷ os) o l = refl

module _ (w : WitnessEntry) where
  abbrev c : Circuit
  c = given_circuit w.circuit

  abbrev count : ℕ
  count = x_count (asked (given_circuit w.circuit) w.bytes)

  -- 20 is given exactly where there are more x
  pub x-few : count ≤ 20 → x_stage w ≡ None
  x-few h = ap (λ (b : Bool). stage ManyX (failing_at count b)) (le-leb count 20 h)

  pub x-many : 21 ≤ count → x_stage w ≡ Some (ManyX count)
  x-many h = ap (λ (b : Bool). stage ManyX (failing_at count b)) (lt-leb count 20 h)

  -- the question with an allowance
  abbrev pub allowing : ℕ → FilledEntry
  allowing a = record { list = w; allowance = a }

  abbrev os : List (Option Refusal)
  os = stages w.circuit (lent_alone w.circuit)

  abbrev refusal : Option Refusal
  refusal = first_of (os ++ (order_stage w.circuit ∷ list_stage w ∷ x_stage w ∷ []))

  abbrev found : ℕ → Finding
  found a = question c w.number w.bytes a

  -- a yes says that every start and list that fill the given ones show a 1
  pub call-yes-every : (a t : ℕ) → (witness (allowing a)).answer ≡ Ok (Yes t) → EveryShows c w.number w.bytes
  call-yes-every a t e = yes-every c w.number w.bytes a t (yes-only refusal (found a) t e).1

  pub call-every-yes : (a : ℕ) → refusal ≡ None → total_of c w.bytes ≤ a → EveryShows c w.number w.bytes
      → (witness (allowing a)).answer ≡ Ok (Yes (total_of c w.bytes))
  call-every-yes a o h every = ap₂ finding_by o (every-yes c w.number w.bytes a h every)

  -- an answer: nothing was refused, and each start and list that fill the given ones run without x at every step
  module _ (a : ℕ) (answered : (r : Refusal) → ¬ ((witness (allowing a)).answer ≡ Err r)) where
    nothing : refusal ≡ None
    nothing = answer-none refusal (found a) answered

    fine : Fine w.circuit (lent_alone w.circuit)
    fine = nothing-fine w.circuit (lent_alone w.circuit) (first-both os (order_stage w.circuit ∷ list_stage w ∷ x_stage w ∷ []) nothing).0

    list-good : (length w.bytes ≡ w.number * w.circuit.counts.I) × (all_codes w.bytes ≡ true)
    list-good =
        let more : List (Option Refusal) = order_stage w.circuit ∷ list_stage w ∷ x_stage w ∷ [] in
        let rest : AllNone more = first-all more (first-both os more nothing).1 in
        let size = eqb (length w.bytes) (w.number * w.circuit.counts.I) in
        let both = at_none 2 (size && all_codes w.bytes) (stage-none BadVector _ rest.1.0) in
        (eqb-true _ _ (and_left size (all_codes w.bytes) both), and_right size (all_codes w.bytes) both)

    pub filled-run-two-valued : (start list : List ℕ) → Fills (start_of c) start → Fills w.bytes list
        → RunNoX (run c (map value_of start) (vectors_of c w.number list))
    filled-run-two-valued start list f g =
        let i = length c.inputs in
        let counts = counts-given w.circuit fine.room in
        let long : length list ≡ w.number * i
        = fills-length w.bytes list g ∙ (list-good.0 ∙ ap (λ (n : Counts). w.number * n.I) (sym counts)) in
        run-nox c fine.formed (vectors_of c w.number list) (sized_rows i w.number list long)
        (no-x-rows i w.number list (fills-two-valued w.bytes list list-good.1 g)) (map value_of start)
        (length-map start value_of ∙ (fills-length (start_of c) start f ∙ (length-map (first_state c) code_of ∙ first-length c fine.formed)))
        (fills-two-valued (start_of c) start (all_codes_lem (first_state c)) f)

  -- a larger allowance changes neither a yes nor a no
  pub more-allowed-yes : (a b t : ℕ) → a ≤ b → (witness (allowing a)).answer ≡ Ok (Yes t) → (witness (allowing b)).answer ≡ Ok (Yes t)
  more-allowed-yes a b t h e =
      let p = yes-only refusal (found a) t e in
      ap₂ finding_by p.0 (larger-yes c w.number w.bytes a b t h p.1)

  pub more-allowed-no : (a b t : ℕ) → a ≤ b → (witness (allowing a)).answer ≡ Ok (No t) → (witness (allowing b)).answer ≡ Ok (No t)
  more-allowed-no a b t h e =
      let p = no-only refusal (found a) t e in
      ap₂ finding_by p.0 (larger-no c w.number w.bytes a b t h p.1)

  -- with at most 20 x and allowance for all, every yes in three values is a yes
  pub old-yes-new : (a : ℕ) → count ≤ 20 → total_of c w.bytes ≤ a → (witness3 w).answer ≡ Ok true
      → (witness (allowing a)).answer ≡ Ok (Yes (total_of c w.bytes))
  old-yes-new a few h e =
      let p = old-says (first_of (os ++ (order_stage w.circuit ∷ list_stage w ∷ []))) (witnessed c w.number w.bytes) e in
      ap₂ finding_by
      (ap (λ (o : Option Refusal). first_of (os ++ (order_stage w.circuit ∷ list_stage w ∷ o ∷ []))) (x-few few)
      ∙ (last_none os (order_stage w.circuit) (list_stage w) ∙ p.0))
      (old-yes c w.number w.bytes a h p.1)
