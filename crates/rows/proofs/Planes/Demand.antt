-- Demand 3 of each lane: rows of a well-formed circuit beside those of the converted and reduced one, both from the resets.
use mathlib.Core.Path.{◌≡◌, refl, sym, ap, ap₂, ◌∙◌}
use mathlib.Core.List.{List, [], ◌∷◌, map}
use lib.ListN.{length, get_or}
use Rattle.plan.specs.declared.Counts.{Counts}
use Rattle.plan.specs.Circuit.{Circuit}
use Rattle.plan.specs.Reading.{WellFormed}
use Rattle.plan.specs.Convert.{convert}
use Rattle.plan.specs.Reduce.{reduce}
use Rattle.plan.specs.Step.{Value, Step, step_of, first_state}
use Rattle.plan.specs.Drop.{drop_unused}
use Rattle.laws.proofs.Running.Monotone.{Replaced, Kept}
use Rattle.laws.proofs.Running.Runs.{Sized}
use Rattle.laws.proofs.Running.WithoutX.{NoX, NoXs}
use Rattle.laws.proofs.Running.Counts.{counts-convert, counts-reduce}
use Rattle.laws.proofs.Running.Resets.{first-length}
use Rattle.laws.proofs.Running.Results.{convert-well-formed, convert-in-order, reduce-well-formed, reduce-in-order}
use Rattle.laws.proofs.Running.DemandThree.{demand-three}
use Rattle.laws.proofs.Walks.Dropped.{drop-step}

-- a row is a list of one vector
abbrev pub rows_from : Circuit → List (List Value) → List Step
rows_from c is = map (step_of c (first_state c)) is

module _ (c : Circuit) (w : WellFormed c) where
  abbrev after : Circuit
  after = reduce (convert c)

  -- with x in the rows replaced in any way, in each row each output, bad state, constraint and next state that was 0 or 1 is the same
  pub rows-kept : (is js : List (List Value)) → Sized (length c.inputs) is → Replaced is js → Kept (rows_from c is) (rows_from after js)
  rows-kept [] [] z r = tt
  rows-kept [] (j ∷ js) z r = absurd r
  rows-kept (i ∷ is) [] z r = absurd r
  rows-kept (i ∷ is) (j ∷ js) z r =
      let k = (demand-three c w (i ∷ []) (j ∷ []) (z.0, tt) (r.0, tt)).0 in
      (k.0, k.1, k.2, k.3, k.4, rows-kept is js z.1 r.1)

  -- without x every row is the same
  pub rows_same : NoX (first_state c) → (is js : List (List Value)) → Sized (length c.inputs) is → Replaced is js → NoXs is
      → rows_from c is ≡ rows_from after js
  rows_same f [] [] z r x = refl
  rows_same f [] (j ∷ js) z r x = absurd r
  rows_same f (i ∷ is) [] z r x = absurd r
  rows_same f (i ∷ is) (j ∷ js) z r x =
      let e = (demand-three c w (i ∷ []) (j ∷ []) (z.0, tt) (r.0, tt)).1 (x.0, tt) f in
      ap₂ (λ (s : Step) (t : List Step). s ∷ t) (ap (λ (l : List Step). get_or l 0 (step_of c (first_state c) i)) e)
      (rows_same f is js z.1 r.1 x.1)

  -- without its unused gates too: dropping changes no row
  pub rows_dropped : (js : List (List Value)) → Sized (length c.inputs) js → rows_from after js ≡ rows_from (drop_unused (reduce (convert c))) js
  rows_dropped [] z = refl
  rows_dropped (j ∷ js) z =
      let w' = convert-well-formed c w in
      let o' = convert-in-order c w in
      let formed = reduce-well-formed (convert c) w' o' in
      let inputs : length after.inputs ≡ length c.inputs
      = ap (λ (n : Counts). n.I) (counts-reduce (convert c)) ∙ ap (λ (n : Counts). n.I) (counts-convert c w) in
      ap₂ (λ (s : Step) (t : List Step). s ∷ t)
      (sym (drop-step after formed (reduce-in-order (convert c) w' o') (first_state after) j (first-length after formed) (z.0 ∙ sym inputs)))
      (rows_dropped js z.1)
