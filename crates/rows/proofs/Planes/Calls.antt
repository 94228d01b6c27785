-- Demand 3 of each lane, over the calls: a file that was read, converted and reduced, with its unused gates dropped or not, and a step of rows of
-- what was left.
use mathlib.Core.Path.{◌≡◌, refl, sym, ap, ◌∙◌, subst}
use mathlib.Core.List.{List, [], ◌∷◌}
use lib.ListN.{length}
use Rattle.std.specs.Prelude.{Ok, Option}
use Rattle.plan.specs.declared.Refusal.{Refusal}
use Rattle.plan.specs.Refusals.{first_of}
use Rattle.plan.specs.Circuit.{Circuit}
use Rattle.plan.specs.Given.{given_circuit, in_order_then}
use Rattle.plan.specs.Convert.{convert}
use Rattle.plan.specs.Reduce.{reduce}
use Rattle.plan.specs.Step.{Value, Step, first_state, vectors_of}
use Rattle.plan.specs.Outcome.{conversion, reduction}
use Rattle.plan.specs.Drop.{drop_unused, dropping}
use Rattle.plan.specs.Rows.{output_bytes, next_bytes, row_steps, RowsEntry, RowsExit, row_stage, stepped_rows, step_rows}
use Rattle.laws.proofs.Running.Monotone.{Replaced, Kept}
use Rattle.laws.proofs.Running.Runs.{Sized, replaced-sized}
use Rattle.laws.proofs.Running.WithoutX.{NoX, NoXs}
use Rattle.laws.proofs.Writing.Nothing.{stepped-none}
use Rattle.laws.proofs.Writing.Calls.{ReadCall, MakeCall, read_circuit, made_circuit, FromRead, FromMade, from-read, from-made, read-formed, converted-is, reduced-is}
use Rattle.laws.proofs.Walks.Later.{dropped-is}
use Rattle.rows.proofs.Planes.Demand.{rows_from, rows-kept, rows_same, rows_dropped}

-- rows of a circuit that a step of rows was handed, beside rows of the circuit that was read: in each row each output, bad state, constraint and next
-- state that was 0 or 1 is the same, and the bytes of the call are those of the rows; without x every row is the same
abbrev pub RowsKept : Circuit → RowsEntry → List (List Value) → Type 0
RowsKept c e is =
    let after = row_steps (given_circuit e.circuit) e.rows e.inputs in
    Kept (rows_from c is) after
    × ((step_rows e).outputs ≡ output_bytes after) × ((step_rows e).nexts ≡ next_bytes after)
    × (NoXs is → NoX (first_state c) → rows_from c is ≡ after)

module _ (r : ReadCall) (m : MakeCall conversion) (m-given : FromRead m.entry.circuit r)
    (s : MakeCall reduction) (s-given : FromMade conversion s.entry.circuit m) where
  abbrev c : Circuit
  c = read_circuit r

  pub reduced-from : made_circuit reduction s ≡ reduce (convert (read_circuit r))
  reduced-from =
      reduced-is s ∙ ap reduce (from-made conversion s.entry.circuit m s-given ∙ (converted-is m ∙ ap convert (from-read m.entry.circuit r m-given)))

  module _ (e : RowsEntry) (done : (step_rows e).answer ≡ Ok tt) (is : List (List Value)) (sized : Sized (length (read_circuit r).inputs) is)
      (replaced : Replaced is (vectors_of (given_circuit e.circuit) e.rows e.inputs)) where
    abbrev js : List (List Value)
    js = vectors_of (given_circuit e.circuit) e.rows e.inputs

    by_rows : rows_from (reduce (convert c)) js ≡ rows_from (given_circuit e.circuit) js → RowsKept c e is
    by_rows same =
        let all = first_of (in_order_then e.circuit (row_stage e ∷ [])) in
        let exit = ap (λ (o : Option Refusal). stepped_rows o e) (stepped-none (λ o. (stepped_rows o e).answer) (λ r. refl) all done) in (
          subst (λ (l : List Step). Kept (rows_from c is) l) same (rows-kept c (read-formed r) is js sized replaced),
          ap (λ (x : RowsExit). x.outputs) exit,
          ap (λ (x : RowsExit). x.nexts) exit,
          λ x f. rows_same c (read-formed r) f is js sized replaced x ∙ same,
        )

    -- of a read, a conversion and a reduction, each handed what the one before left, and rows that replace x of `is` in any way
    pub rows-kept-calls : FromMade reduction e.circuit s → RowsKept (read_circuit r) e is
    rows-kept-calls e-given = by_rows (ap (λ (d : Circuit). rows_from d js) (sym (from-made reduction e.circuit s e-given ∙ reduced-from)))

    -- and of dropping after them
    pub rows-kept-dropped : (u : MakeCall dropping) → FromMade reduction u.entry.circuit s → FromMade dropping e.circuit u
        → RowsKept (read_circuit r) e is
    rows-kept-dropped u u-given e-given =
        by_rows (rows_dropped c (read-formed r) js (replaced-sized (length c.inputs) is js replaced sized)
        ∙ ap (λ (d : Circuit). rows_from d js) (sym (from-made dropping e.circuit u e-given
        ∙ (dropped-is u ∙ ap drop_unused (from-made reduction u.entry.circuit s u-given ∙ reduced-from)))))
