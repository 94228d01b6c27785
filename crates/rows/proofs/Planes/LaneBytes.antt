-- Demand 3 of each lane, of two steps of rows and in their bytes: of what a conversion left, and of what its reduction left, with unused gates
-- dropped or not.
use Prim.Native.Nat.{ℕ, ◌*◌}
use mathlib.Core.Path.{◌≡◌, refl, sym, ap, ◌∙◌, subst, subst₂}
use mathlib.Core.List.{List, map}
use lib.ListN.{length}
use Rattle.std.specs.Prelude.{Ok}
use Rattle.plan.specs.declared.Counts.{Counts}
use Rattle.plan.specs.Circuit.{Circuit, rows_of}
use Rattle.plan.specs.Given.{given_circuit}
use Rattle.plan.specs.Convert.{convert}
use Rattle.plan.specs.Reduce.{reduce}
use Rattle.plan.specs.Step.{Value, value_of, Step, first_state, vectors_of}
use Rattle.plan.specs.Outcome.{conversion, reduction}
use Rattle.plan.specs.Drop.{drop_unused, dropping}
use Rattle.plan.specs.Rows.{output_bytes, next_bytes, row_steps, RowsEntry, RowsExit, step_rows}
use Rattle.laws.proofs.Running.Monotone.{Replaced, Kept}
use Rattle.laws.proofs.Running.Runs.{Sized, replaced-sized}
use Rattle.laws.proofs.Running.WithoutX.{NoX}
use Rattle.laws.proofs.Running.Counts.{counts-reduce}
use Rattle.laws.proofs.Running.Results.{convert-well-formed, convert-in-order}
use Rattle.laws.proofs.Running.Unchanged.{convert-same}
use Rattle.laws.proofs.Writing.Calls.{ReadCall, MakeCall, read_circuit, FromRead, FromMade, from-read, from-made, read-formed, converted-is}
use Rattle.laws.proofs.Writing.Rowing.{counts, inputs-good, exit}
use Rattle.laws.proofs.Writing.KeptBytes.{KeptBytes, NoXBytes, kept-rows, replaced-rows, sized_rows, no-x-values, no-x-rows}
use Rattle.laws.proofs.Walks.Later.{dropped-is, counts-drop}
use Rattle.rows.proofs.Planes.Demand.{rows_from, rows-kept, rows_same, rows_dropped}
use Rattle.rows.proofs.Planes.Calls.{reduced-from}

-- whatever of the inputs' "x" is replaced, each byte of the outputs and of the next states that was not "x" is the same; without "x" in the inputs
-- and the resets all of them are
abbrev pub LanesKept : RowsEntry → RowsEntry → Type 0
LanesKept x y = KeptBytes (step_rows x).outputs (step_rows y).outputs × KeptBytes (step_rows x).nexts (step_rows y).nexts

abbrev pub LanesSame : RowsEntry → RowsEntry → Type 0
LanesSame x y = ((step_rows x).outputs ≡ (step_rows y).outputs) × ((step_rows x).nexts ≡ (step_rows y).nexts)

module _ (r : ReadCall) (m : MakeCall conversion) (m-given : FromRead m.entry.circuit r)
    (s : MakeCall reduction) (s-given : FromMade conversion s.entry.circuit m)
    (x : RowsEntry) (x-given : FromMade conversion x.circuit m) (x-done : (step_rows x).answer ≡ Ok tt)
    (y : RowsEntry) (y-done : (step_rows y).answer ≡ Ok tt)
    (rows : x.rows ≡ y.rows) (replaced : KeptBytes x.inputs y.inputs) where
  abbrev c : Circuit
  c = convert (read_circuit r)

  x-is : given_circuit x.circuit ≡ c
  x-is = from-made conversion x.circuit m x-given ∙ (converted-is m ∙ ap convert (from-read m.entry.circuit r m-given))

  -- conversion changes nothing more
  again : reduce (convert c) ≡ reduce c
  again = ap reduce (convert-same c (convert-well-formed (read_circuit r) (read-formed r)) (convert-in-order (read_circuit r) (read-formed r)))

  abbrev is : List (List Value)
  is = vectors_of (given_circuit x.circuit) x.rows x.inputs

  is-sized : Sized (length c.inputs) is
  is-sized =
      subst (λ (d : Circuit). Sized (length d.inputs) is) x-is
      (sized_rows (length (given_circuit x.circuit).inputs) x.rows x.inputs
      ((inputs-good x x-done).0 ∙ ap (λ (n : Counts). x.rows * n.I) (sym (counts x x-done))))

  -- of a circuit with as many inputs whose rows are those of the reduced one
  module _ (e : Circuit) (y-is : given_circuit y.circuit ≡ e) (inputs : length e.inputs ≡ length c.inputs)
      (like : (js : List (List Value)) → Sized (length c.inputs) js → rows_from (reduce c) js ≡ rows_from e js) where
    abbrev js : List (List Value)
    js = vectors_of (given_circuit y.circuit) y.rows y.inputs

    inputs-same : length (given_circuit y.circuit).inputs ≡ length (given_circuit x.circuit).inputs
    inputs-same = ap (λ (d : Circuit). length d.inputs) y-is ∙ (inputs ∙ sym (ap (λ (d : Circuit). length d.inputs) x-is))

    is-js : Replaced is js
    is-js =
        subst₂ (λ (k n : ℕ). Replaced is (vectors k n y.inputs)) (sym inputs-same) rows
        (replaced-rows (length (given_circuit x.circuit).inputs) x.rows x.inputs y.inputs replaced)
      where
        vectors : ℕ → ℕ → List ℕ → List (List Value)
        vectors k n l = map (map value_of) (rows_of k n l)

    y-rows : rows_from (reduce (convert c)) js ≡ rows_from (given_circuit y.circuit) js
    y-rows =
        ap (λ (d : Circuit). rows_from d js) again
        ∙ (like js (replaced-sized (length c.inputs) is js is-js is-sized) ∙ ap (λ (d : Circuit). rows_from d js) (sym y-is))

    kept : LanesKept x y
    kept =
        let steps = subst₂ (λ (d : Circuit) (l : List Step). Kept (rows_from d is) l) (sym x-is) y-rows
        (rows-kept c (convert-well-formed (read_circuit r) (read-formed r)) is js is-sized is-js) in
        let k = kept-rows (row_steps (given_circuit x.circuit) x.rows x.inputs) (row_steps (given_circuit y.circuit) y.rows y.inputs) steps in (
          subst₂ KeptBytes (sym (ap (λ (z : RowsExit). z.outputs) (exit x x-done))) (sym (ap (λ (z : RowsExit). z.outputs) (exit y y-done))) k.0,
          subst₂ KeptBytes (sym (ap (λ (z : RowsExit). z.nexts) (exit x x-done))) (sym (ap (λ (z : RowsExit). z.nexts) (exit y y-done))) k.1,
        )

    same : NoXBytes x.inputs → NoX (first_state (given_circuit x.circuit)) → LanesSame x y
    same h f =
        let steps : row_steps (given_circuit x.circuit) x.rows x.inputs ≡ row_steps (given_circuit y.circuit) y.rows y.inputs
        = ap (λ (d : Circuit). rows_from d is) x-is
        ∙ (rows_same c (convert-well-formed (read_circuit r) (read-formed r)) (subst (λ (d : Circuit). NoX (first_state d)) x-is f) is js is-sized is-js
        (no-x-rows (length (given_circuit x.circuit).inputs) x.rows x.inputs (no-x-values x.inputs (inputs-good x x-done).1 h))
        ∙ y-rows) in (
          ap (λ (z : RowsExit). z.outputs) (exit x x-done) ∙ (ap output_bytes steps ∙ sym (ap (λ (z : RowsExit). z.outputs) (exit y y-done))),
          ap (λ (z : RowsExit). z.nexts) (exit x x-done) ∙ (ap next_bytes steps ∙ sym (ap (λ (z : RowsExit). z.nexts) (exit y y-done))),
        )

  -- beside what the reduction left
  module _ (y-given : FromMade reduction y.circuit s) where
    y-is : given_circuit y.circuit ≡ reduce c
    y-is = from-made reduction y.circuit s y-given ∙ reduced-from r m m-given s s-given

    pub lanes-kept : LanesKept x y
    lanes-kept = kept (reduce c) y-is (ap (λ (n : Counts). n.I) (counts-reduce c)) (λ js z. refl)

    pub lanes-same : NoXBytes x.inputs → NoX (first_state (given_circuit x.circuit)) → LanesSame x y
    lanes-same = same (reduce c) y-is (ap (λ (n : Counts). n.I) (counts-reduce c)) (λ js z. refl)

  -- beside what dropping left after it
  module _ (u : MakeCall dropping) (u-given : FromMade reduction u.entry.circuit s) (y-given : FromMade dropping y.circuit u) where
    dropped-from : given_circuit y.circuit ≡ drop_unused (reduce c)
    dropped-from =
        from-made dropping y.circuit u y-given
        ∙ (dropped-is u ∙ ap drop_unused (from-made reduction u.entry.circuit s u-given ∙ reduced-from r m m-given s s-given))

    inputs-kept : length (drop_unused (reduce c)).inputs ≡ length c.inputs
    inputs-kept = ap (λ (n : Counts). n.I) (counts-drop (reduce c)) ∙ ap (λ (n : Counts). n.I) (counts-reduce c)

    like-dropped : (js : List (List Value)) → Sized (length c.inputs) js → rows_from (reduce c) js ≡ rows_from (drop_unused (reduce c)) js
    like-dropped js z =
        subst (λ (d : Circuit). rows_from d js ≡ rows_from (drop_unused d) js) again
        (rows_dropped c (convert-well-formed (read_circuit r) (read-formed r)) js z)

    pub dropped-lanes-kept : LanesKept x y
    dropped-lanes-kept = kept (drop_unused (reduce c)) dropped-from inputs-kept like-dropped

    pub dropped-lanes-same : NoXBytes x.inputs → NoX (first_state (given_circuit x.circuit)) → LanesSame x y
    dropped-lanes-same = same (drop_unused (reduce c)) dropped-from inputs-kept like-dropped
