-- The three numbers of an output add up to the number of rows: none is lost, and no spare lane is counted.
use Prim.Native.Nat.{ℕ, ◌+◌}
use mathlib.Core.Path.{◌≡◌, ◌∙◌}
use mathlib.Core.List.{List, map}
use lib.ListN.{length, get_or, length-map}
use Rattle.plan.specs.Circuit.{Circuit, rows_of}
use Rattle.plan.specs.Step.{v0, v1, vx, Step, step_of, first_state, value_of, vectors_of}
use Rattle.plan.specs.Report.{times, output_along}
use Rattle.plan.specs.Rows.{row_steps}
use Rattle.laws.proofs.Writing.Fine.{length-rows}
use Rattle.laws.proofs.Running.Times.{all-counted}

pub rows-add-up : (c : Circuit) (rows : ℕ) (bytes : List ℕ) (j : ℕ)
    → let l = output_along (row_steps c rows bytes) j in times v0 l + times v1 l + times vx l ≡ rows
rows-add-up c rows bytes j =
    all-counted (output_along (row_steps c rows bytes) j)
    ∙ (length-map (row_steps c rows bytes) (λ (s : Step). get_or s.outputs j vx)
    ∙ (length-map (vectors_of c rows bytes) (step_of c (first_state c))
    ∙ (length-map (rows_of (length c.inputs) rows bytes) (map value_of) ∙ length-rows (length c.inputs) rows bytes)))
