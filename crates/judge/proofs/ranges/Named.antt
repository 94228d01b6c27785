-- What refusal 5 names, by whether the rows of each table are in their ranges.
use Prim.Native.Nat.{ℕ}
use mathlib.Core.Path.{◌≡◌, sym, ap, ◌∙◌}
use mathlib.Core.Bool.{Bool, true, false}
use mathlib.Core.List.{List, [], map}
use Rattle.std.specs.Prelude.{Some, None}
use native.Mathlib.Omega.{arith}
use lib.ListN.{length, take}
use Rattle.plan.specs.declared.Counts.{Counts}
use Rattle.plan.specs.Circuit.{Circuit, one_line, latch_of, rows_of, resets_ok, all_inside}
use Rattle.plan.specs.Binary.{binary_order}
use Rattle.tables.specs.Held.{circuit_in}
use Rattle.judge.specs.ranges.Parts.{outside_first, outside_last, FirstRoom, LastRoom}
use Rattle.judge.proofs.ranges.Places.{first_table, last_table, outside-first, outside-last}
use Rattle.laws.proofs.Tables.{one-rows, latch-rows, gate-rows}
use Rattle.laws.proofs.Reading.Runs.{BinaryOrder, order-exactly, lits-inside, gates-inside}

module _ {n : Counts} {inputs latches outputs gates : List ℕ} (room : FirstRoom n inputs latches outputs gates) where
  abbrev c : Circuit
  c = circuit_in n inputs latches outputs gates [] [] []

  abbrev inputs_in : Bool
  inputs_in = all_inside true n.M (rows_of 1 n.I inputs)

  abbrev latches-in : Bool
  latches-in = all_inside true n.M (rows_of 2 n.L latches)

  abbrev outputs-in : Bool
  outputs-in = all_inside false n.M (rows_of 1 n.O outputs)

  abbrev gates-in : Bool
  gates-in = all_inside true n.M (rows_of 3 n.A gates)

  by_rows : outside_first c ≡ first_table inputs_in latches-in outputs-in gates-in
  by_rows =
      outside-first c
      ∙ rw (
        one-rows n.I inputs room.inputs_long,
        latch-rows n.L latches room.latches-long,
        one-rows n.O outputs room.outputs-long,
        gate-rows n.A gates room.gates-long,
      )

  pub table1 : inputs_in ≡ false → Some 1 ≡ outside_first c
  table1 a = sym (by_rows ∙ rw a)

  pub table2 : inputs_in ≡ true → latches-in ≡ false → Some 2 ≡ outside_first c
  table2 a b = sym (by_rows ∙ rw (a, b))

  pub table3 : inputs_in ≡ true → latches-in ≡ true → outputs-in ≡ false → Some 3 ≡ outside_first c
  table3 a b d = sym (by_rows ∙ rw (a, b, d))

  pub table4 : inputs_in ≡ true → latches-in ≡ true → outputs-in ≡ true → gates-in ≡ false → Some 4 ≡ outside_first c
  table4 a b d e = sym (by_rows ∙ rw (a, b, d, e))

  pub no_table : inputs_in ≡ true → latches-in ≡ true → outputs-in ≡ true → gates-in ≡ true → None ≡ outside_first c
  no_table a b d e = sym (by_rows ∙ rw (a, b, d, e))

  -- binary order leaves no input and no gate out of range
  module _ (b : binary_order c ≡ true) where
    order : BinaryOrder c
    order = (order-exactly c).0 b

    pub inputs-known : inputs_in ≡ true
    inputs-known =
        ap (all_inside true n.M) (sym (one-rows n.I inputs room.inputs_long))
        ∙ ap (λ (ls : List ℕ). all_inside true n.M (map one_line ls)) order.inputs
        ∙ lits-inside n.M (length (take n.I inputs)) 1 (omega arith) (omega (arith, order.sum))

    pub gates-known : gates-in ≡ true
    gates-known =
        ap (all_inside true n.M) (sym (gate-rows n.A gates room.gates-long))
        ∙ gates-inside n.M _ c.gates order.gates (omega arith) (omega (arith, order.sum))

module _ {n : Counts} {latches resets bads constraints : List ℕ} (room : LastRoom n latches resets bads constraints) where
  abbrev d : Circuit
  d = circuit_in n [] latches [] [] resets bads constraints

  abbrev resets-in : Bool
  resets-in = resets_ok (map latch_of (rows_of 2 n.L latches)) (take n.L resets)

  abbrev bads-in : Bool
  bads-in = all_inside false n.M (rows_of 1 n.B bads)

  abbrev constraints-in : Bool
  constraints-in = all_inside false n.M (rows_of 1 n.C constraints)

  by-last-rows : outside_last d ≡ last_table resets-in bads-in constraints-in
  by-last-rows =
      outside-last d ∙ rw (one-rows n.B bads room.bads-long, one-rows n.C constraints room.constraints-long)

  pub table7 : resets-in ≡ false → Some 7 ≡ outside_last d
  table7 a = sym (by-last-rows ∙ rw a)

  pub table8 : resets-in ≡ true → bads-in ≡ false → Some 8 ≡ outside_last d
  table8 a b = sym (by-last-rows ∙ rw (a, b))

  pub table9 : resets-in ≡ true → bads-in ≡ true → constraints-in ≡ false → Some 9 ≡ outside_last d
  table9 a b e = sym (by-last-rows ∙ rw (a, b, e))

  pub no-last-table : resets-in ≡ true → bads-in ≡ true → constraints-in ≡ true → None ≡ outside_last d
  no-last-table a b e = sym (by-last-rows ∙ rw (a, b, e))
