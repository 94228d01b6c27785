-- Binary order of given tables, as the parts that are tested one after the other.
use Prim.Native.Nat.{ℕ, suc, ◌+◌}
use mathlib.Core.Path.{◌≡◌, refl, sym, ap, ap₂, ◌∙◌}
use mathlib.Core.Bool.{Bool, true, false, ◌&&◌}
use mathlib.Core.List.{List, [], ◌∷◌, map}
use borrow.Author.Tests.{eq-eqb, ne_eqb}
use lib.Dec.{eqb}
use lib.ListN.{length, take}
use Rattle.plan.specs.declared.Counts.{Counts}
use Rattle.plan.specs.Literals.{lit_of}
use Rattle.plan.specs.Circuit.{one_line, latch_line, gate_line, literal_of, latch_of, gate_of, rows_of}
use Rattle.plan.specs.Binary.{runs, falls, binary_order}
use Rattle.laws.proofs.Reading.Runs.{all_runs}
use Rattle.laws.proofs.Tables.{length-firsts, words_take, words-rows, latches-rows, gates-rows}
use Rattle.tables.specs.Held.{circuit_in}
use Rattle.judge.specs.binary_order.Tables.{Long}

-- rows that are read and written again define the same variables
runs-through : {A : Type 0} (read : List ℕ → A) (line : A → List ℕ) → ((row : List ℕ) → literal_of (line (read row)) ≡ literal_of row)
    → (v : ℕ) (rows : List (List ℕ)) → runs v (map line (map read rows)) ≡ runs v rows
runs-through read line same v [] = refl
runs-through read line same v (row ∷ rows) =
    ap₂ (λ (l : ℕ) (b : Bool). eqb l (lit_of v) && b) (same row) (runs-through read line same (suc v) rows)

-- the tests, one after the other
abbrev in_all : Bool → Bool → Bool → Bool → Bool → Bool
in_all sum inputs latches gates fall = sum && ((inputs && (latches && gates)) && fall)

module _ (n : Counts) (inputs latches gates : List ℕ) (long : Long n inputs latches gates) where
  inputs_read : take n.I inputs ≡ map literal_of (rows_of 1 n.I inputs)
  inputs_read = words_take inputs n.I long.inputs_long ∙ sym (words-rows inputs n.I)

  count-inputs : length (take n.I inputs) ≡ n.I
  count-inputs = ap length (words_take inputs n.I long.inputs_long) ∙ length-firsts _ n.I

  count-latches : length (map latch_of (rows_of 2 n.L latches)) ≡ n.L
  count-latches = ap length (latches-rows latches n.L) ∙ length-firsts _ n.L

  count-gates : length (map gate_of (rows_of 3 n.A gates)) ≡ n.A
  count-gates = ap length (gates-rows gates n.A) ∙ length-firsts _ n.A

  abbrev pub sums : Bool
  sums = eqb (n.I + n.L + n.A) n.M

  abbrev pub run_inputs : Bool
  run_inputs = runs 1 (rows_of 1 n.I inputs)

  abbrev pub run_latches : Bool
  run_latches = runs (1 + n.I) (rows_of 2 n.L latches)

  abbrev pub run_gates : Bool
  run_gates = runs (1 + n.I + n.L) (rows_of 3 n.A gates)

  abbrev pub fall_gates : Bool
  fall_gates = falls (map gate_of (rows_of 3 n.A gates))

  pub order-parts : (outputs resets bads constraints : List ℕ) → binary_order (circuit_in n inputs latches outputs gates resets bads constraints)
      ≡ in_all sums run_inputs run_latches run_gates fall_gates
  order-parts outputs resets bads constraints =
      ap₂ (λ (s r : Bool). s && (r && fall_gates)) counted
      (all_runs (circuit_in n inputs latches outputs gates resets bads constraints)
      ∙ ap₂ (λ (x y : Bool). x && y) first (ap₂ (λ (x y : Bool). x && y) second third))
    where
      counted : eqb (length (take n.I inputs) + length (map latch_of (rows_of 2 n.L latches))
          + length (map gate_of (rows_of 3 n.A gates))) n.M ≡ sums
      counted =
          ap₂ (λ (i l : ℕ). eqb (i + l + length (map gate_of (rows_of 3 n.A gates))) n.M) count-inputs count-latches
          ∙ ap (λ (a : ℕ). eqb (n.I + n.L + a) n.M) count-gates

      first : runs 1 (map one_line (take n.I inputs)) ≡ run_inputs
      first =
          ap (λ (ls : List ℕ). runs 1 (map one_line ls)) inputs_read
          ∙ runs-through literal_of one_line (λ row. refl) 1 (rows_of 1 n.I inputs)

      second : runs (1 + length (take n.I inputs)) (map latch_line (map latch_of (rows_of 2 n.L latches))) ≡ run_latches
      second =
          ap (λ (i : ℕ). runs (1 + i) (map latch_line (map latch_of (rows_of 2 n.L latches)))) count-inputs
          ∙ runs-through latch_of latch_line (λ row. refl) (1 + n.I) (rows_of 2 n.L latches)

      third : runs (1 + length (take n.I inputs) + length (map latch_of (rows_of 2 n.L latches)))
          (map gate_line (map gate_of (rows_of 3 n.A gates))) ≡ run_gates
      third =
          ap₂ (λ (i l : ℕ). runs (1 + i + l) (map gate_line (map gate_of (rows_of 3 n.A gates)))) count-inputs count-latches
          ∙ runs-through gate_of gate_line (λ row. refl) (1 + n.I + n.L) (rows_of 3 n.A gates)

  -- what is answered where the first test to fail is that of the sum, of the inputs, of the latches; where none is
  module _ (outputs resets bads constraints : List ℕ) where
    abbrev answer : Bool
    answer = binary_order (circuit_in n inputs latches outputs gates resets bads constraints)

    pub ends-sum : (n.I + n.L + n.A ≡ n.M → ⊥) → false ≡ answer
    ends-sum h = sym (order-parts outputs resets bads constraints ∙ ap (λ (s : Bool). in_all s run_inputs run_latches run_gates fall_gates) (ne_eqb _ _ h))

    module _ (sum : n.I + n.L + n.A ≡ n.M) where
      summed : answer ≡ in_all true run_inputs run_latches run_gates fall_gates
      summed = order-parts outputs resets bads constraints ∙ ap (λ (s : Bool). in_all s run_inputs run_latches run_gates fall_gates) (eq-eqb _ _ sum)

      pub ends-inputs : run_inputs ≡ false → false ≡ answer
      ends-inputs h = sym (summed ∙ ap (λ (x : Bool). in_all true x run_latches run_gates fall_gates) h)

      module _ (first : run_inputs ≡ true) where
        pub ends-latches : run_latches ≡ false → false ≡ answer
        ends-latches h = sym (summed ∙ ap₂ (λ (x y : Bool). in_all true x y run_gates fall_gates) first h)

        module _ (second : run_latches ≡ true) where
          both : answer ≡ in_all true true true run_gates fall_gates
          both = summed ∙ ap₂ (λ (x y : Bool). in_all true x y run_gates fall_gates) first second

          pub ends : (run_gates && fall_gates) ≡ answer
          ends = sym both
