-- The three tables one after the other: what each finds marked, and what is answered.
use Prim.Native.Nat.{ℕ, ◌<◌, ◌≤◌}
use mathlib.Core.Path.{◌≡◌, sym, ◌∙◌, subst}
use mathlib.Core.Bool.{Bool, true, false}
use mathlib.Core.List.{List, [], ◌++◌, append_assoc, map}
use Rattle.std.specs.Prelude.{None, Some, Option}
use native.Mathlib.Omega.{arith}
use borrow.Author.Tests.{not-true, not-false}
use lib.ListN.{take}
use Rattle.plan.specs.declared.Counts.{Counts}
use Rattle.plan.specs.Circuit.{latch_of, gate_of, rows_of, vars, current_vars, left_vars, all_new}
use Rattle.plan.specs.Given.{twice_in}
use Rattle.laws.proofs.Marks.{Agrees, agrees-none}
use Rattle.laws.proofs.Ranges.{input-in, latch-in, gate-in}
use Rattle.laws.proofs.Tables.{head_at, heads_at, inputs-heads, latches-heads, gates-heads}
use Rattle.tables.specs.Held.{circuit_in}
use Rattle.judge.specs.twice.Twice.{RowsSay, Ranged, TwiceSays}
use Rattle.judge.proofs.twice.Defined.{in-inputs, in-latches, in-gates, nowhere}

-- what `mark_rows` ensures
abbrev RowsDo : List ℕ → ℕ → ℕ → List ℕ → Bool → List ℕ → Type 0
RowsDo table stride n marks r marks' =
    (m : ℕ) (seen : List ℕ) → ((i : ℕ) → i < n → head_at table stride i ≤ m) → Agrees m seen marks → RowsSay m seen (heads_at table stride n) r marks'

again : {m : ℕ} {seen heads : List ℕ} {r : Bool} {marks' : List ℕ} → RowsSay m seen heads r marks' → r ≡ true → all_new seen heads ≡ false
again {m} {seen} {heads} s e = not-true (all_new seen heads) (sym s.told ∙ e)

new : {m : ℕ} {seen heads : List ℕ} {r : Bool} {marks' : List ℕ} → RowsSay m seen heads r marks' → r ≡ false → all_new seen heads ≡ true
new {m} {seen} {heads} s e = not-false (all_new seen heads) (sym s.told ∙ e)

module _ {n : Counts} {inputs latches gates marks : List ℕ} (p : Ranged n inputs latches gates marks) where
  abbrev xs : List ℕ
  xs = vars (take n.I inputs)

  abbrev ys : List ℕ
  ys = current_vars (map latch_of (rows_of 2 n.L latches))

  abbrev zs : List ℕ
  zs = left_vars (map gate_of (rows_of 3 n.A gates))

  -- a table of 6 is named, so nothing is said of the marks
  found : (t : ℕ) (u : List ℕ)
      → ((outputs resets bads constraints : List ℕ) → Some t ≡ twice_in (circuit_in n inputs latches outputs gates resets bads constraints))
      → TwiceSays n inputs latches gates (Some t) u
  found t u e = record {
    told = e;
    marked = λ outputs resets bads constraints q.
        let none : ◌≡◌ {A = Option ℕ} (Some t) None = e outputs resets bads constraints ∙ q in
        let z : ◌≡◌ {A = ℕ} 0 1 = cc in absurd (omega arith);
  }

  module _ (r₁ : Bool) (u₁ : List ℕ) (by-inputs : RowsDo inputs 1 n.I marks r₁ u₁) where
    inputs-say : RowsSay n.M [] xs r₁ u₁
    inputs-say =
        subst (λ (l : List ℕ). RowsSay n.M [] l r₁ u₁) (sym (inputs-heads inputs n.I p.inputs_long))
        (by-inputs n.M [] (input-in n.M inputs n.I p.inputs_long p.inputs-inside) (agrees-none n.M marks p.blank))

    pub told-inputs : r₁ ≡ true → TwiceSays n inputs latches gates (Some 1) u₁
    told-inputs e =
        found 1 u₁ (λ outputs resets bads constraints. in-inputs (circuit_in n inputs latches outputs gates resets bads constraints) (again inputs-say e))

    module _ (first : r₁ ≡ false) (r₂ : Bool) (u₂ : List ℕ) (by-latches : RowsDo latches 2 n.L u₁ r₂ u₂) where
      latches-say : RowsSay n.M xs ys r₂ u₂
      latches-say =
          subst (λ (l : List ℕ). RowsSay n.M xs l r₂ u₂) (sym (latches-heads latches n.L))
          (by-latches n.M xs (latch-in n.M latches n.L p.latches-inside) (inputs-say.marked first))

      pub told-latches : r₂ ≡ true → TwiceSays n inputs latches gates (Some 2) u₂
      told-latches e =
          found 2 u₂
          (λ outputs resets bads constraints. in-latches (circuit_in n inputs latches outputs gates resets bads constraints) (new inputs-say first)
          (again latches-say e))

      module _ (second : r₂ ≡ false) (r₃ : Bool) (u₃ : List ℕ) (by-gates : RowsDo gates 3 n.A u₂ r₃ u₃) where
        gates-say : RowsSay n.M (xs ++ ys) zs r₃ u₃
        gates-say =
            subst (λ (l : List ℕ). RowsSay n.M (xs ++ ys) l r₃ u₃) (sym (gates-heads gates n.A))
            (by-gates n.M (xs ++ ys) (gate-in n.M gates n.A p.gates-inside) (latches-say.marked second))

        pub told-gates : r₃ ≡ true → TwiceSays n inputs latches gates (Some 4) u₃
        told-gates e =
            found 4 u₃
            (λ outputs resets bads constraints. in-gates (circuit_in n inputs latches outputs gates resets bads constraints) (new inputs-say first)
            (new latches-say second) (again gates-say e))

        pub told_none : r₃ ≡ false → TwiceSays n inputs latches gates None u₃
        told_none e = record {
          told = λ outputs resets bads constraints. nowhere (circuit_in n inputs latches outputs gates resets bads constraints) (new inputs-say first)
              (new latches-say second) (new gates-say e);
          marked = λ outputs resets bads constraints q. subst (λ (l : List ℕ). Agrees n.M l u₃) (append_assoc xs ys zs) (gates-say.marked e);
        }
