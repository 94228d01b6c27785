-- Numbers of the leaves: inputs from 1 on, then latches.
use Rattle.std.specs.Prelude.{ℕ, zero, suc, ◌+◌, ◌*◌, ◌<◌, ◌≤◌, ◌≡◌, true, List, ◌∷◌, ◌++◌, map, length, get_or, set, take}
use Rattle.plan.specs.declared.Counts.{Counts}
use Rattle.plan.specs.Literals.{most}
use Rattle.plan.specs.Circuit.{Latch, latch_of, gate_of, rows_of, one_line, latch_line, vars, current_vars, left_vars, all_inside}
use Rattle.laws.proofs.Reading.Members.{distinct}
use Rattle.laws.proofs.Running.Scan.{scanned}
use Rattle.laws.proofs.Tables.{head_at}
use Rattle.judge.specs.order.Numbers.{NumTable}

-- t, after the variables of n rows took the numbers from `first` on
abbrev pub with_heads : List ℕ → ℕ → ℕ → ℕ → List ℕ → List ℕ
with_heads table stride first zero t = t
with_heads table stride first (suc n) t = set (with_heads table stride first n t) (head_at table stride n) (first + n)

-- the inputs and latches that tables hold
abbrev pub inputs_of : Counts → List ℕ → List ℕ
inputs_of n inputs = take n.I inputs

abbrev pub latches_of : Counts → List ℕ → List Latch
latches_of n latches = map latch_of (rows_of 2 n.L latches)

-- `leaves` of the circuit that they are of
abbrev pub leaves_of : Counts → List ℕ → List ℕ → List ℕ
leaves_of n inputs latches = zero ∷ (vars (inputs_of n inputs) ++ current_vars (latches_of n latches))

-- what `number_leaves` asks: literals in range, no variable twice, and a table whose words of variables up to M are
-- blank
pub record Leaves (n : Counts) (inputs latches t : List ℕ) : Type 0 where
  pub most-M : n.M ≤ most
  pub sum : n.I + n.L ≤ n.M
  pub inputs_long : n.I ≤ length inputs
  pub latches-long : 2 * n.L ≤ length latches
  pub table-long : n.M < length t
  pub inputs-inside : all_inside true n.M (map one_line (inputs_of n inputs)) ≡ true
  pub latches-inside : all_inside true n.M (map latch_line (latches_of n latches)) ≡ true
  pub different : distinct (leaves_of n inputs latches) ≡ true
  pub blank : (v : ℕ) → v ≤ n.M → get_or t v 0 ≡ 0

-- what it leaves: each leaf's number, and the words past variable M as they were
pub record Numbered (n : Counts) (inputs latches t t' : List ℕ) : Type 0 where
  pub numbers : NumTable (leaves_of n inputs latches) (take (n.M + 1) t')
  pub rest : (p : ℕ) → n.M < p → get_or t' p 0 ≡ get_or t p 0

-- the numbers of all variables: of the leaves, then of the gates in the order in which they get them
abbrev pub AllNumbered : Counts → List ℕ → List ℕ → List ℕ → List ℕ → Type 0
AllNumbered n inputs latches gates t =
    let lv = leaves_of n inputs latches in
    NumTable (lv ++ left_vars (scanned (map gate_of (rows_of 3 n.A gates)) n.A lv)) (take (n.M + 1) t)
