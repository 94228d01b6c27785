-- The numbers that the gates of a circuit get are those of conversion.
use Prim.Native.Nat.{ℕ}
use mathlib.Core.Path.{◌≡◌, sym, ap, ◌∙◌, subst}
use mathlib.Core.Bool.{true}
use mathlib.Core.List.{List, ◌++◌, map}
use lib.ListN.{length}
use Rattle.plan.specs.Circuit.{Gate, Circuit, gate_of, rows_of, left_vars, leaves}
use Rattle.plan.specs.Convert.{numbered}
use Rattle.laws.proofs.Reading.Members.{distinct}
use Rattle.laws.proofs.Running.Scan.{scanned, sorted-scanned}
use Rattle.laws.proofs.Tables.{gate_at, gates-rows, length-firsts}
use Rattle.judge.specs.order.Numbers.{NumTable}

module _ (gates : List ℕ) (a : ℕ) (c : Circuit) (its : c.gates ≡ map gate_of (rows_of 3 a gates)) where
  pub gates-count : length c.gates ≡ a
  gates-count = ap length (its ∙ gates-rows gates a) ∙ length-firsts (gate_at gates) a

  -- what `number` leaves, if it was lent the numbers of the leaves
  pub numbered-rows : distinct (leaves c ++ left_vars c.gates) ≡ true
      → numbered c ≡ leaves c ++ left_vars (scanned (map gate_of (rows_of 3 a gates)) a (leaves c))
  numbered-rows once =
      ap (λ (gs : List Gate). leaves c ++ left_vars gs) (sorted-scanned c once)
      ∙ (ap (λ (k : ℕ). leaves c ++ left_vars (scanned c.gates k (leaves c))) gates-count
      ∙ ap (λ (gs : List Gate). leaves c ++ left_vars (scanned gs a (leaves c))) its)

  pub numbers_of : (num : List ℕ) → distinct (leaves c ++ left_vars c.gates) ≡ true
      → NumTable (leaves c ++ left_vars (scanned (map gate_of (rows_of 3 a gates)) a (leaves c))) num → NumTable (numbered c) num
  numbers_of num once h = subst (λ (o : List ℕ). NumTable o num) (sym (numbered-rows once)) h
