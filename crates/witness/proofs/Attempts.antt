-- Trying fillings one after another: the answer, from the first that fails.
use Prim.Native.Nat.{ℕ, ◌+◌, ◌*◌, ◌%◌, ◌^◌, ◌≤◌, ◌<◌, min}
use mathlib.Core.Path.{◌≡◌, sym, ap, ◌∙◌, subst}
use mathlib.Core.Bool.{Bool, true, false, cond}
use mathlib.Core.List.{List, map}
use Rattle.std.specs.Prelude.{Option, Some, None}
use native.Mathlib.Nat.{one-mul}
use native.Mathlib.Omega.{arith}
use borrow.Author.Tests.{le-leb, lt-leb}
use lib.Dec.{leb}
use lib.Pow.{shl_exact, pow_mono}
use lib.ListN.{length, length-map}
use Rattle.plan.specs.declared.Finding.TheVariants.{Yes, No, Undecided}
use Rattle.plan.specs.Step.{value_of}
use Rattle.plan.specs.Fillings.{filling, first_failing, finding_of, try_all}
use Rattle.laws.proofs.Fillings.Numbering.{fill-length}
use Rattle.laws.proofs.Fillings.Trying.{Fails, Tells, first-tells}
use Rattle.witness.specs.Asked.{codes_of}
use Rattle.witness.proofs.Words.{codes-length}

-- a filled start is as long as the state
pub start-length : (resets : List ℕ) (n k : ℕ) → n ≤ length resets → length (map value_of (filling k (codes_of resets n))) ≡ n
start-length resets n k h =
    length-map (filling k (codes_of resets n)) value_of ∙ (fill-length k 0 (codes_of resets n) ∙ codes-length resets n h)

-- two to the number of x, by a shift
pub total-is : (xs : ℕ) → xs ≤ 20 → (1 * 2 ^ xs) % 2 ^ 64 ≡ 2 ^ xs
total-is xs h = shl_exact {a = 1} 1 xs 64 (omega arith) (omega arith) ∙ one-mul (2 ^ xs)

pub total-small : (xs : ℕ) → xs ≤ 20 → 2 ^ xs ≤ 2 ^ 20
total-small xs h = pow_mono h

-- the first that fails is one of those that were tried
pub first-within : (shows : ℕ → Bool) (most k : ℕ) → Some k ≡ first_failing shows 0 most → k < most
first-within shows most k q = let f : Fails shows 0 most k = subst (Tells shows 0 most) (sym q) (first-tells shows 0 most) in omega (arith, f.within)

-- the answer, from the first that fails
module _ (shows : ℕ → Bool) (x allowance : ℕ) {total most : ℕ} (is-total : total ≡ 2 ^ x) (is-most : most ≡ min total allowance) where
  found-by : (o : Option ℕ) → o ≡ first_failing shows 0 most → finding_of o total allowance ≡ try_all shows (2 ^ x) allowance
  found-by o q =
      ap (λ (p : Option ℕ). finding_of p total allowance) (q ∙ ap (first_failing shows 0) is-most)
      ∙ ap (λ (t : ℕ). try_all shows t allowance) is-total

  pub found-no : (k : ℕ) → Some k ≡ first_failing shows 0 most → No (k + 1) ≡ try_all shows (2 ^ x) allowance
  found-no k = found-by (Some k)

  module _ (all : None ≡ first_failing shows 0 most) where
    told : (b : Bool) → leb total allowance ≡ b → cond b (Yes total) (Undecided allowance) ≡ try_all shows (2 ^ x) allowance
    told b q = ap (λ (t : Bool). cond t (Yes total) (Undecided allowance)) (sym q) ∙ found-by None all

    pub found-yes : total ≤ allowance → Yes total ≡ try_all shows (2 ^ x) allowance
    found-yes h = told true (le-leb total allowance h)

    pub found-cut : allowance < total → Undecided allowance ≡ try_all shows (2 ^ x) allowance
    found-cut h = told false (lt-leb total allowance h)
