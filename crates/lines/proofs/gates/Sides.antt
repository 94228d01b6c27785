-- The ways through one gate, whose sides are taken from literals.
use Prim.Native.Nat.{ℕ, ◌-◌, ◌<◌}
use mathlib.Core.Path.{◌≡◌, sym, ap, ◌∙◌}
use mathlib.Core.Bool.{true, false}
use mathlib.Core.List.{List}
use Rattle.std.specs.Prelude.{Ok, Err}
use native.Mathlib.Omega.{arith}
use Rattle.plan.specs.declared.Var.{Var}
use Rattle.plan.specs.declared.Lit.{Lit}
use Rattle.plan.specs.declared.Refusal.{Refusal}
use Rattle.plan.specs.Literals.{var_at, lit_at, word_of, doubled}
use Rattle.plan.specs.Refusals.{Parse, got, refused, ◌then◌}
use Rattle.plan.specs.Circuit.{Gate}
use Rattle.plan.specs.Difference.{difference}
use Rattle.plan.specs.Binary.{gate}
use Rattle.lines.specs.gates.Gates.{side_by, gate_by}
use Rattle.lines.proofs.gates.Words.{lit_is}
use Rattle.laws.proofs.Pairs.{ok-pair}

-- what an answer says of the difference
side-refused : (from : ℕ) (p : Parse ℕ) (r : Refusal) → Err r ≡ side_by from p → p ≡ refused r
side-refused from (got d n) r e = let z : ◌≡◌ {A = ℕ} 0 1 = cc in absurd (omega arith)
side-refused from (refused r') r e = let r-is : r' ≡ r = cc in ap refused r-is

side-at : (from : ℕ) (p : Parse ℕ) (l : Lit) (n : ℕ) → Ok (l, n) ≡ side_by from p → (d : ℕ) × (p ≡ got d n) × (from - d ≡ word_of l)
side-at from (got d m) l n e =
    let both = ok-pair l (lit_at (from - d)) n m e in (d, ap (got d) (sym both.1), ap word_of (sym both.0))
side-at from (refused r) l n e = let z : ◌≡◌ {A = ℕ} 0 1 = cc in absurd (omega arith)

module _ (file : List ℕ) where
  -- a gate of literal lhs, after its first difference and whole
  abbrev second : ℕ → ℕ → ℕ → Parse Gate
  second lhs rhs0 at = difference file false rhs0 at then λ e at. got (record { lhs = lhs; rhs0 = rhs0; rhs1 = rhs0 - e }) at

  abbrev pub gate_on : ℕ → ℕ → Parse Gate
  gate_on lhs at = difference file true lhs at then λ d at. second lhs (lhs - d) at

  -- the gate of a variable is that of its literal
  pub of-variable : (v at : ℕ) (w : Var) (lhs : Lit) → v < 1048576 → w ≡ var_at v → lhs ≡ doubled w
      → gate_by (gate_on (word_of lhs) at) ≡ gate_by (gate file v at)
  of-variable v at w lhs h p q = ap (λ (l : ℕ). gate_by (gate_on l at)) (lit_is w lhs v h p q)

  module _ (lhs at : ℕ) where
    module _ (rhs0 : Lit) (middle : ℕ) (e : Ok (rhs0, middle) ≡ side_by lhs (difference file true lhs at)) where
      after_first : gate_on lhs at ≡ second lhs (word_of rhs0) middle
      after_first =
          let p = side-at lhs (difference file true lhs at) rhs0 middle e in
          ap (λ (x : Parse ℕ). x then λ d at. second lhs (lhs - d) at) p.1 ∙ ap (λ (l : ℕ). second lhs l middle) p.2

      pub second-refused : (r : Refusal) → Err r ≡ side_by (word_of rhs0) (difference file false (word_of rhs0) middle)
          → Err r ≡ gate_by (gate_on lhs at)
      second-refused r e' =
          let p = side-refused (word_of rhs0) (difference file false (word_of rhs0) middle) r e' in
          let w : Parse ℕ → Parse Gate = λ x. x then λ e at. got (record { lhs = lhs; rhs0 = word_of rhs0; rhs1 = word_of rhs0 - e }) at in
          sym (ap gate_by (after_first ∙ ap w p))

      pub both-taken : (rhs1 : Lit) (next : ℕ) → Ok (rhs1, next) ≡ side_by (word_of rhs0) (difference file false (word_of rhs0) middle)
          → Ok (lit_at lhs, rhs0, rhs1, next) ≡ gate_by (gate_on lhs at)
      both-taken rhs1 next e' =
          let p = side-at (word_of rhs0) (difference file false (word_of rhs0) middle) rhs1 next e' in
          let w : Parse ℕ → Parse Gate = λ x. x then λ e at. got (record { lhs = lhs; rhs0 = word_of rhs0; rhs1 = word_of rhs0 - e }) at in
          sym (ap gate_by (after_first ∙ ap w p.1) ∙ ap (λ (l : ℕ). Ok (lit_at lhs, rhs0, lit_at l, next)) p.2)
