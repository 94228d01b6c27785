-- 22, 5, 15 and 12 of an edit, one after the other.
use Prim.Native.Nat.{ℕ, ◌+◌, ◌%◌, ◌^◌, ◌<◌}
use mathlib.Core.Path.{◌≡◌, sym, ap, ◌∙◌}
use mathlib.Core.Bool.{Bool, true, false, ◌&&◌}
use mathlib.Core.List.{[], ◌∷◌}
use Rattle.std.specs.Prelude.{Result, Ok, Err}
use Rattle.plan.specs.declared.Refusal.{Refusal}
use native.Mathlib.Omega.{arith}
use lib.Dec.{eqb, ltb}
use Rattle.plan.specs.declared.Counts.{Counts}
use Rattle.plan.specs.declared.Refusal.TheVariants.{OutOfRange, NotInOrder, BadVector, NoGate}
use Rattle.plan.specs.Literals.{lit_of, in_range}
use Rattle.plan.specs.Refusals.{stage, first_of}
use Rattle.plan.specs.Given.{failing_at, failing}
use Rattle.plan.specs.Outcome.{checked_by}
use Rattle.plan.specs.Rewire.{left_at, edit_stages}
use Rattle.rewire.specs.Shown.{Counted}

-- by what the tests said
abbrev answer_by : ℕ → Bool → Bool → Bool → Bool → Bool → Bool → Result Unit Refusal
answer_by k t u v x y z =
    checked_by (first_of (stage NoGate (failing_at k t) ∷ stage OutOfRange (failing_at 4 (u && v)) ∷ stage NotInOrder (failing (x && y))
    ∷ stage BadVector (failing_at 4 z) ∷ []))

-- the left side as the code has it
pub left_word : (n : Counts) (k : ℕ) → Counted n → k < n.A → lit_of (1 + n.I + n.L + k) % 2 ^ 32 ≡ left_at n k
left_word n k c h = omega (arith, c.sum, c.most-M)

module _ (n : Counts) (k a b len : ℕ) where
  abbrev t : Bool
  t = ltb k n.A

  abbrev u : Bool
  u = in_range false n.M a

  abbrev v : Bool
  v = in_range false n.M b

  abbrev x : Bool
  x = ltb a (left_at n k)

  abbrev y : Bool
  y = ltb b (left_at n k)

  abbrev z : Bool
  z = eqb len (n.M + 1)

  abbrev answer : Result Unit Refusal
  answer = checked_by (first_of (edit_stages n k a b len))

  pub no-gate : t ≡ false → Err (NoGate k) ≡ answer
  no-gate e = sym (ap (λ (t : Bool). answer_by k t u v x y z) e)

  module _ (there : t ≡ true) where
    past-gate : answer ≡ answer_by k true u v x y z
    past-gate = ap (λ (t : Bool). answer_by k t u v x y z) there

    pub out_first : u ≡ false → Err (OutOfRange 4) ≡ answer
    out_first e = sym (past-gate ∙ ap (λ (u : Bool). answer_by k true u v x y z) e)

    module _ (in0 : u ≡ true) where
      past_first : answer ≡ answer_by k true true v x y z
      past_first = past-gate ∙ ap (λ (u : Bool). answer_by k true u v x y z) in0

      pub out-second : v ≡ false → Err (OutOfRange 4) ≡ answer
      out-second e = sym (past_first ∙ ap (λ (v : Bool). answer_by k true true v x y z) e)

      module _ (in1 : v ≡ true) where
        past-range : answer ≡ answer_by k true true true x y z
        past-range = past_first ∙ ap (λ (v : Bool). answer_by k true true v x y z) in1

        pub high-first : x ≡ false → Err (NotInOrder 0) ≡ answer
        high-first e = sym (past-range ∙ ap (λ (x : Bool). answer_by k true true true x y z) e)

        module _ (low0 : x ≡ true) where
          past-low : answer ≡ answer_by k true true true true y z
          past-low = past-range ∙ ap (λ (x : Bool). answer_by k true true true x y z) low0

          pub high-second : y ≡ false → Err (NotInOrder 0) ≡ answer
          high-second e = sym (past-low ∙ ap (λ (y : Bool). answer_by k true true true true y z) e)

          module _ (low1 : y ≡ true) where
            past-order : answer ≡ answer_by k true true true true true z
            past-order = past-low ∙ ap (λ (y : Bool). answer_by k true true true true y z) low1

            pub wrong-length : z ≡ false → Err (BadVector 4) ≡ answer
            wrong-length e = sym (past-order ∙ ap (λ (z : Bool). answer_by k true true true true true z) e)

            pub all_pass : z ≡ true → Ok tt ≡ answer
            all_pass e = sym (past-order ∙ ap (λ (z : Bool). answer_by k true true true true true z) e)
