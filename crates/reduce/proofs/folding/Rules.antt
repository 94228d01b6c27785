-- The rules that look at the sides of a gate alone, in the paper's order.
use mathlib.Core.Path.{◌≡◌, sym, ap, ◌∙◌}
use Rattle.std.specs.Prelude.{Some, None}
use Prim.Native.Nat.{ℕ}
use borrow.Author.Tests.{eq-eqb, ne_eqb}
use Rattle.plan.specs.Literals.{neg_of}
use Rattle.reduce.specs.folding.Rules.{Ruled}

-- x and y are the words of a and b, z is that of b's negation
module _ {a b x y : ℕ} (left : x ≡ a) (right : y ≡ b) where
  pub equal : x ≡ y → Ruled a b (Some x)
  equal e gs = simp (eq-eqb a b (sym left ∙ e ∙ right)) (ap Some (sym left))

  module _ {z : ℕ} (d1 : x ≡ y → ⊥) (turned : z ≡ neg_of b) where
    differ : a ≡ b → ⊥
    differ e = d1 (left ∙ e ∙ sym right)

    pub opposite : x ≡ z → Ruled a b (Some 0)
    opposite e gs = simp (ne_eqb a b differ, eq-eqb a (neg_of b) (sym left ∙ e ∙ turned))

    module _ (d2 : x ≡ z → ⊥) where
      no-negation : a ≡ neg_of b → ⊥
      no-negation e = d2 (left ∙ e ∙ sym turned)

      pub left-zero : x ≡ 0 → Ruled a b (Some 0)
      left-zero e gs = simp (ne_eqb a b differ, ne_eqb a (neg_of b) no-negation, eq-eqb a 0 (sym left ∙ e))

      module _ (d3 : x ≡ 0 → ⊥) where
        no_zero : a ≡ 0 → ⊥
        no_zero e = d3 (left ∙ e)

        pub right_zero : y ≡ 0 → Ruled a b (Some 0)
        right_zero e gs = simp (ne_eqb a b differ, ne_eqb a (neg_of b) no-negation, ne_eqb a 0 no_zero, eq-eqb b 0 (sym right ∙ e))

        module _ (d4 : y ≡ 0 → ⊥) where
          no-zeros : b ≡ 0 → ⊥
          no-zeros e = d4 (right ∙ e)

          pub left_one : x ≡ 1 → Ruled a b (Some y)
          left_one e gs =
              simp (ne_eqb a b differ, ne_eqb a (neg_of b) no-negation, ne_eqb a 0 no_zero, ne_eqb b 0 no-zeros, eq-eqb a 1 (sym left ∙ e))
              (ap Some (sym right))

          module _ (d5 : x ≡ 1 → ⊥) where
            no_one : a ≡ 1 → ⊥
            no_one e = d5 (left ∙ e)

            pub right-one : y ≡ 1 → Ruled a b (Some x)
            right-one e gs =
                simp (
                  ne_eqb a b differ,
                  ne_eqb a (neg_of b) no-negation,
                  ne_eqb a 0 no_zero,
                  ne_eqb b 0 no-zeros,
                  ne_eqb a 1 no_one,
                  eq-eqb b 1 (sym right ∙ e),
                )
                (ap Some (sym left))

            pub no-rule : (y ≡ 1 → ⊥) → Ruled a b None
            no-rule d6 gs =
                simp (
                  ne_eqb a b differ,
                  ne_eqb a (neg_of b) no-negation,
                  ne_eqb a 0 no_zero,
                  ne_eqb b 0 no-zeros,
                  ne_eqb a 1 no_one,
                  ne_eqb b 1 (λ e. d6 (right ∙ e)),
                )
