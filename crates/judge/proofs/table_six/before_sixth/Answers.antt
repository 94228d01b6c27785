-- Whether a refusal of given tables comes before 4 at table 6: 2, 3, and 4 at a table below it. The answer is that of the call below it.
use Prim.Native.Nat.{ℕ}
use mathlib.Core.Path.{◌≡◌, sym, ap, ◌∙◌}
use mathlib.Core.Bool.{Bool, cond}
use borrow.Author.Tests.{eq-eqb, ne_eqb}
use lib.Dec.{ltb}
use Rattle.plan.specs.declared.Refusal.{Refusal}
use Rattle.plan.specs.Refusals.{number_of, place_of}
use Rattle.judge.specs.table_six.Judged.{before_sixth}
use Rattle.judge.proofs.table_six.before_sixth.Goals as goal

-- by 4, or not
by-four : (r : Refusal) (n k : ℕ) → n ≡ number_of r → k ≡ place_of r → n ≡ 4 → ltb k 6 ≡ before_sixth r
by-four r n k en ek e =
    ap (λ (p : ℕ). ltb p 6) ek
    ∙ sym (ap (λ (b : Bool). cond b (ltb (place_of r) 6) (ltb (number_of r) 4)) (eq-eqb (number_of r) 4 (sym en ∙ e)))

by-other : (r : Refusal) (n : ℕ) → n ≡ number_of r → (n ≡ 4 → ⊥) → ltb n 4 ≡ before_sixth r
by-other r n en ne =
    ap (λ (p : ℕ). ltb p 4) en
    ∙ sym (ap (λ (b : Bool). cond b (ltb (place_of r) 6) (ltb (number_of r) 4)) (ne_eqb (number_of r) 4 (λ e. ne (en ∙ e))))

pub returns-then-number-eq4 : goal.returns-then-number-eq4
returns-then-number-eq4 c =
    by-four c.args.refusal _ _ c.told_number-number.ensures c.told_place.ensures c.if-number-eq4.true

pub returns : goal.returns
returns c = by-other c.args.refusal _ c.told_number-number.ensures c.if-number-eq4.false
