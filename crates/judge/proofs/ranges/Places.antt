-- 5 names the first of the tables of which not all is inside.
use Prim.Native.Nat.{ℕ}
use mathlib.Core.Path.{◌≡◌, refl, sym, ap, ap₂, ◌∙◌}
use mathlib.Core.Bool.{Bool, true, false}
use mathlib.Core.List.{map}
use Rattle.std.specs.Prelude.{Option, Some, None}
use Rattle.plan.specs.Circuit.{Circuit, one_line, latch_line, gate_line, resets_ok, all_inside}
use Rattle.plan.specs.Given.{or_else, failing_at, outside_of, outside_in}
use Rattle.laws.proofs.Writing.Nothing.{unless_all, rows-place}
use Rattle.judge.specs.ranges.Parts.{outside_first, outside_last}

-- tables 1 to 4 and 7 to 9 in their order, by whether all of each is inside
abbrev pub first_table : Bool → Bool → Bool → Bool → Option ℕ
first_table a b c d = or_else (unless_all a 1) (or_else (unless_all b 2) (or_else (unless_all c 3) (unless_all d 4)))

abbrev pub last_table : Bool → Bool → Bool → Option ℕ
last_table a b c = or_else (unless_all a 7) (or_else (unless_all b 8) (unless_all c 9))

failing-place : (t : ℕ) (b : Bool) → failing_at t b ≡ unless_all b t
failing-place t true = refl
failing-place t false = refl

or_assoc : (a b c : Option ℕ) → or_else a (or_else b c) ≡ or_else (or_else a b) c
or_assoc None b c = refl
or_assoc (Some x) b c = refl

module _ (c : Circuit) where
  pub outside-first : outside_first c ≡ first_table (all_inside true c.M (map one_line c.inputs)) (all_inside true c.M (map latch_line c.latches))
      (all_inside false c.M (map one_line c.outputs)) (all_inside true c.M (map gate_line c.gates))
  outside-first =
      ap₂ or_else (rows-place 1 true c.M (map one_line c.inputs))
      (ap₂ or_else (rows-place 2 true c.M (map latch_line c.latches))
      (ap₂ or_else (rows-place 3 false c.M (map one_line c.outputs))
      (rows-place 4 true c.M (map gate_line c.gates))))

  pub outside-last : outside_last c ≡ last_table (resets_ok c.latches c.resets) (all_inside false c.M (map one_line c.bads))
      (all_inside false c.M (map one_line c.constraints))
  outside-last =
      ap₂ or_else (failing-place 7 (resets_ok c.latches c.resets))
      (ap₂ or_else (rows-place 8 false c.M (map one_line c.bads)) (rows-place 9 false c.M (map one_line c.constraints)))

-- the two parts together
joined : (a b c d e : Option ℕ) → or_else (or_else a (or_else b (or_else c d))) e ≡ or_else a (or_else b (or_else c (or_else d e)))
joined (Some x) b c d e = refl
joined None (Some x) c d e = refl
joined None None c d e = sym (or_assoc c d e)

both-parts : (c : Circuit) → or_else (outside_first c) (outside_last c) ≡ outside_in c
both-parts c =
    joined (outside_of 1 true c.M (map one_line c.inputs)) (outside_of 2 true c.M (map latch_line c.latches))
    (outside_of 3 false c.M (map one_line c.outputs)) (outside_of 4 true c.M (map gate_line c.gates)) (outside_last c)

pub by_first : (c : Circuit) (t : ℕ) → outside_first c ≡ Some t → Some t ≡ outside_in c
by_first c t e = sym (ap (λ (o : Option ℕ). or_else o (outside_last c)) e) ∙ both-parts c

pub by_last : (c : Circuit) (o : Option ℕ) → outside_first c ≡ None → o ≡ outside_last c → o ≡ outside_in c
by_last c o e f = f ∙ sym (ap (λ (x : Option ℕ). or_else x (outside_last c)) e) ∙ both-parts c
