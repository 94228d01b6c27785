-- 6 by the new variables of each table.
use Prim.Native.Nat.{ℕ}
use mathlib.Core.Path.{◌≡◌, refl, sym, ap, ap₂, ◌∙◌}
use mathlib.Core.Bool.{Bool, true, false, not, cond, ◌&&◌}
use mathlib.Core.List.{List, [], ◌∷◌, ◌++◌, map}
use Rattle.std.specs.Prelude.{Option, Some, None}
use Rattle.plan.specs.Literals.{var_of}
use Rattle.plan.specs.Circuit.{Circuit, one_line, latch_line, gate_line, literal_of, heads, vars, current_vars, left_vars, has, all_new}
use Rattle.plan.specs.Bytes.{twice}
use Rattle.plan.specs.Given.{placed, or_else, twice_of, twice_in}

-- rows that define a variable each: 6 exactly if one is not new
module _ {A : Type 0} (line : A → List ℕ) (t : ℕ)
    (full : (seen : List ℕ) (a : A) → twice true seen (placed t (line a)) ≡ cond (has (var_of (literal_of (line a))) seen) (Some t) None) where
  twice-new : (seen : List ℕ) (xs : List A) → twice_of t seen (map line xs) ≡ cond (all_new seen (heads (map line xs))) None (Some t)
  twice-new seen [] = refl
  twice-new seen (a ∷ xs) =
      ap (λ (o : Option ℕ). or_else o (twice_of t (seen ++ (var_of (literal_of (line a)) ∷ [])) (map line xs))) (full seen a)
      ∙ go (has (var_of (literal_of (line a))) seen) (twice-new (seen ++ (var_of (literal_of (line a)) ∷ [])) xs)
    where
      go : (b : Bool)
          → twice_of t (seen ++ (var_of (literal_of (line a)) ∷ [])) (map line xs)
          ≡ cond (all_new (seen ++ (var_of (literal_of (line a)) ∷ [])) (heads (map line xs))) None (Some t)
          → or_else (cond b (Some t) None) (twice_of t (seen ++ (var_of (literal_of (line a)) ∷ [])) (map line xs))
          ≡ cond (not b && all_new (seen ++ (var_of (literal_of (line a)) ∷ [])) (heads (map line xs))) None (Some t)
      go true e = refl
      go false e = e

-- the first of tables 1, 2 and 4 whose variables are not all new
abbrev first_table : Bool → Bool → Bool → Option ℕ
first_table a b g = or_else (cond a None (Some 1)) (or_else (cond b None (Some 2)) (cond g None (Some 4)))

module _ (c : Circuit) where
  twice-tables : twice_in c
      ≡ first_table (all_new [] (vars c.inputs)) (all_new (vars c.inputs) (current_vars c.latches))
      (all_new (vars c.inputs ++ current_vars c.latches) (left_vars c.gates))
  twice-tables =
      ap₂ or_else (twice-new one_line 1 (λ seen a. refl) [] c.inputs)
      (ap₂ or_else (twice-new latch_line 2 (λ seen a. refl) (vars c.inputs) c.latches)
      (twice-new gate_line 4 (λ seen a. refl) (vars c.inputs ++ current_vars c.latches) c.gates))

  pub in-inputs : all_new [] (vars c.inputs) ≡ false → Some 1 ≡ twice_in c
  in-inputs a = sym (twice-tables ∙ rw a)

  pub in-latches : all_new [] (vars c.inputs) ≡ true → all_new (vars c.inputs) (current_vars c.latches) ≡ false → Some 2 ≡ twice_in c
  in-latches a b = sym (twice-tables ∙ rw (a, b))

  pub in-gates : all_new [] (vars c.inputs) ≡ true → all_new (vars c.inputs) (current_vars c.latches) ≡ true
      → all_new (vars c.inputs ++ current_vars c.latches) (left_vars c.gates) ≡ false → Some 4 ≡ twice_in c
  in-gates a b g = sym (twice-tables ∙ rw (a, b, g))

  pub nowhere : all_new [] (vars c.inputs) ≡ true → all_new (vars c.inputs) (current_vars c.latches) ≡ true
      → all_new (vars c.inputs ++ current_vars c.latches) (left_vars c.gates) ≡ true → None ≡ twice_in c
  nowhere a b g = sym (twice-tables ∙ rw (a, b, g))
