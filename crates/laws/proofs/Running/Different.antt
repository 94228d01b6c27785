-- Refusal 6 over given tables: it finds nothing where each variable is defined once.
use Prim.Native.Nat.{ℕ}
use mathlib.Core.Path.{◌≡◌, refl, ap, ap₂}
use mathlib.Core.Bool.{Bool, true, false, not, cond}
use mathlib.Core.List.{List, [], ◌∷◌, ◌++◌, map}
use Rattle.std.specs.Prelude.{Option, Some, None}
use borrow.Author.Tests.{not-true}
use Rattle.plan.specs.Literals.{var_of}
use Rattle.plan.specs.Circuit.{Circuit, one_line, latch_line, gate_line, literal_of, heads, vars, current_vars, left_vars, defined_in, has, all_new}
use Rattle.plan.specs.Bytes.{twice}
use Rattle.plan.specs.Given.{placed, or_else, twice_of, twice_in}
use Rattle.laws.proofs.Reading.Common.{and_left, and_right}
use Rattle.laws.proofs.Reading.Rows.{new-first, new-second}

-- the first literal of a line is new, so the line defines nothing twice
once : (t : ℕ) (seen row : List ℕ) → has (var_of (literal_of row)) seen ≡ false → twice true seen (placed t row) ≡ None
once t seen [] h = refl
once t seen (l ∷ row) h = ap (λ (b : Bool). cond b (Some t) None) h

or-none : (a b : Option ℕ) → a ≡ None → b ≡ None → or_else a b ≡ None
or-none a b h k = ap₂ or_else h k

-- where the variables of lines are all new, no line is refused by 6
pub new-once : (t : ℕ) (seen : List ℕ) (rows : List (List ℕ)) → all_new seen (heads rows) ≡ true → twice_of t seen rows ≡ None
new-once t seen [] h = refl
new-once t seen (row ∷ rows) h =
    let v = var_of (literal_of row) in
    let more = all_new (seen ++ (v ∷ [])) (heads rows) in
    or-none (twice true seen (placed t row)) (twice_of t (seen ++ (v ∷ [])) rows)
    (once t seen row (not-true (has v seen) (and_left (not (has v seen)) more h)))
    (new-once t (seen ++ (v ∷ [])) rows (and_right (not (has v seen)) more h))

pub different-once : (c : Circuit) → all_new [] (defined_in c) ≡ true → twice_in c ≡ None
different-once c h =
    let ins = vars c.inputs in
    let lats = current_vars c.latches in
    let later = new-second [] ins (lats ++ left_vars c.gates) h in
    or-none _ _ (new-once 1 [] (map one_line c.inputs) (new-first [] ins (lats ++ left_vars c.gates) h))
    (or-none _ _ (new-once 2 ins (map latch_line c.latches) (new-first ins lats (left_vars c.gates) later))
    (new-once 4 (ins ++ lats) (map gate_line c.gates) (new-second ins lats (left_vars c.gates) later)))
