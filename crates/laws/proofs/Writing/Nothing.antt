-- Stages of checks that find nothing: each of them finds nothing; 5 and 6 over given tables find nothing exactly if all is in its range
-- and each variable is defined once.
use Prim.Native.Nat.{ℕ, ◌+◌}
use mathlib.Core.Path.{◌≡◌, refl, sym, ap, ap₂, ◌∙◌}
use mathlib.Core.Bool.{Bool, true, false, not, cond, ◌&&◌}
use mathlib.Core.List.{List, [], ◌∷◌, ◌++◌, map}
use Rattle.std.specs.Prelude.{Result, Ok, Err, Option, Some, None}
use native.Mathlib.Omega.{arith}
use Rattle.plan.specs.declared.Refusal.{Refusal}
use Rattle.plan.specs.declared.Counts.{Counts}
use Rattle.plan.specs.Refusals.{stage, first_of}
use Rattle.plan.specs.Literals.{var_of, in_range}
use Rattle.plan.specs.Circuit.{Circuit, one_line, latch_line, gate_line, heads, vars, current_vars, left_vars, defined_in, has, all_new, inside, all_inside, resets_ok}
use Rattle.plan.specs.Bytes.{outside}
use Rattle.plan.specs.Given.{placed, or_else, failing_at, failing, outside_of, outside_in, twice_of, twice_in}
use Rattle.laws.proofs.Reading.Rows.{Long, map-long, new-both}

pub some-none : {A B : Type 0} (a : A) → ◌≡◌ {A = Option A} (Some a) None → B
some-none a e = let z : ◌≡◌ {A = ℕ} 0 1 = cc in absurd (omega arith)

-- an answer that is no refusal means that no stage refused: once for each kind of answer
pub stepped-none : (by : Option Refusal → Result Unit Refusal) → ((r : Refusal) → by (Some r) ≡ Err r) → (o : Option Refusal)
    → by o ≡ Ok tt → o ≡ None
stepped-none by refuses None a = refl
stepped-none by refuses (Some r) a =
    let same : Err r ≡ Ok tt = sym (refuses r) ∙ a in let z : ◌≡◌ {A = ℕ} 0 1 = cc in absurd (omega arith)

pub made_none : (by : Option Refusal → Result Counts Refusal) → ((r : Refusal) → by (Some r) ≡ Err r) → (o : Option Refusal) (n : Counts)
    → by o ≡ Ok n → o ≡ None
made_none by refuses None n a = refl
made_none by refuses (Some r) n a =
    let same : Err r ≡ Ok n = sym (refuses r) ∙ a in let z : ◌≡◌ {A = ℕ} 0 1 = cc in absurd (omega arith)

-- stages that find nothing
pub stage-none : (r : ℕ → Refusal) (o : Option ℕ) → stage r o ≡ None → o ≡ None
stage-none r None e = refl
stage-none r (Some k) e = some-none (r k) e

pub at_none : (t : ℕ) (b : Bool) → failing_at t b ≡ None → b ≡ true
at_none t true e = refl
at_none t false e = some-none t e

pub failing-none : (b : Bool) → failing b ≡ None → b ≡ true
failing-none b e = at_none 0 b e

abbrev pub AllNone : List (Option Refusal) → Type 0
AllNone [] = Unit {0}
AllNone (o ∷ os) = (o ≡ None) × AllNone os

pub first-all : (os : List (Option Refusal)) → first_of os ≡ None → AllNone os
first-all [] e = tt
first-all (None ∷ os) e = (refl, first-all os e)
first-all (Some r ∷ os) e = some-none r e

pub first-both : (os ps : List (Option Refusal)) → first_of (os ++ ps) ≡ None → (first_of os ≡ None) × (first_of ps ≡ None)
first-both [] ps e = (refl, e)
first-both (None ∷ os) ps e = first-both os ps e
first-both (Some r ∷ os) ps e = some-none r e

pub both_first : (os ps : List (Option Refusal)) → first_of os ≡ None → first_of (os ++ ps) ≡ first_of ps
both_first [] ps e = refl
both_first (None ∷ os) ps e = both_first os ps e
both_first (Some r ∷ os) ps e = some-none r e

pub some_first : (r : Refusal) (os ps : List (Option Refusal)) → first_of os ≡ Some r → first_of (os ++ ps) ≡ Some r
some_first r [] ps e = some-none r (sym e)
some_first r (None ∷ os) ps e = some_first r os ps e
some_first r (Some q ∷ os) ps e = e

pub one-stage : (o : Option Refusal) → first_of (o ∷ []) ≡ o
one-stage None = refl
one-stage (Some r) = refl

pub or-none : (a b : Option ℕ) → or_else a b ≡ None → (a ≡ None) × (b ≡ None)
or-none None b e = (refl, e)
or-none (Some k) b e = some-none k e

-- 5: a table's place stands for every literal in it
abbrev pub unless_all : Bool → ℕ → Option ℕ
unless_all b t = cond b None (Some t)

row-place : (t : ℕ) (d : Bool) (m : ℕ) (row : List ℕ) → outside d m (placed t row) ≡ unless_all (inside d m row) t
row-place t d m [] = refl
row-place t d m (l ∷ row) = go (in_range d m l) (row-place t false m row)
  where
    go : (b : Bool) → outside false m (placed t row) ≡ unless_all (inside false m row) t
        → cond b (outside false m (placed t row)) (Some t) ≡ unless_all (b && inside false m row) t
    go true e = e
    go false e = refl

pub rows-place : (t : ℕ) (d : Bool) (m : ℕ) (rows : List (List ℕ)) → outside_of t d m rows ≡ unless_all (all_inside d m rows) t
rows-place t d m [] = refl
rows-place t d m (row ∷ rows) =
    ap₂ or_else (row-place t d m row) (rows-place t d m rows) ∙ go (inside d m row) (all_inside d m rows)
  where
    go : (a b : Bool) → or_else (unless_all a t) (unless_all b t) ≡ unless_all (a && b) t
    go true b = refl
    go false b = refl

pub rows_inside : (t : ℕ) (d : Bool) (m : ℕ) (rows : List (List ℕ)) → outside_of t d m rows ≡ None → all_inside d m rows ≡ true
rows_inside t d m rows e = go (all_inside d m rows) (sym (rows-place t d m rows) ∙ e)
  where
    go : (b : Bool) → unless_all b t ≡ None → b ≡ true
    go true e = refl
    go false e = some-none t e

-- all literals of each table are in their ranges
pub record Inside (c : Circuit) : Type 0 where
  pub inputs : all_inside true c.M (map one_line c.inputs) ≡ true
  pub latches : all_inside true c.M (map latch_line c.latches) ≡ true
  pub outputs : all_inside false c.M (map one_line c.outputs) ≡ true
  pub gates : all_inside true c.M (map gate_line c.gates) ≡ true
  pub resets : resets_ok c.latches c.resets ≡ true
  pub bads : all_inside false c.M (map one_line c.bads) ≡ true
  pub constraints : all_inside false c.M (map one_line c.constraints) ≡ true

pub none_inside : (c : Circuit) → outside_in c ≡ None → Inside c
none_inside c e =
    let h1 = or-none _ _ e in
    let h2 = or-none _ _ h1.1 in
    let h3 = or-none _ _ h2.1 in
    let h4 = or-none _ _ h3.1 in
    let h7 = or-none _ _ h4.1 in
    let h8 = or-none _ _ h7.1 in
    record {
      inputs = rows_inside 1 true c.M (map one_line c.inputs) h1.0;
      latches = rows_inside 2 true c.M (map latch_line c.latches) h2.0;
      outputs = rows_inside 3 false c.M (map one_line c.outputs) h3.0;
      gates = rows_inside 4 true c.M (map gate_line c.gates) h4.0;
      resets = at_none 7 (resets_ok c.latches c.resets) h7.0;
      bads = rows_inside 8 false c.M (map one_line c.bads) h8.0;
      constraints = rows_inside 9 false c.M (map one_line c.constraints) h8.1;
    }

pub inside-none : (c : Circuit) → Inside c → outside_in c ≡ None
inside-none c h =
    ap₂ or_else (rows-place 1 true c.M (map one_line c.inputs))
    (ap₂ or_else (rows-place 2 true c.M (map latch_line c.latches))
    (ap₂ or_else (rows-place 3 false c.M (map one_line c.outputs))
    (ap₂ or_else (rows-place 4 true c.M (map gate_line c.gates))
    (ap₂ or_else (ap (failing_at 7) h.resets)
    (ap₂ or_else (rows-place 8 false c.M (map one_line c.bads))
    (rows-place 9 false c.M (map one_line c.constraints)))))))
    ∙ rw (h.inputs, h.latches, h.outputs, h.gates, h.bads, h.constraints)

-- 6: lines that define a variable each
none-new : (k t : ℕ) (seen : List ℕ) (rows : List (List ℕ)) → Long (1 + k) rows → twice_of t seen rows ≡ None
    → all_new seen (heads rows) ≡ true
none-new k t seen [] l e = refl
none-new k t seen ([] ∷ rows) l e = absurd (omega (arith, l.0))
none-new k t seen ((x ∷ row) ∷ rows) l e = go (has (var_of x) seen) (none-new k t (seen ++ (var_of x ∷ [])) rows l.1) e
  where
    go : (b : Bool) → (twice_of t (seen ++ (var_of x ∷ [])) rows ≡ None → all_new (seen ++ (var_of x ∷ [])) (heads rows) ≡ true)
        → or_else (cond b (Some t) None) (twice_of t (seen ++ (var_of x ∷ [])) rows) ≡ None
        → (not b && all_new (seen ++ (var_of x ∷ [])) (heads rows)) ≡ true
    go true f e = some-none t e
    go false f e = f e

pub once-different : (c : Circuit) → twice_in c ≡ None → all_new [] (defined_in c) ≡ true
once-different c e =
    let ins = vars c.inputs in
    let lats = current_vars c.latches in
    let h1 = or-none _ _ e in
    let h2 = or-none _ _ h1.1 in
    new-both [] ins (lats ++ left_vars c.gates)
    (none-new 0 1 [] (map one_line c.inputs) (map-long 1 one_line (λ a. refl) c.inputs) h1.0)
    (new-both ins lats (left_vars c.gates)
    (none-new 1 2 ins (map latch_line c.latches) (map-long 2 latch_line (λ a. refl) c.latches) h2.0)
    (none-new 2 4 (ins ++ lats) (map gate_line c.gates) (map-long 3 gate_line (λ a. refl) c.gates) h2.1))
