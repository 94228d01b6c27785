-- The marks of the pass, as codes from the latches' words and then from the inputs', are the bytes that the explainer writes.
use Prim.Native.Nat.{ℕ, zero, suc, ◌+◌, ◌≤◌, ◌<◌}
use mathlib.Core.Path.{◌≡◌, refl, sym, ap, ap₂, ◌∙◌}
use mathlib.Core.Bool.{Bool, true, false, cond}
use mathlib.Core.List.{List, [], ◌∷◌, ◌++◌, map, map-append}
use native.Mathlib.Omega.{arith}
use lib.ListN.{length, get_or, take}
use lib.Seq.{drop-cons}
use Rattle.plan.specs.declared.Counts.{Counts}
use Rattle.plan.specs.Literals.{var_of}
use Rattle.plan.specs.Circuit.{Gate, Circuit, Tables, circuit_of, vars, current_vars, nexts, has}
use Rattle.plan.specs.Step.{Value, code_of, values_of}
use Rattle.laws.proofs.Reading.Runs.{up_from, vars-lits, currents-latches, length-nexts, BinaryOrder}
use Rattle.laws.proofs.Tables.{gates_at, gates-rows}
use Rattle.step.specs.values.Words.{word, told, values_at}
use Rattle.plan.specs.Walk.{walk}
use Rattle.plan.specs.Explain.{blames, blamed, mark, marks_for}
use Rattle.explain.specs.Known.{Space, flag, Known}

code-flag : (b : Bool) → code_of (told (word (flag b))) ≡ cond b 49 48
code-flag true = refl
code-flag false = refl

-- k variables from `first` on
part-shown : (vs t : List ℕ) (m n : ℕ) → m + n ≤ length t → ((v : ℕ) → v < n → get_or t (m + v) 0 ≡ word (flag (has v vs)))
    → (k first at : ℕ) → at ≡ m + first → first + k ≤ n
    → map code_of (values_at t at k) ≡ map (mark vs) (up_from first k)
part-shown vs t m n long marks zero first at e h = refl
part-shown vs t m n long marks (suc k) first at e h =
    ap (λ (l : List ℕ). map code_of (map told (take (suc k) l))) (drop-cons t at 0 (omega arith))
    ∙ ap₂ (λ (x : ℕ) (l : List ℕ). x ∷ l)
    (ap (λ (q : ℕ). code_of (told (get_or t q 0))) e ∙ ap (λ (q : ℕ). code_of (told q)) (marks first (omega arith)) ∙ code-flag (has first vs))
    (part-shown vs t m n long marks k (suc first) (suc at) (omega arith) (omega arith))

module _ (c : Circuit) (b : BinaryOrder c) where
  latches-up : current_vars c.latches ≡ up_from (1 + length c.inputs) (length c.latches)
  latches-up =
      ap current_vars b.latches ∙ currents-latches (1 + length c.inputs) (nexts c.latches)
      ∙ ap (up_from (1 + length c.inputs)) (length-nexts c.latches)

  inputs-up : vars c.inputs ≡ up_from 1 (length c.inputs)
  inputs-up = ap vars b.inputs ∙ vars-lits 1 (length c.inputs)

  -- state first, then inputs
  pub marks-shown : (s i : List Value) (l lits m n : ℕ) (t : List ℕ) → length c.inputs + length c.latches < n → Space lits m n t
      → Known (values_of c s i) lits m n (blamed c s i l) t
      → map code_of (values_at t (m + (1 + length c.inputs)) (length c.latches)) ++ map code_of (values_at t (m + 1) (length c.inputs))
      ≡ marks_for c s i l
  marks-shown s i l lits m n t lt room k =
      let vs = blamed c s i l in
      ap₂ (λ (x y : List ℕ). x ++ y)
      (part-shown vs t m n room.long k.marks (length c.latches) (1 + length c.inputs) (m + (1 + length c.inputs)) refl (omega arith)
      ∙ ap (map (mark vs)) (sym latches-up))
      (part-shown vs t m n room.long k.marks (length c.inputs) 1 (m + 1) refl (omega arith) ∙ ap (map (mark vs)) (sym inputs-up))
      ∙ sym (map-append (mark vs) (current_vars c.latches) (vars c.inputs))

-- of the circuit in tables
pub blamed-is : (n : Counts) (x : Tables) (s i : List Value) (l : ℕ)
    → walk (blames (values_of (circuit_of n x) s i)) (gates_at x.gates n.A) (var_of l ∷ []) ≡ blamed (circuit_of n x) s i l
blamed-is n x s i l =
    ap (λ (gs : List Gate). walk (blames (values_of (circuit_of n x) s i)) gs (var_of l ∷ [])) (sym (gates-rows x.gates n.A))
