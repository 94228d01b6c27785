-- A converted circuit: its leaves are the first variables, its gates in binary order, and what it uses has a number.
use Prim.Native.Nat.{ℕ, suc, ◌+◌, ◌<◌}
use mathlib.Core.Path.{◌≡◌, refl, sym, ap, ap₂, ◌∙◌, subst}
use mathlib.Core.Bool.{true}
use mathlib.Core.List.{List, [], ◌∷◌, ◌++◌, map, append-nil}
use native.Mathlib.Omega.{arith}
use lib.ListN.{length, length-append, length-map}
use Rattle.plan.specs.Literals.{var_of}
use Rattle.plan.specs.Circuit.{Gate, Latch, Circuit, vars, current_vars, left_vars, nexts, has, leaves, index}
use Rattle.plan.specs.Convert.{sorted, numbered, renumber, renumber_gates, convert}
use Rattle.laws.proofs.Reading.Runs.{up_from, vars-lits, currents-latches, nexts-latches, length-lits, length-latches, length-nexts}
use Rattle.laws.proofs.Running.Lists.{index-front, all_in, in_head, in_tail}
use Rattle.laws.proofs.Running.Accepted.{Accepted}
use Rattle.laws.proofs.Running.Binary.{Binary, inner, Bounded, Ordered}
use Rattle.laws.proofs.Running.Upward.{leaves-up}
use Rattle.laws.proofs.Running.Renumber.{renumber-half, renumber_gates-binary}
use Rattle.laws.proofs.Running.Numbering.{order-readied}
use Rattle.laws.proofs.Running.Settled.{settled-numbered}

length-vars : (ls : List ℕ) → length (vars ls) ≡ length ls
length-vars [] = refl
length-vars (l ∷ ls) = ap suc (length-vars ls)

length-currents : (ls : List Latch) → length (current_vars ls) ≡ length ls
length-currents [] = refl
length-currents (l ∷ ls) = ap suc (length-currents ls)

pub length-renumber_gates : (o : List ℕ) (u : ℕ) (gs : List Gate) → length (renumber_gates o u gs) ≡ length (left_vars gs)
length-renumber_gates o u [] = refl
length-renumber_gates o u (g ∷ gs) = ap suc (length-renumber_gates o (suc u) gs)

pub length-leaves : (c : Circuit) → length (leaves c) ≡ inner c
length-leaves c =
    omega (arith, length-append (vars c.inputs) (current_vars c.latches), length-vars c.inputs, length-currents c.latches)

module _ (c : Circuit) where
  abbrev nexts' : List ℕ
  nexts' = map (renumber (numbered c)) (nexts c.latches)

  length-nexts' : length nexts' ≡ length c.latches
  length-nexts' = length-map (nexts c.latches) (renumber (numbered c)) ∙ length-nexts c.latches

  pub leaves-convert : leaves (convert c) ≡ up_from 0 (inner c)
  leaves-convert =
      leaves-up (convert c) (length c.inputs) (length c.latches) (vars-lits 1 (length c.inputs))
      (currents-latches (1 + length c.inputs) nexts' ∙ ap (up_from (1 + length c.inputs)) length-nexts')

  pub latches-convert : length (convert c).latches ≡ length c.latches
  latches-convert = length-latches (1 + length c.inputs) nexts' ∙ length-nexts'

  pub nexts-convert : nexts (convert c).latches ≡ nexts'
  nexts-convert = nexts-latches (1 + length c.inputs) nexts'

  pub inner-convert : inner (convert c) ≡ inner c
  inner-convert = ap₂ (λ (m n : ℕ). 1 + m + n) (length-lits 1 (length c.inputs)) latches-convert

  pub gates-binary : Binary (inner c) (convert c).gates
  gates-binary =
      rw (length-leaves c) at (renumber_gates-binary (numbered c) (leaves c) (sorted c)
      (order-readied (length c.gates) (leaves c) c.gates) refl)

  pub length-numbered : length (numbered c) ≡ inner c + length (convert c).gates
  length-numbered =
      length-append (leaves c) (left_vars (sorted c))
      ∙ ap₂ ◌+◌ (length-leaves c) (sym (length-renumber_gates (numbered c) (inner c) (sorted c)))

module _ (c : Circuit) (ok : Accepted c) where
  -- every used variable has a number
  pub gets-number : (v : ℕ) → has v (leaves c ++ left_vars c.gates) ≡ true → has v (numbered c) ≡ true
  gets-number v h = settled-numbered c ok.used-gate v h (ok.settles v)

  bounded : (ls : List ℕ) → all_in ls (leaves c ++ left_vars c.gates) ≡ true
      → Bounded (inner c + length (convert c).gates) (map (renumber (numbered c)) ls)
  bounded [] a = tt
  bounded (l ∷ ls) a =
      let h : has (var_of l) (numbered c) ≡ true = gets-number (var_of l) (in_head l ls (leaves c ++ left_vars c.gates) a) in
      let k : index (var_of l) (numbered c) < length (numbered c)
      = subst (λ (o : List ℕ). index (var_of l) o < length (numbered c)) (append-nil (numbered c))
      (index-front (var_of l) (numbered c) [] h) in
      (omega (arith, k, renumber-half (numbered c) l, length-numbered c), bounded ls (in_tail l ls (leaves c ++ left_vars c.gates) a))

  pub convert-ordered : Ordered (convert c)
  convert-ordered = record {
    gates-in = subst (λ (n : ℕ). Binary n (convert c).gates) (sym (inner-convert c)) (gates-binary c);
    next-in = subst (λ (n : ℕ). Bounded (n + length (convert c).gates) (nexts (convert c).latches)) (sym (inner-convert c))
        (rw (nexts-convert c) (bounded (nexts c.latches) ok.used-next));
    output-in = subst (λ (n : ℕ). Bounded (n + length (convert c).gates) (map (renumber (numbered c)) c.outputs))
        (sym (inner-convert c)) (bounded c.outputs ok.used-output);
    bad-in = subst (λ (n : ℕ). Bounded (n + length (convert c).gates) (map (renumber (numbered c)) c.bads))
        (sym (inner-convert c)) (bounded c.bads ok.used-bad);
    constraint-in = subst (λ (n : ℕ). Bounded (n + length (convert c).gates) (map (renumber (numbered c)) c.constraints))
        (sym (inner-convert c)) (bounded c.constraints ok.used-constraint);
  }
