-- The first gate in file order that gets no number is the one that 8 names.
use Prim.Native.Nat.{ℕ}
use mathlib.Core.Path.{◌≡◌, refl, sym, ap, ap₂, ◌∙◌}
use mathlib.Core.Bool.{Bool, true, false, cond, false≢true}
use mathlib.Core.List.{List, [], ◌∷◌, ◌++◌}
use Rattle.std.specs.Prelude.{Option, Some, None}
use native.Mathlib.Omega.{arith}
use lib.ListN.{length}
use Rattle.plan.specs.Literals.{var_of}
use Rattle.plan.specs.Circuit.{Gate, Circuit, left_vars, rights, has, leaves}
use Rattle.plan.specs.Depends.{settled, first_stuck, cyclic_in}
use Rattle.plan.specs.Convert.{numbered}
use Rattle.laws.proofs.Reading.Members.{has-self, has-later, distinct}
use Rattle.laws.proofs.Running.Lists.{has_right, all_in}
use Rattle.laws.proofs.Running.Settled.{numbered-settled, settled-numbered}
use Rattle.laws.proofs.Running.Scan.{scanned, sorted-scanned}

-- the left variable of the first gate that is not in o
abbrev pub first_out : List ℕ → List Gate → Option ℕ
first_out o [] = None
first_out o (g ∷ gs) = cond (has (var_of g.lhs) o) (first_out o gs) (Some (var_of g.lhs))

pub out-append-none : (o : List ℕ) (gs hs : List Gate) → first_out o gs ≡ None → first_out o (gs ++ hs) ≡ first_out o hs
out-append-none o [] hs e = refl
out-append-none o (g ∷ gs) hs e = go (has (var_of g.lhs) o) e (out-append-none o gs hs)
  where
    go : (b : Bool) → cond b (first_out o gs) (Some (var_of g.lhs)) ≡ None → (first_out o gs ≡ None → first_out o (gs ++ hs) ≡ first_out o hs)
        → cond b (first_out o (gs ++ hs)) (Some (var_of g.lhs)) ≡ first_out o hs
    go true p f = f p
    go false p f = absurd (let z : ◌≡◌ {A = ℕ} 0 1 = cc in omega arith)

pub out-append-some : (o : List ℕ) (gs hs : List Gate) (v : ℕ) → first_out o gs ≡ Some v → first_out o (gs ++ hs) ≡ Some v
out-append-some o [] hs v e = absurd (let z : ◌≡◌ {A = ℕ} 0 1 = cc in omega arith)
out-append-some o (g ∷ gs) hs v e = go (has (var_of g.lhs) o) e (out-append-some o gs hs v)
  where
    go : (b : Bool) → cond b (first_out o gs) (Some (var_of g.lhs)) ≡ Some v → (first_out o gs ≡ Some v → first_out o (gs ++ hs) ≡ Some v)
        → cond b (first_out o (gs ++ hs)) (Some (var_of g.lhs)) ≡ Some v
    go true p f = f p
    go false p f = p

-- what is in o is what settles
out-stuck : (o : List ℕ) (all gs : List Gate) → ((v : ℕ) → has v (left_vars gs) ≡ true → has v o ≡ settled all (length all) v)
    → first_out o gs ≡ first_stuck all gs
out-stuck o all [] h = refl
out-stuck o all (g ∷ gs) h =
    ap₂ (λ (b : Bool) (r : Option ℕ). cond b r (Some (var_of g.lhs))) (h (var_of g.lhs) (has-self (var_of g.lhs) (left_vars gs)))
    (out-stuck o all gs (λ v k. h v (has-later v (var_of g.lhs) (left_vars gs) k)))

module _ (c : Circuit) (once : distinct (leaves c ++ left_vars c.gates) ≡ true)
    (used : all_in (rights c.gates) (leaves c ++ left_vars c.gates) ≡ true) where
  settled_is : (v : ℕ) → has v (leaves c ++ left_vars c.gates) ≡ true → has v (numbered c) ≡ settled c.gates (length c.gates) v
  settled_is v h = go (has v (numbered c)) refl (settled c.gates (length c.gates) v) refl
    where
      go : (x : Bool) → has v (numbered c) ≡ x → (y : Bool) → settled c.gates (length c.gates) v ≡ y → x ≡ y
      go true e y q = sym (sym q ∙ numbered-settled c once v e)
      go false e true q = absurd (false≢true (sym e ∙ settled-numbered c used v h q))
      go false e false q = refl

  -- the place of 8, by the scan
  pub cyclic-out : cyclic_in c ≡ first_out (leaves c ++ left_vars (scanned c.gates (length c.gates) (leaves c))) c.gates
  cyclic-out =
      sym (ap (λ (q : List Gate). first_out (leaves c ++ left_vars q) c.gates) (sym (sorted-scanned c once))
      ∙ out-stuck (numbered c) c.gates c.gates (λ v k. settled_is v (has_right v (leaves c) (left_vars c.gates) k)))
