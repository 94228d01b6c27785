-- In binary order one sweep of the gates gives every value: what the stepper's loop does.
use Prim.Native.Nat.{ℕ, suc, ◌+◌, ◌≤◌, ◌<◌}
use mathlib.Core.Path.{◌≡◌, refl, sym, ap, ap₂, ◌∙◌, subst}
use mathlib.Core.Bool.{Bool, true, false}
use mathlib.Core.List.{List, [], ◌∷◌, ◌++◌}
use native.Mathlib.Omega.{arith}
use borrow.Author.Tests.{leb-true, leb-false}
use lib.Dec.{leb}
use lib.ListN.{length, get_or, length-append, get_or-append, get_or-eq_default}
use lib.Seq.{get_or-append_seam}
use Rattle.plan.specs.Literals.{var_of, sign_of}
use Rattle.plan.specs.Circuit.{Gate, Circuit}
use Rattle.plan.specs.Depends.{find}
use Rattle.plan.specs.Step.{Value, vx, and, signed_value, lit, gate_value, value_in, values_of}
use Rattle.laws.proofs.Reading.Runs.{BinaryOrder}
use Rattle.laws.proofs.Running.Values.{Solves, unique}
use Rattle.laws.proofs.Running.Signs.{lit-double}
use Rattle.laws.proofs.Running.Binary.{Binary, Holds, find_none, find-above, settled-binary, solves-in, inner}
use Rattle.laws.proofs.Running.Upward.{given, leaf-at}
use Rattle.laws.proofs.Running.InOrder.{order-binary, leaves-order}

-- the values of variables 0, 1 ..: each gate adds one
abbrev pub sweep : List Value → List Gate → List Value
sweep t [] = t
sweep t (g ∷ gs) = sweep (t ++ (and (lit (λ v. get_or t v vx) g.rhs0) (lit (λ v. get_or t v vx) g.rhs1) ∷ [])) gs

abbrev pub at : List Value → ℕ → Value
at t v = get_or t v vx

pub length-sweep : (t : List Value) (gs : List Gate) → length (sweep t gs) ≡ length t + length gs
length-sweep t [] = omega arith
length-sweep t (g ∷ gs) =
    let x = and (lit (at t) g.rhs0) (lit (at t) g.rhs1) in
    length-sweep (t ++ (x ∷ [])) gs ∙ omega (arith, length-append t (x ∷ []))

sweep-keeps : (t : List Value) (gs : List Gate) (v : ℕ) → v < length t → at (sweep t gs) v ≡ at t v
sweep-keeps t [] v h = refl
sweep-keeps t (g ∷ gs) v h =
    let x = and (lit (at t) g.rhs0) (lit (at t) g.rhs1) in
    sweep-keeps (t ++ (x ∷ [])) gs v (omega (arith, length-append t (x ∷ []))) ∙ get_or-append t (x ∷ []) vx v h

sweep-holds : (t : List Value) (gs : List Gate) → Binary (length t) gs → Holds (at (sweep t gs)) gs
sweep-holds t [] b = tt
sweep-holds t (g ∷ gs) b =
    (this, sweep-holds (t ++ (x ∷ [])) gs (subst (λ (n : ℕ). Binary n gs) (sym (length-append t (x ∷ []) ∙ one_more)) b.3))
  where
    x : Value
    x = and (lit (at t) g.rhs0) (lit (at t) g.rhs1)

    w : ℕ → Value
    w = at (sweep (t ++ (x ∷ [])) gs)

    one_more : length t + 1 ≡ suc (length t)
    one_more = omega arith

    old : (v : ℕ) → v < length t → w v ≡ at t v
    old v h = sweep-keeps (t ++ (x ∷ [])) gs v (omega (arith, length-append t (x ∷ []))) ∙ get_or-append t (x ∷ []) vx v h

    new : w (length t) ≡ x
    new = sweep-keeps (t ++ (x ∷ [])) gs (length t) (omega (arith, length-append t (x ∷ []))) ∙ get_or-append_seam t x [] vx

    this : lit w g.lhs ≡ and (lit w g.rhs0) (lit w g.rhs1)
    this =
        ap (lit w) b.0 ∙ lit-double w (length t) ∙ new
        ∙ ap₂ and (ap (signed_value (sign_of g.rhs0)) (sym (old (var_of g.rhs0) b.1)))
        (ap (signed_value (sign_of g.rhs1)) (sym (old (var_of g.rhs1) b.2)))

-- e: the leaves' values, as a list t
pub sweep-values : (t : List Value) (gs : List Gate) → Binary (length t) gs → (v : ℕ) → at (sweep t gs) v ≡ value_in gs (at t) (length gs) v
sweep-values t gs b v = unique gs (at t) (at (sweep t gs)) solves (length gs) v (settled-binary (length t) gs b v)
  where
    solves : Solves gs (at t) (at (sweep t gs))
    solves u = low (leb (length t) u) refl
      where
        high : (r : Bool) → leb (length t + length gs) u ≡ r → length t ≤ u
            → at (sweep t gs) u ≡ gate_value (at (sweep t gs)) (at t u) (find u gs)
        high false e h =
            solves-in (at (sweep t gs)) (at t u) (length t) gs b (sweep-holds t gs b) u h (leb-false (length t + length gs) u e)
        high true e h =
            let k : length t + length gs ≤ u = leb-true (length t + length gs) u e in
            get_or-eq_default (sweep t gs) vx {n = u} (omega (arith, length-sweep t gs)) ∙ sym (get_or-eq_default t vx {n = u} h)
            ∙ ap (gate_value (at (sweep t gs)) (at t u)) (sym (find-above (length t) gs b u k))

        low : (r : Bool) → leb (length t) u ≡ r → at (sweep t gs) u ≡ gate_value (at (sweep t gs)) (at t u) (find u gs)
        low true e = high (leb (length t + length gs) u) refl (leb-true (length t) u e)
        low false e =
            let h : u < length t = leb-false (length t) u e in
            sweep-keeps t gs u h ∙ ap (gate_value (at (sweep t gs)) (at t u)) (sym (find_none (length t) gs b u h))

-- a circuit in binary order: its leaves' values, and then one sweep
pub sweep-step : (c : Circuit) → BinaryOrder c → (s i : List Value) → length s ≡ length c.latches → length i ≡ length c.inputs
    → (v : ℕ) → at (sweep (given s i) c.gates) v ≡ values_of c s i v
sweep-step c b s i ls li v =
    sweep-values (given s i) c.gates (subst (λ (n : ℕ). Binary n c.gates) (sym count)
    (order-binary (inner c) c.gates b.gates)) v
    ∙ ap (λ (e : ℕ → Value). value_in c.gates e (length c.gates) v) (λ j u. sym (leaf-at c (inner c) s i (leaves-order c b) count u) j)
  where
    count : length (given s i) ≡ inner c
    count = omega (arith, length-append i s)
