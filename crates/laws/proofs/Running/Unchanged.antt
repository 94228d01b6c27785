-- On a circuit in binary order conversion changes nothing.
use Prim.Native.Nat.{ℕ, suc, ◌+◌, ◌≤◌, ◌<◌, min, max}
use mathlib.Core.Path.{◌≡◌, refl, sym, ap, ap₂, ◌∙◌}
use mathlib.Core.Bool.{Bool, true, cond}
use mathlib.Core.List.{List, [], ◌∷◌, ◌++◌, map}
use Rattle.std.specs.Prelude.{Some}
use native.Mathlib.Omega.{arith}
use lib.ListN.{length}
use Rattle.plan.specs.Literals.{lit_of, var_of}
use Rattle.plan.specs.Circuit.{Gate, Circuit, left_vars, nexts, has, index}
use Rattle.plan.specs.Reading.{WellFormed}
use Rattle.plan.specs.Binary.{latches_from, binary_order}
use Rattle.plan.specs.Convert.{ready, past, pick, order_by, order, sorted, numbered, renumber, gate_for, renumber_gates, convert}
use Rattle.laws.proofs.Reading.Common.{and_intro}
use Rattle.laws.proofs.Reading.Order.{InOrder}
use Rattle.laws.proofs.Reading.Runs.{up_from, up-append, lefts-gates, BinaryOrder, order-exactly}
use Rattle.laws.proofs.Running.Binary.{inner, Bounded}
use Rattle.laws.proofs.Running.Upward.{index-up, has-up, up-snoc}
use Rattle.laws.proofs.Running.InOrder.{leaves-order, well-ordered}
use Rattle.laws.proofs.Running.Resets.{resets-bounded}

order_same : (n : ℕ) (gs : List Gate) → InOrder n gs → order (length gs) (up_from 0 n) gs ≡ gs
order_same n [] b = refl
order_same n (g ∷ gs) b =
    ap (λ (t : Bool). order_by (λ o rest. order (length gs) o rest) (up_from 0 n)
    (cond t (Some (record { gate = g; rest = gs })) (past g (pick (up_from 0 n) gs)))) is-ready
    ∙ ap (λ (t : List Gate). g ∷ t) (ap (λ (o : List ℕ). order (length gs) o gs) (ap (λ (k : ℕ). up_from 0 n ++ (k ∷ [])) half ∙ up-snoc n)
    ∙ order_same (suc n) gs b.3)
  where
    half : var_of g.lhs ≡ n
    half = omega (arith, b.0)

    is-ready : ready (up_from 0 n) g ≡ true
    is-ready =
        and_intro (has (var_of g.rhs0) (up_from 0 n)) (has (var_of g.rhs1) (up_from 0 n))
        (has-up 0 n (var_of g.rhs0) (omega arith) (omega (arith, b.0, b.1)))
        (has-up 0 n (var_of g.rhs1) (omega arith) (omega (arith, b.0, b.1, b.2)))

renumber-same : (m l : ℕ) → var_of l < m → renumber (up_from 0 m) l ≡ l
renumber-same m l h =
    let p : 0 + var_of l ≡ var_of l = omega arith in
    let q : index (var_of l) (up_from 0 m) ≡ var_of l = ap (λ (k : ℕ). index k (up_from 0 m)) (sym p) ∙ index-up 0 m (var_of l) h in
    omega (arith, q)

literals-same : (m : ℕ) (ls : List ℕ) → Bounded m ls → map (renumber (up_from 0 m)) ls ≡ ls
literals-same m [] b = refl
literals-same m (l ∷ ls) b = ap₂ (λ (x : ℕ) (t : List ℕ). x ∷ t) (renumber-same m l b.0) (literals-same m ls b.1)

gates-same : (m n : ℕ) (gs : List Gate) → InOrder n gs → n + length gs ≤ m → renumber_gates (up_from 0 m) n gs ≡ gs
gates-same m n [] b h = refl
gates-same m n (g ∷ gs) b h = ap₂ (λ (x : Gate) (t : List Gate). x ∷ t) this (gates-same m (suc n) gs b.3 (omega arith))
  where
    p : renumber (up_from 0 m) g.rhs0 ≡ g.rhs0
    p = renumber-same m g.rhs0 (omega (arith, b.0, b.1))

    q : renumber (up_from 0 m) g.rhs1 ≡ g.rhs1
    q = renumber-same m g.rhs1 (omega (arith, b.0, b.1, b.2))

    hi : max (renumber (up_from 0 m) g.rhs0) (renumber (up_from 0 m) g.rhs1) ≡ g.rhs0
    hi = omega (arith, p, q, b.2)

    lo : min (renumber (up_from 0 m) g.rhs0) (renumber (up_from 0 m) g.rhs1) ≡ g.rhs1
    lo = omega (arith, p, q, b.2)

    l : lit_of n ≡ g.lhs
    l = sym b.0

    this : gate_for n (renumber (up_from 0 m) g.rhs0) (renumber (up_from 0 m) g.rhs1) ≡ g
    this = λ j. record { lhs = l j; rhs0 = hi j; rhs1 = lo j }

module _ (c : Circuit) (w : WellFormed c) (b : BinaryOrder c) where
  sorted-same : sorted c ≡ c.gates
  sorted-same = ap (λ (o : List ℕ). order (length c.gates) o c.gates) (leaves-order c b) ∙ order_same (inner c) c.gates b.gates

  numbered-same : numbered c ≡ up_from 0 (inner c + length c.gates)
  numbered-same =
      let p : inner c ≡ 0 + inner c = omega arith in
      ap₂ (λ (s t : List ℕ). s ++ t) (leaves-order c b) (ap left_vars sorted-same ∙ lefts-gates (inner c) c.gates b.gates)
      ∙ ap (λ (k : ℕ). up_from 0 (inner c) ++ up_from k (length c.gates)) p ∙ sym (up-append 0 (inner c) (length c.gates))

  used-same : (ls : List ℕ) → Bounded (inner c + length c.gates) ls → map (renumber (numbered c)) ls ≡ ls
  used-same ls k = ap (λ (o : List ℕ). map (renumber o) ls) numbered-same ∙ literals-same (inner c + length c.gates) ls k

  outputs-same : map (renumber (numbered c)) c.outputs ≡ c.outputs
  outputs-same = used-same c.outputs (well-ordered c b w).output-in

  bads-same : map (renumber (numbered c)) c.bads ≡ c.bads
  bads-same = used-same c.bads (well-ordered c b w).bad-in

  constraints-same : map (renumber (numbered c)) c.constraints ≡ c.constraints
  constraints-same = used-same c.constraints (well-ordered c b w).constraint-in

  resets-same : map (renumber (numbered c)) c.resets ≡ c.resets
  resets-same = used-same c.resets (resets-bounded c b w.resets)

  latches-same : latches_from (1 + length c.inputs) (map (renumber (numbered c)) (nexts c.latches)) ≡ c.latches
  latches-same =
      ap (latches_from (1 + length c.inputs)) (used-same (nexts c.latches) (well-ordered c b w).next-in)
      ∙ sym b.latches

  gates-kept : renumber_gates (numbered c) (inner c) (sorted c) ≡ c.gates
  gates-kept =
      ap₂ (λ (o : List ℕ) (gs : List Gate). renumber_gates o (inner c) gs) numbered-same sorted-same
      ∙ gates-same (inner c + length c.gates) (inner c) c.gates b.gates (omega arith)

pub convert-same : (c : Circuit) → WellFormed c → binary_order c ≡ true → convert c ≡ c
convert-same c w t =
    λ j. record {
      M = b.sum j;
      inputs = sym
          b.inputs j;
      latches = latches-same c w b j;
      resets = resets-same c w b j;
      outputs = outputs-same c w b j;
      bads = bads-same c w b j;
      constraints = constraints-same c w b j;
      gates = gates-kept c w b j;
    }
  where
    b : BinaryOrder c
    b = (order-exactly c).0 t
