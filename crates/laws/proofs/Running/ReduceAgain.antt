-- Reduction changes nothing where no gate can be replaced; so reducing again changes nothing.
use Prim.Native.Nat.{ℕ, zero, suc, ◌+◌, ◌≤◌, ◌<◌, min, max}
use mathlib.Core.Path.{◌≡◌, refl, sym, ap, ap₂, ◌∙◌}
use mathlib.Core.Bool.{true}
use mathlib.Core.List.{List, [], ◌∷◌, ◌++◌, map, append-nil}
use Rattle.std.specs.Prelude.{None}
use native.Mathlib.Omega.{arith}
use lib.ListN.{length}
use lib.Seq.{append_snoc}
use Rattle.plan.specs.Literals.{lit_of, var_of, sign_of, signed}
use Rattle.plan.specs.Circuit.{Gate, Latch, Circuit, nexts}
use Rattle.plan.specs.Reading.{WellFormed}
use Rattle.plan.specs.Binary.{lits_from, binary_order}
use Rattle.plan.specs.Reduce.{Reduced, becomes, twin, stand_in, retain, reduce_gate, reduce_gates, latch_becomes, reduce}
use Rattle.laws.proofs.Reading.Order.{InOrder}
use Rattle.laws.proofs.Reading.Runs.{BinaryOrder, order-exactly}
use Rattle.laws.proofs.Running.Binary.{inner, Bounded, Ordered}
use Rattle.laws.proofs.Running.Upward.{lits-at}
use Rattle.laws.proofs.Running.InOrder.{well-ordered}
use Rattle.laws.proofs.Running.Results.{reduce-in-order, reduce-well-formed}
use Rattle.laws.proofs.Running.Irreducible.{Plain, Free, plain-stand, reduce-free}

lits-snoc : (u k : ℕ) → lits_from u k ++ (lit_of (u + k) ∷ []) ≡ lits_from u (suc k)
lits-snoc u zero = let e : u + zero ≡ u = omega arith in ap (λ (x : ℕ). lit_of x ∷ []) e
lits-snoc u (suc k) =
    let e : u + suc k ≡ suc u + k = omega arith in
    ap (λ (x : ℕ). lit_of u ∷ (lits_from (suc u) k ++ (lit_of x ∷ []))) e ∙ ap (λ (x : List ℕ). lit_of u ∷ x) (lits-snoc (suc u) k)

-- a literal of a variable that became itself
sign-back : (l s : ℕ) → sign_of l ≡ s → signed s (lit_of (var_of l)) ≡ l
sign-back l zero e = omega arith
sign-back l (suc s) e = omega arith

becomes-self : (k l : ℕ) → var_of l < k → becomes (lits_from 0 k) l ≡ l
becomes-self k l h =
    let e : lit_of (0 + var_of l) ≡ lit_of (var_of l) = omega arith in
    ap (signed (sign_of l)) (lits-at 0 k (var_of l) h ∙ e) ∙ sign-back l (sign_of l) refl

become-selves : (k : ℕ) (ls : List ℕ) → Bounded k ls → map (becomes (lits_from 0 k)) ls ≡ ls
become-selves k [] b = refl
become-selves k (l ∷ ls) b = ap₂ (λ (x : ℕ) (y : List ℕ). x ∷ y) (becomes-self k l b.0) (become-selves k ls b.1)

latches-stay : (k : ℕ) (ls : List Latch) → Bounded k (nexts ls) → map (latch_becomes (lits_from 0 k)) ls ≡ ls
latches-stay k [] b = refl
latches-stay k (l ∷ ls) b =
    ap₂ (λ (x : ℕ) (y : List Latch). record { current = l.current; next = x } ∷ y) (becomes-self k l.next b.0)
    (latches-stay k ls b.1)

-- the state after gates that were all retained as they were: of k variables
abbrev kept : ℕ → List Gate → Reduced
kept k gs = record { became = lits_from 0 k; retained = gs; fresh = k }

one_kept : (k : ℕ) (ps : List Gate) (g : Gate) → g.lhs ≡ lit_of k → g.rhs0 < g.lhs → g.rhs1 ≤ g.rhs0 → Plain g.rhs0 g.rhs1
    → twin g.rhs0 g.rhs1 ps ≡ None
    → reduce_gate (kept k ps) (becomes (lits_from 0 k) g.rhs0) (becomes (lits_from 0 k) g.rhs1) ≡ kept (suc k) (ps ++ (g ∷ []))
one_kept k ps g l a b p t =
    let hi : max g.rhs0 g.rhs1 ≡ g.rhs0 = omega arith in
    let lo : min g.rhs0 g.rhs1 ≡ g.rhs1 = omega arith in
    let k-is : lit_of k ≡ lit_of (0 + k) = omega arith in
    let h0 : var_of g.rhs0 < k = omega arith in
    let h1 : var_of g.rhs1 < k = omega arith in
    let s : stand_in g.rhs0 g.rhs1 ps ≡ None
    = plain-stand g.rhs0 g.rhs1 ps p (ap₂ (λ (x y : ℕ). twin x y ps) hi lo ∙ t) in
    ap₂ (λ (x y : ℕ). reduce_gate (kept k ps) x y) (becomes-self k g.rhs0 h0) (becomes-self k g.rhs1 h1)
    ∙ (ap (retain (kept k ps) g.rhs0 g.rhs1) s
    ∙ λ i. record {
      became = (ap (λ (x : ℕ). lits_from 0 k ++ (x ∷ [])) k-is ∙ lits-snoc 0 k) i;
      retained = ps ++ (record { lhs = sym l i; rhs0 = hi i; rhs1 = lo i } ∷ []);
      fresh = suc k;
    })

all-kept : (k : ℕ) (ps gs : List Gate) → InOrder k gs → Free ps gs → reduce_gates (kept k ps) gs ≡ kept (k + length gs) (ps ++ gs)
all-kept k ps [] o f = let e : k ≡ k + 0 = omega arith in ap₂ kept e (sym (append-nil ps))
all-kept k ps (g ∷ gs) o f =
    let e : suc k + length gs ≡ k + suc (length gs) = omega arith in
    ap (λ (r : Reduced). reduce_gates r gs) (one_kept k ps g o.0 o.1 o.2 f.0.0 f.0.1)
    ∙ (all-kept (suc k) (ps ++ (g ∷ [])) gs o.3 f.1 ∙ ap₂ kept e (append_snoc ps g gs))

-- a circuit in binary order of whose gates none can be replaced
pub reduce-same : (c : Circuit) → WellFormed c → binary_order c ≡ true → Free [] c.gates → reduce c ≡ c
reduce-same c w t f =
    ap through (all-kept (inner c) [] c.gates b.gates f)
    ∙ λ i. record {
      M = b.sum i;
      inputs = c.inputs;
      latches = latches-stay (inner c + length c.gates) c.latches ordered.next-in i;
      resets = c.resets;
      outputs = become-selves (inner c + length c.gates) c.outputs ordered.output-in i;
      bads = become-selves (inner c + length c.gates) c.bads ordered.bad-in i;
      constraints = become-selves (inner c + length c.gates) c.constraints ordered.constraint-in i;
      gates = c.gates;
    }
  where
    b : BinaryOrder c
    b = (order-exactly c).0 t

    ordered : Ordered c
    ordered = well-ordered c b w

    through : Reduced → Circuit
    through r = record {
      M = length c.inputs + length c.latches + length r.retained;
      inputs = c.inputs;
      latches = map (latch_becomes r.became) c.latches;
      resets = c.resets;
      outputs = map (becomes r.became) c.outputs;
      bads = map (becomes r.became) c.bads;
      constraints = map (becomes r.became) c.constraints;
      gates = r.retained;
    }

pub reduce-again : (c : Circuit) → WellFormed c → binary_order c ≡ true → reduce (reduce c) ≡ reduce c
reduce-again c w t = reduce-same (reduce c) (reduce-well-formed c w t) (reduce-in-order c w t) (reduce-free c)
