-- Gates dropped or retained one after the other give the circuit without its unused gates.
use Prim.Native.Nat.{ℕ, zero, suc, ◌+◌, ◌<◌}
use mathlib.Core.Path.{◌≡◌, refl, sym, ap, ap₂, ◌∙◌, subst}
use mathlib.Core.Bool.{Bool, true, false, cond, false≢true}
use mathlib.Core.List.{List, [], ◌∷◌, ◌++◌, map, append-nil}
use Rattle.std.specs.Prelude.{Some, None}
use native.Mathlib.Omega.{arith}
use lib.ListN.{length, get_or, length-append, get_or-append}
use lib.Seq.{append_snoc, get_or-append_seam}
use Rattle.plan.specs.Literals.{lit_of, var_of, sign_of, signed}
use Rattle.plan.specs.Circuit.{Gate, Latch, Circuit, left_vars, nexts, has, leaves, index}
use Rattle.plan.specs.Reading.{WellFormed}
use Rattle.plan.specs.Binary.{lits_from, binary_order}
use Rattle.plan.specs.Convert.{renumber, gate_for, renumber_gates}
use Rattle.plan.specs.Reduce.{Reduced, becomes, retain, latch_becomes}
use Rattle.laws.proofs.Reading.Common.{and_left, and_right}
use Rattle.laws.proofs.Reading.Members.{has-cases, distinct}
use Rattle.laws.proofs.Reading.Runs.{length-lits, up_from, BinaryOrder, order-exactly}
use Rattle.laws.proofs.Running.Lists.{has_rest, all_in, in_head, in_tail}
use Rattle.laws.proofs.Running.Accepted.{accepted}
use Rattle.laws.proofs.Running.Binary.{Binary, inner}
use Rattle.laws.proofs.Running.Upward.{lits-at}
use Rattle.laws.proofs.Running.InOrder.{order-binary, leaves-order}
use Rattle.laws.proofs.Running.Renumber.{Readied}
use Rattle.laws.proofs.Running.Converted.{length-leaves}
use Rattle.plan.specs.Drop.{reached, gates_of, used, left, latch_renumbered, drop_unused}
use Rattle.laws.proofs.Walks.Used.{used-well-formed}
use Rattle.laws.proofs.Walks.Dropped.{leaf-index, used-readied}
use Rattle.laws.proofs.Walks.Twice.{here-first}
use Rattle.laws.proofs.Walks.Later.{gates-dropped}
use Rattle.reduce.proofs.Reducing.{through}
use Rattle.drop.specs.Retained.{dropped, retain_gates}

-- a literal of a variable that became its number
numbered-signed : (s n : ℕ) → s < 2 → signed s (lit_of n) ≡ lit_of n + s
numbered-signed zero n h = omega arith
numbered-signed (suc s) n h = omega arith

becomes-number : (o m : List ℕ) (l : ℕ) → get_or m (var_of l) 0 ≡ lit_of (index (var_of l) o) → becomes m l ≡ renumber o l
becomes-number o m l e = ap (signed (sign_of l)) e ∙ numbered-signed (sign_of l) (index (var_of l) o) (omega arith)

-- what became of the variables p, which come first in o
pub record Numbers (o p : List ℕ) (n : ℕ) (r : Reduced) : Type 0 where
  pub size : length r.became ≡ n
  pub fresh : r.fresh ≡ length p
  pub low : (v : ℕ) → has v p ≡ true → v < n
  pub known : (v : ℕ) → has v p ≡ true → get_or r.became v 0 ≡ lit_of (index v o)

pub record Numbered (o p : List ℕ) (r r' : Reduced) (gs : List Gate) : Type 0 where
  pub retained : r'.retained ≡ r.retained ++ renumber_gates o (length p) gs
  pub all_known : (v : ℕ) → has v o ≡ true → get_or r'.became v 0 ≡ lit_of (index v o)

length-snoc : (p : List ℕ) (x : ℕ) → length (p ++ (x ∷ [])) ≡ suc (length p)
length-snoc p x = length-append p (x ∷ []) ∙ omega arith

-- one gate more
module _ (o p : List ℕ) (n : ℕ) (r : Reduced) (g : Gate) (lhs : var_of g.lhs ≡ n) (k : Numbers o p n r) where
  drop-one : (a b : ℕ) → Numbers o p (suc n) (retain r a b (Some 0))
  drop-one a b = record {
    size = length-append r.became (0 ∷ []) ∙ omega (arith, k.size);
    fresh = k.fresh;
    low = λ v h. omega (arith, k.low v h);
    known = λ v h. get_or-append r.became (0 ∷ []) 0 v (omega (arith, k.low v h, k.size)) ∙ k.known v h;
  }

  retain-one : (a b : ℕ) → index n o ≡ length p → Numbers o (p ++ (var_of g.lhs ∷ [])) (suc n) (retain r a b None)
  retain-one a b at = record {
    size = length-append r.became (lit_of r.fresh ∷ []) ∙ omega (arith, k.size);
    fresh = ap suc k.fresh ∙ sym (length-snoc p (var_of g.lhs));
    low = λ v h. old-or-new v h (v < suc n) (λ q. omega (arith, k.low v q)) (λ e. omega (arith, e, lhs));
    known = λ v h. old-or-new v h (get_or (retain r a b None).became v 0 ≡ lit_of (index v o))
        (λ q. get_or-append r.became (lit_of r.fresh ∷ []) 0 v (omega (arith, k.low v q, k.size)) ∙ k.known v q)
        (λ e. subst (λ (u : ℕ). get_or (retain r a b None).became u 0 ≡ lit_of (index u o)) (sym lhs ∙ e) newest);
  }
    where
      old-or-new : (v : ℕ) → has v (p ++ (var_of g.lhs ∷ [])) ≡ true → (C : Type 0) → (has v p ≡ true → C) → (var_of g.lhs ≡ v → C) → C
      old-or-new v h C f e = go (has v p) refl
        where
          go : (t : Bool) → has v p ≡ t → C
          go true q = f q
          go false q = has-cases C (var_of g.lhs) v [] (has_rest v p (var_of g.lhs ∷ []) h q) e (λ z. absurd (false≢true z))

      newest : get_or (retain r a b None).became n 0 ≡ lit_of (index n o)
      newest =
          ap (λ (i : ℕ). get_or (r.became ++ (lit_of r.fresh ∷ [])) i 0) (sym k.size) ∙ get_or-append_seam r.became (lit_of r.fresh) [] 0
          ∙ ap lit_of (k.fresh ∙ sym at)

-- all gates
numbers-all : (vs o p : List ℕ) (n : ℕ) (r : Reduced) (gs : List Gate) → Binary n gs → Readied p (gates_of vs gs)
    → distinct (p ++ left_vars (gates_of vs gs)) ≡ true → o ≡ p ++ left_vars (gates_of vs gs) → Numbers o p n r
    → Numbered o p r (retain_gates vs r gs) (gates_of vs gs)
numbers-all vs o p n r [] b y d e k = record {
  retained = sym (append-nil r.retained);
  all_known = λ v h. k.known v (subst (λ (l : List ℕ). has v l ≡ true) (e ∙ append-nil p) h);
}
numbers-all vs o p n r (g ∷ gs) b y d e k =
    go (has (var_of g.lhs) vs) refl y d e (λ q r'. numbers-all vs o q (suc n) r' gs b.3)
  where
    lhs : var_of g.lhs ≡ n
    lhs = omega (arith, b.0)

    next : Bool → Reduced
    next t = retain r (becomes r.became g.rhs0) (becomes r.became g.rhs1) (dropped t)

    go : (t : Bool) → has (var_of g.lhs) vs ≡ t → Readied p (cond t (g ∷ gates_of vs gs) (gates_of vs gs))
        → distinct (p ++ left_vars (cond t (g ∷ gates_of vs gs) (gates_of vs gs))) ≡ true
        → o ≡ p ++ left_vars (cond t (g ∷ gates_of vs gs) (gates_of vs gs))
        → ((q : List ℕ) (r' : Reduced) → Readied q (gates_of vs gs) → distinct (q ++ left_vars (gates_of vs gs)) ≡ true
        → o ≡ q ++ left_vars (gates_of vs gs) → Numbers o q (suc n) r' → Numbered o q r' (retain_gates vs r' gs) (gates_of vs gs))
        → Numbered o p r (retain_gates vs (next t) gs) (cond t (g ∷ gates_of vs gs) (gates_of vs gs))
    go false t y d e ih =
        let rest = ih p (next false) y d e (drop-one o p n r g lhs k (becomes r.became g.rhs0) (becomes r.became g.rhs1)) in
        record { retained = rest.retained; all_known = rest.all_known }
    go true t y d e ih =
        let x = var_of g.lhs in
        let snoc = append_snoc p x (left_vars (gates_of vs gs)) in
        let at : index n o ≡ length p = ap (λ (u : ℕ). index u o) (sym lhs) ∙ here-first o p g (gates_of vs gs) d e in
        let a = becomes-number o r.became g.rhs0 (k.known (var_of g.rhs0)
        (and_left (has (var_of g.rhs0) p) (has (var_of g.rhs1) p) y.0)) in
        let c = becomes-number o r.became g.rhs1 (k.known (var_of g.rhs1)
        (and_right (has (var_of g.rhs0) p) (has (var_of g.rhs1) p) y.0)) in
        let rest = ih (p ++ (x ∷ [])) (next true) y.1 (subst (λ (l : List ℕ). distinct l ≡ true) (sym snoc) d) (e ∙ sym snoc)
        (retain-one o p n r g lhs k (becomes r.became g.rhs0) (becomes r.became g.rhs1) at) in
        record {
          retained =
              rest.retained
              ∙ append_snoc r.retained (gate_for r.fresh (becomes r.became g.rhs0) (becomes r.became g.rhs1))
              (renumber_gates o (length (p ++ (x ∷ []))) (gates_of vs gs))
              ∙ ap (λ (l : List Gate). r.retained ++ l) (λ j. gate_for (k.fresh j) (a j) (c j)
              ∷ renumber_gates o (length-snoc p x j) (gates_of vs gs));
          all_known = rest.all_known;
        }

has-up-low : (u n v : ℕ) → has v (up_from u n) ≡ true → v < u + n
has-up-low u zero v h = absurd (false≢true h)
has-up-low u (suc n) v h =
    has-cases (v < u + suc n) u v (up_from (suc u) n) h (λ e. omega arith) (λ k. omega (arith, has-up-low (suc u) n v k))

lits-become : (o m : List ℕ) → ((v : ℕ) → has v o ≡ true → get_or m v 0 ≡ lit_of (index v o)) → (ls : List ℕ) → all_in ls o ≡ true
    → map (becomes m) ls ≡ map (renumber o) ls
lits-become o m k [] a = refl
lits-become o m k (l ∷ ls) a =
    ap₂ (λ (x : ℕ) (y : List ℕ). x ∷ y) (becomes-number o m l (k (var_of l) (in_head l ls o a))) (lits-become o m k ls (in_tail l ls o a))

latches-become : (o m : List ℕ) → ((v : ℕ) → has v o ≡ true → get_or m v 0 ≡ lit_of (index v o)) → (ls : List Latch) → all_in (nexts ls) o ≡ true
    → map (latch_becomes m) ls ≡ map (latch_renumbered o) ls
latches-become o m k [] a = refl
latches-become o m k (l ∷ ls) a =
    ap₂ (λ (x : ℕ) (y : List Latch). record { current = l.current; next = x } ∷ y)
    (becomes-number o m l.next (k (var_of l.next) (in_head l.next (nexts ls) o a))) (latches-become o m k ls (in_tail l.next (nexts ls) o a))

module _ (c : Circuit) (w : WellFormed c) (t : binary_order c ≡ true) where
  b : BinaryOrder c
  b = (order-exactly c).0 t

  abbrev pub folded : Reduced
  folded = retain_gates (reached c) (record { became = lits_from 0 (inner c); retained = []; fresh = inner c }) c.gates

  low : (v : ℕ) → has v (leaves c) ≡ true → v < inner c
  low v h = omega (arith, has-up-low 0 (inner c) v (subst (λ (l : List ℕ). has v l ≡ true) (leaves-order c b) h))

  begun : Numbers (left (used c)) (leaves c) (inner c) (record { became = lits_from 0 (inner c); retained = []; fresh = inner c })
  begun = record { size = length-lits 0 (inner c); fresh = sym (length-leaves c); low = low; known = known }
    where
      known : (v : ℕ) → has v (leaves c) ≡ true → get_or (lits_from 0 (inner c)) v 0 ≡ lit_of (index v (left (used c)))
      known v h = let z : 0 + v ≡ v = omega arith in lits-at 0 (inner c) v (low v h) ∙ ap lit_of (z ∙ sym (leaf-index c w t v (low v h)))

  pub all-numbered : Numbered (left (used c)) (leaves c) (record { became = lits_from 0 (inner c); retained = []; fresh = inner c }) folded (used c).gates
  all-numbered =
      numbers-all (reached c) (left (used c)) (leaves c) (inner c) (record { became = lits_from 0 (inner c); retained = []; fresh = inner c }) c.gates
      (order-binary (inner c) c.gates b.gates) (used-readied c w t) (accepted (used c) (used-well-formed c w t)).once refl begun

  retained-are : folded.retained ≡ (drop_unused c).gates
  retained-are = all-numbered.retained ∙ ap (λ (n : ℕ). renumber_gates (left (used c)) n (used c).gates) (length-leaves c)

  -- the fold gives the circuit without its unused gates
  pub drop-folds : through c folded ≡ drop_unused c
  drop-folds =
      let ok = accepted (used c) (used-well-formed c w t) in
      let size = ap length retained-are ∙ gates-dropped c in
      λ j. record {
        M = length c.inputs + length c.latches + size j;
        inputs = c.inputs;
        latches = latches-become (left (used c)) folded.became all-numbered.all_known c.latches ok.used-next j;
        resets = c.resets;
        outputs = lits-become (left (used c)) folded.became all-numbered.all_known c.outputs ok.used-output j;
        bads = lits-become (left (used c)) folded.became all-numbered.all_known c.bads ok.used-bad j;
        constraints = lits-become (left (used c)) folded.became all-numbered.all_known c.constraints ok.used-constraint j;
        gates = retained-are j;
      }
