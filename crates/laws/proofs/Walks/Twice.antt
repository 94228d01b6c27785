-- Every gate that is left is reached; so dropping unused gates twice changes nothing more.
use Prim.Native.Nat.{ℕ, suc, ◌+◌, ◌≤◌, min, max}
use mathlib.Core.Path.{◌≡◌, refl, sym, ap, ap₂, ◌∙◌, subst}
use mathlib.Core.Bool.{Bool, true, false, cond, false≢true}
use mathlib.Core.List.{List, [], ◌∷◌, ◌++◌, map}
use Rattle.std.specs.Prelude.{Some, None}
use native.Mathlib.Omega.{arith}
use native.Mathlib.Decide.{dec_le}
use borrow.Author.Tests.{eqb-true, eq-eqb, ne_eqb}
use lib.Dec.{eqb}
use lib.ListN.{length, length-append}
use lib.Seq.{append_snoc}
use Rattle.plan.specs.Literals.{lit_of, var_of}
use Rattle.plan.specs.Circuit.{Gate, Latch, Circuit, vars, left_vars, nexts, observed, roots, has, leaves, index}
use Rattle.plan.specs.Depends.{find}
use Rattle.plan.specs.Reading.{WellFormed}
use Rattle.plan.specs.Binary.{binary_order}
use Rattle.plan.specs.Convert.{renumber, gate_for, renumber_gates, convert}
use Rattle.laws.proofs.Reading.Members.{has-self, has-later, has-cases, distinct}
use Rattle.laws.proofs.Reading.Cycles.{none_of}
use Rattle.laws.proofs.Running.Lists.{apart}
use Rattle.laws.proofs.Running.Found.{AllG, all_map, or-none}
use Rattle.laws.proofs.Running.Accepted.{accepted}
use Rattle.laws.proofs.Running.GateValue.{gates-found}
use Rattle.laws.proofs.Running.Renumber.{renumber-half}
use Rattle.laws.proofs.Running.Converted.{length-leaves}
use Rattle.laws.proofs.Running.Unchanged.{convert-same}
use Rattle.plan.specs.Walk.{start, onward}
use Rattle.plan.specs.Drop.{Reached, reached, gates_of, used, left, latch_renumbered, close_gaps, drop_unused}
use Rattle.laws.proofs.Walks.Parts.{find-of, all_of, of-all}
use Rattle.laws.proofs.Walks.Used.{reached-exactly, used-well-formed}
use Rattle.laws.proofs.Walks.Dropped.{drop-converts, drop-in-order, drop-well-formed}

-- the place of a variable that the first part does not have
index-after : (u : ℕ) (p ys : List ℕ) → has u p ≡ false → index u (p ++ ys) ≡ length p + index u ys
index-after u [] ys h = omega arith
index-after u (x ∷ p) ys h =
    let t = or-none (eqb x u) (has u p) h in
    rw t.0 (ap suc (index-after u p ys t.1) ∙ omega arith)

index-seam : (u : ℕ) (p ys : List ℕ) → has u p ≡ false → index u (p ++ (u ∷ ys)) ≡ length p
index-seam u p ys h = index-after u p (u ∷ ys) h ∙ rw (eq-eqb u u refl) (omega arith)

length-snoc : (p : List ℕ) (x : ℕ) → length (p ++ (x ∷ [])) ≡ suc (length p)
length-snoc p x = length-append p (x ∷ []) ∙ omega arith

pub gate-left : (u : ℕ) (gs : List Gate) (g : Gate) → find u gs ≡ Some g → has u (left_vars gs) ≡ true
gate-left u gs g e = go (has u (left_vars gs)) refl
  where
    go : (t : Bool) → has u (left_vars gs) ≡ t → t ≡ true
    go true p = refl
    go false p = let q = sym (none_of u gs p) ∙ e in let z : ◌≡◌ {A = ℕ} 0 1 = cc in absurd (omega arith)

half : (n : ℕ) → var_of (lit_of n) ≡ n
half n = omega arith

module _ (o : List ℕ) where
  pub here-first : (p : List ℕ) (g : Gate) (gs : List Gate) → distinct (p ++ left_vars (g ∷ gs)) ≡ true → o ≡ p ++ left_vars (g ∷ gs)
      → index (var_of g.lhs) o ≡ length p
  here-first p g gs d e =
      ap (index (var_of g.lhs)) e
      ∙ index-seam (var_of g.lhs) p (left_vars gs) (apart p (left_vars (g ∷ gs)) d (var_of g.lhs) (has-self (var_of g.lhs) (left_vars gs)))

  -- the gate of a variable's new number
  pub found_at : (p : List ℕ) (gs : List Gate) → distinct (p ++ left_vars gs) ≡ true → o ≡ p ++ left_vars gs → (u : ℕ) (g : Gate) → find u gs ≡ Some g
      → find (index u o) (renumber_gates o (length p) gs) ≡ Some (gate_for (index u o) (renumber o g.rhs0) (renumber o g.rhs1))
  found_at p [] d e u g q = let z : ◌≡◌ {A = ℕ} 0 1 = cc in absurd (omega arith)
  found_at p (j ∷ gs) d e u g q =
      go (eqb (var_of j.lhs) u) refl q
      (found_at (p ++ (var_of j.lhs ∷ [])) gs (subst (λ (l : List ℕ). distinct l ≡ true) (sym snoc) d) (e ∙ sym snoc) u g)
    where
      snoc : (p ++ (var_of j.lhs ∷ [])) ++ left_vars gs ≡ p ++ (var_of j.lhs ∷ left_vars gs)
      snoc = append_snoc p (var_of j.lhs) (left_vars gs)

      this : ℕ → Gate
      this n = gate_for n (renumber o j.rhs0) (renumber o j.rhs1)

      go : (t : Bool) → eqb (var_of j.lhs) u ≡ t → cond t (Some j) (find u gs) ≡ Some g
          → (find u gs ≡ Some g → find (index u o) (renumber_gates o (length (p ++ (var_of j.lhs ∷ []))) gs)
          ≡ Some (gate_for (index u o) (renumber o g.rhs0) (renumber o g.rhs1)))
          → cond (eqb (var_of (lit_of (length p))) (index u o)) (Some (this (length p))) (find (index u o) (renumber_gates o (suc (length p)) gs))
          ≡ Some (gate_for (index u o) (renumber o g.rhs0) (renumber o g.rhs1))
      go true t q ih =
          let at : index u o ≡ length p = ap (λ (x : ℕ). index x o) (sym (eqb-true (var_of j.lhs) u t)) ∙ here-first p j gs d e in
          let same : j ≡ g = cc in
          ap (λ (b : Bool). cond b (Some (this (length p))) (find (index u o) (renumber_gates o (suc (length p)) gs)))
          (eq-eqb (var_of (lit_of (length p))) (index u o) (half (length p) ∙ sym at))
          ∙ ap₂ (λ (n : ℕ) (x : Gate). Some (gate_for n (renumber o x.rhs0) (renumber o x.rhs1))) (sym at) same
      go false t q ih =
          let out : has u (p ++ (var_of j.lhs ∷ [])) ≡ false
          = apart (p ++ (var_of j.lhs ∷ [])) (left_vars gs) (subst (λ (l : List ℕ). distinct l ≡ true) (sym snoc) d) u (gate-left u gs g q) in
          let at : index u o ≡ length (p ++ (var_of j.lhs ∷ [])) + index u (left_vars gs)
          = ap (index u) (e ∙ sym snoc) ∙ index-after u (p ++ (var_of j.lhs ∷ [])) (left_vars gs) out in
          ap (λ (b : Bool). cond b (Some (this (length p))) (find (index u o) (renumber_gates o (suc (length p)) gs)))
          (ne_eqb (var_of (lit_of (length p))) (index u o) (λ x. omega (arith, x, at, length-snoc p (var_of j.lhs))))
          ∙ ap (λ (n : ℕ). find (index u o) (renumber_gates o n gs)) (sym (length-snoc p (var_of j.lhs))) ∙ ih q

  -- what holds of the new number of each gate's variable
  pub all-renumbered : (Q : ℕ → Type 0) (p : List ℕ) (gs : List Gate) → distinct (p ++ left_vars gs) ≡ true → o ≡ p ++ left_vars gs
      → AllG (λ g. Q (index (var_of g.lhs) o)) gs → AllG (λ g. Q (var_of g.lhs)) (renumber_gates o (length p) gs)
  all-renumbered Q p [] d e a = tt
  all-renumbered Q p (g ∷ gs) d e a = (
    subst Q (here-first p g gs d e ∙ sym (half (length p))) a.0,
    subst (λ (n : ℕ). AllG (λ j. Q (var_of j.lhs)) (renumber_gates o n gs)) (length-snoc p (var_of g.lhs))
        (all-renumbered Q (p ++ (var_of g.lhs ∷ [])) gs
        (subst (λ (l : List ℕ). distinct l ≡ true) (sym (append_snoc p (var_of g.lhs) (left_vars gs))) d)
        (e ∙ sym (append_snoc p (var_of g.lhs) (left_vars gs))) a.1),
  )

-- roots under their new numbers
has-renumbered : (o : List ℕ) (ls : List ℕ) (v : ℕ) → has v (vars ls) ≡ true → has (index v o) (vars (map (renumber o) ls)) ≡ true
has-renumbered o [] v h = absurd (false≢true h)
has-renumbered o (l ∷ ls) v h =
    has-cases (has (index v o) (vars (map (renumber o) (l ∷ ls))) ≡ true) (var_of l) v (vars ls) h
    (λ e. subst (λ (x : ℕ). has x (vars (map (renumber o) (l ∷ ls))) ≡ true) (renumber-half o l ∙ ap (λ (x : ℕ). index x o) e)
    (has-self (var_of (renumber o l)) (vars (map (renumber o) ls))))
    (λ k. has-later (index v o) (var_of (renumber o l)) (vars (map (renumber o) ls)) (has-renumbered o ls v k))

map-append : (f : ℕ → ℕ) (xs ys : List ℕ) → map f xs ++ map f ys ≡ map f (xs ++ ys)
map-append f [] ys = refl
map-append f (x ∷ xs) ys = ap (λ (t : List ℕ). f x ∷ t) (map-append f xs ys)

nexts-renumbered : (o : List ℕ) (ls : List Latch) → nexts (map (latch_renumbered o) ls) ≡ map (renumber o) (nexts ls)
nexts-renumbered o [] = refl
nexts-renumbered o (l ∷ ls) = ap (λ (t : List ℕ). renumber o l.next ∷ t) (nexts-renumbered o ls)

roots-renumbered : (c : Circuit) → roots (close_gaps c) ≡ map (renumber (left c)) (roots c)
roots-renumbered c =
    let f = renumber (left c) in
    ap₂ (λ (x y : List ℕ). x ++ y) (nexts-renumbered (left c) c.latches)
    (ap (λ (x : List ℕ). map f c.outputs ++ x) (map-append f c.bads c.constraints) ∙ map-append f c.outputs (c.bads ++ c.constraints))
    ∙ map-append f (nexts c.latches) (observed c)

-- larger first, the two sides are the same two
larger-sides : (a b x : ℕ) → has x (var_of a ∷ var_of b ∷ []) ≡ true → has x (var_of (max a b) ∷ var_of (min a b) ∷ []) ≡ true
larger-sides a b x h = go (dec_le b a)
  where
    go : Dec (b ≤ a) → has x (var_of (max a b) ∷ var_of (min a b) ∷ []) ≡ true
    go (yes k) =
        let e : a ≡ max a b = omega arith in
        let f : b ≡ min a b = omega arith in
        subst (λ (m : ℕ). has x (var_of m ∷ var_of (min a b) ∷ []) ≡ true) e
        (subst (λ (m : ℕ). has x (var_of a ∷ var_of m ∷ []) ≡ true) f h)
    go (no k) =
        let e : b ≡ max a b = omega arith in
        let f : a ≡ min a b = omega arith in
        subst (λ (m : ℕ). has x (var_of m ∷ var_of (min a b) ∷ []) ≡ true) e
        (subst (λ (m : ℕ). has x (var_of b ∷ var_of m ∷ []) ≡ true) f
        (has-cases (has x (var_of b ∷ var_of a ∷ []) ≡ true) (var_of a) x (var_of b ∷ []) h
        (λ q. subst (λ (y : ℕ). has y (var_of b ∷ var_of a ∷ []) ≡ true) q (has-later (var_of a) (var_of b) (var_of a ∷ []) (has-self (var_of a) [])))
        (λ q. has-cases (has x (var_of b ∷ var_of a ∷ []) ≡ true) (var_of b) x [] q
        (λ r. subst (λ (y : ℕ). has y (var_of b ∷ var_of a ∷ []) ≡ true) r (has-self (var_of b) (var_of a ∷ [])))
        (λ r. absurd (false≢true r)))))

-- closing gaps keeps what is reached
module _ (c : Circuit) (once : distinct (left c) ≡ true) where
  pub gates-at : (close_gaps c).gates ≡ renumber_gates (left c) (length (leaves c)) c.gates
  gates-at = ap (λ (n : ℕ). renumber_gates (left c) n c.gates) (sym (length-leaves c))

  still-reached : {v : ℕ} → Reached c v → Reached (close_gaps c) (index v (left c))
  still-reached (start {v = v} h) =
      start (subst (λ (l : List ℕ). has (index v (left c)) (vars l) ≡ true) (sym (roots-renumbered c))
      (has-renumbered (left c) (roots c) v h))
  still-reached (onward {u = u} {v = v} {g = g} w e k) =
      onward (still-reached w)
      (ap (find (index u (left c))) gates-at ∙ found_at (left c) (leaves c) c.gates once refl u g e)
      (larger-sides (renumber (left c) g.rhs0) (renumber (left c) g.rhs1) (index v (left c))
      (has-renumbered (left c) (g.rhs0 ∷ g.rhs1 ∷ []) v k))

  all-still : AllG (λ g. Reached c (var_of g.lhs)) c.gates → AllG (λ g. Reached (close_gaps c) (var_of g.lhs)) (close_gaps c).gates
  all-still a =
      subst (λ (gs : List Gate). AllG (λ g. Reached (close_gaps c) (var_of g.lhs)) gs) (sym gates-at)
      (all-renumbered (left c) (Reached (close_gaps c)) (leaves c) c.gates once refl
      (all_map (λ g. Reached c (var_of g.lhs)) (λ g. Reached (close_gaps c) (index (var_of g.lhs) (left c))) (λ g r. still-reached r)
      c.gates a))

module _ (c : Circuit) (w : WellFormed c) (t : binary_order c ≡ true) where
  -- without the unused gates the others are reached as before
  used-reaches : {v : ℕ} → Reached c v → Reached (used c) v
  used-reaches (start h) = start h
  used-reaches (onward {u = u} {g = g} r e k) =
      onward (used-reaches r) (find-of u (reached c) c.gates
      ∙ ap (λ (b : Bool). cond b (find u c.gates) None) ((reached-exactly c w t u).1 r) ∙ e) k

  -- every gate that is left is reached
  pub all-reached : AllG (λ g. Reached (drop_unused c) (var_of g.lhs)) (drop_unused c).gates
  all-reached =
      all-still (used c) (accepted (used c) (used-well-formed c w t)).once
      (all_of (λ g. Reached (used c) (var_of g.lhs)) (reached c) c.gates
      (all_map (λ g. find (var_of g.lhs) c.gates ≡ Some g) _
      (λ g _ h. used-reaches ((reached-exactly c w t (var_of g.lhs)).0 h)) c.gates (gates-found c (accepted c w))))

-- a circuit of whose gates each is reached stays as it is
pub drop-same : (c : Circuit) → WellFormed c → binary_order c ≡ true → AllG (λ g. Reached c (var_of g.lhs)) c.gates → drop_unused c ≡ c
drop-same c w t a = drop-converts c w t ∙ ap convert same ∙ convert-same c w t
  where
    all : gates_of (reached c) c.gates ≡ c.gates
    all = of-all (reached c) c.gates (all_map (λ g. Reached c (var_of g.lhs)) (λ g. has (var_of g.lhs) (reached c) ≡ true)
        (λ g r. (reached-exactly c w t (var_of g.lhs)).1 r) c.gates a)

    same : used c ≡ c
    same = λ j. record {
      M = c.M;
      inputs = c.inputs;
      latches = c.latches;
      resets = c.resets;
      outputs = c.outputs;
      bads = c.bads;
      constraints = c.constraints;
      gates = all j;
    }

pub drop-again : (c : Circuit) → WellFormed c → binary_order c ≡ true → drop_unused (drop_unused c) ≡ drop_unused c
drop-again c w t = drop-same (drop_unused c) (drop-well-formed c w t) (drop-in-order c w t) (all-reached c w t)
