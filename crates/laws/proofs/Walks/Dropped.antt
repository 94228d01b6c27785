-- Unused gates dropped and the gaps closed: the conversion of what is used. So it is well formed, in binary order, and steps alike.
use Prim.Native.Nat.{ℕ, zero, suc, ◌+◌, ◌≤◌, ◌<◌}
use mathlib.Core.Path.{◌≡◌, refl, sym, ap, ap₂, ◌∙◌, subst}
use mathlib.Core.Bool.{Bool, true, false, cond, ◌||◌, false≢true}
use mathlib.Core.Logic.{◌↔◌}
use mathlib.Core.List.Memᴰ
use mathlib.Core.List.{List, [], ◌∷◌, ◌++◌, map, Memᴰ}
use Rattle.std.specs.Prelude.{Some}
use native.Mathlib.Omega.{arith}
use native.Mathlib.Decide.{dec_lt}
use lib.Dec.{eqb}
use lib.ListN.{length}
use Rattle.plan.specs.Literals.{lit_of, var_of, is_reset}
use Rattle.plan.specs.Circuit.{Gate, Latch, Circuit, left_vars, nexts, has, resets_ok, leaves, index}
use Rattle.plan.specs.Depends.{find}
use Rattle.plan.specs.Reading.{WellFormed}
use Rattle.plan.specs.Binary.{latches_from, binary_order}
use Rattle.plan.specs.Convert.{past, pick, order_by, order, sorted, numbered, renumber, renumber_gates, convert}
use Rattle.plan.specs.Step.{Value, next_of, step_of, Step, run}
use Rattle.laws.proofs.Reading.Common.{and_left, and_right, and_intro}
use Rattle.laws.proofs.Reading.Runs.{length-nexts, up_from, BinaryOrder, order-exactly}
use Rattle.laws.proofs.Running.Lists.{has_left, has-seam}
use Rattle.laws.proofs.Running.Found.{AllG, all_map}
use Rattle.laws.proofs.Running.Accepted.{accepted}
use Rattle.laws.proofs.Running.GateValue.{gates-found}
use Rattle.laws.proofs.Running.Binary.{Binary, inner}
use Rattle.laws.proofs.Running.Upward.{index-up, has-up}
use Rattle.laws.proofs.Running.InOrder.{order-binary, leaves-order}
use Rattle.laws.proofs.Running.Renumber.{Readied}
use Rattle.laws.proofs.Running.Resets.{by-reset}
use Rattle.laws.proofs.Running.Results.{convert-in-order, convert-well-formed}
use Rattle.laws.proofs.Running.EachStep.{convert-step}
use Rattle.laws.proofs.Running.Runs.{Sized, next-length}
use Rattle.plan.specs.Drop.{Reached, reached, gates_of, used, left, latch_renumbered, drop_unused}
use Rattle.laws.proofs.Walks.Used.{reached-exactly, both-reached, used-well-formed, used_step}

-- gates each of which is ready in its turn are numbered in order
order-in-turn : (p : List ℕ) (gs : List Gate) → Readied p gs → order (length gs) p gs ≡ gs
order-in-turn p [] r = refl
order-in-turn p (g ∷ gs) r =
    ap (λ (t : Bool). order_by (λ o rest. order (length gs) o rest) p
    (cond t (Some (record { gate = g; rest = gs })) (past g (pick p gs)))) r.0
    ∙ ap (λ (t : List Gate). g ∷ t) (order-in-turn (p ++ (var_of g.lhs ∷ [])) gs r.1)

-- the gates of variables that hold the right sides of theirs are ready in their turn
readied-of : (vs p : List ℕ) (n : ℕ) (gs : List Gate) → Binary n gs
    → AllG (λ g. has (var_of g.lhs) vs ≡ true → (has (var_of g.rhs0) vs ≡ true) × (has (var_of g.rhs1) vs ≡ true)) gs
    → ((v : ℕ) → v < n → has v vs ≡ true → has v p ≡ true) → Readied p (gates_of vs gs)
readied-of vs p n [] b a h = tt
readied-of vs p n (g ∷ gs) b a h = go (has (var_of g.lhs) vs) refl (λ q. readied-of vs q (suc n) gs b.3 a.1)
  where
    lhs : var_of g.lhs ≡ n
    lhs = omega (arith, b.0)

    at_n : (q : List ℕ) → (has n vs ≡ true → has n q ≡ true) → ((v : ℕ) → v < n → has v vs ≡ true → has v q ≡ true)
        → (v : ℕ) → v < suc n → has v vs ≡ true → has v q ≡ true
    at_n q f k v lt e = below (dec_lt v n)
      where
        below : Dec (v < n) → has v q ≡ true
        below (yes r) = k v r e
        below (no r) =
            let same : n ≡ v = omega arith in
            subst (λ (x : ℕ). has x q ≡ true) same (f (subst (λ (x : ℕ). has x vs ≡ true) (sym same) e))

    go : (t : Bool) → has (var_of g.lhs) vs ≡ t
        → ((q : List ℕ) → ((v : ℕ) → v < suc n → has v vs ≡ true → has v q ≡ true) → Readied q (gates_of vs gs))
        → Readied p (cond t (g ∷ gates_of vs gs) (gates_of vs gs))
    go true e later = (
      and_intro (has (var_of g.rhs0) p) (has (var_of g.rhs1) p) (h (var_of g.rhs0) b.1 (a.0 e).0) (h (var_of g.rhs1) b.2 (a.0 e).1),
      later (p ++ (var_of g.lhs ∷ []))
          (at_n (p ++ (var_of g.lhs ∷ [])) (λ _. subst (λ (x : ℕ). has x (p ++ (var_of g.lhs ∷ [])) ≡ true) lhs (has-seam (var_of g.lhs) p []))
          (λ v k f. has_left v p (var_of g.lhs ∷ []) (h v k f))),
    )
    go false e later = later p (at_n p (λ f. absurd (false≢true (sym e ∙ subst (λ (x : ℕ). has x vs ≡ true) (sym lhs) f))) h)

latches-close : (os : List ℕ) (v : ℕ) (ls : List ℕ) → map (latch_renumbered os) (latches_from v ls) ≡ latches_from v (map (renumber os) ls)
latches-close os v [] = refl
latches-close os v (l ∷ ls) = ap (λ (t : List Latch). record { current = lit_of v; next = renumber os l } ∷ t) (latches-close os (suc v) ls)

-- a number given in the first part is the place there
index-left : (v : ℕ) (xs ys : List ℕ) → has v xs ≡ true → index v (xs ++ ys) ≡ index v xs
index-left v [] ys h = absurd (false≢true h)
index-left v (x ∷ xs) ys h = go (eqb x v) h (index-left v xs ys)
  where
    go : (t : Bool) → (t || has v xs) ≡ true → (has v xs ≡ true → index v (xs ++ ys) ≡ index v xs)
        → cond t zero (suc (index v (xs ++ ys))) ≡ cond t zero (suc (index v xs))
    go true p f = refl
    go false p f = ap suc (f p)

-- a reset is a constant or its latch's own literal: it stays where those do
resets-close : (os : List ℕ) (k : ℕ) → ((v : ℕ) → v < k → index v os ≡ v) → 0 < k → (v : ℕ) (ns rs : List ℕ)
    → resets_ok (latches_from v ns) rs ≡ true → v + length ns ≤ k → map (renumber os) rs ≡ rs
resets-close os k stay p v [] [] h q = refl
resets-close os k stay p v [] (r ∷ rs) h q = absurd (false≢true h)
resets-close os k stay p v (x ∷ ns) [] h q = absurd (false≢true h)
resets-close os k stay p v (x ∷ ns) (r ∷ rs) h q =
    ap₂ (λ (y : ℕ) (ys : List ℕ). y ∷ ys)
    (by-reset (lit_of v) r (λ (y : ℕ). renumber os y ≡ y) (and_left (is_reset (lit_of v) r) _ h) (omega (arith, stay 0 p)) (omega (arith, stay 0 p)) own)
    (resets-close os k stay p (suc v) ns rs (and_right (is_reset (lit_of v) r) _ h) (omega arith))
  where
    half : var_of (lit_of v) ≡ v
    half = omega arith

    own : renumber os (lit_of v) ≡ lit_of v
    own = omega (arith, ap (λ (u : ℕ). index u os) half, stay v (omega arith))

module _ (c : Circuit) (w : WellFormed c) (t : binary_order c ≡ true) where
  b : BinaryOrder c
  b = (order-exactly c).0 t

  -- a leaf's number is its own
  pub leaf-index : (v : ℕ) → v < inner c → index v (left (used c)) ≡ v
  leaf-index v h =
      let z : 0 + v ≡ v = omega arith in
      let there : has v (leaves c) ≡ true
      = subst (λ (l : List ℕ). has v l ≡ true) (sym (leaves-order c b)) (has-up 0 (inner c) v (omega arith) (omega arith)) in
      index-left v (leaves c) (left_vars (used c).gates) there ∙ ap (index v) (leaves-order c b)
      ∙ ap (λ (u : ℕ). index u (up_from 0 (inner c))) (sym z) ∙ index-up 0 (inner c) v h

  pub used-readied : Readied (leaves c) (used c).gates
  used-readied =
      readied-of (reached c) (leaves c) (inner c) c.gates (order-binary (inner c) c.gates b.gates)
      (all_map (λ g. find (var_of g.lhs) c.gates ≡ Some g) _ (λ g e h. both-reached c w t (var_of g.lhs) g e h) c.gates
      (gates-found c (accepted c w)))
      (λ v h _. subst (λ (l : List ℕ). has v l ≡ true) (sym (leaves-order c b)) (has-up 0 (inner c) v (omega arith) (omega arith)))

  -- conversion numbers the gates that are left in order
  pub used-sorted : sorted (used c) ≡ (used c).gates
  used-sorted = order-in-turn (leaves c) (used c).gates used-readied

  -- dropped and closed is what is used, converted
  pub drop-converts : drop_unused c ≡ convert (used c)
  drop-converts = sym (λ j. record {
    M = length c.inputs + length c.latches + length (used c).gates;
    inputs = sym b.inputs j;
    latches = lats j;
    resets = resets-stay j;
    outputs = map (renumber (same j)) c.outputs;
    bads = map (renumber (same j)) c.bads;
    constraints = map (renumber (same j)) c.constraints;
    gates = renumber_gates (same j) (inner c) (used-sorted j);
  })
    where
      same : numbered (used c) ≡ left (used c)
      same = ap (λ (gs : List Gate). leaves c ++ left_vars gs) used-sorted

      lats : latches_from (1 + length c.inputs) (map (renumber (numbered (used c))) (nexts c.latches))
          ≡ map (latch_renumbered (left (used c))) c.latches
      lats =
          ap (λ (os : List ℕ). latches_from (1 + length c.inputs) (map (renumber os) (nexts c.latches))) same
          ∙ sym (latches-close (left (used c)) (1 + length c.inputs) (nexts c.latches))
          ∙ ap (map (latch_renumbered (left (used c)))) (sym b.latches)

      resets-stay : map (renumber (numbered (used c))) c.resets ≡ c.resets
      resets-stay =
          ap (λ (os : List ℕ). map (renumber os) c.resets) same
          ∙ resets-close (left (used c)) (inner c) leaf-index (omega arith) (1 + length c.inputs) (nexts c.latches) c.resets
          (ap (λ (ls : List Latch). resets_ok ls c.resets) (sym b.latches) ∙ w.resets) (omega (arith, length-nexts c.latches))

  pub drop-in-order : binary_order (drop_unused c) ≡ true
  drop-in-order = ap binary_order drop-converts ∙ convert-in-order (used c) (used-well-formed c w t)

  pub drop-well-formed : WellFormed (drop_unused c)
  drop-well-formed = subst WellFormed (sym drop-converts) (convert-well-formed (used c) (used-well-formed c w t))

  -- it retains exactly the reached gates
  pub retains-exactly : (g : Gate) → Memᴰ g (used c).gates ↔ (Memᴰ g c.gates × Reached c (var_of g.lhs))
  retains-exactly g = (λ m. out c.gates m, λ m. into c.gates m.0 ((reached-exactly c w t (var_of g.lhs)).1 m.1))
    where
      out : (gs : List Gate) → Memᴰ g (gates_of (reached c) gs) → Memᴰ g gs × Reached c (var_of g.lhs)
      out [] m = absurd (Memᴰ.not-nil m)
      out (j ∷ gs) m = go (has (var_of j.lhs) (reached c)) refl m (out gs)
        where
          go : (r : Bool) → has (var_of j.lhs) (reached c) ≡ r → Memᴰ g (cond r (j ∷ gates_of (reached c) gs) (gates_of (reached c) gs))
              → (Memᴰ g (gates_of (reached c) gs) → Memᴰ g gs × Reached c (var_of g.lhs))
              → Memᴰ g (j ∷ gs) × Reached c (var_of g.lhs)
          go true e (Memᴰ.head p) ih =
              (Memᴰ.head p, (reached-exactly c w t (var_of g.lhs)).0 (subst (λ (x : Gate). has (var_of x.lhs) (reached c) ≡ true) (sym p) e))
          go true e (Memᴰ.tail p) ih = let r = ih p in (Memᴰ.tail r.0, r.1)
          go false e p ih = let r = ih p in (Memᴰ.tail r.0, r.1)

      into : (gs : List Gate) → Memᴰ g gs → has (var_of g.lhs) (reached c) ≡ true → Memᴰ g (gates_of (reached c) gs)
      into [] m h = absurd (Memᴰ.not-nil m)
      into (j ∷ gs) (Memᴰ.head p) h =
          subst (λ (r : Bool). Memᴰ g (cond r (j ∷ gates_of (reached c) gs) (gates_of (reached c) gs)))
          (sym (ap (λ (x : Gate). has (var_of x.lhs) (reached c)) (sym p) ∙ h)) (Memᴰ.head p)
      into (j ∷ gs) (Memᴰ.tail p) h = go (has (var_of j.lhs) (reached c)) (into gs p h)
        where
          go : (r : Bool) → Memᴰ g (gates_of (reached c) gs) → Memᴰ g (cond r (j ∷ gates_of (reached c) gs) (gates_of (reached c) gs))
          go true m = Memᴰ.tail m
          go false m = m

  -- each output, next state, bad state and constraint has the same value at every step, in three values
  module _ (s i : List Value) (ls : length s ≡ length c.latches) (li : length i ≡ length c.inputs) where
    pub drop-step : step_of (drop_unused c) s i ≡ step_of c s i
    drop-step =
        ap (λ (d : Circuit). step_of d s i) drop-converts ∙ convert-step (used c) (used-well-formed c w t) s i ls li
        ∙ used_step c w t s i

  pub drop-run : (is : List (List Value)) → Sized (length c.inputs) is → (s : List Value) → length s ≡ length c.latches
      → run (drop_unused c) s is ≡ run c s is
  drop-run [] z s h = refl
  drop-run (i ∷ is) z s h =
      let one = drop-step s i h z.0 in
      let next : next_of (drop_unused c) s i ≡ next_of c s i = ap (λ (x : Step). x.next) one in
      let rest : run (drop_unused c) (next_of (drop_unused c) s i) is ≡ run c (next_of c s i) is
      = ap (λ (x : List Value). run (drop_unused c) x is) next ∙ drop-run is z.1 (next_of c s i) (next-length c s i) in
      ap₂ (λ (x : Step) (y : List Step). x ∷ y) one rest
