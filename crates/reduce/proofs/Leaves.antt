-- A constant, an input and a latch became themselves: a table of which a row starts with a leaf is replaced whole.
use Prim.Native.Nat.{ℕ, zero, suc, ◌+◌, ◌*◌, ◌%◌, ◌/◌, ◌<◌, ◌≤◌}
use mathlib.Core.Path.{◌≡◌, refl, sym, ap, ap₂, ◌∙◌}
use mathlib.Core.Bool.{true, false≢true}
use mathlib.Core.List.{List, [], ◌∷◌, map}
use Rattle.std.specs.Prelude.{Option, Some, None}
use native.Mathlib.Omega.{arith}
use lib.ListN.{length, get_or, take, length-append, get_or-append}
use lib.Seq.{get_or-take}
use Rattle.plan.specs.Literals.{lit_of, var_of, sign_of, neg_of, signed, is_reset}
use Rattle.plan.specs.Circuit.{Gate, Circuit, latch_line, flat, latch_of, rows_of, resets_ok}
use Rattle.plan.specs.Binary.{lits_from, latches_from}
use Rattle.plan.specs.Reduce.{Reduced, becomes, stand_in, retain, reduce_gate, reduce_gates, reduced, latch_becomes}
use Rattle.laws.proofs.Reading.Common.{and_left, and_right}
use Rattle.laws.proofs.Reading.Runs.{length-lits}
use Rattle.laws.proofs.Running.Binary.{inner, Bounded}
use Rattle.laws.proofs.Running.Upward.{lits-at}
use Rattle.laws.proofs.Running.Resets.{by-reset}

-- what variables became stays
retain-stays : (r : Reduced) (a b : ℕ) (o : Option ℕ) (v : ℕ) → v < length r.became
    → get_or (retain r a b o).became v 0 ≡ get_or r.became v 0
retain-stays r a b (Some l) v h = get_or-append r.became (l ∷ []) 0 v h
retain-stays r a b None v h = get_or-append r.became (lit_of r.fresh ∷ []) 0 v h

retain-longer : (r : Reduced) (a b : ℕ) (o : Option ℕ) → length r.became ≤ length (retain r a b o).became
retain-longer r a b (Some l) = omega (arith, length-append r.became (l ∷ []))
retain-longer r a b None = omega (arith, length-append r.became (lit_of r.fresh ∷ []))

stays : (r : Reduced) (gs : List Gate) (v : ℕ) → v < length r.became → get_or (reduce_gates r gs).became v 0 ≡ get_or r.became v 0
stays r [] v h = refl
stays r (g ∷ gs) v h =
    let a = becomes r.became g.rhs0 in
    let b = becomes r.became g.rhs1 in
    let o = stand_in a b r.retained in
    stays (reduce_gate r a b) gs v (omega (arith, retain-longer r a b o)) ∙ retain-stays r a b o v h

-- leaves, as literals
pub leaf-stays : (c : Circuit) (v : ℕ) → v < inner c → becomes (reduced c).became (lit_of v) ≡ lit_of v
leaf-stays c v h =
    let m = (reduced c).became in
    let start : Reduced = record { became = lits_from 0 (inner c); retained = []; fresh = inner c } in
    let plain : sign_of (lit_of v) ≡ 0 = even v in
    let own : var_of (lit_of v) ≡ v = half v in
    let same : lit_of (0 + v) ≡ lit_of v = omega arith in
    ap₂ (λ (s u : ℕ). signed s (get_or m u 0)) plain own
    ∙ stays start c.gates v (omega (arith, h, length-lits 0 (inner c))) ∙ lits-at 0 (inner c) v h ∙ same
  where
    even : (v : ℕ) → (2 * v) % 2 ≡ 0
    even v = omega arith

    half : (v : ℕ) → (2 * v) / 2 ≡ v
    half v = omega arith

-- the tables whose literals stay, up to variable k
module _ (m : List ℕ) (k : ℕ) (stay : (v : ℕ) → v < k → becomes m (lit_of v) ≡ lit_of v) where
  pub inputs-stay : (v n : ℕ) → v + n ≤ k → map (becomes m) (lits_from v n) ≡ lits_from v n
  inputs-stay v zero h = refl
  inputs-stay v (suc n) h = ap₂ (λ (l : ℕ) (ls : List ℕ). l ∷ ls) (stay v (omega arith)) (inputs-stay (suc v) n (omega arith))

  pub currents-stay : (v : ℕ) (ls : List ℕ) → v + length ls ≤ k
      → map (becomes m) (flat (map latch_line (latches_from v ls))) ≡ flat (map latch_line (map (latch_becomes m) (latches_from v ls)))
  currents-stay v [] h = refl
  currents-stay v (l ∷ ls) h =
      ap₂ (λ (x : ℕ) (xs : List ℕ). x ∷ becomes m l ∷ xs) (stay v (omega arith)) (currents-stay (suc v) ls (omega arith))

  -- a reset is a constant or its latch's own literal
  pub resets-stay : 0 < k → (v : ℕ) (ns rs : List ℕ) → resets_ok (latches_from v ns) rs ≡ true → v + length ns ≤ k → map (becomes m) rs ≡ rs
  resets-stay p v [] [] h q = refl
  resets-stay p v [] (r ∷ rs) h q = absurd (false≢true h)
  resets-stay p v (x ∷ ns) [] h q = absurd (false≢true h)
  resets-stay p v (x ∷ ns) (r ∷ rs) h q =
      ap₂ (λ (y : ℕ) (ys : List ℕ). y ∷ ys)
      (by-reset (lit_of v) r (λ (y : ℕ). becomes m y ≡ y) (and_left (is_reset (lit_of v) r) _ h) (stay 0 p) (ap neg_of (stay 0 p))
      (stay v (omega arith)))
      (resets-stay p (suc v) ns rs (and_right (is_reset (lit_of v) r) _ h) (omega arith))

-- and their bounds
pub lits-bounded : (k v n : ℕ) → v + n ≤ k → Bounded k (lits_from v n)
lits-bounded k v zero h = tt
lits-bounded k v (suc n) h = (omega arith, lits-bounded k (suc v) n (omega arith))

pub latches-bounded : (k v : ℕ) (ls : List ℕ) → v + length ls ≤ k → Bounded k ls → Bounded k (flat (map latch_line (latches_from v ls)))
latches-bounded k v [] h b = tt
latches-bounded k v (l ∷ ls) h b = (omega arith, (b.0, latches-bounded k (suc v) ls (omega arith) b.1))

pub bounded-more : (k j : ℕ) (ls : List ℕ) → k ≤ j → Bounded k ls → Bounded j ls
bounded-more k j [] h b = tt
bounded-more k j (l ∷ ls) h b = (omega (arith, b.0), bounded-more k j ls h b.1)

-- of a table of what became only the words of variables in use count
pub becomes-front : (t : List ℕ) (k : ℕ) (ls : List ℕ) → Bounded k ls → map (becomes t) ls ≡ map (becomes (take k t)) ls
becomes-front t k [] b = refl
becomes-front t k (l ∷ ls) b =
    ap₂ (λ (x : ℕ) (xs : List ℕ). x ∷ xs) (ap (signed (sign_of l)) (sym (get_or-take k t (var_of l) 0 b.0))) (becomes-front t k ls b.1)

-- a table of latches as its words
pub latches-words : (n : ℕ) (t : List ℕ) → 2 * n ≤ length t → take (2 * n) t ≡ flat (map latch_line (map latch_of (rows_of 2 n t)))
latches-words zero t h = refl
latches-words (suc n) [] h = absurd (omega arith)
latches-words (suc n) (x ∷ []) h = absurd (omega arith)
latches-words (suc n) (x ∷ y ∷ t) h =
    let e : 2 * suc n ≡ suc (suc (2 * n)) = omega arith in
    ap (λ (k : ℕ). take k (x ∷ y ∷ t)) e ∙ ap (λ (ls : List ℕ). x ∷ y ∷ ls) (latches-words n t (omega arith))
