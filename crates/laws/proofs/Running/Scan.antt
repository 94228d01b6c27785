-- The order of new numbers, said by a scan of all gates in file order that starts again after every number; every gate gets one.
use Prim.Native.Nat.{ℕ, zero, suc, ◌≤◌}
use mathlib.Core.Path.{◌≡◌, refl, sym, ap, ap₂, ◌∙◌}
use mathlib.Core.Bool.{Bool, true, false, not, cond, ◌&&◌, ◌||◌, false≢true}
use mathlib.Core.List.{List, [], ◌∷◌, ◌++◌}
use Rattle.std.specs.Prelude.{Option, Some, None}
use native.Mathlib.Omega.{arith}
use borrow.Author.Tests.{eqb-false, ne_eqb}
use lib.Dec.{eqb}
use lib.ListN.{length}
use Rattle.plan.specs.Literals.{var_of}
use Rattle.plan.specs.Circuit.{Gate, Circuit, left_vars, has, leaves}
use Rattle.plan.specs.Convert.{ready, Picked, past, pick, order_by, order, sorted}
use Rattle.laws.proofs.Reading.Members.{has-self, has-later, has-not, distinct, pigeon}
use Rattle.laws.proofs.Reading.Cycles.{length-lefts}
use Rattle.laws.proofs.Running.Lists.{has_left, has_right, has-seam, has_rest, distinct_head, distinct_tail, distinct-right, apart}
use Rattle.laws.proofs.Running.Accepted.{Accepted}
use Rattle.laws.proofs.Running.Numbering.{order-length}
use Rattle.laws.proofs.Running.Converted.{gets-number}

-- the first gate in file order without a number whose right sides are numbered
abbrev pub scan : List ℕ → List Gate → Option Gate
scan o [] = None
scan o (g ∷ gs) = cond (not (has (var_of g.lhs) o) && ready o g) (Some g) (scan o gs)

abbrev pub scan_go : (List ℕ → List Gate) → List ℕ → Option Gate → List Gate
scan_go f o None = []
scan_go f o (Some g) = g ∷ f (o ++ (var_of g.lhs ∷ []))

abbrev pub scanned : List Gate → ℕ → List ℕ → List Gate
scanned all zero o = []
scanned all (suc k) o = scan_go (λ o'. scanned all k o') o (scan o all)

abbrev skip : Bool → Gate → List Gate → List Gate
skip true g gs = gs
skip false g gs = g ∷ gs

-- the gates still without a number
abbrev pub remaining : List ℕ → List Gate → List Gate
remaining o [] = []
remaining o (g ∷ gs) = skip (has (var_of g.lhs) o) g (remaining o gs)

pub has-snoc : (v x : ℕ) (o : List ℕ) → eqb x v ≡ false → has v (o ++ (x ∷ [])) ≡ has v o
has-snoc v x [] e = rw e
has-snoc v x (y ∷ o) e = ap (λ (t : Bool). eqb y v || t) (has-snoc v x o e)

remaining-same : (x : ℕ) (o : List ℕ) (gs : List Gate) → has x (left_vars gs) ≡ false → remaining (o ++ (x ∷ [])) gs ≡ remaining o gs
remaining-same x o [] h = refl
remaining-same x o (g ∷ gs) h = go (eqb (var_of g.lhs) x) refl h (remaining-same x o gs)
  where
    go : (t : Bool) → eqb (var_of g.lhs) x ≡ t → (t || has x (left_vars gs)) ≡ false
        → (has x (left_vars gs) ≡ false → remaining (o ++ (x ∷ [])) gs ≡ remaining o gs)
        → remaining (o ++ (x ∷ [])) (g ∷ gs) ≡ remaining o (g ∷ gs)
    go true e p f = absurd (false≢true (sym p))
    go false e p f =
        ap₂ (λ (t : Bool) (r : List Gate). skip t g r)
        (has-snoc (var_of g.lhs) x o (ne_eqb x (var_of g.lhs) (λ q. eqb-false (var_of g.lhs) x e (sym q)))) (f p)

abbrev ScanSays : List ℕ → List Gate → Option Picked → Type 0
ScanSays o gs None = scan o gs ≡ None
ScanSays o gs (Some q) =
    (scan o gs ≡ Some q.gate) × (has (var_of q.gate.lhs) (left_vars gs) ≡ true)
    × (q.rest ≡ remaining (o ++ (var_of q.gate.lhs ∷ [])) gs)

numbered-past : (o : List ℕ) (g : Gate) (gs : List Gate) → has (var_of g.lhs) o ≡ true → (r : Option Picked) → ScanSays o gs r
    → ScanSays o (g ∷ gs) r
numbered-past o g gs e None h = rw e h
numbered-past o g gs e (Some q) h = (
  rw e h.0,
  has-later (var_of q.gate.lhs) (var_of g.lhs) (left_vars gs) h.1,
  rw
      (has_left (var_of g.lhs) o (var_of q.gate.lhs ∷ []) e) h.2,
)

unready-past : (o : List ℕ) (g : Gate) (gs : List Gate) → distinct (left_vars (g ∷ gs)) ≡ true → has (var_of g.lhs) o ≡ false
    → ready o g ≡ false → (r : Option Picked) → ScanSays o gs r → ScanSays o (g ∷ gs) (past g r)
unready-past o g gs d e f None h = rw (e, f) h
unready-past o g gs d e f (Some q) h =
    let n : has (var_of g.lhs) (left_vars gs) ≡ false = distinct_head (var_of g.lhs) (left_vars gs) d in
    let x : eqb (var_of g.lhs) (var_of q.gate.lhs) ≡ false = has-not (var_of q.gate.lhs) (var_of g.lhs) (left_vars gs) n h.1 in
    let y : eqb (var_of q.gate.lhs) (var_of g.lhs) ≡ false
    = ne_eqb (var_of q.gate.lhs) (var_of g.lhs) (λ t. eqb-false (var_of g.lhs) (var_of q.gate.lhs) x (sym t)) in (
      rw (e, f) h.0,
      has-later (var_of q.gate.lhs) (var_of g.lhs) (left_vars gs) h.1,
      ap₂ (λ (t : Bool) (r : List Gate). skip t g r) (sym (has-snoc (var_of g.lhs) (var_of q.gate.lhs) o y ∙ e)) h.2,
    )

scan-says : (o : List ℕ) (gs : List Gate) → distinct (left_vars gs) ≡ true → ScanSays o gs (pick o (remaining o gs))
scan-says o [] d = refl
scan-says o (g ∷ gs) d = go (has (var_of g.lhs) o) refl (ready o g) refl (scan-says o gs (distinct_tail (var_of g.lhs) (left_vars gs) d))
  where
    go : (t : Bool) → has (var_of g.lhs) o ≡ t → (r : Bool) → ready o g ≡ r → ScanSays o gs (pick o (remaining o gs))
        → ScanSays o (g ∷ gs) (pick o (skip t g (remaining o gs)))
    go true e r f ih = numbered-past o g gs e (pick o (remaining o gs)) ih
    go false e true f ih = rw (f, pick) (
      ap₂ (λ (t r : Bool). cond (not t && r) (Some g) (scan o gs)) e f,
      has-self (var_of g.lhs) (left_vars gs),
      sym (ap (λ (t : Bool). skip t g (remaining (o ++ (var_of g.lhs ∷ [])) gs)) (has-seam (var_of g.lhs) o [])
          ∙ remaining-same (var_of g.lhs) o gs (distinct_head (var_of g.lhs) (left_vars gs) d)),
    )
    go false e false f ih = rw (f, pick) (unready-past o g gs d e f (pick o (remaining o gs)) ih)

pub scanned-order : (all : List Gate) → distinct (left_vars all) ≡ true → (k : ℕ) (o : List ℕ) → order k o (remaining o all) ≡ scanned all k o
scanned-order all d zero o = refl
scanned-order all d (suc k) o = go (pick o (remaining o all)) (scan-says o all d) (λ o'. scanned-order all d k o')
  where
    go : (r : Option Picked) → ScanSays o all r → ((o' : List ℕ) → order k o' (remaining o' all) ≡ scanned all k o')
        → order_by (λ o' gs'. order k o' gs') o r ≡ scan_go (λ o'. scanned all k o') o (scan o all)
    go None h ih = ap (scan_go (λ o'. scanned all k o') o) (sym h)
    go (Some q) h ih =
        let o' = o ++ (var_of q.gate.lhs ∷ []) in
        ap (λ (t : List Gate). q.gate ∷ t) (ap (order k o') h.2 ∙ ih o') ∙ ap (scan_go (λ p. scanned all k p) o) (sym h.0)

remaining-all : (o : List ℕ) (gs : List Gate) → ((v : ℕ) → has v (left_vars gs) ≡ true → has v o ≡ false) → remaining o gs ≡ gs
remaining-all o [] h = refl
remaining-all o (g ∷ gs) h =
    rw (h (var_of g.lhs) (has-self (var_of g.lhs) (left_vars gs)))
    (ap (λ (t : List Gate). g ∷ t) (remaining-all o gs (λ v k. h v (has-later v (var_of g.lhs) (left_vars gs) k))))

-- the two ways to say the order
pub sorted-scanned : (c : Circuit) → distinct (leaves c ++ left_vars c.gates) ≡ true
    → sorted c ≡ scanned c.gates (length c.gates) (leaves c)
sorted-scanned c d =
    ap (order (length c.gates) (leaves c)) (sym (remaining-all (leaves c) c.gates (apart (leaves c) (left_vars c.gates) d)))
    ∙ scanned-order c.gates (distinct-right (leaves c) (left_vars c.gates) d) (length c.gates) (leaves c)

-- every gate is retained
pub every-gate : (c : Circuit) → Accepted c → length (sorted c) ≡ length c.gates
every-gate c ok =
    omega (
      arith,
      order-length (length c.gates) (leaves c) c.gates,
      length-lefts c.gates,
      length-lefts (sorted c),
      pigeon (left_vars c.gates) (left_vars (sorted c)) (distinct-right (leaves c) (left_vars c.gates) ok.once)
          (λ v h. has_rest v (leaves c) (left_vars (sorted c)) (gets-number c ok v (has_right v (leaves c) (left_vars c.gates) h))
          (apart (leaves c) (left_vars c.gates) ok.once v h)),
    )

pub scanned-length : (all : List Gate) (k : ℕ) (o : List ℕ) → length (scanned all k o) ≤ k
scanned-length all zero o = omega arith
scanned-length all (suc k) o = go (scan o all) (λ o'. scanned-length all k o')
  where
    go : (r : Option Gate) → ((o' : List ℕ) → length (scanned all k o') ≤ k) → length (scan_go (λ o'. scanned all k o') o r) ≤ suc k
    go None ih = omega arith
    go (Some g) ih = omega (arith, ih (o ++ (var_of g.lhs ∷ [])))
