-- The order of new numbers: each gate is ready in its turn, no ready gate is left, every settled variable gets a number.
use Prim.Native.Nat.{ℕ, zero, suc, ◌≤◌}
use mathlib.Core.Path.{◌≡◌, refl, sym, ap, ◌∙◌, subst}
use mathlib.Core.Bool.{Bool, true, false, cond, false≢true}
use mathlib.Core.List.{List, [], ◌∷◌, ◌++◌, append-nil}
use Rattle.std.specs.Prelude.{Option, Some, None}
use native.Mathlib.Omega.{arith}
use native.Mathlib.Nat.{not-suc-le-zero}
use lib.ListN.{length}
use lib.Seq.{append_snoc}
use Rattle.plan.specs.Literals.{var_of}
use Rattle.plan.specs.Circuit.{Gate, left_vars, has}
use Rattle.plan.specs.Depends.{find, is_none, both, settled}
use Rattle.plan.specs.Convert.{ready, past, pick, Picked, order_by, order}
use Rattle.laws.proofs.Reading.Common.{and_left, and_right, and_intro}
use Rattle.laws.proofs.Running.Lists.{has-seam, has-but}
use Rattle.laws.proofs.Running.Found.{AllG, FindSays, find-says, Sides}
use Rattle.laws.proofs.Running.Renumber.{Readied}

-- what the pick gives: a ready gate, one of the list, and the others
record PickOk (o : List ℕ) (gs : List Gate) (q : Picked) : Type 1 where
  is-ready : ready o q.gate ≡ true
  size : length gs ≡ suc (length q.rest)
  part : (P : Gate → Type 0) → AllG P gs → P q.gate × AllG P q.rest
  whole : (P : Gate → Type 0) → P q.gate → AllG P q.rest → AllG P gs

abbrev PickSays : List ℕ → List Gate → Option Picked → Type 1
PickSays o gs None = (P : Gate → Type 0) → ((g : Gate) → ready o g ≡ false → P g) → AllG P gs
PickSays o gs (Some q) = PickOk o gs q

past-says : (o : List ℕ) (g : Gate) (gs : List Gate) → ready o g ≡ false → (r : Option Picked) → PickSays o gs r
    → PickSays o (g ∷ gs) (past g r)
past-says o g gs e None h = λ P f. (f g e, h P f)
past-says o g gs e (Some q) h = record {
  is-ready = h.is-ready;
  size = ap suc h.size;
  part = λ P a. let t = h.part P a.1 in (t.0, (a.0, t.1));
  whole = λ P x a. (a.0, h.whole P x a.1);
}

pick-says : (o : List ℕ) (gs : List Gate) → PickSays o gs (pick o gs)
pick-says o [] = λ P f. tt
pick-says o (g ∷ gs) = go (ready o g) refl (pick-says o gs)
  where
    go : (t : Bool) → ready o g ≡ t → PickSays o gs (pick o gs)
        → PickSays o (g ∷ gs) (cond t (Some (record { gate = g; rest = gs })) (past g (pick o gs)))
    go true e h = record { is-ready = e; size = refl; part = λ P a. (a.0, a.1); whole = λ P x a. (x, a) }
    go false e h = past-says o g gs e (pick o gs) h

-- the numbered gates: each is ready in its turn
pub order-readied : (k : ℕ) (o : List ℕ) (gs : List Gate) → Readied o (order k o gs)
order-readied zero o gs = tt
order-readied (suc k) o gs = go (λ o' gs'. order-readied k o' gs') (pick o gs) (pick-says o gs)
  where
    go : ((o' : List ℕ) (gs' : List Gate) → Readied o' (order k o' gs')) → (r : Option Picked) → PickSays o gs r
        → Readied o (order_by (λ o' gs'. order k o' gs') o r)
    go ih None h = tt
    go ih (Some q) h = (h.is-ready, ih (o ++ (var_of q.gate.lhs ∷ [])) q.rest)

pub order-all : (P : Gate → Type 0) (k : ℕ) (o : List ℕ) (gs : List Gate) → AllG P gs → AllG P (order k o gs)
order-all P zero o gs a = tt
order-all P (suc k) o gs a = go (λ o' gs' a'. order-all P k o' gs' a') (pick o gs) (pick-says o gs)
  where
    go : ((o' : List ℕ) (gs' : List Gate) → AllG P gs' → AllG P (order k o' gs')) → (r : Option Picked) → PickSays o gs r
        → AllG P (order_by (λ o' gs'. order k o' gs') o r)
    go ih None h = tt
    go ih (Some q) h = ((h.part P a).0, ih (o ++ (var_of q.gate.lhs ∷ [])) q.rest (h.part P a).1)

-- nothing ready is left without a number
abbrev pub Closed : List ℕ → Gate → Type 0
Closed f g = ready f g ≡ true → has (var_of g.lhs) f ≡ true

pub order-closed : (k : ℕ) (o : List ℕ) (gs : List Gate) → length gs ≤ k → AllG (Closed (o ++ left_vars (order k o gs))) gs
order-closed zero o [] h = tt
order-closed zero o (g ∷ gs) h = absurd (not-suc-le-zero h)
order-closed (suc k) o gs h = go (λ o' gs' h'. order-closed k o' gs' h') (pick o gs) (pick-says o gs)
  where
    go : ((o' : List ℕ) (gs' : List Gate) → length gs' ≤ k → AllG (Closed (o' ++ left_vars (order k o' gs'))) gs') → (r : Option Picked)
        → PickSays o gs r
        → AllG (Closed (o ++ left_vars (order_by (λ o' gs'. order k o' gs') o r))) gs
    go ih None t = rw (append-nil o) (t (Closed o) (λ g e p. absurd (false≢true (sym e ∙ p))))
    go ih (Some q) t =
        let x = var_of q.gate.lhs in
        let ys = left_vars (order k (o ++ (x ∷ [])) q.rest) in
        t.whole (Closed (o ++ (x ∷ ys))) (λ _. has-seam x o ys)
        (subst (λ (f : List ℕ). AllG (Closed f) q.rest) (append_snoc o x ys) (ih (o ++ (x ∷ [])) q.rest (omega (arith, t.size, h))))

pub order-length : (k : ℕ) (o : List ℕ) (gs : List Gate) → length (order k o gs) ≤ k
order-length zero o gs = omega arith
order-length (suc k) o gs = go (pick o gs) (λ o' gs'. order-length k o' gs')
  where
    go : (r : Option Picked) → ((o' : List ℕ) (gs' : List Gate) → length (order k o' gs') ≤ k)
        → length (order_by (λ o' gs'. order k o' gs') o r) ≤ suc k
    go None ih = omega arith
    go (Some q) ih = omega (arith, ih (o ++ (var_of q.gate.lhs ∷ [])) q.rest)

-- every settled variable has a number
module _ (gs : List Gate) (lv f : List ℕ) (leaf-in : (v : ℕ) → has v lv ≡ true → has v f ≡ true)
    (shut : AllG (Closed f) gs) (used : AllG (Sides (lv ++ left_vars gs)) gs) where
  pub complete : (k v : ℕ) → settled gs k v ≡ true → has v (lv ++ left_vars gs) ≡ true → has v f ≡ true
  complete zero v p d = go (find v gs) (find-says v gs) p
    where
      go : (r : Option Gate) → FindSays v gs r → is_none r ≡ true → has v f ≡ true
      go None h q = leaf-in v (has-but v lv (left_vars gs) d h.0)
      go (Some g) h q = absurd (false≢true q)
  complete (suc k) v p d = go (λ u q t. complete k u q t) (find v gs) (find-says v gs) p
    where
      go : ((u : ℕ) → settled gs k u ≡ true → has u (lv ++ left_vars gs) ≡ true → has u f ≡ true) → (r : Option Gate) → FindSays v gs r
          → both (λ u. settled gs k u) r ≡ true → has v f ≡ true
      go ih None h q = leaf-in v (has-but v lv (left_vars gs) d h.0)
      go ih (Some g) h q =
          let s = h.1 (Sides (lv ++ left_vars gs)) used in
          rw h.0 at (h.1 (Closed f) shut (and_intro (has (var_of g.rhs0) f) (has (var_of g.rhs1) f)
          (ih (var_of g.rhs0) (and_left (settled gs k (var_of g.rhs0)) (settled gs k (var_of g.rhs1)) q) s.0)
          (ih (var_of g.rhs1) (and_right (settled gs k (var_of g.rhs0)) (settled gs k (var_of g.rhs1)) q) s.1)))
