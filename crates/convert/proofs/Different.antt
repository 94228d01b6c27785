-- The variables in the order of their new numbers are all different: each number goes to a variable that has none.
use Prim.Native.Nat.{ℕ, zero, suc}
use mathlib.Core.Path.{◌≡◌, refl, sym, ap, ◌∙◌, subst}
use mathlib.Core.Bool.{Bool, true, false, not, cond, ◌&&◌, ◌||◌, false≢true}
use mathlib.Core.List.{List, [], ◌∷◌, ◌++◌, append-nil}
use Rattle.std.specs.Prelude.{Option, Some, None}
use native.Mathlib.Omega.{arith}
use borrow.Author.Tests.{eqb-false, not-true}
use lib.Dec.{eqb}
use lib.ListN.{length}
use lib.Seq.{append_snoc}
use Rattle.plan.specs.Literals.{var_of}
use Rattle.plan.specs.Circuit.{Gate, Circuit, left_vars, has, leaves}
use Rattle.plan.specs.Convert.{ready, numbered}
use Rattle.laws.proofs.Reading.Common.{and_left}
use Rattle.laws.proofs.Reading.Members.{has-cases, distinct}
use Rattle.laws.proofs.Running.Lists.{has_rest, absent, distinct_cons, distinct_head, distinct_tail, distinct-left}
use Rattle.laws.proofs.Running.Accepted.{Accepted}
use Rattle.laws.proofs.Running.Scan.{scan, scan_go, scanned, sorted-scanned}

-- a variable that is new, after variables that are all different
distinct_snoc : (xs : List ℕ) (v : ℕ) → distinct xs ≡ true → has v xs ≡ false → distinct (xs ++ (v ∷ [])) ≡ true
distinct_snoc [] v d h = refl
distinct_snoc (x ∷ xs) v d h = go (eqb x v) refl h (distinct_snoc xs v (distinct_tail x xs d))
  where
    go : (t : Bool) → eqb x v ≡ t → (t || has v xs) ≡ false → (has v xs ≡ false → distinct (xs ++ (v ∷ [])) ≡ true)
        → distinct (x ∷ (xs ++ (v ∷ []))) ≡ true
    go true e p f = absurd (false≢true (sym p))
    go false e p f =
        distinct_cons x (xs ++ (v ∷ []))
        (absent (has x (xs ++ (v ∷ []))) (λ q. has-cases ⊥ v x [] (has_rest x xs (v ∷ []) q (distinct_head x xs d))
        (λ s. eqb-false x v e (sym s)) (λ s. false≢true s))) (f p)

-- each number goes to a variable that has none
scan-new : (o : List ℕ) (gs : List Gate) (g : Gate) → scan o gs ≡ Some g → has (var_of g.lhs) o ≡ false
scan-new o [] g e = let z : ◌≡◌ {A = ℕ} 0 1 = cc in absurd (omega arith)
scan-new o (x ∷ gs) g e = go (not (has (var_of x.lhs) o) && ready o x) refl e (scan-new o gs g)
  where
    go : (t : Bool) → (not (has (var_of x.lhs) o) && ready o x) ≡ t → cond t (Some x) (scan o gs) ≡ Some g
        → (scan o gs ≡ Some g → has (var_of g.lhs) o ≡ false) → has (var_of g.lhs) o ≡ false
    go true q p f =
        let same : x ≡ g = cc in
        subst (λ (j : Gate). has (var_of j.lhs) o ≡ false) same
        (not-true (has (var_of x.lhs) o) (and_left (not (has (var_of x.lhs) o)) (ready o x) q))
    go false q p f = f p

scanned-distinct : (all : List Gate) (k : ℕ) (o : List ℕ) → distinct o ≡ true → distinct (o ++ left_vars (scanned all k o)) ≡ true
scanned-distinct all zero o d = rw (append-nil o) d
scanned-distinct all (suc k) o d = go (scan o all) refl (λ o' d'. scanned-distinct all k o' d')
  where
    go : (r : Option Gate) → scan o all ≡ r → ((o' : List ℕ) → distinct o' ≡ true → distinct (o' ++ left_vars (scanned all k o')) ≡ true)
        → distinct (o ++ left_vars (scan_go (λ o'. scanned all k o') o r)) ≡ true
    go None e ih = rw (append-nil o) d
    go (Some g) e ih =
        let v = var_of g.lhs in
        rw (← append_snoc o v (left_vars (scanned all k (o ++ (v ∷ [])))))
        (ih (o ++ (v ∷ [])) (distinct_snoc o v d (scan-new o all g e)))

pub numbered-distinct : (c : Circuit) → Accepted c → distinct (numbered c) ≡ true
numbered-distinct c ok =
    ap (λ (gs : List Gate). distinct (leaves c ++ left_vars gs)) (sorted-scanned c ok.once)
    ∙ scanned-distinct c.gates (length c.gates) (leaves c) (distinct-left (leaves c) (left_vars c.gates) ok.once)
