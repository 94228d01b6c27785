-- The scan over a table of gates; the numbers given so far, and the rest of the order, which is still to come.
use Prim.Native.Nat.{ℕ, zero, suc, ◌+◌, ◌-◌, ◌<◌, ◌≤◌}
use mathlib.Core.Path.{◌≡◌, refl, sym, ap, ◌∙◌, subst}
use mathlib.Core.Bool.{Bool, true, false, not, cond, ◌&&◌}
use mathlib.Core.List.{List, [], ◌∷◌, ◌++◌, append-nil}
use Rattle.std.specs.Prelude.{Option, Some, None}
use native.Mathlib.Omega.{arith}
use native.Mathlib.Nat.{not-suc-le-zero}
use borrow.Author.Tests.{eqb-true, eqb-false, not-true}
use lib.Dec.{eqb}
use lib.ListN.{length, set, length-append}
use lib.Seq.{append_snoc}
use Rattle.plan.specs.Literals.{var_of}
use Rattle.plan.specs.Circuit.{Gate, left_vars, has}
use Rattle.plan.specs.Convert.{ready}
use Rattle.laws.proofs.Reading.Common.{and_left}
use Rattle.laws.proofs.Running.Scan.{scan, scan_go, scanned}
use Rattle.laws.proofs.Tables.{gate_at, gates_at}
use Rattle.judge.specs.order.Numbers.{ready_t, NumTable, InRange}
use Rattle.judge.proofs.order.Numbering.{Starts, ready-has, numtable-more, starts-append}

-- the scan
abbrev test : List ℕ → Gate → Bool
test o g = not (has (var_of g.lhs) o) && ready o g

scan-append-none : (o : List ℕ) (gs : List Gate) (g : Gate) → scan o gs ≡ None → scan o (gs ++ (g ∷ [])) ≡ cond (test o g) (Some g) None
scan-append-none o [] g h = refl
scan-append-none o (x ∷ gs) g h = go (test o x) h (scan-append-none o gs g)
  where
    go : (t : Bool) → cond t (Some x) (scan o gs) ≡ None → (scan o gs ≡ None → scan o (gs ++ (g ∷ [])) ≡ cond (test o g) (Some g) None)
        → cond t (Some x) (scan o (gs ++ (g ∷ []))) ≡ cond (test o g) (Some g) None
    go true p f = absurd (no-some (sym p))
      where
        no-some : ◌≡◌ {A = Option Gate} None (Some x) → ⊥
        no-some q = let z : ◌≡◌ {A = ℕ} 0 1 = cc in omega arith
    go false p f = f p

scan-append-some : (o : List ℕ) (gs hs : List Gate) (g : Gate) → scan o gs ≡ Some g → scan o (gs ++ hs) ≡ Some g
scan-append-some o [] hs g h = absurd (let z : ◌≡◌ {A = ℕ} 0 1 = cc in omega arith)
scan-append-some o (x ∷ gs) hs g h = go (test o x) h (scan-append-some o gs hs g)
  where
    go : (t : Bool) → cond t (Some x) (scan o gs) ≡ Some g → (scan o gs ≡ Some g → scan o (gs ++ hs) ≡ Some g)
        → cond t (Some x) (scan o (gs ++ hs)) ≡ Some g
    go true p f = p
    go false p f = f p

pub scan-none : (o t : List ℕ) (a : ℕ) → ((i : ℕ) → i < a → test o (gate_at t i) ≡ false) → scan o (gates_at t a) ≡ None
scan-none o t zero h = refl
scan-none o t (suc a) h =
    scan-append-none o (gates_at t a) (gate_at t a) (scan-none o t a (λ i k. h i (omega arith))) ∙ ap
    (λ (b : Bool). cond b (Some (gate_at t a)) None) (h a (omega arith))

pub scan-some : (o t : List ℕ) (a j : ℕ) → j < a → ((i : ℕ) → i < j → test o (gate_at t i) ≡ false) → test o (gate_at t j) ≡ true
    → scan o (gates_at t a) ≡ Some (gate_at t j)
scan-some o t zero j h n y = absurd (not-suc-le-zero h)
scan-some o t (suc a) j h n y = go (eqb j a) refl (λ q. scan-some o t a j q n y)
  where
    go : (b : Bool) → eqb j a ≡ b → (j < a → scan o (gates_at t a) ≡ Some (gate_at t j))
        → scan o (gates_at t a ++ (gate_at t a ∷ [])) ≡ Some (gate_at t j)
    go true e ih =
        subst (λ (m : ℕ). scan o (gates_at t m ++ (gate_at t m ∷ [])) ≡ Some (gate_at t j)) (eqb-true j a e)
        (scan-append-none o (gates_at t j) (gate_at t j) (scan-none o t j n) ∙ ap (λ (b : Bool). cond b (Some (gate_at t j)) None) y)
    go false e ih = scan-append-some o (gates_at t a) (gate_at t a ∷ []) (gate_at t j) (ih (omega (arith, eqb-false j a e)))

-- the outer loop: o is numbered, and what is left of the order is still to come
pub record Going (gates lv num : List ℕ) (a next k : ℕ) : Type 0 where
  pub o : List ℕ
  pub table : NumTable o num
  pub long : length o ≡ next
  pub starts : Starts o
  pub rest : o ++ left_vars (scanned (gates_at gates a) (a - k) o) ≡ lv ++ left_vars (scanned (gates_at gates a) a lv)

abbrev pub Final : List ℕ → List ℕ → List ℕ → ℕ → Type 0
Final gates lv num a = NumTable (lv ++ left_vars (scanned (gates_at gates a) a lv)) num

pub going_end : (gates lv num : List ℕ) (a next k : ℕ) → a ≤ k → Going gates lv num a next k → Final gates lv num a
going_end gates lv num a next k h r =
    let z : a - k ≡ 0 = omega arith in
    subst (λ (p : List ℕ). NumTable p num)
    (sym (append-nil r.o) ∙ ap (λ (m : ℕ). r.o ++ left_vars (scanned (gates_at gates a) m r.o)) (sym z) ∙ r.rest) r.table

scanned-none : (all : List Gate) (m : ℕ) (o : List ℕ) → scan o all ≡ None → scanned all m o ≡ []
scanned-none all zero o h = refl
scanned-none all (suc m) o h = ap (scan_go (λ p. scanned all m p) o) h

-- none of the first j gates is ready
abbrev pub NotReady : List ℕ → List ℕ → ℕ → Type 0
NotReady gates num j = (i : ℕ) → i < j → ready_t num (gate_at gates i) ≡ false

not_test : (gates lv num : List ℕ) (o : List ℕ) (a j : ℕ) → j ≤ a → Starts o → NumTable o num → InRange (length num) gates a
    → NotReady gates num j → (i : ℕ) → i < j → test o (gate_at gates i) ≡ false
not_test gates lv num o a j h s t r n i k = sym (ready-has o num s t (gate_at gates i) (r i (omega arith))) ∙ n i k

-- none is ready: the order is at its end
pub going-break : (gates lv num : List ℕ) (a next k : ℕ) → InRange (length num) gates a → NotReady gates num a
    → Going gates lv num a next k → Final gates lv num a
going-break gates lv num a next k r n g =
    subst (λ (p : List ℕ). NumTable p num)
    (sym (append-nil g.o)
    ∙ ap (λ (q : List Gate). g.o ++ left_vars q)
    (sym (scanned-none (gates_at gates a) (a - k) g.o
    (scan-none g.o gates a (not_test gates lv num g.o a a (omega arith) g.starts g.table r n))))
    ∙ g.rest)
    g.table

-- gate j is the first that is ready: it has the next number
pub going_more : (gates lv num : List ℕ) (a next k j : ℕ) → k < a → j < a → InRange (length num) gates a → NotReady gates num j
    → ready_t num (gate_at gates j) ≡ true → Going gates lv num a next k
    → Going gates lv (set num (var_of (gate_at gates j).lhs) next) a (next + 1) (k + 1)
going_more gates lv num a next k j hk hj r n y g = record {
  o = g.o ++ (v ∷ []);
  table = subst (λ (m : ℕ). NumTable (g.o ++ (v ∷ [])) (set num v m)) g.long (numtable-more g.o num v g.table fresh (r j hj).0);
  long = length-append g.o (v ∷ []) ∙ ap (λ (m : ℕ). m + 1) g.long;
  starts = starts-append g.o (v ∷ []) g.starts;
  rest = append_snoc g.o v (left_vars (scanned (gates_at gates a) (a - (k + 1)) (g.o ++ (v ∷ []))))
      ∙ ap (λ (q : List Gate). g.o ++ left_vars q)
      (sym (ap (λ (m : ℕ). scanned (gates_at gates a) m g.o) less ∙ ap
      (scan_go (λ p. scanned (gates_at gates a) (a - (k + 1)) p) g.o) found)) ∙ g.rest;
}
  where
    v : ℕ
    v = var_of (gate_at gates j).lhs

    yes-test : test g.o (gate_at gates j) ≡ true
    yes-test = sym (ready-has g.o num g.starts g.table (gate_at gates j) (r j hj)) ∙ y

    found : scan g.o (gates_at gates a) ≡ Some (gate_at gates j)
    found = scan-some g.o gates a j hj (not_test gates lv num g.o a j (omega arith) g.starts g.table r n) yes-test

    fresh : has v g.o ≡ false
    fresh = not-true (has v g.o) (and_left (not (has v g.o)) (ready g.o (gate_at gates j)) yes-test)

    less : a - k ≡ suc (a - (k + 1))
    less = omega arith

pub going_start : (gates lv num : List ℕ) (a first : ℕ) → NumTable lv num → Starts lv → length lv ≡ first → Going gates lv num a first 0
going_start gates lv num a first t s l =
    let z : a - 0 ≡ a = omega arith in
    record { o = lv; table = t; long = l; starts = s; rest = ap (λ (m : ℕ). lv ++ left_vars (scanned (gates_at gates a) m lv)) z }
