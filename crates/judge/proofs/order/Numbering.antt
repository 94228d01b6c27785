-- A table of numbers says which variables are numbered and which gates are ready; one more number is its last place.
use Prim.Native.Nat.{ℕ, zero, suc, ◌<◌}
use mathlib.Core.Path.{◌≡◌, refl, sym, ap, ap₂, ◌∙◌, subst}
use mathlib.Core.Bool.{Bool, true, false, not, cond, ◌&&◌, ◌||◌, false≢true}
use mathlib.Core.List.{List, [], ◌∷◌, ◌++◌}
use native.Mathlib.Omega.{arith}
use borrow.Author.Tests.{eqb-true, eqb-false, eq-eqb, ne_eqb}
use lib.Dec.{eqb}
use lib.ListN.{length, get_or, set, length-set}
use lib.Seq.{get_or-set_same, get_or-set_other}
use Rattle.plan.specs.Literals.{var_of}
use Rattle.plan.specs.Circuit.{Gate, has, index}
use Rattle.plan.specs.Convert.{ready}
use Rattle.laws.proofs.Running.Lists.{has-seam}
use Rattle.laws.proofs.Running.Scan.{has-snoc}
use Rattle.judge.specs.order.Numbers.{numbered_t, ready_t, NumTable, InTable}

-- the list begins with the constant
abbrev pub Starts : List ℕ → Type 0
Starts o = get_or o 0 1 ≡ 0

pub numbered-has : (o num : List ℕ) → Starts o → NumTable o num → (v : ℕ) → v < length num → numbered_t num v ≡ has v o
unfolding numbered_t NumTable
numbered-has [] num s t v h = absurd (omega arith)
numbered-has (x ∷ o) num s t v h = ap (λ (n : ℕ). eqb v 0 || not (eqb n 0)) (t v h) ∙ go (eqb v 0) refl (has v o) refl
  where
    away : eqb v 0 ≡ false → eqb x v ≡ false
    away e = ne_eqb x v (λ z. eqb-false v 0 e (sym z ∙ s))

    go : (a : Bool) → eqb v 0 ≡ a → (b : Bool) → has v o ≡ b → (a || not (eqb (cond (eqb x v || b) (index v (x ∷ o)) 0) 0)) ≡ (eqb x v || b)
    go true e b q = sym (ap (λ (r : Bool). r || b) (eq-eqb x v (omega (arith, eqb-true v 0 e))))
    go false e true q =
        ap₂ (λ (r : Bool) (n : ℕ). not (eqb (cond (r || true) n 0) 0)) (away e)
        (ap (λ (r : Bool). cond r zero (suc (index v o))) (away e)) ∙ ap not (ne_eqb (suc (index v o)) 0 (λ z. omega arith)) ∙ sym
        (ap (λ (r : Bool). r || true) (away e))
    go false e false q =
        ap (λ (r : Bool). not (eqb (cond (r || false) (index v (x ∷ o)) 0) 0)) (away e) ∙ sym (ap (λ (r : Bool). r || false) (away e))

pub ready-has : (o num : List ℕ) → Starts o → NumTable o num → (g : Gate) → InTable (length num) g
    → ready_t num g ≡ (not (has (var_of g.lhs) o) && ready o g)
unfolding ready_t
ready-has o num s t g b =
    ap₂ (λ (x y : Bool). not x && y) (numbered-has o num s t (var_of g.lhs) b.0)
    (ap₂ (λ (x y : Bool). x && y) (numbered-has o num s t (var_of g.rhs0) b.1) (numbered-has o num s t (var_of g.rhs1) b.2))

pub starts-append : (o q : List ℕ) → Starts o → Starts (o ++ q)
starts-append [] q s = absurd (omega arith)
starts-append (x ∷ o) q s = s

-- a new number
index-new : (v : ℕ) (o : List ℕ) → has v o ≡ false → index v (o ++ (v ∷ [])) ≡ length o
index-new v [] h = rw (eq-eqb v v refl)
index-new v (x ∷ o) h = go (eqb x v) h (index-new v o)
  where
    go : (t : Bool) → (t || has v o) ≡ false → (has v o ≡ false → index v (o ++ (v ∷ [])) ≡ length o)
        → cond t zero (suc (index v (o ++ (v ∷ [])))) ≡ suc (length o)
    go true p f = absurd (false≢true (sym p))
    go false p f = ap suc (f p)

index-old : (u v : ℕ) (o : List ℕ) → has u o ≡ true → index u (o ++ (v ∷ [])) ≡ index u o
index-old u v [] h = absurd (false≢true h)
index-old u v (x ∷ o) h = go (eqb x u) h (index-old u v o)
  where
    go : (t : Bool) → (t || has u o) ≡ true → (has u o ≡ true → index u (o ++ (v ∷ [])) ≡ index u o)
        → cond t zero (suc (index u (o ++ (v ∷ [])))) ≡ cond t zero (suc (index u o))
    go true p f = refl
    go false p f = ap suc (f p)

pub numtable-more : (o num : List ℕ) (v : ℕ) → NumTable o num → has v o ≡ false → v < length num
    → NumTable (o ++ (v ∷ [])) (set num v (length o))
unfolding NumTable
numtable-more o num v t n h u k = go (eqb v u) refl
  where
    k' : u < length num
    k' = omega (arith, k, length-set num v (length o))

    old : (b : Bool) → has u o ≡ b → cond b (index u o) 0 ≡ cond b (index u (o ++ (v ∷ []))) 0
    old true p = sym (index-old u v o p)
    old false p = refl

    go : (b : Bool) → eqb v u ≡ b → get_or (set num v (length o)) u 0 ≡ cond (has u (o ++ (v ∷ []))) (index u (o ++ (v ∷ []))) 0
    go true e =
        subst (λ (w : ℕ). get_or (set num v (length o)) w 0 ≡ cond (has w (o ++ (v ∷ []))) (index w (o ++ (v ∷ []))) 0) (eqb-true v u e)
        (get_or-set_same num v (length o) 0 h ∙ sym (ap₂ (λ (b : Bool) (n : ℕ). cond b n 0) (has-seam v o []) (index-new v o n)))
    go false e =
        get_or-set_other num v u (length o) 0 (λ p. eqb-false v u e (sym p)) ∙ t u k' ∙ old (has u o) refl
        ∙ ap (λ (b : Bool). cond b (index u (o ++ (v ∷ []))) 0) (sym (has-snoc u v o e))
