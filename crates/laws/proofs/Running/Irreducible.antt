-- A reduced circuit has no gate of equal sides, of a side and its negation or of a constant side, and no two gates of the same pair.
use Prim.Native.Nat.{ℕ, ◌≤◌, min, max}
use mathlib.Core.Path.{◌≡◌, refl, sym, ap, ◌∙◌, subst}
use mathlib.Core.Bool.{Bool, true, false, cond, ◌&&◌, ◌||◌}
use mathlib.Core.List.{List, [], ◌∷◌, ◌++◌, append-nil, append_assoc}
use Rattle.std.specs.Prelude.{Option, Some, None}
use native.Mathlib.Omega.{arith}
use native.Mathlib.Decide.{dec_le}
use borrow.Author.Tests.{eqb-false, eq-eqb, ne_eqb}
use lib.Dec.{eqb}
use lib.Seq.{append_snoc}
use Rattle.plan.specs.Literals.{neg_of}
use Rattle.plan.specs.Circuit.{Gate, Circuit}
use Rattle.plan.specs.Binary.{lits_from}
use Rattle.plan.specs.Convert.{gate_for}
use Rattle.plan.specs.Reduce.{Reduced, becomes, twin, stand_in, retain, reduce_gate, reduce_gates, reduce}
use Rattle.laws.proofs.Running.Found.{AllG, or-none}
use Rattle.laws.proofs.Running.Binary.{inner}

-- sides that no rule but the last two speaks of
pub record Plain (a b : ℕ) : Type 0 where
  pub unequal : ¬ (a ≡ b)
  pub unnegated : ¬ (a ≡ neg_of b)
  pub not-0 : (¬ (a ≡ 0)) × (¬ (b ≡ 0))
  pub not-1 : (¬ (a ≡ 1)) × (¬ (b ≡ 1))

pub pick-none : (t : Bool) (l : ℕ) (o : Option ℕ) → cond t (Some l) o ≡ None → (t ≡ false) × (o ≡ None)
pick-none true l o e = let z : ◌≡◌ {A = ℕ} 0 1 = cc in absurd (omega arith)
pick-none false l o e = (refl, e)

-- nothing stands in exactly if the sides are plain and no gate has the pair
pub stand-none : (a b : ℕ) (ks : List Gate) → stand_in a b ks ≡ None → Plain a b × (twin (max a b) (min a b) ks ≡ None)
stand-none a b ks e =
    let p1 = pick-none (eqb a b) a _ e in
    let p2 = pick-none (eqb a (neg_of b)) 0 _ p1.1 in
    let p3 = pick-none (eqb a 0 || eqb b 0) 0 _ p2.1 in
    let p4 = pick-none (eqb a 1) b _ p3.1 in
    let p5 = pick-none (eqb b 1) a (twin (max a b) (min a b) ks) p4.1 in
    let zeros = or-none (eqb a 0) (eqb b 0) p3.0 in (
      record {
        unequal = eqb-false a b p1.0;
        unnegated = eqb-false a (neg_of b) p2.0;
        not-0 = (eqb-false a 0 zeros.0, eqb-false b 0 zeros.1);
        not-1 = (eqb-false a 1 p4.0, eqb-false b 1 p5.0);
      },
      p5.1,
    )

pub plain-stand : (a b : ℕ) (ks : List Gate) → Plain a b → twin (max a b) (min a b) ks ≡ None → stand_in a b ks ≡ None
plain-stand a b ks p t =
    rw (
      ne_eqb a b p.unequal,
      ne_eqb a (neg_of b) p.unnegated,
      ne_eqb a 0 p.not-0.0,
      ne_eqb b 0 p.not-0.1,
      ne_eqb a 1 p.not-1.0,
      ne_eqb b 1 p.not-1.1,
    ) t

-- larger first they are plain too
pub plain-larger : (a b : ℕ) → Plain a b → Plain (max a b) (min a b)
plain-larger a b p = go (dec_le b a)
  where
    turned : Plain b a
    turned = record {
      unequal = λ e. p.unequal (sym e);
      unnegated = λ e. p.unnegated (omega (arith, e));
      not-0 = (p.not-0.1, p.not-0.0);
      not-1 = (p.not-1.1, p.not-1.0);
    }

    go : Dec (b ≤ a) → Plain (max a b) (min a b)
    go (yes h) =
        let e : a ≡ max a b = omega arith in
        let f : b ≡ min a b = omega arith in
        subst (λ (x : ℕ). Plain x (min a b)) e (subst (Plain a) f p)
    go (no h) =
        let e : b ≡ max a b = omega arith in
        let f : a ≡ min a b = omega arith in
        subst (λ (x : ℕ). Plain x (min a b)) e (subst (Plain b) f turned)

-- gates of which none is replaced, after those of `seen`
abbrev pub Free : List Gate → List Gate → Type 0
Free seen [] = Unit {0}
Free seen (g ∷ gs) = (Plain g.rhs0 g.rhs1 × (twin g.rhs0 g.rhs1 seen ≡ None)) × Free (seen ++ (g ∷ [])) gs

free_more : (seen gs : List Gate) (g : Gate) → Free seen gs → Plain g.rhs0 g.rhs1 → twin g.rhs0 g.rhs1 (seen ++ gs) ≡ None
    → Free seen (gs ++ (g ∷ []))
free_more seen [] g f p t = ((p, ap (twin g.rhs0 g.rhs1) (sym (append-nil seen)) ∙ t), tt)
free_more seen (h ∷ gs) g f p t =
    (f.0, free_more (seen ++ (h ∷ [])) gs g f.1 p (ap (twin g.rhs0 g.rhs1) (append_snoc seen h gs) ∙ t))

retain-free : (r : Reduced) (a b : ℕ) (o : Option ℕ) → stand_in a b r.retained ≡ o → Free [] r.retained
    → Free [] (retain r a b o).retained
retain-free r a b (Some l) e f = f
retain-free r a b None e f =
    let s = stand-none a b r.retained e in
    free_more [] r.retained (gate_for r.fresh a b) f (plain-larger a b s.0) s.1

reduced-free : (r : Reduced) (gs : List Gate) → Free [] r.retained → Free [] (reduce_gates r gs).retained
reduced-free r [] f = f
reduced-free r (g ∷ gs) f =
    let a = becomes r.became g.rhs0 in
    let b = becomes r.became g.rhs1 in
    reduced-free (reduce_gate r a b) gs (retain-free r a b (stand_in a b r.retained) refl f)

pub reduce-free : (c : Circuit) → Free [] (reduce c).gates
reduce-free c = reduced-free (record { became = lits_from 0 (inner c); retained = []; fresh = inner c }) c.gates tt

-- no gate could be replaced by a literal
free-plain : (seen gs : List Gate) → Free seen gs → AllG (λ g. Plain g.rhs0 g.rhs1) gs
free-plain seen [] f = tt
free-plain seen (g ∷ gs) f = (f.0.0, free-plain (seen ++ (g ∷ [])) gs f.1)

pub no-trivial-gate : (c : Circuit) → AllG (λ g. Plain g.rhs0 g.rhs1) (reduce c).gates
no-trivial-gate c = free-plain [] (reduce c).gates (reduce-free c)

-- no later gate has the pair of an earlier one
abbrev pub SamePair : Gate → Gate → Type 0
SamePair g h = (g.rhs0 ≡ h.rhs0) × (g.rhs1 ≡ h.rhs1)

abbrev pub PairsDiffer : List Gate → Type 0
PairsDiffer [] = Unit {0}
PairsDiffer (g ∷ gs) = AllG (λ h. ¬ SamePair g h) gs × PairsDiffer gs

pub twin-seam : (a b : ℕ) (xs : List Gate) (g : Gate) (ys : List Gate) → twin a b (xs ++ (g ∷ ys)) ≡ None → (g.rhs0 ≡ a) × (g.rhs1 ≡ b) → ⊥
twin-seam a b [] g ys e s =
    let t = (pick-none (eqb g.rhs0 a && eqb g.rhs1 b) g.lhs (twin a b ys) e).0 in
    let z : ◌≡◌ {A = Bool} true false = sym (rw (eq-eqb g.rhs0 a s.0, eq-eqb g.rhs1 b s.1)) ∙ t in
    let y : ◌≡◌ {A = ℕ} 0 1 = cc in omega arith
twin-seam a b (x ∷ xs) g ys e s =
    twin-seam a b xs g ys (pick-none (eqb x.rhs0 a && eqb x.rhs1 b) x.lhs (twin a b (xs ++ (g ∷ ys))) e).1 s

later-differ : (xs : List Gate) (g : Gate) (ys gs : List Gate) → Free (xs ++ (g ∷ ys)) gs → AllG (λ h. ¬ SamePair g h) gs
later-differ xs g ys [] f = tt
later-differ xs g ys (h ∷ gs) f = (
  λ s. twin-seam h.rhs0 h.rhs1 xs g ys f.0.1 s,
  later-differ xs g (ys ++ (h ∷ [])) gs (subst (λ (l : List Gate). Free l gs) (append_assoc xs (g ∷ ys) (h ∷ [])) f.1),
)

free-differ : (seen gs : List Gate) → Free seen gs → PairsDiffer gs
free-differ seen [] f = tt
free-differ seen (g ∷ gs) f = (later-differ seen g [] gs f.1, free-differ (seen ++ (g ∷ [])) gs f.1)

pub no-same-pair : (c : Circuit) → PairsDiffer (reduce c).gates
no-same-pair c = free-differ [] (reduce c).gates (reduce-free c)
