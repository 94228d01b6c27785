-- The gates that compare: their order, and that the last of them is 1 exactly if all pairs are the same.
use Prim.Native.Nat.{ℕ, suc, ◌+◌, ◌≤◌, ◌<◌}
use mathlib.Core.Path.{◌≡◌, refl, sym, ap, ap₂, ◌∙◌, subst}
use mathlib.Core.Bool.{Bool, true, false, not, ◌&&◌}
use mathlib.Core.List.{List, [], ◌∷◌, map}
use native.Mathlib.Omega.{arith}
use lib.ListN.{length}
use Rattle.plan.specs.Literals.{lit_of, var_of, neg_of}
use Rattle.plan.specs.Convert.{gate_for}
use Rattle.plan.specs.Step.{Value, v0, v1, vx, same, inv, and, lit, is1}
use Rattle.laws.proofs.Reading.Order.{InOrder}
use Rattle.laws.proofs.Running.Signs.{lit-neg, larger-first}
use Rattle.laws.proofs.Running.Binary.{Holds, Bounded}
use Rattle.laws.proofs.Running.WithoutX.{NotX, NoX}
use Rattle.plan.specs.Product.{compare, alike_lit, same_all}
use Rattle.search.proofs.Moved.{bounded-more}

low-gate : (v a b : ℕ) → var_of a < v → var_of b < v → (gate_for v a b).rhs0 < (gate_for v a b).lhs
low-gate v a b p q = omega arith

larger-gate : (v a b : ℕ) → (gate_for v a b).rhs1 ≤ (gate_for v a b).rhs0
larger-gate v a b = omega arith

neg-var : (a v : ℕ) → var_of a < v → var_of (neg_of a) < v
neg-var a v h = omega arith

lit-low : (v w : ℕ) → v < w → var_of (lit_of v) < w
lit-low v w h = omega arith

pub compare-order : (v alike : ℕ) (ps qs : List ℕ) → Bounded v ps → Bounded v qs → var_of alike < v → InOrder v (compare v alike ps qs)
compare-order v alike [] qs b d h = tt
compare-order v alike (p ∷ ps) [] b d h = tt
compare-order v alike (p ∷ ps) (q ∷ qs) b d h =
    let v1' = suc v in
    let v2' = suc (suc v) in
    let v3' = suc (suc (suc v)) in
    let v4' = suc (suc (suc (suc v))) in
    let more : v ≤ v4' = omega arith in
    let p1 : var_of p < v1' = omega (arith, b.0) in
    let q1 : var_of q < v1' = omega (arith, d.0) in
    let a3 : var_of alike < v3' = omega arith in (
      refl,
      low-gate v p (neg_of q) b.0 (neg-var q v d.0),
      larger-gate v p (neg_of q),
      (
        refl,
        low-gate v1' (neg_of p) q (neg-var p v1' p1) q1,
        larger-gate v1' (neg_of p) q,
        (
          refl,
          low-gate v2' (neg_of (lit_of v)) (neg_of (lit_of v1')) (neg-var (lit_of v) v2' (lit-low v v2' (omega arith)))
              (neg-var (lit_of v1') v2' (lit-low v1' v2' (omega arith))),
          larger-gate v2' (neg_of (lit_of v)) (neg_of (lit_of v1')),
          (
            refl,
            low-gate v3' (lit_of v2') alike (lit-low v2' v3' (omega arith)) a3,
            larger-gate v3' (lit_of v2') alike,
            compare-order v4' (lit_of v3') ps qs (bounded-more v v4' ps more b.1) (bounded-more v v4' qs more d.1)
                (lit-low v3' v4' (omega arith)),
          ),
        ),
      ),
    )

pub alike-low : (v alike : ℕ) (ps qs : List ℕ) → var_of alike < v → var_of (alike_lit v alike ps qs) < v + length (compare v alike ps qs)
alike-low v alike [] qs h = omega arith
alike-low v alike (p ∷ ps) [] h = omega arith
alike-low v alike (p ∷ ps) (q ∷ qs) h =
    omega (arith, alike-low (suc (suc (suc (suc v)))) (lit_of (suc (suc (suc v)))) ps qs (lit-low (suc (suc (suc v))) (suc (suc (suc (suc v)))) (omega arith)))

-- one pair
abbrev paired : Value → Value → Value → Value
paired a b z = and (and (inv (and a (inv b))) (inv (and (inv a) b))) z

paired-notx : (a b z : Value) → NotX a → NotX b → NotX z → NotX (paired a b z)
paired-notx v0 v0 v0 p q r = tt
paired-notx v0 v0 v1 p q r = tt
paired-notx v0 v0 vx p q r = r
paired-notx v0 v1 v0 p q r = tt
paired-notx v0 v1 v1 p q r = tt
paired-notx v0 v1 vx p q r = absurd r
paired-notx v0 vx z p q r = absurd q
paired-notx v1 v0 v0 p q r = tt
paired-notx v1 v0 v1 p q r = tt
paired-notx v1 v0 vx p q r = absurd r
paired-notx v1 v1 v0 p q r = tt
paired-notx v1 v1 v1 p q r = tt
paired-notx v1 v1 vx p q r = r
paired-notx v1 vx z p q r = absurd q
paired-notx vx b z p q r = absurd p

paired_is : (a b z : Value) → NotX a → NotX b → NotX z → is1 (paired a b z) ≡ (is1 z && same a b)
paired_is v0 v0 v0 p q r = refl
paired_is v0 v0 v1 p q r = refl
paired_is v0 v0 vx p q r = absurd r
paired_is v0 v1 v0 p q r = refl
paired_is v0 v1 v1 p q r = refl
paired_is v0 v1 vx p q r = absurd r
paired_is v0 vx z p q r = absurd q
paired_is v1 v0 v0 p q r = refl
paired_is v1 v0 v1 p q r = refl
paired_is v1 v0 vx p q r = absurd r
paired_is v1 v1 v0 p q r = refl
paired_is v1 v1 v1 p q r = refl
paired_is v1 v1 vx p q r = absurd r
paired_is v1 vx z p q r = absurd q
paired_is vx b z p q r = absurd p

and_assoc : (a b d : Bool) → ((a && b) && d) ≡ (a && (b && d))
and_assoc true b d = refl
and_assoc false b d = refl

and-true : (a : Bool) → a ≡ (a && true)
and-true true = refl
and-true false = refl

module _ (w : ℕ → Value) where
  gate-is : (v a b : ℕ) → lit w (gate_for v a b).lhs ≡ and (lit w (gate_for v a b).rhs0) (lit w (gate_for v a b).rhs1)
      → lit w (lit_of v) ≡ and (lit w a) (lit w b)
  gate-is v a b e = e ∙ larger-first w a b

  pub compare-is : (v alike : ℕ) (ps qs : List ℕ) → length ps ≡ length qs → Holds w (compare v alike ps qs) → NoX (map (lit w) ps)
      → NoX (map (lit w) qs) → NotX (lit w alike)
      → NotX (lit w (alike_lit v alike ps qs))
      × (is1 (lit w (alike_lit v alike ps qs)) ≡ (is1 (lit w alike) && same_all (map (lit w) ps) (map (lit w) qs)))
  compare-is v alike [] [] e h p q r = (r, and-true (is1 (lit w alike)))
  compare-is v alike [] (b ∷ qs) e h p q r = absurd (omega arith)
  compare-is v alike (a ∷ ps) [] e h p q r = absurd (omega arith)
  compare-is v alike (a ∷ ps) (b ∷ qs) e h p q r =
      let last : lit w (lit_of (suc (suc (suc v)))) ≡ paired (lit w a) (lit w b) (lit w alike) =
      gate-is (suc (suc (suc v))) (lit_of (suc (suc v))) alike h.1.1.1.0
      ∙ ap (λ (x : Value). and x (lit w alike))
      (gate-is (suc (suc v)) (neg_of (lit_of v)) (neg_of (lit_of (suc v))) h.1.1.0
      ∙ ap₂ and
      (lit-neg w (lit_of v) ∙ ap inv (gate-is v a (neg_of b) h.0 ∙ ap (and (lit w a)) (lit-neg w b)))
      (lit-neg w (lit_of (suc v)) ∙ ap inv (gate-is (suc v) (neg_of a) b h.1.0 ∙ ap (λ (x : Value). and x (lit w b)) (lit-neg w a)))) in
      let notx : NotX (lit w (lit_of (suc (suc (suc v))))) =
      subst NotX (sym last) (paired-notx (lit w a) (lit w b) (lit w alike) p.0 q.0 r) in
      let rest = compare-is (suc (suc (suc (suc v)))) (lit_of (suc (suc (suc v)))) ps qs (omega arith) h.1.1.1.1 p.1 q.1 notx in (
        rest.0,
        rest.1
            ∙ ap (λ (t : Bool). t && same_all (map (lit w) ps) (map (lit w) qs))
            (ap is1 last ∙ paired_is (lit w a) (lit w b) (lit w alike) p.0 q.0 r)
            ∙ and_assoc (is1 (lit w alike)) (same (lit w a) (lit w b)) (same_all (map (lit w) ps) (map (lit w) qs)),
      )

pub inv-is : (a : Value) → NotX a → is1 (inv a) ≡ not (is1 a)
inv-is v0 h = refl
inv-is v1 h = refl
inv-is vx h = absurd h
