-- Lane by lane, planes hold the values of the plain stepper. No width is named: a plane is any number, and a lane any of its bits.
use Prim.Native.Nat.{ℕ, zero, suc, ◌+◌, ◌*◌, ◌<◌}
use mathlib.Core.Path.{◌≡◌, refl, sym, ap, ap₂, ◌∙◌, subst}
use mathlib.Core.List.{List, [], ◌∷◌, ◌++◌, append_assoc, append-nil}
use native.Mathlib.Decide.{dec_lt}
use native.Mathlib.Nat.{not-suc-le-zero}
use native.Mathlib.Omega.{arith}
use lib.Bits.{bit_and, bit_or}
use lib.ListN.{length, get_or, length-append, get_or-append}
use lib.Seq.{get_or-append-add, get_or-append_seam}
use Rattle.plan.specs.Literals.{var_of, sign_of, neg_of}
use Rattle.plan.specs.Circuit.{Gate}
use Rattle.plan.specs.Step.{Value, vx, and, signed_value, lit}
use Rattle.laws.proofs.Tables.{firsts}
use Rattle.laws.proofs.Running.Binary.{Binary}
use Rattle.laws.proofs.Running.Sweep.{sweep, at}
use Rattle.step.specs.values.Words.{may0, may1}
use Rattle.step.proofs.sweep.NotAnd.{may-not, negated-may, and-may1, and-may0}
use Rattle.rows.specs.Planes.Planes.{bit, pairs, and_plane, or_plane, sweep_planes}
use Rattle.rows.proofs.Planes.Bits.{bit-and, bit-or}

-- lane k of planes, one for each literal, holds these values of variables 0, 1 ..
pub record Lane (k : ℕ) (q : List ℕ) (vals : List Value) : Type 0 where
  pub two : length q ≡ 2 * length vals
  pub is : (l : ℕ) → var_of l < length vals → bit k (get_or q l 0) ≡ may1 (lit (at vals) l)

pub lane-none : (k : ℕ) → Lane k [] []
lane-none k = record { two = refl; is = λ l h. absurd (not-suc-le-zero h) }

module _ {k : ℕ} {q : List ℕ} {vals : List Value} (r : Lane k q vals) where
  -- a literal may be 0 where its negation may be 1
  pub lane-neg : (l : ℕ) → var_of l < length vals → bit k (get_or q (neg_of l) 0) ≡ may0 (lit (at vals) l)
  lane-neg l h =
      let half : var_of (neg_of l) ≡ var_of l = omega arith in
      r.is (neg_of l) (omega arith) ∙ negated-may (at vals) l

  -- one variable more
  module _ (a b : ℕ) (x : Value) (ea : bit k a ≡ may1 x) (eb : bit k b ≡ may0 x) where
    old-lit : (l : ℕ) → var_of l < length vals → lit (at (vals ++ (x ∷ []))) l ≡ lit (at vals) l
    old-lit l h = ap (signed_value (sign_of l)) (get_or-append vals (x ∷ []) vx (var_of l) h)

    new-lit : (l : ℕ) → var_of l ≡ length vals → lit (at (vals ++ (x ∷ []))) l ≡ signed_value (sign_of l) x
    new-lit l e =
        ap (λ (v : ℕ). signed_value (sign_of l) (at (vals ++ (x ∷ [])) v)) e
        ∙ ap (signed_value (sign_of l)) (get_or-append_seam vals x [] vx)

    there : (l s : ℕ) → var_of l ≡ length vals → sign_of l ≡ s → get_or (q ++ (a ∷ b ∷ [])) l 0 ≡ get_or (a ∷ b ∷ []) s 0
    there l s e z =
        let here : l ≡ length q + s = omega (arith, r.two) in
        ap (λ (p : ℕ). get_or (q ++ (a ∷ b ∷ [])) p 0) here ∙ get_or-append-add q (a ∷ b ∷ []) s 0

    new-bit : (l s : ℕ) → var_of l ≡ length vals → sign_of l ≡ s → s < 2
        → bit k (get_or (q ++ (a ∷ b ∷ [])) l 0) ≡ may1 (lit (at (vals ++ (x ∷ []))) l)
    new-bit l zero e z h =
        ap (bit k) (there l 0 e z) ∙ (ea ∙ sym (ap may1 (new-lit l e ∙ ap (λ (s : ℕ). signed_value s x) z)))
    new-bit l (suc zero) e z h =
        ap (bit k) (there l 1 e z)
        ∙ (eb ∙ (sym (may-not x) ∙ sym (ap may1 (new-lit l e ∙ ap (λ (s : ℕ). signed_value s x) z))))
    new-bit l (suc (suc s)) e z h = absurd (omega arith)

    pub lane-more : Lane k (q ++ (a ∷ b ∷ [])) (vals ++ (x ∷ []))
    lane-more = record {
      two = omega (arith, length-append q (a ∷ b ∷ []), length-append vals (x ∷ []), r.two);
      is = λ l h. go l h (dec_lt (var_of l) (length vals));
    }
      where
        go : (l : ℕ) → var_of l < length (vals ++ (x ∷ [])) → Dec (var_of l < length vals)
            → bit k (get_or (q ++ (a ∷ b ∷ [])) l 0) ≡ may1 (lit (at (vals ++ (x ∷ []))) l)
        go l h (yes p) =
            ap (bit k) (get_or-append q (a ∷ b ∷ []) 0 l (omega (arith, r.two)))
            ∙ (r.is l p ∙ sym (ap may1 (old-lit l p)))
        go l h (no p) =
            let e : var_of l ≡ length vals = omega (arith, length-append vals (x ∷ [])) in
            new-bit l (sign_of l) e refl (omega arith)

  -- one gate more: where both sides may be 1, and where either may be 0
  pub lane-gate : (g : Gate) → var_of g.rhs0 < length vals → var_of g.rhs1 < length vals
      → Lane k (q ++ (and_plane q g ∷ or_plane q g ∷ [])) (vals ++ (and (lit (at vals) g.rhs0) (lit (at vals) g.rhs1) ∷ []))
  lane-gate g h i =
      lane-more (and_plane q g) (or_plane q g) (and x y)
      (bit-and k (get_or q g.rhs0 0) (get_or q g.rhs1 0) ∙ (ap₂ bit_and (r.is g.rhs0 h) (r.is g.rhs1 i) ∙ and-may1 x y))
      (bit-or k (get_or q (neg_of g.rhs0) 0) (get_or q (neg_of g.rhs1) 0)
      ∙ (ap₂ bit_or (lane-neg g.rhs0 h) (lane-neg g.rhs1 i) ∙ and-may0 x y))
    where
      x : Value
      x = lit (at vals) g.rhs0

      y : Value
      y = lit (at vals) g.rhs1

-- lane by lane, a sweep over planes is the plain stepper's sweep
pub lane-sweep : (k : ℕ) (q : List ℕ) (vals : List Value) (gs : List Gate) → Lane k q vals → Binary (length vals) gs
    → Lane k (sweep_planes q gs) (sweep vals gs)
lane-sweep k q vals [] r b = r
lane-sweep k q vals (g ∷ gs) r b =
    lane-sweep k (q ++ (and_plane q g ∷ or_plane q g ∷ [])) (vals ++ (x ∷ [])) gs (lane-gate r g b.1 b.2)
    (subst (λ (n : ℕ). Binary n gs) (sym (length-append vals (x ∷ []) ∙ one_more)) b.3)
  where
    x : Value
    x = and (lit (at vals) g.rhs0) (lit (at vals) g.rhs1)

    one_more : length vals + 1 ≡ suc (length vals)
    one_more = omega arith

-- the planes of n variables more
pub lane-pairs : (k : ℕ) (q : List ℕ) (vals : List Value) (f g : ℕ → ℕ) (x : ℕ → Value) (n : ℕ) → Lane k q vals
    → ((j : ℕ) → j < n → (bit k (f j) ≡ may1 (x j)) × (bit k (g j) ≡ may0 (x j)))
    → Lane k (q ++ pairs f g n) (vals ++ firsts x n)
lane-pairs k q vals f g x zero r h = rw (append-nil q, append-nil vals) r
lane-pairs k q vals f g x (suc n) r h =
    let now = h n (omega arith) in
    subst (λ (l : List Value). Lane k (q ++ pairs f g (suc n)) l) (append_assoc vals (firsts x n) (x n ∷ []))
    (subst (λ (l : List ℕ). Lane k l ((vals ++ firsts x n) ++ (x n ∷ []))) (append_assoc q (pairs f g n) (f n ∷ g n ∷ []))
    (lane-more (lane-pairs k q vals f g x n r (λ j p. h j (omega arith))) (f n) (g n) (x n) now.0 now.1))

-- one gate more at the end
pub planes-snoc : (q : List ℕ) (gs : List Gate) (g : Gate)
    → sweep_planes q (gs ++ (g ∷ [])) ≡ sweep_planes q gs ++ (and_plane (sweep_planes q gs) g ∷ or_plane (sweep_planes q gs) g ∷ [])
planes-snoc q [] g = refl
planes-snoc q (x ∷ gs) g = planes-snoc (q ++ (and_plane q x ∷ or_plane q x ∷ [])) gs g

pub planes-length : (q : List ℕ) (gs : List Gate) → length (sweep_planes q gs) ≡ length q + 2 * length gs
planes-length q [] = omega arith
planes-length q (g ∷ gs) =
    planes-length (q ++ (and_plane q g ∷ or_plane q g ∷ [])) gs
    ∙ omega (arith, length-append q (and_plane q g ∷ or_plane q g ∷ []))
