-- A renaming that is one-to-one on known variables: what a list of variables has, the place of a variable, a literal's new number.
use Prim.Native.Nat.{ℕ, suc, zero, ◌+◌}
use mathlib.Core.Path.{◌≡◌, refl, ap, ap₂, ◌∙◌}
use mathlib.Core.Bool.{Bool, true, false, cond, ◌&&◌, ◌||◌, and_comm}
use mathlib.Core.Logic.{◌⊎◌, inl, inr}
use mathlib.Core.List.{List, [], ◌∷◌, map}
use native.Mathlib.Nat.{max_comm, min_comm}
use borrow.Author.Tests.{eqb-true, eqb-false, eq-eqb, ne_eqb}
use lib.Dec.{eqb}
use Rattle.plan.specs.Literals.{lit_of, var_of}
use Rattle.plan.specs.Circuit.{Gate, has, index}
use Rattle.plan.specs.Convert.{ready, renumber, gate_for, renumber_gates}
use Rattle.same.proofs.Entries.{All, Each, none, more}
use Rattle.same.proofs.Named.{Named, NamedGate, NamedSides}

module _ (rename : ℕ → ℕ) (P : ℕ → Type 0) (apart : (u v : ℕ) → P u → P v → rename u ≡ rename v → u ≡ v) where
  equal-renamed : (u v : ℕ) → P u → P v → eqb (rename u) (rename v) ≡ eqb u v
  equal-renamed u v p q = go (eqb u v) refl
    where
      go : (t : Bool) → eqb u v ≡ t → eqb (rename u) (rename v) ≡ t
      go true e = eq-eqb (rename u) (rename v) (ap rename (eqb-true u v e))
      go false e = ne_eqb (rename u) (rename v) (λ r. eqb-false u v e (apart u v p q r))

  has-renamed : (v : ℕ) → P v → (xs : List ℕ) → All P xs → has (rename v) (map rename xs) ≡ has v xs
  has-renamed v p [] a = refl
  has-renamed v p (x ∷ xs) a = ap₂ (λ (s t : Bool). s || t) (equal-renamed x v a.0 p) (has-renamed v p xs a.1)

  index-renamed : (v : ℕ) → P v → (xs : List ℕ) → All P xs → index (rename v) (map rename xs) ≡ index v xs
  index-renamed v p [] a = refl
  index-renamed v p (x ∷ xs) a =
      ap₂ (λ (t : Bool) (n : ℕ). cond t zero (suc n)) (equal-renamed x v a.0 p) (index-renamed v p xs a.1)

  -- over a list of variables, all known
  module _ (xs : List ℕ) (known : All P xs) where
    literal-has : (l k : ℕ) → Named rename P l k → has (var_of k) (map rename xs) ≡ has (var_of l) xs
    literal-has l k n = ap (λ (v : ℕ). has v (map rename xs)) n.var ∙ has-renamed (var_of l) n.known xs known

    pub literal-renumbered : (l k : ℕ) → Named rename P l k → renumber (map rename xs) k ≡ renumber xs l
    literal-renumbered l k n =
        ap₂ (λ (i s : ℕ). lit_of i + s)
        (ap (λ (v : ℕ). index v (map rename xs)) n.var ∙ index-renamed (var_of l) n.known xs known) n.sign

    pub ready-renamed : (g h : Gate) → NamedGate rename P g h → ready (map rename xs) h ≡ ready xs g
    ready-renamed g h n = go n.sides
      where
        go : NamedSides rename P g h.rhs0 h.rhs1 ⊎ NamedSides rename P g h.rhs1 h.rhs0 → ready (map rename xs) h ≡ ready xs g
        go (inl s) = ap₂ (λ (a b : Bool). a && b) (literal-has g.rhs0 h.rhs0 s.0) (literal-has g.rhs1 h.rhs1 s.1)
        go (inr s) =
            ap₂ (λ (a b : Bool). a && b) (literal-has g.rhs1 h.rhs0 s.1) (literal-has g.rhs0 h.rhs1 s.0)
            ∙ and_comm (has (var_of g.rhs1) xs) (has (var_of g.rhs0) xs)

    -- larger first, so it does not matter which side came first
    gate-renumbered : (v : ℕ) (g h : Gate) → NamedGate rename P g h
        → gate_for v (renumber (map rename xs) h.rhs0) (renumber (map rename xs) h.rhs1)
        ≡ gate_for v (renumber xs g.rhs0) (renumber xs g.rhs1)
    gate-renumbered v g h n = go n.sides
      where
        exchanged : (a b : ℕ) → gate_for v b a ≡ gate_for v a b
        exchanged a b = λ j. record { lhs = lit_of v; rhs0 = max_comm b a j; rhs1 = min_comm b a j }

        go : NamedSides rename P g h.rhs0 h.rhs1 ⊎ NamedSides rename P g h.rhs1 h.rhs0
            → gate_for v (renumber (map rename xs) h.rhs0) (renumber (map rename xs) h.rhs1)
            ≡ gate_for v (renumber xs g.rhs0) (renumber xs g.rhs1)
        go (inl s) = ap₂ (gate_for v) (literal-renumbered g.rhs0 h.rhs0 s.0) (literal-renumbered g.rhs1 h.rhs1 s.1)
        go (inr s) =
            ap₂ (gate_for v) (literal-renumbered g.rhs1 h.rhs0 s.1) (literal-renumbered g.rhs0 h.rhs1 s.0)
            ∙ exchanged (renumber xs g.rhs0) (renumber xs g.rhs1)

    pub gates-renumbered : (v : ℕ) {gs hs : List Gate} → Each (NamedGate rename P) gs hs
        → renumber_gates (map rename xs) v hs ≡ renumber_gates xs v gs
    gates-renumbered v none = refl
    gates-renumbered v (more {x = g} {y = h} n e) =
        ap₂ (λ (x : Gate) (ys : List Gate). x ∷ ys) (gate-renumbered v g h n) (gates-renumbered (suc v) e)
