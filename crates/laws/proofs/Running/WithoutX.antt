-- Without x: And, negation and gates keep values 0 or 1, so in an accepted circuit no x comes of none.
use Prim.Native.Nat.{ℕ, zero, suc, ◌<◌}
use mathlib.Core.Path.{◌≡◌, refl, ap₂, subst}
use mathlib.Core.Bool.{true, false≢true}
use mathlib.Core.Logic.{◌↔◌}
use mathlib.Core.List.{List, [], ◌∷◌, ◌++◌, map, append-nil}
use Rattle.std.specs.Prelude.{Option, Some, None}
use native.Mathlib.Omega.{arith}
use native.Mathlib.Nat.{not-suc-le-zero}
use lib.ListN.{length, get_or, replicate, length-append}
use Rattle.plan.specs.Literals.{var_of, sign_of}
use Rattle.plan.specs.Circuit.{Gate, Circuit, left_vars, has, leaves, index}
use Rattle.plan.specs.Depends.{find, is_none, both, settled}
use Rattle.plan.specs.Step.{Value, v0, v1, vx, and, inv, signed_value, lit, gate_value, value_in, leaf_value, values_of}
use Rattle.laws.proofs.Reading.Common.{and_left, and_right}
use Rattle.laws.proofs.Running.Refinement.{Le, Les, le_of}
use Rattle.laws.proofs.Running.Lists.{has-but, index-front, all_in, in_head, in_tail}
use Rattle.laws.proofs.Running.Found.{AllG, FindSays, find-says, Sides, sides-in}
use Rattle.laws.proofs.Running.Accepted.{Accepted}
use Rattle.laws.proofs.Running.Converted.{length-leaves}

-- no x
abbrev pub NotX : Value → Type 0
NotX v0 = Unit {0}
NotX v1 = Unit {0}
NotX vx = ⊥

abbrev pub NoX : List Value → Type 0
NoX [] = Unit {0}
NoX (a ∷ xs) = NotX a × NoX xs

abbrev pub NoXs : List (List Value) → Type 0
NoXs [] = Unit {0}
NoXs (i ∷ is) = NoX i × NoXs is

notx-inv : (a : Value) → NotX a → NotX (inv a)
notx-inv v0 h = tt
notx-inv v1 h = tt
notx-inv vx h = h

notx-and : (a b : Value) → NotX a → NotX b → NotX (and a b)
notx-and v0 v0 h k = tt
notx-and v0 v1 h k = tt
notx-and v0 vx h k = tt
notx-and v1 v0 h k = tt
notx-and v1 v1 h k = tt
notx-and v1 vx h k = k
notx-and vx b h k = absurd h

notx-signed : (s : ℕ) (a : Value) → NotX a → NotX (signed_value s a)
notx-signed zero a h = h
notx-signed (suc s) a h = notx-inv a h

nox-at : (xs : List Value) → NoX xs → (n : ℕ) → n < length xs → NotX (get_or xs n vx)
nox-at [] h n p = absurd (not-suc-le-zero p)
nox-at (a ∷ xs) h zero p = h.0
nox-at (a ∷ xs) h (suc n) p = nox-at xs h.1 n (omega arith)

nox-append : (xs ys : List Value) → NoX xs → NoX ys → NoX (xs ++ ys)
nox-append [] ys h k = k
nox-append (a ∷ xs) ys h k = (h.0, nox-append xs ys h.1 k)

le-eq : (a b : Value) → Le a b → NotX a → a ≡ b
le-eq v0 v0 h k = refl
le-eq v0 v1 h k = absurd h
le-eq v0 vx h k = absurd h
le-eq v1 v0 h k = absurd h
le-eq v1 v1 h k = refl
le-eq v1 vx h k = absurd h
le-eq vx b h k = absurd k

-- refinement in the paper's words: what was 0 or 1 is the same
pub le-exactly : (a b : Value) → Le a b ↔ (NotX a → a ≡ b)
le-exactly a b = (le-eq a b, λ f. back a f)
  where
    back : (x : Value) → (NotX x → x ≡ b) → Le x b
    back v0 f = le_of (f tt)
    back v1 f = le_of (f tt)
    back vx f = tt

pub les-eq : (xs ys : List Value) → Les xs ys → NoX xs → xs ≡ ys
les-eq [] [] h k = refl
les-eq [] (y ∷ ys) h k = absurd h
les-eq (x ∷ xs) [] h k = absurd h
les-eq (x ∷ xs) (y ∷ ys) h k = ap₂ (λ (a : Value) (t : List Value). a ∷ t) (le-eq x y h.0 k.0) (les-eq xs ys h.1 k.1)

-- without x in what is given no defined variable is x
module _ (gs : List Gate) (e : ℕ → Value) (lv : List ℕ) (leaf-not : (v : ℕ) → has v lv ≡ true → NotX (e v))
    (used : AllG (Sides (lv ++ left_vars gs)) gs) where
  value-notx : (k v : ℕ) → settled gs k v ≡ true → has v (lv ++ left_vars gs) ≡ true → NotX (value_in gs e k v)
  value-notx zero v p d = go (find v gs) (find-says v gs) p
    where
      go : (r : Option Gate) → FindSays v gs r → is_none r ≡ true → NotX (e v)
      go None h q = leaf-not v (has-but v lv (left_vars gs) d h.0)
      go (Some g) h q = absurd (false≢true q)
  value-notx (suc k) v p d = go (λ u q t. value-notx k u q t) (find v gs) (find-says v gs) p
    where
      go : ((u : ℕ) → settled gs k u ≡ true → has u (lv ++ left_vars gs) ≡ true → NotX (value_in gs e k u)) → (r : Option Gate)
          → FindSays v gs r → both (λ u. settled gs k u) r ≡ true → NotX (gate_value (λ u. value_in gs e k u) (e v) r)
      go ih None h q = leaf-not v (has-but v lv (left_vars gs) d h.0)
      go ih (Some g) h q =
          let s = h.1 (Sides (lv ++ left_vars gs)) used in
          notx-and (lit (λ u. value_in gs e k u) g.rhs0) (lit (λ u. value_in gs e k u) g.rhs1)
          (notx-signed (sign_of g.rhs0) (value_in gs e k (var_of g.rhs0))
          (ih (var_of g.rhs0) (and_left (settled gs k (var_of g.rhs0)) (settled gs k (var_of g.rhs1)) q) s.0))
          (notx-signed (sign_of g.rhs1) (value_in gs e k (var_of g.rhs1))
          (ih (var_of g.rhs1) (and_right (settled gs k (var_of g.rhs0)) (settled gs k (var_of g.rhs1)) q) s.1))

pub nox-first : (n : ℕ) → NoX (replicate n v0)
nox-first zero = tt
nox-first (suc n) = (tt, nox-first n)

module _ (c : Circuit) (ok : Accepted c) (s i : List Value) (ls : length s ≡ length c.latches) (li : length i ≡ length c.inputs)
    (hs : NoX s) (hi : NoX i) where
  leaf-notx : (v : ℕ) → has v (leaves c) ≡ true → NotX (leaf_value c s i v)
  leaf-notx v h =
      nox-at (v0 ∷ (i ++ s)) (tt, nox-append i s hi hs) (index v (leaves c))
      (omega (
        arith,
        subst (λ (o : List ℕ). index v o < length (leaves c)) (append-nil (leaves c))
            (index-front v (leaves c) [] h),
        length-leaves c,
        length-append i s,
      ))

  -- no used literal is x
  pub lits-nox : (qs : List ℕ) → all_in qs (leaves c ++ left_vars c.gates) ≡ true → NoX (map (lit (values_of c s i)) qs)
  lits-nox [] a = tt
  lits-nox (l ∷ qs) a = (
    notx-signed (sign_of l) (values_of c s i (var_of l))
        (value-notx c.gates (leaf_value c s i) (leaves c) leaf-notx (sides-in (leaves c ++ left_vars c.gates) c.gates ok.used-gate)
        (length c.gates) (var_of l)
        (ok.settles (var_of l)) (in_head l qs (leaves c ++ left_vars c.gates) a)),
    lits-nox qs (in_tail l qs (leaves c ++ left_vars c.gates) a),
  )
