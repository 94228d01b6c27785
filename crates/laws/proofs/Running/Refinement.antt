-- Refinement: where the first value is 0 or 1, the second is the same; And and negation keep it.
use Prim.Native.Nat.{ℕ, zero, suc}
use mathlib.Core.Path.{◌≡◌, refl, subst}
use mathlib.Core.List.{List, [], ◌∷◌, ◌++◌, map}
use lib.ListN.{get_or}
use Rattle.plan.specs.Literals.{var_of, sign_of}
use Rattle.plan.specs.Step.{Value, v0, v1, vx, and, inv, signed_value, lit}

-- a ⊑ b: where a is 0 or 1, b is the same
abbrev pub Le : Value → Value → Type 0
Le vx b = Unit {0}
Le v0 v0 = Unit {0}
Le v0 v1 = ⊥
Le v0 vx = ⊥
Le v1 v0 = ⊥
Le v1 v1 = Unit {0}
Le v1 vx = ⊥

pub le_refl : (a : Value) → Le a a
le_refl v0 = tt
le_refl v1 = tt
le_refl vx = tt

pub le_of : {a b : Value} → a ≡ b → Le a b
le_of {a} {b} p = subst (λ (t : Value). Le a t) p (le_refl a)

pub le_trans : (a b c : Value) → Le a b → Le b c → Le a c
le_trans vx b c h k = tt
le_trans v0 v0 c h k = k
le_trans v0 v1 c h k = absurd h
le_trans v0 vx c h k = absurd h
le_trans v1 v0 c h k = absurd h
le_trans v1 v1 c h k = k
le_trans v1 vx c h k = absurd h

pub inv-le : (a b : Value) → Le a b → Le (inv a) (inv b)
inv-le vx b h = tt
inv-le v0 v0 h = tt
inv-le v0 v1 h = h
inv-le v0 vx h = h
inv-le v1 v0 h = h
inv-le v1 v1 h = tt
inv-le v1 vx h = h

pub and_comm : (a b : Value) → and a b ≡ and b a
and_comm v0 v0 = refl
and_comm v0 v1 = refl
and_comm v0 vx = refl
and_comm v1 v0 = refl
and_comm v1 v1 = refl
and_comm v1 vx = refl
and_comm vx v0 = refl
and_comm vx v1 = refl
and_comm vx vx = refl

and_le_left : (a b c : Value) → Le a b → Le (and a c) (and b c)
and_le_left vx v0 v0 h = tt
and_le_left vx v1 v0 h = tt
and_le_left vx vx v0 h = tt
and_le_left vx b v1 h = tt
and_le_left vx b vx h = tt
and_le_left v0 v0 c h = le_refl (and v0 c)
and_le_left v0 v1 c h = absurd h
and_le_left v0 vx c h = absurd h
and_le_left v1 v0 c h = absurd h
and_le_left v1 v1 c h = le_refl (and v1 c)
and_le_left v1 vx c h = absurd h

pub and-le : (a b c d : Value) → Le a b → Le c d → Le (and a c) (and b d)
and-le a b c d h k =
    le_trans (and a c) (and b c) (and b d) (and_le_left a b c h)
    (subst (λ (t : Value). Le t (and b d)) (and_comm c b) (subst (λ (t : Value). Le (and c b) t) (and_comm d b) (and_le_left c d b k)))

pub signed_le : (s : ℕ) (a b : Value) → Le a b → Le (signed_value s a) (signed_value s b)
signed_le zero a b h = h
signed_le (suc s) a b h = inv-le a b h

pub lit-le : (w w' : ℕ → Value) (l : ℕ) → Le (w (var_of l)) (w' (var_of l)) → Le (lit w l) (lit w' l)
lit-le w w' l h = signed_le (sign_of l) (w (var_of l)) (w' (var_of l)) h

-- the same of lists, of one length
abbrev pub Les : List Value → List Value → Type 0
Les [] [] = Unit {0}
Les [] (b ∷ ys) = ⊥
Les (a ∷ xs) [] = ⊥
Les (a ∷ xs) (b ∷ ys) = Le a b × Les xs ys

pub les-append : (xs ys us zs : List Value) → Les xs ys → Les us zs → Les (xs ++ us) (ys ++ zs)
les-append [] [] us zs h k = k
les-append [] (b ∷ ys) us zs h k = absurd h
les-append (a ∷ xs) [] us zs h k = absurd h
les-append (a ∷ xs) (b ∷ ys) us zs h k = (h.0, les-append xs ys us zs h.1 k)

pub les-at : (xs ys : List Value) → Les xs ys → (n : ℕ) → Le (get_or xs n vx) (get_or ys n vx)
les-at [] [] h n = tt
les-at [] (b ∷ ys) h n = tt
les-at (a ∷ xs) [] h n = absurd h
les-at (a ∷ xs) (b ∷ ys) h zero = h.0
les-at (a ∷ xs) (b ∷ ys) h (suc n) = les-at xs ys h.1 n

pub les-refl : (xs : List Value) → Les xs xs
les-refl [] = tt
les-refl (x ∷ xs) = (le_refl x, les-refl xs)

pub lits-le : (w w' : ℕ → Value) → ((v : ℕ) → Le (w v) (w' v)) → (ls : List ℕ) → Les (map (lit w) ls) (map (lit w') ls)
lits-le w w' h [] = tt
lits-le w w' h (l ∷ ls) = (lit-le w w' l (h (var_of l)), lits-le w w' h ls)
