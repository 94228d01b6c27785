-- Breadth first: what is true of the states met after p tries.
use Prim.Native.Nat.{ℕ, zero, suc, ◌+◌, ◌*◌, ◌/◌, ◌%◌, ◌≤◌, ◌<◌}
use mathlib.Core.Path.{◌≡◌, refl, sym, ap, ◌∙◌, subst}
use mathlib.Core.Bool.{Bool, true, false, ◌||◌, false≢true}
use mathlib.Core.List.{List, [], ◌∷◌, ◌++◌, map}
use native.Mathlib.Nat.{mul-add-div_right, mul-add-mod_self_right, div-eq_of_lt, mod-eq_of_lt, mul-le-mul_right, suc-mul, div-add-mod', le-div_iff_mul-le, add-zero}
use native.Mathlib.Decide.{dec_le}
use native.Mathlib.Omega.{arith}
use borrow.Author.Tests.{eqb-true, eq-eqb}
use lib.Dec.{eqb}
use lib.ListN.{length, length-append, get_or-append}
use lib.Seq.{get_or-append_seam}
use Rattle.plan.specs.Circuit.{has}
use Rattle.laws.proofs.Reading.Members.{distinct, has-cases}
use Rattle.laws.proofs.Running.Lists.{distinct_cons, distinct_head, distinct_tail}
use Rattle.search.specs.Rows.{at, Sits}
use Rattle.plan.specs.Search.{System, Leads, Way, begin, state_of}

-- one state more at the end
module _ (met : List Way) (w : Way) where
  pub length_more : length (met ++ (w ∷ [])) ≡ suc (length met)
  length_more = omega (arith, length-append met (w ∷ []))

  pub at_old : (i : ℕ) → i < length met → at (met ++ (w ∷ [])) i ≡ at met i
  at_old i h = get_or-append met (w ∷ []) (begin 0) i h

  pub at_new : at (met ++ (w ∷ [])) (length met) ≡ w
  at_new = get_or-append_seam met w [] (begin 0)

  pub sits-more : (s d : ℕ) → Sits met s d → Sits (met ++ (w ∷ [])) s d
  sits-more s d k = record {
    place = k.place;
    within = omega (arith, k.within, length_more);
    is-it = ap state_of (at_old k.place k.within) ∙ k.is-it;
    near = subst (λ (v : Way). length v.list ≤ d) (sym (at_old k.place k.within)) k.near;
  }

  -- what holds at every place
  pub all_more : (P : Way → Type 0) → ((i : ℕ) → i < length met → P (at met i)) → P w → (i : ℕ) → i < length (met ++ (w ∷ []))
      → P (at (met ++ (w ∷ [])) i)
  all_more P all last i h = go (dec_le (suc i) (length met))
    where
      go : Dec (suc i ≤ length met) → P (at (met ++ (w ∷ [])) i)
      go (yes k) = subst P (sym (at_old i k)) (all i k)
      go (no k) =
          let e : length met ≡ i = omega (arith, length_more) in
          subst (λ (j : ℕ). P (at (met ++ (w ∷ [])) j)) e (subst P (sym at_new) last)

pub sits-weak : (met : List Way) (s d e : ℕ) → d ≤ e → Sits met s d → Sits met s e
sits-weak met s d e h k = record { place = k.place; within = k.within; is-it = k.is-it; near = omega (arith, k.near) }

-- a state that a row of states has is met
pub place_of : (met : List Way) (s : ℕ) → has s (map state_of met) ≡ true → (i : ℕ) × (i < length met) × ((at met i).state ≡ s)
place_of [] s h = absurd (false≢true h)
place_of (w ∷ met) s h =
    has-cases ((i : ℕ) × (i < length (w ∷ met)) × ((at (w ∷ met) i).state ≡ s)) w.state s (map state_of met) h (λ e. (0, omega arith, e))
    (λ k. let r = place_of met s k in (suc r.0, omega (arith, r.1), r.2))

pub has-place : (met : List Way) (i : ℕ) → i < length met → has (at met i).state (map state_of met) ≡ true
has-place [] i h = absurd (omega arith)
has-place (w ∷ met) zero h = rw (eq-eqb w.state w.state refl)
has-place (w ∷ met) (suc i) h = or_right (eqb w.state (at met i).state) _ (has-place met i (omega arith))
  where
    or_right : (a b : Bool) → b ≡ true → (a || b) ≡ true
    or_right true b k = refl
    or_right false b k = k

pub has-snoc : (v x : ℕ) (xs : List ℕ) → has v (xs ++ (x ∷ [])) ≡ (has v xs || eqb x v)
has-snoc v x [] = go (eqb x v)
  where
    go : (t : Bool) → (t || false) ≡ (false || t)
    go true = refl
    go false = refl
has-snoc v x (u ∷ xs) = go (eqb u v) (has-snoc v x xs)
  where
    go : (t : Bool) → has v (xs ++ (x ∷ [])) ≡ (has v xs || eqb x v) → (t || has v (xs ++ (x ∷ []))) ≡ ((t || has v xs) || eqb x v)
    go true e = refl
    go false e = e

pub map_snoc : (met : List Way) (w : Way) → map state_of (met ++ (w ∷ [])) ≡ map state_of met ++ (w.state ∷ [])
map_snoc [] w = refl
map_snoc (u ∷ met) w = ap (λ (t : List ℕ). u.state ∷ t) (map_snoc met w)

pub distinct_snoc : (x : ℕ) (xs : List ℕ) → distinct xs ≡ true → has x xs ≡ false → distinct (xs ++ (x ∷ [])) ≡ true
distinct_snoc x [] d h = refl
distinct_snoc x (u ∷ xs) d h =
    distinct_cons u (xs ++ (x ∷ [])) (has-snoc u x xs ∙ both (has u xs) (eqb x u) (distinct_head u xs d) (other (eqb u x) (eqb x u) refl refl h))
    (distinct_snoc x xs (distinct_tail u xs d) (tail-out (eqb u x) (has x xs) h))
  where
    both : (a b : Bool) → a ≡ false → b ≡ false → (a || b) ≡ false
    both true b p q = absurd (false≢true (sym p))
    both false b p q = q

    tail-out : (a b : Bool) → (a || b) ≡ false → b ≡ false
    tail-out true b p = absurd (false≢true (sym p))
    tail-out false b p = p

    other : (a b : Bool) → eqb u x ≡ a → eqb x u ≡ b → (a || has x xs) ≡ false → b ≡ false
    other true b p q r = absurd (false≢true (sym r))
    other false true p q r = absurd (false≢true (sym p ∙ eq-eqb u x (sym (eqb-true x u q))))
    other false false p q r = refl

module _ (y : System) where
  -- where moves lead, with one more
  pub leads-snoc : (s : ℕ) (list : List ℕ) (t m : ℕ) → Leads y s list t → m < y.moves → y.allows t m ≡ true
      → Leads y s (list ++ (m ∷ [])) (y.next t m)
  leads-snoc s [] t m e h k = (h, subst (λ (u : ℕ). y.allows u m ≡ true) (sym e) k, ap (λ (u : ℕ). y.next u m) e)
  leads-snoc s (n ∷ list) t m l h k = (l.0, l.1, leads-snoc (y.next s n) list t m l.2 h k)

-- try number p is that of move m at place i
module _ (n : ℕ) (pos : 0 < n) where
  pub pair_place : (i m p : ℕ) → m < n → i * n + m ≡ p → p / n ≡ i
  pair_place i m p h e =
      ap (λ (k : ℕ). k / n) (sym e) ∙ mul-add-div_right pos i m ∙ ap (λ (k : ℕ). i + k) (div-eq_of_lt h) ∙ add-zero i

  pub pair-move : (i m p : ℕ) → m < n → i * n + m ≡ p → p % n ≡ m
  pair-move i m p h e = ap (λ (k : ℕ). k % n) (sym e) ∙ mul-add-mod_self_right i n m ∙ mod-eq_of_lt h

  -- all moves at the places before have been tried
  pub before-tried : (i m p : ℕ) → m < n → i < p / n → i * n + m < p
  before-tried i m p h k = omega (arith, suc-mul i n, mul-le-mul_right n k, div-add-mod' p n)

  pub place-later : (p : ℕ) → p / n ≤ (p + 1) / n
  place-later p = (le-div_iff_mul-le pos).1 (omega (arith, div-add-mod' p n))
