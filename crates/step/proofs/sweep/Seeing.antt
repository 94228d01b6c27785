-- Literals whose values are read after a step: one by one, and those of bad states and constraints.
use Prim.Native.Nat.{ℕ, ◌+◌, ◌≤◌, ◌<◌}
use mathlib.Core.Path.{◌≡◌, refl, sym, ap, ap₂, ◌∙◌, subst}
use mathlib.Core.Bool.{Bool, true, false, ◌&&◌, ◌||◌}
use mathlib.Core.List.{List, [], ◌∷◌, map}
use native.Mathlib.Numerals.{add-one}
use native.Mathlib.Omega.{arith}
use lib.ListN.{length, get_or, take, drop, drop_of_length-le}
use lib.Seq.{drop-cons, length-take-le, get_or-take}
use Rattle.plan.specs.declared.Counts.{Counts}
use Rattle.plan.specs.Literals.{var_of}
use Rattle.plan.specs.Circuit.{Tables, circuit_of, one_line, inside, all_inside}
use Rattle.plan.specs.Step.{Value, v1, lit, values_of, bads_of, constraints_of, is1, any1, all1}
use Rattle.laws.proofs.Ranges.{first-var}
use Rattle.laws.proofs.Reading.Common.{and_left, and_right}
use Rattle.tables.specs.Held.{Scratch}
use Rattle.step.specs.values.Words.{word, told}
use Rattle.step.proofs.values.Codes.{told-word, is_one, no_one}
use Rattle.step.specs.sweep.Lookup.{word_at, Inside, Sees, seen}
use Rattle.step.specs.sweep.Running.{Runs, Stepped, lits_of}
use Rattle.step.proofs.sweep.NotAnd.{word-there}
use Rattle.step.proofs.sweep.Literals.{literal-up}

-- the values of literals from the i-th on
module _ (lits : ℕ) (t ls : List ℕ) where
  abbrev pub from : ℕ → List Value
  from i = seen lits t (drop i ls)

  first-seen : (i : ℕ) → i < length ls → (v : ℕ) → v ≡ word_at lits t (get_or ls i 0) → from i ≡ told v ∷ from (i + 1)
  first-seen i h v e =
      ap (seen lits t) (drop-cons ls i 0 h) ∙ ap₂ (λ (x : Value) (k : ℕ). x ∷ from k) (ap told (sym e)) (sym (add-one i))

  none_left : (i : ℕ) → length ls ≤ i → from i ≡ []
  none_left i h = ap (seen lits t) (drop_of_length-le ls {i = i} h)

  module _ (i : ℕ) (h : i < length ls) (v : ℕ) (e : v ≡ word_at lits t (get_or ls i 0)) where
    module _ (left : any1 (from 0) ≡ any1 (from i)) where
      any-turn : any1 (from 0) ≡ (is1 (told v) || any1 (from (i + 1)))
      any-turn = left ∙ ap any1 (first-seen i h v e)

      pub any_here : v ≡ word v1 → true ≡ any1 (from 0)
      any_here q = sym (any-turn ∙ ap (λ (b : Bool). b || any1 (from (i + 1))) (is_one v q))

      pub any-later : (v ≡ word v1 → ⊥) → any1 (from 0) ≡ any1 (from (i + 1))
      any-later q = any-turn ∙ ap (λ (b : Bool). b || any1 (from (i + 1))) (no_one v q)

    module _ (left : all1 (from 0) ≡ all1 (from i)) where
      all-turn : all1 (from 0) ≡ (is1 (told v) && all1 (from (i + 1)))
      all-turn = left ∙ ap all1 (first-seen i h v e)

      pub all_here : (v ≡ word v1 → ⊥) → false ≡ all1 (from 0)
      all_here q = sym (all-turn ∙ ap (λ (b : Bool). b && all1 (from (i + 1))) (no_one v q))

      pub all-later : v ≡ word v1 → all1 (from 0) ≡ all1 (from (i + 1))
      all-later q = all-turn ∙ ap (λ (b : Bool). b && all1 (from (i + 1))) (is_one v q)

  pub any_none : (i : ℕ) → length ls ≤ i → any1 (from 0) ≡ any1 (from i) → false ≡ any1 (from 0)
  any_none i h left = sym (left ∙ ap any1 (none_left i h))

  pub all_seen : (i : ℕ) → length ls ≤ i → all1 (from 0) ≡ all1 (from i) → true ≡ all1 (from 0)
  all_seen i h left = sym (left ∙ ap all1 (none_left i h))

-- both words of a literal among the first n
pub literal_in : {table t : List ℕ} {n lits : ℕ} → Sees table n lits t → (i : ℕ) → i < length (take n table)
    → Inside lits t (get_or (take n table) i 0)
literal_in {table} {t} {n} {lits} p i h =
    let below : i < n = omega (arith, length-take-le n table p.literals-long) in
    subst (Inside lits t) (sym (get_or-take n table i 0 below)) (p.inside i below)

-- what is asked of scratch, and the values after a step
agree : (m : ℕ) (f g : ℕ → Value) (ls : List ℕ) → all_inside false m (map one_line ls) ≡ true → ((l : ℕ) → var_of l ≤ m → f l ≡ g l)
    → map f ls ≡ map g ls
agree m f g [] h k = refl
agree m f g (l ∷ ls) h k =
    ap₂ (λ (x : Value) (y : List Value). x ∷ y) (k l (first-var false m l [] (and_left (inside false m (one_line l)) _ h)))
    (agree m f g ls (and_right (inside false m (one_line l)) _ h) k)

module _ {n : Counts} {x : Tables} (r : Runs n x) where
  module _ {t : List ℕ} (room : Scratch n t) where
    pub sees-bads : Sees x.bads n.B (lits_of n) t
    sees-bads = record {
      literals-long = r.fits.bads-long;
      inside = λ k h. omega (arith, literal-up n.M x.bads n.B r.fits.bads-long r.formed.bads k h, room);
    }

    pub sees-constraints : Sees x.constraints n.C (lits_of n) t
    sees-constraints = record {
      literals-long = r.fits.constraints-long;
      inside = λ k h. omega (arith, literal-up n.M x.constraints n.C r.fits.constraints-long r.formed.constraints k h, room);
    }

  module _ {s i : List Value} {t : List ℕ} (p : Stepped n (circuit_of n x) s i t) where
    value_read : (l : ℕ) → var_of l ≤ n.M → told (word_at (lits_of n) t l) ≡ lit (values_of (circuit_of n x) s i) l
    value_read l h =
        ap told (word-there (lits_of n) t (values_of (circuit_of n x) s i) n.M p.literals l h) ∙ told-word (lit (values_of (circuit_of n x) s i) l)

    pub bads-seen : seen (lits_of n) t (take n.B x.bads) ≡ bads_of (circuit_of n x) s i
    bads-seen =
        agree n.M (λ l. told (word_at (lits_of n) t l)) (lit (values_of (circuit_of n x) s i)) (take n.B x.bads) r.formed.bads value_read

    pub constraints-seen : seen (lits_of n) t (take n.C x.constraints) ≡ constraints_of (circuit_of n x) s i
    constraints-seen =
        agree n.M (λ l. told (word_at (lits_of n) t l)) (lit (values_of (circuit_of n x) s i)) (take n.C x.constraints)
        r.formed.constraints value_read
