-- The search and what it asks: it happens exactly if some start and list show it.
use Prim.Native.Nat.{ℕ, zero, suc, ◌+◌, ◌*◌, ◌^◌, ◌≤◌, ◌<◌}
use mathlib.Core.Path.{◌≡◌, refl, sym, ap, ap₂, ◌∙◌}
use mathlib.Core.Bool.{false≢true}
use mathlib.Core.Logic.{◌↔◌}
use mathlib.Core.List.{List, [], ◌∷◌, map}
use native.Mathlib.Nat.{suc-mul}
use native.Mathlib.Omega.{arith}
use lib.ListN.{length, drop, length-append, length-map}
use Rattle.plan.specs.Circuit.{Circuit, rows_of, flat}
use Rattle.plan.specs.Step.{Value, code_of, value_of, first_state, vectors_of}
use Rattle.plan.specs.Outcome.{all_codes}
use Rattle.plan.specs.Fillings.{x_count, shows_at}
use Rattle.laws.proofs.Writing.Stepping.{all_codes_lem}
use Rattle.laws.proofs.Running.Accepted.{Accepted}
use Rattle.laws.proofs.Running.Runs.{Sized}
use Rattle.plan.specs.Search.{bits, Way, Found, never, happens, undecided, start_at, list_bytes, can_happen, system_of, CanHappen}
use Rattle.laws.proofs.Running.Refinement.{les-refl}
use Rattle.search.proofs.Answers.{Decided}
use Rattle.search.proofs.Vectors.{vectors-sized, vectors-nox}
use Rattle.search.proofs.Circuits.{never-none, happens-shown, all-decides}
use Rattle.search.proofs.Witnesses.{rows-sized, joined, flat-joined, joined-nox, none-counted, found-fills, found-shows}

flat-length : (k : ℕ) (vs : List (List Value)) → Sized k vs → length (flat (map (map code_of) vs)) ≡ length vs * k
flat-length k [] z = omega arith
flat-length k (i ∷ vs) z =
    length-append (map code_of i) (flat (map (map code_of) vs))
    ∙ ap₂ (λ (m n : ℕ). m + n) (length-map i code_of ∙ z.0) (flat-length k vs z.1)
    ∙ omega (arith, suc-mul (length vs) k)

rows-many : (k n : ℕ) (t : List ℕ) → length (map (map value_of) (rows_of k n t)) ≡ n
rows-many k zero t = refl
rows-many k (suc n) t = ap suc (rows-many k n (drop k t))

module _ (split : ℕ) (c : Circuit) (ok : Accepted c) (sized : length (first_state c) ≡ length c.latches) where
  pub never-cannot : (a n t : ℕ) → can_happen split c a ≡ never n t → CanHappen split c → ⊥
  never-cannot a n t e h =
      false≢true
      (sym (never-none split c ok sized a n t e h.filling (map value_of (start_at split c h.filling)) (vectors_of c h.number h.bytes)
      (les-refl (map value_of (start_at split c h.filling))) (rows-sized (length c.inputs) h.number h.bytes h.sized))
      ∙ h.shows)

  pub happens-can : (a t : ℕ) (w : Way) → can_happen split c a ≡ happens w t → CanHappen split c
  happens-can a t w e =
      let vs = map (bits (length c.inputs)) w.list in
      let k = found-fills split c ok sized a t w e in
      record {
        filling = k.0;
        number = length w.list;
        bytes = list_bytes c w;
        sized = flat-length (length c.inputs) vs (vectors-sized (length c.inputs) w.list)
            ∙ ap (λ (n : ℕ). n * length c.inputs) (length-map w.list (bits (length c.inputs)));
        codes = ap all_codes (flat-joined vs) ∙ all_codes_lem (joined vs);
        without-x = ap x_count (flat-joined vs) ∙ none-counted (joined vs) (joined-nox vs (vectors-nox (length c.inputs) w.list));
        shows = ap (λ (s : List ℕ). shows_at c s (length w.list) (list_bytes c w)) (sym k.1) ∙ found-shows split c ok sized a t w e;
      }

  -- no shorter list shows it, from any filling
  pub none-shorter : (a t : ℕ) (w : Way) → can_happen split c a ≡ happens w t → (h : CanHappen split c) → h.number < length w.list → ⊥
  none-shorter a t w e h q =
      false≢true
      (sym ((happens-shown split c ok sized a t w e).shortest h.filling (map value_of (start_at split c h.filling)) (vectors_of c h.number h.bytes)
      (les-refl (map value_of (start_at split c h.filling))) (rows-sized (length c.inputs) h.number h.bytes h.sized)
      (omega (arith, rows-many (length c.inputs) h.number h.bytes)))
      ∙ h.shows)

  -- with allowance for all
  module _ (a : ℕ) (h : 2 ^ length c.latches * 2 ^ length c.inputs ≤ a) where
    pub never-exactly : ((n : ℕ) × (t : ℕ) × (can_happen split c a ≡ never n t)) ↔ (CanHappen split c → ⊥)
    never-exactly = ((λ r. never-cannot a r.0 r.1 r.2), back)
      where
        back : (CanHappen split c → ⊥) → (n : ℕ) × (t : ℕ) × (can_happen split c a ≡ never n t)
        back no_way = go (can_happen split c a) refl (all-decides split c ok sized a h)
          where
            go : (f : Found) → can_happen split c a ≡ f → Decided (system_of split c) f → (n : ℕ) × (t : ℕ) × (can_happen split c a ≡ never n t)
            go (never n t) e d = (n, t, e)
            go (happens w t) e d = absurd (no_way (happens-can a t w e))
            go (undecided t) e d = absurd d

    pub happens-exactly : ((w : Way) × (t : ℕ) × (can_happen split c a ≡ happens w t)) ↔ CanHappen split c
    happens-exactly = ((λ r. happens-can a r.1 r.0 r.2), back)
      where
        back : CanHappen split c → (w : Way) × (t : ℕ) × (can_happen split c a ≡ happens w t)
        back can = go (can_happen split c a) refl (all-decides split c ok sized a h)
          where
            go : (f : Found) → can_happen split c a ≡ f → Decided (system_of split c) f → (w : Way) × (t : ℕ) × (can_happen split c a ≡ happens w t)
            go (never n t) e d = absurd (never-cannot a n t e can)
            go (happens w t) e d = (w, t, e)
            go (undecided t) e d = absurd d
