-- The search and the witness questions: never, and no list is a witness; a way that is found is one, from its start.
use Prim.Native.Nat.{ℕ, zero, suc, ◌+◌, ◌*◌, ◌^◌, ◌≤◌, ◌<◌}
use mathlib.Core.Path.{◌≡◌, refl, sym, ap, ap₂, ◌∙◌, subst}
use mathlib.Core.Bool.{Bool, true, false, cond, ◌&&◌, false≢true}
use mathlib.Core.List.{List, [], ◌∷◌, ◌++◌, map}
use Rattle.std.specs.Prelude.{Ok, Option, Some, None}
use native.Mathlib.Nat.{suc-mul, pow-zero}
use native.Mathlib.Omega.{arith}
use borrow.Author.Tests.{eqb-true}
use lib.Dec.{eqb}
use lib.ListN.{length, get_or, take, drop, length-map, length-take, length-drop}
use lib.Seq.{take_at, drop_at}
use Rattle.plan.specs.declared.Counts.{Counts}
use Rattle.plan.specs.declared.Refusal.{Refusal}
use Rattle.plan.specs.declared.Refusal.TheVariants.{BadVector}
use Rattle.plan.specs.declared.Finding.TheVariants.{Yes}
use Rattle.plan.specs.Refusals.{first_of}
use Rattle.plan.specs.Given.{given_circuit, lent_alone, stages, order_stage, in_order_then}
use Rattle.plan.specs.Outcome.{all_codes, vector_of, WitnessEntry, verdict_by, list_stage, witness3}
use Rattle.plan.specs.Circuit.{Circuit, rows_of, flat, left_vars, leaves}
use Rattle.plan.specs.Step.{Value, v0, v1, vx, code_of, value_of, reset_value, first_state, run, next_of, vectors_of, shows1, witnessed, is1}
use Rattle.plan.specs.Fillings.{x_count, Fills, fill_from, start_of, shows_at, total_of, question}
use Rattle.laws.proofs.Running.Refinement.{les-refl}
use Rattle.laws.proofs.Running.WithoutX.{NoX, NoXs}
use Rattle.laws.proofs.Reading.Common.{and_left}
use Rattle.laws.proofs.Writing.Nothing.{stage-none, at_none, first-all, first-both}
use Rattle.laws.proofs.Writing.Fine.{nothing-fine, counts-given}
use Rattle.laws.proofs.Running.Resets.{first-length}
use Rattle.laws.proofs.Running.Accepted.{Accepted, accepted}
use Rattle.laws.proofs.Running.Lists.{all_in, in_head, in_tail}
use Rattle.laws.proofs.Running.Runs.{Sized}
use Rattle.laws.proofs.Writing.Stepping.{codes-values}
use Rattle.laws.proofs.Fillings.Numbering.{fill-length, count-append, fill-fills}
use Rattle.laws.proofs.Fillings.Question.{EveryShows, yes-every, every-yes}
use Rattle.plan.specs.Search.{bits, Way, never, happens, watching, watched, start_at, start_bytes, list_bytes, can_happen}
use Rattle.search.proofs.Pairs.{both-fills}
use Rattle.search.proofs.Vectors.{bits-nox, vectors-sized, vectors-nox, fills-les}
use Rattle.search.proofs.Circuits.{never-none, happens-shown}

-- vectors as bytes and back
pub rows-sized : (k n : ℕ) (t : List ℕ) → length t ≡ n * k → Sized k (map (map value_of) (rows_of k n t))
rows-sized k zero t h = tt
rows-sized k (suc n) t h = (
  length-map (take k t) value_of ∙ length-take k t ∙ omega (arith, suc-mul n k),
  rows-sized k n (drop k t) (length-drop k t ∙ omega (arith, suc-mul n k)),
)

rows-flat : (k : ℕ) (vs : List (List Value)) → Sized k vs → map (map value_of) (rows_of k (length vs) (flat (map (map code_of) vs))) ≡ vs
rows-flat k [] z = refl
rows-flat k (i ∷ vs) z =
    let h : length (map code_of i) ≡ k = length-map i code_of ∙ z.0 in
    let rest = flat (map (map code_of) vs) in
    ap₂ (λ (a b : List ℕ). map value_of a ∷ map (map value_of) (rows_of k (length vs) b)) (take_at (map code_of i) rest k h) (drop_at (map code_of i) rest k h)
    ∙ ap₂ (λ (a : List Value) (b : List (List Value)). a ∷ b) (codes-values i) (rows-flat k vs z.1)

-- without x there is nothing to fill
none_filled : (xs : List Value) (m : List ℕ) → NoX xs → Fills (map code_of xs) m → m ≡ map code_of xs
none_filled [] [] h f = refl
none_filled [] (d ∷ m) h f = absurd f
none_filled (x ∷ xs) [] h f = absurd f
none_filled (v0 ∷ xs) (d ∷ m) h f = ap₂ (λ (a : ℕ) (t : List ℕ). a ∷ t) f.0 (none_filled xs m h.1 f.1)
none_filled (v1 ∷ xs) (d ∷ m) h f = ap₂ (λ (a : ℕ) (t : List ℕ). a ∷ t) f.0 (none_filled xs m h.1 f.1)
none_filled (vx ∷ xs) (d ∷ m) h f = absurd h.0

pub none-counted : (xs : List Value) → NoX xs → x_count (map code_of xs) ≡ 0
none-counted [] h = refl
none-counted (v0 ∷ xs) h = omega (arith, none-counted xs h.1)
none-counted (v1 ∷ xs) h = omega (arith, none-counted xs h.1)
none-counted (vx ∷ xs) h = absurd h.0

-- lists of vectors end to end
abbrev pub joined : List (List Value) → List Value
joined [] = []
joined (i ∷ is) = i ++ joined is

map-append : (xs ys : List Value) → map code_of (xs ++ ys) ≡ map code_of xs ++ map code_of ys
map-append [] ys = refl
map-append (x ∷ xs) ys = ap (λ (t : List ℕ). code_of x ∷ t) (map-append xs ys)

pub flat-joined : (is : List (List Value)) → flat (map (map code_of) is) ≡ map code_of (joined is)
flat-joined [] = refl
flat-joined (i ∷ is) = ap (λ (t : List ℕ). map code_of i ++ t) (flat-joined is) ∙ sym (map-append i (joined is))

pub joined-nox : (is : List (List Value)) → NoXs is → NoX (joined is)
joined-nox [] h = tt
joined-nox (i ∷ is) h = nox-append i (joined is) h.0 (joined-nox is h.1)
  where
    nox-append : (xs ys : List Value) → NoX xs → NoX ys → NoX (xs ++ ys)
    nox-append [] ys p q = q
    nox-append (a ∷ xs) ys p q = (p.0, nox-append xs ys p.1 q)

-- the same circuit with a state for a reset
abbrev pub digit : Value → ℕ
digit a = cond (is1 a) 1 0

abbrev pub started_at : List Value → Circuit → Circuit
started_at state c = record {
  M = c.M;
  inputs = c.inputs;
  latches = c.latches;
  resets = map digit state;
  outputs = c.outputs;
  bads = c.bads;
  constraints = c.constraints;
  gates = c.gates;
}

digits-back : (xs : List Value) → NoX xs → map reset_value (map digit xs) ≡ xs
digits-back [] h = refl
digits-back (v0 ∷ xs) h = ap (λ (t : List Value). v0 ∷ t) (digits-back xs h.1)
digits-back (v1 ∷ xs) h = ap (λ (t : List Value). v1 ∷ t) (digits-back xs h.1)
digits-back (vx ∷ xs) h = absurd h.0

-- resets are no part of a step
run-started : (c : Circuit) (state s : List Value) (is : List (List Value)) → run (started_at state c) s is ≡ run c s is
run-started c state s [] = refl
run-started c state s (i ∷ is) =
    ap (λ (t : List Rattle.plan.specs.Step.Step). Rattle.plan.specs.Step.step_of c s i ∷ t) (run-started c state (next_of c s i) is)

module _ (split : ℕ) (c : Circuit) (ok : Accepted c) (sized : length (first_state c) ≡ length c.latches) where
  -- never: the question in three values says no, of every list
  pub never-witnessed : (a n t : ℕ) → can_happen split c a ≡ never n t → (number : ℕ) (bytes : List ℕ) → length bytes ≡ number * length c.inputs
      → witnessed c number bytes ≡ false
  never-witnessed a n t e number bytes h =
      never-none split c ok sized a n t e 0 (first_state c) (vectors_of c number bytes)
      (fills-les (first_state c) (start_at split c 0) (both-fills split 0 (start_of c))) (rows-sized (length c.inputs) number bytes h)

  -- nor is any list a witness by fillings
  pub never-question : (a n t : ℕ) → can_happen split c a ≡ never n t → (number : ℕ) (bytes : List ℕ) → length bytes ≡ number * length c.inputs
      → (b k : ℕ) → question c number bytes b ≡ Yes k → ⊥
  never-question a n t e number bytes h b k q =
      false≢true
      (sym (never-none split c ok sized a n t e 0 (map value_of (start_at split c 0)) (vectors_of c number (fill_from 0 0 bytes))
      (les-refl (map value_of (start_at split c 0))) (rows-sized (length c.inputs) number (fill_from 0 0 bytes) (fill-length 0 0 bytes ∙ h)))
      ∙ yes-every c number bytes b k q (start_at split c 0) (fill_from 0 0 bytes) (both-fills split 0 (start_of c)) (fill-fills 0 0 bytes))

  module _ (a t : ℕ) (w : Way) (e : can_happen split c a ≡ happens w t) where
    abbrev state : List Value
    state = bits (length c.latches) w.start

    abbrev vectors : List (List Value)
    vectors = map (bits (length c.inputs)) w.list

    as_many : length (map (bits (length c.inputs)) w.list) ≡ length w.list
    as_many = length-map w.list (bits (length c.inputs))

    vectors-back : map (map value_of) (rows_of (length c.inputs) (length w.list) (list_bytes c w)) ≡ vectors
    vectors-back =
        ap (λ (n : ℕ). map (map value_of) (rows_of (length c.inputs) n (list_bytes c w))) (sym as_many)
        ∙ rows-flat (length c.inputs) vectors (vectors-sized (length c.inputs) w.list)

    -- the start and the list as bytes: a filling of the start, from which the list shows a 1
    pub found-fills : (k : ℕ) × (start_bytes c w ≡ start_at split c k)
    found-fills = let r = happens-shown split c ok sized a t w e in (r.filled, r.start)

    pub found-shows : shows_at c (start_bytes c w) (length w.list) (list_bytes c w) ≡ true
    found-shows =
        ap₂ (λ (s : List Value) (is : List (List Value)). shows1 (run c s is)) (codes-values state) vectors-back
        ∙ (happens-shown split c ok sized a t w e).shows

    -- from its start the list is a witness
    abbrev d : Circuit
    d = started_at (bits (length c.latches) w.start) c

    begins : first_state (started_at (bits (length c.latches) w.start) c) ≡ bits (length c.latches) w.start
    begins = digits-back (bits (length c.latches) w.start) (bits-nox (length c.latches) w.start)

    all-show : EveryShows d (length w.list) (list_bytes c w)
    all-show start list f g =
        ap₂ (λ (s l : List ℕ). shows_at d s (length w.list) l)
        (none_filled state start (bits-nox (length c.latches) w.start) (subst (λ (s : List Value). Fills (map code_of s) start) begins f))
        (none_filled (joined vectors) list (joined-nox vectors (vectors-nox (length c.inputs) w.list))
        (subst (λ (l : List ℕ). Fills l list) (flat-joined vectors) g) ∙ sym (flat-joined vectors))
        ∙ ap shows1 (run-started c state (map value_of (start_bytes c w)) (vectors_of c (length w.list) (list_bytes c w)))
        ∙ found-shows

    one-filling : total_of d (list_bytes c w) ≡ 1
    one-filling =
        ap (λ (n : ℕ). 2 ^ n)
        (count-append (start_of d) (list_bytes c w)
        ∙ ap₂ (λ (p q : ℕ). p + q)
        (ap (λ (s : List Value). x_count (map code_of s)) begins ∙ none-counted state (bits-nox (length c.latches) w.start))
        (ap x_count (flat-joined vectors) ∙ none-counted (joined vectors) (joined-nox vectors (vectors-nox (length c.inputs) w.list))))
        ∙ pow-zero 2

    pub found-witness : (b : ℕ) → 1 ≤ b → question d (length w.list) (list_bytes c w) b ≡ Yes 1
    found-witness b h =
        every-yes d (length w.list) (list_bytes c w) b (omega (arith, one-filling)) all-show ∙ ap Yes one-filling

-- the bad states, or one output
one_in : (ls ds : List ℕ) → all_in ls ds ≡ true → (k : ℕ) → k < length ls → all_in (get_or ls k 0 ∷ []) ds ≡ true
one_in [] ds h k p = absurd (omega arith)
one_in (l ∷ ls) ds h zero p = ap (λ (b : Bool). b && true) (in_head l ls ds h)
one_in (l ∷ ls) ds h (suc k) p = one_in ls ds (in_tail l ls ds h) k (omega arith)

watching-accepted : (c : Circuit) → Accepted c → (ws : List ℕ) → all_in ws (leaves c ++ left_vars c.gates) ≡ true → Accepted (watching ws c)
watching-accepted c ok ws h = record {
  once = ok.once;
  used-next = ok.used-next;
  used-output = h;
  used-bad = refl;
  used-constraint = ok.used-constraint;
  used-gate = ok.used-gate;
  settles = ok.settles;
}

pub watched-accepted : (c : Circuit) → Accepted c → (k : ℕ) → k ≤ length c.outputs → Accepted (watched k c)
watched-accepted c ok zero h = watching-accepted c ok c.bads ok.used-bad
watched-accepted c ok (suc k) h =
    watching-accepted c ok (get_or c.outputs k 0 ∷ []) (one_in c.outputs (leaves c ++ left_vars c.gates) ok.used-output k h)

-- over a whole call of the question in three values: never, and it does not say yes
yes-only : (o : Option Refusal) (b : Bool) → verdict_by o b ≡ Ok true → (o ≡ None) × (b ≡ true)
yes-only None true e = (refl, refl)
yes-only None false e = let z : ◌≡◌ {A = ℕ} 0 1 = cc in absurd (omega arith)
yes-only (Some r) b e = let z : ◌≡◌ {A = ℕ} 0 1 = cc in absurd (omega arith)

pub never-three : (split : ℕ) (w : WitnessEntry) (a n t : ℕ) → can_happen split (given_circuit w.circuit) a ≡ never n t → (witness3 w).answer ≡ Ok true → ⊥
never-three split w a n t e q =
    let g = w.circuit in
    let r = yes-only (first_of (in_order_then g (list_stage w ∷ []))) (witnessed (given_circuit g) w.number w.bytes) q in
    let both = first-both (stages g (lent_alone g)) (order_stage g ∷ list_stage w ∷ []) r.0 in
    let fine = nothing-fine g (lent_alone g) both.0 in
    let own = first-all (order_stage g ∷ list_stage w ∷ []) both.1 in
    let size = eqb (length w.bytes) (w.number * g.counts.I) in
    let good = at_none 2 (eqb (length w.bytes) (w.number * g.counts.I) && all_codes w.bytes)
    (stage-none BadVector (vector_of 2 (w.number * g.counts.I) w.bytes) own.1.0) in
    let long : length w.bytes ≡ w.number * g.counts.I =
    eqb-true _ _ (and_left (eqb (length w.bytes) (w.number * g.counts.I)) (all_codes w.bytes) good) in
    let counts = counts-given g fine.room in
    false≢true
    (sym (never-witnessed split (given_circuit g) (accepted (given_circuit g) fine.formed) (first-length (given_circuit g) fine.formed) a n t e w.number w.bytes
    (long ∙ ap (λ (m : Counts). w.number * m.I) (sym counts)))
    ∙ r.1)
