-- The laws over the whole call: what never and shown say of the circuit given, and a larger allowance.
use Prim.Native.Nat.{ℕ, zero, suc, ◌≤◌}
use mathlib.Core.Path.{◌≡◌, refl, sym, ap, ap₂, ◌∙◌}
use mathlib.Core.Bool.{true}
use mathlib.Core.List.{List, [], ◌∷◌, ◌++◌}
use Rattle.std.specs.Prelude.{Result, Ok, Err, Option, Some, None}
use native.Mathlib.Omega.{arith}
use borrow.Author.Tests.{leb-true}
use lib.Dec.{leb}
use lib.ListN.{length}
use Rattle.plan.specs.declared.Counts.{Counts}
use Rattle.plan.specs.declared.Refusal.{Refusal}
use Rattle.plan.specs.declared.Refusal.TheVariants.{NotExplained, ManyLatches, ManyInputs}
use Rattle.plan.specs.Refusals.{first_of}
use Rattle.plan.specs.Circuit.{Circuit}
use Rattle.plan.specs.Reading.{WellFormed}
use Rattle.plan.specs.Given.{given_circuit, lent_alone, failing_at, room_stage, stages, order_stage, in_order_then}
use Rattle.plan.specs.Step.{first_state}
use Rattle.plan.specs.Fillings.{shows_at}
use Rattle.plan.specs.Outcome.{put}
use Rattle.laws.proofs.Writing.Nothing.{stage-none, at_none, first-all, first-both}
use Rattle.laws.proofs.Writing.Fine.{nothing-fine, counts-given}
use Rattle.laws.proofs.Running.Accepted.{Accepted, accepted}
use Rattle.laws.proofs.Running.Resets.{first-length}
use Rattle.plan.specs.Search.{Best, Way, Found, never, happens, undecided, watched, start_bytes, list_bytes, can_happen, system_of}
use Rattle.plan.specs.declared.Happening.{Happening}
use Rattle.plan.specs.declared.Happening.TheVariants.{Never, Can}
use Rattle.search.specs.Asking.{fit_stages}
use Rattle.plan.specs.Search.{SearchEntry, start_at, searched, found, way_bytes, happening_of, search_stages, searched_by, search}
use Rattle.search.proofs.Answers.{Decided, all-stays}
use Rattle.search.proofs.Circuits.{NoneShows, never-none, happens-best}
use Rattle.search.proofs.Witnesses.{watched-accepted, found-fills, found-shows}

first-watched : (k : ℕ) (c : Circuit) → first_state (watched k c) ≡ first_state c
first-watched zero c = refl
first-watched (suc k) c = refl

latches-watched : (k : ℕ) (c : Circuit) → length (watched k c).latches ≡ length c.latches
latches-watched zero c = refl
latches-watched (suc k) c = refl

-- the answer and the buffer, by what is refused and what is found
abbrev answer_with : Option Refusal → Found → Result Happening Refusal
answer_with None f = Ok (happening_of f)
answer_with (Some r) f = Err r

abbrev out_with : Option Refusal → List ℕ → List ℕ → List ℕ
out_with None out bytes = put out 0 bytes
out_with (Some r) out bytes = out

module _ (e : SearchEntry) where
  abbrev refusal : Option Refusal
  refusal = first_of (in_order_then e.circuit (search_stages e))

  -- a call that is refused for nothing
  pub record NotRefused : Type 0 where
    pub formed : WellFormed (given_circuit e.circuit)
    pub few-latches : e.circuit.counts.L ≤ 20
    pub few-inputs : e.circuit.counts.I ≤ 20
    pub there : e.watch ≤ length (given_circuit e.circuit).outputs

  pub not-refused : first_of (in_order_then e.circuit (search_stages e)) ≡ None → NotRefused
  not-refused q =
      let g = e.circuit in
      let both = first-both (stages g (lent_alone g)) (order_stage g ∷ search_stages e) q in
      let fine = nothing-fine g (lent_alone g) both.0 in
      let own = first-all (order_stage g ∷ search_stages e) both.1 in
      let n = g.counts in
      let counts = counts-given g fine.room in
      let few = at_none n.L (leb n.L 20) (stage-none ManyLatches (failing_at n.L (leb n.L 20)) own.1.0) in
      let less = at_none n.I (leb n.I 20) (stage-none ManyInputs (failing_at n.I (leb n.I 20)) own.1.1.0) in
      let is = at_none 1 (leb e.watch n.O) (stage-none NotExplained (failing_at 1 (leb e.watch n.O)) own.1.1.1.1.0) in
      record {
        formed = fine.formed;
        few-latches = leb-true n.L 20 few;
        few-inputs = leb-true n.I 20 less;
        there = omega (arith, leb-true e.watch n.O is, ap (λ (m : Counts). m.O) counts);
      }

  module _ (s : NotRefused) where
    pub ok : Accepted (searched e)
    ok = watched-accepted (given_circuit e.circuit) (accepted (given_circuit e.circuit) s.formed) e.watch s.there

    pub sized : length (first_state (searched e)) ≡ length (searched e).latches
    sized =
        ap length (first-watched e.watch (given_circuit e.circuit)) ∙ first-length (given_circuit e.circuit) s.formed
        ∙ sym (latches-watched e.watch (given_circuit e.circuit))

  -- never: no start and no list, with x or without, shows it
  never-only : (o : Option Refusal) (n t : ℕ) → (searched_by o e).answer ≡ Ok (Never n t) → (o ≡ None) × (found e ≡ never n t)
  never-only (Some r) n t q = let z : ◌≡◌ {A = ℕ} 0 1 = cc in absurd (omega arith)
  never-only None n t q = (refl, go (found e) q)
    where
      go : (f : Found) → ◌≡◌ {A = Result Happening Refusal} (Ok (happening_of f)) (Ok (Never n t)) → f ≡ never n t
      go (never a b) h = let p : a ≡ n = cc in let r : b ≡ t = cc in ap₂ never p r
      go (happens w b) h = let z : ◌≡◌ {A = ℕ} 0 1 = cc in absurd (omega arith)
      go (undecided b) h = let z : ◌≡◌ {A = ℕ} 0 1 = cc in absurd (omega arith)

  pub call-never : (n t : ℕ) → (search e).answer ≡ Ok (Never n t) → (s : NotRefused) × NoneShows e.split (searched e) (ok s) (sized s)
  call-never n t q =
      let r = never-only (first_of (in_order_then e.circuit (search_stages e))) n t q in
      let s = not-refused r.0 in
      (s, never-none e.split (searched e) (ok s) (sized s) e.allowance n t r.1)

  -- shown: the bytes are a filling of the start and a list that shows it from there, the best of all; the rest of the buffer is as it was
  pub record Told (steps : ℕ) : Type 0 where
    pub searching : NotRefused
    pub way : Way
    pub best : Best (system_of e.split (searched e)) way.start way.list
    pub many : steps ≡ length way.list
    pub fills : (k : ℕ) × (start_bytes (searched e) way ≡ start_at e.split (searched e) k)
    pub shows : shows_at (searched e) (start_bytes (searched e) way) steps (list_bytes (searched e) way) ≡ true
    pub written : (search e).out ≡ put e.out 0 (start_bytes (searched e) way ++ list_bytes (searched e) way)

  shown-only : (o : Option Refusal) (n t : ℕ) → (searched_by o e).answer ≡ Ok (Can n t)
      → (o ≡ None) × ((w : Way) × (found e ≡ happens w t) × (n ≡ length w.list))
  shown-only (Some r) n t q = let z : ◌≡◌ {A = ℕ} 0 1 = cc in absurd (omega arith)
  shown-only None n t q = (refl, go (found e) refl q)
    where
      go : (f : Found) → found e ≡ f → ◌≡◌ {A = Result Happening Refusal} (Ok (happening_of f)) (Ok (Can n t)) → (w : Way) × (found e ≡ happens w t) × (n ≡ length w.list)
      go (never a b) p h = let z : ◌≡◌ {A = ℕ} 0 1 = cc in absurd (omega arith)
      go (happens w b) p h = let r : b ≡ t = cc in let l : n ≡ length w.list = cc in (w, p ∙ ap (happens w) r, l)
      go (undecided b) p h = let z : ◌≡◌ {A = ℕ} 0 1 = cc in absurd (omega arith)

  pub call-shown : (n t : ℕ) → (search e).answer ≡ Ok (Can n t) → Told n
  call-shown n t q =
      let r = shown-only (first_of (in_order_then e.circuit (search_stages e))) n t q in
      let s = not-refused r.0 in
      let w = r.1.0 in
      let f : can_happen e.split (searched e) e.allowance ≡ happens w t = r.1.1 in
      record {
        searching = s;
        way = w;
        best = happens-best e.split (searched e) (ok s) (sized s) e.allowance t w f;
        many = r.1.2;
        fills = found-fills e.split (searched e) (ok s) (sized s) e.allowance t w f;
        shows = ap (λ (k : ℕ). shows_at (searched e) (start_bytes (searched e) w) k (list_bytes (searched e) w)) r.1.2
            ∙ found-shows e.split (searched e) (ok s) (sized s) e.allowance t w f;
        written = ap (λ (o : Option Refusal). (searched_by o e).out) r.0
            ∙ ap (λ (x : Found). put e.out 0 (way_bytes (searched e) x)) r.1.1;
      }

  -- a larger allowance changes nothing of an answer but undecided
  abbrev pub allowing : ℕ → SearchEntry
  allowing b = record {
    circuit = e.circuit;
    split = e.split;
    watch = e.watch;
    allowance = b;
    met = e.met;
    marks = e.marks;
    out = e.out;
  }

  abbrev refused_with : Found → Option Refusal
  refused_with f =
      first_of (in_order_then e.circuit (fit_stages e.circuit.counts e.watch (length e.met) (length e.marks)
      ++ (room_stage e.out (way_bytes (searched e) f) ∷ [])))

  answer-by : (a : ℕ) (o : Option Refusal) → (searched_by o (allowing a)).answer ≡ answer_with o (found (allowing a))
  answer-by a None = refl
  answer-by a (Some r) = refl

  out-by : (a : ℕ) (o : Option Refusal) → (searched_by o (allowing a)).out ≡ out_with o e.out (way_bytes (searched e) (found (allowing a)))
  out-by a None = refl
  out-by a (Some r) = refl

  pub call-larger : (b : ℕ) → e.allowance ≤ b → Decided (system_of e.split (searched e)) (found e)
      → ((search (allowing b)).answer ≡ (search e).answer) × ((search (allowing b)).out ≡ (search e).out)
  call-larger b h d =
      let same : found (allowing b) ≡ found e = all-stays (system_of e.split (searched e)) e.allowance b h d in (
        answer-by b (refused_with (found (allowing b)))
            ∙ ap (λ (f : Found). answer_with (refused_with f) f) same ∙ sym (answer-by e.allowance (refused_with (found e))),
        out-by b (refused_with (found (allowing b)))
            ∙ ap (λ (f : Found). out_with (refused_with f) e.out (way_bytes (searched e) f)) same ∙ sym (out-by e.allowance (refused_with (found e))),
      )
