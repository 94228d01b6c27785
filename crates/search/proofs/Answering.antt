-- The call's answer, stage by stage.
use Prim.Native.Nat.{ℕ, zero, suc, ◌+◌, ◌-◌, ◌*◌, ◌/◌, ◌^◌, ◌≤◌, ◌<◌, min}
use mathlib.Core.Path.{◌≡◌, refl, sym, ap, ap₂, ◌∙◌, subst}
use mathlib.Core.Bool.{Bool, true, false, cond}
use mathlib.Core.List.{List, [], ◌∷◌, ◌++◌, map}
use Rattle.std.specs.Prelude.{Result, Ok, Err, Option, Some, None}
use native.Mathlib.Nat.{zero-add, pow-le-pow_right}
use native.Mathlib.Omega.{arith}
use borrow.Author.Tests.{le-leb, lt-leb, leb-true}
use lib.Dec.{leb}
use lib.ListN.{length, get_or, replicate, length-append}
use Rattle.plan.specs.declared.Counts.{Counts}
use Rattle.plan.specs.declared.Refusal.TheVariants.{ShortTable, NotExplained, ShortBuffer, ManyLatches, ManyInputs}
use Rattle.plan.specs.declared.Refusal.{Refusal}
use Rattle.plan.specs.declared.Happening.{Happening}
use Rattle.plan.specs.declared.Happening.TheVariants.{Can}
use Rattle.plan.specs.declared.Happening.TheVariants as happening
use Rattle.plan.specs.Refusals.{stage, first_of}
use Rattle.plan.specs.Circuit.{Circuit, Tables, circuit_of, or_less, cleared}
use Rattle.plan.specs.Given.{failing_at, lacking_room, room_stage, in_order_then}
use Rattle.plan.specs.Outcome.{put, checked_by}
use Rattle.plan.specs.Search.{System, Way, Found, never, happens, undecided, onward, bits, watched, system_of, can_happen, way_bytes, happening_of, SearchEntry, SearchExit, searched, found, search_stages, searched_by, search}
use Rattle.laws.proofs.Writing.Nothing.{some_first, both_first}
use Rattle.judge.proofs.Sound.{good_none, refused-some}
use Rattle.step.proofs.Beyond.{answer}
use Rattle.laws.proofs.Put.{put-none}
use Rattle.tables.specs.bitmap.Bitmap.{is_on}
use Rattle.tables.proofs.bitmap.Telling.{blank-off}
use Rattle.step.specs.sweep.Running.{Runs}
use Rattle.search.specs.declared.Reach.{Reach}
use Rattle.search.specs.declared.Reach.TheVariants as reach
use Rattle.search.specs.Rows.{at, Rows}
use Rattle.search.specs.Walking.{Walks, way_codes, Tells}
use Rattle.search.specs.Exploring.{ExploredBy}
use Rattle.search.specs.Asking.{fit_stages, answer_by, out_by, Answered, Asks}
use Rattle.search.proofs.Walking.{way_long, few_bytes, list-low}

-- 25, 26, 4 and 17
module _ (n : Counts) (watch met marks : ℕ) where
  abbrev judged : Bool → Bool → Bool → Bool → Bool → Result Unit Refusal
  judged a b c d e =
      checked_by (first_of (stage ManyLatches (failing_at n.L a) ∷ stage ManyInputs (failing_at n.I b)
      ∷ stage ShortTable (cond c (cond d None (or_less 11 None)) (or_less 10 (cond d None (or_less 11 None)))) ∷ stage NotExplained (failing_at 1 e) ∷ []))

  by_tests : (a b c d e : Bool) → leb n.L 20 ≡ a → leb n.I 20 ≡ b → leb (3 * 2 ^ n.L) met ≡ c → leb ((2 ^ n.L + 31) / 32) marks ≡ d → leb
      watch n.O ≡ e
      → judged a b c d e ≡ checked_by (first_of (fit_stages n watch met marks))
  by_tests a b c d e pa pb pc pd pe = λ j. judged (sym pa j) (sym pb j) (sym pc j) (sym pd j) (sym pe j)

  pub fit-latches : 20 < n.L → Err (ManyLatches n.L) ≡ checked_by (first_of (fit_stages n watch met marks))
  fit-latches h = by_tests false _ _ _ _ (lt-leb n.L 20 h) refl refl refl refl

  module _ (hl : n.L ≤ 20) where
    pub fit-inputs : 20 < n.I → Err (ManyInputs n.I) ≡ checked_by (first_of (fit_stages n watch met marks))
    fit-inputs h = by_tests true false _ _ _ (le-leb n.L 20 hl) (lt-leb n.I 20 h) refl refl refl

    module _ (hi : n.I ≤ 20) (states : ℕ) (es : states ≡ 2 ^ n.L) where
      pub fit-ten : met < 3 * states → Err (ShortTable 10) ≡ checked_by (first_of (fit_stages n watch met marks))
      fit-ten h = go (leb ((2 ^ n.L + 31) / 32) marks) refl
        where
          go : (d : Bool) → leb ((2 ^ n.L + 31) / 32) marks ≡ d → Err (ShortTable 10) ≡ checked_by (first_of (fit_stages n watch met marks))
          go true q = by_tests true true false true _ (le-leb n.L 20 hl) (le-leb n.I 20 hi) (lt-leb (3 * 2 ^ n.L) met (omega arith)) q refl
          go false q = by_tests true true false false _ (le-leb n.L 20 hl) (le-leb n.I 20 hi) (lt-leb (3 * 2 ^ n.L) met (omega arith)) q refl

      module _ (hm : 3 * states ≤ met) where
        met-fits : leb (3 * 2 ^ n.L) met ≡ true
        met-fits = le-leb (3 * 2 ^ n.L) met (omega arith)

        pub fit-eleven : marks < (states + 31) / 32 → Err (ShortTable 11) ≡ checked_by (first_of (fit_stages n watch met marks))
        fit-eleven h =
            by_tests true true true false _ (le-leb n.L 20 hl) (le-leb n.I 20 hi) met-fits
            (lt-leb ((2 ^ n.L + 31) / 32) marks (subst (λ (k : ℕ). marks < (k + 31) / 32) es h)) refl

        module _ (hk : (states + 31) / 32 ≤ marks) where
          marks-fit : leb ((2 ^ n.L + 31) / 32) marks ≡ true
          marks-fit = le-leb ((2 ^ n.L + 31) / 32) marks (subst (λ (k : ℕ). (k + 31) / 32 ≤ marks) es hk)

          pub fit-watch : n.O < watch → Err (NotExplained 1) ≡ checked_by (first_of (fit_stages n watch met marks))
          fit-watch h = by_tests true true true true false (le-leb n.L 20 hl) (le-leb n.I 20 hi) met-fits marks-fit (lt-leb watch n.O h)

          pub fit-good : watch ≤ n.O → Ok tt ≡ checked_by (first_of (fit_stages n watch met marks))
          fit-good h = by_tests true true true true true (le-leb n.L 20 hl) (le-leb n.I 20 hi) met-fits marks-fit (le-leb watch n.O h)

-- nothing of it is refused
module _ (n : Counts) (watch met marks : ℕ) where
  pub record Fitting : Type 0 where
    pub few-latches : n.L ≤ 20
    pub few-inputs : n.I ≤ 20
    pub met-long : 3 * 2 ^ n.L ≤ met
    pub marks-long : 2 ^ n.L ≤ 32 * marks
    pub there : watch ≤ n.O

  all_true : (a b c d e : Bool) → Ok tt ≡ judged n watch met marks a b c d e
      → (a ≡ true) × (b ≡ true) × (c ≡ true) × (d ≡ true) × (e ≡ true)
  all_true true true true true true q = (refl, refl, refl, refl, refl)
  all_true true true true true false q = let z : ◌≡◌ {A = ℕ} 0 1 = cc in absurd (omega arith)
  all_true true true true false e q = let z : ◌≡◌ {A = ℕ} 0 1 = cc in absurd (omega arith)
  all_true true true false true e q = let z : ◌≡◌ {A = ℕ} 0 1 = cc in absurd (omega arith)
  all_true true true false false e q = let z : ◌≡◌ {A = ℕ} 0 1 = cc in absurd (omega arith)
  all_true true false c d e q = let z : ◌≡◌ {A = ℕ} 0 1 = cc in absurd (omega arith)
  all_true false b c d e q = let z : ◌≡◌ {A = ℕ} 0 1 = cc in absurd (omega arith)

  pub fitting : Ok tt ≡ checked_by (first_of (fit_stages n watch met marks)) → Fitting
  fitting q =
      let t = all_true (leb n.L 20) (leb n.I 20) (leb (3 * 2 ^ n.L) met) (leb ((2 ^ n.L + 31) / 32) marks) (leb watch n.O) q in
      record {
        few-latches = leb-true n.L 20 t.0;
        few-inputs = leb-true n.I 20 t.1;
        met-long = leb-true (3 * 2 ^ n.L) met t.2;
        marks-long = thirty_two (2 ^ n.L) (leb-true ((2 ^ n.L + 31) / 32) marks t.3);
        there = leb-true watch n.O t.4;
      }
    where
      thirty_two : (k : ℕ) → (k + 31) / 32 ≤ marks → k ≤ 32 * marks
      thirty_two k h = omega arith

-- the outcome of the call, from what was told on the way
module _ (e : SearchEntry) where
  pub asks-refused : (r : Refusal) → answer e.circuit (search_stages e) ≡ Some r → Asks e (Err r) e.out
  asks-refused r q = (sym (ap (λ (o : Option Refusal). (searched_by o e).answer) q), sym (ap (λ (o : Option Refusal). (searched_by o e).out) q))

  abbrev early : List (Option Refusal)
  early = fit_stages e.circuit.counts e.watch (length e.met) (length e.marks)

  module _ (past : answer e.circuit (search_stages e) ≡ first_of (search_stages e)) (a : Result Unit Refusal)
      (told : a ≡ checked_by (first_of (fit_stages e.circuit.counts e.watch (length e.met) (length e.marks)))) where
    pub asks-early : (r : Refusal) → a ≡ Err r → Asks e (Err r) e.out
    asks-early r q =
        asks-refused r (past ∙ some_first r early (room_stage e.out (way_bytes (searched e) (found e)) ∷ []) (refused-some r (first_of early) (sym q ∙ told)))

    pub asks-found : a ≡ Ok tt → (h : Result Happening Refusal) (out' : List ℕ) → Answered (searched e) (found e) e.out h out' → Asks e h out'
    asks-found q h out' w = (
      w.0 ∙ sym (ap (λ (o : Option Refusal). (searched_by o e).answer) whole ∙ by_answer (lacking_room e.out 0 (way_bytes (searched e) (found e)))),
      w.1 ∙ sym (ap (λ (o : Option Refusal). (searched_by o e).out) whole ∙ by_out (lacking_room e.out 0 (way_bytes (searched e) (found e)))),
    )
      where
        whole : answer e.circuit (search_stages e) ≡ first_of (stage ShortBuffer (lacking_room e.out 0 (way_bytes (searched e) (found e))) ∷ [])
        whole = past ∙ both_first early (room_stage e.out (way_bytes (searched e) (found e)) ∷ []) (good_none (first_of early) (sym q ∙ told))

        by_answer : (o : Option ℕ) → (searched_by (first_of (stage ShortBuffer o ∷ [])) e).answer ≡ answer_by o (found e)
        by_answer None = refl
        by_answer (Some place) = refl

        by_out : (o : Option ℕ) → (searched_by (first_of (stage ShortBuffer o ∷ [])) e).out ≡ out_by o e.out (way_bytes (searched e) (found e))
        by_out None = refl
        by_out (Some place) = refl

-- all else is cleared
pub searched-clear : (e : SearchEntry) (h : Result Happening Refusal) (out' scratch met marks : List ℕ) → Asks e h out' → scratch ≡ cleared e.circuit.scratch
    → met ≡ cleared e.met → marks ≡ cleared e.marks
    → ◌≡◌ {A = SearchExit} (record { answer = h; scratch = scratch; met = met; marks = marks; out = out' }) (search e)
searched-clear e h out' scratch met marks a es em ek = go (first_of (in_order_then e.circuit (search_stages e))) a.0 a.1
  where
    go : (o : Option Refusal) → h ≡ (searched_by o e).answer → out' ≡ (searched_by o e).out
        → ◌≡◌ {A = SearchExit} (record { answer = h; scratch = scratch; met = met; marks = marks; out = out' }) (searched_by o e)
    go None p q = λ j. record { answer = p j; scratch = es j; met = em j; marks = ek j; out = q j }
    go (Some r) p q = λ j. record { answer = p j; scratch = es j; met = em j; marks = ek j; out = q j }

-- marks that are cleared are blank
zeros-at : (n i : ℕ) → ◌≡◌ {A = ℕ} (get_or (replicate n 0) i 0) 0
zeros-at zero zero = refl
zeros-at zero (suc i) = refl
zeros-at (suc n) zero = refl
zeros-at (suc n) (suc i) = zeros-at n i

pub cleared-blank : (t : List ℕ) (n : ℕ) → t ≡ replicate n 0 → (s : ℕ) → is_on t 0 s ≡ false
cleared-blank t n e s = blank-off t 0 s (ap (λ (l : List ℕ). get_or l (0 + s / 32) 0) e ∙ zeros-at n (0 + s / 32))

-- rows lead back from what is shown
pub shown-walks : (y : System) (l allowance place m tries : ℕ) (met : List ℕ) (q : Reach) → q ≡ reach.Shown place m tries → l ≤ 20 → 3 * 2 ^ l ≤ length met
    → ExploredBy y (2 ^ l) allowance q met → Walks met place
shown-walks y l allowance place m tries met q e h long ex =
    let s = subst (λ (v : Reach). ExploredBy y (2 ^ l) allowance v met) e ex in
    record {
      y = y;
      ways = s.0;
      rows = s.1;
      there = s.2;
      long = omega (arith, s.3);
      few = omega (arith, s.3, pow-le-pow_right {n = 2} (omega arith) {i = l} {j = 20} h);
    }

-- nothing to write
pub answered-nothing : (c : Circuit) (f : Found) (out : List ℕ) → way_bytes c f ≡ [] → Answered c f out (Ok (happening_of f)) out
answered-nothing c f out e =
    let r : lacking_room out 0 (way_bytes c f) ≡ None =
    ap (lacking_room out 0) e ∙ ap (λ (b : Bool). cond b None (Some (min (0 + 0) (2 ^ 64 - 1)))) (le-leb (0 + 0) (length out) (omega arith)) in (
      sym (ap (λ (o : Option ℕ). answer_by o f) r),
      sym (put-none out 0) ∙ sym (ap₂ (λ (o : Option ℕ) (b : List ℕ). out_by o out b) r e),
    )

-- the start and the list written, or their length told
pub answered-told : (c : Circuit) (w : Way) (tries : ℕ) (out codes : List ℕ) (r : Result Happening Refusal) (out' : List ℕ) → way_bytes c (happens w tries) ≡ codes
    → length codes ≤ 2 ^ 64 - 1
    → r ≡ cond (leb (length codes) (length out)) (Ok (Can (length w.list) tries)) (Err (ShortBuffer (length codes)))
    → out' ≡ cond (leb (length codes) (length out)) (put out 0 codes) out → Answered c (happens w tries) out r out'
answered-told c w tries out codes r out' e few er eo = go (leb (length codes) (length out)) refl
  where
    big : (b : Bool) → leb (length codes) (length out) ≡ b → lacking_room out 0 (way_bytes c (happens w tries)) ≡ cond b None (Some (length codes))
    big b q =
        let none_more : 0 + length codes ≡ length codes = zero-add (length codes) in
        let cut : min (length codes) (2 ^ 64 - 1) ≡ length codes = omega arith in
        ap (lacking_room out 0) e
        ∙ ap (λ (k : ℕ). cond (leb k (length out)) None (Some (min k (2 ^ 64 - 1)))) none_more
        ∙ ap₂ (λ (t : Bool) (k : ℕ). cond t None (Some k)) q cut

    go : (b : Bool) → leb (length codes) (length out) ≡ b → Answered c (happens w tries) out r out'
    go true q = (
      er ∙ ap (λ (t : Bool). cond t (Ok (Can (length w.list) tries)) (Err (ShortBuffer (length codes)))) q
          ∙ sym (ap (λ (o : Option ℕ). answer_by o (happens w tries)) (big true q)),
      eo ∙ ap (λ (t : Bool). cond t (put out 0 codes) out) q
          ∙ sym (ap₂ (λ (o : Option ℕ) (l : List ℕ). out_by o out l) (big true q) e),
    )
    go false q = (
      er ∙ ap (λ (t : Bool). cond t (Ok (Can (length w.list) tries)) (Err (ShortBuffer (length codes)))) q
          ∙ sym (ap (λ (o : Option ℕ). answer_by o (happens w tries)) (big false q)),
      eo ∙ ap (λ (t : Bool). cond t (put out 0 codes) out) q
          ∙ sym (ap₂ (λ (o : Option ℕ) (l : List ℕ). out_by o out l) (big false q) e),
    )

-- the bytes by the counts are those of the circuit that is watched
sizes : (watch : ℕ) (c : Circuit) → (length (watched watch c).latches ≡ length c.latches) × (length (watched watch c).inputs ≡ length c.inputs)
sizes zero c = (refl, refl)
sizes (suc k) c = (refl, refl)

pub way-bytes : {n : Counts} {x : Tables} → Runs n x → (watch : ℕ) (w : Way) (tries : ℕ)
    → way_bytes (watched watch (circuit_of n x)) (happens w tries) ≡ way_codes n w
way-bytes {n} {x} r watch w tries =
    ap₂ (λ (l i : ℕ). map Rattle.plan.specs.Step.code_of (bits l w.start) ++ Rattle.plan.specs.Circuit.flat (map (map
    Rattle.plan.specs.Step.code_of) (map (bits i) w.list)))
    ((sizes watch (circuit_of n x)).0 ∙ ap (λ (k : Counts). k.L) r.counts) ((sizes watch (circuit_of n x)).1 ∙ ap (λ (k : Counts). k.I) r.counts)

-- they are few
pub codes-few : (n : Counts) (y : System) (ways : List Way) (met : List ℕ) (place m : ℕ) → n.L ≤ 20 → n.I ≤ 20 → Rows y ways met → place < length ways
    → length ways ≤ 1048576 → length (way_codes n (onward y (at ways place) m)) ≤ 2 ^ 64 - 1
codes-few n y ways met place m hl hi rows h few =
    let l : length ((at ways place).list ++ (m ∷ [])) ≤ 1048577 =
    omega (arith, length-append (at ways place).list (m ∷ []), list-low y ways met rows (suc place) place (omega arith) h) in
    omega (arith, way_long n (onward y (at ways place) m), few_bytes (length ((at ways place).list ++ (m ∷ []))) n.I l hi)

-- what the search of the states came to, told
module _ (split : ℕ) (c : Circuit) (most allowance : ℕ) (met out : List ℕ) (q : Reach) (ex : ExploredBy (system_of split c) most allowance q met) where
  pub told-never : (k t : ℕ) → q ≡ reach.Never k t → Answered c (can_happen split c allowance) out (Ok (happening.Never k t)) out
  told-never k t e =
      let s : can_happen split c allowance ≡ never k t = subst (λ (v : Reach). ExploredBy (system_of split c) most allowance v met) e ex in
      subst (λ (f : Found). Answered c f out (Ok (happening.Never k t)) out) (sym s) (answered-nothing c (never k t) out refl)

  pub told-undecided : (t : ℕ) → q ≡ reach.Undecided t → Answered c (can_happen split c allowance) out (Ok (happening.Undecided t)) out
  told-undecided t e =
      let s : can_happen split c allowance ≡ undecided t = subst (λ (v : Reach). ExploredBy (system_of split c) most allowance v met) e ex in
      subst (λ (f : Found). Answered c f out (Ok (happening.Undecided t)) out) (sym s) (answered-nothing c (undecided t) out refl)

pub told-shown : {n : Counts} {x : Tables} → Runs n x → (split watch allowance : ℕ) (met out : List ℕ) (q : Reach)
    → ExploredBy (system_of split (watched watch (circuit_of n x))) (2 ^ n.L) allowance q met → (place m t : ℕ) → q ≡ reach.Shown place m t → n.L ≤
    20 → n.I ≤ 20
    → (r : Result Happening Refusal) (out' : List ℕ) → Tells n met place m t out r out'
    → Answered (watched watch (circuit_of n x)) (can_happen split (watched watch (circuit_of n x)) allowance) out r out'
told-shown {n} {x} runs split watch allowance met out q ex place m t e hl hi r out' tells =
    let c = watched watch (circuit_of n x) in
    let y = system_of split (watched watch (circuit_of n x)) in
    let s = subst (λ (v : Reach). ExploredBy (system_of split (watched watch (circuit_of n x))) (2 ^ n.L) allowance v met) e ex in
    let w = onward (system_of split (watched watch (circuit_of n x))) (at s.0 place) m in
    let told = tells y s.0 s.1 s.2 in
    let few : length s.0 ≤ 1048576 = omega (arith, s.3, pow-le-pow_right {n = 2} (omega arith) {i = n.L} {j = 20} hl) in
    subst (λ (f : Found). Answered (watched watch (circuit_of n x)) f out r out') (sym s.4)
    (answered-told c w t out (way_codes n w) r out' (way-bytes runs watch w t) (codes-few n y s.0 met place m hl hi s.1 s.2 few) told.0 told.1)
