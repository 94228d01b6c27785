-- Can it ever happen: what the search of a circuit's states says of every start and every list of vectors, with x and without.
use Prim.Native.Nat.{ℕ, ◌+◌, ◌*◌, ◌^◌, ◌≤◌, ◌<◌}
use mathlib.Core.Path.{◌≡◌, refl, sym, ap, ap₂, ◌∙◌, subst}
use mathlib.Core.Bool.{Bool, true, false, ◌&&◌, ◌||◌, false≢true}
use mathlib.Core.List.{List, [], ◌∷◌, map}
use native.Mathlib.Nat.{one-le-pow, zero-add}
use native.Mathlib.Omega.{arith}
use lib.ListN.{length, get_or, length-map}
use Rattle.plan.specs.Circuit.{Circuit, nexts, has, index}
use Rattle.plan.specs.Step.{Value, code_of, value_of, outputs_of, bads_of, constraints_of, next_of, Step, run, first_state, any1, all1, shows1}
use Rattle.plan.specs.Fillings.{Fills, start_of}
use Rattle.laws.proofs.Reading.Members.{distinct}
use Rattle.laws.proofs.Running.Refinement.{Les}
use Rattle.laws.proofs.Running.Shown.{shows-replaced}
use Rattle.laws.proofs.Running.WithoutX.{NoX, lits-nox}
use Rattle.laws.proofs.Running.Accepted.{Accepted}
use Rattle.laws.proofs.Running.Runs.{Sized, next-length}
use Rattle.laws.proofs.Running.Lists.{absent, index_at}
use Rattle.laws.proofs.Writing.Stepping.{codes-values, all_codes_lem}
use Rattle.laws.proofs.Fillings.Question.{fills-two-valued}
use Rattle.plan.specs.Search.{bits, as_number, System, shows_by, Leads, AllMoves, Reached, Best, Way, Found, never, happens, undecided, x_both, start_at, start_number, system_of, start_bytes, can_happen}
use Rattle.search.proofs.Pairs.{cut, cut_small, both-cut, both-fills, both-length, both-once, whole-number}
use Rattle.search.proofs.Answers.{Never, Happens, Means, Decided, all-means, all-stays}
use Rattle.search.proofs.Deciding.{up-length, up_at, up-has, up-only, up-distinct, decides}
use Rattle.search.proofs.First.{found-best, best-once}
use Rattle.search.proofs.Vectors.{bits-nox, bits-length, bits-number, number_small, vectors-number, zeroed, zeroed-les, zeroed-nox, zeroed-replaced, zeroed-noxs, zeroed-sized, les-trans, les-fills}

or_assoc : (a b d : Bool) → (a || (b || d)) ≡ ((a || b) || d)
or_assoc true b d = refl
or_assoc false b d = refl

all_small : (n : ℕ) (is : List (List Value)) → Sized n is → (y : System) → y.moves ≡ 2 ^ n → AllMoves y (map as_number is)
all_small n [] z y e = tt
all_small n (i ∷ is) z y e =
    (subst (λ (k : ℕ). as_number i < k) (ap (λ (m : ℕ). 2 ^ m) z.0 ∙ sym e) (number_small i), all_small n is z.1 y e)

module _ (split : ℕ) (c : Circuit) (ok : Accepted c) (sized : length (first_state c) ≡ length c.latches) where
  abbrev y : System
  y = system_of split c

  abbrev L : ℕ
  L = length c.latches

  abbrev I : ℕ
  I = length c.inputs

  -- next states have no x and are their numbers' vectors
  next-bits : (s m : ℕ) → bits (length c.latches) ((system_of split c).next s m) ≡ next_of c (bits (length c.latches) s) (bits (length c.inputs) m)
  next-bits s m =
      let n = next_of c (bits (length c.latches) s) (bits (length c.inputs) m) in
      ap (λ (k : ℕ). bits k (as_number n)) (sym (next-length c (bits (length c.latches) s) (bits (length c.inputs) m)))
      ∙ bits-number n
      (lits-nox c ok (bits (length c.latches) s) (bits (length c.inputs) m) (bits-length (length c.latches) s) (bits-length (length c.inputs) m)
      (bits-nox (length c.latches) s) (bits-nox (length c.inputs) m) (nexts c.latches) ok.used-next)

  -- stepping vectors without x is moving
  pub run-moves : (ms : List ℕ) (s : ℕ)
      → shows1 (run c (bits (length c.latches) s) (map (bits (length c.inputs)) ms)) ≡ shows_by (system_of split c) s ms
  run-moves [] s = refl
  run-moves (m ∷ ms) s =
      let here = bits (length c.latches) s in
      let now = bits (length c.inputs) m in
      let rest = shows1 (run c (next_of c here now) (map (bits (length c.inputs)) ms)) in
      ap (λ (b : Bool). all1 (constraints_of c here now) && b) (or_assoc (any1 (outputs_of c here now)) (any1 (bads_of c here now)) rest)
      ∙ ap (λ (b : Bool). all1 (constraints_of c here now) && ((any1 (outputs_of c here now) || any1 (bads_of c here now)) || b))
      (ap (λ (n : List Value). shows1 (run c n (map (bits (length c.inputs)) ms))) (sym (next-bits s m)) ∙ run-moves ms ((system_of split c).next s m))

  -- starts are the fillings of the resets
  start-length : (k : ℕ) → length (map value_of (start_at split c k)) ≡ length c.latches
  start-length k = length-map (start_at split c k) value_of ∙ both-length split k (start_of c) ∙ length-map (first_state c) code_of ∙ sized

  pub start-nox : (k : ℕ) → NoX (map value_of (start_at split c k))
  start-nox k = fills-two-valued (start_of c) (start_at split c k) (all_codes_lem (first_state c)) (both-fills split k (start_of c))

  pub start-filled : (k : ℕ) → bits (length c.latches) (start_number split c k) ≡ map value_of (start_at split c k)
  start-filled k =
      ap (λ (n : ℕ). bits n (as_number (map value_of (start_at split c k)))) (sym (start-length k)) ∙ bits-number (map value_of (start_at split c k)) (start-nox k)

  -- every state that refines the resets by a filling's number is one
  pub start-there : (k : ℕ) → has (start_number split c k) (system_of split c).starts ≡ true
  start-there k =
      subst (λ (n : ℕ). has n (system_of split c).starts ≡ true)
      (ap (λ (l : List ℕ). as_number (map value_of l)) (both-cut split k (start_of c)))
      (up-has (start_number split c) (2 ^ x_both split (start_of c)) 0 (cut (x_both split (start_of c)) k) (omega arith)
      (omega (arith, cut_small (x_both split (start_of c)) k)))

  pub start-of : (s : ℕ) → has s (system_of split c).starts ≡ true → (k : ℕ) × (k < 2 ^ x_both split (start_of c)) × (start_number split c k ≡ s)
  start-of s h =
      let r = up-only (start_number split c) (2 ^ x_both split (start_of c)) 0 s h in
      (r.0, omega (arith, r.2), r.3)

  codes-of : (l m : List ℕ) → Fills l m → Rattle.plan.specs.Outcome.all_codes l ≡ true → map code_of (map value_of m) ≡ m
  codes-of [] [] f h = refl
  codes-of [] (d ∷ m) f h = absurd f
  codes-of (b ∷ l) [] f h = absurd f
  codes-of (b ∷ l) (d ∷ m) f h =
      ap₂ (λ (a : ℕ) (t : List ℕ). a ∷ t)
      (one (Rattle.plan.specs.Fillings.is_x b) f.0 (Rattle.laws.proofs.Reading.Common.and_left _ _ h))
      (codes-of l m f.1 (Rattle.laws.proofs.Reading.Common.and_right (Rattle.plan.specs.Step.is_code b) _ h))
    where
      known : (k : ℕ) → Rattle.plan.specs.Step.is_code k ≡ true → code_of (value_of k) ≡ k
      known k q = go (lib.Dec.eqb k 48) refl (lib.Dec.eqb k 49) refl (lib.Dec.eqb k 120) refl q
        where
          go : (x : Bool) → lib.Dec.eqb k 48 ≡ x → (v : Bool) → lib.Dec.eqb k 49 ≡ v → (z : Bool) → lib.Dec.eqb k 120 ≡ z → (x || (v || z)) ≡ true
              → code_of (mathlib.Core.Bool.cond x Rattle.plan.specs.Step.v0 (mathlib.Core.Bool.cond v Rattle.plan.specs.Step.v1 Rattle.plan.specs.Step.vx)) ≡ k
          go true p v p' z p'' r = sym (borrow.Author.Tests.eqb-true k 48 p)
          go false p true p' z p'' r = sym (borrow.Author.Tests.eqb-true k 49 p')
          go false p false p' true p'' r = sym (borrow.Author.Tests.eqb-true k 120 p'')
          go false p false p' false p'' r = absurd (false≢true r)

      bit : (x v : Bool) → lib.Dec.eqb d 48 ≡ x → lib.Dec.eqb d 49 ≡ v → (x || v) ≡ true → Rattle.plan.specs.Step.is_code d ≡ true
      bit x v p q r = ap₂ (λ (a b : Bool). a || (b || lib.Dec.eqb d 120)) p q ∙ go x v r
        where
          go : (a b : Bool) → (a || b) ≡ true → (a || (b || lib.Dec.eqb d 120)) ≡ true
          go true b s = refl
          go false true s = refl
          go false false s = absurd (false≢true s)

      one : (t : Bool) → Rattle.plan.specs.Fillings.FillsAt t b d → Rattle.plan.specs.Step.is_code b ≡ true → code_of (value_of d) ≡ d
      one true g q = known d (bit (lib.Dec.eqb d 48) (lib.Dec.eqb d 49) refl refl g)
      one false g q = known d (subst (λ (k : ℕ). Rattle.plan.specs.Step.is_code k ≡ true) (sym g) q)

  pub start-codes : (k : ℕ) → map code_of (bits (length c.latches) (start_number split c k)) ≡ start_at split c k
  start-codes k =
      ap (map code_of) (start-filled k) ∙ codes-of (start_of c) (start_at split c k) (both-fills split k (start_of c)) (all_codes_lem (first_state c))

  pub starts-once : distinct (system_of split c).starts ≡ true
  starts-once = up-distinct (start_number split c) (2 ^ x_both split (start_of c)) 0 once
    where
      once : (k i : ℕ) → k < 0 + 2 ^ x_both split (start_of c) → i < 0 + 2 ^ x_both split (start_of c) → start_number split c k ≡ start_number split c i → k ≡ i
      once k i p q e =
          both-once split (start_of c) k i (omega arith) (omega arith)
          (sym (start-codes k) ∙ ap (λ (n : ℕ). map code_of (bits (length c.latches) n)) e ∙ start-codes i)

  pub some-move : 0 < (system_of split c).moves
  some-move = one-le-pow (length c.inputs) 2 (omega arith)

  pub answer-means : (a : ℕ) → Means (system_of split c) a (can_happen split c a)
  answer-means = all-means (system_of split c) some-move starts-once

  -- every state is a number of L bits
  next-below : (s m : ℕ) → (system_of split c).next s m < 2 ^ length c.latches
  next-below s m =
      subst (λ (n : ℕ). (system_of split c).next s m < 2 ^ n) (next-length c (bits (length c.latches) s) (bits (length c.inputs) m))
      (number_small (next_of c (bits (length c.latches) s) (bits (length c.inputs) m)))

  start-below : (s : ℕ) → has s (system_of split c).starts ≡ true → s < 2 ^ length c.latches
  start-below s h =
      let r = start-of s h in
      subst (λ (n : ℕ). n < 2 ^ length c.latches) r.2
      (subst (λ (n : ℕ). start_number split c r.0 < 2 ^ n) (start-length r.0) (number_small (map value_of (start_at split c r.0))))

  leads-below : (list : List ℕ) (s t : ℕ) → s < 2 ^ length c.latches → Leads (system_of split c) s list t → t < 2 ^ length c.latches
  leads-below [] s t h l = subst (λ (n : ℕ). n < 2 ^ length c.latches) l h
  leads-below (m ∷ list) s t h l = leads-below list ((system_of split c).next s m) t (next-below s m) l.2

  pub reached-below : (s : ℕ) → Reached (system_of split c) s → s < 2 ^ length c.latches
  reached-below s r = leads-below r.1 r.0 s (start-below r.0 r.2) r.3

  -- 2 to the L states times 2 to the I inputs decide
  pub all-decides : (a : ℕ) → 2 ^ length c.latches * 2 ^ length c.inputs ≤ a → Decided (system_of split c) (can_happen split c a)
  all-decides a h =
      decides (system_of split c) some-move starts-once (2 ^ length c.latches)
      (λ s r. leads-below r.1 r.0 s (start-below r.0 r.2) r.3) a h

  -- a start and vectors that show a 1, x among them or not, as moves
  record Moving (n : ℕ) : Type 0 where
    start : ℕ
    list : List ℕ
    from : has start (system_of split c).starts ≡ true
    moves : AllMoves (system_of split c) list
    as_many : length list ≡ n
    shows : shows_by (system_of split c) start list ≡ true

  moving : (k : ℕ) (s : List Value) (is : List (List Value)) → Les s (map value_of (start_at split c k)) → Sized (length c.inputs) is
      → shows1 (run c s is) ≡ true → Moving (length is)
  moving k s is h z e = record {
    start = start_number split c k;
    list = map as_number (map (map zeroed) is);
    from = start-there k;
    moves = all_small (length c.inputs) (map (map zeroed) is) (zeroed-sized (length c.inputs) is z) (system_of split c) refl;
    as_many = length-map (map (map zeroed) is) as_number ∙ length-map is (map zeroed);
    shows = sym (run-moves (map as_number (map (map zeroed) is)) (start_number split c k))
        ∙ ap₂ (λ (t : List Value) (js : List (List Value)). shows1 (run c t js)) (start-filled k)
        (vectors-number (length c.inputs) (map (map zeroed) is) (zeroed-sized (length c.inputs) is z) (zeroed-noxs is))
        ∙ shows-replaced c is (map (map zeroed) is) (zeroed-replaced is) s (map value_of (start_at split c k)) h e;
  }

  -- never: from no filling of the resets, nor where x of them are left, whatever list of vectors, with x or without
  abbrev pub NoneShows : Type 0
  NoneShows = (k : ℕ) (s : List Value) (is : List (List Value)) → Les s (map value_of (start_at split c k)) → Sized (length c.inputs) is
      → shows1 (run c s is) ≡ false

  pub never-none : (a n t : ℕ) → can_happen split c a ≡ never n t → NoneShows
  never-none a n t e k s is h z =
      let m : Never (system_of split c) n t = subst (Means (system_of split c) a) e (answer-means a) in
      absent (shows1 (run c s is)) (λ p. let r = moving k s is h z p in false≢true (sym (m.nothing r.start r.list r.from r.moves) ∙ r.shows))

  -- one plan alone: from no state that replaces x of the resets in any way
  pub never-whole : (a n t : ℕ) → can_happen split c a ≡ never n t → length c.latches ≤ split
      → (s : List Value) (is : List (List Value)) → Les (first_state c) s → Sized (length c.inputs) is → shows1 (run c s is) ≡ false
  never-whole a n t e q s is h z =
      let f = les-fills (first_state c) (map zeroed s) (les-trans (first_state c) s (map zeroed s) h (zeroed-les s)) (zeroed-nox s) in
      let r = whole-number split (start_of c) (map code_of (map zeroed s)) (omega (arith, length-map (first_state c) code_of, sized)) f in
      never-none a n t e r.0 s is
      (subst (Les s) (sym (ap (map value_of) r.1 ∙ codes-values (map zeroed s))) (zeroed-les s)) z

  -- it happens: the start is a filling of the resets, the vectors have no x and show a 1, and no shorter list does, with x or without
  pub record Shown (w : Way) : Type 0 where
    pub filled : ℕ
    pub start : start_bytes c w ≡ start_at split c filled
    pub shows : shows1 (run c (bits (length c.latches) w.start) (map (bits (length c.inputs)) w.list)) ≡ true
    pub shortest : (k : ℕ) (s : List Value) (is : List (List Value)) → Les s (map value_of (start_at split c k)) → Sized (length c.inputs) is
        → length is < length w.list → shows1 (run c s is) ≡ false

  pub happens-shown : (a t : ℕ) (w : Way) → can_happen split c a ≡ happens w t → Shown w
  happens-shown a t w e =
      let m : Happens (system_of split c) w t a = subst (Means (system_of split c) a) e (answer-means a) in
      let f = start-of w.start m.from in
      record {
        filled = f.0;
        start = ap (λ (n : ℕ). map code_of (bits (length c.latches) n)) (sym f.2) ∙ start-codes f.0;
        shows = run-moves w.list w.start ∙ m.shows;
        shortest = λ k s is h z q. absent (shows1 (run c s is))
            (λ p. let r = moving k s is h z p in
            false≢true (sym (m.shortest r.start r.list r.from r.moves (omega (arith, r.as_many))) ∙ r.shows));
      }

  -- a larger allowance changes no answer but undecided
  pub larger : (a b : ℕ) → a ≤ b → Decided (system_of split c) (can_happen split c a) → can_happen split c b ≡ can_happen split c a
  larger = all-stays (system_of split c)

  -- the way that is found is the best, of which there is one; and with allowance for all the best is found
  pub happens-best : (a t : ℕ) (w : Way) → can_happen split c a ≡ happens w t → Best (system_of split c) w.start w.list
  happens-best = found-best (system_of split c) some-move starts-once

  pub best-happens : (a : ℕ) → 2 ^ length c.latches * 2 ^ length c.inputs ≤ a → (s : ℕ) (list : List ℕ) → Best (system_of split c) s list
      → (w : Way) × (t : ℕ) × (can_happen split c a ≡ happens w t) × (w.start ≡ s) × (w.list ≡ list)
  best-happens a h s list b = go (can_happen split c a) refl (all-decides a h)
    where
      go : (f : Found) → can_happen split c a ≡ f → Decided (system_of split c) f
          → (w : Way) × (t : ℕ) × (can_happen split c a ≡ happens w t) × (w.start ≡ s) × (w.list ≡ list)
      go (never n t) e d =
          let m : Never (system_of split c) n t = subst (Means (system_of split c) a) e (answer-means a) in
          absurd (false≢true (sym (m.nothing s list b.from b.moves) ∙ b.shows))
      go (happens w t) e d =
          let r = best-once (system_of split c) w.start s w.list list (happens-best a t w e) b in
          (w, t, e, r.0, r.1)
      go (undecided t) e d = absurd d

  -- the number of a start is that of its filling
  pub start-rank : (k : ℕ) → k < 2 ^ x_both split (start_of c) → index (start_number split c k) (system_of split c).starts ≡ k
  start-rank k h =
      let n = 2 ^ x_both split (start_of c) in
      let e : get_or (system_of split c).starts k 0 ≡ start_number split c k = up_at (start_number split c) n 0 k h ∙ ap (start_number split c) (zero-add k) in
      ap (λ (s : ℕ). index s (system_of split c).starts) (sym e)
      ∙ index_at (system_of split c).starts starts-once k (omega (arith, up-length (start_number split c) 0 (2 ^ x_both split (start_of c))))
