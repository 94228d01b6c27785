-- The starts: their numbers, rows and marks, and the search that they begin.
use Prim.Native.Nat.{ℕ, zero, suc, ◌+◌, ◌-◌, ◌*◌, ◌/◌, ◌^◌, ◌≤◌, ◌<◌, min, max}
use mathlib.Core.Path.{◌≡◌, refl, sym, ap, ap₂, ◌∙◌, subst}
use mathlib.Core.Bool.{Bool, true, false, ◌||◌}
use mathlib.Core.List.{List, [], ◌∷◌, ◌++◌, map, map-append}
use native.Mathlib.Nat.{add-zero, zero-add, pow-le-pow_right}
use native.Mathlib.Numerals.{add-one}
use native.Mathlib.Decide.{dec_le}
use native.Mathlib.Omega.{arith}
use borrow.Author.Tests.{eqb-true, eqb-false}
use lib.Dec.{eqb}
use lib.ListN.{length, get_or, take, drop, length-map, length-append, length-take, length-drop, drop_of_length-le}
use lib.Seq.{take_all, take-nil}
use Rattle.tables.specs.bitmap.Bitmap.{is_on, raised}
use Rattle.tables.proofs.bitmap.Telling.{raised-on, raised-others}
use Rattle.plan.specs.declared.Counts.{Counts}
use Rattle.plan.specs.Circuit.{Tables, circuit_of, has}
use Rattle.plan.specs.Step.{Value, code_of, value_of, reset_value}
use Rattle.plan.specs.Fillings.{x_count, filling}
use Rattle.laws.proofs.Put.{put-put}
use Rattle.laws.proofs.Fillings.Numbering.{fill-length}
use Rattle.plan.specs.Outcome.{put}
use Rattle.plan.specs.Search.{fill_both, x_both}
use Rattle.laws.proofs.Fillings.Counting.{count_small}
use Rattle.search.proofs.Pairs.{both-length}
use Rattle.step.specs.values.Words.{word, words, told, values_at}
use Rattle.step.proofs.values.Codes.{told-words}
use Rattle.step.proofs.values.Parts.{part-put}
use Rattle.witness.specs.Asked.{codes_of, Loads}
use Rattle.witness.proofs.Words.{codes-length}
use Rattle.step.specs.sweep.Running.{Runs}
use Rattle.laws.proofs.Running.Accepted.{accepted}
use Rattle.laws.proofs.Running.Resets.{first-length}
use Rattle.plan.specs.Search.{as_number, up_to, Way, begin, state_of, system_of}
use Rattle.search.specs.Rows.{at}
use Rattle.search.proofs.Breadth.{has-snoc}
use Rattle.search.proofs.Vectors.{number_small}
use Rattle.search.proofs.Answers.{met_start, at-begin, begin-length, map-begin}
use Rattle.search.proofs.Deciding.{up_at, up-length}
use Rattle.search.proofs.Circuits.{some-move, starts-once}
use Rattle.search.specs.Rows.{new_row, Rows, Marked}
use Rattle.search.proofs.Tabled.{new0, new1, old-word}
use Rattle.search.specs.Exploring.{Searched}
use Rattle.search.specs.Starting.{start_of, Started}

pub number-filled : (t t' : List ℕ) (from n : ℕ) (vs : List Value) → length vs ≡ n → from ≤ length t → t' ≡ put t from (words vs)
    → as_number (values_at t' from n) ≡ as_number vs
number-filled t t' from n vs l h e =
    ap₂ (λ (k : ℕ) (x : List ℕ). as_number (map told (take k (drop from x)))) (sym (length-map vs word ∙ l)) e
    ∙ ap (λ (x : List ℕ). as_number (map told x)) (part-put t from (words vs) h) ∙ ap as_number (told-words vs)

module _ (split : ℕ) (n : Counts) (resets : List ℕ) (long : n.L ≤ length resets) where
  pub filled-length : (k : ℕ) → length (map value_of (fill_both split k (codes_of resets n.L))) ≡ n.L
  filled-length k =
      length-map (fill_both split k (codes_of resets n.L)) value_of ∙ both-length split k (codes_of resets n.L) ∙ codes-length resets n.L long

  pub start_small : (k : ℕ) → start_of split n resets k < 2 ^ n.L
  start_small k =
      subst (λ (l : ℕ). start_of split n resets k < 2 ^ l) (filled-length k) (number_small (map value_of (fill_both split k (codes_of resets n.L))))

  pub start-marked : (k s : ℕ) (marks : List ℕ) → s ≡ start_of split n resets k → 2 ^ n.L ≤ 32 * length marks → s / 32 < length marks
  start-marked k s marks e h = low (2 ^ n.L) (subst (λ (v : ℕ). v < 2 ^ n.L) (sym e) (start_small k)) h
    where
      low : (q : ℕ) → s < q → q ≤ 32 * length marks → s / 32 < length marks
      low q i j = omega arith

up-snoc : (f : ℕ → ℕ) (n j : ℕ) → up_to f j (suc n) ≡ up_to f j n ++ (f (j + n) ∷ [])
up-snoc f zero j = ap (λ (k : ℕ). f k ∷ []) (sym (add-zero j))
up-snoc f (suc n) j =
    let e : suc j + n ≡ j + suc n = omega arith in
    ap (λ (t : List ℕ). f j ∷ t) (up-snoc f n (suc j) ∙ ap (λ (k : ℕ). up_to f (suc j) n ++ (f k ∷ [])) e)

mark-more : (marks xs : List ℕ) (v s : ℕ) → v / 32 < length marks → is_on marks 0 s ≡ has s xs → is_on (raised marks 0 v) 0 s ≡ has s (xs ++ (v ∷ []))
mark-more marks xs v s room h = go (eqb v s) refl ∙ sym (has-snoc s v xs)
  where
    or-true : (b : Bool) → true ≡ (b || true)
    or-true true = refl
    or-true false = refl

    or-false : (b : Bool) → b ≡ (b || false)
    or-false true = refl
    or-false false = refl

    go : (t : Bool) → eqb v s ≡ t → is_on (raised marks 0 v) 0 s ≡ (has s xs || eqb v s)
    go true e =
        subst (λ (k : ℕ). is_on (raised marks 0 v) 0 k ≡ true) (eqb-true v s e) (raised-on marks 0 v (omega arith)) ∙ or-true (has s xs)
        ∙ ap (λ (b : Bool). has s xs || b) (sym e)
    go false e =
        raised-others marks 0 v (omega arith) s (λ q. eqb-false v s e (sym q)) ∙ h ∙ or-false (has s xs) ∙ ap (λ (b : Bool). has s xs || b) (sym e)

-- one start more
module _ (split : ℕ) (n : Counts) (resets : List ℕ) (k s : ℕ) (met marks : List ℕ) where
  pub started-more : Started split n resets k met marks → s ≡ start_of split n resets k → 3 * k + 3 ≤ length met → (marks' : List ℕ)
      → marks' ≡ raised marks 0 s → s / 32 < length marks → Started split n resets (k + 1) (new_row met k s 0 0) marks'
  started-more st e room marks' em low = record {
    state = λ i h. state i (dec_le (suc i) k) h;
    from = λ i h. from i (dec_le (suc i) k) h;
    marked = λ i h. ap (λ (l : List ℕ). is_on l 0 i) em ∙ mark-more marks (up_to (start_of split n resets) 0 k) s i low (st.marked i h) ∙ row i;
  }
    where
      row : (i : ℕ) → has i (up_to (start_of split n resets) 0 k ++ (s ∷ [])) ≡ has i (up_to (start_of split n resets) 0 (k + 1))
      row i =
          ap (λ (v : ℕ). has i (up_to (start_of split n resets) 0 k ++ (v ∷ []))) (e ∙ ap (start_of split n resets) (sym (zero-add k)))
          ∙ ap (has i) (sym (up-snoc (start_of split n resets) k 0)) ∙ ap (λ (m : ℕ). has i (up_to (start_of split n resets) 0 m)) (sym (add-one k))

      state : (i : ℕ) → Dec (suc i ≤ k) → i < k + 1 → get_or (new_row met k s 0 0) (3 * i) 0 ≡ start_of split n resets i
      state i (yes q) h = old-word met k s 0 0 room (3 * i) (omega arith) ∙ st.state i q
      state i (no q) h =
          let f : i ≡ k = omega arith in
          ap (λ (j : ℕ). get_or (new_row met k s 0 0) (3 * j) 0) f ∙ new0 met k s 0 0 room ∙ e ∙ ap (start_of split n resets) (sym f)

      from : (i : ℕ) → Dec (suc i ≤ k) → i < k + 1 → get_or (new_row met k s 0 0) (3 * i + 1) 0 ≡ 0
      from i (yes q) h = old-word met k s 0 0 room (3 * i + 1) (omega arith) ∙ st.from i q
      from i (no q) h =
          let f : i ≡ k = omega arith in
          ap (λ (j : ℕ). get_or (new_row met k s 0 0) (3 * j + 1) 0) f ∙ new1 met k s 0 0 room

-- the starts begin the search
pub started-searched : {split : ℕ} {n : Counts} {x : Tables} (r : Runs n x) (met marks : List ℕ)
    → Started split n x.resets (2 ^ x_both split (codes_of x.resets n.L)) met marks
    → Searched split n x 0 (map begin (system_of split (circuit_of n x)).starts) met marks
started-searched {split} {n} {x} r met marks st = record {
  known = met_start (system_of split (circuit_of n x)) pos once;
  rows = record { state = state; from = from };
  marked = λ s h. st.marked s h ∙ ap (has s) (sym (map-begin (system_of split (circuit_of n x)) pos once (system_of split (circuit_of n x)).starts));
}
  where
    pos : 0 < (system_of split (circuit_of n x)).moves
    pos = some-move split (circuit_of n x) (accepted (circuit_of n x) r.formed) (first-length (circuit_of n x) r.formed)

    once : Rattle.laws.proofs.Reading.Members.distinct (system_of split (circuit_of n x)).starts ≡ true
    once = starts-once split (circuit_of n x) (accepted (circuit_of n x) r.formed) (first-length (circuit_of n x) r.formed)

    within : (i : ℕ) → i < length (map begin (system_of split (circuit_of n x)).starts) → i < 2 ^ x_both split (codes_of x.resets n.L)
    within i h =
        omega (
          arith,
          begin-length (system_of split (circuit_of n x)) pos once (system_of split (circuit_of n x)).starts,
          up-length (start_of split n x.resets) 0 (2 ^ x_both split (codes_of x.resets n.L)),
        )

    state : (i : ℕ) → i < length (map begin (system_of split (circuit_of n x)).starts) → get_or met (3 * i) 0 ≡ (at (map begin (system_of split (circuit_of
        n x)).starts) i).state
    state i h =
        st.state i (within i h) ∙ ap (start_of split n x.resets) (sym (zero-add i))
        ∙ sym (up_at (start_of split n x.resets) (2 ^ x_both split (codes_of x.resets n.L)) 0 i (within i h))
        ∙ ap state_of (sym (at-begin (system_of split (circuit_of n x)) pos once i))

    from : (i : ℕ) → i < length (map begin (system_of split (circuit_of n x)).starts)
        → Rattle.search.specs.Rows.From (system_of split (circuit_of n x)) (map begin (system_of split (circuit_of n x)).starts) i (get_or met (3 * i + 1) 0)
        (get_or met (3 * i + 2) 0)
    from i h =
        subst (λ (f : ℕ). Rattle.search.specs.Rows.From (system_of split (circuit_of n x)) (map begin (system_of split (circuit_of n x)).starts) i f
        (get_or met (3 * i + 2) 0)) (sym (st.from i (within i h)))
        (at-begin (system_of split (circuit_of n x)) pos once i ∙ ap (λ (w : Way). begin w.state) (sym (at-begin (system_of split (circuit_of n x)) pos once i)))

pub total-few : (l total : ℕ) → total ≤ 2 ^ l → l ≤ 20 → total ≤ 1048576
total-few l total h q = omega (arith, pow-le-pow_right {n = 2} (omega arith) {i = l} {j = 20} q)

-- how many starts there are
pub resets-few : (split : ℕ) (n : Counts) (resets : List ℕ) → n.L ≤ length resets → x_both split (codes_of resets n.L) ≤ n.L
resets-few split n resets h =
    omega (
      arith,
      count_small (take split (codes_of resets n.L)),
      count_small (drop split (codes_of resets n.L)),
      length-take split (codes_of resets n.L),
      length-drop split (codes_of resets n.L),
      codes-length resets n.L h,
    )

pub starts-few : (split : ℕ) (n : Counts) (resets : List ℕ) → n.L ≤ length resets → (xs total : ℕ) → xs ≡ x_both split (codes_of resets n.L) → total ≡ 2 ^ xs
    → total ≤ 2 ^ n.L
starts-few split n resets h xs total e f =
    omega (arith, pow-le-pow_right {n = 2} (omega arith) {i = xs} {j = n.L} (omega (arith, resets-few split n resets h)))

pub begun-searched : {split : ℕ} {n : Counts} {x : Tables} (r : Runs n x) (met marks : List ℕ) (xs total : ℕ) → xs ≡ x_both split (codes_of x.resets n.L)
    → total ≡ 2 ^ xs → Started split n x.resets total met marks → Searched split n x 0 (map begin (system_of split (circuit_of n x)).starts) met marks
begun-searched {split} {n} {x} r met marks xs total e f st =
    started-searched r met marks (subst (λ (k : ℕ). Started split n x.resets k met marks) (f ∙ ap (λ (k : ℕ). 2 ^ k) e) st)

pub begun-count : (split : ℕ) (n : Counts) (x : Tables) (xs total : ℕ) → xs ≡ x_both split (codes_of x.resets n.L) → total ≡ 2 ^ xs
    → length (system_of split (circuit_of n x)).starts ≡ total
begun-count split n x xs total e f =
    up-length (start_of split n x.resets) 0 (2 ^ x_both split (codes_of x.resets n.L)) ∙ sym (f ∙ ap (λ (k : ℕ). 2 ^ k) e)

-- a part of a slice, from a place on
pub part-rest : (p : ℕ) (l : List ℕ) → take (length l - p) (drop p l) ≡ drop p l
part-rest p l = take_all (length l - p) (drop p l) (omega (arith, length-drop p l))

-- the codes of the resets before a place and from there on
take-codes : (p l : ℕ) (resets : List ℕ) → p ≤ l → take p (codes_of resets l) ≡ codes_of resets p
take-codes zero l resets h = refl
take-codes (suc p) zero resets h = absurd (omega arith)
take-codes (suc p) (suc l) [] h = refl
take-codes (suc p) (suc l) (r ∷ resets) h = ap (λ (t : List ℕ). code_of (reset_value r) ∷ t) (take-codes p l resets (omega arith))

drop-codes : (p l : ℕ) (resets : List ℕ) → p ≤ l → drop p (codes_of resets l) ≡ codes_of (drop p resets) (l - p)
drop-codes zero l resets h = let e : l ≡ l - 0 = omega arith in ap (codes_of resets) e
drop-codes (suc p) zero resets h = absurd (omega arith)
drop-codes (suc p) (suc l) [] h = sym (ap (λ (t : List ℕ). map code_of (map reset_value t)) (take-nil (suc l - suc p)))
drop-codes (suc p) (suc l) (r ∷ resets) h =
    let e : l - p ≡ suc l - suc p = omega arith in
    drop-codes p l resets (omega arith) ∙ ap (codes_of (drop p resets)) e

module _ (split l p : ℕ) (resets : List ℕ) (long : l ≤ length resets) (e : p ≡ min split l) where
  pub codes-first : take split (codes_of resets l) ≡ codes_of resets p
  codes-first = go (dec_le split l)
    where
      go : Dec (split ≤ l) → take split (codes_of resets l) ≡ codes_of resets p
      go (yes h) = let f : split ≡ p = omega arith in take-codes split l resets h ∙ ap (codes_of resets) f
      go (no h) =
          let f : l ≡ p = omega arith in
          take_all split (codes_of resets l) (omega (arith, codes-length resets l long)) ∙ ap (codes_of resets) f

  pub codes-second : drop split (codes_of resets l) ≡ codes_of (drop p resets) (l - p)
  codes-second = go (dec_le split l)
    where
      go : Dec (split ≤ l) → drop split (codes_of resets l) ≡ codes_of (drop p resets) (l - p)
      go (yes h) = let f : split ≡ p = omega arith in drop-codes split l resets h ∙ ap (λ (q : ℕ). codes_of (drop q resets) (l - q)) f
      go (no h) =
          let f : 0 ≡ l - p = omega arith in
          drop_of_length-le (codes_of resets l) {i = split} (omega (arith, codes-length resets l long)) ∙ ap (codes_of (drop p resets)) f

  -- both parts loaded are the start
  pub both-loaded : (k at : ℕ) (t t1 t2 rest : List ℕ) → at + l ≤ length t → rest ≡ drop p resets
      → t1 ≡ put t at (words (map value_of (filling k (codes_of resets p))))
      → t2 ≡ put t1 (at + p) (words (map value_of (filling k (codes_of rest (l - p)))))
      → t2 ≡ put t at (words (map value_of (fill_both split k (codes_of resets l))))
  both-loaded k at t t1 t2 rest room er e1 e2 =
      let a = words (map value_of (filling k (codes_of resets p))) in
      let b = words (map value_of (filling k (codes_of (drop p resets) (l - p)))) in
      let la : length a ≡ p = wide (codes_of resets p) ∙ codes-length resets p (omega arith) in
      let lb : length b ≡ l - p
      = wide (codes_of (drop p resets) (l - p)) ∙ codes-length (drop p resets) (l - p) (omega (arith, length-drop p resets)) in
      e2 ∙ ap₂ (λ (x : List ℕ) (r : List ℕ). put x (at + p) (words (map value_of (filling k (codes_of r (l - p)))))) e1 er
      ∙ ap (λ (n : ℕ). put (put t at a) (at + n) b) (sym la)
      ∙ put-put t at a b (omega (arith, length-append a b))
      ∙ ap (put t at) (sym (ap (λ (v : List Value). words v)
      (map-append value_of (filling k (codes_of resets p)) (filling k (codes_of (drop p resets) (l - p))))
      ∙ map-append word (map value_of (filling k (codes_of resets p))) (map value_of (filling k (codes_of (drop p resets) (l - p))))))
      ∙ ap₂ (λ (x y : List ℕ). put t at (words (map value_of (filling k x ++ filling k y)))) (sym codes-first) (sym codes-second)
    where
      wide : (codes : List ℕ) → length (words (map value_of (filling k codes))) ≡ length codes
      wide codes = length-map (map value_of (filling k codes)) word ∙ (length-map (filling k codes) value_of ∙ fill-length k 0 codes)

  -- the larger count
  pub larger-is : (rest : List ℕ) → rest ≡ drop p resets → (a b : ℕ) → a ≡ x_count (codes_of resets p) → b ≡ x_count (codes_of rest (l - p))
      → max a b ≡ x_both split (codes_of resets l)
  larger-is rest er a b ea eb =
      let e1 = ap x_count codes-first in
      let e2 = ap x_count codes-second ∙ ap (λ (r : List ℕ). x_count (codes_of r (l - p))) (sym er) in
      omega (arith, e1, e2)

  -- what loading each of them asks
  pub first-asks : (at : ℕ) (t : List ℕ) → l ≤ 20 → at + l ≤ length t → (p ≤ length resets) × Loads (codes_of resets p) 0 at t
  first-asks at t few room =
      let w = codes-length resets p (omega arith) in
      (omega arith, record { room = omega (arith, w); few = omega (arith, count_small (codes_of resets p), w) })

  pub second-asks : (rest : List ℕ) → rest ≡ drop p resets → (at : ℕ) (t : List ℕ) → l ≤ 20 → at + l ≤ length t
      → (l - p ≤ length rest) × Loads (codes_of rest (l - p)) 0 (at + p) t
  second-asks rest er at t few room =
      let h : l - p ≤ length rest = omega (arith, ap length er, length-drop p resets) in
      let w = codes-length rest (l - p) h in
      (h, record { room = omega (arith, w); few = omega (arith, count_small (codes_of rest (l - p)), w) })
