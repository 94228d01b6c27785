-- One vector more: table 6 counts each latch's state before the step and each output's value after it.
use Prim.Native.Nat.{ℕ, zero, suc, ◌+◌, ◌*◌, ◌≤◌, ◌<◌}
use mathlib.Core.Path.{◌≡◌, refl, sym, ap, ap₂, ◌∙◌, subst}
use mathlib.Core.List.{List, [], ◌∷◌, ◌++◌, map-append, append_assoc}
use mathlib.Core.Bool.{Bool, true, false, cond}
use native.Mathlib.Omega.{arith}
use lib.ListN.{length, get_or, take, drop, length-append, length-map}
use lib.Seq.{get_or-take, get_or-drop, take_at, drop_at, drop-drop}
use Rattle.plan.specs.declared.Counts.{Counts}
use Rattle.plan.specs.Circuit.{Tables, circuit_of}
use Rattle.plan.specs.Step.{Value, v0, v1, vx, lit, values_of, outputs_of, Step, same}
use Rattle.plan.specs.Outcome.{put}
use Rattle.tables.specs.Held.{Scratch}
use Rattle.step.specs.values.Words.{word, words}
use Rattle.step.specs.sweep.Running.{Runs, Rests, Stands, Ready}
use Rattle.step.proofs.sweep.Loading.{stands-loaded}
use Rattle.plan.specs.Report.{times, changes_after, changes, in_turn, output_along, latch_along, most_steps}
use Rattle.report.specs.needles.Tally.{last_after, last_word, kept, counted, row_from, CountsAll, counted_all}
use Rattle.report.proofs.needles.Rows.{same_turn, turn-length, turn-row}
use Rattle.report.proofs.needles.Numbers.{counted-kept}
use Rattle.report.specs.Tallying.{tally}

-- a part replaced by one of the same length
pub replace : (p q q' r : List ℕ) (at : ℕ) → length p ≡ at → length q' ≡ length q → put (p ++ (q ++ r)) at q' ≡ p ++ (q' ++ r)
replace p q q' r at e same =
    ap₂ (λ (a b : List ℕ). a ++ (q' ++ b)) (take_at p (q ++ r) at e)
    (sym (drop-drop (length q') at (p ++ (q ++ r)))
    ∙ (ap (drop (length q')) (drop_at p (q ++ r) at e) ∙ drop_at q r (length q') (sym same)))

-- the words of values
word-of : (vs : List Value) (i : ℕ) → i < length vs → get_or (words vs) i 0 ≡ word (get_or vs i vx)
word-of [] i h = absurd (omega arith)
word-of (v ∷ vs) zero h = refl
word-of (v ∷ vs) (suc i) h = word-of vs i (omega arith)

word_at : (t : List ℕ) (from n : ℕ) (vs : List Value) → length vs ≡ n → take n (drop from t) ≡ words vs → (i : ℕ) → i < n
    → get_or t (from + i) 0 ≡ word (get_or vs i vx)
word_at t from n vs l e i h =
    sym (get_or-drop from t i 0) ∙ (sym (get_or-take n (drop from t) i 0 h) ∙ (ap (λ (q : List ℕ). get_or q i 0) e ∙ word-of vs i (omega arith)))

word-range : (v : Value) → (1 ≤ word v) × (word v ≤ 3)
word-range v0 = (omega arith, omega arith)
word-range v1 = (omega arith, omega arith)
word-range vx = (omega arith, omega arith)

-- the words of a needle stay small
one : (b : Bool) → (cond b 1 0 ≤ 1) × (cond b 0 1 ≤ 1)
one true = (omega arith, omega arith)
one false = (omega arith, omega arith)

times-few : (a : Value) (l : List Value) → times a l ≤ length l
times-few a [] = omega arith
times-few a (b ∷ l) = omega (arith, (one (same b a)).0, times-few a l)

changes-few : (a : Value) (l : List Value) → changes_after a l ≤ length l
changes-few a [] = omega arith
changes-few a (b ∷ l) = omega (arith, (one (same a b)).1, changes-few b l)

fourth-few : (l : List Value) → 4 * changes l + last_word l ≤ 4 * length l + 3
fourth-few [] = omega arith
fourth-few (a ∷ l) = omega (arith, changes-few a l, (word-range (last_after a l)).1)

kept-few : (l : List Value) → length l < 65536 → (j : ℕ) → j < 4 → get_or (kept l) j 0 < 1048576
kept-few l few zero h = omega (arith, times-few v0 l)
kept-few l few (suc zero) h = omega (arith, times-few v1 l)
kept-few l few (suc (suc zero)) h = omega (arith, times-few vx l)
kept-few l few (suc (suc (suc zero))) h = omega (arith, fourth-few l)
kept-few l few (suc (suc (suc (suc j)))) h = absurd (omega arith)

-- n needles, by their values so far, between what stands before and after them, and the words of n values
module _ (f : ℕ → List Value) (n at from : ℕ) (p r t : List ℕ) (vs : List Value) (e : length p ≡ at) (l : length vs ≡ n)
    (w : take n (drop from t) ≡ words vs) where
  abbrev old : List ℕ
  old = in_turn (λ i. kept (f i)) n

  abbrev new : List ℕ
  new = in_turn (λ i. kept (f i ++ (get_or vs i vx ∷ []))) n

  old-long : length old ≡ 4 * n
  old-long = turn-length (λ i. kept (f i)) (λ i. refl) n

  row_is : (i : ℕ) → i < n → row_from (p ++ (old ++ r)) at i ≡ kept (f i)
  row_is i h =
      ap (take 4) (sym (drop-drop (4 * i) at (p ++ (old ++ r))) ∙ ap (drop (4 * i)) (drop_at p (old ++ r) at e))
      ∙ turn-row (λ i. kept (f i)) (λ i. refl) n i r h

  pub all-counted : put (p ++ (old ++ r)) at (counted_all t from n at (p ++ (old ++ r))) ≡ p ++ (new ++ r)
  all-counted =
      ap (put (p ++ (old ++ r)) at)
      (same_turn (λ i. counted (row_from (p ++ (old ++ r)) at i) (get_or t (from + i) 0)) (λ i. kept (f i ++ (get_or vs i vx ∷ []))) n
      (λ i h. ap₂ counted (row_is i h) (word_at t from n vs l w i h) ∙ counted-kept (f i) (get_or vs i vx)))
      ∙ replace p old new r at e (turn-length (λ i. kept (f i ++ (get_or vs i vx ∷ []))) (λ i. refl) n ∙ sym old-long)

  pub counts_all : from + n ≤ length t → ((i : ℕ) → length (f i) < 65536) → CountsAll t from n at (p ++ (old ++ r))
  counts_all inside few = record {
    rows_inside = omega (arith, length-append p (old ++ r), length-append old r, old-long);
    words_inside = inside;
    some = λ i h. omega (arith, word_at t from n vs l w i h, (word-range (get_or vs i vx)).0);
    coded = λ i h. omega (arith, word_at t from n vs l w i h, (word-range (get_or vs i vx)).1);
    few = λ i j h k.
        let sum : at + 4 * i + j ≡ at + (4 * i + j) = omega arith in
        omega (
          arith,
          sym (ap (λ (m : ℕ). get_or (p ++ (old ++ r)) m 0) sum) ∙ (sym (get_or-drop (at + 4 * i) (p ++ (old ++ r)) j 0)
              ∙ (sym (get_or-take 4 (drop (at + 4 * i) (p ++ (old ++ r))) j 0 k) ∙ ap (λ (q : List ℕ). get_or q j 0) (row_is i h))),
          kept-few (f i) (few i) j k,
        );
  }

-- a step more
outputs-more : (done : List Step) (s : Step) (i : ℕ) → output_along (done ++ (s ∷ [])) i ≡ output_along done i ++ (get_or s.outputs i vx ∷ [])
outputs-more done s i = map-append (λ s. get_or s.outputs i vx) done (s ∷ [])

latches-more : (done : List Step) (s : Step) (i : ℕ) → latch_along (done ++ (s ∷ [])) i ≡ latch_along done i ++ (get_or s.state i vx ∷ [])
latches-more done s i = map-append (λ s. get_or s.state i vx) done (s ∷ [])

-- table 6 before the vector, after its latches are counted, and after its outputs are
module _ (n : Counts) (done : List Step) (rest six : List ℕ) (held : six ≡ tally n done ++ rest) (s : List Value) where
  abbrev outs : List ℕ
  outs = in_turn (λ i. kept (output_along done i)) n.O

  abbrev lats : List ℕ
  lats = in_turn (λ i. kept (latch_along done i)) n.L

  abbrev lats' : List ℕ
  lats' = in_turn (λ i. kept (latch_along done i ++ (get_or s i vx ∷ []))) n.L

  apart : six ≡ outs ++ (lats ++ rest)
  apart = held ∙ append_assoc outs lats rest

  outs-long : length outs ≡ 4 * n.O
  outs-long = turn-length (λ i. kept (output_along done i)) (λ i. refl) n.O

  module _ (t : List ℕ) (l : length s ≡ n.L) (r : take n.L (drop (1 + n.I) t) ≡ words s) where
    pub latches-counted : put six (4 * n.O) (counted_all t (1 + n.I) n.L (4 * n.O) six) ≡ outs ++ (lats' ++ rest)
    latches-counted =
        ap (λ (x : List ℕ). put x (4 * n.O) (counted_all t (1 + n.I) n.L (4 * n.O) x)) apart
        ∙ all-counted (latch_along done) n.L (4 * n.O) (1 + n.I) outs rest t s outs-long l r

    pub latches-count : 1 + n.I + n.L ≤ length t → length done < most_steps → CountsAll t (1 + n.I) n.L (4 * n.O) six
    latches-count inside few =
        subst (λ (x : List ℕ). CountsAll t (1 + n.I) n.L (4 * n.O) x) (sym apart)
        (counts_all (latch_along done) n.L (4 * n.O) (1 + n.I) outs rest t s outs-long l r inside
        (λ i. omega (arith, few, length-map done (λ (x : Step). get_or x.state i vx))))

  module _ (step : Step) (at-start : step.state ≡ s) (six1 t : List ℕ) (before : six1 ≡ outs ++ (lats' ++ rest)) (l : length step.outputs ≡ n.O)
      (r : take n.O (drop (n.M + 1) t) ≡ words step.outputs) where
    abbrev outs' : List ℕ
    outs' = in_turn (λ i. kept (output_along done i ++ (get_or step.outputs i vx ∷ []))) n.O

    joined : outs' ++ (lats' ++ rest) ≡ tally n (done ++ (step ∷ [])) ++ rest
    joined =
        sym (append_assoc outs' lats' rest)
        ∙ ap₂ (λ (a b : List ℕ). (a ++ b) ++ rest)
        (same_turn (λ i. kept (output_along done i ++ (get_or step.outputs i vx ∷ []))) (λ i. kept (output_along (done ++ (step ∷ [])) i)) n.O
        (λ i h. ap kept (sym (outputs-more done step i))))
        (same_turn (λ i. kept (latch_along done i ++ (get_or s i vx ∷ []))) (λ i. kept (latch_along (done ++ (step ∷ [])) i)) n.L
        (λ i h. ap kept (ap (λ (x : List Value). latch_along done i ++ (get_or x i vx ∷ [])) (sym at-start) ∙ sym (latches-more done step i))))

    pub outputs-counted : put six1 0 (counted_all t (n.M + 1) n.O 0 six1) ≡ tally n (done ++ (step ∷ [])) ++ rest
    outputs-counted =
        ap (λ (x : List ℕ). put x 0 (counted_all t (n.M + 1) n.O 0 x)) before
        ∙ (all-counted (output_along done) n.O 0 (n.M + 1) [] (lats' ++ rest) t step.outputs refl l r ∙ joined)

    pub outputs-count : n.M + 1 + n.O ≤ length t → length done < most_steps → CountsAll t (n.M + 1) n.O 0 six1
    outputs-count inside few =
        subst (λ (x : List ℕ). CountsAll t (n.M + 1) n.O 0 x) (sym before)
        (counts_all (output_along done) n.O 0 (n.M + 1) [] (lats' ++ rest) t step.outputs refl l r inside
        (λ i. omega (arith, few, length-map done (λ (x : Step). get_or x.outputs i vx))))

-- the leaves' words stand, and a step may be made
module _ {n : Counts} {x : Tables} (r : Runs n x) {s : List Value} (i : List Value) {t t1 : List ℕ} (room : Scratch n t) (l : length s ≡ n.L) (z : Rests n s t)
    (v : length i ≡ n.I) (e : t1 ≡ put t 1 (words i)) where
  pub stands : Stands n s i t1
  stands = stands-loaded n s i t t1 z l v (omega (arith, room, r.fits.sum)) e

  pub ready : length t1 ≡ length t → Ready n x.latches x.outputs x.gates t1
  ready same-long = record {
    others = x;
    state = s;
    ins = i;
    runs = record { fits = r.fits; counts = r.counts; formed = r.formed; order = r.order };
    scratch = omega (arith, room);
    stands = stands;
  }

pub outputs-long : {n : Counts} {x : Tables} → Runs n x → (s i : List Value) → length (outputs_of (circuit_of n x) s i) ≡ n.O
outputs-long {n} {x} r s i =
    length-map (circuit_of n x).outputs (lit (values_of (circuit_of n x) s i)) ∙ ap (λ (m : Counts). m.O) r.counts
