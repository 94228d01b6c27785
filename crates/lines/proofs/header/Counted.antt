-- Nine words that hold the counts of a line of five to nine numbers, those left off being 0.
use Prim.Native.Nat.{ℕ, suc, zero, ◌+◌, ◌≤◌, ◌<◌}
use mathlib.Core.Path.{◌≡◌, refl, sym, ap, ◌∙◌}
use mathlib.Core.Bool.{Bool, true, false, cond}
use mathlib.Core.List.{List, [], ◌∷◌, ◌++◌, map}
use Rattle.std.specs.Prelude.{Ok, Err, Some, None}
use native.Mathlib.Omega.{arith}
use borrow.Author.Tests.{le-leb, lt-leb, eq-eqb, ne_eqb, leb-true, leb-false}
use lib.Dec.{leb}
use lib.ListN.{length, get_or, drop, replicate}
use lib.Seq.{get_or-drop}
use Rattle.plan.specs.declared.Counts.{Counts}
use Rattle.plan.specs.declared.Version.{Version}
use Rattle.plan.specs.declared.Refusal.{Refusal}
use Rattle.plan.specs.declared.Refusal.TheVariants.{LargeCount, WrongSum, Justice}
use Rattle.plan.specs.Literals.{most}
use Rattle.plan.specs.Refusals.{Parse, got, refused}
use Rattle.plan.specs.Bytes.{Placed, numbers, values}
use Rattle.plan.specs.Header.{more_counts, Form, counts_from, over, above0, adds}
use Rattle.plan.specs.Outcome.{passed_by, put, headed_by, form_of}
use Rattle.laws.proofs.Marks.{zeros}
use Rattle.laws.proofs.Reading.Cut.{cut}
use Rattle.laws.proofs.Reading.Headers.{counts-at-most, values-drop}
use Rattle.laws.proofs.Reading.Lines.{numbers-took}
use Rattle.lines.specs.Rows.{places_of, Numbered}
use Rattle.lines.specs.header.Parts.{Above, NoneAbove, counted, sums}

passed_to : {A : Type 0} (p : Parse A) (next : ℕ) → Ok next ≡ passed_by p → (a : A) × (p ≡ got a next)
passed_to (got a n) next e = (a, ap (got a) (cc))
passed_to (refused r) next e = let z : ◌≡◌ {A = ℕ} 0 1 = cc in absurd (omega arith)

passed-refused : {A : Type 0} (p : Parse A) (r : Refusal) → Err r ≡ passed_by p → p ≡ refused r
passed-refused (got a n) r e = let z : ◌≡◌ {A = ℕ} 0 1 = cc in absurd (omega arith)
passed-refused (refused q) r e = let same : q ≡ r = cc in ap refused same

-- words put at the start of nine zeros, by their places
abbrev nine : List ℕ
nine = replicate 9 0

then-zeros : (l z : List ℕ) → ((i : ℕ) → get_or z i 0 ≡ 0) → (k : ℕ) → get_or (l ++ z) k 0 ≡ get_or l k 0
then-zeros [] z h k = h k
then-zeros (x ∷ l) z h zero = refl
then-zeros (x ∷ l) z h (suc k) = then-zeros l z h k

put-at : (l : List ℕ) (k : ℕ) → get_or (put nine 0 l) k 0 ≡ get_or l k 0
put-at l k = then-zeros l (drop (0 + length l) nine) (λ i. get_or-drop (0 + length l) nine i 0 ∙ zeros 9 (0 + length l + i)) k

cut_at : (l : List ℕ) (k : ℕ) → get_or (map cut l) k 0 ≡ cut (get_or l k 0)
cut_at [] k = refl
cut_at (x ∷ l) zero = refl
cut_at (x ∷ l) (suc k) = cut_at l k

past_end : (l : List ℕ) (k : ℕ) → length l ≤ k → get_or l k 0 ≡ 0
past_end [] k h = refl
past_end (x ∷ l) zero h = absurd (omega arith)
past_end (x ∷ l) (suc k) h = past_end l k (omega arith)

-- 2 and 21 by index
over-some : (xs : List Placed) (r : ℕ) → r < length (values xs) → ((k : ℕ) → k < r → get_or (values xs) k 0 ≤ most) → most < get_or (values xs) r 0
    → over xs ≡ Some (get_or (places_of xs) r 0)
over-some [] r l b f = absurd (omega arith)
over-some (x ∷ xs) zero l b f = rw (lt-leb x.value most f)
over-some (x ∷ xs) (suc r) l b f =
    rw (le-leb x.value most (b 0 (omega arith))) (over-some xs r (omega arith) (λ k h. b (suc k) (omega arith)) f)

over_none : (xs : List Placed) → ((k : ℕ) → get_or (values xs) k 0 ≤ most) → over xs ≡ None
over_none [] b = refl
over_none (x ∷ xs) b = rw (le-leb x.value most (b 0)) (over_none xs (λ k. b (suc k)))

above-some : (xs : List Placed) (r : ℕ) → r < length (values xs) → ((k : ℕ) → k < r → get_or (values xs) k 0 ≡ 0) → 0 < get_or (values xs) r 0
    → above0 xs ≡ Some (get_or (places_of xs) r 0)
above-some [] r l b f = absurd (omega arith)
above-some (x ∷ xs) zero l b f = rw (ne_eqb x.value 0 (λ e. omega arith))
above-some (x ∷ xs) (suc r) l b f =
    rw (eq-eqb x.value 0 (b 0 (omega arith))) (above-some xs r (omega arith) (λ k h. b (suc k) (omega arith)) f)

above-none : (xs : List Placed) → ((k : ℕ) → get_or (values xs) k 0 ≡ 0) → above0 xs ≡ None
above-none [] b = refl
above-none (x ∷ xs) b = rw (eq-eqb x.value 0 (b 0)) (above-none xs (λ k. b (suc k)))

places-drop : (k : ℕ) (xs : List Placed) → places_of (drop k xs) ≡ drop k (places_of xs)
places-drop zero xs = refl
places-drop (suc k) [] = refl
places-drop (suc k) (x ∷ xs) = places-drop k xs

-- the line read, its words and its places
pub record Line (v : Version) (file : List ℕ) (w p : List ℕ) (next : ℕ) : Type 0 where
  pub xs : List Placed
  pub read : numbers file 5 (5 + more_counts v) 4 ≡ got xs next
  pub few : length (values xs) ≤ 9
  pub words : (k : ℕ) → get_or w k 0 ≡ cut (get_or (values xs) k 0)
  pub places : (k : ℕ) → get_or p k 0 ≡ get_or (places_of xs) k 0

module _ (v : Version) (file : List ℕ) where
  pub stops : (form : Form) (r : Refusal) (more : ℕ) → more ≡ more_counts v → Err r ≡ passed_by (numbers file 5 (5 + more) 4)
      → Err r ≡ headed_by (counted v file form)
  stops form r more m e =
      let stop = passed-refused (numbers file 5 (5 + more_counts v) 4) r (e ∙ ap (λ (k : ℕ). passed_by (numbers file 5 (5 + k) 4)) m) in
      let whole : counted v file form ≡ refused r = rw stop in
      sym (ap headed_by whole)

  pub line_read : (w p : List ℕ) (next more : ℕ) → more ≡ more_counts v → Ok next ≡ passed_by (numbers file 5 (5 + more) 4)
      → ((xs : List Placed) (n : ℕ) → numbers file 5 (5 + more) 4 ≡ got xs n → Numbered xs 0 nine nine w p)
      → Line v file w p next
  line_read w p next more m e h =
      let q : numbers file 5 (5 + more) 4 ≡ numbers file 5 (5 + more_counts v) 4 = ap (λ (k : ℕ). numbers file 5 (5 + k) 4) m in
      let r = passed_to (numbers file 5 (5 + more_counts v) 4) next (e ∙ ap passed_by q) in
      let n = h r.0 next (q ∙ r.1) in
      let took = numbers-took file 5 (5 + more_counts v) 4 r.0 next (omega arith) r.1 in
      record {
        xs = r.0;
        read = r.1;
        few = omega (arith, took.2, counts-at-most v);
        words = λ k. ap (λ (l : List ℕ). get_or l k 0) n.words ∙ (put-at (map cut (values r.0)) k ∙ cut_at (values r.0) k);
        places = λ k. ap (λ (l : List ℕ). get_or l k 0) n.places ∙ put-at (places_of r.0) k;
      }

  module _ {w p : List ℕ} {next : ℕ} (s : Line v file w p next) where
    -- a word above a limit stands in the line
    there : (r limit : ℕ) → limit < get_or w r 0 → r < length (values s.xs)
    there r limit h = go (leb (length (values s.xs)) r) refl
      where
        go : (t : Bool) → leb (length (values s.xs)) r ≡ t → r < length (values s.xs)
        go false e = leb-false _ _ e
        go true e =
            let z : get_or (values s.xs) r 0 ≡ 0 = past_end (values s.xs) r (leb-true _ _ e) in
            absurd (omega (arith, s.words r))

    pub large : (form : Form) (r : ℕ) → Above w 0 most r → Err (LargeCount (get_or p r 0)) ≡ headed_by (counted v file form)
    large form r a =
        let o : over s.xs ≡ Some (get_or (places_of s.xs) r 0)
        = over-some s.xs r (there r most a.found) (λ k h. omega (arith, a.before k (omega arith) h, s.words k))
        (omega (arith, a.found, s.words r)) in
        let all : counted v file form ≡ refused (LargeCount (get_or (places_of s.xs) r 0)) = rw (s.read, o) in
        ap (λ (x : ℕ). Err (LargeCount x)) (s.places r) ∙ sym (ap headed_by all)

    -- no count is over the limit
    pub all_small : NoneAbove w 0 most → (k : ℕ) → get_or (values s.xs) k 0 ≤ most
    all_small a k = go (leb 9 k) refl
      where
        go : (t : Bool) → leb 9 k ≡ t → get_or (values s.xs) k 0 ≤ most
        go true e =
            let z : get_or (values s.xs) k 0 ≡ 0 = past_end (values s.xs) k (omega (arith, s.few, leb-true 9 k e)) in
            omega arith
        go false e = omega (arith, a k (omega arith) (leb-false 9 k e), s.words k)

    seventh : (k : ℕ) → get_or (values (drop 7 s.xs)) k 0 ≡ get_or (values s.xs) (7 + k) 0
    seventh k = ap (λ (l : List ℕ). get_or l k 0) (values-drop 7 s.xs) ∙ get_or-drop 7 (values s.xs) k 0

    module _ (none_large : NoneAbove w 0 most) where
      small : over s.xs ≡ None
      small = over_none s.xs (all_small none_large)

      pub just : (form : Form) (r : ℕ) → Above w 7 0 r → Err (Justice (get_or p r 0)) ≡ headed_by (counted v file form)
      just form r j =
          let m = minus r 7 j.from_on in
          let o = after m.0 m.1 in
          let all : counted v file form ≡ refused (Justice (get_or (places_of s.xs) r 0)) = rw (s.read, small, o) in
          ap (λ (x : ℕ). Err (Justice x)) (s.places r) ∙ sym (ap headed_by all)
        where
          dropped : (k : ℕ) (x : List ℕ) (i : ℕ) → k + i < length x → i < length (drop k x)
          dropped zero x i h = omega arith
          dropped (suc k) [] i h = absurd (omega arith)
          dropped (suc k) (y ∷ x) i h = dropped k x i (omega arith)

          minus : (a b : ℕ) → b ≤ a → (d : ℕ) × (a ≡ b + d)
          minus a zero h = (a, omega arith)
          minus zero (suc b) h = absurd (omega arith)
          minus (suc a) (suc b) h = let m = minus a b (omega arith) in (m.0, omega (arith, m.1))

          after : (r' : ℕ) → r ≡ 7 + r' → above0 (drop 7 s.xs) ≡ Some (get_or (places_of s.xs) r 0)
          after r' e =
              let long : 7 + r' < length (values s.xs) = omega (arith, there r 0 j.found) in
              let size : length (values (drop 7 s.xs)) ≡ length (drop 7 (values s.xs)) = ap length (values-drop 7 s.xs) in
              let n : r' < length (values (drop 7 s.xs)) = omega (arith, dropped 7 (values s.xs) r' long) in
              let f : 0 < get_or w (7 + r') 0 = omega (arith, ap (λ (x : ℕ). get_or w x 0) e, j.found) in
              above-some (drop 7 s.xs) r' n
              (λ k h. seventh k ∙ omega (arith, j.before (7 + k) (omega arith) (omega arith), s.words (7 + k)))
              (omega (arith, seventh r', s.words (7 + r')))
              ∙ ap Some (ap (λ (x : List ℕ). get_or x r' 0) (places-drop 7 s.xs) ∙ (get_or-drop 7 (places_of s.xs) r' 0
              ∙ ap (λ (x : ℕ). get_or (places_of s.xs) x 0) (sym e)))

      module _ (none-just : NoneAbove w 7 0) where
        plain : above0 (drop 7 s.xs) ≡ None
        plain = above-none (drop 7 s.xs) (λ k. seventh k ∙ go k (leb 2 k) refl)
          where
            go : (k : ℕ) (t : Bool) → leb 2 k ≡ t → get_or (values s.xs) (7 + k) 0 ≡ 0
            go k true e = past_end (values s.xs) (7 + k) (omega (arith, s.few, leb-true 2 k e))
            go k false e = omega (arith, none-just (7 + k) (omega arith) (omega (arith, leb-false 2 k e)), s.words (7 + k))

        same : (k : ℕ) → get_or w k 0 ≡ get_or (values s.xs) k 0
        same k = omega (arith, s.words k, all_small none_large k)

        counts : counts_from w ≡ counts_from (values s.xs)
        counts = λ i. record { M = same 0 i; I = same 1 i; L = same 2 i; O = same 3 i; A = same 4 i; B = same 5 i; C = same 6 i }

        whole : (form : Form) → counted v file form
            ≡ cond (adds form (counts_from w)) (got (record { form = form; counts = counts_from w }) next) (refused (WrongSum 0))
        whole form =
            rw (s.read, small, plain)
            (ap (λ (n : Counts). cond (adds form n) (got (record { form = form; counts = n }) next) (refused (WrongSum 0))) (sym counts))

        pub sum-wrong : (b : Bool) → sums b (get_or w 1 0 + get_or w 2 0 + get_or w 4 0) (get_or w 0 0) ≡ false
            → Err (WrongSum 0) ≡ headed_by (counted v file (form_of b))
        sum-wrong true e = sym (ap headed_by (whole (form_of true)) ∙ rw e)
        sum-wrong false e = sym (ap headed_by (whole (form_of false)) ∙ rw e)

        pub sum-right : (b : Bool) → sums b (get_or w 1 0 + get_or w 2 0 + get_or w 4 0) (get_or w 0 0) ≡ true
            → Ok (b, counts_from w, next) ≡ headed_by (counted v file (form_of b))
        sum-right true e = sym (ap headed_by (whole (form_of true)) ∙ rw e)
        sum-right false e = sym (ap headed_by (whole (form_of false)) ∙ rw e)
