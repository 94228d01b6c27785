-- One line of a latch: by 1 and 5 first, then by 6.
use Prim.Native.Nat.{ℕ, suc, zero, ◌+◌, ◌*◌, ◌≤◌, ◌<◌}
use mathlib.Core.Path.{◌≡◌, refl, sym, ap, ap₂, ◌∙◌, subst}
use mathlib.Core.Bool.{Bool, true, false, cond, ◌&&◌}
use mathlib.Core.List.{List, [], ◌∷◌, map}
use Rattle.std.specs.Prelude.{Ok, Err, Option, Some, None}
use native.Mathlib.Omega.{arith}
use lib.ListN.{length, get_or, set, take, drop}
use Rattle.plan.specs.declared.Refusal.{Refusal}
use Rattle.plan.specs.declared.Refusal.TheVariants.{OutOfRange, DefinedTwice}
use Rattle.plan.specs.Literals.{most, var_of, lit_of}
use Rattle.plan.specs.Refusals.{Parse, got, refused, ◌then◌, unless}
use Rattle.plan.specs.Circuit.{literal_of, has, latch_line}
use Rattle.plan.specs.Bytes.{number, goes_on, less, Placed, numbers, values, outside, wrong_reset, own_of, twice, latch_line_at, reset_after, latch_form}
use Rattle.plan.specs.Given.{or_else}
use Rattle.plan.specs.Outcome.{passed_by, put}
use Rattle.laws.proofs.Put.{put_one}
use Rattle.laws.proofs.Ranges.{first-var}
use Rattle.laws.proofs.Reading.Common.{then-got, unless-got, not-got, got-value, got-next}
use Rattle.laws.proofs.Reading.Cut.{cut}
use Rattle.laws.proofs.Reading.Lines.{numbers-took, outside-none}
use Rattle.lines.specs.Rows.{places_of, marked, marking}
use Rattle.lines.proofs.RowLoop.{put-more}
use Rattle.lines.proofs.LinesLoop.{first_word}
use Rattle.lines.specs.latches.Latches.{literals, frame_of, judged, faults, latch_row, latch_in, Own}
use Rattle.lines.proofs.latches.Frame.{judge-is, held_whole}

-- the answer of a line's numbers
passed_to : {A : Type 0} (p : Parse A) (next : ℕ) → Ok next ≡ passed_by p → (a : A) × (p ≡ got a next)
passed_to (got a n) next e = (a, ap (got a) (cc))
passed_to (refused r) next e = let z : ◌≡◌ {A = ℕ} 0 1 = cc in absurd (omega arith)

passed-refused : {A : Type 0} (p : Parse A) (r : Refusal) → Err r ≡ passed_by p → p ≡ refused r
passed-refused (got a n) r e = let z : ◌≡◌ {A = ℕ} 0 1 = cc in absurd (omega arith)
passed-refused (refused q) r e = let same : q ≡ r = cc in ap refused same

some-literals : (d : Bool) → 0 < literals d
some-literals true = omega arith
some-literals false = omega arith

-- the first number of a line stands at its start
first-placed : (file : List ℕ) (must may at : ℕ) (xs : List Placed) (n : ℕ) → 0 < may → numbers file must may at ≡ got xs n
    → (v : ℕ) × (ys : List Placed) × (record { value = v; place = at } ∷ ys ≡ xs)
first-placed file must zero at xs n h e = absurd (omega arith)
first-placed file must (suc may) at xs n h e =
    let t1 = then-got (number file at) _ xs n e in
    let t2 = then-got (goes_on file (less must) may t1.1) _ xs n t1.3 in
    let t3 = then-got {A = List Placed} (elim t2.0 [ true ↦ numbers file (less must) may t2.1 | false ↦ got [] t2.1 ]) _ xs n t2.3 in
    (t1.0, t3.0, got-value _ xs t3.1 n t3.3)

judge-twice : (d : Bool) (seen : List ℕ) (v at : ℕ) (ys : List Placed) (p : Parse (List ℕ))
    → unless (twice d seen (record { value = v; place = at } ∷ ys)) DefinedTwice p ≡ cond (d && has (var_of v) seen) (refused (DefinedTwice at)) p
judge-twice false seen v at ys p = refl
judge-twice true seen v at ys p = go (has (var_of v) seen)
  where
    go : (t : Bool) → unless (cond t (Some at) None) DefinedTwice p ≡ cond t (refused (DefinedTwice at)) p
    go true = refl
    go false = refl

both-unless : (o q : Option ℕ) (p : Parse (List ℕ)) → unless o OutOfRange (unless q OutOfRange p) ≡ unless (or_else o q) OutOfRange p
both-unless None q p = refl
both-unless (Some x) q p = refl

module _ (file : List ℕ) (d : Bool) (m more v at : ℕ) where
  pub record Accepted (row : List ℕ) (next : ℕ) : Type 0 where
    pub xs : List Placed
    pub read : numbers file (literals d) (literals d + more) at ≡ got xs next
    pub fine : faults d m v xs ≡ None
    pub is : values xs ≡ row
    pub low : literals d ≤ length row
    pub high : length row ≤ literals d + more

  pub accepted : (row : List ℕ) (next : ℕ) → latch_row file d m more v at ≡ got row next → Accepted row next
  accepted row next e =
      let t = then-got (numbers file (literals d) (literals d + more) at) _ row next e in
      let u = unless-got (faults d m v t.0) _ _ row next t.3 in
      let row_is : values t.0 ≡ row = got-value _ row t.1 next u.1 in
      let n-is : t.1 ≡ next = got-next _ row t.1 next u.1 in
      let took = numbers-took file (literals d) (literals d + more) at t.0 t.1 (omega arith) t.2 in
      record {
        xs = t.0;
        read = t.2 ∙ ap (got t.0) n-is;
        fine = u.0;
        is = row_is;
        low = omega (arith, took.1, ap length row_is);
        high = omega (arith, took.2, ap length row_is);
      }

  -- what 6 says of a line that 1 and 5 accept
  pub latch-line : (seen row : List ℕ) (next : ℕ) → latch_row file d m more v at ≡ got row next
      → latch_line_at file (latch_form (literals d) d more) m v seen at ≡ cond (d && has (var_of (literal_of row)) seen) (refused (DefinedTwice at)) (got row next)
  latch-line seen row next e =
      let a = accepted row next e in
      let xs = a.xs in
      let f = first-placed file (literals d) (literals d + more) at xs next (omega (arith, some-literals d)) a.read in
      let v-is : f.0 ≡ literal_of row = ap (λ (x : List Placed). literal_of (values x)) f.2 ∙ ap literal_of a.is in
      rw a.read
      (both-unless (outside d m (take (literals d) xs)) (wrong_reset (own_of d v (values xs)) (drop (literals d) xs)) _
      ∙ (ap (λ (o : Option ℕ). unless o OutOfRange (unless (twice d seen xs) DefinedTwice (got (values xs) next))) a.fine
      ∙ (ap (λ (x : List Placed). unless (twice d seen x) DefinedTwice (got (values xs) next)) (sym f.2)
      ∙ (judge-twice d seen f.0 at f.1 (got (values xs) next)
      ∙ ap₂ (λ (x : ℕ) (y : List ℕ). cond (d && has (var_of x) seen) (refused (DefinedTwice at)) (got y next)) v-is a.is))))

  pub latch-refused : (seen : List ℕ) (r : Refusal) → latch_row file d m more v at ≡ refused r
      → latch_line_at file (latch_form (literals d) d more) m v seen at ≡ refused r
  latch-refused seen r e = go (numbers file (literals d) (literals d + more) at) e
    where
      go : (p : Parse (List Placed))
          → (p then λ xs next. unless (faults d m v xs) OutOfRange (got (values xs) next)) ≡ refused r
          → (p then λ xs next. unless (outside d m (take (literals d) xs)) OutOfRange
          (unless (wrong_reset (own_of d v (values xs)) (drop (literals d) xs)) OutOfRange
          (unless (twice d seen xs) DefinedTwice (got (values xs) next)))) ≡ refused r
      go (refused q) h = let same : q ≡ r = cc in ap refused same
      go (got xs n) h =
          both-unless (outside d m (take (literals d) xs)) (wrong_reset (own_of d v (values xs)) (drop (literals d) xs)) _
          ∙ by-range (faults d m v xs) h
        where
          by-range : (o : Option ℕ) → unless o OutOfRange (got (values xs) n) ≡ refused r
              → unless o OutOfRange (unless (twice d seen xs) DefinedTwice (got (values xs) n)) ≡ refused r
          by-range None q = absurd (let z : ◌≡◌ {A = ℕ} 0 1 = cc in omega arith)
          by-range (Some x) q = q

-- a line that defines has a variable of the circuit, and so has the latch of any line
pub row-var : (file : List ℕ) (m more v at : ℕ) (row : List ℕ) (next : ℕ) → latch_row file true m more v at ≡ got row next → var_of (literal_of row) ≤ m
row-var file m more v at row next e = let a = accepted file true m more v at row next e in go a.xs row a.is a.low a.fine
  where
    first-none : (o q : Option ℕ) → or_else o q ≡ None → o ≡ None
    first-none None q e = refl
    first-none (Some x) q e = e

    go : (xs : List Placed) (l : List ℕ) → values xs ≡ l → 2 ≤ length l → faults true m v xs ≡ None → var_of (literal_of l) ≤ m
    go [] l q lo f = absurd (omega (arith, ap length q))
    go (x ∷ []) l q lo f = absurd (omega (arith, ap length q))
    go (x ∷ y ∷ xs) l q lo f =
        let h = outside-none true m (x ∷ y ∷ []) (first-none (outside true m (x ∷ y ∷ [])) _ f) in
        subst (λ (z : List ℕ). var_of (literal_of z) ≤ m) q (first-var true m x.value (y.value ∷ []) h)

pub latch-var : (file : List ℕ) (d : Bool) (m more v at : ℕ) (row : List ℕ) (next : ℕ) → Own d m v → latch_row file d m more v at ≡ got row next
    → var_of (latch_in d v row).current ≤ m
latch-var file true m more v at row next own e = row-var file m more v at row next e
latch-var file false m more v at row next own e = omega (arith, own.1)

-- marks are looked up and set by the latch's own literal, which counts only where a line defines it
pub same-mark : (d : Bool) (v : ℕ) (row marks : List ℕ) → marked d (var_of (latch_in d v row).current) marks ≡ marked d (var_of (literal_of row)) marks
same-mark true v row marks = refl
same-mark false v row marks = refl

pub same-marking : (d b : Bool) (v : ℕ) (row marks : List ℕ)
    → marking d b (var_of (latch_in d v row).current) marks ≡ marking d b (var_of (literal_of row)) marks
same-marking true b v row marks = refl
same-marking false b v row marks = refl

-- the answer of the code
put_two : (t : List ℕ) (b x y : ℕ) → b + 2 ≤ length t → set (set t b x) (b + 1) y ≡ put t b (x ∷ y ∷ [])
put_two t b x y h = ap (λ (l : List ℕ). set l (b + 1) y) (put_one t b x (omega arith)) ∙ put-more t b (x ∷ []) y (omega arith)

frame-line : (d : Bool) (v : ℕ) (row : List ℕ) → get_or (frame_of d (lit_of v) row) 0 0 ∷ get_or (frame_of d (lit_of v) row) 1 0 ∷ [] ≡ latch_line (latch_in d v row)
frame-line true v row = refl
frame-line false v row = refl

frame-reset : (d : Bool) (v : ℕ) (row : List ℕ) → get_or (frame_of d (lit_of v) row) 2 0 ≡ reset_after (literals d) row
frame-reset true v row = refl
frame-reset false v row = refl

module _ (file : List ℕ) (d : Bool) (m more v at : ℕ) (t₀ r₀ : List ℕ) (i : ℕ) where
  -- what is said of the tables
  abbrev pub Kept : List ℕ → List ℕ → Type 0
  Kept t' r' =
      (row : List ℕ) (next : ℕ) → latch_row file d m more v at ≡ got row next
      → (t' ≡ put t₀ (2 * i) (latch_line (latch_in d v row))) × (r' ≡ put r₀ i (reset_after (literals d) row ∷ []))

  refuses : (r : Refusal) (t' r' : List ℕ) → latch_row file d m more v at ≡ refused r
      → (Err r ≡ passed_by (latch_row file d m more v at)) × Kept t' r'
  refuses r t' r' e = (sym (ap passed_by e), λ row next q. absurd (not-got r row next (sym e ∙ q)))

  module _ (next : ℕ) (w p : List ℕ) (small : m ≤ most) (few : more ≤ 1) (own : Own d m v)
      (e : Ok next ≡ passed_by (numbers file (literals d) (literals d + more) at))
      (framed : (xs : List Placed) (n : ℕ) → numbers file (literals d) (literals d + more) at ≡ got xs n
      → (w ≡ frame_of d (lit_of v) (map cut (values xs))) × (p ≡ frame_of d 0 (places_of xs))) where
    read : (xs : List Placed) × (numbers file (literals d) (literals d + more) at ≡ got xs next)
    read = passed_to (numbers file (literals d) (literals d + more) at) next e

    long : (literals d ≤ length (values read.0)) × (length (values read.0) ≤ literals d + 1)
    long =
        let took = numbers-took file (literals d) (literals d + more) at read.0 next (omega arith) read.1 in
        (took.1, omega (arith, took.2))

    judgement : judged m (get_or w 0 0) (get_or w 1 0) (get_or w 2 0) (get_or p 0 0) (get_or p 1 0) (get_or p 2 0) ≡ faults d m v read.0
    judgement =
        let f = framed read.0 next read.1 in
        judge-is m small d v read.0 w p long.0 long.1 own f.0 f.1

    pub out_of_range : (place : ℕ) (t' r' : List ℕ)
        → Some place ≡ judged m (get_or w 0 0) (get_or w 1 0) (get_or w 2 0) (get_or p 0 0) (get_or p 1 0) (get_or p 2 0)
        → (Err (OutOfRange place) ≡ passed_by (latch_row file d m more v at)) × Kept t' r'
    out_of_range place t' r' f = refuses (OutOfRange place) t' r' (rw (read.1, sym (f ∙ judgement)))

    pub all-fine : 2 * i + 2 ≤ length t₀ → i < length r₀
        → None ≡ judged m (get_or w 0 0) (get_or w 1 0) (get_or w 2 0) (get_or p 0 0) (get_or p 1 0) (get_or p 2 0)
        → (Ok next ≡ passed_by (latch_row file d m more v at)) × Kept (set (set t₀ (2 * i) (get_or w 0 0)) (2 * i + 1) (get_or w 1 0)) (set r₀ i (get_or w 2 0))
    all-fine room room-r f =
        let clean : faults d m v read.0 ≡ None = sym (f ∙ judgement) in
        let whole : latch_row file d m more v at ≡ got (values read.0) next = rw (read.1, clean) in
        let w-is : w ≡ frame_of d (lit_of v) (values read.0)
        = (framed read.0 next read.1).0
        ∙ ap (frame_of d (lit_of v)) (held_whole m small d v read.0 long.0 long.1 own clean) in (
          sym (ap passed_by whole),
          λ row n q.
              let same : values read.0 ≡ row = got-value (values read.0) row next n (sym whole ∙ q) in
              let w-row : w ≡ frame_of d (lit_of v) row = w-is ∙ ap (frame_of d (lit_of v)) same in (
                put_two t₀ (2 * i) (get_or w 0 0) (get_or w 1 0) room
                    ∙ ap (put t₀ (2 * i)) (ap (λ (x : List ℕ). get_or x 0 0 ∷ get_or x 1 0 ∷ []) w-row ∙ frame-line d v row),
                put_one r₀ i (get_or w 2 0) room-r
                    ∙ ap (λ (x : ℕ). put r₀ i (x ∷ [])) (ap (λ (x : List ℕ). get_or x 2 0) w-row ∙ frame-reset d v row),
              ),
        )

-- what the code reads of the line is the latch's own literal
pub own-word : (t t' : List ℕ) (i : ℕ) (d : Bool) (v : ℕ) (row : List ℕ) → t' ≡ put t (2 * i) (latch_line (latch_in d v row))
    → 2 * i + 2 ≤ length t → get_or t' (2 * i) 0 ≡ (latch_in d v row).current
own-word t t' i d v row held room =
    ap (λ (x : List ℕ). get_or x (2 * i) 0) held ∙ first_word t (2 * i) (latch_line (latch_in d v row)) (omega arith) (omega arith)
