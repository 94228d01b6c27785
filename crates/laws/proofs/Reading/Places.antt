-- The place of 1 is an offset of the file or its length, and reading never passes the end.
use Prim.Native.Nat.{ℕ, suc, zero, ◌+◌, ◌-◌, ◌*◌, ◌%◌, ◌<◌, ◌≤◌}
use mathlib.Core.Path.{◌≡◌, refl, ap, subst}
use mathlib.Core.Bool.{Bool, true, false, cond, ◌&&◌, ◌||◌}
use mathlib.Core.List.{List, [], ◌∷◌, ◌++◌}
use Rattle.std.specs.Prelude.{Result, Ok, Err, Option, Some, None}
use native.Mathlib.Omega.{arith}
use native.Mathlib.Nat.{le_refl}
use borrow.Author.Tests.{eqb-true, leb-false}
use lib.Dec.{eqb, leb, ltb}
use lib.ListN.{length, get_or, take, drop, length-append, length-drop}
use Rattle.plan.specs.declared.Class.{Class}
use Rattle.plan.specs.declared.Class.TheVariants.{Line, Space, Zero, Digit, Print, Rest}
use Rattle.plan.specs.declared.Refusal.{Refusal}
use Rattle.plan.specs.declared.Refusal.TheVariants.{WrongByte, LargeCount, WrongSum, ShortTable, OutOfRange, DefinedTwice, NotDefined, Cyclic}
use Rattle.plan.specs.declared.Refusal.TheVariants.{BadDifference, BadSymbol, LongDifference, Justice}
use Rattle.plan.specs.Refusals.{number_of, place_of, Parse, got, refused, ◌then◌, unless}
use Rattle.plan.specs.declared.Counts.{Counts}
use Rattle.plan.specs.declared.Version.{Version}
use Rattle.plan.specs.Literals.{var_of}
use Rattle.plan.specs.Circuit.{Circuit, literal_of, heads, against, least_short}
use Rattle.plan.specs.Depends.{undefined_in, cyclic_in}
use Rattle.plan.specs.Bytes.{class_of, digit_class, name_class, span, number_by, number, expect, goes_on, less, Placed, numbers, values, outside, twice}
use Rattle.plan.specs.Bytes.{wrong_reset, own_of, line, lines, latch_line_at, latch_lines, latch_form}
use Rattle.plan.specs.Header.{more_counts, more_resets, Form, text, binary, letter, over, above0, adds, counts_from, header, words_to_read}
use Rattle.plan.specs.Difference.{low_then, groups, difference_at, difference_says, difference}
use Rattle.plan.specs.Binary.{gate, gates_from}
use Rattle.plan.specs.Tail.{Symbol, fits, symbol, ends_line, starts_symbol, tail_from, tail_at}
use Rattle.plan.specs.Reading.{body, read_file}
use Rattle.laws.proofs.Reading.Common.{byte-there, in-file}
use Rattle.laws.proofs.Reading.Number.{Says, class-says, span-split}

module _ (file : List ℕ) where
  -- the place of 1 is an offset of the file or its length
  abbrev pub Within : Refusal → Type 0
  Within r = number_of r ≡ 1 → place_of r ≤ length file

  pub data Stays {A : Type 0} : Parse A → Type 0 where
    on : {a : A} {n : ℕ} → n ≤ length file → Stays (got a n)
    off : {r : Refusal} → Within r → Stays (refused r)

  stays_then : {A B : Type 0} (p : Parse A) (f : A → ℕ → Parse B) → Stays p → ((a : A) (n : ℕ) → n ≤ length file → Stays (f a n))
      → Stays (p then f)
  stays_then p f (on {a = a} {n = n} h) k = k a n h
  stays_then p f (off h) k = off h

  stays-unless : {A : Type 0} (o : Option ℕ) (r : ℕ → Refusal) (p : Parse A) → ((x : ℕ) → Within (r x)) → Stays p → Stays (unless o r p)
  stays-unless None r p h k = k
  stays-unless (Some x) r p h k = off (h x)

  stays-cond : {A : Type 0} (t : Bool) (p q : Parse A) → (t ≡ true → Stays p) → (t ≡ false → Stays q) → Stays (cond t p q)
  stays-cond true p q h k = h refl
  stays-cond false p q h k = k refl

  byte-in : (at : ℕ) → 0 < get_or file at 0 → at < length file
  byte-in at h = in-file file at (get_or file at 0) (drop (at + 1) file) (byte-there file at (get_or file at 0) h refl)

  span-in : (t : Class → Bool) (at : ℕ) → at ≤ length file → at + length (span t (drop at file)) ≤ length file
  span-in t at h =
      let w = span t (drop at file) in
      omega (arith, ap length (span-split t (drop at file)), length-append w (drop (length w) (drop at file)), length-drop at file)

  number-stays : (at : ℕ) → at ≤ length file → Stays (number file at)
  number-stays at h = go (class_of (get_or file at 0)) (class-says (get_or file at 0))
    where
      go : (c : Class) → Says (get_or file at 0) c → Stays (number_by c (drop at file) at)
      go Zero s = let i : at + 1 ≤ length file = omega (arith, byte-in at (omega arith)) in on i
      go Digit s = on (span-in digit_class at h)
      go Line s = off (λ _. h)
      go Space s = off (λ _. h)
      go Print s = off (λ _. h)
      go Rest s = off (λ _. h)

  expect-stays : (b at : ℕ) → 0 < b → at ≤ length file → Stays (expect file b at)
  expect-stays b at p h =
      stays-cond (eqb (get_or file at 0) b) (got b (at + 1)) (refused (WrongByte at))
      (λ e. on (omega (arith, byte-in at (omega (arith, eqb-true (get_or file at 0) b e))))) (λ e. off (λ _. h))

  goes-stays : (must may at : ℕ) → at ≤ length file → Stays (goes_on file must may at)
  goes-stays must zero at h = stays_then (expect file 10 at) _ (expect-stays 10 at (omega arith) h) (λ _ n h1. on h1)
  goes-stays (suc must) (suc may) at h = stays_then (expect file 32 at) _ (expect-stays 32 at (omega arith) h) (λ _ n h1. on h1)
  goes-stays zero (suc may) at h =
      stays-cond (eqb (get_or file at 0) 10) (got false (at + 1)) _
      (λ e. on (omega (arith, byte-in at (omega (arith, eqb-true (get_or file at 0) 10 e)))))
      (λ _. stays_then (expect file 32 at) _ (expect-stays 32 at (omega arith) h) (λ _ n h1. on h1))

  numbers-stays : (must may at : ℕ) → at ≤ length file → Stays (numbers file must may at)
  numbers-stays must zero at h = on h
  numbers-stays must (suc may) at h =
      stays_then (number file at) _ (number-stays at h) (λ n e h1.
      stays_then (goes_on file (less must) may e) _ (goes-stays (less must) may e h1) (λ b m h2.
      stays_then (elim b [ true ↦ numbers file (less must) may m | false ↦ got [] m ]) _
      (by_end b m h2 (numbers-stays (less must) may m h2)) (λ ns l h3. on h3)))
    where
      by_end : (b : Bool) (m : ℕ) → m ≤ length file → Stays (numbers file (less must) may m)
          → Stays {A = List Placed} (elim b [ true ↦ numbers file (less must) may m | false ↦ got [] m ])
      by_end true m h k = k
      by_end false m h k = on h

  line_stays : (k : ℕ) (d : Bool) (m : ℕ) (seen : List ℕ) (at : ℕ) → at ≤ length file → Stays (line file k d m seen at)
  line_stays k d m seen at h =
      stays_then (numbers file k k at) _ (numbers-stays k k at h)
      (λ xs n h1. stays-unless (outside d m xs) OutOfRange _ (λ x e. absurd (omega arith))
      (stays-unless (twice d seen xs) DefinedTwice (got (values xs) n) (λ x e. absurd (omega arith)) (on h1)))

  lines-stays : (k : ℕ) (d : Bool) (m n : ℕ) (seen : List ℕ) (at : ℕ) → at ≤ length file → Stays (lines file k d m n seen at)
  lines-stays k d m zero seen at h = on h
  lines-stays k d m (suc n) seen at h =
      stays_then (line file k d m seen at) _ (line_stays k d m seen at h) (λ row e h1.
      stays_then (lines file k d m n (seen ++ (var_of (literal_of row) ∷ [])) e) _ (lines-stays k d m n _ e h1) (λ rows l h2. on h2))

  latches-stays : (k : ℕ) (d : Bool) (m more n v : ℕ) (seen : List ℕ) (at : ℕ) → at ≤ length file
      → Stays (latch_lines file (latch_form k d more) m n v seen at)
  latches-stays k d m more zero v seen at h = on h
  latches-stays k d m more (suc n) v seen at h =
      stays_then (latch_line_at file (latch_form k d more) m v seen at) _
      (stays_then (numbers file k (k + more) at) _ (numbers-stays k (k + more) at h) (λ xs e h1.
      stays-unless (outside d m (take k xs)) OutOfRange _ (λ x e. absurd (omega arith))
      (stays-unless (wrong_reset (own_of d v (values xs)) (drop k xs)) OutOfRange _ (λ x e. absurd (omega arith))
      (stays-unless (twice d seen xs) DefinedTwice (got (values xs) e) (λ x e. absurd (omega arith)) (on h1)))))
      (λ row e h1. stays_then (latch_lines file (latch_form k d more) m n (suc v) (seen ++ (var_of (literal_of row) ∷ [])) e) _
      (latches-stays k d m more n (suc v) _ e h1) (λ rows l h2. on h2))

  letter-stays : (at : ℕ) → at ≤ length file → Stays (letter file at)
  letter-stays at h =
      stays-cond (eqb (get_or file at 0) 97) (got text (at + 1)) _
      (λ e. on (omega (arith, byte-in at (omega (arith, eqb-true (get_or file at 0) 97 e)))))
      (λ _. stays-cond (eqb (get_or file at 0) 105) (got binary (at + 1)) (refused (WrongByte at))
      (λ e. on (omega (arith, byte-in at (omega (arith, eqb-true (get_or file at 0) 105 e))))) (λ _. off (λ _. h)))

  pub header-stays : (v : Version) (at : ℕ) → at ≤ length file → Stays (header v file at)
  header-stays v at h =
      stays_then (expect file 97 at) _ (expect-stays 97 at (omega arith) h) (λ _ a h1.
      stays_then (letter file a) _ (letter-stays a h1) (λ f b h2.
      stays_then (expect file 103 b) _ (expect-stays 103 b (omega arith) h2) (λ _ c h3.
      stays_then (expect file 32 c) _ (expect-stays 32 c (omega arith) h3) (λ _ d h4.
      stays_then (numbers file 5 (5 + more_counts v) d) _ (numbers-stays 5 (5 + more_counts v) d h4) (λ xs e h5.
      stays-unless (over xs) LargeCount _ (λ x e. absurd (omega arith))
      (stays-unless (above0 (drop 7 xs)) Justice _ (λ x e. absurd (omega arith)) (stays-cond (adds f (counts_from (values xs))) (got (record {
        form = f;
        counts = counts_from (values xs);
      }) e) (refused (WrongSum 0)) (λ _. on h5) (λ _. off (λ e. absurd (omega arith))))))))))

  bad : (p : ℕ) → Within (BadDifference p)
  bad p e = absurd (omega arith)

  long : (p : ℕ) → Within (LongDifference p)
  long p e = absurd (omega arith)

  low-stays : (low : ℕ) (d : Result (ℕ × ℕ) Refusal) → Stays (difference_says d) → Stays (difference_says (low_then low d))
  low-stays low (Ok (high, next)) (on h) = on h
  low-stays low (Err r) (off h) = off h

  says-cond : (t : Bool) (p q : Result (ℕ × ℕ) Refusal) → (t ≡ true → Stays (difference_says p)) → (t ≡ false → Stays (difference_says q))
      → Stays (difference_says (cond t p q))
  says-cond true p q h k = h refl
  says-cond false p q h k = k refl

  groups-stays : (first k at : ℕ) → at ≤ length file → Stays (difference_says (groups file first k at))
  groups-stays first zero at h = off (long first)
  groups-stays first (suc k) at h =
      says-cond (leb (length file) at) _ _ (λ _. off (λ _. le_refl (length file))) (λ e.
      says-cond (leb 128 (get_or file at 0)) _ _
      (λ _. low-stays (get_or file at 0 % 128) (groups file first k (at + 1))
      (groups-stays first k (at + 1) (omega (arith, leb-false (length file) at e))))
      (λ _. says-cond (eqb (get_or file at 0) 0 && ltb first at) _ _ (λ _. off (long first))
      (λ _. on (omega (arith, leb-false (length file) at e)))))

  difference-stays : (b : Bool) (from at : ℕ) → at ≤ length file → Stays (difference file b from at)
  difference-stays b from at h =
      stays_then (difference_says (difference_at file at)) _ (groups-stays at 3 at h)
      (λ d n h1. stays-cond ((b && eqb d 0) || ltb from d) (refused (BadDifference at)) (got d n) (λ _. off (bad at)) (λ _. on h1))

  gates-stays : (n v at : ℕ) → at ≤ length file → Stays (gates_from file n v at)
  gates-stays zero v at h = on h
  gates-stays (suc n) v at h =
      stays_then (gate file v at) _
      (stays_then (difference file true (2 * v) at) _ (difference-stays true (2 * v) at h) (λ d a h1.
      stays_then (difference file false (2 * v - d) a) _ (difference-stays false (2 * v - d) a h1) (λ e b h2. on h2)))
      (λ g a h1. stays_then (gates_from file n (suc v) a) _ (gates-stays n (suc v) a h1) (λ gs b h2. on h2))

  body-stays : (v : Version) (f : Form) (n : Counts) (at : ℕ) → at ≤ length file → Stays (body v file f n at)
  body-stays v text n at h =
      stays_then (lines file 1 true n.M n.I [] at) _ (lines-stays 1 true n.M n.I [] at h) (λ r1 a h1.
      stays_then (latch_lines file (latch_form 2 true (more_resets v)) n.M n.L zero (heads r1) a) _ (latches-stays 2 true n.M (more_resets v) n.L zero _ a h1)
      (λ r2 b h2.
      stays_then (lines file 1 false n.M n.O [] b) _ (lines-stays 1 false n.M n.O [] b h2) (λ r3 c h3.
      stays_then (lines file 1 false n.M n.B [] c) _ (lines-stays 1 false n.M n.B [] c h3) (λ r4 d h4.
      stays_then (lines file 1 false n.M n.C [] d) _ (lines-stays 1 false n.M n.C [] d h4) (λ r5 e h5.
      stays_then (lines file 3 true n.M n.A (heads r1 ++ heads r2) e) _ (lines-stays 3 true n.M n.A _ e h5)
      (λ r6 f h6. on h6))))))
  body-stays v binary n at h =
      stays_then (latch_lines file (latch_form 1 false (more_resets v)) n.M n.L (1 + n.I) [] at) _
      (latches-stays 1 false n.M (more_resets v) n.L (1 + n.I) [] at h) (λ r1 a h1.
      stays_then (lines file 1 false n.M n.O [] a) _ (lines-stays 1 false n.M n.O [] a h1) (λ r2 b h2.
      stays_then (lines file 1 false n.M n.B [] b) _ (lines-stays 1 false n.M n.B [] b h2) (λ r3 c h3.
      stays_then (lines file 1 false n.M n.C [] c) _ (lines-stays 1 false n.M n.C [] c h3) (λ r4 d h4.
      stays_then (gates_from file n.A (1 + n.I + n.L) d) _ (gates-stays n.A _ d h4) (λ gs e h5. on h5)))))

  symbol-stays : (n : Counts) (seen : List Symbol) (at : ℕ) → at < length file → Stays (symbol file n seen at)
  symbol-stays n seen at h =
      stays_then (number file (at + 1)) _ (number-stays (at + 1) (omega arith)) (λ e a h1.
      stays_then (expect file 32 a) _ (expect-stays 32 a (omega arith) h1) (λ _ b h2.
      stays_then (expect file 10 (b + length (span name_class (drop b file)))) _ (expect-stays 10 _ (omega arith) (span-in name_class b h2))
      (λ _ c h3.
      stays-cond (fits n seen (record {
        kind = get_or file at 0;
        entry = e;
        name = span name_class (drop b file);
      })) (got _ c) (refused (BadSymbol at)) (λ _. on h3) (λ _. off (λ e. absurd (omega arith))))))

  tail-stays : (v : Version) (n : Counts) (k : ℕ) (seen : List Symbol) (at : ℕ) → at ≤ length file → Stays (tail_from v file n k seen at)
  tail-stays v n zero seen at h = off (λ _. h)
  tail-stays v n (suc k) seen at h =
      stays-cond (leb (length file) at) _ _ (λ _. on h) (λ e.
      stays-cond (starts_symbol v file at) _ _
      (λ i. stays_then (symbol file n seen at) _ (symbol-stays n seen at (leb-false _ _ e)) (λ s a h1.
      stays_then (tail_from v file n k (s ∷ seen) a) _ (tail-stays v n k (s ∷ seen) a h1) (λ ss b h2. on h2)))
      (λ _. stays_then (expect file 99 at) _ (expect-stays 99 at (omega arith) h) (λ _ a h1.
      stays_then (expect file 10 a) _ (expect-stays 10 a (omega arith) h1)
      (λ _ b h2. stays-cond (ends_line file) (got [] (length file)) (refused (WrongByte (length file))) (λ _. on (le_refl (length file)))
      (λ _. off (λ _. le_refl (length file)))))))

  pub read_stays : (v : Version) (lengths : List ℕ) → Stays (read_file v file lengths)
  read_stays v lengths =
      stays_then (header v file 0) _ (header-stays v 0 (omega arith)) (λ h a h1.
      stays-unless (least_short (against 1 (words_to_read h.form h.counts) lengths)) ShortTable _ (λ x e. absurd (omega arith))
      (stays_then (body v file h.form h.counts a) _ (body-stays v h.form h.counts a h1) (λ c b h2.
      stays_then (tail_at v file h.counts b) _ (tail-stays v h.counts (suc (length file)) [] b h2) (λ _ _ h3.
      stays-unless (undefined_in c) NotDefined _ (λ x e. absurd (omega arith))
      (stays-unless (cyclic_in c) Cyclic (got c b) (λ x e. absurd (omega arith)) (on h2))))))

  -- the tail starts in the file or at its end
  pub start-within : (v : Version) (lengths : List ℕ) (c : Circuit) (start : ℕ) → read_file v file lengths ≡ got c start → start ≤ length file
  start-within v lengths c start e = stays_on (subst Stays e (read_stays v lengths))
    where
      stays_on : Stays (got c start) → start ≤ length file
      stays_on (on h) = h

  -- the place of 1 is an offset of the file or its length
  pub place-within : (v : Version) (lengths : List ℕ) (r : Refusal) → read_file v file lengths ≡ refused r → number_of r ≡ 1 → place_of r ≤ length file
  place-within v lengths r e = stays-off (subst Stays e (read_stays v lengths))
    where
      stays-off : Stays {A = Circuit} (refused r) → Within r
      stays-off (off h) = h
