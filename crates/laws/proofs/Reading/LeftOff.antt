-- The shortest form without naming the writers: a file that states a circuit and a tail is in it exactly if nothing that may be left off stands
-- there as a 0 at the end of its line, and exactly if no file of the same form that states the same has fewer bytes. By the report of 2007
-- nothing may be left off, so every file that 2007 states is in it.
use Prim.Native.Nat.{ℕ, suc, zero, ◌+◌, ◌-◌, ◌*◌, ◌≤◌}
use mathlib.Core.Path.{◌≡◌, refl, sym, ap, ap₂, ◌∙◌, subst}
use mathlib.Core.Bool.{Bool, false, false≢true}
use mathlib.Core.Logic.{◌↔◌}
use mathlib.Core.List.{List, [], ◌∷◌, ◌++◌, append-nil, map}
use native.Mathlib.Omega.{arith}
use borrow.Author.Tests.{ne_eqb}
use lib.Dec.{eqb}
use lib.ListN.{length, get_or, drop, replicate, length-append, length-replicate}
use Rattle.plan.specs.declared.Version.{Version}
use Rattle.plan.specs.declared.Version.TheVariants.{V2007, V19}
use Rattle.plan.specs.Circuit.{Circuit, counts_of, one_line, gate_line}
use Rattle.plan.specs.Bytes.{digits, end_of, line_of, lines_of, Spells, AllSpell, unless_zero, without_zeros}
use Rattle.plan.specs.Header.{Form, text, binary, header_of, all_counts, short_counts, form_in}
use Rattle.plan.specs.Text.{text_lines, text_latches, text_of}
use Rattle.plan.specs.Binary.{gate_bytes, binary_lines, binary_latches, binary_of}
use Rattle.plan.specs.Reading.{Spelled, States, as_text, as_binary, Shortest, short_text, short_binary}
use Rattle.laws.proofs.Reading.Shortest.{zeros-short, shortest-spells, shortest-is-least, states-text, states-binary}

-- a line does not end in 0 past its first k numbers
abbrev pub ends_in_zero : List ℕ → Bool
ends_in_zero [] = false
ends_in_zero (x ∷ []) = eqb x 0
ends_in_zero (x ∷ y ∷ l) = ends_in_zero (y ∷ l)

abbrev pub NoTrailingZero : ℕ → List ℕ → Type 0
NoTrailingZero k row = ends_in_zero (drop k row) ≡ false

abbrev pub NoTrailingZeros : ℕ → List (List ℕ) → Type 0
NoTrailingZeros k [] = Unit {0}
NoTrailingZeros k (row ∷ rows) = NoTrailingZero k row × NoTrailingZeros k rows

-- of the lines of a file: the header does not end in a 0 after A, nor the line of a latch in a reset 0
abbrev pub ZerosLeftOff : {v : Version} {file : List ℕ} {c : Circuit} {tail : List ℕ} → States v file c tail → Type 0
ZerosLeftOff (as_text s e w t) = NoTrailingZero 5 s.counts × NoTrailingZeros 2 s.latches
ZerosLeftOff (as_binary s e o w t) = NoTrailingZero 5 s.counts × NoTrailingZeros 1 s.latches

-- a line that ends in no 0 is the shortest that spells its numbers
stays : (x y : ℕ) (l : List ℕ) → unless_zero x (y ∷ l) ≡ x ∷ y ∷ l
stays zero y l = refl
stays (suc x) y l = refl

alone-stays : (x : ℕ) → eqb x 0 ≡ false → unless_zero x [] ≡ x ∷ []
alone-stays zero h = absurd (false≢true (sym h))
alone-stays (suc x) h = refl

trimmed-first : (j : ℕ) (row : List ℕ) → ends_in_zero row ≡ false → without_zeros zero (row ++ replicate j 0) ≡ row
trimmed-first j [] h = zeros-short j
trimmed-first j (x ∷ []) h = ap (unless_zero x) (zeros-short j) ∙ alone-stays x h
trimmed-first j (x ∷ y ∷ l) h = ap (unless_zero x) (trimmed-first j (y ∷ l) h) ∙ stays x y l

trimmed-is : (k j : ℕ) (row : List ℕ) → k ≤ length row → NoTrailingZero k row → without_zeros k (row ++ replicate j 0) ≡ row
trimmed-is zero j row h t = trimmed-first j row t
trimmed-is (suc k) j [] h t = absurd (omega arith)
trimmed-is (suc k) j (x ∷ row) h t = ap (λ (l : List ℕ). x ∷ l) (trimmed-is k j row (omega arith) t)

pub trimmed-shortest : (k n : ℕ) (full row : List ℕ) → Spells k n full row → NoTrailingZero k row → row ≡ without_zeros k full
trimmed-shortest k n full row s t = sym (ap (without_zeros k) (sym s.2) ∙ trimmed-is k (length full - length row) row s.0 t)

pub all-trimmed-shortest : (k n : ℕ) (fulls rows : List (List ℕ)) → AllSpell k n fulls rows → NoTrailingZeros k rows → rows ≡ map (without_zeros k) fulls
all-trimmed-shortest k n [] [] s t = refl
all-trimmed-shortest k n [] (row ∷ rows) s t = absurd s
all-trimmed-shortest k n (full ∷ fulls) [] s t = absurd s
all-trimmed-shortest k n (full ∷ fulls) (row ∷ rows) s t =
    ap₂ (λ (x : List ℕ) (y : List (List ℕ)). x ∷ y) (trimmed-shortest k n full row s.0 t.0) (all-trimmed-shortest k n fulls rows s.1 t.1)

-- and the shortest ends in no 0
unless-trimmed : (n : ℕ) (l : List ℕ) → ends_in_zero l ≡ false → ends_in_zero (unless_zero n l) ≡ false
unless-trimmed zero [] h = refl
unless-trimmed zero (x ∷ l) h = h
unless-trimmed (suc n) [] h = ne_eqb (suc n) 0 (λ e. omega (arith, e))
unless-trimmed (suc n) (x ∷ l) h = h

pub shortest-trimmed : (k : ℕ) (full : List ℕ) → NoTrailingZero k (without_zeros k full)
shortest-trimmed zero [] = refl
shortest-trimmed zero (n ∷ l) = unless-trimmed n (without_zeros zero l) (shortest-trimmed zero l)
shortest-trimmed (suc k) [] = refl
shortest-trimmed (suc k) (n ∷ l) = shortest-trimmed k l

all-shortest-trimmed : (k : ℕ) (fulls : List (List ℕ)) → NoTrailingZeros k (map (without_zeros k) fulls)
all-shortest-trimmed k [] = tt
all-shortest-trimmed k (full ∷ fulls) = (shortest-trimmed k full, all-shortest-trimmed k fulls)

-- a line of k numbers ends in none past them
pub exact-trimmed : (k : ℕ) (row : List ℕ) → length row ≤ k → NoTrailingZero k row
exact-trimmed zero [] h = refl
exact-trimmed zero (x ∷ row) h = absurd (omega arith)
exact-trimmed (suc k) [] h = refl
exact-trimmed (suc k) (x ∷ row) h = exact-trimmed k row (omega arith)

all-exact-trimmed : (k : ℕ) (fulls rows : List (List ℕ)) → AllSpell k (k + 0) fulls rows → NoTrailingZeros k rows
all-exact-trimmed k [] [] s = tt
all-exact-trimmed k [] (row ∷ rows) s = absurd s
all-exact-trimmed k (full ∷ fulls) [] s = absurd s
all-exact-trimmed k (full ∷ fulls) (row ∷ rows) s = (exact-trimmed k row (omega (arith, s.0.1)), all-exact-trimmed k fulls rows s.1)

-- a file of trimmed lines is in the shortest form
pub trimmed-short : (file : List ℕ) (c : Circuit) (tail : List ℕ) (s : States V19 file c tail) → ZerosLeftOff s → Shortest file c tail
trimmed-short file c tail (as_text s e w t) h =
    short_text (e ∙ ap₂ (λ (x : List ℕ) (y : List (List ℕ)). (header_of text x ++ text_lines y c) ++ tail)
    (trimmed-shortest 5 9 (all_counts (counts_of c)) s.counts s.all-counts h.0)
    (all-trimmed-shortest 2 3 (text_latches c) s.latches s.all-latches h.1))
trimmed-short file c tail (as_binary s e o w t) h =
    short_binary (e ∙ ap₂ (λ (x : List ℕ) (y : List (List ℕ)). (header_of binary x ++ binary_lines y c) ++ tail)
    (trimmed-shortest 5 9 (all_counts (counts_of c)) s.counts s.all-counts h.0)
    (all-trimmed-shortest 1 2 (binary_latches c) s.latches s.all-latches h.1))

-- by the report of 2007 nothing may be left off
pub stated-2007-shortest : (file : List ℕ) (c : Circuit) (tail : List ℕ) → States V2007 file c tail → Shortest file c tail
stated-2007-shortest file c tail (as_text s e w t) =
    short_text (e ∙ ap₂ (λ (x : List ℕ) (y : List (List ℕ)). (header_of text x ++ text_lines y c) ++ tail)
    (trimmed-shortest 5 5 (all_counts (counts_of c)) s.counts s.all-counts (exact-trimmed 5 s.counts s.all-counts.1))
    (all-trimmed-shortest 2 2 (text_latches c) s.latches s.all-latches (all-exact-trimmed 2 (text_latches c) s.latches s.all-latches)))
stated-2007-shortest file c tail (as_binary s e o w t) =
    short_binary (e ∙ ap₂ (λ (x : List ℕ) (y : List (List ℕ)). (header_of binary x ++ binary_lines y c) ++ tail)
    (trimmed-shortest 5 5 (all_counts (counts_of c)) s.counts s.all-counts (exact-trimmed 5 s.counts s.all-counts.1))
    (all-trimmed-shortest 1 1 (binary_latches c) s.latches s.all-latches (all-exact-trimmed 1 (binary_latches c) s.latches s.all-latches)))

-- the bytes of a line: those of its parts, and two for each 0 that stands at its end
line-bytes : (l m : List ℕ) → length (line_of (l ++ m)) ≡ length (line_of l) + length (line_of m)
line-bytes [] m = omega arith
line-bytes (n ∷ l) m =
    omega (arith, length-append (digits n) (end_of (length (l ++ m)) ∷ line_of (l ++ m)), length-append (digits n) (end_of (length l) ∷ line_of l), line-bytes l m)

zeros-bytes : (j : ℕ) → length (line_of (replicate j 0)) ≡ 2 * j
zeros-bytes zero = refl
zeros-bytes (suc j) = omega (arith, zeros-bytes j)

all-zeros : (a : ℕ) (m t : List ℕ) → replicate a 0 ≡ m ++ t → m ≡ replicate (length m) 0
all-zeros a [] t e = refl
all-zeros zero (x ∷ m) t e = let z : 0 ≡ suc (length (m ++ t)) = ap length e in absurd (omega arith)
all-zeros (suc a) (x ∷ m) t e =
    ap₂ (λ (y : ℕ) (l : List ℕ). y ∷ l) (sym (ap (λ (l : List ℕ). get_or l 0 0) e)) (all-zeros a m t (ap (drop 1) e))

-- of two lines that spell the same the longer is the shorter with zeros
pub with-zeros : (l m : List ℕ) (a b : ℕ) → l ++ replicate a 0 ≡ m ++ replicate b 0 → length l ≤ length m → m ≡ l ++ replicate (length m - length l) 0
with-zeros [] m a b e h = all-zeros a m (replicate b 0) e ∙ ap (λ (k : ℕ). replicate k 0) (let q : length m ≡ length m - 0 = omega arith in q)
with-zeros (x ∷ l) [] a b e h = absurd (omega arith)
with-zeros (x ∷ l) (y ∷ m) a b e h =
    let q : length m - length l ≡ suc (length m) - suc (length l) = omega arith in
    ap₂ (λ (z : ℕ) (t : List ℕ). z ∷ t) (sym (ap (λ (t : List ℕ). get_or t 0 0) e)) (with-zeros l m a b (ap (drop 1) e) (omega arith)
    ∙ ap (λ (k : ℕ). l ++ replicate k 0) q)

-- a line that spells the numbers has as many bytes as the shortest only if it is the shortest
pub line-least : (k n : ℕ) (full row : List ℕ) → Spells k n full row
    → (length (line_of (without_zeros k full)) ≤ length (line_of row)) × (length (line_of row) ≤ length (line_of (without_zeros k full)) → row ≡ without_zeros k full)
line-least k n full row s =
    let sizes : length row + (length full - length row) ≡ length full
    = omega (arith, ap length s.2, length-append row (replicate (length full - length row) 0), length-replicate {A = ℕ} (length full - length row) 0) in
    let short = without_zeros k full in
    let f = shortest-spells k (length full) full (omega (arith, s.0)) refl in
    let least = shortest-is-least k n full row s in
    let more : row ≡ short ++ replicate (length row - length short) 0
    = with-zeros short row (length full - length short) (length full - length row) (f.2 ∙ sym s.2) least in
    let bytes : length (line_of row) ≡ length (line_of short) + 2 * (length row - length short)
    = ap (λ (l : List ℕ). length (line_of l)) more ∙ (line-bytes short (replicate (length row - length short) 0)
    ∙ ap (λ (j : ℕ). length (line_of short) + j) (zeros-bytes (length row - length short))) in
    (omega arith, λ h. more ∙ none_more short (length row - length short) (omega arith))
  where
    none_more : (l : List ℕ) (j : ℕ) → j ≡ 0 → l ++ replicate j 0 ≡ l
    none_more l j e = ap (λ (i : ℕ). l ++ replicate i 0) e ∙ append-nil l

pub lines-least : (k n : ℕ) (fulls rows : List (List ℕ)) → AllSpell k n fulls rows
    → (length (lines_of (map (without_zeros k) fulls)) ≤ length (lines_of rows))
    × (length (lines_of rows) ≤ length (lines_of (map (without_zeros k) fulls)) → rows ≡ map (without_zeros k) fulls)
lines-least k n [] [] s = (omega arith, λ h. refl)
lines-least k n [] (row ∷ rows) s = absurd s
lines-least k n (full ∷ fulls) [] s = absurd s
lines-least k n (full ∷ fulls) (row ∷ rows) s =
    let one = line-least k n full row s.0 in
    let more = lines-least k n fulls rows s.1 in
    let here = length-append (line_of row) (lines_of rows) in
    let there = length-append (line_of (without_zeros k full)) (lines_of (map (without_zeros k) fulls)) in (
      omega (arith, one.0, more.0, here, there),
      λ h. ap₂ (λ (x : List ℕ) (y : List (List ℕ)). x ∷ y)
          (one.1 (omega (arith, more.0, here, there, h))) (more.1 (omega (arith, one.0, here, there, h))),
    )

-- a file: a header, lines, the lines of latches, more lines and a tail
module _ (f : Form) (p q tail : List ℕ) where
  abbrev file_with : List ℕ → List (List ℕ) → List ℕ
  file_with row lats = (header_of f row ++ (p ++ (lines_of lats ++ q))) ++ tail

  file-bytes : (row : List ℕ) (lats : List (List ℕ))
      → length (file_with row lats) ≡ 4 + length (line_of row) + (length p + (length (lines_of lats) + length q)) + length tail
  file-bytes row lats =
      omega (
        arith,
        length-append (header_of f row ++ (p ++ (lines_of lats ++ q))) tail,
        length-append (header_of f row) (p ++ (lines_of lats ++ q)),
        length-append p (lines_of lats ++ q),
        length-append (lines_of lats) q,
      )

  file-least : (k n : ℕ) (c : Circuit) (full lats : List (List ℕ)) (row : List ℕ) → Spells 5 9 (all_counts (counts_of c)) row → AllSpell k n full lats
      → (length (file_with (short_counts (counts_of c)) (map (without_zeros k) full)) ≤ length (file_with row lats))
      × (length (file_with row lats) ≤ length (file_with (short_counts (counts_of c)) (map (without_zeros k) full))
      → (row ≡ short_counts (counts_of c)) × (lats ≡ map (without_zeros k) full))
  file-least k n c full lats row s t =
      let one = line-least 5 9 (all_counts (counts_of c)) row s in
      let more = lines-least k n full lats t in
      let here = file-bytes row lats in
      let there = file-bytes (short_counts (counts_of c)) (map (without_zeros k) full) in (
        omega (arith, one.0, more.0, here, there),
        λ h. (one.1 (omega (arith, more.0, here, there, h)), more.1 (omega (arith, one.0, here, there, h))),
      )

-- the rows of a file that is in the shortest form are the shortest
module _ (file : List ℕ) (c : Circuit) (tail : List ℕ) where
  as-text : (s : Spelled V19 c 2 (text_latches c)) → file ≡ (header_of text s.counts ++ text_lines s.latches c) ++ tail
      → (length (text_of c ++ tail) ≤ length file)
      × (length file ≤ length (text_of c ++ tail) → (s.counts ≡ short_counts (counts_of c)) × (s.latches ≡ map (without_zeros 2) (text_latches c)))
  as-text s e =
      let p = lines_of (map one_line c.inputs) in
      let last = lines_of (map one_line c.constraints) ++ lines_of (map gate_line c.gates) in
      let q = lines_of (map one_line c.outputs) ++ (lines_of (map one_line c.bads) ++ last) in
      let r = file-least text p q tail 2 3 c (text_latches c) s.latches s.counts s.all-counts s.all-latches in (
        subst (λ (x : List ℕ). length (text_of c ++ tail) ≤ length x) (sym e) r.0,
        λ h. r.1 (subst (λ (x : List ℕ). length x ≤ length (text_of c ++ tail)) e h),
      )

  as-binary : (s : Spelled V19 c 1 (binary_latches c)) → file ≡ (header_of binary s.counts ++ binary_lines s.latches c) ++ tail
      → (length (binary_of c ++ tail) ≤ length file)
      × (length file ≤ length (binary_of c ++ tail) → (s.counts ≡ short_counts (counts_of c)) × (s.latches ≡ map (without_zeros 1) (binary_latches c)))
  as-binary s e =
      let q = lines_of (map one_line c.outputs) ++ (lines_of (map one_line c.bads) ++ (lines_of (map one_line c.constraints) ++ gate_bytes c.gates)) in
      let r = file-least binary [] q tail 1 2 c (binary_latches c) s.latches s.counts s.all-counts s.all-latches in (
        subst (λ (x : List ℕ). length (binary_of c ++ tail) ≤ length x) (sym e) r.0,
        λ h. r.1 (subst (λ (x : List ℕ). length x ≤ length (binary_of c ++ tail)) e h),
      )

  trimmed-by : (k : ℕ) (full lats : List (List ℕ)) (row : List ℕ) → (row ≡ short_counts (counts_of c)) × (lats ≡ map (without_zeros k) full)
      → NoTrailingZero 5 row × NoTrailingZeros k lats
  trimmed-by k full lats row h = (
    subst (NoTrailingZero 5) (sym h.0) (shortest-trimmed 5 (all_counts (counts_of c))),
    subst (NoTrailingZeros k) (sym h.1) (all-shortest-trimmed k full),
  )

  short-trimmed : (s : States V19 file c tail) → Shortest file c tail → ZerosLeftOff s
  short-trimmed (as_text s e w t) (short_text f) =
      trimmed-by 2 (text_latches c) s.latches s.counts ((as-text s e).1 (subst (λ (x : List ℕ). length file ≤ length x) f (omega arith)))
  short-trimmed (as_text s e w t) (short_binary f) =
      let z : ◌≡◌ {A = ℕ} 97 105 = ap (λ (l : List ℕ). get_or l 1 0) (sym e ∙ f) in absurd (omega arith)
  short-trimmed (as_binary s e o w t) (short_text f) =
      let z : ◌≡◌ {A = ℕ} 105 97 = ap (λ (l : List ℕ). get_or l 1 0) (sym e ∙ f) in absurd (omega arith)
  short-trimmed (as_binary s e o w t) (short_binary f) =
      trimmed-by 1 (binary_latches c) s.latches s.counts ((as-binary s e).1 (subst (λ (x : List ℕ). length file ≤ length x) f (omega arith)))

  -- a file that states a circuit and a tail is in the shortest form exactly if none of its lines ends in a 0 that may be left off
  pub shortest-exactly-left-off : (s : States V19 file c tail) → Shortest file c tail ↔ ZerosLeftOff s
  shortest-exactly-left-off s = (short-trimmed s, trimmed-short file c tail s)

-- and exactly if no file of its form that states the same has fewer bytes
abbrev pub FewestBytes : List ℕ → Circuit → List ℕ → Type 0
FewestBytes file c tail = (other : List ℕ) → States V19 other c tail → form_in other ≡ form_in file → length file ≤ length other

module _ (file : List ℕ) (c : Circuit) (tail : List ℕ) where
  forms-differ : (f g : Form) → f ≡ text → g ≡ binary → f ≡ g → ⊥
  forms-differ f g e h k = let z : ◌≡◌ {A = ℕ} 0 1 = cc in omega arith

  short-fewest : Shortest file c tail → FewestBytes file c tail
  short-fewest (short_text f) other (as_text s e w t) g = subst (λ (x : List ℕ). length x ≤ length other) (sym f) (as-text other c tail s e).0
  short-fewest (short_text f) other (as_binary s e o w t) g = absurd (forms-differ (form_in file) (form_in other) (ap form_in f) (ap form_in e) (sym g))
  short-fewest (short_binary f) other (as_text s e w t) g = absurd (forms-differ (form_in other) (form_in file) (ap form_in e) (ap form_in f) g)
  short-fewest (short_binary f) other (as_binary s e o w t) g = subst (λ (x : List ℕ). length x ≤ length other) (sym f) (as-binary other c tail s e).0

  fewest-short : States V19 file c tail → FewestBytes file c tail → Shortest file c tail
  fewest-short (as_text s e w t) h =
      let r = (as-text file c tail s e).1 (h (text_of c ++ tail) (states-text (text_of c ++ tail) c tail w t refl) (sym (ap form_in e))) in
      short_text (e ∙ ap₂ (λ (x : List ℕ) (y : List (List ℕ)). (header_of text x ++ text_lines y c) ++ tail) r.0 r.1)
  fewest-short (as_binary s e o w t) h =
      let r = (as-binary file c tail s e).1 (h (binary_of c ++ tail) (states-binary (binary_of c ++ tail) c tail w t refl o) (sym (ap form_in e))) in
      short_binary (e ∙ ap₂ (λ (x : List ℕ) (y : List (List ℕ)). (header_of binary x ++ binary_lines y c) ++ tail) r.0 r.1)

  pub shortest-exactly-fewest : States V19 file c tail → Shortest file c tail ↔ FewestBytes file c tail
  shortest-exactly-fewest s = (short-fewest, fewest-short s)
