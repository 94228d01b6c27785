-- A binary file that passes the checks of its lines and differences meets none of 6, 7 and 8: its variables run on, each up to M is defined, and
-- right sides lie below their gate (AIGER report, section 7: "the binary format does not require such an explicit check").
use Prim.Native.Nat.{ℕ, zero, suc, ◌+◌, ◌-◌, ◌%◌}
use mathlib.Core.Path.{◌≡◌, refl, sym, ap, ◌∙◌, subst}
use mathlib.Core.Bool.{Bool, true, false, cond, ◌&&◌, ◌||◌}
use mathlib.Core.List.{List, [], ◌∷◌, ◌++◌}
use Rattle.std.specs.Prelude.{Result, Ok, Err, Option, Some, None}
use native.Mathlib.Omega.{arith}
use borrow.Author.Tests.{eqb-true}
use lib.Dec.{eqb, leb, ltb}
use lib.ListN.{length, get_or, take, drop}
use Rattle.plan.specs.declared.Class.{Class}
use Rattle.plan.specs.declared.Class.TheVariants.{Line, Space, Zero, Digit, Print, Rest}
use Rattle.plan.specs.declared.Counts.{Counts}
use Rattle.plan.specs.declared.Version.{Version}
use Rattle.plan.specs.declared.Refusal.{Refusal}
use Rattle.plan.specs.declared.Refusal.TheVariants.{WrongByte, ShortTable, OutOfRange, NotDefined, Cyclic, BadDifference, BadSymbol, LongDifference}
use Rattle.plan.specs.Literals.{var_of, lit_of}
use Rattle.plan.specs.Refusals.{number_of, Parse, got, refused, ◌then◌, unless}
use Rattle.plan.specs.Circuit.{Circuit, literal_of, defined_in, used_in, all_new, against, least_short}
use Rattle.plan.specs.Bytes.{class_of, name_class, span, number_by, number, expect, goes_on, less, Placed, numbers, values, outside, wrong_reset, own_of}
use Rattle.plan.specs.Bytes.{line, lines, latch_line_at, latch_lines, latch_form}
use Rattle.plan.specs.Depends.{undefined_in, cyclic_in}
use Rattle.plan.specs.Header.{more_resets, Form, binary, Head, header, adds, words_to_read}
use Rattle.plan.specs.Difference.{difference_at, difference_says, difference, low_then, groups}
use Rattle.plan.specs.Binary.{gate, gates_from, binary_body}
use Rattle.plan.specs.Tail.{Symbol, fits, symbol, ends_line, starts_symbol, tail_from, tail_at}
use Rattle.plan.specs.Reading.{body, read_file}
use Rattle.laws.proofs.Reading.Headers.{header-took}
use Rattle.laws.proofs.Reading.Differences.{Bytes}
use Rattle.laws.proofs.Reading.Binaries.{binary-took}
use Rattle.laws.proofs.Reading.Undefined.{defined-none}
use Rattle.laws.proofs.Reading.Cycles.{cycle-none}
use Rattle.laws.proofs.Running.InOrder.{nexts-bounded, outputs-bounded, defined-ordered, acyclic-ordered}

-- what a binary body reads: no variable is defined twice, 7 and 8 find nothing
pub no-six-seven-eight : (file : List ℕ) → Bytes file → (v : Version) (n : Counts) (at : ℕ) (c : Circuit) (e : ℕ) → n.I + n.L + n.A ≡ n.M
    → binary_body v file n at ≡ got c e → (all_new [] (defined_in c) ≡ true) × (undefined_in c ≡ None) × (cyclic_in c ≡ None)
no-six-seven-eight file bytes v n at c e sum q =
    let t = binary-took file bytes v n at c e sum q in
    let next-in = nexts-bounded c.M (suc c.M) c.latches (omega arith) t.0.latches in
    let output-in = outputs-bounded c.M (suc c.M) c.outputs (omega arith) t.0.outputs in
    let bad-in = outputs-bounded c.M (suc c.M) c.bads (omega arith) t.0.bads in
    let constraint-in = outputs-bounded c.M (suc c.M) c.constraints (omega arith) t.0.constraints in (
      t.0.different,
      defined-none (zero ∷ defined_in c) (used_in c) (defined-ordered c t.1 next-in output-in bad-in constraint-in),
      cycle-none c.gates c.gates (acyclic-ordered c t.1),
    )

-- a refusal that is none of the three; what is read, or refused by none of the three
pub record Apart (r : Refusal) : Type 0 where
  pub six : number_of r ≡ 6 → ⊥
  pub seven : number_of r ≡ 7 → ⊥
  pub eight : number_of r ≡ 8 → ⊥

abbrev Spared : {A : Type 0} → Parse A → Type 0
Spared (got a next) = Unit {0}
Spared (refused r) = Apart r

abbrev other : (r : Refusal) (k : ℕ) → number_of r ≡ k → (k ≡ 6 → ⊥) → (k ≡ 7 → ⊥) → (k ≡ 8 → ⊥) → Apart r
other r k e a b c = record { six = λ x. a (sym e ∙ x); seven = λ x. b (sym e ∙ x); eight = λ x. c (sym e ∙ x) }

by-1 : (p : ℕ) → Apart (WrongByte p)
by-1 p = other (WrongByte p) 1 refl (λ e. omega arith) (λ e. omega arith) (λ e. omega arith)

by_4 : (p : ℕ) → Apart (ShortTable p)
by_4 p = other (ShortTable p) 4 refl (λ e. omega arith) (λ e. omega arith) (λ e. omega arith)

by-5 : (p : ℕ) → Apart (OutOfRange p)
by-5 p = other (OutOfRange p) 5 refl (λ e. omega arith) (λ e. omega arith) (λ e. omega arith)

by-9 : (p : ℕ) → Apart (BadDifference p)
by-9 p = other (BadDifference p) 9 refl (λ e. omega arith) (λ e. omega arith) (λ e. omega arith)

by-10 : (p : ℕ) → Apart (BadSymbol p)
by-10 p = other (BadSymbol p) 10 refl (λ e. omega arith) (λ e. omega arith) (λ e. omega arith)

by-16 : (p : ℕ) → Apart (LongDifference p)
by-16 p = other (LongDifference p) 16 refl (λ e. omega arith) (λ e. omega arith) (λ e. omega arith)

spared-then : {A B : Type 0} (p : Parse A) (f : A → ℕ → Parse B) → Spared p → ((a : A) (n : ℕ) → Spared (f a n)) → Spared (p then f)
spared-then (got a n) f h k = k a n
spared-then (refused r) f h k = h

spared-unless : {A : Type 0} (o : Option ℕ) (r : ℕ → Refusal) (p : Parse A) → ((x : ℕ) → Apart (r x)) → Spared p → Spared (unless o r p)
spared-unless None r p h k = k
spared-unless (Some x) r p h k = h x

spared-cond : {A : Type 0} (t : Bool) (p q : Parse A) → Spared p → Spared q → Spared (cond t p q)
spared-cond true p q h k = h
spared-cond false p q h k = k

module _ (file : List ℕ) where
  number-spared : (at : ℕ) → Spared (number file at)
  number-spared at = go (class_of (get_or file at 0))
    where
      go : (c : Class) → Spared (number_by c (drop at file) at)
      go Zero = tt
      go Digit = tt
      go Line = by-1 at
      go Space = by-1 at
      go Print = by-1 at
      go Rest = by-1 at

  expect-spared : (b at : ℕ) → Spared (expect file b at)
  expect-spared b at = spared-cond (eqb (get_or file at 0) b) (got b (at + 1)) (refused (WrongByte at)) tt (by-1 at)

  goes-spared : (must may at : ℕ) → Spared (goes_on file must may at)
  goes-spared must zero at = spared-then (expect file 10 at) _ (expect-spared 10 at) (λ _ n. tt)
  goes-spared (suc must) (suc may) at = spared-then (expect file 32 at) _ (expect-spared 32 at) (λ _ n. tt)
  goes-spared zero (suc may) at =
      spared-cond (eqb (get_or file at 0) 10) (got false (at + 1)) _ tt (spared-then (expect file 32 at) _ (expect-spared 32 at) (λ _ n. tt))

  numbers-spared : (must may at : ℕ) → Spared (numbers file must may at)
  numbers-spared must zero at = tt
  numbers-spared must (suc may) at =
      spared-then (number file at) _ (number-spared at) (λ n e.
      spared-then (goes_on file (less must) may e) _ (goes-spared (less must) may e) (λ b m.
      spared-then {A = List Placed} (elim b [ true ↦ numbers file (less must) may m | false ↦ got [] m ]) _
      (by_end b m (numbers-spared (less must) may m)) (λ ns l. tt)))
    where
      by_end : (b : Bool) (m : ℕ) → Spared (numbers file (less must) may m)
          → Spared {A = List Placed} (elim b [ true ↦ numbers file (less must) may m | false ↦ got [] m ])
      by_end true m k = k
      by_end false m k = tt

  -- lines that define nothing
  lines-spared : (k m n : ℕ) (seen : List ℕ) (at : ℕ) → Spared (lines file k false m n seen at)
  lines-spared k m zero seen at = tt
  lines-spared k m (suc n) seen at =
      spared-then (line file k false m seen at) _
      (spared-then (numbers file k k at) _ (numbers-spared k k at)
      (λ xs e. spared-unless (outside false m xs) OutOfRange (got (values xs) e) by-5 tt))
      (λ row e. spared-then (lines file k false m n (seen ++ (var_of (literal_of row) ∷ [])) e) _ (lines-spared k m n _ e) (λ rows l. tt))

  latches-spared : (k m more n v : ℕ) (seen : List ℕ) (at : ℕ) → Spared (latch_lines file (latch_form k false more) m n v seen at)
  latches-spared k m more zero v seen at = tt
  latches-spared k m more (suc n) v seen at =
      spared-then (latch_line_at file (latch_form k false more) m v seen at) _
      (spared-then (numbers file k (k + more) at) _ (numbers-spared k (k + more) at) (λ xs e.
      spared-unless (outside false m (take k xs)) OutOfRange _ by-5
      (spared-unless (wrong_reset (own_of false v (values xs)) (drop k xs)) OutOfRange (got (values xs) e) by-5 tt)))
      (λ row e. spared-then (latch_lines file (latch_form k false more) m n (suc v) (seen ++ (var_of (literal_of row) ∷ [])) e) _
      (latches-spared k m more n (suc v) _ e) (λ rows l. tt))

  says-cond : (t : Bool) (p q : Result (ℕ × ℕ) Refusal) → Spared (difference_says p) → Spared (difference_says q) → Spared (difference_says (cond t p q))
  says-cond true p q h k = h
  says-cond false p q h k = k

  low-spared : (low : ℕ) (d : Result (ℕ × ℕ) Refusal) → Spared (difference_says d) → Spared (difference_says (low_then low d))
  low-spared low (Ok (high, next)) h = tt
  low-spared low (Err r) h = h

  groups-spared : (first k at : ℕ) → Spared (difference_says (groups file first k at))
  groups-spared first zero at = by-16 first
  groups-spared first (suc k) at =
      says-cond (leb (length file) at) _ _ (by-1 (length file))
      (says-cond (leb 128 (get_or file at 0)) _ _ (low-spared (get_or file at 0 % 128) (groups file first k (at + 1)) (groups-spared first k (at + 1)))
      (says-cond (eqb (get_or file at 0) 0 && ltb first at) _ _ (by-16 first) tt))

  difference-spared : (b : Bool) (from at : ℕ) → Spared (difference file b from at)
  difference-spared b from at =
      spared-then (difference_says (difference_at file at)) _ (groups-spared at 3 at)
      (λ d n. spared-cond ((b && eqb d 0) || ltb from d) (refused (BadDifference at)) (got d n) (by-9 at) tt)

  gates-spared : (n v at : ℕ) → Spared (gates_from file n v at)
  gates-spared zero v at = tt
  gates-spared (suc n) v at =
      spared-then (gate file v at) _
      (spared-then (difference file true (lit_of v) at) _ (difference-spared true (lit_of v) at) (λ d a.
      spared-then (difference file false (lit_of v - d) a) _ (difference-spared false (lit_of v - d) a) (λ e b. tt)))
      (λ g a. spared-then (gates_from file n (suc v) a) _ (gates-spared n (suc v) a) (λ gs b. tt))

  symbol-spared : (n : Counts) (seen : List Symbol) (at : ℕ) → Spared (symbol file n seen at)
  symbol-spared n seen at =
      spared-then (number file (at + 1)) _ (number-spared (at + 1)) (λ e a.
      spared-then (expect file 32 a) _ (expect-spared 32 a) (λ _ b.
      spared-then (expect file 10 (b + length (span name_class (drop b file)))) _ (expect-spared 10 _) (λ _ c.
      spared-cond (fits n seen (record {
        kind = get_or file at 0;
        entry = e;
        name = span name_class (drop b file);
      })) (got _ c) (refused (BadSymbol at)) tt (by-10 at))))

  tail-spared : (v : Version) (n : Counts) (k : ℕ) (seen : List Symbol) (at : ℕ) → Spared (tail_from v file n k seen at)
  tail-spared v n zero seen at = by-1 at
  tail-spared v n (suc k) seen at =
      spared-cond (leb (length file) at) _ _ tt
      (spared-cond (starts_symbol v file at) _ _
      (spared-then (symbol file n seen at) _ (symbol-spared n seen at) (λ s a.
      spared-then (tail_from v file n k (s ∷ seen) a) _ (tail-spared v n k (s ∷ seen) a) (λ ss b. tt)))
      (spared-then (expect file 99 at) _ (expect-spared 99 at) (λ _ a.
      spared-then (expect file 10 a) _ (expect-spared 10 a)
      (λ _ b. spared-cond (ends_line file) (got [] (length file)) (refused (WrongByte (length file))) tt (by-1 (length file))))))

  -- the lines and the differences of a binary body are refused by none of the three
  pub body-spared : (v : Version) (n : Counts) (at : ℕ) → Spared (binary_body v file n at)
  body-spared v n at =
      spared-then (latch_lines file (latch_form 1 false (more_resets v)) n.M n.L (1 + n.I) [] at) _
      (latches-spared 1 n.M (more_resets v) n.L (1 + n.I) [] at) (λ r1 a.
      spared-then (lines file 1 false n.M n.O [] a) _ (lines-spared 1 n.M n.O [] a) (λ r2 b.
      spared-then (lines file 1 false n.M n.B [] b) _ (lines-spared 1 n.M n.B [] b) (λ r3 c.
      spared-then (lines file 1 false n.M n.C [] c) _ (lines-spared 1 n.M n.C [] c) (λ r4 d.
      spared-then (gates_from file n.A (1 + n.I + n.L) d) _ (gates-spared n.A _ d) (λ gs e. tt)))))

-- no binary file whose header is accepted is refused by 6, 7 or 8
module _ (v : Version) (file lengths : List ℕ) (bytes : Bytes file) where
  rest-spared : (n : Counts) (at : ℕ) → n.I + n.L + n.A ≡ n.M
      → Spared (binary_body v file n at then λ c at. tail_at v file n at then λ _ _.
      unless (undefined_in c) NotDefined (unless (cyclic_in c) Cyclic (got c at)))
  rest-spared n at sum = go (binary_body v file n at) refl (body-spared file v n at)
    where
      closed : (c : Circuit) (e : ℕ) → (undefined_in c ≡ None) × (cyclic_in c ≡ None)
          → Spared (unless (undefined_in c) NotDefined (unless (cyclic_in c) Cyclic (got c e)))
      closed c e k = rw (k.0, k.1) tt

      go : (p : Parse Circuit) → binary_body v file n at ≡ p → Spared p
          → Spared (p then λ c at. tail_at v file n at then λ _ _. unless (undefined_in c) NotDefined (unless (cyclic_in c) Cyclic (got c at)))
      go (refused r) q h = h
      go (got c e) q h =
          let k = no-six-seven-eight file bytes v n at c e sum q in
          spared-then (tail_at v file n e) _ (tail-spared file v n (suc (length file)) [] e) (λ _ _. closed c e (k.1, k.2))

  pub binary-apart : (h : Head) (at : ℕ) → header v file 0 ≡ got h at → h.form ≡ binary → (r : Refusal) → read_file v file lengths ≡ refused r
      → Apart r
  binary-apart h at head form r q = subst Spared (sym whole ∙ q) spared
    where
      n : Counts
      n = h.counts

      after : Form → Parse Circuit
      after f =
          unless (least_short (against 1 (words_to_read f n) lengths)) ShortTable
          (body v file f n at then λ c at. tail_at v file n at then λ _ _. unless (undefined_in c) NotDefined (unless (cyclic_in c) Cyclic (got c at)))

      whole : read_file v file lengths ≡ after binary
      whole = rw head (ap after form)

      spared : Spared (after binary)
      spared =
          let sum : n.I + n.L + n.A ≡ n.M
          = eqb-true _ _ (ap (λ (f : Form). adds f n) (sym form) ∙ (header-took file v 0 h at head).4) in
          spared-unless (least_short (against 1 (words_to_read binary n) lengths)) ShortTable _ by_4 (rest-spared n at sum)
