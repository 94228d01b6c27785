-- There and back with room: with tables and buffers that are long enough none of the calls in a row refuses, and the last one leaves the first
-- one's file in its buffer, all else as it was.
use Prim.Native.Nat.{ℕ, zero, suc, ◌+◌, ◌-◌, ◌≤◌}
use mathlib.Core.Path.{◌≡◌, refl, sym, ap, ap₂, ◌∙◌, subst, subst₂}
use mathlib.Core.Bool.{true}
use mathlib.Core.List.{List, [], ◌∷◌, ◌++◌, map}
use Rattle.std.specs.Prelude.{Ok, Option, None}
use native.Mathlib.Omega.{arith}
use lib.ListN.{length, get_or, take, drop, replicate, length-append}
use Rattle.plan.specs.declared.Version.{Version}
use Rattle.plan.specs.declared.Version.TheVariants.{V2007, V19}
use Rattle.plan.specs.declared.Counts.{Counts}
use Rattle.plan.specs.declared.Refusal.{Refusal}
use Rattle.plan.specs.Refusals.{got, first_of}
use Rattle.plan.specs.Circuit.{Circuit, Latch, Tables, counts_of, circuit_of, lengths_of, scratch_to_work, words_to_work, against, least_short, one_line, latch_line, nexts}
use Rattle.plan.specs.Bytes.{with_resets, Spells, AllSpell, without_zeros}
use Rattle.plan.specs.Header.{text, binary, form_in, all_counts, short_counts}
use Rattle.plan.specs.Text.{text_latches, text_of}
use Rattle.plan.specs.Binary.{binary_latches, binary_of, binary_order}
use Rattle.plan.specs.Tail.{TailOk}
use Rattle.plan.specs.Reading.{WellFormed, Spelled, States, as_text, as_binary, LongEnoughToRead}
use Rattle.plan.specs.Given.{Given, given_circuit, lent_alone, lent_with, stages, order_stage, tail_stage, room_stage}
use Rattle.plan.specs.Convert.{convert}
use Rattle.plan.specs.Outcome.{ReadEntry, LoadExit, load_by, load_as, FileEntry, FileExit, written_by, write_text, write_binary, MakeEntry, MakeExit, made_by, conversion}
use Rattle.laws.proofs.Put.{put_first}
use Rattle.laws.proofs.Reading.Exactly.{complete, formed}
use Rattle.laws.proofs.Reading.Rows.{Long, map-long}
use Rattle.laws.proofs.Reading.Shortest.{states-text, states-binary}
use Rattle.laws.proofs.Reading.LeftOff.{trimmed-shortest, exact-trimmed}
use Rattle.laws.proofs.Running.Results.{convert-well-formed}
use Rattle.laws.proofs.Running.Unchanged.{convert-same}
use Rattle.laws.proofs.Writing.Nothing.{made_none}
use Rattle.laws.proofs.Writing.Fine.{nothing-fine, fine-nothing}
use Rattle.laws.proofs.Writing.Holding.{holding-circuit, formed-fine}
use Rattle.laws.proofs.Writing.Later.{Left, load-left}
use Rattle.laws.proofs.Writing.Accepting.{text-accepted, binary-accepted, conversion-accepted}
use Rattle.laws.proofs.Writing.Written.{wrote}
use Rattle.laws.proofs.Writing.ThereAndBack.{stated-tail}
use Rattle.laws.proofs.Writing.Calls.{ReadCall, read_circuit, read_tail, read-stated, read-states, read-formed, binary-file, text-file, InShortestForm, shortest-read}

-- a call is handed these counts and, up to them, the words of these tables, whatever stands past them
abbrev pub Handed : Given → Counts → Tables → Type 0
Handed g n t = (g.counts ≡ n) × (given_circuit g ≡ circuit_of n t)

-- tables and scratch are as long as counts ask
abbrev pub LongEnough : Counts → Tables → List ℕ → Type 0
LongEnough n t scratch = least_short (against 1 (words_to_work n) (lengths_of t scratch)) ≡ None

-- a writer with room: it is handed these counts and tables and this tail, its tables and scratch are as long as the counts ask, and its buffer
-- holds these bytes; a conversion with room: so are its tables, and those lent for writing
pub record WriteRoom (e : FileEntry) (n : Counts) (t : Tables) (tail bytes : List ℕ) : Type 0 where
  pub handed : Handed e.circuit n t
  pub tail-handed : e.tail ≡ tail
  pub words : LongEnough n e.circuit.tables e.circuit.scratch
  pub space : length bytes ≤ length e.out

pub record MakeRoom (e : MakeEntry) (n : Counts) (t : Tables) : Type 0 where
  pub handed : Handed e.circuit n t
  pub words : LongEnough n e.circuit.tables e.circuit.scratch
  pub written : LongEnough n e.written e.circuit.scratch

module _ (c : Circuit) (w : WellFormed c) (n : Counts) (t : Tables) (counts : n ≡ counts_of c) (holds : circuit_of n t ≡ c) where
  handed-left : (g : Given) → Handed g n t → LongEnough n g.tables g.scratch → Left g c
  handed-left g h l =
      let e = h.1 ∙ holds in
      let words : least_short (lent_alone g) ≡ None
      = ap (λ (m : Counts). least_short (against 1 (words_to_work m) (lengths_of g.tables g.scratch))) h.0 ∙ l in
      record {
        holds = e;
        counts = h.0 ∙ counts;
        fine = fine-nothing g (lent_alone g) (formed-fine g (lent_alone g) c e (h.0 ∙ counts) w words);
      }

  module _ (tail : List ℕ) (k : TailOk V19 (counts_of c) tail) (e : FileEntry) where
    text-done : WriteRoom e n t tail (text_of c ++ tail) → write_text e ≡ written_by None e (text_of c ++ tail)
    text-done x =
        let g = e.circuit in
        let l = handed-left g x.handed x.words in
        let tail-is = x.tail-handed in
        let bytes = text_of (given_circuit g) ++ e.tail in
        let all = first_of (stages g (lent_alone g) ++ (tail_stage g e.tail ∷ room_stage e.out bytes ∷ [])) in
        let a = text-accepted g c l e.tail e.out (subst (TailOk V19 (counts_of c)) (sym tail-is) k)
        (subst (λ (y : List ℕ). length (text_of c ++ y) ≤ length e.out) (sym tail-is) x.space) in
        ap₂ (λ (r : Option Refusal) (y : List ℕ). written_by r e y) (wrote e bytes (length (text_of c ++ e.tail)) all a).0
        (ap₂ (λ (d : Circuit) (y : List ℕ). text_of d ++ y) l.holds tail-is)

    binary-done : binary_order c ≡ true → WriteRoom e n t tail (binary_of c ++ tail) → write_binary e ≡ written_by None e (binary_of c ++ tail)
    binary-done o x =
        let g = e.circuit in
        let l = handed-left g x.handed x.words in
        let tail-is = x.tail-handed in
        let bytes = binary_of (given_circuit g) ++ e.tail in
        let all = first_of (stages g (lent_alone g) ++ (order_stage g ∷ tail_stage g e.tail ∷ room_stage e.out bytes ∷ [])) in
        let a = binary-accepted g c l e.tail e.out (subst (TailOk V19 (counts_of c)) (sym tail-is) k) o
        (subst (λ (y : List ℕ). length (binary_of c ++ y) ≤ length e.out) (sym tail-is) x.space) in
        ap₂ (λ (r : Option Refusal) (y : List ℕ). written_by r e y) (wrote e bytes (length (binary_of c ++ e.tail)) all a).0
        (ap₂ (λ (d : Circuit) (y : List ℕ). binary_of d ++ y) l.holds tail-is)

  conversion-done : (e : MakeEntry) → MakeRoom e n t → conversion e ≡ made_by None e (convert c)
  conversion-done e x =
      let g = e.circuit in
      let l = handed-left g x.handed x.words in
      let long : least_short (against 1 (words_to_work (counts_of c)) (lengths_of e.written g.scratch)) ≡ None
      = ap (λ (m : Counts). least_short (against 1 (words_to_work m) (lengths_of e.written g.scratch))) (sym counts) ∙ x.written in
      let all = first_of (stages g (lent_with g e.written)) in
      ap₂ (λ (r : Option Refusal) (d : Circuit). made_by r e (convert d))
      (made_none (λ o. (made_by o e (convert (given_circuit g))).answer) (λ r. refl) all (counts_of (convert c)) (conversion-accepted g c l e.written long)) l.holds

-- the bytes of a writer that was done
done-file : (e : FileEntry) (bytes : List ℕ) (x : FileExit) → x ≡ written_by None e bytes → take (length bytes) x.out ≡ bytes
done-file e bytes x d = ap (λ (y : FileExit). take (length bytes) y.out) d ∙ put_first e.out bytes

-- a reader with room of a file that states a circuit and a tail
read_done : (v : Version) (e : ReadEntry) (c : Circuit) (tail : List ℕ) → States v e.file c tail
    → LongEnoughToRead e.file c (lengths_of e.tables e.scratch)
    → (s : ℕ) × (load_as v e ≡ load_by e (got c s)) × (drop s e.file ≡ tail) × (circuit_of (counts_of c) (load_as v e).tables ≡ c)
read_done v e c tail s room =
    let a = complete v e.file (lengths_of e.tables e.scratch) c tail s room in
    let d = ap (load_by e) a.1 in
    (a.0, d, a.2, ap (λ (y : LoadExit). circuit_of (counts_of c) y.tables) d ∙ holding-circuit e.tables c (formed v e.file c tail s))

-- what 2007 states has no bad state, no constraint and no reset but 0, so that the other form of it is 2007's too
reset-zero : (b row : List ℕ) (r j : ℕ) → length row ≡ length b → row ++ replicate j 0 ≡ b ++ (r ∷ []) → r ≡ 0
reset-zero [] [] r zero l e = let z : ◌≡◌ {A = ℕ} 0 1 = ap length e in absurd (omega arith)
reset-zero [] [] r (suc j) l e = sym (ap (λ (x : List ℕ). get_or x 0 0) e)
reset-zero [] (y ∷ row) r j l e = absurd (omega arith)
reset-zero (x ∷ b) [] r j l e = absurd (omega arith)
reset-zero (x ∷ b) (y ∷ row) r j l e = reset-zero b row r j (omega arith) (ap (drop 1) e)

alone : (j : ℕ) (m : List ℕ) (r : ℕ) → length m ≡ j → r ≡ 0 → Spells j (j + 0) (m ++ (r ∷ [])) (without_zeros j (m ++ (r ∷ [])))
alone j m r l e =
    let one : length (m ++ (0 ∷ [])) - length m ≡ 1 = omega (arith, length-append m (0 ∷ [])) in
    let s : Spells j (j + 0) (m ++ (0 ∷ [])) m = (omega arith, omega arith, ap (λ (i : ℕ). m ++ replicate i 0) one) in
    subst (λ (x : ℕ). Spells j (j + 0) (m ++ (x ∷ [])) (without_zeros j (m ++ (x ∷ [])))) (sym e)
    (subst (λ (x : List ℕ). Spells j (j + 0) (m ++ (0 ∷ [])) x) (trimmed-shortest j (j + 0) (m ++ (0 ∷ [])) m s (exact-trimmed j m (omega arith))) s)

resets-left-off : (k j : ℕ) (bases more : List (List ℕ)) (rs : List ℕ) (rows : List (List ℕ)) → Long k bases → Long j more
    → length bases ≡ length more → AllSpell k (k + 0) (with_resets bases rs) rows
    → AllSpell j (j + 0) (with_resets more rs) (map (without_zeros j) (with_resets more rs))
resets-left-off k j [] [] rs rows lb lm e s = tt
resets-left-off k j [] (m ∷ more) rs rows lb lm e s = absurd (omega arith)
resets-left-off k j (b ∷ bases) [] rs rows lb lm e s = absurd (omega arith)
resets-left-off k j (b ∷ bases) (m ∷ more) [] rows lb lm e s = tt
resets-left-off k j (b ∷ bases) (m ∷ more) (r ∷ rs) [] lb lm e s = absurd s
resets-left-off k j (b ∷ bases) (m ∷ more) (r ∷ rs) (row ∷ rows) lb lm e s =
    let is_zero = reset-zero b row r (length (b ++ (r ∷ [])) - length row) (omega (arith, s.0.0, s.0.1, lb.0)) s.0.2 in
    (alone j m r lm.0 is_zero, resets-left-off k j bases more rs rows lb.1 lm.1 (omega arith) s.1)

length-nexts : (ls : List Latch) → length (map one_line (nexts ls)) ≡ length (map latch_line ls)
length-nexts [] = refl
length-nexts (l ∷ ls) = ap suc (length-nexts ls)

module _ (c : Circuit) where
  lats : Long 2 (map latch_line c.latches)
  lats = map-long 2 latch_line (λ a. refl) c.latches

  news : Long 1 (map one_line (nexts c.latches))
  news = map-long 1 one_line (λ a. refl) (nexts c.latches)

  five : (row : List ℕ) → Spells 5 5 (all_counts (counts_of c)) row → Spells 5 5 (all_counts (counts_of c)) (short_counts (counts_of c))
  five row s = subst (Spells 5 5 (all_counts (counts_of c))) (trimmed-shortest 5 5 (all_counts (counts_of c)) row s (exact-trimmed 5 row s.1)) s

  abbrev old-text : (row : List ℕ) → Spells 5 5 (all_counts (counts_of c)) row
      → AllSpell 2 2 (text_latches c) (map (without_zeros 2) (text_latches c)) → Spelled V2007 c 2 (text_latches c)
  old-text row s a =
      record { counts = short_counts (counts_of c); latches = map (without_zeros 2) (text_latches c); all-counts = five row s; all-latches = a }

  abbrev old-binary : (row : List ℕ) → Spells 5 5 (all_counts (counts_of c)) row
      → AllSpell 1 1 (binary_latches c) (map (without_zeros 1) (binary_latches c)) → Spelled V2007 c 1 (binary_latches c)
  old-binary row s a =
      record { counts = short_counts (counts_of c); latches = map (without_zeros 1) (binary_latches c); all-counts = five row s; all-latches = a }

-- what a version states of a file, it states of both forms that the writers write
module _ (c : Circuit) (tail : List ℕ) where
  pub other_text : (v : Version) (file : List ℕ) → States v file c tail → States v (text_of c ++ tail) c tail
  other_text V2007 file (as_text s e w t) =
      as_text (old-text c s.counts s.all-counts
      (resets-left-off 2 2 (map latch_line c.latches) (map latch_line c.latches) c.resets s.latches (lats c) (lats c) refl s.all-latches)) refl w t
  other_text V2007 file (as_binary s e o w t) =
      as_text (old-text c s.counts s.all-counts
      (resets-left-off 1 2 (map one_line (nexts c.latches)) (map latch_line c.latches) c.resets s.latches (news c) (lats c)
      (length-nexts c.latches) s.all-latches)) refl w t
  other_text V19 file s = states-text (text_of c ++ tail) c tail (formed V19 file c tail s) (stated-tail file c tail s) refl

  pub other-binary : (v : Version) (file : List ℕ) → States v file c tail → binary_order c ≡ true → States v (binary_of c ++ tail) c tail
  other-binary V2007 file (as_text s e w t) o =
      as_binary (old-binary c s.counts s.all-counts
      (resets-left-off 2 1 (map latch_line c.latches) (map one_line (nexts c.latches)) c.resets s.latches (lats c) (news c)
      (sym (length-nexts c.latches)) s.all-latches)) refl o w t
  other-binary V2007 file (as_binary s e o w t) o' =
      as_binary (old-binary c s.counts s.all-counts
      (resets-left-off 1 1 (map one_line (nexts c.latches)) (map one_line (nexts c.latches)) c.resets s.latches (news c) (news c) refl
      s.all-latches)) refl o w t
  other-binary V19 file s o = states-binary (binary_of c ++ tail) c tail (formed V19 file c tail s) (stated-tail file c tail s) refl o

-- the counts that a read leaves
pub counts-read : (r : ReadCall) → r.counts ≡ counts_of (read_circuit r)
counts-read r = let l = load-left r.version r.entry r.bytes r.counts r.start r.accepted in l.2 ∙ ap counts_of (sym l.3)

-- what a read left, handed on as it is, has room where table 5 is long enough for it: for a writer whose buffer holds the bytes, and for a
-- conversion whose tables are long enough
module _ (r : ReadCall) (five : scratch_to_work r.counts ≤ length r.entry.scratch) where
  abbrev pub left_by_read : Given
  left_by_read =
      let x = load_as r.version r.entry in
      record { counts = r.counts; tables = x.tables; scratch = x.scratch }

  left-words : LongEnough r.counts (load_as r.version r.entry).tables (load_as r.version r.entry).scratch
  left-words =
      let l = load-left r.version r.entry r.bytes r.counts r.start r.accepted in
      (nothing-fine left_by_read (lent_alone left_by_read) (l.4 five).fine).room

  pub read-write-room : (tail bytes out : List ℕ) → length bytes ≤ length out
      → WriteRoom (record { circuit = left_by_read; tail = tail; out = out }) r.counts (load_as r.version r.entry).tables tail bytes
  read-write-room tail bytes out h = record { handed = (refl, refl); tail-handed = refl; words = left-words; space = h }

  pub read-make-room : (t : Tables) → LongEnough r.counts t (load_as r.version r.entry).scratch
      → MakeRoom (record { circuit = left_by_read; written = t }) r.counts (load_as r.version r.entry).tables
  read-make-room t h = record { handed = (refl, refl); words = left-words; written = h }

-- what was read is written as text, read by the same version, converted and written as binary: none refuses, and the last leaves the same file
abbrev pub BinaryAndBack : ReadCall → Type 0
BinaryAndBack r =
    (t : FileEntry) → WriteRoom t r.counts (load_as r.version r.entry).tables (read_tail r) (text_of (read_circuit r) ++ read_tail r)
    → (n : ℕ) × ((write_text t).answer ≡ Ok n)
    × ((e : ReadEntry) → e.file ≡ take n (write_text t).out → LongEnoughToRead e.file (read_circuit r) (lengths_of e.tables e.scratch)
    → (m : Counts) × (s : ℕ) × ((load_as r.version e).answer ≡ Ok (m, s))
    × ((k : MakeEntry) → MakeRoom k m (load_as r.version e).tables
    → (q : Counts) × ((conversion k).answer ≡ Ok q)
    × ((b : FileEntry) → WriteRoom b q (conversion k).written (drop s e.file) r.entry.file
    → write_binary b ≡ written_by None b r.entry.file)))

-- what was read is converted, written as binary, read by the same version and written as text
abbrev pub TextAndBack : ReadCall → Type 0
TextAndBack r =
    (k : MakeEntry) → MakeRoom k r.counts (load_as r.version r.entry).tables
    → (q : Counts) × ((conversion k).answer ≡ Ok q)
    × ((b : FileEntry) → WriteRoom b q (conversion k).written (read_tail r) (binary_of (read_circuit r) ++ read_tail r)
    → (n : ℕ) × ((write_binary b).answer ≡ Ok n)
    × ((e : ReadEntry) → e.file ≡ take n (write_binary b).out → LongEnoughToRead e.file (read_circuit r) (lengths_of e.tables e.scratch)
    → (m : Counts) × (s : ℕ) × ((load_as r.version e).answer ≡ Ok (m, s))
    × ((t : FileEntry) → WriteRoom t m (load_as r.version e).tables (drop s e.file) r.entry.file
    → write_text t ≡ written_by None t r.entry.file)))

module _ (r : ReadCall) where
  abbrev c : Circuit
  c = read_circuit r

  tail-ok : TailOk V19 (counts_of c) (read_tail r)
  tail-ok = stated-tail r.entry.file c (read_tail r) (read-states r)

  convert-holds : (order : binary_order c ≡ true) (k : MakeEntry) (x : MakeExit) → x ≡ made_by None k (convert c)
      → circuit_of (counts_of (convert c)) x.written ≡ convert c
  convert-holds order k x d =
      ap (λ (y : MakeExit). circuit_of (counts_of (convert c)) y.written) d
      ∙ holding-circuit k.written (convert c) (convert-well-formed c (read-formed r))

  -- a binary file that is what the writer writes of it, read, is written as text, read by the same version, converted and written as binary
  binary-room : r.entry.file ≡ binary_of c ++ read_tail r → binary_order c ≡ true → BinaryAndBack r
  binary-room file-is order t t-room =
      let v = r.version in
      let tail = read_tail r in
      let w = read-formed r in
      let there = text-done c w r.counts (load_as v r.entry).tables (counts-read r) refl tail tail-ok t t-room in (
        length (text_of c ++ tail),
        ap (λ (x : FileExit). x.answer) there,
        λ e e-file e-room.
            let stated : States v e.file c tail
            = subst (λ (x : List ℕ). States v x c tail) (sym (e-file ∙ done-file t (text_of c ++ tail) (write_text t) there))
            (other_text c tail v r.entry.file (read-stated r)) in
            let load = read_done v e c tail stated e-room in (
              counts_of c,
              load.0,
              ap (λ (x : LoadExit). x.answer) load.1,
              λ k k-room.
                  let make = conversion-done c w (counts_of c) (load_as v e).tables refl load.3 k k-room in (
                    counts_of (convert c),
                    ap (λ (x : MakeExit). x.answer) make,
                    λ b b-room. back (convert c) (convert-same c w order) (conversion k).written (convert-holds order k (conversion k) make)
                        (drop load.0 e.file) load.2 b b-room,
                  ),
            ),
      )
    where
      back : (d : Circuit) → d ≡ c → (t : Tables) → circuit_of (counts_of d) t ≡ d → (tail' : List ℕ) → tail' ≡ read_tail r
          → (b : FileEntry) → WriteRoom b (counts_of d) t tail' r.entry.file → write_binary b ≡ written_by None b r.entry.file
      back d d-is t holds tail' tail-is b b-room =
          let same : r.entry.file ≡ binary_of d ++ tail'
          = file-is ∙ ap₂ (λ (x : Circuit) (y : List ℕ). binary_of x ++ y) (sym d-is) (sym tail-is) in
          binary-done d (subst WellFormed (sym d-is) (read-formed r)) (counts_of d) t refl holds tail'
          (subst₂ (λ (x : Circuit) (y : List ℕ). TailOk V19 (counts_of x) y) (sym d-is) (sym tail-is) tail-ok) b
          (ap binary_order d-is ∙ order) (subst (WriteRoom b (counts_of d) t tail') same b-room)
          ∙ ap (written_by None b) (sym same)

  -- a text file in binary order that is what the writer writes of it, read, is converted, written as binary, read by the same version and
  -- written as text
  text-room : r.entry.file ≡ text_of c ++ read_tail r → binary_order c ≡ true → TextAndBack r
  text-room file-is order k k-room =
      let v = r.version in
      let tail = read_tail r in
      let w = read-formed r in
      let make = conversion-done c w r.counts (load_as v r.entry).tables (counts-read r) refl k k-room in (
        counts_of (convert c),
        ap (λ (x : MakeExit). x.answer) make,
        λ b b-room.
            let there = there-binary (convert c) (convert-same c w order) (conversion k).written (convert-holds order k (conversion k) make) b b-room in (
              length (binary_of c ++ tail),
              ap (λ (x : FileExit). x.answer) there,
              λ e e-file e-room.
                  let stated : States v e.file c tail
                  = subst (λ (x : List ℕ). States v x c tail) (sym (e-file ∙ done-file b (binary_of c ++ tail) (write_binary b) there))
                  (other-binary c tail v r.entry.file (read-stated r) order) in
                  let load = read_done v e c tail stated e-room in (
                    counts_of c,
                    load.0,
                    ap (λ (x : LoadExit). x.answer) load.1,
                    λ t t-room. back (load_as v e).tables load.3 (drop load.0 e.file) load.2 t t-room,
                  ),
            ),
      )
    where
      there-binary : (d : Circuit) → d ≡ c → (t : Tables) → circuit_of (counts_of d) t ≡ d
          → (b : FileEntry) → WriteRoom b (counts_of d) t (read_tail r) (binary_of c ++ read_tail r) → write_binary b ≡ written_by None b (binary_of c ++ read_tail r)
      there-binary d d-is t holds b b-room =
          let same : binary_of c ++ read_tail r ≡ binary_of d ++ read_tail r = ap (λ (x : Circuit). binary_of x ++ read_tail r) (sym d-is) in
          binary-done d (subst WellFormed (sym d-is) (read-formed r)) (counts_of d) t refl holds (read_tail r)
          (subst (λ (x : Circuit). TailOk V19 (counts_of x) (read_tail r)) (sym d-is) tail-ok) b
          (ap binary_order d-is ∙ order) (subst (WriteRoom b (counts_of d) t (read_tail r)) same b-room)
          ∙ ap (written_by None b) (sym same)

      back : (t : Tables) → circuit_of (counts_of c) t ≡ c → (tail' : List ℕ) → tail' ≡ read_tail r
          → (f : FileEntry) → WriteRoom f (counts_of c) t tail' r.entry.file → write_text f ≡ written_by None f r.entry.file
      back t holds tail' tail-is f f-room =
          let same : r.entry.file ≡ text_of c ++ tail' = file-is ∙ ap (λ (y : List ℕ). text_of c ++ y) (sym tail-is) in
          text-done c (read-formed r) (counts_of c) t refl holds tail' (subst (TailOk V19 (counts_of c)) (sym tail-is) tail-ok) f
          (subst (WriteRoom f (counts_of c) t tail') same f-room)
          ∙ ap (written_by None f) (sym same)

-- with room none of the calls refuses, and the last buffer holds the file
pub binary-with-room : (r : ReadCall) → InShortestForm r → form_in r.entry.file ≡ binary → BinaryAndBack r
binary-with-room r least_short form =
    let f = binary-file r.entry.file (read_circuit r) (read_tail r) form (shortest-read r least_short) (read-states r) in
    binary-room r f.0 f.1

pub text-with-room : (r : ReadCall) → InShortestForm r → form_in r.entry.file ≡ text → binary_order (read_circuit r) ≡ true → TextAndBack r
text-with-room r least_short form = text-room r (text-file r.entry.file (read_circuit r) (read_tail r) form (shortest-read r least_short))
