-- The same with room: none of the calls in a row refuses, and the last one leaves the first one's file in its buffer, all else as it was.
use Prim.Native.Nat.{ℕ, ◌+◌, ◌≤◌}
use mathlib.Core.Path.{◌≡◌, refl, sym, ap, ap₂, ◌∙◌, subst}
use mathlib.Core.Bool.{true, ◌&&◌}
use mathlib.Core.Logic.{inl}
use mathlib.Core.List.{List, [], ◌∷◌, ◌++◌, append-nil}
use Rattle.std.specs.Prelude.{Ok, Option, None}
use native.Mathlib.Omega.{arith}
use borrow.Author.Tests.{eq-eqb, le-leb}
use lib.Dec.{eqb}
use lib.ListN.{length, take, drop}
use lib.Seq.{drop-length}
use Rattle.plan.specs.declared.Version.{Version}
use Rattle.plan.specs.declared.Version.TheVariants.{V2007, V19}
use Rattle.plan.specs.declared.Counts.{Counts}
use Rattle.plan.specs.declared.Refusal.{Refusal}
use Rattle.plan.specs.Refusals.{got, first_of}
use Rattle.plan.specs.Circuit.{Circuit, Tables, counts_of, circuit_of, lengths_of, words_to_work, against, least_short}
use Rattle.plan.specs.Header.{Head, binary, header, form_in}
use Rattle.plan.specs.Binary.{binary_of, binary_order}
use Rattle.plan.specs.Reading.{WellFormed, States, Shortest, LongEnough, LongEnoughToRead}
use Rattle.plan.specs.Given.{Given, given_circuit, lent_alone, stages, order_stage, tail_stage, room_stage}
use Rattle.plan.specs.Outcome.{ReadEntry, LoadExit, load_by, load_as, load, FileEntry, FileExit, written_by, write_binary}
use Rattle.plan.specs.Cards.{cards_of, holdable, read_cards, load_cards, card_stage, write_cards}
use Rattle.laws.proofs.Put.{put_first}
use Rattle.laws.proofs.Reading.Common.{and_intro}
use Rattle.laws.proofs.Reading.Exactly.{complete}
use Rattle.laws.proofs.Reading.Shortest.{states-binary}
use Rattle.laws.proofs.Writing.Nothing.{both_first}
use Rattle.laws.proofs.Writing.Fine.{nothing-fine, fine-nothing}
use Rattle.laws.proofs.Writing.Holding.{holding-circuit, formed-fine}
use Rattle.laws.proofs.Writing.ThereAndBack.{binary-stated, binary-shortest}
use Rattle.laws.proofs.Writing.Calls.{ReadCall, read_circuit, read_tail, read-stated, read-states, read-formed, binary-file, InShortestForm, shortest-read}
use Rattle.laws.proofs.Writing.WithRoom.{Handed}
use Rattle.cards.proofs.Laws.Exactly.{cards-read}
use Rattle.cards.proofs.Laws.Held.{stated-2007-holdable}
use Rattle.cards.proofs.Laws.Back.{no-tail}
use Rattle.cards.proofs.Laws.Calls.{CardCall, card_circuit, read-cards, card-states, card-counts, read-counts}

-- a writer with room: it is handed these counts and tables and no tail, its tables and scratch are as long as the counts ask, and its buffer
-- holds these bytes
pub record Roomy (e : FileEntry) (n : Counts) (t : Tables) (bytes : List ℕ) : Type 0 where
  pub handed : Handed e.circuit n t
  pub tail : e.tail ≡ []
  pub words : least_short (against 1 (words_to_work n) (lengths_of e.circuit.tables e.circuit.scratch)) ≡ None
  pub space : length bytes ≤ length e.out

-- no stage of such a writer refuses a well-formed circuit in binary order
module _ (c : Circuit) (w : WellFormed c) (o : binary_order c ≡ true) (n : Counts) (t : Tables) (counts : n ≡ counts_of c) (left : circuit_of n t ≡ c)
    (e : FileEntry) where
  abbrev g : Given
  g = e.circuit

  module _ (file : List ℕ) (x : Roomy e n t file) where
    holds : given_circuit g ≡ c
    holds = x.handed.1 ∙ left

    order : order_stage g ≡ None
    order = let in_order : binary_order (given_circuit g) ≡ true = ap binary_order holds ∙ o in rw in_order

    tails : tail_stage g e.tail ≡ None
    tails = ap (tail_stage g) x.tail

    room : (bytes : List ℕ) → bytes ≡ file → room_stage e.out bytes ≡ None
    room bytes same =
        let long : 0 + length file ≤ length e.out = omega (arith, x.space) in
        ap (room_stage e.out) same ∙ rw (le-leb (0 + length file) (length e.out) long)

    done : (last : List (Option Refusal)) (bytes : List ℕ) → bytes ≡ file → first_of last ≡ None
        → written_by (first_of (stages g (lent_alone g) ++ last)) e bytes ≡ written_by None e file
    done last bytes same passed =
        let words : least_short (lent_alone g) ≡ None
        = ap (λ (m : Counts). least_short (against 1 (words_to_work m) (lengths_of g.tables g.scratch))) x.handed.0 ∙ x.words in
        let fine = fine-nothing g (lent_alone g) (formed-fine g (lent_alone g) c holds (x.handed.0 ∙ counts) w words) in
        ap₂ (λ (r : Option Refusal) (l : List ℕ). written_by r e l) (both_first (stages g (lent_alone g)) last fine ∙ passed) same

  binary-done : Roomy e n t (binary_of c) → write_binary e ≡ written_by None e (binary_of c)
  binary-done x =
      let file = binary_of c in
      let bytes = binary_of (given_circuit g) ++ e.tail in
      let same : binary_of (given_circuit g) ++ e.tail ≡ binary_of c
      = ap₂ (λ (d : Circuit) (l : List ℕ). binary_of d ++ l) (holds file x) x.tail ∙ append-nil file in
      done file x (order_stage g ∷ tail_stage g e.tail ∷ room_stage e.out bytes ∷ []) bytes same
      (rw (order file x, tails file x, room file x bytes same))

  cards-done : holdable c ≡ true → Roomy e n t (cards_of c) → write_cards e ≡ written_by None e (cards_of c)
  cards-done k x =
      let file = cards_of c in
      let bytes = cards_of (given_circuit g) in
      let same : cards_of (given_circuit g) ≡ cards_of c = ap cards_of (holds file x) in
      let held : (eqb (length e.tail) 0 && holdable (given_circuit g)) ≡ true
      = and_intro (eqb (length e.tail) 0) (holdable (given_circuit g)) (eq-eqb _ _ (ap length x.tail)) (ap holdable (holds file x) ∙ k) in
      let carded : card_stage g e.tail ≡ None = rw held in
      done file x (order_stage g ∷ tail_stage g e.tail ∷ card_stage g e.tail ∷ room_stage e.out bytes ∷ []) bytes same
      (rw (order file x, tails file x, carded, room file x bytes same))

-- what a read of cards left, handed on as it is, has room
pub cards-roomy : (k : CardCall) (bytes out : List ℕ) → length bytes ≤ length out
    → let x = load_cards k.entry in
    Roomy (record { circuit = record { counts = k.counts; tables = x.tables; scratch = x.scratch }; tail = []; out = out }) k.counts x.tables bytes
cards-roomy k bytes out h =
    let x = load_cards k.entry in
    let after : Given = record { counts = k.counts; tables = x.tables; scratch = x.scratch } in
    record { handed = (refl, refl); tail = refl; words = (nothing-fine after (lent_alone after) (read-cards k).2.fine).room; space = h }

-- the bytes of a writer that was done
done-file : (e : FileEntry) (bytes : List ℕ) (x : FileExit) → x ≡ written_by None e bytes → take (length bytes) x.out ≡ bytes
done-file e bytes x d = ap (λ (y : FileExit). take (length bytes) y.out) d ∙ put_first e.out bytes

-- a reader with room: of AIGER, and of cards, that a writer wrote
module _ (c : Circuit) (w : WellFormed c) (o : binary_order c ≡ true) where
  binary-loaded : (r : ReadEntry) → r.file ≡ binary_of c → LongEnoughToRead r.file c (lengths_of r.tables r.scratch)
      → (s : ℕ) × (load r ≡ load_by r (got c s)) × (drop s r.file ≡ [])
  binary-loaded r e room =
      let stated = states-binary r.file c [] w (no-tail c) (e ∙ sym (append-nil (binary_of c))) o in
      let a = complete V19 r.file (lengths_of r.tables r.scratch) c [] stated room in
      (a.0, ap (load_by r) a.1, a.2)

  cards-loaded : holdable c ≡ true → (r : ReadEntry) → r.file ≡ cards_of c → LongEnough c (lengths_of r.tables r.scratch)
      → load_cards r ≡ load_by r (got c (length r.file))
  cards-loaded k r e room =
      ap (load_by r) (ap (λ (l : List ℕ). read_cards l (lengths_of r.tables r.scratch)) e
      ∙ (cards-read c w o k (lengths_of r.tables r.scratch) room ∙ ap (λ (l : List ℕ). got c (length l)) (sym e)))

  loaded-circuit : (r : ReadEntry) (s : ℕ) (x : LoadExit) → x ≡ load_by r (got c s) → circuit_of (counts_of c) x.tables ≡ c
  loaded-circuit r s x d = ap (λ (y : LoadExit). circuit_of (counts_of c) y.tables) d ∙ holding-circuit r.tables c w

-- cards that were read are written as binary, read and written as cards: the same bytes
pub cards-there-and-back : (k : CardCall)
    → (b : FileEntry) → Roomy b k.counts (load_cards k.entry).tables (binary_of (card_circuit k))
    → (n : ℕ) × ((write_binary b).answer ≡ Ok n)
    × ((r : ReadEntry) → r.file ≡ take n (write_binary b).out → LongEnoughToRead r.file (card_circuit k) (lengths_of r.tables r.scratch)
    → (m : Counts) × (s : ℕ) × ((load r).answer ≡ Ok (m, s)) × (drop s r.file ≡ [])
    × ((w : FileEntry) → Roomy w m (load r).tables k.entry.file → write_cards w ≡ written_by None w k.entry.file))
cards-there-and-back k b room =
    let c = card_circuit k in
    let st = card-states k in
    let there = binary-done c st.formed st.order k.counts (load_cards k.entry).tables (card-counts k) refl b room in (
      length (binary_of c),
      ap (λ (x : FileExit). x.answer) there,
      λ r file words.
          let read = binary-loaded c st.formed st.order r (file ∙ done-file b (binary_of c) (write_binary b) there) words in
          let left_there = loaded-circuit c st.formed st.order r read.0 (load r) read.1 in (
            counts_of c,
            read.0,
            ap (λ (x : LoadExit). x.answer) read.1,
            read.2,
            λ w x. subst (λ (l : List ℕ). Roomy w (counts_of c) (load r).tables l → write_cards w ≡ written_by None w l) (sym st.cards)
                (cards-done c st.formed st.order (counts_of c) (load r).tables refl left_there w st.held) x,
          ),
    )

-- a binary file that was read, is what the writer writes of its circuit, has no tail and can stand on cards, is written as cards, read and
-- written as binary: the same bytes
abbrev pub CardsAndBack : ReadCall → Type 0
CardsAndBack r =
    (w : FileEntry) → Roomy w r.counts (load_as r.version r.entry).tables (cards_of (read_circuit r))
    → (n : ℕ) × ((write_cards w).answer ≡ Ok n)
    × ((e : ReadEntry) → e.file ≡ take n (write_cards w).out → LongEnough (read_circuit r) (lengths_of e.tables e.scratch)
    → (m : Counts) × (s : ℕ) × ((load_cards e).answer ≡ Ok (m, s)) × (drop s e.file ≡ [])
    × ((b : FileEntry) → Roomy b m (load_cards e).tables r.entry.file → write_binary b ≡ written_by None b r.entry.file))

and-back : (r : ReadCall) → binary_order (read_circuit r) ≡ true → binary_of (read_circuit r) ≡ r.entry.file → holdable (read_circuit r) ≡ true
    → CardsAndBack r
and-back r o file-is held w room =
    let c = read_circuit r in
    let f = read-formed r in
    let there = cards-done c f o r.counts (load_as r.version r.entry).tables (read-counts r) refl w held room in (
      length (cards_of c),
      ap (λ (x : FileExit). x.answer) there,
      λ e file words.
          let read = cards-loaded c f o held e (file ∙ done-file w (cards_of c) (write_cards w) there) words in
          let left_there = loaded-circuit c f o e (length e.file) (load_cards e) read in (
            counts_of c,
            length e.file,
            ap (λ (x : LoadExit). x.answer) read,
            drop-length e.file,
            λ b x. subst (λ (l : List ℕ). Roomy b (counts_of c) (load_cards e).tables l → write_binary b ≡ written_by None b l) file-is
                (binary-done c f o (counts_of c) (load_cards e).tables refl left_there b) x,
          ),
    )

-- in the shortest form
pub binary-there-and-back : (r : ReadCall) (h : Head) (at : ℕ) → header V19 r.entry.file 0 ≡ got h at → h.form ≡ binary
    → Shortest r.entry.file (read_circuit r) [] → holdable (read_circuit r) ≡ true → CardsAndBack r
binary-there-and-back r h at head form shortest =
    let c = read_circuit r in
    and-back r (binary-stated r.entry.file c (read_tail r) h at head form (read-states r))
    (sym (binary-shortest r.entry.file c [] h at head form shortest ∙ append-nil (binary_of c)))

-- said of the read alone
pub same-bytes-with-room : (r : ReadCall) → InShortestForm r → form_in r.entry.file ≡ binary → read_tail r ≡ [] → holdable (read_circuit r) ≡ true
    → CardsAndBack r
same-bytes-with-room r least_short form no-tail-left =
    let c = read_circuit r in
    let f = binary-file r.entry.file c (read_tail r) form (shortest-read r least_short) (read-states r) in
    and-back r f.1 (sym (f.0 ∙ (ap (λ (t : List ℕ). binary_of c ++ t) no-tail-left ∙ append-nil (binary_of c))))

-- of every binary file that the reader of 2007 accepts, where there is no symbol or comment part: cards can hold it
pub same-bytes-2007 : (r : ReadCall) → r.version ≡ V2007 → form_in r.entry.file ≡ binary → read_tail r ≡ [] → CardsAndBack r
same-bytes-2007 r old form no-tail-left =
    same-bytes-with-room r (inl old) form no-tail-left
    (stated-2007-holdable r.entry.file (read_circuit r) (read_tail r)
    (subst (λ (v : Version). States v r.entry.file (read_circuit r) (read_tail r)) old (read-stated r)) form)
