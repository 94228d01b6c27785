-- Cards and binary AIGER there and back, of calls in a row that answered without a refusal, each handed what the one before left, whatever else it
-- is lent: the bytes that the last one wrote are the first one's file.
use Prim.Native.Nat.{ℕ}
use mathlib.Core.Path.{◌≡◌, refl, sym, ap, ap₂, ◌∙◌, subst}
use mathlib.Core.Bool.{◌&&◌}
use mathlib.Core.List.{List, [], ◌∷◌, ◌++◌}
use Rattle.std.specs.Prelude.{Ok, Option}
use native.Mathlib.Omega.{arith}
use borrow.Author.Tests.{eqb-true}
use lib.Dec.{eqb}
use lib.ListN.{length}
use Rattle.plan.specs.declared.Version.TheVariants.{V19}
use Rattle.plan.specs.declared.Counts.{Counts}
use Rattle.plan.specs.declared.Refusal.{Refusal}
use Rattle.plan.specs.declared.Refusal.TheVariants.{NotInOrder, NotOnCards}
use Rattle.plan.specs.Refusals.{Parse, got, refused, first_of}
use Rattle.plan.specs.Circuit.{Circuit, counts_of, circuit_of, lengths_of, holding, cleared}
use Rattle.plan.specs.Header.{Head, binary, header, form_in}
use Rattle.plan.specs.Binary.{binary_of, binary_order}
use Rattle.plan.specs.Reading.{States, Shortest}
use Rattle.plan.specs.Given.{Given, given_circuit, lent_alone, failing, stages, order_stage, tail_stage, room_stage}
use Rattle.plan.specs.Outcome.{ReadEntry, load_by, load_as, write_binary}
use Rattle.plan.specs.Cards.{cards_of, holdable, CardStates, read_cards, load_cards, card_stage, write_cards}
use Rattle.laws.proofs.Pairs.{ok-pair}
use Rattle.laws.proofs.Reading.Common.{and_left, and_right}
use Rattle.laws.proofs.Reading.Differences.{Bytes}
use Rattle.laws.proofs.Reading.Exactly.{unique}
use Rattle.laws.proofs.Writing.Nothing.{stage-none, failing-none, first-all, first-both}
use Rattle.laws.proofs.Writing.Fine.{nothing-fine}
use Rattle.laws.proofs.Writing.Written.{wrote, binary-bytes, binary-states}
use Rattle.laws.proofs.Writing.Later.{Left, left, load-left}
use Rattle.laws.proofs.Writing.ThereAndBack.{binary-shortest}
use Rattle.laws.proofs.Writing.Calls.{ReadCall, WriteCall, read_circuit, read_tail, file_of, read-states, binary-file, InShortestForm, shortest-read}
use Rattle.laws.proofs.Writing.WithRoom.{Handed}
use Rattle.cards.proofs.Laws.Exactly.{empty-list, cards-formed, cards-state, cards-room, cards-unique}

-- an accepted read of cards, of bytes, and the circuit that it leaves
pub record CardCall : Type 0 where
  pub entry : ReadEntry
  pub counts : Counts
  pub end : ℕ
  pub bytes : Bytes entry.file
  pub accepted : (load_cards entry).answer ≡ Ok (counts, end)

abbrev pub card_circuit : CardCall → Circuit
card_circuit k = circuit_of k.counts (load_cards k.entry).tables

-- what a read of cards leaves every later call accepts, and it is what they state
pub cards-left : (e : ReadEntry) (n : Counts) (end : ℕ) → (load_cards e).answer ≡ Ok (n, end)
    → (c : Circuit) × (read_cards e.file (lengths_of e.tables e.scratch) ≡ got c end)
    × Left (record { counts = n; tables = (load_cards e).tables; scratch = (load_cards e).scratch }) c
cards-left e n end a = go (read_cards e.file (lengths_of e.tables e.scratch)) refl a
  where
    go : (p : Parse Circuit) → read_cards e.file (lengths_of e.tables e.scratch) ≡ p → (load_by e p).answer ≡ Ok (n, end)
        → (c : Circuit) × (p ≡ got c end) × Left (record { counts = n; tables = (load_by e p).tables; scratch = (load_by e p).scratch }) c
    go (got c s) q a =
        let lengths = lengths_of e.tables e.scratch in
        let after = left c e.tables e.scratch (cards-formed e.file lengths c s q) (cards-room e.file lengths c s q) in
        let same = ok-pair (counts_of c) n s end a in (
          c,
          ap (got c) same.1,
          subst (λ (m : Counts). Left (record { counts = m; tables = holding e.tables c; scratch = cleared e.scratch }) c) same.0 after,
        )
    go (refused r) q a = let z : ◌≡◌ {A = ℕ} 0 1 = cc in absurd (omega arith)

module _ (k : CardCall) where
  pub read-cards : (c : Circuit) × (read_cards k.entry.file (lengths_of k.entry.tables k.entry.scratch) ≡ got c k.end)
      × Left (record { counts = k.counts; tables = (load_cards k.entry).tables; scratch = (load_cards k.entry).scratch }) c
  read-cards = cards-left k.entry k.counts k.end k.accepted

  pub card-states : CardStates k.entry.file (card_circuit k)
  card-states =
      let r = read-cards in
      subst (CardStates k.entry.file) (sym r.2.holds)
      (cards-state k.entry.file (lengths_of k.entry.tables k.entry.scratch) r.0 k.end r.1 k.bytes)

  pub card-counts : k.counts ≡ counts_of (card_circuit k)
  card-counts = let l = read-cards.2 in l.counts ∙ ap counts_of (sym l.holds)

-- the counts that a reader of AIGER leaves
pub read-counts : (r : ReadCall) → r.counts ≡ counts_of (read_circuit r)
read-counts r = let l = load-left r.version r.entry r.bytes r.counts r.start r.accepted in l.2 ∙ ap counts_of (sym l.3)

-- the bytes that a writer of cards wrote state the given circuit, and there was no tail
module _ (w : WriteCall write_cards) where
  abbrev g : Given
  g = w.entry.circuit

  abbrev last : List (Option Refusal)
  last = order_stage g ∷ tail_stage g w.entry.tail ∷ card_stage g w.entry.tail ∷ room_stage w.entry.out (cards_of (given_circuit g)) ∷ []

  pub cards-written : CardStates (file_of write_cards w) (given_circuit w.entry.circuit) × (w.entry.tail ≡ [])
  cards-written =
      let x = wrote w.entry (cards_of (given_circuit g)) w.size (first_of (stages g (lent_alone g) ++ last)) w.accepted in
      let s = first-both (stages g (lent_alone g)) last x.0 in
      let all = first-all last s.1 in
      let on-cards = eqb (length w.entry.tail) 0 && holdable (given_circuit g) in
      let held = failing-none on-cards (stage-none NotOnCards (failing on-cards) all.1.1.0) in (
        record {
          cards = x.2;
          formed = (nothing-fine g (lent_alone g) s.0).formed;
          order = failing-none (binary_order (given_circuit g)) (stage-none NotInOrder (failing (binary_order (given_circuit g))) all.0);
          held = and_right (eqb (length w.entry.tail) 0) (holdable (given_circuit g)) held;
        },
        empty-list w.entry.tail (eqb-true _ _ (and_left (eqb (length w.entry.tail) 0) (holdable (given_circuit g)) held)),
      )

-- cards, read, written as binary with any tail, read and written as cards: the same bytes
pub cards-through-binary : (k : CardCall)
    → (b : WriteCall write_binary) → Handed b.entry.circuit k.counts (load_cards k.entry).tables
    → (r : ReadCall) → r.entry.file ≡ file_of write_binary b
    → (w : WriteCall write_cards) → Handed w.entry.circuit r.counts (load_as r.version r.entry).tables
    → file_of write_cards w ≡ k.entry.file
cards-through-binary k b b-given r r-file w w-given =
    let again = subst (λ (x : List ℕ). States V19 x (read_circuit r) (read_tail r)) r-file (read-states r) in
    let same : read_circuit r ≡ given_circuit b.entry.circuit
    = (unique V19 (file_of write_binary b) (read_circuit r) (given_circuit b.entry.circuit) (read_tail r) b.entry.tail again
    (binary-states b.entry b.size b.accepted)).0 in
    (cards-written w).0.cards ∙ (ap cards_of (w-given.1 ∙ (same ∙ b-given.1)) ∙ sym (card-states k).cards)

-- a binary file that is what the writer writes of its circuit and tail, read, written as cards with the tail that was read, read and written as
-- binary: the same bytes
through-cards : (r : ReadCall) → r.entry.file ≡ binary_of (read_circuit r) ++ read_tail r
    → (w : WriteCall write_cards) → Handed w.entry.circuit r.counts (load_as r.version r.entry).tables → w.entry.tail ≡ read_tail r
    → (k : CardCall) → k.entry.file ≡ file_of write_cards w
    → (b : WriteCall write_binary) → Handed b.entry.circuit k.counts (load_cards k.entry).tables → b.entry.tail ≡ []
    → file_of write_binary b ≡ r.entry.file
through-cards r file-is w w-given w-tail k k-file b b-given b-tail =
    let there = cards-written w in
    let same : card_circuit k ≡ given_circuit w.entry.circuit
    = cards-unique (file_of write_cards w) (card_circuit k) (given_circuit w.entry.circuit)
    (subst (λ (x : List ℕ). CardStates x (card_circuit k)) k-file (card-states k)) there.0 in
    binary-bytes b.entry b.size b.accepted
    ∙ (ap₂ (λ (c : Circuit) (t : List ℕ). binary_of c ++ t) (b-given.1 ∙ (same ∙ w-given.1)) (b-tail ∙ (sym there.1 ∙ w-tail)) ∙ sym file-is)

-- in the shortest form
pub binary-through-cards : (r : ReadCall) (h : Head) (at : ℕ) → header V19 r.entry.file 0 ≡ got h at → h.form ≡ binary
    → Shortest r.entry.file (read_circuit r) (read_tail r)
    → (w : WriteCall write_cards) → Handed w.entry.circuit r.counts (load_as r.version r.entry).tables → w.entry.tail ≡ read_tail r
    → (k : CardCall) → k.entry.file ≡ file_of write_cards w
    → (b : WriteCall write_binary) → Handed b.entry.circuit k.counts (load_cards k.entry).tables → b.entry.tail ≡ []
    → file_of write_binary b ≡ r.entry.file
binary-through-cards r h at head form shortest =
    through-cards r (binary-shortest r.entry.file (read_circuit r) (read_tail r) h at head form shortest)

-- said of the read alone: every binary file that 2007 accepts, and every one of which no line ends in a 0 that may be left off
pub same-bytes-through-cards : (r : ReadCall) → InShortestForm r → form_in r.entry.file ≡ binary
    → (w : WriteCall write_cards) → Handed w.entry.circuit r.counts (load_as r.version r.entry).tables → w.entry.tail ≡ read_tail r
    → (k : CardCall) → k.entry.file ≡ file_of write_cards w
    → (b : WriteCall write_binary) → Handed b.entry.circuit k.counts (load_cards k.entry).tables → b.entry.tail ≡ []
    → file_of write_binary b ≡ r.entry.file
same-bytes-through-cards r short form =
    through-cards r (binary-file r.entry.file (read_circuit r) (read_tail r) form (shortest-read r short) (read-states r)).0
