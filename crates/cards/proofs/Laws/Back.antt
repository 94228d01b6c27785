-- The same bytes there and back, over the definitions: cards to binary AIGER to cards; and a binary file in the shortest form, without
-- symbols, comment, bad states and constraints and with resets of 0, to cards and back.
use Prim.Native.Nat.{ℕ}
use mathlib.Core.Path.{◌≡◌, refl, sym, ap, ap₂, ◌∙◌, subst}
use mathlib.Core.Bool.{true, ◌&&◌}
use mathlib.Core.List.{List, [], append-nil}
use borrow.Author.Tests.{eqb-true, eq-eqb}
use lib.Dec.{eqb}
use lib.ListN.{length, drop}
use lib.Seq.{drop-length}
use Rattle.plan.specs.declared.Version.TheVariants.{V19}
use Rattle.plan.specs.declared.Refusal.TheVariants.{NotInOrder, NotOnCards}
use Rattle.plan.specs.Refusals.{Parse, got, ◌then◌}
use Rattle.plan.specs.Circuit.{Circuit, counts_of}
use Rattle.plan.specs.Header.{Head, binary, header}
use Rattle.plan.specs.Binary.{binary_of, binary_order}
use Rattle.plan.specs.Tail.{TailOk, empty}
use Rattle.plan.specs.Reading.{read_file, read_to_work, WellFormed, States, Shortest, LongEnough}
use Rattle.plan.specs.Given.{failing, lacking_room}
use Rattle.plan.specs.Cards.{cards_of, holdable, past, read_cards, read_to_card}
use Rattle.laws.proofs.Reading.Common.{then-got, got-value, got-next, and_left, and_right, and_intro}
use Rattle.laws.proofs.Reading.Differences.{Bytes}
use Rattle.laws.proofs.Reading.Exactly.{sound, complete, formed, work-read, room-to-read}
use Rattle.laws.proofs.Writing.Back.{binary-back}
use Rattle.laws.proofs.Writing.Nothing.{failing-none}
use Rattle.laws.proofs.Writing.ThereAndBack.{binary-shortest}
use Rattle.cards.proofs.Laws.Passing.{past-none, past-got}
use Rattle.cards.proofs.Laws.Exactly.{empty-list, cards-state, cards-room, cards-read}

pub no-tail : (c : Circuit) → TailOk V19 (counts_of c) []
no-tail c = record { symbols = []; rest = []; parts = refl; good = refl; remark = empty }

-- what an AIGER file for cards says
module _ (file lengths : List ℕ) (c : Circuit) (start : ℕ) (q : read_to_card file lengths ≡ got c start) where
  pub card-parts : (read_file V19 file lengths ≡ got c start) × LongEnough c lengths × (binary_order c ≡ true) × (drop start file ≡ []) × (holdable c ≡ true)
  card-parts =
      let t = then-got (read_to_work file lengths lengths) _ c start q in
      let d = t.0 in
      let p15 = past-got NotInOrder _ (failing (binary_order d)) c start t.3 in
      let p19 = past-got NotOnCards _ (failing (eqb (length (drop t.1 file)) 0 && holdable d)) c start p15.1 in
      let c-is : d ≡ c = got-value d c t.1 start p19.1 in
      let s-is : t.1 ≡ start = got-next d c t.1 start p19.1 in
      let both = failing-none (eqb (length (drop t.1 file)) 0 && holdable d) p19.0 in
      let r = work-read file lengths lengths d t.1 t.2 in (
        r.0 ∙ ap₂ got c-is s-is,
        subst (λ (x : Circuit). LongEnough x lengths) c-is r.1,
        ap binary_order (sym c-is) ∙ failing-none (binary_order d) p15.0,
        ap (λ (k : ℕ). drop k file) (sym s-is) ∙ empty-list (drop t.1 file) (eqb-true _ _ (and_left (eqb (length (drop t.1 file)) 0) _ both)),
        ap holdable (sym c-is) ∙ and_right (eqb (length (drop t.1 file)) 0) _ both,
      )

-- a circuit in binary order that cards can hold, read from a file that states it without a tail
pub stated-to-card : (file : List ℕ) (c : Circuit) (lengths : List ℕ) → States V19 file c [] → binary_order c ≡ true → holdable c ≡ true → LongEnough c lengths
    → (start : ℕ) × (read_to_card file lengths ≡ got c start)
stated-to-card file c lengths s o k lacking_room =
    let a = complete V19 file lengths c [] s (room-to-read file c lengths (formed V19 file c [] s) lacking_room) in
    let start : ℕ = a.0 in
    let work : read_to_work file lengths lengths ≡ got c start = rw (a.1, lacking_room) in
    let held : (eqb (length (drop start file)) 0 && holdable c) ≡ true
    = and_intro (eqb (length (drop start file)) 0) (holdable c) (eq-eqb _ _ (ap length a.2)) k in (
      start,
      ap (λ (p : Parse Circuit). p then λ d start. later d start) work
          ∙ (past-none NotInOrder _ (failing (binary_order c)) (ap failing o)
          ∙ past-none NotOnCards _ (failing (eqb (length (drop start file)) 0 && holdable c)) (ap failing held)),
    )
  where
    later : Circuit → ℕ → Parse Circuit
    later d start =
        past (failing (binary_order d)) NotInOrder then λ _ _.
        past (failing (eqb (length (drop start file)) 0 && holdable d)) NotOnCards then λ _ _.
        got d start

-- from its binary file: its length is the start of the tail that is not there
pub binary-to-card : (c : Circuit) (lengths : List ℕ) → WellFormed c → binary_order c ≡ true → holdable c ≡ true → LongEnough c lengths
    → read_to_card (binary_of c) lengths ≡ got c (length (binary_of c))
binary-to-card c lengths w o k lacking_room =
    let file : List ℕ = binary_of c in
    let accepted : read_file V19 file lengths ≡ got c (length file)
    = ap (λ (x : List ℕ). read_file V19 x lengths) (sym (append-nil file)) ∙ binary-back c [] lengths w (no-tail c) lacking_room o in
    let work : read_to_work file lengths lengths ≡ got c (length file) = rw (accepted, lacking_room) in
    let held : (eqb (length (drop (length file) file)) 0 && holdable c) ≡ true
    = and_intro (eqb (length (drop (length file) file)) 0) (holdable c) (eq-eqb _ _ (ap length (drop-length file))) k in
    ap (λ (p : Parse Circuit). p then λ d start. later d start) work
    ∙ (past-none NotInOrder _ (failing (binary_order c)) (ap failing o)
    ∙ past-none NotOnCards _ (failing (eqb (length (drop (length file) file)) 0 && holdable c)) (ap failing held))
  where
    later : Circuit → ℕ → Parse Circuit
    later d start =
        past (failing (binary_order d)) NotInOrder then λ _ _.
        past (failing (eqb (length (drop start (binary_of c))) 0 && holdable d)) NotOnCards then λ _ _.
        got d start

-- cards, and what is written from them: read as cards, written as binary, read for cards, the cards are the same
pub cards-back : (file lengths : List ℕ) → Bytes file → (c : Circuit) (start : ℕ) → read_cards file lengths ≡ got c start
    → (read_to_card (binary_of c) lengths ≡ got c (length (binary_of c))) × (cards_of c ≡ file)
cards-back file lengths bytes c start q =
    let s = cards-state file lengths c start q bytes in
    (binary-to-card c lengths s.formed s.order s.held (cards-room file lengths c start q), sym s.cards)

-- a binary file in the shortest form that is read for cards: its cards are read as the same circuit, whose binary file it is
module _ (file lengths : List ℕ) (bytes : Bytes file) (c : Circuit) (start : ℕ) (q : read_to_card file lengths ≡ got c start) where
  pub stated : States V19 file c []
  stated =
      let p = card-parts file lengths c start q in
      subst (States V19 file c) p.3 (sound V19 file lengths bytes c start p.0).0

  pub card-read : read_cards (cards_of c) lengths ≡ got c (length (cards_of c))
  card-read =
      let p = card-parts file lengths c start q in
      cards-read c (formed V19 file c [] stated) p.2 p.4 lengths p.1

  pub binary-again : (h : Head) (at : ℕ) → header V19 file 0 ≡ got h at → h.form ≡ binary → Shortest file c [] → binary_of c ≡ file
  binary-again h at head form short = sym (binary-shortest file c [] h at head form short ∙ append-nil (binary_of c))
