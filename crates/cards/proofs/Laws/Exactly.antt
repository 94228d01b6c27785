-- With room, cards are read as a circuit exactly if they state it; what they state they state alone.
use Prim.Native.Nat.{ℕ, zero, suc, ◌+◌, ◌*◌, ◌≤◌}
use mathlib.Core.Path.{◌≡◌, refl, sym, ap, ap₂, ◌∙◌, subst}
use mathlib.Core.Bool.{Bool, true, false, cond}
use mathlib.Core.Logic.{◌↔◌}
use mathlib.Core.List.{List, [], ◌∷◌, ◌++◌, append-nil}
use Rattle.std.specs.Prelude.{Option, Some, None}
use native.Mathlib.Omega.{arith}
use borrow.Author.Tests.{eqb-true, eq-eqb, ltb-false, le-ltb}
use lib.Dec.{eqb, ltb}
use lib.ListN.{length, drop, replicate, length-append, length-drop, drop_of_length-le}
use lib.Seq.{drop-drop, drop_at}
use Rattle.plan.specs.declared.Counts.{Counts}
use Rattle.plan.specs.declared.Refusal.TheVariants.{WrongByte, LargeCount, WrongSum, ShortTable, OutOfRange, NotInOrder, WrongMark}
use Rattle.plan.specs.Refusals.{got}
use Rattle.plan.specs.Circuit.{Circuit, counts_of, words_to_work, against, least_short, nexts}
use Rattle.plan.specs.Bytes.{values}
use Rattle.plan.specs.Header.{binary, over, adds}
use Rattle.plan.specs.Binary.{latches_from, binary_order}
use Rattle.plan.specs.Reading.{WellFormed, LongEnough}
use Rattle.plan.specs.Given.{or_else, failing, outside_in}
use Rattle.plan.specs.Cards.{word_at, word_bytes, mark_bytes, marked, head_card, word_cards, gate_cards, cards_of, all_zero, holdable, CardStates, counts_at}
use Rattle.plan.specs.Cards.{counts_placed, card_bytes, wrong_length, bad_length, latches_at, outputs_at, gates_at, wrong_in, wrong_marks, words_in, gates_in}
use Rattle.plan.specs.Cards.{carded, card_head, read_cards}
use Rattle.laws.proofs.Reading.Common.{got-value, got-next, then-got, and_left, and_right, and_intro}
use Rattle.laws.proofs.Reading.Differences.{Bytes}
use Rattle.laws.proofs.Reading.Headers.{AllMost, over_none, most-none}
use Rattle.laws.proofs.Reading.Runs.{BinaryOrder, order-exactly, length-lits, length-latches, length-nexts, nexts-latches}
use Rattle.laws.proofs.Running.Binary.{Bounded}
use Rattle.laws.proofs.Running.InOrder.{outputs-bounded, nexts-bounded, well-formed}
use Rattle.laws.proofs.Running.Resets.{resets-length}
use Rattle.laws.proofs.Writing.Nothing.{failing-none, none_inside, inside-none}
use Rattle.cards.proofs.Laws.Records.{Words, word_back, mark-none, mark-first, word_first, bytes_drop, words_back, words-marked, length-words}
use Rattle.cards.proofs.Laws.Records.{words-took, length-words-in, gates-back, gates-marked, length-gates, gates-took, length-gates-in}
use Rattle.cards.proofs.Laws.Passing.{past-none, past-got}

-- literals within the limits are numbers of 32 bits
bounded_words : (n : ℕ) (ls : List ℕ) → n ≤ 2000000 → Bounded n ls → Words ls
bounded_words n [] h b = tt
bounded_words n (l ∷ ls) h b = (omega (arith, b.0), bounded_words n ls h b.1)

pub empty-list : (l : List ℕ) → length l ≡ 0 → l ≡ []
empty-list [] e = refl
empty-list (x ∷ l) e = absurd (omega arith)

zeros-all : (rs : List ℕ) → all_zero rs ≡ true → rs ≡ replicate (length rs) 0
zeros-all [] h = refl
zeros-all (r ∷ rs) h =
    ap₂ (λ (x : ℕ) (l : List ℕ). x ∷ l) (eqb-true r 0 (and_left (eqb r 0) _ h)) (zeros-all rs (and_right (eqb r 0) _ h))

pub all-zeros : (n : ℕ) → all_zero (replicate n 0) ≡ true
all-zeros zero = refl
all-zeros (suc n) = all-zeros n

-- 1: a length that is neither cut nor continued
length-right : (asked size : ℕ) → wrong_length asked size ≡ None → size ≡ asked
length-right asked size e = go (ltb size asked) refl (ltb asked size) refl e
  where
    go : (s : Bool) → ltb size asked ≡ s → (t : Bool) → ltb asked size ≡ t → cond s (Some size) (cond t (Some asked) None) ≡ None → size ≡ asked
    go true p t q k = let z : ◌≡◌ {A = ℕ} 0 1 = cc in absurd (omega arith)
    go false p true q k = let z : ◌≡◌ {A = ℕ} 0 1 = cc in absurd (omega arith)
    go false p false q k = omega (arith, ltb-false size asked p, ltb-false asked size q)

pub right-length : (asked size : ℕ) → size ≡ asked → wrong_length asked size ≡ None
right-length asked size e = rw (le-ltb size asked (omega arith), le-ltb asked size (omega arith))

pub length_none : (file : List ℕ) → bad_length file ≡ None → length file ≡ card_bytes (counts_at file)
length_none file e = go (ltb (length file) 22) e
  where
    go : (s : Bool) → cond s (Some (length file)) (wrong_length (card_bytes (counts_at file)) (length file)) ≡ None → length file ≡ card_bytes (counts_at file)
    go true k = let z : ◌≡◌ {A = ℕ} 0 1 = cc in absurd (omega arith)
    go false k = length-right (card_bytes (counts_at file)) (length file) k

none-length : (file : List ℕ) → length file ≡ card_bytes (counts_at file) → bad_length file ≡ None
none-length file e =
    rw (le-ltb (length file) 22 (omega arith)) (right-length (card_bytes (counts_at file)) (length file) e)

-- the cards of a circuit are read
module _ (c : Circuit) (w : WellFormed c) (o : binary_order c ≡ true) (k : holdable c ≡ true) where
  abbrev n : Counts
  n = counts_of c

  abbrev file : List ℕ
  file = cards_of c

  in_order : BinaryOrder c
  in_order = (order-exactly c).0 o

  no-bads : c.bads ≡ []
  no-bads = empty-list c.bads (eqb-true _ _ (and_left (eqb (length c.bads) 0) _ (and_right (all_zero c.resets) _ k)))

  no-constraints : c.constraints ≡ []
  no-constraints =
      empty-list c.constraints (eqb-true _ _ (and_right (eqb (length c.bads) 0) _ (and_right (all_zero c.resets) _ k)))

  reset-zeros : c.resets ≡ replicate (length c.latches) 0
  reset-zeros =
      zeros-all c.resets (and_left (all_zero c.resets) _ k)
      ∙ ap (λ (x : ℕ). replicate x 0) (resets-length c.latches c.resets w.resets)

  counts-read : counts_at file ≡ n
  counts-read =
      let e-M = word_back c.M [] (omega (arith, w.most-M)) in
      let e-I = word_back n.I [] (omega (arith, w.most-I)) in
      let e-L = word_back n.L [] (omega (arith, w.most-L)) in
      let e-O = word_back n.O [] (omega (arith, w.most-O)) in
      let e-A = word_back n.A [] (omega (arith, w.most-A)) in
      λ i. record { M = e-M i; I = e-I i; L = e-L i; O = e-O i; A = e-A i; B = length (sym no-bads i); C = length (sym no-constraints i) }

  next-words : Words (nexts c.latches)
  next-words =
      bounded_words (suc c.M) (nexts c.latches) (omega (arith, w.most-M))
      (nexts-bounded c.M (suc c.M) c.latches (omega arith) w.latches)

  output-words : Words c.outputs
  output-words =
      bounded_words (suc c.M) c.outputs (omega (arith, w.most-M))
      (outputs-bounded c.M (suc c.M) c.outputs (omega arith) w.outputs)

  -- where the three parts stand
  abbrev last : List ℕ
  last = gate_cards c.gates

  abbrev second : List ℕ
  second = word_cards 79 c.outputs ++ last

  nexts-many : length (nexts c.latches) ≡ n.L
  nexts-many = length-nexts c.latches

  outputs-there : drop (outputs_at n) file ≡ second
  outputs-there =
      sym (drop-drop (6 * n.L) 22 file)
      ∙ drop_at (word_cards 76 (nexts c.latches)) second (6 * n.L) (length-words 76 (nexts c.latches) ∙ ap (λ (x : ℕ). 6 * x) nexts-many)

  gates-there : drop (gates_at n) file ≡ last
  gates-there =
      sym (drop-drop (6 * n.O) (outputs_at n) file)
      ∙ (ap (drop (6 * n.O)) outputs-there ∙ drop_at (word_cards 79 c.outputs) last (6 * n.O) (length-words 79 c.outputs))

  pub size_is : length file ≡ card_bytes n
  size_is =
      omega (
        arith,
        length-append (word_cards 76 (nexts c.latches)) second,
        length-append (word_cards 79 c.outputs) last,
        length-words 76 (nexts c.latches),
        nexts-many,
        length-words 79 c.outputs,
        length-gates c.gates,
      )

  marks-right : wrong_marks file n ≡ None
  marks-right =
      ap₂ or_else (ap (λ (x : ℕ). wrong_in 76 6 x latches_at (word_cards 76 (nexts c.latches) ++ second)) (sym nexts-many)
      ∙ words-marked 76 (nexts c.latches) second latches_at)
      (ap₂ or_else (ap (wrong_in 79 6 n.O (outputs_at n)) outputs-there ∙ words-marked 79 c.outputs last (outputs_at n))
      (ap (wrong_in 65 10 n.A (gates_at n)) (gates-there ∙ sym (append-nil last)) ∙ gates-marked c.gates [] (gates_at n)))

  pub carded-is : carded file n ≡ c
  carded-is =
      let lats : latches_from (1 + n.I) (words_in n.L (drop latches_at file)) ≡ c.latches
      = ap (latches_from (1 + n.I)) (ap (λ (x : ℕ). words_in x (word_cards 76 (nexts c.latches) ++ second)) (sym nexts-many)
      ∙ words_back 76 (nexts c.latches) second next-words) ∙ sym in_order.latches in
      let outs : words_in n.O (drop (outputs_at n) file) ≡ c.outputs
      = ap (words_in n.O) outputs-there ∙ words_back 79 c.outputs last output-words in
      let gs : gates_in (1 + n.I + n.L) n.A (drop (gates_at n) file) ≡ c.gates
      = ap (gates_in (1 + n.I + n.L) n.A) (gates-there ∙ sym (append-nil last))
      ∙ gates-back (1 + n.I + n.L) c.gates [] in_order.gates (omega (arith, w.most-M, in_order.sum)) in
      let ins = sym in_order.inputs in
      let rs = sym reset-zeros in
      let bs = sym no-bads in
      let cs = sym no-constraints in
      λ i. record {
        M = c.M;
        inputs = ins i;
        latches = lats i;
        resets = rs i;
        outputs = outs i;
        bads = bs i;
        constraints = cs i;
        gates = gs i;
      }

  head_read : card_head file ≡ got n 22
  head_read =
      past-none WrongByte _ (bad_length file) (none-length file (size_is ∙ ap card_bytes (sym counts-read)))
      ∙ (past-none WrongMark _ (wrong_marks file (counts_at file)) (ap (wrong_marks file) counts-read ∙ marks-right)
      ∙ (past-none LargeCount _ (over (counts_placed (counts_at file)))
      (ap (λ (x : Counts). over (counts_placed x)) counts-read
      ∙ most-none (counts_placed n) (w.most-M, (w.most-I, (w.most-L, (w.most-O, (w.most-A, tt))))))
      ∙ (past-none WrongSum _ (failing (adds binary (counts_at file)))
      (ap (λ (x : Counts). failing (adds binary x)) counts-read ∙ ap failing (eq-eqb _ _ in_order.sum))
      ∙ ap (λ (x : Counts). got x 22) counts-read)))

  pub cards-read : (lengths : List ℕ) → LongEnough c lengths → read_cards file lengths ≡ got c (length file)
  cards-read lengths room =
      let inside : outside_in c ≡ None
      = inside-none c (record {
        inputs = w.inputs;
        latches = w.latches;
        outputs = w.outputs;
        gates = w.gates;
        resets = w.resets;
        bads = w.bads;
        constraints = w.constraints;
      }) in
      rw head_read
      (past-none ShortTable _ (least_short (against 1 (words_to_work n) lengths)) room
      ∙ (past-none OutOfRange _ (outside_in (carded file n)) (ap outside_in carded-is ∙ inside)
      ∙ (past-none NotInOrder _ (failing (binary_order (carded file n))) (ap (λ (x : Circuit). failing (binary_order x)) carded-is ∙ ap failing o)
      ∙ ap (λ (x : Circuit). got x (length file)) carded-is)))

-- 18: no mark is wrong in any part
four-none : (a b c d : Option ℕ) → or_else a (or_else b (or_else c d)) ≡ None → (a ≡ None) × (b ≡ None) × (c ≡ None) × (d ≡ None)
four-none None None None d e = (refl, refl, refl, e)
four-none None None (Some x) d e = let z : ◌≡◌ {A = ℕ} 0 1 = cc in absurd (omega arith)
four-none None (Some x) c d e = let z : ◌≡◌ {A = ℕ} 0 1 = cc in absurd (omega arith)
four-none (Some x) b c d e = let z : ◌≡◌ {A = ℕ} 0 1 = cc in absurd (omega arith)

pub marks-none : (file : List ℕ) (n : Counts) → wrong_marks file n ≡ None
    → (wrong_in 72 22 1 0 file ≡ None) × (wrong_in 76 6 n.L latches_at (drop latches_at file) ≡ None)
    × (wrong_in 79 6 n.O (outputs_at n) (drop (outputs_at n) file) ≡ None) × (wrong_in 65 10 n.A (gates_at n) (drop (gates_at n) file) ≡ None)
marks-none file n e =
    four-none (wrong_in 72 22 1 0 file) (wrong_in 76 6 n.L latches_at (drop latches_at file))
    (wrong_in 79 6 n.O (outputs_at n) (drop (outputs_at n) file)) (wrong_in 65 10 n.A (gates_at n) (drop (gates_at n) file)) e

-- what is read was stated
module _ (file : List ℕ) where
  abbrev told : Counts
  told = counts_at file

  abbrev made : Circuit
  made = carded file told

  -- the counts of the circuit that is read
  pub made-counts : counts_of made ≡ told
  made-counts =
      let lats = length-latches (1 + told.I) (words_in told.L (drop latches_at file)) ∙ length-words-in told.L (drop latches_at file) in
      λ i. record {
        M = told.M;
        I = length-lits 1 told.I i;
        L = lats i;
        O = length-words-in told.O (drop (outputs_at told) file) i;
        A = length-gates-in (1 + told.I + told.L) told.A (drop (gates_at told) file) i;
        B = 0;
        C = 0;
      }

  pub made_held : holdable made ≡ true
  made_held = and_intro (all_zero (replicate told.L 0)) _ (all-zeros told.L) refl

  -- under the right marks and of the right length the file is the cards of the circuit that is read
  module _ (bytes : Bytes file) (size : length file ≡ card_bytes told) (marks : wrong_marks file told ≡ None) where
    there : (at : ℕ) → at + 4 ≤ length file → drop at file ≡ word_bytes (word_at file at) ++ drop (at + 4) file
    there at h =
        let long : 4 ≤ length (drop at file) = omega (arith, length-drop at file) in
        word_first (drop at file) long (bytes_drop at file bytes)
        ∙ ap (λ (x : List ℕ). word_bytes (word_at file at) ++ x) (drop-drop 4 at file)

    head-took : file ≡ head_card told ++ drop 22 file
    head-took =
        let m = (marks-none file told marks).0 in
        let first : file ≡ mark_bytes 72 ++ drop 2 file = mark-first 72 file (omega arith) (mark-none (marked 72 file) None 0 m).0 in
        first ∙ ap (λ (x : List ℕ). mark_bytes 72 ++ x)
        (there 2 (omega arith) ∙ ap (λ (x : List ℕ). word_bytes told.M ++ x)
        (there 6 (omega arith) ∙ ap (λ (x : List ℕ). word_bytes told.I ++ x)
        (there 10 (omega arith) ∙ ap (λ (x : List ℕ). word_bytes told.L ++ x)
        (there 14 (omega arith) ∙ ap (λ (x : List ℕ). word_bytes told.O ++ x) (there 18 (omega arith))))))

    pub cards-are : file ≡ cards_of made
    cards-are =
        let m = marks-none file told marks in
        let l22 : 6 * told.L ≤ length (drop latches_at file) = omega (arith, length-drop 22 file) in
        let lats = words-took 76 told.L latches_at (drop latches_at file) l22 (bytes_drop 22 file bytes) m.1 in
        let lo : 6 * told.O ≤ length (drop (outputs_at told) file) = omega (arith, length-drop (outputs_at told) file) in
        let outs = words-took 79 told.O (outputs_at told) (drop (outputs_at told) file) lo (bytes_drop (outputs_at told) file bytes) m.2 in
        let lg : 10 * told.A ≤ length (drop (gates_at told) file) = omega (arith, length-drop (gates_at told) file) in
        let gs = gates-took (1 + told.I + told.L) told.A (gates_at told) (drop (gates_at told) file) lg
        (bytes_drop (gates_at told) file bytes) m.3 in
        let end : drop (10 * told.A) (drop (gates_at told) file) ≡ []
        = drop_of_length-le (drop (gates_at told) file) {i = 10 * told.A} (omega (arith, length-drop (gates_at told) file)) in
        let ns-are : words_in told.L (drop latches_at file) ≡ nexts made.latches
        = sym (nexts-latches (1 + told.I) (words_in told.L (drop latches_at file))) in
        head-took ∙ ap₂ (λ (x y : List ℕ). x ++ y) (ap head_card (sym made-counts))
        (lats ∙ ap₂ (λ (x y : List ℕ). word_cards 76 x ++ y) ns-are
        (drop-drop (6 * told.L) 22 file
        ∙ (outs ∙ ap (λ (x : List ℕ). word_cards 79 made.outputs ++ x)
        (drop-drop (6 * told.O) (outputs_at told) file
        ∙ (gs ∙ (ap (λ (x : List ℕ). gate_cards made.gates ++ x) end ∙ append-nil (gate_cards made.gates)))))))

-- what each check says of an accepted file
pub record Accepted (file lengths : List ℕ) : Type 0 where
  pub size : length file ≡ card_bytes (counts_at file)
  pub marks : wrong_marks file (counts_at file) ≡ None
  pub small : AllMost (values (counts_placed (counts_at file)))
  pub sum : adds binary (counts_at file) ≡ true
  pub room : least_short (against 1 (words_to_work (counts_at file)) lengths) ≡ None
  pub inside : outside_in (carded file (counts_at file)) ≡ None
  pub order : binary_order (carded file (counts_at file)) ≡ true

pub head-accepted : (file : List ℕ) (n : Counts) (at : ℕ) → card_head file ≡ got n at
    → (length file ≡ card_bytes (counts_at file)) × (wrong_marks file (counts_at file) ≡ None) × AllMost (values (counts_placed (counts_at file)))
    × (adds binary (counts_at file) ≡ true) × (n ≡ counts_at file)
head-accepted file n at q =
    let a1 = past-got WrongByte _ (bad_length file) n at q in
    let a2 = past-got WrongMark _ (wrong_marks file (counts_at file)) n at a1.1 in
    let a3 = past-got LargeCount _ (over (counts_placed (counts_at file))) n at a2.1 in
    let a4 = past-got WrongSum _ (failing (adds binary (counts_at file))) n at a3.1 in (
      length_none file a1.0,
      a2.0,
      over_none (counts_placed (counts_at file)) a3.0,
      failing-none (adds binary (counts_at file)) a4.0,
      sym (got-value (counts_at file) n 22 at a4.1),
    )

module _ (file lengths : List ℕ) (c : Circuit) (start : ℕ) (q : read_cards file lengths ≡ got c start) where
  parts : Accepted file lengths × (carded file (counts_at file) ≡ c) × (length file ≡ start)
  parts =
      let t = then-got (card_head file) _ c start q in
      let h = head-accepted file t.0 t.1 t.2 in
      let n-is : t.0 ≡ counts_at file = h.4 in
      let b1 = past-got ShortTable _ (least_short (against 1 (words_to_work t.0) lengths)) c start t.3 in
      let b2 = past-got OutOfRange _ (outside_in (carded file t.0)) c start b1.1 in
      let b3 = past-got NotInOrder _ (failing (binary_order (carded file t.0))) c start b2.1 in (
        record {
          size = h.0;
          marks = h.1;
          small = h.2;
          sum = h.3;
          room = ap (λ (x : Counts). least_short (against 1 (words_to_work x) lengths)) (sym n-is) ∙ b1.0;
          inside = ap (λ (x : Counts). outside_in (carded file x)) (sym n-is) ∙ b2.0;
          order = ap (λ (x : Counts). binary_order (carded file x)) (sym n-is) ∙ failing-none _ b3.0;
        },
        ap (carded file) (sym n-is) ∙ got-value (carded file t.0) c (length file) start b3.1,
        got-next (carded file t.0) c (length file) start b3.1,
      )

  pub all-cards : start ≡ length file
  all-cards = sym parts.2

  -- the circuit that is read is well formed
  made-formed : WellFormed (made file)
  made-formed =
      let a = parts.0 in
      let d = made file in
      let i = none_inside d a.inside in
      well-formed d ((order-exactly d).0 a.order) a.small.0
      (omega (arith, a.small.1.1.1.0, length-words-in (told file).O (drop (outputs_at (told file)) file))) (omega arith) (omega arith) i.resets
      (nexts-bounded d.M (suc d.M) d.latches (omega arith) i.latches)
      (outputs-bounded d.M (suc d.M) d.outputs (omega arith) i.outputs) tt tt

  pub cards-formed : WellFormed c
  cards-formed = subst WellFormed parts.1 made-formed

  pub cards-order : binary_order c ≡ true
  cards-order = ap binary_order (sym parts.1) ∙ parts.0.order

  pub cards-state : Bytes file → CardStates file c
  cards-state bytes = record {
    cards = cards-are file bytes parts.0.size parts.0.marks ∙ ap cards_of parts.1;
    formed = cards-formed;
    order = cards-order;
    held = ap holdable (sym parts.1) ∙ made_held file;
  }

  pub cards-room : LongEnough c lengths
  cards-room =
      subst (λ (d : Circuit). LongEnough d lengths) parts.1
      (ap (λ (x : Counts). least_short (against 1 (words_to_work x) lengths)) (made-counts file) ∙ parts.0.room)

-- with room, exactly if
pub cards-exactly : (file lengths : List ℕ) → Bytes file → (c : Circuit) → LongEnough c lengths
    → (read_cards file lengths ≡ got c (length file)) ↔ CardStates file c
cards-exactly file lengths bytes c room = (λ q. cards-state file lengths c (length file) q bytes, reads)
  where
    reads : CardStates file c → read_cards file lengths ≡ got c (length file)
    reads s =
        ap (λ (x : List ℕ). read_cards x lengths) s.cards
        ∙ (cards-read c s.formed s.order s.held lengths room ∙ ap (λ (x : List ℕ). got c (length x)) (sym s.cards))

-- cards state at most one circuit
pub cards-unique : (file : List ℕ) (c d : Circuit) → CardStates file c → CardStates file d → c ≡ d
cards-unique file c d s r =
    let counts : counts_of c ≡ counts_of d
    = sym (counts-read c s.formed s.order s.held) ∙ (ap counts_at (sym s.cards ∙ r.cards)
    ∙ counts-read d r.formed r.order r.held) in
    sym (carded-is c s.formed s.order s.held)
    ∙ (ap₂ carded (sym s.cards ∙ r.cards) counts ∙ carded-is d r.formed r.order r.held)
