-- Whole files there and back, of the calls: what the second call writes from what the first wrote is the first's file, byte for byte.
use Prim.Native.Nat.{ℕ, ◌≤◌}
use mathlib.Core.Path.{◌≡◌, refl, sym, ap, ◌∙◌, subst}
use mathlib.Core.Bool.{true}
use mathlib.Core.List.{List, [], append-nil}
use Rattle.std.specs.Prelude.{Ok, Option, Some}
use native.Mathlib.Omega.{arith}
use lib.Dec.{leb}
use lib.ListN.{length, take}
use Rattle.plan.specs.declared.Version.TheVariants.{V19}
use Rattle.plan.specs.declared.Refusal.TheVariants.{LongInput}
use Rattle.plan.specs.Refusals.{Parse, got, refused, ◌then◌}
use Rattle.plan.specs.Circuit.{Circuit, lengths_of}
use Rattle.plan.specs.Header.{binary, form_in}
use Rattle.plan.specs.Binary.{binary_of, binary_order}
use Rattle.plan.specs.Reading.{States, LongEnough}
use Rattle.plan.specs.Given.{lacking_room}
use Rattle.plan.specs.Outcome.{put}
use Rattle.plan.specs.Programs.{input}
use Rattle.plan.specs.Whole.{fitting_in}
use Rattle.laws.proofs.Put.{put_first}
use Rattle.laws.proofs.Reading.Common.{then-got, got-value, unless-got, cond-got}
use Rattle.laws.proofs.Reading.Differences.{Bytes}
use Rattle.laws.proofs.Reading.Exactly.{formed, unique}
use Rattle.laws.proofs.Reading.Shortest.{states-binary}
use Rattle.laws.proofs.Writing.Calls.{binary-file}
use Rattle.laws.proofs.Writing.WholeBack.{ShortestForm, shortest-form, fitting-done, input-done}
use Rattle.plan.specs.Cards.{cards_of, holdable, CardStates, read_cards, read_to_card, CardEntry, CardExit, moved_by, file_whole, card_whole, filed_cards, carded_file}
use Rattle.cards.proofs.Laws.Exactly.{cards-state, cards-read, cards-unique}
use Rattle.cards.proofs.Laws.Back.{no-tail, stated, card-read, stated-to-card}

-- an answer in bytes: they are what was to be written, and stand first in the buffer
wrote : (e : CardEntry) (p : Parse (List ℕ)) (n : ℕ) → (moved_by e p).answer ≡ Ok n
    → (bytes : List ℕ) × (k : ℕ) × (p ≡ got bytes k) × (take n (moved_by e p).out ≡ bytes)
wrote e (got bytes k) n a =
    let n-is : n ≡ length bytes = cc in
    (bytes, k, refl, ap (λ (x : ℕ). take x (put e.out 0 bytes)) n-is ∙ put_first e.out bytes)
wrote e (refused r) n a = let z : ◌≡◌ {A = ℕ} 0 1 = cc in absurd (omega arith)

-- what was to be written follows from an input that was read
came : (plan : Option (List ℕ)) (file : List ℕ) (f : List ℕ → Parse (List ℕ)) (bytes : List ℕ) (k : ℕ) → plan ≡ Some file
    → input plan f ≡ got bytes k → f file ≡ got bytes k
came plan file f bytes k e q =
    (cond-got (leb (length file) 65536) (f file) (LongInput 65536) bytes k (ap (λ (x : Option (List ℕ)). input x f) (sym e) ∙ q)).1

fitted : (out bytes b : List ℕ) (k : ℕ) → fitting_in out b ≡ got bytes k → b ≡ bytes
fitted out bytes b k q = got-value b bytes (length b) k (unless-got (lacking_room out 0 b) _ _ bytes k q).1

module _ (e : CardEntry) (file : List ℕ) (plan : e.plan ≡ Some file) (n : ℕ) where
  pub filed : (file_whole e).answer ≡ Ok n
      → (c : Circuit) × (s : ℕ) × (read_cards file (lengths_of e.tables e.scratch) ≡ got c s) × (take n (file_whole e).out ≡ binary_of c)
  filed a =
      let w = wrote e (filed_cards e) n a in
      let t = then-got (read_cards file (lengths_of e.tables e.scratch)) _ w.0 w.1 (came e.plan file _ w.0 w.1 plan w.2) in
      (t.0, t.1, t.2, w.3 ∙ sym (fitted e.out w.0 (binary_of t.0) w.1 t.3))

  pub carded : (card_whole e).answer ≡ Ok n
      → (c : Circuit) × (s : ℕ) × (read_to_card file (lengths_of e.tables e.scratch) ≡ got c s) × (take n (card_whole e).out ≡ cards_of c)
  carded a =
      let w = wrote e (carded_file e) n a in
      let t = then-got (read_to_card file (lengths_of e.tables e.scratch)) _ w.0 w.1 (came e.plan file _ w.0 w.1 plan w.2) in
      (t.0, t.1, t.2, w.3 ∙ sym (fitted e.out w.0 (cards_of t.0) w.1 t.3))

-- a binary file in the shortest form without a tail is the writer's of its circuit, which is in binary order
shortest-binary : (file : List ℕ) (c : Circuit) → form_in file ≡ binary → ShortestForm file → States V19 file c []
    → (file ≡ binary_of c) × (binary_order c ≡ true)
shortest-binary file c form short s =
    let f = binary-file file c [] form (shortest-form file short c [] s) s in
    (f.0 ∙ append-nil (binary_of c), f.1)

-- cards, moved to binary AIGER and from there to cards
pub cards-and-back : (e : CardEntry) (file : List ℕ) → e.plan ≡ Some file → Bytes file → (n : ℕ) → (file_whole e).answer ≡ Ok n
    → (f : CardEntry) → f.plan ≡ Some (take n (file_whole e).out) → Bytes (take n (file_whole e).out) → (m : ℕ) → (card_whole f).answer ≡ Ok m
    → take m (card_whole f).out ≡ file
cards-and-back e file plan bytes n a f again between m b =
    let x = filed e file plan n a in
    let c : Circuit = x.0 in
    let s = cards-state file (lengths_of e.tables e.scratch) c x.1 x.2 bytes in
    let there : List ℕ = take n (file_whole e).out in
    let y = carded f there again m b in
    let d : Circuit = y.0 in
    let itself = states-binary there c [] s.formed (no-tail c) (x.3 ∙ sym (append-nil (binary_of c))) s.order in
    let same : d ≡ c = (unique V19 there d c [] [] (stated there (lengths_of f.tables f.scratch) between d y.1 y.2) itself).0 in
    y.3 ∙ (ap cards_of same ∙ sym s.cards)

-- a binary file in the shortest form, moved to cards and from there to binary AIGER
pub binary-and-back : (e : CardEntry) (file : List ℕ) → e.plan ≡ Some file → Bytes file → (n : ℕ) → (card_whole e).answer ≡ Ok n
    → form_in file ≡ binary → ShortestForm file
    → (f : CardEntry) → f.plan ≡ Some (take n (card_whole e).out) → Bytes (take n (card_whole e).out) → (m : ℕ) → (file_whole f).answer ≡ Ok m
    → take m (file_whole f).out ≡ file
binary-and-back e file plan bytes n a form short f filed-again between m b =
    let x = carded e file plan n a in
    let c : Circuit = x.0 in
    let lens = lengths_of e.tables e.scratch in
    let read = card-read file lens bytes c x.1 x.2 in
    let there : List ℕ = take n (card_whole e).out in
    let y = filed f there filed-again m b in
    let d : Circuit = y.0 in
    let again : CardStates there d = cards-state there (lengths_of f.tables f.scratch) d y.1 y.2 between in
    let itself : CardStates (cards_of c) c = cards-state (cards_of c) lens c (length (cards_of c)) read (subst Bytes x.3 between) in
    let same : d ≡ c = cards-unique there d c again (subst (λ (l : List ℕ). CardStates l c) (sym x.3) itself) in
    y.3 ∙ (ap binary_of same ∙ sym (shortest-binary file c form short (stated file lens bytes c x.1 x.2)).0)

-- with room neither call refuses, and the last buffer holds the file, all else as it was
filed-done : (e : CardEntry) (file : List ℕ) → e.plan ≡ Some file → length file ≤ 65536 → (c : Circuit) → CardStates file c
    → LongEnough c (lengths_of e.tables e.scratch) → length (binary_of c) ≤ length e.out
    → file_whole e ≡ moved_by e (got (binary_of c) (length (binary_of c)))
filed-done e file plan fits c s room space =
    let lens = lengths_of e.tables e.scratch in
    let read : read_cards file lens ≡ got c (length (cards_of c))
    = ap (λ (x : List ℕ). read_cards x lens) s.cards ∙ cards-read c s.formed s.order s.held lens room in
    ap (moved_by e) (input-done e.plan file (λ x. read_cards x lens then λ d _. fitting_in e.out (binary_of d)) plan fits
    ∙ (ap (λ (p : Parse Circuit). p then λ d _. fitting_in e.out (binary_of d)) read ∙ fitting-done e.out (binary_of c) space))

carded-done : (e : CardEntry) (file : List ℕ) → e.plan ≡ Some file → length file ≤ 65536 → (c : Circuit) → States V19 file c [] → binary_order c ≡ true
    → holdable c ≡ true → LongEnough c (lengths_of e.tables e.scratch) → length (cards_of c) ≤ length e.out
    → card_whole e ≡ moved_by e (got (cards_of c) (length (cards_of c)))
carded-done e file plan fits c s order held room space =
    let lens = lengths_of e.tables e.scratch in
    let read = stated-to-card file c lens s order held room in
    ap (moved_by e) (input-done e.plan file (λ x. read_to_card x lens then λ d _. fitting_in e.out (cards_of d)) plan fits
    ∙ (ap (λ (p : Parse Circuit). p then λ d _. fitting_in e.out (cards_of d)) read.1 ∙ fitting-done e.out (cards_of c) space))

-- the buffer after bytes that were written starts with them
first-bytes : (e : CardEntry) (bytes : List ℕ) (x : CardExit) → x ≡ moved_by e (got bytes (length bytes)) → take (length bytes) x.out ≡ bytes
first-bytes e bytes x said = ap (λ (y : CardExit). take (length bytes) y.out) said ∙ put_first e.out bytes

module _ (e : CardEntry) (file : List ℕ) (plan : e.plan ≡ Some file) (fits : length file ≤ 65536) (c : Circuit)
    (room : LongEnough c (lengths_of e.tables e.scratch)) where
  -- the carder after the filer
  pub cards-with-room : CardStates file c → length (binary_of c) ≤ length e.out
      → ((file_whole e).answer ≡ Ok (length (binary_of c)))
      × ((f : CardEntry) → f.plan ≡ Some (take (length (binary_of c)) (file_whole e).out) → length (binary_of c) ≤ 65536
      → LongEnough c (lengths_of f.tables f.scratch) → length file ≤ length f.out
      → card_whole f ≡ moved_by f (got file (length file)))
  cards-with-room s space =
      let first = filed-done e file plan fits c s room space in
      let there = binary_of c in
      let itself = states-binary there c [] s.formed (no-tail c) (sym (append-nil there)) s.order in (
        ap (λ (x : CardExit). x.answer) first,
        λ f plan' fits' room' space'.
            carded-done f there (plan' ∙ ap Some (first-bytes e there (file_whole e) first)) fits' c itself s.order s.held room'
            (subst (λ (l : List ℕ). length l ≤ length f.out) s.cards space')
            ∙ ap (λ (l : List ℕ). moved_by f (got l (length l))) (sym s.cards),
      )

  -- the filer after the carder, of a binary file in the shortest form without a tail, whose circuit cards can hold
  pub binary-with-room : States V19 file c [] → form_in file ≡ binary → ShortestForm file → holdable c ≡ true → length (cards_of c) ≤ length e.out
      → ((card_whole e).answer ≡ Ok (length (cards_of c)))
      × ((f : CardEntry) → f.plan ≡ Some (take (length (cards_of c)) (card_whole e).out) → length (cards_of c) ≤ 65536
      → LongEnough c (lengths_of f.tables f.scratch) → length file ≤ length f.out
      → file_whole f ≡ moved_by f (got file (length file)))
  binary-with-room s form short held space =
      let b = shortest-binary file c form short s in
      let first = carded-done e file plan fits c s b.1 held room space in
      let there = cards_of c in
      let itself : CardStates there c = record { cards = refl; formed = formed V19 file c [] s; order = b.1; held = held } in (
        ap (λ (x : CardExit). x.answer) first,
        λ f plan' fits' room' space'.
            filed-done f there (plan' ∙ ap Some (first-bytes e there (card_whole e) first)) fits' c itself room'
            (subst (λ (l : List ℕ). length l ≤ length f.out) b.0 space')
            ∙ ap (λ (l : List ℕ). moved_by f (got l (length l))) (sym b.0),
      )
