-- A whole file's answer by what was read and what was put into the buffer.
use Prim.Native.Nat.{ℕ, ◌-◌, ◌<◌, ◌≤◌}
use mathlib.Core.Path.{◌≡◌, refl, sym, ap, ◌∙◌, subst}
use mathlib.Core.Bool.{Bool, true, false, cond, ◌&&◌}
use mathlib.Core.List.{List, [], ◌∷◌, ◌++◌, append-nil}
use Rattle.std.specs.Prelude.{Ok, Err, Option, Some, None}
use native.Mathlib.Omega.{arith}
use borrow.Author.Tests.{le-leb, lt-leb}
use borrow.Rule.Slice.PartMut.{mid_of}
use lib.Dec.{eqb, leb}
use lib.ListN.{length, drop}
use lib.Seq.{drop-length}
use Rattle.plan.specs.declared.Version.TheVariants.{V19}
use Rattle.plan.specs.declared.Counts.{Counts}
use Rattle.plan.specs.declared.Refusal.{Refusal}
use Rattle.plan.specs.declared.Refusal.TheVariants.{ShortBuffer, LongInput, Unreadable, NotInOrder, NotOnCards}
use Rattle.plan.specs.Refusals.{Parse, got, refused, ◌then◌, unless, stage, first_of}
use Rattle.plan.specs.Circuit.{Circuit, Tables, lengths_of, cleared, all_cleared}
use Rattle.plan.specs.Binary.{binary_of, binary_order}
use Rattle.plan.specs.Tail.{TailOk}
use Rattle.plan.specs.Given.{Given, given_circuit, lent_alone, failing, stages, order_stage, refusal_of, tail_stage, lacking_room, room_stage}
use Rattle.plan.specs.Outcome.{WriteExit, ReadEntry, LoadExit, load_by, FileEntry, FileExit, written_by, write_binary}
use Rattle.plan.specs.Programs.{input}
use Rattle.plan.specs.Whole.{input_of, fitting_in}
use Rattle.laws.proofs.Reading.Tails.{tail-exactly}
use Rattle.laws.proofs.Writing.Nothing.{both_first, one-stage}
use Rattle.laws.proofs.Writing.Later.{Left}
use Rattle.read.proofs.Answers.{part-from}
use Rattle.tables.specs.Lengths.{sizes_of}
use Rattle.whole.specs.Opening.{OpenEntry, opening, opened}
use Rattle.whole.specs.Parts.{told_by}
use Rattle.whole.proofs.Files.{after-input}
use Rattle.plan.specs.Cards.{cards_of, holdable, past, read_cards, load_cards, card_stage, write_cards, CardEntry, CardExit, moved_by, carded_file}
use Rattle.cards.proofs.Laws.Exactly.{cards-order, all-cards}
use Rattle.cards.proofs.Laws.Calls.{cards-left}

-- an input that can't be read, or is too long
module _ (file out : List ℕ) (f : List ℕ → Parse (List ℕ)) (b : Bool) where
  pub unreadable : b ≡ false → ◌≡◌ {A = WriteExit} (record { answer = Err (Unreadable 0); out = out }) (told_by out (input (input_of b file) f))
  unreadable e = sym (ap (λ (x : Bool). told_by out (input (input_of x file) f)) e)

  within : b ≡ true → (t : Bool) → leb (length file) 65536 ≡ t
      → told_by out (input (input_of b file) f) ≡ told_by out (cond t (f file) (refused (LongInput 65536)))
  within e t q =
      ap (λ (x : Bool). told_by out (input (input_of x file) f)) e ∙ ap (λ (x : Bool). told_by out (cond x (f file) (refused (LongInput 65536)))) q

  pub too_long : b ≡ true → 65536 < length file
      → ◌≡◌ {A = WriteExit} (record { answer = Err (LongInput 65536); out = out }) (told_by out (input (input_of b file) f))
  too_long e h = sym (within e false (lt-leb (length file) 65536 h))

  pub was_read : b ≡ true → length file ≤ 65536 → told_by out (f file) ≡ told_by out (input (input_of b file) f)
  was_read e h = sym (within e true (le-leb (length file) 65536 h))

-- what a writer answered, by its last stage
wrote_by : (e : FileEntry) (bytes : List ℕ) (o : Option ℕ)
    → ◌≡◌ {A = WriteExit} (record { answer = (written_by (stage ShortBuffer o) e bytes).answer; out = (written_by (stage ShortBuffer o) e bytes).out })
    (told_by e.out (unless o ShortBuffer (got bytes (length bytes))))
wrote_by e bytes None = refl
wrote_by e bytes (Some k) = refl

-- an accepted reader of cards
module _ (e : ReadEntry) (x : LoadExit) (said : x ≡ load_cards e) where
  pub cards-refused : (r : Refusal) → x.answer ≡ Err r → read_cards e.file (lengths_of e.tables e.scratch) ≡ refused r
  cards-refused r q = go (read_cards e.file (lengths_of e.tables e.scratch)) (ap (λ (y : LoadExit). y.answer) (sym said) ∙ q)
    where
      go : (p : Parse Circuit) → (load_by e p).answer ≡ Err r → p ≡ refused r
      go (got c s) k = let z : ◌≡◌ {A = ℕ} 0 1 = cc in absurd (omega arith)
      go (refused j) k = let j-is : j ≡ r = cc in ap refused j-is

  module _ (n : Counts) (start : ℕ) (q : x.answer ≡ Ok (n, start)) where
    cards-got : (c : Circuit) × (read_cards e.file (lengths_of e.tables e.scratch) ≡ got c start)
        × Left (record { counts = n; tables = x.tables; scratch = x.scratch }) c
    cards-got =
        let l = cards-left e n start (ap (λ (y : LoadExit). y.answer) (sym said) ∙ q) in
        (l.0, l.1, subst (λ (y : LoadExit). Left (record { counts = n; tables = y.tables; scratch = y.scratch }) l.0) (sym said) l.2)

    pub cards-end : start ≡ length e.file
    cards-end = all-cards e.file (lengths_of e.tables e.scratch) cards-got.0 start cards-got.1

    -- what stands in the tables passes every check, and is written as binary
    pub cards-filed : (tail out : List ℕ) → tail ≡ mid_of start (length e.file - start) e.file → (y : FileExit)
        → y ≡ write_binary (record { circuit = record { counts = n; tables = x.tables; scratch = x.scratch }; tail = tail; out = out })
        → ◌≡◌ {A = WriteExit} (record { answer = y.answer; out = y.out })
        (told_by out (read_cards e.file (lengths_of e.tables e.scratch) then λ d _. fitting_in out (binary_of d)))
    cards-filed tail out t-is y y-is =
        let g : Given = record { counts = n; tables = x.tables; scratch = x.scratch } in
        let c : Circuit = cards-got.0 in
        let l = cards-got.2 in
        let nothing : tail ≡ []
        = t-is ∙ (part-from start e.file ∙ (ap (λ (k : ℕ). drop k e.file) cards-end ∙ drop-length e.file)) in
        let f : FileEntry = record { circuit = g; tail = []; out = out } in
        let file : List ℕ = binary_of (given_circuit g) ++ [] in
        let in_order : binary_order (given_circuit g) ≡ true
        = ap binary_order l.holds ∙ cards-order e.file (lengths_of e.tables e.scratch) c start cards-got.1 in
        let last : first_of (stages g (lent_alone g) ++ (order_stage g ∷ tail_stage g [] ∷ room_stage out file ∷ [])) ≡ room_stage out file
        = both_first (stages g (lent_alone g)) (order_stage g ∷ tail_stage g [] ∷ room_stage out file ∷ []) l.fine
        ∙ (ap (λ (b : Bool). first_of (stage NotInOrder (failing b) ∷ None ∷ room_stage out file ∷ [])) in_order ∙ one-stage (room_stage out file)) in
        let told : y ≡ written_by (room_stage out file) f file
        = y-is ∙ (ap (λ (t : List ℕ). write_binary (record { circuit = g; tail = t; out = out })) nothing
        ∙ ap (λ (o : Option Refusal). written_by o f file) last) in
        let file-is : file ≡ binary_of c = append-nil (binary_of (given_circuit g)) ∙ ap binary_of l.holds in
        (λ i. record { answer = (told i).answer; out = (told i).out })
        ∙ (wrote_by f file (lacking_room out 0 file)
        ∙ (ap (λ (t : List ℕ). told_by out (fitting_in out t)) file-is
        ∙ ap (λ (p : Parse Circuit). told_by out (p then λ d _. fitting_in out (binary_of d))) (sym cards-got.1)))

-- AIGER to cards: 15, 19 and 11 after what was read for the call
then-then : {A B C : Type 0} (p : Parse A) (f : A → ℕ → Parse B) (h : B → ℕ → Parse C) → ((p then f) then h) ≡ (p then λ a n. (f a n then h))
then-then (got a n) f h = refl
then-then (refused r) f h = refl

-- 15, then 19, of a circuit whose tail starts at a position of a file
abbrev on_cards : List ℕ → Circuit → ℕ → Parse Circuit
on_cards file c start =
    past (failing (binary_order c)) NotInOrder then λ _ _.
    past (failing (eqb (length (drop start file)) 0 && holdable c)) NotOnCards then λ _ _.
    got c start

by-stages : (c : Circuit) (start : ℕ) (f : FileEntry) (a b : Bool) (o : Option ℕ) → lacking_room f.out 0 (cards_of c) ≡ o
    → ◌≡◌ {A = WriteExit} (record {
      answer = (written_by (first_of (stage NotInOrder (failing a) ∷ None ∷ stage NotOnCards (failing b) ∷ stage ShortBuffer o ∷ [])) f (cards_of c)).answer;
      out = (written_by (first_of (stage NotInOrder (failing a) ∷ None ∷ stage NotOnCards (failing b) ∷ stage ShortBuffer o ∷ [])) f (cards_of c)).out;
    })
    (told_by f.out ((past (failing a) NotInOrder then λ _ _. past (failing b) NotOnCards then λ _ _. got c start) then λ d _.
    fitting_in f.out (cards_of d)))
by-stages c start f true true None e = sym (ap (λ (x : Option ℕ). told_by f.out (unless x ShortBuffer (got (cards_of c) (length (cards_of c))))) e)
by-stages c start f true true (Some k) e = sym (ap (λ (x : Option ℕ). told_by f.out (unless x ShortBuffer (got (cards_of c) (length (cards_of c))))) e)
by-stages c start f true false o e = refl
by-stages c start f false b o e = refl

module _ (readable : Bool) (file : List ℕ) (t : Tables) (scratch out : List ℕ) where
  abbrev o : OpenEntry
  o = record { readable = readable; file = file; tables = t; scratch = scratch; made = sizes_of t }

  abbrev w : CardEntry
  w = record { plan = input_of readable file; tables = t; scratch = scratch; out = out }

  abbrev later : List ℕ → Circuit → ℕ → Parse (List ℕ)
  later l c start = on_cards l c start then λ d _. fitting_in out (cards_of d)

  carded-by : carded_file w ≡ (opened o then later file)
  carded-by =
      ap (λ (f : List ℕ → Parse (List ℕ)). input (input_of readable file) f)
      (λ i l. then-then (opening o l) (on_cards l) (λ d _. fitting_in out (cards_of d)) i)
      ∙ after-input readable file (opening o) later

  pub not-carded : (r : Refusal) → opened (record { readable = readable; file = file; tables = t; scratch = scratch; made = sizes_of t }) ≡ refused r
      → ◌≡◌ {A = WriteExit} (record { answer = Err r; out = out })
      (told_by out (carded_file (record { plan = input_of readable file; tables = t; scratch = scratch; out = out })))
  not-carded r q = sym (ap (told_by out) (carded-by ∙ ap (λ (p : Parse Circuit). p then later file) q))

  pub file-carded : (g : Given) (start : ℕ)
      → opened (record { readable = readable; file = file; tables = t; scratch = scratch; made = sizes_of t }) ≡ got (given_circuit g) start
      → first_of (stages g (lent_alone g)) ≡ None → TailOk V19 g.counts (drop start file)
      → (tail : List ℕ) → tail ≡ mid_of start (length file - start) file
      → (y : FileExit) → y ≡ write_cards (record { circuit = g; tail = tail; out = out })
      → ◌≡◌ {A = WriteExit} (record { answer = y.answer; out = y.out })
      (told_by out (carded_file (record { plan = input_of readable file; tables = t; scratch = scratch; out = out })))
  file-carded g start q fine tail-ok tail t-is y y-is =
      let rest : List ℕ = drop start file in
      let c : Circuit = given_circuit g in
      let f : FileEntry = record { circuit = g; tail = rest; out = out } in
      let f-is : y ≡ write_cards f
      = y-is ∙ ap (λ (l : List ℕ). write_cards (record { circuit = g; tail = l; out = out })) (t-is ∙ part-from start file) in
      let passed : tail_stage g rest ≡ None = ap refusal_of ((tail-exactly V19 rest g.counts 0).1 tail-ok).2 in
      let last : first_of (stages g (lent_alone g) ++ (order_stage g ∷ tail_stage g rest ∷ card_stage g rest ∷ room_stage out (cards_of c) ∷ []))
      ≡ first_of (order_stage g ∷ None ∷ card_stage g rest ∷ room_stage out (cards_of c) ∷ [])
      = both_first (stages g (lent_alone g)) (order_stage g ∷ tail_stage g rest ∷ card_stage g rest ∷ room_stage out (cards_of c) ∷ []) fine
      ∙ ap (λ (x : Option Refusal). first_of (order_stage g ∷ x ∷ card_stage g rest ∷ room_stage out (cards_of c) ∷ [])) passed in
      let told = f-is ∙ ap (λ (x : Option Refusal). written_by x f (cards_of c)) last in
      (λ i. record { answer = (told i).answer; out = (told i).out })
      ∙ (by-stages c start f (binary_order c) (eqb (length rest) 0 && holdable c) (lacking_room out 0 (cards_of c)) refl
      ∙ sym (ap (told_by out) (carded-by ∙ ap (λ (p : Parse Circuit). p then later file) q)))

-- all tables zero
pub all-zero : (w : CardEntry) (p : Parse (List ℕ)) (x : WriteExit) → x ≡ told_by w.out p → (t : Tables) (scratch : List ℕ)
    → t ≡ all_cleared w.tables → scratch ≡ cleared w.scratch
    → ◌≡◌ {A = CardExit} (record { answer = x.answer; tables = t; scratch = scratch; out = x.out }) (moved_by w p)
all-zero w p x said t scratch r s = (λ i. record { answer = (said i).answer; tables = r i; scratch = s i; out = (said i).out }) ∙ go p
  where
    go : (p : Parse (List ℕ)) → ◌≡◌ {A = CardExit} (record {
      answer = (told_by w.out p).answer;
      tables = all_cleared w.tables;
      scratch = cleared w.scratch;
      out = (told_by w.out p).out;
    }) (moved_by w p)
    go (got bytes n) = refl
    go (refused r) = refl
