-- The same bytes there and back: an accepted file in the shortest form whose circuit is in binary order, as every binary file's is, written
-- in the other form and from there in its own again, is the same bytes with its tail.
use Prim.Native.Nat.{ℕ, ◌≤◌}
use mathlib.Core.Path.{◌≡◌, refl, sym, ap, ◌∙◌}
use mathlib.Core.Bool.{true}
use mathlib.Core.List.{List, ◌++◌, append_assoc, map}
use Rattle.std.specs.Prelude.{Some}
use native.Mathlib.Omega.{arith}
use borrow.Author.Tests.{eq-eqb, le-leb}
use lib.ListN.{length, get_or, drop}
use lib.Seq.{drop-append_seam}
use Rattle.plan.specs.declared.Version.TheVariants.{V19}
use Rattle.plan.specs.Refusals.{Parse, got, refused, ◌then◌}
use Rattle.plan.specs.Circuit.{Circuit, counts_of}
use Rattle.plan.specs.Header.{Form, text, binary, letter_of, Head, header, header_of, all_counts, short_counts}
use Rattle.plan.specs.Bytes.{without_zeros}
use Rattle.plan.specs.Text.{text_lines, text_latches, text_of}
use Rattle.plan.specs.Binary.{binary_lines, binary_latches, binary_of, binary_order}
use Rattle.plan.specs.Tail.{TailOk}
use Rattle.plan.specs.Reading.{read_file, read_to_work, WellFormed, States, as_text, as_binary, Shortest, short_text, short_binary, LongEnough}
use Rattle.plan.specs.Convert.{convert}
use Rattle.plan.specs.Programs.{lent_words, other_form, fitting, printed, converter}
use Rattle.laws.proofs.Reading.Common.{not-got, got-value}
use Rattle.laws.proofs.Reading.Differences.{Bytes}
use Rattle.laws.proofs.Reading.Headers.{header-took, header-reads}
use Rattle.laws.proofs.Reading.Runs.{order-exactly}
use Rattle.laws.proofs.Reading.Exactly.{all_most, sound, formed}
use Rattle.laws.proofs.Reading.Shortest.{shortest-spells}
use Rattle.laws.proofs.Running.Unchanged.{convert-same}
use Rattle.laws.proofs.Writing.Back.{text-back, binary-back}

-- a file in the other form: what the converter writes
abbrev pub in_other_form : List ℕ → List ℕ → Parse (List ℕ)
in_other_form file lengths =
    read_to_work file lengths lengths then λ c start. header V19 file 0 then λ h _. got (other_form h.form c ++ drop start file) start

module _ (c : Circuit) (tail lengths : List ℕ) (w : WellFormed c) (t : TailOk V19 (counts_of c) tail) (room : LongEnough c lengths) where
  text-header : (at : ℕ) × (header V19 (text_of c ++ tail) 0 ≡ got (record { form = text; counts = counts_of c }) at)
  text-header =
      let row = short_counts (counts_of c) in
      let body = text_lines (map (without_zeros 2) (text_latches c)) c in
      let r = header-reads (text_of c ++ tail) V19 0 text (counts_of c) row (body ++ tail) (shortest-spells 5 9 (all_counts (counts_of c)) (omega arith) refl)
      (all_most c w) (le-leb _ _ w.sum) (append_assoc (header_of text row) body tail) in
      (r.0, r.1)

  pub text-converted : in_other_form (text_of c ++ tail) lengths ≡ got (binary_of (convert c) ++ tail) (length (text_of c))
  text-converted =
      rw (text-back c tail lengths w t room, room, text-header.1)
      (ap (λ (x : List ℕ). got (binary_of (convert c) ++ x) (length (text_of c))) (drop-append_seam (text_of c) tail))

  module _ (o : binary_order c ≡ true) where
    binary-header : (at : ℕ) × (header V19 (binary_of c ++ tail) 0 ≡ got (record { form = binary; counts = counts_of c }) at)
    binary-header =
        let row = short_counts (counts_of c) in
        let body = binary_lines (map (without_zeros 1) (binary_latches c)) c in
        let r = header-reads (binary_of c ++ tail) V19 0 binary (counts_of c) row (body ++ tail)
        (shortest-spells 5 9 (all_counts (counts_of c)) (omega arith) refl) (all_most c w) (eq-eqb _ _ ((order-exactly c).0 o).sum)
        (append_assoc (header_of binary row) body tail) in
        (r.0, r.1)

    pub binary-converted : in_other_form (binary_of c ++ tail) lengths ≡ got (text_of c ++ tail) (length (binary_of c))
    binary-converted =
        rw (binary-back c tail lengths w t room o, room, binary-header.1)
        (ap (λ (x : List ℕ). got (text_of c ++ x) (length (binary_of c))) (drop-append_seam (binary_of c) tail))

    -- in binary order nothing is changed on the way
    pub text_in-order : in_other_form (text_of c ++ tail) lengths ≡ got (binary_of c ++ tail) (length (text_of c))
    text_in-order = text-converted ∙ ap (λ (x : Circuit). got (binary_of x ++ tail) (length (text_of c))) (convert-same c w o)

-- what a file with a header of one form states, it states in this form
module _ (file : List ℕ) (c : Circuit) (tail : List ℕ) (h : Head) (at : ℕ) (head : header V19 file 0 ≡ got h at) where
  second : (f : Form) → h.form ≡ f → get_or file 1 0 ≡ letter_of f
  second f e =
      ap (λ (l : List ℕ). get_or l 1 0) (header-took file V19 0 h at head).1 ∙ ap letter_of e

  pub binary-stated : h.form ≡ binary → States V19 file c tail → binary_order c ≡ true
  binary-stated f (as_text s e w t) = let z : ◌≡◌ {A = ℕ} 97 105 = ap (λ (l : List ℕ). get_or l 1 0) (sym e) ∙ second binary f in absurd (omega arith)
  binary-stated f (as_binary s e o w t) = o

  pub binary-shortest : h.form ≡ binary → Shortest file c tail → file ≡ binary_of c ++ tail
  binary-shortest f (short_text e) = let z : ◌≡◌ {A = ℕ} 97 105 = ap (λ (l : List ℕ). get_or l 1 0) (sym e) ∙ second binary f in absurd (omega arith)
  binary-shortest f (short_binary e) = e

  pub text-shortest : h.form ≡ text → Shortest file c tail → file ≡ text_of c ++ tail
  text-shortest f (short_text e) = e
  text-shortest f (short_binary e) = let z : ◌≡◌ {A = ℕ} 105 97 = ap (λ (l : List ℕ). get_or l 1 0) (sym e) ∙ second text f in absurd (omega arith)

pub stated-tail : (file : List ℕ) (c : Circuit) (tail : List ℕ) → States V19 file c tail → TailOk V19 (counts_of c) tail
stated-tail file c tail (as_text s e w t) = t
stated-tail file c tail (as_binary s e o w t) = t

-- the other form, and from there the same file
pub record BackAgain (file lengths : List ℕ) : Type 0 where
  pub other : List ℕ
  pub there : (n : ℕ) × (in_other_form file lengths ≡ got other n)
  pub back : (n : ℕ) × (in_other_form other lengths ≡ got file n)

module _ (file lengths : List ℕ) (c : Circuit) where
  pub shortest-back : (tail : List ℕ) → WellFormed c → TailOk V19 (counts_of c) tail → Shortest file c tail → LongEnough c lengths → binary_order c ≡ true
      → BackAgain file lengths
  shortest-back tail w t (short_text e) room o = record {
    other = binary_of c ++ tail;
    there = (length (text_of c), ap (λ (x : List ℕ). in_other_form x lengths) e ∙ text_in-order c tail lengths w t room o);
    back = (length (binary_of c), binary-converted c tail lengths w t room o ∙ ap (λ (x : List ℕ). got x (length (binary_of c))) (sym e));
  }
  shortest-back tail w t (short_binary e) room o = record {
    other = text_of c ++ tail;
    there = (length (binary_of c), ap (λ (x : List ℕ). in_other_form x lengths) e ∙ binary-converted c tail lengths w t room o);
    back = (length (text_of c), text_in-order c tail lengths w t room o ∙ ap (λ (x : List ℕ). got x (length (text_of c))) (sym e));
  }

  pub states-back : (tail : List ℕ) → States V19 file c tail → Shortest file c tail → LongEnough c lengths → binary_order c ≡ true → BackAgain file lengths
  states-back tail s p room o = shortest-back tail (formed V19 file c tail s) (stated-tail file c tail s) p room o

  -- of an accepted file in the shortest form, with room for the calls that follow
  module _ (bytes : Bytes file) (start : ℕ) (accepted : read_file V19 file lengths ≡ got c start) where
    pub back-again : Shortest file c (drop start file) → LongEnough c lengths → binary_order c ≡ true → BackAgain file lengths
    back-again p room o = states-back (drop start file) (sound V19 file lengths bytes c start accepted).0 p room o

    -- a binary file that is accepted is in binary order
    module _ (h : Head) (at : ℕ) (head : header V19 file 0 ≡ got h at) (form : h.form ≡ binary) where
      pub binary-in-order : binary_order c ≡ true
      binary-in-order = binary-stated file c (drop start file) h at head form (sound V19 file lengths bytes c start accepted).0

      pub binary-back-again : Shortest file c (drop start file) → LongEnough c lengths → BackAgain file lengths
      binary-back-again p room = back-again p room binary-in-order

-- the converter, run on what it wrote, where both files are as long as an input may be
converts : (file other : List ℕ) → ((n : ℕ) × (in_other_form file lent_words ≡ got other n)) → length file ≤ 65536 → length other ≤ 65536
    → converter (Some file) ≡ other
converts file other q h k = rw (le-leb (length file) 65536 h) (go (read_to_work file lent_words lent_words) (header V19 file 0) q.1)
  where
    go : (p : Parse Circuit) (r : Parse Head)
        → (p then λ c start. r then λ h _. got (other_form h.form c ++ drop start file) start) ≡ got other q.0
        → printed (p then λ c start. r then λ h _. fitting (other_form h.form c ++ drop start file)) ≡ other
    go (got c start) (got h n) e =
        let bytes : other_form h.form c ++ drop start file ≡ other = got-value _ other start q.0 e in
        ap (λ (x : List ℕ). printed (fitting x)) bytes ∙ rw (le-leb (length other) 65536 k)
    go (got c start) (refused r) e = absurd (not-got r other q.0 e)
    go (refused r) p e = absurd (not-got r other q.0 e)

pub converter-back : (file : List ℕ) → (b : BackAgain file lent_words) → length file ≤ 65536 → length b.other ≤ 65536
    → converter (Some (converter (Some file))) ≡ file
converter-back file b h k =
    ap (λ (x : List ℕ). converter (Some x)) (converts file b.other b.there h k) ∙ converts b.other file b.back k h
