-- The same bytes there and back by the converter, of whole files, where nothing is said of a shortest form: every file that the reader of 2007
-- accepts, and every file that 1.9 states of which no line ends in a 0 that may be left off.
use Prim.Native.Nat.{ℕ, ◌≤◌}
use mathlib.Core.Path.{◌≡◌, sym, ap, ◌∙◌}
use mathlib.Core.Bool.{true}
use mathlib.Core.List.{List, ◌++◌}
use lib.ListN.{length, drop}
use Rattle.std.specs.Prelude.{Some}
use Rattle.plan.specs.declared.Version.TheVariants.{V2007, V19}
use Rattle.plan.specs.Refusals.{got}
use Rattle.plan.specs.Circuit.{Circuit}
use Rattle.plan.specs.Header.{binary, form_in}
use Rattle.plan.specs.Text.{text_of}
use Rattle.plan.specs.Binary.{binary_of, binary_order}
use Rattle.plan.specs.Reading.{read_file, States, LongEnough}
use Rattle.plan.specs.Programs.{lent_words, converter}
use Rattle.laws.proofs.Reading.Differences.{Bytes}
use Rattle.laws.proofs.Reading.Exactly.{sound, formed}
use Rattle.laws.proofs.Reading.Versions.{states-more}
use Rattle.laws.proofs.Reading.LeftOff.{ZerosLeftOff, stated-2007-shortest, shortest-exactly-left-off}
use Rattle.laws.proofs.Writing.ThereAndBack.{in_other_form, binary-converted, text_in-order, stated-tail, BackAgain, states-back, converter-back}
use Rattle.laws.proofs.Writing.Calls.{binary-file}

-- a file that 1.9 states
module _ (file lengths : List ℕ) (c : Circuit) (tail : List ℕ) (s : States V19 file c tail) (room : LongEnough c lengths) where
  pub left-off-back-again : ZerosLeftOff s → binary_order c ≡ true → BackAgain file lengths
  left-off-back-again t o = states-back file lengths c tail s ((shortest-exactly-left-off file c tail s).1 t) room o

  pub left-off-binary-back-again : ZerosLeftOff s → form_in file ≡ binary → BackAgain file lengths
  left-off-binary-back-again t form =
      let short = (shortest-exactly-left-off file c tail s).1 t in
      states-back file lengths c tail s short room (binary-file file c tail form short s).1

-- a file that the reader of 2007 accepts, with room for the calls that follow
module _ (file lengths : List ℕ) (bytes : Bytes file) (c : Circuit) (start : ℕ) (accepted : read_file V2007 file lengths ≡ got c start)
    (room : LongEnough c lengths) where
  stated : States V2007 file c (drop start file)
  stated = (sound V2007 file lengths bytes c start accepted).0

  pub old-back-again : binary_order c ≡ true → BackAgain file lengths
  old-back-again o =
      let tail = drop start file in
      states-back file lengths c tail (states-more file c tail stated) (stated-2007-shortest file c tail stated) room o

  pub old-binary-back-again : form_in file ≡ binary → BackAgain file lengths
  old-binary-back-again form =
      let tail = drop start file in
      old-back-again (binary-file file c tail form (stated-2007-shortest file c tail stated) (states-more file c tail stated)).1

-- the converter, run on what it wrote of a binary file that 2007 accepts in its tables, where both files are as long as an input may be
pub old-converter-back : (file : List ℕ) → Bytes file → (c : Circuit) (start : ℕ) → read_file V2007 file lent_words ≡ got c start → LongEnough c lent_words
    → form_in file ≡ binary → length file ≤ 65536 → length (text_of c ++ drop start file) ≤ 65536
    → converter (Some (converter (Some file))) ≡ file
old-converter-back file bytes c start accepted room form h k =
    let tail = drop start file in
    let old = (sound V2007 file lent_words bytes c start accepted).0 in
    let s = states-more file c tail old in
    let f = binary-file file c tail form (stated-2007-shortest file c tail old) s in
    let w = formed V19 file c tail s in
    let t = stated-tail file c tail s in
    let back : BackAgain file lent_words = record {
      other = text_of c ++ tail;
      there = (length (binary_of c), ap (λ (x : List ℕ). in_other_form x lent_words) f.0 ∙ binary-converted c tail lent_words w t room f.1);
      back = (length (text_of c), text_in-order c tail lent_words w t room f.1 ∙ ap (λ (x : List ℕ). got x (length (text_of c))) (sym f.0));
    } in
    converter-back file back h k
