-- Whole files reduced, and freed of unused gates: what is written is read back as that circuit with the same tail, and the call on what it wrote
-- writes the same bytes.
use Prim.Native.Nat.{ℕ, ◌≤◌}
use mathlib.Core.Path.{◌≡◌, refl, sym, ap, ap₂, ◌∙◌, subst}
use mathlib.Core.Bool.{true}
use mathlib.Core.List.{List, ◌++◌}
use lib.Dec.{leb}
use lib.ListN.{length, take, drop}
use Rattle.std.specs.Prelude.{Ok, Option, Some}
use Rattle.plan.specs.declared.Version.TheVariants.{V19}
use Rattle.plan.specs.declared.Refusal.TheVariants.{LongInput, ShortBuffer}
use Rattle.plan.specs.Refusals.{Parse, got, ◌then◌}
use Rattle.plan.specs.Circuit.{Circuit, counts_of, lengths_of}
use Rattle.plan.specs.Binary.{binary_of, binary_order}
use Rattle.plan.specs.Tail.{TailOk}
use Rattle.plan.specs.Reading.{WellFormed, States, LongEnough, LongEnoughToRead}
use Rattle.plan.specs.Given.{lacking_room}
use Rattle.plan.specs.Convert.{convert}
use Rattle.plan.specs.Reduce.{reduce}
use Rattle.plan.specs.Outcome.{ReadEntry, read_as}
use Rattle.plan.specs.Programs.{input}
use Rattle.plan.specs.Whole.{WholeEntry, WholeExit, file_circuit, fitting_in, whole_by, reduce_whole, drop_whole}
use Rattle.plan.specs.Drop.{drop_unused}
use Rattle.laws.proofs.Put.{put_first}
use Rattle.laws.proofs.Reading.Common.{got-value, then-got, unless-got, cond-got}
use Rattle.laws.proofs.Reading.Exactly.{sound, complete, formed, unique, work-read}
use Rattle.laws.proofs.Reading.Shortest.{states-binary}
use Rattle.laws.proofs.Running.Counts.{tail-convert, tail-reduce}
use Rattle.laws.proofs.Running.Results.{convert-well-formed, convert-in-order, reduce-well-formed, reduce-in-order}
use Rattle.laws.proofs.Running.Unchanged.{convert-same}
use Rattle.laws.proofs.Running.ReduceAgain.{reduce-again}
use Rattle.laws.proofs.Writing.ThereAndBack.{stated-tail}
use Rattle.laws.proofs.Writing.Written.{read-accepts}
use Rattle.laws.proofs.Writing.Over.{read_answer}
use Rattle.laws.proofs.Writing.WholeBack.{WholeCall, whole_file, whole-got, fitting-done, input-done}
use Rattle.laws.proofs.Walks.Dropped.{drop-well-formed, drop-in-order}
use Rattle.laws.proofs.Walks.Twice.{drop-again}
use Rattle.laws.proofs.Walks.Reduced.{drop-reduced}
use Rattle.laws.proofs.Walks.Later.{tail-drop}

-- what is made of a circuit: well formed, in binary order, with a tail that suits as before, and the same when it is made again
pub record Making (make : Circuit → Circuit) : Type 0 where
  pub formed-made : (c : Circuit) → WellFormed c → WellFormed (make c)
  pub order-made : (c : Circuit) → WellFormed c → binary_order (make c) ≡ true
  pub tail-made : (c : Circuit) (tail : List ℕ) → TailOk V19 (counts_of c) tail → TailOk V19 (counts_of (make c)) tail
  pub made_again : (c : Circuit) → WellFormed c → make (make c) ≡ make c

-- the call on a whole file that makes it, and writes it in binary
module _ (make : Circuit → Circuit) where
  abbrev pub bytes_of : Circuit → List ℕ → List ℕ
  bytes_of c tail = binary_of (make c) ++ tail

  abbrev rest : WholeEntry → List ℕ → Parse (List ℕ)
  rest e file = file_circuit e file then λ c start. fitting_in e.out (bytes_of c (drop start file))

  abbrev pub make_whole : WholeEntry → WholeExit
  make_whole e = whole_by e (input e.plan (rest e))

  says : (k : WholeCall make_whole) → (c : Circuit) × (tail : List ℕ) × States V19 k.file c tail × (whole_file make_whole k ≡ bytes_of c tail)
  says k =
      let e = k.entry in
      let file = k.file in
      let w = whole-got e (input e.plan (rest e)) k.size k.accepted in
      let q : input (Some file) (rest e) ≡ got w.0 w.1 = ap (λ (o : Option (List ℕ)). input o (rest e)) (sym k.plan) ∙ w.2 in
      let t0 = cond-got (leb (length file) 65536) (rest e file) (LongInput 65536) w.0 w.1 q in
      let t1 = then-got (file_circuit e file) _ w.0 w.1 t0.1 in
      let bytes = bytes_of t1.0 (drop t1.1 file) in
      let u = unless-got (lacking_room e.out 0 bytes) ShortBuffer (got bytes (length bytes)) w.0 w.1 t1.3 in
      let read = work-read file (lengths_of e.read e.scratch) (lengths_of e.made e.scratch) t1.0 t1.1 t1.2 in (
        t1.0,
        drop t1.1 file,
        (sound V19 file (lengths_of e.read e.scratch) k.bytes t1.0 t1.1 read.0).0,
        w.3 ∙ sym (got-value bytes w.0 (length bytes) w.1 u.1),
      )

  -- with room it is not refused
  done : (e : WholeEntry) (file : List ℕ) → e.plan ≡ Some file → length file ≤ 65536 → (c : Circuit) (tail : List ℕ) → States V19 file c tail
      → LongEnoughToRead file c (lengths_of e.read e.scratch) → LongEnough c (lengths_of e.made e.scratch)
      → length (bytes_of c tail) ≤ length e.out
      → make_whole e ≡ whole_by e (got (bytes_of c tail) (length (bytes_of c tail)))
  done e file plan fits c tail s to_read to-work space =
      let a = complete V19 file (lengths_of e.read e.scratch) c tail s to_read in
      let read : file_circuit e file ≡ got c a.0 = rw (a.1, to-work) in
      ap (whole_by e) (input-done e.plan file (rest e) plan fits
      ∙ (ap (λ (p : Parse Circuit). p then λ c start. fitting_in e.out (bytes_of c (drop start file))) read
      ∙ (ap (λ (l : List ℕ). fitting_in e.out (bytes_of c l)) a.2 ∙ fitting-done e.out (bytes_of c tail) space)))

  module _ (making : Making make) where
    -- what is written states what was made, and the same tail
    written-states : (file : List ℕ) (c : Circuit) (tail : List ℕ) → States V19 file c tail → States V19 (bytes_of c tail) (make c) tail
    written-states file c tail s =
        let w = formed V19 file c tail s in
        states-binary (bytes_of c tail) (make c) tail (making.formed-made c w) (making.tail-made c tail (stated-tail file c tail s)) refl
        (making.order-made c w)

    -- so it is read back, whatever tables it is read into
    read_back : (k : WholeCall make_whole) → (c : Circuit) × (tail : List ℕ) × States V19 k.file c tail
        × ((r : ReadEntry) → r.file ≡ whole_file make_whole k → LongEnoughToRead r.file (make c) (lengths_of r.tables r.scratch)
        → read_as V19 r ≡ read_answer r (make c) tail)
    read_back k =
        let x = says k in
        let c = x.0 in
        let tail = x.1 in (
          c,
          tail,
          x.2,
          λ r file to_read.
              read-accepts V19 r (make c) tail (complete V19 r.file (lengths_of r.tables r.scratch) (make c) tail
              (subst (λ (l : List ℕ). States V19 l (make c) tail) (sym (file ∙ x.3)) (written-states k.file c tail x.2)) to_read),
        )

    -- and the call on it writes the same
    twice : (k k' : WholeCall make_whole) → k'.file ≡ whole_file make_whole k → whole_file make_whole k' ≡ whole_file make_whole k
    twice k k' handed =
        let x = says k in
        let c = x.0 in
        let tail = x.1 in
        let y = says k' in
        let s = subst (λ (l : List ℕ). States V19 l (make c) tail) (sym (handed ∙ x.3)) (written-states k.file c tail x.2) in
        let u = unique V19 k'.file y.0 (make c) y.1 tail y.2 s in
        y.3 ∙ (ap₂ bytes_of u.0 u.1
        ∙ (ap (λ (d : Circuit). binary_of d ++ tail) (making.made_again c (formed V19 k.file c tail x.2)) ∙ sym x.3))

    -- with room neither is refused
    abbrev Twice : WholeEntry → Circuit → List ℕ → Type 0
    Twice e c tail =
        ((make_whole e).answer ≡ Ok (length (bytes_of c tail)))
        × ((e' : WholeEntry) → e'.plan ≡ Some (take (length (bytes_of c tail)) (make_whole e).out) → length (bytes_of c tail) ≤ 65536
        → LongEnoughToRead (bytes_of c tail) (make c) (lengths_of e'.read e'.scratch) → LongEnough (make c) (lengths_of e'.made e'.scratch)
        → length (bytes_of c tail) ≤ length e'.out
        → make_whole e' ≡ whole_by e' (got (bytes_of c tail) (length (bytes_of c tail))))

    twice-with-room : (e : WholeEntry) (file : List ℕ) → e.plan ≡ Some file → length file ≤ 65536 → (c : Circuit) (tail : List ℕ) → States V19 file c tail
        → LongEnoughToRead file c (lengths_of e.read e.scratch) → LongEnough c (lengths_of e.made e.scratch) → length (bytes_of c tail) ≤ length e.out
        → Twice e c tail
    twice-with-room e file plan fits c tail s to_read to-work space =
        let bytes = bytes_of c tail in
        let first = done e file plan fits c tail s to_read to-work space in
        let out : take (length bytes) (make_whole e).out ≡ bytes = ap (λ (x : WholeExit). take (length bytes) x.out) first ∙ put_first e.out bytes in
        let same : bytes_of (make c) tail ≡ bytes = ap (λ (d : Circuit). binary_of d ++ tail) (making.made_again c (formed V19 file c tail s)) in (
          ap (λ (x : WholeExit). x.answer) first,
          λ e' plan' fits' to-read' to-work' space'.
              done e' bytes (plan' ∙ ap Some out) fits' (make c) tail (written-states file c tail s) to-read' to-work'
              (subst (λ (l : List ℕ). length l ≤ length e'.out) (sym same) space')
              ∙ ap (λ (l : List ℕ). whole_by e' (got l (length l))) same,
        )

-- reduction of a file, and reduction with unused gates dropped
abbrev reduces : Circuit → Circuit
reduces c = reduce (convert c)

abbrev frees : Circuit → Circuit
frees c = drop_unused (reduce (convert c))

module _ (c : Circuit) (w : WellFormed c) where
  reduced-formed : WellFormed (reduces c)
  reduced-formed = reduce-well-formed (convert c) (convert-well-formed c w) (convert-in-order c w)

  reduced-order : binary_order (reduces c) ≡ true
  reduced-order = reduce-in-order (convert c) (convert-well-formed c w) (convert-in-order c w)

  freed-formed : WellFormed (frees c)
  freed-formed = drop-well-formed (reduces c) reduced-formed reduced-order

  freed-order : binary_order (frees c) ≡ true
  freed-order = drop-in-order (reduces c) reduced-formed reduced-order

  freed-again : frees (frees c) ≡ frees c
  freed-again =
      ap (λ (d : Circuit). drop_unused (reduce d)) (convert-same (frees c) freed-formed freed-order)
      ∙ (ap drop_unused (drop-reduced (convert c) (convert-well-formed c w) (convert-in-order c w)) ∙ drop-again (reduces c) reduced-formed reduced-order)

reducing : Making reduces
reducing = record {
  formed-made = reduced-formed;
  order-made = reduced-order;
  tail-made = λ c tail t. tail-reduce V19 (convert c) tail (tail-convert V19 c tail t);
  made_again = λ c w.
      ap reduce (convert-same (reduces c) (reduced-formed c w) (reduced-order c w))
      ∙ reduce-again (convert c) (convert-well-formed c w) (convert-in-order c w);
}

freeing : Making frees
freeing = record {
  formed-made = freed-formed;
  order-made = freed-order;
  tail-made = λ c tail t. tail-drop V19 (reduces c) tail (tail-reduce V19 (convert c) tail (tail-convert V19 c tail t));
  made_again = freed-again;
}

-- what drop_whole writes is read back
pub drop-whole-read-back : (k : WholeCall drop_whole) → (c : Circuit) × (tail : List ℕ) × States V19 k.file c tail
    × ((r : ReadEntry) → r.file ≡ whole_file drop_whole k → LongEnoughToRead r.file (drop_unused (reduce (convert c))) (lengths_of r.tables r.scratch)
    → read_as V19 r ≡ read_answer r (drop_unused (reduce (convert c))) tail)
drop-whole-read-back = read_back frees freeing

-- dropping twice changes nothing, from file to file
pub drop-whole-twice : (k k' : WholeCall drop_whole) → k'.file ≡ whole_file drop_whole k → whole_file drop_whole k' ≡ whole_file drop_whole k
drop-whole-twice = twice frees freeing

-- and with room neither call refuses
module _ (e : WholeEntry) (file : List ℕ) (plan : e.plan ≡ Some file) (fits : length file ≤ 65536) (c : Circuit) (tail : List ℕ)
    (s : States V19 file c tail) (to_read : LongEnoughToRead file c (lengths_of e.read e.scratch)) (to-work : LongEnough c (lengths_of e.made e.scratch)) where
  pub drop-twice-with-room : let bytes = binary_of (drop_unused (reduce (convert c))) ++ tail in
      length bytes ≤ length e.out
      → ((drop_whole e).answer ≡ Ok (length bytes))
      × ((e' : WholeEntry) → e'.plan ≡ Some (take (length bytes) (drop_whole e).out) → length bytes ≤ 65536
      → LongEnoughToRead bytes (drop_unused (reduce (convert c))) (lengths_of e'.read e'.scratch)
      → LongEnough (drop_unused (reduce (convert c))) (lengths_of e'.made e'.scratch) → length bytes ≤ length e'.out
      → drop_whole e' ≡ whole_by e' (got bytes (length bytes)))
  drop-twice-with-room = twice-with-room frees freeing e file plan fits c tail s to_read to-work

-- the same of reduction
pub reduce-whole-read-back : (k : WholeCall reduce_whole) → (c : Circuit) × (tail : List ℕ) × States V19 k.file c tail
    × ((r : ReadEntry) → r.file ≡ whole_file reduce_whole k → LongEnoughToRead r.file (reduce (convert c)) (lengths_of r.tables r.scratch)
    → read_as V19 r ≡ read_answer r (reduce (convert c)) tail)
reduce-whole-read-back = read_back reduces reducing

pub reduce-whole-twice : (k k' : WholeCall reduce_whole) → k'.file ≡ whole_file reduce_whole k → whole_file reduce_whole k' ≡ whole_file reduce_whole k
reduce-whole-twice = twice reduces reducing
