-- The same bytes there and back over the call that converts a whole file, whatever tables and buffers it is lent: of every file that the report of
-- 2007 states, and of every file that 1.9 states of which no line ends in a 0 that may be left off.
use Prim.Native.Nat.{ℕ, ◌+◌, ◌≤◌}
use mathlib.Core.Path.{◌≡◌, refl, sym, ap, ap₂, ◌∙◌, subst, subst₂}
use mathlib.Core.Bool.{Bool, true, cond}
use mathlib.Core.Logic.{◌⊎◌, inl, inr}
use mathlib.Core.List.{List, ◌++◌}
use Rattle.std.specs.Prelude.{Ok, Option, Some}
use native.Mathlib.Omega.{arith}
use borrow.Author.Tests.{le-leb}
use lib.Dec.{leb}
use lib.ListN.{length, take, drop}
use Rattle.plan.specs.declared.Version.TheVariants.{V2007, V19}
use Rattle.plan.specs.declared.Refusal.TheVariants.{LongInput, ShortBuffer}
use Rattle.plan.specs.Refusals.{Parse, got, refused, ◌then◌}
use Rattle.plan.specs.Circuit.{Circuit, lengths_of}
use Rattle.plan.specs.Header.{Form, text, binary, Head, header, form_in}
use Rattle.plan.specs.Text.{text_of}
use Rattle.plan.specs.Binary.{binary_of, binary_order}
use Rattle.plan.specs.Reading.{States, Shortest, LongEnough, LongEnoughToRead}
use Rattle.plan.specs.Given.{lacking_room}
use Rattle.plan.specs.Convert.{convert}
use Rattle.plan.specs.Programs.{input, other_form}
use Rattle.plan.specs.Whole.{WholeEntry, WholeExit, file_circuit, fitting_in, whole_by, converted_file, convert_whole}
use Rattle.laws.proofs.Put.{put_first}
use Rattle.laws.proofs.Reading.Common.{got-value, then-got, unless-got, cond-got}
use Rattle.laws.proofs.Reading.Differences.{Bytes}
use Rattle.laws.proofs.Reading.Headers.{header-took}
use Rattle.laws.proofs.Reading.Exactly.{sound, complete, formed, unique, form_in_lem, work-read}
use Rattle.laws.proofs.Reading.Shortest.{states-text, states-binary}
use Rattle.laws.proofs.Reading.Versions.{states-more}
use Rattle.laws.proofs.Reading.LeftOff.{ZerosLeftOff, stated-2007-shortest, shortest-exactly-left-off}
use Rattle.laws.proofs.Running.Unchanged.{convert-same}
use Rattle.laws.proofs.Writing.ThereAndBack.{stated-tail}
use Rattle.laws.proofs.Writing.Calls.{binary-file, text-file}

-- a file in the shortest form, said of its bytes alone
abbrev pub ShortestForm : List ℕ → Type 0
ShortestForm file =
    ((c : Circuit) × (tail : List ℕ) × States V2007 file c tail) ⊎ ((c : Circuit) × (tail : List ℕ) × (s : States V19 file c tail) × ZerosLeftOff s)

pub shortest-form : (file : List ℕ) → ShortestForm file → (c : Circuit) (tail : List ℕ) → States V19 file c tail → Shortest file c tail
shortest-form file (inl h) c tail s =
    let u = unique V19 file h.0 c h.1 tail (states-more file h.0 h.1 h.2) s in
    subst₂ (Shortest file) u.0 u.1 (stated-2007-shortest file h.0 h.1 h.2)
shortest-form file (inr h) c tail s =
    let u = unique V19 file h.0 c h.1 tail h.2 s in
    subst₂ (Shortest file) u.0 u.1 ((shortest-exactly-left-off file h.0 h.1 h.2).1 h.3)

-- an accepted call on a whole file, and the file that it leaves
pub record WholeCall (f : WholeEntry → WholeExit) : Type 0 where
  pub entry : WholeEntry
  pub file : List ℕ
  pub plan : entry.plan ≡ Some file
  pub bytes : Bytes file
  pub size : ℕ
  pub accepted : (f entry).answer ≡ Ok size

abbrev pub whole_file : (f : WholeEntry → WholeExit) → WholeCall f → List ℕ
whole_file f k = take k.size (f k.entry).out

pub whole-got : (e : WholeEntry) (p : Parse (List ℕ)) (n : ℕ) → (whole_by e p).answer ≡ Ok n
    → (b : List ℕ) × (m : ℕ) × (p ≡ got b m) × (take n (whole_by e p).out ≡ b)
whole-got e (got b m) n a =
    let n-is : n ≡ length b = cc in
    (b, m, refl, ap (λ (x : ℕ). take x (whole_by e (got b m)).out) n-is ∙ put_first e.out b)
whole-got e (refused r) n a = let z : ◌≡◌ {A = ℕ} 0 1 = cc in absurd (omega arith)

whole_says : (k : WholeCall convert_whole)
    → (c : Circuit) × (tail : List ℕ) × States V19 k.file c tail × (whole_file convert_whole k ≡ other_form (form_in k.file) c ++ tail)
whole_says k =
    let e = k.entry in
    let file = k.file in
    let w = whole-got e (converted_file e) k.size k.accepted in
    let rest : List ℕ → Parse (List ℕ)
    = λ file. file_circuit e file then λ c start. header V19 file 0 then λ h _. fitting_in e.out (other_form h.form c ++ drop start file) in
    let q : input (Some file) rest ≡ got w.0 w.1 = ap (λ (o : Option (List ℕ)). input o rest) (sym k.plan) ∙ w.2 in
    let t0 = cond-got (leb (length file) 65536) (rest file) (LongInput 65536) w.0 w.1 q in
    let t1 = then-got (file_circuit e file) _ w.0 w.1 t0.1 in
    let t2 = then-got (header V19 file 0) _ w.0 w.1 t1.3 in
    let bytes = other_form t2.0.form t1.0 ++ drop t1.1 file in
    let u = unless-got (lacking_room e.out 0 bytes) ShortBuffer (got bytes (length bytes)) w.0 w.1 t2.3 in
    let h = header-took file V19 0 t2.0 t2.1 t2.2 in
    let form : form_in file ≡ t2.0.form = form_in_lem file t2.0.form h.0 _ h.1 in
    let read = work-read file (lengths_of e.read e.scratch) (lengths_of e.made e.scratch) t1.0 t1.1 t1.2 in (
      t1.0,
      drop t1.1 file,
      (sound V19 file (lengths_of e.read e.scratch) k.bytes t1.0 t1.1 read.0).0,
      w.3 ∙ (sym (got-value bytes w.0 (length bytes) w.1 u.1)
          ∙ ap (λ (f : Form). other_form f t1.0 ++ drop t1.1 file) (sym form)),
    )

module _ (k k' : WholeCall convert_whole) (handed : k'.file ≡ whole_file convert_whole k) (short : ShortestForm k.file) where
  -- a binary file, converted and converted again
  pub whole-binary-back : form_in k.file ≡ binary → whole_file convert_whole k' ≡ k.file
  whole-binary-back form =
      let x = whole_says k in
      let c = x.0 in
      let tail = x.1 in
      let f = binary-file k.file c tail form (shortest-form k.file short c tail x.2) x.2 in
      let there : k'.file ≡ text_of c ++ tail = handed ∙ (x.3 ∙ ap (λ (g : Form). other_form g c ++ tail) form) in
      let w = formed V19 k.file c tail x.2 in
      let y = whole_says k' in
      let u = unique V19 k'.file y.0 c y.1 tail y.2
      (states-text k'.file c tail w (stated-tail k.file c tail x.2) there) in
      y.3 ∙ (ap (λ (g : Form). other_form g y.0 ++ y.1) (ap form_in there)
      ∙ (ap₂ (λ (d : Circuit) (t : List ℕ). binary_of (convert d) ++ t) u.0 u.1
      ∙ (ap (λ (d : Circuit). binary_of d ++ tail) (convert-same c w f.1) ∙ sym f.0)))

  -- a text file of a circuit in binary order, converted and converted again
  pub whole-text-back : form_in k.file ≡ text → ((c : Circuit) (tail : List ℕ) → States V19 k.file c tail → binary_order c ≡ true)
      → whole_file convert_whole k' ≡ k.file
  whole-text-back form order =
      let x = whole_says k in
      let c = x.0 in
      let tail = x.1 in
      let f = text-file k.file c tail form (shortest-form k.file short c tail x.2) in
      let o = order c tail x.2 in
      let w = formed V19 k.file c tail x.2 in
      let there : k'.file ≡ binary_of c ++ tail
      = handed ∙ (x.3 ∙ (ap (λ (g : Form). other_form g c ++ tail) form ∙ ap (λ (d : Circuit). binary_of d ++ tail) (convert-same c w o))) in
      let y = whole_says k' in
      let u = unique V19 k'.file y.0 c y.1 tail y.2
      (states-binary k'.file c tail w (stated-tail k.file c tail x.2) there o) in
      y.3 ∙ (ap (λ (g : Form). other_form g y.0 ++ y.1) (ap form_in there)
      ∙ (ap₂ (λ (d : Circuit) (t : List ℕ). text_of d ++ t) u.0 u.1 ∙ sym f))

-- bytes that fit
pub fitting-done : (out bytes : List ℕ) → length bytes ≤ length out → fitting_in out bytes ≡ got bytes (length bytes)
fitting-done out bytes h = let long : 0 + length bytes ≤ length out = omega arith in rw (le-leb (0 + length bytes) (length out) long)

-- an input that can be read and is not too long
pub input-done : (plan : Option (List ℕ)) (file : List ℕ) (f : List ℕ → Parse (List ℕ)) → plan ≡ Some file → length file ≤ 65536 → input plan f ≡ f file
input-done plan file f e h =
    ap (λ (o : Option (List ℕ)). input o f) e ∙ ap (λ (b : Bool). cond b (f file) (refused (LongInput 65536))) (le-leb (length file) 65536 h)

-- with room: a whole file that states a circuit and a tail is converted, and the bytes stand in the buffer, all else as it was
pub whole-done : (e : WholeEntry) (file : List ℕ) → e.plan ≡ Some file → length file ≤ 65536 → (c : Circuit) (tail : List ℕ) → States V19 file c tail
    → LongEnoughToRead file c (lengths_of e.read e.scratch) → LongEnough c (lengths_of e.made e.scratch)
    → length (other_form (form_in file) c ++ tail) ≤ length e.out
    → let bytes = other_form (form_in file) c ++ tail in convert_whole e ≡ whole_by e (got bytes (length bytes))
whole-done e file plan fits c tail s to_read to-work space =
    let a = complete V19 file (lengths_of e.read e.scratch) c tail s to_read in
    let t = then-got (header V19 file 0) _ c a.0 a.1 in
    let h = header-took file V19 0 t.0 t.1 t.2 in
    let form : form_in file ≡ t.0.form = form_in_lem file t.0.form h.0 _ h.1 in
    let same : other_form t.0.form c ++ drop a.0 file ≡ other_form (form_in file) c ++ tail
    = ap₂ (λ (f : Form) (l : List ℕ). other_form f c ++ l) (sym form) a.2 in
    let read : file_circuit e file ≡ got c a.0 = rw (a.1, to-work) in
    ap (whole_by e) (input-done e.plan file (rest e) plan fits
    ∙ (ap₂ (λ (p : Parse Circuit) (q : Parse Head). p then λ c start. q then λ h _. fitting_in e.out (other_form h.form c ++ drop start file)) read t.2
    ∙ (ap (fitting_in e.out) same ∙ fitting-done e.out (other_form (form_in file) c ++ tail) space)))
  where
    rest : WholeEntry → List ℕ → Parse (List ℕ)
    rest e file = file_circuit e file then λ c start. header V19 file 0 then λ h _. fitting_in e.out (other_form h.form c ++ drop start file)

-- converted to `there` and converted again, with room: neither call refuses, and the last buffer holds the file, all else as it was
abbrev pub WholeAndBack : WholeEntry → List ℕ → List ℕ → Circuit → Type 0
WholeAndBack e file there c =
    ((convert_whole e).answer ≡ Ok (length there))
    × ((e' : WholeEntry) → e'.plan ≡ Some (take (length there) (convert_whole e).out) → length there ≤ 65536
    → LongEnoughToRead there c (lengths_of e'.read e'.scratch) → LongEnough c (lengths_of e'.made e'.scratch) → length file ≤ length e'.out
    → convert_whole e' ≡ whole_by e' (got file (length file)))

module _ (e : WholeEntry) (file : List ℕ) (plan : e.plan ≡ Some file) (fits : length file ≤ 65536) (c : Circuit) (tail : List ℕ)
    (s : States V19 file c tail) (to_read : LongEnoughToRead file c (lengths_of e.read e.scratch)) (to-work : LongEnough c (lengths_of e.made e.scratch)) where
  and-back : (there : List ℕ) → other_form (form_in file) c ++ tail ≡ there → States V19 there c tail → other_form (form_in there) c ++ tail ≡ file
      → length there ≤ length e.out → WholeAndBack e file there c
  and-back there is s' back space =
      let first : convert_whole e ≡ whole_by e (got there (length there))
      = whole-done e file plan fits c tail s to_read to-work (subst (λ (l : List ℕ). length l ≤ length e.out) (sym is) space)
      ∙ ap (λ (l : List ℕ). whole_by e (got l (length l))) is in
      let out : take (length there) (convert_whole e).out ≡ there
      = ap (λ (x : WholeExit). take (length there) x.out) first ∙ put_first e.out there in (
        ap (λ (x : WholeExit). x.answer) first,
        λ e' plan' fits' to-read' to-work' space'.
            whole-done e' there (plan' ∙ ap Some out) fits' c tail s' to-read' to-work'
            (subst (λ (l : List ℕ). length l ≤ length e'.out) (sym back) space')
            ∙ ap (λ (l : List ℕ). whole_by e' (got l (length l))) back,
      )

  -- a binary file
  pub whole-binary-with-room : ShortestForm file → form_in file ≡ binary → length (text_of c ++ tail) ≤ length e.out
      → WholeAndBack e file (text_of c ++ tail) c
  whole-binary-with-room short form =
      let w = formed V19 file c tail s in
      let f = binary-file file c tail form (shortest-form file short c tail s) s in
      and-back (text_of c ++ tail) (ap (λ (g : Form). other_form g c ++ tail) form)
      (states-text (text_of c ++ tail) c tail w (stated-tail file c tail s) refl)
      (ap (λ (d : Circuit). binary_of d ++ tail) (convert-same c w f.1) ∙ sym f.0)

  -- a text file of a circuit in binary order
  pub whole-text-with-room : ShortestForm file → form_in file ≡ text → binary_order c ≡ true → length (binary_of c ++ tail) ≤ length e.out
      → WholeAndBack e file (binary_of c ++ tail) c
  whole-text-with-room short form order =
      let w = formed V19 file c tail s in
      and-back (binary_of c ++ tail)
      (ap (λ (g : Form). other_form g c ++ tail) form ∙ ap (λ (d : Circuit). binary_of d ++ tail) (convert-same c w order))
      (states-binary (binary_of c ++ tail) c tail w (stated-tail file c tail s) refl order)
      (sym (text-file file c tail form (shortest-form file short c tail s)))
