-- Calls in a row, each handed what the one before left: a file there and back, and demand 3, of the calls themselves.
use Prim.Native.Nat.{ℕ}
use mathlib.Core.Path.{◌≡◌, sym, ap, ap₂, ◌∙◌, subst}
use mathlib.Core.Bool.{true}
use mathlib.Core.Logic.{◌⊎◌, inl, inr}
use Rattle.std.specs.Prelude.{Ok}
use native.Mathlib.Omega.{arith}
use mathlib.Core.List.{List, ◌++◌}
use lib.ListN.{length, take, drop}
use Rattle.plan.specs.declared.Version.{Version}
use Rattle.plan.specs.declared.Version.TheVariants.{V2007, V19}
use Rattle.plan.specs.declared.Counts.{Counts}
use Rattle.plan.specs.Refusals.{got}
use Rattle.plan.specs.Circuit.{Circuit, circuit_of, lengths_of}
use Rattle.plan.specs.Header.{Head, text, binary, header, form_in}
use Rattle.plan.specs.Text.{text_of}
use Rattle.plan.specs.Binary.{binary_of, binary_order}
use Rattle.plan.specs.Reading.{WellFormed, States, as_text, as_binary, Shortest, short_text, short_binary}
use Rattle.plan.specs.Given.{Given, given_circuit}
use Rattle.plan.specs.Convert.{convert}
use Rattle.plan.specs.Reduce.{reduce}
use Rattle.plan.specs.Step.{Value, run, first_state}
use Rattle.plan.specs.Outcome.{ReadEntry, load_as, FileEntry, FileExit, write_text, write_binary, MakeEntry, MakeExit, conversion, reduction}
use Rattle.laws.proofs.Reading.Differences.{Bytes}
use Rattle.laws.proofs.Reading.Exactly.{sound, formed, unique}
use Rattle.laws.proofs.Reading.Versions.{states-by}
use Rattle.laws.proofs.Reading.LeftOff.{ZerosLeftOff, stated-2007-shortest, shortest-exactly-left-off}
use Rattle.laws.proofs.Running.Monotone.{Replaced, Kept}
use Rattle.laws.proofs.Running.Runs.{Sized}
use Rattle.laws.proofs.Running.WithoutX.{NoX, NoXs}
use Rattle.laws.proofs.Running.Unchanged.{convert-same}
use Rattle.laws.proofs.Running.DemandThree.{demand-three}
use Rattle.laws.proofs.Writing.Written.{text-bytes, text-states, binary-bytes, binary-states}
use Rattle.laws.proofs.Writing.ThereAndBack.{binary-stated, binary-shortest, text-shortest}
use Rattle.laws.proofs.Writing.Later.{load-left, conversion-left, reduction-left}

-- an accepted read by a version, of bytes; an accepted conversion or reduction; an accepted write
pub record ReadCall : Type 0 where
  pub version : Version
  pub entry : ReadEntry
  pub counts : Counts
  pub start : ℕ
  pub bytes : Bytes entry.file
  pub accepted : (load_as version entry).answer ≡ Ok (counts, start)

pub record MakeCall (f : MakeEntry → MakeExit) : Type 0 where
  pub entry : MakeEntry
  pub counts : Counts
  pub accepted : (f entry).answer ≡ Ok counts

pub record WriteCall (f : FileEntry → FileExit) : Type 0 where
  pub entry : FileEntry
  pub size : ℕ
  pub accepted : (f entry).answer ≡ Ok size

-- the circuit and the tail that a read leaves, the circuit that a conversion or a reduction leaves, the file that a writer leaves
abbrev pub read_circuit : ReadCall → Circuit
read_circuit r = circuit_of r.counts (load_as r.version r.entry).tables

abbrev pub read_tail : ReadCall → List ℕ
read_tail r = drop r.start r.entry.file

abbrev pub made_circuit : (f : MakeEntry → MakeExit) → MakeCall f → Circuit
made_circuit f m = circuit_of m.counts (f m.entry).written

abbrev pub file_of : (f : FileEntry → FileExit) → WriteCall f → List ℕ
file_of f w = take w.size (f w.entry).out

-- a call is handed the counts and the tables that a read, or a conversion or reduction, left
abbrev pub FromRead : Given → ReadCall → Type 0
FromRead g r = (g.counts ≡ r.counts) × (g.tables ≡ (load_as r.version r.entry).tables)

abbrev pub FromMade : (f : MakeEntry → MakeExit) → Given → MakeCall f → Type 0
FromMade f g m = (g.counts ≡ m.counts) × (g.tables ≡ (f m.entry).written)

pub from-read : (g : Given) (r : ReadCall) → FromRead g r → given_circuit g ≡ read_circuit r
from-read g r h = ap₂ circuit_of h.0 h.1

pub from-made : (f : MakeEntry → MakeExit) (g : Given) (m : MakeCall f) → FromMade f g m → given_circuit g ≡ made_circuit f m
from-made f g m h = ap₂ circuit_of h.0 h.1

-- what each leaves: by the version's own report, and so by 1.9
pub read-stated : (r : ReadCall) → States r.version r.entry.file (read_circuit r) (read_tail r)
read-stated r =
    let v = r.version in
    let e = r.entry in
    let l = load-left v e r.bytes r.counts r.start r.accepted in
    let s = sound v e.file (lengths_of e.tables e.scratch) r.bytes l.0 r.start l.1 in
    subst (λ (c : Circuit). States v e.file c (read_tail r)) (sym l.3) s.0

pub read-states : (r : ReadCall) → States V19 r.entry.file (read_circuit r) (read_tail r)
read-states r = states-by r.version r.entry.file (read_circuit r) (read_tail r) (read-stated r)

pub read-formed : (r : ReadCall) → WellFormed (read_circuit r)
read-formed r = formed V19 r.entry.file (read_circuit r) (read_tail r) (read-states r)

pub converted-is : (m : MakeCall conversion) → made_circuit conversion m ≡ convert (given_circuit m.entry.circuit)
converted-is m = (conversion-left m.entry m.counts m.accepted).0.holds

pub reduced-is : (m : MakeCall reduction) → made_circuit reduction m ≡ reduce (given_circuit m.entry.circuit)
reduced-is m = (reduction-left m.entry m.counts m.accepted).0.holds

-- a file that states a circuit and a tail, read: the same circuit and tail
read_same : (file : List ℕ) (c : Circuit) (tail : List ℕ) → States V19 file c tail → (r : ReadCall) → r.entry.file ≡ file
    → (read_circuit r ≡ c) × (read_tail r ≡ tail)
read_same file c tail s r e =
    let u = unique V19 file c (read_circuit r) tail (read_tail r) s
    (subst (λ (x : List ℕ). States V19 x (read_circuit r) (read_tail r)) e (read-states r)) in
    (sym u.0, sym u.1)

-- the same bytes there and back. Of a file that is what the writer of its form writes of its circuit, in binary order, and its tail
module _ (r : ReadCall) (order : binary_order (read_circuit r) ≡ true) where
  binary-again : r.entry.file ≡ binary_of (read_circuit r) ++ read_tail r
      → (t : WriteCall write_text) → FromRead t.entry.circuit r → t.entry.tail ≡ read_tail r
      → (r' : ReadCall) → r'.entry.file ≡ file_of write_text t
      → (m : MakeCall conversion) → FromRead m.entry.circuit r'
      → (b : WriteCall write_binary) → FromMade conversion b.entry.circuit m → b.entry.tail ≡ read_tail r'
      → file_of write_binary b ≡ r.entry.file
  binary-again f t t-given t-tail r' r'-file m m-given b b-given b-tail =
      let same = read_same (file_of write_text t) (given_circuit t.entry.circuit) t.entry.tail
      (text-states t.entry t.size t.accepted) r' r'-file in
      let c-is : read_circuit r' ≡ read_circuit r = same.0 ∙ from-read t.entry.circuit r t-given in
      let converted : given_circuit b.entry.circuit ≡ read_circuit r
      = from-made conversion b.entry.circuit m b-given ∙ (converted-is m
      ∙ (ap convert (from-read m.entry.circuit r' m-given ∙ c-is) ∙ convert-same (read_circuit r) (read-formed r) order)) in
      binary-bytes b.entry b.size b.accepted
      ∙ (ap₂ (λ (x : Circuit) (y : List ℕ). binary_of x ++ y) converted (b-tail ∙ (same.1 ∙ t-tail)) ∙ sym f)

  text-again : r.entry.file ≡ text_of (read_circuit r) ++ read_tail r
      → (m : MakeCall conversion) → FromRead m.entry.circuit r
      → (b : WriteCall write_binary) → FromMade conversion b.entry.circuit m → b.entry.tail ≡ read_tail r
      → (r' : ReadCall) → r'.entry.file ≡ file_of write_binary b
      → (t : WriteCall write_text) → FromRead t.entry.circuit r' → t.entry.tail ≡ read_tail r'
      → file_of write_text t ≡ r.entry.file
  text-again f m m-given b b-given b-tail r' r'-file t t-given t-tail =
      let converted : given_circuit b.entry.circuit ≡ read_circuit r
      = from-made conversion b.entry.circuit m b-given ∙ (converted-is m
      ∙ (ap convert (from-read m.entry.circuit r m-given) ∙ convert-same (read_circuit r) (read-formed r) order)) in
      let same = read_same (file_of write_binary b) (given_circuit b.entry.circuit) b.entry.tail
      (binary-states b.entry b.size b.accepted) r' r'-file in
      text-bytes t.entry t.size t.accepted
      ∙ (ap₂ (λ (x : Circuit) (y : List ℕ). text_of x ++ y) (from-read t.entry.circuit r' t-given ∙ (same.0 ∙ converted))
      (t-tail ∙ (same.1 ∙ b-tail)) ∙ sym f)

-- of a file in the shortest form
module _ (r : ReadCall) (h : Head) (at : ℕ) (head : header V19 r.entry.file 0 ≡ got h at)
    (short : Shortest r.entry.file (read_circuit r) (read_tail r)) where
  -- a binary file, read, written as text, read, converted and written as binary
  pub binary-through-text : h.form ≡ binary
      → (t : WriteCall write_text) → FromRead t.entry.circuit r → t.entry.tail ≡ read_tail r
      → (r' : ReadCall) → r'.entry.file ≡ file_of write_text t
      → (m : MakeCall conversion) → FromRead m.entry.circuit r'
      → (b : WriteCall write_binary) → FromMade conversion b.entry.circuit m → b.entry.tail ≡ read_tail r'
      → file_of write_binary b ≡ r.entry.file
  binary-through-text form =
      binary-again r (binary-stated r.entry.file (read_circuit r) (read_tail r) h at head form (read-states r))
      (binary-shortest r.entry.file (read_circuit r) (read_tail r) h at head form short)

  -- a text file in binary order, read, converted, written as binary, read and written as text
  pub text-through-binary : h.form ≡ text → binary_order (read_circuit r) ≡ true
      → (m : MakeCall conversion) → FromRead m.entry.circuit r
      → (b : WriteCall write_binary) → FromMade conversion b.entry.circuit m → b.entry.tail ≡ read_tail r
      → (r' : ReadCall) → r'.entry.file ≡ file_of write_binary b
      → (t : WriteCall write_text) → FromRead t.entry.circuit r' → t.entry.tail ≡ read_tail r'
      → file_of write_text t ≡ r.entry.file
  text-through-binary form order =
      text-again r order (text-shortest r.entry.file (read_circuit r) (read_tail r) h at head form short)

-- the second letter of a file tells its form
module _ (file : List ℕ) (c : Circuit) (tail : List ℕ) where
  pub binary-file : form_in file ≡ binary → Shortest file c tail → States V19 file c tail → (file ≡ binary_of c ++ tail) × (binary_order c ≡ true)
  binary-file f (short_text g) s = let e : text ≡ binary = sym (ap form_in g) ∙ f in let z : ◌≡◌ {A = ℕ} 0 1 = cc in absurd (omega arith)
  binary-file f (short_binary g) (as_text s e w t) =
      let h : text ≡ binary = sym (ap form_in e) ∙ f in let z : ◌≡◌ {A = ℕ} 0 1 = cc in absurd (omega arith)
  binary-file f (short_binary g) (as_binary s e o w t) = (g, o)

  pub text-file : form_in file ≡ text → Shortest file c tail → file ≡ text_of c ++ tail
  text-file f (short_text g) = g
  text-file f (short_binary g) = let e : binary ≡ text = sym (ap form_in g) ∙ f in let z : ◌≡◌ {A = ℕ} 0 1 = cc in absurd (omega arith)

-- a file in the shortest form, said of the read alone: every file that the reader of 2007 accepts, as nothing can be left off there, and every
-- file of which no line ends in a 0 that may be left off
abbrev pub InShortestForm : ReadCall → Type 0
InShortestForm r = (r.version ≡ V2007) ⊎ ((s : States V19 r.entry.file (read_circuit r) (read_tail r)) × ZerosLeftOff s)

pub shortest-read : (r : ReadCall) → InShortestForm r → Shortest r.entry.file (read_circuit r) (read_tail r)
shortest-read r (inl old) =
    stated-2007-shortest r.entry.file (read_circuit r) (read_tail r)
    (subst (λ (v : Version). States v r.entry.file (read_circuit r) (read_tail r)) old (read-stated r))
shortest-read r (inr stated) = (shortest-exactly-left-off r.entry.file (read_circuit r) (read_tail r) stated.0).1 stated.1

module _ (r : ReadCall) (short : InShortestForm r) where
  pub binary-same-bytes : form_in r.entry.file ≡ binary
      → (t : WriteCall write_text) → FromRead t.entry.circuit r → t.entry.tail ≡ read_tail r
      → (r' : ReadCall) → r'.entry.file ≡ file_of write_text t
      → (m : MakeCall conversion) → FromRead m.entry.circuit r'
      → (b : WriteCall write_binary) → FromMade conversion b.entry.circuit m → b.entry.tail ≡ read_tail r'
      → file_of write_binary b ≡ r.entry.file
  binary-same-bytes form =
      let f = binary-file r.entry.file (read_circuit r) (read_tail r) form (shortest-read r short) (read-states r) in
      binary-again r f.1 f.0

  pub text-same-bytes : form_in r.entry.file ≡ text → binary_order (read_circuit r) ≡ true
      → (m : MakeCall conversion) → FromRead m.entry.circuit r
      → (b : WriteCall write_binary) → FromMade conversion b.entry.circuit m → b.entry.tail ≡ read_tail r
      → (r' : ReadCall) → r'.entry.file ≡ file_of write_binary b
      → (t : WriteCall write_text) → FromRead t.entry.circuit r' → t.entry.tail ≡ read_tail r'
      → file_of write_text t ≡ r.entry.file
  text-same-bytes form order =
      text-again r order (text-file r.entry.file (read_circuit r) (read_tail r) form (shortest-read r short))

-- demand 3 of a read, a conversion and a reduction: whatever replaces x, at every step each output, bad state, constraint and
-- latch, before and after, that was 0 or 1 is the same; without x in the list and the resets so is every step
pub demand-three-calls : (r : ReadCall) (m : MakeCall conversion) → FromRead m.entry.circuit r
    → (s : MakeCall reduction) → FromMade conversion s.entry.circuit m
    → (is js : List (List Value)) → Sized (length (read_circuit r).inputs) is → Replaced is js
    → Kept (run (read_circuit r) (first_state (read_circuit r)) is) (run (made_circuit reduction s) (first_state (made_circuit reduction s)) js)
    × (NoXs is → NoX (first_state (read_circuit r))
    → run (read_circuit r) (first_state (read_circuit r)) is ≡ run (made_circuit reduction s) (first_state (made_circuit reduction s)) js)
demand-three-calls r m m-given s s-given is js sized replaced =
    let c = read_circuit r in
    let d-is : reduce (convert c) ≡ made_circuit reduction s
    = sym (reduced-is s ∙ ap reduce (from-made conversion s.entry.circuit m s-given
    ∙ (converted-is m ∙ ap convert (from-read m.entry.circuit r m-given)))) in
    subst (λ (d : Circuit). Kept (run c (first_state c) is) (run d (first_state d) js) × (NoXs is → NoX (first_state c) → run c (first_state c) is ≡ run d (first_state d) js)) d-is
    (demand-three c (read-formed r) is js sized replaced)
