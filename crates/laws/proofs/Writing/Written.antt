-- A writer that answers with a number of bytes wrote a file whose reading accepts the given circuit and the given tail.
use Prim.Native.Nat.{ℕ}
use mathlib.Core.Path.{◌≡◌, refl, sym, ap, ◌∙◌, subst}
use mathlib.Core.List.{List, [], ◌∷◌, ◌++◌}
use Rattle.std.specs.Prelude.{Ok, Option, Some, None}
use native.Mathlib.Omega.{arith}
use lib.ListN.{length, take}
use Rattle.plan.specs.declared.Version.{Version}
use Rattle.plan.specs.declared.Version.TheVariants.{V19}
use Rattle.plan.specs.declared.Counts.{Counts}
use Rattle.plan.specs.declared.Refusal.{Refusal}
use Rattle.plan.specs.declared.Refusal.TheVariants.{NotInOrder}
use Rattle.plan.specs.Refusals.{Parse, got, refused, first_of}
use Rattle.plan.specs.Circuit.{Circuit, Tables, counts_of, lengths_of, holding, cleared}
use Rattle.plan.specs.Header.{list_of}
use Rattle.plan.specs.Text.{text_of}
use Rattle.plan.specs.Binary.{binary_of, binary_order}
use Rattle.plan.specs.Tail.{Symbol, tail_at, TailOk}
use Rattle.plan.specs.Reading.{WellFormed, States, LongEnough, Shortest, short_text, short_binary}
use Rattle.plan.specs.Given.{Given, given_circuit, lent_alone, failing, stages, order_stage, refusal_of, tail_stage, room_stage}
use Rattle.plan.specs.Outcome.{ReadEntry, ReadExit, read_as, read, FileEntry, written_by, write_text, write_binary}
use Rattle.laws.proofs.Put.{put_first}
use Rattle.laws.proofs.Reading.Exactly.{Accepts, complete, formed, room-to-read}
use Rattle.laws.proofs.Reading.Shortest.{states-text, states-binary}
use Rattle.laws.proofs.Reading.Tails.{tail-exactly}
use Rattle.laws.proofs.Writing.Nothing.{some-none, stage-none, failing-none, first-all, first-both}
use Rattle.laws.proofs.Writing.Fine.{counts-given, nothing-fine}

-- a tail that its stage lets pass
pub passed-tail : (n : Counts) (tail : List ℕ) → refusal_of (tail_at V19 tail n 0) ≡ None → TailOk V19 n tail
passed-tail n tail e = go (tail_at V19 tail n 0) refl e
  where
    go : (p : Parse (List Symbol)) → tail_at V19 tail n 0 ≡ p → refusal_of p ≡ None → TailOk V19 n tail
    go (got ss end) q e = (tail-exactly V19 tail n 0).0 (ss, end, q)
    go (refused r) q e = some-none r e

-- an answer in bytes: no stage refused, and the first bytes of the buffer are the file
pub wrote : (e : FileEntry) (bytes : List ℕ) (k : ℕ) (o : Option Refusal) → (written_by o e bytes).answer ≡ Ok k
    → (o ≡ None) × (k ≡ length bytes) × (take k (written_by o e bytes).out ≡ bytes)
wrote e bytes k None a =
    let k-is : k ≡ length bytes = cc in
    (refl, k-is, ap (λ (x : ℕ). take x (written_by None e bytes).out) k-is ∙ put_first e.out bytes)
wrote e bytes k (Some r) a = let z : ◌≡◌ {A = ℕ} 0 1 = cc in absurd (omega arith)

module _ (e : FileEntry) (k : ℕ) where
  abbrev g : Given
  g = e.circuit

  -- the stages of the circuit and of the tail
  passed : first_of (stages g (lent_alone g)) ≡ None → tail_stage g e.tail ≡ None
      → WellFormed (given_circuit g) × TailOk V19 (counts_of (given_circuit g)) e.tail
  passed s t =
      let f = nothing-fine g (lent_alone g) s in
      (f.formed, subst (λ (n : Counts). TailOk V19 n e.tail) (sym (counts-given g f.room)) (passed-tail g.counts e.tail t))

  abbrev text-file : List ℕ
  text-file = text_of (given_circuit g) ++ e.tail

  abbrev text-last : List (Option Refusal)
  text-last = tail_stage g e.tail ∷ room_stage e.out text-file ∷ []

  module _ (a : (write_text e).answer ≡ Ok k) where
    text-wrote : (first_of (stages g (lent_alone g) ++ text-last) ≡ None) × (k ≡ length text-file) × (take k (write_text e).out ≡ text-file)
    text-wrote = wrote e text-file k (first_of (stages g (lent_alone g) ++ text-last)) a

    -- the file that the writer of text wrote, which states the circuit and the tail
    pub text-bytes : take k (write_text e).out ≡ text_of (given_circuit e.circuit) ++ e.tail
    text-bytes = text-wrote.2

    pub text-states : States V19 (take k (write_text e).out) (given_circuit e.circuit) e.tail
    text-states =
        let s = first-both (stages g (lent_alone g)) text-last text-wrote.0 in
        let p = passed s.0 (first-all text-last s.1).0 in
        states-text (take k (write_text e).out) (given_circuit g) e.tail p.0 p.1 text-bytes

    -- whatever spelling the circuit was read from, it is written in the shortest form
    pub text-is-shortest : Shortest (take k (write_text e).out) (given_circuit e.circuit) e.tail
    text-is-shortest = short_text text-bytes

  abbrev binary-file : List ℕ
  binary-file = binary_of (given_circuit g) ++ e.tail

  abbrev binary-last : List (Option Refusal)
  binary-last = order_stage g ∷ tail_stage g e.tail ∷ room_stage e.out binary-file ∷ []

  module _ (a : (write_binary e).answer ≡ Ok k) where
    binary-wrote : (first_of (stages g (lent_alone g) ++ binary-last) ≡ None) × (k ≡ length binary-file)
        × (take k (write_binary e).out ≡ binary-file)
    binary-wrote = wrote e binary-file k (first_of (stages g (lent_alone g) ++ binary-last)) a

    -- the same of binary
    pub binary-bytes : take k (write_binary e).out ≡ binary_of (given_circuit e.circuit) ++ e.tail
    binary-bytes = binary-wrote.2

    pub binary-states : States V19 (take k (write_binary e).out) (given_circuit e.circuit) e.tail
    binary-states =
        let s = first-both (stages g (lent_alone g)) binary-last binary-wrote.0 in
        let all = first-all binary-last s.1 in
        let p = passed s.0 all.1.0 in
        let o = failing-none (binary_order (given_circuit g)) (stage-none NotInOrder (failing (binary_order (given_circuit g))) all.0) in
        states-binary (take k (write_binary e).out) (given_circuit g) e.tail p.0 p.1 binary-bytes o

    pub binary-is-shortest : Shortest (take k (write_binary e).out) (given_circuit e.circuit) e.tail
    binary-is-shortest = short_binary binary-bytes

-- read with tables that have room, it is the circuit and the tail again
module _ (e : FileEntry) (k : ℕ) (lengths : List ℕ) (room : LongEnough (given_circuit e.circuit) lengths) where
  back : (file : List ℕ) → States V19 file (given_circuit e.circuit) e.tail → Accepts V19 file lengths (given_circuit e.circuit) e.tail
  back file s =
      let c = given_circuit e.circuit in
      complete V19 file lengths c e.tail s (room-to-read file c lengths (formed V19 file c e.tail s) room)

  pub text-read-back : (write_text e).answer ≡ Ok k → Accepts V19 (take k (write_text e).out) lengths (given_circuit e.circuit) e.tail
  text-read-back a = back (take k (write_text e).out) (text-states e k a)

  pub binary-read-back : (write_binary e).answer ≡ Ok k
      → Accepts V19 (take k (write_binary e).out) lengths (given_circuit e.circuit) e.tail
  binary-read-back a = back (take k (write_binary e).out) (binary-states e k a)

-- what the reader of a version answers and leaves where it accepts
pub read-accepts : (v : Version) (r : ReadEntry) (c : Circuit) (tail : List ℕ)
    → Accepts v r.file (lengths_of r.tables r.scratch) c tail
    → read_as v r ≡ record { answer = 0 ∷ 0 ∷ list_of (counts_of c); tail = tail; tables = holding r.tables c; scratch = cleared r.scratch }
read-accepts v r c tail a = rw a.1 (λ i. record {
  answer = 0 ∷ 0 ∷ list_of (counts_of c);
  tail = a.2 i;
  tables = holding r.tables c;
  scratch = cleared r.scratch;
})

-- written and read: the same counts, the same tail, tables that hold the circuit
module _ (e : FileEntry) (k : ℕ) (t : Tables) (scratch : List ℕ)
    (room : LongEnough (given_circuit e.circuit) (lengths_of t scratch)) where
  abbrev again : ReadExit
  again = record {
    answer = 0 ∷ 0 ∷ list_of (counts_of (given_circuit e.circuit));
    tail = e.tail;
    tables = holding t (given_circuit e.circuit);
    scratch = cleared scratch;
  }

  pub written-text-is-read : (write_text e).answer ≡ Ok k
      → read (record { file = take k (write_text e).out; tables = t; scratch = scratch }) ≡ again
  written-text-is-read a =
      read-accepts V19 (record { file = take k (write_text e).out; tables = t; scratch = scratch }) (given_circuit e.circuit) e.tail
      (text-read-back e k (lengths_of t scratch) room a)

  pub written-binary-is-read : (write_binary e).answer ≡ Ok k
      → read (record { file = take k (write_binary e).out; tables = t; scratch = scratch }) ≡ again
  written-binary-is-read a =
      read-accepts V19 (record { file = take k (write_binary e).out; tables = t; scratch = scratch }) (given_circuit e.circuit) e.tail
      (binary-read-back e k (lengths_of t scratch) room a)
