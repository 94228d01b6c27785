-- What the calls after a read answer, each handed what the one before left: the form and the tail, or 11.
use Prim.Native.Nat.{ℕ, ◌+◌, ◌*◌, ◌≤◌}
use mathlib.Core.Path.{◌≡◌, refl, sym, ap, ap₂, ◌∙◌, subst}
use mathlib.Core.Bool.{true}
use mathlib.Core.List.{List, [], ◌∷◌, ◌++◌}
use Rattle.std.specs.Prelude.{Ok, Err, Option, Some, None}
use native.Mathlib.Omega.{arith}
use lib.ListN.{length, length-replicate}
use Rattle.plan.specs.declared.Counts.{Counts}
use Rattle.plan.specs.declared.Version.TheVariants.{V19}
use Rattle.plan.specs.declared.Refusal.{Refusal}
use Rattle.plan.specs.declared.Refusal.TheVariants.{ShortBuffer}
use Rattle.plan.specs.Refusals.{stage, first_of}
use Rattle.plan.specs.Circuit.{Circuit, Tables, counts_of, lengths_of, words_to_work, against, least_short}
use Rattle.plan.specs.Text.{text_of}
use Rattle.plan.specs.Binary.{binary_of, binary_order}
use Rattle.plan.specs.Tail.{TailOk}
use Rattle.plan.specs.Reading.{WellFormed}
use Rattle.plan.specs.Given.{Given, given_circuit, lent_alone, lent_with, stages, order_stage, refusal_of, tail_stage, lacking_room, room_stage}
use Rattle.plan.specs.Convert.{convert}
use Rattle.plan.specs.Outcome.{WriteExit, put_by, put_bytes, FileEntry, FileExit, written_by, write_text, write_binary, MakeEntry, MakeExit, made_by, conversion}
use Rattle.laws.proofs.Reading.Short.{short_none}
use Rattle.laws.proofs.Reading.Tails.{tail-exactly}
use Rattle.laws.proofs.Running.Counts.{counts-convert, tail-convert}
use Rattle.laws.proofs.Writing.Nothing.{both_first}
use Rattle.laws.proofs.Writing.Fine.{Fine, counts-given, nothing-fine}
use Rattle.laws.proofs.Writing.Later.{Left, conversion-left}
use Rattle.laws.proofs.Writing.Accepting.{conversion-accepted}
use Rattle.tables.specs.declared.Sizes.{Sizes}
use Rattle.tables.specs.Lengths.{lengths_in, sizes_of}
use Rattle.whole.specs.Opening.{short_in, Ready}

-- a writer's answer and buffer
abbrev pub shown : FileExit → WriteExit
shown x = record { answer = x.answer; out = x.out }

last : (o : Option Refusal) → first_of (o ∷ []) ≡ o
last None = refl
last (Some r) = refl

put_is : (e : FileEntry) (bytes : List ℕ) (o : Option ℕ) → shown (written_by (stage ShortBuffer o) e bytes) ≡ put_by o e.out 0 bytes
put_is e bytes None = refl
put_is e bytes (Some k) = refl

-- the writers, on tables and a tail that pass
module _ (g : Given) (tail out : List ℕ) (fine : first_of (stages g (lent_alone g)) ≡ None) (t : TailOk V19 g.counts tail) where
  abbrev entry : FileEntry
  entry = record { circuit = g; tail = tail; out = out }

  tail-passes : tail_stage g tail ≡ None
  tail-passes = let r = (tail-exactly V19 tail g.counts 0).1 t in ap refusal_of r.2

  pub text-put : (x : FileExit) → x ≡ write_text entry → shown x ≡ put_bytes out 0 (text_of (given_circuit g) ++ tail)
  text-put x said =
      let bytes = text_of (given_circuit g) ++ tail in
      let rest : first_of (tail_stage g tail ∷ room_stage out bytes ∷ []) ≡ room_stage out bytes
      = ap (λ (o : Option Refusal). first_of (o ∷ room_stage out bytes ∷ [])) tail-passes ∙ last (room_stage out bytes) in
      ap shown said
      ∙ (ap (λ (o : Option Refusal). shown (written_by o entry bytes))
      (both_first (stages g (lent_alone g)) (tail_stage g tail ∷ room_stage out bytes ∷ []) fine ∙ rest)
      ∙ put_is entry bytes (lacking_room out 0 bytes))

  pub binary-put : binary_order (given_circuit g) ≡ true → (x : FileExit) → x ≡ write_binary entry
      → shown x ≡ put_bytes out 0 (binary_of (given_circuit g) ++ tail)
  binary-put order x said =
      let bytes = binary_of (given_circuit g) ++ tail in
      let ordered : order_stage g ≡ None = rw order in
      let rest : first_of (order_stage g ∷ tail_stage g tail ∷ room_stage out bytes ∷ []) ≡ room_stage out bytes
      = ap₂ (λ (p o : Option Refusal). first_of (p ∷ o ∷ room_stage out bytes ∷ [])) ordered tail-passes ∙ last (room_stage out bytes) in
      ap shown said
      ∙ (ap (λ (o : Option Refusal). shown (written_by o entry bytes))
      (both_first (stages g (lent_alone g)) (order_stage g ∷ tail_stage g tail ∷ room_stage out bytes ∷ []) fine ∙ rest)
      ∙ put_is entry bytes (lacking_room out 0 bytes))

-- what a making leaves
abbrev pub after : Counts → MakeExit → Given
after n x = record { counts = n; tables = x.written; scratch = x.scratch }

-- a making that is not refused: its circuit is in binary order, stands in tables that no check refuses, and takes the tail
pub record Passed (y : MakeExit) (d : Circuit) (tail : List ℕ) : Type 0 where
  pub took : y.answer ≡ Ok (counts_of d)
  pub lefts : (n : Counts) → y.answer ≡ Ok n → Left (after n y) d × (binary_order d ≡ true)
  pub tail-ok : TailOk V19 (counts_of d) tail

module _ (y : MakeExit) (d : Circuit) (tail : List ℕ) (p : Passed y d tail) (x : MakeExit) (said : x ≡ y) where
  pub not-refused : (r : Refusal) → x.answer ≡ Err r → ⊥
  not-refused r a =
      let b : Err r ≡ Ok (counts_of d) = sym a ∙ (ap (λ (z : MakeExit). z.answer) said ∙ p.took) in
      let z : ◌≡◌ {A = ℕ} 0 1 = cc in omega arith

  module _ (n : Counts) (a : x.answer ≡ Ok n) where
    left_is : Left (after n x) d × (binary_order d ≡ true)
    left_is =
        subst (λ (z : MakeExit). Left (after n z) d × (binary_order d ≡ true)) (sym said)
        (p.lefts n (ap (λ (z : MakeExit). z.answer) (sym said) ∙ a))

    pub made-counts : n ≡ counts_of d
    made-counts = left_is.0.counts

    pub made-is : given_circuit (after n x) ≡ d
    made-is = left_is.0.holds

    pub made-in-order : binary_order (given_circuit (after n x)) ≡ true
    made-in-order = ap binary_order made-is ∙ left_is.1

    tail-is : TailOk V19 n tail
    tail-is = subst (λ (m : Counts). TailOk V19 m tail) (sym made-counts) p.tail-ok

    -- written as binary
    pub made-put : (out : List ℕ) (z : FileExit) → z ≡ write_binary (record { circuit = after n x; tail = tail; out = out })
        → shown z ≡ put_bytes out 0 (binary_of d ++ tail)
    made-put out z wrote =
        binary-put (after n x) tail out left_is.0.fine tail-is made-in-order z wrote
        ∙ ap (λ (c : Circuit). put_bytes out 0 (binary_of c ++ tail)) made-is

    -- it stands ready for the next making, beside tables that are long enough
    pub made-ready : (sizes : Sizes) → short_in n sizes x.scratch ≡ None → Ready (after n x) tail sizes
    made-ready sizes long = record { fine = left_is.0.fine; tail-ok = tail-is; long = long }

-- the counts with k gates, and as many variables as are defined
abbrev pub smaller : Counts → ℕ → Counts
smaller n k = record { M = n.I + n.L + k; I = n.I; L = n.L; O = n.O; A = k; B = n.B; C = n.C }

-- tables that stand ready
module _ (g : Given) (tail : List ℕ) (made : Sizes) (ready : Ready g tail made) where
  pub fine-is : Fine g (lent_alone g)
  fine-is = nothing-fine g (lent_alone g) ready.fine

  pub counts-are : counts_of (given_circuit g) ≡ g.counts
  counts-are = counts-given g fine-is.room

  pub left_here : Left g (given_circuit g)
  left_here = record { holds = refl; counts = sym counts-are; fine = ready.fine }

  pub tail-here : TailOk V19 (counts_of (given_circuit g)) tail
  tail-here = subst (λ (m : Counts). TailOk V19 m tail) (sym counts-are) ready.tail-ok

  pub long-here : short_in (counts_of (given_circuit g)) made g.scratch ≡ None
  long-here = ap (λ (m : Counts). short_in m made g.scratch) counts-are ∙ ready.long

  -- no more gates ask for no more of the tables they came from
  pub smaller-long : (n : Counts) (k : ℕ) → n ≡ smaller g.counts k → k ≤ g.counts.A → (s : List ℕ) → length s ≡ length g.scratch
      → short_in n (sizes_of g.tables) s ≡ None
  smaller-long n k same few s kept =
      let l = (short_none (lent_alone g)).0 fine-is.room in
      let sum = fine-is.sum in
      let h4 : 3 * k ≤ length g.tables.gates = omega (arith, l.1.1.1.0) in
      let h5 : 4 * (g.counts.I + g.counts.L + k + 1) + g.counts.O + g.counts.B + g.counts.C ≤ length g.scratch
      = omega (arith, l.1.1.1.1.0) in
      ap₂ (λ (m : Counts) (j : ℕ). least_short (against 1 (words_to_work m) (lengths_in (sizes_of g.tables) j))) same kept
      ∙ (short_none (against 1 (words_to_work (smaller g.counts k)) (lengths_of g.tables g.scratch))).1
      (l.0, (l.1.0, (l.1.1.0, (h4, (h5, l.1.1.1.1.1)))))

-- a making clears scratch, and leaves its length
pub scratch-kept : (o : Option Refusal) (e : MakeEntry) (d : Circuit) → length (made_by o e d).scratch ≡ length e.circuit.scratch
scratch-kept None e d = length-replicate (length e.circuit.scratch) 0
scratch-kept (Some r) e d = length-replicate (length e.circuit.scratch) 0

-- the conversion
module _ (g : Given) (t : Tables) (tail : List ℕ) (ready : Ready g tail (sizes_of t)) where
  abbrev e : MakeEntry
  e = record { circuit = g; written = t }

  pub converts : Passed (conversion (record { circuit = g; written = t })) (convert (given_circuit g)) tail
  converts = record {
    took = conversion-accepted g (given_circuit g) (left_here g tail (sizes_of t) ready) t (long-here g tail (sizes_of t) ready);
    lefts = conversion-left e;
    tail-ok = tail-convert V19 (given_circuit g) tail (tail-here g tail (sizes_of t) ready);
  }

  -- it stands ready for the next making, back into the tables it was read into
  pub converted-ready : (x : MakeExit) → x ≡ conversion (record { circuit = g; written = t }) → (n : Counts) → x.answer ≡ Ok n
      → Ready (after n x) tail (sizes_of g.tables)
  converted-ready x said n a =
      let w : WellFormed (given_circuit g) = (fine-is g tail (sizes_of t) ready).formed in
      let counts : n ≡ smaller g.counts g.counts.A
      = made-counts _ _ tail converts x said n a
      ∙ (counts-convert (given_circuit g) w ∙ ap (λ (m : Counts). smaller m m.A) (counts-are g tail (sizes_of t) ready)) in
      let kept : length x.scratch ≡ length g.scratch
      = ap (λ (y : MakeExit). length y.scratch) said ∙ scratch-kept (first_of (stages g (lent_with g t))) e (convert (given_circuit g)) in
      made-ready _ _ tail converts x said n a (sizes_of g.tables)
      (smaller-long g tail (sizes_of t) ready n g.counts.A counts (omega arith) x.scratch kept)
