-- Opening a file: 14, 13, the reader's refusals, 4; and the tables then hold the circuit.
use Prim.Native.Nat.{ℕ, ◌<◌, ◌≤◌}
use mathlib.Core.Path.{◌≡◌, sym, ap, ap₂, ◌∙◌, subst}
use mathlib.Core.Bool.{Bool, true, false, cond}
use mathlib.Core.List.{List}
use Rattle.std.specs.Prelude.{Ok, Err, Option, Some, None}
use native.Mathlib.Omega.{arith}
use borrow.Author.Tests.{le-leb, lt-leb}
use lib.ListN.{length, drop, length-replicate}
use Rattle.plan.specs.declared.Counts.{Counts}
use Rattle.plan.specs.declared.Version.TheVariants.{V19}
use Rattle.plan.specs.declared.Refusal.{Refusal}
use Rattle.plan.specs.declared.Refusal.TheVariants.{ShortTable, LongInput, Unreadable}
use Rattle.plan.specs.Refusals.{Parse, got, refused, ◌then◌, unless}
use Rattle.plan.specs.Circuit.{Circuit, counts_of, circuit_of, lengths_of, words_with, scratch_to_work, words_to_work, against, least_short}
use Rattle.plan.specs.Header.{list_of}
use Rattle.plan.specs.Tail.{TailOk}
use Rattle.plan.specs.Reading.{read_file, States, as_text, as_binary}
use Rattle.plan.specs.Given.{Given, given_circuit}
use Rattle.plan.specs.Programs.{input}
use Rattle.plan.specs.Outcome.{ReadEntry, LoadExit, load, load_by}
use Rattle.plan.specs.Whole.{input_of}
use Rattle.laws.proofs.Reading.Differences.{Bytes}
use Rattle.laws.proofs.Reading.Exactly.{all_most, sound, formed}
use Rattle.laws.proofs.Reading.Headers.{AllMost}
use Rattle.laws.proofs.Reading.Places.{start-within}
use Rattle.laws.proofs.Reading.Short.{short_none}
use Rattle.laws.proofs.Writing.Later.{Left, load-left}
use Rattle.tables.specs.Lengths.{lengths_in}
use Rattle.whole.specs.Opening.{OpenEntry, short_in, opening, opened, Opens}

abbrev reading : OpenEntry → ReadEntry
reading e = record { file = e.file; tables = e.tables; scratch = e.scratch }

module _ (e : OpenEntry) where
  abbrev parse : Parse Circuit
  parse = read_file V19 e.file (lengths_of e.tables e.scratch)

  pub not-readable : e.readable ≡ false → opened e ≡ refused (Unreadable 0)
  not-readable h = ap (λ (b : Bool). input (input_of b e.file) λ file. opening e file) h

  module _ (readable : e.readable ≡ true) where
    on-file : opened e ≡ input (Some e.file) λ file. opening e file
    on-file = ap (λ (b : Bool). input (input_of b e.file) λ file. opening e file) readable

    pub too_long : 65536 < length e.file → opened e ≡ refused (LongInput 65536)
    too_long h = on-file ∙ ap (λ (b : Bool). cond b (opening e e.file) (refused (LongInput 65536))) (lt-leb (length e.file) 65536 h)

    module _ (fits : length e.file ≤ 65536) where
      here : opened e ≡ opening e e.file
      here = on-file ∙ ap (λ (b : Bool). cond b (opening e e.file) (refused (LongInput 65536))) (le-leb (length e.file) 65536 fits)

      module _ (x : LoadExit) (said : x ≡ load (reading e)) where
        by-parse : (p : Parse Circuit) (r : Refusal) → (load_by (reading e) p).answer ≡ Err r → p ≡ refused r
        by-parse (got c s) r q = let z : ◌≡◌ {A = ℕ} 0 1 = cc in absurd (omega arith)
        by-parse (refused k) r q = let same : k ≡ r = cc in ap refused same

        pub not-read : (r : Refusal) → x.answer ≡ Err r → opened e ≡ refused r
        not-read r a =
            let p = by-parse parse r (ap (λ (y : LoadExit). y.answer) (sym said) ∙ a) in
            here ∙ ap (λ (q : Parse Circuit). q then λ c start.
            unless (short_in (counts_of c) e.made e.scratch) ShortTable (got c start)) p

        -- scratch is as long as before
        scratch-kept : length x.scratch ≡ length e.scratch
        scratch-kept = ap (λ (y : LoadExit). length y.scratch) said ∙ go parse
          where
            go : (p : Parse Circuit) → length (load_by (reading e) p).scratch ≡ length e.scratch
            go (got c s) = length-replicate (length e.scratch) 0
            go (refused k) = length-replicate (length e.scratch) 0

        module _ (bytes : Bytes e.file) (n : Counts) (start : ℕ) (a : x.answer ≡ Ok (n, start)) where
          abbrev g : Given
          g = record { counts = n; tables = x.tables; scratch = x.scratch }

          -- the circuit that the file states
          read_is : (c : Circuit) × (parse ≡ got c start) × (n ≡ counts_of c) × (given_circuit g ≡ c)
              × (scratch_to_work n ≤ length e.scratch → Left g c)
          read_is =
              let l = load-left V19 (reading e) bytes n start (ap (λ (y : LoadExit). y.answer) (sym said) ∙ a) in (
                l.0,
                l.1,
                l.2,
                ap (λ (y : LoadExit). circuit_of n y.tables) said ∙ l.3,
                λ five. subst (λ (y : LoadExit). Left (record { counts = n; tables = y.tables; scratch = y.scratch }) l.0) (sym said)
                    (l.4 five),
              )

          states : States V19 e.file read_is.0 (drop start e.file)
          states = (sound V19 e.file (lengths_of e.tables e.scratch) bytes read_is.0 start read_is.1).0

          pub limits : AllMost (list_of n)
          limits =
              subst (λ (m : Counts). AllMost (list_of m)) (sym read_is.2)
              (all_most read_is.0 (formed V19 e.file read_is.0 (drop start e.file) states))

          opens-to : opened e ≡ unless (short_in n e.made e.scratch) ShortTable (got (given_circuit g) start)
          opens-to =
              here ∙ (ap (λ (q : Parse Circuit). q then λ c start.
              unless (short_in (counts_of c) e.made e.scratch) ShortTable (got c start)) read_is.1
              ∙ ap₂ (λ (m : Counts) (d : Circuit). unless (short_in m e.made e.scratch) ShortTable (got d start))
              (sym read_is.2) (sym read_is.3))

          -- the answer on tables of these sizes, and scratch as it is now
          module _ (needed : ℕ) (needed-is : needed ≡ scratch_to_work n) (o : Option ℕ)
              (answer : o ≡ least_short (against 1 (words_with needed n) (lengths_in e.made (length x.scratch)))) where
            told : o ≡ short_in n e.made x.scratch
            told = answer ∙ ap (λ (s : ℕ). least_short (against 1 (words_with s n) (lengths_in e.made (length x.scratch)))) needed-is

            told-before : o ≡ short_in n e.made e.scratch
            told-before = told ∙ ap (λ (m : ℕ). least_short (against 1 (words_to_work n) (lengths_in e.made m))) scratch-kept

            pub made-short : (k : ℕ) → o ≡ Some k → opened e ≡ refused (ShortTable k)
            made-short k h =
                opens-to ∙ ap (λ (s : Option ℕ). unless s ShortTable (got (given_circuit g) start))
                (sym told-before ∙ h)

            stated-tail : (c : Circuit) (tail : List ℕ) → States V19 e.file c tail → TailOk V19 (counts_of c) tail
            stated-tail c tail (as_text s q w t) = t
            stated-tail c tail (as_binary s q b w t) = t

            pub made-long : o ≡ None → Opens e (Ok (n, start)) x.tables x.scratch
            made-long h =
                let long = sym told-before ∙ h in
                let five = ((short_none (against 1 (words_to_work n) (lengths_in e.made (length e.scratch)))).0 long).1.1.1.1.0 in (
                  opens-to ∙ ap (λ (s : Option ℕ). unless s ShortTable (got (given_circuit g) start)) long,
                  start-within e.file V19 (lengths_of e.tables e.scratch) read_is.0 start read_is.1,
                  record {
                    fine = (read_is.4 five).fine;
                    tail-ok = subst (λ (m : Counts). TailOk V19 m (drop start e.file)) (sym read_is.2)
                        (stated-tail read_is.0 (drop start e.file) states);
                    long = sym told ∙ h;
                  },
                )
