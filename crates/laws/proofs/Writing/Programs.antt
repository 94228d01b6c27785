-- What the converter and the reducer write, the reader accepts: the converted or the reduced circuit with the same tail. The reducer, run
-- on what it wrote, writes the same; what the converter wrote in binary comes back through text, and the tracer's lines stay.
use Prim.Native.Nat.{ℕ, ◌≤◌}
use mathlib.Core.Path.{◌≡◌, refl, sym, ap, ap₂, ◌∙◌}
use mathlib.Core.Bool.{true}
use mathlib.Core.List.{List, ◌++◌, map}
use Rattle.std.specs.Prelude.{Option, Some, None}
use native.Mathlib.Omega.{arith}
use borrow.Author.Tests.{le-leb}
use lib.ListN.{length, drop}
use lib.Seq.{drop-append_seam}
use Rattle.plan.specs.declared.Version.TheVariants.{V19}
use Rattle.plan.specs.declared.Counts.{Counts}
use Rattle.plan.specs.Refusals.{got, ◌then◌}
use Rattle.plan.specs.Circuit.{Circuit, counts_of, words_to_work, against, least_short}
use Rattle.plan.specs.Binary.{binary_of, binary_order}
use Rattle.plan.specs.Tail.{TailOk}
use Rattle.plan.specs.Reading.{read_file, read_to_work, WellFormed, States, short_binary, LongEnough}
use Rattle.plan.specs.Convert.{convert}
use Rattle.plan.specs.Reduce.{reduce}
use Rattle.plan.specs.Programs.{lent_words, input, fitting, printed, reducer, stimulus, step_lines, tracer}
use Rattle.plan.specs.Step.{value_of, run, first_state}
use Rattle.laws.proofs.Reading.Differences.{Bytes}
use Rattle.laws.proofs.Reading.Runs.{length-lits}
use Rattle.laws.proofs.Reading.Short.{short_none}
use Rattle.laws.proofs.Reading.Exactly.{sound, formed}
use Rattle.laws.proofs.Running.Unchanged.{convert-same}
use Rattle.laws.proofs.Running.Results.{convert-well-formed, convert-in-order, convert-again, reduce-well-formed, reduce-in-order, reduce-fewer}
use Rattle.laws.proofs.Running.Counts.{counts-convert, counts-reduce, tail-convert, tail-reduce}
use Rattle.laws.proofs.Running.ReduceAgain.{reduce-again}
use Rattle.laws.proofs.Writing.Back.{binary-back}
use Rattle.laws.proofs.Writing.ThereAndBack.{BackAgain, stated-tail, shortest-back}

-- a circuit with the same I, L, O, B and C, and M and A no larger, has room where the first has
room-less : (n m : Counts) (lengths : List ℕ) → m.M ≤ n.M → m.I ≡ n.I → m.L ≡ n.L → m.O ≡ n.O → m.A ≤ n.A → m.B ≡ n.B
    → m.C ≡ n.C
    → least_short (against 1 (words_to_work n) lengths) ≡ None → least_short (against 1 (words_to_work m) lengths) ≡ None
room-less n m lengths hm hi hl ho ha hb hc r =
    let l = (short_none (against 1 (words_to_work n) lengths)).0 r in
    let h1 = l.1.1.1.1 in
    let h7 = h1.1.1 in
    (short_none (against 1 (words_to_work m) lengths)).1 (
      omega (arith, l.0),
      (
        omega (arith, l.1.0),
        (
          omega (arith, l.1.1.0),
          (
            omega (arith, l.1.1.1.0),
            (omega (arith, h1.0), (omega arith, (omega (arith, h7.0), (omega (arith, h7.1.0), (omega (arith, h7.1.1.0), tt))))),
          ),
        ),
      ),
    )

module _ (c : Circuit) (w : WellFormed c) (lengths : List ℕ) (room : LongEnough c lengths) where
  pub room-convert : LongEnough (convert c) lengths
  room-convert =
      let k = counts-convert c w in
      room-less (counts_of c) (counts_of (convert c)) lengths w.sum (ap (λ (n : Counts). n.I) k) (ap (λ (n : Counts). n.L) k)
      (ap (λ (n : Counts). n.O) k) (omega (arith, ap (λ (n : Counts). n.A) k)) (ap (λ (n : Counts). n.B) k) (ap (λ (n : Counts). n.C) k) room

  pub room-reduce : binary_order c ≡ true → LongEnough (reduce c) lengths
  room-reduce t =
      let k = counts-reduce c in
      let fewer = reduce-fewer c w t in
      room-less (counts_of c) (counts_of (reduce c)) lengths (omega (arith, w.sum, fewer)) (ap (λ (n : Counts). n.I) k)
      (ap (λ (n : Counts). n.L) k) (ap (λ (n : Counts). n.O) k) fewer (ap (λ (n : Counts). n.B) k) (ap (λ (n : Counts). n.C) k) room

-- of an accepted file, with room for the calls that follow
module _ (file lengths : List ℕ) (bytes : Bytes file) (c : Circuit) (start : ℕ) (accepted : read_file V19 file lengths ≡ got c start)
    (long : LongEnough c lengths) where
  abbrev tail : List ℕ
  tail = drop start file

  abbrev less : Circuit
  less = reduce (convert c)

  stated : States V19 file c tail
  stated = (sound V19 file lengths bytes c start accepted).0

  well : WellFormed c
  well = formed V19 file c tail stated

  tail-ok : TailOk V19 (counts_of (convert c)) tail
  tail-ok = tail-convert V19 c tail (stated-tail file c tail stated)

  room : LongEnough (convert c) lengths
  room = room-convert c well lengths long

  pub converted-accepted : read_file V19 (binary_of (convert c) ++ tail) lengths ≡ got (convert c) (length (binary_of (convert c)))
  converted-accepted = binary-back (convert c) tail lengths (convert-well-formed c well) tail-ok room (convert-in-order c well)

  pub converted-to-work : read_to_work (binary_of (convert c) ++ tail) lengths lengths ≡ got (convert c) (length (binary_of (convert c)))
  converted-to-work = rw (converted-accepted, room)

  pub reduced-well-formed : WellFormed (reduce (convert c))
  reduced-well-formed = reduce-well-formed (convert c) (convert-well-formed c well) (convert-in-order c well)

  pub reduced-in-order : binary_order (reduce (convert c)) ≡ true
  reduced-in-order = reduce-in-order (convert c) (convert-well-formed c well) (convert-in-order c well)

  reduced-room : LongEnough (reduce (convert c)) lengths
  reduced-room = room-reduce (convert c) (convert-well-formed c well) lengths room (convert-in-order c well)

  pub reduced-accepted : read_file V19 (binary_of (reduce (convert c)) ++ tail) lengths
      ≡ got (reduce (convert c)) (length (binary_of (reduce (convert c))))
  reduced-accepted =
      binary-back less tail lengths reduced-well-formed (tail-reduce V19 (convert c) tail tail-ok) reduced-room reduced-in-order

  pub reduced-to-work : read_to_work (binary_of (reduce (convert c)) ++ tail) lengths lengths
      ≡ got (reduce (convert c)) (length (binary_of (reduce (convert c))))
  reduced-to-work = rw (reduced-accepted, reduced-room)

  -- converted and reduced again it is the same
  pub reduced-again : reduce (convert (reduce (convert c))) ≡ reduce (convert c)
  reduced-again =
      ap reduce (convert-same less reduced-well-formed reduced-in-order)
      ∙ reduce-again (convert c) (convert-well-formed c well) (convert-in-order c well)

-- the programs on an accepted file, where files are as long as an input may be
module _ (file : List ℕ) (bytes : Bytes file) (c : Circuit) (start : ℕ) (accepted : read_file V19 file lent_words ≡ got c start)
    (long : LongEnough c lent_words) (short-enough : length file ≤ 65536) where
  abbrev converted : List ℕ
  converted = binary_of (convert c) ++ drop start file

  abbrev lessened : List ℕ
  lessened = binary_of (reduce (convert c)) ++ drop start file

  pub reducer-writes : length lessened ≤ 65536 → reducer (Some file) ≡ lessened
  reducer-writes h = rw (le-leb (length file) 65536 short-enough, accepted, long) (rw (le-leb (length lessened) 65536 h))

  -- the reducer writes what it wrote
  pub reducer-again : length lessened ≤ 65536 → reducer (Some (reducer (Some file))) ≡ reducer (Some file)
  reducer-again h = ap (λ (x : List ℕ). reducer (Some x)) (reducer-writes h) ∙ (on-lessened ∙ sym (reducer-writes h))
    where
      on-lessened : reducer (Some lessened) ≡ lessened
      on-lessened =
          let less = reduce (convert c) in
          let same : binary_of (reduce (convert less)) ++ drop (length (binary_of less)) lessened ≡ lessened
          = ap₂ (λ (x : Circuit) (y : List ℕ). binary_of x ++ y) (reduced-again file lent_words bytes c start accepted long)
          (drop-append_seam (binary_of less) (drop start file)) in
          rw (le-leb (length lessened) 65536 h, reduced-to-work file lent_words bytes c start accepted long)
          (ap (λ (x : List ℕ). printed (fitting x)) same ∙ rw (le-leb (length lessened) 65536 h))

  -- what the converter wrote in binary comes back through text
  pub converted-back : BackAgain converted lent_words
  converted-back =
      let w = well file lent_words bytes c start accepted long in
      let t = tail-ok file lent_words bytes c start accepted long in
      shortest-back converted lent_words (convert c) (drop start file) (convert-well-formed c w) t (short_binary refl)
      (room file lent_words bytes c start accepted long) (convert-in-order c w)

  -- the tracer gives the same lines for the converted file
  pub tracer-same : length converted ≤ 65536 → (list : Option (List ℕ)) → tracer (Some converted) list ≡ tracer (Some file) list
  tracer-same h list =
      rw (
        le-leb (length converted) 65536 h,
        converted-to-work file lent_words bytes c start accepted long,
        le-leb (length file) 65536 short-enough,
        accepted,
        long,
      )
      (ap₂ lines (length-lits 1 (length c.inputs)) (convert-again c (well file lent_words bytes c start accepted long)))
    where
      lines : ℕ → Circuit → List ℕ
      lines n d =
          printed (input list λ bytes.
          stimulus n bytes then λ rows end.
          got (step_lines (run d (first_state d) (map (map value_of) rows))) end)
