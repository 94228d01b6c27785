-- The same of the whole-file functions, for any tables and any buffer lent: answer, tables and buffer are the same afterwards.
use Prim.Native.Nat.{ℕ, ◌≤◌}
use mathlib.Core.Path.{◌≡◌, refl, sym, ap, ap₂, ◌∙◌}
use mathlib.Core.List.{List, ◌++◌}
use Rattle.std.specs.Prelude.{Option, Some, None}
use borrow.Author.Tests.{le-leb}
use lib.ListN.{length, drop}
use Rattle.plan.specs.declared.Version.TheVariants.{V19}
use Rattle.plan.specs.declared.Refusal.TheVariants.{ShortTable}
use Rattle.plan.specs.Refusals.{Parse, got, refused, ◌then◌, unless}
use Rattle.plan.specs.Circuit.{Circuit, counts_of, lengths_of, words_to_work, against, least_short}
use Rattle.plan.specs.Header.{header}
use Rattle.plan.specs.Binary.{binary_of}
use Rattle.plan.specs.Reading.{LongEnough}
use Rattle.plan.specs.Convert.{convert}
use Rattle.plan.specs.Reduce.{reduce}
use Rattle.plan.specs.Programs.{other_form}
use Rattle.plan.specs.Outcome.{Says}
use Rattle.plan.specs.Whole.{WholeEntry, WholeExit, fitting_in, whole_by, convert_whole, reduce_whole}
use Rattle.same.specs.Agreement.{Agree, AcceptedText, SamePlan}
use Rattle.same.proofs.Circuits.{same-converted-bytes, same-reduced-bytes}
use Rattle.same.proofs.Rooms.{room-scratch, short-alike}
use Rattle.same.proofs.Files.{text-header, text-room}

-- the same tables, scratch and buffer, with a file
abbrev pub handed : WholeEntry → List ℕ → WholeEntry
handed e file = record { plan = Some file; read = e.read; made = e.made; scratch = e.scratch; out = e.out }

abbrev pub lengths_read : WholeEntry → List ℕ
lengths_read e = lengths_of e.read e.scratch

module _ (e : WholeEntry) where
  -- 4 for the tables to make a circuit in, then 11
  abbrev wrote : Circuit → List ℕ → Parse (List ℕ)
  wrote c bytes = unless (least_short (against 1 (words_to_work (counts_of c)) (lengths_of e.made e.scratch))) ShortTable (fitting_in e.out bytes)

  -- what is left does not depend on the file but through what is written
  left-alike : (file other : List ℕ) (p : Parse (List ℕ)) → whole_by (handed e file) p ≡ whole_by (handed e other) p
  left-alike file other (got bytes n) = refl
  left-alike file other (refused r) = refl

  module _ (file : List ℕ) (small : length file ≤ 65536) (c : Circuit) (tail : List ℕ) (t : AcceptedText file (lengths_read e) c tail) where
    convert-on-text : convert_whole (handed e file) ≡ whole_by (handed e file) (wrote c (binary_of (convert c) ++ tail))
    convert-on-text =
        rw (le-leb (length file) 65536 small, t.accepted)
        (ap (whole_by (handed e file)) (go (least_short (against 1 (words_to_work (counts_of c)) (lengths_of e.made e.scratch)))))
      where
        go : (o : Option ℕ) → (unless o ShortTable (got c t.start) then λ c start.
            header V19 file 0 then λ h _.
            fitting_in e.out (other_form h.form c ++ drop start file))
            ≡ unless o ShortTable (fitting_in e.out (binary_of (convert c) ++ tail))
        go None = rw (text-header t).2 (ap (λ (x : List ℕ). fitting_in e.out (binary_of (convert c) ++ x)) t.rest)
        go (Some place) = refl

    reduce-on-text : reduce_whole (handed e file) ≡ whole_by (handed e file) (wrote c (binary_of (reduce (convert c)) ++ tail))
    reduce-on-text =
        rw (le-leb (length file) 65536 small, t.accepted)
        (ap (whole_by (handed e file)) (go (least_short (against 1 (words_to_work (counts_of c)) (lengths_of e.made e.scratch)))))
      where
        go : (o : Option ℕ) → (unless o ShortTable (got c t.start) then λ c start.
            fitting_in e.out (binary_of (reduce (convert c)) ++ drop start file))
            ≡ unless o ShortTable (fitting_in e.out (binary_of (reduce (convert c)) ++ tail))
        go None = ap (λ (x : List ℕ). fitting_in e.out (binary_of (reduce (convert c)) ++ x)) t.rest
        go (Some place) = refl

  -- scratch, for which M counts, is long enough for both, since both were read
  wrote-alike : (rename : ℕ → ℕ) (c d : Circuit) → Agree rename c d → LongEnough c (lengths_read e) → LongEnough d (lengths_read e)
      → (bytes other : List ℕ) → bytes ≡ other → wrote c bytes ≡ wrote d other
  wrote-alike rename c d agree room room' bytes other same =
      ap₂ (λ (o : Option ℕ) (x : List ℕ). unless o ShortTable (fitting_in e.out x))
      (short-alike rename c d agree (lengths_of e.made e.scratch) (room-scratch c (lengths_read e) room)
      (room-scratch d (lengths_read e) room')) same

  module _ (file other : List ℕ) (plan : SamePlan (lengths_read e) file other) (small : length file ≤ 65536) (small' : length other ≤ 65536) where
    alike : (bytes bytes' : List ℕ) → bytes ≡ bytes'
        → whole_by (handed e file) (wrote plan.c (bytes ++ plan.tail)) ≡ whole_by (handed e other) (wrote plan.d (bytes' ++ plan.tail))
    alike bytes bytes' same =
        left-alike file other (wrote plan.c (bytes ++ plan.tail))
        ∙ ap (whole_by (handed e other)) (wrote-alike plan.rename plan.c plan.d plan.agree (text-room plan.first)
        (text-room plan.second) _ _ (ap (λ (x : List ℕ). x ++ plan.tail) same))

    pub same-convert_whole : convert_whole (handed e file) ≡ convert_whole (handed e other)
    same-convert_whole =
        convert-on-text file small plan.c plan.tail plan.first
        ∙ (alike _ _ (same-converted-bytes plan.rename plan.one-to-one plan.c plan.d plan.agree)
        ∙ sym (convert-on-text other small' plan.d plan.tail plan.second))

    pub same-reduce_whole : reduce_whole (handed e file) ≡ reduce_whole (handed e other)
    same-reduce_whole =
        reduce-on-text file small plan.c plan.tail plan.first
        ∙ (alike _ _ (same-reduced-bytes plan.rename plan.one-to-one plan.c plan.d plan.agree)
        ∙ sym (reduce-on-text other small' plan.d plan.tail plan.second))

    -- so what the code leaves of them is the same, by its contract
    pub converted-alike : (x y : WholeExit) → Says convert_whole (handed e file) x → Says convert_whole (handed e other) y → x ≡ y
    converted-alike x y s t = s ∙ (same-convert_whole ∙ sym t)

    pub reduced-alike : (x y : WholeExit) → Says reduce_whole (handed e file) x → Says reduce_whole (handed e other) y → x ≡ y
    reduced-alike x y s t = s ∙ (same-reduce_whole ∙ sym t)
