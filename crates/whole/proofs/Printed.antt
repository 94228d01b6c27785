-- With what the programs lend, the whole-file functions leave what the programs print.
use Prim.Native.Nat.{ℕ, ◌+◌, ◌-◌, ◌^◌, ◌<◌, ◌≤◌, min}
use mathlib.Core.Path.{◌≡◌, refl, ap, ap₂, ◌∙◌}
use mathlib.Core.Bool.{Bool, true, false, cond}
use mathlib.Core.List.{List, ◌++◌}
use Rattle.std.specs.Prelude.{Ok, Err, Option, Some, None}
use native.Mathlib.Omega.{arith}
use borrow.Author.Tests.{leb-true}
use lib.Dec.{leb}
use lib.ListN.{length, take, drop, length-append, length-drop}
use Rattle.plan.specs.declared.Version.TheVariants.{V19}
use Rattle.plan.specs.declared.Refusal.{Refusal}
use Rattle.plan.specs.declared.Refusal.TheVariants.{ShortBuffer, LongInput}
use Rattle.plan.specs.Refusals.{Parse, got, refused, ◌then◌, unless}
use Rattle.plan.specs.Circuit.{Circuit, lengths_of}
use Rattle.plan.specs.Header.{Form, text, binary, Head, header}
use Rattle.plan.specs.Text.{text_of}
use Rattle.plan.specs.Binary.{binary_of}
use Rattle.plan.specs.Reading.{read_to_work, WellFormed}
use Rattle.plan.specs.Convert.{convert}
use Rattle.plan.specs.Reduce.{reduce}
use Rattle.plan.specs.Programs.{lent_words, lent_bytes, refusal_line, printed, input, fitting, other_form, converter, reducer}
use Rattle.plan.specs.Whole.{WholeEntry, file_circuit, fitting_in, whole_by, convert_whole, reduce_whole, converted_file, reduced_file}
use Rattle.laws.proofs.Put.{put_first}
use Rattle.laws.proofs.Reading.Differences.{Bytes}
use Rattle.laws.proofs.Reading.Exactly.{sound, formed, work-read}
use Rattle.laws.proofs.Running.Results.{convert-well-formed, convert-in-order, reduce-well-formed}
use Rattle.whole.proofs.Bounds.{text-most, binary-most}

-- what the programs lend, and an input of bytes
pub record Lends (e : WholeEntry) : Type 0 where
  pub words : lengths_of e.read e.scratch ≡ lent_words
  pub made : lengths_of e.made e.scratch ≡ lent_words
  pub room : length e.out ≡ lent_bytes
  pub bytes : (file : List ℕ) → e.plan ≡ Some file → Bytes file

-- a buffer of the programs' length
pub fits-alike : (out bytes : List ℕ) → length out ≡ lent_bytes → length bytes < 2 ^ 64 → fitting_in out bytes ≡ fitting bytes
fits-alike out bytes e h =
    let same : 0 + length bytes ≡ length bytes = omega arith in
    let least : min (0 + length bytes) (2 ^ 64 - 1) ≡ length bytes = omega arith in
    ap₂ (λ (t : Bool) (k : ℕ). unless (cond t None (Some k)) ShortBuffer (got bytes (length bytes)))
    (ap₂ leb same e) least
    ∙ go (leb (length bytes) lent_bytes)
  where
    go : (t : Bool) → unless (cond t None (Some (length bytes))) ShortBuffer (got bytes (length bytes))
        ≡ cond t (got bytes (length bytes)) (refused (ShortBuffer (length bytes)))
    go true = refl
    go false = refl

-- what stands in a file that is read for calls that follow
module _ (file : List ℕ) (small : length file ≤ 65536) (bytes : Bytes file) (c : Circuit) (start : ℕ)
    (accepted : read_to_work file lent_words lent_words ≡ got c start) where
  well : WellFormed c
  well = formed V19 file c (drop start file) (sound V19 file lent_words bytes c start (work-read file lent_words lent_words c start accepted).0).0

  with_tail : (form : List ℕ) → length form ≤ 200000000 → length (form ++ drop start file) < 2 ^ 64
  with_tail form h = omega (arith, length-append form (drop start file), length-drop start file)

  other-small : (f : Form) → length (other_form f c ++ drop start file) < 2 ^ 64
  other-small text = with_tail (binary_of (convert c)) (binary-most (convert c) (convert-well-formed c well))
  other-small binary = with_tail (text_of c) (text-most c well)

  less-small : length (binary_of (reduce (convert c)) ++ drop start file) < 2 ^ 64
  less-small =
      with_tail (binary_of (reduce (convert c)))
      (binary-most (reduce (convert c)) (reduce-well-formed (convert c) (convert-well-formed c well) (convert-in-order c well)))

-- what follows the reader is the same
module _ (e : WholeEntry) (lends : Lends e) where
  module _ (file : List ℕ) (k : Circuit → ℕ → Parse (List ℕ)) (l : Circuit → ℕ → Parse (List ℕ)) (small : length file ≤ 65536)
      (bytes : Bytes file)
      (same : (c : Circuit) (start : ℕ) → read_to_work file lent_words lent_words ≡ got c start → k c start ≡ l c start) where
    loaded-alike : (file_circuit e file then k) ≡ read_to_work file lent_words lent_words then l
    loaded-alike =
        ap₂ (λ (words later : List ℕ). read_to_work file words later then k) lends.words lends.made
        ∙ go (read_to_work file lent_words lent_words) refl
      where
        go : (p : Parse Circuit) → read_to_work file lent_words lent_words ≡ p → (p then k) ≡ p then l
        go (refused r) q = refl
        go (got c start) q = same c start q

  abbrev other_in : List ℕ → Circuit → ℕ → Parse (List ℕ)
  other_in file c start = header V19 file 0 then λ h _. fitting (other_form h.form c ++ drop start file)

  abbrev less_in : List ℕ → Circuit → ℕ → Parse (List ℕ)
  less_in file c start = fitting (binary_of (reduce (convert c)) ++ drop start file)

  other-alike : (file : List ℕ) → length file ≤ 65536 → Bytes file → (c : Circuit) (start : ℕ) → read_to_work file lent_words lent_words ≡ got c start
      → (header V19 file 0 then λ h _. fitting_in e.out (other_form h.form c ++ drop start file)) ≡ other_in file c start
  other-alike file small bytes c start q = go (header V19 file 0)
    where
      go : (p : Parse Head) → (p then λ h _. fitting_in e.out (other_form h.form c ++ drop start file))
          ≡ p then λ h _. fitting (other_form h.form c ++ drop start file)
      go (refused r) = refl
      go (got h at) =
          fits-alike e.out (other_form h.form c ++ drop start file) lends.room (other-small file small bytes c start q h.form)

  -- an input in its limit
  input-alike : (f g : List ℕ → Parse (List ℕ)) → ((file : List ℕ) → length file ≤ 65536 → Bytes file → f file ≡ g file)
      → (p : Option (List ℕ)) → e.plan ≡ p → input p f ≡ input p g
  input-alike f g h None q = refl
  input-alike f g h (Some file) q = go (leb (length file) 65536) refl
    where
      go : (t : Bool) → leb (length file) 65536 ≡ t → cond t (f file) (refused (LongInput 65536)) ≡ cond t (g file) (refused (LongInput
          65536))
      go true s = h file (leb-true (length file) 65536 s) (lends.bytes file q)
      go false s = refl

  converter-file : converted_file e ≡ input e.plan λ file. read_to_work file lent_words lent_words then other_in file
  converter-file =
      input-alike _ _ (λ file small bytes. loaded-alike file _ (other_in file) small bytes (other-alike file small bytes)) e.plan refl

  reducer-file : reduced_file e ≡ input e.plan λ file. read_to_work file lent_words lent_words then less_in file
  reducer-file =
      input-alike _ _ (λ file small bytes. loaded-alike file _ (less_in file) small bytes
      (λ c start q. fits-alike e.out (binary_of (reduce (convert c)) ++ drop start file) lends.room (less-small file small bytes c
      start q))) e.plan refl

  -- the first bytes of the buffer, or the line of the refusal
  bytes-printed : (p : Parse (List ℕ)) (k : ℕ) → (whole_by e p).answer ≡ Ok k → take k (whole_by e p).out ≡ printed p
  bytes-printed (got bytes n) k a =
      let k-is : k ≡ length bytes = cc in
      ap (λ (i : ℕ). take i (whole_by e (got bytes n)).out) k-is ∙ put_first e.out bytes
  bytes-printed (refused r) k a = let z : ◌≡◌ {A = ℕ} 0 1 = cc in absurd (omega arith)

  line-printed : (p : Parse (List ℕ)) (r : Refusal) → (whole_by e p).answer ≡ Err r → refusal_line r ≡ printed p
  line-printed (got bytes n) r a = let z : ◌≡◌ {A = ℕ} 0 1 = cc in absurd (omega arith)
  line-printed (refused q) r a = let same : r ≡ q = cc in ap refusal_line same

  pub converter-bytes : (k : ℕ) → (convert_whole e).answer ≡ Ok k → take k (convert_whole e).out ≡ converter e.plan
  converter-bytes k a = bytes-printed (converted_file e) k a ∙ ap printed converter-file

  pub converter-refusal : (r : Refusal) → (convert_whole e).answer ≡ Err r → refusal_line r ≡ converter e.plan
  converter-refusal r a = line-printed (converted_file e) r a ∙ ap printed converter-file

  pub reducer-bytes : (k : ℕ) → (reduce_whole e).answer ≡ Ok k → take k (reduce_whole e).out ≡ reducer e.plan
  reducer-bytes k a = bytes-printed (reduced_file e) k a ∙ ap printed reducer-file

  pub reducer-refusal : (r : Refusal) → (reduce_whole e).answer ≡ Err r → refusal_line r ≡ reducer e.plan
  reducer-refusal r a = line-printed (reduced_file e) r a ∙ ap printed reducer-file
