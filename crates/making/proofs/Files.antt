-- A whole file's answer by what was opened, what was put into the buffer, and all tables zero. One law serves all that is made of a file: the
-- answer is what was opened, and then some next step of its circuit.
use Prim.Native.Nat.{ℕ, ◌-◌}
use mathlib.Core.Path.{◌≡◌, refl, sym, ap, ◌∙◌, subst}
use mathlib.Core.Bool.{Bool, true, false}
use mathlib.Core.List.{List, ◌++◌}
use Rattle.std.specs.Prelude.{Err, Option, Some, None}
use borrow.Rule.Slice.PartMut.{mid_of}
use lib.Dec.{leb}
use lib.ListN.{length, drop}
use Rattle.plan.specs.declared.Version.TheVariants.{V19}
use Rattle.plan.specs.declared.Refusal.{Refusal}
use Rattle.plan.specs.declared.Refusal.TheVariants.{ShortBuffer, LongInput, Unreadable}
use Rattle.plan.specs.Refusals.{Parse, got, refused, ◌then◌, unless}
use Rattle.plan.specs.Circuit.{Circuit, Tables, lengths_of, all_cleared, cleared}
use Rattle.plan.specs.Header.{Form, text, binary, Head, header}
use Rattle.plan.specs.Binary.{binary_of}
use Rattle.plan.specs.Given.{Given, lacking_room}
use Rattle.plan.specs.Convert.{convert}
use Rattle.plan.specs.Programs.{input, other_form}
use Rattle.plan.specs.Outcome.{WriteExit, put_by, put_bytes, is_binary, headed_by}
use Rattle.plan.specs.Whole.{WholeEntry, WholeExit, input_of, fitting_in, whole_by}
use Rattle.tables.specs.declared.Sizes.{Sizes}
use Rattle.tables.specs.Lengths.{sizes_of}
use Rattle.read.proofs.Answers.{part-from}
use Rattle.laws.proofs.Reading.Common.{not-got, then-got, cond-got}
use Rattle.laws.proofs.Reading.Exactly.{work-read}
use Rattle.whole.specs.Opening.{OpenEntry, opening, opened, Ready}
use Rattle.whole.specs.Parts.{told_by, binary_by}
use Rattle.whole.proofs.Files.{after-input}
use Rattle.making.specs.Passes.{lessened, bytes_of, as_text}
use Rattle.making.specs.Wholes.{made_file}

-- the bytes, or 11
pub told-fitting : (out bytes : List ℕ) → put_bytes out 0 bytes ≡ told_by out (fitting_in out bytes)
told-fitting out bytes = go (lacking_room out 0 bytes)
  where
    go : (o : Option ℕ) → put_by o out 0 bytes ≡ told_by out (unless o ShortBuffer (got bytes (length bytes)))
    go None = refl
    go (Some k) = refl

-- text of a binary file is its other form, and binary of a text file
other-is : (f : Form) (dropped : Bool) (c : Circuit) → bytes_of (is_binary f) false dropped c ≡ other_form f c
other-is text dropped c = refl
other-is binary dropped c = refl

module _ (readable : Bool) (file : List ℕ) (read made : Tables) (scratch out : List ℕ) where
  abbrev e : OpenEntry
  e = record { readable = readable; file = file; tables = read; scratch = scratch; made = sizes_of made }

  abbrev w : WholeEntry
  w = record { plan = input_of readable file; read = read; made = made; scratch = scratch; out = out }

  -- what follows when a file is open
  abbrev next : Bool → Bool → List ℕ → Circuit → ℕ → Parse (List ℕ)
  next false dropped l c start = header V19 l 0 then λ h _. fitting_in out (other_form h.form c ++ drop start l)
  next true dropped l c start = fitting_in out (binary_of (lessened dropped (convert c)) ++ drop start l)

  made_by : (reduced dropped : Bool) → made_file reduced dropped w ≡ opened e then next reduced dropped file
  made_by false dropped = after-input readable file (opening e) (next false dropped)
  made_by true false = after-input readable file (opening e) (next true false)
  made_by true true = after-input readable file (opening e) (next true true)

  -- a refusal
  pub not_made : (reduced dropped : Bool) (r : Refusal) → opened e ≡ refused r
      → ◌≡◌ {A = WriteExit} (record { answer = Err r; out = out }) (told_by out (made_file reduced dropped w))
  not_made reduced dropped r q =
      sym (ap (told_by out) (made_by reduced dropped ∙ ap (λ (p : Parse Circuit). p then next reduced dropped file) q))

  -- the header of a file that was opened
  headed : (b : Bool) (c : Circuit) (start : ℕ) → input (input_of b file) (opening e) ≡ got c start
      → (h : Head) × (at : ℕ) × (header V19 file 0 ≡ got h at)
  headed false c start q = absurd (not-got (Unreadable 0) c start q)
  headed true c start q =
      let p = cond-got (leb (length file) 65536) (opening e file) (LongInput 65536) c start q in
      let r = work-read file (lengths_of read scratch) (lengths_of made scratch) c start p.1 in
      let s = then-got (header V19 file 0) _ c start r.0 in
      (s.0, s.1, s.2)

  module _ (c : Circuit) (start : ℕ) (q : opened e ≡ got c start) where
    -- the bytes are those that follow
    next-is : (reduced dropped t : Bool) → t ≡ as_text reduced (headed_by (header V19 file 0))
        → next reduced dropped file c start ≡ fitting_in out (bytes_of t reduced dropped c ++ drop start file)
    next-is true dropped t t-is =
        sym (ap (λ (b : Bool). fitting_in out (bytes_of b true dropped c ++ drop start file)) t-is)
    next-is false dropped t t-is =
        let h = headed readable c start q in
        let form : t ≡ is_binary h.0.form = t-is ∙ ap (λ (p : Parse Head). binary_by (headed_by p)) h.2 in
        ap (λ (p : Parse Head). p then λ h _. fitting_in out (other_form h.form c ++ drop start file)) h.2
        ∙ (ap (λ (l : List ℕ). fitting_in out (l ++ drop start file)) (sym (other-is h.0.form dropped c))
        ∙ sym (ap (λ (b : Bool). fitting_in out (bytes_of b false dropped c ++ drop start file)) form))

    pub made_told : (reduced dropped t : Bool) → t ≡ as_text reduced (headed_by (header V19 file 0)) → (x : WriteExit)
        → x ≡ put_bytes out 0 (bytes_of t reduced dropped c ++ mid_of start (length file - start) file)
        → x ≡ told_by out (made_file reduced dropped w)
    made_told reduced dropped t t-is x said =
        said
        ∙ (ap (λ (tail : List ℕ). put_bytes out 0 (bytes_of t reduced dropped c ++ tail)) (part-from start file)
        ∙ (told-fitting out (bytes_of t reduced dropped c ++ drop start file)
        ∙ sym (ap (told_by out) (made_by reduced dropped ∙ (ap (λ (p : Parse Circuit). p then next reduced dropped file) q
        ∙ next-is reduced dropped t t-is)))))

-- the tail that is lent is the rest of the file
pub rest-ready : (g : Given) (start : ℕ) (file : List ℕ) (made : Sizes) → Ready g (drop start file) made
    → Ready g (mid_of start (length file - start) file) made
rest-ready g start file made r = subst (λ (tail : List ℕ). Ready g tail made) (sym (part-from start file)) r

-- all tables zero
pub all-zero : (w : WholeEntry) (p : Parse (List ℕ)) (x : WriteExit) → x ≡ told_by w.out p → (read made : Tables) (scratch : List ℕ)
    → read ≡ all_cleared w.read → made ≡ all_cleared w.made → scratch ≡ cleared w.scratch
    → ◌≡◌ {A = WholeExit} (record { answer = x.answer; read = read; made = made; scratch = scratch; out = x.out }) (whole_by w p)
all-zero w p x said read made scratch r m s =
    (λ i. record { answer = (said i).answer; read = r i; made = m i; scratch = s i; out = (said i).out }) ∙ go p
  where
    go : (p : Parse (List ℕ)) → ◌≡◌ {A = WholeExit} (record {
      answer = (told_by w.out p).answer;
      read = all_cleared w.read;
      made = all_cleared w.made;
      scratch = cleared w.scratch;
      out = (told_by w.out p).out;
    }) (whole_by w p)
    go (got bytes n) = refl
    go (refused r) = refl
