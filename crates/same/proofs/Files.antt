-- An accepted text file: what its header says; with room, it is accepted exactly if it states its circuit and its tail.
use Prim.Native.Nat.{ℕ}
use mathlib.Core.Path.{◌≡◌, refl, sym, ap, ◌∙◌, subst}
use mathlib.Core.Logic.{◌↔◌}
use mathlib.Core.List.{List, ◌++◌}
use native.Mathlib.Omega.{arith}
use lib.ListN.{get_or, drop}
use Rattle.plan.specs.declared.Counts.{Counts}
use Rattle.plan.specs.declared.Version.TheVariants.{V2007, V19}
use Rattle.plan.specs.declared.Refusal.TheVariants.{ShortTable, NotDefined, Cyclic}
use Rattle.plan.specs.Refusals.{Parse, got, ◌then◌, unless}
use Rattle.plan.specs.Circuit.{Circuit, counts_of, words_to_work, against, least_short}
use Rattle.plan.specs.Depends.{undefined_in, cyclic_in}
use Rattle.plan.specs.Header.{Form, text, binary, letter_of, Head, header}
use Rattle.plan.specs.Text.{text_body, text_of}
use Rattle.plan.specs.Tail.{tail_at}
use Rattle.plan.specs.Reading.{read_file, WellFormed, States, LongEnough}
use Rattle.laws.proofs.Reading.Common.{then-got, unless-got, got-value}
use Rattle.laws.proofs.Reading.Differences.{Bytes}
use Rattle.laws.proofs.Reading.Headers.{header-took}
use Rattle.laws.proofs.Reading.Texts.{text-took}
use Rattle.laws.proofs.Reading.Exactly.{room-to-read, sound, formed, complete}
use Rattle.laws.proofs.Reading.Versions.{states-more}
use Rattle.same.specs.Agreement.{OneToOne, Agree, AcceptedText, SamePlan}

-- the second letter tells the forms apart
letter-text : (f : Form) → letter_of f ≡ letter_of text → f ≡ text
letter-text text e = refl
letter-text binary e = absurd (omega arith)

pub text-header : {file lengths tail : List ℕ} {c : Circuit} → AcceptedText file lengths c tail
    → (n : Counts) × (at : ℕ) × (header V19 file 0 ≡ got (record { form = text; counts = n }) at)
text-header {file} {c = c} t =
    let q = then-got (header V19 file 0) _ c t.start t.accepted in
    let h : Head = q.0 in
    let letter : get_or file 1 0 ≡ letter_of h.form = ap (λ (l : List ℕ). get_or l 1 0) (header-took file V19 0 h q.1 q.2).1 in
    let is-text = letter-text h.form (sym letter ∙ t.form) in
    (h.counts, q.1, q.2 ∙ ap (λ (f : Form). got (record { form = f; counts = h.counts }) q.1) is-text)

-- what is read after the header of a text file, and after its lines
abbrev checked : ℕ → Circuit → Parse Circuit
checked at c = unless (undefined_in c) NotDefined (unless (cyclic_in c) Cyclic (got c at))

abbrev tailed : List ℕ → Counts → Circuit → ℕ → Parse Circuit
tailed file n c at = tail_at V19 file n at then λ _ _. checked at c

abbrev lined : List ℕ → Counts → ℕ → Parse Circuit
lined file n at = text_body V19 file n at then tailed file n

counted : (file : List ℕ) (n : Counts) (at : ℕ) (c : Circuit) (start : ℕ) → lined file n at ≡ got c start → counts_of c ≡ n
counted file n at c start q =
    let t = then-got (text_body V19 file n at) (tailed file n) c start q in
    let u = then-got (tail_at V19 file n t.1) (λ _ _. checked t.1 t.0) c start t.3 in
    let v = unless-got (undefined_in t.0) NotDefined (unless (cyclic_in t.0) Cyclic (got t.0 t.1)) c start u.3 in
    let w = unless-got (cyclic_in t.0) Cyclic (got t.0 t.1) c start v.1 in
    ap counts_of (sym (got-value t.0 c t.1 start w.1)) ∙ (text-took file V19 n at t.0 t.1 t.2).counts

-- there was room for its circuit
pub text-room : {file lengths tail : List ℕ} {c : Circuit} → AcceptedText file lengths c tail → LongEnough c lengths
text-room {file} {lengths} {c = c} t =
    let h = text-header t in
    let n = h.0 in
    let read : unless (least_short (against 1 (words_to_work n) lengths)) ShortTable (lined file n h.1) ≡ got c t.start = rw h.2 at t.accepted in
    let u = unless-got (least_short (against 1 (words_to_work n) lengths)) ShortTable (lined file n h.1) c t.start read in
    ap (λ (x : Counts). least_short (against 1 (words_to_work x) lengths)) (counted file n h.1 c t.start u.1) ∙ u.0

-- with room: exactly if it states them
pub text-exactly : (file lengths : List ℕ) → Bytes file → (c : Circuit) (tail : List ℕ) → LongEnough c lengths
    → AcceptedText file lengths c tail ↔ (States V19 file c tail × (get_or file 1 0 ≡ letter_of text))
text-exactly file lengths bytes c tail room = (forth, back)
  where
    forth : AcceptedText file lengths c tail → States V19 file c tail × (get_or file 1 0 ≡ letter_of text)
    forth t = (subst (States V19 file c) t.rest (sound V19 file lengths bytes c t.start t.accepted).0, t.form)

    back : States V19 file c tail × (get_or file 1 0 ≡ letter_of text) → AcceptedText file lengths c tail
    back s =
        let a = complete V19 file lengths c tail s.0 (room-to-read file c lengths (formed V19 file c tail s.0) room) in
        record { form = s.1; start = a.0; accepted = a.1; rest = a.2 }

pub text-formed : {file lengths tail : List ℕ} {c : Circuit} → Bytes file → AcceptedText file lengths c tail → WellFormed c
text-formed {file} {lengths} {c = c} bytes t =
    formed V19 file c (drop t.start file) (sound V19 file lengths bytes c t.start t.accepted).0

-- what the reader of 2007 accepts is accepted too, as the same circuit with the same tail
pub old-text : (file lengths : List ℕ) → Bytes file → (c : Circuit) (start : ℕ) → get_or file 1 0 ≡ letter_of text
    → read_file V2007 file lengths ≡ got c start → AcceptedText file lengths c (drop start file)
old-text file lengths bytes c start form q =
    let s = sound V2007 file lengths bytes c start q in
    let a = complete V19 file lengths c (drop start file) (states-more file c (drop start file) s.0) s.1 in
    record { form = form; start = a.0; accepted = a.1; rest = a.2 }

-- two files that state circuits that agree, and one tail, are of one plan wherever there is room for both circuits
pub stated-plan : (rename : ℕ → ℕ) → OneToOne rename → (c d : Circuit) → Agree rename c d → (file other tail lengths : List ℕ)
    → get_or file 1 0 ≡ letter_of text → States V19 file c tail → LongEnough c lengths
    → get_or other 1 0 ≡ letter_of text → States V19 other d tail → LongEnough d lengths
    → SamePlan lengths file other
stated-plan rename o c d agree file other tail lengths e s r f t q = record {
  rename = rename;
  one-to-one = o;
  c = c;
  d = d;
  agree = agree;
  tail = tail;
  first = stated file c e s r;
  second = stated other d f t q;
}
  where
    stated : (x : List ℕ) (b : Circuit) → get_or x 1 0 ≡ letter_of text → States V19 x b tail → LongEnough b lengths → AcceptedText x lengths b tail
    stated x b e s room =
        let a = complete V19 x lengths b tail s (room-to-read x b lengths (formed V19 x b tail s) room) in
        record { form = e; start = a.0; accepted = a.1; rest = a.2 }

-- above all in the shortest form
pub shortest-plan : (rename : ℕ → ℕ) → OneToOne rename → (c d : Circuit) → Agree rename c d → (file other tail lengths : List ℕ)
    → file ≡ text_of c ++ tail → States V19 file c tail → LongEnough c lengths
    → other ≡ text_of d ++ tail → States V19 other d tail → LongEnough d lengths
    → SamePlan lengths file other
shortest-plan rename o c d agree file other tail lengths e s r f t q =
    stated-plan rename o c d agree file other tail lengths (ap (λ (l : List ℕ). get_or l 1 0) e) s r (ap (λ (l : List ℕ). get_or l 1 0) f) t q
