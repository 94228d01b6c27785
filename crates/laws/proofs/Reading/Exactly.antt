-- With room, the reader accepts a circuit and a tail exactly if the file states them; a file states at most one of each.
use Prim.Native.Nat.{ℕ, zero, ◌+◌, ◌*◌, ◌≤◌}
use mathlib.Core.Path.{◌≡◌, refl, sym, ap, ap₂, ◌∙◌, subst, subst₂}
use mathlib.Core.Bool.{true}
use mathlib.Core.Logic.{◌↔◌}
use mathlib.Core.List.{List, [], ◌∷◌, ◌++◌, append_assoc}
use Rattle.std.specs.Prelude.{Option, None}
use native.Mathlib.Omega.{arith}
use borrow.Author.Tests.{eqb-true, eq-eqb, leb-true, le-leb}
use lib.ListN.{get_or, drop}
use Rattle.plan.specs.Refusals.{got}
use Rattle.plan.specs.declared.Counts.{Counts}
use Rattle.plan.specs.declared.Version.{Version}
use Rattle.plan.specs.declared.Version.TheVariants.{V19}
use Rattle.plan.specs.Circuit.{Circuit, counts_of, against, least_short, scratch_to_work, words_to_work, defined_in, used_in}
use Rattle.plan.specs.Depends.{undefined_in, cyclic_in}
use Rattle.plan.specs.Header.{more_counts, more_resets, Form, text, binary, header, header_of, list_of, all_counts, adds, scratch_to_read, words_to_read, form_in}
use Rattle.plan.specs.Bytes.{Spells}
use Rattle.plan.specs.Text.{text_lines, text_latches}
use Rattle.plan.specs.Binary.{binary_lines, binary_latches}
use Rattle.plan.specs.Tail.{tail_at, TailOk}
use Rattle.plan.specs.Reading.{body, read_file, read_to_work, WellFormed, Spelled, States, as_text, as_binary, LongEnough, LongEnoughToRead}
use Rattle.laws.proofs.Reading.Common.{got-value, got-next, then-got, unless-got}
use Rattle.laws.proofs.Reading.Headers.{AllMost, header-took, header-reads}
use Rattle.laws.proofs.Reading.Short.{lent_five, short-with, read-less}
use Rattle.laws.proofs.Reading.Rows.{BodyOk}
use Rattle.laws.proofs.Reading.Differences.{Bytes}
use Rattle.laws.proofs.Reading.Texts.{text-took, text-reads}
use Rattle.laws.proofs.Reading.Runs.{order-exactly}
use Rattle.laws.proofs.Reading.Binaries.{binary-took, binary-reads}
use Rattle.laws.proofs.Reading.Undefined.{all-defined, defined-none}
use Rattle.laws.proofs.Reading.Cycles.{no-cycle, cycle-none}
use Rattle.laws.proofs.Reading.Tails.{tail-exactly}

module _ (v : Version) (file : List ℕ) (c : Circuit) where
  -- what the parts say together
  well-formed : (bytes : List (List ℕ) → Circuit → List ℕ) (full : Circuit → List (List ℕ)) (k : ℕ) (n : Counts) (at e : ℕ)
      → BodyOk file bytes full k (more_resets v) n at c e → AllMost (list_of n) → n.I + n.L + n.A ≤ n.M
      → undefined_in c ≡ None → cyclic_in c ≡ None → WellFormed c
  well-formed bytes full k n at e b m s u a =
      let m' : AllMost (list_of (counts_of c)) = subst (λ (x : Counts). AllMost (list_of x)) (sym b.counts) m in
      record {
        most-M = m'.0;
        most-I = m'.1.0;
        most-L = m'.1.1.0;
        most-O = m'.1.1.1.0;
        most-A = m'.1.1.1.1.0;
        most-B = m'.1.1.1.1.1.0;
        most-C = m'.1.1.1.1.1.1.0;
        sum = subst (λ (x : Counts). x.I + x.L + x.A ≤ x.M) (sym b.counts) s;
        inputs = b.inputs;
        latches = b.latches;
        resets = b.resets;
        outputs = b.outputs;
        bads = b.bads;
        constraints = b.constraints;
        gates = b.gates;
        different = b.different;
        defined = all-defined (zero ∷ defined_in c) (used_in c) u;
        acyclic = no-cycle c.gates a;
      }

  whole : (f : Form) (row : List ℕ) (bytes : List (List ℕ) → Circuit → List ℕ) (full : Circuit → List (List ℕ)) (k : ℕ) (n : Counts) (at e : ℕ)
      → (b : BodyOk file bytes full k (more_resets v) n at c e) → file ≡ header_of f row ++ drop at file
      → file ≡ (header_of f row ++ bytes b.lats c) ++ drop e file
  whole f row bytes full k n at e b h =
      h ∙ (ap (λ (y : List ℕ). header_of f row ++ y) b.took ∙ sym (append_assoc (header_of f row) (bytes b.lats c) (drop e file)))

  abbrev spelling : (row : List ℕ) (bytes : List (List ℕ) → Circuit → List ℕ) (full : Circuit → List (List ℕ)) (k : ℕ) (n : Counts) (at e : ℕ)
      → BodyOk file bytes full k (more_resets v) n at c e → Spells 5 (5 + more_counts v) (all_counts n) row → Spelled v c k (full c)
  spelling row bytes full k n at e b p = record {
    counts = row;
    latches = b.lats;
    all-counts = subst (λ (x : Counts). Spells 5 (5 + more_counts v) (all_counts x) row) (sym b.counts) p;
    all-latches = b.spelled;
  }

  by_form : Bytes file → (f : Form) (n : Counts) (at e : ℕ) (row : List ℕ) → file ≡ header_of f row ++ drop at file
      → Spells 5 (5 + more_counts v) (all_counts n) row → AllMost (list_of n) → adds f n ≡ true
      → body v file f n at ≡ got c e → TailOk v n (drop e file) → undefined_in c ≡ None → cyclic_in c ≡ None
      → States v file c (drop e file) × (counts_of c ≡ n)
  by_form bytes text n at e row h p m s q t u a =
      let b = text-took file v n at c e q in (
        as_text (spelling row text_lines text_latches 2 n at e b p) (whole text row text_lines text_latches 2 n at e b h)
            (well-formed text_lines text_latches 2 n at e b m (leb-true _ _ s) u a)
            (subst (λ (x : Counts). TailOk v x (drop e file)) (sym b.counts) t),
        b.counts,
      )
  by_form bytes binary n at e row h p m s q t u a =
      let sum : n.I + n.L + n.A ≡ n.M = eqb-true _ _ s in
      let r = binary-took file bytes v n at c e sum q in
      let b = r.0 in (
        as_binary (spelling row binary_lines binary_latches 1 n at e b p) (whole binary row binary_lines binary_latches 1 n at e b h)
            ((order-exactly c).1 r.1) (well-formed binary_lines binary_latches 1 n at e b m (omega arith) u a)
            (subst (λ (x : Counts). TailOk v x (drop e file)) (sym b.counts) t),
        b.counts,
      )

-- the reader accepts the circuit, and the tail is what follows
abbrev pub Accepts : Version → List ℕ → List ℕ → Circuit → List ℕ → Type 0
Accepts v file lengths c tail = (start : ℕ) × (read_file v file lengths ≡ got c start) × (drop start file ≡ tail)

pub all_most : (c : Circuit) → WellFormed c → AllMost (list_of (counts_of c))
all_most c w = (w.most-M, (w.most-I, (w.most-L, (w.most-O, (w.most-A, (w.most-B, (w.most-C, tt)))))))

-- the second letter of a header names its form
pub form_in_lem : (file : List ℕ) (f : Form) (row rest : List ℕ) → file ≡ header_of f row ++ rest → form_in file ≡ f
form_in_lem file f row rest e = ap form_in e ∙ go f
  where
    go : (f : Form) → form_in (header_of f row ++ rest) ≡ f
    go text = refl
    go binary = refl

-- tables that are long enough for every call are long enough to read; those that are long enough to read, with table 5 for every call
pub room-to-read : (file : List ℕ) (c : Circuit) (lengths : List ℕ) → WellFormed c → LongEnough c lengths → LongEnoughToRead file c lengths
room-to-read file c lengths w room =
    let n = counts_of c in
    short-with _ _ n lengths (λ (five : scratch_to_work n ≤ lent_five lengths). omega (arith, read-less (form_in file) n w.sum)) room

pub room-to-work : (file : List ℕ) (c : Circuit) (lengths : List ℕ) → scratch_to_work (counts_of c) ≤ lent_five lengths → LongEnoughToRead file c lengths
    → LongEnough c lengths
room-to-work file c lengths five room = short-with (scratch_to_read (form_in file) (counts_of c)) _ (counts_of c) lengths (λ _. five) room

module _ (v : Version) (file lengths : List ℕ) where
  -- what is accepted is stated
  pub sound : Bytes file → (c : Circuit) (start : ℕ) → read_file v file lengths ≡ got c start
      → States v file c (drop start file) × LongEnoughToRead file c lengths
  sound bytes c start q =
      let t1 = then-got (header v file 0) _ c start q in
      let n = t1.0.counts in
      let u = unless-got (least_short (against 1 (words_to_read t1.0.form n) lengths)) _ _ c start t1.3 in
      let t2 = then-got (body v file t1.0.form n t1.1) _ c start u.1 in
      let t3 = then-got (tail_at v file n t2.1) _ c start t2.3 in
      let w1 = unless-got (undefined_in t2.0) _ _ c start t3.3 in
      let w2 = unless-got (cyclic_in t2.0) _ _ c start w1.1 in
      let c-is : t2.0 ≡ c = got-value t2.0 c t2.1 start w2.1 in
      let s-is : t2.1 ≡ start = got-next t2.0 c t2.1 start w2.1 in
      let h = header-took file v 0 t1.0 t1.1 t1.2 in
      let r = (tail-exactly v file n t2.1).0 (t3.0, t3.1, t3.2) in
      let b = by_form v file t2.0 bytes t1.0.form n t1.1 t2.1 h.0 h.1 h.2 h.3 h.4 t2.2 r w1.0 w2.0 in (
        subst₂ (λ (x : Circuit) (y : ℕ). States v file x (drop y file)) c-is s-is b.0,
        ap₂ (λ (f : Form) (x : Counts). least_short (against 1 (words_to_read f x) lengths)) (form_in_lem file t1.0.form h.0 _ h.1)
            (ap counts_of (sym c-is) ∙ b.1) ∙ u.0,
      )

  finish : (f : Form) (c : Circuit) (at start : ℕ) (tail : List ℕ) → WellFormed c → TailOk v (counts_of c) tail
      → least_short (against 1 (words_to_read f (counts_of c)) lengths) ≡ None
      → header v file 0 ≡ got (record { form = f; counts = counts_of c }) at → body v file f (counts_of c) at ≡ got c start
      → drop start file ≡ tail
      → Accepts v file lengths c tail
  finish f c at start tail w t room h b d =
      let r = (tail-exactly v file (counts_of c) start).1 (subst (TailOk v (counts_of c)) (sym d) t) in (
        start,
        rw (
          h,
          room,
          b,
          r.2,
          defined-none (zero ∷ defined_in c) (used_in c) w.defined,
          cycle-none c.gates c.gates w.acyclic,
        ),
        d,
      )

  -- what is stated is accepted
  abbrev asked : Circuit → Form → Option ℕ
  asked c f = least_short (against 1 (words_to_read f (counts_of c)) lengths)

  pub complete : (c : Circuit) (tail : List ℕ) → States v file c tail → LongEnoughToRead file c lengths → Accepts v file lengths c tail
  complete c tail (as_text s e w t) room =
      let r1 = header-reads file v 0 text (counts_of c) s.counts (text_lines s.latches c ++ tail) s.all-counts (all_most c w)
      (le-leb _ _ w.sum) (e ∙ append_assoc (header_of text s.counts) (text_lines s.latches c) tail) in
      let r2 = text-reads file v c s.latches r1.0 tail w s.all-latches r1.2 in
      finish text c r1.0 r2.0 tail w t (ap (asked c) (sym (ap form_in e)) ∙ room) r1.1 r2.1 r2.2
  complete c tail (as_binary s e o w t) room =
      let o' = (order-exactly c).0 o in
      let r1 = header-reads file v 0 binary (counts_of c) s.counts (binary_lines s.latches c ++ tail) s.all-counts (all_most c w)
      (eq-eqb _ _ o'.sum) (e ∙ append_assoc (header_of binary s.counts) (binary_lines s.latches c) tail) in
      let r2 = binary-reads file v c s.latches r1.0 tail w o' s.all-latches r1.2 in
      finish binary c r1.0 r2.0 tail w t (ap (asked c) (sym (ap form_in e)) ∙ room) r1.1 r2.1 r2.2

-- a file that is read for calls that follow is read, and their tables are long enough
pub work-read : (file lengths later : List ℕ) (c : Circuit) (start : ℕ) → read_to_work file lengths later ≡ got c start
    → (read_file V19 file lengths ≡ got c start) × LongEnough c later
work-read file lengths later c start q =
    let t = then-got (read_file V19 file lengths) _ c start q in
    let u = unless-got (least_short (against 1 (words_to_work (counts_of t.0)) later)) _ _ c start t.3 in
    let c-is : t.0 ≡ c = got-value t.0 c t.1 start u.1 in
    (t.2 ∙ u.1, subst (λ (d : Circuit). LongEnough d later) c-is u.0)

-- with room: exactly if
pub exactly : (v : Version) (file lengths : List ℕ) → Bytes file → (c : Circuit) (tail : List ℕ) → LongEnoughToRead file c lengths
    → Accepts v file lengths c tail ↔ States v file c tail
exactly v file lengths bytes c tail room =
    (λ a. subst (States v file c) a.2 (sound v file lengths bytes c a.0 a.1).0, λ s. complete v file lengths c tail s room)

-- tables that are long enough for every circuit within the limits
abbrev huge : List ℕ
huge = 8000000 ∷ 8000000 ∷ 8000000 ∷ 8000000 ∷ 8000000 ∷ 8000000 ∷ 8000000 ∷ 8000000 ∷ 8000000 ∷ []

pub formed : (v : Version) (file : List ℕ) (c : Circuit) (tail : List ℕ) → States v file c tail → WellFormed c
formed v file c tail (as_text s e w t) = w
formed v file c tail (as_binary s e o w t) = w

room-huge : (c : Circuit) → WellFormed c → LongEnough c huge
room-huge c w =
    let n = counts_of c in
    let h1 : n.I ≤ 8000000 = omega (arith, w.most-I) in
    let h2 : 2 * n.L ≤ 8000000 = omega (arith, w.most-L) in
    let h3 : n.O ≤ 8000000 = omega (arith, w.most-O) in
    let h4 : 3 * n.A ≤ 8000000 = omega (arith, w.most-A) in
    let h5 : 4 * (n.M + 1) + n.O + n.B + n.C ≤ 8000000 = omega (arith, w.most-M, w.most-O, w.most-B, w.most-C) in
    let h7 : n.L ≤ 8000000 = omega (arith, w.most-L) in
    let h8 : n.B ≤ 8000000 = omega (arith, w.most-B) in
    let h9 : n.C ≤ 8000000 = omega (arith, w.most-C) in
    rw (le-leb _ _ h1, le-leb _ _ h2, le-leb _ _ h3, le-leb _ _ h4, le-leb _ _ h5, le-leb _ _ h7, le-leb _ _ h8, le-leb _ _ h9)

-- a file states at most one circuit and one tail
pub unique : (v : Version) (file : List ℕ) (c d : Circuit) (t u : List ℕ) → States v file c t → States v file d u → (c ≡ d) × (t ≡ u)
unique v file c d t u s r =
    let w = formed v file c t s in
    let x = formed v file d u r in
    let a = complete v file huge c t s (room-to-read file c huge w (room-huge c w)) in
    let b = complete v file huge d u r (room-to-read file d huge x (room-huge d x)) in
    let p = sym a.1 ∙ b.1 in
    (got-value c d a.0 b.0 p, sym a.2 ∙ (ap (λ (x : ℕ). drop x file) (got-next c d a.0 b.0 p) ∙ b.2))

-- and in one form: the second letter differs
pub forms-apart : (file row row' : List ℕ) (s t : List ℕ) → file ≡ header_of text row ++ s → file ≡ header_of binary row' ++ t → ⊥
forms-apart file row row' s t e f = let z : ◌≡◌ {A = ℕ} 97 105 = ap (λ (l : List ℕ). get_or l 1 0) (sym e ∙ f) in omega arith
