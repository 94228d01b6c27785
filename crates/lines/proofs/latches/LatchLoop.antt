-- The loop over lines of latches.
use Prim.Native.Nat.{ℕ, suc, zero, ◌+◌, ◌*◌, ◌≤◌, ◌<◌}
use mathlib.Core.Path.{◌≡◌, refl, sym, ap, ap₂, ◌∙◌, subst}
use mathlib.Core.Bool.{Bool, true, false, cond, ◌&&◌}
use mathlib.Core.List.{List, [], ◌∷◌, ◌++◌, append-nil, append_assoc, map, map-append}
use Rattle.std.specs.Prelude.{Ok, Err}
use native.Mathlib.Omega.{arith}
use native.Mathlib.Nat.{add-zero, zero-add}
use lib.ListN.{length, length-append, length-map}
use Rattle.plan.specs.declared.Refusal.{Refusal}
use Rattle.plan.specs.declared.Refusal.TheVariants.{DefinedTwice}
use Rattle.plan.specs.Literals.{var_of}
use Rattle.plan.specs.Refusals.{Parse, got, refused}
use Rattle.plan.specs.Circuit.{Latch, literal_of, latch_of, latch_line, has, heads, flat}
use Rattle.plan.specs.Bytes.{latch_line_at, latch_lines, reset_after, latch_form}
use Rattle.plan.specs.Binary.{latches_from}
use Rattle.plan.specs.Outcome.{passed_by, put}
use Rattle.laws.proofs.Marks.{Agrees, agrees-more}
use Rattle.laws.proofs.Put.{put-none, put-length, put-put}
use Rattle.laws.proofs.Reading.Steps.{on_rows, latches-turn, latches-stop, latches-done}
use Rattle.laws.proofs.Tables.{heads-snoc}
use Rattle.tables.specs.bitmap.Bitmap.{raised}
use Rattle.tables.proofs.bitmap.Places.{raised-length}
use Rattle.lines.specs.Rows.{MarksFor, marked, marking, seen_after}
use Rattle.lines.proofs.Marks.{marks-less}
use Rattle.lines.proofs.LinesLoop.{passed-refused}
use Rattle.lines.specs.latches.Latches.{literals, latch_row, latch_in, latches_in, Own, OwnAll, LatchesSay}
use Rattle.lines.proofs.latches.OneLatch.{latch-line, latch-refused, row-var}

-- latches, one more
froms-snoc : (v : ℕ) (rows : List (List ℕ)) (row : List ℕ)
    → latches_from v (map literal_of (rows ++ (row ∷ []))) ≡ latches_from v (map literal_of rows) ++ (latch_in false (v + length rows) row ∷ [])
froms-snoc v [] row = ap (λ (x : ℕ). latch_in false x row ∷ []) (sym (add-zero v))
froms-snoc v (r ∷ rows) row =
    let more : suc v + length rows ≡ v + suc (length rows) = omega arith in
    ap (λ (x : List Latch). latch_in false v r ∷ x)
    (froms-snoc (suc v) rows row ∙ ap (λ (x : ℕ). latches_from (suc v) (map literal_of rows) ++ (latch_in false x row ∷ [])) more)

latches-snoc : (d : Bool) (v : ℕ) (rows : List (List ℕ)) (row : List ℕ)
    → latches_in d v (rows ++ (row ∷ [])) ≡ latches_in d v rows ++ (latch_in d (v + length rows) row ∷ [])
latches-snoc true v rows row = map-append latch_of rows (row ∷ [])
latches-snoc false v rows row = froms-snoc v rows row

lines_snoc : (ls : List Latch) (l : Latch) → flat (map latch_line (ls ++ (l ∷ []))) ≡ flat (map latch_line ls) ++ latch_line l
lines_snoc [] l = refl
lines_snoc (x ∷ ls) l = ap (λ (y : List ℕ). x.current ∷ x.next ∷ y) (lines_snoc ls l)

lines-length : (ls : List Latch) → length (flat (map latch_line ls)) ≡ 2 * length ls
lines-length [] = refl
lines-length (l ∷ ls) = let ih : length (flat (map latch_line ls)) ≡ 2 * length ls = lines-length ls in omega arith

froms-length : (v : ℕ) (rows : List (List ℕ)) → length (latches_from v (map literal_of rows)) ≡ length rows
froms-length v [] = refl
froms-length v (r ∷ rows) = ap suc (froms-length (suc v) rows)

latches-length : (d : Bool) (v : ℕ) (rows : List (List ℕ)) → length (latches_in d v rows) ≡ length rows
latches-length true v rows = length-map rows latch_of
latches-length false v rows = froms-length v rows

-- for the variables seen before: the lines read, and what they leave in the tables
pub record Before (file : List ℕ) (d : Bool) (m more first n at : ℕ) (t₀ r₀ seen table resets marks : List ℕ) (pos i : ℕ) : Type 0 where
  pub rows : List (List ℕ)
  pub left : ℕ
  pub sum : i + left ≡ n
  pub count : length rows ≡ i
  pub whole : latch_lines file (latch_form (literals d) d more) m n first seen at
      ≡ on_rows rows (latch_lines file (latch_form (literals d) d more) m left (first + i) (seen ++ heads rows) pos)
  pub held : table ≡ put t₀ 0 (flat (map latch_line (latches_in d first rows)))
  pub kept : resets ≡ put r₀ 0 (map (reset_after (literals d)) rows)
  pub agrees : Agrees m (seen_after d seen rows) marks

pub record Loop (file : List ℕ) (d : Bool) (m more first n at : ℕ) (t₀ r₀ marks₀ table resets marks : List ℕ) (pos i : ℕ) : Type 0 where
  pub wide : length table ≡ length t₀
  pub wide-resets : length resets ≡ length r₀
  pub wide-marks : length marks ≡ length marks₀
  pub before : (seen : List ℕ) → Agrees m seen marks₀ → Before file d m more first n at t₀ r₀ seen table resets marks pos i

on_none : (p : Parse (List (List ℕ))) → p ≡ on_rows [] p
on_none (got rows next) = refl
on_none (refused r) = refl

after_none : (d : Bool) (seen : List ℕ) → seen ≡ seen_after d seen []
after_none true seen = sym (append-nil seen)
after_none false seen = refl

none_yet : (d : Bool) (first : ℕ) → [] ≡ flat (map latch_line (latches_in d first []))
none_yet true first = refl
none_yet false first = refl

pub begins : (file : List ℕ) (d : Bool) (m more first n at : ℕ) (t₀ r₀ marks₀ : List ℕ) → Loop file d m more first n at t₀ r₀ marks₀ t₀ r₀ marks₀ at 0
begins file d m more first n at t₀ r₀ marks₀ = record {
  wide = refl;
  wide-resets = refl;
  wide-marks = refl;
  before = λ seen a. record {
    rows = [];
    left = n;
    sum = zero-add n;
    count = refl;
    whole = on_none (latch_lines file (latch_form (literals d) d more) m n first seen at)
        ∙ ap₂ (λ (v : ℕ) (s : List ℕ). on_rows [] (latch_lines file (latch_form (literals d) d more) m n v s at)) (sym (add-zero first)) (sym (append-nil seen));
    held = sym (put-none t₀ 0) ∙ ap (put t₀ 0) (none_yet d first);
    kept = sym (put-none r₀ 0);
    agrees = subst (λ (s : List ℕ). Agrees m s marks₀) (after_none d seen) a;
  };
}

pub own_at : (d : Bool) (m first n i : ℕ) → OwnAll d m first n → i < n → Own d m (first + i)
own_at true m first n i h l = tt
own_at false m first n i h l = (omega (arith, h.0), omega (arith, h.1))

module _ {file : List ℕ} {d : Bool} {m more first n at : ℕ} {t₀ r₀ marks₀ table resets marks : List ℕ} {pos i : ℕ}
    (s : Loop file d m more first n at t₀ r₀ marks₀ table resets marks pos i) (room : 2 * n ≤ length t₀) (room-r : n ≤ length r₀) where
  pub fits : i < n → 2 * i + 2 ≤ length table
  fits h = omega (arith, s.wide)

  pub fits-resets : i < n → i < length resets
  fits-resets h = omega (arith, s.wide-resets)

  -- what is left is one line and the others
  rest : {seen : List ℕ} → i < n → (b : Before file d m more first n at t₀ r₀ seen table resets marks pos i)
      → (l : ℕ) × (b.left ≡ suc l) × (i + 1 + l ≡ n)
  rest h b = go b.left b.sum
    where
      go : (x : ℕ) → i + x ≡ n → (l : ℕ) × (x ≡ suc l) × (i + 1 + l ≡ n)
      go zero e = absurd (omega arith)
      go (suc l) e = (l, refl, omega arith)

  turned : {seen : List ℕ} (b : Before file d m more first n at t₀ r₀ seen table resets marks pos i) (h : i < n)
      → latch_lines file (latch_form (literals d) d more) m n first seen at
      ≡ on_rows b.rows (latch_lines file (latch_form (literals d) d more) m (suc (rest h b).0) (first + i) (seen ++ heads b.rows) pos)
  turned {seen} b h =
      b.whole ∙ ap (λ (x : ℕ). on_rows b.rows (latch_lines file (latch_form (literals d) d more) m x (first + i) (seen ++ heads b.rows) pos)) (rest h b).1

  says-refused : (seen : List ℕ) (r : Refusal) (t' r' marks' : List ℕ) → latch_lines file (latch_form (literals d) d more) m n first seen at ≡ refused r
      → LatchesSay d m first seen t₀ r₀ (latch_lines file (latch_form (literals d) d more) m n first seen at) (Err r) t' r' marks'
  says-refused seen r t' r' marks' e =
      subst (λ (p : Parse (List (List ℕ))). LatchesSay d m first seen t₀ r₀ p (Err r) t' r' marks') (sym e) refl

  pub stops : (h : i < n) (r : Refusal) (t' r' marks' : List ℕ) → Err r ≡ passed_by (latch_row file d m more (first + i) pos)
      → (seen : List ℕ) → Agrees m seen marks₀
      → LatchesSay d m first seen t₀ r₀ (latch_lines file (latch_form (literals d) d more) m n first seen at) (Err r) t' r' marks'
  stops h r t' r' marks' e seen a =
      let b = s.before seen a in
      says-refused seen r t' r' marks' (turned b h
      ∙ latches-stop file (literals d) d m more b.rows (rest h b).0 (first + i) (seen ++ heads b.rows) pos r
      (latch-refused file d m more (first + i) pos (seen ++ heads b.rows) r (passed-refused _ r e)))

  module _ (h : i < n) (row : List ℕ) (next : ℕ) (e : latch_row file d m more (first + i) pos ≡ got row next) where
    tells : (seen : List ℕ) (rows : List (List ℕ)) → Agrees m (seen_after d seen rows) marks
        → marked d (var_of (literal_of row)) marks ≡ (d && has (var_of (literal_of row)) (seen ++ heads rows))
    tells seen rows a = go d a e
      where
        go : (x : Bool) → Agrees m (seen_after x seen rows) marks → latch_row file x m more (first + i) pos ≡ got row next
            → marked x (var_of (literal_of row)) marks ≡ (x && has (var_of (literal_of row)) (seen ++ heads rows))
        go true q r = q (var_of (literal_of row)) (row-var file m more (first + i) pos row next r)
        go false q r = refl

    judged-line : (seen : List ℕ) (rows : List (List ℕ)) (t : Bool) → Agrees m (seen_after d seen rows) marks
        → marked d (var_of (literal_of row)) marks ≡ t
        → latch_line_at file (latch_form (literals d) d more) m (first + i) (seen ++ heads rows) pos ≡ cond t (refused (DefinedTwice pos)) (got row next)
    judged-line seen rows t a q =
        latch-line file d m more (first + i) pos (seen ++ heads rows) row next e
        ∙ ap (λ (x : Bool). cond x (refused (DefinedTwice pos)) (got row next)) (sym (tells seen rows a) ∙ q)

    pub twice-told : (t' r' marks' : List ℕ) → marked d (var_of (literal_of row)) marks ≡ true → (seen : List ℕ) → Agrees m seen marks₀
        → LatchesSay d m first seen t₀ r₀ (latch_lines file (latch_form (literals d) d more) m n first seen at) (Err (DefinedTwice pos)) t' r' marks'
    twice-told t' r' marks' q seen a =
        let b = s.before seen a in
        says-refused seen (DefinedTwice pos) t' r' marks' (turned b h
        ∙ latches-stop file (literals d) d m more b.rows (rest h b).0 (first + i) (seen ++ heads b.rows) pos (DefinedTwice pos)
        (judged-line seen b.rows true b.agrees q))

    marks-after : (seen : List ℕ) (rows : List (List ℕ)) → Agrees m (seen_after d seen rows) marks → MarksFor d m marks
        → Agrees m (seen_after d seen (rows ++ (row ∷ []))) (marking d false (var_of (literal_of row)) marks)
    marks-after seen rows a l = go d a e l
      where
        go : (x : Bool) → Agrees m (seen_after x seen rows) marks → latch_row file x m more (first + i) pos ≡ got row next
            → MarksFor x m marks → Agrees m (seen_after x seen (rows ++ (row ∷ []))) (marking x false (var_of (literal_of row)) marks)
        go false q r w = q
        go true q r w =
            subst (λ (z : List ℕ). Agrees m z (raised marks 0 (var_of (literal_of row))))
            (append_assoc seen (heads rows) (var_of (literal_of row) ∷ []) ∙ ap (λ (z : List ℕ). seen ++ z) (sym (heads-snoc rows row)))
            (agrees-more m (seen ++ heads rows) marks (var_of (literal_of row)) q (omega (arith, row-var file m more (first + i) pos row next r)))

    marking-length : (x : Bool) → length (marking x false (var_of (literal_of row)) marks) ≡ length marks
    marking-length true = raised-length marks 0 (var_of (literal_of row))
    marking-length false = refl

    pub turns : (t' r' marks' : List ℕ) → MarksFor d m marks₀ → marked d (var_of (literal_of row)) marks ≡ false
        → (t' ≡ put table (2 * i) (latch_line (latch_in d (first + i) row))) × (r' ≡ put resets i (reset_after (literals d) row ∷ []))
        → marks' ≡ marking d false (var_of (literal_of row)) marks → Loop file d m more first n at t₀ r₀ marks₀ t' r' marks' next (i + 1)
    turns t' r' marks' l q held m-is = record {
      wide = ap length held.0 ∙ put-length table (2 * i) (latch_line (latch_in d (first + i) row)) (fits h) ∙ s.wide;
      wide-resets = ap length held.1 ∙ put-length resets i (reset_after (literals d) row ∷ []) (omega (arith, fits-resets h)) ∙ s.wide-resets;
      wide-marks = ap length m-is ∙ marking-length d ∙ s.wide-marks;
      before = λ seen a.
          let b = s.before seen a in
          let r = rest h b in
          let ls = latches_in d first b.rows in
          let size : length (flat (map latch_line ls)) ≡ 2 * i
          = lines-length ls ∙ ap (λ (x : ℕ). 2 * x) (latches-length d first b.rows ∙ b.count) in
          let size-r : length (map (reset_after (literals d)) b.rows) ≡ i = length-map b.rows (reset_after (literals d)) ∙ b.count in
          let base-is : 2 * i ≡ 0 + length (flat (map latch_line ls)) = omega arith in
          let base-r : i ≡ 0 + length (map (reset_after (literals d)) b.rows) = omega arith in
          let one_more : suc (first + i) ≡ first + (i + 1) = omega arith in
          record {
            rows = b.rows ++ (row ∷ []);
            left = r.0;
            sum = r.2;
            count = length-append b.rows (row ∷ []) ∙ ap (λ (x : ℕ). x + 1) b.count;
            whole = turned b h
                ∙ latches-turn file (literals d) d m more b.rows r.0 (first + i) (seen ++ heads b.rows) pos row next
                (judged-line seen b.rows false b.agrees q)
                ∙ ap₂ (λ (v : ℕ) (z : List ℕ). on_rows (b.rows ++ (row ∷ [])) (latch_lines file (latch_form (literals d) d more) m r.0 v z next)) one_more
                (append_assoc seen (heads b.rows) (var_of (literal_of row) ∷ []) ∙ ap (λ (z : List ℕ). seen ++ z) (sym (heads-snoc b.rows row)));
            held = held.0 ∙ ap₂ (λ (x : List ℕ) (y : ℕ). put x y (latch_line (latch_in d (first + i) row))) b.held base-is
                ∙ put-put t₀ 0 (flat (map latch_line ls)) (latch_line (latch_in d (first + i) row))
                (omega (arith, length-append (flat (map latch_line ls)) (latch_line (latch_in d (first + i) row))))
                ∙ ap (put t₀ 0) (sym (ap (λ (x : List Latch). flat (map latch_line x)) (latches-snoc d first b.rows row
                ∙ ap (λ (x : ℕ). ls ++ (latch_in d (first + x) row ∷ [])) b.count) ∙ lines_snoc ls (latch_in d (first + i) row)));
            kept = held.1 ∙ ap₂ (λ (x : List ℕ) (y : ℕ). put x y (reset_after (literals d) row ∷ [])) b.kept base-r
                ∙ put-put r₀ 0 (map (reset_after (literals d)) b.rows) (reset_after (literals d) row ∷ [])
                (omega (arith, length-append (map (reset_after (literals d)) b.rows) (reset_after (literals d) row ∷ [])))
                ∙ ap (put r₀ 0) (sym (map-append (reset_after (literals d)) b.rows (row ∷ [])));
            agrees = subst (λ (z : List ℕ). Agrees m (seen_after d seen (b.rows ++ (row ∷ []))) z) (sym m-is)
                (marks-after seen b.rows b.agrees (marks-less d m m marks₀ marks (omega arith) s.wide-marks l));
          };
    }

  pub ends-here : n ≤ i → (seen : List ℕ) → Agrees m seen marks₀
      → LatchesSay d m first seen t₀ r₀ (latch_lines file (latch_form (literals d) d more) m n first seen at) (Ok pos) table resets marks
  ends-here over seen a =
      let b = s.before seen a in
      let none : b.left ≡ zero = omega (arith, b.sum) in
      subst (λ (p : Parse (List (List ℕ))). LatchesSay d m first seen t₀ r₀ p (Ok pos) table resets marks)
      (sym (b.whole ∙ ap (λ (x : ℕ). on_rows b.rows (latch_lines file (latch_form (literals d) d more) m x (first + i) (seen ++ heads b.rows) pos)) none
      ∙ latches-done file (literals d) d m more b.rows (first + i) (seen ++ heads b.rows) pos))
      (refl, b.held, b.kept, b.agrees)
