-- The loop over lines.
use Prim.Native.Nat.{ℕ, suc, zero, ◌+◌, ◌*◌, ◌≤◌, ◌<◌}
use mathlib.Core.Path.{◌≡◌, refl, sym, ap, ap₂, ◌∙◌, subst}
use mathlib.Core.Bool.{Bool, true, false, cond, ◌&&◌}
use mathlib.Core.List.{List, [], ◌∷◌, ◌++◌, append-nil, append_assoc}
use Rattle.std.specs.Prelude.{Ok, Err}
use native.Mathlib.Omega.{arith}
use native.Mathlib.Nat.{add-zero, zero-add, zero-mul, suc-mul, mul-le-mul_right}
use lib.ListN.{length, get_or, length-append}
use lib.Seq.{get_or-drop}
use Rattle.plan.specs.declared.Refusal.{Refusal}
use Rattle.plan.specs.declared.Refusal.TheVariants.{DefinedTwice}
use Rattle.plan.specs.Literals.{var_of}
use Rattle.plan.specs.Refusals.{Parse, got, refused}
use Rattle.plan.specs.Circuit.{literal_of, has, heads, flat}
use Rattle.plan.specs.Bytes.{line, lines}
use Rattle.plan.specs.Outcome.{passed_by, put}
use Rattle.laws.proofs.Marks.{Agrees, agrees-more}
use Rattle.laws.proofs.Put.{put-none, put-length, put-there, put-put}
use Rattle.laws.proofs.Reading.Steps.{on_rows, lines-turn, lines-stop, lines-done}
use Rattle.laws.proofs.Tables.{heads-snoc, flat-snoc}
use Rattle.tables.specs.bitmap.Bitmap.{raised}
use Rattle.tables.proofs.bitmap.Places.{raised-length}
use Rattle.lines.specs.Rows.{row, MarksFor, marked, marking, seen_after, LinesSay}
use Rattle.lines.proofs.Marks.{marks-less}
use Rattle.lines.proofs.OneLine.{line_row, line_refused, row-long, row-var}

-- the answer of a line's numbers and ranges
pub passed_to : (p : Parse (List ℕ)) (next : ℕ) → Ok next ≡ passed_by p → (ls : List ℕ) × (p ≡ got ls next)
passed_to (got ls n) next e = (ls, ap (got ls) (cc))
passed_to (refused r) next e = let z : ◌≡◌ {A = ℕ} 0 1 = cc in absurd (omega arith)

pub passed-refused : (p : Parse (List ℕ)) (r : Refusal) → Err r ≡ passed_by p → p ≡ refused r
passed-refused (got ls n) r e = let z : ◌≡◌ {A = ℕ} 0 1 = cc in absurd (omega arith)
passed-refused (refused q) r e = let same : q ≡ r = cc in ap refused same

-- for the variables seen before: the lines read, and what they leave in the tables
pub record Before (file : List ℕ) (k : ℕ) (d : Bool) (m n at : ℕ) (t₀ seen table marks : List ℕ) (pos i : ℕ) : Type 0 where
  pub rows : List (List ℕ)
  pub left : ℕ
  pub sum : i + left ≡ n
  pub whole : lines file k d m n seen at ≡ on_rows rows (lines file k d m left (seen ++ heads rows) pos)
  pub size : length (flat rows) ≡ i * k
  pub held : table ≡ put t₀ 0 (flat rows)
  pub agrees : Agrees m (seen_after d seen rows) marks

pub record Loop (file : List ℕ) (k : ℕ) (d : Bool) (m n at : ℕ) (t₀ marks₀ table marks : List ℕ) (pos i : ℕ) : Type 0 where
  pub wide : length table ≡ length t₀
  pub wide-marks : length marks ≡ length marks₀
  pub before : (seen : List ℕ) → Agrees m seen marks₀ → Before file k d m n at t₀ seen table marks pos i

on_none : (p : Parse (List (List ℕ))) → p ≡ on_rows [] p
on_none (got rows next) = refl
on_none (refused r) = refl

after_none : (d : Bool) (seen : List ℕ) → seen ≡ seen_after d seen []
after_none true seen = sym (append-nil seen)
after_none false seen = refl

pub begins : (file : List ℕ) (k : ℕ) (d : Bool) (m n at : ℕ) (t₀ marks₀ : List ℕ) → Loop file k d m n at t₀ marks₀ t₀ marks₀ at 0
begins file k d m n at t₀ marks₀ = record {
  wide = refl;
  wide-marks = refl;
  before = λ seen a. record {
    rows = [];
    left = n;
    sum = zero-add n;
    whole = on_none (lines file k d m n seen at) ∙ ap (λ (s : List ℕ). on_rows [] (lines file k d m n s at)) (sym (append-nil seen));
    size = sym (zero-mul k);
    held = sym (put-none t₀ 0);
    agrees = subst (λ (s : List ℕ). Agrees m s marks₀) (after_none d seen) a;
  };
}

-- i lines and one more fit in n
pub row_fits : (k n i : ℕ) → i < n → i * k + k ≤ n * k
row_fits k n i h = let more : suc i * k ≤ n * k = mul-le-mul_right k h in omega (arith, suc-mul i k)

module _ {file : List ℕ} {k : ℕ} {d : Bool} {m n at : ℕ} {t₀ marks₀ table marks : List ℕ} {pos i : ℕ}
    (s : Loop file k d m n at t₀ marks₀ table marks pos i) (room : n * k ≤ length t₀) where
  pub fits : i < n → i * k + k ≤ length table
  fits h = omega (arith, s.wide, row_fits k n i h)

  -- what is left is one line and the others
  rest : {seen : List ℕ} → i < n → (b : Before file k d m n at t₀ seen table marks pos i) → (l : ℕ) × (b.left ≡ suc l) × (i + 1 + l ≡ n)
  rest h b = go b.left b.sum
    where
      go : (x : ℕ) → i + x ≡ n → (l : ℕ) × (x ≡ suc l) × (i + 1 + l ≡ n)
      go zero e = absurd (omega arith)
      go (suc l) e = (l, refl, omega arith)

  turned : {seen : List ℕ} (b : Before file k d m n at t₀ seen table marks pos i) (h : i < n)
      → lines file k d m n seen at ≡ on_rows b.rows (lines file k d m (suc (rest h b).0) (seen ++ heads b.rows) pos)
  turned {seen} b h = b.whole ∙ ap (λ (x : ℕ). on_rows b.rows (lines file k d m x (seen ++ heads b.rows) pos)) (rest h b).1

  says-refused : (seen : List ℕ) (r : Refusal) (t' marks' : List ℕ) → lines file k d m n seen at ≡ refused r
      → LinesSay d m seen t₀ (lines file k d m n seen at) (Err r) t' marks'
  says-refused seen r t' marks' e =
      subst (λ (p : Parse (List (List ℕ))). LinesSay d m seen t₀ p (Err r) t' marks') (sym e) refl

  pub stops : (h : i < n) (r : Refusal) (t' marks' : List ℕ) → Err r ≡ passed_by (row file k d m pos)
      → (seen : List ℕ) → Agrees m seen marks₀ → LinesSay d m seen t₀ (lines file k d m n seen at) (Err r) t' marks'
  stops h r t' marks' e seen a =
      let b = s.before seen a in
      says-refused seen r t' marks' (turned b h
      ∙ lines-stop file k d m b.rows (rest h b).0 (seen ++ heads b.rows) pos r
      (line_refused file d m (seen ++ heads b.rows) k pos r (passed-refused _ r e)))

  module _ (h : i < n) (positive : 0 < k) (ls : List ℕ) (next : ℕ) (e : row file k d m pos ≡ got ls next) where
    -- marks tell whether the line's variable was seen
    tells : (seen : List ℕ) (rows : List (List ℕ)) → Agrees m (seen_after d seen rows) marks
        → marked d (var_of (literal_of ls)) marks ≡ (d && has (var_of (literal_of ls)) (seen ++ heads rows))
    tells seen rows a = go d a
      where
        go : (x : Bool) → Agrees m (seen_after x seen rows) marks → marked x (var_of (literal_of ls)) marks
            ≡ (x && has (var_of (literal_of ls)) (seen ++ heads rows))
        go true q = q (var_of (literal_of ls)) (row-var file k d m pos ls next positive e)
        go false q = refl

    judged-line : (seen : List ℕ) (rows : List (List ℕ)) (t : Bool) → Agrees m (seen_after d seen rows) marks → marked d (var_of (literal_of ls)) marks ≡ t
        → line file k d m (seen ++ heads rows) pos ≡ cond t (refused (DefinedTwice pos)) (got ls next)
    judged-line seen rows t a q =
        line_row file d m (seen ++ heads rows) k pos ls next positive e
        ∙ ap (λ (x : Bool). cond x (refused (DefinedTwice pos)) (got ls next)) (sym (tells seen rows a) ∙ q)

    pub twice-told : (t' marks' : List ℕ) → marked d (var_of (literal_of ls)) marks ≡ true
        → (seen : List ℕ) → Agrees m seen marks₀ → LinesSay d m seen t₀ (lines file k d m n seen at) (Err (DefinedTwice pos)) t' marks'
    twice-told t' marks' q seen a =
        let b = s.before seen a in
        says-refused seen (DefinedTwice pos) t' marks' (turned b h
        ∙ lines-stop file k d m b.rows (rest h b).0 (seen ++ heads b.rows) pos (DefinedTwice pos) (judged-line seen b.rows true b.agrees q))

    marks-after : (seen : List ℕ) (rows : List (List ℕ)) → Agrees m (seen_after d seen rows) marks → MarksFor d m marks
        → Agrees m (seen_after d seen (rows ++ (ls ∷ []))) (marking d false (var_of (literal_of ls)) marks)
    marks-after seen rows a l = go d a l
      where
        go : (x : Bool) → Agrees m (seen_after x seen rows) marks → MarksFor x m marks
            → Agrees m (seen_after x seen (rows ++ (ls ∷ []))) (marking x false (var_of (literal_of ls)) marks)
        go false q w = q
        go true q w =
            subst (λ (z : List ℕ). Agrees m z (raised marks 0 (var_of (literal_of ls))))
            (append_assoc seen (heads rows) (var_of (literal_of ls) ∷ []) ∙ ap (λ (z : List ℕ). seen ++ z) (sym (heads-snoc rows ls)))
            (agrees-more m (seen ++ heads rows) marks (var_of (literal_of ls)) q (omega (arith, row-var file k d m pos ls next positive e)))

    marking-length : (x : Bool) → length (marking x false (var_of (literal_of ls)) marks) ≡ length marks
    marking-length true = raised-length marks 0 (var_of (literal_of ls))
    marking-length false = refl

    pub turns : (t' marks' : List ℕ) → MarksFor d m marks₀ → marked d (var_of (literal_of ls)) marks ≡ false → t' ≡ put table (i * k) ls
        → marks' ≡ marking d false (var_of (literal_of ls)) marks → Loop file k d m n at t₀ marks₀ t' marks' next (i + 1)
    turns t' marks' l q held m-is = record {
      wide = ap length held ∙ put-length table (i * k) ls (omega (arith, fits h, row-long file k d m pos ls next e)) ∙ s.wide;
      wide-marks = ap length m-is ∙ marking-length d ∙ s.wide-marks;
      before = λ seen a.
          let b = s.before seen a in
          let r = rest h b in
          let size : length (flat b.rows ++ ls) ≡ i * k + k = length-append (flat b.rows) ls ∙ ap₂ ◌+◌ b.size (row-long file k d m pos ls next e) in
          let base-is : i * k ≡ 0 + length (flat b.rows) = omega (arith, b.size) in
          record {
            rows = b.rows ++ (ls ∷ []);
            left = r.0;
            sum = r.2;
            whole = turned b h ∙ lines-turn file k d m b.rows r.0 (seen ++ heads b.rows) pos ls next (judged-line seen b.rows false b.agrees q)
                ∙ ap (λ (z : List ℕ). on_rows (b.rows ++ (ls ∷ [])) (lines file k d m r.0 z next))
                (append_assoc seen (heads b.rows) (var_of (literal_of ls) ∷ []) ∙ ap (λ (z : List ℕ). seen ++ z) (sym (heads-snoc b.rows ls)));
            size = ap length (flat-snoc b.rows ls) ∙ size ∙ omega (arith, suc-mul i k, one_more);
            held = held ∙ ap₂ (λ (x : List ℕ) (y : ℕ). put x y ls) b.held base-is
                ∙ put-put t₀ 0 (flat b.rows) ls (omega (arith, size, row_fits k n i h)) ∙ ap (put t₀ 0) (sym (flat-snoc b.rows ls));
            agrees = subst (λ (z : List ℕ). Agrees m (seen_after d seen (b.rows ++ (ls ∷ []))) z) (sym m-is)
                (marks-after seen b.rows b.agrees (marks-less d m m marks₀ marks (omega arith) s.wide-marks l));
          };
    }
      where
        one_more : (i + 1) * k ≡ suc i * k
        one_more = let p : i + 1 ≡ suc i = omega arith in ap (λ (x : ℕ). x * k) p

  pub ends-here : n ≤ i → (seen : List ℕ) → Agrees m seen marks₀ → LinesSay d m seen t₀ (lines file k d m n seen at) (Ok pos) table marks
  ends-here over seen a =
      let b = s.before seen a in
      let none : b.left ≡ zero = omega (arith, b.sum) in
      subst (λ (p : Parse (List (List ℕ))). LinesSay d m seen t₀ p (Ok pos) table marks)
      (sym (b.whole ∙ ap (λ (x : ℕ). on_rows b.rows (lines file k d m x (seen ++ heads b.rows) pos)) none
      ∙ lines-done file k d m b.rows (seen ++ heads b.rows) pos))
      (refl, b.held, b.agrees)

-- the first word of a line that was put into a table
pub first_word : (t : List ℕ) (base : ℕ) (ls : List ℕ) → 0 < length ls → base + length ls ≤ length t → get_or (put t base ls) base 0 ≡ literal_of ls
first_word t base [] h l = absurd (omega arith)
first_word t base (v ∷ ls) h l =
    ap (λ (k : ℕ). get_or (put t base (v ∷ ls)) k 0) (sym (add-zero base)) ∙ (sym (get_or-drop base (put t base (v ∷ ls)) 0 0)
    ∙ ap (λ (x : List ℕ). get_or x 0 0) (put-there t base (v ∷ ls) (omega arith)))

-- what the code reads there is the first literal
pub line_word : (file : List ℕ) (k : ℕ) (d : Bool) (m at : ℕ) (ls : List ℕ) (next : ℕ) → row file k d m at ≡ got ls next → 0 < k
    → (t t' : List ℕ) (base : ℕ) → t' ≡ put t base ls → base + k ≤ length t → get_or t' base 0 ≡ literal_of ls
line_word file k d m at ls next e positive t t' base held room =
    let long = row-long file k d m at ls next e in
    ap (λ (x : List ℕ). get_or x base 0) held ∙ first_word t base ls (omega arith) (omega arith)
