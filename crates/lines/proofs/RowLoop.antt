-- The loop over the numbers of a line.
use Prim.Native.Nat.{ℕ, suc, zero, ◌+◌, ◌≤◌, ◌<◌}
use mathlib.Core.Path.{◌≡◌, refl, sym, ap, ap₂, ◌∙◌}
use mathlib.Core.Bool.{Bool, true, false, cond}
use mathlib.Core.List.{List, [], ◌∷◌, ◌++◌, map, map-append}
use Rattle.std.specs.Prelude.{Ok, Err, Option, Some, None}
use native.Mathlib.Omega.{arith}
use native.Mathlib.Nat.{zero-add}
use borrow.Author.Tests.{eqb-true, leb-false, leb-true}
use lib.Dec.{eqb, leb}
use lib.ListN.{length, get_or, set, length-append, length-map, get_or-eq_default}
use Rattle.plan.specs.declared.Refusal.{Refusal}
use Rattle.plan.specs.declared.Refusal.TheVariants.{WrongByte, OutOfRange}
use Rattle.plan.specs.Literals.{most, in_range}
use Rattle.plan.specs.Refusals.{Parse, got, unless}
use Rattle.plan.specs.Bytes.{number, numbers}
use Rattle.plan.specs.Given.{or_else}
use Rattle.plan.specs.Outcome.{passed_by, put, number_at}
use Rattle.laws.proofs.Put.{put-none, put-length, put_one, put-put}
use Rattle.laws.proofs.Reading.Common.{got-value, unless-got}
use Rattle.laws.proofs.Reading.Cut.{cut, value-is, wrong-is}
use Rattle.laws.proofs.Reading.Steps.{cut_range}
use Rattle.lines.specs.Rows.{end_for, row}
use Rattle.lines.proofs.EndBytes.{end_is}
use Rattle.lines.proofs.Judge.{judged, judge-wrong, judge-cut, judge-turn, judge-done, inside-small, row_inside}

-- the numbers ls are read, `left` are to come, and their words stand in the table
pub record Scan (file : List ℕ) (k : ℕ) (defines : Bool) (m at : ℕ) (t₀ : List ℕ) (base : ℕ) (t : List ℕ) (pos : ℕ) (d : Bool) (bad : Option ℕ)
    (j : ℕ) : Type 0 where
  pub ls : List ℕ
  pub left : ℕ
  pub sum : j + left ≡ k
  pub count : length ls ≡ j
  pub whole : row file k defines m at ≡ judged ls bad d m (numbers file left left pos)
  pub table : t ≡ put t₀ base (map cut ls)

pub begins : (file : List ℕ) (k : ℕ) (d : Bool) (m at : ℕ) (t : List ℕ) (base : ℕ) (bad : Option ℕ) → bad ≡ None → Scan file k d m at t base t at d bad 0
begins file k d m at t base bad e = record {
  ls = [];
  left = k;
  sum = zero-add k;
  count = refl;
  whole = ap (λ (o : Option ℕ). judged [] o d m (numbers file k k at)) (sym e);
  table = sym (put-none t base);
}

-- one word more
pub put-more : (t₀ : List ℕ) (base : ℕ) (ls : List ℕ) (v : ℕ) → base + length ls < length t₀
    → set (put t₀ base ls) (base + length ls) v ≡ put t₀ base (ls ++ (v ∷ []))
put-more t₀ base ls v h =
    let size : length (ls ++ (v ∷ [])) ≡ length ls + 1 = length-append ls (v ∷ []) in
    let wide : length (put t₀ base ls) ≡ length t₀ = put-length t₀ base ls (omega arith) in
    put_one (put t₀ base ls) (base + length ls) v (omega arith) ∙ put-put t₀ base ls (v ∷ []) (omega arith)

-- a byte that is not 0 stands in the file
pub inner : (file : List ℕ) (at : ℕ) (last : Bool) → eqb (get_or file at 0) (end_for last) ≡ true → at < length file
inner file at last e = go (leb (length file) at) refl (end-pos last)
  where
    end-pos : (b : Bool) → 0 < end_for b
    end-pos true = omega arith
    end-pos false = omega arith

    go : (t : Bool) → leb (length file) at ≡ t → 0 < end_for last → at < length file
    go true h p = absurd (omega (arith, get_or-eq_default file 0 (leb-true _ _ h), eqb-true (get_or file at 0) (end_for last) e))
    go false h p = leb-false _ _ h

module _ {file : List ℕ} {k : ℕ} {defines : Bool} {m at : ℕ} {t₀ : List ℕ} {base : ℕ} {t : List ℕ} {pos : ℕ} {d : Bool} {bad : Option ℕ} {j : ℕ}
    (s : Scan file k defines m at t₀ base t pos d bad j) where
  pub wide : base + k ≤ length t₀ → length t ≡ length t₀
  wide h = ap length s.table ∙ put-length t₀ base (map cut s.ls) (omega (arith, length-map s.ls cut, s.count, s.sum))

  -- what is left is one number and the others
  rest : j < k → (l : ℕ) × (s.left ≡ suc l) × (j + 1 + l ≡ k)
  rest h = go s.left s.sum
    where
      go : (n : ℕ) → j + n ≡ k → (l : ℕ) × (n ≡ suc l) × (j + 1 + l ≡ k)
      go zero e = absurd (omega arith)
      go (suc l) e = (l, refl, omega arith)

  pub wrong-number : (r : Refusal) → j < k → Err r ≡ number_at file pos → Err r ≡ passed_by (row file k defines m at)
  wrong-number r h e =
      let l = rest h in
      ap passed_by (sym (s.whole ∙ ap (λ (n : ℕ). judged s.ls bad d m (numbers file n n pos)) l.1
      ∙ judge-wrong file d m s.ls bad l.0 pos r (wrong-is file pos r e)))

  module _ (v next : ℕ) (h : j < k) (e : Ok (v, next) ≡ number_at file pos) where
    pub wrong-end : eqb (get_or file next 0) (end_for (eqb (j + 1) k)) ≡ false → Err (WrongByte next) ≡ passed_by (row file k defines m at)
    wrong-end b =
        let l = rest h in
        let w = value-is (number file pos) v next e in
        ap passed_by (sym (s.whole ∙ ap (λ (n : ℕ). judged s.ls bad d m (numbers file n n pos)) l.1
        ∙ judge-cut file d m s.ls bad l.0 pos w.0 next w.1 (ap (eqb (get_or file next 0)) (sym (end_is j k l.0 l.2)) ∙ b)))

    pub turns : (bad' : Option ℕ) (fine : Bool) → m ≤ most → base + k ≤ length t₀ → eqb (get_or file next 0) (end_for (eqb (j + 1) k)) ≡ true
        → fine ≡ in_range d m v → bad' ≡ or_else bad (cond fine None (Some pos))
        → Scan file k defines m at t₀ base (set t (base + j) v) (next + 1) false bad' (j + 1)
    turns bad' fine small room b f o =
        let l = rest h in
        let w = value-is (number file pos) v next e in
        let same : fine ≡ in_range d m w.0 = f ∙ (ap (in_range d m) w.2 ∙ cut_range d m w.0 small) in
        let o_is : or_else bad (cond (in_range d m w.0) None (Some pos)) ≡ bad'
        = ap (λ (x : Bool). or_else bad (cond x None (Some pos))) (sym same) ∙ sym o in
        let size : length (map cut s.ls) ≡ j = length-map s.ls cut ∙ s.count in
        record {
          ls = s.ls ++ (w.0 ∷ []);
          left = l.0;
          sum = l.2;
          count = length-append s.ls (w.0 ∷ []) ∙ ap (λ (n : ℕ). n + 1) s.count;
          whole = s.whole ∙ ap (λ (n : ℕ). judged s.ls bad d m (numbers file n n pos)) l.1
              ∙ judge-turn file d m s.ls bad l.0 pos w.0 next w.1 (ap (eqb (get_or file next 0)) (sym (end_is j k l.0 l.2)) ∙ b)
              ∙ ap (λ (x : Option ℕ). judged (s.ls ++ (w.0 ∷ [])) x false m (numbers file l.0 l.0 (next + 1))) o_is;
          table = ap₂ (λ (x : List ℕ) (n : ℕ). set x (base + n) v) s.table (sym size)
              ∙ put-more t₀ base (map cut s.ls) v (omega arith)
              ∙ ap (put t₀ base) (ap (λ (x : ℕ). map cut s.ls ++ (x ∷ [])) w.2 ∙ sym (map-append cut s.ls (w.0 ∷ [])));
        }

  module _ (over : k ≤ j) where
    none_left : s.left ≡ zero
    none_left = omega (arith, s.sum)

    ended : row file k defines m at ≡ unless bad OutOfRange (got s.ls pos)
    ended = s.whole ∙ ap (λ (n : ℕ). judged s.ls bad d m (numbers file n n pos)) none_left ∙ judge-done file d m s.ls bad pos

    -- the table holds the line, if it is accepted
    pub held : m ≤ most → (ls : List ℕ) (next : ℕ) → row file k defines m at ≡ got ls next → t ≡ put t₀ base ls
    held small ls next e =
        let u = unless-got bad OutOfRange (got s.ls pos) ls next (sym ended ∙ e) in
        let same : s.ls ≡ ls = got-value s.ls ls pos next u.1 in
        s.table ∙ ap (put t₀ base) (ap (map cut) same ∙ inside-small defines m ls small (row_inside file k defines m at ls next e))

-- a line that is refused leaves nothing to show of the table
pub not-accepted : (p : Parse (List ℕ)) (r : Refusal) → Err r ≡ passed_by p → (C : Type 0) (ls : List ℕ) (next : ℕ) → p ≡ got ls next → C
not-accepted p r e C ls next q = absurd (let f = e ∙ ap passed_by q in let z : ◌≡◌ {A = ℕ} 0 1 = cc in omega arith)
