-- Lines of latches are read from any text that spells them, and from nothing else: their literals, and a reset that may be left off if it is 0.
use Prim.Native.Nat.{ℕ, suc, zero, ◌+◌, ◌-◌, ◌<◌, ◌≤◌}
use mathlib.Core.Path.{◌≡◌, refl, sym, ap, ap₂, ◌∙◌, subst}
use mathlib.Core.Bool.{Bool, true, false, cond, ◌&&◌}
use mathlib.Core.Logic.{◌⊎◌, inl, inr}
use mathlib.Core.List.{List, [], ◌∷◌, ◌++◌, append_assoc, append-nil, map}
use Rattle.std.specs.Prelude.{Some, None}
use native.Mathlib.Omega.{arith}
use lib.ListN.{length, get_or, take, drop, replicate, length-take, length-append, drop_of_length-le, get_or-eq_default}
use lib.Seq.{take_all, take-suc, drop-cons, take_at, drop_at, get_or-append-add}
use Rattle.plan.specs.Refusals.{got}
use Rattle.plan.specs.Literals.{lit_of, var_of, is_reset}
use Rattle.plan.specs.Circuit.{Latch, one_line, latch_line, literal_of, latch_of, inside, heads, resets_ok}
use Rattle.plan.specs.Bytes.{Placed, numbers, values, outside, twice, wrong_reset, own_of, latch_line_at, latch_lines, reset_after, line_of, lines_of, latch_form}
use Rattle.plan.specs.Bytes.{with_resets, Spells, AllSpell}
use Rattle.plan.specs.Binary.{latches_from}
use Rattle.laws.proofs.Reading.Common.{got-value, got-next, then-got, unless-got, Reads, and_left, and_right, and_intro}
use Rattle.laws.proofs.Reading.Lines.{numbers-took, numbers-reads, New, outside-none, inside-none, twice-none, new_none, RowOk, RowsOk}
use Rattle.laws.proofs.Reading.Headers.{values-drop}

values-take : (k : ℕ) (xs : List Placed) → values (take k xs) ≡ take k (values xs)
values-take zero xs = refl
values-take (suc k) [] = refl
values-take (suc k) (x ∷ xs) = ap (λ (l : List ℕ). x.value ∷ l) (values-take k xs)

-- resets
abbrev pub all_reset : ℕ → List ℕ → Bool
all_reset own [] = true
all_reset own (r ∷ rs) = is_reset own r && all_reset own rs

reset-none : (own : ℕ) (xs : List Placed) → wrong_reset own xs ≡ None → all_reset own (values xs) ≡ true
reset-none own [] e = refl
reset-none own (x ∷ xs) e = go (is_reset own x.value) refl (reset-none own xs) e
  where
    go : (t : Bool) → is_reset own x.value ≡ t → (wrong_reset own xs ≡ None → all_reset own (values xs) ≡ true)
        → cond t (wrong_reset own xs) (Some x.place) ≡ None
        → all_reset own (values (x ∷ xs)) ≡ true
    go true q ih e = and_intro (is_reset own x.value) _ q (ih e)
    go false q ih e = let z : ◌≡◌ {A = ℕ} 0 1 = cc in absurd (omega arith)

none-reset : (own : ℕ) (xs : List Placed) → all_reset own (values xs) ≡ true → wrong_reset own xs ≡ None
none-reset own [] e = refl
none-reset own (x ∷ xs) e =
    rw (and_left (is_reset own x.value) _ e) (none-reset own xs (and_right (is_reset own x.value) _ e))

-- one line
pub record LatchOk (k : ℕ) (d : Bool) (m more v : ℕ) (seen row : List ℕ) : Type 0 where
  pub low : k ≤ length row
  pub high : length row ≤ k + more
  pub within : inside d m (take k row) ≡ true
  pub reset : all_reset (own_of d v row) (drop k row) ≡ true
  pub new : New d seen row

abbrev pub LatchesOk : ℕ → Bool → ℕ → ℕ → ℕ → List ℕ → List (List ℕ) → Type 0
LatchesOk k d m more v seen [] = Unit {0}
LatchesOk k d m more v seen (row ∷ rows) = LatchOk k d m more v seen row × LatchesOk k d m more (suc v) (seen ++ (var_of (literal_of row) ∷ [])) rows

module _ (file : List ℕ) (k : ℕ) (d : Bool) (m more : ℕ) where
  pub latch-took : (v : ℕ) (seen : List ℕ) (at : ℕ) (row : List ℕ) (n : ℕ) → latch_line_at file (latch_form k d more) m v seen at ≡ got row n
      → (drop at file ≡ line_of row ++ drop n file) × LatchOk k d m more v seen row
  latch-took v seen at row n e =
      let t = then-got (numbers file k (k + more) at) _ row n e in
      let xs = t.0 in
      let u = unless-got (outside d m (take k xs)) _ _ row n t.3 in
      let r = unless-got (wrong_reset (own_of d v (values xs)) (drop k xs)) _ _ row n u.1 in
      let w = unless-got (twice d seen xs) _ _ row n r.1 in
      let took = numbers-took file k (k + more) at xs t.1 (omega arith) t.2 in
      let r-is : values xs ≡ row = got-value _ row t.1 n w.1 in
      let n-is : t.1 ≡ n = got-next _ row t.1 n w.1 in (
        took.0 ∙ ap₂ (λ (x : List ℕ) (y : ℕ). line_of x ++ drop y file) r-is n-is,
        subst (LatchOk k d m more v seen) r-is (record {
          low = took.1;
          high = took.2;
          within = ap (inside d m) (sym (values-take k xs)) ∙ outside-none d m (take k xs) u.0;
          reset = ap (all_reset (own_of d v (values xs))) (sym (values-drop k xs)) ∙ reset-none (own_of d v (values xs)) (drop k xs) r.0;
          new = twice-none d seen xs w.0;
        }),
      )

  latch-is : (v : ℕ) (seen : List ℕ) (at : ℕ) (xs : List Placed) (n : ℕ) → numbers file k (k + more) at ≡ got xs n
      → outside d m (take k xs) ≡ None → wrong_reset (own_of d v (values xs)) (drop k xs) ≡ None → twice d seen xs ≡ None
      → latch_line_at file (latch_form k d more) m v seen at ≡ got (values xs) n
  latch-is v seen at xs n a b c e = rw (a, b, c, e)

  pub latch-reads : 0 < k → (v : ℕ) (seen : List ℕ) (at : ℕ) (row s : List ℕ) → LatchOk k d m more v seen row → drop at file ≡ line_of row ++ s
      → Reads file (latch_line_at file (latch_form k d more) m v seen at) row s
  latch-reads p v seen at row s ok e =
      let r = numbers-reads file row k (k + more) at s ok.low ok.high (λ _. omega (arith, ok.low)) e in
      let xs = r.0 in
      let inn : outside d m (take k xs) ≡ None
      = inside-none d m (take k xs) (ap (inside d m) (values-take k xs ∙ ap (take k) r.1) ∙ ok.within) in
      let res : wrong_reset (own_of d v (values xs)) (drop k xs) ≡ None
      = none-reset (own_of d v (values xs)) (drop k xs)
      (ap₂ (λ (x y : List ℕ). all_reset (own_of d v x) y) r.1 (values-drop k xs ∙ ap (drop k) r.1) ∙ ok.reset) in
      let new : twice d seen xs ≡ None = new_none d seen xs (subst (New d seen) (sym r.1) ok.new) in
      (r.2.0, latch-is v seen at xs r.2.0 r.2.1 inn res new ∙ ap (λ (x : List ℕ). got x r.2.0) r.1, r.2.2)

  pub latches-took : (n v : ℕ) (seen : List ℕ) (at : ℕ) (rows : List (List ℕ)) (e : ℕ) → latch_lines file (latch_form k d more) m n v seen at ≡ got rows e
      → (drop at file ≡ lines_of rows ++ drop e file) × (length rows ≡ n) × LatchesOk k d m more v seen rows
  latches-took zero v seen at rows e q =
      let r-is : [] ≡ rows = got-value [] rows at e q in
      let n-is : at ≡ e = got-next [] rows at e q in
      (ap₂ (λ (x : List (List ℕ)) (y : ℕ). lines_of x ++ drop y file) r-is n-is, ap length (sym r-is), subst (LatchesOk k d m more v seen) r-is tt)
  latches-took (suc n) v seen at rows e q =
      let t = then-got (latch_line_at file (latch_form k d more) m v seen at) _ rows e q in
      let u = then-got (latch_lines file (latch_form k d more) m n (suc v) (seen ++ (var_of (literal_of t.0) ∷ [])) t.1) _ rows e t.3 in
      let one = latch-took v seen at t.0 t.1 t.2 in
      let ih = latches-took n (suc v) (seen ++ (var_of (literal_of t.0) ∷ [])) t.1 u.0 u.1 u.2 in
      let r-is : t.0 ∷ u.0 ≡ rows = got-value _ rows u.1 e u.3 in
      let n-is : u.1 ≡ e = got-next _ rows u.1 e u.3 in (
        one.0 ∙ (ap (λ (x : List ℕ). line_of t.0 ++ x) ih.0 ∙ (sym (append_assoc (line_of t.0) (lines_of u.0) (drop u.1 file))
            ∙ ap₂ (λ (x : List (List ℕ)) (y : ℕ). lines_of x ++ drop y file) r-is n-is)),
        ap length (sym r-is) ∙ ap suc ih.1,
        subst (LatchesOk k d m more v seen) r-is (one.1, ih.2),
      )

  pub latches-reads : 0 < k → (rows : List (List ℕ)) (v : ℕ) (seen : List ℕ) (at : ℕ) (s : List ℕ) → LatchesOk k d m more v seen rows
      → drop at file ≡ lines_of rows ++ s
      → Reads file (latch_lines file (latch_form k d more) m (length rows) v seen at) rows s
  latches-reads p [] v seen at s ok e = (at, refl, e)
  latches-reads p (row ∷ rows) v seen at s ok e =
      let r1 = latch-reads p v seen at row (lines_of rows ++ s) ok.0 (e ∙ append_assoc (line_of row) (lines_of rows) s) in
      let r2 = latches-reads p rows (suc v) (seen ++ (var_of (literal_of row) ∷ [])) r1.0 s ok.1 r1.2 in
      (r2.0, rw (r1.1, r2.1), r2.2)

-- a line that spells k literals and a reset
spelled : (base row : List ℕ) (r : ℕ) → length base ≤ length row → row ++ replicate (suc (length base) - length row) 0 ≡ base ++ (r ∷ [])
    → ((row ≡ base) × (r ≡ 0)) ⊎ (row ≡ base ++ (r ∷ []))
spelled [] [] r h e = inl (refl, sym (ap (λ (l : List ℕ). get_or l 0 0) e))
spelled [] (x ∷ []) r h e = inr e
spelled [] (x ∷ y ∷ l) r h e =
    let n : length (x ∷ y ∷ l ++ replicate (1 - suc (suc (length l))) 0) ≡ 1 = ap length e in
    absurd (omega (arith, n))
spelled (b ∷ base) [] r h e = absurd (omega arith)
spelled (b ∷ base) (x ∷ row) r h e =
    let q : suc (suc (length base)) - suc (length row) ≡ suc (length base) - length row = omega arith in
    let x-is : x ≡ b = ap (λ (l : List ℕ). get_or l 0 0) e in
    let t : row ++ replicate (suc (length base) - length row) 0 ≡ base ++ (r ∷ [])
    = ap (λ (n : ℕ). row ++ replicate n 0) (sym q) ∙ ap (drop 1) e in
    go x-is (spelled base row r (omega arith) t)
  where
    go : x ≡ b → ((row ≡ base) × (r ≡ 0)) ⊎ (row ≡ base ++ (r ∷ [])) → ((x ∷ row ≡ b ∷ base) × (r ≡ 0)) ⊎ (x ∷ row ≡ b ∷ base ++ (r ∷ []))
    go x-is (inl p) = inl (ap₂ (λ (y : ℕ) (l : List ℕ). y ∷ l) x-is p.0, p.1)
    go x-is (inr p) = inr (ap₂ (λ (y : ℕ) (l : List ℕ). y ∷ l) x-is p)

-- the resets of lines of literals
abbrev pub ResetsAt : Bool → ℕ → List (List ℕ) → List ℕ → Type 0
ResetsAt d v [] [] = Unit {0}
ResetsAt d v [] (r ∷ rs) = ⊥
ResetsAt d v (base ∷ bases) [] = ⊥
ResetsAt d v (base ∷ bases) (r ∷ rs) = (is_reset (own_of d v base) r ≡ true) × ResetsAt d (suc v) bases rs

pub resets-text : (v : ℕ) (ls : List Latch) (rs : List ℕ) → resets_ok ls rs ≡ true → ResetsAt true v (map latch_line ls) rs
resets-text v [] [] h = tt
resets-text v [] (r ∷ rs) h = let z : ◌≡◌ {A = ℕ} 0 1 = cc in absurd (omega arith)
resets-text v (l ∷ ls) [] h = let z : ◌≡◌ {A = ℕ} 0 1 = cc in absurd (omega arith)
resets-text v (l ∷ ls) (r ∷ rs) h = (and_left (is_reset l.current r) _ h, resets-text (suc v) ls rs (and_right (is_reset l.current r) _ h))

pub text-resets : (v : ℕ) (ls : List Latch) (rs : List ℕ) → ResetsAt true v (map latch_line ls) rs → resets_ok ls rs ≡ true
text-resets v [] [] h = refl
text-resets v [] (r ∷ rs) h = absurd h
text-resets v (l ∷ ls) [] h = absurd h
text-resets v (l ∷ ls) (r ∷ rs) h = and_intro (is_reset l.current r) _ h.0 (text-resets (suc v) ls rs h.1)

pub resets-binary : (v : ℕ) (ns rs : List ℕ) → resets_ok (latches_from v ns) rs ≡ true → ResetsAt false v (map one_line ns) rs
resets-binary v [] [] h = tt
resets-binary v [] (r ∷ rs) h = let z : ◌≡◌ {A = ℕ} 0 1 = cc in absurd (omega arith)
resets-binary v (n ∷ ns) [] h = let z : ◌≡◌ {A = ℕ} 0 1 = cc in absurd (omega arith)
resets-binary v (n ∷ ns) (r ∷ rs) h = (and_left (is_reset (lit_of v) r) _ h, resets-binary (suc v) ns rs (and_right (is_reset (lit_of v) r) _ h))

pub binary-resets : (v : ℕ) (ns rs : List ℕ) → ResetsAt false v (map one_line ns) rs → resets_ok (latches_from v ns) rs ≡ true
binary-resets v [] [] h = refl
binary-resets v [] (r ∷ rs) h = absurd h
binary-resets v (n ∷ ns) [] h = absurd h
binary-resets v (n ∷ ns) (r ∷ rs) h = and_intro (is_reset (lit_of v) r) _ h.0 (binary-resets (suc v) ns rs h.1)

pub resets-long : (d : Bool) (v : ℕ) (bases : List (List ℕ)) (rs : List ℕ) → ResetsAt d v bases rs → length rs ≡ length bases
resets-long d v [] [] h = refl
resets-long d v [] (r ∷ rs) h = absurd h
resets-long d v (base ∷ bases) [] h = absurd h
resets-long d v (base ∷ bases) (r ∷ rs) h = ap suc (resets-long d (suc v) bases rs h.1)

-- what heads a line is its first literal
head-append : (j : ℕ) (base t : List ℕ) → length base ≡ suc j → literal_of (base ++ t) ≡ literal_of base
head-append j [] t h = absurd (omega arith)
head-append j (x ∷ base) t h = refl

own-append : (j : ℕ) (d : Bool) (v : ℕ) (base t : List ℕ) → length base ≡ suc j → own_of d v (base ++ t) ≡ own_of d v base
own-append j true v base t h = head-append j base t h
own-append j false v base t h = refl

new-append : (j : ℕ) (d : Bool) (seen base t : List ℕ) → length base ≡ suc j → New d seen base → New d seen (base ++ t)
new-append j true seen [] t h n = absurd (omega arith)
new-append j true seen (x ∷ base) t h n = n
new-append j false seen base t h n = tt

head-take : (j : ℕ) (row : List ℕ) → literal_of (take (suc j) row) ≡ literal_of row
head-take j [] = refl
head-take j (x ∷ row) = refl

own-take : (j : ℕ) (d : Bool) (v : ℕ) (row : List ℕ) → own_of d v (take (suc j) row) ≡ own_of d v row
own-take j true v row = head-take j row
own-take j false v row = refl

new-take : (j : ℕ) (d : Bool) (seen row : List ℕ) → New d seen row → New d seen (take (suc j) row)
new-take j true seen [] n = tt
new-take j true seen (x ∷ row) n = n
new-take j false seen row n = tt

pub heads-take : (j : ℕ) (rows : List (List ℕ)) → heads (map (take (suc j)) rows) ≡ heads rows
heads-take j [] = refl
heads-take j (row ∷ rows) = ap₂ (λ (x : ℕ) (l : List ℕ). var_of x ∷ l) (head-take j row) (heads-take j rows)

module _ (j : ℕ) (d : Bool) (m more : ℕ) where
  -- lines that spell literals and resets
  one-spelled : (v : ℕ) (seen base : List ℕ) (r : ℕ) (row : List ℕ) → RowOk (suc j) d m seen base → is_reset (own_of d v base) r ≡ true
      → Spells (suc j) (suc j + more) (base ++ (r ∷ [])) row
      → LatchOk (suc j) d m more v seen row × (take (suc j) row ≡ base) × (reset_after (suc j) row ≡ r)
  one-spelled v seen base r row ok h s =
      go (spelled base row r (omega (arith, ok.long, s.0)) (ap (λ (n : ℕ). row ++ replicate (n - length row) 0) n-is ∙ s.2))
    where
      n-is : suc (length base) ≡ length (base ++ (r ∷ []))
      n-is = let q = length-append base (r ∷ []) in omega arith

      go : ((row ≡ base) × (r ≡ 0)) ⊎ (row ≡ base ++ (r ∷ []))
          → LatchOk (suc j) d m more v seen row × (take (suc j) row ≡ base) × (reset_after (suc j) row ≡ r)
      go (inl p) =
          let l : length base ≤ suc j = omega (arith, ok.long) in
          let t : take (suc j) base ≡ base = take_all (suc j) base l in
          let e : drop (suc j) base ≡ [] = drop_of_length-le base l in
          subst (λ (x : List ℕ). LatchOk (suc j) d m more v seen x × (take (suc j) x ≡ base) × (reset_after (suc j) x ≡ r)) (sym p.0) (
            record {
              low = omega (arith, ok.long);
              high = omega (arith, ok.long);
              within = ap (inside d m) t ∙ ok.within;
              reset = ap (all_reset (own_of d v base)) e;
              new = ok.new;
            },
            t,
            get_or-eq_default base 0 l ∙ sym p.1,
          )
      go (inr p) =
          let t : take (suc j) (base ++ (r ∷ [])) ≡ base = take_at base (r ∷ []) (suc j) ok.long in
          let e : drop (suc j) (base ++ (r ∷ [])) ≡ r ∷ [] = drop_at base (r ∷ []) (suc j) ok.long in
          let z : suc j ≡ length base + 0 = omega (arith, ok.long) in
          let high : length (base ++ (r ∷ [])) ≤ suc j + more = subst (λ (x : List ℕ). length x ≤ suc j + more) p s.1 in
          subst (λ (x : List ℕ). LatchOk (suc j) d m more v seen x × (take (suc j) x ≡ base) × (reset_after (suc j) x ≡ r)) (sym p) (
            record {
              low = omega (arith, ok.long, length-append base (r ∷ []));
              high = high;
              within = ap (inside d m) t ∙ ok.within;
              reset = ap₂ (λ (x : ℕ) (y : List ℕ). all_reset x y) (own-append j d v base (r ∷ []) ok.long) e
                  ∙ and_intro (is_reset (own_of d v base) r) true h refl;
              new = new-append j d seen base (r ∷ []) ok.long ok.new;
            },
            t,
            ap (λ (x : ℕ). get_or (base ++ (r ∷ [])) x 0) z ∙ get_or-append-add base (r ∷ []) 0 0,
          )

  pub latches-spelled : (v : ℕ) (seen : List ℕ) (bases : List (List ℕ)) (rs : List ℕ) (rows : List (List ℕ)) → RowsOk (suc j) d m seen bases
      → ResetsAt d v bases rs → AllSpell (suc j) (suc j + more) (with_resets bases rs) rows
      → LatchesOk (suc j) d m more v seen rows × (map (take (suc j)) rows ≡ bases) × (map (reset_after (suc j)) rows ≡ rs)
  latches-spelled v seen [] [] [] ok h s = (tt, refl, refl)
  latches-spelled v seen [] [] (row ∷ rows) ok h s = absurd s
  latches-spelled v seen [] (r ∷ rs) rows ok h s = absurd h
  latches-spelled v seen (base ∷ bases) [] rows ok h s = absurd h
  latches-spelled v seen (base ∷ bases) (r ∷ rs) [] ok h s = absurd s
  latches-spelled v seen (base ∷ bases) (r ∷ rs) (row ∷ rows) ok h s =
      let o = one-spelled v seen base r row ok.0 h.0 s.0 in
      let ih = latches-spelled (suc v) (seen ++ (var_of (literal_of base) ∷ [])) bases rs rows ok.1 h.1 s.1 in
      let hd : literal_of base ≡ literal_of row = ap literal_of (sym o.1) ∙ head-take j row in (
        (o.0, subst (λ (x : ℕ). LatchesOk (suc j) d m more (suc v) (seen ++ (var_of x ∷ [])) rows) hd ih.0),
        ap₂ (λ (x : List ℕ) (l : List (List ℕ)). x ∷ l) o.1 ih.1,
        ap₂ (λ (x : ℕ) (l : List ℕ). x ∷ l) o.2 ih.2,
      )

  -- and lines that were read do so
  module _ (few : more ≤ 1) where
    one-spells : (v : ℕ) (seen row : List ℕ) → LatchOk (suc j) d m more v seen row
        → RowOk (suc j) d m seen (take (suc j) row) × (is_reset (own_of d v (take (suc j) row)) (reset_after (suc j) row) ≡ true)
        × Spells (suc j) (suc j + more) (take (suc j) row ++ (reset_after (suc j) row ∷ [])) row
    one-spells v seen row ok =
        let l : length (take (suc j) row) ≡ suc j = omega (arith, length-take (suc j) row, ok.low) in (
          record { long = l; within = ok.within; new = new-take j d seen row ok.new },
          ap (λ (x : ℕ). is_reset x (reset_after (suc j) row)) (own-take j d v row) ∙ fits (length row - suc j) refl,
          (ok.low, ok.high, fills (length row - suc j) refl),
        )
      where
        at-end : length row - suc j ≡ 0 → (take (suc j) row ≡ row) × (reset_after (suc j) row ≡ 0)
        at-end e =
            let h : length row ≤ suc j = omega arith in
            (take_all (suc j) row h, get_or-eq_default row 0 h)

        fits : (n : ℕ) → length row - suc j ≡ n → is_reset (own_of d v row) (reset_after (suc j) row) ≡ true
        fits zero e = ap (is_reset (own_of d v row)) (at-end e).1
        fits (suc n) e =
            and_left (is_reset (own_of d v row) (reset_after (suc j) row)) _
            (ap (all_reset (own_of d v row)) (sym (drop-cons row (suc j) 0 (omega arith))) ∙ ok.reset)

        size : length (take (suc j) row ++ (reset_after (suc j) row ∷ [])) ≡ suc (suc j)
        size = omega (arith, length-append (take (suc j) row) (reset_after (suc j) row ∷ []), length-take (suc j) row, ok.low)

        fills : (n : ℕ) → length row - suc j ≡ n
            → row ++ replicate (length (take (suc j) row ++ (reset_after (suc j) row ∷ [])) - length row) 0
            ≡ take (suc j) row ++ (reset_after (suc j) row ∷ [])
        fills zero e =
            let q : length (take (suc j) row ++ (reset_after (suc j) row ∷ [])) - length row ≡ 1 = omega (arith, size, ok.low) in
            ap (λ (x : ℕ). row ++ replicate x 0) q ∙ ap₂ (λ (x : List ℕ) (y : ℕ). x ++ (y ∷ [])) (sym (at-end e).0) (sym (at-end e).1)
        fills (suc n) e =
            let q : length (take (suc j) row ++ (reset_after (suc j) row ∷ [])) - length row ≡ 0 = omega (arith, size, ok.high) in
            ap (λ (x : ℕ). row ++ replicate x 0) q ∙ (append-nil row
            ∙ (sym (take_all (suc (suc j)) row (omega (arith, ok.high))) ∙ take-suc row (suc j) 0 (omega arith)))

    pub latches-spell : (v : ℕ) (seen : List ℕ) (rows : List (List ℕ)) → LatchesOk (suc j) d m more v seen rows
        → RowsOk (suc j) d m seen (map (take (suc j)) rows)
        × ResetsAt d v (map (take (suc j)) rows) (map (reset_after (suc j)) rows)
        × AllSpell (suc j) (suc j + more) (with_resets (map (take (suc j)) rows) (map (reset_after (suc j)) rows)) rows
    latches-spell v seen [] ok = (tt, tt, tt)
    latches-spell v seen (row ∷ rows) ok =
        let o = one-spells v seen row ok.0 in
        let ih = latches-spell (suc v) (seen ++ (var_of (literal_of row) ∷ [])) rows ok.1 in (
          (o.0, subst (λ (x : ℕ). RowsOk (suc j) d m (seen ++ (var_of x ∷ [])) (map (take (suc j)) rows)) (sym (head-take j row)) ih.0),
          (o.1, ih.1),
          (o.2, ih.2),
        )

-- rows of latches and of next states
abbrev pub AtLeast : ℕ → List (List ℕ) → Type 0
AtLeast k [] = Unit {0}
AtLeast k (row ∷ rows) = (k ≤ length row) × AtLeast k rows

pub latches-least : (k : ℕ) (d : Bool) (m more v : ℕ) (seen : List ℕ) (rows : List (List ℕ)) → LatchesOk k d m more v seen rows → AtLeast k rows
latches-least k d m more v seen [] h = tt
latches-least k d m more v seen (row ∷ rows) h = (h.0.low, latches-least k d m more (suc v) _ rows h.1)

pub take-two : (rows : List (List ℕ)) → AtLeast 2 rows → map latch_line (map latch_of rows) ≡ map (take 2) rows
take-two [] h = refl
take-two ([] ∷ rows) h = absurd (omega (arith, h.0))
take-two ((x ∷ []) ∷ rows) h = absurd (omega (arith, h.0))
take-two ((x ∷ y ∷ row) ∷ rows) h = ap (λ (l : List (List ℕ)). (x ∷ y ∷ []) ∷ l) (take-two rows h.1)

pub take-one : (rows : List (List ℕ)) → AtLeast 1 rows → map one_line (map literal_of rows) ≡ map (take 1) rows
take-one [] h = refl
take-one ([] ∷ rows) h = absurd (omega (arith, h.0))
take-one ((x ∷ row) ∷ rows) h = ap (λ (l : List (List ℕ)). (x ∷ []) ∷ l) (take-one rows h.1)
