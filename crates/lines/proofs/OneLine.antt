-- One line: by 1 and 5 first, then by 6.
use Prim.Native.Nat.{ℕ, suc, zero, ◌≤◌, ◌<◌}
use mathlib.Core.Path.{◌≡◌, refl, sym, ap, ap₂, ◌∙◌}
use mathlib.Core.Bool.{Bool, true, false, cond, ◌&&◌}
use mathlib.Core.List.{List, [], ◌∷◌}
use Rattle.std.specs.Prelude.{Option, Some, None}
use native.Mathlib.Omega.{arith}
use lib.ListN.{length}
use Rattle.plan.specs.declared.Refusal.{Refusal}
use Rattle.plan.specs.declared.Refusal.TheVariants.{OutOfRange, DefinedTwice}
use Rattle.plan.specs.Literals.{var_of}
use Rattle.plan.specs.Refusals.{Parse, got, refused, ◌then◌, unless}
use Rattle.plan.specs.Circuit.{literal_of, has, inside}
use Rattle.plan.specs.Bytes.{number, expect, end_of, Placed, numbers, values, outside, twice, line}
use Rattle.laws.proofs.Ranges.{first-var}
use Rattle.laws.proofs.Reading.Common.{then-got, unless-got, got-value, got-next}
use Rattle.laws.proofs.Reading.Lines.{numbers-took}
use Rattle.laws.proofs.Reading.Steps.{numbers-exactly}
use Rattle.lines.specs.Rows.{row}
use Rattle.lines.proofs.Judge.{row_inside}

-- the first number of a line stands at its start
first-placed : (file : List ℕ) (k at : ℕ) (xs : List Placed) (n : ℕ) → numbers file (suc k) (suc k) at ≡ got xs n
    → (v : ℕ) × (ys : List Placed) × (record { value = v; place = at } ∷ ys ≡ xs)
first-placed file k at xs n e =
    let t1 = then-got (number file at) _ xs n (sym (numbers-exactly file k at) ∙ e) in
    let t2 = then-got (expect file (end_of k) t1.1) _ xs n t1.3 in
    let t3 = then-got (numbers file k k t2.1) _ xs n t2.3 in
    (t1.0, t3.0, got-value _ xs t3.1 n t3.3)

judge-twice : (d : Bool) (seen : List ℕ) (v at : ℕ) (ys : List Placed) (p : Parse (List ℕ))
    → unless (twice d seen (record { value = v; place = at } ∷ ys)) DefinedTwice p ≡ cond (d && has (var_of v) seen) (refused (DefinedTwice at)) p
judge-twice false seen v at ys p = refl
judge-twice true seen v at ys p = go (has (var_of v) seen)
  where
    go : (t : Bool) → unless (cond t (Some at) None) DefinedTwice p ≡ cond t (refused (DefinedTwice at)) p
    go true = refl
    go false = refl

module _ (file : List ℕ) (d : Bool) (m : ℕ) (seen : List ℕ) where
  -- what 6 says of a line that 1 and 5 accept
  pub line_row : (k at : ℕ) (ls : List ℕ) (next : ℕ) → 0 < k → row file k d m at ≡ got ls next
      → line file k d m seen at ≡ cond (d && has (var_of (literal_of ls)) seen) (refused (DefinedTwice at)) (got ls next)
  line_row zero at ls next h e = absurd (omega arith)
  line_row (suc k) at ls next h e =
      let t = then-got (numbers file (suc k) (suc k) at) _ ls next e in
      let u = unless-got (outside d m t.0) _ _ ls next t.3 in
      let f = first-placed file k at t.0 t.1 t.2 in
      let ls-is : values t.0 ≡ ls = got-value _ ls t.1 next u.1 in
      let n-is : t.1 ≡ next = got-next _ ls t.1 next u.1 in
      let v-is : f.0 ≡ literal_of ls = ap (λ (x : List Placed). literal_of (values x)) f.2 ∙ ap literal_of ls-is in
      rw (t.2, u.0)
      (ap (λ (x : List Placed). unless (twice d seen x) DefinedTwice (got (values t.0) t.1)) (sym f.2)
      ∙ (judge-twice d seen f.0 at f.1 (got (values t.0) t.1)
      ∙ (ap (λ (x : ℕ). cond (d && has (var_of x) seen) (refused (DefinedTwice at)) (got (values t.0) t.1)) v-is
      ∙ ap₂ (λ (x : List ℕ) (y : ℕ). cond (d && has (var_of (literal_of ls)) seen) (refused (DefinedTwice at)) (got x y)) ls-is n-is)))

  pub line_refused : (k at : ℕ) (r : Refusal) → row file k d m at ≡ refused r → line file k d m seen at ≡ refused r
  line_refused k at r e = go (numbers file k k at) e
    where
      go : (p : Parse (List Placed))
          → (p then λ xs next. unless (outside d m xs) OutOfRange (got (values xs) next)) ≡ refused r
          → (p then λ xs next. unless (outside d m xs) OutOfRange (unless (twice d seen xs) DefinedTwice (got (values xs) next))) ≡ refused r
      go (refused q) h = let same : q ≡ r = cc in ap refused same
      go (got xs n) h = by-range (outside d m xs) h
        where
          by-range : (o : Option ℕ) → unless o OutOfRange (got (values xs) n) ≡ refused r
              → unless o OutOfRange (unless (twice d seen xs) DefinedTwice (got (values xs) n)) ≡ refused r
          by-range None q = absurd (let z : ◌≡◌ {A = ℕ} 0 1 = cc in omega arith)
          by-range (Some x) q = q

-- the line has k literals, and the variable of the first is at most M
pub row-long : (file : List ℕ) (k : ℕ) (d : Bool) (m at : ℕ) (ls : List ℕ) (next : ℕ) → row file k d m at ≡ got ls next → length ls ≡ k
row-long file k d m at ls next e =
    let t = then-got (numbers file k k at) _ ls next e in
    let u = unless-got (outside d m t.0) _ _ ls next t.3 in
    let took = numbers-took file k k at t.0 t.1 (omega arith) t.2 in
    let size : length (values t.0) ≡ k = omega (arith, took.1, took.2) in
    ap length (sym (got-value _ ls t.1 next u.1)) ∙ size

pub row-var : (file : List ℕ) (k : ℕ) (d : Bool) (m at : ℕ) (ls : List ℕ) (next : ℕ) → 0 < k → row file k d m at ≡ got ls next → var_of (literal_of ls) ≤ m
row-var file k d m at ls next h e = go ls (row-long file k d m at ls next e) (row_inside file k d m at ls next e)
  where
    go : (l : List ℕ) → length l ≡ k → inside d m l ≡ true → var_of (literal_of l) ≤ m
    go [] q i = absurd (omega arith)
    go (v ∷ l) q i = first-var d m v l i
