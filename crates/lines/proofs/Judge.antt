-- A line, judged number by number: the whole answer is what was read before and the answer from here on.
use Prim.Native.Nat.{ℕ, suc, zero, ◌+◌, ◌*◌, ◌≤◌}
use mathlib.Core.Path.{◌≡◌, refl, sym, ap, ap₂}
use mathlib.Core.Bool.{Bool, true, false, cond}
use mathlib.Core.List.{List, [], ◌∷◌, ◌++◌, append-nil, map}
use Rattle.std.specs.Prelude.{Option, Some, None}
use native.Mathlib.Omega.{arith}
use borrow.Author.Tests.{leb-true}
use lib.Dec.{eqb, leb}
use lib.ListN.{get_or}
use lib.Seq.{append_snoc}
use Rattle.plan.specs.declared.Refusal.{Refusal}
use Rattle.plan.specs.declared.Refusal.TheVariants.{WrongByte, OutOfRange}
use Rattle.plan.specs.Literals.{most, in_range, sign_of}
use Rattle.plan.specs.Refusals.{Parse, got, refused, ◌then◌, unless}
use Rattle.plan.specs.Circuit.{inside}
use Rattle.plan.specs.Bytes.{number, end_of, Placed, numbers, values, outside}
use Rattle.plan.specs.Given.{or_else}
use Rattle.laws.proofs.Reading.Common.{then-got, unless-got, got-value, and_left, and_right}
use Rattle.laws.proofs.Reading.Cut.{cut}
use Rattle.laws.proofs.Reading.Lines.{outside-none}
use Rattle.laws.proofs.Reading.Steps.{numbers-exactly}
use Rattle.lines.specs.Rows.{row}

-- the literals ls were read, the first out of its range stands at o, and the rest is p
abbrev pub judged : List ℕ → Option ℕ → Bool → ℕ → Parse (List Placed) → Parse (List ℕ)
judged ls o d m p = p then λ xs next. unless (or_else o (outside d m xs)) OutOfRange (got (ls ++ values xs) next)

later : (o : Option ℕ) (t : Bool) (place : ℕ) (b : Option ℕ) → or_else o (cond t b (Some place)) ≡ or_else (or_else o (cond t None (Some place))) b
later None true place b = refl
later None false place b = refl
later (Some p) t place b = refl

module _ (file : List ℕ) (d : Bool) (m : ℕ) (ls : List ℕ) (o : Option ℕ) (l pos : ℕ) where
  pub judge-wrong : (r : Refusal) → number file pos ≡ refused r → judged ls o d m (numbers file (suc l) (suc l) pos) ≡ refused r
  judge-wrong r e = rw (numbers-exactly file l pos, e)

  module _ (v next : ℕ) (e : number file pos ≡ got v next) where
    pub judge-cut : eqb (get_or file next 0) (end_of l) ≡ false → judged ls o d m (numbers file (suc l) (suc l) pos) ≡ refused (WrongByte next)
    judge-cut h = rw (numbers-exactly file l pos, e, h)

    pub judge-turn : eqb (get_or file next 0) (end_of l) ≡ true
        → judged ls o d m (numbers file (suc l) (suc l) pos)
        ≡ judged (ls ++ (v ∷ [])) (or_else o (cond (in_range d m v) None (Some pos))) false m (numbers file l l (next + 1))
    judge-turn h = rw (numbers-exactly file l pos, e, h) (go (numbers file l l (next + 1)))
      where
        go : (p : Parse (List Placed))
            → judged ls o d m (p then λ ns last. got (record { value = v; place = pos } ∷ ns) last)
            ≡ judged (ls ++ (v ∷ [])) (or_else o (cond (in_range d m v) None (Some pos))) false m p
        go (got xs last) =
            ap₂ (λ (x : Option ℕ) (y : List ℕ). unless x OutOfRange (got y last)) (later o (in_range d m v) pos (outside false m xs))
            (sym (append_snoc ls v (values xs)))
        go (refused r) = refl

pub judge-done : (file : List ℕ) (d : Bool) (m : ℕ) (ls : List ℕ) (o : Option ℕ) (pos : ℕ)
    → judged ls o d m (numbers file zero zero pos) ≡ unless o OutOfRange (got ls pos)
judge-done file d m ls None pos = ap (λ (x : List ℕ). got x pos) (append-nil ls)
judge-done file d m ls (Some place) pos = refl

range_small : (d : Bool) (m v : ℕ) → m ≤ most → in_range d m v ≡ true → cut v ≡ v
range_small true m v h e =
    let k : v ≤ 2 * m = leb-true v (2 * m) (and_right (leb 2 v) _ (and_right (eqb (sign_of v) 0) _ e)) in
    omega arith
range_small false m v h e = let k : v ≤ 2 * m + 1 = leb-true v (2 * m + 1) e in omega arith

pub inside-small : (d : Bool) (m : ℕ) (ls : List ℕ) → m ≤ most → inside d m ls ≡ true → map cut ls ≡ ls
inside-small d m [] h e = refl
inside-small d m (v ∷ ls) h e =
    ap₂ (λ (x : ℕ) (y : List ℕ). x ∷ y) (range_small d m v h (and_left (in_range d m v) _ e)) (inside-small false m ls h (and_right (in_range d m v) _ e))

pub row_inside : (file : List ℕ) (k : ℕ) (d : Bool) (m at : ℕ) (ls : List ℕ) (next : ℕ) → row file k d m at ≡ got ls next → inside d m ls ≡ true
row_inside file k d m at ls next e =
    let t = then-got (numbers file k k at) _ ls next e in
    let u = unless-got (outside d m t.0) _ _ ls next t.3 in
    let r-is : values t.0 ≡ ls = got-value _ ls t.1 next u.1 in
    rw r-is at (outside-none d m t.0 u.0)
