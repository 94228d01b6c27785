-- 5, 6, 7, 8 and 15 over the circuit that the tables hold; and the answers from the counts on.
use Prim.Native.Nat.{ℕ, ◌≤◌}
use mathlib.Core.Path.{◌≡◌, refl, sym, ap, ◌∙◌}
use mathlib.Core.Bool.{Bool, true, false, not, ◌&&◌, false≢true}
use mathlib.Core.List.{List, [], ◌∷◌}
use Rattle.std.specs.Prelude.{Result, Ok, Err, Option, Some, None}
use Rattle.plan.specs.declared.Refusal.{Refusal}
use native.Mathlib.Omega.{arith}
use borrow.Author.Tests.{leb-true}
use lib.ListN.{length, get_or, length-replicate}
use Rattle.plan.specs.declared.Counts.{Counts}
use Rattle.plan.specs.declared.Refusal.TheVariants.{LargeCount, WrongSum, ShortTable, OutOfRange, DefinedTwice, NotDefined, Cyclic}
use Rattle.plan.specs.Refusals.{stage, first_of}
use Rattle.plan.specs.Literals.{most}
use Rattle.plan.specs.Circuit.{Tables, Lent, circuit_of, defined_in, least_short, cleared}
use Rattle.plan.specs.Header.{text, list_of, over, adds}
use Rattle.plan.specs.Depends.{undefined_in, cyclic_in}
use Rattle.plan.specs.Binary.{binary_order}
use Rattle.plan.specs.Given.{counted, failing, outside_in, twice_in}
use Rattle.plan.specs.Outcome.{checked_by}
use Rattle.laws.proofs.Marks.{Agrees, zeros}
use Rattle.laws.proofs.Reading.Headers.{AllMost}
use Rattle.laws.proofs.Reading.Short.{AllLong, short_none}
use Rattle.laws.proofs.Running.NoSixToEight.{no-six-to-eight}
use Rattle.laws.proofs.Writing.Nothing.{Inside, stage-none, failing-none, first-all, none_inside, once-different}
use Rattle.laws.proofs.Writing.Fine.{counts-most}
use Rattle.tables.specs.declared.Sizes.{Sizes}
use Rattle.tables.specs.Lengths.{lengths_in, sizes_of, shorter_of}
use Rattle.tables.specs.Held.{Fits, Scratch}
use Rattle.judge.specs.twice.Twice.{Ranged}
use Rattle.judge.specs.binary_order.Tables.{Long}
use Rattle.judge.specs.at_end.Read.{Read, closing}
use Rattle.judge.specs.Judged.{given_at, lent_stages, circuit_stages, lent_shorter, unordered}

-- what 15 is asked of
pub long-tables : {n : Counts} {inputs latches outputs gates resets bads constraints : List ℕ}
    → Fits n inputs latches outputs gates resets bads constraints → Long n inputs latches gates
long-tables f = record {
  most-M = f.most-M;
  most-I = omega (arith, f.sum, f.most-M);
  most-L = omega (arith, f.sum, f.most-M);
  most-O = f.most-O;
  most-A = omega (arith, f.sum, f.most-M);
  inputs_long = f.inputs_long;
  latches-long = f.latches-long;
  gates-long = f.gates-long;
}

module _ (ordered : Bool) (n : Counts) (t : Tables) where
  pub at_five : (k : ℕ) → outside_in (circuit_of n t) ≡ Some k → Err (OutOfRange k) ≡ checked_by (first_of (circuit_stages ordered n t))
  at_five k e = sym (rw e)

  module _ (e5 : outside_in (circuit_of n t) ≡ None) where
    inside : Inside (circuit_of n t)
    inside = none_inside (circuit_of n t) e5

    pub in_order : binary_order (circuit_of n t) ≡ true → Ok tt ≡ checked_by (first_of (circuit_stages ordered n t))
    in_order b =
        let never = no-six-to-eight (circuit_of n t) b inside.latches inside.outputs inside.bads inside.constraints in
        go ordered never.0 never.1 never.2
      where
        go : (ordered : Bool) → twice_in (circuit_of n t) ≡ None → undefined_in (circuit_of n t) ≡ None → cyclic_in (circuit_of n t) ≡ None
            → Ok tt ≡ checked_by (first_of (circuit_stages ordered n t))
        go true e6 e7 e8 = sym (rw (e5, e6, e7, e8, b))
        go false e6 e7 e8 = sym (rw (e5, e6, e7, e8))

    pub at-six : (k : ℕ) → twice_in (circuit_of n t) ≡ Some k → Err (DefinedTwice k) ≡ checked_by (first_of (circuit_stages ordered n t))
    at-six k e = sym (rw (e5, e))

    pub past-six : twice_in (circuit_of n t) ≡ None → (ordered ≡ true → binary_order (circuit_of n t) ≡ false)
        → unordered (checked_by (closing (circuit_of n t))) ordered ≡ checked_by (first_of (circuit_stages ordered n t))
    past-six e6 b = go ordered b (undefined_in (circuit_of n t)) refl (cyclic_in (circuit_of n t)) refl
      where
        go : (ordered : Bool) → (ordered ≡ true → binary_order (circuit_of n t) ≡ false)
            → (o7 : Option ℕ) → undefined_in (circuit_of n t) ≡ o7 → (o8 : Option ℕ) → cyclic_in (circuit_of n t) ≡ o8
            → unordered (checked_by (first_of (stage NotDefined o7 ∷ stage Cyclic o8 ∷ []))) ordered ≡ checked_by (first_of (circuit_stages ordered n t))
        go true b None e7 None e8 = sym (rw (e5, e6, e7, e8, b refl))
        go false b None e7 None e8 = sym (rw (e5, e6, e7, e8))
        go true b None e7 (Some v) e8 = sym (rw (e5, e6, e7, e8))
        go false b None e7 (Some v) e8 = sym (rw (e5, e6, e7, e8))
        go true b (Some v) e7 o8 e8 = sym (rw (e5, e6, e7))
        go false b (Some v) e7 o8 e8 = sym (rw (e5, e6, e7))

    module _ (scratch : List ℕ) (f : Fits n t.inputs t.latches t.outputs t.gates t.resets t.bads t.constraints)
        (s : Scratch n scratch) where
      pub ranged : ((i : ℕ) → get_or scratch i 0 ≡ 0) → Ranged n t.inputs t.latches t.gates scratch
      ranged blank = record {
        most-M = f.most-M;
        inputs_long = f.inputs_long;
        latches-long = f.latches-long;
        gates-long = f.gates-long;
        marks-long = omega (arith, s);
        inputs-inside = inside.inputs;
        latches-inside = inside.latches;
        gates-inside = inside.gates;
        blank = λ v h. blank v;
      }

      pub judged : twice_in (circuit_of n t) ≡ None → (scratch' : List ℕ) → length scratch' ≡ length scratch
          → Agrees n.M (defined_in (circuit_of n t)) scratch' → Read n t.inputs t.latches t.outputs t.gates t.bads t.constraints scratch' 0
      judged e scratch' l a = record {
        most-M = f.most-M;
        sum = f.sum;
        inputs_long = f.inputs_long;
        latches-long = f.latches-long;
        outputs-long = f.outputs-long;
        gates-long = f.gates-long;
        bads-long = f.bads-long;
        constraints-long = f.constraints-long;
        scratch-long = omega (arith, s);
        marks-long = omega (arith, s);
        inputs-inside = inside.inputs;
        latches-inside = inside.latches;
        outputs-inside = inside.outputs;
        gates-inside = inside.gates;
        bads-inside = inside.bads;
        constraints-inside = inside.constraints;
        different = once-different (circuit_of n t) e;
        marked = a;
      }

-- binary order is looked for unless numbers are asked
pub not-looked : (numbers b : Bool) → numbers ≡ true → false ≡ (not numbers && b)
not-looked numbers b e = sym (ap (λ (x : Bool). not x && b) e)

pub looked : (numbers b : Bool) → numbers ≡ false → b ≡ (not numbers && b)
looked numbers b e = sym (ap (λ (x : Bool). not x && b) e)

-- where 15 is asked binary order was looked for; where numbers are asked 15 is not, and the answer is that of 7 and 8
pub not-in-order : (numbers ordered b : Bool) → (numbers ≡ true → ordered ≡ false) → (not numbers && b) ≡ false → ordered ≡ true → b ≡ false
not-in-order true ordered b p e o = absurd (false≢true (sym (p refl) ∙ o))
not-in-order false ordered b p e o = e

pub unordered-good : (answer : Result Unit Refusal) (ordered : Bool) → ordered ≡ false → unordered answer ordered ≡ Ok tt → answer ≡ Ok tt
unordered-good (Err r) ordered o e = e
unordered-good (Ok tt) true o e = refl
unordered-good (Ok tt) false o e = refl

-- scratch that is cleared
pub cleared-wide : (n : Counts) (scratch scratch' : List ℕ) → scratch' ≡ cleared scratch → Scratch n scratch → Scratch n scratch'
cleared-wide n scratch scratch' e s =
    let long : length scratch' ≡ length scratch = ap length e ∙ length-replicate (length scratch) 0 in
    omega (arith, s)

pub cleared-zero : (scratch scratch' : List ℕ) → scratch' ≡ cleared scratch → (i : ℕ) → get_or scratch' i 0 ≡ 0
cleared-zero scratch scratch' e i = ap (λ (l : List ℕ). get_or l i 0) e ∙ zeros (length scratch) i

-- counts that 2 lets pass are within the limit
pub small-counts : (n : Counts) → over (counted 1 (list_of n)) ≡ None
    → (n.M ≤ most) × (n.L ≤ most) × (n.O ≤ most) × (n.A ≤ most) × (n.B ≤ most) × (n.C ≤ most)
small-counts n e =
    let m = counts-most n e in
    (m.0, m.1.1.0, m.1.1.1.0, m.1.1.1.1.0, m.1.1.1.1.1.0, m.1.1.1.1.1.1.0)

-- tables that 2, 3 and 4 let pass
module _ (n : Counts) (t : Tables) (scratch : List ℕ) (to : Sizes)
    (e : first_of (lent_stages n (lengths_in (shorter_of (sizes_of t) to) (length scratch))) ≡ None) where
  abbrev lengths : List ℕ
  lengths = lengths_in (shorter_of (sizes_of t) to) (length scratch)

  abbrev lent : List Lent
  lent = lent_shorter (given_at n t scratch) to

  small : AllMost (list_of n)
  small = counts-most n (stage-none LargeCount (over (counted 1 (list_of n))) (first-all (lent_stages n lengths) e).0)

  adding : adds text n ≡ true
  adding = failing-none (adds text n) (stage-none WrongSum (failing (adds text n)) (first-all (lent_stages n lengths) e).1.0)

  long : AllLong lent
  long = (short_none lent).0 (stage-none ShortTable (least_short lent) (first-all (lent_stages n lengths) e).1.1.0)

  pub fits : Fits n t.inputs t.latches t.outputs t.gates t.resets t.bads t.constraints
  fits = record {
    most-M = small.0;
    most-O = small.1.1.1.0;
    most-B = small.1.1.1.1.1.0;
    most-C = small.1.1.1.1.1.1.0;
    sum = leb-true _ _ adding;
    inputs_long = omega (arith, long.0);
    latches-long = omega (arith, long.1.0);
    outputs-long = omega (arith, long.1.1.0);
    gates-long = omega (arith, long.1.1.1.0);
    resets-long = omega (arith, long.1.1.1.1.1.1.0);
    bads-long = omega (arith, long.1.1.1.1.1.1.1.0);
    constraints-long = omega (arith, long.1.1.1.1.1.1.1.1.0);
  }

  pub fits-scratch : Scratch n scratch
  fits-scratch = long.1.1.1.1.0
