-- The search over tables, turn after turn.
use Prim.Native.Nat.{ℕ, suc, ◌+◌, ◌-◌, ◌/◌, ◌%◌, ◌^◌, ◌≤◌, ◌<◌}
use mathlib.Core.Path.{◌≡◌, sym, ap, ap₂, ◌∙◌, subst}
use mathlib.Core.List.{List}
use Rattle.std.specs.Prelude.{Option, Some, None}
use native.Mathlib.Nat.{pow-le-pow_right}
use native.Mathlib.Omega.{arith}
use lib.ListN.{length}
use Rattle.plan.specs.declared.Counts.{Counts}
use Rattle.plan.specs.Circuit.{Tables, circuit_of}
use Rattle.step.specs.sweep.Running.{Runs}
use Rattle.plan.specs.Search.{System, onward, never, happens, search_from, system_of}
use Rattle.search.specs.Rows.{at}
use Rattle.search.proofs.Tabled.{turn-past, turn-out, turn-shown}
use Rattle.search.specs.declared.Reach.TheVariants as reach
use Rattle.search.specs.Exploring.{LeftBy, Turned, Exploring, Explored}
use Rattle.search.proofs.Turning.{ways-few}

-- after the last of the tries
pub exploring_all : {split : ℕ} {n : Counts} {x : Tables} {allowance tries reached : ℕ} {met marks : List ℕ} → tries ≡ allowance
    → Exploring split n x allowance tries reached met marks → Exploring split n x allowance allowance reached met marks
exploring_all {split} {n} {x} {allowance} {tries} {reached} {met} {marks} e ex = subst (λ (k : ℕ). Exploring split n x allowance k reached met marks) e ex

module _ {split : ℕ} {n : Counts} {x : Tables} (r : Runs n x) (allowance tries reached moves : ℕ) (met marks : List ℕ)
    (ex : Exploring split n x allowance tries reached met marks) (em : moves ≡ 2 ^ n.I) where
  abbrev y : System
  y = system_of split (circuit_of n x)

  moves-are : (system_of split (circuit_of n x)).moves ≡ moves
  moves-are = ap (λ (c : Counts). 2 ^ c.I) r.counts ∙ sym em

  pub place_is : tries / (system_of split (circuit_of n x)).moves ≡ tries / moves
  place_is = ap (λ (m : ℕ). tries / m) moves-are

  pub move-is : tries % (system_of split (circuit_of n x)).moves ≡ tries % moves
  move-is = ap (λ (m : ℕ). tries % m) moves-are

  pub reached-few : reached ≤ 2 ^ n.L
  reached-few = omega (arith, ways-few r tries ex.ways met marks ex.searched, ex.count)

  pub reached-most : n.L ≤ 20 → reached ≤ 1048576
  reached-most h = omega (arith, reached-few, pow-le-pow_right {n = 2} (omega arith) {i = n.L} {j = 20} h)

  pub never_here : reached ≤ tries / moves → Explored split n x allowance (reach.Never reached tries) met
  never_here h =
      ex.follows ∙ turn-past y (allowance - tries) tries ex.ways (omega (arith, ex.count, place_is))
      ∙ ap (λ (k : ℕ). never k tries) ex.count

  pub out-here : tries / moves < reached → tries ≡ allowance → Explored split n x allowance (reach.Undecided tries) met
  out-here h e =
      let none : allowance - tries ≡ 0 = omega arith in
      ex.follows ∙ ap (λ (a : ℕ). search_from y a tries ex.ways) none ∙ turn-out y 0 tries ex.ways (omega (arith, ex.count, place_is))

  module _ (less : tries < allowance) where
    one_left : allowance - tries ≡ suc (allowance - (tries + 1))
    one_left = omega arith

    module _ (v : Option ℕ) (met' marks' : List ℕ) (t : Turned split n x tries ex.ways v met' marks') where
      pub found_here : v ≡ None → tries / moves < reached → Explored split n x allowance (reach.Shown (tries / moves) (tries % moves) (tries + 1)) met'
      found_here e h =
          let f = subst (λ (w : Option ℕ). Turned split n x tries ex.ways w met' marks') e t in
          let q : tries / y.moves < length ex.ways = omega (arith, ex.count, place_is) in (
            ex.ways,
            f.2,
            omega (arith, ex.count),
            omega (arith, ex.count, reached-few),
            ex.follows ∙ ap (λ (a : ℕ). search_from y a tries ex.ways) one_left
                ∙ turn-shown y (allowance - (tries + 1)) tries ex.ways q f.0 f.1
                ∙ ap₂ (λ (i m : ℕ). happens (onward y (at ex.ways i) m) (tries + 1)) place_is move-is,
          )

      pub left_here : (k : ℕ) → v ≡ Some k → Exploring split n x allowance (tries + 1) k met' marks'
      left_here k e =
          let l : LeftBy split n x tries ex.ways k met' marks' = subst (λ (w : Option ℕ). Turned split n x tries ex.ways w met' marks') e t in
          record {
            ways = l.later;
            count = l.count;
            searched = l.searched;
            follows = ex.follows ∙ ap (λ (a : ℕ). search_from y a tries ex.ways) one_left ∙ l.follows (allowance - (tries + 1));
          }
