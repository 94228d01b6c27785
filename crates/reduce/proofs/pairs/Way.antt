-- The way of a search along a pair's path.
use mathlib.Core.Path.{◌≡◌, refl, sym, ap, ap₂, ◌∙◌}
use mathlib.Core.Bool.{Bool, true, false, cond, false≢true}
use mathlib.Core.List.{List}
use Rattle.std.specs.Prelude.{None}
use Prim.Native.Nat.{ℕ, zero, suc, ◌+◌, ◌-◌, ◌/◌, ◌%◌, ◌<◌, ◌≤◌}
use native.Mathlib.Omega.{arith}
use borrow.Author.Tests.{eqb-true}
use lib.Dec.{eqb}
use Rattle.plan.specs.Literals.{lit_of, var_of}
use Rattle.plan.specs.Reduce.{twin}
use Rattle.laws.proofs.Reading.Common.{and_left, and_right}
use Rattle.laws.proofs.Tables.{gate_at}
use Rattle.reduce.specs.declared.pairs.Place.TheVariants.{Taken}
use Rattle.reduce.specs.pairs.Tree.{depth, on, or_first, first_on, node, symbol, slot_of, Good}
use Rattle.reduce.specs.pairs.Pairs.{halves, root_of, path_of, paths, word, named, Tree, Rooted, Hangs, Sought}
use Rattle.reduce.proofs.pairs.Agree.{agreed}
use Rattle.reduce.proofs.pairs.Depth.{depth_pos, First, first_some, node-next, none-on}
use Rattle.reduce.proofs.pairs.Roots.{root-low}
use Rattle.reduce.proofs.pairs.Earliest.{same, earliest, left_of, twin-earliest, earliest-none, earliest-stays}

pub good-path : (w x y : ℕ) → var_of x < w → Good w (path_of w x y)
good-path w x y h = record { root = root-low w x y (omega arith); bits = λ d. omega arith }

path-bit : (w x y d : ℕ) → 0 < d → path_of w x y d ≡ halves y (d - 1) % 2
path-bit w x y zero h = absurd (omega arith)
path-bit w x y (suc d) h = let e : d ≡ suc d - 1 = omega arith in ap (λ (j : ℕ). halves y j % 2) e

half-more : (key d : ℕ) → 0 < d → halves key (d - 1) / 2 ≡ halves key d
half-more key zero h = absurd (omega arith)
half-more key (suc d) h = let e : suc d - 1 ≡ d = omega arith in ap (λ (j : ℕ). halves key j / 2) e

-- the search stands at node k, no gate before which has the pair, with what is left of the key
pub record Way (gates : List ℕ) (w n x y slot key : ℕ) : Type 0 where
  pub k : ℕ
  pub below : k ≤ n
  pub stands : node (paths w gates) (path_of w x y) k ≡ true
  pub at : slot ≡ slot_of w k (symbol (paths w gates) (path_of w x y) k)
  pub key-is : key ≡ halves y (depth (paths w gates) (path_of w x y) k - 1)
  pub absent : earliest gates x y k ≡ 0

module _ {gates scratch : List ℕ} {w n x y : ℕ} (tree : Tree gates scratch w n) (rooted : Rooted w x y) where
  abbrev q : ℕ → ℕ
  q = path_of w x y

  abbrev S : ℕ → ℕ → ℕ
  S = paths w gates

  good : Good w q
  good = good-path w x y rooted.larger

  -- a gate with the pair stands on its path
  off-path : (i : ℕ) → on S q i ≡ false → same gates x y i ≡ false
  off-path i h = go (same gates x y i) refl
    where
      go : (c : Bool) → same gates x y i ≡ c → same gates x y i ≡ false
      go false e = e
      go true e =
          let left = eqb-true (gate_at gates i).rhs0 x (and_left (eqb (gate_at gates i).rhs0 x) (eqb (gate_at gates i).rhs1 y) e) in
          let right = eqb-true (gate_at gates i).rhs1 y (and_right (eqb (gate_at gates i).rhs0 x) (eqb (gate_at gates i).rhs1 y) e) in
          let here : S i ≡ q = ap₂ (λ (a b : ℕ). path_of w a b) left right in
          absurd (false≢true (sym h ∙ agreed (depth S q i) q (S i) (λ d l. sym (ap (λ (s : ℕ → ℕ). s d) here))))

  pub way-start : {slot key : ℕ} → slot ≡ w + root_of w x y → key ≡ y → Way gates w n x y slot key
  way-start e f = record { k = 0; below = omega arith; stands = refl; at = e; key-is = f; absent = refl }

  module _ {slot key : ℕ} (v : Way gates w n x y slot key) where
    leads : word gates scratch w slot ≡ first_on S q v.k n
    leads = ap (word gates scratch w) v.at ∙ tree.grown q good v.k v.below v.stands

    -- no gate is left on the path
    pub way_out : (base : ℕ) → word gates scratch w slot ≡ 0
        → (twin x y (named base gates n) ≡ None) × Hangs gates scratch w n x y slot
    way_out base e =
        let z : first_on S q v.k n ≡ 0 = sym leads ∙ e in
        let no-gate : earliest gates x y n ≡ 0
        = earliest-none gates x y v.k n v.below v.absent (λ j a b. off-path j (none-on S q v.k n j z a b)) in (
          twin-earliest base gates x y n ∙ ap (left_of base) no-gate,
          record { k = v.k; below = v.below; stands = v.stands; at = v.at; free = e },
        )

    -- gate i is the next on the path
    module _ {i : ℕ} (e : word gates scratch w slot ≡ suc i) where
      first : First S q v.k n i
      first = first_some S q v.k n i (sym leads ∙ e)

      absent-before : earliest gates x y i ≡ 0
      absent-before = earliest-none gates x y v.k i first.after v.absent (λ j a b. off-path j (first.before j a b))

      deep : depth S q (suc i) - 1 ≡ depth S q v.k
      deep = omega (arith, node-next S q v.k n i first)

      pub way-low : i < n
      way-low = first.below

      pub way-rises : v.k ≤ i
      way-rises = first.after

      pub way-found : (base : ℕ) → same gates x y i ≡ true → Sought gates scratch base w n x y (Taken (lit_of (base + i)))
      way-found base s =
          twin-earliest base gates x y n ∙ ap (left_of base) (earliest-stays gates x y i n first.below absent-before s)

      pub way_next : same gates x y i ≡ false → Way gates w n x y (slot_of w (suc i) (key % 2)) (key / 2)
      way_next s = record {
        k = suc i;
        below = first.below;
        stands = first.stands;
        at = ap (slot_of w (suc i))
            (ap (λ (j : ℕ). j % 2) v.key-is ∙ sym (path-bit w x y (depth S q v.k) (depth_pos S q v.k)) ∙ ap q (sym deep));
        key-is = ap (λ (j : ℕ). j / 2) v.key-is ∙ half-more y (depth S q v.k) (depth_pos S q v.k)
            ∙ ap (halves y) (sym deep);
        absent = ap₂ (λ (a : ℕ) (c : Bool). or_first a (cond c (suc i) 0)) absent-before s;
      }

  -- the gate that comes next stands after this one
  pub way-after : {slot key i j : ℕ} (v : Way gates w n x y slot key) (e : word gates scratch w slot ≡ suc i) → same gates x y i ≡ false
      → word gates scratch w (slot_of w (suc i) (key % 2)) ≡ suc j → i < j
  unfolding way_next
  way-after v e s z = way-rises (way_next v e s) z

-- the search has come to gate i, by way of a slot that leads to it
pub record Come (gates scratch : List ℕ) (w n x y i key : ℕ) : Type 0 where
  pub slot : ℕ
  pub way : Way gates w n x y slot key
  pub leads : word gates scratch w slot ≡ suc i
