-- What a search answers is fixed: the tree has one place for a pair, and that is one slot.
use mathlib.Core.Path.{◌≡◌, refl, sym, ap, ap₂, ◌∙◌}
use mathlib.Core.Bool.{Bool, true, false}
use mathlib.Core.List.{List}
use Rattle.std.specs.Prelude.{Option, Some, None}
use Prim.Native.Nat.{ℕ, ◌≤◌}
use native.Mathlib.Omega.{arith}
use borrow.Author.Tests.{leb-true, leb-false}
use lib.Dec.{leb}
use Rattle.reduce.specs.declared.pairs.Slot.{Slot}
use Rattle.reduce.specs.declared.pairs.Slot.TheVariants.{Root, Under}
use Rattle.reduce.specs.declared.pairs.Place.{Place}
use Rattle.reduce.specs.declared.pairs.Place.TheVariants.{Taken, Free}
use Rattle.reduce.specs.pairs.Tree.{depth, first_on, symbol, slot_of}
use Rattle.reduce.specs.pairs.Pairs.{path_of, paths, word, number_of, Within, Tree, Rooted, Hangs, Sought}
use Rattle.reduce.proofs.pairs.Depth.{still, node-depth}
use Rattle.reduce.proofs.pairs.Slots.{link-high, link-inj}
use Rattle.reduce.proofs.pairs.Way.{good-path}

-- a number has one slot
slot-once : (w n : ℕ) → n ≤ w → (s t : Slot) → Within w n s → Within w n t → number_of w s ≡ number_of w t → s ≡ t
slot-once w n few (Root a) (Root b) h k e = ap Root e
slot-once w n few (Root a) (Under j d) h k e = absurd (omega (arith, h, e, link-high w j d))
slot-once w n few (Under i c) (Root b) h k e = absurd (omega (arith, k, e, link-high w i c))
slot-once w n few (Under i c) (Under j d) h k e =
    let is = link-inj w i j c d (omega (arith, h.0)) (omega (arith, k.0)) h.1 k.1 e in ap₂ Under is.0 is.1

some-none : {l : ℕ} {o : Option ℕ} → o ≡ Some l → o ≡ None → ⊥
some-none {l} e f =
    let s : ◌≡◌ {A = Option ℕ} (Some l) None = sym e ∙ f in
    let z : ◌≡◌ {A = ℕ} 0 1 = cc in
    omega arith

module _ {gates scratch : List ℕ} {w n x y : ℕ} (tree : Tree gates scratch w n) (rooted : Rooted w x y) (few : n ≤ w) where
  abbrev q : ℕ → ℕ
  q = path_of w x y

  abbrev S : ℕ → ℕ → ℕ
  S = paths w gates

  -- the node at which a gate is to hang is the last on the path
  level : {slot : ℕ} (h : Hangs gates scratch w n x y slot) → depth S q n ≡ depth S q h.k
  level h =
      let ends : first_on S q h.k n ≡ 0
      = sym (tree.grown q (good-path w x y rooted.larger) h.k h.below h.stands) ∙ ap (word gates scratch w) (sym h.at)
      ∙ h.free in
      still S q h.k n h.below ends

  hangs-once : {s t : ℕ} → Hangs gates scratch w n x y s → Hangs gates scratch w n x y t → s ≡ t
  hangs-once g h = g.at ∙ ap (λ (k : ℕ). slot_of w k (symbol S q k)) (go (leb g.k h.k) refl (leb h.k g.k) refl) ∙ sym h.at
    where
      go : (b : Bool) → leb g.k h.k ≡ b → (c : Bool) → leb h.k g.k ≡ c → g.k ≡ h.k
      go true e true f = omega (arith, leb-true g.k h.k e, leb-true h.k g.k f)
      go true e false f = absurd (omega (arith, level g, level h, node-depth S q g.k h.k (leb-false h.k g.k f) h.stands))
      go false e c f = absurd (omega (arith, level g, level h, node-depth S q h.k g.k (leb-false g.k h.k e) g.stands))

  pub sought-once : (base : ℕ) (p r : Place) → Sought gates scratch base w n x y p → Sought gates scratch base w n x y r → p ≡ r
  sought-once base (Taken l) (Taken m) f g = ap Taken (inner (sym f ∙ g))
    where
      inner : {l m : ℕ} → ◌≡◌ {A = Option ℕ} (Some l) (Some m) → l ≡ m
      inner e = cc
  sought-once base (Taken l) (Free t) f g = absurd (some-none f g.0)
  sought-once base (Free s) (Taken m) f g = absurd (some-none g f.0)
  sought-once base (Free s) (Free t) f g = ap Free (slot-once w n few s t f.1.0 g.1.0 (hangs-once f.1.1 g.1.1))
