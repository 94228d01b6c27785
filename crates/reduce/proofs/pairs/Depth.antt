-- How far gates lead along a path, and the first gate from a node on.
use mathlib.Core.Path.{◌≡◌, refl, sym, ap, ap₂, ◌∙◌, subst}
use mathlib.Core.Bool.{Bool, true, false, ◌&&◌, cond, false≢true}
use Prim.Native.Nat.{ℕ, zero, suc, ◌<◌, ◌≤◌}
use native.Mathlib.Omega.{arith}
use native.Mathlib.Nat.{not-suc-le-zero}
use borrow.Author.Tests.{eqb-true, eqb-false, leb-true, le-leb, lt-leb}
use lib.Dec.{eqb, leb}
use Rattle.reduce.specs.pairs.Tree.{agree, depth, on, or_first, first_on, node}
use Rattle.reduce.proofs.pairs.Agree.{Agree, agree_left}

first-zero : (f n : ℕ) (b : Bool) → or_first f (cond b (suc n) 0) ≡ 0 → (f ≡ 0) × (b ≡ false)
first-zero zero n true e = absurd (omega arith)
first-zero zero n false e = (refl, refl)
first-zero (suc f) n b e = absurd (omega arith)

true-and : (a b : Bool) → a ≡ true → (a && b) ≡ false → b ≡ false
true-and true b e h = h
true-and false b e h = absurd (false≢true e)

module _ (S : ℕ → ℕ → ℕ) where
  pub depth-on : (q : ℕ → ℕ) (k : ℕ) → on S q k ≡ true → depth S q (suc k) ≡ suc (depth S q k)
  depth-on q k h = ap (λ (b : Bool). cond b (suc (depth S q k)) (depth S q k)) h

  pub depth-off : (q : ℕ → ℕ) (k : ℕ) → on S q k ≡ false → depth S q (suc k) ≡ depth S q k
  depth-off q k h = ap (λ (b : Bool). cond b (suc (depth S q k)) (depth S q k)) h

  pub depth-step : (q : ℕ → ℕ) (k : ℕ) → depth S q k ≤ depth S q (suc k)
  depth-step q k = go (on S q k)
    where
      go : (b : Bool) → depth S q k ≤ cond b (suc (depth S q k)) (depth S q k)
      go true = omega arith
      go false = omega arith

  pub depth-up : (q : ℕ → ℕ) (k n : ℕ) → k ≤ n → depth S q k ≤ depth S q n
  depth-up q k zero h = let e : k ≡ 0 = omega arith in subst (λ (j : ℕ). depth S q j ≤ 1) (sym e) (omega arith)
  depth-up q k (suc n) h = go (eqb k (suc n)) refl (λ l. depth-up q k n l)
    where
      go : (b : Bool) → eqb k (suc n) ≡ b → (k ≤ n → depth S q k ≤ depth S q n) → depth S q k ≤ depth S q (suc n)
      go true e ih = subst (λ (j : ℕ). depth S q k ≤ depth S q j) (eqb-true k (suc n) e) (omega arith)
      go false e ih = omega (arith, ih (omega (arith, eqb-false k (suc n) e)), depth-step q n)

  pub depth_pos : (q : ℕ → ℕ) (k : ℕ) → 0 < depth S q k
  depth_pos q k = omega (arith, depth-up q 0 k (omega arith))

  pub depth_same : (q p : ℕ → ℕ) (k : ℕ) → Agree (depth S q k) q p → depth S q k ≡ depth S p k
  depth_same q p zero h = refl
  depth_same q p (suc k) h =
      let l = depth-step q k in
      let r : Agree (depth S q k) q p = λ e m. h e (omega (arith, m, l)) in
      let ih = depth_same q p k r in
      ap₂ (λ (b : Bool) (d : ℕ). cond b (suc d) d) (agree_left (depth S q k) q p (S k) r ∙ ap (λ (d : ℕ). agree d p (S k)) ih) ih

  pub on_same : (q p : ℕ → ℕ) (k : ℕ) → Agree (depth S q k) q p → on S q k ≡ on S p k
  on_same q p k h = agree_left (depth S q k) q p (S k) h ∙ ap (λ (d : ℕ). agree d p (S k)) (depth_same q p k h)

  pub node-depth : (q : ℕ → ℕ) (k j : ℕ) → k < j → node S q j ≡ true → depth S q k < depth S q j
  node-depth q k zero h d = absurd (not-suc-le-zero h)
  node-depth q k (suc i) h d = omega (arith, depth-on q i d, depth-up q k i (omega arith))

  pub still : (q : ℕ → ℕ) (k n : ℕ) → k ≤ n → first_on S q k n ≡ 0 → depth S q n ≡ depth S q k
  still q k zero h e = let z : 0 ≡ k = omega arith in ap (depth S q) z
  still q k (suc n) h e = go (eqb (suc n) k) refl (λ l z. still q k n l z)
    where
      z : (first_on S q k n ≡ 0) × ((leb k n && on S q n) ≡ false)
      z = first-zero (first_on S q k n) n (leb k n && on S q n) e

      go : (b : Bool) → eqb (suc n) k ≡ b → (k ≤ n → first_on S q k n ≡ 0 → depth S q n ≡ depth S q k) → depth S q (suc n) ≡ depth S q k
      go true c ih = ap (depth S q) (eqb-true (suc n) k c)
      go false c ih =
          let l : k ≤ n = omega (arith, eqb-false (suc n) k c) in
          depth-off q n (true-and (leb k n) (on S q n) (le-leb k n l) z.1) ∙ ih l z.0

  pub none-on : (q : ℕ → ℕ) (k n i : ℕ) → first_on S q k n ≡ 0 → k ≤ i → i < n → on S q i ≡ false
  none-on q k zero i e h l = absurd (not-suc-le-zero l)
  none-on q k (suc n) i e h l = go (eqb n i) refl (λ z m. none-on q k n i z h m)
    where
      z : (first_on S q k n ≡ 0) × ((leb k n && on S q n) ≡ false)
      z = first-zero (first_on S q k n) n (leb k n && on S q n) e

      go : (b : Bool) → eqb n i ≡ b → (first_on S q k n ≡ 0 → i < n → on S q i ≡ false) → on S q i ≡ false
      go true c ih =
          subst (λ (j : ℕ). on S q j ≡ false) (eqb-true n i c)
          (true-and (leb k n) (on S q n) (le-leb k n (omega (arith, eqb-true n i c))) z.1)
      go false c ih = ih z.0 (omega (arith, eqb-false n i c))

  pub first-none : (q : ℕ → ℕ) (k n : ℕ) → n ≤ k → first_on S q k n ≡ 0
  first-none q k zero h = refl
  first-none q k (suc n) h =
      ap₂ (λ (f : ℕ) (b : Bool). or_first f (cond (b && on S q n) (suc n) 0)) (first-none q k n (omega arith)) (lt-leb k n h)

  pub record First (q : ℕ → ℕ) (k n j : ℕ) : Type 0 where
    pub below : j < n
    pub after : k ≤ j
    pub stands : on S q j ≡ true
    pub level : depth S q j ≡ depth S q k
    pub before : (i : ℕ) → k ≤ i → i < j → on S q i ≡ false

  pub first_some : (q : ℕ → ℕ) (k n j : ℕ) → first_on S q k n ≡ suc j → First q k n j
  first_some q k zero j e = absurd (omega arith)
  first_some q k (suc n) j e = go (first_on S q k n) refl (leb k n) refl (on S q n) refl e (first_some q k n j)
    where
      go : (f : ℕ) → first_on S q k n ≡ f → (l : Bool) → leb k n ≡ l → (b : Bool) → on S q n ≡ b
          → or_first f (cond (l && b) (suc n) 0) ≡ suc j → (first_on S q k n ≡ suc j → First q k n j) → First q k (suc n) j
      go zero ef true el true eb h ih =
          let is : n ≡ j = omega arith in
          let l : k ≤ n = leb-true k n el in
          subst (λ (v : ℕ). First q k (suc n) v) is (record {
            below = omega arith;
            after = l;
            stands = eb;
            level = still q k n l ef;
            before = λ i a c. none-on q k n i ef a c;
          })
      go zero ef true el false eb h ih = absurd (omega arith)
      go zero ef false el b eb h ih = absurd (omega arith)
      go (suc f) ef l el b eb h ih =
          let r = ih (ef ∙ h) in
          record { below = omega (arith, r.below); after = r.after; stands = r.stands; level = r.level; before = r.before }

  pub node-next : (q : ℕ → ℕ) (k n j : ℕ) → First q k n j → depth S q (suc j) ≡ suc (depth S q k)
  node-next q k n j f = depth-on q j f.stands ∙ ap suc f.level
