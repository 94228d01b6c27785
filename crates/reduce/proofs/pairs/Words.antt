-- What stands at a slot: a word of the scratch, or the first word of a gate's row.
use mathlib.Core.Path.{◌≡◌, refl, sym, ap, ◌∙◌}
use mathlib.Core.Bool.{Bool, cond}
use mathlib.Core.List.{List}
use Prim.Native.Nat.{ℕ, zero, suc, ◌+◌, ◌-◌, ◌*◌, ◌<◌}
use native.Mathlib.Omega.{arith}
use borrow.Author.Tests.{lt-ltb, le-ltb}
use lib.ListN.{get_or, set}
use Rattle.reduce.specs.pairs.Tree.{slot_of}
use Rattle.reduce.specs.pairs.Pairs.{word, gates_hung, scratch_hung}

module _ (gates scratch : List ℕ) (w : ℕ) where
  pub word-scratch : (s : ℕ) → s < 4 * w → word gates scratch w s ≡ get_or scratch s 0
  word-scratch s h = ap (λ (b : Bool). cond b (get_or scratch s 0) (get_or gates (3 * (s - 4 * w)) 0)) (lt-ltb s (4 * w) h)

  pub word_row : (i : ℕ) → word gates scratch w (4 * w + i) ≡ get_or gates (3 * i) 0
  word_row i =
      let e : 4 * w + i - 4 * w ≡ i = omega arith in
      ap (λ (b : Bool). cond b (get_or scratch (4 * w + i) 0) (get_or gates (3 * (4 * w + i - 4 * w)) 0))
      (le-ltb (4 * w + i) (4 * w) (omega arith))
      ∙ ap (λ (j : ℕ). get_or gates (3 * j) 0) e

  -- a link of gate i, by its bit
  pub word-link : (i c : ℕ) → i < w → (value : ℕ) → (c ≡ 0 → value ≡ get_or gates (3 * i) 0)
      → ((c ≡ 0 → ⊥) → value ≡ get_or scratch (3 * w + i) 0) → value ≡ word gates scratch w (slot_of w (suc i) c)
  word-link i zero h value f g = f refl ∙ sym (word_row i)
  word-link i (suc c) h value f g = g (λ e. omega arith) ∙ sym (word-scratch (3 * w + i) (omega arith))

-- what leads to gate n: a word of the scratch, or the first word of a row
module _ (gates scratch : List ℕ) (w n : ℕ) where
  pub led-scratch : (s : ℕ) → s < 4 * w → (gates ≡ gates_hung gates w s n) × (set scratch s (n + 1) ≡ scratch_hung scratch w s n)
  led-scratch s h =
      let e = lt-ltb s (4 * w) h in (
        sym (ap (λ (b : Bool). cond b gates (set gates (3 * (s - 4 * w)) (n + 1))) e),
        sym (ap (λ (b : Bool). cond b (set scratch s (n + 1)) scratch) e),
      )

  led-row : (i : ℕ) → (set gates (3 * i) (n + 1) ≡ gates_hung gates w (4 * w + i) n) × (scratch ≡ scratch_hung scratch w (4 * w + i) n)
  led-row i =
      let e = le-ltb (4 * w + i) (4 * w) (omega arith) in
      let z : i ≡ 4 * w + i - 4 * w = omega arith in (
        ap (λ (j : ℕ). set gates (3 * j) (n + 1)) z
            ∙ sym (ap (λ (b : Bool). cond b gates (set gates (3 * (4 * w + i - 4 * w)) (n + 1))) e),
        sym (ap (λ (b : Bool). cond b (set scratch (4 * w + i) (n + 1)) scratch) e),
      )

  -- gate i's link, by its bit
  abbrev Led : List ℕ → List ℕ → ℕ → Type 0
  Led g s slot = (g ≡ gates_hung gates w slot n) × (s ≡ scratch_hung scratch w slot n)

  pub led-zero : (i c : ℕ) → c ≡ 0 → Led (set gates (3 * i) (n + 1)) scratch (slot_of w (suc i) c)
  led-zero i zero e = led-row i
  led-zero i (suc c) e = absurd (omega arith)

  pub led-one : (i c : ℕ) → i < w → (c ≡ 0 → ⊥) → Led gates (set scratch (3 * w + i) (n + 1)) (slot_of w (suc i) c)
  led-one i zero h d = absurd (d refl)
  led-one i (suc c) h d = led-scratch (3 * w + i) (omega arith)
