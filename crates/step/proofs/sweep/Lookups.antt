-- The words of a table's literals, looked up one by one.
use Prim.Native.Nat.{ℕ, ◌+◌, ◌*◌, ◌%◌, ◌<◌}
use mathlib.Core.Path.{◌≡◌, refl, sym, ap, ap₂, ◌∙◌}
use mathlib.Core.List.{List}
use native.Mathlib.Nat.{mul-suc}
use native.Mathlib.Numerals.{add-one}
use native.Mathlib.Omega.{arith}
use lib.ListN.{get_or, set}
use lib.Bits.{bit_or}
use Rattle.plan.specs.Literals.{var_of, neg_of}
use Rattle.plan.specs.Outcome.{put}
use Rattle.step.proofs.values.Filling.{Filled, map-firsts, filled_more, filled-all, filled-past}
use Rattle.step.specs.sweep.Lookup.{word_at, Inside, Looks, looked}

-- the next literal's place
pub next-at : (stride start i at : ℕ) → at ≡ stride * i + start → at + stride ≡ stride * (i + 1) + start
next-at stride start i at e = rw (add-one, mul-suc) (omega arith)

-- the word of a table's literal i
abbrev pub literal_word : List ℕ → ℕ → ℕ → ℕ → List ℕ → ℕ → ℕ
literal_word table start stride lits t₀ i = word_at lits t₀ (get_or table (stride * i + start) 0)

module _ {table : List ℕ} {start stride n lits first : ℕ} {t₀ : List ℕ} (p : Looks table start stride n lits first t₀) where
  abbrev at : ℕ → ℕ
  at = literal_word table start stride lits t₀

  module _ (i : ℕ) (t : List ℕ) (h : i < n) (f : Filled t₀ first at i t) where
    abbrev l : ℕ
    l = get_or table (stride * i + start) 0

    there : Inside lits t₀ l
    there = p.inside i h

    -- what is read is not yet written over
    unwritten : (k : ℕ) → var_of k ≡ var_of l → get_or t (lits + k) 0 ≡ get_or t₀ (lits + k) 0
    unwritten k e =
        filled-past t₀ first at i (lits + k) t f (omega (arith, there, p.before)) (omega (arith, p.before))

    same_word : word_at lits t l ≡ word_at lits t₀ l
    same_word =
        let half : var_of (neg_of l) ≡ var_of l = omega arith in
        ap₂ (λ (x y : ℕ). bit_or x (y * 2 % 4294967296)) (unwritten (neg_of l) half) (unwritten l refl)

    pub next-looked : (x : ℕ) → x ≡ word_at lits t l → Filled t₀ first at (i + 1) (set t (first + i) x)
    next-looked x e =
        filled_more t₀ first at i t x f (omega (arith, there, p.before)) (e ∙ same_word)

  pub all-looked : (i : ℕ) (t : List ℕ) → Filled t₀ first at i t → i ≡ n → t ≡ put t₀ first (looked table start stride n lits t₀)
  all-looked i t f e =
      filled-all t₀ first at n i t f e
      ∙ ap (put t₀ first) (sym (map-firsts (word_at lits t₀) (λ k. get_or table (stride * k + start) 0) n))
