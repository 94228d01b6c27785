-- The loop that spreads next states to latches, from the last one down: below the latches made so far nothing has changed.
use Prim.Native.Nat.{ℕ, suc, ◌+◌, ◌*◌, ◌-◌, ◌<◌, ◌≤◌}
use mathlib.Core.Path.{◌≡◌, refl, sym, ap, ap₂, ◌∙◌}
use mathlib.Core.List.{List, [], ◌∷◌, ◌++◌, map}
use native.Mathlib.Omega.{arith}
use lib.ListN.{length, get_or, take, drop, set, length-set, length-drop}
use lib.Seq.{length-take-le, drop-cons, get_or-take, take_at}
use Rattle.plan.specs.Literals.{lit_of}
use Rattle.plan.specs.Circuit.{flat, latch_line}
use Rattle.plan.specs.Binary.{latches_from}
use Rattle.plan.specs.Outcome.{put}
use Rattle.laws.proofs.Put.{put-before, put_first, put-over}

-- the words of latches of variables from v on
abbrev pub words_from : ℕ → List ℕ → List ℕ
words_from v ls = flat (map latch_line (latches_from v ls))

words-length : (v : ℕ) (ls : List ℕ) → length (words_from v ls) ≡ 2 * length ls
words-length v [] = refl
words-length v (l ∷ ls) = let h = words-length (suc v) ls in omega arith

-- what stands before the place where words are put
get_d-put : (t : List ℕ) (at j : ℕ) (w : List ℕ) → j < at → at ≤ length t → get_or (put t at w) j 0 ≡ get_or t j 0
get_d-put t at j w h k =
    sym (get_or-take at (put t at w) j 0 h)
    ∙ (ap (λ (l : List ℕ). get_or l j 0) (take_at (take at t) (w ++ drop (at + length w) t) at (length-take-le at t k)) ∙ get_or-take at t j 0 h)

-- latches from the i-th on are made
pub record Spread (first n : ℕ) (table₀ table : List ℕ) (i : ℕ) : Type 0 where
  pub table_is : table ≡ put table₀ (2 * i) (words_from (first + i) (drop i (take n table₀)))
  pub same : length table ≡ length table₀

module _ (first n : ℕ) (table₀ : List ℕ) (room : 2 * n ≤ length table₀) where
  few : length (take n table₀) ≡ n
  few = length-take-le n table₀ (omega arith)

  module _ (table : List ℕ) (i : ℕ) (s : Spread first n table₀ table i) (b : i ≤ n) (h : 0 < i) where
    -- the next state is still there
    pub next-is : get_or table (i - 1) 0 ≡ get_or table₀ (i - 1) 0
    next-is =
        let w : List ℕ = words_from (first + i) (drop i (take n table₀)) in
        ap (λ (l : List ℕ). get_or l (i - 1) 0) s.table_is ∙ get_d-put table₀ (2 * i) (i - 1) w (omega arith) (omega arith)

    pub one-spread : (l : ℕ) → l ≡ lit_of (first + (i - 1))
        → Spread first n table₀ (set (set table (2 * (i - 1) + 1) (get_or table (i - 1) 0)) (2 * (i - 1)) l) (i - 1)
    one-spread l l-is =
        let j : ℕ = i - 1 in
        let ls : List ℕ = drop i (take n table₀) in
        let w : List ℕ = words_from (first + i) ls in
        let x : ℕ = get_or table₀ j 0 in
        let i-is : i ≡ suc j = omega arith in
        let v-is : first + i ≡ suc (first + j) = omega arith in
        let k-is : 2 * i ≡ 2 * j + 1 + 1 = omega arith in
        let size : length w ≡ 2 * (n - i)
        = words-length (first + i) ls ∙ ap (λ (k : ℕ). 2 * k) (length-drop i (take n table₀) ∙ ap (λ (k : ℕ). k - i) few) in
        let in₁ : 2 * j + 1 + 1 + length w ≤ length table₀ = omega arith in
        let in₀ : 2 * j + 1 + length (x ∷ w) ≤ length table₀ = omega arith in
        let there : drop j (take n table₀) ≡ x ∷ ls
        = drop-cons (take n table₀) j 0 (omega (arith, few))
        ∙ ap₂ (λ (y : ℕ) (k : ℕ). y ∷ drop k (take n table₀)) (get_or-take n table₀ j 0 (omega arith)) (sym i-is) in
        let words : words_from (first + j) (drop j (take n table₀)) ≡ lit_of (first + j) ∷ x ∷ w
        = ap (words_from (first + j)) there ∙ ap (λ (v : ℕ). lit_of (first + j) ∷ x ∷ words_from v ls) (sym v-is) in
        record {
          table_is =
              ap₂ (λ (t : List ℕ) (y : ℕ). set (set t (2 * j + 1) y) (2 * j) l) (s.table_is ∙ ap (λ (k : ℕ). put table₀ k w) k-is) next-is
              ∙ (ap (λ (t : List ℕ). set t (2 * j) l) (put-before table₀ (2 * j + 1) x w in₁)
              ∙ (put-before table₀ (2 * j) l (x ∷ w) in₀
              ∙ (ap (λ (y : ℕ). put table₀ (2 * j) (y ∷ x ∷ w)) l-is ∙ ap (put table₀ (2 * j)) (sym words))));
          same = simp length-set s.same;
        }

-- next states that were put there and then spread are the latches
pub spread-held : (v k : ℕ) (ls t t₁ t₂ : List ℕ) → length ls ≡ k → t₁ ≡ put t 0 ls → t₂ ≡ put t₁ 0 (words_from v (take k t₁))
    → t₂ ≡ put t 0 (words_from v ls)
spread-held v k ls t t₁ t₂ n there spread =
    let first : take k t₁ ≡ ls = ap₂ (λ (j : ℕ) (l : List ℕ). take j l) (sym n) there ∙ put_first t ls in
    spread ∙ (ap₂ (λ (x y : List ℕ). put x 0 (words_from v y)) there first
    ∙ put-over t 0 ls (words_from v ls) (omega arith) (omega (arith, words-length v ls)))
