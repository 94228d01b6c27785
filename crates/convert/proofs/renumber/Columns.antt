-- The loop that writes one word for each row: one word more.
use Prim.Native.Nat.{ℕ, ◌+◌, ◌<◌, ◌≤◌}
use mathlib.Core.Path.{◌≡◌, sym, ap, ap₂, ◌∙◌}
use mathlib.Core.List.{List, [], ◌∷◌, ◌++◌}
use native.Mathlib.Omega.{arith}
use native.Mathlib.Numerals.{add-one}
use lib.ListN.{length, set, length-append, length-set}
use Rattle.plan.specs.Outcome.{put}
use Rattle.laws.proofs.Put.{put_one, put-put}
use Rattle.laws.proofs.Tables.{firsts, length-firsts}

module _ (at : ℕ → ℕ) (n : ℕ) (to₀ : List ℕ) where
  -- the words of i rows are written
  pub record Written (to : List ℕ) (i : ℕ) : Type 0 where
    pub bound : i ≤ n
    pub whole : to ≡ put to₀ 0 (firsts at i)
    pub same : length to ≡ length to₀

  pub one_written : n ≤ length to₀ → (to : List ℕ) (i : ℕ) → Written to i → i < n → (x : ℕ) → x ≡ at i → Written (set to i x) (i + 1)
  one_written room to i s h x e =
      let before : List ℕ = firsts at i in
      let size : length before ≡ i = length-firsts at i in
      let both : length (before ++ (at i ∷ [])) ≡ length before + 1 = length-append before (at i ∷ []) in
      let start : i ≡ 0 + length before = omega arith in
      let fits : 0 + length (before ++ (at i ∷ [])) ≤ length to₀ = omega arith in
      record {
        bound = omega arith;
        whole =
            put_one to i x (omega (arith, s.same))
            ∙ (ap₂ (λ (l : List ℕ) (w : ℕ). put l i (w ∷ [])) s.whole e
            ∙ (ap (λ (k : ℕ). put (put to₀ 0 before) k (at i ∷ [])) start
            ∙ (put-put to₀ 0 before (at i ∷ []) fits ∙ ap (λ (k : ℕ). put to₀ 0 (firsts at k)) (sym (add-one i)))));
        same = length-set to i x ∙ s.same;
      }
