-- A table whose literals are replaced one after the other.
use Prim.Native.Nat.{ℕ, zero, suc, ◌+◌, ◌<◌, ◌≤◌}
use mathlib.Core.Path.{◌≡◌, sym, ap, ◌∙◌}
use mathlib.Core.List.{List, [], ◌∷◌, ◌++◌, map, map-append}
use native.Mathlib.Omega.{arith}
use native.Mathlib.Numerals.{add-one}
use lib.ListN.{length, get_or, set, take, length-append, length-map}
use lib.Seq.{take-suc, length-take-le}
use Rattle.plan.specs.Literals.{var_of}
use Rattle.plan.specs.Reduce.{becomes}
use Rattle.plan.specs.Outcome.{put}
use Rattle.laws.proofs.Put.{put_one, put-put, put-length, put-none}
use Rattle.laws.proofs.Running.Binary.{Bounded}

-- a literal of a bounded table
pub bounded_at : (k : ℕ) (ls : List ℕ) → Bounded k ls → (i : ℕ) → i < length ls → var_of (get_or ls i 0) < k
bounded_at k [] b i h = absurd (omega arith)
bounded_at k (l ∷ ls) b zero h = b.0
bounded_at k (l ∷ ls) b (suc i) h = bounded_at k ls b.1 i (omega arith)

module _ (table became to₀ : List ℕ) where
  -- the first i are done
  abbrev pub done : ℕ → List ℕ
  done i = put to₀ 0 (map (becomes became) (take i table))

  size : (i : ℕ) → i ≤ length table → length (map (becomes became) (take i table)) ≡ i
  size i h = length-map (take i table) (becomes became) ∙ length-take-le i table h

  pub none_done : to₀ ≡ done 0
  none_done = sym (put-none to₀ 0)

  pub one_more : (i : ℕ) → i < length table → i < length to₀ → set (done i) i (becomes became (get_or table i 0)) ≡ done (i + 1)
  one_more i h k =
      let x = map (becomes became) (take i table) in
      let y = becomes became (get_or table i 0) in
      let long : length (map (becomes became) (take i table)) ≡ i = size i (omega arith) in
      let room : 0 + length (x ++ (y ∷ [])) ≤ length to₀ = omega (arith, length-append x (y ∷ [])) in
      let at : 0 + length x ≡ i = omega arith in
      put_one (done i) i y (omega (arith, put-length to₀ 0 x (omega arith)))
      ∙ ap (λ (j : ℕ). put (put to₀ 0 x) j (y ∷ [])) (sym at) ∙ put-put to₀ 0 x (y ∷ []) room
      ∙ ap (put to₀ 0) (sym (map-append (becomes became) (take i table) (get_or table i 0 ∷ [])))
      ∙ ap (λ (l : List ℕ). put to₀ 0 (map (becomes became) l)) (sym (take-suc table i 0 h))
      ∙ ap (λ (j : ℕ). put to₀ 0 (map (becomes became) (take j table))) (sym (add-one i))
