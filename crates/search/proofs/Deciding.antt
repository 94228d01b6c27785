-- Where all states are below a number, an allowance for that many states decides.
use Prim.Native.Nat.{ℕ, zero, suc, ◌+◌, ◌*◌, ◌≤◌, ◌<◌}
use mathlib.Core.Path.{◌≡◌, refl, sym, ap, ◌∙◌}
use mathlib.Core.Bool.{Bool, true, ◌||◌, false≢true}
use mathlib.Core.List.{List, ◌∷◌}
use native.Mathlib.Nat.{mul-le-mul_right, add-zero}
use native.Mathlib.Decide.{dec_le}
use native.Mathlib.Omega.{arith}
use borrow.Author.Tests.{eq-eqb}
use lib.ListN.{length, get_or}
use Rattle.plan.specs.Circuit.{has}
use Rattle.laws.proofs.Reading.Members.{distinct, has-cases, has-later, pigeon}
use Rattle.laws.proofs.Running.Lists.{distinct_cons, absent}
use Rattle.plan.specs.Search.{System, Reached, Found, never, happens, undecided, search_all, up_to}
use Rattle.search.proofs.Answers.{Means, Decided, all-means}

-- numbers in a row, each made into another
module _ (f : ℕ → ℕ) where
  pub up-length : (j n : ℕ) → length (up_to f j n) ≡ n
  up-length j zero = refl
  up-length j (suc n) = ap suc (up-length (suc j) n)

  pub up_at : (n j k : ℕ) → k < n → get_or (up_to f j n) k 0 ≡ f (j + k)
  up_at zero j k h = absurd (omega arith)
  up_at (suc n) j zero h = ap f (sym (add-zero j))
  up_at (suc n) j (suc k) h = let e : suc j + k ≡ j + suc k = omega arith in up_at n (suc j) k (omega arith) ∙ ap f e

  pub up-has : (n j k : ℕ) → j ≤ k → k < j + n → has (f k) (up_to f j n) ≡ true
  up-has zero j k h q = absurd (omega arith)
  up-has (suc n) j k h q = go (λ p. up-has n (suc j) k p (omega arith)) (dec_le (suc j) k)
    where
      go : (suc j ≤ k → has (f k) (up_to f (suc j) n) ≡ true) → Dec (suc j ≤ k) → has (f k) (f j ∷ up_to f (suc j) n) ≡ true
      go again (yes p) = has-later (f k) (f j) (up_to f (suc j) n) (again p)
      go again (no p) =
          let e : j ≡ k = omega arith in
          ap (λ (b : Bool). b || has (f k) (up_to f (suc j) n)) (eq-eqb (f j) (f k) (ap f e))

  pub up-only : (n j s : ℕ) → has s (up_to f j n) ≡ true → (k : ℕ) × (j ≤ k) × (k < j + n) × (f k ≡ s)
  up-only zero j s h = absurd (false≢true h)
  up-only (suc n) j s h =
      has-cases ((k : ℕ) × (j ≤ k) × (k < j + suc n) × (f k ≡ s)) (f j) s (up_to f (suc j) n) h (λ e. (j, omega arith, omega arith, e))
      (λ q. let r = up-only n (suc j) s q in (r.0, omega (arith, r.1), omega (arith, r.2), r.3))

  pub up-distinct : (n j : ℕ) → ((k i : ℕ) → k < j + n → i < j + n → f k ≡ f i → k ≡ i) → distinct (up_to f j n) ≡ true
  up-distinct zero j once = refl
  up-distinct (suc n) j once =
      distinct_cons (f j) (up_to f (suc j) n)
      (absent (has (f j) (up_to f (suc j) n)) (λ h. apart h))
      (up-distinct n (suc j) (λ k i p q e. once k i (omega arith) (omega arith) e))
    where
      apart : has (f j) (up_to f (suc j) n) ≡ true → ⊥
      apart h =
          let r = up-only n (suc j) (f j) h in
          omega (arith, r.1, once r.0 j (omega (arith, r.2)) (omega arith) r.3)

module _ (y : System) (pos : 0 < y.moves) (once : distinct y.starts ≡ true) (n : ℕ) (small : (s : ℕ) → Reached y s → s < n) where
  pub few : (xs : List ℕ) → distinct xs ≡ true → ((s : ℕ) → has s xs ≡ true → Reached y s) → length xs ≤ n
  few xs d h =
      omega (
        arith,
        pigeon xs (up_to (λ k. k) 0 n) d (λ s k. up-has (λ k. k) n 0 s (omega arith) (omega (arith, small s (h s k)))),
        up-length (λ k. k) 0 n,
      )

  pub decides : (a : ℕ) → n * y.moves ≤ a → Decided y (search_all y a)
  decides a h = go (search_all y a) (all-means y pos once a)
    where
      go : (r : Found) → Means y a r → Decided y r
      go (never k t) m = tt
      go (happens w t) m = tt
      go (undecided t) m =
          omega (arith, m.used, m.more, mul-le-mul_right {m = length m.states} {n = n} y.moves (few m.states m.different m.reached))
