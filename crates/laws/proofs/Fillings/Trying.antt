-- Trying from 0 up: what each answer says, and that a larger allowance changes neither a yes nor a no.
use Prim.Native.Nat.{ℕ, zero, suc, ◌+◌, ◌≤◌, ◌<◌, min}
use mathlib.Core.Path.{◌≡◌, refl, sym, ap, ◌∙◌, subst}
use mathlib.Core.Bool.{Bool, true, false, cond, false≢true}
use Rattle.std.specs.Prelude.{Err, Option, Some, None}
use native.Mathlib.Nat.{min-eq_left, min-eq_right}
use native.Mathlib.Decide.{dec_le}
use native.Mathlib.Omega.{arith}
use borrow.Author.Tests.{leb-true, leb-false, le-leb, lt-leb}
use lib.Dec.{leb}
use Rattle.plan.specs.declared.Finding.{Finding}
use Rattle.plan.specs.declared.Finding.TheVariants.{Yes, No, Undecided}
use Rattle.plan.specs.Fillings.{first_failing, finding_of, try_all}
use Rattle.laws.specs.Fillings.Reaching.{Reaches}

module _ (shows : ℕ → Bool) where
  -- the first that fails, and those before it
  pub record Fails (k n j : ℕ) : Type 0 where
    pub from : k ≤ j
    pub within : j < k + n
    pub fails : shows j ≡ false
    pub before : (i : ℕ) → k ≤ i → i < j → shows i ≡ true

  abbrev pub Tells : ℕ → ℕ → Option ℕ → Type 0
  Tells k n None = (i : ℕ) → k ≤ i → i < k + n → shows i ≡ true
  Tells k n (Some j) = Fails k n j

  -- one number more at the start
  fails-later : (k n j : ℕ) → shows k ≡ true → Fails (suc k) n j → Fails k (suc n) j
  fails-later k n j e f = record {
    from = omega (arith, f.from);
    within = omega (arith, f.within);
    fails = f.fails;
    before = λ i h q. here i h q (dec_le (suc k) i);
  }
    where
      here : (i : ℕ) → k ≤ i → i < j → Dec (suc k ≤ i) → shows i ≡ true
      here i h q (yes p) = f.before i p q
      here i h q (no p) = let same : k ≡ i = omega arith in ap shows (sym same) ∙ e

  all-later : (k n : ℕ) → shows k ≡ true → Tells (suc k) n None → Tells k (suc n) None
  all-later k n e f i h q = here (dec_le (suc k) i)
    where
      here : Dec (suc k ≤ i) → shows i ≡ true
      here (yes p) = f i p (omega arith)
      here (no p) = let same : k ≡ i = omega arith in ap shows (sym same) ∙ e

  pub first-tells : (k n : ℕ) → Tells k n (first_failing shows k n)
  first-tells k zero = λ i h q. absurd (omega arith)
  first-tells k (suc n) = go (shows k) refl (first_failing shows (suc k) n) (first-tells (suc k) n)
    where
      go : (t : Bool) → shows k ≡ t → (o : Option ℕ) → Tells (suc k) n o → Tells k (suc n) (cond t o (Some k))
      go true e None f = all-later k n e f
      go true e (Some j) f = fails-later k n j e f
      go false e o f = record { from = omega arith; within = omega arith; fails = e; before = λ i h q. absurd (omega arith) }

  -- and back: each of the two is told of one answer alone
  some-apart : (k n j : ℕ) → Fails k n j → Tells k n None → ⊥
  some-apart k n j f a = false≢true (sym f.fails ∙ a j f.from f.within)

  pub none_told : (k n : ℕ) → Tells k n None → first_failing shows k n ≡ None
  none_told k n a = go (first_failing shows k n) (first-tells k n)
    where
      go : (o : Option ℕ) → Tells k n o → o ≡ None
      go None f = refl
      go (Some j) f = absurd (some-apart k n j f a)

  pub some-told : (k n j : ℕ) → Fails k n j → first_failing shows k n ≡ Some j
  some-told k n j f = go (first_failing shows k n) (first-tells k n)
    where
      go : (o : Option ℕ) → Tells k n o → o ≡ Some j
      go None a = absurd (some-apart k n j f a)
      go (Some i) g = ap Some (same (dec_le i j) (dec_le j i))
        where
          same : Dec (i ≤ j) → Dec (j ≤ i) → i ≡ j
          same (yes p) (yes q) = omega arith
          same (no p) q = absurd (false≢true (sym f.fails ∙ g.before j f.from (omega arith)))
          same (yes p) (no q) = absurd (false≢true (sym g.fails ∙ f.before i g.from (omega arith)))

  -- what each answer says
  pub record AllShow (total allowance tried : ℕ) : Type 0 where
    pub all : tried ≡ total
    pub allowed : total ≤ allowance
    pub every : (i : ℕ) → i < total → shows i ≡ true

  pub record OneFails (total allowance tried : ℕ) : Type 0 where
    pub failing : ℕ
    pub counted : tried ≡ failing + 1
    pub in-total : failing < total
    pub allowed : tried ≤ allowance
    pub fails : shows failing ≡ false
    pub before : (i : ℕ) → i < failing → shows i ≡ true

  pub record Cut (total allowance tried : ℕ) : Type 0 where
    pub all : tried ≡ allowance
    pub fewer : allowance < total
    pub every : (i : ℕ) → i < allowance → shows i ≡ true

  abbrev pub Means : ℕ → ℕ → Finding → Type 0
  Means total allowance (Yes tried) = AllShow total allowance tried
  Means total allowance (No tried) = OneFails total allowance tried
  Means total allowance (Undecided tried) = Cut total allowance tried

  pub try-means : (total allowance : ℕ) → Means total allowance (try_all shows total allowance)
  try-means total allowance = go (first_failing shows 0 n) (first-tells 0 n)
    where
      n : ℕ
      n = min total allowance

      decided : (t : Bool) → leb total allowance ≡ t → Tells 0 n None → Means total allowance (cond t (Yes total) (Undecided allowance))
      decided true e a = record {
        all = refl;
        allowed = leb-true total allowance e;
        every = λ i h. a i (omega arith) (omega (arith, min-eq_left (leb-true total allowance e)));
      }
      decided false e a = record {
        all = refl;
        fewer = leb-false total allowance e;
        every = λ i h. let le : allowance ≤ total = omega (arith, leb-false total allowance e) in a i (omega arith) (omega (arith, min-eq_right le));
      }

      go : (o : Option ℕ) → Tells 0 n o → Means total allowance (finding_of o total allowance)
      go None a = decided (leb total allowance) refl a
      go (Some j) f = record {
        failing = j;
        counted = refl;
        in-total = omega (arith, f.within);
        allowed = omega (arith, f.within);
        fails = f.fails;
        before = λ i h. f.before i (omega arith) h;
      }

  -- and back
  pub yes-told : (total allowance : ℕ) → total ≤ allowance → ((i : ℕ) → i < total → shows i ≡ true)
      → try_all shows total allowance ≡ Yes total
  yes-told total allowance h every =
      ap (λ (o : Option ℕ). finding_of o total allowance)
      (ap (first_failing shows 0) (min-eq_left h) ∙ none_told 0 total (λ i p q. every i (omega arith)))
      ∙ ap (λ (t : Bool). cond t (Yes total) (Undecided allowance)) (le-leb total allowance h)

  pub no-told : (total allowance j : ℕ) → j < total → j < allowance → shows j ≡ false → ((i : ℕ) → i < j → shows i ≡ true)
      → try_all shows total allowance ≡ No (j + 1)
  no-told total allowance j h k e before =
      ap (λ (o : Option ℕ). finding_of o total allowance)
      (some-told 0 (min total allowance) j
      (record { from = omega arith; within = omega arith; fails = e; before = λ i p q. before i q }))

  pub cut-told : (total allowance : ℕ) → allowance < total → ((i : ℕ) → i < allowance → shows i ≡ true)
      → try_all shows total allowance ≡ Undecided allowance
  cut-told total allowance h every =
      let le : allowance ≤ total = omega arith in
      ap (λ (o : Option ℕ). finding_of o total allowance)
      (ap (first_failing shows 0) (min-eq_right le) ∙ none_told 0 allowance (λ i p q. every i (omega arith)))
      ∙ ap (λ (t : Bool). cond t (Yes total) (Undecided allowance)) (lt-leb total allowance h)

  -- from how far trying reaches
  module _ (total allowance : ℕ) {r : ℕ} (e : Reaches shows (min total allowance) r) where
    pub reached-no : r < min total allowance → try_all shows total allowance ≡ No (r + 1)
    reached-no h = no-told total allowance r (omega arith) (omega arith) (e.fails h) e.before

    pub reached-yes : min total allowance ≤ r → total ≤ allowance → try_all shows total allowance ≡ Yes total
    reached-yes h k = yes-told total allowance k (λ i q. e.before i (omega (arith, min-eq_left k)))

    pub reached-cut : min total allowance ≤ r → allowance < total → try_all shows total allowance ≡ Undecided allowance
    reached-cut h k =
        let le : allowance ≤ total = omega arith in
        cut-told total allowance k (λ i q. e.before i (omega (arith, min-eq_right le)))

  -- a larger allowance never changes a yes or a no
  pub yes-stays : (total a b tried : ℕ) → a ≤ b → try_all shows total a ≡ Yes tried → try_all shows total b ≡ Yes tried
  yes-stays total a b tried h e =
      let y : AllShow total a tried = subst (Means total a) e (try-means total a) in
      yes-told total b (omega (arith, y.allowed)) y.every ∙ ap Yes (sym y.all)

  pub no-stays : (total a b tried : ℕ) → a ≤ b → try_all shows total a ≡ No tried → try_all shows total b ≡ No tried
  no-stays total a b tried h e =
      let y : OneFails total a tried = subst (Means total a) e (try-means total a) in
      no-told total b y.failing y.in-total (omega (arith, y.counted, y.allowed)) y.fails y.before
      ∙ ap No (sym y.counted)
