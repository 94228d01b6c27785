-- The loop that gives the numbers, by the laws of the plain scan.
use Prim.Native.Nat.{ℕ, ◌+◌, ◌<◌, ◌≤◌}
use mathlib.Core.Path.{◌≡◌, refl, sym, ap, ◌∙◌, subst}
use mathlib.Core.Bool.{Bool, true, false}
use mathlib.Core.List.{List}
use native.Mathlib.Omega.{arith}
use borrow.Author.Tests.{eqb-true, eqb-false}
use lib.Dec.{eqb}
use lib.ListN.{length, set, length-set}
use Rattle.plan.specs.Literals.{var_of}
use Rattle.tables.specs.bitmap.Bitmap.{is_on}
use Rattle.laws.proofs.Tables.{gate_at}
use Rattle.judge.specs.order.Numbers.{NumTable, InRange}
use Rattle.judge.specs.marks.Levels.{p0, FirstPair}
use Rattle.judge.specs.order.Waiting.{shown, clean, numbered_v, ready_at, lhs_of, counted, Waiting, every, Given}
use Rattle.judge.proofs.order.Shown.{shown-low, clean-length, clean-set, clean-same, ready-clean, ready-left, given-here, given-other}
use Rattle.judge.proofs.order.Counting.{counted-more}
use Rattle.judge.proofs.order.Watching.{numbered-agree, only-j}
use Rattle.judge.proofs.order.Numbering.{Starts}
use Rattle.judge.proofs.order.Going.{NotReady, Going, Final, going_start, going_more, going-break, going_end}

-- the scan: no gate before j is ready
abbrev pub Idle : List ℕ → List ℕ → ℕ → ℕ → Type 0
Idle gates t a j = (i : ℕ) → i < j → i < a → ready_at gates t i ≡ false

module _ (gates t : List ℕ) (n a : ℕ) (w : Waiting gates t n a every) where
  pub idle-first : (r : ℕ) → FirstPair t n a r → Idle gates t a r
  idle-first r f i h k = sym (w.marks.here i k) ∙ f.dark i h k

  pub marked-ready : (j : ℕ) (b : Bool) → j < a → is_on t (p0 n a) j ≡ b → ready_at gates t j ≡ b
  marked-ready j b h e = sym (w.marks.here j h) ∙ e

  pub idle-more : (j : ℕ) → Idle gates t a j → is_on t (p0 n a) j ≡ false → Idle gates t a (j + 1)
  idle-more j f e i h k = go (eqb i j) refl
    where
      go : (b : Bool) → eqb i j ≡ b → ready_at gates t i ≡ false
      go true z = let y = eqb-true i j z in marked-ready i false k (ap (is_on t (p0 n a)) y ∙ e)
      go false z = f i (omega (arith, eqb-false i j z)) k

-- the outer loop's state. Whatever the variables are that t₀ numbers, all of them below `first`, k more are numbered now
pub record State (gates t₀ t : List ℕ) (n a first next k : ℕ) : Type 0 where
  pub long : n ≤ length t
  pub waiting : Waiting gates t n a every
  pub count : counted gates t a ≡ k
  pub going : (lv : List ℕ) → NumTable lv (clean n t₀) → Starts lv → length lv ≡ first → Going gates lv (clean n t) a next k

abbrev pub Done : List ℕ → List ℕ → List ℕ → ℕ → ℕ → ℕ → Type 0
Done gates t₀ t n a first = (lv : List ℕ) → NumTable lv (clean n t₀) → Starts lv → length lv ≡ first → Final gates lv (clean n t) a

module _ (gates t₀ t : List ℕ) (n a first next k : ℕ) (range : InRange n gates a) (s : State gates t₀ t n a first next k) where
  range' : InRange (length (clean n t)) gates a
  range' = subst (λ (m : ℕ). InRange m gates a) (sym (clean-length n t s.long)) range

  idle-not : (j : ℕ) → j ≤ a → Idle gates t a j → NotReady gates (clean n t) j
  idle-not j h f i k = ready-clean n t (gate_at gates i) (range i (omega arith)) ∙ f i k (omega arith)

  pub state-break : (j : ℕ) → a ≤ j → Idle gates t a j → Done gates t₀ t n a first
  state-break j h f lv tab st len =
      going-break gates lv (clean n t) a next k range' (idle-not a (omega arith) (λ i p q. f i (omega arith) q)) (s.going lv tab st len)

  pub state-end : a ≤ k → Done gates t₀ t n a first
  state-end h lv tab st len = going_end gates lv (clean n t) a next k h (s.going lv tab st len)

  pub state-more : (u : List ℕ) (j : ℕ) → k < a → j < a → 0 < next → next < 2147483648 → Idle gates t a j → ready_at gates t j ≡ true
      → length u ≡ length t → Given gates t u n a j next → State gates t₀ u n a first (next + 1) (k + 1)
  state-more u j hk hj pos small f e same_length g = record {
    long = omega (arith, s.long);
    waiting = g.waiting;
    count = counted-more gates t u a j hj open-j here others ∙ ap (λ (m : ℕ). m + 1) s.count;
    going = λ lv tab st len.
        subst (λ (c : List ℕ). Going gates lv c a (next + 1) (k + 1)) same
        (going_more gates lv (clean n t) a next k j hk hj range' (idle-not j (omega arith) f)
        (ready-clean n t (gate_at gates j) (range j hj) ∙ e) (s.going lv tab st len));
  }
    where
      open-j : numbered_v t (lhs_of gates j) ≡ false
      open-j = ready-left t (gate_at gates j) e

      fits : lhs_of gates j < length t
      fits = omega (arith, (range j hj).0, s.long)

      here : numbered_v u (lhs_of gates j) ≡ true
      here =
          numbered-agree (set t (lhs_of gates j) next) u n (lhs_of gates j) g.low (range j hj).0
          ∙ given-here t (lhs_of gates j) next fits pos small

      others : (i : ℕ) → i < a → (i ≡ j → ⊥) → numbered_v u (lhs_of gates i) ≡ numbered_v t (lhs_of gates i)
      others i h d =
          numbered-agree (set t (lhs_of gates j) next) u n (lhs_of gates i) g.low (range i h).0
          ∙ given-other t (lhs_of gates j) next fits pos small (lhs_of gates i)
          (λ z. d (only-j gates t n a range s.waiting.named j next hj open-j s.long pos small i h z))

      same : set (clean n t) (var_of (gate_at gates j).lhs) next ≡ clean n u
      same =
          sym (clean-same n (set t (var_of (gate_at gates j).lhs) next) u
          (omega (arith, s.long, length-set t (var_of (gate_at gates j).lhs) next)) (omega (arith, s.long))
          (λ w q. ap shown (g.low w q))
          ∙ clean-set n t (var_of (gate_at gates j).lhs) next (range j hj).0
          ∙ ap (set (clean n t) (var_of (gate_at gates j).lhs)) (shown-low next small))

pub state-start : (gates t : List ℕ) (n a first : ℕ) → n ≤ length t → Waiting gates t n a every → counted gates t a ≡ 0
    → State gates t t n a first first 0
state-start gates t n a first l w z = record {
  long = l;
  waiting = w;
  count = z;
  going = λ lv tab st len. going_start gates lv (clean n t) a first tab st len;
}
