-- A chain is walked: each of its gates is done in its turn.
use Prim.Native.Nat.{ℕ, zero, suc, ◌+◌, ◌-◌, ◌<◌, ◌≤◌}
use mathlib.Core.Path.{◌≡◌, refl, sym, ap, ◌∙◌, subst}
use mathlib.Core.Bool.{Bool, true, false, not, ◌||◌}
use mathlib.Core.List.{List, [], ◌∷◌}
use native.Mathlib.Nat.{not-suc-le-zero}
use native.Mathlib.Numerals.{add-one}
use native.Mathlib.Omega.{arith}
use borrow.Author.Tests.{ne_eqb}
use lib.ListN.{length, get_or}
use Rattle.plan.specs.Circuit.{has}
use Rattle.laws.proofs.Reading.Members.{has-self, has-later, distinct, pigeon}
use Rattle.laws.proofs.Running.Lists.{distinct_head, distinct_tail}
use Rattle.laws.proofs.Tables.{firsts, length-firsts}
use Rattle.judge.specs.marks.Levels.{Agree}
use Rattle.judge.specs.order.Waiting.{numbered_v, lhs_of, Chain, Space, hung, Waiting, every, Waking}
use Rattle.judge.proofs.order.Places.{has_first}
use Rattle.judge.proofs.order.Watching.{numbered-agree}
use Rattle.judge.proofs.order.Hanging.{chain-kept, hung-all}

-- how far it is from h to the end of its chain, at most f
abbrev pub steps : List ℕ → ℕ → ℕ → ℕ → ℕ
steps t b zero h = 0
steps t b (suc f) zero = 0
steps t b (suc f) (suc i) = suc (steps t b f (get_or t (b + i) 0))

steps-chain : (t : List ℕ) (b f h : ℕ) (l : List ℕ) → length l ≤ f → Chain t b h l → steps t b f h ≡ length l
steps-chain t b zero h [] k c = refl
steps-chain t b (suc f) h [] k c = ap (steps t b (suc f)) c
steps-chain t b zero h (i ∷ l) k c = absurd (not-suc-le-zero k)
steps-chain t b (suc f) h (i ∷ l) k c =
    ap (steps t b (suc f)) (c.0 ∙ add-one i) ∙ ap suc (steps-chain t b f (get_or t (b + i) 0) l (omega arith) c.1)

-- different gates are no more than there are
few : (a : ℕ) (l : List ℕ) → distinct l ≡ true → ((i : ℕ) → has i l ≡ true → i < a) → length l ≤ a
few a l d f =
    omega (arith, pigeon l (firsts (λ (x : ℕ). x) a) d (λ v h. has_first (λ (x : ℕ). x) a v (f v h)), length-firsts (λ (x : ℕ). x) a)

-- gate i, the first that is to do, is done
pub record Woken (gates t : List ℕ) (n a h i : ℕ) : Type 0 where
  pub inn : i < a
  pub low : Agree n t (hung gates t n a i)
  pub more : Waking gates (hung gates t n a i) n a (get_or t (n + a + i) 0)
  pub less : steps (hung gates t n a i) (n + a) a (get_or t (n + a + i) 0) < steps t (n + a) a h

module _ (gates t : List ℕ) (n a h : ℕ) (space : Space gates t n a) where
  first_done : (todo : List ℕ) → 0 < h → Chain t (n + a) h todo → distinct todo ≡ true
      → ((i : ℕ) → has i todo ≡ true → (i < a) × (numbered_v t (lhs_of gates i) ≡ false)) → Waiting gates t n a (λ i. not (has i todo))
      → Woken gates t n a h (h - 1)
  first_done [] pos c once each rest = absurd (omega (arith, c))
  first_done (i ∷ l) pos c once each rest =
      let e : h - 1 ≡ i = omega (arith, c.0) in
      subst (λ (x : ℕ). Woken gates t n a h x) (sym e) woken
    where
      inn : i < a
      inn = (each i (has-self i l)).0

      away : has i l ≡ false
      away = distinct_head i l once

      other : (k : ℕ) → has k l ≡ true → k ≡ i → ⊥
      other k q z = let y : ◌≡◌ {A = Bool} true false = sym q ∙ (ap (λ (x : ℕ). has x l) z ∙ away) in let w : ◌≡◌ {A = ℕ} 0 1 = cc in omega arith

      hang :
          Waiting gates (hung gates t n a i) n a (λ k. not (has k l)) × Agree n t (hung gates t n a i)
          × ((k : ℕ) → k < a → (k ≡ i → ⊥) → get_or (hung gates t n a i) (n + a + k) 0 ≡ get_or t (n + a + k) 0)
      hang =
          hung-all gates t n a i (λ k. not (has k (i ∷ l))) (λ k. not (has k l)) space inn (ap not (has-self i l)) (ap not away)
          (λ k d. ap not (sym (ap (λ (b : Bool). b || has k l) (ne_eqb i k (λ z. d (sym z)))))) (each i (has-self i l)).1 rest

      chain : Chain (hung gates t n a i) (n + a) (get_or t (n + a + i) 0) l
      chain =
          chain-kept t (hung gates t n a i) (n + a) (get_or t (n + a + i) 0) l
          (λ k q. hang.2 k (each k (has-later k i l q)).0 (other k q)) c.1

      woken : Woken gates t n a h i
      woken = record {
        inn = inn;
        low = hang.1;
        more = record {
          todo = l;
          chain = chain;
          once = distinct_tail i l once;
          each = λ k q.
              let y = each k (has-later k i l q) in
              (y.0, numbered-agree t (hung gates t n a i) n (lhs_of gates k) hang.1 (space.inside k y.0).0 ∙ y.1);
          rest = hang.0;
        };
        less = omega (
          arith,
          steps-chain t (n + a) a h (i ∷ l) (few a (i ∷ l) once (λ k q. (each k q).0)) c,
          steps-chain (hung gates t n a i) (n + a) a (get_or t (n + a + i) 0) l
              (few a l (distinct_tail i l once) (λ k q. (each k (has-later k i l q)).0)) chain,
        );
      }

  pub wake-step : 0 < h → Waking gates t n a h → Woken gates t n a h (h - 1)
  wake-step pos w = first_done w.todo pos w.chain w.once w.each w.rest

-- in the table u that is left then, where the chain goes on at h'
module _ (gates t u : List ℕ) (n a h h' : ℕ) (w : Woken gates t n a h (h - 1)) (done : u ≡ hung gates t n a (h - 1))
    (on : h' ≡ get_or t (n + a + (h - 1)) 0) where
  pub wake-low : Agree n t u
  wake-low = subst (λ (l : List ℕ). Agree n t l) (sym done) w.low

  pub wake-more : Waking gates u n a h'
  wake-more =
      subst (λ (x : ℕ). Waking gates u n a x) (sym on)
      (subst (λ (l : List ℕ). Waking gates l n a (get_or t (n + a + (h - 1)) 0)) (sym done) w.more)

  pub wake-less : steps u (n + a) a h' < steps t (n + a) a h
  wake-less =
      subst (λ (x : ℕ). steps u (n + a) a x < steps t (n + a) a h) (sym on)
      (subst (λ (l : List ℕ). steps l (n + a) a (get_or t (n + a + (h - 1)) 0) < steps t (n + a) a h) (sym done) w.less)

all_done : (gates t : List ℕ) (n a h : ℕ) (todo : List ℕ) → h ≡ 0 → Chain t (n + a) h todo → Waiting gates t n a (λ i. not (has i todo))
    → Waiting gates t n a every
all_done gates t n a h [] z c rest = rest
all_done gates t n a h (i ∷ l) z c rest = absurd (omega (arith, c.0))

pub wake-end : (gates t : List ℕ) (n a h : ℕ) → h ≡ 0 → Waking gates t n a h → Waiting gates t n a every
wake-end gates t n a h z w = all_done gates t n a h w.todo z w.chain w.rest
