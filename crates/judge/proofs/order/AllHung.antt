-- One gate after the other is done, until all are.
use Prim.Native.Nat.{ℕ, ◌+◌, ◌<◌, ◌≤◌}
use mathlib.Core.Path.{◌≡◌, refl, sym, ap, ◌∙◌, subst}
use mathlib.Core.Bool.{Bool, true, false, ◌&&◌}
use mathlib.Core.List.{List}
use native.Mathlib.Omega.{arith}
use borrow.Author.Tests.{lt-ltb, le-ltb, ltb-true, ltb-false}
use lib.Dec.{ltb}
use Rattle.judge.specs.marks.Levels.{Agree}
use Rattle.judge.specs.order.Waiting.{numbered_v, ready_at, lhs_of, Space, hung, Waiting, before, every}
use Rattle.judge.proofs.order.Watching.{numbered-agree}
use Rattle.judge.proofs.order.Hanging.{hung-all}

one_below : (i c : ℕ) → (c ≡ i → ⊥) → ltb c (i + 1) ≡ ltb c i
one_below i c d = go (ltb c i) refl
  where
    go : (b : Bool) → ltb c i ≡ b → ltb c (i + 1) ≡ ltb c i
    go true e = lt-ltb c (i + 1) (omega (arith, ltb-true c i e)) ∙ sym e
    go false e = le-ltb c (i + 1) (omega (arith, d, ltb-false c i e)) ∙ sym e

module _ (gates t₀ t : List ℕ) (n a i : ℕ) (space : Space gates t n a) (inn : i < a)
    (open-all : (c : ℕ) → c < a → numbered_v t₀ (lhs_of gates c) ≡ false) (low : Agree n t₀ t) (w : Waiting gates t n a (before i))
    (u : List ℕ) (done : u ≡ hung gates t n a i) where
  pub hang-more : Waiting gates u n a (before (i + 1)) × Agree n t₀ u
  hang-more =
      let h =
      hung-all gates t n a i (before i) (before (i + 1)) space inn (le-ltb i i (omega arith)) (lt-ltb i (i + 1) (omega arith)) (one_below i)
      (numbered-agree t₀ t n (lhs_of gates i) low (space.inside i inn).0 ∙ open-all i inn) w in
      subst (λ (l : List ℕ). Waiting gates l n a (before (i + 1)) × Agree n t₀ l) (sym done) (h.0, λ p k. h.1 p k ∙ low p k)

pub hang-end : (gates t : List ℕ) (n a i : ℕ) → a ≤ i → Waiting gates t n a (before i) → Waiting gates t n a every
hang-end gates t n a i h w = record {
  named = w.named;
  lines = λ g k e.
      let m = w.lines g k e in
      record {
        l = m.l;
        chain = m.chain;
        once = m.once;
        its = λ c q. let y = m.its c q in (y.0, refl, y.2, y.3);
        all = λ c q d z. m.all c q (lt-ltb c i (omega arith)) z;
      };
  marks = record {
    here = λ c k. w.marks.here c k ∙ ap (λ (b : Bool). b && ready_at gates t c) (lt-ltb c i (omega arith));
    past = w.marks.past;
    levels = w.marks.levels;
  };
}
