-- The left variables name their gates: nothing else changes, and nothing waits yet.
use Prim.Native.Nat.{ℕ, zero, suc, ◌+◌, ◌/◌, ◌<◌, ◌≤◌}
use mathlib.Core.Path.{◌≡◌, refl, sym, ap, ◌∙◌, subst}
use mathlib.Core.Bool.{Bool, true, false, ◌&&◌, false≢true}
use mathlib.Core.List.{List, [], ◌++◌, map}
use native.Mathlib.Nat.{not-suc-le-zero}
use native.Mathlib.Omega.{arith}
use borrow.Author.Tests.{eqb-true, eqb-false, ltb-true, le-ltb}
use lib.Dec.{eqb, ltb}
use lib.ListN.{length, get_or, take, length-set, length-take}
use lib.Seq.{get_or-set_same, get_or-set_other}
use Rattle.plan.specs.Circuit.{gate_of, rows_of, left_vars, has}
use Rattle.tables.specs.bitmap.Bitmap.{is_on}
use Rattle.tables.proofs.bitmap.Telling.{blank-off}
use Rattle.laws.proofs.Reading.Members.{distinct}
use Rattle.laws.proofs.Running.Found.{AllG, Sides, sides-in}
use Rattle.laws.proofs.Running.Lists.{has_rest, distinct-right, apart}
use Rattle.laws.proofs.Tables.{firsts, gate_at, gates-rows, gates-heads}
use Rattle.judge.specs.order.Numbers.{InRange}
use Rattle.judge.specs.marks.Levels.{Level, p0, p1, p2, p3}
use Rattle.judge.specs.order.Waiting.{shown, numbered_v, ready_at, lhs_of, rhs0_of, rhs1_of, with_names, Named, Waiting, before, Known, Fresh, Blank}
use Rattle.judge.proofs.order.Shown.{shown-high, numbered-by, numbered-take, unnumbered}
use Rattle.judge.proofs.order.Numbering.{numbered-has}
use Rattle.judge.proofs.order.Places.{has_first, of_places, one_place}
use Rattle.judge.proofs.order.Spaces.{all-places}

-- the first k gates are named
pub record Naming (gates t₀ t : List ℕ) (n k : ℕ) : Type 0 where
  pub long : length t ≡ length t₀
  pub own : (i : ℕ) → i < k → get_or t (lhs_of gates i) 0 ≡ 2147483648 + i
  pub names : (v : ℕ) → v < n → 2147483648 ≤ get_or t v 0 → (get_or t v 0 < 2147483648 + k) × (numbered_v t₀ v ≡ false)
  pub keep : (v : ℕ) → v < n → shown (get_or t v 0) ≡ shown (get_or t₀ v 0)
  pub rest : (p : ℕ) → n ≤ p → get_or t p 0 ≡ get_or t₀ p 0

module _ (gates t : List ℕ) (n a : ℕ) (long : n ≤ length t) (range : InRange n gates a) (fresh : Fresh t n) (known : Known gates t n a) where
  heads : left_vars (map gate_of (rows_of 3 a gates)) ≡ firsts (lhs_of gates) a
  heads = gates-heads gates a

  has-numbered : (v : ℕ) → v < n → numbered_v t v ≡ has v known.lv
  has-numbered v h =
      sym (numbered-take t n v h (fresh v h))
      ∙ numbered-has known.lv (take n t) known.starts known.numbers v (omega (arith, length-take n t))

  -- no left variable has a number
  pub lefts-open : (i : ℕ) → i < a → numbered_v t (lhs_of gates i) ≡ false
  lefts-open i h =
      has-numbered (lhs_of gates i) (range i h).0
      ∙ apart known.lv (left_vars (map gate_of (rows_of 3 a gates))) known.once (lhs_of gates i)
      (subst (λ (l : List ℕ). has (lhs_of gates i) l ≡ true) (sym heads) (has_first (lhs_of gates) a i h))

  differ : (i j : ℕ) → i < a → j < a → (i ≡ j → ⊥) → lhs_of gates i ≡ lhs_of gates j → ⊥
  differ i j =
      one_place (lhs_of gates) a i j (ap distinct (sym heads) ∙ distinct-right known.lv (left_vars (map gate_of (rows_of 3 a gates))) known.once)

  one_more : (k : ℕ) → k < a → Naming gates t (with_names gates k t) n k → Naming gates t (with_names gates (suc k) t) n (suc k)
  one_more k h m = record {
    long = length-set (with_names gates k t) (lhs_of gates k) (2147483648 + k) ∙ m.long;
    own = λ i q. own i q (eqb i k) refl;
    names = λ v q. names v q (eqb v (lhs_of gates k)) refl;
    keep = λ v q. keep v q (eqb v (lhs_of gates k)) refl;
    rest = λ p q. other p (λ e. omega (arith, e, (range k (omega arith)).0)) ∙ m.rest p q;
  }
    where
      same : get_or (with_names gates (suc k) t) (lhs_of gates k) 0 ≡ 2147483648 + k
      same = get_or-set_same (with_names gates k t) (lhs_of gates k) (2147483648 + k) 0 (omega (arith, m.long, (range k (omega arith)).0))

      other : (p : ℕ) → (p ≡ lhs_of gates k → ⊥) → get_or (with_names gates (suc k) t) p 0 ≡ get_or (with_names gates k t) p 0
      other p d = get_or-set_other (with_names gates k t) (lhs_of gates k) p (2147483648 + k) 0 d

      own : (i : ℕ) → i < suc k → (b : Bool) → eqb i k ≡ b → get_or (with_names gates (suc k) t) (lhs_of gates i) 0 ≡ 2147483648 + i
      own i q true e = subst (λ (x : ℕ). get_or (with_names gates (suc k) t) (lhs_of gates x) 0 ≡ 2147483648 + x) (sym (eqb-true i k e)) same
      own i q false e =
          let d = eqb-false i k e in
          other (lhs_of gates i) (differ i k (omega arith) (omega arith) d) ∙ m.own i (omega (arith, d))

      names : (v : ℕ) → v < n → (b : Bool) → eqb v (lhs_of gates k) ≡ b → 2147483648 ≤ get_or (with_names gates (suc k) t) v 0
          → (get_or (with_names gates (suc k) t) v 0 < 2147483648 + suc k) × (numbered_v t v ≡ false)
      names v q true e w =
          let z = eqb-true v (lhs_of gates k) e in (
            omega (arith, ap (λ (x : ℕ). get_or (with_names gates (suc k) t) x 0) z ∙ same),
            ap (numbered_v t) z ∙ lefts-open k (omega arith),
          )
      names v q false e w =
          let o = other v (eqb-false v (lhs_of gates k) e) in
          let r = m.names v q (omega (arith, o)) in
          (omega (arith, o, r.0), r.1)

      keep : (v : ℕ) → v < n → (b : Bool) → eqb v (lhs_of gates k) ≡ b → shown (get_or (with_names gates (suc k) t) v 0) ≡ shown (get_or t v 0)
      keep v q true e =
          let z = eqb-true v (lhs_of gates k) e in
          ap (λ (x : ℕ). shown (get_or (with_names gates (suc k) t) x 0)) z ∙ (ap shown same ∙ (shown-high (2147483648 + k) (omega arith)
          ∙ (sym (unnumbered t (lhs_of gates k) (lefts-open k (omega arith))).1 ∙ ap (λ (x : ℕ). shown (get_or t x 0)) (sym z))))
      keep v q false e = ap shown (other v (eqb-false v (lhs_of gates k) e)) ∙ m.keep v q

  naming : (k : ℕ) → k ≤ a → Naming gates t (with_names gates k t) n k
  naming zero h = record {
    long = refl;
    own = λ i k. absurd (not-suc-le-zero k);
    names = λ v k e. absurd (omega (arith, fresh v k));
    keep = λ v k. refl;
    rest = λ p k. refl;
  }
  naming (suc k) h = one_more k (omega arith) (naming k (omega arith))

  module _ (u : List ℕ) (e : u ≡ with_names gates a t) where
    pub named-all : Naming gates t u n a
    named-all = subst (λ (l : List ℕ). Naming gates t l n a) (sym e) (naming a (omega arith))

    still : (v : ℕ) → v < n → numbered_v u v ≡ numbered_v t v
    still v h = numbered-by t u v (named-all.keep v h)

    -- a variable that is a leaf or defined, and names no gate, has a number
    low-known : (v : ℕ) → v < n → has v (known.lv ++ left_vars (map gate_of (rows_of 3 a gates))) ≡ true → get_or u v 0 < 2147483648
        → numbered_v u v ≡ true
    low-known v h q low = still v h ∙ go (numbered_v t v) refl
      where
        go : (b : Bool) → numbered_v t v ≡ b → numbered_v t v ≡ true
        go true z = z
        go false z =
            of_places (λ (x : ℕ). get_or u x 0 < 2147483648 → numbered_v t v ≡ true) (lhs_of gates) a v
            (λ i k l. absurd (omega (arith, named-all.own i k, l)))
            (subst (λ (l : List ℕ). has v l ≡ true) heads
            (has_rest v known.lv (left_vars (map gate_of (rows_of 3 a gates))) q (sym (has-numbered v h) ∙ z))) low

    sides : (i : ℕ) → i < a → Sides (known.lv ++ left_vars (map gate_of (rows_of 3 a gates))) (gate_at gates i)
    sides =
        let ds = known.lv ++ left_vars (map gate_of (rows_of 3 a gates)) in
        all-places (Sides ds) (gate_at gates) a
        (subst (AllG (Sides ds)) (gates-rows gates a) (sides-in ds (map gate_of (rows_of 3 a gates)) known.used))

    all_named : Named gates u n a
    all_named = record {
      own = λ i h z. named-all.own i h;
      names = λ v h w. let r = named-all.names v h w in (r.0, still v h ∙ r.1);
      low0 = λ i h l. low-known (rhs0_of gates i) (range i h).1 (sides i h).0 l;
      low1 = λ i h l. low-known (rhs1_of gates i) (range i h).2 (sides i h).1 l;
    }

    pub still_open : (i : ℕ) → i < a → numbered_v u (lhs_of gates i) ≡ false
    still_open i h = still (lhs_of gates i) (range i h).0 ∙ lefts-open i h

    -- nothing is done yet
    pub none-waits : Blank t n → Waiting gates u n a (before 0)
    none-waits blank = record {
      named = all_named;
      lines = λ g h z. record {
        l = [];
        chain = zero-at (n + g) (omega arith);
        once = refl;
        its = λ i q. absurd (false≢true q);
        all = λ i k d w. absurd (not-suc-le-zero (ltb-true i 0 d));
      };
      marks = record {
        here = λ i h. dark (p0 n a) i (omega arith) ∙ sym (ap (λ (b : Bool). b && ready_at gates u i) (le-ltb i 0 (omega arith)));
        past = λ i h k. dark (p0 n a) i (omega arith);
        levels = record {
          one = level (p0 n a) (p1 n a) (a / 32) (omega arith) (omega arith);
          two = level (p1 n a) (p2 n a) (a / 1024) (omega arith) (omega arith);
          three = level (p2 n a) (p3 n a) (a / 32768) (omega arith) (omega arith);
        };
      };
    }
      where
        zero-at : (p : ℕ) → n ≤ p → get_or u p 0 ≡ 0
        zero-at p h = named-all.rest p h ∙ blank p h

        dark : (p i : ℕ) → n ≤ p → is_on u p i ≡ false
        dark p i h = blank-off u p i (zero-at (p + i / 32) (omega arith))

        level : (p q m : ℕ) → n ≤ p → n ≤ q → Level u p q m
        level p q m hp hq = record {
          same = λ w h. dark q w hq ∙ sym (ap (ltb 0) (zero-at (p + w) (omega arith)));
          past = λ w h k. dark q w hq;
        }
