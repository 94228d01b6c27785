-- One more gate is done: it is marked, or the first in the chain of the gate that it waits for.
use Prim.Native.Nat.{ℕ, ◌+◌, ◌-◌, ◌*◌, ◌/◌, ◌<◌, ◌≤◌}
use mathlib.Core.Path.{◌≡◌, refl, sym, ap, ap₂, ◌∙◌, subst}
use mathlib.Core.Bool.{Bool, true, false, not, cond, ◌&&◌, false≢true}
use mathlib.Core.List.{List, [], ◌∷◌}
use native.Mathlib.Omega.{arith}
use borrow.Author.Tests.{eqb-true, eqb-false, lt-ltb, le-ltb, ltb-true, ltb-false}
use lib.Dec.{eqb, ltb}
use lib.ListN.{length, get_or, set, length-set}
use lib.Seq.{get_or-set_same, get_or-set_other}
use Rattle.plan.specs.Circuit.{has}
use Rattle.tables.specs.bitmap.Bitmap.{is_on}
use Rattle.tables.proofs.bitmap.Telling.{told_same}
use Rattle.laws.proofs.Reading.Members.{has-self, has-later, has-cases}
use Rattle.laws.proofs.Running.Lists.{absent, distinct_cons}
use Rattle.judge.specs.marks.Levels.{p0, p1, p2, p3, Agree, marked}
use Rattle.judge.specs.order.Waiting.{numbered_v, ready_at, lhs_of, watched, Chain, Line, Waiting, Space, linked, hung}
use Rattle.judge.proofs.order.Shown.{and-false}
use Rattle.judge.proofs.order.Spaces.{top-word}
use Rattle.judge.proofs.marks.Levels.{level-same}
use Rattle.judge.proofs.marks.Marking.{marked-low, marked-here, marked-others, marked-levels}
use Rattle.judge.proofs.order.Watching.{watched-agree, numbered-agree, ready-agree, named-agree, watched-below, ready-watched}

pub chain-kept : (t u : List ℕ) (b h : ℕ) (l : List ℕ) → ((i : ℕ) → has i l ≡ true → get_or u (b + i) 0 ≡ get_or t (b + i) 0) → Chain t b h l
    → Chain u b h l
chain-kept t u b h [] f c = c
chain-kept t u b h (i ∷ l) f c = (
  c.0,
  subst (λ (x : ℕ). Chain u b x l) (sym (f i (has-self i l)))
      (chain-kept t u b (get_or t (b + i) 0) l (λ k e. f k (has-later k i l e)) c.1),
)

-- what `hang` does, by the word that the gate waits for
module _ (gates t : List ℕ) (n a i : ℕ) where
  pub hung-free : watched gates t i < 2147483648 → hung gates t n a i ≡ marked t n a i
  unfolding hung
  hung-free h =
      ap (λ (b : Bool). cond b (marked t n a i) (linked t n a i (watched gates t i - 2147483648))) (lt-ltb (watched gates t i) 2147483648 h)

  pub hung-first : 2147483648 ≤ watched gates t i → hung gates t n a i ≡ linked t n a i (watched gates t i - 2147483648)
  unfolding hung
  hung-first h =
      ap (λ (b : Bool). cond b (marked t n a i) (linked t n a i (watched gates t i - 2147483648))) (le-ltb (watched gates t i) 2147483648 h)

module _ (gates t : List ℕ) (n a i : ℕ) (D E : ℕ → Bool) (space : Space gates t n a) (inn : i < a) (new : D i ≡ false) (now-done : E i ≡ true)
    (others : (c : ℕ) → (c ≡ i → ⊥) → E c ≡ D c) (own_open : numbered_v t (lhs_of gates i) ≡ false) (w : Waiting gates t n a D) where
  apart : (c : ℕ) → D c ≡ true → c ≡ i → ⊥
  apart c d e = false≢true (sym new ∙ (ap D (sym e) ∙ d))

  -- a chain that gate i does not come into
  line_kept : (u : List ℕ) (g : ℕ) → Agree n t u → ((c : ℕ) → c < a → (c ≡ i → ⊥) → get_or u (n + a + c) 0 ≡ get_or t (n + a + c) 0)
      → get_or u (n + g) 0 ≡ get_or t (n + g) 0 → (watched gates t i ≡ 2147483648 + g → ⊥) → Line gates t n a D g → Line gates u n a E g
  line_kept u g low nexts head away m = record {
    l = m.l;
    chain = subst (λ (x : ℕ). Chain u (n + a) x m.l) (sym head)
        (chain-kept t u (n + a) (get_or t (n + g) 0) m.l (λ c e. let k = m.its c e in nexts c k.0 (apart c k.1)) m.chain);
    once = m.once;
    its = λ c e.
        let k = m.its c e in (
          k.0,
          others c (apart c k.1) ∙ k.1,
          watched-agree gates t u n a space.inside low c k.0 ∙ k.2,
          numbered-agree t u n (lhs_of gates c) low (space.inside c k.0).0 ∙ k.3,
        );
    all = λ c h d e.
        let waits = sym (watched-agree gates t u n a space.inside low c h) ∙ e in
        let other : c ≡ i → ⊥ = λ z. away (ap (watched gates t) (sym z) ∙ waits) in
        m.all c h (sym (others c other) ∙ d) waits;
  }

  ready-i : ready_at gates t i ≡ ltb (watched gates t i) 2147483648
  ready-i =
      ready-watched gates t n a space.inside w.named i inn
      ∙ ap (λ (b : Bool). not b && ltb (watched gates t i) 2147483648) own_open

  -- the marks of the other gates
  mark-kept : (u : List ℕ) (c : ℕ) → c < a → (c ≡ i → ⊥) → Agree n t u → is_on u (p0 n a) c ≡ is_on t (p0 n a) c
      → is_on u (p0 n a) c ≡ (E c && ready_at gates u c)
  mark-kept u c h d low e =
      e ∙ (w.marks.here c h
      ∙ ap₂ (λ (x y : Bool). x && y) (sym (others c d)) (sym (ready-agree gates t u n a space.inside low c h)))

  -- gate i waits for none
  module _ (free : ltb (watched gates t i) 2147483648 ≡ true) where
    long : p3 n a < length t
    long = top-word n a (length t) (omega arith) space.table-long

    low-m : Agree n t (marked t n a i)
    low-m p k = marked-low t n a i long space.small inn p (omega arith)

    by-mark : Waiting gates (marked t n a i) n a E
    by-mark = record {
      named = named-agree gates t (marked t n a i) n a space.inside low-m w.named;
      lines = λ g h e.
          line_kept (marked t n a i) g low-m (λ c k d. marked-low t n a i long space.small inn (n + a + c) (omega arith))
          (marked-low t n a i long space.small inn (n + g) (omega arith))
          (λ z. omega (arith, z, ltb-true (watched gates t i) 2147483648 free))
          (w.lines g h (sym (numbered-agree t (marked t n a i) n (lhs_of gates g) low-m (space.inside g h).0) ∙ e));
      marks = record {
        here = λ c h. here c h (eqb c i) refl;
        past = λ c h k. marked-others t n a i long space.small inn c (λ e. omega (arith, e)) k ∙ w.marks.past c h k;
        levels = marked-levels t n a i long space.small inn w.marks.levels;
      };
    }
      where
        here : (c : ℕ) → c < a → (b : Bool) → eqb c i ≡ b
            → is_on (marked t n a i) (p0 n a) c ≡ (E c && ready_at gates (marked t n a i) c)
        here c h true e =
            subst (λ (x : ℕ). is_on (marked t n a i) (p0 n a) x ≡ (E x && ready_at gates (marked t n a i) x)) (sym (eqb-true c i e))
            (marked-here t n a i long space.small inn
            ∙ sym (ap₂ (λ (x y : Bool). x && y) now-done
            (ready-agree gates t (marked t n a i) n a space.inside low-m i inn ∙ (ready-i ∙ free))))
        here c h false e =
            let d = eqb-false c i e in
            mark-kept (marked t n a i) c h d low-m (marked-others t n a i long space.small inn c d (omega arith))

  -- gate i waits for gate q
  module _ (q : ℕ) (hq : q < a) (waits : watched gates t i ≡ 2147483648 + q) where
    mid : List ℕ
    mid = set t (n + a + i) (get_or t (n + q) 0)

    u : List ℕ
    unfolding mid
    u = set mid (n + q) (i + 1)

    room : n + 2 * a ≤ length t
    room = omega (arith, top-word n a (length t) (omega arith) space.table-long)

    off : (p : ℕ) → (p ≡ n + q → ⊥) → (p ≡ n + a + i → ⊥) → get_or u p 0 ≡ get_or t p 0
    unfolding u
    off p dq di = get_or-set_other mid (n + q) p (i + 1) 0 dq ∙ get_or-set_other t (n + a + i) p (get_or t (n + q) 0) 0 di

    at-q : get_or u (n + q) 0 ≡ i + 1
    unfolding u
    at-q = get_or-set_same mid (n + q) (i + 1) 0 (omega (arith, room, length-set t (n + a + i) (get_or t (n + q) 0)))

    at_i : get_or u (n + a + i) 0 ≡ get_or t (n + q) 0
    unfolding u
    at_i =
        get_or-set_other mid (n + q) (n + a + i) (i + 1) 0 (λ e. omega (arith, e))
        ∙ get_or-set_same t (n + a + i) (get_or t (n + q) 0) 0 (omega (arith, room))

    low-l : Agree n t u
    low-l p k = off p (λ e. omega (arith, e)) (λ e. omega (arith, e))

    high-l : (p : ℕ) → p0 n a ≤ p → get_or u p 0 ≡ get_or t p 0
    high-l p k = off p (λ e. omega (arith, e)) (λ e. omega (arith, e))

    nexts-l : (c : ℕ) → c < a → (c ≡ i → ⊥) → get_or u (n + a + c) 0 ≡ get_or t (n + a + c) 0
    nexts-l c k d = off (n + a + c) (λ e. omega (arith, e)) (λ e. d (omega (arith, e)))

    -- the chain that gate i comes into
    line-grown : Line gates t n a D q → Line gates u n a E q
    line-grown m = record {
      l = i ∷ m.l;
      chain = (
        at-q,
        subst (λ (x : ℕ). Chain u (n + a) x m.l) (sym at_i)
            (chain-kept t u (n + a) (get_or t (n + q) 0) m.l (λ c e. let k = m.its c e in nexts-l c k.0 (apart c k.1)) m.chain),
      );
      once = distinct_cons i m.l (absent (has i m.l) (λ e. apart i (m.its i e).1 refl)) m.once;
      its = λ c e. has-cases _ i c m.l e
          (λ z. subst (λ (x : ℕ). (x < a) × (E x ≡ true) × (watched gates u x ≡ 2147483648 + q) × (numbered_v u (lhs_of gates x) ≡ false)) z (
            inn,
            now-done,
            watched-agree gates t u n a space.inside low-l i inn
                ∙ waits,
            numbered-agree t u n (lhs_of gates i) low-l (space.inside i inn).0 ∙ own_open,
          ))
          (λ e'.
          let k = m.its c e' in (
            k.0,
            others c (apart c k.1) ∙ k.1,
            watched-agree gates t u n a space.inside low-l c k.0 ∙ k.2,
            numbered-agree t u n (lhs_of gates c) low-l (space.inside c k.0).0 ∙ k.3,
          ));
      all = λ c h d e. in-it c h d e (eqb c i) refl;
    }
      where
        in-it : (c : ℕ) → c < a → E c ≡ true → watched gates u c ≡ 2147483648 + q → (b : Bool) → eqb c i ≡ b → has c (i ∷ m.l) ≡ true
        in-it c h d e true z = subst (λ (x : ℕ). has x (i ∷ m.l) ≡ true) (sym (eqb-true c i z)) (has-self i m.l)
        in-it c h d e false z =
            has-later c i m.l
            (m.all c h (sym (others c (eqb-false c i z)) ∙ d) (sym (watched-agree gates t u n a space.inside low-l c h) ∙ e))

    by-link : Waiting gates u n a E
    by-link = record {
      named = named-agree gates t u n a space.inside low-l w.named;
      lines = λ g h e.
          line g h (w.lines g h (sym (numbered-agree t u n (lhs_of gates g) low-l (space.inside g h).0) ∙ e)) (eqb g q) refl;
      marks = record {
        here = λ c h. here c h (eqb c i) refl;
        past = λ c h k. told_same t u (p0 n a) c (high-l (p0 n a + c / 32) (omega arith)) ∙ w.marks.past c h k;
        levels = record {
          one =
              level-same t u (p0 n a) (p1 n a) (a / 32) (λ x k. high-l (p0 n a + x) (omega arith)) (λ x k. high-l (p1 n a + x) (omega arith))
              w.marks.levels.one;
          two =
              level-same t u (p1 n a) (p2 n a) (a / 1024) (λ x k. high-l (p1 n a + x) (omega arith)) (λ x k. high-l (p2 n a + x) (omega arith))
              w.marks.levels.two;
          three =
              level-same t u (p2 n a) (p3 n a) (a / 32768) (λ x k. high-l (p2 n a + x) (omega arith))
              (λ x k. high-l (p3 n a + x) (omega arith)) w.marks.levels.three;
        };
      };
    }
      where
        line : (g : ℕ) → g < a → Line gates t n a D g → (b : Bool) → eqb g q ≡ b → Line gates u n a E g
        line g h m true z =
            let y = eqb-true g q z in
            subst (λ (x : ℕ). Line gates u n a E x) (sym y) (line-grown (subst (λ (x : ℕ). Line gates t n a D x) y m))
        line g h m false z =
            let y = eqb-false g q z in
            line_kept u g low-l nexts-l (off (n + g) (λ e. y (omega (arith, e))) (λ e. omega (arith, e))) (λ e. y (omega (arith, sym e ∙ waits))) m

        here : (c : ℕ) → c < a → (b : Bool) → eqb c i ≡ b → is_on u (p0 n a) c ≡ (E c && ready_at gates u c)
        here c h true e =
            subst (λ (x : ℕ). is_on u (p0 n a) x ≡ (E x && ready_at gates u x)) (sym (eqb-true c i e))
            (told_same t u (p0 n a) i (high-l (p0 n a + i / 32) (omega arith))
            ∙ (w.marks.here i inn ∙ (ap (λ (x : Bool). x && ready_at gates t i) new
            ∙ sym (ap (λ (x : Bool). E i && x)
            (ready-agree gates t u n a space.inside low-l i inn
            ∙ (ready-i ∙ le-ltb (watched gates t i) 2147483648 (omega (arith, waits)))) ∙ and-false (E i)))))
        here c h false e =
            mark-kept u c h (eqb-false c i e) low-l (told_same t u (p0 n a) c (high-l (p0 n a + c / 32) (omega arith)))

  pub hung-all : Waiting gates (hung gates t n a i) n a E × Agree n t (hung gates t n a i)
      × ((c : ℕ) → c < a → (c ≡ i → ⊥) → get_or (hung gates t n a i) (n + a + c) 0 ≡ get_or t (n + a + c) 0)
  unfolding hung linked u mid
  hung-all = go (ltb (watched gates t i) 2147483648) refl
    where
      Good : List ℕ → Type 0
      Good x = Waiting gates x n a E × Agree n t x × ((c : ℕ) → c < a → (c ≡ i → ⊥) → get_or x (n + a + c) 0 ≡ get_or t (n + a + c) 0)

      go : (b : Bool) → ltb (watched gates t i) 2147483648 ≡ b → Good (cond b (marked t n a i) (linked t n a i (watched gates t i - 2147483648)))
      go true e = (by-mark e, low-m e, λ c k d. marked-low t n a i (long e) space.small inn (n + a + c) (omega arith))
      go false e =
          let q = watched gates t i - 2147483648 in
          let high = ltb-false (watched gates t i) 2147483648 e in
          let below = watched-below gates t n a space.inside w.named i inn in
          let hq : watched gates t i - 2147483648 < a = omega (arith, high, below) in
          let waits : watched gates t i ≡ 2147483648 + (watched gates t i - 2147483648) = omega (arith, high) in
          (by-link q hq waits, low-l q hq waits, nexts-l q hq waits)
