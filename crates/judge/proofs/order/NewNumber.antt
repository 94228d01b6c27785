-- Gate j gets number x: its mark goes, the gates of its chain are to be done again, and all else that waits stays as it is.
use Prim.Native.Nat.{ℕ, ◌+◌, ◌/◌, ◌<◌, ◌≤◌}
use mathlib.Core.Path.{◌≡◌, refl, sym, ap, ap₂, ◌∙◌, subst}
use mathlib.Core.Bool.{Bool, true, false, not, ◌&&◌, false≢true}
use mathlib.Core.List.{List}
use native.Mathlib.Omega.{arith}
use borrow.Author.Tests.{eqb-true, eqb-false, le-ltb, ltb-true, not-true}
use lib.Dec.{eqb, ltb}
use lib.ListN.{length, get_or, set, length-set}
use lib.Seq.{get_or-set_other}
use Rattle.plan.specs.Circuit.{has}
use Rattle.tables.specs.bitmap.Bitmap.{is_on}
use Rattle.tables.proofs.bitmap.Telling.{told_same}
use Rattle.laws.proofs.Reading.Common.{and_right}
use Rattle.laws.proofs.Running.Lists.{absent}
use Rattle.laws.proofs.Tables.{gate_at}
use Rattle.judge.specs.marks.Levels.{p0, p1, p2, p3, Levels, Agree, TakenOff}
use Rattle.judge.specs.order.Waiting.{numbered_v, ready_at, lhs_of, watched, Named, Chain, Line, Waiting, every, Space, Waking, Giving, Given}
use Rattle.judge.proofs.order.Shown.{and-false, ready-left, given-here, given-other, given-unnumbered}
use Rattle.judge.proofs.order.Spaces.{space-again}
use Rattle.judge.proofs.marks.Levels.{level-same}
use Rattle.judge.proofs.order.Watching.{watched-agree, numbered-agree, named-agree, ready-watched, watched-given, only-j, named-given}
use Rattle.judge.proofs.order.Hanging.{chain-kept}

module _ (gates t : List ℕ) (n a j x : ℕ) (q : Giving gates t n a j x) where
  pub give-fits : lhs_of gates j < length t
  give-fits = omega (arith, (q.space.inside j q.within).0, q.space.table-long)

  long : n ≤ length t
  long = omega (arith, q.space.table-long)

  open-j : numbered_v t (lhs_of gates j) ≡ false
  open-j = ready-left t (gate_at gates j) q.is-ready

  low-j : watched gates t j < 2147483648
  low-j =
      ltb-true (watched gates t j) 2147483648
      (and_right (not (numbered_v t (lhs_of gates j))) (ltb (watched gates t j) 2147483648)
      (sym (ready-watched gates t n a q.space.inside q.waiting.named j q.within) ∙ q.is-ready))

  -- the words past the variables
  above : (p : ℕ) → n ≤ p → get_or (set t (lhs_of gates j) x) p 0 ≡ get_or t p 0
  above p k = get_or-set_other t (lhs_of gates j) p x 0 (λ e. omega (arith, (q.space.inside j q.within).0, e))

  pub give-levels : Levels (set t (lhs_of gates j) x) n a
  give-levels = record {
    one = level-same t (set t (lhs_of gates j) x) (p0 n a) (p1 n a) (a / 32) (λ w k. above (p0 n a + w) (omega arith))
        (λ w k. above (p1 n a + w) (omega arith)) q.waiting.marks.levels.one;
    two = level-same t (set t (lhs_of gates j) x) (p1 n a) (p2 n a) (a / 1024) (λ w k. above (p1 n a + w) (omega arith))
        (λ w k. above (p2 n a + w) (omega arith)) q.waiting.marks.levels.two;
    three = level-same t (set t (lhs_of gates j) x) (p2 n a) (p3 n a) (a / 32768) (λ w k. above (p2 n a + w) (omega arith))
        (λ w k. above (p3 n a + w) (omega arith)) q.waiting.marks.levels.three;
  }

  mark-same : (c : ℕ) → is_on (set t (lhs_of gates j) x) (p0 n a) c ≡ is_on t (p0 n a) c
  mark-same c = told_same t (set t (lhs_of gates j) x) (p0 n a) c (above (p0 n a + c / 32) (omega arith))

  pub give-on : is_on (set t (lhs_of gates j) x) (p0 n a) j ≡ true
  give-on = mark-same j ∙ (q.waiting.marks.here j q.within ∙ q.is-ready)

  line : Line gates t n a every j
  line = q.waiting.lines j q.within open-j

  module _ (u : List ℕ) (same : length u ≡ length (set t (lhs_of gates j) x)) (o : TakenOff (set t (lhs_of gates j) x) u n a j) where
    pub give-space : Space gates u n a
    give-space = space-again gates t u n a (same ∙ length-set t (lhs_of gates j) x) q.space

    low : Agree n (set t (lhs_of gates j) x) u
    low p k = o.low p (omega arith)

    mid : (p : ℕ) → n ≤ p → p < p0 n a → get_or u p 0 ≡ get_or t p 0
    mid p h k = o.low p k ∙ above p h

    -- a gate that does not wait for gate j waits for the same as before
    watch-same : (c : ℕ) → c < a → (watched gates t c ≡ 2147483648 + j → ⊥) → watched gates u c ≡ watched gates t c
    watch-same c h d =
        watched-agree gates (set t (lhs_of gates j) x) u n a q.space.inside low c h
        ∙ watched-given gates t n a q.space.inside q.waiting.named j x q.within open-j long q.pos q.small c d

    number_same : (c : ℕ) → c < a → (c ≡ j → ⊥) → numbered_v u (lhs_of gates c) ≡ numbered_v t (lhs_of gates c)
    number_same c h d =
        numbered-agree (set t (lhs_of gates j) x) u n (lhs_of gates c) low (q.space.inside c h).0
        ∙ given-other t (lhs_of gates j) x give-fits q.pos q.small (lhs_of gates c)
        (λ e. d (only-j gates t n a q.space.inside q.waiting.named j x q.within open-j long q.pos q.small c h e))

    -- a gate that waits is not gate j
    waits-other : (c g : ℕ) → watched gates t c ≡ 2147483648 + g → c ≡ j → ⊥
    waits-other c g e z = omega (arith, low-j, sym (ap (watched gates t) z) ∙ e)

    nexts : (l : List ℕ) → ((c : ℕ) → has c l ≡ true → c < a) → (h : ℕ) → Chain t (n + a) h l → Chain u (n + a) h l
    nexts l f h = chain-kept t u (n + a) h l (λ c e. mid (n + a + c) (omega arith) (omega (arith, f c e)))

    -- the chains of the other gates
    line_same : (g : ℕ) → g < a → numbered_v u (lhs_of gates g) ≡ false → Line gates u n a (λ c. not (has c line.l)) g
    line_same g h e = record {
      l = m.l;
      chain = subst (λ (y : ℕ). Chain u (n + a) y m.l) (sym (mid (n + g) (omega arith) (omega arith)))
          (nexts m.l (λ c k. (m.its c k).0) (get_or t (n + g) 0) m.chain);
      once = m.once;
      its = λ c k.
          let i = m.its c k in
          let away : watched gates t c ≡ 2147483648 + j → ⊥ = λ z. other (omega (arith, sym i.2 ∙ z)) in (
            i.0,
            ap not (absent (has c line.l) (λ z. away (line.its c z).2)),
            watch-same c i.0 away ∙ i.2,
            number_same c i.0 (waits-other c g i.2) ∙ i.3,
          );
      all = λ c k d w.
          let away : watched gates t c ≡ 2147483648 + j → ⊥ = λ z. false≢true (sym (not-true (has c line.l) d) ∙ line.all c k refl z) in
          m.all c k refl (sym (watch-same c k away) ∙ w);
    }
      where
        was : (lhs_of gates g ≡ lhs_of gates j → ⊥) × (numbered_v t (lhs_of gates g) ≡ false)
        was =
            given-unnumbered t (lhs_of gates j) x give-fits q.pos q.small (lhs_of gates g)
            (sym (numbered-agree (set t (lhs_of gates j) x) u n (lhs_of gates g) low (q.space.inside g h).0) ∙ e)

        other : g ≡ j → ⊥
        other z = was.0 (ap (lhs_of gates) z)

        m : Line gates t n a every g
        m = q.waiting.lines g h was.1

    named : Named gates u n a
    named =
        named-agree gates (set t (lhs_of gates j) x) u n a q.space.inside low
        (named-given gates t n a q.space.inside q.waiting.named j x q.within open-j long q.pos q.small)

    ready-u : (c : ℕ) → c < a → ready_at gates u c ≡ (not (numbered_v u (lhs_of gates c)) && ltb (watched gates u c) 2147483648)
    ready-u = ready-watched gates u n a q.space.inside named

    ready-t : (c : ℕ) → c < a → ready_at gates t c ≡ (not (numbered_v t (lhs_of gates c)) && ltb (watched gates t c) 2147483648)
    ready-t = ready-watched gates t n a q.space.inside q.waiting.named

    -- the marks: gate j's is gone, those of its chain are not set yet
    mark-j : is_on u (p0 n a) j ≡ (not (has j line.l) && ready_at gates u j)
    mark-j =
        o.gone
        ∙ sym (ap (λ (b : Bool). not (has j line.l) && b)
        (ready-u j q.within
        ∙ ap (λ (b : Bool). not b && ltb (watched gates u j) 2147483648)
        (numbered-agree (set t (lhs_of gates j) x) u n (lhs_of gates j) low (q.space.inside j q.within).0
        ∙ given-here t (lhs_of gates j) x give-fits q.pos q.small))
        ∙ and-false (not (has j line.l)))

    mark-other : (c : ℕ) → c < a → (c ≡ j → ⊥) → is_on u (p0 n a) c ≡ (not (has c line.l) && ready_at gates u c)
    mark-other c h d =
        o.others c d (omega arith) ∙ (mark-same c ∙ (q.waiting.marks.here c h ∙ go (has c line.l) refl))
      where
        go : (b : Bool) → has c line.l ≡ b → ready_at gates t c ≡ (not (has c line.l) && ready_at gates u c)
        go true e =
            ready-t c h
            ∙ (ap (λ (b : Bool). not (numbered_v t (lhs_of gates c)) && b)
            (le-ltb (watched gates t c) 2147483648 (omega (arith, (line.its c e).2))) ∙ and-false (not (numbered_v t (lhs_of gates c))))
            ∙ sym (ap (λ (b : Bool). not b && ready_at gates u c) e)
        go false e =
            let away : watched gates t c ≡ 2147483648 + j → ⊥ = λ z. false≢true (sym e ∙ line.all c h refl z) in
            ready-t c h
            ∙ ap₂ (λ (b : Bool) (y : ℕ). not b && ltb y 2147483648) (sym (number_same c h d)) (sym (watch-same c h away))
            ∙ sym (ready-u c h) ∙ sym (ap (λ (b : Bool). not b && ready_at gates u c) e)

    pub give-waking : (h : ℕ) → h ≡ get_or t (n + j) 0 → Waking gates u n a h
    give-waking h e = record {
      todo = line.l;
      chain = subst (λ (y : ℕ). Chain u (n + a) y line.l) (sym e) (nexts line.l (λ c k. (line.its c k).0) (get_or t (n + j) 0) line.chain);
      once = line.once;
      each = λ c k. let i = line.its c k in (i.0, number_same c i.0 (waits-other c j i.2) ∙ i.3);
      rest = record {
        named = named;
        lines = line_same;
        marks = record {
          here = λ c k. here c k (eqb c j) refl;
          past = λ c k f. o.others c (λ z. omega (arith, z, q.within)) f ∙ (mark-same c ∙ q.waiting.marks.past c k f);
          levels = o.levels;
        };
      };
    }
      where
        here : (c : ℕ) → c < a → (b : Bool) → eqb c j ≡ b → is_on u (p0 n a) c ≡ (not (has c line.l) && ready_at gates u c)
        here c k true z =
            subst (λ (y : ℕ). is_on u (p0 n a) y ≡ (not (has y line.l) && ready_at gates u y)) (sym (eqb-true c j z)) mark-j
        here c k false z = mark-other c k (eqb-false c j z)

    pub give-done : (w : List ℕ) → Waiting gates w n a every → Agree n u w → Given gates t w n a j x
    give-done w done f = record { low = λ p k. f p k ∙ low p k; waiting = done }
