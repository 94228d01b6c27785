-- 23: values judged in order, each by those of lower variables.
use Prim.Native.Nat.{ℕ, zero, suc, ◌+◌, ◌-◌, ◌≤◌, ◌<◌}
use mathlib.Core.Path.{◌≡◌, refl, sym, ap, ap₂, ◌∙◌}
use mathlib.Core.Bool.{Bool, true, false, cond, ◌||◌, false≢true}
use mathlib.Core.List.{List, []}
use Rattle.std.specs.Prelude.{Result, Ok, Err, Option, Some, None}
use native.Mathlib.Omega.{arith}
use native.Mathlib.Numerals.{add-one}
use native.Mathlib.Decide.{dec_lt}
use borrow.Author.Tests.{eqb-true, eq-eqb, ne_eqb}
use lib.Dec.{eqb}
use lib.ListN.{get_or}
use Rattle.plan.specs.declared.Refusal.{Refusal}
use Rattle.plan.specs.declared.Refusal.TheVariants.{WrongValue}
use Rattle.plan.specs.Literals.{var_of}
use Rattle.plan.specs.Refusals.{stage}
use Rattle.plan.specs.Circuit.{Gate}
use Rattle.plan.specs.Depends.{find}
use Rattle.plan.specs.Given.{or_else}
use Rattle.plan.specs.Step.{Value, v0, v1, vx, code_of, value_of, is_code, and, lit, gate_value}
use Rattle.plan.specs.Outcome.{checked_by}
use Rattle.laws.proofs.Tables.{gate_at, gates_at}
use Rattle.laws.proofs.Running.Binary.{Binary, find_none}
use Rattle.laws.proofs.Running.Sides.{sides-below}
use Rattle.plan.specs.Rewire.{value_on, follows, wrong_from}
use Rattle.laws.proofs.Rewiring.Screen.{Right, value-code, all_right}
use Rattle.laws.proofs.Rewiring.Rows.{found_at}
use Rattle.rewire.specs.Shown.{Shows, Row, Ordered}

-- the answer of a stage of 23
abbrev pub judged : Option ℕ → Result Unit Refusal
judged o = checked_by (stage WrongValue o)

-- a byte is right exactly where a code was to stand
pub code-right : (b : ℕ) → is_code b ≡ true → b ≡ code_of (value_of b)
code-right b = go (eqb b 48) (eqb b 49) (eqb b 120) refl refl refl
  where
    go : (t u w : Bool) → eqb b 48 ≡ t → eqb b 49 ≡ u → eqb b 120 ≡ w → (t || (u || w)) ≡ true → b ≡ code_of (cond t v0 (cond u v1 vx))
    go true u w p q r e = eqb-true b 48 p
    go false true w p q r e = eqb-true b 49 q
    go false false true p q r e = eqb-true b 120 r
    go false false false p q r e = absurd (false≢true e)

pub is-shown : (b : ℕ) (a : Value) → b ≡ code_of a → b ≡ code_of (value_of b)
is-shown b a e = e ∙ ap code_of (sym (ap value_of e ∙ value-code a))

-- of n variables from `from` on those below v are right
abbrev pub Judging : List Gate → List ℕ → ℕ → ℕ → ℕ → Type 0
Judging gs bytes from n v = wrong_from gs bytes from n ≡ wrong_from gs bytes v (from + n - v)

module _ (gs : List Gate) (bytes : List ℕ) (from n v : ℕ) (g : Judging gs bytes from n v) where
  one_left : v < from + n → wrong_from gs bytes from n ≡ wrong_from gs bytes v (suc (from + n - (v + 1)))
  one_left h = let e : from + n - v ≡ suc (from + n - (v + 1)) = omega arith in g ∙ ap (wrong_from gs bytes v) e

  pub judging-turn : v < from + n → Right gs bytes v → Judging gs bytes from n (v + 1)
  judging-turn h r =
      one_left h
      ∙ ap (λ (t : Bool). cond t (wrong_from gs bytes (suc v) (from + n - (v + 1))) (Some v)) (eq-eqb (get_or bytes v 0) (code_of (follows gs bytes v)) r)
      ∙ ap (λ (u : ℕ). wrong_from gs bytes u (from + n - (v + 1))) (sym (add-one v))

  pub judging-stop : v < from + n → (Right gs bytes v → ⊥) → Err (WrongValue v) ≡ judged (wrong_from gs bytes from n)
  judging-stop h r =
      sym (ap judged (one_left h
      ∙ ap (λ (t : Bool). cond t (wrong_from gs bytes (suc v) (from + n - (v + 1))) (Some v)) (ne_eqb (get_or bytes v 0) (code_of (follows gs bytes v)) r)))

-- what is an input's or a latch's
pub leaf-right : (bytes : List ℕ) (v : ℕ) → 1 ≤ v → is_code (get_or bytes v 0) ≡ true → Right [] bytes v
leaf-right bytes v h e =
    code-right (get_or bytes v 0) e ∙ sym (ap (λ (t : Bool). code_of (cond t v0 (value_on bytes v))) (ne_eqb v 0 (λ p. omega arith)))

-- gates in order: those below gate j are right
pub record Gating (gates : List ℕ) (a base : ℕ) (values : List ℕ) (j : ℕ) : Type 0 where
  pub judging : Judging (gates_at gates a) values base a (base + j)
  pub shown : Shows (value_on values) (base + j) values

module _ (gates : List ℕ) (a base : ℕ) (values : List ℕ) (o : Ordered gates a base values) where
  pub row_at : (j : ℕ) → j < a → Row gates j values
  row_at j h =
      let s = sides-below base gates a j h o.binary in
      record { fits = omega (arith, o.gates-long); rhs0 = omega (arith, s.0, o.values-long); rhs1 = omega (arith, s.1, o.values-long) }

  module _ (j : ℕ) (h : j < a) (r : ℕ)
      (says : (w : ℕ → Value) → get_or values (var_of (gate_at gates j).rhs0) 0 ≡ code_of (w (var_of (gate_at gates j).rhs0))
      → get_or values (var_of (gate_at gates j).rhs1) 0 ≡ code_of (w (var_of (gate_at gates j).rhs1))
      → r ≡ code_of (and (lit w (gate_at gates j).rhs0) (lit w (gate_at gates j).rhs1))) (g : Gating gates a base values j) where
    -- what is computed is what must be
    computed : r ≡ code_of (follows (gates_at gates a) values (base + j))
    computed =
        let s = sides-below base gates a j h o.binary in
        says (value_on values) (g.shown (var_of (gate_at gates j).rhs0) s.0) (g.shown (var_of (gate_at gates j).rhs1) s.1)
        ∙ ap code_of (sym (ap (gate_value (value_on values) (cond (eqb (base + j) 0) v0 (value_on values (base + j))))
        (found_at base gates a j h o.binary)))

    pub gating-turn : get_or values (base + j) 0 ≡ r → Gating gates a base values (j + 1)
    gating-turn e =
        let right : Right (gates_at gates a) values (base + j) = e ∙ computed in
        let next : base + j + 1 ≡ base + (j + 1) = omega arith in
        record {
          judging = judging-turn (gates_at gates a) values base a (base + j) g.judging (omega arith) right
              ∙ ap (λ (v : ℕ). wrong_from (gates_at gates a) values v (base + a - v)) next;
          shown = λ v k. here v k (dec_lt v (base + j)) (is-shown (get_or values (base + j) 0) (follows (gates_at gates a) values (base + j)) right);
        }
      where
        here : (v : ℕ) → v < base + (j + 1) → Dec (v < base + j) → get_or values (base + j) 0 ≡ code_of (value_on values (base + j))
            → get_or values v 0 ≡ code_of (value_on values v)
        here v k (yes q) f = g.shown v q
        here v k (no q) f = let at : base + j ≡ v = omega arith in
            sym (ap (λ (u : ℕ). get_or values u 0) at) ∙ f ∙ ap (λ (u : ℕ). code_of (value_on values u)) at

    pub gating-stop : (get_or values (base + j) 0 ≡ r → ⊥) → Err (WrongValue (base + j)) ≡ judged (wrong_from (gates_at gates a) values base a)
    gating-stop n = judging-stop (gates_at gates a) values base a (base + j) g.judging (omega arith) (λ e. n (e ∙ sym computed))

-- one after the other: first the leaves, which no gate defines
split : (gs : List Gate) (bytes : List ℕ) (n v m : ℕ)
    → wrong_from gs bytes v (n + m) ≡ or_else (wrong_from gs bytes v n) (wrong_from gs bytes (v + n) m)
split gs bytes zero v m =
    let p : 0 + m ≡ m = omega arith in
    let q : v ≡ v + 0 = omega arith in
    ap (wrong_from gs bytes v) p ∙ ap (λ (u : ℕ). wrong_from gs bytes u m) q
split gs bytes (suc n) v m =
    let p : suc n + m ≡ suc (n + m) = omega arith in
    let q : suc v + n ≡ v + suc n = omega arith in
    ap (wrong_from gs bytes v) p ∙ go (eqb (get_or bytes v 0) (code_of (follows gs bytes v)))
    (split gs bytes n (suc v) m ∙ ap (λ (u : ℕ). or_else (wrong_from gs bytes (suc v) n) (wrong_from gs bytes u m)) q)
  where
    go : (t : Bool) → wrong_from gs bytes (suc v) (n + m) ≡ or_else (wrong_from gs bytes (suc v) n) (wrong_from gs bytes (v + suc n) m)
        → cond t (wrong_from gs bytes (suc v) (n + m)) (Some v) ≡ or_else (cond t (wrong_from gs bytes (suc v) n) (Some v)) (wrong_from gs bytes (v + suc n) m)
    go true e = e
    go false e = refl

low : (gs : List Gate) (bytes : List ℕ) (n v : ℕ) → ((u : ℕ) → u < v + n → find u gs ≡ None) → wrong_from gs bytes v n ≡ wrong_from [] bytes v n
low gs bytes zero v h = refl
low gs bytes (suc n) v h =
    ap₂ (λ (a : Value) (o : Option ℕ). cond (eqb (get_or bytes v 0) (code_of a)) o (Some v))
    (ap (gate_value (value_on bytes) (cond (eqb v 0) v0 (value_on bytes v))) (h v (omega arith)))
    (low gs bytes n (suc v) (λ u k. h u (omega arith)))

module _ (gates : List ℕ) (a base : ℕ) (values : List ℕ) (b : Binary base (gates_at gates a)) where
  pub in-turn : wrong_from (gates_at gates a) values 0 (base + a) ≡ or_else (wrong_from [] values 0 base) (wrong_from (gates_at gates a) values base a)
  in-turn =
      let gs = gates_at gates a in
      let q : 0 + base ≡ base = omega arith in
      split gs values base 0 a
      ∙ ap₂ (λ (o : Option ℕ) (v : ℕ). or_else o (wrong_from gs values v a)) (low gs values base 0 (λ u h. find_none base gs b u (omega arith))) q

refused-first : (o p : Option ℕ) (r : Refusal) → Err r ≡ judged o → Err r ≡ judged (or_else o p)
refused-first None p r e = let z : ◌≡◌ {A = ℕ} 0 1 = cc in absurd (omega arith)
refused-first (Some v) p r e = e

good-wrong : (o : Option ℕ) → Ok tt ≡ judged o → o ≡ None
good-wrong None e = refl
good-wrong (Some v) e = let z : ◌≡◌ {A = ℕ} 0 1 = cc in absurd (omega arith)

module _ (gates : List ℕ) (a base : ℕ) (values : List ℕ) (b : Binary base (gates_at gates a)) where
  pub leaf-refused : (r : Refusal) → Err r ≡ judged (wrong_from [] values 0 base)
      → Err r ≡ judged (wrong_from (gates_at gates a) values 0 (base + a))
  leaf-refused r e =
      refused-first (wrong_from [] values 0 base) (wrong_from (gates_at gates a) values base a) r e ∙ sym (ap judged (in-turn gates a base values b))

  pub leaves-good : Ok tt ≡ judged (wrong_from [] values 0 base)
      → judged (wrong_from (gates_at gates a) values base a) ≡ judged (wrong_from (gates_at gates a) values 0 (base + a))
  leaves-good e =
      sym (ap judged (in-turn gates a base values b ∙ ap (λ (o : Option ℕ). or_else o (wrong_from (gates_at gates a) values base a))
      (good-wrong (wrong_from [] values 0 base) e)))

pub leaves-shown : (values : List ℕ) (base : ℕ) → Ok tt ≡ judged (wrong_from [] values 0 base) → Shows (value_on values) base values
leaves-shown values base e v h =
    is-shown (get_or values v 0) (follows [] values v)
    (all_right [] values base 0 (good-wrong (wrong_from [] values 0 base) e) v (omega arith) (omega arith))
