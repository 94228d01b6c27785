-- One gate more: dropped, or retained with the next variable.
use Prim.Native.Nat.{ℕ, suc, ◌+◌, ◌-◌, ◌*◌, ◌≤◌, ◌<◌, min, max}
use mathlib.Core.Path.{◌≡◌, refl, sym, ap, ap₂, ◌∙◌, subst}
use mathlib.Core.Bool.{Bool, true, false}
use mathlib.Core.List.{List, [], ◌∷◌, ◌++◌, map}
use Rattle.std.specs.Prelude.{Some, None}
use native.Mathlib.Omega.{arith}
use native.Mathlib.Numerals.{add-one}
use lib.ListN.{length, get_or, set, take, drop, length-append, length-set}
use lib.Seq.{take-suc, take-suc-set, take_at, get_or-take, get_or-set_other, get_or-append-add, get_or-drop}
use Rattle.plan.specs.Literals.{lit_of, var_of, sign_of, signed}
use Rattle.plan.specs.Circuit.{Gate, gate_line, flat, has}
use Rattle.plan.specs.Binary.{lits_from}
use Rattle.plan.specs.Convert.{gate_for}
use Rattle.plan.specs.Reduce.{Reduced, becomes, retain}
use Rattle.plan.specs.Outcome.{put}
use Rattle.laws.proofs.Put.{put-put, put-none}
use Rattle.laws.proofs.Reading.Runs.{length-lits}
use Rattle.laws.proofs.Tables.{gate_at, gates_at}
use Rattle.lines.proofs.gates.Words.{three-put}
use Rattle.drop.specs.Marks.{bit, Marked}
use Rattle.drop.specs.Retained.{dropped, retain_gate, retain_gates, kept, Held, Roomy, Stepped, Done}

retain-snoc : (vs : List ℕ) (r : Reduced) (gs : List Gate) (g : Gate) → retain_gates vs r (gs ++ (g ∷ [])) ≡ retain_gate vs (retain_gates vs r gs) g
retain-snoc vs r [] g = refl
retain-snoc vs r (x ∷ gs) g = retain-snoc vs (retain_gate vs r x) gs g

kept_more : (vs gates : List ℕ) (base k : ℕ) → kept vs gates base (k + 1) ≡ retain_gate vs (kept vs gates base k) (gate_at gates k)
unfolding kept
kept_more vs gates base k =
    let start : Reduced = record { became = lits_from 0 base; retained = []; fresh = base } in
    ap (λ (j : ℕ). retain_gates vs start (gates_at gates j)) (add-one k) ∙ retain-snoc vs start (gates_at gates k) (gate_at gates k)

bit-0 : (b : Bool) → bit b ≡ 0 → b ≡ false
bit-0 true e = absurd (omega arith)
bit-0 false e = refl

bit-1 : (b : Bool) → (bit b ≡ 0 → ⊥) → b ≡ true
bit-1 true n = refl
bit-1 false n = absurd (n refl)

flat-snoc : (gs : List Gate) (g : Gate) → flat (map gate_line (gs ++ (g ∷ []))) ≡ flat (map gate_line gs) ++ gate_line g
flat-snoc [] g = refl
flat-snoc (x ∷ gs) g = ap (λ (l : List ℕ). gate_line x ++ l) (flat-snoc gs g)

length-flat : (gs : List Gate) → length (flat (map gate_line gs)) ≡ 3 * length gs
length-flat [] = refl
length-flat (g ∷ gs) = omega (arith, length-flat gs)

-- what a side became, read in the table
side-became : (vs gates to₀ to t : List ℕ) (base k n : ℕ) → Held vs gates to₀ to t base k n → (l : ℕ) → var_of l < base + k
    → becomes t l ≡ becomes (kept vs gates base k).became l
side-became vs gates to₀ to t base k n h l lt =
    ap (signed (sign_of l)) (sym (get_or-take (base + k) t (var_of l) 0 lt) ∙ ap (λ (m : List ℕ). get_or m (var_of l) 0) h.became)

module _ (gates to t : List ℕ) (base k n : ℕ) (r : Roomy gates to t base k n) where
  one_on : base + (k + 1) ≡ suc (base + k)
  one_on = omega arith

  -- dropped
  drop-held : get_or t (base + k) 0 ≡ 0 → (vs to₀ : List ℕ) → Held vs gates to₀ to t base k n → Held vs gates to₀ to t base (k + 1) n
  drop-held z vs to₀ h =
      let R = kept vs gates base k in
      let out : has (var_of (gate_at gates k).lhs) vs ≡ false
      = ap (λ (v : ℕ). has v vs) r.in_place.lhs ∙ bit-0 (has (base + k) vs) (sym (h.marks (base + k) (omega arith)) ∙ z) in
      let a₀ = becomes R.became (gate_at gates k).rhs0 in
      let b₀ = becomes R.became (gate_at gates k).rhs1 in
      let next : kept vs gates base (k + 1) ≡ retain R a₀ b₀ (Some 0)
      = kept_more vs gates base k ∙ ap (λ (b : Bool). retain R a₀ b₀ (dropped b)) out in
      record {
        count = h.count ∙ ap (λ (x : Reduced). length x.retained) (sym next);
        fresh = ap (λ (x : Reduced). x.fresh) next ∙ h.fresh;
        became =
            ap (λ (j : ℕ). take j t) one_on ∙ take-suc t (base + k) 0 r.t-long
            ∙ ap₂ (λ (l : List ℕ) (x : ℕ). l ++ (x ∷ [])) h.became z ∙ ap (λ (x : Reduced). x.became) (sym next);
        marks = λ v lt. h.marks v (omega arith);
        retained = h.retained ∙ ap (λ (x : Reduced). put to₀ 0 (flat (map gate_line x.retained))) (sym next);
        same = h.same;
      }

  pub drops : get_or t (base + k) 0 ≡ 0 → Stepped gates to to t t base k n n
  drops z = record { most-one = omega arith; held = drop-held z }

  -- retained
  module _ (nz : get_or t (base + k) 0 ≡ 0 → ⊥) (l a b x y : ℕ) (la : l ≡ lit_of (base + n)) (xa : x ≡ max a b) (yb : y ≡ min a b)
      (ae : a ≡ becomes t (get_or gates (3 * k + 1) 0)) (be : b ≡ becomes t (get_or gates (3 * k + 2) 0)) where
    abbrev to' : List ℕ
    to' = set (set (set to (3 * n) l) (3 * n + 1) x) (3 * n + 2) y

    retain-held : (vs to₀ : List ℕ) → Held vs gates to₀ to t base k n → Held vs gates to₀ to' (set t (base + k) l) base (k + 1) (n + 1)
    retain-held vs to₀ h =
        let R = kept vs gates base k in
        let g = gate_at gates k in
        let in-vs : has (var_of g.lhs) vs ≡ true
        = ap (λ (v : ℕ). has v vs) r.in_place.lhs
        ∙ bit-1 (has (base + k) vs) (λ z. nz (h.marks (base + k) (omega arith) ∙ z)) in
        let a₀ = becomes R.became g.rhs0 in
        let b₀ = becomes R.became g.rhs1 in
        let next : kept vs gates base (k + 1) ≡ retain R a₀ b₀ None
        = kept_more vs gates base k ∙ ap (λ (q : Bool). retain R a₀ b₀ (dropped q)) in-vs in
        let a-is : a ≡ a₀ = ae ∙ side-became vs gates to₀ to t base k n h g.rhs0 r.in_place.rhs0 in
        let b-is : b ≡ b₀ = be ∙ side-became vs gates to₀ to t base k n h g.rhs1 r.in_place.rhs1 in
        let l-is : l ≡ lit_of R.fresh = la ∙ ap lit_of (sym h.fresh) in
        let new : gate_line (gate_for R.fresh a₀ b₀) ≡ l ∷ x ∷ y ∷ []
        = λ j. sym l-is j ∷ sym (xa ∙ ap₂ max a-is b-is) j ∷ sym (yb ∙ ap₂ min a-is b-is) j ∷ [] in
        let old = flat (map gate_line R.retained) in
        let at : 3 * n ≡ 0 + length old = omega (arith, length-flat R.retained, h.count) in
        let fits : 0 + length (old ++ (l ∷ x ∷ y ∷ [])) ≤ length to₀
        = omega (arith, length-append old (l ∷ x ∷ y ∷ []), at, r.to-long, h.same) in
        record {
          count = omega (arith, h.count, length-append R.retained (gate_for R.fresh a₀ b₀ ∷ []))
              ∙ ap (λ (q : Reduced). length q.retained) (sym next);
          fresh = ap (λ (q : Reduced). q.fresh) next ∙ omega (arith, h.fresh);
          became =
              ap (λ (j : ℕ). take j (set t (base + k) l)) one_on ∙ take-suc-set t (base + k) l r.t-long
              ∙ ap₂ (λ (m : List ℕ) (q : ℕ). m ++ (q ∷ [])) h.became l-is ∙ ap (λ (q : Reduced). q.became) (sym next);
          marks = λ v lt. get_or-set_other t (base + k) v l 0 (λ e. omega arith) ∙ h.marks v (omega arith);
          retained =
              three-put to (3 * n) l x y r.to-long
              ∙ ap₂ (λ (m : List ℕ) (j : ℕ). put m j (l ∷ x ∷ y ∷ [])) h.retained at
              ∙ put-put to₀ 0 old (l ∷ x ∷ y ∷ []) fits
              ∙ ap (put to₀ 0) (ap (λ (q : List ℕ). old ++ q) (sym new) ∙ sym (flat-snoc R.retained (gate_for R.fresh a₀ b₀)))
              ∙ ap (λ (q : Reduced). put to₀ 0 (flat (map gate_line q.retained))) (sym next);
          same = length-set (set (set to (3 * n) l) (3 * n + 1) x) (3 * n + 2) y ∙ length-set (set to (3 * n) l) (3 * n + 1) x
              ∙ length-set to (3 * n) l ∙ h.same;
        }

    pub retains : Stepped gates to to' t (set t (base + k) l) base k n (n + 1)
    retains = record { most-one = omega arith; held = retain-held }

-- the leaves became themselves, and the marks stand after them
pub record Begun (vs : List ℕ) (base : ℕ) (t : List ℕ) : Type 0 where
  pub leaves : take base t ≡ lits_from 0 base
  pub marks : (v : ℕ) → base ≤ v → get_or t v 0 ≡ bit (has v vs)

pub begun : (vs t t' : List ℕ) (base : ℕ) → t' ≡ put t 0 (lits_from 0 base) → Marked vs t → Begun vs base t'
begun vs t t' base e m = record {
  leaves = ap (take base) e ∙ take_at (lits_from 0 base) (drop (0 + length (lits_from 0 base)) t) base (length-lits 0 base);
  marks = λ v lt. beyond v lt ∙ m v;
}
  where
    beyond : (v : ℕ) → base ≤ v → get_or t' v 0 ≡ get_or t v 0
    beyond v lt =
        let q : v ≡ length (lits_from 0 base) + (v - base) = omega (arith, length-lits 0 base) in
        let q' : 0 + length (lits_from 0 base) + (v - base) ≡ v = omega (arith, length-lits 0 base) in
        ap₂ (λ (l : List ℕ) (j : ℕ). get_or l j 0) e q
        ∙ get_or-append-add (lits_from 0 base) (drop (0 + length (lits_from 0 base)) t) (v - base) 0
        ∙ get_or-drop (0 + length (lits_from 0 base)) t (v - base) 0 ∙ ap (λ (j : ℕ). get_or t j 0) q'

-- the loop
pub record Going (gates to₀ t₀ to t : List ℕ) (base a k n : ℕ) : Type 0 where
  pub within : k ≤ a
  pub few : n ≤ k
  pub to-long : length to ≡ length to₀
  pub t-long : length t ≡ length t₀
  pub held : (vs : List ℕ) → Begun vs base t₀ → Held vs gates to₀ to t base k n

pub going_start : (gates to t : List ℕ) (base a : ℕ) → Going gates to t to t base a 0 0
unfolding kept
going_start gates to t base a = record {
  within = omega arith;
  few = omega arith;
  to-long = refl;
  t-long = refl;
  held = λ vs m. record {
    count = refl;
    fresh = omega arith;
    became = (let z : base + 0 ≡ base = omega arith in ap (λ (j : ℕ). take j t) z ∙ m.leaves);
    marks = λ v lt. m.marks v (omega arith);
    retained = sym (put-none to 0);
    same = refl;
  };
}

pub going_more : {gates to₀ t₀ to t to' t' : List ℕ} {base a k n r : ℕ} → k < a → length to' ≡ length to → length t' ≡ length t
    → Stepped gates to to' t t' base k n r → Going gates to₀ t₀ to t base a k n → Going gates to₀ t₀ to' t' base a (k + 1) r
going_more {to₀ = to₀} lt e f s g = record {
  within = omega arith;
  few = omega (arith, s.most-one, g.few);
  to-long = e ∙ g.to-long;
  t-long = f ∙ g.t-long;
  held = λ vs m. s.held vs to₀ (g.held vs m);
}

pub going_end : {gates to₀ t₀ to t : List ℕ} {base a k n : ℕ} → a ≤ k → Going gates to₀ t₀ to t base a k n → (vs : List ℕ) → Begun vs base t₀
    → Done vs gates to₀ to t base a n
going_end {gates} {to₀} {t₀} {to} {t} {base} {a} {k} {n} le g vs m =
    let is : k ≡ a = omega (arith, g.within) in
    let h : Held vs gates to₀ to t base a n = subst (λ (j : ℕ). Held vs gates to₀ to t base j n) is (g.held vs m) in
    record { count = h.count; became = h.became; retained = h.retained }
