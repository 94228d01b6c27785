-- One turn of the sweep over the gates, and the sweep over a part of a table.
use Prim.Native.Nat.{ℕ, ◌+◌, ◌*◌, ◌-◌, ◌<◌, ◌≤◌}
use mathlib.Core.Path.{◌≡◌, refl, sym, ap, ap₂, ◌∙◌, subst}
use mathlib.Core.List.{List, [], ◌∷◌, ◌++◌, append-nil}
use native.Mathlib.Nat.{le_refl}
use native.Mathlib.Numerals.{add-one}
use native.Mathlib.Omega.{arith}
use borrow.Rule.Slice.PartMut.{mid_of, put_mid, post_of, mid_len, Post-is}
use lib.ListN.{length, get_or, take, drop, length-drop}
use lib.Seq.{take_all, drop-drop, drop-length}
use lib.Bits.{bit_and, bit_or}
use Rattle.plan.specs.Literals.{var_of, neg_of}
use Rattle.plan.specs.Circuit.{Gate}
use Rattle.plan.specs.Step.{Value, and, lit}
use Rattle.plan.specs.Outcome.{put}
use Rattle.laws.proofs.Put.{put-there}
use Rattle.laws.proofs.Tables.{length-firsts, gate_at, gates_at}
use Rattle.laws.proofs.Running.Sides.{Sides, sides-below}
use Rattle.laws.proofs.Running.Sweep.{sweep, at, length-sweep}
use Rattle.step.specs.values.Words.{may0, may1, values_at}
use Rattle.step.specs.sweep.Lookup.{lit_words, and_words, Inside, Gated, Settles, Sweeps, swept}
use Rattle.step.proofs.sweep.NotAnd.{negated-may, and-may1, and-may0}
use Rattle.step.proofs.sweep.Spreading.{Spread, literal-word, spread-more, values_length}

sweep-snoc : (l : List Value) (gs : List Gate) (g : Gate)
    → sweep l (gs ++ (g ∷ [])) ≡ sweep l gs ++ (and (lit (at (sweep l gs)) g.rhs0) (lit (at (sweep l gs)) g.rhs1) ∷ [])
sweep-snoc l [] g = refl
sweep-snoc l (x ∷ gs) g = sweep-snoc (l ++ (and (lit (at l) x.rhs0) (lit (at l) x.rhs1) ∷ [])) gs g

-- i gates are settled, whatever values stand below
abbrev pub Settled : List ℕ → ℕ → List ℕ → ℕ → List ℕ → Type 0
Settled gates first t₀ i t =
    (vals : List Value) → length vals ≡ first → t₀ ≡ put t₀ 0 (lit_words vals) → Spread 0 (sweep vals (gates_at gates i)) t₀ t

module _ {gates : List ℕ} {n first : ℕ} {t₀ : List ℕ} (p : Gated gates n first t₀) where
  module _ (i : ℕ) (h : i < n) (t : List ℕ) (same : length t ≡ length t₀) where
    abbrev a : ℕ
    a = (gate_at gates i).rhs0

    abbrev b : ℕ
    b = (gate_at gates i).rhs1

    sides : Sides (first + i) (gate_at gates i)
    sides = sides-below first gates n i h p.ordered

    pub first-in : Inside 0 t a
    first-in = omega (arith, sides.0, p.table-long)

    pub second-in : Inside 0 t b
    second-in = omega (arith, sides.1, p.table-long)

    module _ (vals : List Value) (below : length vals ≡ first) (s : Spread 0 (sweep vals (gates_at gates i)) t₀ t) where
      abbrev w : ℕ → Value
      w = at (sweep vals (gates_at gates i))

      count : length (sweep vals (gates_at gates i)) ≡ first + i
      count = length-sweep vals (gates_at gates i) ∙ omega (arith, length-firsts (gate_at gates) i)

      -- both words of a literal before the turn
      side-may1 : (l : ℕ) → var_of l < first + i → get_or t (0 + l) 0 ≡ may1 (lit w l)
      side-may1 l k = literal-word s (omega (arith, p.table-long)) l (omega (arith, count))

      side-may0 : (l : ℕ) → var_of l < first + i → get_or t (0 + neg_of l) 0 ≡ may0 (lit w l)
      side-may0 l k =
          let half : var_of (neg_of l) ≡ var_of l = omega arith in
          side-may1 (neg_of l) (omega arith) ∙ negated-may w l

      and-there : and_words 0 t a b ≡ lit_words (and (lit w a) (lit w b) ∷ [])
      and-there =
          ap₂ (λ (u v : ℕ). u ∷ v ∷ [])
          (ap₂ bit_and (side-may1 a sides.0) (side-may1 b sides.1) ∙ and-may1 (lit w a) (lit w b))
          (ap₂ bit_or (side-may0 a sides.0) (side-may0 b sides.1) ∙ and-may0 (lit w a) (lit w b))

      one_more : (to : ℕ) (t' : List ℕ) → to ≡ 2 * (first + i) → length t' ≡ length t → t' ≡ put t to (and_words 0 t a b)
          → Spread 0 (sweep vals (gates_at gates (i + 1))) t₀ t'
      one_more to t' here len e =
          subst (λ (l : List Value). Spread 0 l t₀ t') grown
          (spread-more s (and (lit w a) (lit w b)) to t' (omega (arith, count)) (omega (arith, p.table-long)) len
          (e ∙ ap (put t to) and-there))
        where
          grown : sweep vals (gates_at gates i) ++ (and (lit w a) (lit w b) ∷ []) ≡ sweep vals (gates_at gates (i + 1))
          grown =
              sym (sweep-snoc vals (gates_at gates i) (gate_at gates i)) ∙ ap (λ (k : ℕ). sweep vals (gates_at gates k)) (sym (add-one i))

    pub settled-more : Settled gates first t₀ i t → (to : ℕ) (t' : List ℕ) → to ≡ 2 * (first + i) → length t' ≡ length t
        → t' ≡ put t to (and_words 0 t a b)
        → Settled gates first t₀ (i + 1) t'
    settled-more d to t' here len e = λ vals below start. one_more vals below (d vals below start) to t' here len e

-- the literals' words as a part of a table
module _ {gates : List ℕ} {n first lits : ℕ} {t : List ℕ} (p : Sweeps gates n first lits t) where
  abbrev long : ℕ
  long = length t - lits

  inside : lits ≤ length t
  inside = omega (arith, p.table-long)

  part : mid_of lits long t ≡ drop lits t
  part = take_all long (drop lits t) (omega (arith, length-drop lits t))

  pub gated : Gated gates n first (mid_of lits long t)
  gated = record {
    few = p.few;
    gates-long = p.gates-long;
    table-long = omega (arith, p.table-long, mid_len lits (length t) t (le_refl (length t)));
    ordered = p.ordered;
  }

  front : (w : List ℕ) → put (drop lits t) 0 w ≡ w ++ drop (lits + length w) t
  front w =
      let none : 0 + length w ≡ length w = omega arith in
      ap (λ (k : ℕ). w ++ drop k (drop lits t)) none ∙ ap (λ (l : List ℕ). w ++ l) (drop-drop (length w) lits t)

  abbrev vals : List Value
  vals = values_at t 0 first

  there : drop lits t ≡ put (drop lits t) 0 (lit_words vals)
  there = ap (drop lits) p.there ∙ (put-there t lits (lit_words vals) inside ∙ sym (front (lit_words vals)))

  pub swept-there : (u : List ℕ) → Settles gates n first (mid_of lits long t) u → put_mid lits long t u ≡ swept gates n first lits t
  swept-there u d =
      let settled = sweep vals (gates_at gates n) in
      let begin : mid_of lits long t ≡ put (mid_of lits long t) 0 (lit_words vals) =
      part ∙ (there ∙ ap (λ (l : List ℕ). put l 0 (lit_words vals)) (sym part)) in
      let done : u ≡ lit_words settled ++ drop (lits + length (lit_words settled)) t =
      d vals (values_length t first (omega (arith, p.table-long))) begin
      ∙ (ap (λ (l : List ℕ). put l 0 (lit_words settled)) part ∙ front (lit_words settled)) in
      let past : post_of lits long t ≡ [] = Post-is lits (length t) t inside ∙ drop-length t in
      ap₂ (λ (x y : List ℕ). take lits t ++ (x ++ y)) done past ∙ ap (λ (l : List ℕ). take lits t ++ l) (append-nil _)
