-- One gate more: a literal stands in for it, or it is retained.
use mathlib.Core.Path.{◌≡◌, refl, sym, ap, ap₂, ◌∙◌, subst}
use mathlib.Core.Bool.{Bool, true, false, cond}
use mathlib.Core.List.{List, [], ◌∷◌, ◌++◌}
use Rattle.std.specs.Prelude.{Option, Some, None}
use Prim.Native.Nat.{ℕ, suc, ◌+◌, ◌*◌, ◌<◌, ◌≤◌, min, max}
use native.Mathlib.Omega.{arith}
use native.Mathlib.Numerals.{add-one}
use lib.Dec.{ltb}
use lib.ListN.{length, get_or, set, take, length-set}
use lib.Seq.{take-suc-set, get_or-take, take-set-le}
use Rattle.plan.specs.declared.Lit.{Lit}
use Rattle.plan.specs.Literals.{lit_of, var_of, sign_of, signed, lit_at, word_of}
use Rattle.plan.specs.Circuit.{Gate}
use Rattle.plan.specs.Binary.{lits_from}
use Rattle.plan.specs.Reduce.{Reduced, becomes, stand_in, retain, reduce_gate, reduce_gates}
use Rattle.laws.proofs.Tables.{gate_at, gates_at}
use Rattle.laws.proofs.Running.Signs.{signed-half}
use Rattle.laws.proofs.Running.Upward.{lits-low}
use Rattle.laws.proofs.Running.ReduceGates.{Ok, ok-all}
use Rattle.reduce.specs.declared.pairs.Place.{Place}
use Rattle.reduce.specs.pairs.Pairs.{named, Room, Rooted, Hangs, stored, gates_hung, scratch_hung}
use Rattle.reduce.proofs.pairs.Hung.{hung-gates, hung-past, word-before, slot-under, slot-over, hung}
use Rattle.reduce.specs.folding.Rules.{StandsIn}
use Rattle.reduce.specs.folding.Folded.{folded, Held, Roomy, Stepped}

-- the definition, one gate on
reduce-snoc : (r : Reduced) (gs : List Gate) (g : Gate)
    → reduce_gates r (gs ++ (g ∷ []))
    ≡ reduce_gate (reduce_gates r gs) (becomes (reduce_gates r gs).became g.rhs0) (becomes (reduce_gates r gs).became g.rhs1)
reduce-snoc r [] g = refl
reduce-snoc r (x ∷ gs) g = reduce-snoc (reduce_gate r (becomes r.became x.rhs0) (becomes r.became x.rhs1)) gs g

folded_more : (gates : List ℕ) (base k : ℕ)
    → let r = folded gates base k in
    folded gates base (k + 1)
    ≡ reduce_gate r (becomes r.became (get_or gates (3 * k + 1) 0)) (becomes r.became (get_or gates (3 * k + 2) 0))
unfolding folded
folded_more gates base k =
    let start : Reduced = record { became = lits_from 0 base; retained = []; fresh = base } in
    ap (λ (j : ℕ). reduce_gates start (gates_at gates j)) (add-one k) ∙ reduce-snoc start (gates_at gates k) (gate_at gates k)

-- what variables became is of variables in use
folded-ok : (gates : List ℕ) (base k : ℕ) → 0 < base → Ok base (folded gates base k)
unfolding folded
folded-ok gates base k h =
    ok-all base (record { became = lits_from 0 base; retained = []; fresh = base }) (gates_at gates k)
    (record { some-var = h; order = tt; count = omega arith; low = lits-low 0 base base h (omega arith) })

module _ {gates to scratch : List ℕ} {base w k n : ℕ} (s : Held gates to scratch base w k n) (r : Roomy gates to scratch base w k) where
  abbrev R : Reduced
  R = folded gates base k

  -- what the sides of gate k became
  abbrev pub left : ℕ
  left = becomes scratch (get_or gates (3 * k + 1) 0)

  abbrev pub right : ℕ
  right = becomes scratch (get_or gates (3 * k + 2) 0)

  word-is : (v : ℕ) → v < base + k → get_or R.became v 0 ≡ get_or scratch v 0
  word-is v h = ap (λ (t : List ℕ). get_or t v 0) (sym s.became) ∙ get_or-take (base + k) scratch v 0 h

  became-is : (l : ℕ) → var_of l < base + k → becomes R.became l ≡ becomes scratch l
  became-is l h = ap (signed (sign_of l)) (word-is (var_of l) h)

  low : (l : ℕ) → var_of l < base + k → var_of (becomes scratch l) < w
  low l h =
      rw (signed-half (sign_of l) (get_or scratch (var_of l) 0))
      (omega (arith, ap var_of (word-is (var_of l) h), (folded-ok gates base k r.leaf).low (var_of l), s.fresh, s.count, r.within))

  pub rooted : Rooted w left right
  rooted = record { larger = low (get_or gates (3 * k + 1) 0) r.below.rhs0; smaller = low (get_or gates (3 * k + 2) 0) r.below.rhs1 }

  pub room : Room to scratch w n
  room = record {
    few = r.few;
    fewer = omega (arith, s.count, r.within);
    gates-long = omega (arith, s.count, r.to-long);
    scratch-long = r.scratch-long;
  }

  pub named-low : base + n ≤ w
  named-low = omega (arith, s.count, r.within)

  step : (o : Option ℕ) → stand_in left right (named base to n) ≡ o → folded gates base (k + 1) ≡ retain R left right o
  step o e =
      folded_more gates base k
      ∙ ap₂ (λ (a b : ℕ). reduce_gate R a b) (became-is (get_or gates (3 * k + 1) 0) r.below.rhs0)
      (became-is (get_or gates (3 * k + 2) 0) r.below.rhs1)
      ∙ ap (λ (gs : List Gate). retain R left right (stand_in left right gs)) (sym s.retained)
      ∙ ap (retain R left right) e

  -- what is answered for the literals that the sides became
  pub answered : {a b : Lit} {p q : Place} → a ≡ lit_at left → b ≡ lit_at right → p ≡ q → StandsIn to scratch base w n (word_of a) (word_of b) p
      → StandsIn to scratch base w n left right q
  answered {a} {b} {p} {q} ea eb e found =
      subst (λ (x : Place). StandsIn to scratch base w n left right x) e
      (subst (λ (x : Lit). StandsIn to scratch base w n left (word_of x) p) eb
      (subst (λ (x : Lit). StandsIn to scratch base w n (word_of x) (word_of b) p) ea found))

  -- a word of what became is stored in a scratch that starts alike
  took : (t : List ℕ) (l : ℕ) → length t ≡ length scratch → take (base + k) t ≡ take (base + k) scratch
      → take (base + (k + 1)) (set t (base + k) l) ≡ R.became ++ (l ∷ [])
  took t l size same =
      let e : base + (k + 1) ≡ suc (base + k) = omega arith in
      ap (λ (j : ℕ). take j (set t (base + k) l)) e ∙ take-suc-set t (base + k) l (omega (arith, r.within, r.scratch-long))
      ∙ ap (λ (x : List ℕ). x ++ (l ∷ [])) (same ∙ s.became)

  -- a literal stands in
  pub stands : (l : ℕ) → stand_in left right (named base to n) ≡ Some l → Stepped gates to to (set scratch (base + k) l) base w k n n
  stands l e = record {
    more = omega arith;
    held = record {
      count = omega (arith, s.count);
      became = took scratch l refl refl ∙ sym (ap (λ (x : Reduced). x.became) (step (Some l) e));
      retained = s.retained ∙ sym (ap (λ (x : Reduced). x.retained) (step (Some l) e));
      fresh = ap (λ (x : Reduced). x.fresh) (step (Some l) e) ∙ s.fresh;
      tree = word-before to scratch w n (base + k) l r.within s.tree;
    };
    past = refl;
  }

  -- the gate is retained
  module _ {slot : ℕ} (new : stand_in left right (named base to n) ≡ None)
      (hangs : Hangs to scratch w n (max left right) (min left right) slot)
    where
      abbrev to' : List ℕ
      to' = stored (gates_hung to w slot n) n (max left right) (min left right)

      abbrev scratch' : List ℕ
      scratch' = scratch_hung scratch w slot n

      root : var_of (max left right) < w
      root = omega (arith, rooted.larger, rooted.smaller)

      slot-low : slot < 4 * w + n
      slot-low = slot-under to scratch w n (max left right) (min left right) slot root hangs

      same : length scratch' ≡ length scratch
      same = go (ltb slot (4 * w))
        where
          go : (b : Bool) → length (cond b (set scratch slot (n + 1)) scratch) ≡ length scratch
          go true = length-set scratch slot (n + 1)
          go false = refl

      front : take (base + k) scratch' ≡ take (base + k) scratch
      front = go (ltb slot (4 * w))
        where
          go : (b : Bool) → take (base + k) (cond b (set scratch slot (n + 1)) scratch) ≡ take (base + k) scratch
          go true =
              take-set-le (base + k) scratch slot (n + 1)
              (omega (arith, slot-over to scratch w n (max left right) (min left right) slot root hangs, r.within))
          go false = refl

      E : folded gates base (k + 1) ≡ retain R left right None
      E = step None new

      pub retained : Stepped gates to to' (set scratch' (base + k) (lit_of (base + n))) base w k n (n + 1)
      retained = record {
        more = omega arith;
        held = record {
          count = omega (arith, s.count);
          became = took scratch' (lit_of (base + n)) same front
              ∙ sym (ap (λ (x : Reduced). x.became) E ∙ ap (λ (v : ℕ). R.became ++ (lit_of v ∷ [])) s.fresh);
          retained = hung-gates to w n (max left right) (min left right) slot base room.gates-long
              ∙ ap₂ (λ (gs : List Gate) (v : ℕ). gs ++ (record { lhs = lit_of v; rhs0 = max left right; rhs1 = min left right } ∷ []))
              s.retained (sym s.fresh)
              ∙ sym (ap (λ (x : Reduced). x.retained) E);
          fresh = ap (λ (x : Reduced). x.fresh) E ∙ ap suc s.fresh ∙ omega arith;
          tree = word-before to' scratch' w (n + 1) (base + k) (lit_of (base + n)) r.within
              (hung to scratch w n (max left right) (min left right) slot root hangs s.tree room.fewer room.gates-long
              room.scratch-long);
        };
        past = hung-past to w n (max left right) (min left right) slot slot-low;
      }

      -- with the words that the code stored
      pub retained-as : {to'' scratch'' : List ℕ} {x y word : ℕ} → x ≡ max left right → y ≡ min left right → word ≡ lit_of (base + n)
          → to'' ≡ stored (gates_hung to w slot n) n x y → scratch'' ≡ scratch'
          → Stepped gates to to'' (set scratch'' (base + k) word) base w k n (n + 1)
      retained-as {to''} {scratch''} {x} {y} {word} ex ey ew et es =
          subst (λ (t : List ℕ). Stepped gates to to'' t base w k n (n + 1))
          (sym (ap₂ (λ (t : List ℕ) (v : ℕ). set t (base + k) v) es ew))
          (subst (λ (t : List ℕ). Stepped gates to t (set scratch' (base + k) (lit_of (base + n))) base w k n (n + 1))
          (sym (et ∙ λ j. stored (gates_hung to w slot n) n (ex j) (ey j))) retained)
