-- A gate that is stored and hung: the gates of the table, and the tree, one gate later.
use mathlib.Core.Path.{◌≡◌, refl, sym, ap, ap₂, ◌∙◌, subst}
use mathlib.Core.Bool.{Bool, true, false, cond}
use mathlib.Core.List.{List, [], ◌∷◌, ◌++◌}
use Prim.Native.Nat.{ℕ, zero, suc, ◌+◌, ◌-◌, ◌*◌, ◌<◌, ◌≤◌}
use native.Mathlib.Omega.{arith}
use native.Mathlib.Numerals.{add-one}
use borrow.Author.Tests.{ltb-true, ltb-false}
use lib.Dec.{ltb}
use lib.ListN.{length, get_or, set, drop, length-set}
use lib.Seq.{drop-set-lt, get_or-set_same, get_or-set_other}
use Rattle.plan.specs.Literals.{lit_of, var_of}
use Rattle.plan.specs.Circuit.{Gate}
use Rattle.reduce.specs.pairs.Tree.{symbol, slot_of, first_on, Grown}
use Rattle.reduce.specs.pairs.Pairs.{path_of, paths, word, named, Tree, Hangs, stored, gates_hung, scratch_hung}
use Rattle.reduce.proofs.pairs.Slots.{slot-high, slot-low, slot_kept}
use Rattle.reduce.proofs.pairs.Words.{word-scratch, word_row}
use Rattle.reduce.proofs.pairs.Growing.{inserted, grown-ext, symbol-ext, node-ext', first-ext', grown-none}
use Rattle.reduce.proofs.pairs.Way.{good-path}

-- the word that leads to gate n, and the gate's sides
module _ (t : List ℕ) (w n x y slot : ℕ) where
  abbrev linked : List ℕ
  linked = gates_hung t w slot n

  abbrev pub table_hung : List ℕ
  table_hung = stored (gates_hung t w slot n) n x y

  linked-length : length linked ≡ length t
  linked-length = go (ltb slot (4 * w))
    where
      go : (b : Bool) → length (cond b t (set t (3 * (slot - 4 * w)) (n + 1))) ≡ length t
      go true = refl
      go false = length-set t (3 * (slot - 4 * w)) (n + 1)

  -- a word that is no row's first
  beside : (j : ℕ) → ((i : ℕ) → j ≡ 3 * i → ⊥) → get_or linked j 0 ≡ get_or t j 0
  beside j h = go (ltb slot (4 * w))
    where
      go : (b : Bool) → get_or (cond b t (set t (3 * (slot - 4 * w)) (n + 1))) j 0 ≡ get_or t j 0
      go true = refl
      go false = get_or-set_other t (3 * (slot - 4 * w)) j (n + 1) 0 (h (slot - 4 * w))

  -- a word that is no side of gate n
  apart : (j : ℕ) → (j ≡ 3 * n + 1 → ⊥) → (j ≡ 3 * n + 2 → ⊥) → get_or table_hung j 0 ≡ get_or linked j 0
  apart j d e = get_or-set_other (set linked (3 * n + 1) x) (3 * n + 2) j y 0 e ∙ get_or-set_other linked (3 * n + 1) j x 0 d

  no-first : (i j : ℕ) → 3 * i + 1 ≡ 3 * j → ⊥
  no-first i j e = omega arith

  no_second : (i j : ℕ) → 3 * i + 2 ≡ 3 * j → ⊥
  no_second i j e = omega arith

  old : (i : ℕ) → i < n → (get_or table_hung (3 * i + 1) 0 ≡ get_or t (3 * i + 1) 0) × (get_or table_hung (3 * i + 2) 0 ≡ get_or t (3 * i + 2) 0)
  old i h = (
    apart (3 * i + 1) (λ e. omega arith) (λ e. omega arith) ∙ beside (3 * i + 1) (no-first i),
    apart (3 * i + 2) (λ e. omega arith) (λ e. omega arith) ∙ beside (3 * i + 2) (no_second i),
  )

  newest : 3 * n + 3 ≤ length t → (get_or table_hung (3 * n + 1) 0 ≡ x) × (get_or table_hung (3 * n + 2) 0 ≡ y)
  newest h = (
    get_or-set_other (set linked (3 * n + 1) x) (3 * n + 2) (3 * n + 1) y 0 (λ e. omega arith)
        ∙ get_or-set_same linked (3 * n + 1) x 0 (omega (arith, linked-length)),
    get_or-set_same (set linked (3 * n + 1) x) (3 * n + 2) y 0 (simp length-set (omega (arith, linked-length))),
  )

  module _ (base : ℕ) where
    olds : (k : ℕ) → k ≤ n → named base table_hung k ≡ named base t k
    olds zero h = refl
    olds (suc k) h =
        let sides = old k h in
        ap₂ (λ (gs : List Gate) (g : Gate). gs ++ (g ∷ [])) (olds k (omega arith))
        (λ j. record { lhs = lit_of (base + k); rhs0 = sides.0 j; rhs1 = sides.1 j })

    pub hung-gates : 3 * n + 3 ≤ length t
        → named base table_hung (n + 1) ≡ named base t n ++ (record { lhs = lit_of (base + n); rhs0 = x; rhs1 = y } ∷ [])
    hung-gates h =
        let sides = newest h in
        ap (named base table_hung) (add-one n)
        ∙ ap₂ (λ (gs : List Gate) (g : Gate). gs ++ (g ∷ [])) (olds n (omega arith))
        (λ j. record { lhs = lit_of (base + n); rhs0 = sides.0 j; rhs1 = sides.1 j })

  -- what stands past gate n stays
  pub hung-past : slot < 4 * w + n → drop (3 * (n + 1)) table_hung ≡ drop (3 * (n + 1)) t
  hung-past h =
      drop-set-lt (3 * (n + 1)) (set linked (3 * n + 1) x) (3 * n + 2) y (omega arith)
      ∙ drop-set-lt (3 * (n + 1)) linked (3 * n + 1) x (omega arith) ∙ go (ltb slot (4 * w)) refl
    where
      go : (b : Bool) → ltb slot (4 * w) ≡ b
          → drop (3 * (n + 1)) (cond b t (set t (3 * (slot - 4 * w)) (n + 1))) ≡ drop (3 * (n + 1)) t
      go true e = refl
      go false e = drop-set-lt (3 * (n + 1)) t (3 * (slot - 4 * w)) (n + 1) (omega (arith, ltb-false slot (4 * w) e))

-- no gate hangs in tables that are zero
pub no-gates : (gates scratch : List ℕ) (w : ℕ) → ((s : ℕ) → get_or gates s 0 ≡ 0) → ((s : ℕ) → w ≤ s → get_or scratch s 0 ≡ 0)
    → Tree gates scratch w 0
no-gates gates scratch w g z = record {
  grown = grown-none (paths w gates) w (word gates scratch w) (λ c h. blank (ltb (w + c) (4 * w)) (w + c) (omega arith));
  blank-rows = λ i h. g (3 * i);
  blank-links = λ i h l. z (3 * w + i) (omega arith);
}
  where
    blank : (b : Bool) (s : ℕ) → w ≤ s → cond b (get_or scratch s 0) (get_or gates (3 * (s - 4 * w)) 0) ≡ 0
    blank true s h = z s h
    blank false s h = g (3 * (s - 4 * w))

-- a word before the roots is of another use
pub word-before : (gates scratch : List ℕ) (w n s l : ℕ) → s < w → Tree gates scratch w n → Tree gates (set scratch s l) w n
word-before gates scratch w n s l h t = record {
  grown = λ q g k le nd. same (slot_of w k (symbol (paths w gates) q k)) (slot-high w k (symbol (paths w gates) q k)) ∙ t.grown q g k le nd;
  blank-rows = t.blank-rows;
  blank-links = λ i le lw. other (3 * w + i) (omega arith) ∙ t.blank-links i le lw;
}
  where
    other : (j : ℕ) → w ≤ j → get_or (set scratch s l) j 0 ≡ get_or scratch j 0
    other j le = get_or-set_other scratch s j l 0 (λ e. omega arith)

    same : (j : ℕ) → w ≤ j → word gates (set scratch s l) w j ≡ word gates scratch w j
    same j le = ap (λ (v : ℕ). cond (ltb j (4 * w)) v (get_or gates (3 * (j - 4 * w)) 0)) (other j le)

module _ (gates scratch : List ℕ) (w n x y slot : ℕ) (root : var_of x < w) (hangs : Hangs gates scratch w n x y slot) where
  pub slot-under : slot < 4 * w + n
  slot-under = rw hangs.at (slot-low (paths w gates) w (path_of w x y) hangs.k n (good-path w x y root) hangs.below)

  slot-in : slot < 4 * w → slot < 3 * w + n
  slot-in =
      rw hangs.at (slot_kept (paths w gates) w (path_of w x y) hangs.k n (good-path w x y root) hangs.below)

  pub slot-over : w ≤ slot
  slot-over = rw hangs.at (slot-high w hangs.k (symbol (paths w gates) (path_of w x y) hangs.k))

  module _ (tree : Tree gates scratch w n) (few : n < w) (gates-long : 3 * n + 3 ≤ length gates) (scratch-long : 4 * w ≤ length scratch)
    where
      abbrev gates' : List ℕ
      gates' = table_hung gates w n x y slot

      abbrev scratch' : List ℕ
      scratch' = scratch_hung scratch w slot n

      alike : (i : ℕ) → i < n → paths w gates' i ≡ paths w gates i
      alike i q = let sides = old gates w n x y slot i q in ap₂ (λ (a b : ℕ). path_of w a b) sides.0 sides.1

      at_slot : slot ≡ slot_of w hangs.k (symbol (paths w gates') (path_of w x y) hangs.k)
      at_slot =
          hangs.at
          ∙ ap (slot_of w hangs.k) (sym (symbol-ext (paths w gates) (paths w gates') n alike (path_of w x y) hangs.k hangs.below))

      ends : first_on (paths w gates') (path_of w x y) hangs.k n ≡ 0
      ends =
          first-ext' (paths w gates) (paths w gates') n alike (path_of w x y) hangs.k
          ∙ sym (tree.grown (path_of w x y) (good-path w x y root) hangs.k hangs.below hangs.stands)
          ∙ ap (word gates scratch w) (sym hangs.at) ∙ hangs.free

      -- the first word of a row is no side
      row : (j : ℕ) → get_or gates' (3 * j) 0 ≡ get_or (gates_hung gates w slot n) (3 * j) 0
      row j = apart gates w n x y slot (3 * j) (λ e. omega arith) (λ e. omega arith)

      word_at : word gates' scratch' w slot ≡ suc n
      word_at = ap (cond (ltb slot (4 * w)) (get_or scratch' slot 0)) (row (slot - 4 * w)) ∙ go (ltb slot (4 * w)) refl
        where
          go : (b : Bool) → ltb slot (4 * w) ≡ b
              → cond b (get_or (cond b (set scratch slot (n + 1)) scratch) slot 0)
              (get_or (cond b gates (set gates (3 * (slot - 4 * w)) (n + 1))) (3 * (slot - 4 * w)) 0) ≡ suc n
          go true e = get_or-set_same scratch slot (n + 1) 0 (omega (arith, ltb-true slot (4 * w) e)) ∙ add-one n
          go false e =
              get_or-set_same gates (3 * (slot - 4 * w)) (n + 1) 0 (omega (arith, ltb-false slot (4 * w) e, slot-under)) ∙ add-one n

      -- any other slot stays
      word-other : (j : ℕ) → (j ≡ slot → ⊥) → word gates' scratch' w j ≡ word gates scratch w j
      word-other j d =
          ap (cond (ltb j (4 * w)) (get_or scratch' j 0)) (row (j - 4 * w)) ∙ go (ltb slot (4 * w)) refl (ltb j (4 * w)) refl
        where
          go : (b : Bool) → ltb slot (4 * w) ≡ b → (c : Bool) → ltb j (4 * w) ≡ c
              → cond c (get_or (cond b (set scratch slot (n + 1)) scratch) j 0)
              (get_or (cond b gates (set gates (3 * (slot - 4 * w)) (n + 1))) (3 * (j - 4 * w)) 0)
              ≡ cond c (get_or scratch j 0) (get_or gates (3 * (j - 4 * w)) 0)
          go true e true f = get_or-set_other scratch slot j (n + 1) 0 d
          go true e false f = refl
          go false e true f = refl
          go false e false f =
              get_or-set_other gates (3 * (slot - 4 * w)) (3 * (j - 4 * w)) (n + 1) 0
              (λ z. d (omega (arith, z, ltb-false slot (4 * w) e, ltb-false j (4 * w) f)))

      -- the links of later gates
      rows-past : (i : ℕ) → n ≤ i → get_or gates' (3 * i) 0 ≡ 0
      rows-past i h = row i ∙ go (ltb slot (4 * w)) refl ∙ tree.blank-rows i h
        where
          go : (b : Bool) → ltb slot (4 * w) ≡ b
              → get_or (cond b gates (set gates (3 * (slot - 4 * w)) (n + 1))) (3 * i) 0 ≡ get_or gates (3 * i) 0
          go true e = refl
          go false e =
              get_or-set_other gates (3 * (slot - 4 * w)) (3 * i) (n + 1) 0 (λ z. omega (arith, z, ltb-false slot (4 * w) e, slot-under))

      links-past : (i : ℕ) → n ≤ i → i < w → get_or scratch' (3 * w + i) 0 ≡ 0
      links-past i h l = go (ltb slot (4 * w)) refl ∙ tree.blank-links i h l
        where
          go : (b : Bool) → ltb slot (4 * w) ≡ b
              → get_or (cond b (set scratch slot (n + 1)) scratch) (3 * w + i) 0 ≡ get_or scratch (3 * w + i) 0
          go true e = get_or-set_other scratch slot (3 * w + i) (n + 1) 0 (λ z. omega (arith, z, slot-in (ltb-true slot (4 * w) e)))
          go false e = refl

      new : (c : ℕ) → c < 2 → word gates' scratch' w (slot_of w (suc n) c) ≡ 0
      new zero h = word_row gates' scratch' w n ∙ rows-past n (omega arith)
      new (suc c) h = word-scratch gates' scratch' w (3 * w + n) (omega arith) ∙ links-past n (omega arith) few

      pub hung : Tree gates' scratch' w (n + 1)
      hung = record {
        grown = subst (λ (v : ℕ). Grown (paths w gates') w v (word gates' scratch' w)) (sym (add-one n)) more;
        blank-rows = λ i h. rows-past i (omega arith);
        blank-links = λ i h l. links-past i (omega arith) l;
      }
        where
          more : Grown (paths w gates') w (suc n) (word gates' scratch' w)
          more =
              let sides = newest gates w n x y slot gates-long in
              inserted (paths w gates') w n hangs.k (word gates scratch w) (word gates' scratch' w) (path_of w x y) (omega arith)
              (grown-ext (paths w gates) (paths w gates') n alike w (word gates scratch w) tree.grown)
              (good-path w x y root) hangs.below
              (node-ext' (paths w gates) (paths w gates') n alike (path_of w x y) hangs.k hangs.below hangs.stands)
              ends
              (λ e. ap₂ (λ (a b : ℕ). path_of w a b e) sides.0 sides.1)
              (ap (word gates' scratch' w) (sym at_slot) ∙ word_at)
              new
              (λ s d. word-other s (λ z. d (z ∙ at_slot)))
