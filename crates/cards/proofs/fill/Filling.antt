-- The loops over records: one number more, one gate more.
use Prim.Native.Nat.{ℕ, zero, suc, ◌+◌, ◌*◌, ◌<◌, ◌≤◌}
use mathlib.Core.Path.{◌≡◌, refl, sym, ap, ap₂, ◌∙◌}
use mathlib.Core.List.{List, [], ◌∷◌, ◌++◌, map}
use native.Mathlib.Omega.{arith}
use native.Mathlib.Numerals.{add-one}
use lib.ListN.{length, set, drop, length-append, length-set}
use lib.Seq.{drop-drop}
use Rattle.plan.specs.Literals.{lit_of}
use Rattle.plan.specs.Circuit.{Gate, flat, gate_line}
use Rattle.plan.specs.Outcome.{put}
use Rattle.laws.proofs.Put.{put_one, put-put}
use Rattle.laws.proofs.Writing.Holding.{length-gate-words}
use Rattle.lines.proofs.gates.Words.{three-put}
use Rattle.plan.specs.Cards.{word, word_at, words_in, gates_in}
use Rattle.cards.proofs.Laws.Records.{length-words-in, length-gates-in}

-- numbers of records of one
words_last : (i : ℕ) (l : List ℕ) → words_in (suc i) l ≡ words_in i l ++ (word (drop 2 (drop (6 * i) l)) ∷ [])
words_last zero l = refl
words_last (suc i) l =
    let e : 6 + 6 * i ≡ 6 * suc i = omega arith in
    ap (λ (x : List ℕ). word (drop 2 l) ∷ x)
    (words_last i (drop 6 l)
    ∙ ap (λ (x : List ℕ). words_in i (drop 6 l) ++ (word (drop 2 x) ∷ [])) (drop-drop (6 * i) 6 l ∙ ap (λ (k : ℕ). drop k l) e))

-- a number of a record, by its position
there : (file : List ℕ) (at k j : ℕ) → word (drop j (drop k (drop at file))) ≡ word_at file (at + k + j)
there file at k j = ap word (ap (drop j) (drop-drop k at file) ∙ drop-drop j (at + k) file)

pub record Worded (file : List ℕ) (at n : ℕ) (table₀ table : List ℕ) (i : ℕ) : Type 0 where
  pub bound : i ≤ n
  pub table_is : table ≡ put table₀ 0 (words_in i (drop at file))
  pub same : length table ≡ length table₀

module _ (file : List ℕ) (at n : ℕ) (table₀ : List ℕ) where
  module _ (table : List ℕ) (i : ℕ) (s : Worded file at n table₀ table i) where
    pub one-worded : n ≤ length table₀ → i < n → (w : ℕ) → w ≡ word_at file (at + 6 * i + 2)
        → Worded file at n table₀ (set table i w) (i + 1)
    one-worded room h w w-is =
        let l : List ℕ = drop at file in
        let before : List ℕ = words_in i l in
        let next : ℕ = word (drop 2 (drop (6 * i) l)) in
        let next-is : w ≡ next = w-is ∙ sym (there file at (6 * i) 2) in
        let size : length before ≡ i = length-words-in i l in
        let both : length (before ++ (next ∷ [])) ≡ length before + 1 = length-append before (next ∷ []) in
        let start : i ≡ 0 + length before = omega arith in
        let fits : 0 + length (before ++ (next ∷ [])) ≤ length table₀ = omega arith in
        record {
          bound = omega arith;
          table_is =
              put_one table i w (omega (arith, s.same))
              ∙ (ap₂ (λ (t : List ℕ) (x : ℕ). put t i (x ∷ [])) s.table_is next-is
              ∙ (ap (λ (k : ℕ). put (put table₀ 0 before) k (next ∷ [])) start
              ∙ (put-put table₀ 0 before (next ∷ []) fits
              ∙ ap (put table₀ 0) (sym (words_last i l) ∙ ap (λ (k : ℕ). words_in k l) (sym (add-one i))))));
          same = simp length-set s.same;
        }

-- gates of records of two
abbrev gate_at : ℕ → ℕ → List ℕ → Gate
gate_at v i l = record { lhs = lit_of (v + i); rhs0 = word (drop 2 (drop (10 * i) l)); rhs1 = word (drop 6 (drop (10 * i) l)) }

gates-last : (v i : ℕ) (l : List ℕ) → gates_in v (suc i) l ≡ gates_in v i l ++ (gate_at v i l ∷ [])
gates-last v zero l = let e : v ≡ v + 0 = omega arith in
    ap (λ (x : ℕ). record { lhs = lit_of x; rhs0 = word (drop 2 l); rhs1 = word (drop 6 l) } ∷ []) e
gates-last v (suc i) l =
    let e : 10 + 10 * i ≡ 10 * suc i = omega arith in
    let f : suc v + i ≡ v + suc i = omega arith in
    ap (λ (x : List Gate). record { lhs = lit_of v; rhs0 = word (drop 2 l); rhs1 = word (drop 6 l) } ∷ x)
    (gates-last (suc v) i (drop 10 l)
    ∙ ap₂ (λ (y : ℕ) (x : List ℕ). gates_in (suc v) i (drop 10 l) ++ (record { lhs = lit_of y; rhs0 = word (drop 2 x); rhs1 = word (drop 6 x) } ∷ []))
    f (drop-drop (10 * i) 10 l ∙ ap (λ (k : ℕ). drop k l) e))

flat-last : (gs : List Gate) (g : Gate) → flat (map gate_line (gs ++ (g ∷ []))) ≡ flat (map gate_line gs) ++ gate_line g
flat-last [] g = refl
flat-last (h ∷ gs) g = ap (λ (l : List ℕ). h.lhs ∷ h.rhs0 ∷ h.rhs1 ∷ l) (flat-last gs g)

abbrev gate_words : ℕ → ℕ → List ℕ → List ℕ
gate_words v i l = flat (map gate_line (gates_in v i l))

pub record Gated (file : List ℕ) (at n first : ℕ) (table₀ table : List ℕ) (i : ℕ) : Type 0 where
  pub bound : i ≤ n
  pub table_is : table ≡ put table₀ 0 (flat (map gate_line (gates_in first i (drop at file))))
  pub same : length table ≡ length table₀

module _ (file : List ℕ) (at n first : ℕ) (table₀ : List ℕ) where
  module _ (table : List ℕ) (i : ℕ) (s : Gated file at n first table₀ table i) where
    pub one-gated : 3 * n ≤ length table₀ → i < n → (x y z : ℕ) → x ≡ lit_of (first + i) → y ≡ word_at file (at + 10 * i + 2)
        → z ≡ word_at file (at + 10 * i + 6)
        → Gated file at n first table₀ (set (set (set table (3 * i) x) (3 * i + 1) y) (3 * i + 2) z) (i + 1)
    one-gated room h x y z x-is y-is z-is =
        let l : List ℕ = drop at file in
        let before : List ℕ = gate_words first i l in
        let g : Gate = gate_at first i l in
        let y-to : y ≡ g.rhs0 = y-is ∙ sym (there file at (10 * i) 2) in
        let z-to : z ≡ g.rhs1 = z-is ∙ sym (there file at (10 * i) 6) in
        let size : length before ≡ 3 * i = length-gate-words (gates_in first i l) ∙ ap (λ (k : ℕ). 3 * k) (length-gates-in first i l) in
        let both : length (before ++ gate_line g) ≡ length before + 3 = length-append before (gate_line g) in
        let start : 3 * i ≡ 0 + length before = omega arith in
        let fits : 0 + length (before ++ gate_line g) ≤ length table₀ = omega arith in
        let in_table : 3 * i + 3 ≤ length table = omega (arith, s.same) in
        record {
          bound = omega arith;
          table_is =
              three-put table (3 * i) x y z in_table
              ∙ ((λ j. put (s.table_is j) (3 * i) (x-is j ∷ y-to j ∷ z-to j ∷ []))
              ∙ (ap (λ (k : ℕ). put (put table₀ 0 before) k (gate_line g)) start
              ∙ (put-put table₀ 0 before (gate_line g) fits
              ∙ ap (put table₀ 0) (sym (flat-last (gates_in first i l) g)
              ∙ ap (λ (gs : List Gate). flat (map gate_line gs)) (sym (gates-last first i l) ∙ ap (λ (k : ℕ). gates_in first k l) (sym (add-one i)))))));
          same = simp length-set s.same;
        }
