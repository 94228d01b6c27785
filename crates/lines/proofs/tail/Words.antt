-- The word of an entry, and a symbol judged by its word.
use Prim.Native.Nat.{ℕ, ◌+◌, ◌<◌, ◌≤◌, min}
use mathlib.Core.Path.{◌≡◌, refl, sym, ap, ap₂, ◌∙◌, subst}
use mathlib.Core.Bool.{Bool, true, false, cond}
use mathlib.Core.List.{List}
use Rattle.std.specs.Prelude.{Result, Ok, Err}
use Rattle.plan.specs.declared.Refusal.{Refusal}
use native.Mathlib.Omega.{arith}
use borrow.Author.Tests.{eq-eqb, ne_eqb, lt-ltb, le-ltb}
use lib.Dec.{eqb}
use lib.ListN.{length, get_or, set}
use Rattle.plan.specs.declared.Counts.{Counts}
use Rattle.plan.specs.declared.Refusal.TheVariants.{BadSymbol}
use Rattle.plan.specs.Literals.{most, beyond}
use Rattle.plan.specs.Refusals.{Parse, got, refused, ◌then◌}
use Rattle.plan.specs.Tail.{Symbol, count_of}
use Rattle.plan.specs.Outcome.{cut_number, passed_by}
use Rattle.lines.specs.tail.Marks.{symbol_line, entry_of, first_word, entries, word_of, free, marked_symbol, marks_after, Holds}
use Rattle.lines.proofs.tail.Lines.{line-value, line-wrong, kind-is}

-- every count is small, and an entry's word stands among the marks
module _ (n : Counts) (marks : List ℕ) (h : Holds n marks) (b : ℕ) where
  pub few : count_of n b ≤ most
  few = go (eqb b 105) (eqb b 108) (eqb b 111) (eqb b 98)
    where
      go : (t u v w : Bool) → cond t n.I (cond u n.L (cond v n.O (cond w n.B n.C))) ≤ most
      go true u v w = h.most-I
      go false true v w = h.most-L
      go false false true w = h.most-O
      go false false false true = h.most-B
      go false false false false = h.most-C

  pub word_in : (e : ℕ) → e < count_of n b → first_word n b + e < entries n
  word_in e k = go (eqb b 105) (eqb b 108) (eqb b 111) (eqb b 98) k
    where
      go : (t u v w : Bool) → e < cond t n.I (cond u n.L (cond v n.O (cond w n.B n.C)))
          → cond t 0 (cond u n.I (cond v (n.I + n.L) (cond w (n.I + n.L + n.O) (n.I + n.L + n.O + n.B)))) + e < entries n
      go true u v w k = omega arith
      go false true v w k = omega arith
      go false false true w k = omega arith
      go false false false true k = omega arith
      go false false false false k = omega arith

-- what reading a symbol leaves
abbrev pub Leaves : List ℕ → Counts → List ℕ → ℕ → Result ℕ Refusal → List ℕ → Type 0
Leaves file n marks at r marks' =
    (r ≡ passed_by (marked_symbol file n marks at)) × (marks' ≡ marks_after n marks (marked_symbol file n marks at))

module _ (file : List ℕ) (n : Counts) (marks : List ℕ) (at : ℕ) where
  pub line_refused : (r : Refusal) → Err r ≡ cut_number (entry_of (symbol_line file at))
      → Leaves file n marks at (Err r) marks
  line_refused r e = let q = line-wrong file at r e in rw q (refl, refl)

  module _ (h : Holds n marks) (v next : ℕ) (e : Ok (v, next) ≡ cut_number (entry_of (symbol_line file at))) where
    -- the symbol of the line, with its letter
    line-symbol : (s : Symbol) × (symbol_line file at ≡ got s next) × (v ≡ min s.entry beyond) × (get_or file at 0 ≡ s.kind)
    line-symbol =
        let q = line-value (symbol_line file at) v next e in
        (q.0, q.1, q.2, kind-is file at q.0 next q.1)

    judged : (s : Symbol) (t : Bool) → symbol_line file at ≡ got s next → free n marks s ≡ t
        → marked_symbol file n marks at ≡ cond t (got s next) (refused (BadSymbol at))
    judged s t p q =
        ap (λ (x : Parse Symbol). x then λ u m. cond (free n marks u) (got u m) (refused (BadSymbol at))) p
        ∙ ap (λ (x : Bool). cond x (got s next) (refused (BadSymbol at))) q

    refused-so : (s : Symbol) → symbol_line file at ≡ got s next → free n marks s ≡ false
        → Leaves file n marks at (Err (BadSymbol at)) marks
    refused-so s p q =
        let r = judged s false p q in
        (ap passed_by (sym r), ap (marks_after n marks) (sym r))

    pub too_far : (k : ℕ) → k ≡ count_of n (get_or file at 0) → k ≤ v → Leaves file n marks at (Err (BadSymbol at)) marks
    too_far k k-is l =
        let s = line-symbol in
        let far : count_of n s.0.kind ≤ s.0.entry = subst (λ (b : ℕ). count_of n b ≤ s.0.entry) s.3 (omega (arith, s.2)) in
        refused-so s.0 s.1 (rw (le-ltb _ _ far))

    module _ (k w : ℕ) (k-is : k ≡ count_of n (get_or file at 0)) (l : v < k) (w-is : w ≡ first_word n (get_or file at 0)) where
      pub word_fits : w + v < length marks
      word_fits = omega (arith, word_in n marks h (get_or file at 0) v (omega arith), h.words)

      -- its word is the entry's
      word-is : (s : Symbol) → v ≡ min s.entry beyond → get_or file at 0 ≡ s.kind
          → (s.entry < count_of n s.kind) × (w + v ≡ word_of n s)
      word-is s v-is kind =
          let same : v ≡ s.entry = omega (arith, few n marks h (get_or file at 0)) in
          let small : s.entry < count_of n (get_or file at 0) = omega arith in
          (subst (λ (b : ℕ). s.entry < count_of n b) kind small, ap₂ ◌+◌ (w-is ∙ ap (first_word n) kind) same)

      pub second : (get_or marks (w + v) 0 ≡ 0 → ⊥) → Leaves file n marks at (Err (BadSymbol at)) marks
      second m =
          let s = line-symbol in
          let q = word-is s.0 s.2 s.3 in
          let set-already : eqb (get_or marks (word_of n s.0) 0) 0 ≡ false =
          ap (λ (x : ℕ). eqb (get_or marks x 0) 0) (sym q.1) ∙ ne_eqb _ 0 m in
          refused-so s.0 s.1 (rw (lt-ltb _ _ q.0, set-already))

      pub first-time : get_or marks (w + v) 0 ≡ 0 → Leaves file n marks at (Ok next) (set marks (w + v) 1)
      first-time m =
          let s = line-symbol in
          let q = word-is s.0 s.2 s.3 in
          let unset : eqb (get_or marks (word_of n s.0) 0) 0 ≡ true =
          ap (λ (x : ℕ). eqb (get_or marks x 0) 0) (sym q.1) ∙ eq-eqb _ 0 m in
          let r = judged s.0 true s.1 (rw (lt-ltb _ _ q.0, unset)) in
          (ap passed_by (sym r), ap (λ (x : ℕ). set marks x 1) q.1 ∙ ap (marks_after n marks) (sym r))
