-- Marks that agree with the symbols seen judge as the list of those does.
use Prim.Native.Nat.{ℕ, ◌+◌, ◌<◌}
use mathlib.Core.Path.{◌≡◌, refl, sym, ap, ap₂, ◌∙◌}
use mathlib.Core.Bool.{Bool, true, false, not, cond, ◌&&◌, ◌||◌, false≢true}
use mathlib.Core.List.{List, [], ◌∷◌}
use native.Mathlib.Omega.{arith}
use native.Mathlib.Decide.{ℕ_discrete}
use borrow.Author.Tests.{eqb-true, eq-eqb, ltb-true}
use lib.Dec.{eqb, ltb}
use lib.ListN.{length, get_or, set}
use lib.Seq.{get_or-set_same, get_or-set_other}
use Rattle.plan.specs.declared.Counts.{Counts}
use Rattle.plan.specs.declared.Version.TheVariants.{V19}
use Rattle.plan.specs.declared.Refusal.TheVariants.{BadSymbol}
use Rattle.plan.specs.Refusals.{Parse, got, refused, ◌then◌}
use Rattle.plan.specs.Bytes.{number, expect}
use Rattle.plan.specs.Tail.{Symbol, is_kind, count_of, named, fits, symbol, name_at}
use Rattle.laws.proofs.Reading.Common.{and_left}
use Rattle.lines.specs.tail.Marks.{symbol_line, first_word, word_of, free, marked_symbol, Holds, Blank}
use Rattle.lines.proofs.tail.Lines.{kind-is}
use Rattle.lines.proofs.tail.Names.{name_end}
use Rattle.lines.proofs.tail.Words.{word_in}

-- an entry of one of the five lists and its word
data Place (n : Counts) (b e w : ℕ) : Type 0 where
  input : b ≡ 105 → w ≡ e → e < n.I → Place n b e w
  latch : b ≡ 108 → w ≡ n.I + e → e < n.L → Place n b e w
  output : b ≡ 111 → w ≡ n.I + n.L + e → e < n.O → Place n b e w
  bad : b ≡ 98 → w ≡ n.I + n.L + n.O + e → e < n.B → Place n b e w
  constraint : b ≡ 99 → w ≡ n.I + n.L + n.O + n.B + e → Place n b e w

place : (n : Counts) (s : Symbol) → is_kind V19 s.kind ≡ true → s.entry < count_of n s.kind → Place n s.kind s.entry (word_of n s)
place n s k h =
    go (eqb s.kind 105) (eqb s.kind 108) (eqb s.kind 111) (eqb s.kind 98) (eqb s.kind 99) refl refl refl refl refl k h
  where
    go : (t u v w x : Bool) → eqb s.kind 105 ≡ t → eqb s.kind 108 ≡ u → eqb s.kind 111 ≡ v → eqb s.kind 98 ≡ w → eqb s.kind 99 ≡ x
        → (t || (u || (v || (w || x)))) ≡ true
        → s.entry < cond t n.I (cond u n.L (cond v n.O (cond w n.B n.C)))
        → Place n s.kind s.entry
        (cond t 0 (cond u n.I (cond v (n.I + n.L) (cond w (n.I + n.L + n.O) (n.I + n.L + n.O + n.B)))) + s.entry)
    go true u v w x p q r y z k h = input (eqb-true _ _ p) (omega arith) h
    go false true v w x p q r y z k h = latch (eqb-true _ _ q) refl h
    go false false true w x p q r y z k h = output (eqb-true _ _ r) refl h
    go false false false true x p q r y z k h = bad (eqb-true _ _ y) refl h
    go false false false false true p q r y z k h = constraint (eqb-true _ _ z) refl
    go false false false false false p q r y z k h = absurd (false≢true k)

-- no two entries have one word
one_entry : (n : Counts) (b e c d w : ℕ) → Place n b e w → Place n c d w → (b ≡ c) × (e ≡ d)
one_entry n b e c d w (input p q r) (input p' q' r') = (omega arith, omega arith)
one_entry n b e c d w (input p q r) (latch p' q' r') = absurd (omega arith)
one_entry n b e c d w (input p q r) (output p' q' r') = absurd (omega arith)
one_entry n b e c d w (input p q r) (bad p' q' r') = absurd (omega arith)
one_entry n b e c d w (input p q r) (constraint p' q') = absurd (omega arith)
one_entry n b e c d w (latch p q r) (input p' q' r') = absurd (omega arith)
one_entry n b e c d w (latch p q r) (latch p' q' r') = (omega arith, omega arith)
one_entry n b e c d w (latch p q r) (output p' q' r') = absurd (omega arith)
one_entry n b e c d w (latch p q r) (bad p' q' r') = absurd (omega arith)
one_entry n b e c d w (latch p q r) (constraint p' q') = absurd (omega arith)
one_entry n b e c d w (output p q r) (input p' q' r') = absurd (omega arith)
one_entry n b e c d w (output p q r) (latch p' q' r') = absurd (omega arith)
one_entry n b e c d w (output p q r) (output p' q' r') = (omega arith, omega arith)
one_entry n b e c d w (output p q r) (bad p' q' r') = absurd (omega arith)
one_entry n b e c d w (output p q r) (constraint p' q') = absurd (omega arith)
one_entry n b e c d w (bad p q r) (input p' q' r') = absurd (omega arith)
one_entry n b e c d w (bad p q r) (latch p' q' r') = absurd (omega arith)
one_entry n b e c d w (bad p q r) (output p' q' r') = absurd (omega arith)
one_entry n b e c d w (bad p q r) (bad p' q' r') = (omega arith, omega arith)
one_entry n b e c d w (bad p q r) (constraint p' q') = absurd (omega arith)
one_entry n b e c d w (constraint p q) (input p' q' r') = absurd (omega arith)
one_entry n b e c d w (constraint p q) (latch p' q' r') = absurd (omega arith)
one_entry n b e c d w (constraint p q) (output p' q' r') = absurd (omega arith)
one_entry n b e c d w (constraint p q) (bad p' q' r') = absurd (omega arith)
one_entry n b e c d w (constraint p q) (constraint p' q') = (omega arith, omega arith)

-- a word is 0 exactly if no symbol seen has its entry
abbrev pub Agrees : Counts → List Symbol → List ℕ → Type 0
Agrees n seen marks =
    (s : Symbol) → is_kind V19 s.kind ≡ true → s.entry < count_of n s.kind → eqb (get_or marks (word_of n s) 0) 0 ≡ not (named s seen)

pub none_seen : (n : Counts) (marks : List ℕ) → Holds n marks → Blank n marks → Agrees n [] marks
none_seen n marks h b s k l = eq-eqb _ 0 (b (word_of n s) (word_in n marks h s.kind s.entry l))

module _ (n : Counts) (seen : List Symbol) (marks : List ℕ) (agrees : Agrees n seen marks) where
  judges-same : (s : Symbol) → is_kind V19 s.kind ≡ true → fits n seen s ≡ free n marks s
  judges-same s k = go (ltb s.entry (count_of n s.kind)) refl
    where
      go : (t : Bool) → ltb s.entry (count_of n s.kind) ≡ t
          → (t && not (named s seen)) ≡ (t && eqb (get_or marks (word_of n s) 0) 0)
      go true e = sym (agrees s k (ltb-true _ _ e))
      go false e = refl

  -- one more symbol, marked
  pub one_more : (t : Symbol) → Holds n marks → is_kind V19 t.kind ≡ true → free n marks t ≡ true
      → Agrees n (t ∷ seen) (set marks (word_of n t) 1)
  one_more t h k f s k' l' =
      let l : t.entry < count_of n t.kind = ltb-true _ _ (and_left (ltb t.entry (count_of n t.kind)) _ f) in
      let i : word_of n t < length marks = omega (arith, word_in n marks h t.kind t.entry l, h.words) in
      by_word (place n t k l) (place n s k' l') i (ℕ_discrete (word_of n s) (word_of n t))
    where
      by_word : Place n t.kind t.entry (word_of n t) → Place n s.kind s.entry (word_of n s) → word_of n t < length marks
          → Dec (word_of n s ≡ word_of n t)
          → eqb (get_or (set marks (word_of n t) 1) (word_of n s) 0) 0 ≡ not (named s (t ∷ seen))
      by_word p q i (yes e) =
          let same = one_entry n t.kind t.entry s.kind s.entry (word_of n t) p
          (rw e at q) in
          ap (λ (w : ℕ). eqb (get_or (set marks (word_of n t) 1) w 0) 0) e
          ∙ (ap (λ (x : ℕ). eqb x 0) (get_or-set_same marks (word_of n t) 1 0 i) ∙ rw (eq-eqb _ _ same.0, eq-eqb _ _ same.1))
      by_word p q i (no e) =
          ap (λ (x : ℕ). eqb x 0) (get_or-set_other marks (word_of n t) (word_of n s) 1 0 e)
          ∙ (agrees s k' l'
          ∙ ap (λ (x : Bool). not (x || named s seen)) (other (eqb t.kind s.kind) (eqb t.entry s.entry) refl refl))
        where
          other : (x y : Bool) → eqb t.kind s.kind ≡ x → eqb t.entry s.entry ≡ y → false ≡ (x && y)
          other true true a b =
              let kinds : t.kind ≡ s.kind = eqb-true _ _ a in
              let entries : t.entry ≡ s.entry = eqb-true _ _ b in
              absurd (e (sym (ap₂ (λ (x y : ℕ). first_word n x + y) kinds entries)))
          other true false a b = refl
          other false y a b = refl

-- a symbol line by 1, then by 10
symbol-splits : (file : List ℕ) (n : Counts) (seen : List Symbol) (at : ℕ)
    → symbol file n seen at ≡ (symbol_line file at then λ s next. cond (fits n seen s) (got s next) (refused (BadSymbol at)))
symbol-splits file n seen at = by_number (number file (at + 1))
  where
    entered : ℕ → List ℕ → Symbol
    entered entry name = record { kind = get_or file at 0; entry = entry; name = name }

    by_end : (s : Symbol) (p : Parse ℕ)
        → (p then λ _ next. cond (fits n seen s) (got s next) (refused (BadSymbol at)))
        ≡ ((p then λ _ next. got s next) then λ s next. cond (fits n seen s) (got s next) (refused (BadSymbol at)))
    by_end s (got b next) = refl
    by_end s (refused r) = refl

    by-space : (entry : ℕ) (p : Parse ℕ)
        → (p then λ _ next. name_at file next then λ name next. expect file 10 next then λ _ next.
        cond (fits n seen (entered entry name)) (got (entered entry name) next) (refused (BadSymbol at)))
        ≡ ((p then λ _ next. name_at file next then λ name next. expect file 10 next then λ _ next. got (entered entry name) next)
        then λ s next. cond (fits n seen s) (got s next) (refused (BadSymbol at)))
    by-space entry (got b next) = by_end _ (expect file 10 (name_end file next))
    by-space entry (refused r) = refl

    by_number : (p : Parse ℕ)
        → (p then λ entry next. expect file 32 next then λ _ next. name_at file next then λ name next. expect file 10 next then λ _ next.
        cond (fits n seen (entered entry name)) (got (entered entry name) next) (refused (BadSymbol at)))
        ≡ ((p then λ entry next. expect file 32 next then λ _ next. name_at file next then λ name next. expect file 10 next then λ _ next.
        got (entered entry name) next) then λ s next. cond (fits n seen s) (got s next) (refused (BadSymbol at)))
    by_number (got entry next) = by-space entry (expect file 32 next)
    by_number (refused r) = refl

pub marked-same : (file : List ℕ) (n : Counts) (seen : List Symbol) (marks : List ℕ) (at : ℕ) → Agrees n seen marks
    → is_kind V19 (get_or file at 0) ≡ true → symbol file n seen at ≡ marked_symbol file n marks at
marked-same file n seen marks at agrees k = symbol-splits file n seen at ∙ go (symbol_line file at) refl
  where
    go : (p : Parse Symbol) → symbol_line file at ≡ p
        → (p then λ s next. cond (fits n seen s) (got s next) (refused (BadSymbol at)))
        ≡ (p then λ s next. cond (free n marks s) (got s next) (refused (BadSymbol at)))
    go (got s next) e =
        ap (λ (t : Bool). cond t (got s next) (refused (BadSymbol at)))
        (judges-same n seen marks agrees s (ap (is_kind V19) (sym (kind-is file at s next e)) ∙ k))
    go (refused r) e = refl
