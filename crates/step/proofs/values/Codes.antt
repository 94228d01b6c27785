-- Words of values and codes of values, over whole vectors.
use Prim.Native.Nat.{ℕ, zero, suc, ◌+◌, ◌≤◌}
use mathlib.Core.Path.{◌≡◌, refl, sym, ap, ap₂, ◌∙◌}
use mathlib.Core.Bool.{true, false}
use mathlib.Core.List.{List, [], ◌∷◌, ◌++◌, map, append-nil}
use native.Mathlib.Omega.{arith}
use lib.ListN.{length, get_or, take, drop_of_length-le}
use lib.Seq.{take-length}
use borrow.Author.Tests.{ne_eqb}
use lib.Dec.{eqb}
use Rattle.std.specs.List.{list_any}
use Rattle.plan.specs.Step.{Value, v0, v1, vx, code_of, value_of, reset_value, is1, any1}
use Rattle.plan.specs.Outcome.{put}
use Rattle.laws.proofs.Tables.{firsts, length-firsts, words_take}
use Rattle.step.specs.values.Words.{word, told, Coded, words, values_at, start_codes}
use Rattle.step.proofs.values.Filling.{map-firsts, part-firsts}

pub told-word : (a : Value) → told (word a) ≡ a
told-word v0 = refl
told-word v1 = refl
told-word vx = refl

pub told-words : (l : List Value) → map told (words l) ≡ l
told-words [] = refl
told-words (a ∷ l) = ap₂ (λ (x : Value) (y : List Value). x ∷ y) (told-word a) (told-words l)

-- a value's word is coded
pub word-coded : (a : Value) → Coded (word a)
word-coded a = sym (ap word (told-word a))

-- a word that is neither that of 0 nor that of 1
pub told-x : (w : ℕ) → (w ≡ word v0 → ⊥) → (w ≡ word v1 → ⊥) → told w ≡ vx
told-x zero h k = refl
told-x (suc zero) h k = absurd (h refl)
told-x (suc (suc zero)) h k = absurd (k refl)
told-x (suc (suc (suc w))) h k = refl

-- the words that `load_resets` puts, and the codes that `first_state` fills a state with
pub resets-loaded : (resets : List ℕ) (n : ℕ) → n ≤ length resets
    → firsts (λ i. word (reset_value (get_or resets i 0))) n ≡ words (map reset_value (take n resets))
resets-loaded resets n h =
    sym (ap (λ (l : List ℕ). words (map reset_value l)) (words_take resets n h)
    ∙ (ap words (map-firsts reset_value (λ i. get_or resets i 0) n) ∙ map-firsts word (λ i. reset_value (get_or resets i 0)) n))

-- the codes of a first state fill it; where a table holds all resets, they are those of its values
pub state-filled : (resets state : List ℕ) → put state 0 (start_codes resets (length state)) ≡ start_codes resets (length state)
state-filled resets state =
    let x = start_codes resets (length state) in
    ap (λ (l : List ℕ). x ++ l) (drop_of_length-le state {i = 0 + length x} (omega (arith, length-firsts at (length state)))) ∙ append-nil x
  where
    at : ℕ → ℕ
    at i = code_of (reset_value (get_or resets i 0))

pub start-values : (resets : List ℕ) (n : ℕ) → n ≤ length resets → start_codes resets n ≡ map code_of (map reset_value (take n resets))
start-values resets n h =
    sym (ap (λ (l : List ℕ). map code_of (map reset_value l)) (words_take resets n h)
    ∙ (ap (map code_of) (map-firsts reset_value (λ i. get_or resets i 0) n) ∙ map-firsts code_of (λ i. reset_value (get_or resets i 0)) n))

-- the words that `load` puts, and the codes that `store` fills a vector with
pub loaded : (codes : List ℕ) → firsts (λ i. word (value_of (get_or codes i 0))) (length codes) ≡ words (map value_of codes)
loaded codes =
    sym (ap (λ (l : List ℕ). words (map value_of l)) (sym (take-length codes) ∙ words_take codes (length codes) (omega arith))
    ∙ (ap words (map-firsts value_of (λ i. get_or codes i 0) (length codes))
    ∙ map-firsts word (λ i. value_of (get_or codes i 0)) (length codes)))

pub stored : (t : List ℕ) (first n : ℕ) (codes : List ℕ) → length codes ≡ n → first + n ≤ length t
    → put codes 0 (firsts (λ i. code_of (told (get_or t (first + i) 0))) n) ≡ map code_of (values_at t first n)
stored t first n codes e h =
    ap (λ (l : List ℕ). x ++ l) (drop_of_length-le codes {i = 0 + length x} (omega (arith, length-firsts at n)))
    ∙ (append-nil x
    ∙ sym (ap (λ (l : List ℕ). map code_of (map told l)) (part-firsts t first n h)
    ∙ (ap (map code_of) (map-firsts told (λ i. get_or t (first + i) 0) n) ∙ map-firsts code_of (λ i. told (get_or t (first + i) 0)) n)))
  where
    at : ℕ → ℕ
    at i = code_of (told (get_or t (first + i) 0))

    x : List ℕ
    x = firsts at n

-- a word against that of 1
pub is_one : (w : ℕ) → w ≡ word v1 → is1 (told w) ≡ true
is_one w e = ap (λ (k : ℕ). is1 (told k)) e

pub no_one : (w : ℕ) → (w ≡ word v1 → ⊥) → is1 (told w) ≡ false
no_one zero h = refl
no_one (suc zero) h = refl
no_one (suc (suc zero)) h = absurd (h refl)
no_one (suc (suc (suc w))) h = refl

-- whether one of some words is that of 1
pub any-told : (ws : List ℕ) → list_any (λ w. eqb w (word v1)) ws ≡ any1 (map told ws)
any-told [] = refl
any-told (zero ∷ ws) = any-told ws
any-told (suc zero ∷ ws) = any-told ws
any-told (suc (suc zero) ∷ ws) = refl
any-told (suc (suc (suc w)) ∷ ws) = rw (ne_eqb (suc (suc (suc w))) (word v1) (omega arith)) (any-told ws)
