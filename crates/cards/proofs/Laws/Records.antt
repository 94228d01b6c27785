-- Records of cards: what is written is read, and what is read under the right marks was written so.
use Prim.Native.Nat.{ℕ, zero, suc, ◌+◌, ◌*◌, ◌/◌, ◌%◌, ◌<◌, ◌≤◌}
use mathlib.Core.Path.{◌≡◌, refl, sym, ap, ap₂, ◌∙◌}
use mathlib.Core.Bool.{Bool, true, false, cond}
use mathlib.Core.List.{List, [], ◌∷◌, ◌++◌}
use Rattle.std.specs.Prelude.{Option, Some, None}
use native.Mathlib.Omega.{arith}
use borrow.Author.Tests.{eqb-true, eq-eqb}
use lib.Dec.{eqb}
use lib.ListN.{length, drop, length-drop}
use lib.Seq.{drop-drop, get_or-drop}
use Rattle.plan.specs.Circuit.{Gate}
use Rattle.plan.specs.Cards.{word, word_bytes, mark_bytes, marked, word_cards, gate_cards, wrong_in, words_in, gates_in}
use Rattle.laws.proofs.Reading.Common.{and_left, and_right}
use Rattle.laws.proofs.Reading.Differences.{Bytes}
use Rattle.laws.proofs.Reading.Order.{InOrder}

-- four digits of base 256
digit : (w : ℕ) → w ≡ w % 256 + 256 * (w / 256)
digit w = omega arith

four-digits : (w r q t s y x : ℕ) → w ≡ r + 256 * q → q ≡ t + 256 * s → s ≡ y + 256 * x → r + 256 * t + 65536 * y + 16777216 * x ≡ w
four-digits w r q t s y x p0 p1 p2 = omega arith

two_down : (w : ℕ) → w / 65536 ≡ w / 256 / 256
two_down w = omega arith

three_down : (w : ℕ) → w / 16777216 ≡ w / 65536 / 256
three_down w = omega arith

last-digit : (w : ℕ) → w < 4294967296 → w / 16777216 % 256 ≡ w / 16777216
last-digit w h = omega arith

-- a number of 32 bits, from its four bytes; and four bytes, from their number
pub word_back : (w : ℕ) (l : List ℕ) → w < 4294967296 → word (word_bytes w ++ l) ≡ w
word_back w l h =
    let p1 : w / 256 ≡ w / 256 % 256 + 256 * (w / 65536)
    = digit (w / 256) ∙ ap (λ (x : ℕ). w / 256 % 256 + 256 * x) (sym (two_down w)) in
    let p2 : w / 65536 ≡ w / 65536 % 256 + 256 * (w / 16777216 % 256)
    = digit (w / 65536) ∙ ap (λ (x : ℕ). w / 65536 % 256 + 256 * x) (sym (three_down w) ∙ sym (last-digit w h)) in
    four-digits w (w % 256) (w / 256) (w / 256 % 256) (w / 65536) (w / 65536 % 256) (w / 16777216 % 256) (digit w) p1 p2

low_digit : (w a k : ℕ) → a < 256 → w ≡ a + 256 * k → (w % 256 ≡ a) × (w / 256 ≡ k)
low_digit w a k h e = (omega arith, omega arith)

bytes_back : (a b c d : ℕ) → a < 256 → b < 256 → c < 256 → d < 256 → word_bytes (a + 256 * b + 65536 * c + 16777216 * d) ≡ a ∷ b ∷ c ∷ d ∷ []
bytes_back a b c d ha hb hc hd = go (a + 256 * b + 65536 * c + 16777216 * d) (omega arith)
  where
    go : (w : ℕ) → w ≡ a + 256 * (b + 256 * (c + 256 * d)) → word_bytes w ≡ a ∷ b ∷ c ∷ d ∷ []
    go w e =
        let e0 = low_digit w a (b + 256 * (c + 256 * d)) ha e in
        let e1 = low_digit (w / 256) b (c + 256 * d) hb e0.1 in
        let e2 = low_digit (w / 65536) c d hc (two_down w ∙ e1.1) in
        let e3 : w / 16777216 % 256 ≡ d = omega (arith, three_down w ∙ e2.1) in
        λ i. e0.0 i ∷ e1.0 i ∷ e2.0 i ∷ e3 i ∷ []

-- the right mark
pub mark-right : (letter : ℕ) (l : List ℕ) → marked letter (mark_bytes letter ++ l) ≡ true
mark-right letter l = eq-eqb letter letter refl

-- what stands first
pub mark-first : (letter : ℕ) (l : List ℕ) → 2 ≤ length l → marked letter l ≡ true → l ≡ mark_bytes letter ++ drop 2 l
mark-first letter [] h m = absurd (omega arith)
mark-first letter (a ∷ []) h m = absurd (omega arith)
mark-first letter (a ∷ b ∷ l) h m =
    ap₂ (λ (x y : ℕ). x ∷ y ∷ l) (eqb-true a 80 (and_left (eqb a 80) _ m)) (eqb-true b letter (and_right (eqb a 80) _ m))

pub word_first : (l : List ℕ) → 4 ≤ length l → Bytes l → l ≡ word_bytes (word l) ++ drop 4 l
word_first [] h b = absurd (omega arith)
word_first (x ∷ []) h b = absurd (omega arith)
word_first (x ∷ y ∷ []) h b = absurd (omega arith)
word_first (x ∷ y ∷ z ∷ []) h b = absurd (omega arith)
word_first (x ∷ y ∷ z ∷ w ∷ l) h b = ap (λ (k : List ℕ). k ++ l) (sym (bytes_back x y z w (b 0) (b 1) (b 2) (b 3)))

pub bytes_drop : (n : ℕ) (l : List ℕ) → Bytes l → Bytes (drop n l)
bytes_drop n l b k = omega (arith, get_or-drop n l k 0, b (n + k))

-- numbers of 32 bits
abbrev pub Words : List ℕ → Type 0
Words [] = Unit {0}
Words (w ∷ ws) = (w < 4294967296) × Words ws

-- records of one number
pub words_back : (letter : ℕ) (ws rest : List ℕ) → Words ws → words_in (length ws) (word_cards letter ws ++ rest) ≡ ws
words_back letter [] rest h = refl
words_back letter (w ∷ ws) rest h = ap₂ (λ (x : ℕ) (l : List ℕ). x ∷ l) (word_back w [] h.0) (words_back letter ws rest h.1)

pub words-marked : (letter : ℕ) (ws rest : List ℕ) (at : ℕ) → wrong_in letter 6 (length ws) at (word_cards letter ws ++ rest) ≡ None
words-marked letter [] rest at = refl
words-marked letter (w ∷ ws) rest at = rw (eq-eqb letter letter refl) (words-marked letter ws rest (at + 6))

pub length-words : (letter : ℕ) (ws : List ℕ) → length (word_cards letter ws) ≡ 6 * length ws
length-words letter [] = refl
length-words letter (w ∷ ws) = let h = length-words letter ws in omega arith

-- the first mark of several, and the others
pub mark-none : (t : Bool) (o : Option ℕ) (at : ℕ) → cond t o (Some at) ≡ None → (t ≡ true) × (o ≡ None)
mark-none true o at e = (refl, e)
mark-none false o at e = let z : ◌≡◌ {A = ℕ} 0 1 = cc in absurd (omega arith)

pub words-took : (letter n at : ℕ) (l : List ℕ) → 6 * n ≤ length l → Bytes l → wrong_in letter 6 n at l ≡ None
    → l ≡ word_cards letter (words_in n l) ++ drop (6 * n) l
words-took letter zero at l h b m = refl
words-took letter (suc n) at l h b m =
    let k = mark-none (marked letter l) (wrong_in letter 6 n (at + 6) (drop 6 l)) at m in
    let first : l ≡ mark_bytes letter ++ drop 2 l = mark-first letter l (omega arith) k.0 in
    let long : 4 ≤ length (drop 2 l) = omega (arith, length-drop 2 l) in
    let second : drop 2 l ≡ word_bytes (word (drop 2 l)) ++ drop 4 (drop 2 l) = word_first (drop 2 l) long (bytes_drop 2 l b) in
    let third : drop 4 (drop 2 l) ≡ drop 6 l = drop-drop 4 2 l in
    let left : 6 * n ≤ length (drop 6 l) = omega (arith, length-drop 6 l) in
    let others = words-took letter n (at + 6) (drop 6 l) left (bytes_drop 6 l b) k.1 in
    let end : drop (6 * n) (drop 6 l) ≡ drop (6 * suc n) l
    = drop-drop (6 * n) 6 l ∙ (let e : 6 + 6 * n ≡ 6 * suc n = omega arith in ap (λ (i : ℕ). drop i l) e) in
    first ∙ ap (λ (x : List ℕ). mark_bytes letter ++ x)
    (second ∙ ap (λ (x : List ℕ). word_bytes (word (drop 2 l)) ++ x)
    (third ∙ (others ∙ ap (λ (x : List ℕ). word_cards letter (words_in n (drop 6 l)) ++ x) end)))

pub length-words-in : (n : ℕ) (l : List ℕ) → length (words_in n l) ≡ n
length-words-in zero l = refl
length-words-in (suc n) l = ap suc (length-words-in n (drop 6 l))

-- records of two, of gates in binary order
pub gates-back : (v : ℕ) (gs : List Gate) (rest : List ℕ) → InOrder v gs → 2 * (v + length gs) ≤ 4294967296
    → gates_in v (length gs) (gate_cards gs ++ rest) ≡ gs
gates-back v [] rest o h = refl
gates-back v (g ∷ gs) rest o h =
    let p : word (word_bytes g.rhs0) ≡ g.rhs0 = word_back g.rhs0 [] (omega (arith, o.0, o.1)) in
    let q : word (word_bytes g.rhs1) ≡ g.rhs1 = word_back g.rhs1 [] (omega (arith, o.0, o.1, o.2)) in
    let r = gates-back (suc v) gs rest o.3 (omega arith) in
    λ i. record { lhs = sym o.0 i; rhs0 = p i; rhs1 = q i } ∷ r i

pub gates-marked : (gs : List Gate) (rest : List ℕ) (at : ℕ) → wrong_in 65 10 (length gs) at (gate_cards gs ++ rest) ≡ None
gates-marked [] rest at = refl
gates-marked (g ∷ gs) rest at = gates-marked gs rest (at + 10)

pub length-gates : (gs : List Gate) → length (gate_cards gs) ≡ 10 * length gs
length-gates [] = refl
length-gates (g ∷ gs) = let h = length-gates gs in omega arith

pub gates-took : (v n at : ℕ) (l : List ℕ) → 10 * n ≤ length l → Bytes l → wrong_in 65 10 n at l ≡ None
    → l ≡ gate_cards (gates_in v n l) ++ drop (10 * n) l
gates-took v zero at l h b m = refl
gates-took v (suc n) at l h b m =
    let k = mark-none (marked 65 l) (wrong_in 65 10 n (at + 10) (drop 10 l)) at m in
    let first : l ≡ mark_bytes 65 ++ drop 2 l = mark-first 65 l (omega arith) k.0 in
    let long : 4 ≤ length (drop 2 l) = omega (arith, length-drop 2 l) in
    let second : drop 2 l ≡ word_bytes (word (drop 2 l)) ++ drop 4 (drop 2 l) = word_first (drop 2 l) long (bytes_drop 2 l b) in
    let third : drop 4 (drop 2 l) ≡ drop 6 l = drop-drop 4 2 l in
    let long' : 4 ≤ length (drop 6 l) = omega (arith, length-drop 6 l) in
    let fourth : drop 6 l ≡ word_bytes (word (drop 6 l)) ++ drop 4 (drop 6 l) = word_first (drop 6 l) long' (bytes_drop 6 l b) in
    let fifth : drop 4 (drop 6 l) ≡ drop 10 l = drop-drop 4 6 l in
    let left : 10 * n ≤ length (drop 10 l) = omega (arith, length-drop 10 l) in
    let others = gates-took (suc v) n (at + 10) (drop 10 l) left (bytes_drop 10 l b) k.1 in
    let end : drop (10 * n) (drop 10 l) ≡ drop (10 * suc n) l
    = drop-drop (10 * n) 10 l ∙ (let e : 10 + 10 * n ≡ 10 * suc n = omega arith in ap (λ (i : ℕ). drop i l) e) in
    first ∙ ap (λ (x : List ℕ). mark_bytes 65 ++ x)
    (second ∙ ap (λ (x : List ℕ). word_bytes (word (drop 2 l)) ++ x)
    (third ∙ (fourth ∙ ap (λ (x : List ℕ). word_bytes (word (drop 6 l)) ++ x)
    (fifth ∙ (others ∙ ap (λ (x : List ℕ). gate_cards (gates_in (suc v) n (drop 10 l)) ++ x) end)))))

pub length-gates-in : (v n : ℕ) (l : List ℕ) → length (gates_in v n l) ≡ n
length-gates-in v zero l = refl
length-gates-in v (suc n) l = ap suc (length-gates-in (suc v) n (drop 10 l))
