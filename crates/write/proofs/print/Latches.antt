-- Lines of latches: one turn takes one latch.
use Prim.Native.Nat.{ℕ, suc, zero, ◌+◌, ◌*◌, ◌-◌, ◌^◌, ◌<◌, ◌≤◌}
use mathlib.Core.Path.{◌≡◌, refl, sym, ap, ap₂, subst, ◌∙◌}
use mathlib.Core.Bool.{Bool, true, false}
use mathlib.Core.List.{List, [], ◌∷◌, ◌++◌, append_assoc}
use native.Mathlib.Numerals.{add-one}
use native.Mathlib.Omega.{arith}
use lib.ListN.{length, get_or, take, drop, length-append}
use lib.Seq.{drop-cons, drop-drop}
use Rattle.plan.specs.Bytes.{digits, end_of, lines_of}
use Rattle.plan.specs.Outcome.{put}
use Rattle.laws.proofs.Tables.{row_word}
use Rattle.laws.proofs.Put.{put-put, put-length}
use Rattle.write.specs.print.Words.{word_bytes}
use Rattle.write.specs.print.Latches.{next_line, latch_bytes, latch_rows, latch_bytes_at, latch_bytes_from}
use Rattle.write.proofs.print.Sizes.{digits-ten}
use Rattle.write.proofs.print.Filling.{Filling, none_filled, part_room, part_filled}

-- a next state whose reset is 0; one whose reset is not, and a current state before either
pub next-alone : (next reset : ℕ) → reset ≡ 0 → next_line next reset ≡ word_bytes 0 next
next-alone next reset e = ap (next_line next) e

pub next_both : (next reset : ℕ) → 0 < reset → next_line next reset ≡ word_bytes 1 next ++ word_bytes 0 reset
next_both next zero h = absurd (omega arith)
next_both next (suc r) h = sym (append_assoc (digits next) (32 ∷ []) (word_bytes 0 (suc r)))

pub binary-line : (b : Bool) (current next reset : ℕ) → b ≡ true → latch_bytes b current next reset ≡ next_line next reset
binary-line b current next reset e = ap (λ (x : Bool). latch_bytes x current next reset) e

pub text-line : (b : Bool) (current next reset : ℕ) → b ≡ false
    → latch_bytes b current next reset ≡ word_bytes 1 current ++ next_line next reset
text-line b current next reset e =
    ap (λ (x : Bool). latch_bytes x current next reset) e ∙ sym (append_assoc (digits current) (32 ∷ []) (next_line next reset))

-- how long they are
word-long : (j w : ℕ) → w < 2 ^ 32 → (length (word_bytes j w) ≡ length (digits w) + 1) × (length (digits w) ≤ 10)
word-long j w h = (length-append (digits w) (end_of j ∷ []), digits-ten w h)

pub alone-count : (next reset d : ℕ) → next < 2 ^ 32 → reset ≡ 0 → d ≡ length (digits next)
    → (d + 1 ≡ length (next_line next reset)) × (d + 1 ≤ 22)
alone-count next reset d h z d-is =
    let l = word-long 0 next h in
    (omega (arith, l.0, ap length (next-alone next reset z)), omega (arith, l.1))

pub both-count : (next reset d e : ℕ) → next < 2 ^ 32 → reset < 2 ^ 32 → 0 < reset → d ≡ length (digits next) → e ≡ length (digits reset)
    → (d + 1 + e + 1 ≡ length (next_line next reset)) × (d + 1 + e + 1 ≤ 22)
both-count next reset d e h k z d-is e-is =
    let l = word-long 1 next h in
    let m = word-long 0 reset k in
    let size : length (next_line next reset) ≡ length (word_bytes 1 next) + length (word_bytes 0 reset)
    = ap length (next_both next reset z) ∙ length-append (word_bytes 1 next) (word_bytes 0 reset) in
    (omega (arith, l.0, m.0), omega (arith, l.1, m.1))

pub current-count : (b : Bool) (current next reset d last : ℕ) → b ≡ false → current < 2 ^ 32 → d ≡ length (digits current)
    → last ≡ length (next_line next reset) → last ≤ 22
    → (d + 1 + last ≡ length (latch_bytes b current next reset)) × (d + 1 + last ≤ 33)
current-count b current next reset d last e h d-is last-is few =
    let l = word-long 1 current h in
    let size : length (latch_bytes b current next reset) ≡ length (word_bytes 1 current) + length (next_line next reset)
    = ap length (text-line b current next reset e) ∙ length-append (word_bytes 1 current) (next_line next reset) in
    (omega (arith, l.0), omega (arith, l.1))

-- two parts put one after the other
module _ (out : List ℕ) (at : ℕ) (x y whole : List ℕ) (whole_is : whole ≡ x ++ y) (fits : at + length whole ≤ length out) where
  pub fits-first : at + length x ≤ length out
  fits-first = omega (arith, fits, ap length whole_is ∙ length-append x y)

  module _ (out' : List ℕ) (middle : ℕ) (m : middle ≡ at + length x) (o : out' ≡ put out at x) where
    pub fits-second : middle + length y ≤ length out'
    fits-second =
        let same : length out' ≡ length out = ap length o ∙ put-length out at x fits-first in
        omega (arith, fits, ap length whole_is ∙ length-append x y)

    pub ends-second : (end : ℕ) → end ≡ middle + length y → end ≡ at + length whole
    ends-second end e = omega (arith, ap length whole_is ∙ length-append x y)

    pub puts-second : (out₂ : List ℕ) → out₂ ≡ put out' middle y → out₂ ≡ put out at whole
    puts-second out₂ o₂ =
        let f : at + length (x ++ y) ≤ length out = rw (← whole_is) fits in
        o₂ ∙ (ap₂ (λ (l : List ℕ) (k : ℕ). put l k y) o m ∙ (put-put out at x y f ∙ ap (put out at) (sym whole_is)))

-- the lines of tables are their latches' one after another
module _ (t rs : List ℕ) where
  row-0 : (i : ℕ) → get_or (take 2 (drop (2 * i) t)) 0 0 ≡ get_or t (2 * i) 0
  row-0 i = let z : 2 * i + 0 ≡ 2 * i = omega arith in row_word 2 t i 0 (omega arith) ∙ ap (λ (k : ℕ). get_or t k 0) z

  row-1 : (i : ℕ) → get_or (take 2 (drop (2 * i) t)) 1 0 ≡ get_or t (2 * i + 1) 0
  row-1 i = row_word 2 t i 1 (omega arith)

  row-bytes : (b : Bool) (i : ℕ)
      → latch_bytes b (get_or (take 2 (drop (2 * i) t)) 0 0) (get_or (take 2 (drop (2 * i) t)) 1 0) (get_or rs i 0) ≡ latch_bytes_at b t rs i
  row-bytes b i = ap₂ (λ (x y : ℕ). latch_bytes b x y (get_or rs i 0)) (row-0 i) (row-1 i)

  more_rows : (m i : ℕ) (r : ℕ) (T R : List ℕ) (b : Bool)
      → lines_of (latch_rows b (suc m) T (r ∷ R)) ≡ latch_bytes b (get_or (take 2 T) 0 0) (get_or (take 2 T) 1 0) r ++ lines_of (latch_rows b m (drop 2 T) R)
  more_rows m i r T R true = refl
  more_rows m i r T R false = refl

  no_rows : (b : Bool) (T R : List ℕ) → lines_of (latch_rows b 0 T R) ≡ []
  no_rows true T R = refl
  no_rows false T R = refl

  rows-from : (b : Bool) (m i : ℕ) → i + m ≤ length rs → lines_of (latch_rows b m (drop (2 * i) t) (drop i rs)) ≡ latch_bytes_from b t rs m i
  rows-from b zero i h = no_rows b (drop (2 * i) t) (drop i rs)
  rows-from b (suc m) i h =
      let place : 2 * i + 2 ≡ 2 * (i + 1) = omega arith in
      let tail : drop 2 (drop (2 * i) t) ≡ drop (2 * (i + 1)) t = drop-drop 2 (2 * i) t ∙ ap (λ (k : ℕ). drop k t) place in
      let head : drop i rs ≡ get_or rs i 0 ∷ drop (i + 1) rs
      = drop-cons rs i 0 (omega arith) ∙ ap (λ (k : ℕ). get_or rs i 0 ∷ drop k rs) (sym (add-one i)) in
      ap (λ (l : List ℕ). lines_of (latch_rows b (suc m) (drop (2 * i) t) l)) head
      ∙ (more_rows m i (get_or rs i 0) (drop (2 * i) t) (drop (i + 1) rs) b
      ∙ ap₂ (λ (x y : List ℕ). x ++ y) (row-bytes b i)
      (ap (λ (l : List ℕ). lines_of (latch_rows b m l (drop (i + 1) rs))) tail ∙ rows-from b m (i + 1) (omega arith)))

-- the bytes of the first i latches are counted
pub record Counted (b : Bool) (t rs : List ℕ) (n sum i : ℕ) : Type 0 where
  pub bound : i ≤ n
  pub few : sum ≤ 33 * i
  pub total : sum + length (latch_bytes_from b t rs (n - i) i) ≡ length (lines_of (latch_rows b n t rs))

-- the bytes of the first i latches are written
pub record Printed (b : Bool) (t rs : List ℕ) (n : ℕ) (out₀ : List ℕ) (at : ℕ) (out : List ℕ) (next i : ℕ) : Type 0 where
  pub bound : i ≤ n
  pub fill : Filling out₀ at (lines_of (latch_rows b n t rs)) out next (latch_bytes_from b t rs (n - i) i)

module _ (b : Bool) (t rs : List ℕ) (n : ℕ) where
  whole : n ≤ length rs → latch_bytes_from b t rs (n - 0) 0 ≡ lines_of (latch_rows b n t rs)
  whole h =
      let all : n - 0 ≡ n = omega arith in
      ap (λ (m : ℕ). latch_bytes_from b t rs m 0) all ∙ sym (rows-from t rs b n 0 (omega arith))

  abbrev rest : ℕ → List ℕ
  rest i = latch_bytes_from b t rs (n - (i + 1)) (i + 1)

  one-latch : (i : ℕ) → i < n → latch_bytes_from b t rs (n - i) i ≡ latch_bytes_at b t rs i ++ rest i
  one-latch i h =
      let more : n - i ≡ suc (n - (i + 1)) = omega arith in
      ap (λ (m : ℕ). latch_bytes_from b t rs m i) more

  pub none-counted : n ≤ length rs → Counted b t rs n 0 0
  none-counted h = record { bound = omega arith; few = omega arith; total = omega (arith, ap length (whole h)) }

  pub one-counted : (sum i d : ℕ) → Counted b t rs n sum i → i < n → d ≡ length (latch_bytes_at b t rs i) → d ≤ 33
      → Counted b t rs n (sum + d) (i + 1)
  one-counted sum i d s h d-is d-few =
      let size : length (latch_bytes_from b t rs (n - i) i) ≡ length (latch_bytes_at b t rs i) + length (rest i)
      = ap length (one-latch i h) ∙ length-append (latch_bytes_at b t rs i) (rest i) in
      let before : sum + length (latch_bytes_from b t rs (n - i) i) ≡ length (lines_of (latch_rows b n t rs)) = s.total in
      let few : sum ≤ 33 * i = s.few in
      let total : sum + d + length (rest i) ≡ length (lines_of (latch_rows b n t rs)) = omega arith in
      record { bound = omega arith; few = omega arith; total = total }

  pub none-printed : (out : List ℕ) (at : ℕ) → n ≤ length rs → at + length (lines_of (latch_rows b n t rs)) ≤ length out
      → Printed b t rs n out at out at 0
  none-printed out at h fits = record {
    bound = omega arith;
    fill =
        subst (λ (l : List ℕ). Filling out at (lines_of (latch_rows b n t rs)) out at l) (sym (whole h))
        (none_filled out at (lines_of (latch_rows b n t rs)) fits);
  }

  module _ (out₀ : List ℕ) (at : ℕ) (out : List ℕ) (next i : ℕ) (s : Printed b t rs n out₀ at out next i) where
    pub latch-fits : i < n → next + length (latch_bytes_at b t rs i) ≤ length out
    latch-fits h = part_room s.fill (latch_bytes_at b t rs i) (rest i) (one-latch i h)

    pub one-printed : (out' : List ℕ) (next' : ℕ) → i < n → out' ≡ put out next (latch_bytes_at b t rs i)
        → next' ≡ next + length (latch_bytes_at b t rs i) → Printed b t rs n out₀ at out' next' (i + 1)
    one-printed out' next' h o p = record {
      bound = omega arith;
      fill = part_filled s.fill (latch_bytes_at b t rs i) (rest i) out' next' (one-latch i h) o p;
    }
