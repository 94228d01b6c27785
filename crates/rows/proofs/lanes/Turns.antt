-- One turn of each loop, and what straight code leaves.
use Prim.Native.Nat.{ℕ, zero, suc, ◌+◌, ◌*◌, ◌/◌, ◌%◌, ◌^◌, ◌≤◌, ◌<◌}
use mathlib.Core.Path.{◌≡◌, refl, sym, ap, ap₂, ◌∙◌, subst}
use mathlib.Core.List.{List, [], ◌∷◌, ◌++◌, append_assoc, append-nil}
use native.Mathlib.Numerals.{add-one}
use native.Mathlib.Omega.{arith}
use lib.Bits.{bit_and, bit_or, bit_xor}
use lib.Count.{ones, ones_cat, ones-le}
use lib.ListN.{length, get_or, take, drop, set, length-append}
use lib.Pow.{shl_exact}
use lib.Seq.{sets-eq}
use Rattle.plan.specs.Literals.{var_of, neg_of}
use Rattle.plan.specs.Circuit.{Gate, flat}
use Rattle.plan.specs.Outcome.{put}
use Rattle.laws.proofs.Put.{put-put}
use Rattle.laws.proofs.Tables.{firsts, length-firsts, gate_at, gates_at, next_row}
use Rattle.laws.proofs.Running.Sides.{Sides, sides-below}
use Rattle.rows.specs.Planes.Planes.{pairs, and_plane, or_plane, sweep_planes}
use Rattle.rows.proofs.Planes.Lanes.{planes-snoc, planes-length}
use Rattle.rows.specs.lanes.Words.{plane_words, plane_at, Begins}
use Rattle.rows.specs.lanes.Working.{Grows, Sweeps, Swept, There, gate_planes, counts_at}
use Rattle.rows.proofs.lanes.Words.{begins-plane, begins-more, pairs-length}

-- a mask of lanes
pub one_shl : (s : ℕ) → s < 64 → 1 * 2 ^ s % 18446744073709551616 ≡ 2 ^ s
one_shl s h = shl_exact 1 s 64 (omega arith) (omega arith) ∙ omega arith

-- the lane words of a plane
pub ones-words : (p : ℕ) → ones (p % 4294967296) + ones (p / 4294967296) ≡ ones p
ones-words p =
    let whole : p / 4294967296 * 4294967296 + p % 4294967296 ≡ p = omega arith in
    let low : p % 4294967296 < 4294967296 = omega arith in
    let turned : ones (p % 4294967296) + ones (p / 4294967296) ≡ ones (p / 4294967296) + ones (p % 4294967296) = omega arith in
    turned ∙ (sym (ones_cat 32 (p / 4294967296) (p % 4294967296) low) ∙ ap ones whole)

-- stores in a row
pub four-put : (t : List ℕ) (to a b c d : ℕ) → to + 4 ≤ length t
    → set (set (set (set t to a) (to + 1) b) (to + 2) c) (to + 3) d ≡ put t to (a ∷ b ∷ c ∷ d ∷ [])
four-put t to a b c d room =
    let one : to + 1 ≡ suc to = omega arith in
    let two : to + 2 ≡ suc (suc to) = omega arith in
    let three : to + 3 ≡ suc (suc (suc to)) = omega arith in
    ap (λ (k : ℕ). set (set (set (set t to a) k b) (to + 2) c) (to + 3) d) one
    ∙ (ap₂ (λ (k m : ℕ). set (set (set (set t to a) (suc to) b) k c) m d) two three
    ∙ (sets-eq (a ∷ b ∷ c ∷ d ∷ []) t to room ∙ append_assoc (take to t) (a ∷ b ∷ c ∷ d ∷ []) (drop (to + 4) t)))

pub three-put : (t : List ℕ) (to a b c : ℕ) → to + 3 ≤ length t
    → set (set (set t to a) (to + 1) b) (to + 2) c ≡ put t to (a ∷ b ∷ c ∷ [])
three-put t to a b c room =
    let one : to + 1 ≡ suc to = omega arith in
    let two : to + 2 ≡ suc (suc to) = omega arith in
    ap₂ (λ (k m : ℕ). set (set (set t to a) k b) m c) one two
    ∙ (sets-eq (a ∷ b ∷ c ∷ []) t to room ∙ append_assoc (take to t) (a ∷ b ∷ c ∷ []) (drop (to + 3) t))

-- a variable's planes more
pub grows-more : (before : ℕ) (f g : ℕ → ℕ) (i : ℕ) (t₀ t : List ℕ) → Grows before f g i t₀ t → (a b : ℕ) (t' : List ℕ)
    → 4 * (before + i) + 4 ≤ length t → a ≡ f i → b ≡ g i
    → t' ≡ put t (4 * (before + i)) (plane_words (a ∷ b ∷ []))
    → Grows before f g (i + 1) t₀ t'
grows-more before f g i t₀ t w a b t' room ea eb e q l s =
    subst (λ (x : List ℕ). Begins x t')
    (append_assoc q (pairs f g i) (f i ∷ g i ∷ []) ∙ ap (λ (k : ℕ). q ++ pairs f g k) (sym (add-one i)))
    (begins-more (q ++ pairs f g i) t (w q l s) (f i ∷ g i ∷ []) (4 * (before + i)) t'
    (omega (arith, length-append q (pairs f g i), pairs-length f g i)) room
    (e ∙ ap₂ (λ (x y : ℕ). put t (4 * (before + i)) (plane_words (x ∷ y ∷ []))) ea eb))

-- a gate's planes more
module _ {gates : List ℕ} {n before : ℕ} {t₀ : List ℕ} (p : Sweeps gates n before t₀)
    (i : ℕ) (h : i < n) (t : List ℕ) (same : length t ≡ length t₀) where
  sides : Sides (before + i) (gate_at gates i)
  sides = sides-below before gates n i h p.ordered

  pub first-there : There (gate_at gates i).rhs0 t
  first-there = omega (arith, sides.0, p.table-long)

  pub second-there : There (gate_at gates i).rhs1 t
  second-there = omega (arith, sides.1, p.table-long)

  pub swept-more : Swept gates i before t₀ t → (t' : List ℕ)
      → t' ≡ put t (4 * (before + i)) (plane_words (gate_planes t (gate_at gates i).rhs0 (gate_at gates i).rhs1))
      → Swept gates (i + 1) before t₀ t'
  swept-more w t' e q l s =
      subst (λ (x : List ℕ). Begins x t') (sym (planes-snoc q (gates_at gates i) g) ∙ ap (λ (k : ℕ). sweep_planes q (gates_at gates k)) (sym (add-one i)))
      (begins-more u t (w q l s) (and_plane u g ∷ or_plane u g ∷ []) (4 * (before + i)) t' (omega (arith, count))
      (omega (arith, p.table-long))
      (e ∙ ap₂ (λ (x y : ℕ). put t (4 * (before + i)) (plane_words (x ∷ y ∷ [])))
      (ap₂ bit_and (plane g.rhs0 sides.0) (plane g.rhs1 sides.1))
      (ap₂ bit_or (plane (neg_of g.rhs0) (omega (arith, sides.0))) (plane (neg_of g.rhs1) (omega (arith, sides.1))))))
    where
      g : Gate
      g = gate_at gates i

      u : List ℕ
      u = sweep_planes q (gates_at gates i)

      count : length u ≡ 2 * (before + i)
      count = planes-length q (gates_at gates i) ∙ omega (arith, length-firsts (gate_at gates) i)

      plane : (m : ℕ) → var_of m < before + i → plane_at t m ≡ get_or u m 0
      plane m k = begins-plane u t (w q l s) m (omega (arith, count))

-- one row more of w words each
pub flat-snoc : (rows : List (List ℕ)) (row : List ℕ) → flat (rows ++ (row ∷ [])) ≡ flat rows ++ row
flat-snoc [] row = append-nil row
flat-snoc (r ∷ rows) row = ap (λ (l : List ℕ). r ++ l) (flat-snoc rows row) ∙ sym (append_assoc r (flat rows) row)

module _ (f : ℕ → List ℕ) (w : ℕ) (each : (k : ℕ) → length (f k) ≡ w) where
  flat-length : (k : ℕ) → length (flat (firsts f k)) ≡ w * k
  flat-length zero = omega arith
  flat-length (suc k) =
      ap length (flat-snoc (firsts f k) (f k)) ∙ (length-append (flat (firsts f k)) (f k)
      ∙ (ap₂ (λ (x y : ℕ). x + y) (flat-length k) (each k) ∙ (next_row w k (w * k) refl ∙ ap (λ (m : ℕ). w * m) (add-one k))))

  pub rows_more : (k to : ℕ) (out₀ out out' : List ℕ) → to ≡ w * k → w * (k + 1) ≤ length out₀
      → out ≡ put out₀ 0 (flat (firsts f k))
      → out' ≡ put out to (f k)
      → out' ≡ put out₀ 0 (flat (firsts f (k + 1)))
  rows_more k to out₀ out out' here room e e' =
      let there : to ≡ 0 + length x = omega (arith, flat-length k) in
      let fits : 0 + length (x ++ f k) ≤ length out₀ = omega (arith, flat-length k, each k, next_row w k to here, length-append x (f k)) in
      e' ∙ (ap₂ (λ (l : List ℕ) (p : ℕ). put l p (f k)) e there
      ∙ (put-put out₀ 0 x (f k) fits
      ∙ ap (put out₀ 0) (sym (flat-snoc (firsts f k) (f k)) ∙ ap (λ (m : ℕ). flat (firsts f m)) (sym (add-one k)))))
    where
      x : List ℕ
      x = flat (firsts f k)

-- a plane of 64 lanes has a small count
pub ones_small : (p : ℕ) → p < 18446744073709551616 → ones p < 4294967296
ones_small p h = omega (arith, ones-le 64 p h)

pub grows_all : (before : ℕ) (f g : ℕ → ℕ) (i n : ℕ) (t₀ t : List ℕ) → i ≡ n → Grows before f g i t₀ t → Grows before f g n t₀ t
grows_all before f g i n t₀ t e w = subst (λ (k : ℕ). Grows before f g k t₀ t) e w

-- what a gate puts, and what a literal counts, from what is read
pub gate-planes : (t : List ℕ) (a b p q r s : ℕ) → p ≡ plane_at t a → q ≡ plane_at t b → r ≡ plane_at t (neg_of a) → s ≡ plane_at t (neg_of b)
    → ◌≡◌ {A = List ℕ} (bit_and p q ∷ bit_or r s ∷ []) (gate_planes t a b)
gate-planes t a b p q r s ep eq er es =
    ap₂ (λ (x y : ℕ). x ∷ y ∷ []) (ap₂ bit_and ep eq) (ap₂ bit_or er es)

pub literal-counts : (t : List ℕ) (mask l p q x y z : ℕ) → p ≡ plane_at t l → q ≡ plane_at t (neg_of l)
    → x ≡ ones (bit_and (bit_xor q (bit_and p q)) mask) → y ≡ ones (bit_and (bit_xor p (bit_and p q)) mask) → z ≡ ones (bit_and (bit_and p q) mask)
    → ◌≡◌ {A = List ℕ} (x ∷ y ∷ z ∷ []) (counts_at t mask l)
literal-counts t mask l p q x y z ep eq ex ey ez =
    (λ i. ex i ∷ ey i ∷ ez i ∷ [])
    ∙ ap₂ (λ (a b : ℕ). ones (bit_and (bit_xor b (bit_and a b)) mask) ∷ ones (bit_and (bit_xor a (bit_and a b)) mask)
    ∷ ones (bit_and (bit_and a b) mask) ∷ []) ep eq
