-- The loops over gates: one turn takes one gate.
use Prim.Native.Nat.{ℕ, suc, zero, ◌+◌, ◌*◌, ◌-◌, ◌^◌, ◌<◌, ◌≤◌}
use mathlib.Core.Path.{◌≡◌, refl, sym, ap, ap₂, subst, ◌∙◌}
use mathlib.Core.List.{List, ◌++◌, map, append_assoc}
use native.Mathlib.Omega.{arith}
use lib.ListN.{length, get_or, take, drop, length-append}
use lib.Seq.{drop-drop}
use Rattle.plan.specs.Circuit.{rows_of, gate_of}
use Rattle.plan.specs.Difference.{groups_of}
use Rattle.plan.specs.Binary.{gate_bytes}
use Rattle.plan.specs.Outcome.{put}
use Rattle.laws.proofs.Tables.{row_word}
use Rattle.laws.proofs.Put.{put-put, put-length}
use Rattle.laws.proofs.Reading.Differences.{groups-some}
use Rattle.write.specs.print.Words.{Begun, sides_bytes, bytes_at, bytes_from}
use Rattle.write.proofs.print.Sizes.{groups-five}
use Rattle.write.proofs.print.Filling.{Filling, none_filled}

-- a row
pub row-bytes : (t row : List ℕ) (i : ℕ) → ((j : ℕ) → j < 3 → get_or row j 0 ≡ get_or t (3 * i + j) 0)
    → sides_bytes (get_or row 0 0) (get_or row 1 0) (get_or row 2 0) ≡ bytes_at t i
row-bytes t row i word =
    let z : 3 * i + 0 ≡ 3 * i = omega arith in
    ap₂ (λ (a b : ℕ). sides_bytes a b (get_or row 2 0)) (word 0 (omega arith) ∙ ap (λ (k : ℕ). get_or t k 0) z) (word 1 (omega arith))
    ∙ ap (λ (c : ℕ). sides_bytes (get_or t (3 * i) 0) (get_or t (3 * i + 1) 0) c) (word 2 (omega arith))

-- gates are their bytes one after another
rows-from : (t : List ℕ) (m i : ℕ) → gate_bytes (map gate_of (rows_of 3 m (drop (3 * i) t))) ≡ bytes_from t m i
rows-from t zero i = refl
rows-from t (suc m) i =
    let row : List ℕ = take 3 (drop (3 * i) t) in
    let place : 3 * i + 3 ≡ 3 * (i + 1) = omega arith in
    let tail : drop 3 (drop (3 * i) t) ≡ drop (3 * (i + 1)) t = drop-drop 3 (3 * i) t ∙ ap (λ (k : ℕ). drop k t) place in
    let rest : List ℕ = gate_bytes (map gate_of (rows_of 3 m (drop 3 (drop (3 * i) t)))) in
    sym (append_assoc (groups_of (get_or row 0 0 - get_or row 1 0)) (groups_of (get_or row 1 0 - get_or row 2 0)) rest)
    ∙ ap₂ (λ (x y : List ℕ). x ++ y) (row-bytes t row i (row_word 3 t i))
    (ap (λ (l : List ℕ). gate_bytes (map gate_of (rows_of 3 m l))) tail ∙ rows-from t m (i + 1))

-- the groups of both differences, counted
pub sides-count : (lhs rhs0 rhs1 d e a b : ℕ) → lhs < 2 ^ 32 → rhs0 < 2 ^ 32 → d ≡ lhs - rhs0 → e ≡ rhs0 - rhs1
    → a ≡ length (groups_of d) → b ≡ length (groups_of e) → (a + b ≡ length (sides_bytes lhs rhs0 rhs1)) × (a + b ≤ 10)
sides-count lhs rhs0 rhs1 d e a b hl hr d-is e-is a-is b-is =
    let x : List ℕ = groups_of (lhs - rhs0) in
    let y : List ℕ = groups_of (rhs0 - rhs1) in
    let first : a ≡ length x = a-is ∙ ap (λ (d : ℕ). length (groups_of d)) d-is in
    let second : b ≡ length y = b-is ∙ ap (λ (d : ℕ). length (groups_of d)) e-is in
    let few : length x ≤ 5 = groups-five (lhs - rhs0) (omega arith) in
    let few₂ : length y ≤ 5 = groups-five (rhs0 - rhs1) (omega arith) in
    let both : length (x ++ y) ≡ length x + length y = length-append x y in
    (omega arith, omega arith)

-- the first difference, then the second
module _ (out : List ℕ) (at lhs rhs0 rhs1 : ℕ) (fits : at + length (sides_bytes lhs rhs0 rhs1) ≤ length out) where
  both : length (sides_bytes lhs rhs0 rhs1) ≡ length (groups_of (lhs - rhs0)) + length (groups_of (rhs0 - rhs1))
  both = length-append (groups_of (lhs - rhs0)) (groups_of (rhs0 - rhs1))

  module _ (d : ℕ) (d-is : d ≡ lhs - rhs0) where
    pub first_fits : at + length (groups_of d) ≤ length out
    first_fits = omega (arith, fits, both, ap (λ (x : ℕ). length (groups_of x)) d-is)

    module _ (out' : List ℕ) (middle : ℕ) (m : middle ≡ at + length (groups_of d)) (o : out' ≡ put out at (groups_of d)) (e : ℕ)
        (e-is : e ≡ rhs0 - rhs1) where
      pub second_fits : middle + length (groups_of e) ≤ length out'
      second_fits =
          let same : length out' ≡ length out = ap length o ∙ put-length out at (groups_of d) first_fits in
          let first : length (groups_of d) ≡ length (groups_of (lhs - rhs0)) = ap (λ (x : ℕ). length (groups_of x)) d-is in
          let second : length (groups_of e) ≡ length (groups_of (rhs0 - rhs1)) = ap (λ (x : ℕ). length (groups_of x)) e-is in
          omega (arith, fits, both)

      pub sides-end : (end : ℕ) → end ≡ middle + length (groups_of e) → end ≡ at + length (sides_bytes lhs rhs0 rhs1)
      sides-end end end_is =
          let first : length (groups_of d) ≡ length (groups_of (lhs - rhs0)) = ap (λ (x : ℕ). length (groups_of x)) d-is in
          let second : length (groups_of e) ≡ length (groups_of (rhs0 - rhs1)) = ap (λ (x : ℕ). length (groups_of x)) e-is in
          omega (arith, both)

      pub sides-put : (out₂ : List ℕ) → out₂ ≡ put out' middle (groups_of e) → out₂ ≡ put out at (sides_bytes lhs rhs0 rhs1)
      sides-put out₂ o₂ =
          let x : List ℕ = groups_of (lhs - rhs0) in
          let y : List ℕ = groups_of (rhs0 - rhs1) in
          o₂
          ∙ (ap₂ (λ (l : List ℕ) (k : ℕ). put l k (groups_of e)) o m
          ∙ (ap₂ (λ (d e : ℕ). put (put out at (groups_of d)) (at + length (groups_of d)) (groups_of e)) d-is e-is ∙ put-put out at x y fits))

-- the bytes of the first i gates are counted
pub record Counted (t : List ℕ) (n sum i : ℕ) : Type 0 where
  pub bound : i ≤ n
  pub few : sum ≤ 10 * i
  pub total : sum + length (bytes_from t (n - i) i) ≡ length (gate_bytes (map gate_of (rows_of 3 n t)))

-- the bytes of the first i gates are written
pub record Printed (t : List ℕ) (n : ℕ) (out₀ : List ℕ) (at : ℕ) (out : List ℕ) (next i : ℕ) : Type 0 where
  pub bound : i ≤ n
  pub fill : Filling out₀ at (gate_bytes (map gate_of (rows_of 3 n t))) out next (bytes_from t (n - i) i)

module _ (t : List ℕ) (n : ℕ) where
  whole : bytes_from t (n - 0) 0 ≡ gate_bytes (map gate_of (rows_of 3 n t))
  whole =
      let all : n - 0 ≡ n = omega arith in
      ap (λ (m : ℕ). bytes_from t m 0) all ∙ sym (rows-from t n 0)

  one-gate : (i : ℕ) → i < n → bytes_from t (n - i) i ≡ bytes_at t i ++ bytes_from t (n - (i + 1)) (i + 1)
  one-gate i h =
      let more : n - i ≡ suc (n - (i + 1)) = omega arith in
      ap (λ (m : ℕ). bytes_from t m i) more

  -- a gate that follows has two bytes at least
  two-left : (i : ℕ) → i + 1 < n → 2 ≤ length (bytes_from t (n - (i + 1)) (i + 1))
  two-left i h =
      let g : List ℕ = groups_of (get_or t (3 * (i + 1)) 0 - get_or t (3 * (i + 1) + 1) 0) in
      let k : List ℕ = groups_of (get_or t (3 * (i + 1) + 1) 0 - get_or t (3 * (i + 1) + 2) 0) in
      let rest : List ℕ = bytes_from t (n - (i + 1 + 1)) (i + 1 + 1) in
      let size : length (bytes_from t (n - (i + 1)) (i + 1)) ≡ length (g ++ k) + length rest
      = ap length (one-gate (i + 1) h) ∙ length-append (g ++ k) rest in
      omega (
        arith,
        length-append g k,
        groups-some (get_or t (3 * (i + 1)) 0 - get_or t (3 * (i + 1) + 1) 0),
        groups-some (get_or t (3 * (i + 1) + 1) 0 - get_or t (3 * (i + 1) + 2) 0),
      )

  pub none-counted : Counted t n 0 0
  none-counted = record { bound = omega arith; few = omega arith; total = omega (arith, ap length whole) }

  pub one-counted : (sum i d : ℕ) → Counted t n sum i → i < n → d ≡ length (bytes_at t i) → d ≤ 10 → Counted t n (sum + d) (i + 1)
  one-counted sum i d s h d-is d-few =
      let rest : List ℕ = bytes_from t (n - (i + 1)) (i + 1) in
      let size : length (bytes_from t (n - i) i) ≡ length (bytes_at t i) + length rest
      = ap length (one-gate i h) ∙ length-append (bytes_at t i) rest in
      let before : sum + length (bytes_from t (n - i) i) ≡ length (gate_bytes (map gate_of (rows_of 3 n t))) = s.total in
      let few : sum ≤ 10 * i = s.few in
      let total : sum + d + length rest ≡ length (gate_bytes (map gate_of (rows_of 3 n t))) = omega arith in
      record { bound = omega arith; few = omega arith; total = total }

  pub none-printed : (out : List ℕ) (at : ℕ) → at + length (gate_bytes (map gate_of (rows_of 3 n t))) ≤ length out → Printed t n out at out at 0
  none-printed out at fits = record {
    bound = omega arith;
    fill =
        subst (λ (l : List ℕ). Filling out at (gate_bytes (map gate_of (rows_of 3 n t))) out at l) (sym whole)
        (none_filled out at (gate_bytes (map gate_of (rows_of 3 n t))) fits);
  }

  module _ (out₀ : List ℕ) (at : ℕ) (out : List ℕ) (next i : ℕ) (s : Printed t n out₀ at out next i) where
    pub followed-fits : i + 1 < n → next + length (bytes_at t i) + 2 ≤ length out
    followed-fits h =
        let room : next + length (bytes_from t (n - i) i) ≤ length out = s.fill.room in
        let size : length (bytes_from t (n - i) i) ≡ length (bytes_at t i) + length (bytes_from t (n - (i + 1)) (i + 1))
        = ap length (one-gate i (omega arith)) ∙ length-append (bytes_at t i) (bytes_from t (n - (i + 1)) (i + 1)) in
        omega (arith, two-left i h)

    -- the same where its bytes stand only once the next ones have been put
    pub one-begun : (out' : List ℕ) (next' : ℕ) → i + 1 < n → length out' ≡ length out → next' ≡ next + length (bytes_at t i)
        → Begun out next (bytes_at t i) out' next' → Printed t n out₀ at out' next' (i + 1)
    one-begun out' next' h same p b =
        let rest : List ℕ = bytes_from t (n - (i + 1)) (i + 1) in
        let room : next + length (bytes_from t (n - i) i) ≤ length out = s.fill.room in
        let ends : next + length (bytes_from t (n - i) i) ≡ at + length (gate_bytes (map gate_of (rows_of 3 n t))) = s.fill.ends in
        let size : length (bytes_from t (n - i) i) ≡ length (bytes_at t i) + length rest
        = ap length (one-gate i (omega arith)) ∙ length-append (bytes_at t i) rest in
        record {
          bound = omega arith;
          fill = (record {
            ends = omega arith;
            left = b rest (two-left i h) (omega arith) ∙ (ap (put out next) (sym (one-gate i (omega arith))) ∙ s.fill.left);
            size = same ∙ s.fill.size;
            room = omega arith;
          });
        }
