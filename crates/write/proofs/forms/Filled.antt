-- A buffer that is filled from its start by one call after another: each tells where it ended and what it put. How long the parts are
-- together.
use Prim.Native.Nat.{ℕ, ◌+◌, ◌≤◌}
use mathlib.Core.Path.{◌≡◌, refl, sym}
use mathlib.Core.List.{List, [], ◌++◌, append-nil}
use native.Mathlib.Omega.{arith}
use lib.ListN.{length, length-append}
use Rattle.plan.specs.Outcome.{put}
use Rattle.write.proofs.print.Filling.{Filling, none_filled, part_filled, part_room, all-filled, all-ends}

abbrev pub Puts : List ℕ → ℕ → List ℕ → ℕ → List ℕ → Type 0
Puts out at x next out' = (next ≡ at + length x) × (out' ≡ put out at x)

-- the first part, the next one, the last
pub first_fits : (x y out : List ℕ) → length (x ++ y) ≤ length out → 0 + length x ≤ length out
first_fits x y out h = part_room (none_filled out 0 (x ++ y) (omega arith)) x y refl

pub first-filled : (x y out : List ℕ) → length (x ++ y) ≤ length out → {next : ℕ} {out' : List ℕ} → (next ≡ length x) × (out' ≡ put out 0 x)
    → Filling out 0 (x ++ y) out' next y
first-filled x y out h w = part_filled (none_filled out 0 (x ++ y) (omega arith)) x y _ _ refl w.1 (omega (arith, w.0))

module _ {out₀ : List ℕ} {at : ℕ} {whole out : List ℕ} {next : ℕ} (x y : List ℕ) (f : Filling out₀ at whole out next (x ++ y)) where
  pub next_fits : next + length x ≤ length out
  next_fits = part_room f x y refl

  pub next-filled : {next' : ℕ} {out' : List ℕ} → Puts out next x next' out' → Filling out₀ at whole out' next' y
  next-filled w = part_filled f x y _ _ refl w.1 w.0

pub last-filled : {out₀ whole out : List ℕ} {next : ℕ} (x : List ℕ) → Filling out₀ 0 whole out next x
    → {next' : ℕ} {out' : List ℕ} → Puts out next x next' out' → (next' ≡ length whole) × (out' ≡ put out₀ 0 whole)
last-filled x f w =
    let g = part_filled f x [] _ _ (sym (append-nil x)) w.1 w.0 in
    (omega (arith, all-ends g refl), all-filled g refl)

pub three-parts : (x y z : List ℕ) {a b c : ℕ} → a ≡ length x → b ≡ length y → c ≡ length z → a + b + c ≡ length (x ++ (y ++ z))
three-parts x y z h i j = omega (arith, length-append x (y ++ z), length-append y z)

pub four-parts : (x y z w : List ℕ) {a b c d : ℕ} → a ≡ length x → b ≡ length y → c ≡ length z → d ≡ length w
    → a + b + c + d ≡ length (x ++ (y ++ (z ++ w)))
four-parts x y z w h i j k = omega (arith, length-append x (y ++ (z ++ w)), length-append y (z ++ w), length-append z w)

pub five-parts : (x y z w v : List ℕ) {a b c d e : ℕ} → a ≡ length x → b ≡ length y → c ≡ length z → d ≡ length w → e ≡ length v
    → a + b + c + d + e ≡ length (x ++ (y ++ (z ++ (w ++ v))))
five-parts x y z w v {d = d} {e = e} h i j k l =
    let last : d + e ≡ length (w ++ v) = omega (arith, length-append w v) in
    omega (arith, four-parts x y z (w ++ v) h i j last)
