-- A buffer that is filled part by part: what is left completes what was to be put.
use Prim.Native.Nat.{ℕ, ◌+◌, ◌≤◌}
use mathlib.Core.Path.{◌≡◌, refl, sym, ap, ◌∙◌}
use mathlib.Core.List.{List, [], ◌++◌}
use native.Mathlib.Omega.{arith}
use lib.ListN.{length, length-append}
use Rattle.plan.specs.Outcome.{put}
use Rattle.laws.proofs.Put.{put-none, put-length, put-put}

-- `rest` is left to put from `next` on
pub record Filling (out₀ : List ℕ) (at : ℕ) (whole out : List ℕ) (next : ℕ) (rest : List ℕ) : Type 0 where
  pub ends : next + length rest ≡ at + length whole
  pub left : put out next rest ≡ put out₀ at whole
  pub size : length out ≡ length out₀
  pub room : next + length rest ≤ length out

pub none_filled : (out : List ℕ) (at : ℕ) (whole : List ℕ) → at + length whole ≤ length out → Filling out at whole out at whole
none_filled out at whole h = record { ends = refl; left = refl; size = refl; room = h }

module _ {out₀ : List ℕ} {at : ℕ} {whole out : List ℕ} {next : ℕ} {rest : List ℕ} (f : Filling out₀ at whole out next rest) where
  pub part_room : (x y : List ℕ) → rest ≡ x ++ y → next + length x ≤ length out
  part_room x y e = omega (arith, f.room, ap length e ∙ length-append x y)

  pub part_filled : (x y out' : List ℕ) (next' : ℕ) → rest ≡ x ++ y → out' ≡ put out next x → next' ≡ next + length x
      → Filling out₀ at whole out' next' y
  part_filled x y out' next' e o p =
      let both : length rest ≡ length x + length y = ap length e ∙ length-append x y in
      let fits : next + length (x ++ y) ≤ length out = rw (← e) f.room in
      let same : length out' ≡ length out = ap length o ∙ put-length out next x (part_room x y e) in
      let size : length out ≡ length out₀ = f.size in
      let ends : next + length rest ≡ at + length whole = f.ends in
      let room : next + length rest ≤ length out = f.room in
      record {
        ends = omega arith;
        left =
            ap (λ (l : List ℕ). put l next' y) o
            ∙ (ap (λ (k : ℕ). put (put out next x) k y) p
            ∙ (put-put out next x y fits ∙ (ap (put out next) (sym e) ∙ f.left)));
        size = same ∙ size;
        room = omega arith;
      }

  pub all-filled : rest ≡ [] → out ≡ put out₀ at whole
  all-filled e = sym (put-none out next) ∙ (ap (put out next) (sym e) ∙ f.left)

  pub all-ends : rest ≡ [] → next ≡ at + length whole
  all-ends e = omega (arith, f.ends, ap length e)
