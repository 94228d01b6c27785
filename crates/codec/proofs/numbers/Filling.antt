-- The loop that writes a number: the digits of what is left, and the digits put already, are those of the whole number.
use Prim.Native.Nat.{ℕ, suc, ◌+◌, ◌-◌, ◌/◌, ◌%◌, ◌<◌, ◌≤◌}
use mathlib.Core.Path.{◌≡◌, refl, sym, ap, ◌∙◌}
use mathlib.Core.List.{List, [], ◌∷◌, ◌++◌, append-nil}
use native.Mathlib.Omega.{arith}
use lib.ListN.{length, set}
use lib.Seq.{append_snoc}
use Rattle.plan.specs.Bytes.{digits}
use Rattle.plan.specs.Outcome.{put}
use Rattle.laws.proofs.Reading.Number.{digits-small, digits_step, digits-some}
use Rattle.laws.proofs.Put.{put-none, put-length, put-before}
use Rattle.codec.proofs.numbers.Length.{one, more}

pub record Filling (out₀ : List ℕ) (at n : ℕ) (out : List ℕ) (i rest : ℕ) : Type 0 where
  pub written : List ℕ
  pub spelled : digits n ≡ digits rest ++ written
  pub place : i ≡ at + length (digits rest)
  pub filled : out ≡ put out₀ i written
  pub fits : i + length written ≤ length out₀

pub starts : (out₀ : List ℕ) (at n k : ℕ) → k ≡ length (digits n) → at + k ≤ length out₀ → Filling out₀ at n out₀ (at + k) n
starts out₀ at n k e h = record {
  written = [];
  spelled = sym (append-nil (digits n));
  place = ap (λ (x : ℕ). at + x) e;
  filled = sym (put-none out₀ (at + k));
  fits = omega arith;
}

module _ {out₀ : List ℕ} {at n : ℕ} {out : List ℕ} {i rest : ℕ} (f : Filling out₀ at n out i rest) where
  pub wide : length out ≡ length out₀
  wide = ap length f.filled ∙ put-length out₀ i f.written f.fits

  pub begun : at < i
  begun = omega (arith, f.place, digits-some rest)

  pub inside : i ≤ length out
  inside = omega (arith, f.fits, wide)

  pub step : 10 ≤ rest → Filling out₀ at n (set out (i - 1) (48 + rest % 10)) (i - 1) (rest / 10)
  step h =
      let b = 48 + rest % 10 in
      let size : suc (length (digits (rest / 10))) ≡ length (digits rest) = more rest (length (digits (rest / 10))) h refl in
      let down : i ≡ i - 1 + 1 = omega (arith, f.place) in
      record {
        written = b ∷ f.written;
        spelled = f.spelled ∙ (ap (λ (x : List ℕ). x ++ f.written) (digits_step rest h) ∙ append_snoc (digits (rest / 10)) b f.written);
        place = omega (arith, f.place);
        filled =
            ap (λ (x : List ℕ). set x (i - 1) b) (f.filled ∙ ap (λ (k : ℕ). put out₀ k f.written) down)
            ∙ put-before out₀ (i - 1) b f.written (omega (arith, f.fits));
        fits = omega (arith, f.fits, f.place);
      }

  pub ends : rest < 10 → set out at (48 + rest) ≡ put out₀ at (digits n)
  ends h =
      let last : i ≡ at + 1 = omega (arith, f.place, one rest h) in
      let all : (48 + rest) ∷ f.written ≡ digits n = sym (f.spelled ∙ ap (λ (x : List ℕ). x ++ f.written) (digits-small rest h)) in
      ap (λ (x : List ℕ). set x at (48 + rest)) (f.filled ∙ ap (λ (k : ℕ). put out₀ k f.written) last)
      ∙ (put-before out₀ at (48 + rest) f.written (omega (arith, f.fits)) ∙ ap (put out₀ at) all)
