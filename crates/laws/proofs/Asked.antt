-- A writer that asks for room first: what it may do then, and what its answers say.
use Prim.Native.Nat.{ℕ, ◌+◌, ◌-◌, ◌^◌, ◌≤◌, min}
use mathlib.Core.Path.{◌≡◌, sym, ap, ◌∙◌}
use mathlib.Core.Bool.{Bool, true, false, not}
use mathlib.Core.List.{List}
use Rattle.std.specs.Prelude.{Ok, Err}
use native.Mathlib.Omega.{arith}
use borrow.Author.Tests.{leb-true, leb-false, not-true, not-false}
use lib.Dec.{leb}
use lib.ListN.{length}
use Rattle.plan.specs.declared.Refusal.TheVariants.{ShortBuffer}
use Rattle.plan.specs.Outcome.{WriteExit, put, put_bytes}
use Rattle.laws.proofs.Put.{with-room, without-room}

module _ (out : List ℕ) (at : ℕ) (w : List ℕ) (count : ℕ) (count-is : count ≡ length w) {r : Bool} (asked : r ≡ leb (at + count) (length out)) where
  pub fits : not r ≡ false → at + length w ≤ length out
  fits t = omega (arith, leb-true (at + count) (length out) (sym asked ∙ not-false r t), count-is)

  pub refused : not r ≡ true → (n : ℕ) → n ≡ min (at + count) (2 ^ 64 - 1)
      → ◌≡◌ {A = WriteExit} (record { answer = Err (ShortBuffer n); out = out }) (put_bytes out at w)
  refused t n e =
      without-room out at w n (omega (arith, leb-false (at + count) (length out) (sym asked ∙ not-true r t), count-is))
      (e ∙ ap (λ (k : ℕ). min (at + k) (2 ^ 64 - 1)) count-is)

  pub written : not r ≡ false → (x : List ℕ) → x ≡ put out at w → ◌≡◌ {A = WriteExit} (record { answer = Ok count; out = x }) (put_bytes out at w)
  written t x e = with-room out at w count x (fits t) count-is e
