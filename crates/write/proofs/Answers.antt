-- A form and then the tail in a buffer: 11 with the length needed, or both are put.
use Prim.Native.Nat.{ℕ, ◌+◌, ◌-◌, ◌^◌, ◌<◌, ◌≤◌, min}
use mathlib.Core.Path.{◌≡◌, sym, ap, ◌∙◌}
use mathlib.Core.Bool.{Bool, true, false}
use mathlib.Core.List.{List, ◌++◌}
use Rattle.std.specs.Prelude.{Ok, Err}
use native.Mathlib.Omega.{arith}
use borrow.Author.Tests.{leb-true, leb-false}
use lib.Dec.{leb}
use lib.ListN.{length, length-append}
use Rattle.plan.specs.declared.Refusal.TheVariants.{ShortBuffer}
use Rattle.plan.specs.Outcome.{WriteExit, put, put_bytes}
use Rattle.laws.proofs.Put.{with-room, without-room}
use Rattle.write.proofs.forms.Filled.{Puts, first-filled, last-filled}

module _ (form tail out : List ℕ) {long : ℕ} (long-is : long ≡ length form) {held : Bool}
    (held-is : held ≡ leb (long + length tail) (length out)) where
  both : length (form ++ tail) ≡ length form + length tail
  both = length-append form tail

  pub no_room : held ≡ false → {place : ℕ} → place ≡ min (long + length tail) (2 ^ 64 - 1)
      → ◌≡◌ {A = WriteExit} (record { answer = Err (ShortBuffer place); out = out }) (put_bytes out 0 (form ++ tail))
  no_room h {place} place_is =
      let sum : long + length tail ≡ 0 + length (form ++ tail) = omega (arith, both) in
      let short : length out < long + length tail = leb-false _ _ (sym held-is ∙ h) in
      without-room out 0 (form ++ tail) place (omega arith)
      (place_is ∙ ap (λ (k : ℕ). min k (2 ^ 64 - 1)) sum)

  module _ (h : held ≡ true) where
    all-fits : length (form ++ tail) ≤ length out
    all-fits =
        let enough : long + length tail ≤ length out = leb-true _ _ (sym held-is ∙ h) in
        omega (arith, both)

    pub form-fits : length form ≤ length out
    form-fits = omega (arith, both, all-fits)

    module _ {end : ℕ} {out' : List ℕ} (filled : (end ≡ length form) × (out' ≡ put out 0 form)) where
      pub tail-fits : end + length tail ≤ length out'
      tail-fits = (first-filled form tail out all-fits filled).room

      pub all-put : {end' : ℕ} {out'' : List ℕ} → Puts out' end tail end' out''
          → ◌≡◌ {A = WriteExit} (record { answer = Ok end'; out = out'' }) (put_bytes out 0 (form ++ tail))
      all-put w =
          let ends = last-filled tail (first-filled form tail out all-fits filled) w in
          with-room out 0 (form ++ tail) _ _ (omega (arith, all-fits)) ends.0 ends.1
