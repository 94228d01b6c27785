-- A number as the code holds it, cut beyond every limit, and the number that stands in the file.
use Prim.Native.Nat.{ℕ, min}
use mathlib.Core.Path.{◌≡◌, ap, sym}
use mathlib.Core.List.{List}
use Rattle.std.specs.Prelude.{Result, Ok, Err}
use Rattle.plan.specs.declared.Refusal.{Refusal}
use native.Mathlib.Omega.{arith}
use lib.ListN.{get_or, drop}
use Rattle.plan.specs.declared.Class.{Class}
use Rattle.plan.specs.declared.Class.TheVariants.{Line, Space, Zero, Digit, Print, Rest}
use Rattle.plan.specs.declared.Refusal.TheVariants.{WrongByte}
use Rattle.plan.specs.Literals.{beyond}
use Rattle.plan.specs.Refusals.{Parse, got, refused}
use Rattle.plan.specs.Bytes.{number_by, number, class_of}
use Rattle.plan.specs.Outcome.{cut_number, number_at}
use Rattle.laws.proofs.Pairs.{ok-pair}

abbrev pub cut : ℕ → ℕ
cut v = min v beyond

pub value-is : (p : Parse ℕ) (v next : ℕ) → Ok (v, next) ≡ cut_number p → (w : ℕ) × (p ≡ got w next) × (v ≡ cut w)
value-is (got w n) v next e =
    let both = ok-pair v (cut w) next n e in (w, ap (got w) (sym both.1), both.0)
value-is (refused r) v next e = let z : ◌≡◌ {A = ℕ} 0 1 = cc in absurd (omega arith)

refused-by : (p : Parse ℕ) (r : Refusal) → Err r ≡ cut_number p → p ≡ refused r
refused-by (got w n) r e = let z : ◌≡◌ {A = ℕ} 0 1 = cc in absurd (omega arith)
refused-by (refused q) r e = let same : q ≡ r = cc in ap refused same

pub wrong-is : (file : List ℕ) (at : ℕ) (r : Refusal) → Err r ≡ number_at file at → number file at ≡ refused r
wrong-is file at r e = refused-by (number file at) r e

pub err-is : (r q : Refusal) → ◌≡◌ {A = Result (ℕ × ℕ) Refusal} (Err r) (Err q) → r ≡ q
err-is r q e = cc

pub no-ok : (r : Refusal) (v : ℕ × ℕ) → ◌≡◌ {A = Result (ℕ × ℕ) Refusal} (Err r) (Ok v) → ⊥
no-ok r v e = let z : ◌≡◌ {A = ℕ} 0 1 = cc in omega arith

-- the only refusal of a number is 1, at its first byte
only-by : (c : Class) (l : List ℕ) (at : ℕ) (r : Refusal) → Err r ≡ cut_number (number_by c l at) → r ≡ WrongByte at
only-by Line l at r e = err-is r (WrongByte at) e
only-by Space l at r e = err-is r (WrongByte at) e
only-by Zero l at r e = absurd (no-ok r _ e)
only-by Digit l at r e = absurd (no-ok r _ e)
only-by Print l at r e = err-is r (WrongByte at) e
only-by Rest l at r e = err-is r (WrongByte at) e

pub only-wrong : (file : List ℕ) (at : ℕ) (r : Refusal) → Err r ≡ number_at file at → r ≡ WrongByte at
only-wrong file at r e = only-by (class_of (get_or file at 0)) (drop at file) at r e
