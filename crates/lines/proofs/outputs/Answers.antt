-- What a part of a file's body answers tells what was read there: what it leaves, or its refusal.
use Prim.Native.Nat.{ℕ}
use mathlib.Core.Path.{◌≡◌, ap}
use Rattle.std.specs.Prelude.{Result, Ok, Err}
use native.Mathlib.Omega.{arith}
use Rattle.plan.specs.declared.Refusal.{Refusal}
use Rattle.plan.specs.Refusals.{Parse, got, refused}

-- a part that was read
pub record Read {A : Type 0} (Held : A → Type 0) (p : Parse A) (next : ℕ) : Type 0 where
  pub value : A
  pub whole : p ≡ got value next
  pub held : Held value

module _ {A : Type 0} (Held : A → Type 0) where
  abbrev pub Answered : Parse A → Result ℕ Refusal → Type 0
  Answered (got a next) r = (r ≡ Ok next) × Held a
  Answered (refused r') r = r ≡ Err r'

  pub was_read : (p : Parse A) (r : Result ℕ Refusal) (next : ℕ) → Answered p r → r ≡ Ok next → Read Held p next
  was_read (got a n) r next h e = let told = h.0 in let same : n ≡ next = cc in record { value = a; whole = ap (got a) same; held = h.1 }
  was_read (refused q) r next h e = let z : ◌≡◌ {A = ℕ} 0 1 = cc in absurd (omega arith)

  pub was-refused : (p : Parse A) (r : Result ℕ Refusal) (q : Refusal) → Answered p r → r ≡ Err q → p ≡ refused q
  was-refused (got a n) r q h e = let told = h.0 in let z : ◌≡◌ {A = ℕ} 0 1 = cc in absurd (omega arith)
  was-refused (refused s) r q h e = let same : s ≡ q = cc in ap (λ (x : Refusal). refused x) same
