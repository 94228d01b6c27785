-- Values as words of scratch, two bits each: "may be 0", worth 1, and "may be 1", worth 2.
use Rattle.std.specs.Prelude.{ℕ, zero, suc, ◌+◌, ◌*◌, ◌≡◌, List, map, get_or, take, drop}
use Rattle.plan.specs.Step.{Value, v0, v1, vx, code_of, reset_value}
use Rattle.laws.proofs.Tables.{firsts}

abbrev pub may0 : Value → ℕ
may0 v0 = 1
may0 v1 = 0
may0 vx = 1

abbrev pub may1 : Value → ℕ
may1 v0 = 0
may1 v1 = 1
may1 vx = 1

abbrev pub word : Value → ℕ
word a = may0 a + 2 * may1 a

abbrev pub told : ℕ → Value
told zero = vx
told (suc zero) = v0
told (suc (suc zero)) = v1
told (suc (suc (suc k))) = vx

-- a word that is a value's
abbrev pub Coded : ℕ → Type 0
Coded w = w ≡ word (told w)

abbrev pub words : List Value → List ℕ
words l = map word l

-- the values of n words from a position on
abbrev pub values_at : List ℕ → ℕ → ℕ → List Value
values_at t from n = map told (take n (drop from t))

-- the codes of a run's first state, latch by latch; a reset that no table holds is 0
abbrev pub start_codes : List ℕ → ℕ → List ℕ
start_codes resets n = firsts (λ i. code_of (reset_value (get_or resets i 0))) n
