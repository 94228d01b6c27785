-- Fillings and the question on small circuits.
use Prim.Native.Nat.{ℕ}
use mathlib.Core.Path.{◌≡◌, refl}
use mathlib.Core.Bool.{true, false}
use mathlib.Core.List.{List, [], ◌∷◌, map}
use Rattle.plan.specs.declared.Finding.TheVariants.{Yes, No, Undecided}
use Rattle.plan.specs.Circuit.{Circuit}
use Rattle.plan.specs.Step.{witnessed}
use Rattle.plan.specs.Fillings.{filling, question}

-- filling 1 puts its 1 at the first x
first-x-first : map (λ (k : ℕ). filling k (120 ∷ 49 ∷ 120 ∷ [])) (0 ∷ 1 ∷ 2 ∷ 3 ∷ [])
    ≡ (48 ∷ 49 ∷ 48 ∷ []) ∷ (49 ∷ 49 ∷ 48 ∷ []) ∷ (48 ∷ 49 ∷ 49 ∷ []) ∷ (49 ∷ 49 ∷ 49 ∷ []) ∷ []
first-x-first = refl

-- the input and its negation on two outputs: both are x on x, and one of them is 1 whatever x is
either : Circuit
either = record {
  M = 1;
  inputs = 2 ∷ [];
  latches = [];
  resets = [];
  outputs = 2 ∷ 3 ∷ [];
  bads = [];
  constraints = [];
  gates = [];
}

either-old : witnessed either 1 (120 ∷ []) ≡ false
unfolding either
either-old = refl

-- undecided, undecided, yes, yes; the empty list is undecided, then no
either-new : map (λ (a : ℕ). question either 1 (120 ∷ []) a) (0 ∷ 1 ∷ 2 ∷ 3 ∷ []) ≡ Undecided 0 ∷ Undecided 1 ∷ Yes 2 ∷ Yes 2 ∷ []
unfolding either
either-new = refl

either-empty : map (λ (a : ℕ). question either 0 [] a) (0 ∷ 1 ∷ []) ≡ Undecided 0 ∷ No 1 ∷ []
unfolding either
either-empty = refl

-- the first output alone: the two questions agree. A list without x has one filling; on x, filling 0 fails
alone : Circuit
alone = record {
  M = 1;
  inputs = 2 ∷ [];
  latches = [];
  resets = [];
  outputs = 2 ∷ [];
  bads = [];
  constraints = [];
  gates = [];
}

alone-old : map (witnessed alone 1) ((48 ∷ []) ∷ (49 ∷ []) ∷ (120 ∷ []) ∷ []) ≡ false ∷ true ∷ false ∷ []
unfolding alone
alone-old = refl

alone-new : map (λ (bytes : List ℕ). question alone 1 bytes 2) ((48 ∷ []) ∷ (49 ∷ []) ∷ (120 ∷ []) ∷ []) ≡ No 1 ∷ Yes 1 ∷ No 1 ∷ []
unfolding alone
alone-new = refl

-- two vectors of the negated input: the last of four fillings shows no 1, and an allowance of three does not reach it
turned : Circuit
turned = record {
  M = 1;
  inputs = 2 ∷ [];
  latches = [];
  resets = [];
  outputs = 3 ∷ [];
  bads = [];
  constraints = [];
  gates = [];
}

last-fails : map (λ (a : ℕ). question turned 2 (120 ∷ 120 ∷ []) a) (3 ∷ 4 ∷ []) ≡ Undecided 3 ∷ No 4 ∷ []
unfolding turned
last-fails = refl

-- a latch that starts as x and becomes 0 is bad, and the input is to be 1: filling 0, which has the start at 0, shows no 1
guarded : Circuit
guarded = record {
  M = 2;
  inputs = 2 ∷ [];
  latches = record { current = 4; next = 0 } ∷ [];
  resets = 4 ∷ [];
  outputs = [];
  bads = 4 ∷ [];
  constraints = 2 ∷ [];
  gates = [];
}

guarded-new : map (λ (bytes : List ℕ). question guarded 1 bytes 4) ((49 ∷ []) ∷ (120 ∷ []) ∷ []) ≡ No 1 ∷ No 1 ∷ []
unfolding guarded
guarded-new = refl

-- the negation of the latch is an output: on the list x, filling 1, which has the start at 1, is the first that shows no 1; were the
-- list's x numbered first, it would be filling 2
started : Circuit
started = record {
  M = 2;
  inputs = 2 ∷ [];
  latches = record { current = 4; next = 0 } ∷ [];
  resets = 4 ∷ [];
  outputs = 5 ∷ [];
  bads = [];
  constraints = [];
  gates = [];
}

started-new : map (λ (a : ℕ). question started 1 (120 ∷ []) a) (1 ∷ 2 ∷ 4 ∷ []) ≡ Undecided 1 ∷ No 2 ∷ No 2 ∷ []
unfolding started
started-new = refl

-- a constraint counts at all steps before: 1 is shown at the second step, but on filling 0 the constraint was 0 at the first
kept : Circuit
kept = record {
  M = 2;
  inputs = 2 ∷ [];
  latches = record { current = 4; next = 1 } ∷ [];
  resets = 0 ∷ [];
  outputs = 4 ∷ [];
  bads = [];
  constraints = 2 ∷ [];
  gates = [];
}

kept_new : map (λ (bytes : List ℕ). question kept 2 bytes 2) ((120 ∷ 49 ∷ []) ∷ (49 ∷ 49 ∷ []) ∷ []) ≡ No 1 ∷ Yes 1 ∷ []
unfolding kept
kept_new = refl
