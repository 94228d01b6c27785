-- The search on small circuits, computed, and two plans compared.
use Prim.Native.Nat.{ℕ}
use mathlib.Core.Path.{◌≡◌, refl}
use mathlib.Core.Bool.{true}
use mathlib.Core.List.{List, [], ◌∷◌, ◌++◌, map}
use lib.ListN.{replicate}
use Rattle.plan.specs.Circuit.{Circuit, seven}
use Rattle.plan.specs.Binary.{binary_order}
use Rattle.plan.specs.Search.{never, happens, undecided, watched, can_happen, SearchEntry, happening_values, search}
use Rattle.plan.specs.Product.{product}

-- two latches in a row behind an input; bad where both are 1
register : List ℕ → List ℕ → Circuit
register resets constraints = record {
  M = 4;
  inputs = 2 ∷ [];
  latches = record { current = 4; next = 2 } ∷ record { current = 6; next = 4 } ∷ [];
  resets = resets;
  outputs = 6 ∷ [];
  bads = 8 ∷ [];
  constraints = constraints;
  gates = record { lhs = 8; rhs0 = 6; rhs1 = 4 } ∷ [];
}

-- inputs 1, 1 and then any, of which 0 is the first; the seventh try shows it
in_three : map (λ (a : ℕ). can_happen 2 (watched 0 (register (0 ∷ 0 ∷ []) [])) a) (0 ∷ 6 ∷ 7 ∷ 100 ∷ [])
    ≡ undecided 0 ∷ undecided 6
    ∷ happens (record { start = 0; list = 1 ∷ 1 ∷ 0 ∷ []; state = 2 }) 7
    ∷ happens (record { start = 0; list = 1 ∷ 1 ∷ 0 ∷ []; state = 2 }) 7 ∷ []
unfolding register
in_three = refl

-- the output, one step earlier
in_two : can_happen 2 (watched 1 (register (0 ∷ 0 ∷ []) [])) 100 ≡ happens (record { start = 0; list = 1 ∷ 0 ∷ 0 ∷ []; state = 0 }) 5
unfolding register
in_two = refl

-- a latch that starts as x is filled: from state 1 one vector less
from-x : can_happen 2 (watched 0 (register (4 ∷ 0 ∷ []) [])) 100 ≡ happens (record { start = 1; list = 1 ∷ 0 ∷ []; state = 2 }) 7
unfolding register
from-x = refl

-- the input is to be 0: never, one state, two tries; an allowance of one does not tell
held : map (λ (a : ℕ). can_happen 2 (watched 0 (register (0 ∷ 0 ∷ []) (3 ∷ []))) a) (1 ∷ 2 ∷ 3 ∷ []) ≡ undecided 1 ∷ never 1 2 ∷ never 1 2 ∷ []
unfolding register
held = refl

-- a constraint counts at all steps before, so that a constraint which bars the last step bars it: the second latch is to be 0
barred : can_happen 2 (watched 0 (register (0 ∷ 0 ∷ []) (7 ∷ []))) 100 ≡ never 4 8
unfolding register
barred = refl

-- a circuit and itself are alike, also where it starts as x
alike-itself : map (λ (r : List ℕ). can_happen 2 (product (register r []) (register r [])) 100) ((0 ∷ 0 ∷ []) ∷ (4 ∷ 6 ∷ []) ∷ []) ≡ never 4 8 ∷ never 4 8 ∷ []
unfolding register
alike-itself = refl

-- the first x of one has the value of the first x of the other, and the second x of one counts in both fillings
paired : map (λ (r : List ℕ). can_happen 2 (product (register (4 ∷ 6 ∷ []) []) (register r [])) 100) ((0 ∷ 6 ∷ []) ∷ (4 ∷ 1 ∷ []) ∷ [])
    ≡ happens (record { start = 9; list = 0 ∷ []; state = 2 }) 3 ∷ happens (record { start = 8; list = 0 ∷ []; state = 0 }) 1 ∷ []
unfolding register
paired = refl

-- another start shows at once, either way, and the product is in binary order
other-start : map (λ (x : List ℕ × List ℕ). can_happen 2 (product (register x.0 []) (register x.1 [])) 100)
    (((0 ∷ 0 ∷ []), (0 ∷ 1 ∷ [])) ∷ ((0 ∷ 1 ∷ []), (0 ∷ 0 ∷ [])) ∷ [])
    ≡ happens (record { start = 8; list = 0 ∷ []; state = 0 }) 1 ∷ happens (record { start = 2; list = 0 ∷ []; state = 0 }) 1 ∷ []
unfolding register
other-start = refl

-- unless a constraint of the second bars it
second-barred : can_happen 2 (product (register (0 ∷ 0 ∷ []) []) (register (0 ∷ 1 ∷ []) (0 ∷ []))) 100 ≡ never 1 2
unfolding register
second-barred = refl

product-tested : binary_order (product (register (0 ∷ 0 ∷ []) []) (register (0 ∷ 1 ∷ []) [])) ≡ true
unfolding register
product-tested = refl

-- no latch and no input: one state, one move
empty : Circuit
empty = record { M = 0; inputs = []; latches = []; resets = []; outputs = 1 ∷ []; bads = 0 ∷ []; constraints = []; gates = [] }

empty-both : map (λ (k : ℕ). can_happen 2 (watched k empty) 9) (0 ∷ 1 ∷ []) ≡ never 1 1 ∷ happens (record { start = 0; list = 0 ∷ []; state = 0 }) 1 ∷ []
unfolding empty
empty-both = refl

-- the call: the register from 0, with so many words of tables 10 and 11 and bytes of the buffer
abbrev ask : ℕ → ℕ → ℕ → ℕ → ℕ → SearchEntry
ask watch allowance met marks out = record {
  circuit = record {
    counts = record { M = 4; I = 1; L = 2; O = 1; A = 1; B = 1; C = 0 };
    tables = seven (2 ∷ []) (4 ∷ 2 ∷ 6 ∷ 4 ∷ []) (6 ∷ []) (8 ∷ 6 ∷ 4 ∷ []) (0 ∷ 0 ∷ []) (8 ∷ []) [];
    scratch = replicate 22 7;
  };
  split = 2;
  watch = watch;
  allowance = allowance;
  met = replicate met 7;
  marks = replicate marks 7;
  out = replicate out 7;
}

-- the answer, then the buffer
abbrev told : SearchEntry → List ℕ
told e = let x = search e in happening_values x.answer ++ x.out

called : map told (ask 0 100 12 1 6 ∷ ask 0 6 12 1 6 ∷ ask 0 100 12 1 4 ∷ ask 2 100 12 1 0 ∷ ask 2 100 12 0 0 ∷ ask 2 100 11 0 0 ∷ [])
    ≡ (0 ∷ 0 ∷ 1 ∷ 3 ∷ 7 ∷ 48 ∷ 48 ∷ 49 ∷ 49 ∷ 48 ∷ 7 ∷ [])
    ∷ (0 ∷ 0 ∷ 2 ∷ 0 ∷ 6 ∷ 7 ∷ 7 ∷ 7 ∷ 7 ∷ 7 ∷ 7 ∷ [])
    ∷ (11 ∷ 5 ∷ 0 ∷ 0 ∷ 0 ∷ 7 ∷ 7 ∷ 7 ∷ 7 ∷ [])
    ∷ (17 ∷ 1 ∷ 0 ∷ 0 ∷ 0 ∷ [])
    ∷ (4 ∷ 11 ∷ 0 ∷ 0 ∷ 0 ∷ [])
    ∷ (4 ∷ 10 ∷ 0 ∷ 0 ∷ 0 ∷ []) ∷ []
called = refl

cleared-after : map (λ (e : SearchEntry). (search e).met ++ (search e).marks) (ask 0 100 12 1 6 ∷ ask 2 100 2 1 0 ∷ []) ≡ replicate 13 0 ∷ replicate 3 0 ∷ []
cleared-after = refl
