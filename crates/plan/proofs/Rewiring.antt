-- One gate rewired, computed: edits of the first, the middle and the last of three gates, and each refusal.
use Prim.Native.Nat.{ℕ}
use mathlib.Core.Path.{◌≡◌, refl}
use mathlib.Core.List.{List, [], ◌∷◌, map}
use lib.ListN.{replicate}
use Rattle.plan.specs.Circuit.{seven}
use Rattle.plan.specs.Outcome.{stepped_values}
use Rattle.plan.specs.Programs.{bytes_of}
use Rattle.plan.specs.Rewire.{RewireEntry, RewireExit, rewiring}

-- two inputs, a latch, and gates 8 = 4 & 2, 10 = 8 & 6 and 12 = 11 & 9; a spare word in the gates' table, and junk in scratch
abbrev edit : ℕ → ℕ → ℕ → List ℕ → RewireEntry
edit gate rhs0 rhs1 values = record {
  circuit = record {
    counts = record { M = 6; I = 2; L = 1; O = 1; A = 3; B = 0; C = 0 };
    tables = seven (2 ∷ 4 ∷ []) (6 ∷ 12 ∷ []) (13 ∷ []) (8 ∷ 4 ∷ 2 ∷ 10 ∷ 8 ∷ 6 ∷ 12 ∷ 11 ∷ 9 ∷ 5 ∷ []) (0 ∷ []) [] [];
    scratch = replicate 29 7;
  };
  gate = gate;
  rhs0 = rhs0;
  rhs1 = rhs1;
  values = values;
}

-- the number and the place, the gates' table and the values
abbrev left : RewireExit → List ℕ × List ℕ × List ℕ
left x = (stepped_values x.answer, x.gates, x.values)

abbrev done : List ℕ → List ℕ → List ℕ × List ℕ × List ℕ
done gates values = (0 ∷ 0 ∷ [], gates, values)

-- inputs 1 and x, the latch 1; what is left after an edit that is accepted
abbrev edits : List ((ℕ × ℕ × ℕ) × (List ℕ × List ℕ × List ℕ))
edits =
    -- the first gate, with equal sides: every gate above follows
    ((0, 2, 2), done (8 ∷ 2 ∷ 2 ∷ 10 ∷ 8 ∷ 6 ∷ 12 ∷ 11 ∷ 9 ∷ 5 ∷ []) (bytes_of "01x1110"))
    -- the middle one, the smaller side first: the larger stands first
    ∷ ((1, 3, 8), done (8 ∷ 4 ∷ 2 ∷ 10 ∷ 8 ∷ 3 ∷ 12 ∷ 11 ∷ 9 ∷ 5 ∷ []) (bytes_of "01x1x0x"))
    -- the same the other way round
    ∷ ((1, 8, 3), done (8 ∷ 4 ∷ 2 ∷ 10 ∷ 8 ∷ 3 ∷ 12 ∷ 11 ∷ 9 ∷ 5 ∷ []) (bytes_of "01x1x0x"))
    -- the last one, with a constant
    ∷ ((2, 1, 2), done (8 ∷ 4 ∷ 2 ∷ 10 ∷ 8 ∷ 6 ∷ 12 ∷ 2 ∷ 1 ∷ 5 ∷ []) (bytes_of "01x1xx1"))
    -- the sides that it has: nothing changes
    ∷ ((2, 9, 11), done (8 ∷ 4 ∷ 2 ∷ 10 ∷ 8 ∷ 6 ∷ 12 ∷ 11 ∷ 9 ∷ 5 ∷ []) (bytes_of "01x1xxx"))
    ∷ []

abbrev edited : ℕ × ℕ × ℕ → List ℕ × List ℕ × List ℕ
edited x = left (rewiring (edit x.0 x.1 x.2 (bytes_of "01x1xxx")))

pub edits-leave : map (λ x. edited x.0) edits ≡ map (λ x. x.1) edits
edits-leave = refl

-- refusals, each before those that follow it; the gates' table and the values stay
abbrev refusals : List ((ℕ × ℕ × ℕ × List ℕ) × (ℕ × ℕ))
refusals =
    -- no such gate
    ((3, 14, 14, bytes_of "1"), (22, 3))
    -- a right side above 2M + 1
    ∷ ((0, 14, 2, bytes_of "1"), (5, 4))
    ∷ ((0, 2, 14, bytes_of "1"), (5, 4))
    -- a right side that is not below the left: its own, and the largest of all
    ∷ ((1, 10, 2, bytes_of "1"), (15, 0))
    ∷ ((1, 2, 13, bytes_of "1"), (15, 0))
    -- another length than M + 1
    ∷ ((1, 8, 3, bytes_of "11x1xx"), (12, 4))
    ∷ ((1, 8, 3, bytes_of "11x1xxxx"), (12, 4))
    -- the constant, an input, a latch, a gate; the least of several
    ∷ ((1, 8, 3, bytes_of "11x1xxx"), (23, 0))
    ∷ ((1, 8, 3, bytes_of "01y1xxx"), (23, 2))
    ∷ ((1, 8, 3, bytes_of "01x2xxx"), (23, 3))
    ∷ ((1, 8, 3, bytes_of "01x1xx0"), (23, 6))
    ∷ ((1, 8, 3, bytes_of "01x1x0x"), (23, 5))
    ∷ ((1, 8, 3, bytes_of "01x1000"), (23, 4))
    ∷ []

abbrev refused : ℕ × ℕ × ℕ × List ℕ → List ℕ × List ℕ × List ℕ
refused x = left (rewiring (edit x.0 x.1 x.2 x.3))

pub refusals-leave : map (λ x. refused x.0) refusals
    ≡ map (λ x. (x.1.0 ∷ x.1.1 ∷ [], 8 ∷ 4 ∷ 2 ∷ 10 ∷ 8 ∷ 6 ∷ 12 ∷ 11 ∷ 9 ∷ 5 ∷ [], x.0.3)) refusals
refusals-leave = refl

-- scratch is zero after an answer and after a refusal
pub scratch-zero : (rewiring (edit 0 2 2 (bytes_of "01x1xxx"))).scratch ≡ replicate 29 0
scratch-zero = refl

pub scratch-zero-refused : (rewiring (edit 3 2 2 (bytes_of "01x1xxx"))).scratch ≡ replicate 29 0
scratch-zero-refused = refl
