-- The AIGER report's toggle circuit, and the same plan with its seven variables in reverse, M 9 for 7 and the right sides of two gates
-- exchanged. A near miss: one sign differs. Two gates with one pair, of which reduction retains the first.
use Prim.Native.Nat.{ℕ, zero, suc, ◌-◌, ◌≤◌}
use mathlib.Core.Path.{◌≡◌, refl, sym, ap, ◌∙◌}
use mathlib.Core.Bool.{Bool, true, false, cond}
use mathlib.Core.List.{List, [], ◌∷◌, ◌++◌}
use Rattle.std.specs.Prelude.{Some}
use native.Mathlib.Omega.{arith}
use borrow.Author.Tests.{leb-true, leb-false}
use lib.Dec.{leb}
use lib.ListN.{length, get_or}
use Rattle.plan.specs.Circuit.{Circuit, Gate, Latch}
use Rattle.plan.specs.Programs.{bytes_of, lent_words, converter, reducer}
use Rattle.same.specs.Agreement.{OneToOne, same_literal, same_gate, entry_by_entry, SamePlan}
use Rattle.same.proofs.Programs.{same-converter, same-reducer}

abbrev tail : List ℕ
tail = bytes_of "i0 enable\nc\nany\n"

abbrev toggle : List ℕ
toggle = bytes_of "aag 7 2 1 2 4\n2\n4\n6 8\n6\n7\n8 4 10\n10 13 15\n12 2 6\n14 3 7\n" ++ tail

abbrev other : List ℕ
other = bytes_of "aag 9 2 1 2 4\n14\n12\n10 8\n10\n11\n8 6 12\n6 5 3\n4 10 14\n2 15 11\n" ++ tail

-- 4 for 5: the sign of one right side differs
abbrev missed : List ℕ
missed = bytes_of "aag 9 2 1 2 4\n14\n12\n10 8\n10\n11\n8 6 12\n6 4 3\n4 10 14\n2 15 11\n" ++ tail

abbrev gate : ℕ → ℕ → ℕ → Gate
gate l a b = record { lhs = l; rhs0 = a; rhs1 = b }

-- with these resets, bad states and constraints
abbrev plan : ℕ → List ℕ → List Latch → List ℕ → List Gate → List ℕ → List ℕ → List ℕ → Circuit
plan m i l o a r b k = record { M = m; inputs = i; latches = l; resets = r; outputs = o; bads = b; constraints = k; gates = a }

abbrev latch : ℕ → ℕ → List Latch
latch l n = record { current = l; next = n } ∷ []

abbrev toggle_gates : List Gate
toggle_gates = gate 8 4 10 ∷ gate 10 13 15 ∷ gate 12 2 6 ∷ gate 14 3 7 ∷ []

abbrev other_gates : ℕ → List Gate
other_gates side = gate 8 6 12 ∷ gate 6 side 3 ∷ gate 4 10 14 ∷ gate 2 15 11 ∷ []

-- variables 1 to 7 in reverse
abbrev reversed : ℕ → ℕ
reversed zero = zero
reversed (suc v) = cond (leb v 6) (7 - v) (suc v)

reversed-one-to-one : OneToOne reversed
reversed-one-to-one = record { constants = refl; different = different }
  where
    past : (v : ℕ) (s : Bool) → leb v 6 ≡ s → cond s (7 - v) (suc v) ≡ 0 → ⊥
    past v true p e = omega (arith, leb-true v 6 p)
    past v false p e = omega arith

    both : (u v : ℕ) (s t : Bool) → leb u 6 ≡ s → leb v 6 ≡ t → cond s (7 - u) (suc u) ≡ cond t (7 - v) (suc v) → suc u ≡ suc v
    both u v true true p q e = omega (arith, leb-true u 6 p, leb-true v 6 q)
    both u v true false p q e = absurd (omega (arith, leb-true u 6 p, leb-false v 6 q))
    both u v false true p q e = absurd (omega (arith, leb-false u 6 p, leb-true v 6 q))
    both u v false false p q e = e

    different : (u v : ℕ) → reversed u ≡ reversed v → u ≡ v
    different zero zero e = refl
    different zero (suc v) e = absurd (past v (leb v 6) refl (sym e))
    different (suc u) zero e = absurd (past u (leb u 6) refl e)
    different (suc u) (suc v) e = both u v (leb u 6) (leb v 6) refl refl e

pub toggles-agree : SamePlan lent_words toggle other
toggles-agree = record {
  rename = reversed;
  one-to-one = reversed-one-to-one;
  c = plan 7 (2 ∷ 4 ∷ []) (latch 6 8) (6 ∷ 7 ∷ []) toggle_gates (0 ∷ []) [] [];
  d = plan 9 (14 ∷ 12 ∷ []) (latch 10 8) (10 ∷ 11 ∷ []) (other_gates 5) (0 ∷ []) [] [];
  agree = record { inputs = refl; latches = refl; resets = refl; outputs = refl; bads = refl; constraints = refl; gates = refl };
  tail = tail;
  first = record { form = refl; start = 56; accepted = refl; rest = refl };
  second = record { form = refl; start = 60; accepted = refl; rest = refl };
}

-- so both programs write the same; and here are the bytes
pub toggles-alike : (converter (Some toggle) ≡ converter (Some other)) × (reducer (Some toggle) ≡ reducer (Some other))
toggles-alike =
    let small : length toggle ≤ 65536 = omega arith in
    let small' : length other ≤ 65536 = omega arith in
    (same-converter toggle other small small' toggles-agree, same-reducer toggle other small small' toggles-agree)

abbrev start : List ℕ
start = bytes_of "aig 7 2 1 2 4\n14\n6\n7\n" ++ (2 ∷ 4 ∷ 3 ∷ 4 ∷ 1 ∷ [])

pub toggle-bytes : converter (Some toggle) ≡ start ++ (2 ∷ 2 ∷ 8 ∷ tail)
toggle-bytes = refl

pub other-bytes : converter (Some other) ≡ start ++ (2 ∷ 2 ∷ 8 ∷ tail)
other-bytes = refl

-- the near miss is accepted; its gates don't agree, and it converts to other bytes
pub missed-gates : entry_by_entry (same_gate reversed) toggle_gates (other_gates 4) ≡ false
missed-gates = refl

pub missed-bytes : converter (Some missed) ≡ start ++ (3 ∷ 2 ∷ 8 ∷ tail)
missed-bytes = refl

pub missed-differs : converter (Some toggle) ≡ converter (Some missed) → ⊥
missed-differs e =
    let z : ◌≡◌ {A = ℕ} 2 3 = ap (λ (l : List ℕ). get_or l 26 0) (sym toggle-bytes ∙ (e ∙ missed-bytes)) in
    omega arith

-- two gates with one pair, under the same renaming
abbrev paired : List ℕ
paired = bytes_of "aag 4 2 0 2 2\n2\n4\n6\n9\n6 2 4\n8 4 2\n" ++ tail

abbrev other_paired : List ℕ
other_paired = bytes_of "aag 7 2 0 2 2\n14\n12\n10\n9\n10 12 14\n8 12 14\n" ++ tail

pub pairs-agree : SamePlan lent_words paired other_paired
pairs-agree = record {
  rename = reversed;
  one-to-one = reversed-one-to-one;
  c = plan 4 (2 ∷ 4 ∷ []) [] (6 ∷ 9 ∷ []) (gate 6 2 4 ∷ gate 8 4 2 ∷ []) [] [] [];
  d = plan 7 (14 ∷ 12 ∷ []) [] (10 ∷ 9 ∷ []) (gate 10 12 14 ∷ gate 8 12 14 ∷ []) [] [] [];
  agree = record { inputs = refl; latches = refl; resets = refl; outputs = refl; bads = refl; constraints = refl; gates = refl };
  tail = tail;
  first = record { form = refl; start = 34; accepted = refl; rest = refl };
  second = record { form = refl; start = 42; accepted = refl; rest = refl };
}

pub pair-bytes : (reducer (Some paired) ≡ bytes_of "aig 3 2 0 2 1\n6\n7\n" ++ (2 ∷ 2 ∷ tail)) × (reducer (Some other_paired) ≡ reducer (Some paired))
pair-bytes = (refl, refl)

-- the toggle as 1.9 has it: it starts as x, one bad state, one constraint. The other file spells a zero that the first leaves off
abbrev observed : List ℕ
observed = bytes_of "aag 7 2 1 2 4 1 1\n2\n4\n6 8 6\n6\n7\n15\n4\n8 4 10\n10 13 15\n12 2 6\n14 3 7\n" ++ tail

abbrev other_observed : List ℕ
other_observed = bytes_of "aag 9 2 1 2 4 1 1 0\n14\n12\n10 8 10\n10\n11\n3\n12\n8 6 12\n6 5 3\n4 10 14\n2 15 11\n" ++ tail

pub observed-agree : SamePlan lent_words observed other_observed
observed-agree = record {
  rename = reversed;
  one-to-one = reversed-one-to-one;
  c = plan 7 (2 ∷ 4 ∷ []) (latch 6 8) (6 ∷ 7 ∷ []) toggle_gates (6 ∷ []) (15 ∷ []) (4 ∷ []);
  d = plan 9 (14 ∷ 12 ∷ []) (latch 10 8) (10 ∷ 11 ∷ []) (other_gates 5) (10 ∷ []) (3 ∷ []) (12 ∷ []);
  agree = record { inputs = refl; latches = refl; resets = refl; outputs = refl; bads = refl; constraints = refl; gates = refl };
  tail = tail;
  first = record { form = refl; start = 67; accepted = refl; rest = refl };
  second = record { form = refl; start = 74; accepted = refl; rest = refl };
}

pub observed-bytes : (converter (Some observed) ≡ bytes_of "aig 7 2 1 2 4 1 1\n14 6\n6\n7\n11\n4\n" ++ (2 ∷ 4 ∷ 3 ∷ 4 ∷ 1 ∷ 2 ∷ 2 ∷ 8 ∷ tail))
    × (converter (Some other_observed) ≡ converter (Some observed))
observed-bytes = (refl, refl)

-- a reset 1 and one that is the latch's own don't agree, nor do 0 and 1
pub resets-differ : (entry_by_entry (same_literal reversed) (6 ∷ []) (1 ∷ []) ≡ false) × (entry_by_entry (same_literal reversed) (0 ∷ []) (1 ∷ []) ≡ false)
resets-differ = (refl, refl)

-- room: M alone, which may differ, makes the one accepted and the other refused by 4
pub room-differs : (converter (Some (bytes_of "aag 4095 0 0 0 0\n")) ≡ bytes_of "aig 0 0 0 0 0\n")
    × (converter (Some (bytes_of "aag 4096 0 0 0 0\n")) ≡ bytes_of "refused 4 at 5\n")
room-differs = (refl, refl)
