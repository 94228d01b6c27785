-- Binary form: what follows the header, read and written; binary order.
use Rattle.std.specs.Prelude.{ℕ, suc, zero, ◌+◌, ◌-◌, Bool, true, false, ◌&&◌, List, [], ◌∷◌, ◌++◌, map, eqb, leb, ltb}
use Rattle.plan.specs.declared.Counts.{Counts}
use Rattle.plan.specs.declared.Version.{Version}
use Rattle.plan.specs.Literals.{lit_of}
use Rattle.plan.specs.Refusals.{Parse, got, ◌then◌}
use Rattle.plan.specs.Circuit.{Gate, Latch, Circuit, counts_of, one_line, latch_line, gate_line, literal_of, nexts}
use Rattle.plan.specs.Bytes.{lines, latch_lines, reset_after, lines_of, with_resets, without_zeros, latch_form}
use Rattle.plan.specs.Header.{more_resets, binary, short_counts, header_of, adds}
use Rattle.plan.specs.Difference.{difference, groups_of}

-- the gate of variable v: lhs - rhs0, then rhs0 - rhs1
abbrev pub gate : List ℕ → ℕ → ℕ → Parse Gate
gate file v at =
    difference file true (lit_of v) at then λ d at.
    difference file false (lit_of v - d) at then λ e at.
    got (record { lhs = lit_of v; rhs0 = lit_of v - d; rhs1 = lit_of v - d - e }) at

-- n gates, of variables v, v + 1 ..
abbrev pub gates_from : List ℕ → ℕ → ℕ → ℕ → Parse (List Gate)
gates_from file zero v at = got [] at
gates_from file (suc n) v at =
    gate file v at then λ g at.
    gates_from file n (suc v) at then λ gs at.
    got (g ∷ gs) at

-- the literals of n variables from v on; latches of variables from v on with these next states
abbrev pub lits_from : ℕ → ℕ → List ℕ
lits_from v zero = []
lits_from v (suc n) = lit_of v ∷ lits_from (suc v) n

abbrev pub latches_from : ℕ → List ℕ → List Latch
latches_from v [] = []
latches_from v (l ∷ ls) = record { current = lit_of v; next = l } ∷ latches_from (suc v) ls

-- L lines of a next state and possibly a reset, O, B and C of one literal, A gates
abbrev pub binary_body : Version → List ℕ → Counts → ℕ → Parse Circuit
binary_body v file n at =
    latch_lines file (latch_form 1 false (more_resets v)) n.M n.L (1 + n.I) [] at then λ lats at.
    lines file 1 false n.M n.O [] at then λ outs at.
    lines file 1 false n.M n.B [] at then λ bads at.
    lines file 1 false n.M n.C [] at then λ cons at.
    gates_from file n.A (1 + n.I + n.L) at then λ gates at.
    got (record {
      M = n.M;
      inputs = lits_from 1 n.I;
      latches = latches_from (1 + n.I) (map literal_of lats);
      resets = map (reset_after 1) lats;
      outputs = map literal_of outs;
      bads = map literal_of bads;
      constraints = map literal_of cons;
      gates = gates;
    }) at

-- the same, written, with these lines of latches; the lines of latches in full; the shortest form
abbrev pub gate_bytes : List Gate → List ℕ
gate_bytes [] = []
gate_bytes (g ∷ gs) = groups_of (g.lhs - g.rhs0) ++ (groups_of (g.rhs0 - g.rhs1) ++ gate_bytes gs)

abbrev pub binary_lines : List (List ℕ) → Circuit → List ℕ
binary_lines lats c =
    lines_of lats ++ (lines_of (map one_line c.outputs)
    ++ (lines_of (map one_line c.bads) ++ (lines_of (map one_line c.constraints)
    ++ gate_bytes c.gates)))

abbrev pub binary_latches : Circuit → List (List ℕ)
binary_latches c = with_resets (map one_line (nexts c.latches)) c.resets

abbrev pub binary_of : Circuit → List ℕ
binary_of c = header_of binary (short_counts (counts_of c)) ++ binary_lines (map (without_zeros 1) (binary_latches c)) c

-- binary order: M = I + L + A, the defining literals run from 2 on, and every gate keeps lhs > rhs0 ≥ rhs1
abbrev pub runs : ℕ → List (List ℕ) → Bool
runs v [] = true
runs v (row ∷ rows) = eqb (literal_of row) (lit_of v) && runs (suc v) rows

abbrev pub falls : List Gate → Bool
falls [] = true
falls (g ∷ gs) = ltb g.rhs0 g.lhs && (leb g.rhs1 g.rhs0 && falls gs)

abbrev pub binary_order : Circuit → Bool
binary_order c =
    adds binary (counts_of c)
    && (runs 1 (map one_line c.inputs ++ (map latch_line c.latches ++ map gate_line c.gates)) && falls c.gates)
