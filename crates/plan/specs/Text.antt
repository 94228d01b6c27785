-- Text form: what follows the header, read and written.
use Rattle.std.specs.Prelude.{ℕ, zero, true, false, List, [], ◌++◌, map}
use Rattle.plan.specs.declared.Counts.{Counts}
use Rattle.plan.specs.declared.Version.{Version}
use Rattle.plan.specs.Refusals.{Parse, got, ◌then◌}
use Rattle.plan.specs.Circuit.{Circuit, counts_of, heads, one_line, latch_line, gate_line, literal_of, latch_of, gate_of}
use Rattle.plan.specs.Bytes.{lines, latch_lines, reset_after, lines_of, with_resets, without_zeros, latch_form}
use Rattle.plan.specs.Header.{more_resets, text, short_counts, header_of}

-- I lines of one literal, L of two and possibly a reset, O, B and C of one, A of three
abbrev pub text_body : Version → List ℕ → Counts → ℕ → Parse Circuit
text_body v file n at =
    lines file 1 true n.M n.I [] at then λ ins at.
    latch_lines file (latch_form 2 true (more_resets v)) n.M n.L zero (heads ins) at then λ lats at.
    lines file 1 false n.M n.O [] at then λ outs at.
    lines file 1 false n.M n.B [] at then λ bads at.
    lines file 1 false n.M n.C [] at then λ cons at.
    lines file 3 true n.M n.A (heads ins ++ heads lats) at then λ gates at.
    got (record {
      M = n.M;
      inputs = map literal_of ins;
      latches = map latch_of lats;
      resets = map (reset_after 2) lats;
      outputs = map literal_of outs;
      bads = map literal_of bads;
      constraints = map literal_of cons;
      gates = map gate_of gates;
    }) at

-- the same, written, with these lines of latches; the lines of latches in full; the shortest form
abbrev pub text_lines : List (List ℕ) → Circuit → List ℕ
text_lines lats c =
    lines_of (map one_line c.inputs) ++ (lines_of lats
    ++ (lines_of (map one_line c.outputs) ++ (lines_of (map one_line c.bads)
    ++ (lines_of (map one_line c.constraints)
    ++ lines_of (map gate_line c.gates)))))

abbrev pub text_latches : Circuit → List (List ℕ)
text_latches c = with_resets (map latch_line c.latches) c.resets

abbrev pub text_of : Circuit → List ℕ
text_of c = header_of text (short_counts (counts_of c)) ++ text_lines (map (without_zeros 2) (text_latches c)) c
