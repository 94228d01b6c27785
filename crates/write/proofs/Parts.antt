-- The forms of the circuit that tables hold are written from the words of the tables.
use Prim.Native.Nat.{ℕ, ◌≤◌}
use mathlib.Core.Path.{◌≡◌, sym, ap, ◌∙◌}
use mathlib.Core.Bool.{true, false}
use mathlib.Core.List.{List, ◌++◌, map, append_assoc}
use native.Mathlib.Omega.{arith}
use lib.ListN.{length, take}
use Rattle.plan.specs.declared.Counts.{Counts}
use Rattle.plan.specs.Circuit.{seven, counts_of, gate_of, one_line, gate_line, rows_of}
use Rattle.plan.specs.Bytes.{lines_of}
use Rattle.plan.specs.Header.{list_of}
use Rattle.plan.specs.Text.{text_of}
use Rattle.plan.specs.Binary.{binary_of}
use Rattle.laws.proofs.Reading.Headers.{AllMost}
use Rattle.laws.proofs.Tables.{one-rows, gate-rows}
use Rattle.tables.specs.Held.{circuit_in, Fits}
use Rattle.judge.proofs.Sound.{held-counts}
use Rattle.write.specs.print.Latches.{latch_rows}
use Rattle.write.specs.forms.Forms.{head_bytes, one_lines, observed_bytes, gate_lines, gate_groups, text_bytes, binary_bytes, Printable}

one-lines : (n : ℕ) (table : List ℕ) → n ≤ length table → one_lines n table ≡ lines_of (map one_line (take n table))
one-lines n table h = ap lines_of (sym (one-rows n table h))

-- outputs, bad states and constraints, and then the rest
observed-first : (n : Counts) (outputs bads constraints rest : List ℕ) → observed_bytes n outputs bads constraints ++ rest
    ≡ one_lines n.O outputs ++ (one_lines n.B bads ++ (one_lines n.C constraints ++ rest))
observed-first n outputs bads constraints rest =
    append_assoc (one_lines n.O outputs) (one_lines n.B bads ++ one_lines n.C constraints) rest
    ∙ ap (λ (l : List ℕ). one_lines n.O outputs ++ l) (append_assoc (one_lines n.B bads) (one_lines n.C constraints) rest)

module _ (n : Counts) (inputs latches outputs gates resets bads constraints : List ℕ)
    (f : Fits n inputs latches outputs gates resets bads constraints) where
  counts-most : AllMost (list_of n)
  counts-most = (f.most-M, (omega arith, (omega arith, (f.most-O, (omega arith, (f.most-B, (f.most-C, tt)))))))

  pub printable : Printable n latches outputs gates resets bads constraints
  printable = record {
    counts-most = counts-most;
    latches-long = f.latches-long;
    gates-long = f.gates-long;
    resets-long = f.resets-long;
    observable = (record {
      most-O = f.most-O;
      most-B = f.most-B;
      most-C = f.most-C;
      outputs-long = f.outputs-long;
      bads-long = f.bads-long;
      constraints-long = f.constraints-long;
    });
  }

  counts-are : n ≡ counts_of (circuit_in n inputs latches outputs gates resets bads constraints)
  counts-are = sym (held-counts n (seven inputs latches outputs gates resets bads constraints) f)

  input-lines : one_lines n.I inputs ≡ lines_of (map one_line (take n.I inputs))
  input-lines = one-lines n.I inputs f.inputs_long

  output-lines : one_lines n.O outputs ≡ lines_of (map one_line (take n.O outputs))
  output-lines = one-lines n.O outputs f.outputs-long

  bad-lines : one_lines n.B bads ≡ lines_of (map one_line (take n.B bads))
  bad-lines = one-lines n.B bads f.bads-long

  constraint-lines : one_lines n.C constraints ≡ lines_of (map one_line (take n.C constraints))
  constraint-lines = one-lines n.C constraints f.constraints-long

  gate-lines : gate_lines n gates ≡ lines_of (map gate_line (map gate_of (rows_of 3 n.A gates)))
  gate-lines = ap lines_of (sym (gate-rows n.A gates f.gates-long))

  abbrev text_lats : List ℕ
  text_lats = lines_of (latch_rows false n.L latches resets)

  abbrev binary_lats : List ℕ
  binary_lats = lines_of (latch_rows true n.L latches resets)

  pub text-parts : text_bytes n inputs latches outputs gates resets bads constraints
      ≡ text_of (circuit_in n inputs latches outputs gates resets bads constraints)
  text-parts =
      ap (λ (l : List ℕ). head_bytes 97 n ++ (one_lines n.I inputs ++ (text_lats ++ l)))
      (observed-first n outputs bads constraints (gate_lines n gates))
      ∙ (λ i. head_bytes 97 (counts-are i) ++ (input-lines i ++ (text_lats ++ (output-lines i ++ (bad-lines i
      ++ (constraint-lines i ++ gate-lines i))))))

  pub binary-parts : binary_bytes n latches outputs gates resets bads constraints
      ≡ binary_of (circuit_in n inputs latches outputs gates resets bads constraints)
  binary-parts =
      ap (λ (l : List ℕ). head_bytes 105 n ++ (binary_lats ++ l)) (observed-first n outputs bads constraints (gate_groups n gates))
      ∙ (λ i. head_bytes 105 (counts-are i) ++ (binary_lats ++ (output-lines i ++ (bad-lines i
      ++ (constraint-lines i ++ gate_groups n gates)))))
