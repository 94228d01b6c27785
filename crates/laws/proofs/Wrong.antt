-- "How tight the statements are": each wrong program differs from the definition at a named input, so no contract that cites the
-- definition lets it pass.
use Prim.Native.Nat.{ℕ, suc, ◌+◌}
use mathlib.Core.Path.{◌≡◌, ap}
use mathlib.Core.List.{List, [], ◌∷◌, ◌++◌}
use Rattle.std.specs.Prelude.{Result, Ok, Err}
use native.Mathlib.Omega.{arith}
use lib.ListN.{length, replicate}
use Rattle.plan.specs.declared.Refusal.{Refusal}
use Rattle.plan.specs.Circuit.{Circuit, Tables, counts_of, holding, all_cleared, cleared}
use Rattle.plan.specs.Given.{Given, given_circuit}
use Rattle.plan.specs.Text.{text_of}
use Rattle.plan.specs.Outcome.{Says, ReadEntry, LoadExit, load, MakeEntry, MakeExit, conversion, reduction, StepEntry, StepExit, step, FileEntry}
use Rattle.plan.specs.Outcome.{FileExit, write_text, put}
use Rattle.plan.specs.Programs.{bytes_of}

abbrev words : ℕ → List ℕ
words n = replicate n 0

abbrev lent : Tables
lent = record { inputs = words 9; latches = words 9; outputs = words 9; gates = words 9; resets = words 9; bads = words 9; constraints = words 9 }

-- x & !x, negated: one input, one output, one gate; the reducer's example
abbrev pub halves : Given
halves = record {
  counts = record { M = 2; I = 1; L = 0; O = 1; A = 1; B = 0; C = 0 };
  tables = record { inputs = 2 ∷ []; latches = []; outputs = 5 ∷ []; gates = 4 ∷ 2 ∷ 3 ∷ []; resets = []; bads = []; constraints = [] };
  scratch = words 13;
}

-- the AIGER report's toggle flip flop without inputs
abbrev pub flip : Given
flip = record {
  counts = record { M = 1; I = 0; L = 1; O = 2; A = 0; B = 0; C = 0 };
  tables = record { inputs = []; latches = 2 ∷ 3 ∷ []; outputs = 2 ∷ 3 ∷ []; gates = []; resets = 0 ∷ []; bads = []; constraints = [] };
  scratch = words 10;
}

-- a reader that refuses all, whatever the refusal
abbrev refuses-all : Refusal → ReadEntry → LoadExit
refuses-all r e = record { answer = Err r; tables = all_cleared e.tables; scratch = cleared e.scratch }

abbrev pub empty-file : ReadEntry
empty-file = record { file = bytes_of "aag 0 0 0 0 0\n"; tables = lent; scratch = words 9 }

pub refuses-all-is-wrong : (r : Refusal) → ¬ Says load empty-file (refuses-all r empty-file)
refuses-all-is-wrong r e = let p = ap (λ (x : LoadExit). x.answer) e in let z : ◌≡◌ {A = ℕ} 0 1 = cc in omega arith

-- a converter that always writes the empty circuit
abbrev nothing : Circuit
nothing = record { M = 0; inputs = []; latches = []; resets = []; outputs = []; bads = []; constraints = []; gates = [] }

abbrev made_of : Circuit → MakeEntry → MakeExit
made_of c e = record { answer = Ok (counts_of c); written = holding e.written c; scratch = cleared e.circuit.scratch }

abbrev pub making : MakeEntry
making = record { circuit = halves; written = lent }

pub always-empty-is-wrong : ¬ Says conversion making (made_of nothing making)
always-empty-is-wrong e = let p = ap (λ (x : MakeExit). x.written.outputs) e in let z : ◌≡◌ {A = ℕ} 0 5 = cc in omega arith

-- a reducer that copies
pub copying-is-wrong : ¬ Says reduction making (made_of (given_circuit halves) making)
copying-is-wrong e = let p = ap (λ (x : MakeExit). x.written.outputs) e in let z : ◌≡◌ {A = ℕ} 5 1 = cc in omega arith

-- a stepper that works once and then repeats itself: what it gave for the first state it gives for the next
abbrev stepping : List ℕ → StepEntry
stepping state = record { circuit = flip; state = state; inputs = []; outputs = bytes_of "xx" }

pub repeating-is-wrong : ¬ Says step (stepping (step (stepping (bytes_of "0"))).state) (step (stepping (bytes_of "0")))
repeating-is-wrong e = let p = ap (λ (x : StepExit). x.outputs) e in let z : ◌≡◌ {A = ℕ} 48 49 = cc in omega arith

-- a stepper that always says x
abbrev always-x : StepEntry → StepExit
always-x e = record {
  answer = Ok tt;
  scratch = cleared e.circuit.scratch;
  state = replicate (length e.state) 120;
  outputs = replicate (length e.outputs) 120;
}

pub always-x-is-wrong : ¬ Says step (stepping (bytes_of "0")) (always-x (stepping (bytes_of "0")))
always-x-is-wrong e = let p = ap (λ (x : StepExit). x.outputs) e in let z : ◌≡◌ {A = ℕ} 120 48 = cc in omega arith

-- a writer that invents its length, by however much
abbrev pub writing : FileEntry
writing = record { circuit = halves; tail = []; out = words 40 }

abbrev invents : ℕ → FileEntry → FileExit
invents more e =
    let bytes = text_of (given_circuit e.circuit) ++ e.tail in
    record { answer = Ok (length bytes + more); scratch = cleared e.circuit.scratch; out = put e.out 0 bytes }

bytes_same : (m n : ℕ) → ◌≡◌ {A = Result ℕ Refusal} (Ok m) (Ok n) → m ≡ n
bytes_same m n e = cc

pub inventing-is-wrong : (more : ℕ) → ¬ Says write_text writing (invents (suc more) writing)
inventing-is-wrong more e = let p = bytes_same (24 + suc more) 24 (ap (λ (x : FileExit). x.answer) e) in omega arith
