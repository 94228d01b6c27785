-- The answers of the calls, as C sees them.
use Prim.Native.Nat.{ℕ}
use mathlib.Core.Path.{◌≡◌, ap, ◌∙◌}
use mathlib.Core.List.{List}
use Rattle.plan.specs.declared.Counts.{Counts}
use Rattle.plan.specs.Circuit.{Tables}
use Rattle.plan.specs.Given.{Given}
use Rattle.plan.specs.Outcome.{CheckExit, FileEntry, FileExit, MakeEntry, MakeExit, StepExit, WitnessExit, checked_values, written_values, made_values}
use Rattle.plan.specs.Outcome.{stepped_values, verdict_values, finding_values, StepEntry}
use Rattle.plan.specs.Outcome as outcome
use Rattle.plan.specs.Fillings.{FilledExit}
use Rattle.plan.specs.Fillings as fillings
use Rattle.desk.specs.Told.{CheckTold, check, FileTold, told_file, MakeTold, told_made, StepTold, WitnessTold, witness, witness3, ExplainTold}
use Rattle.desk.specs.Told.{explain, told_step, RewireTold, rewiring}
use Rattle.plan.specs.Explain.{ExplainExit}
use Rattle.plan.specs.Explain as blame
use Rattle.plan.specs.Rewire.{RewireExit}
use Rattle.plan.specs.Rewire as rewire

-- counts that C gives
abbrev pub counted : Given → Counts → Given
counted g n = record { counts = n; tables = g.tables; scratch = g.scratch }

pub check-told : (g : Given) (n : Counts) (x : CheckExit) (answer : List ℕ) → n ≡ g.counts → x ≡ outcome.check (counted g n)
    → answer ≡ checked_values x.answer → ◌≡◌ {A = CheckTold} (record { answer = answer; scratch = x.scratch }) (check g)
check-told g n x answer e says told =
    ap (λ (a : List ℕ). record { answer = a; scratch = x.scratch }) told
    ∙ (ap (λ (y : CheckExit). record { answer = checked_values y.answer; scratch = y.scratch }) says
    ∙ ap (λ (m : Counts). check (counted g m)) e)

-- a writer, whichever it is
pub file-told : (f : FileEntry → FileExit) (g : Given) (tail out : List ℕ) (n : Counts) (x : FileExit) (answer : List ℕ) → n ≡ g.counts
    → x ≡ f (record { circuit = counted g n; tail = tail; out = out }) → answer ≡ written_values x.answer
    → ◌≡◌ {A = FileTold} (record { answer = answer; scratch = x.scratch; out = x.out })
    (told_file (f (record { circuit = g; tail = tail; out = out })))
file-told f g tail out n x answer e says told =
    ap (λ (a : List ℕ). record { answer = a; scratch = x.scratch; out = x.out }) told
    ∙ (ap told_file says ∙ ap (λ (m : Counts). told_file (f (record { circuit = counted g m; tail = tail; out = out }))) e)

-- conversion, reduction or dropping
pub made_told : (f : MakeEntry → MakeExit) (g : Given) (t : Tables) (n : Counts) (x : MakeExit) (answer : List ℕ) → n ≡ g.counts
    → x ≡ f (record { circuit = counted g n; written = t }) → answer ≡ made_values x.answer
    → ◌≡◌ {A = MakeTold} (record { answer = answer; written = x.written; scratch = x.scratch }) (told_made (f (record { circuit = g; written = t })))
made_told f g t n x answer e says told =
    ap (λ (a : List ℕ). record { answer = a; written = x.written; scratch = x.scratch }) told
    ∙ (ap told_made says ∙ ap (λ (m : Counts). told_made (f (record { circuit = counted g m; written = t }))) e)

-- a step, by whichever engine
pub step-told : (f : StepEntry → StepExit) (g : Given) (state ins outs : List ℕ) (n : Counts) (x : StepExit) (answer : List ℕ) → n ≡ g.counts
    → x ≡ f (record { circuit = counted g n; state = state; inputs = ins; outputs = outs }) → answer ≡ stepped_values x.answer
    → ◌≡◌ {A = StepTold} (record { answer = answer; scratch = x.scratch; state = x.state; outputs = x.outputs })
    (told_step (f (record { circuit = g; state = state; inputs = ins; outputs = outs })))
step-told f g state ins outs n x answer e says told =
    ap (λ (a : List ℕ). record { answer = a; scratch = x.scratch; state = x.state; outputs = x.outputs }) told
    ∙ (ap told_step says ∙ ap (λ (m : Counts). told_step (f (record { circuit = counted g m; state = state; inputs = ins; outputs = outs }))) e)

pub witness-told : (g : Given) (number : ℕ) (bytes : List ℕ) (allowance : ℕ) (n : Counts) (x : FilledExit) (answer : List ℕ) → n ≡ g.counts
    → x ≡ fillings.witness (record { list = record { circuit = counted g n; number = number; bytes = bytes }; allowance = allowance })
    → answer ≡ finding_values x.answer
    → ◌≡◌ {A = WitnessTold} (record { answer = answer; scratch = x.scratch })
    (witness (record { list = record { circuit = g; number = number; bytes = bytes }; allowance = allowance }))
witness-told g number bytes allowance n x answer e says told =
    ap (λ (a : List ℕ). record { answer = a; scratch = x.scratch }) told
    ∙ (ap (λ (y : FilledExit). record { answer = finding_values y.answer; scratch = y.scratch }) says
    ∙ ap (λ (m : Counts). witness (record { list = record { circuit = counted g m; number = number; bytes = bytes }; allowance = allowance })) e)

pub explain-told : (g : Given) (state ins : List ℕ) (output : ℕ) (marks : List ℕ) (n : Counts) (x : ExplainExit) (answer : List ℕ) → n ≡ g.counts
    → x ≡ blame.explain (record { circuit = counted g n; state = state; inputs = ins; output = output; marks = marks })
    → answer ≡ stepped_values x.answer
    → ◌≡◌ {A = ExplainTold} (record { answer = answer; scratch = x.scratch; marks = x.marks })
    (explain (record { circuit = g; state = state; inputs = ins; output = output; marks = marks }))
explain-told g state ins output marks n x answer e says told =
    ap (λ (a : List ℕ). record { answer = a; scratch = x.scratch; marks = x.marks }) told
    ∙ (ap (λ (y : ExplainExit). record { answer = stepped_values y.answer; scratch = y.scratch; marks = y.marks }) says
    ∙ ap (λ (m : Counts). explain (record { circuit = counted g m; state = state; inputs = ins; output = output; marks = marks })) e)

pub witness3-told : (g : Given) (number : ℕ) (bytes : List ℕ) (n : Counts) (x : WitnessExit) (answer : List ℕ) → n ≡ g.counts
    → x ≡ outcome.witness3 (record { circuit = counted g n; number = number; bytes = bytes }) → answer ≡ verdict_values x.answer
    → ◌≡◌ {A = WitnessTold} (record { answer = answer; scratch = x.scratch }) (witness3 (record { circuit = g; number = number; bytes = bytes }))
witness3-told g number bytes n x answer e says told =
    ap (λ (a : List ℕ). record { answer = a; scratch = x.scratch }) told
    ∙ (ap (λ (y : WitnessExit). record { answer = verdict_values y.answer; scratch = y.scratch }) says
    ∙ ap (λ (m : Counts). witness3 (record { circuit = counted g m; number = number; bytes = bytes })) e)

pub rewire-told : (g : Given) (gate rhs0 rhs1 : ℕ) (values : List ℕ) (n : Counts) (x : RewireExit) (answer : List ℕ) → n ≡ g.counts
    → x ≡ rewire.rewiring (record { circuit = counted g n; gate = gate; rhs0 = rhs0; rhs1 = rhs1; values = values })
    → answer ≡ stepped_values x.answer
    → ◌≡◌ {A = RewireTold} (record { answer = answer; gates = x.gates; scratch = x.scratch; values = x.values })
    (rewiring (record { circuit = g; gate = gate; rhs0 = rhs0; rhs1 = rhs1; values = values }))
rewire-told g gate rhs0 rhs1 values n x answer e says told =
    ap (λ (a : List ℕ). record { answer = a; gates = x.gates; scratch = x.scratch; values = x.values }) told
    ∙ (ap (λ (y : RewireExit). record { answer = stepped_values y.answer; gates = y.gates; scratch = y.scratch; values = y.values }) says
    ∙ ap (λ (m : Counts). rewiring (record { circuit = counted g m; gate = gate; rhs0 = rhs0; rhs1 = rhs1; values = values })) e)
