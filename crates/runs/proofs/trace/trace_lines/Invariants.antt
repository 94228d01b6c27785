-- The lines of the first `number` vectors, from the start of a buffer that has room for them. The loop keeps `Lining` and `Going`, which `lining-next`
-- and `going_on` carry from turn to turn, and `all-gone` gives the answer.
use Prim.Native.Nat.{◌+◌}
use mathlib.Core.Path.{◌≡◌}
use mathlib.Core.List.{List}
use lib.ListN.{length}
use Rattle.std.specs.Iterator.Adapters.{take_source, take_count}
use Rattle.std.specs.Slice.Iter.{chunks_exact_rest, chunks_exact_size}
use Rattle.plan.specs.Step.{Value}
use Rattle.plan.specs.Circuit.{Tables, circuit_of}
use Rattle.step.specs.sweep.Running.{these, Runs, Rests}
use Rattle.runs.proofs.trace.Running.{Lining, Going}
use Rattle.runs.proofs.trace.trace_lines.Given as goal

abbrev pub invariant-loop-line : goal.invariant-loop-line
invariant-loop-line l =
    let chunks = take_source l.line-iterator in
    let more = take_count l.line-iterator in
    (goal.iterator-loop-line).can_next l.line-iterator × (goal.iterator-loop-line).is_finite l.line-iterator × (chunks_exact_size chunks ≡ l.n.I + 1)
    × Lining l.n more (chunks_exact_rest chunks) l.out l.to
    × ((x : Tables) (s : List Value) → Runs l.n (these x l.latches l.outputs l.gates) → length s ≡ l.n.L → Rests l.n s l.initial.scratch
    → Going l.n (circuit_of l.n (these x l.latches l.outputs l.gates)) s l.number l.vectors l.scratch l.initial.out l.out more (chunks_exact_rest chunks) l.to)
