-- The lines of the first `number` vectors, from the start of a buffer that has room for them. The loop keeps `Lining` and `Going`, which `lining-next`
-- and `going_on` carry from turn to turn, the latter over a table that would hold the state; `all_left` gives the answer.
use Prim.Native.Nat.{◌+◌}
use mathlib.Core.Path.{◌≡◌}
use mathlib.Core.List.{map}
use Rattle.std.specs.Iterator.Adapters.{take_source, take_count}
use Rattle.std.specs.Slice.Iter.{chunks_exact_rest, chunks_exact_size}
use Rattle.plan.specs.Step.{value_of}
use Rattle.plan.specs.Circuit.{Tables, circuit_of}
use Rattle.step.specs.sweep.Running.{these, Runs}
use Rattle.runs.proofs.trace.Running.{Lining, Going}
use Rattle.runs.specs.comparing.Lined.{Vector}
use Rattle.runs.proofs.comparing.Running.{resting}
use Rattle.runs.proofs.comparing.plain_lines.Given as goal

abbrev pub invariant-loop-line : goal.invariant-loop-line
invariant-loop-line l =
    let chunks = take_source l.line-iterator in
    let more = take_count l.line-iterator in
    (goal.iterator-loop-line).can_next l.line-iterator × (goal.iterator-loop-line).is_finite l.line-iterator × (chunks_exact_size chunks ≡ l.n.I + 1)
    × Lining l.n more (chunks_exact_rest chunks) l.out l.to
    × Vector l.n.L l.state
    × ((x : Tables) → Runs l.n (these x l.latches l.outputs l.gates)
    → Going l.n (circuit_of l.n (these x l.latches l.outputs l.gates)) (map value_of l.initial.state) l.number l.vectors (resting l.n l.state) l.initial.out l.out more (chunks_exact_rest chunks) l.to)
