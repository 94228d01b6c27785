-- Lines without their ends, one after the other, as a report takes vectors, of as many bytes as the buffer has; how many are left of them. The loop
-- keeps `Packs lines out₀ i n out`, which `packs-more` carries from turn to turn.
use Rattle.runs.proofs.reporting.Packed.{Packs}
use Rattle.runs.proofs.reporting.pack.Given as goal

abbrev pub invariant-loop-b : goal.invariant-loop-b
invariant-loop-b l = Packs l.lines l.initial.out l.b-index l.n l.out
