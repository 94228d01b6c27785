-- Lines without their ends, one after the other, as a report takes vectors, of as many bytes as the buffer has; how many are left of them. The loop
-- keeps `Packs lines out₀ i n out`, which `packs-more` carries from turn to turn.
use Prim.Native.Nat.{ℕ, ◌+◌, ◌<◌}
use mathlib.Core.Path.{◌≡◌, ap, ◌∙◌}
use mathlib.Core.List.{[], ◌∷◌}
use native.Mathlib.Omega.{arith}
use lib.ListN.{length, get_or, take, length-take}
use lib.Seq.{get_or-take}
use Rattle.plan.specs.Outcome.{put}
use Rattle.runs.specs.reporting.Packing.{packed}
use Rattle.runs.proofs.reporting.Packed.{packs-more}
use Rattle.runs.proofs.reporting.pack.Goals as goal

pub loop-b-preserved : goal.loop-b-preserved
loop-b-preserved c =
    let lines = c.args.lines.now in
    let taken = c.lesser-taken.result in
    let l = c.loop-b in
    let inside : l.b-index < taken = omega (arith, length-take taken lines) in
    let same : get_or (take taken lines) l.b-index 0 ≡ get_or lines l.b-index 0 = get_or-take taken lines l.b-index 0 inside in
    packs-more l.invariant (omega arith) (omega arith) _ _
    (c.keep-n.ensures.value ∙ ap (λ (b : ℕ). l.n + length (packed (b ∷ []))) same)
    (c.keep-n.ensures.out_after ∙ ap (λ (b : ℕ). put l.out l.n (packed (b ∷ []))) same) c.keep-n.auto.out
