-- The lines of n needles, whose numbers start at `first` in table 6, from a position on. The loop keeps `Lined`. `lined-more`
-- carries it from turn to turn.
use Prim.Native.Nat.{ℕ, ◌+◌, ◌*◌, ◌-◌}
use mathlib.Core.Path.{◌≡◌, ap, ◌∙◌}
use mathlib.Core.List.{List}
use native.Mathlib.Omega.{arith}
use lib.ListN.{length, take, drop}
use Rattle.plan.specs.Outcome.{put}
use Rattle.plan.specs.Reporter.{needle_line}
use Rattle.runs.proofs.reporting.Lines.{lined-more}
use Rattle.runs.proofs.reporting.put_needles.Goals as goal

-- a row of four words
row-is : (six : List ℕ) (row : ℕ) → take (row + 4 - row) (drop row six) ≡ take 4 (drop row six)
row-is six row = let four : row + 4 - row ≡ 4 = omega arith in ap (λ (k : ℕ). take k (drop row six)) four

pub loop-i-preserved : goal.loop-i-preserved
loop-i-preserved c =
    let a = c.args in
    let l = c.loop-i in
    let same = row-is a.six.now (4 * (a.first + l.i)) in
    let next = c.put_needle-next.ensures in
    lined-more l.invariant a.n c.loop-i-test.true c.requires.n_in_bounds_2 _ _
    (next.value ∙ ap (λ (r : List ℕ). l.next + length (needle_line a.letter l.i r)) same) next.upper_bound
    (next.out_after ∙ ap (λ (r : List ℕ). put l.out l.next (needle_line a.letter l.i r)) same) c.put_needle-next.auto.out
