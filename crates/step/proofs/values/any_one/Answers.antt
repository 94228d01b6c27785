-- Each word is asked whether it is that of 1.
use Prim.Native.Nat.{ℕ, ◌+◌, ◌-◌}
use mathlib.Core.Path.{◌≡◌, ap, ◌∙◌}
use native.Mathlib.Omega.{arith}
use lib.ListN.{take, drop}
use Rattle.plan.specs.Step.{any1}
use Rattle.step.specs.values.Words.{values_at}
use Rattle.step.proofs.values.Codes.{any-told}
use Rattle.step.proofs.values.any_one.Goals as goal

pub returns : goal.returns
returns c =
    let a = c.args in
    let count : a.first + a.n - a.first ≡ a.n = omega arith in
    c.contains.ensures.value ∙ any-told (take (a.first + a.n - a.first) (drop a.first a.t.now))
    ∙ ap (λ (m : ℕ). any1 (values_at a.t.now a.first m)) count
