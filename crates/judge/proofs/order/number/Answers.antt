-- Gates are named and hung, numbers given, words settled.
use Prim.Native.Nat.{◌≤◌}
use mathlib.Core.Path.{◌≡◌, ◌∙◌, sym}
use native.Mathlib.Omega.{arith}
use lib.ListN.{length}
use Rattle.judge.specs.order.Waiting.{Space, lhs_of}
use Rattle.judge.proofs.order.Spaces.{space-of, space-again}
use Rattle.judge.proofs.order.Naming.{named-all, still_open, none-waits}
use Rattle.judge.proofs.order.Watching.{numbered-agree}
use Rattle.judge.proofs.order.Counting.{counted_none}
use Rattle.judge.proofs.order.Settling.{settled-count, all-parts}
use Rattle.judge.proofs.order.number.Goals as goal

pub name_all-requires : goal.name_all-requires
name_all-requires c =
    let space : Space c.args.gates.now c.args.t.now c.args.n c.args.a =
    space-of c.args.gates.now c.args.t.now c.args.n c.args.a c.requires.0 in
    space

pub hang_all-requires : goal.hang_all-requires
hang_all-requires c =
    let space : Space c.args.gates.now c.args.t.now c.args.n c.args.a =
    space-of c.args.gates.now c.args.t.now c.args.n c.args.a c.requires.0 in
    let long : c.args.n ≤ length c.args.t.now =
    omega (arith, c.requires.0.table-long) in
    let A = c.args in
    let x = c.name_all.new.t in
    let same : length x ≡ length A.t.now = c.name_all.auto.t in (
      space-again A.gates.now A.t.now x A.n A.a same (space),
      none-waits A.gates.now A.t.now A.n A.a (long) (space).inside c.requires.3 c.requires.5 x c.name_all.ensures c.requires.4,
      still_open A.gates.now A.t.now A.n A.a (long) (space).inside c.requires.3 c.requires.5 x c.name_all.ensures,
    )

pub assign-k-requires : goal.assign-k-requires
assign-k-requires c =
    let space : Space c.args.gates.now c.args.t.now c.args.n c.args.a =
    space-of c.args.gates.now c.args.t.now c.args.n c.args.a c.requires.0 in
    let long : c.args.n ≤ length c.args.t.now =
    omega (arith, c.requires.0.table-long) in
    let A = c.args in
    let same : length c.name_all.new.t ≡ length A.t.now = c.name_all.auto.t in
    let same2 : length c.hang_all.new.t ≡ length c.name_all.new.t = c.hang_all.auto.t in (
      space-again A.gates.now A.t.now c.hang_all.new.t A.n A.a (same2 ∙ same) (space),
      c.requires.1,
      c.requires.2,
      c.hang_all.ensures.0,
      counted_none A.gates.now c.hang_all.new.t A.a
          (λ i h. numbered-agree c.name_all.new.t c.hang_all.new.t A.n (lhs_of A.gates.now i) c.hang_all.ensures.1
          ((space).inside i h).0
          ∙ still_open A.gates.now A.t.now A.n A.a (long) (space).inside c.requires.3 c.requires.5 _ c.name_all.ensures i h),
    )

pub returns : goal.returns
returns c =
    let space : Space c.args.gates.now c.args.t.now c.args.n c.args.a =
    space-of c.args.gates.now c.args.t.now c.args.n c.args.a c.requires.0 in
    let long : c.args.n ≤ length c.args.t.now =
    omega (arith, c.requires.0.table-long) in
    let A = c.args in
    let x = c.name_all.new.t in
    let y = c.hang_all.new.t in
    let z = c.assign-k.new.t in
    let w = c.settle.new.t in
    let same : length x ≡ length A.t.now = c.name_all.auto.t in
    let same2 : length y ≡ length x = c.hang_all.auto.t in
    let same3 : length z ≡ length y = c.assign-k.auto.t in
    let same4 : length w ≡ length z = c.settle.auto.t in
    let named =
    named-all A.gates.now A.t.now A.n A.a (long) (space).inside c.requires.3 c.requires.5 x c.name_all.ensures in
    record {
      value = c.assign-k.ensures.value ∙ sym (settled-count A.gates.now z w A.n A.a (space).inside c.settle.ensures);
      by_index = all-parts A.gates.now A.t.now x y z w A.n A.a A.first (long) (omega (arith, long)) (omega (arith, long))
          (omega (arith, long)) c.requires.3 named.keep c.hang_all.ensures.1 c.assign-k.ensures.by_index c.settle.ensures;
    }
