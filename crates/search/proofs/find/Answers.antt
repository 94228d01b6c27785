use Prim.Native.Nat.{◌^◌}
use native.Mathlib.Omega.{arith}
use lib.ListN.{length}
use Rattle.plan.specs.Circuit.{circuit_of, seven}
use Rattle.plan.specs.Search.{watched, system_of}
use Rattle.search.proofs.Answering.{cleared-blank, shown-walks, told-never, told-undecided, told-shown}
use Rattle.search.proofs.find.Goals as goal

pub watch_states-reach-requires : goal.watch_states-reach-requires
watch_states-reach-requires c =
    let p = c.requires in
    record {
      finds = record {
        inputs = p.inputs;
        runs = p.runs;
        scratch-long = p.scratch-long;
        few-latches = p.few-latches;
        few-inputs = p.few-inputs;
        there = p.there;
        met-long = p.met-long;
        marks-long = omega (arith, p.marks-long, c.clear.auto.table);
      };
      blank = cleared-blank _ (length c.args.marks.now) c.clear.ensures;
    }

pub tell-requires : goal.tell-requires
tell-requires c =
    let p = c.requires in (
      p.few-latches,
      p.few-inputs,
      shown-walks (system_of c.args.split (watched c.args.watch (circuit_of c.args.n (seven p.inputs c.args.latches.now c.args.outputs.now c.args.gates.now c.args.resets.now c.args.bads.now c.args.constraints.now)))) c.args.n.L c.args.allowance _ _ _ c.watch_states-reach.new.met
          c.watch_states-reach.result c.in-Shown.is p.few-latches (omega (
            arith,
            p.met-long,
            c.watch_states-reach.auto.met,
          )) (c.watch_states-reach.ensures p.inputs p.runs),
    )

pub returns-in-Never : goal.returns-in-Never
returns-in-Never c =
    λ inputs r.
    let a = c.args in
    told-never a.split (watched a.watch (circuit_of a.n (seven inputs a.latches.now a.outputs.now a.gates.now a.resets.now a.bads.now
    a.constraints.now))) (2 ^ a.n.L) a.allowance c.watch_states-reach.new.met a.out.now c.watch_states-reach.result (c.watch_states-reach.ensures inputs r)
    _ _ c.in-Never.is

pub returns-in-Shown : goal.returns-in-Shown
returns-in-Shown c =
    λ inputs r.
    let a = c.args in
    told-shown r a.split a.watch a.allowance c.watch_states-reach.new.met a.out.now c.watch_states-reach.result (c.watch_states-reach.ensures inputs r) _ _
    _ c.in-Shown.is
    c.requires.few-latches c.requires.few-inputs _ _ c.tell.ensures

pub returns-in-Undecided : goal.returns-in-Undecided
returns-in-Undecided c =
    λ inputs r.
    let a = c.args in
    told-undecided a.split (watched a.watch (circuit_of a.n (seven inputs a.latches.now a.outputs.now a.gates.now a.resets.now a.bads.now
    a.constraints.now))) (2 ^ a.n.L) a.allowance c.watch_states-reach.new.met a.out.now c.watch_states-reach.result (c.watch_states-reach.ensures inputs r)
    _ c.in-Undecided.is
