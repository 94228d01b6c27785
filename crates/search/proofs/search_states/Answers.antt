use Prim.Native.Nat.{ℕ}
use mathlib.Core.List.{List}
use native.Mathlib.Omega.{arith}
use Rattle.plan.specs.Circuit.{Tables, seven}
use Rattle.search.proofs.Beginning.{resets-few, starts-few, begun-searched, begun-count}
use Rattle.search.proofs.search_states.Goals as goal

pub count_both-xs-requires : goal.count_both-xs-requires
count_both-xs-requires c = c.requires.runs.fits.resets-long

pub power-total-requires : goal.power-total-requires
power-total-requires c =
    omega (
      arith,
      c.count_both-xs.ensures,
      resets-few c.args.split c.args.n c.args.resets.now c.requires.runs.fits.resets-long,
      c.requires.few-latches,
    )

pub begin_rows-requires : goal.begin_rows-requires
begin_rows-requires c =
    let p = c.requires in
    record {
      numbers = record {
        resets-long = p.runs.fits.resets-long;
        few-latches = p.few-latches;
        few-inputs = p.few-inputs;
        room = omega (arith, p.scratch-long, p.runs.fits.sum);
      };
      few = starts-few c.args.split c.args.n c.args.resets.now p.runs.fits.resets-long _ _ c.count_both-xs.ensures c.power-total.ensures;
      met-long = p.met-long;
      marks-long = p.marks-long;
      blank = p.blank;
    }

pub explore-requires : goal.explore-requires
explore-requires c =
    let tables_of : List ℕ → Tables =
    λ inputs. let a = c.args in
    seven inputs a.latches.now a.outputs.now a.gates.now a.resets.now a.bads.now a.constraints.now in
    let p = c.requires in
    record {
      split = c.args.split;
      inputs = p.inputs;
      resets = c.args.resets.now;
      runs = p.runs;
      scratch-long = omega (arith, p.scratch-long, c.begin_rows.auto.scratch);
      few-latches = p.few-latches;
      few-inputs = p.few-inputs;
      met-long = omega (arith, p.met-long, c.begin_rows.auto.met);
      marks-long = omega (arith, p.marks-long, c.begin_rows.auto.marks);
      begun = begun-searched p.runs _ _ _ _ c.count_both-xs.ensures c.power-total.ensures c.begin_rows.ensures;
      count = begun-count c.args.split c.args.n (tables_of p.inputs) _ _ c.count_both-xs.ensures c.power-total.ensures;
    }

pub returns : goal.returns
returns c =
    let tables_of : List ℕ → Tables =
    λ inputs. let a = c.args in
    seven inputs a.latches.now a.outputs.now a.gates.now a.resets.now a.bads.now a.constraints.now in
    λ inputs r.
    c.explore.ensures c.args.split inputs c.args.resets.now r
    (begun-searched r _ _ _ _ c.count_both-xs.ensures c.power-total.ensures c.begin_rows.ensures)
    (begun-count c.args.split c.args.n (tables_of inputs) _ _ c.count_both-xs.ensures c.power-total.ensures)
