-- Tables 1 to 4 and 7 to 9, zero throughout. The answer is that of the call below it.
use Rattle.tables.proofs.clear_all.Goals as goal

pub returns : goal.returns
returns c =
    let c7 = c.before.before in
    let c6 = c7.before.before.before.before in
    let c5 = c6.before.before.before.before in
    let c4 = c5.before.before.before.before in
    let c3 = c4.before.before.before.before in
    let c2 = c3.before.before.before.before in
    let c1 = c2.before.before.before.before in
    λ i. record {
      inputs = c1.clear.ensures i;
      latches = c2.clear-2.ensures i;
      outputs = c3.clear-3.ensures i;
      gates = c4.clear-4.ensures i;
      resets = c5.clear-5.ensures i;
      bads = c6.clear-6.ensures i;
      constraints = c7.clear-7.ensures i;
    }
