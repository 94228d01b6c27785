-- Of two tables that bear one number the shorter. The answer is that of the call below it.
use Rattle.tables.proofs.shorter.Goals as goal

pub returns : goal.returns
returns c =
    λ i. record {
      inputs = c.lesser.ensures i;
      latches = c.lesser-2.ensures i;
      outputs = c.lesser-3.ensures i;
      gates = c.lesser-4.ensures i;
      resets = c.lesser-5.ensures i;
      bads = c.lesser-6.ensures i;
      constraints = c.lesser-7.ensures i;
    }
