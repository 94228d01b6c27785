-- The same of three tables. The answer is that of the call below it.
use Rattle.reduce.proofs.three_become.Goals as goal

pub returns : goal.returns
returns c =
    record { to_a_after = c.all_become.ensures; to_b_after = c.all_become-2.ensures; to_c_after = c.all_become-3.ensures }
