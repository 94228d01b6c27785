-- Whether no byte is wrong. The loop keeps whether none was so far. `left-more` carries it from turn to turn.
use Rattle.rows.proofs.Lists.{left-more}
use Rattle.rows.proofs.only_codes.Goals as goal

pub loop-b-preserved : goal.loop-b-preserved
loop-b-preserved c =
    left-more c.args.bytes.now c.loop-b.b-index c.loop-b.wrong c.not_code-wrong.result c.loop-b-test.true c.loop-b.invariant c.not_code-wrong.ensures
