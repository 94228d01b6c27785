-- Whether one of the outputs or of the bad states is 1 after a step. The answers are given by `or-first` and `or-second`.
use Rattle.witness.proofs.three.Listing.{or-first, or-second}
use Rattle.witness.proofs.three.shown.Goals as goal

pub returns-then-any_one : goal.returns-then-any_one
returns-then-any_one c = or-first _ _ _ c.any_one.ensures c.if-any_one.true

pub returns : goal.returns
returns c = or-second _ _ _ _ c.any_one.ensures c.if-any_one.false c.any_lit.ensures
