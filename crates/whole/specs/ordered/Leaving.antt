-- What opening a file leaves but for the tables it was read into.
use Rattle.plan.specs.Outcome.{MakeExit}
use Rattle.plan.specs.Whole.{OpenExit}

abbrev pub left_by : OpenExit → MakeExit
left_by x = record { answer = x.answer; written = x.made; scratch = x.scratch }
