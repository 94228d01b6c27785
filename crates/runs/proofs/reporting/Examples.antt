-- The reporter's whole output, computed.
use mathlib.Core.Path.{◌≡◌, refl}
use Rattle.std.specs.Prelude.{Some, None}
use Rattle.plan.specs.Programs.{bytes_of}
use Rattle.laws.proofs.Paper.{toggle}
use Rattle.plan.specs.Reporter.{reporter}

-- the toggle circuit over the four lines of the paper
pub toggle-lines : reporter (Some toggle) (Some (bytes_of "11\n11\nx1\n10\n")) ≡ bytes_of "o0 2 1 1 3\no1 1 2 1 3\nl0 2 1 1 3\n"
toggle-lines = refl

-- no vectors, and no needles
pub no-vectors : reporter (Some (bytes_of "aag 1 0 1 1 0\n2 3 2\n3\n")) (Some (bytes_of "")) ≡ bytes_of "o0 0 0 0 0\nl0 0 0 0 0\n"
no-vectors = refl

pub no-needles : reporter (Some (bytes_of "aag 1 1 0 0 0\n2\n")) (Some (bytes_of "x\n")) ≡ bytes_of ""
no-needles = refl

-- refusals of plan.in come first, then those of standard input
pub plan-first : reporter (Some (bytes_of "aag 0 0 0 0\n")) None ≡ bytes_of "refused 1 at 11\n"
plan-first = refl

pub input-later : reporter (Some (bytes_of "aag 1 1 0 0 0\n2\n")) (Some (bytes_of "y\n")) ≡ bytes_of "refused 12 at 2\n"
input-later = refl
