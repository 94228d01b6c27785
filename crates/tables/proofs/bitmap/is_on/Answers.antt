-- The place's bit, shifted to the lowest.
use mathlib.Core.Path.{refl}
use Rattle.tables.specs.bitmap.Bitmap.{is_on}
use Rattle.tables.proofs.bitmap.is_on.Goals as goal

pub returns : goal.returns
unfolding is_on
returns c = refl
