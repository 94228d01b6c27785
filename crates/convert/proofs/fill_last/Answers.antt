-- Each of tables 7 to 9 is written from the numbers.
use native.Mathlib.Omega.{arith}
use Rattle.convert.proofs.Filling.{resets-known, bads-known, constraints-known, last-held}
use Rattle.convert.proofs.fill_last.Goals as goal

pub renumber_column-requires : goal.renumber_column-requires
renumber_column-requires c =
    let p = c.requires in
    record { column_lt_stride = omega arith; n_in_bounds = omega (arith, p.ready.fits.resets-long); n_in_bounds_2 = p.resets-long; by_index = resets-known p.ready }

pub renumber_column-requires-2 : goal.renumber_column-requires-2
renumber_column-requires-2 c =
    let p = c.requires in
    record { column_lt_stride = omega arith; n_in_bounds = omega (arith, p.ready.fits.bads-long); n_in_bounds_2 = p.bads-long; by_index = bads-known p.ready }

pub renumber_column-requires-3 : goal.renumber_column-requires-3
renumber_column-requires-3 c =
    let p = c.requires in
    record { column_lt_stride = omega arith; n_in_bounds = omega (arith, p.ready.fits.constraints-long); n_in_bounds_2 = p.constraints-long; by_index = constraints-known p.ready }

pub returns : goal.returns
returns c =
    λ others ready.
    last-held ready _ _ _ _ _ _ c.renumber_column.ensures c.renumber_column-2.ensures c.renumber_column-3.ensures
