-- Each of tables 1 to 4 is written from the numbers.
use native.Mathlib.Omega.{arith}
use Rattle.convert.proofs.Filling.{nexts-known, outputs-known, gates-placeable, first-held}
use Rattle.convert.proofs.fill.Goals as goal

pub run_on-requires : goal.run_on-requires
run_on-requires c =
    let p = c.requires in
    record { n_in_bounds = p.inputs_long; n_bound = omega (arith, p.ready.fits.sum, p.ready.fits.most-M) }

pub renumber_column-requires : goal.renumber_column-requires
renumber_column-requires c =
    let p = c.requires in
    record { column_lt_stride = omega arith; n_in_bounds = p.ready.fits.latches-long; n_in_bounds_2 = omega (arith, p.latches-long); by_index = nexts-known p.ready }

pub overflow_cast-first_latch : goal.overflow_cast-first_latch
overflow_cast-first_latch c =
    let p = c.requires in
    record { fits = omega (arith, p.ready.fits.sum, p.ready.fits.most-M) }

pub spread-requires : goal.spread-requires
spread-requires c =
    let p = c.requires in
    record { n_in_bounds = omega (arith, p.latches-long, c.renumber_column.auto.to); n_bound = omega (arith, p.ready.fits.sum, p.ready.fits.most-M) }

pub renumber_column-requires-2 : goal.renumber_column-requires-2
renumber_column-requires-2 c =
    let p = c.requires in
    record { column_lt_stride = omega arith; n_in_bounds = omega (arith, p.ready.fits.outputs-long); n_in_bounds_2 = p.outputs-long; by_index = outputs-known p.ready }

pub place_gates-requires : goal.place_gates-requires
place_gates-requires c =
    let p = c.requires in
    record { a_in_bounds = (p.ready.fits.gates-long, p.gates-long); by_index = gates-placeable p.ready }

pub returns : goal.returns
returns c =
    λ others ready.
    first-held ready _ _ _ _ c.requires.gates-long _ _ _ _ _ c.run_on.ensures c.renumber_column.ensures c.spread.ensures
    c.renumber_column-2.ensures c.place_gates.ensures
