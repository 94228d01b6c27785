-- An answer of the checks without table 6, and the answer with it.
use Rattle.std.specs.Prelude.{Bool, true, false, cond, eqb, ltb, Result, Ok, Err}
use Rattle.plan.specs.declared.Refusal.{Refusal}
use Rattle.plan.specs.declared.Refusal.TheVariants.{ShortTable}
use Rattle.plan.specs.Refusals.{number_of, place_of}

-- a refusal by 2 or 3, or by 4 at a table before the sixth
abbrev pub before_sixth : Refusal → Bool
before_sixth r = cond (eqb (number_of r) 4) (ltb (place_of r) 6) (ltb (number_of r) 4)

-- table 6 is long enough, or it is not
abbrev pub with_sixth : Result Unit Refusal → Bool → Result Unit Refusal
with_sixth answer false = answer
with_sixth (Ok tt) true = Err (ShortTable 6)
with_sixth (Err r) true = cond (before_sixth r) (Err r) (Err (ShortTable 6))
