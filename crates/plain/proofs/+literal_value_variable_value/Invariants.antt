-- The measure falls with the variable, and from a literal to its variable.
use Prim.Native.Nat.{◌+◌, ◌*◌}
use Rattle.plan.specs.Literals.{var_of, word_of, index_of}
use Rattle.plain.proofs.+literal_value_variable_value.Given as goal

abbrev pub decreases-literal_value : goal.decreases-literal_value
decreases-literal_value l = 2 * var_of (word_of l.l) + 1

abbrev pub decreases-variable_value : goal.decreases-variable_value
decreases-variable_value l = 2 * index_of l.v
