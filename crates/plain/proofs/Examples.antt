-- The plain engine and the comparer, computed: the paper's toggle, and 24 and 25 gates.
use mathlib.Core.Path.{◌≡◌, refl}
use mathlib.Core.List.{[], ◌∷◌, ◌++◌}
use Rattle.std.specs.Prelude.{Some, None}
use Rattle.plan.specs.Programs.{bytes_of}
use Rattle.plan.specs.Plain.{many_gates, comparer}

-- the paper's four lines
pub toggle-lines :
    comparer (Some (bytes_of "aag 7 2 1 2 4\n2\n4\n6 8\n6\n7\n8 4 10\n10 13 15\n12 2 6\n14 3 7\n")) (Some (bytes_of "11\n11\nx1\n10\n"))
    ≡ bytes_of "0 11 01 1\n1 11 10 0\n0 x1 01 x\nx 10 xx 0\n"
toggle-lines = refl

-- no gate and one gate, whose two sides are the input
pub no-gate : comparer (Some (bytes_of "aig 1 1 0 1 0\n3\n")) (Some (bytes_of "x\n0\n")) ≡ bytes_of " x x \n 0 1 \n"
no-gate = refl

pub one-gate : comparer (Some (bytes_of "aig 2 1 0 1 1\n5\n" ++ (0x02 ∷ 0x00 ∷ []))) (Some (bytes_of "1\n")) ≡ bytes_of " 1 0 \n"
one-gate = refl

-- 24 gates are stepped, 25 are refused
pub most-gates : many_gates 24 ≡ None
most-gates = refl

pub too_many : many_gates 25 ≡ Some 25
too_many = refl
