-- The codes of n literals of a table in each row, n bytes a row. The loop keeps `Below`. `below-block` carries it from turn to turn, and to the end,
-- and `rows_are` gives the answer.
use Prim.Native.Nat.{ℕ, ◌≤◌}
use mathlib.Core.List.{List}
use Rattle.rows.specs.lanes.Words.{code_at}
use Rattle.rows.specs.lanes.Working.{literal_at}
use Rattle.rows.proofs.lanes.Storing.{Below}
use Rattle.rows.proofs.lanes.store_rows.Given as goal

-- the code of literal j in row k
abbrev pub coded : List ℕ → ℕ → ℕ → List ℕ → ℕ → ℕ → ℕ
coded table start stride t k j = code_at t k (literal_at table start stride j)

abbrev pub invariant-loop-j : goal.invariant-loop-j
invariant-loop-j l = (l.j ≤ l.n) × Below (coded l.table l.start l.stride l.t) l.n l.rows l.j l.out
