-- The marks of what the tables of a circuit reach, and what is asked of the tables.
use Rattle.std.specs.Prelude.{ℕ, ◌+◌, ◌*◌, ◌<◌, ◌≤◌, ◌≡◌, List, [], ◌++◌, length, get_or}
use Rattle.plan.specs.declared.Counts.{Counts}
use Rattle.plan.specs.Walk.{walk}
use Rattle.plan.specs.Drop.{sides_of}
use Rattle.laws.proofs.Tables.{firsts, gates_at}
use Rattle.drop.specs.Marks.{var_at}
use Rattle.drop.specs.Retained.{Retainable}

-- the variables that n words of a table stand for, from `column` on by `stride`
abbrev pub column : List ℕ → ℕ → ℕ → ℕ → List ℕ
column table stride at n = firsts (var_at table stride at) n

-- what next states, outputs, bad states and constraints reach
abbrev pub reached_in : Counts → List ℕ → List ℕ → List ℕ → List ℕ → List ℕ → List ℕ
reached_in n latches outputs gates bads constraints =
    walk sides_of (gates_at gates n.A)
    (column latches 2 1 n.L ++ (column outputs 1 0 n.O
    ++ (column bads 1 0 n.B ++ (column constraints 1 0 n.C ++ []))))

-- a column lies in its table, and its variables have words in t
pub record Marking (table : List ℕ) (stride at n : ℕ) (t : List ℕ) : Type 0 where
  pub long : stride * n ≤ length table
  pub low : (i : ℕ) → i < n → var_at table stride at i < length t

-- tables of a circuit in binary order, with room, and no mark yet
pub record Reachable (n : Counts) (latches outputs gates bads constraints to t : List ℕ) : Type 0 where
  pub from-nexts : Marking latches 2 1 n.L t
  pub from-outputs : Marking outputs 1 0 n.O t
  pub from-bads : Marking bads 1 0 n.B t
  pub from-constraints : Marking constraints 1 0 n.C t
  pub through-gates : Retainable gates to t (1 + n.I + n.L) n.A
  pub blank : (v : ℕ) → get_or t v 0 ≡ 0
