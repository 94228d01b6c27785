-- What the functions over lanes ask and leave.
use Rattle.std.specs.Prelude.{ℕ, ◌+◌, ◌*◌, ◌≤◌, ◌<◌, ◌≡◌, List, [], ◌∷◌, ◌++◌, map, length, get_or}
use Rattle.std.specs.Int.Bits.{bit_and, bit_or, bit_xor}
use Rattle.std.specs.Int.Count.{ones}
use Rattle.plan.specs.declared.Counts.{Counts}
use Rattle.plan.specs.Literals.{var_of, neg_of}
use Rattle.plan.specs.Circuit.{Circuit, Tables, seven, flat}
use Rattle.plan.specs.Step.{value_of, lit, values_of, first_state}
use Rattle.laws.proofs.Tables.{firsts, row_at, gates_at}
use Rattle.laws.proofs.Running.Binary.{Binary}
use Rattle.tables.specs.Held.{Scratch}
use Rattle.step.specs.sweep.Running.{Runs}
use Rattle.step.specs.values.Words.{may1}
use Rattle.rows.specs.Planes.Planes.{bit, pairs, sweep_planes}
use Rattle.rows.specs.lanes.Words.{plane_at, code_at, Begins}

-- planes of n variables more, behind those of `before`
abbrev pub Grows : ℕ → (ℕ → ℕ) → (ℕ → ℕ) → ℕ → List ℕ → List ℕ → Type 0
Grows before f g n t t' = (q : List ℕ) → length q ≡ 2 * before → Begins q t → Begins (q ++ pairs f g n) t'

-- n gates in binary order behind the planes of `before` variables, and the planes they leave
pub record Sweeps (gates : List ℕ) (n before : ℕ) (t : List ℕ) : Type 0 where
  pub gates-long : 3 * n ≤ length gates
  pub table-long : 4 * (before + n) ≤ length t
  pub ordered : Binary before (gates_at gates n)

abbrev pub Swept : List ℕ → ℕ → ℕ → List ℕ → List ℕ → Type 0
Swept gates n before t t' =
    (q : List ℕ) → length q ≡ 2 * before → Begins q t → Begins (sweep_planes q (gates_at gates n)) t'

-- both planes of a literal stand in a table
abbrev pub There : ℕ → List ℕ → Type 0
There l t = 4 * var_of l + 4 ≤ length t

-- the planes of a gate
abbrev pub gate_planes : List ℕ → ℕ → ℕ → List ℕ
gate_planes t a b = bit_and (plane_at t a) (plane_at t b) ∷ bit_or (plane_at t (neg_of a)) (plane_at t (neg_of b)) ∷ []

-- tables of which latches, outputs, gates and resets are these: a step of rows is lent no others
abbrev pub these : Tables → List ℕ → List ℕ → List ℕ → List ℕ → Tables
these x latches outputs gates resets = seven x.inputs latches outputs gates resets x.bads x.constraints

-- tables of which gates and resets are these
abbrev pub both : Tables → List ℕ → List ℕ → Tables
both x gates resets = these x x.latches x.outputs gates resets

-- what a step of all rows asks, and what it leaves: in each row's lane the values of the plain stepper
pub record Ready (n : Counts) (gates resets bytes : List ℕ) (rows : ℕ) (t : List ℕ) : Type 0 where
  pub others : Tables
  pub runs : Runs n (both others gates resets)
  pub scratch : Scratch n t
  pub most : rows ≤ 64
  pub whole : n.I * rows ≤ length bytes

pub record Holds (n : Counts) (c : Circuit) (bytes : List ℕ) (rows : ℕ) (t : List ℕ) : Type 0 where
  pub is : (k : ℕ) → k < rows → (l : ℕ) → var_of l ≤ n.M
      → bit k (plane_at t l) ≡ may1 (lit (values_of c (first_state c) (map value_of (row_at n.I bytes k))) l)

-- n literals of a table, from `start` on by `stride`, whose planes stand in a table
abbrev pub literal_at : List ℕ → ℕ → ℕ → ℕ → ℕ
literal_at table start stride j = get_or table (stride * j + start) 0

pub record Shows (table : List ℕ) (start stride n : ℕ) (t : List ℕ) : Type 0 where
  pub start-in : start < stride
  pub literals-long : stride * n ≤ length table
  pub inside : (j : ℕ) → j < n → There (literal_at table start stride j) t

-- their codes in row k, and in all rows
abbrev pub codes_in : List ℕ → ℕ → ℕ → ℕ → List ℕ → ℕ → List ℕ
codes_in table start stride n t k = firsts (λ j. code_at t k (literal_at table start stride j)) n

abbrev pub codes_of : List ℕ → ℕ → ℕ → ℕ → ℕ → List ℕ → List ℕ
codes_of table start stride n rows t = flat (firsts (λ k. codes_in table start stride n t k) rows)

-- the rows in which a literal is 0, 1 and x, under a mask; those of all literals
abbrev pub counts_at : List ℕ → ℕ → ℕ → List ℕ
counts_at t mask l =
    let p = plane_at t l in
    let q = plane_at t (neg_of l) in
    ones (bit_and (bit_xor q (bit_and p q)) mask) ∷ ones (bit_and (bit_xor p (bit_and p q)) mask)
    ∷ ones (bit_and (bit_and p q) mask) ∷ []

abbrev pub counts_of : List ℕ → ℕ → ℕ → List ℕ → List ℕ
counts_of table n mask t = flat (firsts (λ j. counts_at t mask (get_or table j 0)) n)
