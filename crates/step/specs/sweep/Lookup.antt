-- What a step's loops leave: a word for each literal, and the values of a table's literals looked up.
use Rattle.std.specs.Prelude.{ℕ, ◌+◌, ◌*◌, ◌%◌, ◌<◌, ◌≤◌, ◌≡◌, List, [], ◌∷◌, map, length, get_or}
use Rattle.std.specs.Int.Bits.{bit_and, bit_or}
use Rattle.plan.specs.Literals.{most, var_of, neg_of}
use Rattle.plan.specs.Step.{Value}
use Rattle.plan.specs.Outcome.{put}
use Rattle.laws.proofs.Tables.{gates_at}
use Rattle.laws.proofs.Running.Binary.{Binary}
use Rattle.laws.proofs.Running.Sweep.{sweep}
use Rattle.judge.specs.used.Least.{every}
use Rattle.step.specs.values.Words.{may0, may1, told, Coded, values_at}

-- the words of literals 0, 1 .., by the values of variables 0, 1 ..: whether the literal may be 1. So a variable's value has two words: that of
-- its own literal tells whether it may be 1, that of the negated one whether it may be 0
abbrev pub lit_words : List Value → List ℕ
lit_words [] = []
lit_words (a ∷ l) = may1 a ∷ may0 a ∷ lit_words l

-- the two words of an And of two literals: it may be 1 if both may, and 0 if either may
abbrev pub and_words : ℕ → List ℕ → ℕ → ℕ → List ℕ
and_words lits t a b =
    bit_and (get_or t (lits + a) 0) (get_or t (lits + b) 0) ∷ bit_or (get_or t (lits + neg_of a) 0) (get_or t (lits + neg_of b) 0) ∷ []

-- the word of a literal's value, by both its words
abbrev pub word_at : ℕ → List ℕ → ℕ → ℕ
word_at lits t l = bit_or (get_or t (lits + neg_of l) 0) (get_or t (lits + l) 0 * 2 % 4294967296)

-- both words of a literal are there
abbrev pub Inside : ℕ → List ℕ → ℕ → Type 0
Inside lits t l = lits + 2 * var_of l + 1 < length t

-- n words that are values, before the words of their literals
pub record Spreads (n lits : ℕ) (t : List ℕ) : Type 0 where
  pub before : n ≤ lits
  pub table-long : lits + 2 * n ≤ length t
  pub coded : (v : ℕ) → v < n → Coded (get_or t v 0)

abbrev pub spread : ℕ → ℕ → List ℕ → List ℕ
spread n lits t = put t lits (lit_words (values_at t 0 n))

-- n gates in binary order from variable `first` on, and a word for each literal of theirs and of all below
pub record Gated (gates : List ℕ) (n first : ℕ) (t : List ℕ) : Type 0 where
  pub few : first ≤ most + 1
  pub gates-long : 3 * n ≤ length gates
  pub table-long : 2 * (first + n) ≤ length t
  pub ordered : Binary first (gates_at gates n)

-- where the values below stand, two words more for each gate
abbrev pub Settles : List ℕ → ℕ → ℕ → List ℕ → List ℕ → Type 0
Settles gates n first t t' =
    (vals : List Value) → length vals ≡ first → t ≡ put t 0 (lit_words vals) → t' ≡ put t 0 (lit_words (sweep vals (gates_at gates n)))

-- the same from `lits` on, where the values below stand
pub record Sweeps (gates : List ℕ) (n first lits : ℕ) (t : List ℕ) : Type 0 where
  pub few : first ≤ most + 1
  pub gates-long : 3 * n ≤ length gates
  pub table-long : lits + 2 * (first + n) ≤ length t
  pub ordered : Binary first (gates_at gates n)
  pub there : t ≡ spread first lits t

abbrev pub swept : List ℕ → ℕ → ℕ → ℕ → List ℕ → List ℕ
swept gates n first lits t = put t lits (lit_words (sweep (values_at t 0 first) (gates_at gates n)))

-- n literals of a table, from `start` on by `stride`, whose words are to stand from `first` on, before those of all literals
pub record Looks (table : List ℕ) (start stride n lits first : ℕ) (t : List ℕ) : Type 0 where
  pub start-in : start < stride
  pub literals-long : stride * n ≤ length table
  pub before : first + n ≤ lits
  pub inside : (i : ℕ) → i < n → Inside lits t (get_or table (stride * i + start) 0)

abbrev pub looked : List ℕ → ℕ → ℕ → ℕ → ℕ → List ℕ → List ℕ
looked table start stride n lits t = map (word_at lits t) (every table start stride n)

-- n literals of a table, whose words are read
pub record Sees (table : List ℕ) (n lits : ℕ) (t : List ℕ) : Type 0 where
  pub literals-long : n ≤ length table
  pub inside : (i : ℕ) → i < n → Inside lits t (get_or table i 0)

-- the values of literals
abbrev pub seen : ℕ → List ℕ → List ℕ → List Value
seen lits t ls = map (λ l. told (word_at lits t l)) ls
