-- The walks: over words of a table, from `start` on by `stride`, and over the right sides of gates.
use Prim.Native.Nat.{ℕ, ◌+◌, ◌*◌}
use mathlib.Core.Path.{◌≡◌, sym, ap, ◌∙◌}
use mathlib.Core.List.{List, [], ◌∷◌}
use native.Mathlib.Numerals.{add-one}
use lib.ListN.{get_or}
use Rattle.plan.specs.Circuit.{rights}
use Rattle.laws.proofs.Tables.{gate_at, gates_at}
use Rattle.judge.specs.used.Least.{every, lower, lowest}
use Rattle.judge.proofs.used.Lowest.{lowest-append, rights-snoc}

-- the least so far takes in one word more
pub next_low : (table : List ℕ) (start stride : ℕ) (marks : List ℕ) (before low i low' : ℕ)
    → low ≡ lowest marks before (every table start stride i) → low' ≡ lower marks low (get_or table (stride * i + start) 0)
    → low' ≡ lowest marks before (every table start stride (i + 1))
next_low table start stride marks before low i low' was now =
    let word = get_or table (stride * i + start) 0 in
    rw add-one
    (now ∙ ap (λ (x : ℕ). lower marks x word) was
    ∙ sym (lowest-append marks before (every table start stride i) (word ∷ [])))

-- and one gate more
pub next-right : (gates marks : List ℕ) (before low i first second : ℕ) → low ≡ lowest marks before (rights (gates_at gates i))
    → first ≡ lower marks low (get_or gates (3 * i + 1) 0) → second ≡ lower marks first (get_or gates (3 * i + 2) 0)
    → second ≡ lowest marks before (rights (gates_at gates (i + 1)))
next-right gates marks before low i first second was by_first by-second =
    let g = gate_at gates i in
    rw add-one
    (by-second ∙ ap (λ (x : ℕ). lower marks x g.rhs1) (by_first ∙ ap (λ (x : ℕ). lower marks x g.rhs0) was)
    ∙ sym (ap (lowest marks before) (rights-snoc (gates_at gates i) g)
    ∙ lowest-append marks before (rights (gates_at gates i)) (g.rhs0 ∷ g.rhs1 ∷ [])))
