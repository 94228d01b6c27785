-- Binary form: differences.
use Rattle.std.specs.Prelude.{ℕ, suc, zero, ◌+◌, ◌*◌, ◌/◌, ◌%◌, Bool, true, false, cond, ◌&&◌, ◌||◌, List, [], ◌∷◌, eqb, leb, ltb, length, get_or, Result, Ok, Err}
use Rattle.plan.specs.declared.Refusal.{Refusal}
use Rattle.plan.specs.declared.Refusal.TheVariants.{WrongByte, BadDifference, LongDifference}
use Rattle.plan.specs.Refusals.{Parse, got, refused, ◌then◌}

-- a group below the groups that follow it
abbrev pub low_then : ℕ → Result (ℕ × ℕ) Refusal → Result (ℕ × ℕ) Refusal
low_then low (Ok (high, next)) = Ok (low + 128 * high, next)
low_then low (Err r) = Err r

-- groups of seven bits, low group first, the high bit (128) set on all but the last byte, in the fewest bytes, so
-- that the last is 0 only where it is the first; at most k more
abbrev pub groups : List ℕ → ℕ → ℕ → ℕ → Result (ℕ × ℕ) Refusal
groups file first zero at = Err (LongDifference first)
groups file first (suc k) at =
    let b = get_or file at 0 in
    cond (leb (length file) at) (Err (WrongByte (length file)))
    (cond (leb 128 b) (low_then (b % 128) (groups file first k (at + 1)))
    (cond (eqb b 0 && ltb first at) (Err (LongDifference first)) (Ok (b, at + 1))))

-- the difference at a position: at most three bytes
abbrev pub difference_at : List ℕ → ℕ → Result (ℕ × ℕ) Refusal
difference_at file at = groups file at 3 at

-- cut off by the file's end: 1; more bytes than three or than needed: 16
abbrev pub difference_says : Result (ℕ × ℕ) Refusal → Parse ℕ
difference_says (Ok (d, next)) = got d next
difference_says (Err r) = refused r

-- taken from a number: the first one of a gate is not 0, and none is more than what it is taken from, else 9
abbrev pub difference : List ℕ → Bool → ℕ → ℕ → Parse ℕ
difference file first from at =
    difference_says (difference_at file at) then λ d next.
    cond ((first && eqb d 0) || ltb from d) (refused (BadDifference at)) (got d next)

-- the same, written: the groups of d, of which it has at most k + 1
abbrev pub groups_in : ℕ → ℕ → List ℕ
groups_in zero d = d ∷ []
groups_in (suc k) d = elim (ltb d 128) [ true ↦ d ∷ [] | false ↦ (d % 128 + 128) ∷ groups_in k (d / 128) ]

abbrev pub groups_of : ℕ → List ℕ
groups_of d = groups_in d d
