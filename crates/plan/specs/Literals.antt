-- What the build covers: the limits, variables and literals.
use Rattle.std.specs.Prelude.{ℕ, suc, zero, ◌+◌, ◌-◌, ◌*◌, ◌/◌, ◌%◌, ◌^◌, Bool, true, false, ◌&&◌, ◌||◌, eqb, leb}
use Rattle.plan.specs.declared.Var.{Var}
use Rattle.plan.specs.declared.Lit.{Lit}

-- M, I, L, O, A, B, C are each at most 1,048,575
abbrev pub most : ℕ
most = 1048575

-- above every literal, which is at most 2,097,151, and every count: where a number that is read is cut
abbrev pub beyond : ℕ
beyond = 2 ^ 21

-- literal = 2 × variable + sign
abbrev pub lit_of : ℕ → ℕ
lit_of v = 2 * v

abbrev pub var_of : ℕ → ℕ
var_of l = l / 2

abbrev pub sign_of : ℕ → ℕ
sign_of l = l % 2

-- negation toggles the lowest bit
abbrev pub neg_of : ℕ → ℕ
neg_of l = l + 1 - 2 * sign_of l

-- a literal negated as often as a sign says
abbrev pub signed : ℕ → ℕ → ℕ
signed zero l = l
signed (suc s) l = neg_of l

-- where it defines: even, at least 2, at most 2M; else at most 2M + 1
abbrev pub in_range : Bool → ℕ → ℕ → Bool
in_range true m l = eqb (sign_of l) 0 && (leb 2 l && leb l (2 * m))
in_range false m l = leb l (2 * m + 1)

-- a reset: 0, 1 or the latch's own literal
abbrev pub is_reset : ℕ → ℕ → Bool
is_reset own r = eqb r 0 || (eqb r 1 || eqb r own)

-- the two structs: a word in, a word out; the doubling, which a 32-bit word cuts; the halving
abbrev pub var_at : ℕ → Var
var_at v = record { 0 = v }

abbrev pub index_of : Var → ℕ
index_of v = v.0

abbrev pub lit_at : ℕ → Lit
lit_at l = record { 0 = l }

abbrev pub word_of : Lit → ℕ
word_of l = l.0

abbrev pub doubled : Var → Lit
doubled v = lit_at (lit_of (index_of v) % 2 ^ 32)

abbrev pub halved : Lit → Var
halved l = var_at (var_of (word_of l))

abbrev pub negated : Lit → Lit
negated l = lit_at (neg_of (word_of l))

abbrev pub signed_as : Lit → Lit → Lit
signed_as l k = lit_at (signed (sign_of (word_of k)) (word_of l))
