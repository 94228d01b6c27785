-- Tables and bytes: the circuit, its counts, its lines of literals and its tables.
use Rattle.std.specs.Prelude.{ℕ, suc, zero, ◌+◌, ◌-◌, ◌*◌, min, Bool, true, false, not, cond, ◌&&◌, ◌||◌, List, [], ◌∷◌, ◌++◌, map, eqb, leb, length, get_or, take, drop, replicate, Option, Some, None}
use Rattle.plan.specs.declared.Counts.{Counts}
use Rattle.plan.specs.Literals.{var_of, in_range, is_reset}

pub record Gate : Type 0 where
  pub lhs : ℕ
  pub rhs0 : ℕ
  pub rhs1 : ℕ

pub record Latch : Type 0 where
  pub current : ℕ
  pub next : ℕ

pub record Circuit : Type 0 where
  pub M : ℕ
  pub inputs : List ℕ
  pub latches : List Latch
  pub resets : List ℕ
  pub outputs : List ℕ
  pub bads : List ℕ
  pub constraints : List ℕ
  pub gates : List Gate

abbrev pub counts_of : Circuit → Counts
counts_of c = record {
  M = c.M;
  I = length c.inputs;
  L = length c.latches;
  O = length c.outputs;
  A = length c.gates;
  B = length c.bads;
  C = length c.constraints;
}

-- the lines of literals of an input or an output, a latch, a gate; and back
abbrev pub one_line : ℕ → List ℕ
one_line l = l ∷ []

abbrev pub latch_line : Latch → List ℕ
latch_line l = l.current ∷ l.next ∷ []

abbrev pub gate_line : Gate → List ℕ
gate_line g = g.lhs ∷ g.rhs0 ∷ g.rhs1 ∷ []

abbrev pub literal_of : List ℕ → ℕ
literal_of row = get_or row 0 0

abbrev pub latch_of : List ℕ → Latch
latch_of row = record { current = get_or row 0 0; next = get_or row 1 0 }

abbrev pub gate_of : List ℕ → Gate
gate_of row = record { lhs = get_or row 0 0; rhs0 = get_or row 1 0; rhs1 = get_or row 2 0 }

-- the words that tables 1 to 9 need, with these of table 5; table 6 is no circuit's
abbrev pub words_with : ℕ → Counts → List ℕ
words_with scratch n = n.I ∷ 2 * n.L ∷ n.O ∷ 3 * n.A ∷ scratch ∷ 0 ∷ n.L ∷ n.B ∷ n.C ∷ []

-- the words of table 5 for every call but the reading of a binary file
abbrev pub scratch_to_work : Counts → ℕ
scratch_to_work n = 4 * (n.M + 1) + n.O + n.B + n.C

abbrev pub words_to_work : Counts → List ℕ
words_to_work n = words_with (scratch_to_work n) n

-- a table's number, the words it needs and the words lent
pub record Lent : Type 0 where
  pub table : ℕ
  pub needed : ℕ
  pub words : ℕ

-- tables t, t + 1 .. with their needs and lengths
abbrev pub against : ℕ → List ℕ → List ℕ → List Lent
against t [] lengths = []
against t (n ∷ needs) lengths =
    record { table = t; needed = n; words = get_or lengths 0 0 } ∷ against (t + 1) needs (drop 1 lengths)

abbrev pub or_less : ℕ → Option ℕ → Option ℕ
or_less v None = Some v
or_less v (Some u) = Some (min u v)

-- the least table that is too short
abbrev pub least_short : List Lent → Option ℕ
least_short [] = None
least_short (x ∷ xs) = cond (leb x.needed x.words) (least_short xs) (or_less x.table (least_short xs))

-- the lines of a table: n of k words; and the table of lines
abbrev pub rows_of : ℕ → ℕ → List ℕ → List (List ℕ)
rows_of k zero t = []
rows_of k (suc n) t = take k t ∷ rows_of k n (drop k t)

abbrev pub flat : List (List ℕ) → List ℕ
flat [] = []
flat (row ∷ rows) = row ++ flat rows

-- tables 1 to 4 and 7 to 9
pub record Tables : Type 0 where
  pub inputs : List ℕ
  pub latches : List ℕ
  pub outputs : List ℕ
  pub gates : List ℕ
  pub resets : List ℕ
  pub bads : List ℕ
  pub constraints : List ℕ

abbrev pub seven : List ℕ → List ℕ → List ℕ → List ℕ → List ℕ → List ℕ → List ℕ → Tables
seven a b c d e f g = record { inputs = a; latches = b; outputs = c; gates = d; resets = e; bads = f; constraints = g }

-- the lengths of tables 1 to 9, with table 5, scratch, and no table 6
abbrev pub lengths_of : Tables → List ℕ → List ℕ
lengths_of t scratch =
    length t.inputs ∷ length t.latches ∷ length t.outputs ∷ length t.gates ∷ length scratch ∷ 0
    ∷ length t.resets ∷ length t.bads ∷ length t.constraints ∷ []

abbrev pub circuit_of : Counts → Tables → Circuit
circuit_of n t = record {
  M = n.M;
  inputs = take n.I t.inputs;
  latches = map latch_of (rows_of 2 n.L t.latches);
  resets = take n.L t.resets;
  outputs = take n.O t.outputs;
  bads = take n.B t.bads;
  constraints = take n.C t.constraints;
  gates = map gate_of (rows_of 3 n.A t.gates);
}

-- words, and zero past them up to the length of a lent table; a table zero throughout
abbrev pub filled : List ℕ → List ℕ → List ℕ
filled table words = words ++ replicate (length table - length words) 0

abbrev pub cleared : List ℕ → List ℕ
cleared table = replicate (length table) 0

abbrev pub holding : Tables → Circuit → Tables
holding t c = record {
  inputs = filled t.inputs c.inputs;
  latches = filled t.latches (flat (map latch_line c.latches));
  outputs = filled t.outputs c.outputs;
  gates = filled t.gates (flat (map gate_line c.gates));
  resets = filled t.resets c.resets;
  bads = filled t.bads c.bads;
  constraints = filled t.constraints c.constraints;
}

abbrev pub all_cleared : Tables → Tables
all_cleared t = record {
  inputs = cleared t.inputs;
  latches = cleared t.latches;
  outputs = cleared t.outputs;
  gates = cleared t.gates;
  resets = cleared t.resets;
  bads = cleared t.bads;
  constraints = cleared t.constraints;
}

-- the variables that lines define: of inputs, of latches (current states), of gates (left sides)
abbrev pub heads : List (List ℕ) → List ℕ
heads [] = []
heads (row ∷ rows) = var_of (literal_of row) ∷ heads rows

abbrev pub vars : List ℕ → List ℕ
vars ls = heads (map one_line ls)

abbrev pub current_vars : List Latch → List ℕ
current_vars ls = heads (map latch_line ls)

abbrev pub left_vars : List Gate → List ℕ
left_vars gs = heads (map gate_line gs)

abbrev pub defined_in : Circuit → List ℕ
defined_in c = vars c.inputs ++ (current_vars c.latches ++ left_vars c.gates)

-- the literals that are used: next states; outputs, bad states and constraints, which are observed; right sides
abbrev pub nexts : List Latch → List ℕ
nexts [] = []
nexts (l ∷ ls) = l.next ∷ nexts ls

abbrev pub observed : Circuit → List ℕ
observed c = c.outputs ++ (c.bads ++ c.constraints)

abbrev pub roots : Circuit → List ℕ
roots c = nexts c.latches ++ observed c

abbrev pub rights : List Gate → List ℕ
rights [] = []
rights (g ∷ gs) = g.rhs0 ∷ g.rhs1 ∷ rights gs

abbrev pub used_in : Circuit → List ℕ
used_in c = vars (roots c ++ rights c.gates)

abbrev pub has : ℕ → List ℕ → Bool
has v [] = false
has v (u ∷ us) = eqb u v || has v us

-- what is no gate's: the constants' variable, those of inputs, those of latches, in this order
abbrev pub leaves : Circuit → List ℕ
leaves c = zero ∷ (vars c.inputs ++ current_vars c.latches)

-- the place of a variable in a list, the list's length if it is not there
abbrev pub index : ℕ → List ℕ → ℕ
index v [] = zero
index v (u ∷ us) = cond (eqb u v) zero (suc (index v us))

-- none of a list stands among `seen` or earlier in the list
abbrev pub all_new : List ℕ → List ℕ → Bool
all_new seen [] = true
all_new seen (v ∷ vs) = not (has v seen) && all_new (seen ++ (v ∷ [])) vs

-- one reset for each latch
abbrev pub resets_ok : List Latch → List ℕ → Bool
resets_ok [] [] = true
resets_ok [] (r ∷ rs) = false
resets_ok (l ∷ ls) [] = false
resets_ok (l ∷ ls) (r ∷ rs) = is_reset l.current r && resets_ok ls rs

-- the literals of a line, of which the first defines or not, are in their ranges
abbrev pub inside : Bool → ℕ → List ℕ → Bool
inside d m [] = true
inside d m (l ∷ ls) = in_range d m l && inside false m ls

abbrev pub all_inside : Bool → ℕ → List (List ℕ) → Bool
all_inside d m [] = true
all_inside d m (row ∷ rows) = inside d m row && all_inside d m rows
