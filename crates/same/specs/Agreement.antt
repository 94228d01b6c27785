-- Same plan, other numbers: the lists of two circuits agree entry by entry under a one-to-one renaming of variables.
use Rattle.std.specs.Prelude.{ℕ, ◌≡◌, Bool, true, false, ◌&&◌, ◌||◌, List, [], ◌∷◌, eqb, get_or, drop}
use Rattle.plan.specs.declared.Version.TheVariants.{V19}
use Rattle.plan.specs.Literals.{var_of, sign_of}
use Rattle.plan.specs.Refusals.{got}
use Rattle.plan.specs.Circuit.{Gate, Latch, Circuit}
use Rattle.plan.specs.Header.{text, letter_of}
use Rattle.plan.specs.Reading.{read_file}

-- one-to-one, and the constants, whose variable is 0, fixed
pub record OneToOne (rename : ℕ → ℕ) : Type 0 where
  pub constants : rename 0 ≡ 0
  pub different : (u v : ℕ) → rename u ≡ rename v → u ≡ v

-- a literal and the one for it: the variable renamed, the sign preserved
abbrev pub same_literal : (ℕ → ℕ) → ℕ → ℕ → Bool
same_literal rename l k = eqb (var_of k) (rename (var_of l)) && eqb (sign_of k) (sign_of l)

abbrev pub same_latch : (ℕ → ℕ) → Latch → Latch → Bool
same_latch rename l k = same_literal rename l.current k.current && same_literal rename l.next k.next

-- a gate's two right sides and the two for them, possibly exchanged
abbrev pub same_sides : (ℕ → ℕ) → Gate → ℕ → ℕ → Bool
same_sides rename g k0 k1 = same_literal rename g.rhs0 k0 && same_literal rename g.rhs1 k1

abbrev pub same_gate : (ℕ → ℕ) → Gate → Gate → Bool
same_gate rename g h =
    same_literal rename g.lhs h.lhs && (same_sides rename g h.rhs0 h.rhs1 || same_sides rename g h.rhs1
    h.rhs0)

-- as many entries, and each the same as the one at its place
module _ {A : Type 0} where
  abbrev pub entry_by_entry : (A → A → Bool) → List A → List A → Bool
  entry_by_entry same [] [] = true
  entry_by_entry same [] (y ∷ ys) = false
  entry_by_entry same (x ∷ xs) [] = false
  entry_by_entry same (x ∷ xs) (y ∷ ys) = same x y && entry_by_entry same xs ys

-- list by list; M itself may differ. Resets agree as literals do: both 0, both 1, or a literal and the one for it
pub record Agree (rename : ℕ → ℕ) (c d : Circuit) : Type 0 where
  pub inputs : entry_by_entry (same_literal rename) c.inputs d.inputs ≡ true
  pub latches : entry_by_entry (same_latch rename) c.latches d.latches ≡ true
  pub resets : entry_by_entry (same_literal rename) c.resets d.resets ≡ true
  pub outputs : entry_by_entry (same_literal rename) c.outputs d.outputs ≡ true
  pub bads : entry_by_entry (same_literal rename) c.bads d.bads ≡ true
  pub constraints : entry_by_entry (same_literal rename) c.constraints d.constraints ≡ true
  pub gates : entry_by_entry (same_gate rename) c.gates d.gates ≡ true

-- a text file, "aag", that is accepted with tables of these lengths: its circuit, and its symbol and comment bytes
pub record AcceptedText (file lengths : List ℕ) (c : Circuit) (tail : List ℕ) : Type 0 where
  pub form : get_or file 1 0 ≡ letter_of text
  pub start : ℕ
  pub accepted : read_file V19 file lengths ≡ got c start
  pub rest : drop start file ≡ tail

-- two such files of one plan: their circuits agree under a one-to-one renaming, and their symbol and comment bytes
-- are equal
pub record SamePlan (lengths file other : List ℕ) : Type 0 where
  pub rename : ℕ → ℕ
  pub one-to-one : OneToOne rename
  pub c : Circuit
  pub d : Circuit
  pub agree : Agree rename c d
  pub tail : List ℕ
  pub first : AcceptedText file lengths c tail
  pub second : AcceptedText other lengths d tail
