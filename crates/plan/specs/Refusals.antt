-- Refusal numbers: the number and the place of each; what reading at a position gives; stages, of which the first refusal wins.
use Rattle.std.specs.Prelude.{ℕ, List, [], ◌∷◌, Option, Some, None}
use Rattle.plan.specs.declared.Refusal.{Refusal}
use Rattle.plan.specs.declared.Refusal.TheVariants.{WrongByte, LargeCount, WrongSum, ShortTable, OutOfRange, DefinedTwice, NotDefined, Cyclic, BadDifference, BadSymbol, ShortBuffer, BadVector, LongInput, Unreadable, NotInOrder, LongDifference, NotExplained, WrongMark, NotOnCards, ManyX, Justice, NoGate, WrongValue, ManyGates, ManyLatches, ManyInputs, NotAlike}

-- the number and the place
abbrev pub told : Refusal → ℕ × ℕ
told (WrongByte place) = (1, place)
told (LargeCount place) = (2, place)
told (WrongSum place) = (3, place)
told (ShortTable place) = (4, place)
told (OutOfRange place) = (5, place)
told (DefinedTwice place) = (6, place)
told (NotDefined place) = (7, place)
told (Cyclic place) = (8, place)
told (BadDifference place) = (9, place)
told (BadSymbol place) = (10, place)
told (ShortBuffer place) = (11, place)
told (BadVector place) = (12, place)
told (LongInput place) = (13, place)
told (Unreadable place) = (14, place)
told (NotInOrder place) = (15, place)
told (LongDifference place) = (16, place)
told (NotExplained place) = (17, place)
told (WrongMark place) = (18, place)
told (NotOnCards place) = (19, place)
told (ManyX place) = (20, place)
told (Justice place) = (21, place)
told (NoGate place) = (22, place)
told (WrongValue place) = (23, place)
told (ManyGates place) = (24, place)
told (ManyLatches place) = (25, place)
told (ManyInputs place) = (26, place)
told (NotAlike place) = (27, place)

abbrev pub number_of : Refusal → ℕ
number_of r = (told r).0

abbrev pub place_of : Refusal → ℕ
place_of r = (told r).1

-- what was read and the position after it, or the refusal
pub data Parse (A : Type 0) : Type 0 where
  got : A → ℕ → Parse A
  refused : Refusal → Parse A

infixr 10 ◌then◌
module _ {A B : Type 0} where
  abbrev pub ◌then◌ : Parse A → (A → ℕ → Parse B) → Parse B
  ◌then◌ (got a next) f = f a next
  ◌then◌ (refused r) f = refused r

module _ {A : Type 0} where
  -- refused at the place found, if one is found
  abbrev pub unless : Option ℕ → (ℕ → Refusal) → Parse A → Parse A
  unless None r p = p
  unless (Some place) r p = refused (r place)

-- a stage of checks: a refusal at the place found, if one is found
abbrev pub stage : (ℕ → Refusal) → Option ℕ → Option Refusal
stage r None = None
stage r (Some place) = Some (r place)

abbrev pub first_of : List (Option Refusal) → Option Refusal
first_of [] = None
first_of (None ∷ stages) = first_of stages
first_of (Some r ∷ stages) = Some r
