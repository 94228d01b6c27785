-- What the readers of lines answer, and what their tables then hold.
use Rattle.std.specs.Prelude.{ℕ, ◌<◌, ◌≡◌, Bool, true, false, not, cond, ◌&&◌, List, [], ◌∷◌, ◌++◌, map, eqb, length, Result, Ok, Err}
use Rattle.plan.specs.declared.Refusal.{Refusal}
use Rattle.plan.specs.declared.Refusal.TheVariants.{OutOfRange}
use Rattle.plan.specs.Refusals.{Parse, got, refused, ◌then◌, unless}
use Rattle.plan.specs.Circuit.{heads, flat}
use Rattle.plan.specs.Bytes.{Placed, numbers, values, outside}
use Rattle.plan.specs.Outcome.{put}
use Rattle.laws.proofs.Marks.{Agrees}
use Rattle.laws.proofs.Reading.Cut.{cut}
use Rattle.tables.specs.bitmap.Bitmap.{is_on, raised}
use Rattle.lines.specs.declared.Going.{Going}
use Rattle.lines.specs.declared.Going.TheVariants.{Stop, On, Wrong}

-- a new line after the last number of a line, a space before the next
abbrev pub end_for : Bool → ℕ
end_for true = 10
end_for false = 32

-- what a byte after a number says, where more must follow or may
abbrev pub going : Bool → Bool → ℕ → Going
going must may b = cond (eqb b 10) (cond must Wrong Stop) (cond (eqb b 32) (cond may On Wrong) Wrong)

-- one line by 1 and 5
abbrev pub row : List ℕ → ℕ → Bool → ℕ → ℕ → Parse (List ℕ)
row file k d m at = numbers file k k at then λ xs next. unless (outside d m xs) OutOfRange (got (values xs) next)

-- marks for lines that define: a word for each variable up to m; for lines that do not: of any length
abbrev pub MarksFor : Bool → ℕ → List ℕ → Type 0
MarksFor true m marks = m < length marks
MarksFor false m marks = Unit {0}

abbrev pub marked : Bool → ℕ → List ℕ → Bool
marked d v marks = d && is_on marks 0 v

abbrev pub marking : Bool → Bool → ℕ → List ℕ → List ℕ
marking d before v marks = cond (d && not before) (raised marks 0 v) marks

-- the variables seen after lines that define or do not
abbrev pub seen_after : Bool → List ℕ → List (List ℕ) → List ℕ
seen_after true seen rows = seen ++ heads rows
seen_after false seen rows = seen

-- what n lines leave: the lines in the table from its start, and marks of all that is defined; after a refusal only
-- the refusal counts
abbrev pub LinesSay : Bool → ℕ → List ℕ → List ℕ → Parse (List (List ℕ)) → Result ℕ Refusal → List ℕ → List ℕ → Type 0
LinesSay d m seen table (got rows next) r table' marks' =
    (r ≡ Ok next) × (table' ≡ put table 0 (flat rows)) × Agrees m (seen_after d seen rows) marks'
LinesSay d m seen table (refused r') r table' marks' = r ≡ Err r'

-- what a line of numbers leaves: the numbers, cut beyond every limit, and their places
abbrev pub places_of : List Placed → List ℕ
places_of [] = []
places_of (x ∷ xs) = x.place ∷ places_of xs

pub record Numbered (xs : List Placed) (base : ℕ) (w p w' p' : List ℕ) : Type 0 where
  pub words : w' ≡ put w base (map cut (values xs))
  pub places : p' ≡ put p base (places_of xs)
