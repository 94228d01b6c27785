-- Text form: the classes of bytes, numbers, lines of literals.
use Rattle.std.specs.Prelude.{ℕ, suc, zero, ◌+◌, ◌-◌, ◌*◌, ◌/◌, ◌%◌, ◌≤◌, ◌≡◌, Bool, true, false, cond, ◌&&◌, List, [], ◌∷◌, ◌++◌, eqb, leb, ltb, length, get_or, take, drop, replicate, Option, Some, None}
use Rattle.plan.specs.declared.Refusal.TheVariants.{WrongByte, OutOfRange, DefinedTwice}
use Rattle.plan.specs.declared.Class.{Class}
use Rattle.plan.specs.declared.Class.TheVariants.{Line, Space, Zero, Digit, Print, Rest}
use Rattle.plan.specs.Literals.{lit_of, var_of, in_range, is_reset}
use Rattle.plan.specs.Refusals.{Parse, got, refused, ◌then◌, unless}
use Rattle.plan.specs.Circuit.{literal_of, has}

-- new line (10), space (32), digit 0 (48), digits 1 to 9 (49..57), other printable (33..126 but the digits), the rest
abbrev pub class_of : ℕ → Class
class_of b =
    cond (eqb b 10) Line
    (cond (eqb b 32) Space
    (cond (eqb b 48) Zero
    (cond (leb 49 b && leb b 57) Digit
    (cond (leb 33 b && leb b 126) Print Rest))))

-- the six classes in the paper's order, from 1
abbrev pub class_number : Class → ℕ
class_number Line = 1
class_number Space = 2
class_number Zero = 3
class_number Digit = 4
class_number Print = 5
class_number Rest = 6

abbrev pub digit_class : Class → Bool
digit_class Line = false
digit_class Space = false
digit_class Zero = true
digit_class Digit = true
digit_class Print = false
digit_class Rest = false

-- bytes 32 to 126
abbrev pub name_class : Class → Bool
name_class Line = false
name_class Space = true
name_class Zero = true
name_class Digit = true
name_class Print = true
name_class Rest = false

-- the bytes that a list starts with, as long as their classes pass the test
abbrev pub span : (Class → Bool) → List ℕ → List ℕ
span t [] = []
span t (b ∷ l) = cond (t (class_of b)) (b ∷ span t l) []

-- the decimal value of digits after the value v
abbrev pub decimal : ℕ → List ℕ → ℕ
decimal v [] = v
decimal v (b ∷ l) = decimal (v * 10 + (b - 48)) l

-- "0", or a digit 1 to 9 and then any digits; past the end of the file the byte 0 is read, which stands nowhere
abbrev pub number_by : Class → List ℕ → ℕ → Parse ℕ
number_by Zero l at = got 0 (at + 1)
number_by Digit l at = got (decimal 0 (span digit_class l)) (at + length (span digit_class l))
number_by Line l at = refused (WrongByte at)
number_by Space l at = refused (WrongByte at)
number_by Print l at = refused (WrongByte at)
number_by Rest l at = refused (WrongByte at)

abbrev pub number : List ℕ → ℕ → Parse ℕ
number file at = number_by (class_of (get_or file at 0)) (drop at file) at

-- this byte and no other
abbrev pub expect : List ℕ → ℕ → ℕ → Parse ℕ
expect file b at = cond (eqb (get_or file at 0) b) (got b (at + 1)) (refused (WrongByte at))

-- a number and its place: in a file its first byte, from tables its table
pub record Placed : Type 0 where
  pub value : ℕ
  pub place : ℕ

-- whether numbers go on, where some must and some may: a space if one must, the new line if none may, else either
abbrev pub goes_on : List ℕ → ℕ → ℕ → ℕ → Parse Bool
goes_on file must zero at = expect file 10 at then λ _ next. got false next
goes_on file (suc must) (suc may) at = expect file 32 at then λ _ next. got true next
goes_on file zero (suc may) at =
    cond (eqb (get_or file at 0) 10) (got false (at + 1)) (expect file 32 at then λ _ next. got true next)

abbrev pub less : ℕ → ℕ
less zero = zero
less (suc k) = k

-- a line of numbers, of which some must stand there and no more than some may
abbrev pub numbers : List ℕ → ℕ → ℕ → ℕ → Parse (List Placed)
numbers file must zero at = got [] at
numbers file must (suc may) at =
    number file at then λ n end.
    goes_on file (less must) may end then λ more next.
    elim more [ true ↦ numbers file (less must) may next | false ↦ got [] next ] then λ ns last.
    got (record { value = n; place = at } ∷ ns) last

abbrev pub values : List Placed → List ℕ
values [] = []
values (x ∷ xs) = x.value ∷ values xs

-- 5: the first literal of a line, of which the first defines or not, that is out of its range
abbrev pub outside : Bool → ℕ → List Placed → Option ℕ
outside d m [] = None
outside d m (x ∷ xs) = cond (in_range d m x.value) (outside false m xs) (Some x.place)

-- 6: a variable that is defined already
abbrev pub twice : Bool → List ℕ → List Placed → Option ℕ
twice true seen [] = None
twice true seen (x ∷ xs) = cond (has (var_of x.value) seen) (Some x.place) None
twice false seen xs = None

-- one line of k literals, of which the first defines or not: by 1, then 5 from left to right, then 6
abbrev pub line : List ℕ → ℕ → Bool → ℕ → List ℕ → ℕ → Parse (List ℕ)
line file k d m seen at =
    numbers file k k at then λ xs next.
    unless (outside d m xs) OutOfRange (unless (twice d seen xs) DefinedTwice (got (values xs) next))

-- n such lines; `seen` holds the variables defined before. Lines that define nothing don't look at it (`twice`), whatever it holds
abbrev pub lines : List ℕ → ℕ → Bool → ℕ → ℕ → List ℕ → ℕ → Parse (List (List ℕ))
lines file k d m zero seen at = got [] at
lines file k d m (suc n) seen at =
    line file k d m seen at then λ row next.
    lines file k d m n (seen ++ (var_of (literal_of row) ∷ [])) next then λ rows last.
    got (row ∷ rows) last

-- 5: a reset but 0, 1 and the latch's own literal
abbrev pub wrong_reset : ℕ → List Placed → Option ℕ
wrong_reset own [] = None
wrong_reset own (x ∷ xs) = cond (is_reset own x.value) (wrong_reset own xs) (Some x.place)

-- a latch's own literal: where its line defines it the first, else that of variable v
abbrev pub own_of : Bool → ℕ → List ℕ → ℕ
own_of true v row = literal_of row
own_of false v row = lit_of v

-- what a latch's line has: so many literals, of which the first defines or not, and then as many resets at most
pub record LatchForm : Type 0 where
  pub literals : ℕ
  pub defines : Bool
  pub more : ℕ

abbrev pub latch_form : ℕ → Bool → ℕ → LatchForm
latch_form k d more = record { literals = k; defines = d; more = more }

-- a latch's line, of literals up to 2 m + 1; v is the latch's variable where the line defines none
abbrev pub latch_line_at : List ℕ → LatchForm → ℕ → ℕ → List ℕ → ℕ → Parse (List ℕ)
latch_line_at file form m v seen at =
    let k = form.literals in
    let d = form.defines in
    numbers file k (k + form.more) at then λ xs next.
    unless (outside d m (take k xs)) OutOfRange
    (unless (wrong_reset (own_of d v (values xs)) (drop k xs)) OutOfRange
    (unless (twice d seen xs) DefinedTwice (got (values xs) next)))

-- n such lines, of variables v, v + 1 .. where they define none
abbrev pub latch_lines : List ℕ → LatchForm → ℕ → ℕ → ℕ → List ℕ → ℕ → Parse (List (List ℕ))
latch_lines file form m zero v seen at = got [] at
latch_lines file form m (suc n) v seen at =
    latch_line_at file form m v seen at then λ row next.
    latch_lines file form m n (suc v) (seen ++ (var_of (literal_of row) ∷ [])) next then λ rows last.
    got (row ∷ rows) last

-- a reset after k literals, 0 if none stands there
abbrev pub reset_after : ℕ → List ℕ → ℕ
reset_after k row = get_or row k 0

-- the same, written: a number's digits; a line; lines. n has at most n + 1 digits, so that the bound k of `spell` is no rule
abbrev pub spell : ℕ → ℕ → List ℕ
spell zero n = (48 + n) ∷ []
spell (suc k) n = elim (ltb n 10) [ true ↦ (48 + n) ∷ [] | false ↦ spell k (n / 10) ++ ((48 + n % 10) ∷ []) ]

abbrev pub digits : ℕ → List ℕ
digits n = spell n n

-- what stands after a number of a line: a space if k more follow, the new line after the last
abbrev pub end_of : ℕ → ℕ
end_of zero = 10
end_of (suc k) = 32

abbrev pub line_of : List ℕ → List ℕ
line_of [] = []
line_of (n ∷ l) = digits n ++ (end_of (length l) ∷ line_of l)

abbrev pub lines_of : List (List ℕ) → List ℕ
lines_of [] = []
lines_of (row ∷ rows) = line_of row ++ lines_of rows

-- lines of literals, each with its reset
abbrev pub with_resets : List (List ℕ) → List ℕ → List (List ℕ)
with_resets [] rs = []
with_resets (row ∷ rows) [] = []
with_resets (row ∷ rows) (r ∷ rs) = (row ++ (r ∷ [])) ∷ with_resets rows rs

-- a line of at least `must` and at most `may` numbers spells these, of which trailing zeros are left off
abbrev pub Spells : ℕ → ℕ → List ℕ → List ℕ → Type 0
Spells must may full row =
    (must ≤ length row) × (length row ≤ may) × (row ++ replicate (length full - length row) 0 ≡ full)

abbrev pub AllSpell : ℕ → ℕ → List (List ℕ) → List (List ℕ) → Type 0
AllSpell must may [] [] = Unit {0}
AllSpell must may [] (row ∷ rows) = ⊥
AllSpell must may (full ∷ fulls) [] = ⊥
AllSpell must may (full ∷ fulls) (row ∷ rows) = Spells must may full row × AllSpell must may fulls rows

-- the shortest: all trailing zeros left off, but k numbers stand
abbrev pub unless_zero : ℕ → List ℕ → List ℕ
unless_zero zero [] = []
unless_zero zero (x ∷ l) = zero ∷ x ∷ l
unless_zero (suc n) l = suc n ∷ l

abbrev pub without_zeros : ℕ → List ℕ → List ℕ
without_zeros k [] = []
without_zeros zero (n ∷ l) = unless_zero n (without_zeros zero l)
without_zeros (suc k) (n ∷ l) = n ∷ without_zeros k l
