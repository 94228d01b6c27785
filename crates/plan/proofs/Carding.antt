-- Cards, computed: the paper's toggle, and files that are refused.
use Prim.Native.Nat.{ℕ}
use mathlib.Core.Path.{◌≡◌, refl}
use mathlib.Core.List.{List, [], ◌∷◌, ◌++◌}
use Rattle.std.specs.Prelude.{Err, Some}
use Rattle.plan.specs.declared.Refusal.TheVariants.{NotOnCards}
use Rattle.plan.specs.Circuit.{seven}
use Rattle.plan.specs.Given.{Given}
use Rattle.plan.specs.Programs.{bytes_of}
use Rattle.plan.specs.Cards.{write_cards, filer, carder}

-- four bytes of a small number
abbrev small : ℕ → List ℕ
small n = n ∷ 0 ∷ 0 ∷ 0 ∷ []

-- "PH" 7 2 1 2 4, "PL" 14, "PO" 6, "PO" 7, and four gates
abbrev pub toggle_cards : List ℕ
toggle_cards =
    bytes_of "PH" ++ (small 7 ++ (small 2 ++ (small 1 ++ (small 2 ++ (small 4
    ++ (bytes_of "PL" ++ (small 14 ++ (bytes_of "PO" ++ (small 6 ++ (bytes_of "PO" ++ (small 7
    ++ (bytes_of "PA" ++ (small 6 ++ (small 2 ++ (bytes_of "PA" ++ (small 7 ++ (small 3
    ++ (bytes_of "PA" ++ (small 11 ++ (small 9 ++ (bytes_of "PA" ++ (small 12 ++ small 4))))))))))))))))))))))

abbrev pub toggle_binary : List ℕ
toggle_binary = bytes_of "aig 7 2 1 2 4\n14\n6\n7\n" ++ (0x02 ∷ 0x04 ∷ 0x03 ∷ 0x04 ∷ 0x01 ∷ 0x02 ∷ 0x02 ∷ 0x08 ∷ [])

pub toggle-filed : filer (Some toggle_cards) ≡ toggle_binary
toggle-filed = refl

pub toggle-carded : carder (Some toggle_binary) ≡ toggle_cards
toggle-carded = refl

-- a text file in binary order goes on cards too; one that is not doesn't
pub text-carded : carder (Some (bytes_of "aag 1 1 0 1 0\n2\n3\n"))
    ≡ bytes_of "PH" ++ (small 1 ++ (small 1 ++ (small 0 ++ (small 1 ++ (small 0 ++ (bytes_of "PO" ++ small 3))))))
text-carded = refl

pub text-unordered : carder (Some (bytes_of "aag 2 1 0 0 1\n2\n4 2 3\n")) ≡ bytes_of "refused 15 at 0\n"
text-unordered = refl

-- an empty circuit, cut and continued
abbrev empty_cards : List ℕ
empty_cards = bytes_of "PH" ++ (small 0 ++ (small 0 ++ (small 0 ++ (small 0 ++ small 0))))

pub empty-filed : filer (Some empty_cards) ≡ bytes_of "aig 0 0 0 0 0\n"
empty-filed = refl

-- 1 comes before 18
pub cut-unmarked : filer (Some (bytes_of "XX")) ≡ bytes_of "refused 1 at 2\n"
cut-unmarked = refl

pub cut_short : filer (Some (bytes_of "PH")) ≡ bytes_of "refused 1 at 2\n"
cut_short = refl

pub goes_on_lem : filer (Some (empty_cards ++ (0 ∷ []))) ≡ bytes_of "refused 1 at 22\n"
goes_on_lem = refl

-- the first wrong mark, in file order; then 2 at the number's first byte; then 3; 5 by the table; 15
pub wrong-mark : filer (Some (bytes_of "PH" ++ (small 0 ++ (small 0 ++ (small 1 ++ (small 0 ++ (small 0 ++ (bytes_of "PO" ++ small 0))))))))
    ≡ bytes_of "refused 18 at 22\n"
wrong-mark = refl

pub large-M : filer (Some (bytes_of "PH" ++ ((0 ∷ 0 ∷ 16 ∷ 0 ∷ []) ++ (small 0 ++ (small 0 ++ (small 0 ++ small 0)))))) ≡ bytes_of "refused 2 at 2\n"
large-M = refl

pub wrong-sum : filer (Some (bytes_of "PH" ++ (small 1 ++ (small 0 ++ (small 0 ++ (small 0 ++ small 0)))))) ≡ bytes_of "refused 3 at 0\n"
wrong-sum = refl

pub out_of_range : filer (Some (bytes_of "PH" ++ (small 0 ++ (small 0 ++ (small 0 ++ (small 1 ++ (small 0 ++ (bytes_of "PO" ++ small 2))))))))
    ≡ bytes_of "refused 5 at 3\n"
out_of_range = refl

-- a gate of itself is not in binary order: 15, and never 8
pub own-side : filer (Some (bytes_of "PH" ++ (small 1 ++ (small 0 ++ (small 0 ++ (small 0 ++ (small 1 ++ (bytes_of "PA" ++ (small 2 ++ small 0)))))))))
    ≡ bytes_of "refused 15 at 0\n"
own-side = refl

-- what cards can't hold: a comment, a reset of 1, a bad state, a constraint
pub no-comment : carder (Some (bytes_of "aig 0 0 0 0 0\nc\n")) ≡ bytes_of "refused 19 at 0\n"
no-comment = refl

pub no-reset : carder (Some (bytes_of "aig 1 0 1 0 0\n2 1\n")) ≡ bytes_of "refused 19 at 0\n"
no-reset = refl

pub no-bad : carder (Some (bytes_of "aig 0 0 0 0 0 1\n0\n")) ≡ bytes_of "refused 19 at 0\n"
no-bad = refl

pub no-constraint : carder (Some (bytes_of "aig 0 0 0 0 0 0 1\n0\n")) ≡ bytes_of "refused 19 at 0\n"
no-constraint = refl

-- 19 comes before 11: a comment of an empty circuit, with no room
abbrev empty_tables : Given
empty_tables = record {
  counts = record { M = 0; I = 0; L = 0; O = 0; A = 0; B = 0; C = 0 };
  tables = seven [] [] [] [] [] [] [];
  scratch = 0 ∷ 0 ∷ 0 ∷ 0 ∷ [];
}

pub before-room : (write_cards (record { circuit = empty_tables; tail = bytes_of "c\n"; out = [] })).answer ≡ Err (NotOnCards 0)
before-room = refl
