-- Symbols and comments.
use Rattle.std.specs.Prelude.{ℕ, suc, zero, ◌+◌, ◌-◌, ◌≡◌, Bool, true, false, not, cond, ◌&&◌, ◌||◌, List, [], ◌∷◌, ◌++◌, eqb, leb, ltb, length, get_or, drop}
use Rattle.plan.specs.declared.Counts.{Counts}
use Rattle.plan.specs.declared.Version.{Version}
use Rattle.plan.specs.declared.Version.TheVariants.{V2007, V19}
use Rattle.plan.specs.declared.Refusal.TheVariants.{WrongByte, BadSymbol}
use Rattle.plan.specs.Refusals.{Parse, got, refused, ◌then◌}
use Rattle.plan.specs.Bytes.{class_of, name_class, span, number, expect, digits}

-- the letter "i", "l", "o", in 1.9 also "b", "c", the position, the name
pub record Symbol : Type 0 where
  pub kind : ℕ
  pub entry : ℕ
  pub name : List ℕ

abbrev pub is_kind : Version → ℕ → Bool
is_kind V2007 b = eqb b 105 || (eqb b 108 || eqb b 111)
is_kind V19 b = eqb b 105 || (eqb b 108 || (eqb b 111 || (eqb b 98 || eqb b 99)))

-- the count of a letter's list
abbrev pub count_of : Counts → ℕ → ℕ
count_of n b =
    cond (eqb b 105) n.I (cond (eqb b 108) n.L (cond (eqb b 111) n.O (cond (eqb b 98) n.B n.C)))

abbrev pub named : Symbol → List Symbol → Bool
named s [] = false
named s (t ∷ ts) = (eqb t.kind s.kind && eqb t.entry s.entry) || named s ts

-- the position is below the count of its list, and no symbol of `seen` has it
abbrev pub fits : Counts → List Symbol → Symbol → Bool
fits n seen s = ltb s.entry (count_of n s.kind) && not (named s seen)

abbrev pub name_at : List ℕ → ℕ → Parse (List ℕ)
name_at file at = got (span name_class (drop at file)) (at + length (span name_class (drop at file)))

-- a symbol line by 1, then 10
abbrev pub symbol : List ℕ → Counts → List Symbol → ℕ → Parse Symbol
symbol file n seen at =
    number file (at + 1) then λ entry next.
    expect file 32 next then λ _ next.
    name_at file next then λ name next.
    expect file 10 next then λ _ next.
    let s : Symbol = record { kind = get_or file at 0; entry = entry; name = name } in
    cond (fits n seen s) (got s next) (refused (BadSymbol at))

-- the last byte is a new line
abbrev pub ends_line : List ℕ → Bool
ends_line l = eqb (get_or l (length l - 1) 0) 10

-- "c" and a new line, then any bytes
abbrev pub comment : List ℕ → ℕ → Parse (List Symbol)
comment file at =
    expect file 99 at then λ _ next.
    expect file 10 next then λ _ next.
    cond (ends_line file) (got [] (length file)) (refused (WrongByte (length file)))

-- a symbol's letter, but for "c" with a new line
abbrev pub starts_symbol : Version → List ℕ → ℕ → Bool
starts_symbol v file at = is_kind v (get_or file at 0) && not (eqb (get_or file at 0) 99 && eqb (get_or file (at + 1) 0) 10)

-- symbol lines, in number at most k; then the end of the file or a comment. The number is no rule: a file has more bytes than symbol
-- lines (tail_at)
abbrev pub tail_from : Version → List ℕ → Counts → ℕ → List Symbol → ℕ → Parse (List Symbol)
tail_from v file n zero seen at = refused (WrongByte at)
tail_from v file n (suc k) seen at =
    cond (leb (length file) at) (got [] at)
    (cond (starts_symbol v file at)
    (symbol file n seen at then λ s next. tail_from v file n k (s ∷ seen) next then λ ss last. got (s ∷ ss) last)
    (comment file at))

-- the tail that starts at a position: each symbol line has a byte at least
abbrev pub tail_at : Version → List ℕ → Counts → ℕ → Parse (List Symbol)
tail_at v file n at = tail_from v file n (suc (length file)) [] at

-- the same, written
abbrev pub symbol_of : Symbol → List ℕ
symbol_of s = s.kind ∷ (digits s.entry ++ (32 ∷ (s.name ++ (10 ∷ []))))

abbrev pub symbols_of : List Symbol → List ℕ
symbols_of [] = []
symbols_of (s ∷ ss) = symbol_of s ++ symbols_of ss

abbrev pub is_name : List ℕ → Bool
is_name [] = true
is_name (b ∷ l) = name_class (class_of b) && is_name l

abbrev pub symbols_ok : Version → Counts → List Symbol → List Symbol → Bool
symbols_ok v n seen [] = true
symbols_ok v n seen (s ∷ ss) = is_kind v s.kind && (is_name s.name && (fits n seen s && symbols_ok v n (s ∷ seen) ss))

pub data CommentOk : List ℕ → Type 0 where
  empty : CommentOk []
  lines : {l : List ℕ} → ends_line (99 ∷ 10 ∷ l) ≡ true → CommentOk (99 ∷ 10 ∷ l)

-- symbols and a comment, or none
pub record TailOk (v : Version) (n : Counts) (tail : List ℕ) : Type 0 where
  pub symbols : List Symbol
  pub rest : List ℕ
  pub parts : tail ≡ symbols_of symbols ++ rest
  pub good : symbols_ok v n [] symbols ≡ true
  pub remark : CommentOk rest
