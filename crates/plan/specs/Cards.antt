-- The old plan cards: records of a two-byte mark and then four-byte numbers, low byte first, of circuits in binary
-- order.
use Rattle.std.specs.Prelude.{ℕ, suc, zero, ◌+◌, ◌*◌, ◌/◌, ◌%◌, ◌≡◌, Bool, true, cond, ◌&&◌, List, [], ◌∷◌, ◌++◌, eqb, ltb, length, get_or, drop, replicate, Result, Ok, Err, Option, Some, None}
use Rattle.plan.specs.declared.Counts.{Counts}
use Rattle.plan.specs.declared.Refusal.{Refusal}
use Rattle.plan.specs.declared.Refusal.TheVariants.{WrongByte, LargeCount, WrongSum, ShortTable, OutOfRange}
use Rattle.plan.specs.declared.Refusal.TheVariants.{NotInOrder, WrongMark, NotOnCards}
use Rattle.plan.specs.Literals.{lit_of}
use Rattle.plan.specs.Refusals.{Parse, got, refused, ◌then◌, unless, stage, first_of}
use Rattle.plan.specs.Circuit.{Gate, Circuit, Tables, counts_of, lengths_of, words_to_work, against, least_short, nexts}
use Rattle.plan.specs.Circuit.{cleared, all_cleared}
use Rattle.plan.specs.Bytes.{Placed}
use Rattle.plan.specs.Header.{binary, over, adds}
use Rattle.plan.specs.Binary.{lits_from, latches_from, binary_of, binary_order}
use Rattle.plan.specs.Reading.{WellFormed, read_to_work}
use Rattle.plan.specs.Given.{Given, given_circuit, or_else, failing, outside_in, tail_stage, room_stage, in_order_then}
use Rattle.plan.specs.Outcome.{ReadEntry, LoadExit, load_by, FileEntry, FileExit, written_by, put}
use Rattle.plan.specs.Programs.{lent_words, input, fitting, printed}
use Rattle.plan.specs.Whole.{fitting_in}

-- the number of the four bytes that stand first, low byte first; and at a position
abbrev pub word : List ℕ → ℕ
word l = get_or l 0 0 + 256 * get_or l 1 0 + 65536 * get_or l 2 0 + 16777216 * get_or l 3 0

abbrev pub word_at : List ℕ → ℕ → ℕ
word_at file at = word (drop at file)

-- the same, written
abbrev pub word_bytes : ℕ → List ℕ
word_bytes n = n % 256 ∷ n / 256 % 256 ∷ n / 65536 % 256 ∷ n / 16777216 % 256 ∷ []

-- a mark: "P" and the letter of the record, "H", "L", "O" or "A"
abbrev pub mark_bytes : ℕ → List ℕ
mark_bytes letter = 80 ∷ letter ∷ []

abbrev pub marked : ℕ → List ℕ → Bool
marked letter l = eqb (get_or l 0 0) 80 && eqb (get_or l 1 0) letter

-- "PH" M I L O A
abbrev pub head_card : Counts → List ℕ
head_card n =
    mark_bytes 72
    ++ (word_bytes n.M ++ (word_bytes n.I ++ (word_bytes n.L ++ (word_bytes n.O ++ word_bytes n.A))))

-- per latch "PL" next, per output "PO" literal
abbrev pub word_cards : ℕ → List ℕ → List ℕ
word_cards letter [] = []
word_cards letter (w ∷ ws) = mark_bytes letter ++ (word_bytes w ++ word_cards letter ws)

-- per gate "PA" rhs0 rhs1
abbrev pub gate_cards : List Gate → List ℕ
gate_cards [] = []
gate_cards (g ∷ gs) = mark_bytes 65 ++ (word_bytes g.rhs0 ++ (word_bytes g.rhs1 ++ gate_cards gs))

-- the cards of a circuit
abbrev pub cards_of : Circuit → List ℕ
cards_of c =
    head_card (counts_of c)
    ++ (word_cards 76 (nexts c.latches) ++ (word_cards 79 c.outputs ++ gate_cards c.gates))

-- what cards can hold: every reset is 0, and there is no bad state and no constraint, nor a tail
abbrev pub all_zero : List ℕ → Bool
all_zero [] = true
all_zero (r ∷ rs) = eqb r 0 && all_zero rs

abbrev pub holdable : Circuit → Bool
holdable c = all_zero c.resets && (eqb (length c.bads) 0 && eqb (length c.constraints) 0)

abbrev pub on_cards : Circuit → List ℕ → Bool
on_cards c tail = eqb (length tail) 0 && holdable c

-- the cards state the circuit
pub record CardStates (file : List ℕ) (c : Circuit) : Type 0 where
  pub cards : file ≡ cards_of c
  pub formed : WellFormed c
  pub order : binary_order c ≡ true
  pub held : holdable c ≡ true

-- the counts as read, each up to 2 ^ 32 - 1, and with the places of their first bytes
abbrev pub counts_at : List ℕ → Counts
counts_at file = record {
  M = word_at file 2;
  I = word_at file 6;
  L = word_at file 10;
  O = word_at file 14;
  A = word_at file 18;
  B = 0;
  C = 0;
}

abbrev pub counts_placed : Counts → List Placed
counts_placed n =
    record { value = n.M; place = 2 }
    ∷ record { value = n.I; place = 6 }
    ∷ record { value = n.L; place = 10 }
    ∷ record { value = n.O; place = 14 }
    ∷ record { value = n.A; place = 18 }
    ∷ []

-- the bytes that counts ask
abbrev pub card_bytes : Counts → ℕ
card_bytes n = 22 + 6 * n.L + 6 * n.O + 10 * n.A

-- 1: a file ended early, place its length, or continued, place the first extra byte
abbrev pub wrong_length : ℕ → ℕ → Option ℕ
wrong_length asked size = cond (ltb size asked) (Some size) (cond (ltb asked size) (Some asked) None)

abbrev pub bad_length : List ℕ → Option ℕ
bad_length file =
    cond (ltb (length file) 22) (Some (length file)) (wrong_length (card_bytes (counts_at file)) (length file))

-- where the latches, the outputs and the gates start
abbrev pub latches_at : ℕ
latches_at = 22

abbrev pub outputs_at : Counts → ℕ
outputs_at n = 22 + 6 * n.L

abbrev pub gates_at : Counts → ℕ
gates_at n = 22 + 6 * n.L + 6 * n.O

-- 18: the first of n marks that is wrong, of records of `size` bytes from a position on, where the bytes l stand
abbrev pub wrong_in : ℕ → ℕ → ℕ → ℕ → List ℕ → Option ℕ
wrong_in letter size zero at l = None
wrong_in letter size (suc n) at l = cond (marked letter l) (wrong_in letter size n (at + size) (drop size l)) (Some at)

abbrev pub wrong_marks : List ℕ → Counts → Option ℕ
wrong_marks file n =
    or_else (wrong_in 72 22 1 0 file)
    (or_else (wrong_in 76 6 n.L latches_at (drop latches_at file))
    (or_else (wrong_in 79 6 n.O (outputs_at n) (drop (outputs_at n) file))
    (wrong_in 65 10 n.A (gates_at n) (drop (gates_at n) file))))

-- the numbers of n records of one, and the gates of n records of two, whose left sides are variables v, v + 1 ..
abbrev pub words_in : ℕ → List ℕ → List ℕ
words_in zero l = []
words_in (suc n) l = word (drop 2 l) ∷ words_in n (drop 6 l)

abbrev pub gates_in : ℕ → ℕ → List ℕ → List Gate
gates_in v zero l = []
gates_in v (suc n) l =
    record { lhs = lit_of v; rhs0 = word (drop 2 l); rhs1 = word (drop 6 l) } ∷ gates_in (suc v) n (drop 10 l)

-- the circuit of cards with these counts: defining literals from their positions, resets 0
abbrev pub carded : List ℕ → Counts → Circuit
carded file n = record {
  M = n.M;
  inputs = lits_from 1 n.I;
  latches = latches_from (1 + n.I) (words_in n.L (drop latches_at file));
  resets = replicate n.L 0;
  outputs = words_in n.O (drop (outputs_at n) file);
  bads = [];
  constraints = [];
  gates = gates_in (1 + n.I + n.L) n.A (drop (gates_at n) file);
}

-- a check, before what is read next
abbrev pub past : Option ℕ → (ℕ → Refusal) → Parse ℕ
past place r = unless place r (got 0 0)

-- 1 by the counts as read, 18, 2 and 3 as for binary
abbrev pub card_head : List ℕ → Parse Counts
card_head file =
    past (bad_length file) WrongByte then λ _ _.
    past (wrong_marks file (counts_at file)) WrongMark then λ _ _.
    past (over (counts_placed (counts_at file))) LargeCount then λ _ _.
    past (failing (adds binary (counts_at file))) WrongSum then λ _ _.
    got (counts_at file) 22

-- then 4, 5 and 15 as from tables. Nothing follows the records
abbrev pub read_cards : List ℕ → List ℕ → Parse Circuit
read_cards file lengths =
    card_head file then λ n _.
    past (least_short (against 1 (words_to_work n) lengths)) ShortTable then λ _ _.
    past (outside_in (carded file n)) OutOfRange then λ _ _.
    past (failing (binary_order (carded file n))) NotInOrder then λ _ _.
    got (carded file n) (length file)

-- the reader of cards
abbrev pub load_cards : ReadEntry → LoadExit
load_cards e = load_by e (read_cards e.file (lengths_of e.tables e.scratch))

-- 19: a tail, a reset but 0, a bad state or a constraint
abbrev pub card_stage : Given → List ℕ → Option Refusal
card_stage g tail = stage NotOnCards (failing (on_cards (given_circuit g) tail))

-- the writer of cards: given tables, 15, the tail by 1 and 10, then 19, then 11
abbrev pub write_cards : FileEntry → FileExit
write_cards e =
    let g = e.circuit in
    let bytes = cards_of (given_circuit g) in
    written_by (first_of (in_order_then g
    (tail_stage g e.tail ∷ card_stage g e.tail ∷ room_stage e.out bytes ∷ []))) e bytes

-- whole files: from the bytes of an input to the bytes that are written, for any tables lent
pub record CardEntry : Type 0 where
  pub plan : Option (List ℕ)
  pub tables : Tables
  pub scratch : List ℕ
  pub out : List ℕ

pub record CardExit : Type 0 where
  pub answer : Result ℕ Refusal
  pub tables : Tables
  pub scratch : List ℕ
  pub out : List ℕ

abbrev pub moved_by : CardEntry → Parse (List ℕ) → CardExit
moved_by e (got bytes n) = record {
  answer = Ok (length bytes);
  tables = all_cleared e.tables;
  scratch = cleared e.scratch;
  out = put e.out 0 bytes;
}
moved_by e (refused r) = record {
  answer = Err r;
  tables = all_cleared e.tables;
  scratch = cleared e.scratch;
  out = e.out;
}

-- the circuit of an AIGER file, by all that a reader checks and 4; then 15, then 19
abbrev pub read_to_card : List ℕ → List ℕ → Parse Circuit
read_to_card file lengths =
    read_to_work file lengths lengths then λ c start.
    past (failing (binary_order c)) NotInOrder then λ _ _.
    past (failing (on_cards c (drop start file))) NotOnCards then λ _ _.
    got c start

-- cards to binary AIGER
abbrev pub filed_cards : CardEntry → Parse (List ℕ)
filed_cards e =
    input e.plan λ file.
    read_cards file (lengths_of e.tables e.scratch) then λ c _.
    fitting_in e.out (binary_of c)

abbrev pub file_whole : CardEntry → CardExit
file_whole e = moved_by e (filed_cards e)

-- AIGER to cards
abbrev pub carded_file : CardEntry → Parse (List ℕ)
carded_file e =
    input e.plan λ file.
    read_to_card file (lengths_of e.tables e.scratch) then λ c _.
    fitting_in e.out (cards_of c)

abbrev pub card_whole : CardEntry → CardExit
card_whole e = moved_by e (carded_file e)

-- the programs
abbrev pub filer : Option (List ℕ) → List ℕ
filer plan_in = printed (input plan_in λ file. read_cards file lent_words then λ c _. fitting (binary_of c))

abbrev pub carder : Option (List ℕ) → List ℕ
carder plan_in = printed (input plan_in λ file. read_to_card file lent_words then λ c _. fitting (cards_of c))
