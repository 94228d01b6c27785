-- The order of checks on a file; and what a file states, which names no reader and no position.
use Rattle.std.specs.Prelude.{ℕ, zero, ◌+◌, ◌≤◌, ◌≡◌, true, false, List, [], ◌∷◌, ◌++◌, map, length, None}
use Rattle.plan.specs.declared.Counts.{Counts}
use Rattle.plan.specs.declared.Version.{Version}
use Rattle.plan.specs.declared.Version.TheVariants.{V19}
use Rattle.plan.specs.declared.Refusal.TheVariants.{ShortTable, NotDefined, Cyclic}
use Rattle.plan.specs.Literals.{most}
use Rattle.plan.specs.Refusals.{Parse, got, ◌then◌, unless}
use Rattle.plan.specs.Circuit.{Circuit, counts_of, words_to_work, against, least_short, one_line, latch_line, gate_line}
use Rattle.plan.specs.Circuit.{all_inside, has, all_new, defined_in, used_in, resets_ok}
use Rattle.plan.specs.Bytes.{Spells, AllSpell}
use Rattle.plan.specs.Depends.{undefined_in, cyclic_in, Depends}
use Rattle.plan.specs.Header.{more_counts, more_resets, Form, text, binary, header, all_counts, header_of}
use Rattle.plan.specs.Header.{words_to_read, form_in}
use Rattle.plan.specs.Text.{text_body, text_lines, text_latches, text_of}
use Rattle.plan.specs.Binary.{binary_body, binary_lines, binary_latches, binary_of, binary_order}
use Rattle.plan.specs.Tail.{tail_at, TailOk}

abbrev pub body : Version → List ℕ → Form → Counts → ℕ → Parse Circuit
body v file text n at = text_body v file n at
body v file binary n at = binary_body v file n at

-- header by 1, 2, 21, 3; then 4; then the file in order, its tail too; when the whole file has been read 7, then 8,
-- which no binary file can meet. The position is where the tail starts
abbrev pub read_file : Version → List ℕ → List ℕ → Parse Circuit
read_file v file lengths =
    header v file 0 then λ h at.
    unless (least_short (against 1 (words_to_read h.form h.counts) lengths)) ShortTable
    (body v file h.form h.counts at then λ c at.
    tail_at v file h.counts at then λ _ _.
    unless (undefined_in c) NotDefined (unless (cyclic_in c) Cyclic (got c at)))

-- a file that is read for calls that follow: all that a reader checks, then 4 for those calls, which are lent
-- tables of the lengths `later`
abbrev pub read_to_work : List ℕ → List ℕ → List ℕ → Parse Circuit
read_to_work file lengths later =
    read_file V19 file lengths then λ c at.
    unless (least_short (against 1 (words_to_work (counts_of c)) later)) ShortTable (got c at)

-- well formed within the limits
pub record WellFormed (c : Circuit) : Type 0 where
  pub most-M : c.M ≤ most
  pub most-I : length c.inputs ≤ most
  pub most-L : length c.latches ≤ most
  pub most-O : length c.outputs ≤ most
  pub most-A : length c.gates ≤ most
  pub most-B : length c.bads ≤ most
  pub most-C : length c.constraints ≤ most
  pub sum : length c.inputs + length c.latches + length c.gates ≤ c.M
  pub inputs : all_inside true c.M (map one_line c.inputs) ≡ true
  pub latches : all_inside true c.M (map latch_line c.latches) ≡ true
  pub resets : resets_ok c.latches c.resets ≡ true
  pub outputs : all_inside false c.M (map one_line c.outputs) ≡ true
  pub bads : all_inside false c.M (map one_line c.bads) ≡ true
  pub constraints : all_inside false c.M (map one_line c.constraints) ≡ true
  pub gates : all_inside true c.M (map gate_line c.gates) ≡ true
  pub different : all_new [] (defined_in c) ≡ true
  pub defined : (v : ℕ) → has v (used_in c) ≡ true → has v (zero ∷ defined_in c) ≡ true
  pub acyclic : (v : ℕ) → ¬ Depends c.gates v v

-- how a file spells the counts and the latches, of which a circuit has these lines of at least k numbers
pub record Spelled (v : Version) (c : Circuit) (k : ℕ) (full : List (List ℕ)) : Type 0 where
  pub counts : List ℕ
  pub latches : List (List ℕ)
  pub all-counts : Spells 5 (5 + more_counts v) (all_counts (counts_of c)) counts
  pub all-latches : AllSpell k (k + more_resets v) full latches

-- the file states the circuit and the tail
pub data States (v : Version) (file : List ℕ) (c : Circuit) (tail : List ℕ) : Type 0 where
  as_text : (s : Spelled v c 2 (text_latches c))
      → file ≡ (header_of text s.counts ++ text_lines s.latches c) ++ tail → WellFormed c
      → TailOk v (counts_of c) tail → States v file c tail
  as_binary : (s : Spelled v c 1 (binary_latches c))
      → file ≡ (header_of binary s.counts ++ binary_lines s.latches c) ++ tail
      → binary_order c ≡ true → WellFormed c → TailOk v (counts_of c) tail → States v file c tail

-- the file is in the shortest form, in which our writers write
pub data Shortest (file : List ℕ) (c : Circuit) (tail : List ℕ) : Type 0 where
  short_text : file ≡ text_of c ++ tail → Shortest file c tail
  short_binary : file ≡ binary_of c ++ tail → Shortest file c tail

-- the tables are long enough: for every call; to read the circuit from a file
abbrev pub LongEnough : Circuit → List ℕ → Type 0
LongEnough c lengths = least_short (against 1 (words_to_work (counts_of c)) lengths) ≡ None

abbrev pub LongEnoughToRead : List ℕ → Circuit → List ℕ → Type 0
LongEnoughToRead file c lengths = least_short (against 1 (words_to_read (form_in file) (counts_of c)) lengths) ≡ None
