-- Opening a file: 14, 13, what a reader checks, then 4 for the tables to make a circuit in; and what stands ready then.
use Rattle.std.specs.Prelude.{ℕ, ◌≤◌, ◌≡◌, Bool, List, length, drop, Result, Ok, Err, Option, None}
use Rattle.plan.specs.declared.Refusal.{Refusal}
use Rattle.plan.specs.declared.Counts.{Counts}
use Rattle.plan.specs.declared.Version.TheVariants.{V19}
use Rattle.plan.specs.Refusals.{Parse, got, refused, first_of}
use Rattle.plan.specs.Circuit.{Circuit, Tables, lengths_of, words_to_work, against, least_short}
use Rattle.plan.specs.Tail.{TailOk}
use Rattle.plan.specs.Reading.{read_to_work}
use Rattle.plan.specs.Given.{Given, given_circuit, lent_alone, stages}
use Rattle.plan.specs.Programs.{input}
use Rattle.plan.specs.Whole.{input_of}
use Rattle.tables.specs.declared.Sizes.{Sizes}
use Rattle.tables.specs.Lengths.{lengths_in}

-- a file that can be read or not, the tables to read into, scratch, and the sizes of the tables to make a circuit in
pub record OpenEntry : Type 0 where
  pub readable : Bool
  pub file : List ℕ
  pub tables : Tables
  pub scratch : List ℕ
  pub made : Sizes

-- the least of the tables to make a circuit of these counts in, and of scratch, that is too short
abbrev pub short_in : Counts → Sizes → List ℕ → Option ℕ
short_in n made scratch = least_short (against 1 (words_to_work n) (lengths_in made (length scratch)))

abbrev pub opening : OpenEntry → List ℕ → Parse Circuit
opening e file = read_to_work file (lengths_of e.tables e.scratch) (lengths_in e.made (length e.scratch))

abbrev pub opened : OpenEntry → Parse Circuit
opened e = input (input_of e.readable e.file) λ file. opening e file

-- tables that no check refuses, their tail, and tables long enough to make a circuit in
pub record Ready (g : Given) (tail : List ℕ) (made : Sizes) : Type 0 where
  pub fine : first_of (stages g (lent_alone g)) ≡ None
  pub tail-ok : TailOk V19 g.counts tail
  pub long : short_in g.counts made g.scratch ≡ None

-- the answer, with what stands in the tables and in scratch then
abbrev pub Opens : OpenEntry → Result (Counts × ℕ) Refusal → Tables → List ℕ → Type 0
Opens e (Ok (n, start)) t scratch =
    let g : Given = record { counts = n; tables = t; scratch = scratch } in
    (opened e ≡ got (given_circuit g) start) × (start ≤ length e.file) × Ready g (drop start e.file) e.made
Opens e (Err r) t scratch = opened e ≡ refused r
