-- What follows the header and 4: the body, the tail, then 7 and 8; and what the reader leaves in its tables.
use Rattle.std.specs.Prelude.{ℕ, ◌+◌, ◌*◌, ◌≤◌, ◌≡◌, List, [], ◌∷◌, length, get_or, Result, Ok, Err, Option}
use Rattle.plan.specs.declared.Counts.{Counts}
use Rattle.plan.specs.declared.Version.{Version}
use Rattle.plan.specs.declared.Refusal.{Refusal}
use Rattle.plan.specs.declared.Refusal.TheVariants.{NotDefined, Cyclic}
use Rattle.plan.specs.Literals.{most}
use Rattle.plan.specs.Refusals.{Parse, got, refused, ◌then◌, unless, stage, first_of}
use Rattle.plan.specs.Circuit.{Circuit, Tables, counts_of}
use Rattle.plan.specs.Depends.{undefined_in, cyclic_in}
use Rattle.plan.specs.Header.{Form, scratch_to_read}
use Rattle.plan.specs.Tail.{tail_at}
use Rattle.plan.specs.Reading.{body}
use Rattle.laws.proofs.Held.{Holds}

-- after a body
abbrev pub after : Version → List ℕ → Counts → Parse Circuit → Parse Circuit
after v file n p =
    p then λ c at.
    tail_at v file n at then λ _ _.
    unless (undefined_in c) NotDefined (unless (cyclic_in c) Cyclic (got c at))

abbrev pub rest : Version → List ℕ → Form → Counts → ℕ → Parse Circuit
rest v file form n at = after v file n (body v file form n at)

-- 7, then 8
abbrev pub closed : Circuit → Option Refusal
closed c = first_of (stage NotDefined (undefined_in c) ∷ stage Cyclic (cyclic_in c) ∷ [])

-- counts within the limits, tables that are long enough to read a file of a form, and scratch that is zero
pub record Room (form : Form) (n : Counts) (t : Tables) (scratch : List ℕ) : Type 0 where
  pub most-M : n.M ≤ most
  pub most-I : n.I ≤ most
  pub most-L : n.L ≤ most
  pub most-O : n.O ≤ most
  pub most-A : n.A ≤ most
  pub most-B : n.B ≤ most
  pub most-C : n.C ≤ most
  pub inputs : n.I ≤ length t.inputs
  pub latches : 2 * n.L ≤ length t.latches
  pub outputs : n.O ≤ length t.outputs
  pub gates : 3 * n.A ≤ length t.gates
  pub resets : n.L ≤ length t.resets
  pub bads : n.B ≤ length t.bads
  pub constraints : n.C ≤ length t.constraints
  pub words : scratch_to_read form n ≤ length scratch
  pub blank : (i : ℕ) → get_or scratch i 0 ≡ 0

abbrev pub LoadedSays : Tables → Parse Circuit → Result (Counts × ℕ) Refusal → Tables → Type 0
LoadedSays t (got c start) r t' = (r ≡ Ok (counts_of c, start)) × Holds t c t'
LoadedSays t (refused r') r t' = r ≡ Err r'
