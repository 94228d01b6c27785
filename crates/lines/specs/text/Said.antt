-- What the reader of the text form's body answers and leaves in the tables and the marks.
use Rattle.std.specs.Prelude.{ℕ, ◌≡◌, List, Result}
use Rattle.plan.specs.declared.Refusal.{Refusal}
use Rattle.plan.specs.declared.Counts.{Counts}
use Rattle.plan.specs.declared.Version.{Version}
use Rattle.plan.specs.Refusals.{got}
use Rattle.plan.specs.Circuit.{Circuit, Tables, defined_in}
use Rattle.plan.specs.Text.{text_body}
use Rattle.laws.proofs.Held.{BodySays}
use Rattle.laws.proofs.Marks.{Agrees}

-- the answer and the tables; of a body that is accepted, marks of all that it defines
pub record TextSays (v : Version) (file : List ℕ) (n : Counts) (at : ℕ) (t : Tables) (r : Result ℕ Refusal) (t' : Tables)
    (marks : List ℕ) : Type 0 where
  pub body : BodySays t (text_body v file n at) r t'
  pub marked : (c : Circuit) (next : ℕ) → text_body v file n at ≡ got c next → Agrees n.M (defined_in c) marks
