-- The call, stage by stage.
use Rattle.std.specs.Prelude.{ℕ, ◌+◌, ◌*◌, ◌/◌, ◌^◌, ◌≤◌, ◌≡◌, false, List, [], ◌∷◌, leb, length, Result, Ok, Err, Option, Some, None}
use Rattle.plan.specs.declared.Counts.{Counts}
use Rattle.plan.specs.declared.Refusal.{Refusal}
use Rattle.plan.specs.declared.Refusal.TheVariants.{ShortTable, NotExplained, ShortBuffer, ManyLatches, ManyInputs}
use Rattle.plan.specs.declared.Happening.{Happening}
use Rattle.plan.specs.Refusals.{stage}
use Rattle.plan.specs.Circuit.{Circuit, circuit_of, seven, least_short}
use Rattle.plan.specs.Given.{failing_at, lacking_room}
use Rattle.plan.specs.Outcome.{put}
use Rattle.plan.specs.Search.{Found, system_of, watched, way_bytes, happening_of, can_happen, SearchEntry, search}
use Rattle.tables.specs.bitmap.Bitmap.{is_on}
use Rattle.tables.specs.Held.{Scratch}
use Rattle.step.specs.sweep.Running.{Runs}
use Rattle.search.specs.declared.Reach.{Reach}
use Rattle.search.specs.Exploring.{ExploredBy}

-- 25, 26, 4 and 17, by the lengths of tables 10 and 11
abbrev pub fit_stages : Counts → ℕ → ℕ → ℕ → List (Option Refusal)
fit_stages n watch met marks =
    stage ManyLatches (failing_at n.L (leb n.L 20))
    ∷ stage ManyInputs (failing_at n.I (leb n.I 20))
    ∷ stage ShortTable (least_short (record { table = 10; needed = 3 * 2 ^ n.L; words = met }
    ∷ record { table = 11; needed = (2 ^ n.L + 31) / 32; words = marks } ∷ []))
    ∷ stage NotExplained (failing_at 1 (leb watch n.O))
    ∷ []

-- an accepted circuit in binary order, small enough, something to watch, and room
pub record Finds (n : Counts) (latches outputs gates resets bads constraints scratch : List ℕ) (watch : ℕ) (met marks : List ℕ) : Type 0 where
  pub inputs : List ℕ
  pub runs : Runs n (seven inputs latches outputs gates resets bads constraints)
  pub scratch-long : Scratch n scratch
  pub few-latches : n.L ≤ 20
  pub few-inputs : n.I ≤ 20
  pub there : watch ≤ n.O
  pub met-long : 3 * 2 ^ n.L ≤ length met
  pub marks-long : 2 ^ n.L ≤ 32 * length marks

-- and no mark
pub record Watches (n : Counts) (latches outputs gates resets bads constraints scratch : List ℕ) (watch : ℕ) (met marks : List ℕ) : Type 0 where
  pub finds : Finds n latches outputs gates resets bads constraints scratch watch met marks
  pub blank : (s : ℕ) → is_on marks 0 s ≡ false

abbrev pub WatchesAll : ℕ → ℕ → Counts → List ℕ → List ℕ → List ℕ → List ℕ → List ℕ → List ℕ → ℕ → Reach → List ℕ → Type 0
WatchesAll split watch n latches outputs gates resets bads constraints allowance r met' =
    (inputs : List ℕ) → Runs n (seven inputs latches outputs gates resets bads constraints)
    → ExploredBy (system_of split (watched watch (circuit_of n (seven inputs latches outputs gates resets bads constraints)))) (2 ^ n.L) allowance r met'

-- what is found is told if it has room
abbrev pub answer_by : Option ℕ → Found → Result Happening Refusal
answer_by None f = Ok (happening_of f)
answer_by (Some place) f = Err (ShortBuffer place)

abbrev pub out_by : Option ℕ → List ℕ → List ℕ → List ℕ
out_by None out bytes = put out 0 bytes
out_by (Some place) out bytes = out

abbrev pub Answered : Circuit → Found → List ℕ → Result Happening Refusal → List ℕ → Type 0
Answered c f out r out' =
    (r ≡ answer_by (lacking_room out 0 (way_bytes c f)) f) × (out' ≡ out_by (lacking_room out 0 (way_bytes c f)) out (way_bytes c f))

abbrev pub FindsAll : ℕ → ℕ → Counts → List ℕ → List ℕ → List ℕ → List ℕ → List ℕ → List ℕ → ℕ → List ℕ → Result Happening Refusal → List ℕ → Type 0
FindsAll split watch n latches outputs gates resets bads constraints allowance out r out' =
    (inputs : List ℕ) → Runs n (seven inputs latches outputs gates resets bads constraints)
    → Answered (watched watch (circuit_of n (seven inputs latches outputs gates resets bads constraints)))
    (can_happen split (watched watch (circuit_of n (seven inputs latches outputs gates resets bads constraints))) allowance) out r out'

-- the answer and the buffer of the call; what is left in its other tables is cleared after it
abbrev pub Asks : SearchEntry → Result Happening Refusal → List ℕ → Type 0
Asks e r out' = (r ≡ (search e).answer) × (out' ≡ (search e).out)
