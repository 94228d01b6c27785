-- What a reader leaves in tables 1 to 4 and 7 to 9: the circuit's words from the start of each; after a refusal only the refusal counts.
use Prim.Native.Nat.{ℕ, zero, suc, ◌-◌}
use mathlib.Core.Path.{◌≡◌, refl, sym, ap, ap₂, ◌∙◌}
use mathlib.Core.List.{List, [], ◌∷◌, ◌++◌, append_assoc, map}
use Rattle.std.specs.Prelude.{Result, Ok, Err}
use Rattle.plan.specs.declared.Refusal.{Refusal}
use native.Mathlib.Nat.{zero-add, zero-sub, sub-zero}
use native.Mathlib.Omega.{arith}
use lib.ListN.{length, take, drop, replicate, length-map}
use lib.Seq.{take_at, drop_at}
use Rattle.plan.specs.declared.Counts.{Counts}
use Rattle.plan.specs.Refusals.{Parse, got, refused}
use Rattle.plan.specs.Circuit.{Circuit, Tables, counts_of, circuit_of, filled, cleared, holding, all_cleared, latch_line, gate_line, latch_of, gate_of, rows_of, flat}
use Rattle.plan.specs.Outcome.{put}
use Rattle.laws.proofs.Reading.Rows.{Long, map-long, map-forth}

pub record Holds (t : Tables) (c : Circuit) (t' : Tables) : Type 0 where
  pub inputs : t'.inputs ≡ put t.inputs 0 c.inputs
  pub latches : t'.latches ≡ put t.latches 0 (flat (map latch_line c.latches))
  pub outputs : t'.outputs ≡ put t.outputs 0 c.outputs
  pub gates : t'.gates ≡ put t.gates 0 (flat (map gate_line c.gates))
  pub resets : t'.resets ≡ put t.resets 0 c.resets
  pub bads : t'.bads ≡ put t.bads 0 c.bads
  pub constraints : t'.constraints ≡ put t.constraints 0 c.constraints

abbrev pub BodySays : Tables → Parse Circuit → Result ℕ Refusal → Tables → Type 0
BodySays t (got c next) r t' = (r ≡ Ok next) × Holds t c t'
BodySays t (refused r') r t' = r ≡ Err r'

-- the rows of a table that starts with them
pub rows-flat : (k : ℕ) (rows : List (List ℕ)) (more : List ℕ) → Long k rows → rows_of k (length rows) (flat rows ++ more) ≡ rows
rows-flat k [] more h = refl
rows-flat k (row ∷ rows) more h =
    let whole : (row ++ flat rows) ++ more ≡ row ++ (flat rows ++ more) = append_assoc row (flat rows) more in
    ap₂ (λ (x : List ℕ) (y : List (List ℕ)). x ∷ y)
    (ap (take k) whole ∙ take_at row (flat rows ++ more) k h.0)
    (ap (λ (x : List ℕ). rows_of k (length rows) x) (ap (drop k) whole ∙ drop_at row (flat rows ++ more) k h.0) ∙ rows-flat k rows more h.1)

-- tables that start with a circuit's words
pub record Starts (c : Circuit) (t : Tables) : Type 0 where
  pub inputs : (more : List ℕ) × (t.inputs ≡ c.inputs ++ more)
  pub latches : (more : List ℕ) × (t.latches ≡ flat (map latch_line c.latches) ++ more)
  pub outputs : (more : List ℕ) × (t.outputs ≡ c.outputs ++ more)
  pub gates : (more : List ℕ) × (t.gates ≡ flat (map gate_line c.gates) ++ more)
  pub resets : (more : List ℕ) × (t.resets ≡ c.resets ++ more)
  pub bads : (more : List ℕ) × (t.bads ≡ c.bads ++ more)
  pub constraints : (more : List ℕ) × (t.constraints ≡ c.constraints ++ more)

-- the circuit that tables hold is the circuit that they start with, if it has a reset for each latch
pub starts-circuit : (t : Tables) (c : Circuit) → length c.resets ≡ length c.latches → Starts c t → circuit_of (counts_of c) t ≡ c
starts-circuit t c n h = λ i. record {
  M = c.M;
  inputs = ins i;
  latches = lats i;
  resets = res i;
  outputs = outs i;
  bads = one c.bads t.bads h.bads i;
  constraints = one c.constraints t.constraints h.constraints i;
  gates = gs i;
}
  where
    one : (words table : List ℕ) → ((more : List ℕ) × (table ≡ words ++ more)) → take (length words) table ≡ words
    one words table q = ap (take (length words)) q.1 ∙ take_at words q.0 (length words) refl

    rows : {A : Type 0} (k : ℕ) (f : List ℕ → A) (g : A → List ℕ) (l : List A) (table : List ℕ)
        → ((a : A) → f (g a) ≡ a) → ((a : A) → length (g a) ≡ k)
        → ((more : List ℕ) × (table ≡ flat (map g l) ++ more)) → map f (rows_of k (length l) table) ≡ l
    rows k f g l table back long q =
        ap (λ (x : List ℕ). map f (rows_of k (length l) x)) q.1
        ∙ (ap (λ (x : ℕ). map f (rows_of k x (flat (map g l) ++ q.0))) (sym (length-map l g))
        ∙ (ap (map f) (rows-flat k (map g l) q.0 (map-long k g long l)) ∙ map-forth f g back l))

    ins : take (length c.inputs) t.inputs ≡ c.inputs
    ins = one c.inputs t.inputs h.inputs

    res : take (length c.latches) t.resets ≡ c.resets
    res = ap (λ (k : ℕ). take k t.resets) (sym n) ∙ one c.resets t.resets h.resets

    outs : take (length c.outputs) t.outputs ≡ c.outputs
    outs = one c.outputs t.outputs h.outputs

    lats : map latch_of (rows_of 2 (length c.latches) t.latches) ≡ c.latches
    lats = rows 2 latch_of latch_line c.latches t.latches (λ a. refl) (λ a. refl) h.latches

    gs : map gate_of (rows_of 3 (length c.gates) t.gates) ≡ c.gates
    gs = rows 3 gate_of gate_line c.gates t.gates (λ a. refl) (λ a. refl) h.gates

-- the circuit that the tables hold is the circuit that they were filled with
pub holds-circuit : (n : Counts) (t t' : Tables) (c : Circuit) → length c.resets ≡ length c.latches → Holds t c t' → counts_of c ≡ n
    → circuit_of n t' ≡ c
holds-circuit n t t' c k h e =
    ap (λ (m : Counts). circuit_of m t') (sym e)
    ∙ starts-circuit t' c k (record {
      inputs = (_, h.inputs);
      latches = (_, h.latches);
      outputs = (_, h.outputs);
      gates = (_, h.gates);
      resets = (_, h.resets);
      bads = (_, h.bads);
      constraints = (_, h.constraints);
    })

drop-zeros : (k n : ℕ) → drop {A = ℕ} k (replicate n 0) ≡ replicate (n - k) 0
drop-zeros zero n = ap (λ (m : ℕ). replicate m 0) (sym (sub-zero n))
drop-zeros (suc k) zero = ap (λ (m : ℕ). replicate m 0) (sym (zero-sub (suc k)))
drop-zeros (suc k) (suc n) = let e : n - k ≡ suc n - suc k = omega arith in drop-zeros k n ∙ ap (λ (m : ℕ). replicate m 0) e

-- words put into a table of zeros, and zeros past them; tables that were cleared before they were filled
put-cleared : (table ws : List ℕ) → put (cleared table) 0 ws ≡ filled table ws
put-cleared table ws =
    ap (λ (x : List ℕ). ws ++ x)
    (ap (λ (k : ℕ). drop k (cleared table)) (zero-add (length ws)) ∙ drop-zeros (length ws) (length table))

pub holds-filled : (t t' : Tables) (c : Circuit) → Holds (all_cleared t) c t' → t' ≡ holding t c
holds-filled t t' c h = λ i. record {
  inputs = (h.inputs ∙ put-cleared t.inputs c.inputs) i;
  latches = (h.latches ∙ put-cleared t.latches (flat (map latch_line c.latches))) i;
  outputs = (h.outputs ∙ put-cleared t.outputs c.outputs) i;
  gates = (h.gates ∙ put-cleared t.gates (flat (map gate_line c.gates))) i;
  resets = (h.resets ∙ put-cleared t.resets c.resets) i;
  bads = (h.bads ∙ put-cleared t.bads c.bads) i;
  constraints = (h.constraints ∙ put-cleared t.constraints c.constraints) i;
}
