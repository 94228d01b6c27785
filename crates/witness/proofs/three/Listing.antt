-- One vector more of a list: what is left to step, and the state that the table keeps.
use Prim.Native.Nat.{ℕ, suc, ◌+◌, ◌-◌, ◌*◌, ◌≤◌, ◌<◌}
use mathlib.Core.Path.{◌≡◌, refl, sym, ap, ap₂, ◌∙◌}
use mathlib.Core.Bool.{Bool, true, false, ◌&&◌, ◌||◌}
use mathlib.Core.List.{List, map}
use native.Mathlib.Nat.{mul_comm}
use native.Mathlib.Omega.{arith}
use lib.ListN.{length, take, drop, length-map, length-take, length-drop}
use lib.Seq.{length-take-le, drop-drop}
use Rattle.plan.specs.declared.Counts.{Counts}
use Rattle.plan.specs.Circuit.{Circuit, Tables, circuit_of}
use Rattle.plan.specs.Step.{Value, value_of, outputs_of, bads_of, constraints_of, next_of, run, vectors_of, any1, all1, shows1}
use Rattle.plan.specs.Outcome.{put}
use Rattle.laws.proofs.Tables.{row_ends, next_row}
use Rattle.laws.proofs.Running.Runs.{next-length}
use Rattle.tables.specs.Held.{Scratch}
use Rattle.step.specs.values.Words.{words, values_at}
use Rattle.step.specs.sweep.Lookup.{seen}
use Rattle.step.specs.sweep.Running.{Runs, Rests, Stands, Stepped, Ready, lits_of}
use Rattle.step.proofs.sweep.Loading.{stands-loaded}
use Rattle.step.proofs.sweep.Seeing.{sees-bads, bads-seen, constraints-seen}
use Rattle.step.proofs.Buffers.{told_part}
use Rattle.witness.specs.three.Listing.{Shown, shows_from}

-- what is left of the list: `left` vectors, of which the first starts at `at`
abbrev pub shows_left : Circuit → List Value → ℕ → List ℕ → ℕ → Bool
shows_left c s left bytes at = shows_from c s left (drop at bytes)

-- vector k of a whole list
pub record Turn (n : Counts) (number : ℕ) (bytes : List ℕ) (k : ℕ) : Type 0 where
  pub whole : length bytes ≡ number * n.I
  pub more : k < number

-- after k vectors
pub record Going (n : Counts) (c : Circuit) (s : List Value) (number : ℕ) (bytes t : List ℕ) (k : ℕ) : Type 0 where
  pub state : List Value
  pub state-length : length state ≡ n.L
  pub rests : Rests n state t
  pub left : shows_from c s number bytes ≡ shows_left c state (number - k) bytes (n.I * k)

-- the next vector, and the rest
abbrev counts1 : Circuit → List Value → List Value → Bool → Bool
counts1 c s i later = all1 (constraints_of c s i) && (any1 (outputs_of c s i) || (any1 (bads_of c s i) || later))

shows-turn : (c : Circuit) (s : List Value) (number k each : ℕ) (bytes : List ℕ) (at : ℕ) → length c.inputs ≡ each → k < number
    → shows_left c s (number - k) bytes at
    ≡ counts1 c s (map value_of (take each (drop at bytes)))
    (shows_left c (next_of c s (map value_of (take each (drop at bytes)))) (number - (k + 1)) bytes (at + each))
shows-turn c s number k each bytes at e h =
    let one : number - k ≡ suc (number - (k + 1)) = omega arith in
    ap (λ (left : ℕ). shows_left c s left bytes at) one
    ∙ (ap (λ (l : List ℕ). counts1 c s (map value_of (take (length c.inputs) (drop at bytes)))
    (shows1 (run c (next_of c s (map value_of (take (length c.inputs) (drop at bytes)))) (vectors_of c (number - (k + 1)) l))))
    (drop-drop (length c.inputs) at bytes)
    ∙ ap (λ (m : ℕ). counts1 c s (map value_of (take m (drop at bytes)))
    (shows_left c (next_of c s (map value_of (take m (drop at bytes)))) (number - (k + 1)) bytes (at + m))) e)

-- one of two tests that are made in order
pub or-first : (r a b : Bool) → r ≡ a → r ≡ true → true ≡ (a || b)
or-first r a b e t = sym (ap (λ (x : Bool). x || b) (sym e ∙ t))

pub or-second : (r a q b : Bool) → r ≡ a → r ≡ false → q ≡ b → q ≡ (a || b)
or-second r a q b e f h = h ∙ sym (ap (λ (x : Bool). x || b) (sym e ∙ f))

or-regroup : (a b c : Bool) → (a || (b || c)) ≡ ((a || b) || c)
or-regroup true b c = refl
or-regroup false b c = refl

pub part-short : (m : ℕ) (l : List ℕ) → length (take m l) ≤ m
part-short m l = omega (arith, length-take m l)

module _ {n : Counts} {number : ℕ} {bytes : List ℕ} {k : ℕ} (u : Turn n number bytes k) where
  -- where it starts
  abbrev at : ℕ
  at = n.I * k

  pub vector-ends : at + n.I ≤ length bytes
  vector-ends = omega (arith, row_ends n.I number k bytes (omega (arith, u.whole, mul_comm number n.I)) u.more)

  -- the vector of this turn
  abbrev pub vector_of : List Value
  vector_of = map value_of (take n.I (drop at bytes))

  vector-length : length vector_of ≡ n.I
  vector-length =
      length-map (take n.I (drop at bytes)) value_of
      ∙ length-take-le n.I (drop at bytes) (omega (arith, vector-ends, length-drop at bytes))

  module _ {x : Tables} (r : Runs n x) {s : List Value} {t : List ℕ} (room : Scratch n t) (g : Going n (circuit_of n x) s number bytes t k) where
    abbrev c : Circuit
    c = circuit_of n x

    -- it is loaded
    module _ {t1 : List ℕ} (e1 : t1 ≡ put t 1 (words (map value_of (take (at + n.I - at) (drop at bytes))))) where
      only : at + n.I - at ≡ n.I
      only = omega arith

      pub vector-stands : Stands n g.state vector_of t1
      vector-stands =
          stands-loaded n g.state vector_of t t1 g.rests g.state-length vector-length (omega (arith, room, r.fits.sum))
          (e1 ∙ ap (λ (m : ℕ). put t 1 (words (map value_of (take m (drop at bytes))))) only)

      pub vector-ready : length t1 ≡ length t → Ready n x.latches x.outputs x.gates t1
      vector-ready same = record {
        others = x;
        state = g.state;
        ins = vector_of;
        runs = record { fits = r.fits; counts = r.counts; formed = r.formed; order = r.order };
        scratch = omega (arith, room);
        stands = vector-stands;
      }

      -- after its step: whether every constraint is 1, and whether a 1 is shown
      module _ {t2 : List ℕ} (step : Stands n g.state vector_of t1 → Stepped n c g.state vector_of t2) (q : Bool)
          (all : q ≡ all1 (seen (lits_of n) t2 (take n.C x.constraints))) where
        abbrev later : Bool
        later = shows_left c (next_of c g.state vector_of) (number - (k + 1)) bytes (at + n.I)

        p : Stepped n c g.state vector_of t2
        p = step vector-stands

        turned : shows_from c s number bytes ≡ counts1 c g.state vector_of later
        turned = g.left ∙ shows-turn c g.state number k n.I bytes at (ap (λ (m : Counts). m.I) r.counts) u.more

        constrained : all1 (constraints_of c g.state vector_of) ≡ q
        constrained = sym (all ∙ ap all1 (constraints-seen r p))

        pub none-counts : q ≡ false → false ≡ shows_from c s number bytes
        none-counts e =
            sym (turned ∙ ap (λ (b : Bool). b && (any1 (outputs_of c g.state vector_of) || (any1 (bads_of c g.state vector_of) || later))) (constrained ∙ e))

        module _ (good : q ≡ true) (a : Bool)
            (any : a ≡ (any1 (values_at t2 (n.M + 1) n.O) || any1 (seen (lits_of n) t2 (take n.B x.bads)))) where
          counted : shows_from c s number bytes ≡ (a || later)
          counted =
              turned
              ∙ (ap (λ (b : Bool). b && (any1 (outputs_of c g.state vector_of) || (any1 (bads_of c g.state vector_of) || later))) (constrained ∙ good)
              ∙ (or-regroup (any1 (outputs_of c g.state vector_of)) (any1 (bads_of c g.state vector_of)) later
              ∙ ap (λ (b : Bool). b || later)
              (sym (any ∙ ap₂ (λ (o b : List Value). any1 o || any1 b)
              (told_part t2 (n.M + 1) n.O n.O (outputs_of c g.state vector_of) refl p.outputs) (bads-seen r p)))))

          pub found-one : a ≡ true → true ≡ shows_from c s number bytes
          found-one e = sym (counted ∙ ap (λ (b : Bool). b || later) e)

          pub going_on : a ≡ false → Going n c s number bytes t2 (k + 1)
          going_on e = record {
            state = next_of c g.state vector_of;
            state-length = next-length c g.state vector_of ∙ ap (λ (m : Counts). m.L) r.counts;
            rests = p.rests;
            left = counted ∙ ap (λ (b : Bool). b || later) e
                ∙ ap (shows_left c (next_of c g.state vector_of) (number - (k + 1)) bytes) (next_row n.I k at refl);
          }

-- what is asked where the words after a step are looked at
pub shown-asks : {n : Counts} {x : Tables} (r : Runs n x) {t : List ℕ} → Scratch n t → Shown n x.bads t
shown-asks r room = record {
  most-M = r.fits.most-M;
  most-O = r.fits.most-O;
  outputs-long = omega (arith, room);
  sees = sees-bads r room;
}

module _ (n : Counts) (c : Circuit) (s : List Value) (number : ℕ) (bytes t : List ℕ) where
  pub none-shown : (k : ℕ) → number ≤ k → Going n c s number bytes t k → false ≡ shows_from c s number bytes
  none-shown k h g =
      let nothing : number - k ≡ 0 = omega arith in
      sym (g.left ∙ ap (λ (left : ℕ). shows_left c g.state left bytes (n.I * k)) nothing)
