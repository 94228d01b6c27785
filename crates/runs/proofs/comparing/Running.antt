-- One line more of a run by the plain engine: the laws of the tracer's lines, over a table that would hold the state.
use Prim.Native.Nat.{ℕ, ◌+◌}
use mathlib.Core.Path.{◌≡◌, refl, sym, ap, ◌∙◌, subst}
use mathlib.Core.Bool.{true, ◌&&◌}
use mathlib.Core.List.{List, ◌∷◌, ◌++◌, map}
use native.Mathlib.Omega.{arith}
use lib.Dec.{eqb}
use lib.ListN.{length, take, drop, replicate, length-map, length-replicate}
use lib.Seq.{take-length, drop-append-add}
use Rattle.plan.specs.declared.Counts.{Counts}
use Rattle.plan.specs.Circuit.{Circuit}
use Rattle.plan.specs.Step.{Value, code_of, value_of, next_of}
use Rattle.plan.specs.Outcome.{all_codes}
use Rattle.plan.specs.Programs.{lines_in, all_vectors}
use Rattle.plan.specs.Whole.{state_after}
use Rattle.laws.proofs.Reading.Common.{and_left, and_right}
use Rattle.laws.proofs.Writing.Stepping.{codes-values, all_codes_lem}
use Rattle.step.specs.values.Words.{told, word, words}
use Rattle.step.proofs.values.Codes.{told-words}
use Rattle.step.specs.sweep.Running.{Rests}
use Rattle.runs.specs.trace.Tracing.{Wrote, first_ones, Ran, Left}
use Rattle.runs.proofs.trace.Running.{Lining, Going, Taken, lines_left, all-gone, ins-long}
use Rattle.runs.specs.comparing.Lined.{Vector, Lined}
use Rattle.runs.proofs.comparing.Lines.{values-codes}

-- the table that a stepper would hold between two steps
abbrev pub resting : Counts → List ℕ → List ℕ
resting n state = 1 ∷ (replicate n.I 0 ++ words (map value_of state))

words_long : (n : Counts) (state : List ℕ) → length state ≡ n.L → n.L ≡ length (words (map value_of state))
words_long n state e = sym (length-map (map value_of state) word ∙ (length-map state value_of ∙ e))

held : (n : Counts) (state : List ℕ) → length state ≡ n.L → take n.L (drop (1 + n.I) (resting n state)) ≡ words (map value_of state)
held n state e =
    let w = words (map value_of state) in
    let at : 1 + n.I ≡ length {A = ℕ} (1 ∷ replicate n.I 0) + 0 = omega (arith, length-replicate {A = ℕ} n.I 0) in
    ap (λ (k : ℕ). take n.L (drop k (resting n state))) at
    ∙ (ap (take n.L) (drop-append-add (1 ∷ replicate n.I 0) w 0)
    ∙ (ap (λ (k : ℕ). take k w) (words_long n state e) ∙ take-length w))

pub rests : (n : Counts) (state : List ℕ) → length state ≡ n.L → Rests n (map value_of state) (resting n state)
rests n state e = record { zero = refl; state = held n state e }

-- what rests in it is the state
pub state-of : (n : Counts) (state : List ℕ) (s : List Value) → length state ≡ n.L → Rests n s (resting n state) → s ≡ map value_of state
state-of n state s e r = sym (told-words s) ∙ (ap (map told) (sym r.state ∙ held n state e) ∙ told-words (map value_of state))

-- the vector of a turn is one of codes
pub ins-vector : {n : Counts} {more : ℕ} {bytes out : List ℕ} {to : ℕ} → (l : Lining n more bytes out to) → {line : List ℕ} {more' : ℕ} {bytes' : List ℕ}
    → Taken n more bytes line more' bytes' → Vector n.I (take n.I line)
ins-vector {n} l {line} {bytes' = bytes'} t = record { long = ins-long l t; codes = codes }
  where
    row : List ℕ
    row = take n.I line

    good : all_vectors n.I (row ∷ lines_in bytes') ≡ true
    good = ap (all_vectors n.I) (sym (lines_left l t)) ∙ l.good

    codes : all_codes row ≡ true
    codes = and_right (eqb (length row) n.I) (all_codes row) (and_left (eqb (length row) n.I && all_codes row) (all_vectors n.I (lines_in bytes')) good)

-- a line that was written is one that the tracer would write
module _ (n : Counts) {c : Circuit} {state ins state' out out' : List ℕ} {at : ℕ} (d : Lined c state ins state' out at out')
    (long : length state' ≡ n.L) where
  wrote-here : Wrote n c (map value_of state) (map value_of ins) (resting n state') out at out'
  wrote-here = record {
    rests = subst (λ (s : List Value). Rests n s (resting n state'))
        (ap (map value_of) d.next ∙ codes-values (next_of c (map value_of state) (map value_of ins)))
        (rests n state' long);
    line = d.line;
  }

  pub wrote : (s : List Value) → s ≡ map value_of state → Wrote n c s (map value_of ins) (resting n state') out at out'
  wrote s e = subst (λ (x : List Value). Wrote n c x (map value_of ins) (resting n state') out at out') (sym e) wrote-here

  pub next-vector : Vector n.L state'
  next-vector = record {
    long = long;
    codes = ap all_codes d.next ∙ all_codes_lem (next_of c (map value_of state) (map value_of ins));
  }

-- after the last line
pub all_left : (n : Counts) {c : Circuit} {number : ℕ} {vectors : List ℕ} (state state' : List ℕ) {out out' : List ℕ} {more : ℕ} {bytes : List ℕ} {to : ℕ} → more ≡ 0
    → Vector n.L state' → Going n c (map value_of state) number vectors (resting n state') out out' more bytes to
    → Left c state (first_ones number vectors) state' out out'
all_left n {c} {number} {vectors} state state' {out} {out'} none v g =
    let r : Ran n c (map value_of state) (first_ones number vectors) (resting n state') out out' = all-gone none g in
    record {
      state-is = sym (values-codes state' v.codes)
          ∙ ap (map code_of) (sym (state-of n state' (state_after c (map value_of state) (first_ones number vectors)) v.long r.rests));
      lines = r.lines;
    }
