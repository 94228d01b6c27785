-- One line more of a run: the vectors that are left, the lines that are written, and the state that scratch keeps.
use Prim.Native.Nat.{ℕ, suc, ◌+◌, ◌*◌, ◌≤◌, ◌<◌}
use mathlib.Core.Path.{◌≡◌, refl, sym, ap, ap₂, ◌∙◌, subst}
use mathlib.Core.Bool.{true}
use mathlib.Core.List.{List, [], ◌∷◌, ◌++◌, map, append_assoc, append-nil}
use native.Mathlib.Decide.{dec_le}
use native.Mathlib.Omega.{arith}
use lib.ListN.{length, take, drop, length-map, length-append, length-take}
use lib.Seq.{take-append-le, drop-append_seam}
use Rattle.plan.specs.declared.Counts.{Counts}
use Rattle.plan.specs.Circuit.{Circuit, Tables, circuit_of}
use Rattle.plan.specs.Step.{Value, value_of, next_of, step_of, run}
use Rattle.plan.specs.Outcome.{put}
use Rattle.plan.specs.Programs.{lines_in, all_vectors, step_line, step_lines}
use Rattle.plan.specs.Whole.{line_width, state_after}
use Rattle.laws.proofs.Put.{put-none, put-put}
use Rattle.laws.proofs.Running.Runs.{next-length}
use Rattle.step.specs.sweep.Running.{Runs, Rests}
use Rattle.runs.specs.trace.Tracing.{Wrote, Listed, first_ones, Ran}
use Rattle.runs.proofs.trace.Lines.{NextLine, next-line}
use Rattle.runs.proofs.trace.Writing.{line-length}

-- the bytes of the vectors of which `more` are to be taken, and the room for their lines from `to` on
pub record Lining (n : Counts) (more : ℕ) (bytes out : List ℕ) (to : ℕ) : Type 0 where
  pub good : all_vectors n.I (lines_in bytes) ≡ true
  pub enough : more ≤ length (lines_in bytes)
  pub room : to + line_width n * more ≤ length out

-- the state and the lines after those that were taken
pub record Going (n : Counts) (c : Circuit) (s₀ : List Value) (number : ℕ) (vectors t out₀ out : List ℕ) (more : ℕ) (bytes : List ℕ) (to : ℕ) : Type 0 where
  pub state : List Value
  pub state-length : length state ≡ n.L
  pub rests : Rests n state t
  pub after : state_after c s₀ (first_ones number vectors) ≡ state_after c state (first_ones more bytes)
  pub done : List ℕ
  pub done-length : length done ≡ to
  pub so_far : out ≡ put out₀ 0 done
  pub to-come : step_lines (run c s₀ (first_ones number vectors)) ≡ done ++ step_lines (run c state (first_ones more bytes))

pub lining-first : {n : Counts} {number : ℕ} {vectors out : List ℕ} → Listed n number vectors out → {more : ℕ} → more ≡ number → {bytes : List ℕ}
    → bytes ≡ vectors → Lining n more bytes out 0
lining-first {n} {number} {vectors} {out} l {more} h {bytes} e = record {
  good = ap (λ (b : List ℕ). all_vectors n.I (lines_in b)) e ∙ l.good;
  enough = omega (arith, h, l.enough, ap (λ (b : List ℕ). length (lines_in b)) e);
  room = omega (arith, l.room, ap (λ (k : ℕ). line_width n * k) h);
}

pub lining-at : {n : Counts} {more : ℕ} {bytes out out' : List ℕ} {to to' : ℕ} → to' ≡ to → length out' ≡ length out → Lining n more bytes out to
    → Lining n more bytes out' to'
lining-at e same l = record { good = l.good; enough = l.enough; room = omega (arith, e, same, l.room) }

-- where the bytes have no line more
pub lining-last : {n : Counts} {more : ℕ} {bytes out : List ℕ} {to : ℕ} → Lining n more bytes out to → (0 < more → length bytes < n.I + 1) → more ≡ 0
lining-last {n} {more} {bytes} l h = go (dec_le 1 more)
  where
    go : Dec (1 ≤ more) → more ≡ 0
    go (yes q) = absurd (omega (arith, h q, (next-line n.I bytes l.good (omega (arith, l.enough))).inside))
    go (no q) = omega arith

-- a line is taken
pub record Taken (n : Counts) (more : ℕ) (bytes line : List ℕ) (more' : ℕ) (bytes' : List ℕ) : Type 0 where
  pub fewer : more' + 1 ≡ more
  pub parts : bytes ≡ line ++ bytes'
  pub long : length line ≡ n.I + 1

pub taken : {n : Counts} {more : ℕ} {bytes line : List ℕ} {more' : ℕ} {bytes' : List ℕ} → more' + 1 ≡ more → bytes ≡ line ++ bytes' → length line ≡ n.I + 1
    → Taken n more bytes line more' bytes'
taken h e l = record { fewer = h; parts = e; long = l }

module _ {n : Counts} {more : ℕ} {bytes out : List ℕ} {to : ℕ} (l : Lining n more bytes out to) {line : List ℕ} {more' : ℕ} {bytes' : List ℕ}
    (t : Taken n more bytes line more' bytes') where
  turn : NextLine n.I bytes
  turn = next-line n.I bytes l.good (omega (arith, l.enough, t.fewer))

  pub line-fits : to + line_width n ≤ length out
  line-fits = let m : line_width n * (more' + 1) ≡ line_width n * more = ap (λ (k : ℕ). line_width n * k) t.fewer in omega (arith, l.room, m)

  pub ins-long : length (take n.I line) ≡ n.I
  ins-long = omega (arith, length-take n.I line, t.long)

  past : drop (n.I + 1) bytes ≡ bytes'
  past = ap₂ (λ (m : ℕ) (b : List ℕ). drop m b) (sym t.long) t.parts ∙ drop-append_seam line bytes'

  front : take n.I bytes ≡ take n.I line
  front = ap (take n.I) t.parts ∙ take-append-le n.I line bytes' (omega (arith, t.long))

  pub lines_left : lines_in bytes ≡ take n.I line ∷ lines_in bytes'
  lines_left = turn.all ∙ ap₂ (λ (r x : List ℕ). r ∷ lines_in x) front past

  pub lining-next : Lining n more' bytes' out (to + line_width n)
  lining-next =
      let m : line_width n * (more' + 1) ≡ line_width n * more = ap (λ (k : ℕ). line_width n * k) t.fewer in
      record {
        good = ap (λ (x : List ℕ). all_vectors n.I (lines_in x)) (sym past) ∙ turn.good;
        enough = omega (arith, l.enough, t.fewer, ap length lines_left);
        room = omega (arith, l.room, m);
      }

  -- the vector of this turn
  abbrev ins : List Value
  ins = map value_of (take n.I line)

  ones-left : first_ones more bytes ≡ ins ∷ first_ones more' bytes'
  ones-left =
      let one : more ≡ suc more' = omega (arith, t.fewer) in
      ap₂ (λ (m : ℕ) (rows : List (List ℕ)). map (map value_of) (take m rows)) one lines_left

  module _ {x : Tables} (r : Runs n x)
      {s₀ : List Value} {number : ℕ} {vectors t₀ out₀ : List ℕ}
      (g : Going n (circuit_of n x) s₀ number vectors t₀ out₀ out more bytes to)
      (same : length out ≡ length out₀) {t' out' : List ℕ}
      (w : Wrote n (circuit_of n x) g.state ins t' out to out') where
    abbrev c : Circuit
    c = circuit_of n x

    abbrev line-out : List ℕ
    line-out = step_line (step_of c g.state ins)

    wide : length line-out ≡ line_width n
    wide =
        line-length c n g.state ins g.state-length (length-map (take n.I line) value_of ∙ ins-long)
        (ap (λ (m : Counts). m.O) r.counts) (ap (λ (m : Counts). m.L) r.counts)

    pub going_on : Going n c s₀ number vectors t' out₀ out' more' bytes' (to + line_width n)
    going_on = record {
      state = next_of c g.state ins;
      state-length = next-length c g.state ins ∙ ap (λ (m : Counts). m.L) r.counts;
      rests = w.rests;
      after = g.after ∙ ap (state_after c g.state) ones-left;
      done = g.done ++ line-out;
      done-length = length-append g.done line-out ∙ ap₂ ◌+◌ g.done-length wide;
      so_far =
          let start : to ≡ 0 + length g.done = omega (arith, g.done-length) in
          w.line
          ∙ (ap₂ (λ (x : List ℕ) (m : ℕ). put x m line-out) g.so_far start
          ∙ put-put out₀ 0 g.done line-out (omega (arith, line-fits, same, g.done-length, wide, length-append g.done line-out)));
      to-come =
          g.to-come
          ∙ (ap (λ (x : List (List Value)). g.done ++ step_lines (run c g.state x)) ones-left
          ∙ sym (append_assoc g.done line-out (step_lines (run c (next_of c g.state ins) (first_ones more' bytes')))));
    }

pub going-first : (n : Counts) (c : Circuit) (s : List Value) {number : ℕ} (vectors t out : List ℕ) → length s ≡ n.L → Rests n s t
    → {more : ℕ} → more ≡ number → {bytes : List ℕ} → bytes ≡ vectors → Going n c s number vectors t out out more bytes 0
going-first n c s vectors t out e rests h same =
    let ones = ap₂ first_ones (sym h) (sym same) in
    record {
      state = s;
      state-length = e;
      rests = rests;
      after = ap (state_after c s) ones;
      done = [];
      done-length = refl;
      so_far = sym (put-none out 0);
      to-come = ap (λ (x : List (List Value)). step_lines (run c s x)) ones;
    }

pub all-gone : {n : Counts} {c : Circuit} {s : List Value} {number : ℕ} {vectors t' out out' : List ℕ} {more : ℕ} {bytes : List ℕ} {to : ℕ} → more ≡ 0
    → Going n c s number vectors t' out out' more bytes to → Ran n c s (first_ones number vectors) t' out out'
all-gone {n} {c} {s} {t' = t'} {out = out} {bytes = bytes} none g = record {
  rests = subst (λ (x : List Value). Rests n x t') (sym (g.after ∙ ap (λ (m : ℕ). state_after c g.state (first_ones m bytes)) none)) g.rests;
  lines = g.so_far ∙ ap (put out 0)
      (sym (g.to-come ∙ (ap (λ (m : ℕ). g.done ++ step_lines (run c g.state (first_ones m bytes))) none ∙ append-nil g.done)));
}

pub going-at : {n : Counts} {c : Circuit} {s : List Value} {number : ℕ} {vectors t out₀ out : List ℕ} {more : ℕ} {bytes : List ℕ} {to to' : ℕ} → to' ≡ to
    → Going n c s number vectors t out₀ out more bytes to → Going n c s number vectors t out₀ out more bytes to'
going-at {n} {c} {s} {number} {vectors} {t} {out₀} {out} {more} {bytes} e g =
    subst (λ (m : ℕ). Going n c s number vectors t out₀ out more bytes m) (sym e) g
