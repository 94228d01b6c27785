-- One line of a run: its four parts, and the step between the inputs and the outputs.
use Prim.Native.Nat.{ℕ, ◌+◌, ◌≤◌}
use mathlib.Core.Path.{◌≡◌, refl, sym, ap, ◌∙◌}
use mathlib.Core.List.{List, [], ◌∷◌, ◌++◌, map, append_assoc, append-nil}
use native.Mathlib.Omega.{arith}
use lib.ListN.{length, take, drop, length-map, length-append}
use Rattle.plan.specs.declared.Counts.{Counts}
use Rattle.plan.specs.Circuit.{Circuit, Tables, circuit_of}
use Rattle.plan.specs.Step.{Value, code_of, value_of, outputs_of, bads_of, constraints_of, next_of, step_of}
use Rattle.plan.specs.Outcome.{put}
use Rattle.plan.specs.Programs.{step_line}
use Rattle.plan.specs.Whole.{line_width}
use Rattle.laws.proofs.Running.Runs.{next-length}
use Rattle.tables.specs.Held.{Scratch}
use Rattle.write.proofs.print.Filling.{Filling, none_filled, part_filled, all-filled}
use Rattle.step.specs.values.Words.{word, words}
use Rattle.step.proofs.values.Parts.{part-put}
use Rattle.step.specs.sweep.Running.{Runs, Rests, Stands, Stepped, Ready}
use Rattle.step.proofs.sweep.Loading.{stands-loaded}
use Rattle.step.proofs.Buffers.{told_part}
use Rattle.runs.specs.trace.Tracing.{part, Wrote}
use Rattle.runs.proofs.trace.Parts.{codes-length}

-- a vector's codes and the byte after them
abbrev ended : List Value → ℕ → List ℕ
ended l last = map code_of l ++ (last ∷ [])

ended-length : (l : List Value) (last n : ℕ) → length l ≡ n → length (ended l last) ≡ n + 1
ended-length l last n e = length-append (map code_of l) (last ∷ []) ∙ ap (λ (k : ℕ). k + 1) (codes-length l n e)

part-is : (t : List ℕ) (first n last : ℕ) (l : List Value) → take n (drop first t) ≡ words l → part t first n last ≡ ended l last
part-is t first n last l e = ap (λ (x : List Value). ended x last) (told_part t first n n l refl e)

-- a line is its four parts
four : (s i o b k x : List Value) → ended s 32 ++ (ended i 32 ++ (ended o 32 ++ ended x 10))
    ≡ step_line (record { state = s; inputs = i; outputs = o; bads = b; constraints = k; next = x })
four s i o b k x = simp append_assoc

four-length : (s i o x : List Value) (n : Counts) → length s ≡ n.L → length i ≡ n.I → length o ≡ n.O → length x ≡ n.L
    → length (ended s 32 ++ (ended i 32 ++ (ended o 32 ++ ended x 10))) ≡ line_width n
four-length s i o x n es ei eo ex =
    omega (
      arith,
      length-append (ended s 32) (ended i 32 ++ (ended o 32 ++ ended x 10)),
      length-append (ended i 32) (ended o 32 ++ ended x 10),
      length-append (ended o 32) (ended x 10),
      ended-length s 32 n.L es,
      ended-length i 32 n.I ei,
      ended-length o 32 n.O eo,
      ended-length x 10 n.L ex,
    )

pub line-length : (c : Circuit) (n : Counts) (s i : List Value) → length s ≡ n.L → length i ≡ n.I → length c.outputs ≡ n.O
    → length c.latches ≡ n.L → length (step_line (step_of c s i)) ≡ line_width n
line-length c n s i es ei eo el =
    ap length (sym (four s i (outputs_of c s i) (bads_of c s i) (constraints_of c s i) (next_of c s i)))
    ∙ four-length s i (outputs_of c s i) (next_of c s i) n es ei (length-map c.outputs _ ∙ eo) (next-length c s i ∙ el)

-- the inputs beside the state
module _ {n : Counts} {tb : Tables} (r : Runs n tb) (s : List Value)
    (ins : List ℕ) {t t1 : List ℕ} (ls : length s ≡ n.L) (rests : Rests n s t) (room : Scratch n t) (li : length ins ≡ n.I)
    (e1 : t1 ≡ put t 1 (words (map value_of ins))) where
  abbrev i : List Value
  i = map value_of ins

  abbrev c : Circuit
  c = circuit_of n tb

  ins-length : length i ≡ n.I
  ins-length = length-map ins value_of ∙ li

  pub line-stands : Stands n s i t1
  line-stands = stands-loaded n s i t t1 rests ls ins-length (omega (arith, r.fits.sum)) e1

  pub line-ready : length t1 ≡ length t → Ready n tb.latches tb.outputs tb.gates t1
  line-ready same = record {
    others = tb;
    state = s;
    ins = i;
    runs = record { fits = r.fits; counts = r.counts; formed = r.formed; order = r.order };
    scratch = omega (arith, room);
    stands = line-stands;
  }

  inputs-there : take n.I (drop 1 t1) ≡ words i
  inputs-there =
      let count : length (words i) ≡ n.I = length-map i word ∙ ins-length in
      ap (λ (l : List ℕ). take n.I (drop 1 l)) e1
      ∙ (ap (λ (k : ℕ). take k (drop 1 (put t 1 (words i)))) (sym count) ∙ part-put t 1 (words i) (omega arith))

  -- the four parts in the buffer
  module _ {t2 : List ℕ} (p : Stepped n c s i t2) (out : List ℕ) (at : ℕ) {o1 o2 o3 o4 : List ℕ} {a1 a2 a3 a4 : ℕ}
      (fits : at + line_width n ≤ length out)
      (w1 : o1 ≡ put out at (part t (1 + n.I) n.L 32)) (m1 : a1 ≡ at + n.L + 1)
      (w2 : o2 ≡ put o1 a1 (part t1 1 n.I 32)) (m2 : a2 ≡ a1 + n.I + 1)
      (w3 : o3 ≡ put o2 a2 (part t2 (n.M + 1) n.O 32)) (m3 : a3 ≡ a2 + n.O + 1)
      (w4 : o4 ≡ put o3 a3 (part t2 (1 + n.I) n.L 10)) (m4 : a4 ≡ a3 + n.L + 1) where
    abbrev o : List Value
    o = outputs_of c s i

    abbrev x : List Value
    x = next_of c s i

    out-length : length o ≡ n.O
    out-length = length-map c.outputs _ ∙ ap (λ (m : Counts). m.O) r.counts

    next-long : length x ≡ n.L
    next-long = next-length c s i ∙ ap (λ (m : Counts). m.L) r.counts

    abbrev line : List ℕ
    line = ended s 32 ++ (ended i 32 ++ (ended o 32 ++ ended x 10))

    whole : Filling out at line out at line
    whole = none_filled out at line (omega (arith, four-length s i o x n ls ins-length out-length next-long))

    put1 : Filling out at line o1 a1 (ended i 32 ++ (ended o 32 ++ ended x 10))
    put1 =
        part_filled whole (ended s 32) _ o1 a1 refl (w1 ∙ ap (put out at) (part-is t (1 + n.I) n.L 32 s rests.state))
        (omega (arith, ended-length s 32 n.L ls))

    put2 : Filling out at line o2 a2 (ended o 32 ++ ended x 10)
    put2 =
        part_filled put1 (ended i 32) _ o2 a2 refl (w2 ∙ ap (put o1 a1) (part-is t1 1 n.I 32 i inputs-there))
        (omega (arith, ended-length i 32 n.I ins-length))

    put3 : Filling out at line o3 a3 (ended x 10)
    put3 =
        part_filled put2 (ended o 32) _ o3 a3 refl (w3 ∙ ap (put o2 a2) (part-is t2 (n.M + 1) n.O 32 o p.outputs))
        (omega (arith, ended-length o 32 n.O out-length))

    put4 : Filling out at line o4 a4 []
    put4 =
        part_filled put3 (ended x 10) [] o4 a4 (sym (append-nil (ended x 10)))
        (w4 ∙ ap (put o3 a3) (part-is t2 (1 + n.I) n.L 10 x p.rests.state)) (omega (arith, ended-length x 10 n.L next-long))

    pub line_wrote : Wrote n c s i t2 out at o4
    line_wrote = record {
      rests = p.rests;
      line = all-filled put4 refl ∙ ap (put out at) (four s i o (bads_of c s i) (constraints_of c s i) x);
    }
