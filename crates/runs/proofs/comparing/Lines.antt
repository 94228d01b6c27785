-- One line of a run by the plain engine: its four parts.
use Prim.Native.Nat.{ℕ, ◌+◌, ◌≤◌}
use mathlib.Core.Path.{◌≡◌, refl, sym, ap, ap₂, ◌∙◌}
use mathlib.Core.Bool.{true}
use mathlib.Core.List.{List, [], ◌∷◌, ◌++◌, map, append_assoc, append-nil}
use native.Mathlib.Omega.{arith}
use lib.ListN.{length, length-map, length-append}
use Rattle.plan.specs.declared.Counts.{Counts}
use Rattle.plan.specs.Circuit.{Circuit, Tables, circuit_of}
use Rattle.plan.specs.Step.{Value, code_of, value_of, is_code, outputs_of, next_of, step_of}
use Rattle.plan.specs.Outcome.{all_codes, put}
use Rattle.plan.specs.Programs.{step_line}
use Rattle.plan.specs.Whole.{line_width}
use Rattle.laws.proofs.Reading.Common.{and_left, and_right}
use Rattle.laws.proofs.Running.Runs.{next-length}
use Rattle.write.proofs.print.Filling.{Filling, none_filled, part_filled, all-filled}
use Rattle.step.specs.sweep.Running.{Runs}
use Rattle.step.specs.Asked.{Leaves}
use Rattle.plain.proofs.Codes.{code-value}
use Rattle.runs.specs.comparing.Lined.{Vector, Lined}

-- codes are those of their values
pub values-codes : (l : List ℕ) → all_codes l ≡ true → map code_of (map value_of l) ≡ l
values-codes [] h = refl
values-codes (b ∷ l) h =
    ap₂ (λ (x : ℕ) (y : List ℕ). x ∷ y) (code-value b (and_left (is_code b) (all_codes l) h)) (values-codes l (and_right (is_code b) (all_codes l) h))

-- bytes and the byte after them
abbrev ended : List ℕ → ℕ → List ℕ
ended l last = l ++ (last ∷ [])

ended-length : (l : List ℕ) (last n : ℕ) → length l ≡ n → length (ended l last) ≡ n + 1
ended-length l last n e = length-append l (last ∷ []) ∙ ap (λ (k : ℕ). k + 1) e

four : (a b d e : List ℕ) → ended a 32 ++ (ended b 32 ++ (ended d 32 ++ ended e 10))
    ≡ a ++ (32 ∷ (b ++ (32 ∷ (d ++ (32 ∷ (e ++ (10 ∷ [])))))))
four a b d e = simp append_assoc

module _ {n : Counts} {x : Tables} (r : Runs n x) {state ins : List ℕ} (vs : Vector n.L state) (vi : Vector n.I ins)
    {state' outs' : List ℕ} (l : Leaves (circuit_of n x) state ins state' outs') where
  abbrev c : Circuit
  c = circuit_of n x

  abbrev s : List Value
  s = map value_of state

  abbrev i : List Value
  i = map value_of ins

  pub outs-long : length outs' ≡ n.O
  outs-long =
      ap length l.outputs
      ∙ (length-map (outputs_of c s i) code_of ∙ (length-map c.outputs _ ∙ ap (λ (m : Counts). m.O) r.counts))

  pub next-long : length state' ≡ n.L
  next-long =
      ap length l.next ∙ (length-map (next_of c s i) code_of ∙ (next-length c s i ∙ ap (λ (m : Counts). m.L) r.counts))

  abbrev line : List ℕ
  line = ended state 32 ++ (ended ins 32 ++ (ended outs' 32 ++ ended state' 10))

  line-is : line ≡ step_line (step_of c s i)
  line-is =
      four state ins outs' state'
      ∙ (ap₂ (λ (a b : List ℕ). a ++ (32 ∷ (b ++ (32 ∷ (outs' ++ (32 ∷ (state' ++ (10 ∷ []))))))))
      (sym (values-codes state vs.codes)) (sym (values-codes ins vi.codes))
      ∙ ap₂ (λ (d e : List ℕ). map code_of s ++ (32 ∷ (map code_of i ++ (32 ∷ (d ++ (32 ∷ (e ++ (10 ∷ []))))))))
      l.outputs l.next)

  line-long : length line ≡ line_width n
  line-long =
      omega (
        arith,
        length-append (ended state 32) (ended ins 32 ++ (ended outs' 32 ++ ended state' 10)),
        length-append (ended ins 32) (ended outs' 32 ++ ended state' 10),
        length-append (ended outs' 32) (ended state' 10),
        ended-length state 32 n.L vs.long,
        ended-length ins 32 n.I vi.long,
        ended-length outs' 32 n.O outs-long,
        ended-length state' 10 n.L next-long,
      )

  -- the four parts in the buffer
  module _ (out : List ℕ) (at : ℕ) {o1 o2 o3 o4 : List ℕ} {a1 a2 a3 : ℕ} (fits : at + line_width n ≤ length out)
      (w1 : o1 ≡ put out at (ended state 32)) (m1 : a1 ≡ at + length state + 1)
      (w2 : o2 ≡ put o1 a1 (ended ins 32)) (m2 : a2 ≡ a1 + length ins + 1)
      (w3 : o3 ≡ put o2 a2 (ended outs' 32)) (m3 : a3 ≡ a2 + n.O + 1)
      (w4 : o4 ≡ put o3 a3 (ended state' 10)) where
    whole : Filling out at line out at line
    whole = none_filled out at line (omega (arith, line-long))

    put1 : Filling out at line o1 a1 (ended ins 32 ++ (ended outs' 32 ++ ended state' 10))
    put1 = part_filled whole (ended state 32) _ o1 a1 refl w1 (omega (arith, ended-length state 32 n.L vs.long, vs.long))

    put2 : Filling out at line o2 a2 (ended outs' 32 ++ ended state' 10)
    put2 = part_filled put1 (ended ins 32) _ o2 a2 refl w2 (omega (arith, ended-length ins 32 n.I vi.long, vi.long))

    put3 : Filling out at line o3 a3 (ended state' 10)
    put3 = part_filled put2 (ended outs' 32) _ o3 a3 refl w3 (omega (arith, ended-length outs' 32 n.O outs-long))

    put4 : Filling out at line o4 (a3 + length (ended state' 10)) []
    put4 = part_filled put3 (ended state' 10) [] o4 _ (sym (append-nil (ended state' 10))) w4 refl

    pub line-lined : Lined c state ins state' out at o4
    line-lined = record { next = l.next; line = all-filled put4 refl ∙ ap (put out at) line-is }
