-- Tracing in parts is tracing the whole: lists of vectors put together, and how long their lines are.
use Prim.Native.Nat.{ℕ, zero, suc, ◌+◌, ◌*◌, ◌≤◌}
use mathlib.Core.Path.{◌≡◌, refl, sym, ap, ap₂, ◌∙◌}
use mathlib.Core.Bool.{true, ◌&&◌}
use mathlib.Core.List.{List, [], ◌∷◌, ◌++◌, map, append_assoc}
use native.Mathlib.Nat.{mul-suc, mul-zero}
use native.Mathlib.Omega.{arith}
use borrow.Author.Tests.{eqb-true}
use lib.Dec.{eqb}
use lib.ListN.{length, take, drop, length-map, length-append}
use lib.Seq.{drop-drop}
use Rattle.plan.specs.declared.Counts.{Counts}
use Rattle.plan.specs.Circuit.{Circuit, counts_of}
use Rattle.plan.specs.Step.{Value, value_of, next_of, Step, step_of, run}
use Rattle.plan.specs.Outcome.{all_codes}
use Rattle.plan.specs.Programs.{lines_in, all_vectors, step_line, step_lines}
use Rattle.plan.specs.Whole.{line_width, state_after}
use Rattle.laws.proofs.Reading.Common.{and_left, and_right}
use Rattle.laws.proofs.Running.Runs.{Sized, next-length}
use Rattle.runs.proofs.trace.Lines.{next-line}
use Rattle.runs.proofs.trace.Writing.{line-length}

lines-together : (a b : List Step) → step_lines (a ++ b) ≡ step_lines a ++ step_lines b
lines-together [] b = refl
lines-together (s ∷ a) b =
    ap (λ (l : List ℕ). step_line s ++ l) (lines-together a b) ∙ sym (append_assoc (step_line s) (step_lines a) (step_lines b))

run-together : (c : Circuit) (s : List Value) (a b : List (List Value)) → run c s (a ++ b) ≡ run c s a ++ run c (state_after c s a) b
run-together c s [] b = refl
run-together c s (i ∷ a) b = ap (λ (l : List Step). step_of c s i ∷ l) (run-together c (next_of c s i) a b)

pub state-together : (c : Circuit) (s : List Value) (a b : List (List Value)) → state_after c s (a ++ b) ≡ state_after c (state_after c s a) b
state-together c s [] b = refl
state-together c s (i ∷ a) b = state-together c (next_of c s i) a b

-- the lines of two parts, of which the second starts from the state after the first
pub traced-together : (c : Circuit) (s : List Value) (a b : List (List Value))
    → step_lines (run c s (a ++ b)) ≡ step_lines (run c s a) ++ step_lines (run c (state_after c s a) b)
traced-together c s a b = ap step_lines (run-together c s a b) ∙ lines-together (run c s a) (run c (state_after c s a) b)

-- a line for each vector, and each of one width
pub traced-length : (c : Circuit) (n : Counts) → counts_of c ≡ n → (list : List (List Value)) → Sized n.I list → (s : List Value)
    → length s ≡ n.L → length (step_lines (run c s list)) ≡ line_width n * length list
traced-length c n e [] z s h = sym (mul-zero (line_width n))
traced-length c n e (i ∷ list) z s h =
    let line = line-length c n s i h z.0 (ap (λ (m : Counts). m.O) e) (ap (λ (m : Counts). m.L) e) in
    let rest = traced-length c n e list z.1 (next_of c s i) (next-length c s i ∙ ap (λ (m : Counts). m.L) e) in
    length-append (step_line (step_of c s i)) (step_lines (run c (next_of c s i) list))
    ∙ (ap₂ ◌+◌ line rest ∙ sym (one_more (line_width n) (length list)))
  where
    one_more : (w k : ℕ) → w * suc k ≡ w + w * k
    one_more w k = omega (arith, mul-suc w k)

pub after-length : (c : Circuit) {l : ℕ} (list : List (List Value)) (s : List Value) → length c.latches ≡ l → length s ≡ l
    → length (state_after c s list) ≡ l
after-length c [] s e h = h
after-length c (i ∷ list) s e h = after-length c list (next_of c s i) e (next-length c s i ∙ e)

-- whole vectors, and those that are left of them
pub all-sized : (w : ℕ) (rows : List (List ℕ)) → all_vectors w rows ≡ true → (k : ℕ) → Sized w (map (map value_of) (take k rows))
all-sized w rows good zero = tt
all-sized w [] good (suc k) = tt
all-sized w (row ∷ rows) good (suc k) =
    let here = and_left (eqb (length row) w && all_codes row) (all_vectors w rows) good in (
      length-map row value_of ∙ eqb-true (length row) w (and_left (eqb (length row) w) (all_codes row) here),
      all-sized w rows (and_right (eqb (length row) w && all_codes row) (all_vectors w rows) good) k,
    )

pub lines-past : (w : ℕ) (l : List ℕ) → all_vectors w (lines_in l) ≡ true → (k : ℕ) → k ≤ length (lines_in l)
    → lines_in (drop ((w + 1) * k) l) ≡ drop k (lines_in l)
lines-past w l good zero h = ap (λ (m : ℕ). lines_in (drop m l)) (mul-zero (w + 1))
lines-past w l good (suc k) h =
    let f = next-line w l good (omega arith) in
    let at : (w + 1) * suc k ≡ w + 1 + (w + 1) * k = omega (arith, mul-suc (w + 1) k) in
    let few : k ≤ length (lines_in (drop (w + 1) l)) = omega (arith, ap length f.all) in
    ap (λ (m : ℕ). lines_in (drop m l)) at
    ∙ (ap lines_in (sym (drop-drop ((w + 1) * k) (w + 1) l))
    ∙ (lines-past w (drop (w + 1) l) f.good k few ∙ ap (drop (suc k)) (sym f.all)))
