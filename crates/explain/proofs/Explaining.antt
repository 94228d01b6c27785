-- From the literals' words to the marks.
use Prim.Native.Nat.{ℕ, ◌+◌, ◌*◌, ◌≤◌, ◌<◌}
use mathlib.Core.Path.{◌≡◌, sym, ap, ap₂, ◌∙◌, subst}
use mathlib.Core.List.{List, [], ◌∷◌, ◌++◌, map}
use native.Mathlib.Omega.{arith}
use lib.ListN.{length, get_or, take, drop, length-append, length-map, length-drop}
use lib.Seq.{length-take-le}
use Rattle.plan.specs.declared.Counts.{Counts}
use Rattle.plan.specs.Literals.{var_of}
use Rattle.plan.specs.Circuit.{Circuit, Tables, circuit_of}
use Rattle.plan.specs.Step.{Value, code_of, lit, values_of}
use Rattle.plan.specs.Outcome.{put}
use Rattle.plan.specs.Walk.{walk}
use Rattle.laws.proofs.Put.{put-put}
use Rattle.laws.proofs.Reading.Runs.{order-exactly}
use Rattle.laws.proofs.Tables.{gates_at}
use Rattle.step.specs.values.Words.{may1, told, values_at}
use Rattle.plan.specs.Explain.{blames, marks_for}
use Rattle.step.specs.sweep.Running.{these, lits_of, Runs, Stepped}
use Rattle.explain.specs.Known.{Space, Known}
use Rattle.explain.specs.Asked.{Asked}
use Rattle.explain.proofs.Shown.{marks-shown, blamed-is}

-- where the marks start
abbrev pub marks_at : Counts → ℕ
marks_at n = n.M + 1 + n.O + 2 * (n.M + 1)

-- `count` codes
part-long : (t : List ℕ) (from count : ℕ) → from + count ≤ length t → length (map code_of (values_at t from count)) ≡ count
part-long t from count h =
    length-map (values_at t from count) code_of ∙ length-map (take count (drop from t)) told
    ∙ length-take-le count (drop from t) (omega (arith, length-drop from t))

module _ (x : Tables) (latches outputs : List ℕ) (s i : List Value) {n : Counts} {gates : List ℕ} {l : ℕ} {t marks : List ℕ}
    (r : Runs n (these x latches outputs gates)) (p : Asked n gates l t marks) where
  abbrev c : Circuit
  c = circuit_of n (these x latches outputs gates)

  pub explained : Stepped n c s i t → (t1 t2 t3 out out' : List ℕ) → length t3 ≡ length t
      → ((w : ℕ → Value) (k : ℕ) → k + 2 * (n.M + 1) ≤ marks_at n
      → ((q : ℕ) → q < 2 * (n.M + 1) → get_or t (k + q) 0 ≡ may1 (lit w q)) → Known w k (marks_at n) (n.M + 1) [] t1)
      → ((w : ℕ → Value) (k b : ℕ) (seen : List ℕ) → k + 2 * b ≤ marks_at n → var_of l < b → Known w k (marks_at n) b seen t1
      → Known w k (marks_at n) b (var_of l ∷ seen) t2)
      → ((w : ℕ → Value) (seen : List ℕ) → Known w (lits_of n) (marks_at n) (n.M + 1) seen t2
      → Known w (lits_of n) (marks_at n) (n.M + 1) (walk (blames w) (gates_at gates n.A) seen) t3)
      → out ≡ put marks 0 (map code_of (values_at t3 (marks_at n + (1 + n.I)) n.L))
      → out' ≡ put out n.L (map code_of (values_at t3 (marks_at n + 1) n.I)) → out' ≡ put marks 0 (marks_for c s i l)
  explained stepped t1 t2 t3 out out' same blank mark walked first second =
      second ∙ ap₂ (λ (z : List ℕ) (k : ℕ). put z k right) first (sym at) ∙ put-put marks 0 left right fits
      ∙ ap (put marks 0) ((λ j. map code_of (values_at t3 (m + (1 + is j)) (ls j)) ++ map code_of (values_at t3 (m + 1) (is j)))
      ∙ marks-shown c ((order-exactly c).0 r.order) s i l (lits_of n) m (n.M + 1) t3 few space
      (subst (λ (z : List ℕ). Known (values_of c s i) (lits_of n) m (n.M + 1) z t3) (blamed-is n (these x latches outputs gates) s i l) known))
    where
      m : ℕ
      m = marks_at n

      is : n.I ≡ length c.inputs
      is = sym (ap (λ (z : Counts). z.I) r.counts)

      ls : n.L ≡ length c.latches
      ls = sym (ap (λ (z : Counts). z.L) r.counts)

      few : length c.inputs + length c.latches < n.M + 1
      few = omega (arith, is, ls, p.sum)

      space : Space (lits_of n) m (n.M + 1) t3
      space = record { apart = omega arith; long = omega (arith, same, p.scratch) }

      known : Known (values_of c s i) (lits_of n) m (n.M + 1) (walk (blames (values_of c s i)) (gates_at gates n.A) (var_of l ∷ [])) t3
      known =
          walked (values_of c s i) (var_of l ∷ []) (mark (values_of c s i) (lits_of n) (n.M + 1) [] (omega arith) p.literal
          (blank (values_of c s i) (lits_of n) (omega arith) (λ q h. stepped.literals q (omega arith))))

      left : List ℕ
      left = map code_of (values_at t3 (m + (1 + n.I)) n.L)

      right : List ℕ
      right = map code_of (values_at t3 (m + 1) n.I)

      left-long : length left ≡ n.L
      left-long = part-long t3 (m + (1 + n.I)) n.L (omega (arith, same, p.scratch, p.sum))

      right-long : length right ≡ n.I
      right-long = part-long t3 (m + 1) n.I (omega (arith, same, p.scratch, p.sum))

      at : 0 + length left ≡ n.L
      at = omega (arith, left-long)

      fits : 0 + length (left ++ right) ≤ length marks
      fits = omega (arith, length-append left right, left-long, right-long, p.room)
