-- Converted and reduced, a well-formed circuit does what it did: what was 0 or 1 is the same at every step, and without x all is.
use Prim.Native.Nat.{ℕ}
use mathlib.Core.Path.{◌≡◌, refl, sym, ap, ap₂, ◌∙◌, subst}
use mathlib.Core.List.{List, [], ◌∷◌}
use lib.ListN.{length, drop}
use Rattle.plan.specs.declared.Version.{Version}
use Rattle.plan.specs.Refusals.{got}
use Rattle.plan.specs.Circuit.{Circuit, nexts}
use Rattle.plan.specs.Reading.{read_file, WellFormed}
use Rattle.plan.specs.Convert.{convert}
use Rattle.plan.specs.Reduce.{reduce}
use Rattle.plan.specs.Step.{Value, outputs_of, bads_of, constraints_of, next_of, Step, run, first_state}
use Rattle.laws.proofs.Reading.Differences.{Bytes}
use Rattle.laws.proofs.Reading.Exactly.{sound, formed}
use Rattle.laws.proofs.Running.Refinement.{Les, les-refl}
use Rattle.laws.proofs.Running.Monotone.{Replaced, Kept}
use Rattle.laws.proofs.Running.Accepted.{Accepted, accepted}
use Rattle.laws.proofs.Running.Converted.{convert-ordered}
use Rattle.laws.proofs.Running.Resets.{first-convert, first-length}
use Rattle.laws.proofs.Running.Runs.{Sized, next-length, run-converted, run-reduced}
use Rattle.laws.proofs.Running.WithoutX.{NoX, NoXs, les-eq, lits-nox}

abbrev after : Circuit → Circuit
after c = reduce (convert c)

same_first : (c : Circuit) → first_state c ≡ first_state (after c)
same_first c = sym (first-convert c)

same_inputs : (is js : List (List Value)) → Replaced is js → NoXs is → is ≡ js
same_inputs [] [] r x = refl
same_inputs [] (j ∷ js) r x = absurd r
same_inputs (i ∷ is) [] r x = absurd r
same_inputs (i ∷ is) (j ∷ js) r x =
    ap₂ (λ (a : List Value) (t : List (List Value)). a ∷ t) (les-eq i j r.0 x.0) (same_inputs is js r.1 x.1)

module _ (c : Circuit) (ok : Accepted c) where
  run-same : (is : List (List Value)) → Sized (length c.inputs) is → NoXs is → (s s' : List Value) → length s ≡ length c.latches
      → NoX s → s ≡ s'
      → Kept (run c s is) (run (after c) s' is) → run c s is ≡ run (after c) s' is
  run-same [] z x s s' h k e r = refl
  run-same (i ∷ is) z x s s' h k e r =
      let n = lits-nox c ok s i h z.0 k x.0 (nexts c.latches) ok.used-next in
      let p = les-eq (outputs_of c s i) (outputs_of (after c) s' i) r.1
      (lits-nox c ok s i h z.0 k x.0 c.outputs ok.used-output) in
      let b = les-eq (bads_of c s i) (bads_of (after c) s' i) r.2 (lits-nox c ok s i h z.0 k x.0 c.bads ok.used-bad) in
      let d = les-eq (constraints_of c s i) (constraints_of (after c) s' i) r.3
      (lits-nox c ok s i h z.0 k x.0 c.constraints ok.used-constraint) in
      let q = les-eq (next_of c s i) (next_of (after c) s' i) r.4 n in
      let t = run-same is z.1 x.1 (next_of c s i) (next_of (after c) s' i) (next-length c s i) n q r.5 in
      λ j. record { state = e j; inputs = i; outputs = p j; bads = b j; constraints = d j; next = q j } ∷ t j

-- demand 3, from any state that replaces x of the resets in any way: with x in the input vectors replaced in any way, at every step each
-- output, bad state, constraint and latch that was 0 or 1 is the same after conversion and reduction
pub demand-three-from : (c : Circuit) → WellFormed c → (is js : List (List Value)) → Sized (length c.inputs) is → Replaced is js
    → (s : List Value) → Les (first_state c) s
    → Kept (run c (first_state c) is) (run (reduce (convert c)) s js)
demand-three-from c w is js z r s start =
    subst (λ (t : List Step). Kept t (run (after c) s js)) (run-converted c (accepted c w) is z (first_state c) (first-length c w))
    (run-reduced (convert c) (convert-ordered c (accepted c w)) is js r (first_state c) s start)

-- demand 3: from the resets, with x in the input vectors replaced in any way, at every step each output, bad state, constraint and latch
-- that was 0 or 1 is the same after conversion and reduction; if the input vectors hold no x and no reset is x, so is every step
pub demand-three : (c : Circuit) → WellFormed c → (is js : List (List Value)) → Sized (length c.inputs) is → Replaced is js
    → Kept (run c (first_state c) is) (run (reduce (convert c)) (first_state (reduce (convert c))) js)
    × (NoXs is → NoX (first_state c) → run c (first_state c) is ≡ run (reduce (convert c)) (first_state (reduce (convert c))) js)
demand-three c w is js z r = (kept js r, same)
  where
    start : Les (first_state c) (first_state (after c))
    start = subst (λ (t : List Value). Les (first_state c) t) (same_first c) (les-refl (first_state c))

    kept : (js : List (List Value)) → Replaced is js → Kept (run c (first_state c) is) (run (after c) (first_state (after c)) js)
    kept js r = demand-three-from c w is js z r (first_state (after c)) start

    same : NoXs is → NoX (first_state c) → run c (first_state c) is ≡ run (after c) (first_state (after c)) js
    same x f =
        let e = same_inputs is js r x in
        run-same c (accepted c w) is z x (first_state c) (first_state (after c)) (first-length c w) f (same_first c)
        (kept is (subst (λ (t : List (List Value)). Replaced is t) (sym e) r))
        ∙ ap (run (after c) (first_state (after c))) e

-- the same of every file that the reader accepts
pub demand-three-file : (v : Version) (file lengths : List ℕ) → Bytes file → (c : Circuit) (start : ℕ) → read_file v file lengths ≡ got c start
    → (is js : List (List Value)) → Sized (length c.inputs) is → Replaced is js
    → Kept (run c (first_state c) is) (run (reduce (convert c)) (first_state (reduce (convert c))) js)
    × (NoXs is → NoX (first_state c) → run c (first_state c) is ≡ run (reduce (convert c)) (first_state (reduce (convert c))) js)
demand-three-file v file lengths bytes c start q =
    demand-three c (formed v file c (drop start file) (sound v file lengths bytes c start q).0)
