-- Demand 3 with unused gates dropped: from a file through reading, conversion, reduction and dropping, over the definitions and over the calls.
use Prim.Native.Nat.{ℕ}
use mathlib.Core.Path.{◌≡◌, refl, sym, ap, ◌∙◌, subst}
use mathlib.Core.Bool.{true}
use mathlib.Core.List.{List, map}
use lib.ListN.{length, length-map, drop}
use Rattle.plan.specs.declared.Counts.{Counts}
use Rattle.plan.specs.declared.Version.{Version}
use Rattle.plan.specs.Refusals.{got}
use Rattle.plan.specs.Circuit.{Circuit}
use Rattle.plan.specs.Reading.{read_file, WellFormed}
use Rattle.plan.specs.Binary.{binary_order}
use Rattle.plan.specs.Convert.{convert}
use Rattle.plan.specs.Reduce.{reduced, latch_becomes, reduce}
use Rattle.plan.specs.Step.{Value, Step, run, first_state}
use Rattle.plan.specs.Outcome.{conversion, reduction}
use Rattle.plan.specs.Drop.{drop_unused, dropping}
use Rattle.laws.proofs.Reading.Differences.{Bytes}
use Rattle.laws.proofs.Reading.Exactly.{sound, formed}
use Rattle.laws.proofs.Reading.Runs.{length-lits}
use Rattle.laws.proofs.Running.Refinement.{Les}
use Rattle.laws.proofs.Running.Monotone.{Replaced, Kept}
use Rattle.laws.proofs.Running.Converted.{latches-convert}
use Rattle.laws.proofs.Running.Resets.{first-convert, first-length}
use Rattle.laws.proofs.Running.Counts.{counts-reduce}
use Rattle.laws.proofs.Running.Unchanged.{convert-same}
use Rattle.laws.proofs.Running.Results.{convert-in-order, convert-well-formed, reduce-in-order, reduce-well-formed}
use Rattle.laws.proofs.Running.Runs.{Sized, les-length, replaced-sized}
use Rattle.laws.proofs.Running.WithoutX.{NoX, NoXs}
use Rattle.laws.proofs.Running.DemandThree.{demand-three, demand-three-from}
use Rattle.laws.proofs.Writing.Calls.{ReadCall, MakeCall, read_circuit, made_circuit, FromRead, FromMade, from-read, from-made, read-formed, converted-is, reduced-is}
use Rattle.laws.proofs.Writing.Later.{Left}
use Rattle.laws.proofs.Writing.StepBytes.{left_by, KeptSteps, shown, steps_from, Follows, converted-formed, converted-order, converted-from, converted-sized, later-kept, later_same}
use Rattle.laws.proofs.Walks.Dropped.{drop-run, drop-in-order, drop-well-formed}
use Rattle.laws.proofs.Walks.Later.{dropping-left, dropped-is, counts-drop}

abbrev pub after : Circuit → Circuit
after c = drop_unused (reduce (convert c))

module _ (c : Circuit) (w : WellFormed c) (is js : List (List Value)) (z : Sized (length c.inputs) is) (r : Replaced is js) where
  same_runs : (s : List Value) → length s ≡ length c.latches → run (reduce (convert c)) s js ≡ run (after c) s js
  same_runs s h =
      let d = reduce (convert c) in
      let wd = reduce-well-formed (convert c) (convert-well-formed c w) (convert-in-order c w) in
      let td = reduce-in-order (convert c) (convert-well-formed c w) (convert-in-order c w) in
      let long : length s ≡ length d.latches
      = h ∙ sym (length-map (convert c).latches (latch_becomes (reduced (convert c)).became) ∙ latches-convert c) in
      sym (drop-run d wd td js
      (subst (λ (n : ℕ). Sized n js) (sym (length-lits 1 (length c.inputs))) (replaced-sized (length c.inputs) is js r z)) s long)

  -- from any state that replaces x of the resets in any way
  pub demand-three-dropped-from : (s : List Value) → Les (first_state c) s → Kept (run c (first_state c) is) (run (after c) s js)
  demand-three-dropped-from s start =
      subst (λ (x : List Step). Kept (run c (first_state c) is) x)
      (same_runs s (sym (les-length (first_state c) s start) ∙ first-length c w)) (demand-three-from c w is js z r s start)

  -- from the resets: at every step each output, bad state, constraint and latch that was 0 or 1 is the same after conversion, reduction
  -- and dropping; if the input vectors hold no x and no reset is x, so is every step
  pub demand-three-dropped : Kept (run c (first_state c) is) (run (after c) (first_state (after c)) js)
      × (NoXs is → NoX (first_state c) → run c (first_state c) is ≡ run (after c) (first_state (after c)) js)
  demand-three-dropped =
      let d = demand-three c w is js z r in
      let e = same_runs (first_state (after c)) (ap length (first-convert c) ∙ first-length c w) in
      (subst (λ (x : List Step). Kept (run c (first_state c) is) x) e d.0, λ x f. d.1 x f ∙ e)

-- of every file that the reader accepts
pub demand-three-file : (v : Version) (file lengths : List ℕ) → Bytes file → (c : Circuit) (start : ℕ) → read_file v file lengths ≡ got c start
    → (is js : List (List Value)) → Sized (length c.inputs) is → Replaced is js
    → Kept (run c (first_state c) is) (run (after c) (first_state (after c)) js)
    × (NoXs is → NoX (first_state c) → run c (first_state c) is ≡ run (after c) (first_state (after c)) js)
demand-three-file v file lengths bytes c start q =
    demand-three-dropped c (formed v file c (drop start file) (sound v file lengths bytes c start q).0)

-- of a read, a conversion, a reduction and a dropping, each handed what the one before left
pub demand-three-calls : (r : ReadCall) (m : MakeCall conversion) → FromRead m.entry.circuit r
    → (s : MakeCall reduction) → FromMade conversion s.entry.circuit m
    → (u : MakeCall dropping) → FromMade reduction u.entry.circuit s
    → (is js : List (List Value)) → Sized (length (read_circuit r).inputs) is → Replaced is js
    → Kept (run (read_circuit r) (first_state (read_circuit r)) is) (run (made_circuit dropping u) (first_state (made_circuit dropping u)) js)
    × (NoXs is → NoX (first_state (read_circuit r))
    → run (read_circuit r) (first_state (read_circuit r)) is ≡ run (made_circuit dropping u) (first_state (made_circuit dropping u)) js)
demand-three-calls r m m-given s s-given u u-given is js sized replaced =
    let c = read_circuit r in
    let reduced-from : made_circuit reduction s ≡ reduce (convert c)
    = reduced-is s ∙ ap reduce (from-made conversion s.entry.circuit m s-given
    ∙ (converted-is m ∙ ap convert (from-read m.entry.circuit r m-given))) in
    let d-is : after c ≡ made_circuit dropping u
    = sym (dropped-is u ∙ ap drop_unused (from-made reduction u.entry.circuit s u-given ∙ reduced-from)) in
    subst (λ (d : Circuit). Kept (run c (first_state c) is) (run d (first_state d) js) × (NoXs is → NoX (first_state c) → run c (first_state c) is ≡ run d (first_state d) js)) d-is
    (demand-three-dropped c (read-formed r) is js sized replaced)

-- the same in the bytes of the stepper's calls: of what the conversion left on one list, and of what dropping left on a list in which any x is
-- replaced, both from the resets. No call refuses
module _ (r : ReadCall) (m : MakeCall conversion) (m-given : FromRead m.entry.circuit r)
    (s : MakeCall reduction) (s-given : FromMade conversion s.entry.circuit m)
    (u : MakeCall dropping) (u-given : FromMade reduction u.entry.circuit s) where
  abbrev d : Circuit
  d = convert (read_circuit r)

  w : WellFormed d
  w = converted-formed r m m-given

  o : binary_order d ≡ true
  o = converted-order r m m-given

  follows : Follows d (drop_unused (reduce d)) (left_by dropping u)
  follows = record {
    left =
        subst (Left (left_by dropping u)) (ap drop_unused (from-made reduction u.entry.circuit s u-given
        ∙ (reduced-is s ∙ ap reduce (from-made conversion s.entry.circuit m s-given ∙ converted-from r m m-given))))
        (dropping-left u.entry u.counts u.accepted).0;
    order = drop-in-order (reduce d) (reduce-well-formed d w o) (reduce-in-order d w o);
    formed = drop-well-formed (reduce d) (reduce-well-formed d w o) (reduce-in-order d w o);
    inputs = ap (λ (n : Counts). n.I) (counts-drop (reduce d)) ∙ ap (λ (n : Counts). n.I) (counts-reduce d);
    outputs = ap (λ (n : Counts). n.O) (counts-drop (reduce d)) ∙ ap (λ (n : Counts). n.O) (counts-reduce d);
    begins = refl;
  }

  module _ (is js : List (List Value)) (sized : Sized (length (read_circuit r).inputs) is) (replaced : Replaced is js)
      (outs outs' : List ℕ) (room : length outs ≡ length (read_circuit r).outputs) (room' : length outs' ≡ length (read_circuit r).outputs) where
    runs : Kept (run d (first_state d) is) (run (drop_unused (reduce d)) (first_state d) js)
        × (NoXs is → NoX (first_state d) → run d (first_state d) is ≡ run (drop_unused (reduce d)) (first_state d) js)
    runs =
        subst (λ (e : Circuit). Kept (run d (first_state d) is) (run (drop_unused (reduce e)) (first_state e) js)
        × (NoXs is → NoX (first_state d) → run d (first_state d) is ≡ run (drop_unused (reduce e)) (first_state e) js))
        (convert-same d w o) (demand-three-dropped d w is js (converted-sized r m m-given is sized) replaced)

    pub demand-three-dropped-steps : KeptSteps (steps_from (read_circuit r) (left_by conversion m) outs is)
        (steps_from (read_circuit r) (left_by dropping u) outs' js)
    demand-three-dropped-steps =
        later-kept r m m-given (drop_unused (reduce d)) (left_by dropping u) follows is js sized replaced outs outs' room room' runs.0

    pub same-dropped-steps : NoXs is → NoX (first_state (read_circuit r))
        → map shown (steps_from (read_circuit r) (left_by conversion m) outs is) ≡ map shown (steps_from (read_circuit r) (left_by dropping u) outs' js)
    same-dropped-steps x =
        later_same r m m-given (drop_unused (reduce d)) (left_by dropping u) follows is js sized replaced outs outs' room room' (runs.1 x)
