-- The makings that follow a conversion, each handed what the one before left: the reduction, and then unused gates dropped. Neither is refused.
use Prim.Native.Nat.{ℕ, ◌≤◌}
use mathlib.Core.Path.{◌≡◌, ap, ◌∙◌}
use mathlib.Core.Bool.{true}
use mathlib.Core.List.{List, [], ◌∷◌, ◌++◌}
use Rattle.std.specs.Prelude.{Ok}
use native.Mathlib.Omega.{arith}
use lib.ListN.{length}
use Rattle.plan.specs.declared.Counts.{Counts}
use Rattle.plan.specs.declared.Version.TheVariants.{V19}
use Rattle.plan.specs.Refusals.{first_of}
use Rattle.plan.specs.Circuit.{Tables}
use Rattle.plan.specs.Binary.{binary_order}
use Rattle.plan.specs.Given.{Given, given_circuit, lent_with, stages, order_stage}
use Rattle.plan.specs.Reduce.{reduce}
use Rattle.plan.specs.Drop.{drop_unused, dropping}
use Rattle.plan.specs.Outcome.{MakeEntry, MakeExit, reduction}
use Rattle.laws.proofs.Running.Counts.{counts-reduce, tail-reduce}
use Rattle.laws.proofs.Running.Results.{reduce-fewer}
use Rattle.laws.proofs.Writing.Later.{reduction-left}
use Rattle.laws.proofs.Writing.Accepting.{reduction-accepted}
use Rattle.laws.proofs.Walks.Later.{dropping-left, dropping-accepted, tail-drop}
use Rattle.tables.specs.Lengths.{sizes_of}
use Rattle.whole.specs.Opening.{Ready}
use Rattle.whole.proofs.Writes.{Passed, after, made-counts, made-ready, smaller, fine-is, counts-are, left_here, tail-here, long-here, smaller-long}
use Rattle.whole.proofs.Writes.{scratch-kept}

module _ (g : Given) (t : Tables) (tail : List ℕ) (ready : Ready g tail (sizes_of t)) (order : binary_order (given_circuit g) ≡ true) where
  abbrev e : MakeEntry
  e = record { circuit = g; written = t }

  pub reduces : Passed (reduction (record { circuit = g; written = t })) (reduce (given_circuit g)) tail
  reduces = record {
    took = reduction-accepted g (given_circuit g) (left_here g tail (sizes_of t) ready) t (long-here g tail (sizes_of t) ready) order;
    lefts = reduction-left e;
    tail-ok = tail-reduce V19 (given_circuit g) tail (tail-here g tail (sizes_of t) ready);
  }

  -- it stands ready to be freed of unused gates, back in the tables that the circuit stood in
  pub reduced-ready : (x : MakeExit) → x ≡ reduction (record { circuit = g; written = t }) → (n : Counts) → x.answer ≡ Ok n
      → Ready (after n x) tail (sizes_of g.tables)
  reduced-ready x said n a =
      let here = counts-are g tail (sizes_of t) ready in
      let counts : n ≡ smaller g.counts (length (reduce (given_circuit g)).gates)
      = made-counts _ _ tail reduces x said n a
      ∙ (counts-reduce (given_circuit g) ∙ ap (λ (m : Counts). smaller m (length (reduce (given_circuit g)).gates)) here) in
      let few : length (reduce (given_circuit g)).gates ≤ g.counts.A
      = omega (arith, reduce-fewer (given_circuit g) (fine-is g tail (sizes_of t) ready).formed order, ap (λ (m : Counts). m.A) here) in
      let kept : length x.scratch ≡ length g.scratch
      = ap (λ (y : MakeExit). length y.scratch) said
      ∙ scratch-kept (first_of (stages g (lent_with g t) ++ (order_stage g ∷ []))) e (reduce (given_circuit g)) in
      made-ready _ _ tail reduces x said n a (sizes_of g.tables)
      (smaller-long g tail (sizes_of t) ready n (length (reduce (given_circuit g)).gates) counts few x.scratch kept)

  pub drops : Passed (dropping (record { circuit = g; written = t })) (drop_unused (given_circuit g)) tail
  drops = record {
    took = dropping-accepted g (given_circuit g) (left_here g tail (sizes_of t) ready) t (long-here g tail (sizes_of t) ready) order;
    lefts = dropping-left e;
    tail-ok = tail-drop V19 (given_circuit g) tail (tail-here g tail (sizes_of t) ready);
  }
