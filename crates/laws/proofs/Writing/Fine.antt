-- A check of given tables finds nothing exactly if the counts are within the limits and add up, the tables are long enough and the
-- circuit is well formed.
use Prim.Native.Nat.{ℕ, zero, suc, ◌+◌, ◌≤◌}
use mathlib.Core.Path.{◌≡◌, refl, sym, ap, ◌∙◌, subst}
use mathlib.Core.Bool.{true}
use mathlib.Core.Logic.{◌↔◌}
use mathlib.Core.List.{List, [], ◌∷◌}
use Rattle.std.specs.Prelude.{None}
use native.Mathlib.Omega.{arith}
use borrow.Author.Tests.{leb-true, le-leb}
use lib.ListN.{length, length-take, length-map}
use lib.Seq.{length-take-le}
use Rattle.plan.specs.declared.Counts.{Counts}
use Rattle.plan.specs.declared.Refusal.TheVariants.{LargeCount, WrongSum, ShortTable, OutOfRange, DefinedTwice, NotDefined, Cyclic}
use Rattle.plan.specs.Refusals.{first_of}
use Rattle.plan.specs.Circuit.{Circuit, Lent, counts_of, least_short, latch_of, gate_of, rows_of, defined_in, used_in}
use Rattle.plan.specs.Bytes.{values}
use Rattle.plan.specs.Header.{text, list_of, over, adds}
use Rattle.plan.specs.Depends.{undefined_in, cyclic_in}
use Rattle.plan.specs.Reading.{WellFormed}
use Rattle.plan.specs.Given.{Given, given_circuit, counted, failing, outside_in, twice_in, lent_alone, stages}
use Rattle.laws.proofs.Reading.Headers.{AllMost, over_none, most-none}
use Rattle.laws.proofs.Reading.Short.{short_none}
use Rattle.laws.proofs.Reading.Undefined.{all-defined, defined-none}
use Rattle.laws.proofs.Reading.Cycles.{no-cycle, cycle-none}
use Rattle.laws.proofs.Running.Different.{different-once}
use Rattle.laws.proofs.Writing.Nothing.{stage-none, failing-none, first-all, none_inside, inside-none, once-different}

pub record Fine (g : Given) (lent : List Lent) : Type 0 where
  pub small : AllMost (list_of g.counts)
  pub sum : g.counts.I + g.counts.L + g.counts.A ≤ g.counts.M
  pub room : least_short lent ≡ None
  pub formed : WellFormed (given_circuit g)

counted-values : (t : ℕ) (l : List ℕ) → values (counted t l) ≡ l
counted-values t [] = refl
counted-values t (n ∷ l) = ap (λ (x : List ℕ). n ∷ x) (counted-values (t + 1) l)

-- counts that 2 lets pass are within the limit
pub counts-most : (n : Counts) → over (counted 1 (list_of n)) ≡ None → AllMost (list_of n)
counts-most n e = subst AllMost (counted-values 1 (list_of n)) (over_none (counted 1 (list_of n)) e)

pub length-rows : (k n : ℕ) (t : List ℕ) → length (rows_of k n t) ≡ n
length-rows k zero t = refl
length-rows k (suc n) t = ap suc (length-rows k n _)

module _ (g : Given) where
  abbrev n : Counts
  n = g.counts

  abbrev c : Circuit
  c = given_circuit g

  inputs-least : length c.inputs ≤ n.I
  inputs-least = omega (arith, length-take n.I g.tables.inputs)

  outputs-least : length c.outputs ≤ n.O
  outputs-least = omega (arith, length-take n.O g.tables.outputs)

  bads-least : length c.bads ≤ n.B
  bads-least = omega (arith, length-take n.B g.tables.bads)

  constraints-least : length c.constraints ≤ n.C
  constraints-least = omega (arith, length-take n.C g.tables.constraints)

  latches-are : length c.latches ≡ n.L
  latches-are = length-map (rows_of 2 n.L g.tables.latches) latch_of ∙ length-rows 2 n.L g.tables.latches

  gates-are : length c.gates ≡ n.A
  gates-are = length-map (rows_of 3 n.A g.tables.gates) gate_of ∙ length-rows 3 n.A g.tables.gates

  -- tables that are long enough hold as many entries as the counts say
  pub counts-held : n.I ≤ length g.tables.inputs → n.O ≤ length g.tables.outputs → n.B ≤ length g.tables.bads
      → n.C ≤ length g.tables.constraints → counts_of (given_circuit g) ≡ g.counts
  counts-held i o b k =
      let few : length c.inputs ≡ n.I = length-take-le n.I g.tables.inputs i in
      let outs : length c.outputs ≡ n.O = length-take-le n.O g.tables.outputs o in
      let bads : length c.bads ≡ n.B = length-take-le n.B g.tables.bads b in
      let cons : length c.constraints ≡ n.C = length-take-le n.C g.tables.constraints k in
      λ j. record { M = n.M; I = few j; L = latches-are j; O = outs j; A = gates-are j; B = bads j; C = cons j }

  pub counts-given : least_short (lent_alone g) ≡ None → counts_of (given_circuit g) ≡ g.counts
  counts-given e = let l = (short_none (lent_alone g)).0 e in counts-held l.0 l.1.1.0 l.1.1.1.1.1.1.1.0 l.1.1.1.1.1.1.1.1.0

module _ (g : Given) (lent : List Lent) where
  pub nothing-fine : first_of (stages g lent) ≡ None → Fine g lent
  nothing-fine e =
      let s = first-all (stages g lent) e in
      let small : AllMost (list_of g.counts)
      = counts-most g.counts (stage-none LargeCount (over (counted 1 (list_of g.counts))) s.0) in
      let sum : g.counts.I + g.counts.L + g.counts.A ≤ g.counts.M
      = leb-true _ _ (failing-none (adds text g.counts) (stage-none WrongSum (failing (adds text g.counts)) s.1.0)) in
      let i = none_inside (given_circuit g) (stage-none OutOfRange (outside_in (given_circuit g)) s.1.1.1.0) in
      record {
        small = small;
        sum = sum;
        room = stage-none ShortTable (least_short lent) s.1.1.0;
        formed = record {
          most-M = small.0;
          most-I = omega (arith, small.1.0, inputs-least g);
          most-L = omega (arith, small.1.1.0, latches-are g);
          most-O = omega (arith, small.1.1.1.0, outputs-least g);
          most-A = omega (arith, small.1.1.1.1.0, gates-are g);
          most-B = omega (arith, small.1.1.1.1.1.0, bads-least g);
          most-C = omega (arith, small.1.1.1.1.1.1.0, constraints-least g);
          sum = omega (arith, inputs-least g, latches-are g, gates-are g);
          inputs = i.inputs;
          latches = i.latches;
          resets = i.resets;
          outputs = i.outputs;
          bads = i.bads;
          constraints = i.constraints;
          gates = i.gates;
          different = once-different (given_circuit g) (stage-none DefinedTwice (twice_in (given_circuit g)) s.1.1.1.1.0);
          defined = all-defined (zero ∷ defined_in (given_circuit g)) (used_in (given_circuit g))
              (stage-none NotDefined (undefined_in (given_circuit g)) s.1.1.1.1.1.0);
          acyclic = no-cycle (given_circuit g).gates (stage-none Cyclic (cyclic_in (given_circuit g)) s.1.1.1.1.1.1.0);
        };
      }

  pub fine-nothing : Fine g lent → first_of (stages g lent) ≡ None
  fine-nothing f =
      let w = f.formed in
      let e2 : over (counted 1 (list_of g.counts)) ≡ None
      = most-none (counted 1 (list_of g.counts)) (subst AllMost (sym (counted-values 1 (list_of g.counts))) f.small) in
      let e3 : adds text g.counts ≡ true = le-leb _ _ f.sum in
      let e5 : outside_in (given_circuit g) ≡ None
      = inside-none (given_circuit g) (record {
        inputs = w.inputs;
        latches = w.latches;
        outputs = w.outputs;
        gates = w.gates;
        resets = w.resets;
        bads = w.bads;
        constraints = w.constraints;
      }) in
      let e6 : twice_in (given_circuit g) ≡ None = different-once (given_circuit g) w.different in
      let e7 : undefined_in (given_circuit g) ≡ None = defined-none (zero ∷ defined_in (given_circuit g)) (used_in (given_circuit g)) w.defined in
      let e8 : cyclic_in (given_circuit g) ≡ None = cycle-none (given_circuit g).gates (given_circuit g).gates w.acyclic in
      rw (e2, e3, f.room, e5, e6, e7, e8)

  pub fine-exactly : (first_of (stages g lent) ≡ None) ↔ Fine g lent
  fine-exactly = (nothing-fine, fine-nothing)
