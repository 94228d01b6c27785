-- The reduced circuit, table by table, from gates that were folded and literals that were replaced.
use Prim.Native.Nat.{ℕ, ◌+◌, ◌*◌, ◌<◌, ◌≤◌}
use mathlib.Core.Path.{◌≡◌, refl, sym, ap, ap₂, ◌∙◌, subst}
use mathlib.Core.Bool.{true}
use mathlib.Core.List.{List, [], map}
use native.Mathlib.Omega.{arith}
use lib.ListN.{length, get_or, take}
use Rattle.plan.specs.declared.Counts.{Counts}
use Rattle.plan.specs.Literals.{lit_of}
use Rattle.plan.specs.Circuit.{Gate, Latch, Circuit, Tables, latch_line, gate_line, flat, nexts, resets_ok}
use Rattle.plan.specs.Binary.{lits_from, latches_from}
use Rattle.plan.specs.Given.{Given, given_circuit}
use Rattle.plan.specs.Reduce.{Reduced, becomes, reduce_gates, reduced, latch_becomes, reduce}
use Rattle.plan.specs.Outcome.{put}
use Rattle.laws.proofs.Held.{Holds}
use Rattle.laws.proofs.Reading.Runs.{BinaryOrder, order-exactly, length-nexts}
use Rattle.laws.proofs.Tables.{gates_at, gates-rows}
use Rattle.laws.proofs.Running.Binary.{Binary, inner, Bounded, Ordered}
use Rattle.laws.proofs.Running.Sides.{sides-below}
use Rattle.laws.proofs.Running.InOrder.{well-ordered}
use Rattle.laws.proofs.Running.Resets.{resets-bounded}
use Rattle.laws.proofs.Running.Results.{reduce-fewer}
use Rattle.reduce.specs.folding.Folded.{folded, Foldable, Done}
use Rattle.judge.proofs.Sound.{Good, Wide}
use Rattle.reduce.specs.Becoming.{Replaceable, replaced}
use Rattle.reduce.proofs.Leaves.{leaf-stays, inputs-stay, currents-stay, resets-stay, lits-bounded, latches-bounded, bounded-more}
use Rattle.reduce.proofs.Leaves.{becomes-front, latches-words}

-- tables that the checks let pass, with 15, room in the tables lent for writing, and a table of gates and a scratch that are zero
pub record Ready (g : Given) (to : Tables) : Type 0 where
  pub good : Good true g
  pub wide : Wide g.counts to
  pub to-blank : (s : ℕ) → get_or to.gates s 0 ≡ 0
  pub scratch-blank : (s : ℕ) → get_or g.scratch s 0 ≡ 0

-- the circuit made stands first in the tables, and r gates of it were retained
pub record Written (d : Circuit) (to₀ to : Tables) (r : ℕ) : Type 0 where
  pub count : r ≡ length d.gates
  pub holds : Holds to₀ d to

-- the circuit made of gates that were retained: the literals of the other tables follow
abbrev pub through : Circuit → Reduced → Circuit
through c r = record {
  M = length c.inputs + length c.latches + length r.retained;
  inputs = c.inputs;
  latches = map (latch_becomes r.became) c.latches;
  resets = c.resets;
  outputs = map (becomes r.became) c.outputs;
  bads = map (becomes r.became) c.bads;
  constraints = map (becomes r.became) c.constraints;
  gates = r.retained;
}

module _ (g : Given) (to : Tables) (ready : Ready g to) where
  abbrev n : Counts
  n = g.counts

  abbrev c : Circuit
  c = given_circuit g

  -- the first variable after the leaves', and the first after the gates'
  abbrev pub base : ℕ
  base = 1 + g.counts.I + g.counts.L

  abbrev pub top : ℕ
  top = 1 + g.counts.I + g.counts.L + g.counts.A

  pub order : BinaryOrder c
  order = (order-exactly c).0 (ready.good.order refl)

  ordered : Ordered c
  ordered = well-ordered c order ready.good.formed

  some-inputs : length c.inputs ≡ n.I
  some-inputs = ap (λ (m : Counts). m.I) ready.good.counts

  some-latches : length c.latches ≡ n.L
  some-latches = ap (λ (m : Counts). m.L) ready.good.counts

  some-gates : length c.gates ≡ n.A
  some-gates = ap (λ (m : Counts). m.A) ready.good.counts

  pub sum : n.I + n.L + n.A ≡ n.M
  sum = omega (arith, order.sum, some-inputs, some-latches, some-gates)

  pub inner-is : inner c ≡ base
  inner-is = omega (arith, some-inputs, some-latches)

  pub in_order : Binary base (gates_at g.tables.gates n.A)
  in_order =
      subst (λ (m : ℕ). Binary m (gates_at g.tables.gates n.A)) inner-is
      (subst (λ (gs : List Gate). Binary (inner c) gs) (gates-rows g.tables.gates n.A) ordered.gates-in)

  pub foldable : Foldable g.tables.gates to.gates g.scratch base n.A
  foldable = record {
    leaf = omega arith;
    few = omega (arith, sum, ready.good.fits.most-M);
    gates-long = ready.good.fits.gates-long;
    to-long = ready.wide.gates;
    scratch-long = omega (arith, sum, ready.good.scratch);
    below = λ k h.
        let sides = sides-below base g.tables.gates n.A k h in_order in
        record { rhs0 = sides.0; rhs1 = sides.1 };
    to-blank = ready.to-blank;
    scratch-blank = ready.scratch-blank;
  }

  folded-is : folded g.tables.gates base n.A ≡ reduced c
  unfolding folded
  folded-is =
      ap₂ (λ (m : ℕ) (gs : List Gate). reduce_gates (record { became = lits_from 0 m; retained = []; fresh = m }) gs)
      (sym inner-is) (sym (gates-rows g.tables.gates n.A))

  pub top-is : inner c + length c.gates ≡ top
  top-is = omega (arith, inner-is, some-gates)

  -- each table's literals are of variables in use
  words-of-latches : take (2 * n.L) g.tables.latches ≡ flat (map latch_line (latches_from (1 + length c.inputs) (nexts c.latches)))
  words-of-latches =
      latches-words n.L g.tables.latches ready.good.fits.latches-long
      ∙ ap (λ (ls : List Latch). flat (map latch_line ls)) order.latches

  pub inputs-low : Bounded top (take n.I g.tables.inputs)
  inputs-low =
      subst (λ (ls : List ℕ). Bounded top ls) (sym order.inputs)
      (lits-bounded top 1 (length c.inputs) (omega (arith, some-inputs)))

  pub latches-low : Bounded top (take (2 * n.L) g.tables.latches)
  latches-low =
      subst (λ (ls : List ℕ). Bounded top ls) (sym words-of-latches)
      (latches-bounded top (1 + length c.inputs) (nexts c.latches)
      (omega (arith, some-inputs, some-latches, length-nexts c.latches))
      (subst (λ (k : ℕ). Bounded k (nexts c.latches)) top-is ordered.next-in))

  pub outputs-low : Bounded top (take n.O g.tables.outputs)
  outputs-low = subst (λ (k : ℕ). Bounded k c.outputs) top-is ordered.output-in

  resets-low : Bounded top (take n.L g.tables.resets)
  resets-low = subst (λ (k : ℕ). Bounded k c.resets) top-is (resets-bounded c order ready.good.formed.resets)

  pub bads-low : Bounded top (take n.B g.tables.bads)
  bads-low = subst (λ (k : ℕ). Bounded k c.bads) top-is ordered.bad-in

  pub constraints-low : Bounded top (take n.C g.tables.constraints)
  constraints-low = subst (λ (k : ℕ). Bounded k c.constraints) top-is ordered.constraint-in

  -- and so of words of a scratch as long as the given one
  module _ (became : List ℕ) (size : length became ≡ length g.scratch) where
    open-to : (k : ℕ) (table into : List ℕ) → k ≤ length table → k ≤ length into → Bounded top (take k table) → Replaceable k table became into
    open-to k table into long wide b = record {
      table-long = long;
      to-long = wide;
      low = bounded-more top (length became) (take k table) (omega (arith, size, foldable.scratch-long)) b;
    }

    pub inputs_in : Replaceable n.I g.tables.inputs became to.inputs
    inputs_in = open-to n.I g.tables.inputs to.inputs ready.good.fits.inputs_long ready.wide.inputs inputs-low

    pub latches-in : Replaceable (2 * n.L) g.tables.latches became to.latches
    latches-in = open-to (2 * n.L) g.tables.latches to.latches ready.good.fits.latches-long ready.wide.latches latches-low

    pub outputs-in : Replaceable n.O g.tables.outputs became to.outputs
    outputs-in = open-to n.O g.tables.outputs to.outputs ready.good.fits.outputs-long ready.wide.outputs outputs-low

    pub resets-in : Replaceable n.L g.tables.resets became to.resets
    resets-in = open-to n.L g.tables.resets to.resets ready.good.fits.resets-long ready.wide.resets resets-low

    pub bads-in : Replaceable n.B g.tables.bads became to.bads
    bads-in = open-to n.B g.tables.bads to.bads ready.good.fits.bads-long ready.wide.bads bads-low

    pub constraints-in : Replaceable n.C g.tables.constraints became to.constraints
    constraints-in =
        open-to n.C g.tables.constraints to.constraints ready.good.fits.constraints-long ready.wide.constraints constraints-low

  -- after the gates: r is what is left of them, and leaves became themselves
  module _ (r : Reduced) (stay : (v : ℕ) → v < inner c → becomes r.became (lit_of v) ≡ lit_of v) (scratch : List ℕ)
      (became : take top scratch ≡ r.became) where
    follow : (ls : List ℕ) → Bounded top ls → map (becomes scratch) ls ≡ map (becomes r.became) ls
    follow ls b = becomes-front scratch top ls b ∙ ap (λ (m : List ℕ). map (becomes m) ls) became

    inputs_are : map (becomes scratch) (take n.I g.tables.inputs) ≡ c.inputs
    inputs_are =
        follow (take n.I g.tables.inputs) inputs-low ∙ ap (map (becomes r.became)) order.inputs
        ∙ inputs-stay r.became (inner c) stay 1 (length c.inputs) (omega arith) ∙ sym order.inputs

    latches-are : map (becomes scratch) (take (2 * n.L) g.tables.latches) ≡ flat (map latch_line (through c r).latches)
    latches-are =
        follow (take (2 * n.L) g.tables.latches) latches-low ∙ ap (map (becomes r.became)) words-of-latches
        ∙ currents-stay r.became (inner c) stay (1 + length c.inputs) (nexts c.latches) (omega (arith, length-nexts c.latches))
        ∙ ap (λ (ls : List Latch). flat (map latch_line (map (latch_becomes r.became) ls))) (sym order.latches)

    resets-are : map (becomes scratch) (take n.L g.tables.resets) ≡ c.resets
    resets-are =
        follow (take n.L g.tables.resets) resets-low
        ∙ resets-stay r.became (inner c) stay (omega arith) (1 + length c.inputs) (nexts c.latches) c.resets
        (ap (λ (ls : List Latch). resets_ok ls c.resets) (sym order.latches) ∙ ready.good.formed.resets)
        (omega (arith, length-nexts c.latches))

    pub held : (to' : Tables) → to'.inputs ≡ replaced n.I g.tables.inputs scratch to.inputs
        → to'.latches ≡ replaced (2 * n.L) g.tables.latches scratch to.latches
        → to'.outputs ≡ replaced n.O g.tables.outputs scratch to.outputs
        → to'.gates ≡ put to.gates 0 (flat (map gate_line r.retained))
        → to'.resets ≡ replaced n.L g.tables.resets scratch to.resets
        → to'.bads ≡ replaced n.B g.tables.bads scratch to.bads
        → to'.constraints ≡ replaced n.C g.tables.constraints scratch to.constraints → Holds to (through c r) to'
    held to' i l o gs rs bs cs = record {
      inputs = i ∙ ap (put to.inputs 0) inputs_are;
      latches = l ∙ ap (put to.latches 0) latches-are;
      outputs = o ∙ ap (put to.outputs 0) (follow (take n.O g.tables.outputs) outputs-low);
      gates = gs;
      resets = rs ∙ ap (put to.resets 0) resets-are;
      bads = bs ∙ ap (put to.bads 0) (follow (take n.B g.tables.bads) bads-low);
      constraints = cs ∙ ap (put to.constraints 0) (follow (take n.C g.tables.constraints) constraints-low);
    }

  pub made-fewer : length (reduce c).gates ≤ length c.gates
  made-fewer = reduce-fewer c ready.good.formed (ready.good.order refl)

  -- after folding
  module _ (gates scratch : List ℕ) (r : ℕ) (done : Done g.tables.gates to.gates gates scratch base n.A r) where
    pub count : r ≡ length (reduced c).retained
    count = done.count ∙ ap (λ (x : Reduced). length x.retained) folded-is

    pub written : (to' : Tables) → to'.inputs ≡ replaced n.I g.tables.inputs scratch to.inputs
        → to'.latches ≡ replaced (2 * n.L) g.tables.latches scratch to.latches
        → to'.outputs ≡ replaced n.O g.tables.outputs scratch to.outputs → to'.gates ≡ gates
        → to'.resets ≡ replaced n.L g.tables.resets scratch to.resets
        → to'.bads ≡ replaced n.B g.tables.bads scratch to.bads
        → to'.constraints ≡ replaced n.C g.tables.constraints scratch to.constraints → Written (reduce c) to to' r
    written to' i l o gs rs bs cs = record {
      count = count;
      holds = held (reduced c) (leaf-stays c) scratch (done.became ∙ ap (λ (x : Reduced). x.became) folded-is) to' i l o
          (gs ∙ done.retained ∙ ap (λ (x : Reduced). put to.gates 0 (flat (map gate_line x.retained))) folded-is) rs bs cs;
    }
