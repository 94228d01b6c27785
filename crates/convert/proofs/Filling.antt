-- From the tables of a well-formed circuit to the tables of the converted one: what each part asks and what it leaves.
use Prim.Native.Nat.{ℕ, zero, suc, ◌+◌, ◌*◌, ◌<◌, ◌≤◌}
use mathlib.Core.Path.{◌≡◌, refl, sym, ap, ap₂, ◌∙◌, subst}
use mathlib.Core.Bool.{true}
use mathlib.Core.List.{List, [], ◌∷◌, ◌++◌, map}
use native.Mathlib.Omega.{arith}
use lib.ListN.{length, get_or, take}
use lib.Seq.{length-take-le, get_or-take}
use Rattle.plan.specs.declared.Counts.{Counts}
use Rattle.plan.specs.Literals.{var_of}
use Rattle.plan.specs.Circuit.{Circuit, Tables, circuit_of, latch_line, gate_line, flat, vars, current_vars, left_vars, nexts, leaves}
use Rattle.plan.specs.Binary.{lits_from, latches_from}
use Rattle.plan.specs.Convert.{numbered, renumber, convert}
use Rattle.plan.specs.Outcome.{put}
use Rattle.laws.proofs.Ranges.{second-var, inside-at}
use Rattle.laws.proofs.Tables.{firsts, length-firsts, gate_at, gates-rows, latch_at, latches-rows}
use Rattle.laws.proofs.Reading.Members.{has-self, has-later}
use Rattle.laws.proofs.Running.Lists.{all_in, has_left, has_right}
use Rattle.laws.proofs.Running.Accepted.{Accepted, accepted}
use Rattle.laws.proofs.Running.Binary.{inner, Bounded}
use Rattle.laws.proofs.Running.Found.{AllG}
use Rattle.laws.proofs.Running.InOrder.{outputs-bounded, nexts-bounded}
use Rattle.lines.proofs.gates.Spreading.{spread-held}
use Rattle.judge.specs.order.Numbers.{NumTable, InTable, InRange}
use Rattle.judge.proofs.order.Conversion.{gates-count, numbers_of}
use Rattle.judge.proofs.order.Spaces.{all-places, gates-inside}
use Rattle.convert.specs.renumber.Renumbered.{Known, word_at, column_by, Placeable, Whole}
use Rattle.convert.specs.Ready.{Ready, FirstHeld, LastHeld}
use Rattle.convert.proofs.Resets.{resets-up, resets-in}
use Rattle.convert.proofs.Known.{known, literals-by}
use Rattle.convert.proofs.Rows.{nexts-column, outputs-column}
use Rattle.convert.proofs.Whole.{placeable, whole}

-- a literal of a table whose literals are bounded
bounded_at : (k : ℕ) (ls : List ℕ) → Bounded k ls → (i : ℕ) → i < length ls → var_of (get_or ls i 0) < k
bounded_at k [] b i h = absurd (omega arith)
bounded_at k (l ∷ ls) b zero h = b.0
bounded_at k (l ∷ ls) b (suc i) h = bounded_at k ls b.1 i (omega arith)

module _ {n : Counts} {x : Tables} {t : List ℕ} (p : Ready n x t) where
  abbrev c : Circuit
  c = circuit_of n x

  ok : Accepted c
  ok = accepted c p.good

  -- the counts of the circuit
  pub inputs-count : length c.inputs ≡ n.I
  inputs-count = length-take-le n.I x.inputs p.fits.inputs_long

  pub latches-count : length c.latches ≡ n.L
  latches-count = ap length (latches-rows x.latches n.L) ∙ length-firsts (latch_at x.latches) n.L

  first-is : inner c ≡ 1 + n.I + n.L
  first-is = omega (arith, inputs-count, latches-count)

  few : inner c + length c.gates < 2147483648
  few = omega (arith, first-is, gates-count x.gates n.A c refl, p.fits.sum, p.fits.most-M)

  -- variables at their places
  next_up : (i : ℕ) → i < n.L → var_of (word_at x.latches 2 1 i) ≤ n.M
  next_up i h =
      second-var true n.M (get_or x.latches (2 * i) 0) (get_or x.latches (2 * i + 1) 0) []
      (inside-at latch_line true n.M (latch_at x.latches) n.L (rw (← latches-rows x.latches n.L) p.good.latches) i h)

  -- a table of one literal a row, of which the first k are bounded
  column-up : (table : List ℕ) (k : ℕ) → k ≤ length table → Bounded (suc n.M) (take k table)
      → (i : ℕ) → i < k → var_of (word_at table 1 0 i) ≤ n.M
  column-up table k room b i h =
      let at : i ≡ 1 * i + 0 = omega arith in
      let word : get_or (take k table) i 0 ≡ word_at table 1 0 i = get_or-take k table i 0 h ∙ ap (λ (j : ℕ). get_or table j 0) at in
      omega (arith, bounded_at (suc n.M) (take k table) b i (omega (arith, length-take-le k table room)), ap var_of word)

  gates-in : AllG (InTable (n.M + 1)) c.gates
  gates-in = gates-inside n.M c.gates p.good.gates

  gate-up : InRange (n.M + 1) x.gates n.A
  gate-up =
      all-places (InTable (n.M + 1)) (gate_at x.gates) n.A (subst (AllG (InTable (n.M + 1))) (gates-rows x.gates n.A) gates-in)

  -- all variables have their numbers
  tab : NumTable (numbered c) (take (n.M + 1) t)
  tab = numbers_of x.gates n.A c refl (take (n.M + 1) t) ok.once p.numbers

  long : n.M < length t
  long = omega (arith, p.numbers-long)

  pub nexts-known : (i : ℕ) → i < n.L → Known t (word_at x.latches 2 1 i)
  nexts-known i h = known c ok n.M few t long tab (word_at x.latches 2 1 i) (next_up i h)

  column-known : (table : List ℕ) (k : ℕ) → k ≤ length table → Bounded (suc n.M) (take k table)
      → (i : ℕ) → i < k → Known t (word_at table 1 0 i)
  column-known table k room b i h = known c ok n.M few t long tab (word_at table 1 0 i) (column-up table k room b i h)

  outputs-up : Bounded (suc n.M) c.outputs
  outputs-up = outputs-bounded n.M (suc n.M) c.outputs (omega arith) p.good.outputs

  bads-up : Bounded (suc n.M) c.bads
  bads-up = outputs-bounded n.M (suc n.M) c.bads (omega arith) p.good.bads

  constraints-up : Bounded (suc n.M) c.constraints
  constraints-up = outputs-bounded n.M (suc n.M) c.constraints (omega arith) p.good.constraints

  resets-bound : Bounded (suc n.M) c.resets
  resets-bound = resets-up n.M c.latches c.resets p.good.latches p.good.resets

  pub outputs-known : (i : ℕ) → i < n.O → Known t (word_at x.outputs 1 0 i)
  outputs-known = column-known x.outputs n.O p.fits.outputs-long outputs-up

  pub resets-known : (i : ℕ) → i < n.L → Known t (word_at x.resets 1 0 i)
  resets-known = column-known x.resets n.L p.fits.resets-long resets-bound

  pub bads-known : (i : ℕ) → i < n.B → Known t (word_at x.bads 1 0 i)
  bads-known = column-known x.bads n.B p.fits.bads-long bads-up

  pub constraints-known : (i : ℕ) → i < n.C → Known t (word_at x.constraints 1 0 i)
  constraints-known = column-known x.constraints n.C p.fits.constraints-long constraints-up

  pub gates-placeable : (i : ℕ) → i < n.A → Placeable t (1 + n.I + n.L) n.A (gate_at x.gates i)
  gates-placeable i h =
      subst (λ (f : ℕ). Placeable t f n.A (gate_at x.gates i)) first-is
      (placeable c ok n.M few t long tab x.gates n.A (gates-rows x.gates n.A) gate-up i h)

  -- next states and outputs as conversion gives them
  nexts-are : firsts (column_by t x.latches 2 1) n.L ≡ map (renumber (numbered c)) (nexts c.latches)
  nexts-are =
      nexts-column t x.latches n.L
      ∙ literals-by c ok n.M few t long tab (nexts c.latches)
      (nexts-bounded n.M (suc n.M) c.latches (omega arith) p.good.latches) ok.used-next

  column-is : (table : List ℕ) (k : ℕ) → k ≤ length table → Bounded (suc n.M) (take k table)
      → all_in (take k table) (leaves c ++ left_vars c.gates) ≡ true
      → firsts (column_by t table 1 0) k ≡ map (renumber (numbered c)) (take k table)
  column-is table k room b used = outputs-column t table k room ∙ literals-by c ok n.M few t long tab (take k table) b used

  -- tables 1 to 4
  module _ (inputs latches outputs gates : List ℕ) (room : 3 * n.A ≤ length gates) where
    pub first-held : (ins mid lats outs gs : List ℕ) → ins ≡ put inputs 0 (lits_from 1 n.I)
        → mid ≡ put latches 0 (firsts (column_by t x.latches 2 1) n.L)
        → lats ≡ put mid 0 (flat (map latch_line (latches_from (1 + n.I) (take n.L mid))))
        → outs ≡ put outputs 0 (firsts (column_by t x.outputs 1 0) n.O)
        → ((made : List ℕ) → Whole x.gates t (1 + n.I + n.L) n.A gates made → gs ≡ made)
        → FirstHeld (convert c) inputs latches outputs gates ins lats outs gs
    first-held ins mid lats outs gs by-run by-column by-spread by-outputs by-gates = record {
      inputs-held = by-run ∙ ap (λ (k : ℕ). put inputs 0 (lits_from 1 k)) (sym inputs-count);
      latches-held =
          spread-held (1 + n.I) n.L (firsts (column_by t x.latches 2 1) n.L) latches mid lats
          (length-firsts (column_by t x.latches 2 1) n.L) by-column by-spread
          ∙ ap₂ (λ (k : ℕ) (ls : List ℕ). put latches 0 (flat (map latch_line (latches_from (1 + k) ls)))) (sym inputs-count)
          nexts-are;
      outputs-held = by-outputs ∙ ap (put outputs 0) (column-is x.outputs n.O p.fits.outputs-long outputs-up ok.used-output);
      gates-held = by-gates (put gates 0 (flat (map gate_line (convert c).gates)))
          (subst (λ (f : ℕ). Whole x.gates t f n.A gates (put gates 0 (flat (map gate_line (convert c).gates)))) first-is
          (whole c ok n.M few t long tab x.gates n.A (gates-rows x.gates n.A) gate-up gates room));
    }

  -- a reset's variable is that of the constants or of a latch
  resets-used : all_in c.resets (leaves c ++ left_vars c.gates) ≡ true
  resets-used =
      resets-in (leaves c ++ left_vars c.gates) (has-self zero ((vars c.inputs ++ current_vars c.latches) ++ left_vars c.gates))
      c.latches c.resets
      (λ v k. has_left v (leaves c) (left_vars c.gates)
      (has-later v zero (vars c.inputs ++ current_vars c.latches) (has_right v (vars c.inputs) (current_vars c.latches) k)))
      p.good.resets

  -- tables 7 to 9
  pub last-held : (resets bads constraints resets' bads' constraints' : List ℕ)
      → resets' ≡ put resets 0 (firsts (column_by t x.resets 1 0) n.L)
      → bads' ≡ put bads 0 (firsts (column_by t x.bads 1 0) n.B)
      → constraints' ≡ put constraints 0 (firsts (column_by t x.constraints 1 0) n.C)
      → LastHeld (convert c) resets bads constraints resets' bads' constraints'
  last-held resets bads constraints resets' bads' constraints' by-resets by-bads by-constraints = record {
    resets-held = by-resets ∙ ap (put resets 0) (column-is x.resets n.L p.fits.resets-long resets-bound resets-used);
    bads-held = by-bads ∙ ap (put bads 0) (column-is x.bads n.B p.fits.bads-long bads-up ok.used-bad);
    constraints-held =
        by-constraints
        ∙ ap (put constraints 0) (column-is x.constraints n.C p.fits.constraints-long constraints-up ok.used-constraint);
  }
