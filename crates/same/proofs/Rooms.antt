-- Room: as many entries in each list, so that M alone makes a difference, and it counts in table 5 alone. Room for the circuit with the
-- larger M is room for both.
use Prim.Native.Nat.{ℕ, ◌+◌, ◌*◌, ◌≤◌}
use mathlib.Core.Path.{◌≡◌, sym, ap, ◌∙◌}
use mathlib.Core.List.{List, [], ◌∷◌}
use native.Mathlib.Omega.{arith}
use borrow.Author.Tests.{le-leb}
use lib.ListN.{length, get_or, drop}
use Rattle.plan.specs.declared.Counts.{Counts}
use Rattle.plan.specs.Circuit.{Circuit, counts_of, words_to_work, against, least_short}
use Rattle.plan.specs.Reading.{LongEnough}
use Rattle.laws.proofs.Reading.Short.{short_none}
use Rattle.same.specs.Agreement.{same_literal, same_latch, same_gate, Agree}
use Rattle.same.proofs.Entries.{as_many}

-- table 5, and the words of the others with so many for it
abbrev scratch_of : Counts → ℕ
scratch_of n = 4 * (n.M + 1) + n.O + n.B + n.C

abbrev fifth : List ℕ → ℕ
fifth lengths = get_or (drop 1 (drop 1 (drop 1 (drop 1 lengths)))) 0 0

abbrev pub working : ℕ → Counts → List ℕ
working words n = n.I ∷ 2 * n.L ∷ n.O ∷ 3 * n.A ∷ words ∷ 0 ∷ n.L ∷ n.B ∷ n.C ∷ []

enough-scratch : (n : Counts) (lengths : List ℕ) → scratch_of n ≤ fifth lengths
    → least_short (against 1 (words_to_work n) lengths) ≡ least_short (against 1 (working 0 n) lengths)
enough-scratch n lengths h =
    let least : 0 ≤ fifth lengths = omega arith in
    rw (le-leb (scratch_of n) (fifth lengths) h, le-leb 0 (fifth lengths) least)

pub room-scratch : (c : Circuit) (lengths : List ℕ) → LongEnough c lengths → scratch_of (counts_of c) ≤ fifth lengths
room-scratch c lengths room = ((short_none (against 1 (words_to_work (counts_of c)) lengths)).0 room).1.1.1.1.0

module _ (rename : ℕ → ℕ) (c d : Circuit) (agree : Agree rename c d) where
  i : length c.inputs ≡ length d.inputs
  i = as_many (same_literal rename) c.inputs d.inputs agree.inputs

  l : length c.latches ≡ length d.latches
  l = as_many (same_latch rename) c.latches d.latches agree.latches

  o : length c.outputs ≡ length d.outputs
  o = as_many (same_literal rename) c.outputs d.outputs agree.outputs

  a : length c.gates ≡ length d.gates
  a = as_many (same_gate rename) c.gates d.gates agree.gates

  b : length c.bads ≡ length d.bads
  b = as_many (same_literal rename) c.bads d.bads agree.bads

  k : length c.constraints ≡ length d.constraints
  k = as_many (same_literal rename) c.constraints d.constraints agree.constraints

  -- the words of written tables
  pub needs-alike : (words : ℕ) → working words (counts_of c) ≡ working words (counts_of d)
  needs-alike words = λ j. i j ∷ 2 * l j ∷ o j ∷ 3 * a j ∷ words ∷ 0 ∷ l j ∷ b j ∷ k j ∷ []

  -- so 4 is the same for both where there is scratch for both
  pub short-alike : (lengths : List ℕ) → scratch_of (counts_of c) ≤ fifth lengths → scratch_of (counts_of d) ≤ fifth lengths
      → least_short (against 1 (words_to_work (counts_of c)) lengths) ≡ least_short (against 1 (words_to_work (counts_of d)) lengths)
  short-alike lengths h g =
      enough-scratch (counts_of c) lengths h
      ∙ (ap (λ (needs : List ℕ). least_short (against 1 needs lengths)) (needs-alike 0) ∙ sym (enough-scratch (counts_of d) lengths g))

  pub room-for-both : d.M ≤ c.M → (lengths : List ℕ) → LongEnough c lengths → LongEnough d lengths
  room-for-both m lengths room =
      let r = (short_none (against 1 (words_to_work (counts_of c)) lengths)).0 room in
      let r5 = r.1.1.1.1 in
      let r7 = r5.1.1 in
      (short_none (against 1 (words_to_work (counts_of d)) lengths)).1 (
        omega (arith, r.0, i),
        (
          omega (arith, r.1.0, l),
          (
            omega (arith, r.1.1.0, o),
            (
              omega (arith, r.1.1.1.0, a),
              (
                omega (arith, r5.0, o, b, k),
                (omega arith, (omega (arith, r7.0, l), (omega (arith, r7.1.0, b), (omega (arith, r7.1.1.0, k), tt)))),
              ),
            ),
          ),
        ),
      )
