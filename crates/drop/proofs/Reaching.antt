-- From blank marks to the marks of what is reached.
use Prim.Native.Nat.{ℕ, ◌<◌}
use mathlib.Core.Path.{◌≡◌}
use mathlib.Core.List.{List, []}
use native.Mathlib.Omega.{arith}
use lib.ListN.{length}
use Rattle.plan.specs.declared.Counts.{Counts}
use Rattle.laws.proofs.Tables.{gate_at}
use Rattle.drop.specs.Marks.{Marked, Below}
use Rattle.drop.specs.Retained.{Retainable}
use Rattle.drop.specs.Reached.{Marking, Reachable}

-- a table of as many words does as well
pub marking-same : (table : List ℕ) (stride at n : ℕ) (t t' : List ℕ) → length t' ≡ length t → Marking table stride at n t
    → Marking table stride at n t'
marking-same table stride at n t t' e m = record { long = m.long; low = λ i h. omega (arith, m.low i h) }

pub retainable-same : (gates to t t' : List ℕ) (base a : ℕ) → length t' ≡ length t → Retainable gates to t base a → Retainable gates to t' base a
retainable-same gates to t t' base a e r = record {
  few = r.few;
  gates-long = r.gates-long;
  to-long = r.to-long;
  t-long = omega (arith, r.t-long);
  in_place = r.in_place;
}

pub gates-below : (gates to t : List ℕ) (base a : ℕ) → Retainable gates to t base a → (m : ℕ) → m ≡ length t → (k : ℕ) → k < a
    → Below m (gate_at gates k)
gates-below gates to t base a r m e k h =
    let p = r.in_place k h in
    record { lhs = omega (arith, p.lhs, r.t-long); rhs0 = omega (arith, p.rhs0, r.t-long); rhs1 = omega (arith, p.rhs1, r.t-long) }

pub blank-marked : (n : Counts) (latches outputs gates bads constraints to t : List ℕ) → Reachable n latches outputs gates bads constraints to t
    → Marked [] t
blank-marked n latches outputs gates bads constraints to t r v = r.blank v
