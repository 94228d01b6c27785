-- A step of all rows, phase by phase: the constant, the inputs, the latches, the gates.
use Prim.Native.Nat.{ℕ, ◌+◌, ◌*◌}
use mathlib.Core.Path.{◌≡◌, refl}
use mathlib.Core.List.{List, [], ◌++◌}
use native.Mathlib.Omega.{arith}
use lib.ListN.{length, get_or, length-append}
use Rattle.plan.specs.declared.Counts.{Counts}
use Rattle.plan.specs.Circuit.{Tables, circuit_of}
use Rattle.plan.specs.Outcome.{put}
use Rattle.step.specs.sweep.Running.{Runs}
use Rattle.rows.specs.Planes.Planes.{other, column}
use Rattle.rows.specs.lanes.Words.{plane_words, Begins, every_row, constant_planes, input_planes, reset_planes, start_planes}
use Rattle.rows.specs.lanes.Working.{Grows, Sweeps, Swept, both, Ready, Holds}
use Rattle.rows.proofs.lanes.Starting.{gates-binary, lanes-hold}
use Rattle.rows.proofs.lanes.Words.{begins-none, begins-more, pairs-length}

module _ {n : Counts} {gates resets bytes : List ℕ} {rows : ℕ} {t : List ℕ} (p : Ready n gates resets bytes rows t) where
  pub sweeps : (t3 : List ℕ) → length t3 ≡ length t → Sweeps gates n.A (1 + n.I + n.L) t3
  sweeps t3 same = record {
    gates-long = p.runs.fits.gates-long;
    table-long = omega (arith, p.runs.fits.sum, p.scratch);
    ordered = gates-binary p.runs bytes rows p.most p.whole;
  }

  module _ (t1 t2 t3 t4 : List ℕ) (e1 : t1 ≡ put t 0 (plane_words constant_planes))
      (g2 : Grows 1 (λ j. column 48 bytes j n.I rows) (λ j. column 49 bytes j n.I rows) n.I t1 t2)
      (g3 : Grows (1 + n.I) (λ j. every_row (other 0 (get_or resets j 0))) (λ j. every_row (other 1 (get_or resets j 0))) n.L t2 t3)
      (g4 : Swept gates n.A (1 + n.I + n.L) t3 t4) where
    pub holds : (x : Tables) → Runs n (both x gates resets) → Holds n (circuit_of n (both x gates resets)) bytes rows t4
    holds x r = record {
      is = λ k h l up. lanes-hold r bytes rows p.most p.whole k h t4
          (g4 (start_planes bytes resets n.I n.L rows) all
          (g3 (constant_planes ++ input_planes bytes n.I rows) most
          (g2 constant_planes refl constant))) l up;
    }
      where
        constant : Begins constant_planes t1
        constant = begins-more [] t (begins-none t) constant_planes 0 t1 refl (omega (arith, p.scratch)) e1

        ins-length : length (input_planes bytes n.I rows) ≡ 2 * n.I
        ins-length = pairs-length _ _ n.I

        most : length (constant_planes ++ input_planes bytes n.I rows) ≡ 2 * (1 + n.I)
        most = omega (arith, ins-length, length-append constant_planes (input_planes bytes n.I rows))

        all : length (start_planes bytes resets n.I n.L rows) ≡ 2 * (1 + n.I + n.L)
        all =
            let starts : length (reset_planes resets n.L) ≡ 2 * n.L = pairs-length _ _ n.L in
            omega (arith, most, length-append (constant_planes ++ input_planes bytes n.I rows) (reset_planes resets n.L))
