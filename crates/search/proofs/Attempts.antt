-- A try over words: what is loaded, and what is read after the step.
use Prim.Native.Nat.{ℕ, ◌+◌, ◌≤◌}
use mathlib.Core.Path.{◌≡◌, refl, sym, ap, ap₂, ◌∙◌}
use mathlib.Core.Bool.{Bool, true, false, cond, ◌||◌}
use mathlib.Core.List.{List, map}
use native.Mathlib.Omega.{arith}
use lib.ListN.{length, take, set, length-set, length-map}
use Rattle.plan.specs.declared.Counts.{Counts}
use Rattle.plan.specs.Circuit.{Circuit, Tables, circuit_of}
use Rattle.plan.specs.Step.{Value, outputs_of, bads_of, constraints_of, next_of, any1, all1}
use Rattle.plan.specs.Outcome.{put}
use Rattle.laws.proofs.Put.{put-length}
use Rattle.step.specs.values.Words.{word, words, told, values_at}
use Rattle.step.proofs.values.Codes.{told-words}
use Rattle.step.specs.sweep.Lookup.{seen}
use Rattle.step.specs.sweep.Running.{Runs, Stands, Stepped, lits_of}
use Rattle.step.proofs.sweep.Loading.{constant-set, rests-loaded, stands-loaded}
use Rattle.step.proofs.sweep.Seeing.{bads-seen, constraints-seen}
use Rattle.step.proofs.Buffers.{told_part}
use Rattle.plan.specs.Search.{bits, as_number, system_of}
use Rattle.search.proofs.Vectors.{bits-length}
use Rattle.search.specs.declared.Attempt.TheVariants.{Barred, Seen, To}
use Rattle.search.specs.Trying.{attempt}

module _ (n : Counts) (s m : ℕ) (t0 t2 t3 : List ℕ) (room : 1 + n.I + n.L ≤ length t0)
    (e2 : t2 ≡ put (set t0 0 1) (1 + n.I) (words (bits n.L s))) (e3 : t3 ≡ put t2 1 (words (bits n.I m))) where
  state-words : length (words (bits n.L s)) ≡ n.L
  state-words = length-map (bits n.L s) word ∙ bits-length n.L s

  long2 : length t2 ≡ length t0
  long2 =
      ap length e2 ∙ put-length (set t0 0 1) (1 + n.I) (words (bits n.L s)) (omega (arith, length-set t0 0 1, state-words)) ∙ length-set t0 0 1

  pub try-stands : Stands n (bits n.L s) (bits n.I m) t3
  try-stands =
      stands-loaded n (bits n.L s) (bits n.I m) t2 t3
      (rests-loaded n (set t0 0 1) (bits n.L s) t2 (constant-set t0 (omega arith)) (omega (arith, length-set t0 0 1)) (bits-length n.L s) e2)
      (bits-length n.L s) (bits-length n.I m) (omega (arith, long2)) e3

module _ {n : Counts} {x : Tables} (r : Runs n x) (s m : ℕ) where
  abbrev c : Circuit
  c = circuit_of n x

  latches-are : length (circuit_of n x).latches ≡ n.L
  latches-are = ap (λ (k : Counts). k.L) r.counts

  inputs_are : length (circuit_of n x).inputs ≡ n.I
  inputs_are = ap (λ (k : Counts). k.I) r.counts

  module _ {t : List ℕ} (p : Stepped n (circuit_of n x) (bits n.L s) (bits n.I m) t) where
    allows-is : (q : Bool) → q ≡ all1 (seen (lits_of n) t (take n.C x.constraints)) → (system_of 0 (circuit_of n x)).allows s m ≡ q
    allows-is q e =
        ap₂ (λ (l i : ℕ). all1 (constraints_of (circuit_of n x) (bits l s) (bits i m))) latches-are inputs_are
        ∙ sym (e ∙ ap all1 (constraints-seen r p))

    shows-is : (a : Bool) → a ≡ (any1 (values_at t (n.M + 1) n.O) || any1 (seen (lits_of n) t (take n.B x.bads)))
        → (system_of 0 (circuit_of n x)).shows s m ≡ a
    shows-is a e =
        ap₂ (λ (l i : ℕ). any1 (outputs_of (circuit_of n x) (bits l s) (bits i m)) || any1 (bads_of (circuit_of n x) (bits l s) (bits i m))) latches-are
        inputs_are
        ∙ sym (e ∙ ap₂ (λ (o b : List Value). any1 o || any1 b)
        (told_part t (n.M + 1) n.O n.O (outputs_of (circuit_of n x) (bits n.L s) (bits n.I m)) refl p.outputs) (bads-seen r p))

    next-is : (k : ℕ) → k ≡ as_number (values_at t (1 + n.I) n.L) → (system_of 0 (circuit_of n x)).next s m ≡ k
    next-is k e =
        ap₂ (λ (l i : ℕ). as_number (next_of (circuit_of n x) (bits l s) (bits i m))) latches-are inputs_are
        ∙ sym (e ∙ ap as_number (ap (map told) p.rests.state ∙ told-words (next_of (circuit_of n x) (bits n.L s) (bits n.I m))))

    module _ (q : Bool) (eq : q ≡ all1 (seen (lits_of n) t (take n.C x.constraints))) where
      pub is-barred : q ≡ false → Barred ≡ attempt (system_of 0 (circuit_of n x)) s m
      is-barred f =
          sym (ap (λ (b : Bool). cond b (cond ((system_of 0 (circuit_of n x)).shows s m) Seen (To ((system_of 0 (circuit_of n x)).next s m))) Barred)
          (allows-is q eq ∙ f))

      module _ (f : q ≡ true) (a : Bool)
          (ea : a ≡ (any1 (values_at t (n.M + 1) n.O) || any1 (seen (lits_of n) t (take n.B x.bads)))) where
        pub is_seen : a ≡ true → Seen ≡ attempt (system_of 0 (circuit_of n x)) s m
        is_seen g =
            sym (ap₂ (λ (b d : Bool). cond b (cond d Seen (To ((system_of 0 (circuit_of n x)).next s m))) Barred) (allows-is q eq ∙ f) (shows-is a ea ∙ g))

        pub is-to : a ≡ false → (k : ℕ) → k ≡ as_number (values_at t (1 + n.I) n.L) → To k ≡ attempt (system_of 0 (circuit_of n x)) s m
        is-to g k ek =
            sym (ap₂ (λ (b d : Bool). cond b (cond d Seen (To ((system_of 0 (circuit_of n x)).next s m))) Barred) (allows-is q eq ∙ f) (shows-is a ea ∙ g)
            ∙ ap To (next-is k ek))
