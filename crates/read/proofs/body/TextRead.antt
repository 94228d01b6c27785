-- What the text form's body leaves is what 7 and 8 are asked of.
use Prim.Native.Nat.{ℕ, suc, ◌+◌, ◌≤◌}
use mathlib.Core.Path.{◌≡◌, refl, sym, ap, subst}
use mathlib.Core.Bool.{true, false, false≢true}
use mathlib.Core.List.{List, [], ◌∷◌, map}
use native.Mathlib.Omega.{arith}
use lib.ListN.{length, drop}
use Rattle.plan.specs.declared.Counts.{Counts}
use Rattle.plan.specs.declared.Version.{Version}
use Rattle.plan.specs.Refusals.{got}
use Rattle.plan.specs.Literals.{is_reset}
use Rattle.plan.specs.Circuit.{Latch, resets_ok, Circuit, Tables, circuit_of, defined_in, all_new, all_inside, one_line, latch_line, gate_line}
use Rattle.plan.specs.Header.{more_resets, text}
use Rattle.plan.specs.Text.{text_body, text_lines, text_latches}
use Rattle.laws.proofs.Held.{Holds, holds-circuit}
use Rattle.laws.proofs.Marks.{Agrees}
use Rattle.laws.proofs.Reading.Common.{and_right}
use Rattle.laws.proofs.Reading.Texts.{text-took}
use Rattle.laws.proofs.Reading.Rows.{BodyOk}
use Rattle.judge.specs.at_end.Read.{Read}
use Rattle.read.specs.body.Rest.{Room}

module _ (v : Version) (file : List ℕ) (n : Counts) (at : ℕ) (t t' : Tables) (c : Circuit) (next : ℕ) (e : text_body v file n at ≡ got c next)
    (h : Holds t c t') where
  pub same-circuit : circuit_of n t' ≡ c
  same-circuit =
      let ok = text-took file v n at c next e in
      holds-circuit n t t' c (resets-count c.latches c.resets ok.resets) h ok.counts
    where
      resets-count : (ls : List Latch) (rs : List ℕ) → resets_ok ls rs ≡ true → length rs ≡ length ls
      resets-count [] [] q = refl
      resets-count [] (r ∷ rs) q = absurd (false≢true q)
      resets-count (l ∷ ls) [] q = absurd (false≢true q)
      resets-count (l ∷ ls) (r ∷ rs) q = ap suc (resets-count ls rs (and_right (is_reset l.current r) _ q))

  module _ (scratch scratch' marks : List ℕ) (base : ℕ) (room : Room text n t scratch) (sum : n.I + n.L + n.A ≤ n.M)
      (b : base ≡ n.I + n.L + n.O + n.B + n.C) (l1 : length t'.inputs ≡ length t.inputs)
      (l2 : length t'.latches ≡ length t.latches) (l3 : length t'.outputs ≡ length t.outputs)
      (l4 : length t'.gates ≡ length t.gates) (l5 : length t'.bads ≡ length t.bads)
      (l6 : length t'.constraints ≡ length t.constraints) (l7 : length scratch' ≡ length scratch)
      (m : drop base scratch' ≡ marks) (a : Agrees n.M (defined_in c) marks) where
    -- what is known of the circuit read holds of the circuit in the tables
    ok : BodyOk file text_lines text_latches 2 (more_resets v) n at c next
    ok = text-took file v n at c next e

    carried : (F : ℕ → Circuit → Type 0) → F c.M c → F n.M (circuit_of n t')
    carried F q = subst (λ (x : Circuit). F n.M x) (sym same-circuit) (subst (λ (x : ℕ). F x c) (ap (λ (x : Counts). x.M) ok.counts) q)

    pub text-read : Read n t'.inputs t'.latches t'.outputs t'.gates t'.bads t'.constraints scratch' base
    text-read = record {
      most-M = room.most-M;
      sum = sum;
      inputs_long = omega (arith, room.inputs);
      latches-long = omega (arith, room.latches);
      outputs-long = omega (arith, room.outputs);
      gates-long = omega (arith, room.gates);
      bads-long = omega (arith, room.bads);
      constraints-long = omega (arith, room.constraints);
      scratch-long = omega (arith, room.words);
      marks-long = omega (arith, room.words);
      inputs-inside = carried (λ k x. all_inside true k (map one_line x.inputs) ≡ true) ok.inputs;
      latches-inside = carried (λ k x. all_inside true k (map latch_line x.latches) ≡ true) ok.latches;
      outputs-inside = carried (λ k x. all_inside false k (map one_line x.outputs) ≡ true) ok.outputs;
      gates-inside = carried (λ k x. all_inside true k (map gate_line x.gates) ≡ true) ok.gates;
      bads-inside = carried (λ k x. all_inside false k (map one_line x.bads) ≡ true) ok.bads;
      constraints-inside = carried (λ k x. all_inside false k (map one_line x.constraints) ≡ true) ok.constraints;
      different = carried (λ k x. all_new [] (defined_in x) ≡ true) ok.different;
      marked = subst (λ (x : List ℕ). Agrees n.M (defined_in (circuit_of n t')) x) (sym m)
          (subst (λ (x : Circuit). Agrees n.M (defined_in x) marks) (sym same-circuit) a);
    }
