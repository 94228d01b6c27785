-- Circuits that agree convert to the same circuit.
use Prim.Native.Nat.{ℕ, ◌+◌}
use mathlib.Core.Path.{◌≡◌, sym, ap, ap₂, ◌∙◌, subst}
use mathlib.Core.Bool.{true}
use mathlib.Core.List.{List, ◌++◌, map, map-append}
use lib.ListN.{length}
use Rattle.plan.specs.Circuit.{Gate, Circuit, gate_line, left_vars, leaves}
use Rattle.plan.specs.Binary.{lits_from, latches_from}
use Rattle.plan.specs.Convert.{order, sorted, numbered, renumber, renumber_gates, convert}
use Rattle.same.specs.Agreement.{same_literal, same_latch, same_gate, entry_by_entry, Agree}
use Rattle.same.proofs.Entries.{All, Each, all_append, as_many, each_map, each-heads, each-known}
use Rattle.same.proofs.Named.{KnownLiteral, Known, Named, NamedLatch, NamedGate, named-nexts, literals-named, latches-named, gates-named}
use Rattle.same.proofs.Leaves.{leaves-renamed, leaves-known}
use Rattle.same.proofs.Variables.{literal-renumbered, gates-renumbered}
use Rattle.same.proofs.Order.{order-named}

module _ (rename : ℕ → ℕ) (P : ℕ → Type 0) (apart : (u v : ℕ) → P u → P v → rename u ≡ rename v → u ≡ v) (fixed : rename 0 ≡ 0)
    (c d : Circuit) (known : Known P c) (agree : Agree rename c d) where
  lats : Each (NamedLatch rename P) c.latches d.latches
  lats = latches-named rename P c.latches d.latches known.latches agree.latches

  gates : Each (NamedGate rename P) c.gates d.gates
  gates = gates-named rename P c.gates d.gates known.gates agree.gates

  renamed : map rename (leaves c) ≡ leaves d
  renamed = leaves-renamed rename P fixed c d known agree

  all_known : All P (leaves c)
  all_known = leaves-known rename P fixed c d known agree

  sorted-named : Each (NamedGate rename P) (sorted c) (sorted d)
  sorted-named =
      subst (Each (NamedGate rename P) (sorted c))
      (ap₂ (λ (n : ℕ) (xs : List ℕ). order n xs d.gates) (as_many (same_gate rename) c.gates d.gates agree.gates) renamed)
      (order-named rename P apart (length c.gates) (leaves c) all_known c.gates d.gates gates)

  numbered-renamed : map rename (numbered c) ≡ numbered d
  numbered-renamed =
      map-append rename (leaves c) (left_vars (sorted c))
      ∙ ap₂ (λ (vs us : List ℕ). vs ++ us) renamed (sym (each-heads rename gate_line (λ g h n. n.left.var) sorted-named))

  numbered-known : All P (numbered c)
  numbered-known =
      all_append P (leaves c) (left_vars (sorted c)) all_known (each-known P gate_line (λ g h n. n.left.known) sorted-named)

  -- nexts, resets, outputs, bad states, constraints, and any list of literals that agrees; the gates
  named-converted : {ls ks : List ℕ} → Each (Named rename P) ls ks → map (renumber (numbered c)) ls ≡ map (renumber (numbered d)) ks
  named-converted {ls} {ks} e =
      sym (ap (λ (xs : List ℕ). map (renumber xs) ks) (sym numbered-renamed)
      ∙ each_map (renumber (map rename (numbered c))) (renumber (numbered c))
      (literal-renumbered rename P apart (numbered c) numbered-known) e)

  literals-converted : (ls ks : List ℕ) → All (KnownLiteral P) ls → entry_by_entry (same_literal rename) ls ks ≡ true
      → map (renumber (numbered c)) ls ≡ map (renumber (numbered d)) ks
  literals-converted ls ks k h = named-converted (literals-named rename P ls ks k h)

  gates-converted : (v : ℕ) → renumber_gates (numbered c) v (sorted c) ≡ renumber_gates (numbered d) v (sorted d)
  gates-converted v =
      sym (ap (λ (xs : List ℕ). renumber_gates xs v (sorted d)) (sym numbered-renamed)
      ∙ gates-renumbered rename P apart (numbered c) numbered-known v sorted-named)

  -- a line for each count and each list
  pub converted : convert c ≡ convert d
  converted =
      let i = as_many (same_literal rename) c.inputs d.inputs agree.inputs in
      let l = as_many (same_latch rename) c.latches d.latches agree.latches in
      let a = as_many (same_gate rename) c.gates d.gates agree.gates in
      λ j. record {
        M = i j + l j + a j;
        inputs = lits_from 1 (i j);
        latches = latches_from (1 + i j) (named-converted (named-nexts rename P lats) j);
        resets = literals-converted c.resets d.resets known.resets agree.resets j;
        outputs = literals-converted c.outputs d.outputs known.outputs agree.outputs j;
        bads = literals-converted c.bads d.bads known.bads agree.bads j;
        constraints = literals-converted c.constraints d.constraints known.constraints agree.constraints j;
        gates = ap₂ (λ (n : ℕ) (gs : ℕ → List Gate). gs n) (ap₂ (λ (x y : ℕ). 1 + x + y) i l) (λ k v. gates-converted v k) j;
      }
