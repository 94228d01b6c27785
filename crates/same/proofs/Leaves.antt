-- What two circuits that agree define: the same variables, renamed, in the same order.
use Prim.Native.Nat.{ℕ}
use mathlib.Core.Path.{◌≡◌, sym, ap₂, ◌∙◌}
use mathlib.Core.List.{List, ◌∷◌, ◌++◌, map, map-append}
use Rattle.plan.specs.Circuit.{Circuit, one_line, latch_line, gate_line, vars, current_vars, left_vars, leaves}
use Rattle.same.specs.Agreement.{Agree}
use Rattle.same.proofs.Entries.{All, Each, all_append, each-heads, each-known}
use Rattle.same.proofs.Named.{Known, Named, NamedLatch, literals-named, latches-named, gates-named}

module _ (rename : ℕ → ℕ) (P : ℕ → Type 0) (fixed : rename 0 ≡ 0) (c d : Circuit) (known : Known P c) (agree : Agree rename c d) where
  ins : Each (Named rename P) c.inputs d.inputs
  ins = literals-named rename P c.inputs d.inputs known.inputs agree.inputs

  lats : Each (NamedLatch rename P) c.latches d.latches
  lats = latches-named rename P c.latches d.latches known.latches agree.latches

  pub leaves-renamed : map rename (leaves c) ≡ leaves d
  leaves-renamed =
      ap₂ (λ (v : ℕ) (vs : List ℕ). v ∷ vs) fixed
      (map-append rename (vars c.inputs) (current_vars c.latches)
      ∙ ap₂ (λ (vs us : List ℕ). vs ++ us) (sym (each-heads rename one_line (λ l k n. n.var) ins))
      (sym (each-heads rename latch_line (λ l k n. n.current.var) lats)))

  pub leaves-known : All P (leaves c)
  leaves-known = (
    known.constants,
    all_append P (vars c.inputs) (current_vars c.latches) (each-known P one_line (λ l k n. n.known) ins)
        (each-known P latch_line (λ l k n. n.current.known) lats),
  )

  -- the constant, and all that is defined
  pub defined-renamed : map rename (leaves c ++ left_vars c.gates) ≡ leaves d ++ left_vars d.gates
  defined-renamed =
      map-append rename (leaves c) (left_vars c.gates)
      ∙ ap₂ (λ (vs us : List ℕ). vs ++ us) leaves-renamed
      (sym (each-heads rename gate_line (λ g h n. n.left.var) (gates-named rename P c.gates d.gates known.gates agree.gates)))
