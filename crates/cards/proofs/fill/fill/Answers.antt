-- Each table in turn; next states are spread to latches.
use Prim.Native.Nat.{ℕ, ◌+◌}
use mathlib.Core.Path.{ap, ◌∙◌}
use mathlib.Core.List.{map}
use native.Mathlib.Omega.{arith}
use lib.ListN.{drop}
use Rattle.plan.specs.Circuit.{flat, gate_line}
use Rattle.plan.specs.Outcome.{put}
use Rattle.plan.specs.Cards.{words_in, gates_in}
use Rattle.cards.proofs.Laws.Records.{length-words-in}
use Rattle.cards.proofs.fill.Spreading.{within, latches-spread}
use Rattle.cards.proofs.fill.fill.Goals as goal

pub outputs_at-requires : goal.outputs_at-requires
outputs_at-requires c = within c.requires

pub gates_at-requires : goal.gates_at-requires
gates_at-requires c = within c.requires

pub overflow_add-n-2 : goal.overflow_add-n-2
overflow_add-n-2 c = let p = c.requires in omega (arith, p.most-M, p.sum)

pub overflow_add-n-3 : goal.overflow_add-n-3
overflow_add-n-3 c = let p = c.requires in omega (arith, p.most-M, p.sum)

pub overflow_cast-n-2 : goal.overflow_cast-n-2
overflow_cast-n-2 c = let p = c.requires in omega (arith, p.most-M, p.sum)

pub fill_gates-requires : goal.fill_gates-requires
fill_gates-requires c =
    let p = c.requires in
    record { n_in_bounds = omega (arith, p.size, c.gates_at.ensures); n_in_bounds_2 = p.gates-long; n_bound = omega (arith, p.most-M, p.sum) }

pub returns : goal.returns
returns c =
    let a = c.args in
    record {
      inputs-held = c.run_on.ensures;
      latches-held = latches-spread a.latches.now _ _ (words_in a.n.L (drop 22 a.file.now)) (1 + a.n.I) a.n.L c.fill_words.ensures
          (length-words-in a.n.L (drop 22 a.file.now)) c.spread.ensures;
      outputs-held = c.fill_words-2.ensures
          ∙ ap (λ (at : ℕ). put a.outputs.now 0 (words_in a.n.O (drop at a.file.now))) c.outputs_at.ensures;
      gates-held = c.fill_gates.ensures
          ∙ ap (λ (at : ℕ). put a.gates.now 0 (flat (map gate_line (gates_in (1 + a.n.I + a.n.L) a.n.A (drop at a.file.now)))))
          c.gates_at.ensures;
    }
