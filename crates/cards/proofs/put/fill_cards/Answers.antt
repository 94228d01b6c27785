-- The head, then the three parts, each after the one before.
use mathlib.Core.Path.{◌≡◌, ap, ◌∙◌}
use mathlib.Core.List.{◌++◌, append_assoc}
use native.Mathlib.Omega.{arith}
use lib.ListN.{length-append}
use Rattle.plan.specs.Outcome.{put}
use Rattle.plan.specs.Cards.{head_card}
use Rattle.cards.specs.put.Parts.{latch_cards, output_cards, gates_cards}
use Rattle.cards.proofs.put.Putting.{two-parts, latches-size, outputs-size, gates-size}
use Rattle.cards.proofs.put.fill_cards.Goals as goal

pub put_outputs-first_gate-requires : goal.put_outputs-first_gate-requires
put_outputs-first_gate-requires c =
    record {
      n_in_bounds = omega (
        arith,
        c.requires.n_in_bounds,
        c.put_head-first_latch.ensures.value,
        c.put_latches-first_output.ensures.value,
        c.put_head-first_latch.auto.out,
        c.put_latches-first_output.auto.out,
      );
      n_in_bounds_2 = c.requires.cardable.outputs-long;
    }

pub put_gates-requires : goal.put_gates-requires
put_gates-requires c =
    record {
      n_in_bounds = omega (
        arith,
        c.requires.n_in_bounds,
        c.put_head-first_latch.ensures.value,
        c.put_latches-first_output.ensures.value,
        c.put_outputs-first_gate.ensures.value,
        c.put_head-first_latch.auto.out,
        c.put_latches-first_output.auto.out,
        c.put_outputs-first_gate.auto.out,
      );
      n_in_bounds_2 = c.requires.cardable.gates-long;
    }

pub returns : goal.returns
returns c =
    let a = c.args in
    let n = a.n in
    let room = c.requires.n_in_bounds in
    let lats = latch_cards n.L a.latches.now in
    let outs = output_cards n.O a.outputs.now in
    let gs = gates_cards n.A a.gates.now in
    let sl = latches-size a.latches.now n.L in
    let so = outputs-size a.outputs.now n.O c.requires.cardable.outputs-long in
    let sg = gates-size a.gates.now n.A in
    let l2 = length-append (head_card n) lats in
    let l3 = length-append (head_card n ++ lats) outs in
    let l4 = length-append ((head_card n ++ lats) ++ outs) gs in
    let e2 = two-parts a.out.now _ _ (head_card n) lats 0 c.put_head-first_latch.result c.put_head-first_latch.ensures.out_after (omega (arith, c.put_head-first_latch.ensures.value))
    c.put_latches-first_output.ensures.out_after (omega arith) in
    let e3 = two-parts a.out.now _ _ (head_card n ++ lats) outs 0 c.put_latches-first_output.result e2 (omega (
      arith,
      c.put_head-first_latch.ensures.value,
      c.put_latches-first_output.ensures.value,
    )) c.put_outputs-first_gate.ensures.out_after (omega arith) in
    let e4 = two-parts a.out.now _ _ ((head_card n ++ lats) ++ outs) gs 0 c.put_outputs-first_gate.result e3 (omega (
      arith,
      c.put_head-first_latch.ensures.value,
      c.put_latches-first_output.ensures.value,
      c.put_outputs-first_gate.ensures.value,
    )) c.put_gates.ensures.out_after
    (omega arith) in
    let grouped : ((head_card n ++ lats) ++ outs) ++ gs ≡ head_card n ++ (lats ++ (outs ++ gs))
    = append_assoc (head_card n ++ lats) outs gs ∙ append_assoc (head_card n) lats (outs ++ gs) in
    record { value = omega (arith, c.put_head-first_latch.ensures.value, c.put_latches-first_output.ensures.value, c.put_outputs-first_gate.ensures.value, c.put_gates.ensures.value); out_after = e4 ∙ ap (put a.out.now 0) grouped }
