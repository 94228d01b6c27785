-- The pass from the rewired gate upward gives the screen of a fresh step of the edited circuit.
use Prim.Native.Nat.{ℕ, ◌+◌, ◌<◌}
use mathlib.Core.Path.{◌≡◌, sym, ap, ◌∙◌, subst}
use mathlib.Core.Bool.{true}
use mathlib.Core.List.{List}
use Rattle.std.specs.Prelude.{None}
use native.Mathlib.Omega.{arith}
use lib.ListN.{length, get_or}
use lib.Seq.{ext_get_or}
use Rattle.plan.specs.Literals.{lit_of}
use Rattle.plan.specs.Circuit.{Gate, Circuit}
use Rattle.plan.specs.Reading.{WellFormed}
use Rattle.plan.specs.Binary.{binary_order}
use Rattle.plan.specs.Step.{Value, code_of, values_of}
use Rattle.laws.proofs.Reading.Runs.{order-exactly}
use Rattle.laws.proofs.Tables.{gate_at, gates_at}
use Rattle.laws.proofs.Running.Found.{AllG}
use Rattle.laws.proofs.Running.Accepted.{accepted}
use Rattle.laws.proofs.Running.GateValue.{GateEq, gates-hold}
use Rattle.laws.proofs.Running.Binary.{Binary, inner}
use Rattle.laws.proofs.Running.InOrder.{order-binary}
use Rattle.laws.proofs.Walks.Places.{left_at}
use Rattle.plan.specs.Rewire.{rewire, screen, state_on, inputs_on, wrong_on, rewired_screen}
use Rattle.laws.proofs.Rewiring.Rewired.{rewire-in-order, rewire-well-formed, rewire-below}
use Rattle.laws.proofs.Rewiring.Screen.{screen-exactly, screen-at, length-screen}
use Rattle.laws.proofs.Rewiring.Rows.{all-places}
use Rattle.rewire.specs.Shown.{Shows, Follows}

module _ (c : Circuit) (w : WellFormed c) (t : binary_order c ≡ true) (k a b : ℕ) (ka : a < lit_of (inner c + k)) (kb : b < lit_of (inner c + k))
    (bytes : List ℕ) (size : length bytes ≡ c.M + 1) (right : wrong_on c bytes ≡ None) (gates : List ℕ) (base n : ℕ) (at : inner c ≡ base)
    (len : length c.gates ≡ n) (there : k < n) (table : gates_at gates n ≡ (rewire c k a b).gates) where
  abbrev edited : Circuit
  edited = rewire c k a b

  abbrev s : List Value
  s = state_on c bytes

  abbrev i : List Value
  i = inputs_on c bytes

  abbrev fresh : ℕ → Value
  fresh = values_of edited s i

  sum : base + n ≡ c.M + 1
  sum = omega (arith, ((order-exactly c).0 t).sum, at, len)

  -- the edited gates are in binary order
  pub binary-again : Binary base (gates_at gates n)
  binary-again =
      subst (λ (x : ℕ). Binary x (gates_at gates n)) at (subst (λ (gs : List Gate). Binary (inner c) gs) (sym table)
      (order-binary (inner c) edited.gates ((order-exactly edited).0 (rewire-in-order c w t k a b ka kb)).gates))

  -- below the gate the screen shows fresh values already
  pub shown-below : Shows fresh (base + k) bytes
  shown-below v h =
      ap (λ (l : List ℕ). get_or l v 0) ((screen-exactly c w t bytes size).0 right) ∙ screen-at c s i v (omega (arith, sum, there))
      ∙ ap code_of (sym (rewire-below c w t k a b ka kb s i v (omega (arith, at))))

  -- and each gate's fresh value follows
  pub gates-follow : Follows fresh gates base k n
  gates-follow = record {
    holds = λ j _ h.
        ap fresh (sym (left_at base gates n j h binary-again))
        ∙ all-places (GateEq fresh) (gate_at gates) n
        (subst (AllG (GateEq fresh)) (sym table) (gates-hold edited (accepted edited (rewire-well-formed c w t k a b ka kb)) s i)) j h;
  }

  -- so what the pass leaves is the screen of a fresh step
  pub screen-anew : (after : List ℕ) → length after ≡ c.M + 1 → Shows fresh (base + n) after → after ≡ rewired_screen c k a b bytes
  screen-anew after long shows =
      ext_get_or 0 after (screen edited s i) (long ∙ sym (length-screen edited s i))
      (λ v h. shows v (omega (arith, sum)) ∙ sym (screen-at edited s i v (omega arith)))
