-- A slot leads to gate n. Each answer is given by `led-scratch`.
use Prim.Native.Nat.{ℕ, ◌*◌, ◌<◌}
use mathlib.Core.Path.{◌≡◌, sym, ap, ◌∙◌, subst}
use native.Mathlib.Omega.{arith}
use Rattle.reduce.specs.declared.pairs.Slot.{Slot}
use Rattle.reduce.specs.declared.pairs.Slot.TheVariants.{Root, Under}
use Rattle.reduce.specs.pairs.Pairs.{Within, number_of, gates_hung, scratch_hung}
use Rattle.reduce.proofs.pairs.Words.{led-scratch}
use Rattle.reduce.proofs.pairs.set_slot.Goals as goal

pub offset_bounds-scratch-at : goal.offset_bounds-scratch-at
offset_bounds-scratch-at c =
    let root_in : (at : ℕ) → c.args.slot ≡ Root at → at < 4 * c.args.w =
    λ at e. let low : at < 3 * c.args.w = subst (λ (x : Slot). Within c.args.w c.args.n x) e c.requires.within in
    omega (arith, low) in
    record { fits = omega (arith, root_in _ c.in-Root.is, c.requires.room.few) }

pub bounds-scratch-at : goal.bounds-scratch-at
bounds-scratch-at c =
    let root_in : (at : ℕ) → c.args.slot ≡ Root at → at < 4 * c.args.w =
    λ at e. let low : at < 3 * c.args.w = subst (λ (x : Slot). Within c.args.w c.args.n x) e c.requires.within in
    omega (arith, low) in
    omega (arith, root_in _ c.in-Root.is, c.requires.room.scratch-long)

pub set_link-requires : goal.set_link-requires
set_link-requires c =
    let link-in : (i bit : ℕ) → c.args.slot ≡ Under i bit → i < c.args.n =
    λ i bit e. (subst (λ (x : Slot). Within c.args.w c.args.n x) e c.requires.within).0 in
    record { room = c.requires.room; i_lt_n = link-in _ _ c.in-Under.is }

pub returns-in-Root : goal.returns-in-Root
returns-in-Root c =
    let root_in : (at : ℕ) → c.args.slot ≡ Root at → at < 4 * c.args.w =
    λ at e. let low : at < 3 * c.args.w = subst (λ (x : Slot). Within c.args.w c.args.n x) e c.requires.within in
    omega (arith, low) in
    let a = c.args in
    let led = led-scratch a.gates.now a.scratch.now a.w a.n _ (root_in _ c.in-Root.is) in
    let is = sym c.in-Root.is in (
      led.0 ∙ ap (λ (x : Slot). gates_hung a.gates.now a.w (number_of a.w x) a.n) is,
      led.1 ∙ ap (λ (x : Slot). scratch_hung a.scratch.now a.w (number_of a.w x) a.n) is,
    )

pub returns-in-Under : goal.returns-in-Under
returns-in-Under c =
    let a = c.args in
    let is = sym c.in-Under.is in (
      c.set_link.ensures.0 ∙ ap (λ (x : Slot). gates_hung a.gates.now a.w (number_of a.w x) a.n) is,
      c.set_link.ensures.1 ∙ ap (λ (x : Slot). scratch_hung a.scratch.now a.w (number_of a.w x) a.n) is,
    )
