-- The first gate without a number is the one that 8 names.
use Prim.Native.Nat.{ℕ, zero, suc, ◌+◌, ◌<◌, ◌≤◌}
use mathlib.Core.Path.{◌≡◌, refl, sym, ap, ◌∙◌, subst}
use mathlib.Core.Bool.{Bool, true, false, cond}
use mathlib.Core.List.{List, [], ◌∷◌, ◌++◌, map}
use Rattle.std.specs.Prelude.{Some, None}
use native.Mathlib.Nat.{not-suc-le-zero}
use native.Mathlib.Omega.{arith}
use borrow.Author.Tests.{eqb-true, eqb-false}
use lib.Dec.{eqb}
use lib.ListN.{length, take, length-take, length-append}
use Rattle.plan.specs.Literals.{var_of}
use Rattle.plan.specs.Circuit.{Gate, Circuit, gate_of, rows_of, left_vars, rights, has, leaves}
use Rattle.plan.specs.Depends.{cyclic_in}
use Rattle.laws.proofs.Reading.Members.{distinct}
use Rattle.laws.proofs.Reading.Cycles.{length-lefts}
use Rattle.laws.proofs.Running.Lists.{all_in}
use Rattle.laws.proofs.Running.Scan.{scanned, scanned-length}
use Rattle.laws.proofs.Running.FirstOut.{first_out, out-append-none, out-append-some, cyclic-out}
use Rattle.laws.proofs.Tables.{gate_at, gates_at, gates-rows}
use Rattle.judge.specs.order.Numbers.{NumTable, InRange}
use Rattle.judge.specs.order.Waiting.{numbered_v, counted, FirstAt}
use Rattle.judge.proofs.order.Shown.{numbered-take}
use Rattle.judge.proofs.order.Numbering.{Starts, numbered-has}
use Rattle.judge.proofs.order.Counting.{counted-all, counted-full}
use Rattle.judge.proofs.order.Settling.{small-words}
use Rattle.judge.proofs.order.Conversion.{gates-count}

-- by places: all are in o; all before r are, and r is not
out_none : (o gates : List ℕ) (a : ℕ) → ((i : ℕ) → i < a → has (var_of (gate_at gates i).lhs) o ≡ true) → first_out o (gates_at gates a) ≡ None
out_none o gates zero h = refl
out_none o gates (suc a) h =
    out-append-none o (gates_at gates a) (gate_at gates a ∷ []) (out_none o gates a (λ i k. h i (omega arith)))
    ∙ ap (λ (b : Bool). cond b None (Some (var_of (gate_at gates a).lhs))) (h a (omega arith))

out_some : (o gates : List ℕ) (a r : ℕ) → r < a → ((i : ℕ) → i < r → has (var_of (gate_at gates i).lhs) o ≡ true)
    → has (var_of (gate_at gates r).lhs) o ≡ false → first_out o (gates_at gates a) ≡ Some (var_of (gate_at gates r).lhs)
out_some o gates zero r h f e = absurd (not-suc-le-zero h)
out_some o gates (suc a) r h f e = go (eqb r a) refl (λ q. out_some o gates a r q f e)
  where
    go : (b : Bool) → eqb r a ≡ b → (r < a → first_out o (gates_at gates a) ≡ Some (var_of (gate_at gates r).lhs))
        → first_out o (gates_at gates a ++ (gate_at gates a ∷ [])) ≡ Some (var_of (gate_at gates r).lhs)
    go true z ih =
        subst (λ (m : ℕ). first_out o (gates_at gates m ++ (gate_at gates m ∷ [])) ≡ Some (var_of (gate_at gates r).lhs)) (eqb-true r a z)
        (out-append-none o (gates_at gates r) (gate_at gates r ∷ []) (out_none o gates r f)
        ∙ ap (λ (b : Bool). cond b None (Some (var_of (gate_at gates r).lhs))) e)
    go false z ih =
        out-append-some o (gates_at gates a) (gate_at gates a ∷ []) (var_of (gate_at gates r).lhs) (ih (omega (arith, eqb-false r a z)))

module _ (gates t o : List ℕ) (n a r : ℕ) (long : n ≤ length t) (range : InRange n gates a) (starts : Starts o)
    (short : length o < 2147483648) (tab : NumTable o (take n t)) (f : FirstAt gates t a r) where
  same : (i : ℕ) → i < a → has (var_of (gate_at gates i).lhs) o ≡ numbered_v t (var_of (gate_at gates i).lhs)
  same i k =
      let v = var_of (gate_at gates i).lhs in
      let inn = (range i k).0 in
      sym (numbered-has o (take n t) starts tab v (omega (arith, inn, length-take n t)))
      ∙ numbered-take t n v inn (small-words o t n long short tab v inn)

  pub out-good : r ≡ a → first_out o (gates_at gates a) ≡ None
  out-good e = out_none o gates a (λ i k. same i k ∙ f.before i (omega arith))

  pub out-here : (r ≡ a → ⊥) → first_out o (gates_at gates a) ≡ Some (var_of (gate_at gates r).lhs)
  out-here e =
      let h : r < a = omega (arith, f.within, e) in
      out_some o gates a r h (λ i k. same i (omega arith) ∙ f.before i k) (same r h ∙ f.there h)

-- of a circuit
module _ (gates t : List ℕ) (n a first : ℕ) (c : Circuit) (its : c.gates ≡ map gate_of (rows_of 3 a gates))
    (once : distinct (leaves c ++ left_vars c.gates) ≡ true)
    (used : all_in (rights c.gates) (leaves c ++ left_vars c.gates) ≡ true) (count : length (leaves c) ≡ first)
    (long : n ≤ length t) (range : InRange n gates a) (few : first + a < 2147483648)
    (tab : NumTable (leaves c ++ left_vars (scanned (map gate_of (rows_of 3 a gates)) a (leaves c))) (take n t)) (r : ℕ)
    (f : FirstAt gates t a r) where
  rows : c.gates ≡ gates_at gates a
  rows = its ∙ gates-rows gates a

  o : List ℕ
  o = leaves c ++ left_vars (scanned (map gate_of (rows_of 3 a gates)) a (leaves c))

  short : length o < 2147483648
  unfolding o
  short =
      let gs = map gate_of (rows_of 3 a gates) in
      omega (
        arith,
        length-append (leaves c) (left_vars (scanned gs a (leaves c))),
        length-lefts (scanned gs a (leaves c)),
        scanned-length gs a (leaves c),
      )

  place : cyclic_in c ≡ first_out o (gates_at gates a)
  unfolding o
  place =
      cyclic-out c once used
      ∙ (ap (λ (k : ℕ). first_out (leaves c ++ left_vars (scanned c.gates k (leaves c))) c.gates) (gates-count gates a c its)
      ∙ (ap (λ (gs : List Gate). first_out (leaves c ++ left_vars (scanned gs a (leaves c))) c.gates) its
      ∙ ap (first_out (leaves c ++ left_vars (scanned (map gate_of (rows_of 3 a gates)) a (leaves c)))) rows))

  pub cycle-good : r ≡ a → cyclic_in c ≡ None
  unfolding o
  cycle-good e = place ∙ out-good gates t o n a r long range refl short tab f e

  pub cycle-here : (r ≡ a → ⊥) → cyclic_in c ≡ Some (var_of (gate_at gates r).lhs)
  unfolding o
  cycle-here e = place ∙ out-here gates t o n a r long range refl short tab f e

-- all gates have numbers if they are as many; else one has none
pub first-none : (gates t : List ℕ) (a : ℕ) → counted gates t a ≡ a → FirstAt gates t a a
first-none gates t a e = record { within = omega arith; before = counted-full gates t a e; there = λ h. absurd (omega arith) }

pub first_some : (gates t : List ℕ) (a k r : ℕ) → k ≡ counted gates t a → (k ≡ a → ⊥) → FirstAt gates t a r → r < a
first_some gates t a k r e d f = go (eqb r a) refl
  where
    go : (b : Bool) → eqb r a ≡ b → r < a
    go true z = absurd (d (e ∙ counted-all gates t a (λ i h. f.before i (omega (arith, eqb-true r a z)))))
    go false z = omega (arith, f.within, eqb-false r a z)
