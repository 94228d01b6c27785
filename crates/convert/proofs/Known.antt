-- A table that has the new numbers of a well-formed circuit: it knows every literal up to M, and gives what conversion gives.
use Prim.Native.Nat.{ℕ, suc, ◌+◌, ◌<◌, ◌≤◌}
use mathlib.Core.Path.{◌≡◌, refl, sym, ap, ap₂, ◌∙◌}
use mathlib.Core.Bool.{Bool, true, cond}
use mathlib.Core.List.{List, [], ◌∷◌, ◌++◌, map}
use native.Mathlib.Omega.{arith}
use lib.ListN.{length, get_or, take, length-take, length-append}
use lib.Seq.{get_or-take}
use Rattle.plan.specs.Literals.{lit_of, var_of, sign_of}
use Rattle.plan.specs.Circuit.{Circuit, left_vars, has, leaves, index}
use Rattle.plan.specs.Convert.{sorted, numbered, renumber}
use Rattle.laws.proofs.Reading.Cycles.{length-lefts}
use Rattle.laws.proofs.Running.Lists.{all_in, in_head, in_tail}
use Rattle.laws.proofs.Running.Accepted.{Accepted}
use Rattle.laws.proofs.Running.Binary.{Bounded, inner}
use Rattle.laws.proofs.Running.Converted.{length-leaves, gets-number}
use Rattle.laws.proofs.Running.Scan.{every-gate}
use Rattle.judge.specs.order.Numbers.{NumTable}
use Rattle.judge.specs.order.Waiting.{Fresh}
use Rattle.judge.proofs.order.Settling.{small-words}
use Rattle.convert.specs.renumber.Renumbered.{literal_by, Known}

module _ (c : Circuit) (ok : Accepted c) (m : ℕ) (few : inner c + length c.gates < 2147483648) (t : List ℕ) (long : m < length t)
    (tab : NumTable (numbered c) (take (m + 1) t)) where
  -- what is defined
  abbrev defined : List ℕ
  defined = leaves c ++ left_vars c.gates

  small : Fresh t (m + 1)
  small =
      small-words (numbered c) t (m + 1) (omega arith)
      (omega (
        arith,
        length-append (leaves c) (left_vars (sorted c)),
        length-lefts (sorted c),
        every-gate c ok,
        length-leaves c,
      ))
      tab

  pub known : (l : ℕ) → var_of l ≤ m → Known t l
  known l h = (omega arith, small (var_of l) (omega arith))

  pub number_by : (v : ℕ) → v ≤ m → has v defined ≡ true → get_or t v 0 ≡ index v (numbered c)
  unfolding NumTable
  number_by v h k =
      sym (get_or-take (m + 1) t v 0 (omega arith))
      ∙ (tab v (omega (arith, length-take (m + 1) t)) ∙ ap (λ (b : Bool). cond b (index v (numbered c)) 0) (gets-number c ok v k))

  pub literal-by : (l : ℕ) → var_of l ≤ m → has (var_of l) defined ≡ true → literal_by t l ≡ renumber (numbered c) l
  unfolding literal_by
  literal-by l h k = ap (λ (v : ℕ). lit_of v + sign_of l) (number_by (var_of l) h k)

  pub literals-by : (ls : List ℕ) → Bounded (suc m) ls → all_in ls defined ≡ true → map (literal_by t) ls ≡ map (renumber (numbered c)) ls
  literals-by [] b a = refl
  literals-by (l ∷ ls) b a =
      ap₂ (λ (x : ℕ) (xs : List ℕ). x ∷ xs) (literal-by l (omega (arith, b.0)) (in_head l ls defined a))
      (literals-by ls b.1 (in_tail l ls defined a))
