-- The leaves that tables hold, by places: their variables, and the numbers that two walks over the rows give them.
use Prim.Native.Nat.{ℕ, zero, suc, ◌+◌, ◌<◌, ◌≤◌}
use mathlib.Core.Path.{◌≡◌, refl, sym, ap, ap₂, ◌∙◌, subst}
use mathlib.Core.Bool.{Bool, true, false, cond, ◌||◌}
use mathlib.Core.List.{List, [], ◌∷◌, ◌++◌}
use native.Mathlib.Omega.{arith}
use lib.Dec.{eqb}
use lib.ListN.{length, get_or, take, length-take, length-append}
use lib.Seq.{get_or-take}
use Rattle.plan.specs.declared.Counts.{Counts}
use Rattle.laws.proofs.Ranges.{input-in, latch-in}
use Rattle.laws.proofs.Reading.Members.{distinct}
use Rattle.laws.proofs.Running.Lists.{distinct-left}
use Rattle.laws.proofs.Tables.{head_at, heads_at, length-firsts, inputs-heads, latches-heads}
use Rattle.judge.specs.order.Numbers.{NumTable}
use Rattle.judge.specs.at_end.Leaves.{with_heads, leaves_of, Leaves, Numbered}
use Rattle.judge.proofs.at_end.Heads.{with-length, with_rest, with-numbers}

-- a blank table numbers the constant alone
blank-numbers : (t : List ℕ) (m : ℕ) → ((v : ℕ) → v ≤ m → get_or t v 0 ≡ 0) → NumTable (zero ∷ []) (take (m + 1) t)
unfolding NumTable
blank-numbers t m blank v h =
    let k : v ≤ m = omega (arith, length-take (m + 1) t) in
    get_or-take (m + 1) t v 0 (omega arith) ∙ (blank v k ∙ go (eqb zero v))
  where
    go : (b : Bool) → 0 ≡ cond (b || false) (cond b zero (suc zero)) 0
    go true = refl
    go false = refl

module _ {n : Counts} {inputs latches t : List ℕ} (p : Leaves n inputs latches t) where
  leaves_at : leaves_of n inputs latches ≡ zero ∷ (heads_at inputs 1 n.I ++ heads_at latches 2 n.L)
  leaves_at = ap₂ (λ (x y : List ℕ). zero ∷ (x ++ y)) (inputs-heads inputs n.I p.inputs_long) (latches-heads latches n.L)

  pub leaves-count : length (leaves_of n inputs latches) ≡ 1 + n.I + n.L
  leaves-count =
      ap length leaves_at
      ∙ omega (
        arith,
        length-append (heads_at inputs 1 n.I) (heads_at latches 2 n.L),
        length-firsts (head_at inputs 1) n.I,
        length-firsts (head_at latches 2) n.L,
      )

  pub input-below : (i : ℕ) → i < n.I → head_at inputs 1 i < n.M + 1
  input-below i h = omega (arith, input-in n.M inputs n.I p.inputs_long p.inputs-inside i h)

  pub latch-below : (i : ℕ) → i < n.L → head_at latches 2 i < n.M + 1
  latch-below i h = omega (arith, latch-in n.M latches n.L p.latches-inside i h)

  -- inputs from 1 on, then latches
  pub leaves-numbered : (u w : List ℕ) → u ≡ with_heads inputs 1 1 n.I t → w ≡ with_heads latches 2 (1 + n.I) n.L u
      → Numbered n inputs latches t w
  leaves-numbered u w by-inputs by-latches = record { numbers = numbers; rest = rest }
    where
      once : distinct ((zero ∷ heads_at inputs 1 n.I) ++ heads_at latches 2 n.L) ≡ true
      once = sym (ap distinct leaves_at) ∙ p.different

      count : length (zero ∷ heads_at inputs 1 n.I) ≡ 1 + n.I
      count = omega (arith, length-firsts (head_at inputs 1) n.I)

      long : length u ≡ length t
      long = ap length by-inputs ∙ with-length inputs 1 1 n.I t

      after-inputs : NumTable (zero ∷ heads_at inputs 1 n.I) (take (n.M + 1) u)
      after-inputs =
          subst (λ (l : List ℕ). NumTable (zero ∷ heads_at inputs 1 n.I) (take (n.M + 1) l)) (sym by-inputs)
          (with-numbers inputs 1 1 (n.M + 1) (zero ∷ []) refl n.I t (omega (arith, p.table-long)) input-below
          (distinct-left (zero ∷ heads_at inputs 1 n.I) (heads_at latches 2 n.L) once)
          (blank-numbers t n.M p.blank))

      numbers : NumTable (leaves_of n inputs latches) (take (n.M + 1) w)
      numbers =
          subst (λ (l : List ℕ). NumTable l (take (n.M + 1) w)) (sym leaves_at)
          (subst (λ (l : List ℕ). NumTable ((zero ∷ heads_at inputs 1 n.I) ++ heads_at latches 2 n.L) (take (n.M + 1) l)) (sym by-latches)
          (with-numbers latches 2 (1 + n.I) (n.M + 1) (zero ∷ heads_at inputs 1 n.I) count n.L u
          (omega (arith, p.table-long, long)) latch-below once after-inputs))

      rest : (q : ℕ) → n.M < q → get_or w q 0 ≡ get_or t q 0
      rest q h =
          ap (λ (l : List ℕ). get_or l q 0) by-latches
          ∙ (with_rest latches 2 (1 + n.I) (n.M + 1) n.L u latch-below q (omega arith)
          ∙ (ap (λ (l : List ℕ). get_or l q 0) by-inputs
          ∙ with_rest inputs 1 1 (n.M + 1) n.I t input-below q (omega arith)))
