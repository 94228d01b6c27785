-- Words of vectors before a step: a state beside the constant, and inputs beside a state.
use Prim.Native.Nat.{ℕ, ◌+◌, ◌≤◌, ◌<◌}
use mathlib.Core.Path.{◌≡◌, refl, sym, ap, ap₂, ◌∙◌}
use mathlib.Core.List.{List, [], ◌∷◌, ◌++◌, map-append}
use native.Mathlib.Omega.{arith}
use lib.ListN.{length, take, drop, set, length-map}
use lib.Seq.{take-add}
use Rattle.plan.specs.declared.Counts.{Counts}
use Rattle.plan.specs.Step.{Value, v0}
use Rattle.plan.specs.Outcome.{put}
use Rattle.laws.proofs.Running.Upward.{given}
use Rattle.step.specs.values.Words.{word, words}
use Rattle.step.proofs.values.Parts.{front-stays, back-stays, part-put}
use Rattle.step.specs.sweep.Running.{Rests, Stands}

-- where the constant is set, all else as it comes
pub constant-set : (l : List ℕ) → 0 < length l → take 1 (set l 0 (word v0)) ≡ words (v0 ∷ [])
constant-set [] h = absurd (omega arith)
constant-set (x ∷ l) h = refl

-- a state that is loaded behind the constant
pub rests-loaded : (n : Counts) (base : List ℕ) (s : List Value) (t : List ℕ) → take 1 base ≡ words (v0 ∷ []) → 1 + n.I ≤ length base
    → length s ≡ n.L
    → t ≡ put base (1 + n.I) (words s)
    → Rests n s t
rests-loaded n base s t constant fits l e = record {
  zero = ap (take 1) e ∙ (front-stays base (1 + n.I) (words s) fits 1 (omega arith) ∙ constant);
  state =
      ap₂ (λ (m : ℕ) (x : List ℕ). take m (drop (1 + n.I) x)) (sym (length-map s word ∙ l)) e
      ∙ part-put base (1 + n.I) (words s) fits;
}

-- inputs that are loaded beside a state
pub stands-loaded : (n : Counts) (s i : List Value) (t t' : List ℕ) → Rests n s t → length s ≡ n.L → length i ≡ n.I
    → 1 + n.I + n.L ≤ length t
    → t' ≡ put t 1 (words i)
    → Stands n s i t'
stands-loaded n s i t t' r ls li h e = record { state-length = ls; inputs-length = li; leaves = leaves }
  where
    w : List ℕ
    w = words i

    count : length w ≡ n.I
    count = length-map i word ∙ li

    front : take 1 (put t 1 w) ≡ words (v0 ∷ [])
    front = front-stays t 1 w (omega arith) 1 (omega arith) ∙ r.zero

    middle : take n.I (drop 1 (put t 1 w)) ≡ w
    middle = ap (λ (m : ℕ). take m (drop 1 (put t 1 w))) (sym count) ∙ part-put t 1 w (omega arith)

    back : take n.L (drop (1 + n.I) (put t 1 w)) ≡ words s
    back = ap (take n.L) (back-stays t 1 w (omega arith) (1 + n.I) (omega (arith, count))) ∙ r.state

    leaves : take (1 + n.I + n.L) t' ≡ words (given s i)
    leaves =
        ap (take (1 + n.I + n.L)) e
        ∙ (take-add (1 + n.I) n.L (put t 1 w)
        ∙ (ap₂ (λ (x y : List ℕ). x ++ y) (take-add 1 n.I (put t 1 w) ∙ ap₂ (λ (x y : List ℕ). x ++ y) front middle) back
        ∙ ap (λ (l : List ℕ). word v0 ∷ l) (sym (map-append word i s))))
