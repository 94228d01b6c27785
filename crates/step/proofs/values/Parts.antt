-- Parts of a table into which words are put: what stands before them and past them stays.
use Prim.Native.Nat.{ℕ, ◌+◌, ◌-◌, ◌≤◌, ◌<◌}
use mathlib.Core.Path.{◌≡◌, refl, sym, ap, ◌∙◌}
use mathlib.Core.List.{List, ◌++◌}
use native.Mathlib.Omega.{arith}
use lib.ListN.{length, get_or, take, drop}
use lib.Seq.{length-take-le, take-append-le, take-take, take_at, drop-drop, drop-append-add, get_or-take, get_or-drop}
use Rattle.plan.specs.Outcome.{put}
use Rattle.laws.proofs.Put.{put-there}

module _ (l : List ℕ) (at : ℕ) (w : List ℕ) (fits : at ≤ length l) where
  pub front-stays : (p : ℕ) → p ≤ at → take p (put l at w) ≡ take p l
  front-stays p h =
      take-append-le p (take at l) (w ++ drop (at + length w) l) (omega (arith, length-take-le at l fits)) ∙ take-take p at l h

  pub back-stays : (p : ℕ) → at + length w ≤ p → drop p (put l at w) ≡ drop p l
  back-stays p h =
      let k : ℕ = p - (at + length w) in
      let there : p ≡ at + (length w + k) = omega arith in
      let rest : at + length w + k ≡ p = omega arith in
      ap (λ (q : ℕ). drop q (put l at w)) there
      ∙ (sym (drop-drop (length w + k) at (put l at w))
      ∙ (ap (drop (length w + k)) (put-there l at w fits)
      ∙ (drop-append-add w (drop (at + length w) l) k
      ∙ (drop-drop k (at + length w) l ∙ ap (λ (q : ℕ). drop q l) rest))))

  -- what is put stands there
  pub part-put : take (length w) (drop at (put l at w)) ≡ w
  part-put = ap (take (length w)) (put-there l at w fits) ∙ take_at w (drop (at + length w) l) (length w) refl

  pub word-before : (p : ℕ) → p < at → get_or (put l at w) p 0 ≡ get_or l p 0
  word-before p h =
      sym (get_or-take at (put l at w) p 0 h) ∙ (ap (λ (x : List ℕ). get_or x p 0) (front-stays at (omega arith)) ∙ get_or-take at l p 0 h)

  pub word-past : (p : ℕ) → at + length w ≤ p → get_or (put l at w) p 0 ≡ get_or l p 0
  word-past p h =
      let here : p ≡ p + 0 = omega arith in
      ap (λ (q : ℕ). get_or (put l at w) q 0) here
      ∙ (sym (get_or-drop p (put l at w) 0 0)
      ∙ (ap (λ (x : List ℕ). get_or x 0 0) (back-stays p h) ∙ (get_or-drop p l 0 0 ∙ ap (λ (q : ℕ). get_or l q 0) (sym here))))
