-- The x of a list, counted place by place and part by part.
use Prim.Native.Nat.{ℕ, zero, suc, ◌+◌, ◌≤◌, ◌<◌}
use mathlib.Core.Path.{◌≡◌, ap, ◌∙◌}
use mathlib.Core.Bool.{Bool, true, false, cond}
use mathlib.Core.List.{List, [], ◌∷◌}
use native.Mathlib.Nat.{add-zero}
use native.Mathlib.Numerals.{add-one}
use native.Mathlib.Omega.{arith}
use lib.ListN.{length, get_or, take, drop}
use lib.Seq.{take-add, take-suc, take_all}
use Rattle.plan.specs.Fillings.{is_x, x_of, x_count}
use Rattle.laws.proofs.Fillings.Numbering.{count-append}

pub x-small : (code : ℕ) → x_of code ≤ 1
x-small code = go (is_x code)
  where
    go : (t : Bool) → cond t 1 0 ≤ 1
    go true = omega arith
    go false = omega arith

pub count_small : (l : List ℕ) → x_count l ≤ length l
count_small [] = omega arith
count_small (b ∷ l) = omega (arith, count_small l, x-small b)

pub count-take : (n : ℕ) (l : List ℕ) → x_count (take n l) ≤ x_count l
count-take zero l = omega arith
count-take (suc n) [] = omega arith
count-take (suc n) (b ∷ l) = omega (arith, count-take n l)

pub count-part : (a b : ℕ) (l : List ℕ) → x_count (take (a + b) l) ≡ x_count (take a l) + x_count (take b (drop a l))
count-part a b l = ap x_count (take-add a b l) ∙ count-append (take a l) (take b (drop a l))

-- one place more, and all
pub count-more : (l : List ℕ) (i : ℕ) → i < length l → x_count (take (i + 1) l) ≡ x_count (take i l) + x_of (get_or l i 0)
count-more l i h =
    ap (λ (n : ℕ). x_count (take n l)) (add-one i)
    ∙ (ap x_count (take-suc l i 0 h)
    ∙ (count-append (take i l) (get_or l i 0 ∷ []) ∙ ap (λ (n : ℕ). x_count (take i l) + n) (add-zero (x_of (get_or l i 0)))))

pub count-all : (l : List ℕ) (i : ℕ) → length l ≤ i → x_count (take i l) ≡ x_count l
count-all l i h = ap x_count (take_all i l h)
