-- The doubling of a variable within the limits; three stores in a row.
use Prim.Native.Nat.{ℕ, suc, ◌+◌, ◌<◌, ◌≤◌}
use mathlib.Core.Path.{◌≡◌, ap, ap₂, ◌∙◌}
use mathlib.Core.List.{List, [], ◌∷◌, append_assoc}
use native.Mathlib.Omega.{arith}
use lib.ListN.{length, set, take, drop}
use lib.Seq.{sets-eq}
use Rattle.plan.specs.declared.Var.{Var}
use Rattle.plan.specs.declared.Lit.{Lit}
use Rattle.plan.specs.Literals.{lit_of, var_at, word_of, doubled}
use Rattle.plan.specs.Outcome.{put}

-- no bit of a variable's literal is cut
pub lit_is : (w : Var) (l : Lit) (v : ℕ) → v < 1048576 → w ≡ var_at v → l ≡ doubled w → word_of l ≡ lit_of v
lit_is w l v h p q = ap word_of (q ∙ ap doubled p) ∙ omega arith

pub three-put : (t : List ℕ) (k a b c : ℕ) → k + 3 ≤ length t → set (set (set t k a) (k + 1) b) (k + 2) c ≡ put t k (a ∷ b ∷ c ∷ [])
three-put t k a b c h =
    let one : k + 1 ≡ suc k = omega arith in
    let two : k + 2 ≡ suc (suc k) = omega arith in
    let words : List ℕ = a ∷ b ∷ c ∷ [] in
    ap₂ (λ (i j : ℕ). set (set (set t k a) i b) j c) one two
    ∙ (sets-eq words t k h ∙ append_assoc (take k t) words (drop (k + 3) t))
