-- Rows whose variables take numbers: one row more, the words past the variables, and the table of numbers that results.
use Prim.Native.Nat.{ℕ, zero, suc, ◌+◌, ◌<◌, ◌≤◌}
use mathlib.Core.Path.{◌≡◌, refl, sym, ap, ap₂, ◌∙◌, subst}
use mathlib.Core.Bool.{true}
use mathlib.Core.List.{List, [], ◌∷◌, ◌++◌, append_assoc, append-nil}
use native.Mathlib.Omega.{arith}
use lib.ListN.{length, get_or, set, take, length-set, length-take, length-append}
use lib.Seq.{get_or-set_other, take-set-lt}
use Rattle.laws.proofs.Reading.Members.{has-self, distinct}
use Rattle.laws.proofs.Running.Lists.{distinct-left, apart}
use Rattle.laws.proofs.Tables.{head_at, heads_at, length-firsts}
use Rattle.judge.specs.order.Numbers.{NumTable}
use Rattle.judge.proofs.order.Numbering.{numtable-more}
use Rattle.judge.specs.at_end.Leaves.{with_heads}

pub with-length : (table : List ℕ) (stride first n : ℕ) (t : List ℕ) → length (with_heads table stride first n t) ≡ length t
with-length table stride first zero t = refl
with-length table stride first (suc n) t = length-set (with_heads table stride first n t) _ _ ∙ with-length table stride first n t

-- of a table whose first `size` words are of variables, where all rows' are
module _ (table : List ℕ) (stride first size : ℕ) where
  pub with_rest : (n : ℕ) (t : List ℕ) → ((i : ℕ) → i < n → head_at table stride i < size) → (p : ℕ) → size ≤ p
      → get_or (with_heads table stride first n t) p 0 ≡ get_or t p 0
  with_rest zero t h p k = refl
  with_rest (suc n) t h p k =
      get_or-set_other (with_heads table stride first n t) (head_at table stride n) p (first + n) 0 (λ e. omega (arith, h n (omega arith), e))
      ∙ with_rest n t (λ i q. h i (omega arith)) p k

  -- different variables, after those of lv
  pub with-numbers : (lv : List ℕ) → length lv ≡ first → (n : ℕ) (t : List ℕ) → size ≤ length t
      → ((i : ℕ) → i < n → head_at table stride i < size) → distinct (lv ++ heads_at table stride n) ≡ true → NumTable lv (take size t)
      → NumTable (lv ++ heads_at table stride n) (take size (with_heads table stride first n t))
  with-numbers lv len zero t long h d tab = rw (append-nil lv) tab
  with-numbers lv len (suc n) t long h d tab =
      let o = lv ++ heads_at table stride n in
      let u = with_heads table stride first n t in
      let v = head_at table stride n in
      let joined : o ++ (v ∷ []) ≡ lv ++ heads_at table stride (suc n) = append_assoc lv (heads_at table stride n) (v ∷ []) in
      let once : distinct (o ++ (v ∷ [])) ≡ true = ap distinct joined ∙ d in
      let before = with-numbers lv len n t long (λ i q. h i (omega arith)) (distinct-left o (v ∷ []) once) tab in
      let inn : v < size = h n (omega arith) in
      let next : length o ≡ first + n = length-append lv (heads_at table stride n) ∙ ap₂ ◌+◌ len (length-firsts (head_at table stride) n) in
      let fits : v < length (take size u) = omega (arith, length-take size u, with-length table stride first n t) in
      let stored : set (take size u) v (length o) ≡ take size (set u v (first + n))
      = ap (set (take size u) v) next ∙ sym (take-set-lt size u v (first + n) inn) in
      subst (λ (l : List ℕ). NumTable l (take size (set u v (first + n)))) joined
      (subst (NumTable (o ++ (v ∷ []))) stored
      (numtable-more o (take size u) v before (apart o (v ∷ []) once v (has-self v [])) fits))
