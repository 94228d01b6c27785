-- From one part of `number` to the next: what the words show at its start, between and at its end.
use Prim.Native.Nat.{ℕ, ◌<◌, ◌≤◌}
use mathlib.Core.Path.{◌≡◌, refl, sym, ap, ◌∙◌, subst}
use mathlib.Core.Bool.{Bool, true, false, cond}
use mathlib.Core.List.{List, [], ◌++◌, map, append-nil}
use native.Mathlib.Omega.{arith}
use borrow.Author.Tests.{ltb-true, ltb-false}
use lib.Dec.{ltb}
use lib.ListN.{length, get_or, take, length-take}
use lib.Seq.{get_or-take}
use Rattle.plan.specs.Circuit.{Gate, gate_of, rows_of, left_vars, has, index}
use Rattle.laws.proofs.Running.Lists.{index-front}
use Rattle.laws.proofs.Running.Scan.{scanned}
use Rattle.laws.proofs.Tables.{gates_at, gates-rows}
use Rattle.judge.specs.order.Numbers.{NumTable, InRange}
use Rattle.judge.specs.marks.Levels.{Agree}
use Rattle.judge.specs.order.Waiting.{shown, clean, lhs_of, counted, Fresh}
use Rattle.judge.proofs.order.Shown.{shown-low, shown-high, clean_at, clean-length, numbered-by}
use Rattle.judge.proofs.order.Counting.{counted_same}
use Rattle.judge.proofs.order.Numbering.{Starts}
use Rattle.judge.proofs.order.Assigning.{Done}

-- the numbers before and after
index_below : (v : ℕ) (o : List ℕ) → has v o ≡ true → index v o < length o
index_below v o h = subst (λ (l : List ℕ). index v l < length o) (append-nil o) (index-front v o [] h)

pub small-words : (lv t : List ℕ) (n : ℕ) → n ≤ length t → length lv < 2147483648 → NumTable lv (take n t) → Fresh t n
unfolding NumTable
small-words lv t n l h tab v k = go (has v lv) refl
  where
    e : get_or t v 0 ≡ cond (has v lv) (index v lv) 0
    e = sym (get_or-take n t v 0 k) ∙ tab v (omega (arith, length-take n t))

    go : (b : Bool) → has v lv ≡ b → get_or t v 0 < 2147483648
    go true q = let z = e ∙ ap (λ (b : Bool). cond b (index v lv) 0) q in omega (arith, z, index_below v lv q)
    go false q = let z = e ∙ ap (λ (b : Bool). cond b (index v lv) 0) q in omega (arith, z)

pub table-in : (lv t u : List ℕ) (n : ℕ) → n ≤ length t → n ≤ length u → Fresh t n
    → ((v : ℕ) → v < n → shown (get_or u v 0) ≡ shown (get_or t v 0)) → NumTable lv (take n t) → NumTable lv (clean n u)
unfolding NumTable
table-in lv t u n lt lu small same tab v h =
    let k : v < n = omega (arith, clean-length n u lu) in
    clean_at n u v k ∙ same v k ∙ shown-low (get_or t v 0) (small v k) ∙ sym (get_or-take n t v 0 k) ∙ tab v (omega (arith, length-take n t))

pub table-out : (o t u : List ℕ) (n : ℕ) → n ≤ length t → n ≤ length u → ((v : ℕ) → v < n → get_or u v 0 ≡ shown (get_or t v 0))
    → NumTable o (clean n t) → NumTable o (take n u)
unfolding NumTable
table-out o t u n lt lu same tab v h =
    let k : v < n = omega (arith, length-take n u) in
    get_or-take n u v 0 k ∙ same v k ∙ sym (clean_at n t v k) ∙ tab v (omega (arith, clean-length n t lt))

-- a settled word shows what it showed
shown-twice : (w : ℕ) → shown (shown w) ≡ shown w
shown-twice w = go (ltb w 2147483648) refl
  where
    go : (b : Bool) → ltb w 2147483648 ≡ b → shown (shown w) ≡ shown w
    go true e = ap shown (shown-low w (ltb-true w 2147483648 e))
    go false e = let z = shown-high w (ltb-false w 2147483648 e) in ap shown z ∙ (shown-low 0 (omega arith) ∙ sym z)

pub settled-count : (gates t u : List ℕ) (n a : ℕ) → InRange n gates a → ((v : ℕ) → v < n → get_or u v 0 ≡ shown (get_or t v 0))
    → counted gates u a ≡ counted gates t a
settled-count gates t u n a range same =
    counted_same gates t u a (λ i h.
    let v = lhs_of gates i in
    numbered-by t u v (ap shown (same v (range i h).0) ∙ shown-twice (get_or t v 0)))

-- all parts: gates named and hung, numbers given, words settled
pub all-parts : (gates t x y z w : List ℕ) (n a first : ℕ) → n ≤ length t → n ≤ length y → n ≤ length z → n ≤ length w → Fresh t n
    → ((v : ℕ) → v < n → shown (get_or x v 0) ≡ shown (get_or t v 0)) → Agree n x y → Done gates y z n a first
    → ((v : ℕ) → v < n → get_or w v 0 ≡ shown (get_or z v 0)) → (lv : List ℕ) → NumTable lv (take n t) → Starts lv → length lv ≡ first
    → NumTable (lv ++ left_vars (scanned (map gate_of (rows_of 3 a gates)) a lv)) (take n w)
all-parts gates t x y z w n a first lt ly lz lw fresh named hung given settled lv tab st len =
    subst (λ (gs : List Gate). NumTable (lv ++ left_vars (scanned gs a lv)) (take n w)) (sym (gates-rows gates a))
    (table-out (lv ++ left_vars (scanned (gates_at gates a) a lv)) z w n lz lw settled
    (given lv (table-in lv t y n lt ly fresh (λ v k. ap shown (hung v k) ∙ named v k) tab) st len))
