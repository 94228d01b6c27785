-- Resets: conversion renames those that are literals of latches, reduction keeps them, and the first state stays the same.
use Prim.Native.Nat.{ℕ, zero, suc, ◌+◌, ◌≤◌, ◌<◌}
use mathlib.Core.Path.{◌≡◌, refl, sym, ap, ap₂, ◌∙◌, subst}
use mathlib.Core.Bool.{Bool, true, false, ◌&&◌, ◌||◌, false≢true}
use mathlib.Core.List.{List, [], ◌∷◌, ◌++◌, append_assoc, map}
use native.Mathlib.Omega.{arith}
use borrow.Author.Tests.{eqb-true, eq-eqb, ne_eqb}
use lib.Dec.{eqb}
use lib.ListN.{length, length-map, length-append}
use lib.Seq.{append_snoc}
use Rattle.plan.specs.Literals.{lit_of, var_of, sign_of, in_range, is_reset}
use Rattle.plan.specs.Circuit.{Latch, Circuit, latch_line, vars, current_vars, left_vars, nexts, has, inside, all_inside, resets_ok, leaves, index}
use Rattle.plan.specs.Reading.{WellFormed}
use Rattle.plan.specs.Binary.{latches_from}
use Rattle.plan.specs.Convert.{sorted, numbered, renumber, convert}
use Rattle.plan.specs.Reduce.{latch_becomes, reduce}
use Rattle.plan.specs.Step.{Value, vx, reset_value, first_state}
use Rattle.laws.proofs.Reading.Common.{and_left, and_right, and_intro}
use Rattle.laws.proofs.Reading.Members.{has-self, distinct}
use Rattle.laws.proofs.Reading.Runs.{length-nexts, BinaryOrder}
use Rattle.laws.proofs.Running.Lists.{apart, distinct-left}
use Rattle.laws.proofs.Running.Accepted.{Accepted}
use Rattle.laws.proofs.Running.Binary.{Bounded}

-- a reset is 0, 1 or the latch's own literal
pub by-reset : (own r : ℕ) (P : ℕ → Type 0) → is_reset own r ≡ true → P 0 → P 1 → P own → P r
by-reset own r P h p0 p1 po = zeroth (eqb r 0) refl (eqb r 1) refl (eqb r own) refl h
  where
    zeroth : (a : Bool) → eqb r 0 ≡ a → (b : Bool) → eqb r 1 ≡ b → (c : Bool) → eqb r own ≡ c → (a || (b || c)) ≡ true → P r
    zeroth true e b f c g k = subst P (sym (eqb-true r 0 e)) p0
    zeroth false e true f c g k = subst P (sym (eqb-true r 1 f)) p1
    zeroth false e false f true g k = subst P (sym (eqb-true r own g)) po
    zeroth false e false f false g k = absurd (false≢true k)

own-reset : (own : ℕ) → is_reset own own ≡ true
own-reset own = go (eqb own 0) (eqb own 1) (eqb own own) (eq-eqb own own refl)
  where
    go : (a b c : Bool) → c ≡ true → (a || (b || c)) ≡ true
    go true b c h = refl
    go false true c h = refl
    go false false c h = h

pub resets-length : (ls : List Latch) (rs : List ℕ) → resets_ok ls rs ≡ true → length rs ≡ length ls
resets-length [] [] h = refl
resets-length [] (r ∷ rs) h = absurd (false≢true h)
resets-length (l ∷ ls) [] h = absurd (false≢true h)
resets-length (l ∷ ls) (r ∷ rs) h = ap suc (resets-length ls rs (and_right (is_reset l.current r) _ h))

-- in binary order they are below the latches' end
from-bounded : (n v : ℕ) (ns rs : List ℕ) → resets_ok (latches_from v ns) rs ≡ true → 0 < n → v + length ns ≤ n → Bounded n rs
from-bounded n v [] [] h p q = tt
from-bounded n v [] (r ∷ rs) h p q = absurd (false≢true h)
from-bounded n v (x ∷ ns) [] h p q = absurd (false≢true h)
from-bounded n v (x ∷ ns) (r ∷ rs) h p q = (
  by-reset (lit_of v) r (λ (y : ℕ). var_of y < n) (and_left (is_reset (lit_of v) r) _ h) (omega arith) (omega arith) (omega arith),
  from-bounded n (suc v) ns rs (and_right (is_reset (lit_of v) r) _ h) p (omega arith),
)

pub resets-bounded : (c : Circuit) → BinaryOrder c → resets_ok c.latches c.resets ≡ true
    → Bounded (1 + length c.inputs + length c.latches + length c.gates) c.resets
resets-bounded c b h =
    from-bounded (1 + length c.inputs + length c.latches + length c.gates) (1 + length c.inputs) (nexts c.latches) c.resets
    (ap (λ (ls : List Latch). resets_ok ls c.resets) (sym b.latches) ∙ h) (omega arith) (omega (arith, length-nexts c.latches))

-- reduction
pub resets-become : (m : List ℕ) (ls : List Latch) (rs : List ℕ) → resets_ok (map (latch_becomes m) ls) rs ≡ resets_ok ls rs
resets-become m [] [] = refl
resets-become m [] (r ∷ rs) = refl
resets-become m (l ∷ ls) [] = refl
resets-become m (l ∷ ls) (r ∷ rs) = ap (λ (t : Bool). is_reset l.current r && t) (resets-become m ls rs)

-- conversion
index-seam : (v : ℕ) (pre post : List ℕ) → has v pre ≡ false → index v (pre ++ (v ∷ post)) ≡ length pre
index-seam v [] post h = rw (eq-eqb v v refl)
index-seam v (x ∷ pre) post h = go (eqb x v) refl (index-seam v pre post) h
  where
    go : (t : Bool) → eqb x v ≡ t → (has v pre ≡ false → index v (pre ++ (v ∷ post)) ≡ length pre) → (t || has v pre) ≡ false
        → index v (x ∷ pre ++ (v ∷ post)) ≡ suc (length pre)
    go true e f k = absurd (false≢true (sym k))
    go false e f k = rw e (ap suc (f k))

even-current : (m : ℕ) (l : Latch) (ls : List Latch) → all_inside true m (map latch_line (l ∷ ls)) ≡ true → sign_of l.current ≡ 0
even-current m l ls h =
    eqb-true _ _ (and_left (eqb (sign_of l.current) 0) _ (and_left (in_range true m l.current) _ (and_left (inside true m (latch_line l)) _ h)))

renamed : (m : ℕ) (os post : List ℕ) → renumber os 0 ≡ 0 → renumber os 1 ≡ 1 → (ls : List Latch) (rs pre ns : List ℕ)
    → os ≡ pre ++ (current_vars ls ++ post) → distinct (pre ++ current_vars ls) ≡ true → all_inside true m (map latch_line ls) ≡ true
    → length ns ≡ length ls → resets_ok ls rs ≡ true → resets_ok (latches_from (length pre) ns) (map (renumber os) rs) ≡ true
renamed m os post z0 z1 [] [] pre [] o d i n h = refl
renamed m os post z0 z1 [] [] pre (x ∷ ns) o d i n h = absurd (omega arith)
renamed m os post z0 z1 [] (r ∷ rs) pre ns o d i n h = absurd (false≢true h)
renamed m os post z0 z1 (l ∷ ls) [] pre ns o d i n h = absurd (false≢true h)
renamed m os post z0 z1 (l ∷ ls) (r ∷ rs) pre [] o d i n h = absurd (omega arith)
renamed m os post z0 z1 (l ∷ ls) (r ∷ rs) pre (x ∷ ns) o d i n h =
    let v = var_of l.current in
    let fresh : has v pre ≡ false = apart pre (v ∷ current_vars ls) d v (has-self v (current_vars ls)) in
    let at : index v os ≡ length pre = ap (index v) o ∙ index-seam v pre (current_vars ls ++ post) fresh in
    let own : lit_of (length pre) ≡ renumber os l.current = omega (arith, at, even-current m l ls i) in
    let long : length (pre ++ (v ∷ [])) ≡ suc (length pre) = omega (arith, length-append pre (v ∷ [])) in
    and_intro (is_reset (lit_of (length pre)) (renumber os r)) _
    (by-reset l.current r (λ (y : ℕ). is_reset (lit_of (length pre)) (renumber os y) ≡ true) (and_left (is_reset l.current r) _ h)
    (ap (is_reset (lit_of (length pre))) z0) (ap (is_reset (lit_of (length pre))) z1)
    (ap (is_reset (lit_of (length pre))) (sym own) ∙ own-reset (lit_of (length pre))))
    (subst (λ (k : ℕ). resets_ok (latches_from k ns) (map (renumber os) rs) ≡ true) long
    (renamed m os post z0 z1 ls rs (pre ++ (v ∷ [])) ns (o ∙ sym (append_snoc pre v (current_vars ls ++ post)))
    (ap distinct (append_snoc pre v (current_vars ls)) ∙ d) (and_right (inside true m (latch_line l)) _ i) (omega arith)
    (and_right (is_reset l.current r) _ h)))

length-vars : (ls : List ℕ) → length (vars ls) ≡ length ls
length-vars [] = refl
length-vars (l ∷ ls) = ap suc (length-vars ls)

pub resets-convert : (c : Circuit) → WellFormed c → Accepted c → resets_ok (convert c).latches (convert c).resets ≡ true
resets-convert c w ok =
    let pre = zero ∷ vars c.inputs in
    let k : length pre ≡ 1 + length c.inputs = omega (arith, length-vars c.inputs) in
    let ns = map (renumber (numbered c)) (nexts c.latches) in
    subst (λ (n : ℕ). resets_ok (latches_from n ns) (map (renumber (numbered c)) c.resets) ≡ true) k
    (renamed c.M (numbered c) (left_vars (sorted c)) refl refl c.latches c.resets pre ns
    (append_assoc pre (current_vars c.latches) (left_vars (sorted c))) (distinct-left (leaves c) (left_vars c.gates) ok.once) w.latches
    (length-map (nexts c.latches) (renumber (numbered c)) ∙ length-nexts c.latches) w.resets)

-- the first state: a literal but 0 and 1 is x, and stays one
value-x : (r : ℕ) → 2 ≤ r → reset_value r ≡ vx
value-x r h = rw (ne_eqb r 0 (λ e. omega arith), ne_eqb r 1 (λ e. omega arith))

reset-value : (os : List ℕ) (r : ℕ) → reset_value (renumber (zero ∷ os) r) ≡ reset_value r
reset-value os zero = refl
reset-value os (suc zero) = refl
reset-value os (suc (suc r)) =
    let q : index (var_of (suc (suc r))) (zero ∷ os) ≡ suc (index (var_of (suc (suc r))) os) = rw (ne_eqb 0 (var_of (suc (suc r))) (λ e. omega arith)) in
    value-x (renumber (zero ∷ os) (suc (suc r))) (omega (arith, q)) ∙ sym (value-x (suc (suc r)) (omega arith))

values-renumbered : (os rs : List ℕ) → map reset_value (map (renumber (zero ∷ os)) rs) ≡ map reset_value rs
values-renumbered os [] = refl
values-renumbered os (r ∷ rs) = ap₂ (λ (x : Value) (t : List Value). x ∷ t) (reset-value os r) (values-renumbered os rs)

pub first-convert : (c : Circuit) → first_state (convert c) ≡ first_state c
first-convert c = values-renumbered ((vars c.inputs ++ current_vars c.latches) ++ left_vars (sorted c)) c.resets

pub first-reduce : (c : Circuit) → first_state (reduce c) ≡ first_state c
first-reduce c = refl

pub first-length : (c : Circuit) → WellFormed c → length (first_state c) ≡ length c.latches
first-length c w = length-map c.resets reset_value ∙ resets-length c.latches c.resets w.resets
