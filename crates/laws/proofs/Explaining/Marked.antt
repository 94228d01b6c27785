-- The marks, place by place: "1" exactly where the walk comes, and only where 0 or 1 stood.
use Prim.Native.Nat.{ℕ, zero, suc, ◌+◌, ◌-◌, ◌<◌}
use mathlib.Core.Path.{◌≡◌, refl, sym, ap, ◌∙◌}
use mathlib.Core.Bool.{Bool, true, false, cond}
use mathlib.Core.Logic.{◌↔◌}
use mathlib.Core.List.{List, [], ◌∷◌, ◌++◌, map}
use native.Mathlib.Omega.{arith}
use native.Mathlib.Nat.{not-suc-le-zero}
use native.Mathlib.Decide.{dec_lt}
use lib.ListN.{length, get_or, length-append, get_or-append}
use lib.Seq.{get_or-append-add}
use Rattle.plan.specs.Circuit.{Circuit, vars, current_vars, left_vars, has, leaves}
use Rattle.plan.specs.Reading.{WellFormed}
use Rattle.plan.specs.Binary.{binary_order}
use Rattle.plan.specs.Step.{Value, v0, vx, lit, values_of}
use Rattle.laws.proofs.Running.Lists.{distinct-left, has-at, index_at}
use Rattle.laws.proofs.Running.Accepted.{accepted}
use Rattle.laws.proofs.Running.GateValue.{leaf-value}
use Rattle.plan.specs.Explain.{Blamed, blamed, mark, places, marks_for}
use Rattle.laws.proofs.Explaining.Explained.{length-currents, length-vars, blamed-exactly, blamed-known}

pub length-places : (c : Circuit) → length (places c) ≡ length c.latches + length c.inputs
length-places c =
    omega (arith, length-append (current_vars c.latches) (vars c.inputs), length-vars c.inputs, length-currents c.latches)

marked-at : (vs us : List ℕ) (k d : ℕ) → k < length us → get_or (map (mark vs) us) k d ≡ mark vs (get_or us k 0)
marked-at vs [] k d h = absurd (not-suc-le-zero h)
marked-at vs (u ∷ us) zero d h = refl
marked-at vs (u ∷ us) (suc k) d h = marked-at vs us k d (omega arith)

mark-1 : (vs : List ℕ) (v : ℕ) → (mark vs v ≡ 49) ↔ (has v vs ≡ true)
mark-1 vs v = (λ e. out (has v vs) e, λ e. ap (λ (t : Bool). cond t 49 48) e)
  where
    out : (t : Bool) → ◌≡◌ {A = ℕ} (cond t 49 48) 49 → t ≡ true
    out true e = refl
    out false e = absurd (omega arith)

mark-0 : (vs : List ℕ) (v : ℕ) → (mark vs v ≡ 48) ↔ ¬ (has v vs ≡ true)
mark-0 vs v = (λ e t. omega (arith, sym (ap (λ (b : Bool). cond b 49 48) t) ∙ e), λ h. out (has v vs) h)
  where
    out : (t : Bool) → ¬ (t ≡ true) → ◌≡◌ {A = ℕ} (cond t 49 48) 48
    out true h = absurd (h refl)
    out false h = refl

-- the value of place k
module _ (c : Circuit) (w : WellFormed c) (s i : List Value) (ls : length s ≡ length c.latches) (li : length i ≡ length c.inputs) where
  leaf-at-place : (n : ℕ) → n < length (leaves c) → values_of c s i (get_or (leaves c) n 0) ≡ get_or (v0 ∷ (i ++ s)) n vx
  leaf-at-place n h =
      leaf-value c w s i (get_or (leaves c) n 0) (has-at (leaves c) n h)
      ∙ ap (λ (k : ℕ). get_or (v0 ∷ (i ++ s)) k vx) (index_at (leaves c) (distinct-left (leaves c) (left_vars c.gates) (accepted c w).once) n h)

  all-leaves : length (vars c.inputs ++ current_vars c.latches) ≡ length c.inputs + length c.latches
  all-leaves =
      omega (arith, length-append (vars c.inputs) (current_vars c.latches), length-vars c.inputs, length-currents c.latches)

  pub place-value : (k : ℕ) → k < length (places c) → values_of c s i (get_or (places c) k 0) ≡ get_or (s ++ i) k vx
  place-value k h = go (dec_lt k (length c.latches))
    where
      go : Dec (k < length c.latches) → values_of c s i (get_or (places c) k 0) ≡ get_or (s ++ i) k vx
      go (yes q) =
          let at : length (vars c.inputs) + k ≡ length i + k = omega (arith, length-vars c.inputs) in
          ap (values_of c s i) (get_or-append (current_vars c.latches) (vars c.inputs) 0 k (omega (arith, length-currents c.latches))
          ∙ sym (get_or-append-add (vars c.inputs) (current_vars c.latches) k 0))
          ∙ leaf-at-place (suc (length (vars c.inputs) + k)) (omega (arith, all-leaves, length-vars c.inputs))
          ∙ ap (λ (n : ℕ). get_or (i ++ s) n vx) at ∙ get_or-append-add i s k vx ∙ sym (get_or-append s i vx k (omega arith))
      go (no q) =
          let j = k - length c.latches in
          let a : k ≡ length (current_vars c.latches) + j = omega (arith, length-currents c.latches) in
          let d : length s + j ≡ k = omega arith in
          let jl : j < length c.inputs = omega (arith, length-places c) in
          ap (λ (n : ℕ). values_of c s i (get_or (places c) n 0)) a
          ∙ ap (values_of c s i) (get_or-append-add (current_vars c.latches) (vars c.inputs) j 0
          ∙ sym (get_or-append (vars c.inputs) (current_vars c.latches) 0 j (omega (arith, length-vars c.inputs))))
          ∙ leaf-at-place (suc j) (omega (arith, all-leaves))
          ∙ get_or-append i s vx j (omega arith)
          ∙ sym (get_or-append-add s i j vx) ∙ ap (λ (n : ℕ). get_or (s ++ i) n vx) d

module _ (c : Circuit) (w : WellFormed c) (t : binary_order c ≡ true) (s i : List Value) (ls : length s ≡ length c.latches)
    (li : length i ≡ length c.inputs) (l : ℕ) (known : lit (values_of c s i) l ≡ vx → ⊥) where
  -- the marks are exactly those of the walk
  pub marks-exactly : (k : ℕ) → k < length (places c) → (get_or (marks_for c s i l) k 48 ≡ 49) ↔ Blamed c s i l (get_or (places c) k 0)
  marks-exactly k h =
      let v = get_or (places c) k 0 in
      let at = marked-at (blamed c s i l) (places c) k 48 h in
      let m = mark-1 (blamed c s i l) v in
      let b = blamed-exactly c w t s i ls li l known v in
      (λ e. b.0 (m.0 (sym at ∙ e)), λ r. at ∙ m.1 (b.1 r))

  -- and every other mark is "0"
  pub marks-zero : (k : ℕ) → k < length (places c) → (get_or (marks_for c s i l) k 0 ≡ 48) ↔ ¬ Blamed c s i l (get_or (places c) k 0)
  marks-zero k h =
      let v = get_or (places c) k 0 in
      let at = marked-at (blamed c s i l) (places c) k 0 h in
      let m = mark-0 (blamed c s i l) v in
      let b = blamed-exactly c w t s i ls li l known v in
      (λ e r. m.0 (sym at ∙ e) (b.1 r), λ n. at ∙ m.1 (λ e. n (b.0 e)))

  -- marks stand only on places that held 0 or 1
  pub marks-known : (k : ℕ) → k < length (places c) → get_or (marks_for c s i l) k 48 ≡ 49 → get_or (s ++ i) k vx ≡ vx → ⊥
  marks-known k h e q =
      blamed-known c w t s i ls li l known ((marks-exactly k h).0 e) (place-value c w s i ls li k h ∙ q)
