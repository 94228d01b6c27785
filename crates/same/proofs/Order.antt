-- Gates that agree are picked alike, so they are numbered in the same order.
use Prim.Native.Nat.{ℕ, suc, zero}
use mathlib.Core.Path.{◌≡◌, sym, ap, ◌∙◌, subst}
use mathlib.Core.Bool.{Bool, true, false, cond}
use mathlib.Core.List.{List, [], ◌∷◌, ◌++◌, map, map-append}
use Rattle.std.specs.Prelude.{Option, Some, None}
use Rattle.plan.specs.Literals.{var_of}
use Rattle.plan.specs.Circuit.{Gate}
use Rattle.plan.specs.Convert.{ready, Picked, past, pick, order_by, order}
use Rattle.same.proofs.Entries as entries
use Rattle.same.proofs.Entries.{All, Each, all_append}
use Rattle.same.proofs.Named.{NamedGate}
use Rattle.same.proofs.Variables.{ready-renamed}

module _ (rename : ℕ → ℕ) (P : ℕ → Type 0) (apart : (u v : ℕ) → P u → P v → rename u ≡ rename v → u ≡ v) where
  -- neither, or both, with gates that agree
  data Alike : Option Picked → Option Picked → Type 0 where
    neither : Alike None None
    both : {p q : Picked} → NamedGate rename P p.gate q.gate → Each (NamedGate rename P) p.rest q.rest → Alike (Some p) (Some q)

  past-alike : {g h : Gate} {o r : Option Picked} → NamedGate rename P g h → Alike o r → Alike (past g o) (past h r)
  past-alike n neither = neither
  past-alike n (both m e) = both m (entries.more n e)

  pick-alike : (xs : List ℕ) → All P xs → {gs hs : List Gate} → Each (NamedGate rename P) gs hs → Alike (pick xs gs) (pick (map rename xs) hs)
  pick-alike xs a entries.none = neither
  pick-alike xs a (entries.more {x = g} {y = h} {xs = gs} {ys = hs} n e) =
      subst (λ (t : Bool). Alike (pick xs (g ∷ gs)) (cond t (Some (record { gate = h; rest = hs })) (past h (pick (map rename xs) hs))))
      (sym (ready-renamed rename P apart xs a g h n))
      (go (ready xs g) (past-alike n (pick-alike xs a e)))
    where
      go : (t : Bool) → Alike (past g (pick xs gs)) (past h (pick (map rename xs) hs))
          → Alike (cond t (Some (record { gate = g; rest = gs })) (past g (pick xs gs)))
          (cond t (Some (record { gate = h; rest = hs })) (past h (pick (map rename xs) hs)))
      go true r = both n e
      go false r = r

  pub order-named : (k : ℕ) (xs : List ℕ) → All P xs → (gs hs : List Gate) → Each (NamedGate rename P) gs hs
      → Each (NamedGate rename P) (order k xs gs) (order k (map rename xs) hs)
  order-named zero xs a gs hs e = entries.none
  order-named (suc k) xs a gs hs e = go (order-named k) (pick-alike xs a e)
    where
      go : ((ys : List ℕ) → All P ys → (is js : List Gate) → Each (NamedGate rename P) is js
          → Each (NamedGate rename P) (order k ys is) (order k (map rename ys) js))
          → {o r : Option Picked} → Alike o r
          → Each (NamedGate rename P) (order_by (λ n rest. order k n rest) xs o) (order_by (λ n rest. order k n rest) (map rename xs) r)
      go later neither = entries.none
      go later (both {p = p} {q = q} n f) =
          let v = var_of p.gate.lhs in
          let longer : map rename (xs ++ (v ∷ [])) ≡ map rename xs ++ (var_of q.gate.lhs ∷ [])
          = map-append rename xs (v ∷ []) ∙ ap (λ (u : ℕ). map rename xs ++ (u ∷ [])) (sym n.left.var) in
          entries.more n (subst (λ (ys : List ℕ). Each (NamedGate rename P) (order k (xs ++ (v ∷ [])) p.rest) (order k ys q.rest)) longer
          (later (xs ++ (v ∷ [])) (all_append P xs (v ∷ []) a (n.left.known, tt)) p.rest q.rest f))
