-- The checks after a body, one by one.
use Prim.Native.Nat.{ℕ}
use mathlib.Core.Path.{◌≡◌, refl, sym, ap, ◌∙◌, subst}
use mathlib.Core.List.{List, [], ◌∷◌}
use Rattle.std.specs.Prelude.{Result, Ok, Err, Option, Some, None}
use native.Mathlib.Omega.{arith}
use Rattle.plan.specs.declared.Counts.{Counts}
use Rattle.plan.specs.declared.Version.{Version}
use Rattle.plan.specs.declared.Refusal.{Refusal}
use Rattle.plan.specs.declared.Refusal.TheVariants.{NotDefined, Cyclic}
use Rattle.plan.specs.Refusals.{Parse, got, refused, unless, stage, first_of}
use Rattle.plan.specs.Circuit.{Circuit, Tables}
use Rattle.plan.specs.Depends.{undefined_in, cyclic_in}
use Rattle.plan.specs.Given.{refusal_of}
use Rattle.plan.specs.Tail.{Symbol, tail_at}
use Rattle.plan.specs.Outcome.{checked_by}
use Rattle.laws.proofs.Held.{Holds, BodySays}
use Rattle.read.specs.body.Rest.{after, closed}

-- what a body's answer says
pub body-passed : (t : Tables) (p : Parse Circuit) (next : ℕ) (t' : Tables) → BodySays t p (Ok next) t' → (c : Circuit) × (p ≡ got c next) × Holds t c t'
body-passed t (got c n) next t' h = (c, ap (got c) (cc), h.1)
body-passed t (refused r) next t' h = let z : ◌≡◌ {A = ℕ} 0 1 = cc in absurd (omega arith)

pub body_refused : (t : Tables) (p : Parse Circuit) (r : Refusal) (t' : Tables) → BodySays t p (Err r) t' → p ≡ refused r
body_refused t (got c n) r t' h = let q = h.0 in let z : ◌≡◌ {A = ℕ} 0 1 = cc in absurd (omega arith)
body_refused t (refused q) r t' h = let same : q ≡ r = cc in ap refused same

-- the answer of all that follows the header, of what is refused and of what is accepted
pub says-refused : (t t' : Tables) (p : Parse Circuit) (r : Refusal) → p ≡ refused r → BodySays t p (Err r) t'
says-refused t t' p r e = subst (λ (q : Parse Circuit). BodySays t q (Err r) t') (sym e) refl

pub says-accepted : (t t' : Tables) (p : Parse Circuit) (c : Circuit) (next : ℕ) → p ≡ got c next → Holds t c t' → BodySays t p (Ok next) t'
says-accepted t t' p c next e h = subst (λ (q : Parse Circuit). BodySays t q (Ok next) t') (sym e) (refl, h)

-- a tail's answer
tail-good : (p : Parse (List Symbol)) → Ok tt ≡ checked_by (refusal_of p) → (ss : List Symbol) × (next : ℕ) × (p ≡ got ss next)
tail-good (got ss n) e = (ss, n, refl)
tail-good (refused r) e = let z : ◌≡◌ {A = ℕ} 0 1 = cc in absurd (omega arith)

tail-bad : (p : Parse (List Symbol)) (r : Refusal) → Err r ≡ checked_by (refusal_of p) → p ≡ refused r
tail-bad (got ss n) r e = let z : ◌≡◌ {A = ℕ} 0 1 = cc in absurd (omega arith)
tail-bad (refused q) r e = let same : q ≡ r = cc in ap refused same

module _ (v : Version) (file : List ℕ) (n : Counts) (p : Parse Circuit) where
  pub refused-body : (r : Refusal) → p ≡ refused r → after v file n p ≡ refused r
  refused-body r e = rw e

  module _ (c : Circuit) (next : ℕ) (e : p ≡ got c next) where
    pub refused-tail : (r : Refusal) → Err r ≡ checked_by (refusal_of (tail_at v file n next)) → after v file n p ≡ refused r
    refused-tail r h = rw (e, tail-bad (tail_at v file n next) r h)

    module _ (h : Ok tt ≡ checked_by (refusal_of (tail_at v file n next))) where
      pub past-tail : after v file n p ≡ unless (undefined_in c) NotDefined (unless (cyclic_in c) Cyclic (got c next))
      past-tail = let t = tail-good (tail_at v file n next) h in rw (e, t.2)

      pub accepted : undefined_in c ≡ None → cyclic_in c ≡ None → after v file n p ≡ got c next
      accepted q k = past-tail ∙ rw (q, k)

-- the answer from a body's answer on
module _ (v : Version) (file : List ℕ) (n : Counts) (p : Parse Circuit) (t t' : Tables) (r : Result ℕ Refusal) (h : BodySays t p r t') where
  pub stops : (k : Refusal) → r ≡ Err k → BodySays t (after v file n p) (Err k) t'
  stops k e =
      says-refused t t' (after v file n p) k
      (refused-body v file n p k (body_refused t p k t' (subst (λ (x : Result ℕ Refusal). BodySays t p x t') e h)))

  module _ (next : ℕ) (e : r ≡ Ok next) where
    pub read_as : (c : Circuit) × (p ≡ got c next) × Holds t c t'
    read_as = body-passed t p next t' (subst (λ (x : Result ℕ Refusal). BodySays t p x t') e h)

    module _ (q : Result Unit Refusal) (w : q ≡ checked_by (refusal_of (tail_at v file n next))) where
      pub tail-told : (k : Refusal) → q ≡ Err k → BodySays t (after v file n p) (Err k) t'
      tail-told k u = says-refused t t' (after v file n p) k (refused-tail v file n p read_as.0 next read_as.1 k (sym u ∙ w))

      pub accepted-as : q ≡ Ok tt → undefined_in read_as.0 ≡ None → cyclic_in read_as.0 ≡ None → BodySays t (after v file n p) (Ok next) t'
      accepted-as u a b =
          says-accepted t t' (after v file n p) read_as.0 next (accepted v file n p read_as.0 next read_as.1 (sym u ∙ w) a b) read_as.2

      pub good : q ≡ Ok tt → ((c : Circuit) → p ≡ got c next → (undefined_in c ≡ None) × (cyclic_in c ≡ None)) → BodySays t (after v file n p) (Ok next) t'
      good u f =
          let g = f read_as.0 read_as.1 in
          accepted-as u g.0 g.1

      -- 7 and 8 of the circuit that was read
      pub closing-told : q ≡ Ok tt → (k : Refusal) → Err k ≡ checked_by (closed read_as.0) → BodySays t (after v file n p) (Err k) t'
      closing-told y k u =
          says-refused t t' (after v file n p) k
          (past-tail v file n p read_as.0 next read_as.1 (sym y ∙ w) ∙ go (undefined_in read_as.0) (cyclic_in read_as.0) u)
        where
          go : (a b : Option ℕ) → Err k ≡ checked_by (first_of (stage NotDefined a ∷ stage Cyclic b ∷ []))
              → unless a NotDefined (unless b Cyclic (got read_as.0 next)) ≡ refused k
          go None None x = let z : ◌≡◌ {A = ℕ} 0 1 = cc in absurd (omega arith)
          go None (Some j) x = let same : Cyclic j ≡ k = cc in ap refused same
          go (Some j) b x = let same : NotDefined j ≡ k = cc in ap refused same

pub closing-good : (c : Circuit) → Ok tt ≡ checked_by (closed c) → (undefined_in c ≡ None) × (cyclic_in c ≡ None)
closing-good c u = go (undefined_in c) (cyclic_in c) u
  where
    go : (a b : Option ℕ) → Ok tt ≡ checked_by (first_of (stage NotDefined a ∷ stage Cyclic b ∷ [])) → (a ≡ None) × (b ≡ None)
    go None None x = (refl, refl)
    go None (Some j) x = let z : ◌≡◌ {A = ℕ} 0 1 = cc in absurd (omega arith)
    go (Some j) b x = let z : ◌≡◌ {A = ℕ} 0 1 = cc in absurd (omega arith)
