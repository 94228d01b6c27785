-- What callers know of an answer: after `Accepted` each count is at most the limit, and the position lies in the file.
use Prim.Native.Nat.{ℕ, ◌≤◌}
use mathlib.Core.Path.{◌≡◌, refl, ap, ap₂, ◌∙◌, subst, sym}
use mathlib.Core.Bool.{Bool, true}
use mathlib.Core.List.{List}
use Rattle.std.specs.Prelude.{Ok, Err}
use native.Mathlib.Omega.{arith}
use lib.ListN.{length}
use Rattle.plan.specs.declared.Counts.{Counts}
use Rattle.plan.specs.declared.Refusal.{Refusal}
use Rattle.plan.specs.declared.Version.{Version}
use Rattle.plan.specs.Refusals.{Parse, got, refused}
use Rattle.plan.specs.Header.{Form, text, binary, list_of, adds, Head, header}
use Rattle.plan.specs.Outcome.{is_binary, headed_by, form_of}
use Rattle.laws.proofs.Reading.Headers.{AllMost, header-took}
use Rattle.laws.proofs.Reading.Places.{Stays, on, header-stays}
use Rattle.laws.proofs.Pairs.{ok-is}

pub record Took (v : Version) (file : List ℕ) (b : Bool) (n : Counts) (next : ℕ) : Type 0 where
  pub head : header v file 0 ≡ got (record { form = form_of b; counts = n }) next
  pub small : AllMost (list_of n)
  pub sum : adds (form_of b) n ≡ true
  pub inside : next ≤ length file

form-back : (f : Form) → f ≡ form_of (is_binary f)
form-back text = refl
form-back binary = refl

stays-inside : (file : List ℕ) (h : Head) (next : ℕ) → Stays file (got h next) → next ≤ length file
stays-inside file h next (on s) = s

module _ (v : Version) (file : List ℕ) where
  pub accepted : (b : Bool) (n : Counts) (next : ℕ) → Ok (b, n, next) ≡ headed_by (header v file 0) → Took v file b n next
  accepted b n next e = go (header v file 0) refl e
    where
      go : (p : Parse Head) → header v file 0 ≡ p → Ok (b, n, next) ≡ headed_by p → Took v file b n next
      go (refused r) q e = absurd (let z : ◌≡◌ {A = ℕ} 0 1 = cc in omega arith)
      go (got h m) q e =
          let all = ok-is (is_binary h.form, h.counts, m) (b, n, next) (sym e) in
          let b-is : is_binary h.form ≡ b = ap (λ (x : Bool × Counts × ℕ). x.0) all in
          let n-is : h.counts ≡ n = ap (λ (x : Bool × Counts × ℕ). x.1) all in
          let m-is : m ≡ next = ap (λ (x : Bool × Counts × ℕ). x.2) all in
          let h-is : h ≡ record { form = form_of b; counts = n } =
          ap₂ (λ (x : Form) (y : Counts). record { form = x; counts = y }) (form-back h.form ∙ ap form_of b-is) n-is in
          let whole : header v file 0 ≡ got (record { form = form_of b; counts = n }) next = q ∙ ap₂ got h-is m-is in
          let took = header-took file v 0 _ next whole in
          record {
            head = whole;
            small = took.3;
            sum = took.4;
            inside = stays-inside file _ next (subst (Stays file) whole (header-stays file v 0 (omega arith)));
          }

  pub not-accepted : (r : Refusal) → Err r ≡ headed_by (header v file 0) → header v file 0 ≡ refused r
  not-accepted r e = go (header v file 0) e
    where
      go : (p : Parse Head) → Err r ≡ headed_by p → p ≡ refused r
      go (got h m) q = absurd (let z : ◌≡◌ {A = ℕ} 0 1 = cc in omega arith)
      go (refused s) q = let same : s ≡ r = cc in ap refused same
