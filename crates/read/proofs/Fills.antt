-- From the header's answer, 4 and the rest to the whole answer.
use Prim.Native.Nat.{ℕ, ◌+◌, ◌≤◌}
use mathlib.Core.Path.{◌≡◌, refl, sym, ap, ◌∙◌, subst}
use mathlib.Core.Bool.{Bool, true, false}
use mathlib.Core.List.{List}
use Rattle.std.specs.Prelude.{Result, Ok, Err, Some, None}
use borrow.Author.Tests.{eqb-true, leb-true}
use lib.ListN.{get_or}
use Rattle.plan.specs.declared.Counts.{Counts}
use Rattle.plan.specs.declared.Version.{Version}
use Rattle.plan.specs.declared.Refusal.{Refusal}
use Rattle.plan.specs.declared.Refusal.TheVariants.{ShortTable}
use Rattle.plan.specs.Refusals.{Parse, got, refused}
use Rattle.plan.specs.Circuit.{Circuit, Tables, counts_of, lengths_of, against, least_short}
use Rattle.plan.specs.Header.{Form, text, binary, header, adds, list_of, words_to_read}
use Rattle.plan.specs.Depends.{undefined_in, cyclic_in}
use Rattle.plan.specs.Tail.{tail_at}
use Rattle.plan.specs.Reading.{body, read_file}
use Rattle.plan.specs.Outcome.{form_of}
use Rattle.laws.proofs.Held.{BodySays}
use Rattle.laws.proofs.Reading.Common.{then-got, unless-got, got-value}
use Rattle.laws.proofs.Reading.Differences.{Bytes}
use Rattle.laws.proofs.Reading.Headers.{AllMost}
use Rattle.laws.proofs.Reading.Short.{short_none}
use Rattle.laws.proofs.Reading.Texts.{text-took}
use Rattle.laws.proofs.Reading.Binaries.{binary-took}
use Rattle.read.specs.body.Rest.{rest, Room, LoadedSays}
use Rattle.read.proofs.body.After.{body-passed, body_refused}

-- the counts of what is read are the header's
body-counts : (v : Version) (file : List ℕ) → Bytes file → (f : Form) (n : Counts) (at : ℕ) (c : Circuit) (e : ℕ) → adds f n ≡ true
    → body v file f n at ≡ got c e → counts_of c ≡ n
body-counts v file bytes text n at c e s q = (text-took file v n at c e q).counts
body-counts v file bytes binary n at c e s q = (binary-took file bytes v n at c e (eqb-true _ _ s) q).0.counts

rest-counts : (v : Version) (file : List ℕ) → Bytes file → (f : Form) (n : Counts) (at : ℕ) (c : Circuit) (e : ℕ) → adds f n ≡ true
    → rest v file f n at ≡ got c e → counts_of c ≡ n
rest-counts v file bytes f n at c e s q =
    let t = then-got (body v file f n at) _ c e q in
    let u = then-got (tail_at v file n t.1) _ c e t.3 in
    let w = unless-got (undefined_in t.0) _ _ c e u.3 in
    let z = unless-got (cyclic_in t.0) _ _ c e w.1 in
    ap counts_of (sym (got-value t.0 c t.1 e z.1)) ∙ body-counts v file bytes f n at t.0 t.1 s t.2

loaded-refused : (t t' : Tables) (p : Parse Circuit) (k : Refusal) → p ≡ refused k → LoadedSays t p (Err k) t'
loaded-refused t t' p k e = subst (λ (q : Parse Circuit). LoadedSays t q (Err k) t') (sym e) refl

module _ (v : Version) (file : List ℕ) (t t' : Tables) (scratch : List ℕ) where
  pub header-told : (k : Refusal) → header v file 0 ≡ refused k → LoadedSays t (read_file v file (lengths_of t scratch)) (Err k) t'
  header-told k e = loaded-refused t t' (read_file v file (lengths_of t scratch)) k (rw e)

  module _ (f : Form) (n : Counts) (at : ℕ) (e : header v file 0 ≡ got (record { form = f; counts = n }) at) where
    pub short-told : (k : ℕ) → least_short (against 1 (words_to_read f n) (lengths_of t scratch)) ≡ Some k
        → LoadedSays t (read_file v file (lengths_of t scratch)) (Err (ShortTable k)) t'
    short-told k s = loaded-refused t t' (read_file v file (lengths_of t scratch)) (ShortTable k) (rw (e, s))

    module _ (s : least_short (against 1 (words_to_read f n) (lengths_of t scratch)) ≡ None) where
      whole : read_file v file (lengths_of t scratch) ≡ rest v file f n at
      whole = rw (e, s)

      pub rest-refused : (k : Refusal) (r : Result ℕ Refusal) → BodySays t (rest v file f n at) r t' → r ≡ Err k
          → LoadedSays t (read_file v file (lengths_of t scratch)) (Err k) t'
      rest-refused k r h q =
          loaded-refused t t' (read_file v file (lengths_of t scratch)) k
          (whole ∙ body_refused t (rest v file f n at) k t' (subst (λ (x : Result ℕ Refusal). BodySays t (rest v file f n at) x t') q h))

      pub rest-accepted : (next : ℕ) (r : Result ℕ Refusal) → Bytes file → adds f n ≡ true → BodySays t (rest v file f n at) r t' → r ≡ Ok next
          → LoadedSays t (read_file v file (lengths_of t scratch)) (Ok (n, next)) t'
      rest-accepted next r bytes sum h q =
          let p = body-passed t (rest v file f n at) next t' (subst (λ (x : Result ℕ Refusal). BodySays t (rest v file f n at) x t') q h) in
          subst (λ (q : Parse Circuit). LoadedSays t q (Ok (n, next)) t') (sym (whole ∙ p.1))
          (ap (λ (m : Counts). Ok (m, next)) (sym (rest-counts v file bytes f n at p.0 next sum p.1)), p.2)

-- by the header's form
module _ (v : Version) (file : List ℕ) (n : Counts) (at : ℕ) (t t' : Tables) (r : Result ℕ Refusal) (b : Bool) where
  pub as-binary : b ≡ true → BodySays t (rest v file binary n at) r t' → BodySays t (rest v file (form_of b) n at) r t'
  as-binary e h = subst (λ (x : Bool). BodySays t (rest v file (form_of x) n at) r t') (sym e) h

  pub as-text : b ≡ false → BodySays t (rest v file text n at) r t' → BodySays t (rest v file (form_of b) n at) r t'
  as-text e h = subst (λ (x : Bool). BodySays t (rest v file (form_of x) n at) r t') (sym e) h

-- the room of the header's form
pub room_of : (f : Form) (n : Counts) (t : Tables) (scratch : List ℕ) (b : Bool) → form_of b ≡ f → Room (form_of b) n t scratch → Room f n t scratch
room_of f n t scratch b e room = subst (λ (x : Form). Room x n t scratch) e room

pub binary-sum : (n : Counts) (b : Bool) → b ≡ true → adds (form_of b) n ≡ true → n.I + n.L + n.A ≡ n.M
binary-sum n b e h = eqb-true _ _ (subst (λ (x : Bool). adds (form_of x) n ≡ true) e h)

pub text-sum : (n : Counts) (b : Bool) → b ≡ false → adds (form_of b) n ≡ true → n.I + n.L + n.A ≤ n.M
text-sum n b e h = leb-true _ _ (subst (λ (x : Bool). adds (form_of x) n ≡ true) e h)

pub room_for : (f : Form) (n : Counts) (t : Tables) (scratch : List ℕ) → AllMost (list_of n)
    → least_short (against 1 (words_to_read f n) (lengths_of t scratch)) ≡ None
    → ((i : ℕ) → get_or scratch i 0 ≡ 0) → Room f n t scratch
room_for f n t scratch small s blank =
    let l = (short_none (against 1 (words_to_read f n) (lengths_of t scratch))).0 s in
    record {
      most-M = small.0;
      most-I = small.1.0;
      most-L = small.1.1.0;
      most-O = small.1.1.1.0;
      most-A = small.1.1.1.1.0;
      most-B = small.1.1.1.1.1.0;
      most-C = small.1.1.1.1.1.1.0;
      inputs = l.0;
      latches = l.1.0;
      outputs = l.1.1.0;
      gates = l.1.1.1.0;
      words = l.1.1.1.1.0;
      resets = l.1.1.1.1.1.1.0;
      bads = l.1.1.1.1.1.1.1.0;
      constraints = l.1.1.1.1.1.1.1.1.0;
      blank = blank;
    }
