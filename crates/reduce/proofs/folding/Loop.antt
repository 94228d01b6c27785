-- The loop over the gates: how it begins, one turn, and what it leaves.
use mathlib.Core.Path.{◌≡◌, refl, sym, ap, ap₂, ◌∙◌}
use mathlib.Core.List.{List, [], ◌∷◌, ◌++◌, append_assoc, map}
use Prim.Native.Nat.{ℕ, zero, suc, ◌+◌, ◌-◌, ◌*◌, ◌<◌, ◌≤◌}
use native.Mathlib.Omega.{arith}
use native.Mathlib.Numerals.{add-one}
use lib.ListN.{length, get_or, set, take, drop, length-append}
use lib.Seq.{append_snoc, drop-cons, set_at, take_at, drop-drop, get_or-append-add, get_or-drop}
use Rattle.plan.specs.Literals.{lit_of}
use Rattle.plan.specs.Circuit.{Gate, gate_line, flat}
use Rattle.plan.specs.Binary.{lits_from}
use Rattle.plan.specs.Outcome.{put}
use Rattle.laws.proofs.Reading.Runs.{length-lits}
use Rattle.laws.proofs.Tables.{length-firsts}
use Rattle.reduce.specs.pairs.Pairs.{named_at, named}
use Rattle.reduce.proofs.pairs.Hung.{no-gates}
use Rattle.reduce.specs.folding.Folded.{folded, Held, Stepped, Done}

-- one variable more became itself
lits-snoc : (v n : ℕ) → lits_from v (suc n) ≡ lits_from v n ++ (lit_of (v + n) ∷ [])
lits-snoc v zero = let e : lit_of v ≡ lit_of (v + 0) = omega arith in ap (λ (x : ℕ). x ∷ []) e
lits-snoc v (suc n) =
    let e : lit_of (suc v + n) ≡ lit_of (v + suc n) = omega arith in
    ap (λ (l : List ℕ). lit_of v ∷ l) (lits-snoc (suc v) n ∙ ap (λ (x : ℕ). lits_from (suc v) n ++ (x ∷ [])) e)

pub begin-more : (t : List ℕ) (v : ℕ) → v < length t → set (lits_from 0 v ++ drop v t) v (lit_of v) ≡ lits_from 0 (v + 1) ++ drop (v + 1) t
begin-more t v h =
    let e : lit_of v ≡ lit_of (0 + v) = omega arith in
    ap (λ (l : List ℕ). set (lits_from 0 v ++ l) v (lit_of v)) (drop-cons t v 0 h)
    ∙ set_at (lits_from 0 v) (get_or t v 0) (drop (suc v) t) (lit_of v) v (length-lits 0 v)
    ∙ sym (append_snoc (lits_from 0 v) (lit_of v) (drop (suc v) t))
    ∙ ap (λ (l : List ℕ). l ++ drop (suc v) t) (ap (λ (x : ℕ). lits_from 0 v ++ (x ∷ [])) e ∙ sym (lits-snoc 0 v))
    ∙ ap (λ (j : ℕ). lits_from 0 j ++ drop j t) (sym (add-one v))

-- where the loop begins
module _ (gates to scratch begun : List ℕ) (base a : ℕ) (to-blank : (s : ℕ) → get_or to s 0 ≡ 0)
    (blank : (s : ℕ) → get_or scratch s 0 ≡ 0) (b : begun ≡ lits_from 0 base ++ drop base scratch) where
  past-leaves : (s : ℕ) → base + a ≤ s → get_or begun s 0 ≡ 0
  past-leaves s h =
      let e : s ≡ length (lits_from 0 base) + (s - base) = omega (arith, length-lits 0 base) in
      ap (λ (t : List ℕ). get_or t s 0) b ∙ ap (λ (j : ℕ). get_or (lits_from 0 base ++ drop base scratch) j 0) e
      ∙ get_or-append-add (lits_from 0 base) (drop base scratch) (s - base) 0 ∙ get_or-drop base scratch (s - base) 0 ∙ blank (base + (s - base))

  pub begun-held : Held gates to begun base (base + a) 0 0
  unfolding folded
  begun-held = record {
    count = omega arith;
    became = (let o : base + 0 ≡ base = omega arith in
        ap₂ (λ (j : ℕ) (t : List ℕ). take j t) o b ∙ take_at (lits_from 0 base) (drop base scratch) base (length-lits 0 base));
    retained = refl;
    fresh = omega arith;
    tree = no-gates to begun (base + a) to-blank past-leaves;
  }

drop_more : (t t₀ : List ℕ) (i j : ℕ) → i ≤ j → drop i t ≡ drop i t₀ → drop j t ≡ drop j t₀
drop_more t t₀ i j h e =
    let q : i + (j - i) ≡ j = omega arith in
    ap (λ (v : ℕ). drop v t) (sym q) ∙ sym (drop-drop (j - i) i t) ∙ ap (drop (j - i)) e ∙ drop-drop (j - i) i t₀
    ∙ ap (λ (v : ℕ). drop v t₀) q

-- k gates are done
pub record Going (gates to₀ scratch₀ to scratch : List ℕ) (base w a k n : ℕ) : Type 0 where
  pub within : k ≤ a
  pub to-long : length to ≡ length to₀
  pub scratch-long : length scratch ≡ length scratch₀
  pub held : Held gates to scratch base w k n
  pub past : drop (3 * n) to ≡ drop (3 * n) to₀

pub going_more : {gates to₀ scratch₀ to scratch to' scratch' : List ℕ} {base w a k n r : ℕ} → k < a → length to' ≡ length to
    → length scratch' ≡ length scratch → Stepped gates to to' scratch' base w k n r → Going gates to₀ scratch₀ to scratch base w a k n
    → Going gates to₀ scratch₀ to' scratch' base w a (k + 1) r
going_more {gates} {to₀} {scratch₀} {to} {scratch} {to'} {scratch'} {base} {w} {a} {k} {n} {r} h l0 l1 t g = record {
  within = omega arith;
  to-long = l0 ∙ g.to-long;
  scratch-long = l1 ∙ g.scratch-long;
  held = t.held;
  past = t.past ∙ drop_more to to₀ (3 * n) (3 * r) (omega (arith, t.more)) g.past;
}

-- gates as the words of a table
flat-snoc : (gs : List Gate) (g : Gate) → flat (map gate_line (gs ++ (g ∷ []))) ≡ flat (map gate_line gs) ++ gate_line g
flat-snoc [] g = refl
flat-snoc (x ∷ gs) g = ap (λ (l : List ℕ). gate_line x ++ l) (flat-snoc gs g)

abbrev pub rows : ℕ → List ℕ → ℕ → List ℕ
rows base t n = flat (map gate_line (named base t n))

rows-length : (base : ℕ) (t : List ℕ) (n : ℕ) → length (rows base t n) ≡ 3 * n
rows-length base t zero = refl
rows-length base t (suc n) =
    ap length (flat-snoc (named base t n) (named_at base t n))
    ∙ length-append (rows base t n) (gate_line (named_at base t n)) ∙ omega (arith, rows-length base t n)

-- one left side more
pub name-more : (base : ℕ) (t : List ℕ) (i : ℕ) → 3 * i + 3 ≤ length t
    → set (rows base t i ++ drop (3 * i) t) (3 * i) (lit_of (base + i)) ≡ rows base t (i + 1) ++ drop (3 * (i + 1)) t
name-more base t i h =
    ap (λ (l : List ℕ). set (rows base t i ++ l) (3 * i) (lit_of (base + i))) row
    ∙ set_at (rows base t i) (get_or t (3 * i) 0) (get_or t (3 * i + 1) 0 ∷ get_or t (3 * i + 2) 0 ∷ drop (3 * (i + 1)) t) (lit_of (base + i))
    (3 * i) (rows-length base t i)
    ∙ sym (append_assoc (rows base t i) (gate_line (named_at base t i)) (drop (3 * (i + 1)) t))
    ∙ ap (λ (l : List ℕ). l ++ drop (3 * (i + 1)) t)
    (sym (flat-snoc (named base t i) (named_at base t i)) ∙ ap (rows base t) (sym (add-one i)))
  where
    row : drop (3 * i) t ≡ get_or t (3 * i) 0 ∷ get_or t (3 * i + 1) 0 ∷ get_or t (3 * i + 2) 0 ∷ drop (3 * (i + 1)) t
    row =
        let p : suc (3 * i) ≡ 3 * i + 1 = omega arith in
        let q : suc (3 * i + 1) ≡ 3 * i + 2 = omega arith in
        let z : suc (3 * i + 2) ≡ 3 * (i + 1) = omega arith in
        drop-cons t (3 * i) 0 (omega arith)
        ∙ ap (λ (l : List ℕ). get_or t (3 * i) 0 ∷ l)
        (ap (λ (j : ℕ). drop j t) p ∙ drop-cons t (3 * i + 1) 0 (omega arith)
        ∙ ap (λ (l : List ℕ). get_or t (3 * i + 1) 0 ∷ l)
        (ap (λ (j : ℕ). drop j t) q ∙ drop-cons t (3 * i + 2) 0 (omega arith)
        ∙ ap (λ (j : ℕ). get_or t (3 * i + 2) 0 ∷ drop j t) z))

-- all of them
pub named-all : (base : ℕ) (t : List ℕ) (n : ℕ) → rows base t n ++ drop (3 * n) t ≡ put t 0 (rows base t n)
named-all base t n =
    let size : 3 * n ≡ 0 + length (rows base t n) = omega (arith, rows-length base t n) in
    ap (λ (j : ℕ). rows base t n ++ drop j t) size

pub going_end : {gates to₀ scratch₀ to scratch to' : List ℕ} {base w a k n : ℕ} → a ≤ k
    → Going gates to₀ scratch₀ to scratch base w a k n → to' ≡ put to 0 (rows base to n) → Done gates to₀ to' scratch base a n
going_end {gates} {to₀} {scratch₀} {to} {scratch} {to'} {base} {w} {a} {k} {n} h g e = record {
  count = sym (length-firsts (named_at base to) n) ∙ ap length all;
  became = ap (λ (j : ℕ). take (base + j) scratch) (sym is) ∙ g.held.became ∙ ap (λ (j : ℕ). (folded gates base j).became) is;
  retained = e ∙ sym (named-all base to n) ∙ ap (λ (l : List ℕ). rows base to n ++ l) g.past ∙ whole;
}
  where
    is : k ≡ a
    is = omega (arith, g.within)

    all : named base to n ≡ (folded gates base a).retained
    all = g.held.retained ∙ ap (λ (j : ℕ). (folded gates base j).retained) is

    whole : rows base to n ++ drop (3 * n) to₀ ≡ put to₀ 0 (flat (map gate_line (folded gates base a).retained))
    whole =
        let size : 3 * n ≡ 0 + length (rows base to n) = omega (arith, rows-length base to n) in
        ap (λ (j : ℕ). rows base to n ++ drop j to₀) size
        ∙ ap (λ (gs : List Gate). put to₀ 0 (flat (map gate_line gs))) all
