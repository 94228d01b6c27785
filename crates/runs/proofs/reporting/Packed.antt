-- Lines without their ends: a byte more, and whole lines of one width.
use Prim.Native.Nat.{ℕ, suc, ◌+◌, ◌≤◌, ◌<◌}
use mathlib.Core.Path.{◌≡◌, refl, sym, ap, ap₂, ◌∙◌}
use mathlib.Core.Bool.{Bool, true, false, cond}
use mathlib.Core.List.{List, [], ◌∷◌, ◌++◌}
use native.Mathlib.Numerals.{add-one}
use native.Mathlib.Omega.{arith}
use lib.Dec.{eqb}
use lib.ListN.{length, get_or, take, length-append}
use lib.Seq.{take-suc, take_all}
use Rattle.plan.specs.Outcome.{put}
use Rattle.laws.proofs.Put.{put-none, put-put}
use Rattle.runs.specs.reporting.Packing.{packed, packed_into}

packed-both : (l m : List ℕ) → packed (l ++ m) ≡ packed l ++ packed m
packed-both [] m = refl
packed-both (b ∷ l) m = go (eqb b 10) (packed-both l m)
  where
    go : (t : Bool) → packed (l ++ m) ≡ packed l ++ packed m → cond t (packed (l ++ m)) (b ∷ packed (l ++ m)) ≡ cond t (packed l) (b ∷ packed l) ++ packed m
    go true e = e
    go false e = ap (λ (x : List ℕ). b ∷ x) e

packed-short : (l : List ℕ) → length (packed l) ≤ length l
packed-short [] = omega arith
packed-short (b ∷ l) = go (eqb b 10) (packed-short l)
  where
    go : (t : Bool) → length (packed l) ≤ length l → length (cond t (packed l) (b ∷ packed l)) ≤ suc (length l)
    go true e = omega arith
    go false e = omega arith

-- after i bytes
pub record Packs (lines out₀ : List ℕ) (i n : ℕ) (out : List ℕ) : Type 0 where
  pub place : n ≡ length (packed (take i lines))
  pub so_far : out ≡ put out₀ 0 (packed (take i lines))
  pub few : n ≤ i
  pub size : length out ≡ length out₀

module _ {lines out₀ : List ℕ} {i n : ℕ} {out : List ℕ} (p : Packs lines out₀ i n out) (h : i < length lines) (room : i < length out₀) where
  pub packs-more : (n' : ℕ) (out' : List ℕ) → n' ≡ n + length (packed (get_or lines i 0 ∷ [])) → out' ≡ put out n (packed (get_or lines i 0 ∷ []))
      → length out' ≡ length out → Packs lines out₀ (i + 1) n' out'
  packs-more n' out' e o same =
      let w : List ℕ = packed (take i lines) in
      let y : List ℕ = packed (get_or lines i 0 ∷ []) in
      let one : take (i + 1) lines ≡ take i lines ++ (get_or lines i 0 ∷ []) = ap (λ (k : ℕ). take k lines) (add-one i) ∙ take-suc lines i 0 h in
      let both : packed (take (i + 1) lines) ≡ w ++ y = ap packed one ∙ packed-both (take i lines) (get_or lines i 0 ∷ []) in
      let short : length y ≤ 1 = packed-short (get_or lines i 0 ∷ []) in
      let sum : length (w ++ y) ≡ length w + length y = length-append w y in
      let from : n ≡ 0 + length w = omega (arith, p.place) in
      record {
        place = e ∙ omega (arith, ap length both, p.place);
        so_far =
            o ∙ (ap₂ (λ (x : List ℕ) (k : ℕ). put x k y) p.so_far from
            ∙ (put-put out₀ 0 w y (omega (arith, p.few, p.place)) ∙ ap (put out₀ 0) (sym both)));
        few = omega (arith, p.few);
        size = same ∙ p.size;
      }

-- with room nothing is left off
pub all-packed : (out lines : List ℕ) → length lines ≤ length out → packed_into out lines ≡ packed lines
all-packed out lines h = ap packed (take_all (length out) lines h)

pub kept-end : (b at : ℕ) (out : List ℕ) → eqb b 10 ≡ true → (at ≡ at + length (packed (b ∷ []))) × (out ≡ put out at (packed (b ∷ [])))
kept-end b at out e =
    let none : packed (b ∷ []) ≡ [] = ap (λ (t : Bool). cond t [] (b ∷ [])) e in
    let zero : at ≡ at + 0 = omega arith in
    (zero ∙ ap (λ (l : List ℕ). at + length l) (sym none), sym (put-none out at) ∙ ap (put out at) (sym none))

pub kept_byte : (b at : ℕ) → eqb b 10 ≡ false → b ∷ [] ≡ packed (b ∷ [])
kept_byte b at e = sym (ap (λ (t : Bool). cond t [] (b ∷ [])) e)
