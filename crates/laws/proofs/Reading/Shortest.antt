-- The shortest form: the line with its trailing zeros left off spells the numbers, so what is written states the circuit and the tail.
use Prim.Native.Nat.{ℕ, suc, zero, ◌-◌, ◌≤◌}
use mathlib.Core.Path.{◌≡◌, refl, ap, ◌∙◌, subst}
use mathlib.Core.Bool.{true}
use mathlib.Core.List.{List, [], ◌∷◌, ◌++◌, map}
use native.Mathlib.Omega.{arith}
use lib.ListN.{length, replicate, length-append}
use Rattle.plan.specs.declared.Version.TheVariants.{V19}
use Rattle.plan.specs.Circuit.{Circuit, counts_of, one_line, latch_line, nexts}
use Rattle.plan.specs.Bytes.{with_resets, Spells, AllSpell, unless_zero, without_zeros}
use Rattle.plan.specs.Header.{all_counts, short_counts}
use Rattle.plan.specs.Text.{text_latches, text_of}
use Rattle.plan.specs.Binary.{binary_latches, binary_of, binary_order}
use Rattle.plan.specs.Tail.{TailOk}
use Rattle.plan.specs.Reading.{WellFormed, Spelled, States, as_text, as_binary}
use Rattle.laws.proofs.Reading.Rows.{Long, map-long}

-- a number before a shortest line
tail-fills : (n : ℕ) (l s : List ℕ) → length s ≤ length l → s ++ replicate (length l - length s) 0 ≡ l
    → (length (unless_zero n s) ≤ suc (length l)) × (unless_zero n s ++ replicate (suc (length l) - length (unless_zero n s)) 0 ≡ n ∷ l)
tail-fills zero l [] h e =
    let q : suc (length l) - 0 ≡ suc (length l - 0) = omega arith in
    (omega arith, ap (λ (k : ℕ). replicate k 0) q ∙ ap (λ (t : List ℕ). 0 ∷ t) e)
tail-fills zero l (x ∷ s) h e =
    let q : suc (length l) - suc (suc (length s)) ≡ length l - suc (length s) = omega arith in
    (omega arith, ap (λ (k : ℕ). 0 ∷ x ∷ s ++ replicate k 0) q ∙ ap (λ (t : List ℕ). 0 ∷ t) e)
tail-fills (suc n) l s h e =
    let q : suc (length l) - suc (length s) ≡ length l - length s = omega arith in
    (omega arith, ap (λ (k : ℕ). suc n ∷ s ++ replicate k 0) q ∙ ap (λ (t : List ℕ). suc n ∷ t) e)

shortest-fills : (k : ℕ) (l : List ℕ) → (length (without_zeros k l) ≤ length l) × (without_zeros k l ++ replicate (length l - length (without_zeros k l)) 0 ≡ l)
shortest-fills k [] = (omega arith, refl)
shortest-fills zero (n ∷ l) = let ih = shortest-fills zero l in tail-fills n l (without_zeros zero l) ih.0 ih.1
shortest-fills (suc k) (n ∷ l) =
    let ih = shortest-fills k l in
    let q : suc (length l) - suc (length (without_zeros k l)) ≡ length l - length (without_zeros k l) = omega arith in
    (omega (arith, ih.0), ap (λ (j : ℕ). n ∷ without_zeros k l ++ replicate j 0) q ∙ ap (λ (t : List ℕ). n ∷ t) ih.1)

shortest-least : (k : ℕ) (l : List ℕ) → k ≤ length l → k ≤ length (without_zeros k l)
shortest-least zero l h = omega arith
shortest-least (suc k) [] h = absurd (omega arith)
shortest-least (suc k) (n ∷ l) h = omega (arith, shortest-least k l (omega arith))

pub shortest-spells : (k n : ℕ) (l : List ℕ) → k ≤ n → length l ≡ n → Spells k n l (without_zeros k l)
shortest-spells k n l h e =
    let f = shortest-fills k l in (shortest-least k l (omega arith), omega (arith, f.0), f.1)

all-shortest : (k n : ℕ) (rows : List (List ℕ)) → k ≤ n → Long n rows → AllSpell k n rows (map (without_zeros k) rows)
all-shortest k n [] h l = tt
all-shortest k n (row ∷ rows) h l = (shortest-spells k n row h l.0, all-shortest k n rows h l.1)

resets-long : (k : ℕ) (bases : List (List ℕ)) (rs : List ℕ) → Long k bases → Long (suc k) (with_resets bases rs)
resets-long k [] rs h = tt
resets-long k (base ∷ bases) [] h = tt
resets-long k (base ∷ bases) (r ∷ rs) h = (omega (arith, length-append base (r ∷ []), h.0), resets-long k bases rs h.1)

-- and no line that spells them is shorter
pub zeros-short : (j : ℕ) → without_zeros zero (replicate j 0) ≡ []
zeros-short zero = refl
zeros-short (suc j) = ap (unless_zero 0) (zeros-short j)

unless-long : (n : ℕ) (s : List ℕ) → length (unless_zero n s) ≤ suc (length s)
unless-long zero [] = omega arith
unless-long zero (x ∷ s) = omega arith
unless-long (suc n) s = omega arith

least : (k j : ℕ) (row : List ℕ) → k ≤ length row → length (without_zeros k (row ++ replicate j 0)) ≤ length row
least zero j [] h = omega (arith, ap length (zeros-short j))
least zero j (x ∷ row) h = omega (arith, unless-long x (without_zeros zero (row ++ replicate j 0)), least zero j row (omega arith))
least (suc k) j [] h = absurd (omega arith)
least (suc k) j (x ∷ row) h = omega (arith, least k j row (omega arith))

pub shortest-is-least : (k n : ℕ) (l row : List ℕ) → Spells k n l row → length (without_zeros k l) ≤ length row
shortest-is-least k n l row s =
    subst (λ (x : List ℕ). length (without_zeros k x) ≤ length row) s.2 (least k (length l - length row) row s.0)

-- a circuit's counts and latches in the shortest form
abbrev text-short : (c : Circuit) → Spelled V19 c 2 (text_latches c)
text-short c = record {
  counts = short_counts (counts_of c);
  latches = map (without_zeros 2) (text_latches c);
  all-counts = shortest-spells 5 9 (all_counts (counts_of c)) (omega arith) refl;
  all-latches = all-shortest 2 3 (text_latches c) (omega arith)
      (resets-long 2 (map latch_line c.latches) c.resets (map-long 2 latch_line (λ a. refl) c.latches));
}

abbrev binary-short : (c : Circuit) → Spelled V19 c 1 (binary_latches c)
binary-short c = record {
  counts = short_counts (counts_of c);
  latches = map (without_zeros 1) (binary_latches c);
  all-counts = shortest-spells 5 9 (all_counts (counts_of c)) (omega arith) refl;
  all-latches = all-shortest 1 2 (binary_latches c) (omega arith)
      (resets-long 1 (map one_line (nexts c.latches)) c.resets (map-long 1 one_line (λ a. refl) (nexts c.latches)));
}

-- what is written states the circuit and the tail
module _ (file : List ℕ) (c : Circuit) (tail : List ℕ) (w : WellFormed c) (t : TailOk V19 (counts_of c) tail) where
  pub states-text : file ≡ text_of c ++ tail → States V19 file c tail
  states-text e = as_text (text-short c) e w t

  pub states-binary : file ≡ binary_of c ++ tail → binary_order c ≡ true → States V19 file c tail
  states-binary e o = as_binary (binary-short c) e o w t
