-- Records put one after the other, and the loops over tables.
use Prim.Native.Nat.{ℕ, suc, ◌+◌, ◌*◌, ◌<◌, ◌≤◌}
use mathlib.Core.Path.{◌≡◌, refl, sym, ap, ap₂, ◌∙◌}
use mathlib.Core.List.{List, [], ◌∷◌, ◌++◌, map}
use native.Mathlib.Omega.{arith}
use native.Mathlib.Numerals.{add-one}
use lib.ListN.{length, get_or, take, length-append}
use lib.Seq.{take-suc, length-take-le}
use Rattle.plan.specs.Circuit.{Gate, Latch, latch_of, gate_of, rows_of, nexts}
use Rattle.plan.specs.Outcome.{put}
use Rattle.laws.proofs.Put.{put-put}
use Rattle.laws.proofs.Tables.{firsts, length-firsts, gate_at, gates-rows, latch_at, latches-rows}
use Rattle.laws.proofs.Reading.Runs.{length-nexts}
use Rattle.plan.specs.Cards.{mark_bytes, word_bytes, word_cards, gate_cards}
use Rattle.cards.proofs.Laws.Records.{length-words, length-gates}
use Rattle.cards.specs.put.Parts.{latch_cards, output_cards, gates_cards}

-- a part put after another
pub two-parts : (l l₁ l₂ x y : List ℕ) (at p : ℕ) → l₁ ≡ put l at x → p ≡ at + length x → l₂ ≡ put l₁ p y
    → at + length (x ++ y) ≤ length l → l₂ ≡ put l at (x ++ y)
two-parts l l₁ l₂ x y at p e q f h = f ∙ (ap₂ (λ (t : List ℕ) (k : ℕ). put t k y) e q ∙ put-put l at x y h)

-- the loops' state: i records are put
pub record Put (out₀ : List ℕ) (at : ℕ) (part : ℕ → List ℕ) (n : ℕ) (out : List ℕ) (next i : ℕ) : Type 0 where
  pub bound : i ≤ n
  pub next-is : next ≡ at + length (part i)
  pub out-is : out ≡ put out₀ at (part i)
  pub same : length out ≡ length out₀

module _ (out₀ : List ℕ) (at : ℕ) (part : ℕ → List ℕ) (n : ℕ) (out : List ℕ) (next i : ℕ) (s : Put out₀ at part n out next i) where
  pub one-put : i < n → (bytes : List ℕ) → part (i + 1) ≡ part i ++ bytes → at + length (part (i + 1)) ≤ length out₀
      → (out' : List ℕ) (next' : ℕ) → out' ≡ put out next bytes → next' ≡ next + length bytes → length out' ≡ length out
      → Put out₀ at part n out' next' (i + 1)
  one-put h bytes grows room out' next' o p l =
      let size : length (part (i + 1)) ≡ length (part i) + length bytes = ap length grows ∙ length-append (part i) bytes in
      let fits : at + length (part i ++ bytes) ≤ length out₀ = omega (arith, length-append (part i) bytes) in
      record {
        bound = omega arith;
        next-is = omega (arith, s.next-is);
        out-is = two-parts out₀ out out' (part i) bytes at next s.out-is s.next-is o fits ∙ ap (put out₀ at) (sym grows);
        same = l ∙ s.same;
      }

-- one record more
words_snoc : (letter : ℕ) (ws : List ℕ) (w : ℕ) → word_cards letter (ws ++ (w ∷ [])) ≡ word_cards letter ws ++ (mark_bytes letter ++ word_bytes w)
words_snoc letter [] w = refl
words_snoc letter (v ∷ ws) w = ap (λ (l : List ℕ). mark_bytes letter ++ (word_bytes v ++ l)) (words_snoc letter ws w)

gates-snoc : (gs : List Gate) (g : Gate) → gate_cards (gs ++ (g ∷ [])) ≡ gate_cards gs ++ (mark_bytes 65 ++ (word_bytes g.rhs0 ++ word_bytes g.rhs1))
gates-snoc [] g = refl
gates-snoc (h ∷ gs) g = ap (λ (l : List ℕ). mark_bytes 65 ++ (word_bytes h.rhs0 ++ (word_bytes h.rhs1 ++ l))) (gates-snoc gs g)

nexts-snoc : (ls : List Latch) (l : Latch) → nexts (ls ++ (l ∷ [])) ≡ nexts ls ++ (l.next ∷ [])
nexts-snoc [] l = refl
nexts-snoc (k ∷ ls) l = ap (λ (x : List ℕ). k.next ∷ x) (nexts-snoc ls l)

module _ (t : List ℕ) where
  pub latches-more : (i : ℕ) → latch_cards (i + 1) t ≡ latch_cards i t ++ (mark_bytes 76 ++ word_bytes (get_or t (2 * i + 1) 0))
  latches-more i =
      ap (λ (k : ℕ). latch_cards k t) (add-one i)
      ∙ (ap (λ (ls : List Latch). word_cards 76 (nexts ls)) (latches-rows t (suc i))
      ∙ (ap (word_cards 76) (nexts-snoc (firsts (latch_at t) i) (latch_at t i))
      ∙ (words_snoc 76 (nexts (firsts (latch_at t) i)) (get_or t (2 * i + 1) 0)
      ∙ ap (λ (ls : List Latch). word_cards 76 (nexts ls) ++ (mark_bytes 76 ++ word_bytes (get_or t (2 * i + 1) 0))) (sym (latches-rows t i)))))

  pub latches-size : (i : ℕ) → length (latch_cards i t) ≡ 6 * i
  latches-size i =
      length-words 76 (nexts (map latch_of (rows_of 2 i t)))
      ∙ ap (λ (k : ℕ). 6 * k) (length-nexts (map latch_of (rows_of 2 i t)) ∙ (ap length (latches-rows t i) ∙ length-firsts (latch_at t) i))

  pub outputs-more : (i : ℕ) → i < length t → output_cards (i + 1) t ≡ output_cards i t ++ (mark_bytes 79 ++ word_bytes (get_or t i 0))
  outputs-more i h =
      ap (λ (k : ℕ). output_cards k t) (add-one i)
      ∙ (ap (word_cards 79) (take-suc t i 0 h) ∙ words_snoc 79 (take i t) (get_or t i 0))

  pub outputs-size : (i : ℕ) → i ≤ length t → length (output_cards i t) ≡ 6 * i
  outputs-size i h = length-words 79 (take i t) ∙ ap (λ (k : ℕ). 6 * k) (length-take-le i t h)

  pub gates-more : (i : ℕ)
      → gates_cards (i + 1) t ≡ gates_cards i t ++ (mark_bytes 65 ++ (word_bytes (get_or t (3 * i + 1) 0) ++ word_bytes (get_or t (3 * i + 2) 0)))
  gates-more i =
      ap (λ (k : ℕ). gates_cards k t) (add-one i)
      ∙ (ap gate_cards (gates-rows t (suc i))
      ∙ (gates-snoc (firsts (gate_at t) i) (gate_at t i)
      ∙ ap (λ (gs : List Gate). gate_cards gs ++ (mark_bytes 65 ++ (word_bytes (get_or t (3 * i + 1) 0) ++ word_bytes (get_or t (3 * i + 2) 0))))
      (sym (gates-rows t i))))

  pub gates-size : (i : ℕ) → length (gates_cards i t) ≡ 10 * i
  gates-size i =
      length-gates (map gate_of (rows_of 3 i t)) ∙ ap (λ (k : ℕ). 10 * k) (ap length (gates-rows t i) ∙ length-firsts (gate_at t) i)
