-- Lines are their words one after another, and how long they are.
use Prim.Native.Nat.{ℕ, suc, zero, ◌+◌, ◌*◌, ◌≤◌}
use mathlib.Core.Path.{◌≡◌, refl, sym, ap, ap₂, ◌∙◌}
use mathlib.Core.List.{List, [], ◌∷◌, ◌++◌, append_assoc}
use native.Mathlib.Nat.{mul-suc}
use native.Mathlib.Numerals.{add-one}
use native.Mathlib.Omega.{arith}
use lib.ListN.{length, get_or, take, drop, length-drop}
use lib.Seq.{length-take-le, drop-cons, drop-drop}
use Rattle.plan.specs.Circuit.{rows_of}
use Rattle.plan.specs.Bytes.{digits, end_of, line_of, lines_of}
use Rattle.write.specs.print.Words.{word_bytes, words_from}

module _ (t : List ℕ) (last : ℕ) where
  -- the words of the line that is begun, then those of the lines that follow
  line-words : (j i m total : ℕ) → total ≡ suc (j + m) → i + suc j ≤ length t
      → words_from t last total j i ≡ line_of (take (suc j) (drop i t)) ++ words_from t last m last (i + suc j)
  line-words zero i m total e h =
      let x : ℕ = get_or t i 0 in
      let more : total ≡ suc m = omega arith in
      let row : drop i t ≡ x ∷ drop (suc i) t = drop-cons t i 0 (omega arith) in
      ap (λ (k : ℕ). words_from t last k 0 i) more
      ∙ ap (λ (l : List ℕ). line_of (take 1 l) ++ words_from t last m last (i + 1)) (sym row)
  line-words (suc j) i m total e h =
      let x : ℕ = get_or t i 0 in
      let more : total ≡ suc (suc (j + m)) = omega arith in
      let row : drop i t ≡ x ∷ drop (suc i) t = drop-cons t i 0 (omega arith) in
      let rest : List ℕ = take (suc j) (drop (suc i) t) in
      let few : length rest ≡ suc j = length-take-le (suc j) (drop (suc i) t) (omega (arith, length-drop (suc i) t)) in
      let place : i + 1 + suc j ≡ i + suc (suc j) = omega arith in
      let tail : List ℕ = words_from t last m last (i + suc (suc j)) in
      let ends : line_of (x ∷ rest) ≡ digits x ++ (32 ∷ line_of rest) = ap (λ (k : ℕ). digits x ++ (end_of k ∷ line_of rest)) few in
      ap (λ (k : ℕ). words_from t last k (suc j) i) more
      ∙ (ap (λ (l : List ℕ). word_bytes (suc j) x ++ l) (line-words j (i + 1) m (suc (j + m)) refl (omega arith))
      ∙ (ap₂ (λ (k p : ℕ). word_bytes (suc j) x ++ (line_of (take (suc j) (drop k t)) ++ words_from t last m last p)) (add-one i) place
      ∙ (append_assoc (digits x) (32 ∷ []) (line_of rest ++ tail)
      ∙ (sym (append_assoc (digits x) (32 ∷ line_of rest) tail)
      ∙ (ap (λ (l : List ℕ). l ++ tail) (sym ends)
      ∙ ap (λ (l : List ℕ). line_of (take (suc (suc j)) l) ++ tail) (sym row))))))

  pub lines-words : (k n i m : ℕ) → k ≡ suc last → m ≡ k * n → i + m ≤ length t → words_from t last m last i ≡ lines_of (rows_of k n (drop i t))
  lines-words k zero i m k-is m-is h =
      let none : m ≡ 0 = omega arith in
      ap (λ (m : ℕ). words_from t last m last i) none
  lines-words k (suc n) i m k-is m-is h =
      let more : m ≡ k * n + k = m-is ∙ mul-suc k n in
      let rest : List (List ℕ) = rows_of k n (drop (i + k) t) in
      line-words last i (k * n) m (omega arith) (omega arith)
      ∙ (ap (λ (s : ℕ). line_of (take s (drop i t)) ++ words_from t last (k * n) last (i + s)) (sym k-is)
      ∙ (ap (λ (l : List ℕ). line_of (take k (drop i t)) ++ l) (lines-words k n (i + k) (k * n) k-is refl (omega arith))
      ∙ ap (λ (l : List ℕ). line_of (take k (drop i t)) ++ lines_of (rows_of k n l)) (sym (drop-drop k i t))))
