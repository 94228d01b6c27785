-- Gates read in two runs, the second from where the first ended: together they are all the gates.
use Prim.Native.Nat.{ℕ, suc, zero, ◌+◌, ◌*◌, ◌-◌, ◌≤◌}
use mathlib.Core.Path.{◌≡◌, refl, sym, ap, ap₂, ◌∙◌, subst}
use mathlib.Core.List.{List, [], ◌∷◌, ◌++◌, append-nil}
use Rattle.std.specs.Prelude.{Result, Ok, Err}
use native.Mathlib.Omega.{arith}
use borrow.Rule.Slice.PartMut.{mid_of, put_mid, post_of, Post-is}
use lib.ListN.{length, length-append, length-drop, take, drop}
use lib.Seq.{drop-drop, drop-length, take_all}
use Rattle.plan.specs.declared.Refusal.{Refusal}
use Rattle.plan.specs.Refusals.{Parse, got, refused, ◌then◌}
use Rattle.plan.specs.Circuit.{Gate}
use Rattle.plan.specs.Binary.{gate, gates_from}
use Rattle.plan.specs.Outcome.{put}
use Rattle.laws.proofs.Put.{put-put, put-length}
use Rattle.lines.specs.gates.Gates.{GatesSay}
use Rattle.lines.proofs.gates.Gathered.{after, after_none, words_of, words-length}

words_append : (gs hs : List Gate) → words_of (gs ++ hs) ≡ words_of gs ++ words_of hs
words_append [] hs = refl
words_append (g ∷ gs) hs = ap (λ (l : List ℕ). g.lhs ∷ g.rhs0 ∷ g.rhs1 ∷ l) (words_append gs hs)

after_first : (g : Gate) (gs : List Gate) (p : Parse (List Gate)) → (after gs p then λ hs at. got (g ∷ hs) at) ≡ after (g ∷ gs) p
after_first g gs (got hs at) = refl
after_first g gs (refused r) = refl

-- as many gates as were asked for
abbrev Many : ℕ → Parse (List Gate) → Type 0
Many n (got gs at) = length gs ≡ n
Many n (refused r) = n ≡ n

many-first : (n : ℕ) (g : Gate) (p : Parse (List Gate)) → Many n p → Many (suc n) (p then λ gs at. got (g ∷ gs) at)
many-first n g (got gs at) h = ap suc h
many-first n g (refused r) h = refl

module _ (file : List ℕ) where
  many-gate : (n v : ℕ) → ((at : ℕ) → Many n (gates_from file n v at)) → (p : Parse Gate)
      → Many (suc n) (p then λ g at. gates_from file n v at then λ gs at. got (g ∷ gs) at)
  many-gate n v h (got g at) = many-first n g (gates_from file n v at) (h at)
  many-gate n v h (refused r) = refl

  many : (n v at : ℕ) → Many n (gates_from file n v at)
  many zero v at = refl
  many (suc n) v at = many-gate n (suc v) (λ next. many n (suc v) next) (gate file v at)

  -- m gates of variables from w on, after those of the first run
  abbrev goes_on : ℕ → ℕ → List Gate → ℕ → Parse (List Gate)
  goes_on m w gs at = after gs (gates_from file m w at)

  both_first : (m w : ℕ) (g : Gate) (p : Parse (List Gate)) → ((p then goes_on m w) then λ gs at. got (g ∷ gs) at)
      ≡ ((p then λ gs at. got (g ∷ gs) at) then goes_on m w)
  both_first m w g (got gs at) = after_first g gs (gates_from file m w at)
  both_first m w g (refused r) = refl

  both-gate : (k m n v w : ℕ) → ((at : ℕ) → gates_from file n v at ≡ (gates_from file k v at then goes_on m w)) → (p : Parse Gate)
      → (p then λ g at. gates_from file n v at then λ gs at. got (g ∷ gs) at)
      ≡ ((p then λ g at. gates_from file k v at then λ gs at. got (g ∷ gs) at) then goes_on m w)
  both-gate k m n v w h (got g at) =
      ap (λ (p : Parse (List Gate)). p then λ gs at. got (g ∷ gs) at) (h at) ∙ both_first m w g (gates_from file k v at)
  both-gate k m n v w h (refused r) = refl

  both : (k m n v w at : ℕ) → n ≡ k + m → w ≡ v + k → gates_from file n v at ≡ (gates_from file k v at then goes_on m w)
  both zero m n v w at n-is w-is =
      let i : n ≡ m = omega arith in
      let j : v ≡ w = omega arith in
      ap₂ (λ (n v : ℕ). gates_from file n v at) i j ∙ sym (after_none (gates_from file m w at))
  both (suc k) m n v w at n-is w-is =
      let i : n ≡ suc (k + m) = omega arith in
      let j : w ≡ suc v + k = omega arith in
      ap (λ (n : ℕ). gates_from file n v at) i ∙ both-gate k m (k + m) (suc v) w (λ next. both k m (k + m) (suc v) w next refl j) (gate file v at)

-- the first run's refusal is that of the gates that it was to read
run-refused : (t t' : List ℕ) (x : Result ℕ Refusal) (r : Refusal) (p : Parse (List Gate)) → x ≡ Err r → GatesSay t p x t' → p ≡ refused r
run-refused t t' x r (got gs at) e h =
    let told = h.0 in
    let z : ◌≡◌ {A = ℕ} 0 1 = cc in
    absurd (omega arith)
run-refused t t' x r (refused r') e h = let r-is : r' ≡ r = cc in ap refused r-is

-- the part of a table from m on was lent, and w put at its start
module _ (m : ℕ) (t w : List ℕ) (fits : m ≤ length t) where
  abbrev part : List ℕ
  part = mid_of m (length t - m) t

  part-put : put_mid m (length t - m) t (put part 0 w) ≡ put t m w
  part-put =
      let size : length (drop m t) ≡ length t - m = length-drop m t in
      let part-is : part ≡ drop m t = take_all (length t - m) (drop m t) (omega arith) in
      let none : post_of m (length t - m) t ≡ [] = Post-is m (length t) t fits ∙ drop-length t in
      let k-is : m + (0 + length w) ≡ m + length w = omega arith in
      ap (λ (l : List ℕ). take m t ++ (put part 0 w ++ l)) none
      ∙ (ap (λ (l : List ℕ). take m t ++ l) (append-nil (put part 0 w))
      ∙ (ap (λ (l : List ℕ). take m t ++ put l 0 w) part-is
      ∙ ap (λ (l : List ℕ). take m t ++ (w ++ l)) (drop-drop (0 + length w) m t ∙ ap (λ (k : ℕ). drop k t) k-is)))

-- k gates of variables from v on, then m of variables from w on
module _ (file : List ℕ) (k m n v w at : ℕ) (n-is : n ≡ k + m) (w-is : w ≡ v + k) (t : List ℕ) where
  pub first-refused : (x : Result ℕ Refusal) (r : Refusal) (t' : List ℕ) → x ≡ Err r → GatesSay t (gates_from file k v at) x t'
      → GatesSay t (gates_from file n v at) x t'
  first-refused x r t' e h =
      let all : gates_from file n v at ≡ refused r
      = both file k m n v w at n-is w-is
      ∙ ap (λ (p : Parse (List Gate)). p then goes_on file m w) (run-refused t t' x r (gates_from file k v at) e h) in
      subst (λ (p : Parse (List Gate)). GatesSay t p x t') (sym all) e

  module _ (room : 3 * n ≤ length t) (t' : List ℕ) where
    joined : (gs : List Gate) → length gs ≡ k → t' ≡ put t 0 (words_of gs) → (q : Parse (List Gate)) → Many m q → (r : Result ℕ Refusal) (ys : List ℕ)
        → GatesSay (mid_of (3 * k) (length t' - 3 * k) t') q r ys → GatesSay t (after gs q) r (put_mid (3 * k) (length t' - 3 * k) t' ys)
    joined gs size t'-is (got hs end) many-hs r ys h =
        let a : List ℕ = words_of gs in
        let b : List ℕ = words_of hs in
        let a-size : length a ≡ 3 * length gs = words-length gs in
        let b-size : length b ≡ 3 * length hs = words-length hs in
        let both-size : length (a ++ b) ≡ length a + length b = length-append a b in
        let same : length t' ≡ length t = ap length t'-is ∙ put-length t 0 a (omega arith) in
        let start : 3 * k ≡ 0 + length a = omega arith in (
          h.0,
          ap (put_mid (3 * k) (length t' - 3 * k) t') h.1
              ∙ (part-put (3 * k) t' b (omega arith)
              ∙ (ap₂ (λ (l : List ℕ) (i : ℕ). put l i b) t'-is start
              ∙ (put-put t 0 a b (omega arith) ∙ ap (put t 0) (sym (words_append gs hs))))),
        )
    joined gs size t'-is (refused r') many-hs r ys h = h

    second_run : (p : Parse (List Gate)) → Many k p → (x : Result ℕ Refusal) (next : ℕ) → x ≡ Ok next → GatesSay t p x t' → (r : Result ℕ Refusal) (ys : List ℕ)
        → GatesSay (mid_of (3 * k) (length t' - 3 * k) t') (gates_from file m w next) r ys
        → GatesSay t (p then goes_on file m w) r (put_mid (3 * k) (length t' - 3 * k) t' ys)
    second_run (got gs end) many-gs x next e h r ys said =
        let told = h.0 in
        let end_is : next ≡ end = cc in
        subst (λ (i : ℕ). GatesSay t (after gs (gates_from file m w i)) r (put_mid (3 * k) (length t' - 3 * k) t' ys)) end_is
        (joined gs many-gs h.1 (gates_from file m w next) (many file m w next) r ys said)
    second_run (refused r') many-gs x next e h r ys said =
        let z : ◌≡◌ {A = ℕ} 0 1 = cc in
        absurd (omega arith)

    pub both_say : (x : Result ℕ Refusal) (next : ℕ) → x ≡ Ok next → GatesSay t (gates_from file k v at) x t' → (r : Result ℕ Refusal) (ys : List ℕ)
        → GatesSay (mid_of (3 * k) (length t' - 3 * k) t') (gates_from file m w next) r ys
        → GatesSay t (gates_from file n v at) r (put_mid (3 * k) (length t' - 3 * k) t' ys)
    both_say x next e h r ys said =
        subst (λ (p : Parse (List Gate)). GatesSay t p r (put_mid (3 * k) (length t' - 3 * k) t' ys)) (sym (both file k m n v w at n-is w-is))
        (second_run (gates_from file k v at) (many file k v at) x next e h r ys said)
