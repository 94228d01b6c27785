-- The walk over rows that define: a variable that was seen, one that is new, and the end.
use Prim.Native.Nat.{ℕ, zero, suc, ◌+◌, ◌<◌, ◌≤◌}
use mathlib.Core.Path.{◌≡◌, refl, sym, ap, ◌∙◌, subst}
use mathlib.Core.Bool.{Bool, true, false, not, ◌&&◌, false≢true}
use mathlib.Core.List.{List, [], ◌∷◌, ◌++◌, append_assoc}
use native.Mathlib.Decide.{dec_lt}
use native.Mathlib.Numerals.{add-one}
use native.Mathlib.Omega.{arith}
use lib.ListN.{length}
use Rattle.plan.specs.Circuit.{has, all_new}
use Rattle.laws.proofs.Marks.{Agrees, agrees-more}
use Rattle.laws.proofs.Reading.Rows.{new-append, new-both}
use Rattle.laws.proofs.Tables.{firsts, head_at, heads_at}
use Rattle.tables.specs.bitmap.Bitmap.{is_on, raised}
use Rattle.tables.proofs.bitmap.Places.{raised-length}
use Rattle.judge.specs.twice.Twice.{RowsSay}

-- what was defined twice among the first rows is defined twice among more
module _ (at : ℕ → ℕ) (seen : List ℕ) where
  stays : (n j : ℕ) → j ≤ n → all_new seen (firsts at j) ≡ false → all_new seen (firsts at n) ≡ false
  stays zero j h e = let z : j ≡ 0 = omega arith in subst (λ (k : ℕ). all_new seen (firsts at k) ≡ false) z e
  stays (suc n) j h e = by (dec_lt n j) (λ l. stays n j l e)
    where
      by : Dec (n < j) → (j ≤ n → all_new seen (firsts at n) ≡ false) → all_new seen (firsts at (suc n)) ≡ false
      by (yes l) f = let z : j ≡ suc n = omega arith in subst (λ (k : ℕ). all_new seen (firsts at k) ≡ false) z e
      by (no l) f =
          new-append seen (firsts at n) (at n ∷ [])
          ∙ ap (λ (t : Bool). t && all_new (seen ++ firsts at n) (at n ∷ [])) (f (omega arith))

  seen-again : (n i : ℕ) → i < n → has (at i) (seen ++ firsts at i) ≡ true → all_new seen (firsts at n) ≡ false
  seen-again n i h e =
      stays n (suc i) (omega arith)
      (new-append seen (firsts at i) (at i ∷ [])
      ∙ (ap (λ (t : Bool). all_new seen (firsts at i) && (not t && true)) e ∙ and_no (all_new seen (firsts at i))))
    where
      and_no : (t : Bool) → (t && false) ≡ false
      and_no true = refl
      and_no false = refl

  one_more : (i : ℕ) → all_new seen (firsts at i) ≡ true → has (at i) (seen ++ firsts at i) ≡ false → all_new seen (firsts at (suc i)) ≡ true
  one_more i a e = new-both seen (firsts at i) (at i ∷ []) a (ap (λ (t : Bool). not t && true) e)

-- after i rows: no variable was seen already, and all are marked
pub record Before (table : List ℕ) (stride m : ℕ) (seen marks : List ℕ) (i : ℕ) : Type 0 where
  pub new : all_new seen (heads_at table stride i) ≡ true
  pub agrees : Agrees m (seen ++ heads_at table stride i) marks

pub record Loop (table : List ℕ) (stride n : ℕ) (marks₀ marks : List ℕ) (i : ℕ) : Type 0 where
  pub within : i ≤ n
  pub wide : length marks ≡ length marks₀
  pub before : (m : ℕ) (seen : List ℕ) → ((k : ℕ) → k < n → head_at table stride k ≤ m) → Agrees m seen marks₀
      → Before table stride m seen marks i

module _ {table : List ℕ} {stride n : ℕ} {marks₀ marks : List ℕ} {i : ℕ} (s : Loop table stride n marks₀ marks i) where
  -- whether it was seen already
  told : (v : ℕ) → v ≡ head_at table stride i → i < n → (t : Bool) → is_on marks 0 v ≡ t → (m : ℕ) (seen : List ℕ)
      → ((k : ℕ) → k < n → head_at table stride k ≤ m) → Agrees m seen marks₀ → has (head_at table stride i) (seen ++ heads_at table stride i) ≡ t
  told v e h t z m seen up a =
      sym ((s.before m seen up a).agrees (head_at table stride i) (up i h)) ∙ (ap (is_on marks 0) (sym e) ∙ z)

  pub stops : (v : ℕ) → v ≡ head_at table stride i → i < n → is_on marks 0 v ≡ true → (marks' : List ℕ) (m : ℕ) (seen : List ℕ)
      → ((k : ℕ) → k < n → head_at table stride k ≤ m) → Agrees m seen marks₀ → RowsSay m seen (heads_at table stride n) true marks'
  stops v e h z marks' m seen up a = record {
    told = sym (ap not (seen-again (head_at table stride) seen n i h (told v e h true z m seen up a)));
    marked = λ p. absurd (false≢true (sym p));
  }

  pub turns : (v : ℕ) → v ≡ head_at table stride i → i < n → is_on marks 0 v ≡ false → v < length marks → (marks' : List ℕ)
      → marks' ≡ raised marks 0 v → Loop table stride n marks₀ marks' (i + 1)
  turns v e h z l marks' New-is = record {
    within = omega arith;
    wide = ap length New-is ∙ (raised-length marks 0 v ∙ s.wide);
    before = λ m seen up a. rw add-one (record {
      new = one_more (head_at table stride) seen i (s.before m seen up a).new (told v e h false z m seen up a);
      agrees = subst (λ (x : List ℕ). Agrees m (seen ++ heads_at table stride (suc i)) x) (sym New-is)
          (subst (λ (x : List ℕ). Agrees m x (raised marks 0 v)) (append_assoc seen (heads_at table stride i) (head_at table stride i ∷ []))
          (subst (λ (u : ℕ). Agrees m ((seen ++ heads_at table stride i) ++ (u ∷ [])) (raised marks 0 v)) e
          (agrees-more m (seen ++ heads_at table stride i) marks v (s.before m seen up a).agrees l)));
    });
  }

  pub ends : n ≤ i → (m : ℕ) (seen : List ℕ) → ((k : ℕ) → k < n → head_at table stride k ≤ m) → Agrees m seen marks₀
      → RowsSay m seen (heads_at table stride n) false marks
  ends h m seen up a =
      let all : i ≡ n = omega (arith, s.within) in
      let b = subst (Before table stride m seen marks) all (s.before m seen up a) in
      record { told = sym (ap not b.new); marked = λ p. b.agrees }
