-- The used literals of a circuit, where its tables hold them.
use Prim.Native.Nat.{ℕ, zero, suc, ◌+◌, ◌*◌, ◌≤◌, ◌<◌}
use mathlib.Core.Path.{◌≡◌, refl, sym, ap, ap₂, ◌∙◌, subst}
use mathlib.Core.List.{List, [], ◌∷◌, ◌++◌}
use Rattle.std.specs.Prelude.{Some, None}
use native.Mathlib.Omega.{arith}
use lib.ListN.{length, get_or, take}
use Rattle.plan.specs.declared.Counts.{Counts}
use Rattle.plan.specs.Literals.{var_of}
use Rattle.plan.specs.Circuit.{Latch, Circuit, seven, circuit_of, nexts, roots, rights, vars, defined_in}
use Rattle.plan.specs.Depends.{least_missing, undefined_in}
use Rattle.laws.proofs.Marks.{Agrees}
use Rattle.laws.proofs.Tables.{firsts, gate_at, gates_at, latch_at, gates-rows, latches-rows, words_take}
use Rattle.judge.specs.used.Least.{every, words, lowest}
use Rattle.judge.specs.used.Reach.{WordsUpTo, Observed, InReach}
use Rattle.judge.proofs.used.Lowest.{lowest-append, rights-snoc}
use Rattle.judge.proofs.used.Named.{UpTo, none_named, one-named}

up-append : (m : ℕ) (xs ys : List ℕ) → UpTo m xs → UpTo m ys → UpTo m (xs ++ ys)
up-append m [] ys h k = k
up-append m (x ∷ xs) ys h k = (h.0, up-append m xs ys h.1 k)

up-firsts : (m : ℕ) (at : ℕ → ℕ) (n : ℕ) → ((i : ℕ) → i < n → var_of (at i) ≤ m) → UpTo m (firsts at n)
up-firsts m at zero h = tt
up-firsts m at (suc n) h = up-append m (firsts at n) (at n ∷ []) (up-firsts m at n (λ i l. h i (omega arith))) (h n (omega arith), tt)

up-sides : (m : ℕ) (t : List ℕ) (n : ℕ) → ((i : ℕ) → i < n → var_of (get_or t (3 * i + 1) 0) ≤ m)
    → ((i : ℕ) → i < n → var_of (get_or t (3 * i + 2) 0) ≤ m)
    → UpTo m (rights (gates_at t n))
up-sides m t zero h k = tt
up-sides m t (suc n) h k =
    subst (UpTo m) (sym (rights-snoc (gates_at t n) (gate_at t n)))
    (up-append m (rights (gates_at t n)) ((gate_at t n).rhs0 ∷ (gate_at t n).rhs1 ∷ [])
    (up-sides m t n (λ i l. h i (omega arith)) (λ i l. k i (omega arith)))
    (h n (omega arith), (k n (omega arith), tt)))

nexts-firsts : (t : List ℕ) (n : ℕ) → nexts (firsts (latch_at t) n) ≡ every t 1 2 n
nexts-firsts t zero = refl
nexts-firsts t (suc n) =
    nexts-snoc (firsts (latch_at t) n) (latch_at t n)
    ∙ ap (λ (l : List ℕ). l ++ ((latch_at t n).next ∷ [])) (nexts-firsts t n)
  where
    nexts-snoc : (ls : List Latch) (x : Latch) → nexts (ls ++ (x ∷ [])) ≡ nexts ls ++ (x.next ∷ [])
    nexts-snoc [] x = refl
    nexts-snoc (l ∷ ls) x = ap (λ (r : List ℕ). l.next ∷ r) (nexts-snoc ls x)

-- rows of one word
pub one_word : (t : List ℕ) (i : ℕ) → get_or t i 0 ≡ get_or t (1 * i + 0) 0
one_word t i = let at : i ≡ 1 * i + 0 = omega arith in ap (λ (n : ℕ). get_or t n 0) at

words-every : (t : List ℕ) (n : ℕ) → n ≤ length t → take n t ≡ every t 0 1 n
words-every t n h = words_take t n h ∙ ap (λ (at : ℕ → ℕ). firsts at n) (λ j i. one_word t i j)

pub word-in-marks : (m : ℕ) (t : List ℕ) (n : ℕ) (marks : List ℕ) → m < length marks → WordsUpTo m t n
    → (i : ℕ) → i < n → var_of (get_or t (1 * i + 0) 0) < length marks
word-in-marks m t n marks long up i h = rw (← one_word t i) (omega (arith, up i h))

-- the walks over what is observed, and all walks, one after the other
module _ {n : Counts} {ot bt ct marks : List ℕ} (p : Observed n ot bt ct marks) where
  abbrev pub observed_in : List ℕ
  observed_in = words ot n.O ++ (words bt n.B ++ words ct n.C)

  pub observed-walked : (k r₁ r₂ r : ℕ) → r₁ ≡ lowest marks k (words ot n.O) → r₂ ≡ lowest marks r₁ (words bt n.B)
      → r ≡ lowest marks r₂ (words ct n.C) → r ≡ lowest marks k observed_in
  observed-walked k r₁ r₂ r e f g =
      g ∙ ap (λ (x : ℕ). lowest marks x (words ct n.C)) f
      ∙ sym (lowest-append marks r₁ (words bt n.B) (words ct n.C))
      ∙ ap (λ (x : ℕ). lowest marks x (words bt n.B ++ words ct n.C)) e
      ∙ sym (lowest-append marks k (words ot n.O) (words bt n.B ++ words ct n.C))

  words_up : (t : List ℕ) (k : ℕ) → WordsUpTo n.M t k → UpTo n.M (words t k)
  words_up t k h = up-firsts n.M _ k (λ i q. rw (← one_word t i) (h i q))

  observed-up : UpTo n.M observed_in
  observed-up =
      up-append n.M (words ot n.O) (words bt n.B ++ words ct n.C) (words_up ot n.O p.outputs-up)
      (up-append n.M (words bt n.B) (words ct n.C) (words_up bt n.B p.bads-up) (words_up ct n.C p.constraints-up))

module _ {n : Counts} {lt ot gt bt ct marks : List ℕ} (p : InReach n lt ot gt bt ct marks) (r₁ r₂ r : ℕ)
    (by-latches : r₁ ≡ lowest marks (n.M + 1) (every lt 1 2 n.L)) (by-observed : r₂ ≡ lowest marks r₁ (observed_in p.observed))
    (by-gates : r ≡ lowest marks r₂ (rights (gates_at gt n.A))) where
  abbrev seen : List ℕ
  seen = every lt 1 2 n.L ++ observed_in p.observed

  abbrev literals : List ℕ
  literals = seen ++ rights (gates_at gt n.A)

  literals-up : UpTo n.M literals
  literals-up =
      up-append n.M seen (rights (gates_at gt n.A))
      (up-append n.M (every lt 1 2 n.L) (observed_in p.observed) (up-firsts n.M _ n.L p.nexts-up) (observed-up p.observed))
      (up-sides n.M gt n.A p.firsts-up p.seconds-up)

  found : r ≡ lowest marks (n.M + 1) literals
  found =
      by-gates
      ∙ ap (λ (k : ℕ). lowest marks k (rights (gates_at gt n.A)))
      (by-observed ∙ ap (λ (k : ℕ). lowest marks k (observed_in p.observed)) by-latches
      ∙ sym (lowest-append marks (n.M + 1) (every lt 1 2 n.L) (observed_in p.observed)))
      ∙ sym (lowest-append marks (n.M + 1) seen (rights (gates_at gt n.A)))

  module _ (inputs resets : List ℕ) where
    abbrev c : Circuit
    c = circuit_of n (seven inputs lt ot gt resets bt ct)

    literals-are : literals ≡ roots c ++ rights c.gates
    literals-are =
        sym (ap₂ (λ (x : List ℕ) (y : List ℕ). x ++ y)
        (ap₂ (λ (x : List ℕ) (y : List ℕ). x ++ y)
        (ap nexts (latches-rows lt n.L) ∙ nexts-firsts lt n.L)
        (ap₂ (λ (x : List ℕ) (y : List ℕ). x ++ y) (words-every ot n.O p.observed.outputs-long)
        (ap₂ (λ (x : List ℕ) (y : List ℕ). x ++ y) (words-every bt n.B p.observed.bads-long)
        (words-every ct n.C p.observed.constraints-long))))
        (ap rights (gates-rows gt n.A)))

    pub nothing-missing : Agrees n.M (defined_in c) marks → n.M < r → None ≡ undefined_in c
    nothing-missing agrees h =
        none_named n.M (defined_in c) marks agrees literals literals-up (omega (arith, found))
        ∙ ap (λ (ls : List ℕ). least_missing (zero ∷ defined_in c) (vars ls)) literals-are

    pub one-missing : Agrees n.M (defined_in c) marks → r ≤ n.M → Some r ≡ undefined_in c
    one-missing agrees h =
        ap Some found
        ∙ (one-named n.M (defined_in c) marks agrees literals literals-up (omega (arith, found))
        ∙ ap (λ (ls : List ℕ). least_missing (zero ∷ defined_in c) (vars ls)) literals-are)
