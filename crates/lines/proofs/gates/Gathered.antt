-- The loop that reads gates: what was read before, and the answer from here on.
use Prim.Native.Nat.{ℕ, suc, ◌+◌, ◌*◌, ◌-◌, ◌<◌, ◌≤◌}
use mathlib.Core.Path.{◌≡◌, refl, sym, ap, ap₂, ◌∙◌, subst}
use mathlib.Core.List.{List, [], ◌∷◌, ◌++◌, map}
use Rattle.std.specs.Prelude.{Ok, Err}
use native.Mathlib.Omega.{arith}
use lib.ListN.{length, set, length-append, length-set}
use lib.Seq.{append_snoc}
use Rattle.plan.specs.declared.Lit.{Lit}
use Rattle.plan.specs.declared.Refusal.{Refusal}
use Rattle.plan.specs.Literals.{lit_at, word_of}
use Rattle.plan.specs.Refusals.{Parse, got, refused, ◌then◌}
use Rattle.plan.specs.Circuit.{Gate, flat, gate_line}
use Rattle.plan.specs.Binary.{gate, gates_from}
use Rattle.plan.specs.Outcome.{put}
use Rattle.laws.proofs.Put.{put-put}
use Rattle.lines.specs.gates.Gates.{gate_by, GatesSay}
use Rattle.lines.proofs.gates.Words.{three-put}
use Rattle.laws.proofs.Pairs.{ok-is}

-- the answer after the gates gs
abbrev pub after : List Gate → Parse (List Gate) → Parse (List Gate)
after gs (got hs next) = got (gs ++ hs) next
after gs (refused r) = refused r

pub after_none : (p : Parse (List Gate)) → after [] p ≡ p
after_none (got hs next) = refl
after_none (refused r) = refl

after_last : (gs : List Gate) (g : Gate) (p : Parse (List Gate)) → after gs (p then λ hs next. got (g ∷ hs) next) ≡ after (gs ++ (g ∷ [])) p
after_last gs g (got hs next) = ap (λ (l : List Gate). got l next) (sym (append_snoc gs g hs))
after_last gs g (refused r) = refl

-- the words of gates: one gate more, and three for each
abbrev pub words_of : List Gate → List ℕ
words_of gs = flat (map gate_line gs)

words_last : (gs : List Gate) (g : Gate) → words_of (gs ++ (g ∷ [])) ≡ words_of gs ++ gate_line g
words_last [] g = refl
words_last (h ∷ gs) g = ap (λ (l : List ℕ). h.lhs ∷ h.rhs0 ∷ h.rhs1 ∷ l) (words_last gs g)

pub words-length : (gs : List Gate) → length (words_of gs) ≡ 3 * length gs
words-length [] = refl
words-length (g ∷ gs) = let h = words-length gs in omega arith

-- what an answer says of the gate
read-refused : (p : Parse Gate) (r : Refusal) → Err r ≡ gate_by p → p ≡ refused r
read-refused (got g n) r e = let z : ◌≡◌ {A = ℕ} 0 1 = cc in absurd (omega arith)
read-refused (refused r') r e = let r-is : r' ≡ r = cc in ap refused r-is

abbrev pub gate_is : Lit → Lit → Lit → Gate
gate_is a b c = record { lhs = word_of a; rhs0 = word_of b; rhs1 = word_of c }

read_whole : (p : Parse Gate) (a b c : Lit) (n : ℕ) → Ok (a, b, c, n) ≡ gate_by p → p ≡ got (gate_is a b c) n
read_whole (got g m) a b c n e =
    ap (λ (q : Lit × Lit × Lit × ℕ). got (gate_is q.0 q.1 q.2) q.3)
    (ok-is (lit_at g.lhs, lit_at g.rhs0, lit_at g.rhs1, m) (a, b, c, n) (sym e))
read_whole (refused r) a b c n e = let z : ◌≡◌ {A = ℕ} 0 1 = cc in absurd (omega arith)

-- i gates are read and stand at the table's start
pub record Gathered (file : List ℕ) (at first n : ℕ) (table₀ table : List ℕ) (next i : ℕ) : Type 0 where
  pub gates : List Gate
  pub many : length gates ≡ i
  pub whole : gates_from file n first at ≡ after gates (gates_from file (n - i) (first + i) next)
  pub table_is : table ≡ put table₀ 0 (words_of gates)
  pub same : length table ≡ length table₀

module _ (file : List ℕ) where
  -- k gates of variables from v on, after a gate
  abbrev more : ℕ → ℕ → Gate → ℕ → Parse (List Gate)
  more k v g at = gates_from file k v at then λ gs at. got (g ∷ gs) at

module _ (file : List ℕ) (at first n : ℕ) (table₀ : List ℕ) where
  module _ (table : List ℕ) (next i : ℕ) (s : Gathered file at first n table₀ table next i) where
    -- the answer, with the next gate taken apart
    turn : i < n → gates_from file n first at
        ≡ after s.gates (gate file (first + i) next then more file (n - (i + 1)) (first + (i + 1)))
    turn h =
        let n-is : n - i ≡ suc (n - (i + 1)) = omega arith in
        let v-is : suc (first + i) ≡ first + (i + 1) = omega arith in
        s.whole
        ∙ (ap (λ (k : ℕ). after s.gates (gates_from file k (first + i) next)) n-is
        ∙ ap (λ (v : ℕ). after s.gates (gate file (first + i) next then more file (n - (i + 1)) v))
        v-is)

    pub one-refused : (r : Refusal) (table' : List ℕ) → i < n → Err r ≡ gate_by (gate file (first + i) next)
        → GatesSay table₀ (gates_from file n first at) (Err r) table'
    one-refused r table' h e =
        let p = read-refused (gate file (first + i) next) r e in
        let all : gates_from file n first at ≡ refused r
        = turn h ∙ ap (λ (x : Parse Gate). after s.gates
        (x then more file (n - (i + 1)) (first + (i + 1)))) p in
        subst (λ (x : Parse (List Gate)). GatesSay table₀ x (Err r) table') (sym all) refl

    pub one_more : (a b c : Lit) (end : ℕ) → i < n → 3 * n ≤ length table₀ → Ok (a, b, c, end) ≡ gate_by (gate file (first + i) next)
        → (x y z : ℕ) → x ≡ word_of a → y ≡ word_of b → z ≡ word_of c
        → Gathered file at first n table₀ (set (set (set table (3 * i) x) (3 * i + 1) y) (3 * i + 2) z) end (i + 1)
    one_more a b c end h room e x y z x-is y-is z-is =
        let g : Gate = gate_is a b c in
        let p = read_whole (gate file (first + i) next) a b c end e in
        let before : List ℕ = words_of s.gates in
        let size : length before ≡ 3 * i = words-length s.gates ∙ ap (λ (k : ℕ). 3 * k) s.many in
        let both : length (before ++ gate_line g) ≡ length before + 3 = length-append before (gate_line g) in
        let start : 3 * i ≡ 0 + length before = omega arith in
        let fits : 0 + length (before ++ gate_line g) ≤ length table₀ = omega arith in
        let in_table : 3 * i + 3 ≤ length table = omega (arith, s.same) in
        record {
          gates = s.gates ++ (g ∷ []);
          many = length-append s.gates (g ∷ []) ∙ ap (λ (k : ℕ). k + 1) s.many;
          whole =
              turn h
              ∙ (ap (λ (x : Parse Gate). after s.gates
              (x then more file (n - (i + 1)) (first + (i + 1)))) p
              ∙ after_last s.gates g (gates_from file (n - (i + 1)) (first + (i + 1)) end));
          table_is =
              (λ j. set (set (set table (3 * i) (x-is j)) (3 * i + 1) (y-is j)) (3 * i + 2) (z-is j))
              ∙ (three-put table (3 * i) (word_of a) (word_of b) (word_of c) in_table
              ∙ (ap₂ (λ (t : List ℕ) (k : ℕ). put t k (gate_line g)) s.table_is start
              ∙ (put-put table₀ 0 before (gate_line g) fits ∙ ap (put table₀ 0) (sym (words_last s.gates g)))));
          same = simp length-set s.same;
        }
