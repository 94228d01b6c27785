-- The loop over symbol lines: the whole answer is the answer from here on.
use Prim.Native.Nat.{ℕ, suc, ◌-◌, ◌<◌, ◌≤◌}
use mathlib.Core.Path.{◌≡◌, refl, sym, ap, ◌∙◌, subst}
use mathlib.Core.Bool.{true, false, cond}
use mathlib.Core.List.{List, [], ◌∷◌}
use Rattle.std.specs.Prelude.{Result, Ok, Err, Some, None}
use native.Mathlib.Omega.{arith}
use borrow.Author.Tests.{le-leb, lt-leb}
use lib.ListN.{length, get_or, set, length-set}
use Rattle.plan.specs.declared.Counts.{Counts}
use Rattle.plan.specs.declared.Version.{Version}
use Rattle.plan.specs.declared.Version.TheVariants.{V19}
use Rattle.plan.specs.declared.Refusal.{Refusal}
use Rattle.plan.specs.Refusals.{Parse, got, refused, ◌then◌}
use Rattle.plan.specs.Tail.{Symbol, is_kind, symbol, comment, starts_symbol, tail_from, tail_at}
use Rattle.plan.specs.Given.{refusal_of}
use Rattle.plan.specs.Outcome.{passed_by, checked_by}
use Rattle.laws.proofs.Reading.Common.{then-got, cond-got, got-value, and_left}
use Rattle.laws.proofs.Reading.Tails.{symbol-past}
use Rattle.lines.specs.tail.Marks.{symbol_line, word_of, free, marked_symbol, marks_after, Holds, Blank}
use Rattle.lines.proofs.tail.Letters.{kind-19}
use Rattle.lines.proofs.tail.Lines.{kind-is}
use Rattle.lines.proofs.tail.Agree.{Agrees, none_seen, one_more, marked-same}

-- the symbols seen and the lines that may still come
pub record Turn (v : Version) (file : List ℕ) (n : Counts) (at size : ℕ) (marks : List ℕ) (pos : ℕ) : Type 0 where
  pub seen : List Symbol
  pub fuel : ℕ
  pub agrees : Agrees n seen marks
  pub holds : Holds n marks
  pub same : length marks ≡ size
  pub enough : length file - pos < fuel
  pub answer : refusal_of (tail_at v file n at) ≡ refusal_of (tail_from v file n fuel seen pos)

pub starts : (v : Version) (file : List ℕ) (n : Counts) (at : ℕ) (marks : List ℕ) → Holds n marks → Blank n marks → Turn v file n at (length marks) marks at
starts v file n at marks h b =
    record {
      seen = [];
      fuel = suc (length file);
      agrees = none_seen n marks h b;
      holds = h;
      same = refl;
      enough = omega arith;
      answer = refl;
    }

passed_to : (p : Parse Symbol) (next : ℕ) → Ok next ≡ passed_by p → (s : Symbol) × (p ≡ got s next)
passed_to (got s m) next e = (s, ap (got s) (cc))
passed_to (refused r) next e = let z : ◌≡◌ {A = ℕ} 0 1 = cc in absurd (omega arith)

passed-not : (p : Parse Symbol) (r : Refusal) → Err r ≡ passed_by p → p ≡ refused r
passed-not (got s m) r e = let z : ◌≡◌ {A = ℕ} 0 1 = cc in absurd (omega arith)
passed-not (refused q) r e = ap refused (cc)

-- what comes after decides
later : (s : Symbol) (p : Parse (List Symbol)) → refusal_of (p then λ ss last. got (s ∷ ss) last) ≡ refusal_of p
later s (got ss last) = refl
later s (refused r) = refl

module _ {v : Version} {file : List ℕ} {n : Counts} {at size : ℕ} {marks : List ℕ} {pos : ℕ} (t : Turn v file n at size marks pos) where
  -- the answer as its first line decides it
  here : (k : ℕ) → t.fuel ≡ suc k → pos < length file
      → refusal_of (tail_at v file n at)
      ≡ refusal_of (cond (starts_symbol v file pos)
      (symbol file n t.seen pos then λ s next. tail_from v file n k (s ∷ t.seen) next then λ ss last. got (s ∷ ss) last)
      (comment file pos))
  here k e h = t.answer ∙ (ap (λ (f : ℕ). refusal_of (tail_from v file n f t.seen pos)) e ∙ rw (lt-leb _ _ h))

  more : pos < length file → t.fuel ≡ suc (t.fuel - 1)
  more h = omega (arith, t.enough)

  pub ends : length file ≤ pos → Ok tt ≡ checked_by (refusal_of (tail_at v file n at))
  ends h =
      let e : t.fuel ≡ suc (t.fuel - 1) = omega (arith, t.enough) in
      let over : refusal_of (tail_at v file n at) ≡ None
      = t.answer ∙ (ap (λ (f : ℕ). refusal_of (tail_from v file n f t.seen pos)) e ∙ rw (le-leb _ _ h)) in
      ap checked_by (sym over)

  pub remarks : (r : Result Unit Refusal) → pos < length file → starts_symbol v file pos ≡ false → r ≡ checked_by (refusal_of (comment file pos))
      → r ≡ checked_by (refusal_of (tail_at v file n at))
  remarks r h k e =
      let told : refusal_of (tail_at v file n at) ≡ refusal_of (comment file pos) = here (t.fuel - 1) (more h) h ∙ rw k in
      e ∙ ap checked_by (sym told)

  module _ (h : pos < length file) (k : starts_symbol v file pos ≡ true) where
    kind : is_kind v (get_or file pos 0) ≡ true
    kind = and_left (is_kind v (get_or file pos 0)) _ k

    same-symbol : symbol file n t.seen pos ≡ marked_symbol file n marks pos
    same-symbol = marked-same file n t.seen marks pos t.agrees (kind-19 v (get_or file pos 0) kind)

    pub stops : (r : Refusal) → Err r ≡ passed_by (marked_symbol file n marks pos)
        → Err r ≡ checked_by (refusal_of (tail_at v file n at))
    stops r e =
        let told : refusal_of (tail_at v file n at) ≡ Some r
        = here (t.fuel - 1) (more h) h ∙ rw (k, same-symbol ∙ passed-not (marked_symbol file n marks pos) r e) in
        ap checked_by (sym told)

    module _ (next : ℕ) (e : Ok next ≡ passed_by (marked_symbol file n marks pos)) where
      pub falls : length file - next < length file - pos
      falls =
          let p = passed_to (marked_symbol file n marks pos) next e in
          omega (arith, symbol-past v file n t.seen pos p.0 next kind (same-symbol ∙ p.1))

      -- the symbol fits, and its letter is the line's
      fitting : (s : Symbol) → marked_symbol file n marks pos ≡ got s next → (is_kind V19 s.kind ≡ true) × (free n marks s ≡ true)
      fitting s p =
          let q = then-got (symbol_line file pos) _ s next p in
          let c = cond-got (free n marks q.0) _ _ s next q.3 in
          let s-is : q.0 ≡ s = got-value q.0 s q.1 next c.1 in
          subst (λ (x : Symbol). (is_kind V19 x.kind ≡ true) × (free n marks x ≡ true)) s-is
          (ap (is_kind V19) (sym (kind-is file pos q.0 q.1 q.2)) ∙ kind-19 v (get_or file pos 0) kind, c.0)

      pub turns : (marks' : List ℕ) → marks' ≡ marks_after n marks (marked_symbol file n marks pos) → Turn v file n at size marks' next
      turns marks' m =
          let p = passed_to (marked_symbol file n marks pos) next e in
          let s = p.0 in
          let f = fitting s p.1 in
          let long : length (set marks (word_of n s) 1) ≡ length marks = length-set marks (word_of n s) 1 in
          subst (λ (x : List ℕ). Turn v file n at size x next) (sym (m ∙ ap (marks_after n marks) p.1))
          (record {
            seen = s ∷ t.seen;
            fuel = t.fuel - 1;
            agrees = one_more n t.seen marks t.agrees s t.holds f.0 f.1;
            holds = record {
              most-I = t.holds.most-I;
              most-L = t.holds.most-L;
              most-O = t.holds.most-O;
              most-B = t.holds.most-B;
              most-C = t.holds.most-C;
              words = omega (arith, t.holds.words);
            };
            same = long ∙ t.same;
            enough = omega (arith, falls, t.enough);
            answer =
                here (t.fuel - 1) (more h) h
                ∙ rw (k, same-symbol ∙ p.1) (later s (tail_from v file n (t.fuel - 1) (s ∷ t.seen) next));
          })
