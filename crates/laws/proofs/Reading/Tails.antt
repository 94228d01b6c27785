-- A tail is accepted exactly if it is symbol lines and then nothing or a comment.
use Prim.Native.Nat.{ℕ, suc, zero, ◌+◌, ◌-◌, ◌<◌, ◌≤◌}
use mathlib.Core.Path.{◌≡◌, refl, sym, ap, ap₂, ◌∙◌, subst}
use mathlib.Core.Bool.{Bool, true, false, not, cond, ◌&&◌, and-false, false≢true}
use mathlib.Core.Logic.{◌↔◌}
use mathlib.Core.List.{List, [], ◌∷◌, ◌++◌, append_assoc}
use native.Mathlib.Omega.{arith}
use borrow.Author.Tests.{eqb-true, leb-true, le-leb, lt-leb}
use lib.Dec.{eqb, leb}
use lib.ListN.{length, get_or, drop, length-drop, length-append, drop_of_length-le}
use lib.Seq.{drop-drop, get_or-drop}
use Rattle.plan.specs.declared.Refusal.TheVariants.{WrongByte}
use Rattle.plan.specs.Refusals.{Parse, got, refused, ◌then◌}
use Rattle.plan.specs.declared.Counts.{Counts}
use Rattle.plan.specs.declared.Version.{Version}
use Rattle.plan.specs.declared.Version.TheVariants.{V2007, V19}
use Rattle.plan.specs.Bytes.{class_of, name_class, span, number_by, number, expect, digits}
use Rattle.plan.specs.Tail.{Symbol, is_kind, fits, symbol, ends_line, comment, starts_symbol, tail_from, tail_at, TailOk, symbol_of, symbols_of, is_name}
use Rattle.plan.specs.Tail.{symbols_ok, CommentOk, empty, lines}
use Rattle.laws.proofs.Reading.Common.{in-file, not-got, got-value, got-next, then-got, cond-got, Reads, byte-there, byte-is, byte_past, past}
use Rattle.laws.proofs.Reading.Common.{expect-took, expect-reads, and_left, and_right, and_intro}
use Rattle.laws.proofs.Reading.Number.{AllPass, span-pass, span-split, span-all, number-took, number-reads}

pub kind-pos : (v : Version) (b : ℕ) → is_kind v b ≡ true → 0 < b
kind-pos V2007 zero e = absurd (false≢true e)
kind-pos V19 zero e = absurd (false≢true e)
kind-pos v (suc b) e = omega arith

-- no number starts with a new line, so a letter with its position starts a symbol
number-no-line : (file : List ℕ) (at e m : ℕ) → number file at ≡ got e m → eqb (get_or file at 0) 10 ≡ false
number-no-line file at e m h = go (eqb (get_or file at 0) 10) refl
  where
    go : (t : Bool) → eqb (get_or file at 0) 10 ≡ t → t ≡ false
    go true q =
        let b : get_or file at 0 ≡ 10 = eqb-true _ _ q in
        absurd (not-got (WrongByte at) e m (subst (λ (x : ℕ). number_by (class_of x) (drop at file) at ≡ got e m) b h))
    go false q = refl

letter-starts : (v : Version) (file : List ℕ) (at e m : ℕ) → is_kind v (get_or file at 0) ≡ true → number file (at + 1) ≡ got e m
    → starts_symbol v file at ≡ true
letter-starts v file at e m k h =
    and_intro (is_kind v (get_or file at 0)) _ k
    (ap (λ (t : Bool). not (eqb (get_or file at 0) 99 && t)) (number-no-line file (at + 1) e m h) ∙ ap not (and-false (eqb (get_or file at 0) 99)))

comment-starts-none : (v : Version) (file : List ℕ) (at : ℕ) (l : List ℕ) → drop at file ≡ 99 ∷ 10 ∷ l → starts_symbol v file at ≡ false
comment-starts-none v file at l e =
    ap₂ (λ (x y : ℕ). is_kind v x && not (eqb x 99 && eqb y 10)) (byte-is file at 99 (10 ∷ l) e)
    (byte-is file (at + 1) 10 l (byte_past file at 99 (10 ∷ l) e))
    ∙ and-false (is_kind v 99)

pass-name : (l : List ℕ) → AllPass name_class l → is_name l ≡ true
pass-name [] h = refl
pass-name (b ∷ l) h = and_intro (name_class (class_of b)) (is_name l) h.0 (pass-name l h.1)

name-pass : (l : List ℕ) → is_name l ≡ true → AllPass name_class l
name-pass [] h = tt
name-pass (b ∷ l) h = (and_left (name_class (class_of b)) (is_name l) h, name-pass l (and_right (name_class (class_of b)) (is_name l) h))

symbol-parts : (s : Symbol) (t : List ℕ) → symbol_of s ++ t ≡ s.kind ∷ (digits s.entry ++ (32 ∷ (s.name ++ (10 ∷ t))))
symbol-parts s t =
    ap (λ (l : List ℕ). s.kind ∷ l) (append_assoc (digits s.entry) (32 ∷ (s.name ++ (10 ∷ []))) t
    ∙ ap (λ (l : List ℕ). digits s.entry ++ (32 ∷ l)) (append_assoc s.name (10 ∷ []) t))

module _ (v : Version) (file : List ℕ) (n : Counts) where
  symbol-took : (seen : List Symbol) (at : ℕ) (s : Symbol) (m : ℕ) → is_kind v (get_or file at 0) ≡ true → symbol file n seen at ≡ got s m
      → (drop at file ≡ symbol_of s ++ drop m file) × (is_kind v s.kind ≡ true) × (is_name s.name ≡ true) × (fits n seen s ≡ true)
  symbol-took seen at s m k e =
      let b = get_or file at 0 in
      let t1 = then-got (number file (at + 1)) _ s m e in
      let t2 = then-got (expect file 32 t1.1) _ s m t1.3 in
      let w = span name_class (drop t2.1 file) in
      let t4 = then-got (expect file 10 (t2.1 + length w)) _ s m t2.3 in
      let u : Symbol = record { kind = b; entry = t1.0; name = w } in
      let c = cond-got (fits n seen u) _ _ s m t4.3 in
      let s-is : u ≡ s = got-value u s t4.1 m c.1 in
      let m-is : t4.1 ≡ m = got-next u s t4.1 m c.1 in (
        byte-there file at b (kind-pos v b k) refl
            ∙ (ap (λ (l : List ℕ). b ∷ l) (number-took file (at + 1) t1.0 t1.1 t1.2
            ∙ ap (λ (l : List ℕ). digits t1.0 ++ l) (expect-took file 32 t1.1 t2.0 t2.1 (omega arith) t2.2
            ∙ ap (λ (l : List ℕ). 32 ∷ l) (span-split name_class (drop t2.1 file)
            ∙ ap (λ (l : List ℕ). w ++ l) (drop-drop (length w) t2.1 file ∙ expect-took file 10 (t2.1 + length w) t4.0 t4.1
            (omega arith) t4.2))))
            ∙ (sym (symbol-parts u (drop t4.1 file)) ∙ ap₂ (λ (x : Symbol) (y : ℕ). symbol_of x ++ drop y file) s-is m-is)),
        subst (λ (x : Symbol). is_kind v x.kind ≡ true) s-is k,
        subst (λ (x : Symbol). is_name x.name ≡ true) s-is (pass-name w (span-pass name_class (drop t2.1 file))),
        subst (λ (x : Symbol). fits n seen x ≡ true) s-is c.0,
      )

  symbol-reads : (seen : List Symbol) (at : ℕ) (s : Symbol) (t : List ℕ) → is_name s.name ≡ true → fits n seen s ≡ true
      → drop at file ≡ symbol_of s ++ t
      → Reads file (symbol file n seen at) s t
  symbol-reads seen at s t a f e =
      let e0 : drop at file ≡ s.kind ∷ (digits s.entry ++ (32 ∷ (s.name ++ (10 ∷ t)))) = e ∙ symbol-parts s t in
      let k-is : get_or file at 0 ≡ s.kind = byte-is file at _ _ e0 in
      let r1 = number-reads file (at + 1) s.entry 32 (s.name ++ (10 ∷ t)) refl (byte_past file at _ _ e0) in
      let r2 = expect-reads file 32 r1.0 (s.name ++ (10 ∷ t)) r1.2 in
      let w : span name_class (drop r2.0 file) ≡ s.name =
      ap (span name_class) r2.2 ∙ span-all name_class s.name 10 t (name-pass s.name a) refl in
      let r4 = expect-reads file 10 (r2.0 + length s.name) t (past file r2.0 s.name (10 ∷ t) r2.2) in
      (r4.0, rw (r1.1, r2.1, w, r4.1, k-is, f), r4.2)

  ends_same : (at : ℕ) → at < length file → get_or (drop at file) (length (drop at file) - 1) 0 ≡ get_or file (length file - 1) 0
  ends_same at h =
      let l : length (drop at file) ≡ length file - at = length-drop at file in
      let q : at + (length (drop at file) - 1) ≡ length file - 1 = omega arith in
      get_or-drop at file (length (drop at file) - 1) 0 ∙ ap (λ (k : ℕ). get_or file k 0) q

  abbrev pub Rest : List Symbol → List Symbol → ℕ → Type 0
  Rest seen ss at = (rest : List ℕ) × (drop at file ≡ symbols_of ss ++ rest) × (symbols_ok v n seen ss ≡ true) × CommentOk rest

  comment-took : (seen : List Symbol) (at : ℕ) (ss : List Symbol) (e : ℕ) → comment file at ≡ got ss e → Rest seen ss at
  comment-took seen at ss e q =
      let t1 = then-got (expect file 99 at) _ ss e q in
      let t2 = then-got (expect file 10 t1.1) _ ss e t1.3 in
      let c = cond-got (ends_line file) _ _ ss e t2.3 in
      let l = drop t2.1 file in
      let s-is : [] ≡ ss = got-value [] ss (length file) e c.1 in
      let d : drop at file ≡ 99 ∷ 10 ∷ l =
      expect-took file 99 at t1.0 t1.1 (omega arith) t1.2 ∙ ap (λ (x : List ℕ). 99 ∷ x)
      (expect-took file 10 t1.1 t2.0 t2.1 (omega arith) t2.2) in
      let ends : ends_line (99 ∷ 10 ∷ l) ≡ true =
      ap ends_line (sym d) ∙ (ap (λ (x : ℕ). eqb x 10) (ends_same at (in-file file at 99 (10 ∷ l) d)) ∙ c.0) in
      subst (λ (x : List Symbol). Rest seen x at) s-is (99 ∷ 10 ∷ l, d, refl, lines ends)

  abbrev Later : ℕ → Type 0
  Later k = (seen' : List Symbol) (at' : ℕ) (ss' : List Symbol) (e' : ℕ) → tail_from v file n k seen' at' ≡ got ss' e' → Rest seen' ss' at'

  pub tail-took : (k : ℕ) (seen : List Symbol) (at : ℕ) (ss : List Symbol) (e : ℕ) → tail_from v file n k seen at ≡ got ss e → Rest seen ss at
  tail-took zero seen at ss e q = absurd (not-got _ _ _ q)
  tail-took (suc k) seen at ss e q = first (λ seen' at' ss' e' q'. tail-took k seen' at' ss' e' q') (leb (length file) at) refl q
    where
      more : (s : Symbol) (m : ℕ) → is_kind v (get_or file at 0) ≡ true → symbol file n seen at ≡ got s m → (ss' : List Symbol)
          → Rest (s ∷ seen) ss' m → Rest seen (s ∷ ss') at
      more s m i p ss' r =
          let t = symbol-took seen at s m i p in (
            r.0,
            t.0 ∙ (ap (λ (x : List ℕ). symbol_of s ++ x) r.1 ∙ sym (append_assoc (symbol_of s) (symbols_of ss') r.0)),
            and_intro (is_kind v s.kind) _ t.1 (and_intro (is_name s.name) _ t.2 (and_intro (fits n seen s) _ t.3 r.2)),
            r.3,
          )

      second : Later k → (t : Bool) → starts_symbol v file at ≡ t
          → cond t (symbol file n seen at then λ s next. tail_from v file n k (s ∷ seen) next then λ ss last. got (s ∷ ss) last) (comment file at)
          ≡ got ss e → Rest seen ss at
      second ih true i q =
          let t = then-got (symbol file n seen at) _ ss e q in
          let u = then-got (tail_from v file n k (t.0 ∷ seen) t.1) _ ss e t.3 in
          subst (λ (x : List Symbol). Rest seen x at) (got-value (t.0 ∷ u.0) ss u.1 e u.3)
          (more t.0 t.1 (and_left (is_kind v (get_or file at 0)) _ i) t.2 u.0 (ih (t.0 ∷ seen) t.1 u.0 u.1 u.2))
      second ih false i q = comment-took seen at ss e q

      first : Later k → (t : Bool) → leb (length file) at ≡ t
          → cond t (got [] at) (cond (starts_symbol v file at)
          (symbol file n seen at then λ s next. tail_from v file n k (s ∷ seen) next then λ ss last. got (s ∷ ss) last) (comment file at)) ≡ got ss e
          → Rest seen ss at
      first ih true l q =
          subst (λ (x : List Symbol). Rest seen x at) (got-value [] ss at e q) ([], drop_of_length-le file (leb-true _ _ l), refl, empty)
      first ih false l q = second ih (starts_symbol v file at) refl q

  pub tail-reads : (ss : List Symbol) (k : ℕ) (seen : List Symbol) (at : ℕ) (rest : List ℕ) → length ss < k → symbols_ok v n seen ss ≡ true
      → CommentOk rest
      → drop at file ≡ symbols_of ss ++ rest → (e : ℕ) × (tail_from v file n k seen at ≡ got ss e)
  tail-reads ss zero seen at rest h o c e = absurd (omega arith)
  tail-reads [] (suc k) seen at rest h o empty e =
      let l : length file ≤ at = omega (arith, length-drop at file, ap length e) in
      (at, rw (le-leb _ _ l))
  tail-reads [] (suc k) seen at rest h o (lines {l = l} c) e =
      let i : at < length file = in-file file at 99 (10 ∷ l) e in
      let r1 = expect-reads file 99 at (10 ∷ l) e in
      let r2 = expect-reads file 10 r1.0 l r1.2 in
      let ends : ends_line file ≡ true = ap (λ (x : ℕ). eqb x 10) (sym (ends_same at i)) ∙ (ap ends_line e ∙ c) in
      let k-is : starts_symbol v file at ≡ false = comment-starts-none v file at l e in
      (length file, rw (lt-leb _ _ i, k-is, r1.1, r2.1, ends))
  tail-reads (s ∷ ss) (suc k) seen at rest h o c e =
      let o1 = and_right (is_kind v s.kind) _ o in
      let o2 = and_right (is_name s.name) _ o1 in
      let e0 : drop at file ≡ symbol_of s ++ (symbols_of ss ++ rest) = e ∙ append_assoc (symbol_of s) (symbols_of ss) rest in
      let i : at < length file = in-file file at s.kind _ e0 in
      let kind : is_kind v (get_or file at 0) ≡ true = ap (is_kind v) (byte-is file at s.kind _ e0) ∙ and_left (is_kind v s.kind) _ o in
      let r1 = symbol-reads seen at s (symbols_of ss ++ rest) (and_left (is_name s.name) _ o1) (and_left (fits n seen s) _ o2) e0 in
      let num = then-got (number file (at + 1)) _ s r1.0 r1.1 in
      let k-is : starts_symbol v file at ≡ true = letter-starts v file at num.0 num.1 kind num.2 in
      let r2 = tail-reads ss k (s ∷ seen) r1.0 rest (omega arith) (and_right (fits n seen s) _ o2) c r1.2 in
      (r2.0, rw (lt-leb _ _ i, k-is, r1.1, r2.1))

pub symbols-long : (ss : List Symbol) → length ss ≤ length (symbols_of ss)
symbols-long [] = omega arith
symbols-long (s ∷ ss) = omega (arith, length-append (symbol_of s) (symbols_of ss), symbols-long ss)

-- a tail is accepted where it starts exactly if it is well formed
pub tail-exactly : (v : Version) (file : List ℕ) (n : Counts) (at : ℕ)
    → ((ss : List Symbol) × (e : ℕ) × (tail_at v file n at ≡ got ss e)) ↔ TailOk v n (drop at file)
tail-exactly v file n at = (λ t. formed t.0 t.1 t.2, accepted)
  where
    formed : (ss : List Symbol) (e : ℕ) → tail_at v file n at ≡ got ss e → TailOk v n (drop at file)
    formed ss e q =
        let r = tail-took v file n (suc (length file)) [] at ss e q in
        record { symbols = ss; rest = r.0; parts = r.1; good = r.2; remark = r.3 }

    accepted : TailOk v n (drop at file) → (ss : List Symbol) × (e : ℕ) × (tail_at v file n at ≡ got ss e)
    accepted t =
        let fuel : length t.symbols < suc (length file)
        = omega (arith, symbols-long t.symbols, length-append (symbols_of t.symbols) t.rest, ap length t.parts, length-drop at file) in
        let r = tail-reads v file n t.symbols (suc (length file)) [] at t.rest fuel t.good t.remark t.parts in
        (t.symbols, r.0, r.1)

-- the bound on the number of symbol lines is never met
module _ (v : Version) (file : List ℕ) (n : Counts) where
  symbol-on : (seen : List Symbol) (at : ℕ) (s : Symbol) (m : ℕ) → symbol file n seen at ≡ got s m → m ≤ length file
  symbol-on seen at s m e =
      let t1 = then-got (number file (at + 1)) _ s m e in
      let t2 = then-got (expect file 32 t1.1) _ s m t1.3 in
      let w = span name_class (drop t2.1 file) in
      let t4 = then-got (expect file 10 (t2.1 + length w)) _ s m t2.3 in
      let u : Symbol = record { kind = get_or file at 0; entry = t1.0; name = w } in
      let c = cond-got (fits n seen u) _ _ s m t4.3 in
      let x = cond-got (eqb (get_or file (t2.1 + length w) 0) 10) _ _ t4.0 t4.1 t4.2 in
      let d : drop (t2.1 + length w) file ≡ 10 ∷ drop (t2.1 + length w + 1) file =
      byte-there file (t2.1 + length w) 10 (omega arith) (eqb-true _ _ x.0) in
      omega (
        arith,
        in-file file (t2.1 + length w) 10 (drop (t2.1 + length w + 1) file) d,
        got-next 10 t4.0 (t2.1 + length w + 1) t4.1 x.1,
        got-next u s t4.1 m c.1,
      )

  pub symbol-past : (seen : List Symbol) (at : ℕ) (s : Symbol) (m : ℕ) → is_kind v (get_or file at 0) ≡ true → symbol file n seen at ≡ got s m
      → at < m
  symbol-past seen at s m k e =
      omega (
        arith,
        ap length (symbol-took v file n seen at s m k e).0,
        length-append (symbol_of s) (drop m file),
        length-drop at file,
        length-drop m file,
        symbol-on seen at s m e,
      )

  pub tail-bound : (k : ℕ) (seen : List Symbol) (at : ℕ) → at ≤ length file → length file < at + k
      → tail_from v file n k seen at ≡ tail_from v file n (suc k) seen at
  tail-bound zero seen at h l = absurd (omega arith)
  tail-bound (suc k) seen at h l =
      first (leb (length file) at) refl (starts_symbol v file at) refl (symbol file n seen at) refl
      (λ s m h' l'. tail-bound k (s ∷ seen) m h' l')
    where
      second : (p : Parse Symbol) → symbol file n seen at ≡ p → is_kind v (get_or file at 0) ≡ true
          → ((s : Symbol) (m : ℕ) → m ≤ length file → length file < m + k
          → tail_from v file n k (s ∷ seen) m ≡ tail_from v file n (suc k) (s ∷ seen) m)
          → ◌≡◌ {A = Parse (List Symbol)} (p then λ s next. tail_from v file n k (s ∷ seen) next then λ ss last. got (s ∷ ss) last)
          (p then λ s next. tail_from v file n (suc k) (s ∷ seen) next then λ ss last. got (s ∷ ss) last)
      second (got s m) e i ih =
          ap (λ (p : Parse (List Symbol)). p then λ ss last. got (s ∷ ss) last)
          (ih s m (symbol-on seen at s m e) (omega (arith, symbol-past seen at s m i e)))
      second (refused r) e i ih = refl

      first : (t : Bool) → leb (length file) at ≡ t → (u : Bool) → starts_symbol v file at ≡ u → (p : Parse Symbol)
          → symbol file n seen at ≡ p
          → ((s : Symbol) (m : ℕ) → m ≤ length file → length file < m + k
          → tail_from v file n k (s ∷ seen) m ≡ tail_from v file n (suc k) (s ∷ seen) m)
          → tail_from v file n (suc k) seen at ≡ tail_from v file n (suc (suc k)) seen at
      first true e u i p q ih = rw e
      first false e true i p q ih = rw (e, i) (second (symbol file n seen at) refl (and_left (is_kind v (get_or file at 0)) _ i) ih)
      first false e false i p q ih = rw (e, i)
