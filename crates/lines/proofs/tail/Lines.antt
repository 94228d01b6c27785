-- A symbol line by 1: its parts as the code reads them, and what the answer says of the line.
use Prim.Native.Nat.{ℕ, ◌+◌, ◌<◌, min}
use mathlib.Core.Path.{◌≡◌, refl, sym, ap, ◌∙◌}
use mathlib.Core.Bool.{Bool, true, false, cond}
use mathlib.Core.List.{List}
use Rattle.std.specs.Prelude.{Ok, Err}
use Rattle.plan.specs.declared.Refusal.{Refusal}
use native.Mathlib.Omega.{arith}
use borrow.Author.Tests.{eqb-true}
use lib.Dec.{eqb}
use lib.ListN.{length, get_or}
use Rattle.plan.specs.declared.Refusal.TheVariants.{WrongByte}
use Rattle.plan.specs.Literals.{beyond}
use Rattle.plan.specs.Refusals.{Parse, got, refused, ◌then◌}
use Rattle.plan.specs.Bytes.{number, expect}
use Rattle.plan.specs.Tail.{Symbol, name_at}
use Rattle.plan.specs.Outcome.{cut_number, number_at}
use Rattle.laws.proofs.Reading.Common.{in-file, byte-there, then-got, got-value}
use Rattle.laws.proofs.Reading.Cut.{value-is, wrong-is, only-wrong, err-is, no-ok}
use Rattle.lines.specs.tail.Marks.{symbol_line, entry_of}
use Rattle.lines.proofs.tail.Names.{name_end}
use Rattle.laws.proofs.Pairs.{ok-pair}

-- a byte that is not 0 stands within the file
pub stands-in : (file : List ℕ) (at b : ℕ) → 0 < b → eqb (get_or file at 0) b ≡ true → at < length file
stands-in file at b p e = in-file file at b _ (byte-there file at b p (eqb-true _ _ e))

-- the line's parts, one after the other
module _ (file : List ℕ) (at : ℕ) where
  pub no_number : (r : Refusal) → Err r ≡ number_at file (at + 1) → Err r ≡ cut_number (entry_of (symbol_line file at))
  no_number r e = rw (wrong-is file (at + 1) r e)

  module _ (v space : ℕ) (e : Ok (v, space) ≡ number_at file (at + 1)) where
    pub no-space : eqb (get_or file space 0) 32 ≡ false → Err (WrongByte space) ≡ cut_number (entry_of (symbol_line file at))
    no-space h = rw ((value-is (number file (at + 1)) v space e).1, h)

    module _ (end : ℕ) (h : eqb (get_or file space 0) 32 ≡ true) (n : end ≡ name_end file (space + 1)) where
      pub no_line : eqb (get_or file end 0) 10 ≡ false → Err (WrongByte end) ≡ cut_number (entry_of (symbol_line file at))
      no_line k = rw ((value-is (number file (at + 1)) v space e).1, h, ← n, k)

      pub line-ends : eqb (get_or file end 0) 10 ≡ true → Ok (v, end + 1) ≡ cut_number (entry_of (symbol_line file at))
      line-ends k =
          let q = value-is (number file (at + 1)) v space e in
          rw (q.1, h, ← n, k) (ap (λ (x : ℕ). Ok (x, end + 1)) q.2)

-- the line was read, with this number and end
pub line-value : (p : Parse Symbol) (v next : ℕ) → Ok (v, next) ≡ cut_number (entry_of p)
    → (s : Symbol) × (p ≡ got s next) × (v ≡ min s.entry beyond)
line-value (got s m) v next e =
    let both = ok-pair v (min s.entry beyond) next m e in (s, ap (got s) (sym both.1), both.0)
line-value (refused r) v next e = let z : ◌≡◌ {A = ℕ} 0 1 = cc in absurd (omega arith)

-- what the code holds of a line is its refusal
refused-by : (p : Parse Symbol) (r : Refusal) → Err r ≡ cut_number (entry_of p) → p ≡ refused r
refused-by (got s n) r e = let z : ◌≡◌ {A = ℕ} 0 1 = cc in absurd (omega arith)
refused-by (refused q) r e = let same : q ≡ r = cc in ap refused same

module _ (file : List ℕ) (at : ℕ) where
  pub line-wrong : (r : Refusal) → Err r ≡ cut_number (entry_of (symbol_line file at)) → symbol_line file at ≡ refused r
  line-wrong r e = refused-by (symbol_line file at) r e

  abbrev after : ℕ → ℕ → Parse Symbol
  after entry space =
      expect file 32 space then λ _ next.
      name_at file next then λ name next.
      expect file 10 next then λ _ next.
      got (record { kind = get_or file at 0; entry = entry; name = name }) next

  -- the only refusal of a line by itself is 1
  pub line-only : (r : Refusal) → Err r ≡ cut_number (entry_of (symbol_line file at)) → (place : ℕ) × (r ≡ WrongByte place)
  line-only r e = by_number (number file (at + 1)) refl e
    where
      by_end : (next : ℕ) (s : Symbol) (t : Bool) (p : Parse ℕ) → p ≡ cond t (got 10 (next + 1)) (refused (WrongByte next))
          → Err r ≡ cut_number (entry_of (p then λ _ n. got s n)) → (place : ℕ) × (r ≡ WrongByte place)
      by_end next s true p q e = absurd (no-ok r _ (e ∙ ap (λ (x : Parse ℕ). cut_number (entry_of (x then λ _ n. got s n))) q))
      by_end next s false p q e =
          (next, err-is r (WrongByte next) (e ∙ ap (λ (x : Parse ℕ). cut_number (entry_of (x then λ _ n. got s n))) q))

      by-space : (entry space : ℕ) (t : Bool) → eqb (get_or file space 0) 32 ≡ t → Err r ≡ cut_number (entry_of (after entry space))
          → (place : ℕ) × (r ≡ WrongByte place)
      by-space entry space true q e = by_end _ _ (eqb (get_or file (name_end file (space + 1)) 0) 10) _ refl (rw q at e)
      by-space entry space false q e = (space, err-is r (WrongByte space) (rw q at e))

      by_number : (p : Parse ℕ) → number file (at + 1) ≡ p → Err r ≡ cut_number (entry_of (p then λ entry space. after entry space))
          → (place : ℕ) × (r ≡ WrongByte place)
      by_number (got entry space) q e = by-space entry space (eqb (get_or file space 0) 32) refl e
      by_number (refused s) q e = (at + 1, only-wrong file (at + 1) r (e ∙ ap cut_number (sym q)))

  pub kind-is : (s : Symbol) (m : ℕ) → symbol_line file at ≡ got s m → get_or file at 0 ≡ s.kind
  kind-is s m e =
      let t1 = then-got (number file (at + 1)) _ s m e in
      let t2 = then-got (expect file 32 t1.1) _ s m t1.3 in
      let t4 = then-got (expect file 10 (name_end file t2.1)) _ s m t2.3 in
      ap (λ (x : Symbol). x.kind) (got-value _ s t4.1 m t4.3)
