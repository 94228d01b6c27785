-- Three lists in a row: the first that is refused, or all of them; and a body that goes on after them.
use Prim.Native.Nat.{ℕ}
use mathlib.Core.Path.{◌≡◌, refl, sym, ap, ◌∙◌, subst}
use mathlib.Core.Bool.{false}
use mathlib.Core.List.{List, [], map}
use Rattle.std.specs.Prelude.{Result, Ok, Err}
use Rattle.plan.specs.declared.Counts.{Counts}
use Rattle.plan.specs.declared.Refusal.{Refusal}
use Rattle.plan.specs.Refusals.{Parse, got, refused, ◌then◌}
use Rattle.plan.specs.Circuit.{literal_of}
use Rattle.plan.specs.Bytes.{lines}
use Rattle.plan.specs.Outcome.{put}
use Rattle.laws.proofs.Marks.{Agrees}
use Rattle.laws.proofs.Reading.Lines.{lines-took}
use Rattle.laws.proofs.Reading.Rows.{rows_long, flat-one}
use Rattle.laws.proofs.Reading.Using.{lines-using}
use Rattle.lines.specs.Rows.{LinesSay}
use Rattle.lines.specs.outputs.Observed.{Observed, observed_at, ObservedSay}
use Rattle.lines.proofs.outputs.Answers.{Read, Answered, was_read, was-refused}

-- a list of literals from the start of its table, and the marks that agree with what is seen
pub record ListHeld (m : ℕ) (seen table table' marks' : List ℕ) (rows : List (List ℕ)) : Type 0 where
  pub held : table' ≡ put table 0 (map literal_of rows)
  pub agrees : Agrees m seen marks'

-- lines that define nothing
pub list-told : (file : List ℕ) (m n at : ℕ) (seen table : List ℕ) (r : Result ℕ Refusal) (table' marks' : List ℕ)
    → LinesSay false m seen table (lines file 1 false m n seen at) r table' marks'
    → Answered (ListHeld m seen table table' marks') (lines file 1 false m n [] at) r
list-told file m n at seen table r table' marks' says =
    go (lines file 1 false m n [] at) refl
    (subst (λ (p : Parse (List (List ℕ))). LinesSay false m seen table p r table' marks') (lines-using file 1 m n seen [] at) says)
  where
    go : (p : Parse (List (List ℕ))) → lines file 1 false m n [] at ≡ p → LinesSay false m seen table p r table' marks'
        → Answered (ListHeld m seen table table' marks') p r
    go (got rows next) e h =
        let took = lines-took file 1 false m n [] at rows next e in
        (h.0, record { held = h.1 ∙ ap (put table 0) (flat-one rows (rows_long 1 false m [] rows took.2)); agrees = h.2 })
    go (refused q) e h = h

module _ (file : List ℕ) (n : Counts) (at : ℕ) (seen a b c : List ℕ) (r : Result ℕ Refusal) (a' b' c' marks' : List ℕ) where
  abbrev Says : Type 0
  Says = ObservedSay n.M seen a b c (observed_at file n at) r a' b' c' marks'

  says-refused : (q : Refusal) → observed_at file n at ≡ refused q → r ≡ Err q → Says
  says-refused q e told = subst (λ (p : Parse Observed). ObservedSay n.M seen a b c p r a' b' c' marks') (sym e) told

  pub outputs-refused : {q : Refusal} → lines file 1 false n.M n.O [] at ≡ refused q → r ≡ Err q → Says
  outputs-refused {q} stop e = says-refused q (rw stop) e

  -- the outputs are read
  module _ {m₁ : List ℕ} {p₁ : ℕ} (r₁ : Read (ListHeld n.M seen a a' m₁) (lines file 1 false n.M n.O [] at) p₁) where
    pub bads-refused : {q : Refusal} → lines file 1 false n.M n.B [] p₁ ≡ refused q → r ≡ Err q → Says
    bads-refused {q} stop e = says-refused q (rw (r₁.whole, stop)) e

    -- the bad states are read
    module _ {m₂ : List ℕ} {p₂ : ℕ} (r₂ : Read (ListHeld n.M seen b b' m₂) (lines file 1 false n.M n.B [] p₁) p₂) where
      all_read : {next : ℕ} → Read (ListHeld n.M seen c c' marks') (lines file 1 false n.M n.C [] p₂) next → r ≡ Ok next → Says
      all_read {next} r₃ e =
          let made : Observed = record {
            outputs = map literal_of r₁.value;
            bads = map literal_of r₂.value;
            constraints = map literal_of r₃.value;
          } in
          let whole : observed_at file n at ≡ got made next = rw (r₁.whole, r₂.whole, r₃.whole) in
          subst (λ (p : Parse Observed). ObservedSay n.M seen a b c p r a' b' c' marks') (sym whole)
          (e, r₁.held.held, r₂.held.held, r₃.held.held, r₃.held.agrees)

      pub constraints-last : Answered (ListHeld n.M seen c c' marks') (lines file 1 false n.M n.C [] p₂) r → Says
      constraints-last h = go r refl
        where
          go : (x : Result ℕ Refusal) → r ≡ x → Says
          go (Err q) e =
              let stop = was-refused (ListHeld n.M seen c c' marks') (lines file 1 false n.M n.C [] p₂) r q h e in
              says-refused q (rw (r₁.whole, r₂.whole, stop)) e
          go (Ok next) e =
              all_read (was_read (ListHeld n.M seen c c' marks') (lines file 1 false n.M n.C [] p₂) r next h e) e

-- the same, held
pub record AllHeld (m : ℕ) (seen a b c a' b' c' marks' : List ℕ) (o : Observed) : Type 0 where
  pub outputs : a' ≡ put a 0 o.outputs
  pub bads : b' ≡ put b 0 o.bads
  pub constraints : c' ≡ put c 0 o.constraints
  pub agrees : Agrees m seen marks'

pub observed-told : (m : ℕ) (seen a b c : List ℕ) (p : Parse Observed) (r : Result ℕ Refusal) (a' b' c' marks' : List ℕ)
    → ObservedSay m seen a b c p r a' b' c' marks' → Answered (AllHeld m seen a b c a' b' c' marks') p r
observed-told m seen a b c (got o next) r a' b' c' marks' h = (h.0, record { outputs = h.1; bads = h.2; constraints = h.3; agrees = h.4 })
observed-told m seen a b c (refused q) r a' b' c' marks' h = h

-- a body whose three lists follow one another
pub regroup : {A : Type 0} (file : List ℕ) (n : Counts) (at : ℕ) (k : List ℕ → List ℕ → List ℕ → ℕ → Parse A)
    → (lines file 1 false n.M n.O [] at then λ outs at.
    lines file 1 false n.M n.B [] at then λ bads at.
    lines file 1 false n.M n.C [] at then λ cons at.
    k (map literal_of outs) (map literal_of bads) (map literal_of cons) at)
    ≡ (observed_at file n at then λ o at. k o.outputs o.bads o.constraints at)
regroup {A} file n at k = first (lines file 1 false n.M n.O [] at)
  where
    third : (outs bads : List (List ℕ)) (p : Parse (List (List ℕ)))
        → (p then λ cons at. k (map literal_of outs) (map literal_of bads) (map literal_of cons) at)
        ≡ ((p then λ cons at. got (record { outputs = map literal_of outs; bads = map literal_of bads; constraints = map literal_of cons }) at)
        then λ (o : Observed) at. k o.outputs o.bads o.constraints at)
    third outs bads (got cons at) = refl
    third outs bads (refused q) = refl

    second : (outs : List (List ℕ)) (p : Parse (List (List ℕ)))
        → (p then λ bads at. lines file 1 false n.M n.C [] at then λ cons at.
        k (map literal_of outs) (map literal_of bads) (map literal_of cons) at)
        ≡ ((p then λ bads at. lines file 1 false n.M n.C [] at then λ cons at.
        got (record { outputs = map literal_of outs; bads = map literal_of bads; constraints = map literal_of cons }) at)
        then λ (o : Observed) at. k o.outputs o.bads o.constraints at)
    second outs (got bads at) = third outs bads (lines file 1 false n.M n.C [] at)
    second outs (refused q) = refl

    first : (p : Parse (List (List ℕ)))
        → (p then λ outs at. lines file 1 false n.M n.B [] at then λ bads at. lines file 1 false n.M n.C [] at then λ cons at.
        k (map literal_of outs) (map literal_of bads) (map literal_of cons) at)
        ≡ ((p then λ outs at. lines file 1 false n.M n.B [] at then λ bads at. lines file 1 false n.M n.C [] at then λ cons at.
        got (record { outputs = map literal_of outs; bads = map literal_of bads; constraints = map literal_of cons }) at)
        then λ (o : Observed) at. k o.outputs o.bads o.constraints at)
    first (got outs at) = second outs (lines file 1 false n.M n.B [] at)
    first (refused q) = refl
