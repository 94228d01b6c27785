-- Lists around a step of all rows: what is asked, what is stored, and the outcome.
use Prim.Native.Nat.{ℕ, suc, ◌+◌, ◌*◌, ◌≤◌, ◌<◌}
use mathlib.Core.Path.{◌≡◌, refl, sym, ap, ap₂, ◌∙◌}
use mathlib.Core.Bool.{Bool, true, false, cond, ◌&&◌}
use mathlib.Core.List.{List, [], ◌∷◌}
use Rattle.std.specs.Prelude.{Ok, Err, Option, Some, None}
use native.Mathlib.Nat.{mul_comm, mul-le-mul_right}
use native.Mathlib.Numerals.{add-one}
use native.Mathlib.Omega.{arith}
use borrow.Author.Tests.{eqb-true, eq-eqb, ne_eqb, le-leb, lt-leb}
use lib.Bits.{bit_or, or_zero_r, or_add_and, and_le_l}
use lib.Dec.{eqb}
use lib.ListN.{length, get_or, drop}
use lib.Seq.{drop-cons}
use Rattle.plan.specs.declared.Counts.{Counts}
use Rattle.plan.specs.declared.Refusal.{Refusal}
use Rattle.plan.specs.declared.Refusal.TheVariants.{BadVector, LongInput}
use Rattle.plan.specs.Refusals.{first_of}
use Rattle.plan.specs.Circuit.{cleared}
use Rattle.plan.specs.Given.{given_circuit}
use Rattle.plan.specs.Step.{is_code}
use Rattle.plan.specs.Outcome.{all_codes}
use Rattle.laws.proofs.Reading.Common.{and_left}
use Rattle.step.proofs.codes.Places.{first_bad}
use Rattle.step.proofs.Checks.{answer}
use Rattle.step.proofs.sweep.Literals.{output-up, next_up}
use Rattle.plan.specs.Rows.{RowsEntry, RowsExit, row_vectors, row_stage, stepped_rows, step_rows}
use Rattle.rows.specs.lanes.Working.{these, Ready, Shows}
use Rattle.rows.specs.Asked.{Room, Lists, Leaves}

and-true : (t : Bool) → (t && true) ≡ t
and-true true = refl
and-true false = refl

and-false : (t : Bool) → (t && false) ≡ false
and-false true = refl
and-false false = refl

and_assoc : (a b c : Bool) → ((a && b) && c) ≡ (a && (b && c))
and_assoc true b c = refl
and_assoc false b c = refl

-- a whole list
abbrev pub whole_in : List ℕ → ℕ → ℕ → Bool
whole_in bytes rows i = eqb (length bytes) (rows * i) && all_codes bytes

pub whole-not : (bytes : List ℕ) (rows i : ℕ) → (length bytes ≡ rows * i → ⊥) → false ≡ whole_in bytes rows i
whole-not bytes rows i h = sym (ap (λ (t : Bool). t && all_codes bytes) (ne_eqb _ _ h))

pub whole_is : (bytes : List ℕ) (rows i : ℕ) → length bytes ≡ rows * i → all_codes bytes ≡ whole_in bytes rows i
whole_is bytes rows i h = sym (ap (λ (t : Bool). t && all_codes bytes) (eq-eqb _ _ h))

-- the bytes that are left to look at, where none was wrong before
or-wrong : (w : ℕ) (t : Bool) → eqb (bit_or w (cond t 0 1)) 0 ≡ (eqb w 0 && t)
or-wrong w true = ap (λ (k : ℕ). eqb k 0) (or_zero_r w) ∙ sym (and-true (eqb w 0))
or-wrong w false =
    ne_eqb (bit_or w 1) 0 (λ e. omega (arith, or_add_and w 1, and_le_l w 1, e)) ∙ sym (and-false (eqb w 0))

pub left-more : (bytes : List ℕ) (i w v : ℕ) → i < length bytes → all_codes bytes ≡ (eqb w 0 && all_codes (drop i bytes))
    → v ≡ cond (is_code (get_or bytes i 0)) 0 1
    → all_codes bytes ≡ (eqb (bit_or w v) 0 && all_codes (drop (i + 1) bytes))
left-more bytes i w v h e ev =
    e ∙ (ap (λ (l : List ℕ). eqb w 0 && all_codes l) (drop-cons bytes i 0 h)
    ∙ (sym (and_assoc (eqb w 0) (is_code (get_or bytes i 0)) (all_codes (drop (suc i) bytes)))
    ∙ ap₂ (λ (t : Bool) (k : ℕ). t && all_codes (drop k bytes))
    (sym (ap (λ (x : ℕ). eqb (bit_or w x) 0) ev ∙ or-wrong w (is_code (get_or bytes i 0)))) (sym (add-one i))))

-- a product of a row's bytes fits
pub product_small : (rows n : ℕ) → rows ≤ 64 → n ≤ 1048575 → rows * n < 18446744073709551616
product_small rows n h k = omega (arith, mul-le-mul_right n h)

module _ {n : Counts} {latches outputs gates resets scratch : List ℕ} (b : Room n latches outputs gates resets scratch)
    {rows : ℕ} {nexts ins outs : List ℕ} (l : Lists n rows nexts ins outs) where
  pub ready : Ready n gates resets ins rows scratch
  ready = record {
    others = these b.others latches outputs gates resets;
    runs = b.runs;
    scratch = b.scratch-long;
    most = l.most;
    whole = omega (arith, l.ins-length, mul_comm rows n.I);
  }

  pub shows-nexts : (t : List ℕ) → length t ≡ length scratch → Shows latches 1 2 n.L t
  shows-nexts t same = record {
    start-in = omega arith;
    literals-long = b.runs.fits.latches-long;
    inside = λ j h. omega (arith, next_up b.runs j h, b.scratch-long);
  }

  pub shows-outputs : (t : List ℕ) → length t ≡ length scratch → Shows outputs 0 1 n.O t
  shows-outputs t same = record {
    start-in = omega arith;
    literals-long = omega (arith, b.runs.fits.outputs-long);
    inside = λ j h. omega (arith, output-up b.runs j h, b.scratch-long);
  }

  pub nexts-room : length nexts ≡ n.L * rows
  nexts-room = l.nexts-length ∙ mul_comm rows n.L

  pub outs-room : length outs ≡ n.O * rows
  outs-room = l.outs-length ∙ mul_comm rows n.O

-- no list is refused
all-good : (s i o : Bool) → first_bad s i o ≡ None → (s ≡ true) × (i ≡ true) × (o ≡ true)
all-good true true true e = (refl, refl, refl)
all-good true true false e = let z : ◌≡◌ {A = ℕ} 0 1 = cc in absurd (omega arith)
all-good true false o e = let z : ◌≡◌ {A = ℕ} 0 1 = cc in absurd (omega arith)
all-good false i o e = let z : ◌≡◌ {A = ℕ} 0 1 = cc in absurd (omega arith)

module _ (e : RowsEntry) where
  abbrev pub bad : Option ℕ
  bad = row_vectors e

  pub good-lists : e.rows ≤ 64 → bad ≡ None → Lists e.circuit.counts e.rows e.nexts e.inputs e.outputs
  good-lists most q =
      let n = e.circuit.counts in
      let p = all-good (eqb (length e.nexts) (e.rows * n.L)) (eqb (length e.inputs) (e.rows * n.I) && all_codes e.inputs)
      (eqb (length e.outputs) (e.rows * n.O)) q in
      record {
        most = most;
        ins-length = eqb-true _ _ (and_left (eqb (length e.inputs) (e.rows * n.I)) (all_codes e.inputs) p.1);
        nexts-length = eqb-true _ _ p.0;
        outs-length = eqb-true _ _ p.2;
      }

  -- 13, then 12
  pub too_many : 64 < e.rows → row_stage e ≡ Some (LongInput 64)
  too_many h = simp (lt-leb _ _ h)

  pub few-bad : (k : ℕ) → e.rows ≤ 64 → bad ≡ Some k → row_stage e ≡ Some (BadVector k)
  few-bad k h q = simp (le-leb _ _ h, q)

  pub few-good : e.rows ≤ 64 → bad ≡ None → row_stage e ≡ None
  few-good h q = simp (le-leb _ _ h, q)

  module _ (t : List ℕ) (blank : t ≡ cleared e.circuit.scratch) where
    pub refused-rows : (r : Refusal) → answer e.circuit (row_stage e) ≡ Some r
        → ◌≡◌ {A = RowsExit} (record { answer = Err r; scratch = t; nexts = e.nexts; outputs = e.outputs }) (step_rows e)
    refused-rows r q =
        (λ j. record { answer = Err r; scratch = blank j; nexts = e.nexts; outputs = e.outputs })
        ∙ sym (ap (λ (o : Option Refusal). stepped_rows o e) q)

    -- the tables are good
    module _ (past : answer e.circuit (row_stage e) ≡ first_of (row_stage e ∷ [])) where
      pub refused-late : (r : Refusal) → row_stage e ≡ Some r
          → ◌≡◌ {A = RowsExit} (record { answer = Err r; scratch = t; nexts = e.nexts; outputs = e.outputs }) (step_rows e)
      refused-late r q = refused-rows r (past ∙ ap (λ (o : Option Refusal). first_of (o ∷ [])) q)

      pub done-rows : row_stage e ≡ None → (nexts' outs' : List ℕ) → Leaves (given_circuit e.circuit) e.rows e.inputs nexts' outs'
          → ◌≡◌ {A = RowsExit} (record { answer = Ok tt; scratch = t; nexts = nexts'; outputs = outs' }) (step_rows e)
      done-rows q nexts' outs' l =
          (λ j. record { answer = Ok tt; scratch = blank j; nexts = l.next j; outputs = l.outputs j })
          ∙ sym (ap (λ (o : Option Refusal). stepped_rows o e) (past ∙ ap (λ (o : Option Refusal). first_of (o ∷ [])) q))
