-- 19 over given tables, and the writer's answer by the checks before it.
use Prim.Native.Nat.{ℕ, ◌+◌, ◌-◌, ◌^◌, ◌≤◌, min}
use mathlib.Core.Path.{◌≡◌, refl, sym, ap, ap₂, ◌∙◌}
use mathlib.Core.Bool.{Bool, true, false, ◌&&◌}
use mathlib.Core.List.{List, [], ◌∷◌, ◌++◌}
use Rattle.std.specs.Prelude.{Ok, Err, Option, Some, None}
use native.Mathlib.Omega.{arith}
use borrow.Author.Tests.{eq-eqb, ne_eqb, leb-true, leb-false}
use lib.Dec.{eqb, leb}
use lib.ListN.{length, take, length-append}
use Rattle.std.specs.List.{list_all}
use Rattle.plan.specs.declared.Counts.{Counts}
use Rattle.plan.specs.declared.Refusal.{Refusal}
use Rattle.plan.specs.declared.Refusal.TheVariants.{NotOnCards, ShortBuffer}
use Rattle.plan.specs.Refusals.{first_of, stage}
use Rattle.plan.specs.Circuit.{counts_of}
use Rattle.plan.specs.Given.{Given, given_circuit, failing, lent_alone, stages, order_stage, tail_stage, room_stage}
use Rattle.plan.specs.Outcome.{WriteExit, put, put_bytes}
use Rattle.laws.proofs.Put.{with-room, without-room}
use Rattle.laws.proofs.Writing.Nothing.{both_first, some_first, one-stage}
use Rattle.laws.proofs.Writing.Fine.{counts-held}
use Rattle.tables.specs.Held.{Fits}
use Rattle.write.specs.Judged.{writer_stages}
use Rattle.plan.specs.Cards.{all_zero, holdable, head_card, cards_of, card_bytes, card_stage}
use Rattle.cards.specs.Within.{Within}
use Rattle.cards.specs.put.Parts.{latch_cards, output_cards, gates_cards, table_cards, Cardable}
use Rattle.cards.proofs.put.Putting.{latches-size, outputs-size, gates-size}
use Rattle.cards.specs.writing.Held.{holdable_in}

-- whether all words are 0, test by test
pub zeros-tested : (l : List ℕ) → list_all (λ (w : ℕ). eqb w 0) l ≡ all_zero l
zeros-tested [] = refl
zeros-tested (w ∷ ws) = ap (λ (b : Bool). eqb w 0 && b) (zeros-tested ws)

-- what cards can hold, test by test
module _ (n : Counts) (resets tail : List ℕ) where
  pub has-tail : (length tail ≡ 0 → ⊥) → false ≡ holdable_in n resets tail
  has-tail h = sym (ap (λ (b : Bool). b && (all_zero (take n.L resets) && (eqb n.B 0 && eqb n.C 0))) (ne_eqb _ _ h))

  module _ (t : length tail ≡ 0) where
    no-tail : holdable_in n resets tail ≡ (all_zero (take n.L resets) && (eqb n.B 0 && eqb n.C 0))
    no-tail = ap (λ (b : Bool). b && (all_zero (take n.L resets) && (eqb n.B 0 && eqb n.C 0))) (eq-eqb _ _ t)

    pub has-reset : (b : Bool) → b ≡ all_zero (take n.L resets) → b ≡ false → false ≡ holdable_in n resets tail
    has-reset b e f = sym (no-tail ∙ ap (λ (x : Bool). x && (eqb n.B 0 && eqb n.C 0)) (sym e ∙ f))

    module _ (b : Bool) (e : b ≡ all_zero (take n.L resets)) (f : b ≡ true) where
      no-reset : holdable_in n resets tail ≡ (eqb n.B 0 && eqb n.C 0)
      no-reset = no-tail ∙ ap (λ (x : Bool). x && (eqb n.B 0 && eqb n.C 0)) (sym e ∙ f)

      pub has-bad : (n.B ≡ 0 → ⊥) → false ≡ holdable_in n resets tail
      has-bad h = sym (no-reset ∙ ap (λ (x : Bool). x && eqb n.C 0) (ne_eqb _ _ h))

      pub constraints-decide : n.B ≡ 0 → eqb n.C 0 ≡ holdable_in n resets tail
      constraints-decide h = sym (no-reset ∙ ap (λ (x : Bool). x && eqb n.C 0) (eq-eqb _ _ h))

-- given tables that are long enough hold as many bad states and constraints as the counts say
module _ (g : Given) (f : Fits g.counts g.tables.inputs g.tables.latches g.tables.outputs g.tables.gates g.tables.resets
    g.tables.bads g.tables.constraints) where
  pub held-counts : counts_of (given_circuit g) ≡ g.counts
  held-counts = counts-held g f.inputs_long f.outputs-long f.bads-long f.constraints-long

  pub held_same : (tail : List ℕ) → (eqb (length tail) 0 && holdable (given_circuit g)) ≡ holdable_in g.counts g.tables.resets tail
  held_same tail =
      ap₂ (λ (b k : ℕ). eqb (length tail) 0 && (all_zero (take g.counts.L g.tables.resets) && (eqb b 0 && eqb k 0)))
      (ap (λ (m : Counts). m.B) held-counts) (ap (λ (m : Counts). m.C) held-counts)

  pub cards-same : table_cards g.counts g.tables.latches g.tables.outputs g.tables.gates ≡ cards_of (given_circuit g)
  cards-same =
      let n = g.counts in
      let t = g.tables in
      ap (λ (m : Counts). head_card m ++ (latch_cards n.L t.latches ++ (output_cards n.O t.outputs ++ gates_cards n.A t.gates)))
      (sym held-counts)

  pub cardable : Cardable g.counts g.tables.latches g.tables.outputs g.tables.gates
  cardable = record {
    most-M = f.most-M;
    most-I = omega (arith, f.sum, f.most-M);
    most-L = omega (arith, f.sum, f.most-M);
    most-O = f.most-O;
    most-A = omega (arith, f.sum, f.most-M);
    latches-long = f.latches-long;
    outputs-long = f.outputs-long;
    gates-long = f.gates-long;
  }

-- the stages after the others: 19, then 11
module _ (g : Given) (tail out bytes : List ℕ) where
  abbrev before : List (Option Refusal)
  before = writer_stages true g tail

  abbrev pub last : List (Option Refusal)
  last = card_stage g tail ∷ room_stage out bytes ∷ []

  pub refused-first : (r : Refusal) → first_of (writer_stages true g tail) ≡ Some r
      → first_of (stages g (lent_alone g) ++ (order_stage g ∷ tail_stage g tail ∷ card_stage g tail ∷ room_stage out bytes ∷ [])) ≡ Some r
  refused-first r e = some_first r before last e

  pub at-nineteen : first_of (writer_stages true g tail) ≡ None → (eqb (length tail) 0 && holdable (given_circuit g)) ≡ false
      → first_of (stages g (lent_alone g) ++ (order_stage g ∷ tail_stage g tail ∷ card_stage g tail ∷ room_stage out bytes ∷ [])) ≡ Some (NotOnCards 0)
  at-nineteen e h = both_first before last e ∙ ap (λ (b : Bool). first_of (stage NotOnCards (failing b) ∷ room_stage out bytes ∷ [])) h

  pub past-nineteen : first_of (writer_stages true g tail) ≡ None → (eqb (length tail) 0 && holdable (given_circuit g)) ≡ true
      → first_of (stages g (lent_alone g) ++ (order_stage g ∷ tail_stage g tail ∷ card_stage g tail ∷ room_stage out bytes ∷ [])) ≡ room_stage out bytes
  past-nineteen e h =
      both_first before last e
      ∙ (ap (λ (b : Bool). first_of (stage NotOnCards (failing b) ∷ room_stage out bytes ∷ [])) h ∙ one-stage (room_stage out bytes))

-- counts within the limits, in 32 bits
pub within : {n : Counts} {latches outputs gates : List ℕ} → Cardable n latches outputs gates → Within n
within k = record {
  small-M = omega (arith, k.most-M);
  small-I = omega (arith, k.most-I);
  small-L = omega (arith, k.most-L);
  small-O = omega (arith, k.most-O);
  small-A = omega (arith, k.most-A);
}

-- how many bytes the cards of tables have
module _ (n : Counts) (latches outputs gates : List ℕ) (k : Cardable n latches outputs gates) where
  pub table-size : length (table_cards n latches outputs gates) ≡ card_bytes n
  table-size =
      let lats = latch_cards n.L latches in
      let outs = output_cards n.O outputs in
      let gs = gates_cards n.A gates in
      omega (
        arith,
        length-append (head_card n) (lats ++ (outs ++ gs)),
        length-append lats (outs ++ gs),
        length-append outs gs,
        latches-size latches n.L,
        outputs-size outputs n.O k.outputs-long,
        gates-size gates n.A,
      )

  pub no_room : (out : List ℕ) (size : ℕ) → size ≡ card_bytes n → (b : Bool) → b ≡ leb (0 + size) (length out) → b ≡ false
      → ◌≡◌ {A = WriteExit} (record { answer = Err (ShortBuffer size); out = out }) (put_bytes out 0 (table_cards n latches outputs gates))
  no_room out size s b e f =
      let short = leb-false (0 + size) (length out) (sym e ∙ f) in
      without-room out 0 (table_cards n latches outputs gates) size (omega (arith, table-size))
      (let small : size ≡ min (0 + length (table_cards n latches outputs gates)) (2 ^ 64 - 1)
      = omega (arith, table-size, k.most-L, k.most-O, k.most-A) in small)

  pub enough : (out : List ℕ) (size : ℕ) → size ≡ card_bytes n → (b : Bool) → b ≡ leb (0 + size) (length out) → b ≡ true → card_bytes n ≤ length out
  enough out size s b e f = omega (arith, leb-true (0 + size) (length out) (sym e ∙ f))

  pub with-cards : (out out' : List ℕ) (r : ℕ) → card_bytes n ≤ length out → r ≡ card_bytes n → out' ≡ put out 0 (table_cards n latches outputs gates)
      → ◌≡◌ {A = WriteExit} (record { answer = Ok r; out = out' }) (put_bytes out 0 (table_cards n latches outputs gates))
  with-cards out out' r h e p =
      with-room out 0 (table_cards n latches outputs gates) r out' (omega (arith, table-size)) (omega (arith, table-size)) p
