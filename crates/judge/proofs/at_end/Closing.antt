-- What the checks before 7 leave: used variables are in the marks, the leaves can be numbered, the gates ordered; and what is answered.
use Prim.Native.Nat.{ℕ, zero, ◌+◌, ◌-◌, ◌*◌, ◌<◌, ◌≤◌}
use mathlib.Core.Path.{◌≡◌, refl, sym, ap, ◌∙◌, subst}
use mathlib.Core.Bool.{true, false}
use mathlib.Core.List.{List, [], ◌∷◌, ◌++◌, map}
use Rattle.std.specs.Prelude.{Result, Ok, Err, Option, Some, None}
use native.Mathlib.Omega.{arith}
use lib.ListN.{length, get_or, take, drop, length-take, length-drop}
use lib.Seq.{get_or-take}
use Rattle.plan.specs.declared.Counts.{Counts}
use Rattle.plan.specs.declared.Refusal.{Refusal}
use Rattle.plan.specs.declared.Refusal.TheVariants.{NotDefined, Cyclic}
use Rattle.plan.specs.Literals.{var_of}
use Rattle.plan.specs.Refusals.{stage, first_of}
use Rattle.plan.specs.Circuit.{Circuit, one_line, latch_line, left_vars, rights, defined_in, used_in, all_inside, leaves}
use Rattle.plan.specs.Depends.{undefined_in, cyclic_in}
use Rattle.plan.specs.Outcome.{checked_by}
use Rattle.laws.proofs.Marks.{Agrees, agrees-same}
use Rattle.laws.proofs.Ranges.{first-var, second-var, inside-at}
use Rattle.laws.proofs.Reading.Members.{distinct}
use Rattle.laws.proofs.Reading.Undefined.{all-defined}
use Rattle.laws.proofs.Running.Accepted.{all_once, rights-in}
use Rattle.laws.proofs.Running.Found.{AllG}
use Rattle.laws.proofs.Running.Lists.{all_in, distinct-left}
use Rattle.laws.proofs.Tables.{gate_at, gates-rows, latch_at, latches-rows, words_take}
use Rattle.judge.specs.order.Numbers.{InTable, InRange}
use Rattle.judge.specs.order.Waiting.{Room, Known, Fresh, Blank}
use Rattle.judge.proofs.order.Spaces.{all-places, words-enough, gates-inside}
use Rattle.judge.proofs.order.Settling.{small-words}
use Rattle.judge.specs.used.Reach.{WordsUpTo, InReach}
use Rattle.judge.specs.at_end.Leaves.{leaves_of, Leaves, Numbered}
use Rattle.tables.specs.Held.{circuit_in}
use Rattle.judge.specs.at_end.Read.{closing, Read}
use Rattle.judge.proofs.at_end.Leaving.{leaves-count}

module _ {n : Counts} {inputs latches outputs gates bads constraints scratch : List ℕ} {base : ℕ}
    (p : Read n inputs latches outputs gates bads constraints scratch base) where
  abbrev c : Circuit
  c = circuit_in n inputs latches outputs gates [] bads constraints

  -- 7: the used literals at their places, and the marks
  next_up : (i : ℕ) → i < n.L → var_of (get_or latches (2 * i + 1) 0) ≤ n.M
  next_up i h =
      second-var true n.M (get_or latches (2 * i) 0) (get_or latches (2 * i + 1) 0) []
      (inside-at latch_line true n.M (latch_at latches) n.L (rw (← latches-rows latches n.L) p.latches-inside) i h)

  words_up : (t : List ℕ) (k : ℕ) → k ≤ length t → all_inside false n.M (map one_line (take k t)) ≡ true → WordsUpTo n.M t k
  words_up t k long e i h =
      first-var false n.M (get_or t i 0) []
      (inside-at one_line false n.M (λ j. get_or t j 0) k
      (subst (λ (ls : List ℕ). all_inside false n.M (map one_line ls) ≡ true) (words_take t k long) e) i h)

  gates-in : AllG (InTable (n.M + 1)) c.gates
  gates-in = gates-inside n.M c.gates p.gates-inside

  gate-up : InRange (n.M + 1) gates n.A
  gate-up =
      all-places (InTable (n.M + 1)) (gate_at gates) n.A (subst (AllG (InTable (n.M + 1))) (gates-rows gates n.A) gates-in)

  first-up : (i : ℕ) → i < n.A → var_of (get_or gates (3 * i + 1) 0) ≤ n.M
  first-up i h = omega (arith, (gate-up i h).1)

  second-up : (i : ℕ) → i < n.A → var_of (get_or gates (3 * i + 2) 0) ≤ n.M
  second-up i h = omega (arith, (gate-up i h).2)

  part-long : n.M < length (take (length scratch - base) (drop base scratch))
  part-long = omega (arith, p.marks-long, length-take (length scratch - base) (drop base scratch), length-drop base scratch)

  pub in_reach : InReach n latches outputs gates bads constraints (take (length scratch - base) (drop base scratch))
  in_reach = record {
    most-M = p.most-M;
    latches-long = p.latches-long;
    gates-long = p.gates-long;
    nexts-up = next_up;
    firsts-up = first-up;
    seconds-up = second-up;
    observed = record {
      marks-long = part-long;
      outputs-long = p.outputs-long;
      bads-long = p.bads-long;
      constraints-long = p.constraints-long;
      outputs-up = words_up outputs n.O p.outputs-long p.outputs-inside;
      bads-up = words_up bads n.B p.bads-long p.bads-inside;
      constraints-up = words_up constraints n.C p.constraints-long p.constraints-inside;
    };
  }

  pub part-marked : Agrees n.M (defined_in c) (take (length scratch - base) (drop base scratch))
  part-marked =
      agrees-same n.M (defined_in c) (drop base scratch) (take (length scratch - base) (drop base scratch))
      (λ v h. get_or-take (length scratch - base) (drop base scratch) v 0 (omega (arith, p.marks-long))) p.marked

  -- 8: leaves and gates are all different, and what gates use is among them
  pub once : distinct (leaves c ++ left_vars c.gates) ≡ true
  once = all_once c p.inputs-inside p.latches-inside p.gates-inside p.different

  pub used : None ≡ undefined_in c → all_in (rights c.gates) (leaves c ++ left_vars c.gates) ≡ true
  used e = rights-in c (all-defined (zero ∷ defined_in c) (used_in c) (sym e))

  pub leaves-ask : (t : List ℕ) → length t ≡ length scratch → ((v : ℕ) → get_or t v 0 ≡ 0) → Leaves n inputs latches t
  leaves-ask t same blank = record {
    most-M = p.most-M;
    sum = omega (arith, p.sum);
    inputs_long = p.inputs_long;
    latches-long = p.latches-long;
    table-long = omega (arith, p.scratch-long, same);
    inputs-inside = p.inputs-inside;
    latches-inside = p.latches-inside;
    different = distinct-left (leaves c) (left_vars c.gates) once;
    blank = λ v h. blank v;
  }

  -- a table with the leaves' numbers is one to order the gates in
  module _ (t : List ℕ) (same : length t ≡ length scratch) (l : Leaves n inputs latches t) (u : List ℕ) (kept : length u ≡ length t)
      (done : Numbered n inputs latches t u) where
    pub room : Room gates u (n.M + 1) n.A
    room = record {
      gates-long = p.gates-long;
      table-long = omega (arith, words-enough n.M n.A (omega (arith, p.sum)) (omega (arith, p.sum, p.most-M)), p.scratch-long, same, kept);
      small = omega (arith, p.sum, p.most-M);
      inside = gates-in;
    }

    pub fresh : Fresh u (n.M + 1)
    fresh =
        small-words (leaves_of n inputs latches) u (n.M + 1) (omega (arith, p.scratch-long, same, kept))
        (omega (arith, leaves-count l, p.sum, p.most-M)) done.numbers

    pub blank-rest : ((v : ℕ) → get_or t v 0 ≡ 0) → Blank u (n.M + 1)
    blank-rest blank q h = done.rest q (omega arith) ∙ blank q

    pub known : None ≡ undefined_in c → Known gates u (n.M + 1) n.A
    known e = record { lv = leaves_of n inputs latches; numbers = done.numbers; starts = refl; once = once; used = used e }

-- what is answered: 7 if it is found, else what 8 gives
pub by-missing : (c : Circuit) (v : ℕ) → Some v ≡ undefined_in c → Err (NotDefined v) ≡ checked_by (closing c)
by-missing c v e = ap (λ (o : Option ℕ). checked_by (first_of (stage NotDefined o ∷ stage Cyclic (cyclic_in c) ∷ []))) e

pub by-cycle : (c : Circuit) (r : Result Unit Refusal) → None ≡ undefined_in c → r ≡ checked_by (stage Cyclic (cyclic_in c)) → r ≡ checked_by (closing c)
by-cycle c r e q =
    q ∙ (ap checked_by (last (stage Cyclic (cyclic_in c)))
    ∙ ap (λ (o : Option ℕ). checked_by (first_of (stage NotDefined o ∷ stage Cyclic (cyclic_in c) ∷ []))) e)
  where
    last : (o : Option Refusal) → o ≡ first_of (o ∷ [])
    last None = refl
    last (Some x) = refl

pub not_good : {A : Type 0} (r : Refusal) → ◌≡◌ {A = Result Unit Refusal} (Err r) (Ok tt) → A
not_good r e = let z : ◌≡◌ {A = ℕ} 0 1 = cc in absurd (omega arith)
