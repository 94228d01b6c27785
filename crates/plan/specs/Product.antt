-- Do two plans always do the same? Two circuits as one: shared inputs, latches of one after those of the other, and one bad state: some output
-- differs.
use Rattle.std.specs.Prelude.{ℕ, suc, ◌+◌, ◌*◌, ◌≡◌, Bool, true, false, not, cond, ◌&&◌, ◌||◌, List, [], ◌∷◌, ◌++◌, map, eqb, ltb, length, Ok, Err, Option, Some, None}
use Rattle.plan.specs.declared.Refusal.{Refusal}
use Rattle.plan.specs.declared.Refusal.TheVariants.{LargeCount, ShortTable, NotAlike}
use Rattle.plan.specs.Literals.{lit_of, var_of, sign_of, neg_of}
use Rattle.plan.specs.Refusals.{stage, first_of}
use Rattle.plan.specs.Circuit.{Gate, Circuit, Tables, counts_of, nexts, words_with, against, least_short, lengths_of, holding, all_cleared, cleared}
use Rattle.plan.specs.Header.{list_of, over}
use Rattle.plan.specs.Binary.{lits_from, latches_from}
use Rattle.plan.specs.Given.{Given, given_circuit, counted, or_else, failing_at, in_order_then}
use Rattle.plan.specs.Convert.{gate_for}
use Rattle.plan.specs.Step.{Value, value_of, same, Step, run, vectors_of, all1}
use Rattle.plan.specs.Outcome.{all_codes, MakeExit}
use Rattle.plan.specs.Fillings.{x_count, filling, start_of}

-- two runs differ in an output at some step, every constraint of both being 1 there and at all steps before
abbrev pub same_all : List Value → List Value → Bool
same_all [] [] = true
same_all [] (y ∷ ys) = false
same_all (x ∷ xs) [] = false
same_all (x ∷ xs) (y ∷ ys) = same x y && same_all xs ys

abbrev pub differ : List Step → List Step → Bool
differ [] ts = false
differ (s ∷ ss) [] = false
differ (s ∷ ss) (t ∷ ts) =
    (all1 s.constraints && all1 t.constraints) && (not (same_all s.outputs t.outputs) || differ ss ts)

-- alike, and no search enters into it: from the same filling of both starts, where the k-th x of one has the value of the k-th x of the other,
-- every list without x gives the same outputs at every step, while the constraints of both are 1
abbrev pub Alike : Circuit → Circuit → Type 0
Alike a b = (k number : ℕ) (bytes : List ℕ) → length bytes ≡ number * length a.inputs → all_codes bytes ≡ true → x_count bytes ≡ 0
    → differ (run a (map value_of (filling k (start_of a))) (vectors_of a number bytes))
    (run b (map value_of (filling k (start_of b))) (vectors_of b number bytes)) ≡ false

-- a variable of a circuit in binary order with i inputs and l latches, its latches moved up by j and its gates by k
abbrev pub moved : ℕ → ℕ → ℕ → ℕ → ℕ → ℕ
moved i l j k v = cond (ltb v (1 + i)) v (cond (ltb v (1 + i + l)) (v + j) (v + k))

abbrev pub move_lit : ℕ → ℕ → ℕ → ℕ → ℕ → ℕ
move_lit i l j k a = lit_of (moved i l j k (var_of a)) + sign_of a

abbrev pub move_gate : ℕ → ℕ → ℕ → ℕ → Gate → Gate
move_gate i l j k g = record { lhs = move_lit i l j k g.lhs; rhs0 = move_lit i l j k g.rhs0; rhs1 = move_lit i l j k g.rhs1 }

-- the literals of one circuit where a second follows it, and of a second that follows a first
abbrev pub as_first : Circuit → Circuit → ℕ → ℕ
as_first a b = move_lit (length a.inputs) (length a.latches) 0 (length b.latches)

abbrev pub as_second : Circuit → Circuit → ℕ → ℕ
as_second a b = move_lit (length b.inputs) (length b.latches) (length a.latches) (length a.latches + length a.gates)

-- gates from variable v on that compare literals pair by pair: the first without the second, the second without the first, neither, and
-- that with all before, which `alike` is
abbrev pub compare : ℕ → ℕ → List ℕ → List ℕ → List Gate
compare v alike [] qs = []
compare v alike (p ∷ ps) [] = []
compare v alike (p ∷ ps) (q ∷ qs) =
    gate_for v p (neg_of q) ∷ gate_for (suc v) (neg_of p) q ∷ gate_for (suc (suc v)) (neg_of (lit_of v)) (neg_of (lit_of (suc v)))
    ∷ gate_for (suc (suc (suc v))) (lit_of (suc (suc v))) alike
    ∷ compare (suc (suc (suc (suc v)))) (lit_of (suc (suc (suc v)))) ps qs

abbrev pub alike_lit : ℕ → ℕ → List ℕ → List ℕ → ℕ
alike_lit v alike [] qs = alike
alike_lit v alike (p ∷ ps) [] = alike
alike_lit v alike (p ∷ ps) (q ∷ qs) = alike_lit (suc (suc (suc (suc v)))) (lit_of (suc (suc (suc v)))) ps qs

-- the first variable after those of both
abbrev pub after_both : Circuit → Circuit → ℕ
after_both a b =
    1 + length a.inputs + (length a.latches + length b.latches) + (length a.gates + length b.gates)

abbrev pub gates_of_both : Circuit → Circuit → List Gate
gates_of_both a b =
    map (move_gate (length a.inputs) (length a.latches) 0 (length b.latches)) a.gates
    ++ (map (move_gate (length b.inputs) (length b.latches) (length a.latches) (length a.latches + length a.gates)) b.gates
    ++ compare (after_both a b) 1 (map (as_first a b) a.outputs) (map (as_second a b) b.outputs))

abbrev pub product : Circuit → Circuit → Circuit
product a b = record {
  M = length a.inputs + (length a.latches + length b.latches) + length (gates_of_both a b);
  inputs = lits_from 1 (length a.inputs);
  latches = latches_from (1 + length a.inputs) (map (as_first a b) (nexts a.latches) ++ map (as_second a b) (nexts b.latches));
  resets = map (as_first a b) a.resets ++ map (as_second a b) b.resets;
  outputs = [];
  bads = neg_of (alike_lit (after_both a b) 1 (map (as_first a b) a.outputs) (map (as_second a b) b.outputs)) ∷ [];
  constraints = map (as_first a b) a.constraints ++ map (as_second a b) b.constraints;
  gates = gates_of_both a b;
}

-- the call: two circuits, which are lent the same scratch, and tables for their product
pub record ProductEntry : Type 0 where
  pub first : Given
  pub second : Given
  pub written : Tables

abbrev pub product_of : ProductEntry → Circuit
product_of e = product (given_circuit e.first) (given_circuit e.second)

-- all refusals of the first, then of the second; 27, at 1 for different numbers of inputs and at 3 of outputs; 2 for the product's counts; 4 for
-- the written tables, where table 5 is not needed
abbrev pub product_stages : ProductEntry → List (Option Refusal)
product_stages e =
    let n = e.first.counts in
    let m = e.second.counts in
    let made = counts_of (product_of e) in
    in_order_then e.first (in_order_then e.second
    (stage NotAlike (or_else (failing_at 1 (eqb n.I m.I)) (failing_at 3 (eqb n.O m.O)))
    ∷ stage LargeCount (over (counted 1 (list_of made)))
    ∷ stage ShortTable (least_short (against 1 (words_with 0 made) (lengths_of e.written e.first.scratch)))
    ∷ []))

abbrev pub paired_by : Option Refusal → ProductEntry → MakeExit
paired_by None e = record {
  answer = Ok (counts_of (product_of e));
  written = holding e.written (product_of e);
  scratch = cleared e.first.scratch;
}
paired_by (Some r) e = record { answer = Err r; written = all_cleared e.written; scratch = cleared e.first.scratch }

abbrev pub pairing : ProductEntry → MakeExit
pairing e = paired_by (first_of (product_stages e)) e
