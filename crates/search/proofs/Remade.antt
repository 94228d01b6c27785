-- A circuit and what it converts, reduces and drops to: the search gives the same answer, and the two are alike.
use Prim.Native.Nat.{ℕ, zero, suc, ◌^◌, ◌≤◌, ◌<◌}
use mathlib.Core.Path.{◌≡◌, refl, sym, ap, ap₂, ◌∙◌, fun_ext}
use mathlib.Core.Bool.{Bool, true, false, not, ◌&&◌, ◌||◌}
use mathlib.Core.List.{List, [], ◌∷◌, map}
use native.Mathlib.Omega.{arith}
use borrow.Author.Tests.{eq-eqb}
use lib.ListN.{length, get_or, length-map}
use Rattle.plan.specs.Circuit.{Circuit, rows_of}
use Rattle.plan.specs.Reading.{WellFormed}
use Rattle.plan.specs.Binary.{binary_order}
use Rattle.plan.specs.Convert.{convert}
use Rattle.plan.specs.Reduce.{reduced, latch_becomes, reduce}
use Rattle.plan.specs.Drop.{latch_renumbered, left, used, drop_unused}
use Rattle.plan.specs.Step.{Value, code_of, value_of, lit, values_of, constraints_of, next_of, Step, step_of, run, first_state, any1, all1}
use Rattle.plan.specs.Fillings.{filling, start_of}
use Rattle.plan.specs.Search.{bits, as_number, System, fill_both, x_both, up_to, system_of, search_all, watching, watched, can_happen}
use Rattle.plan.specs.Product.{same_all, differ, Alike}
use Rattle.laws.proofs.Reading.Runs.{length-lits}
use Rattle.laws.proofs.Running.WithoutX.{NoX, NoXs, lits-nox}
use Rattle.laws.proofs.Running.Accepted.{Accepted, accepted}
use Rattle.laws.proofs.Running.Converted.{latches-convert}
use Rattle.laws.proofs.Running.EachStep.{convert-step, reduce-step}
use Rattle.laws.proofs.Running.Results.{convert-well-formed, convert-in-order, reduce-well-formed, reduce-in-order}
use Rattle.laws.proofs.Running.Resets.{first-convert, first-length}
use Rattle.laws.proofs.Running.Runs.{Sized, next-length}
use Rattle.laws.proofs.Walks.Dropped.{drop-step}
use Rattle.laws.proofs.Walks.DemandThree.{after}
use Rattle.laws.proofs.Writing.Stepping.{all_codes_lem}
use Rattle.laws.proofs.Fillings.Numbering.{fill-length, fill-fills}
use Rattle.laws.proofs.Fillings.Question.{fills-two-valued}
use Rattle.search.proofs.Vectors.{bits-nox, bits-length}
use Rattle.search.proofs.Witnesses.{rows-sized}
use Rattle.search.proofs.Products.{codes-nox, rows-nox}

-- two circuits that start alike and whose steps are the same without x
pub record SameSteps (c d : Circuit) : Type 0 where
  pub inputs : length d.inputs ≡ length c.inputs
  pub latches : length d.latches ≡ length c.latches
  pub start : start_of d ≡ start_of c
  pub steps : (s i : List Value) → length s ≡ length c.latches → length i ≡ length c.inputs → NoX s → NoX i → step_of d s i ≡ step_of c s i

pub same_then : (c d e : Circuit) → SameSteps c d → SameSteps d e → SameSteps c e
same_then c d e p q = record {
  inputs = q.inputs ∙ p.inputs;
  latches = q.latches ∙ p.latches;
  start = q.start ∙ p.start;
  steps = λ s i ls li ns ni. q.steps s i (ls ∙ sym p.latches) (li ∙ sym p.inputs) ns ni ∙ p.steps s i ls li ns ni;
}

pub convert-same : (c : Circuit) → WellFormed c → SameSteps c (convert c)
convert-same c w = record {
  inputs = length-lits 1 (length c.inputs);
  latches = latches-convert c;
  start = ap (map code_of) (first-convert c);
  steps = λ s i ls li ns ni. convert-step c w s i ls li;
}

module _ (c : Circuit) (w : WellFormed c) (t : binary_order c ≡ true) where
  pub reduction-same : SameSteps c (reduce c)
  reduction-same = record {
    inputs = refl;
    latches = length-map c.latches (latch_becomes (reduced c).became);
    start = refl;
    steps = λ s i ls li ns ni. sym ((reduce-step c w s i ls li t).4 ns ni);
  }

  pub dropping-same : SameSteps c (drop_unused c)
  dropping-same = record {
    inputs = refl;
    latches = length-map c.latches (latch_renumbered (left (used c)));
    start = refl;
    steps = λ s i ls li ns ni. drop-step c w t s i ls li;
  }

-- all three, one after the other
pub after_same : (c : Circuit) → WellFormed c → SameSteps c (after c)
after_same c w =
    let w1 = convert-well-formed c w in
    let t1 = convert-in-order c w in
    let d = reduce (convert c) in
    same_then c (convert c) (after c) (convert-same c w)
    (same_then (convert c) d (after c) (reduction-same (convert c) w1 t1)
    (dropping-same d (reduce-well-formed (convert c) w1 t1) (reduce-in-order (convert c) w1 t1)))

one_at : (w v : ℕ → Value) (ls ms : List ℕ) → map (lit w) ms ≡ map (lit v) ls → length ms ≡ length ls → (k : ℕ) → k < length ls
    → lit w (get_or ms k 0) ≡ lit v (get_or ls k 0)
one_at w v [] ms e h k q = absurd (omega arith)
one_at w v (l ∷ ls) [] e h k q = absurd (omega arith)
one_at w v (l ∷ ls) (m ∷ ms) e h zero q = head (lit w m) (lit v l) (map (lit w) ms) (map (lit v) ls) e
  where
    head : (x y : Value) (xs ys : List Value) → x ∷ xs ≡ y ∷ ys → x ≡ y
    head x y xs ys p = cc
one_at w v (l ∷ ls) (m ∷ ms) e h (suc k) q = one_at w v ls ms (tail (lit w m) (lit v l) (map (lit w) ms) (map (lit v) ls) e) (omega arith) k (omega arith)
  where
    tail : (x y : Value) (xs ys : List Value) → x ∷ xs ≡ y ∷ ys → xs ≡ ys
    tail x y xs ys p = cc

module _ (c d : Circuit) (same-steps : SameSteps c d) where
  -- literals that have the same values, watched
  module _ (ls ms : List ℕ)
      (alike : (s i : List Value) → length s ≡ length c.latches → length i ≡ length c.inputs → NoX s → NoX i
      → map (lit (values_of d s i)) ms ≡ map (lit (values_of c s i)) ls) where
    here : (s : ℕ) → length (bits (length c.latches) s) ≡ length c.latches
    here s = bits-length (length c.latches) s

    now : (m : ℕ) → length (bits (length c.inputs) m) ≡ length c.inputs
    now m = bits-length (length c.inputs) m

    one : (s m : ℕ) → step_of d (bits (length c.latches) s) (bits (length c.inputs) m) ≡ step_of c (bits (length c.latches) s) (bits (length
        c.inputs) m)
    one s m =
        same-steps.steps (bits (length c.latches) s) (bits (length c.inputs) m) (here s) (now m) (bits-nox (length c.latches) s)
        (bits-nox (length c.inputs) m)

    allows : (s m : ℕ) → all1 (constraints_of d (bits (length d.latches) s) (bits (length d.inputs) m))
        ≡ all1 (constraints_of c (bits (length c.latches) s) (bits (length c.inputs) m))
    allows s m =
        ap₂ (λ (p q : ℕ). all1 (constraints_of d (bits p s) (bits q m))) same-steps.latches same-steps.inputs
        ∙ ap (λ (x : Step). all1 x.constraints) (one s m)

    shows : (s m : ℕ) → (any1 (map (lit (values_of d (bits (length d.latches) s) (bits (length d.inputs) m))) ms) || false)
        ≡ (any1 (map (lit (values_of c (bits (length c.latches) s) (bits (length c.inputs) m))) ls) || false)
    shows s m =
        ap₂ (λ (p q : ℕ). any1 (map (lit (values_of d (bits p s) (bits q m))) ms) || false) same-steps.latches same-steps.inputs
        ∙ ap (λ (x : List Value). any1 x || false)
        (alike (bits (length c.latches) s) (bits (length c.inputs) m) (here s) (now m) (bits-nox (length c.latches) s)
        (bits-nox (length c.inputs) m))

    next : (s m : ℕ) → as_number (next_of d (bits (length d.latches) s) (bits (length d.inputs) m))
        ≡ as_number (next_of c (bits (length c.latches) s) (bits (length c.inputs) m))
    next s m =
        ap₂ (λ (p q : ℕ). as_number (next_of d (bits p s) (bits q m))) same-steps.latches same-steps.inputs
        ∙ ap (λ (x : Step). as_number x.next) (one s m)

    pub system-same : (split : ℕ) → system_of split (watching ms d) ≡ system_of split (watching ls c)
    system-same split =
        let starts = ap (λ (l : List ℕ). up_to (λ k. as_number (map value_of (fill_both split k l))) 0 (2 ^ x_both split l)) same-steps.start in
        let moves = ap (λ (n : ℕ). 2 ^ n) same-steps.inputs in
        let al = fun_ext (λ s. fun_ext (λ m. allows s m)) in
        let sh = fun_ext (λ s. fun_ext (λ m. shows s m)) in
        let nx = fun_ext (λ s. fun_ext (λ m. next s m)) in
        λ j. record { starts = starts j; moves = moves j; allows = al j; shows = sh j; next = nx j }

  -- the same answer, whatever is watched: found or never, with the same list and the same counts
  pub same_answer : (split watch allowance : ℕ) → watch ≤ length c.outputs → length d.outputs ≡ length c.outputs
      → can_happen split (watched watch d) allowance ≡ can_happen split (watched watch c) allowance
  same_answer split zero a h o =
      ap (λ (y : System). search_all y a)
      (system-same c.bads d.bads (λ s i ls li ns ni. ap (λ (x : Step). x.bads) (same-steps.steps s i ls li ns ni)) split)
  same_answer split (suc k) a h o =
      ap (λ (y : System). search_all y a)
      (system-same (get_or c.outputs k 0 ∷ []) (get_or d.outputs k 0 ∷ [])
      (λ s i ls li ns ni. ap (λ (x : Value). x ∷ [])
      (one_at (values_of d s i) (values_of c s i) c.outputs d.outputs (ap (λ (x : Step). x.outputs) (same-steps.steps s i ls li ns ni)) o k h)) split)

  -- the same runs, without x
  module _ (ok : Accepted c) where
    run-same : (is : List (List Value)) → Sized (length c.inputs) is → NoXs is → (s : List Value) → length s ≡ length c.latches → NoX s
        → run d s is ≡ run c s is
    run-same [] z x s h n = refl
    run-same (i ∷ is) z x s h n =
        let one = same-steps.steps s i h z.0 n x.0 in
        let next : next_of d s i ≡ next_of c s i = ap (λ (x : Step). x.next) one in
        let rest : run d (next_of d s i) is ≡ run c (next_of c s i) is
        = ap (λ (x : List Value). run d x is) next
        ∙ run-same is z.1 x.1 (next_of c s i) (next-length c s i) (lits-nox c ok s i h z.0 n x.0 (Rattle.plan.specs.Circuit.nexts c.latches) ok.used-next) in
        ap₂ (λ (x : Step) (y : List Step). x ∷ y) one rest

same_self : (xs : List Value) → same_all xs xs ≡ true
same_self [] = refl
same_self (x ∷ xs) = ap₂ (λ (p q : Bool). p && q) (eq-eqb (code_of x) (code_of x) refl) (same_self xs)

differ_self : (ss : List Step) → differ ss ss ≡ false
differ_self [] = refl
differ_self (s ∷ ss) =
    ap₂ (λ (p q : Bool). (all1 s.constraints && all1 s.constraints) && (not p || q)) (same_self s.outputs) (differ_self ss)
    ∙ none (all1 s.constraints && all1 s.constraints)
  where
    none : (p : Bool) → (p && false) ≡ false
    none true = refl
    none false = refl

-- a circuit and one with the same steps are alike
pub same_alike : (c d : Circuit) → WellFormed c → SameSteps c d → Alike c d
same_alike c d w e k number bytes z q x =
    let s = map value_of (filling k (start_of c)) in
    let is = map (map value_of) (rows_of (length c.inputs) number bytes) in
    ap₂ (λ (l : List ℕ) (n : ℕ). differ (run c s is) (run d (map value_of (filling k l)) (map (map value_of) (rows_of n number bytes)))) e.start e.inputs
    ∙ ap (differ (run c s is))
    (run-same c d e (accepted c w) is (rows-sized (length c.inputs) number bytes z) (rows-nox (length c.inputs) number bytes (codes-nox bytes q x)) s
    (length-map (filling k (start_of c)) value_of ∙ fill-length k 0 (start_of c) ∙ length-map (first_state c) code_of ∙ first-length c w)
    (fills-two-valued (start_of c) (filling k (start_of c)) (all_codes_lem (first_state c)) (fill-fills k 0 (start_of c))))
    ∙ differ_self (run c s is)

-- with itself, and with what it converts, reduces and drops to
pub alike-itself : (c : Circuit) → WellFormed c → Alike c c
alike-itself c w = same_alike c c w (record { inputs = refl; latches = refl; start = refl; steps = λ s i ls li ns ni. refl })

pub alike-converted : (c : Circuit) → WellFormed c → Alike c (convert c)
alike-converted c w = same_alike c (convert c) w (convert-same c w)

pub alike-reduced : (c : Circuit) → WellFormed c → binary_order c ≡ true → Alike c (reduce c)
alike-reduced c w t = same_alike c (reduce c) w (reduction-same c w t)

pub alike-dropped : (c : Circuit) → WellFormed c → binary_order c ≡ true → Alike c (drop_unused c)
alike-dropped c w t = same_alike c (drop_unused c) w (dropping-same c w t)

pub alike-after : (c : Circuit) → WellFormed c → Alike c (after c)
alike-after c w = same_alike c (after c) w (after_same c w)
