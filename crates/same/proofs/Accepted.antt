-- Of accepted circuits a renaming need not be said to be one-to-one: under entries that agree it is, on all variables that are
-- defined, and only there it matters.
use Prim.Native.Nat.{ℕ, zero}
use mathlib.Core.Path.{◌≡◌, refl, sym, ap, ◌∙◌, subst}
use mathlib.Core.Bool.{true, false≢true}
use mathlib.Core.List.{List, [], ◌∷◌, ◌++◌, map}
use Rattle.plan.specs.Literals.{var_of, is_reset}
use Rattle.plan.specs.Circuit.{Gate, Latch, Circuit, vars, current_vars, left_vars, nexts, rights, has, resets_ok, leaves}
use Rattle.plan.specs.Reading.{WellFormed}
use Rattle.plan.specs.Convert.{convert}
use Rattle.laws.proofs.Reading.Common.{and_left, and_right}
use Rattle.laws.proofs.Reading.Members.{has-self, has-later, has-cases, distinct}
use Rattle.laws.proofs.Running.Lists.{has_left, has_right, distinct_head, distinct_tail, all_in, in_head, in_tail}
use Rattle.laws.proofs.Running.Accepted.{accepted}
use Rattle.laws.proofs.Running.Resets.{by-reset}
use Rattle.same.specs.Agreement.{Agree}
use Rattle.same.proofs.Entries.{All}
use Rattle.same.proofs.Named.{KnownLiteral, KnownLatch, KnownGate, Known}
use Rattle.same.proofs.Leaves.{defined-renamed}
use Rattle.same.proofs.Converted.{converted}
use Rattle.same.proofs.Circuits.{Any, any-known}

-- different under their other numbers
module _ (rename : ℕ → ℕ) where
  has-map : (v : ℕ) (xs : List ℕ) → has v xs ≡ true → has (rename v) (map rename xs) ≡ true
  has-map v [] h = absurd (false≢true h)
  has-map v (x ∷ xs) h =
      has-cases (has (rename v) (map rename (x ∷ xs)) ≡ true) x v xs h
      (λ e. subst (λ (u : ℕ). has (rename u) (map rename (x ∷ xs)) ≡ true) e (has-self (rename x) (map rename xs)))
      (λ k. has-later (rename v) (rename x) (map rename xs) (has-map v xs k))

  clash : (x v : ℕ) (xs : List ℕ) → distinct (map rename (x ∷ xs)) ≡ true → has v xs ≡ true → rename x ≡ rename v → ⊥
  clash x v xs d h e =
      false≢true (sym (distinct_head (rename x) (map rename xs) d)
      ∙ subst (λ (u : ℕ). has u (map rename xs) ≡ true) (sym e) (has-map v xs h))

  different-apart : (xs : List ℕ) → distinct (map rename xs) ≡ true → (u v : ℕ) → has u xs ≡ true → has v xs ≡ true → rename u ≡ rename v → u ≡ v
  different-apart [] d u v h k e = absurd (false≢true h)
  different-apart (x ∷ xs) d u v h k e =
      has-cases (u ≡ v) x u xs h
      (λ p. has-cases (u ≡ v) x v xs k (λ q. sym p ∙ q) (λ r. absurd (clash x v xs d r (ap rename p ∙ e))))
      (λ r. has-cases (u ≡ v) x v xs k (λ q. absurd (clash x u xs d r (ap rename q ∙ sym e)))
      (λ s. different-apart xs (distinct_tail (rename x) (map rename xs) d) u v r s e))

-- the variables of a circuit are among those of a list
module _ (ds : List ℕ) where
  abbrev In : ℕ → Type 0
  In v = has v ds ≡ true

  lits-in : (ls : List ℕ) → all_in ls ds ≡ true → All (KnownLiteral In) ls
  lits-in [] h = tt
  lits-in (l ∷ ls) h = (in_head l ls ds h, lits-in ls (in_tail l ls ds h))

  inputs_in : (ls : List ℕ) → ((v : ℕ) → has v (vars ls) ≡ true → In v) → All (KnownLiteral In) ls
  inputs_in [] f = tt
  inputs_in (l ∷ ls) f = (f (var_of l) (has-self (var_of l) (vars ls)), inputs_in ls (λ v h. f v (has-later v (var_of l) (vars ls) h)))

  latches-in : (ls : List Latch) → ((v : ℕ) → has v (current_vars ls) ≡ true → In v) → all_in (nexts ls) ds ≡ true → All (KnownLatch In) ls
  latches-in [] f h = tt
  latches-in (l ∷ ls) f h = (
    (f (var_of l.current) (has-self (var_of l.current) (current_vars ls)), in_head l.next (nexts ls) ds h),
    latches-in ls (λ v k. f v (has-later v (var_of l.current) (current_vars ls) k)) (in_tail l.next (nexts ls) ds h),
  )

  -- a reset is a constant or the literal of its latch
  resets-in : (ls : List Latch) (rs : List ℕ) → resets_ok ls rs ≡ true → In 0 → ((v : ℕ) → has v (current_vars ls) ≡ true → In v) → All (KnownLiteral In) rs
  resets-in [] [] h z f = tt
  resets-in [] (r ∷ rs) h z f = absurd (false≢true h)
  resets-in (l ∷ ls) [] h z f = absurd (false≢true h)
  resets-in (l ∷ ls) (r ∷ rs) h z f = (
    by-reset l.current r (KnownLiteral In) (and_left (is_reset l.current r) (resets_ok ls rs) h) z z
        (f (var_of l.current) (has-self (var_of l.current) (current_vars ls))),
    resets-in ls rs (and_right (is_reset l.current r) (resets_ok ls rs) h) z (λ v k. f v (has-later v (var_of l.current) (current_vars ls) k)),
  )

  gates-in : (gs : List Gate) → ((v : ℕ) → has v (left_vars gs) ≡ true → In v) → all_in (rights gs) ds ≡ true → All (KnownGate In) gs
  gates-in [] f h = tt
  gates-in (g ∷ gs) f h =
      let later = in_tail g.rhs0 (g.rhs1 ∷ rights gs) ds h in (
        (
          f (var_of g.lhs) (has-self (var_of g.lhs) (left_vars gs)),
          in_head g.rhs0 (g.rhs1 ∷ rights gs) ds h,
          in_head g.rhs1 (rights gs) ds later,
        ),
        gates-in gs (λ v k. f v (has-later v (var_of g.lhs) (left_vars gs) k)) (in_tail g.rhs1 (rights gs) ds later),
      )

-- the constants' variable, and all that is defined
abbrev pub defined_all : Circuit → List ℕ
defined_all c = leaves c ++ left_vars c.gates

known-defined : (c : Circuit) → WellFormed c → Known (In (defined_all c)) c
known-defined c w =
    let a = accepted c w in
    let ins = vars c.inputs in
    let lats = current_vars c.latches in
    let ds = defined_all c in
    let front : (v : ℕ) → has v (ins ++ lats) ≡ true → has v ds ≡ true
    = λ v h. has_left v (leaves c) (left_vars c.gates) (has-later v zero (ins ++ lats) h) in
    record {
      constants = refl;
      inputs = inputs_in ds c.inputs (λ v h. front v (has_left v ins lats h));
      latches = latches-in ds c.latches (λ v h. front v (has_right v ins lats h)) a.used-next;
      resets = resets-in ds c.latches c.resets w.resets refl (λ v h. front v (has_right v ins lats h));
      outputs = lits-in ds c.outputs a.used-output;
      bads = lits-in ds c.bads a.used-bad;
      constraints = lits-in ds c.constraints a.used-constraint;
      gates = gates-in ds c.gates (λ v h. has_right v (leaves c) (left_vars c.gates) h) a.used-gate;
    }

module _ (rename : ℕ → ℕ) (fixed : rename 0 ≡ 0) (c d : Circuit) (agree : Agree rename c d) (wc : WellFormed c) (wd : WellFormed d) where
  pub one-to-one-there : (u v : ℕ) → has u (defined_all c) ≡ true → has v (defined_all c) ≡ true → rename u ≡ rename v → u ≡ v
  one-to-one-there =
      different-apart rename (defined_all c) (ap distinct (defined-renamed rename Any fixed c d (any-known c) agree) ∙ (accepted d wd).once)

  pub accepted-same-conversion : convert c ≡ convert d
  accepted-same-conversion = converted rename (In (defined_all c)) one-to-one-there fixed c d (known-defined c wc) agree
