-- An output after a step: its word, its literal, and what is asked to explain it.
use Prim.Native.Nat.{ℕ, zero, suc, ◌+◌, ◌<◌}
use mathlib.Core.Path.{◌≡◌, refl, sym, ap, ◌∙◌}
use mathlib.Core.Bool.{true, false}
use mathlib.Core.List.{List, [], ◌∷◌, map}
use native.Mathlib.Omega.{arith}
use native.Mathlib.Nat.{not-suc-le-zero}
use lib.ListN.{length, get_or, drop, replicate, length-map, length-replicate}
use lib.Seq.{get_or-take, get_or-drop, length-take-le}
use Rattle.plan.specs.declared.Counts.{Counts}
use Rattle.plan.specs.Literals.{var_of, in_range}
use Rattle.plan.specs.Circuit.{Tables, circuit_of, gate_line, inside}
use Rattle.plan.specs.Step.{Value, v0, v1, vx, lit, values_of}
use Rattle.laws.proofs.Reading.Common.{and_right}
use Rattle.laws.proofs.Ranges.{first-var, second-var, inside-at}
use Rattle.laws.proofs.Tables.{gate_at, gates-rows}
use Rattle.step.specs.values.Words.{word, words}
use Rattle.step.specs.sweep.Running.{Runs}
use Rattle.step.proofs.sweep.Literals.{literal-up}
use Rattle.step.specs.Asked as stepping
use Rattle.drop.specs.Marks.{Below}
use Rattle.plan.specs.Explain.{places, marks_for}
use Rattle.laws.proofs.Explaining.Marked.{length-places}
use Rattle.explain.specs.Asked.{Settled, Vectors}

-- a step's vectors, with outputs that are not looked at
pub with-outputs : {n : Counts} {state ins : List ℕ} → Vectors n state ins → stepping.Vectors n state ins (replicate n.O 0)
with-outputs {n = n} v = record {
  state-length = v.state-length;
  inputs-length = v.inputs-length;
  outputs-length = length-replicate n.O 0;
}

-- words back to values
pub x-word : (a : Value) → word a ≡ 3 → a ≡ vx
x-word v0 e = absurd (omega arith)
x-word v1 e = absurd (omega arith)
x-word vx e = refl

words-at : (f : ℕ → Value) (ls : List ℕ) (k : ℕ) → k < length ls → get_or (words (map f ls)) k 0 ≡ word (f (get_or ls k 0))
words-at f [] k h = absurd (not-suc-le-zero h)
words-at f (l ∷ ls) zero h = refl
words-at f (l ∷ ls) (suc k) h = words-at f ls k (omega arith)

module _ {n : Counts} {x : Tables} (r : Runs n x) where
  -- the words of gates' variables
  gates-inside : (k : ℕ) → k < n.A → inside true n.M (gate_line (gate_at x.gates k)) ≡ true
  gates-inside k h = inside-at gate_line true n.M (gate_at x.gates) n.A (rw (← gates-rows x.gates n.A) r.formed.gates) k h

  pub gates-below : (k : ℕ) → k < n.A → Below (n.M + 1) (gate_at x.gates k)
  gates-below k h =
      let g = gate_at x.gates k in
      let p = gates-inside k h in
      let rest = and_right (in_range true n.M g.lhs) (inside false n.M (g.rhs0 ∷ g.rhs1 ∷ [])) p in
      record {
        lhs = omega (arith, first-var true n.M g.lhs (g.rhs0 ∷ g.rhs1 ∷ []) p);
        rhs0 = omega (arith, second-var true n.M g.lhs g.rhs0 (g.rhs1 ∷ []) p);
        rhs1 = omega (arith, second-var false n.M g.rhs0 g.rhs1 [] rest);
      }

  module _ (k : ℕ) (low : k < n.O) where
    -- its literal
    pub literal-is : get_or (circuit_of n x).outputs k 0 ≡ get_or x.outputs k 0
    literal-is = get_or-take n.O x.outputs k 0 low

    pub literal-low : var_of (get_or x.outputs k 0) < n.M + 1
    literal-low = omega (arith, literal-up n.M x.outputs n.O r.fits.outputs-long r.formed.outputs k low)

    -- its word after a step
    pub output-word : {s i : List Value} {t : List ℕ} → Settled n (circuit_of n x) s i t
        → get_or t (n.M + 1 + k) 0 ≡ word (lit (values_of (circuit_of n x) s i) (get_or (circuit_of n x).outputs k 0))
    output-word {s = s} {i = i} {t = t} p =
        sym (get_or-take n.O (drop (n.M + 1) t) k 0 low ∙ get_or-drop (n.M + 1) t k 0)
        ∙ ap (λ (l : List ℕ). get_or l k 0) p.outputs
        ∙ words-at (lit (values_of (circuit_of n x) s i)) (circuit_of n x).outputs k
        (omega (arith, length-take-le n.O x.outputs r.fits.outputs-long))

  -- one mark for each place
  pub marks-long : (s i : List Value) (l : ℕ) → length (marks_for (circuit_of n x) s i l) ≡ n.L + n.I
  marks-long s i l =
      length-map (places (circuit_of n x)) _ ∙ length-places (circuit_of n x)
      ∙ ap (λ (c : Counts). c.L + c.I) r.counts
