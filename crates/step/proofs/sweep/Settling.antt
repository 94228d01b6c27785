-- The table after the sweep: each literal's word tells whether it may be 1 in the step, and what stands before these words is as it was.
use Prim.Native.Nat.{ℕ, zero, suc, ◌+◌, ◌*◌, ◌≤◌, ◌<◌}
use mathlib.Core.Path.{◌≡◌, refl, sym, ap, ap₂, ◌∙◌, subst}
use mathlib.Core.List.{List, [], ◌∷◌, map}
use native.Mathlib.Nat.{not-suc-le-zero}
use native.Mathlib.Omega.{arith}
use lib.ListN.{length, get_or, take, length-append}
use lib.Seq.{get_or-take}
use Rattle.plan.specs.declared.Counts.{Counts}
use Rattle.plan.specs.Literals.{var_of, sign_of}
use Rattle.plan.specs.Circuit.{Gate, Circuit, Tables, circuit_of}
use Rattle.plan.specs.Step.{Value, v0, signed_value, lit, values_of}
use Rattle.plan.specs.Outcome.{put}
use Rattle.laws.proofs.Put.{put-over}
use Rattle.laws.proofs.Reading.Runs.{BinaryOrder, order-exactly}
use Rattle.laws.proofs.Tables.{gate_at, gates_at, gates-rows, length-firsts}
use Rattle.laws.proofs.Running.Binary.{Binary, inner}
use Rattle.laws.proofs.Running.InOrder.{order-binary}
use Rattle.laws.proofs.Running.Upward.{given}
use Rattle.laws.proofs.Running.Sweep.{sweep, at, length-sweep, sweep-step}
use Rattle.tables.specs.Held.{Scratch}
use Rattle.step.specs.values.Words.{may1, word, words, told, Coded, values_at}
use Rattle.step.proofs.values.Codes.{told-words}
use Rattle.step.proofs.values.Parts.{front-stays}
use Rattle.step.specs.sweep.Lookup.{lit_words, Spreads, spread, Sweeps, swept}
use Rattle.step.specs.sweep.Running.{Runs, Stands, lits_of}
use Rattle.step.proofs.sweep.NotAnd.{is-coded}
use Rattle.step.proofs.sweep.Spreading.{Spread, literal-word}

word_at : (l : List Value) (v : ℕ) → v < length l → get_or (words l) v 0 ≡ word (get_or l v v0)
word_at [] v h = absurd (not-suc-le-zero h)
word_at (a ∷ l) zero h = refl
word_at (a ∷ l) (suc v) h = word_at l v (omega arith)

module _ {n : Counts} {x : Tables} (r : Runs n x) where
  abbrev c : Circuit
  c = circuit_of n x

  in_order : BinaryOrder c
  in_order = (order-exactly c).0 r.order

  abbrev leaves : ℕ
  leaves = 1 + n.I + n.L

  all-leaves : inner c ≡ leaves
  all-leaves = ap (λ (m : Counts). 1 + m.I + m.L) r.counts

  all-variables : leaves + n.A ≡ n.M + 1
  all-variables =
      let i = ap (λ (m : Counts). m.I) r.counts in
      let l = ap (λ (m : Counts). m.L) r.counts in
      let a = ap (λ (m : Counts). m.A) r.counts in
      omega (arith, in_order.sum, i, l, a)

  gates-binary : Binary leaves (gates_at x.gates n.A)
  gates-binary =
      subst (λ (k : ℕ). Binary k (gates_at x.gates n.A)) all-leaves
      (subst (λ (gs : List Gate). Binary (inner c) gs) (gates-rows x.gates n.A) (order-binary (inner c) c.gates in_order.gates))

  module _ {s i : List Value} {t : List ℕ} (room : Scratch n t) (b : Stands n s i t) where
    pub literals-long : lits_of n + 2 * (n.M + 1) ≤ length t
    literals-long = omega (arith, room, r.fits.sum)

    given-length : length (given s i) ≡ leaves
    given-length = omega (arith, length-append i s, b.state-length, b.inputs-length)

    leaf-coded : (v : ℕ) → v < leaves → Coded (get_or t v 0)
    leaf-coded v h =
        is-coded (get_or (given s i) v v0) (get_or t v 0)
        (sym (get_or-take leaves t v 0 h)
        ∙ (ap (λ (l : List ℕ). get_or l v 0) b.leaves ∙ word_at (given s i) v (omega (arith, given-length))))

    pub spreads : Spreads leaves (lits_of n) t
    spreads = record {
      before = omega (arith, r.fits.sum);
      table-long = omega (arith, literals-long, r.fits.sum);
      coded = leaf-coded;
    }

    -- t1: with the leaves' values at their literals
    module _ {t1 : List ℕ} (same : length t1 ≡ length t) (e : t1 ≡ spread leaves (lits_of n) t) where
      front-one : (p : ℕ) → p ≤ lits_of n → take p t1 ≡ take p t
      front-one p h =
          ap (take p) e ∙ front-stays t (lits_of n) (lit_words (values_at t 0 leaves)) (omega (arith, literals-long)) p h

      leaves-stay : values_at t1 0 leaves ≡ values_at t 0 leaves
      leaves-stay = ap (map told) (front-one leaves (omega (arith, r.fits.sum)))

      pub sweeps : Sweeps x.gates n.A leaves (lits_of n) t1
      sweeps = record {
        few = omega (arith, r.fits.most-M, r.fits.sum);
        gates-long = r.fits.gates-long;
        table-long = omega (arith, literals-long, same, all-variables);
        ordered = gates-binary;
        there = sym (ap₂ (λ (y : List ℕ) (l : List Value). put y (lits_of n) (lit_words l)) e leaves-stay
            ∙ (put-over t (lits_of n) w w (omega (arith, literals-long)) (omega arith) ∙ sym e));
      }
        where
          w : List ℕ
          w = lit_words (values_at t 0 leaves)

      -- t2: after the sweep
      module _ {t2 : List ℕ} (same2 : length t2 ≡ length t1) (e2 : t2 ≡ swept x.gates n.A leaves (lits_of n) t1) where
        abbrev settled : List Value
        settled = sweep (given s i) (gates_at x.gates n.A)

        settled-there : Spread (lits_of n) settled t1 t2
        settled-there = record {
          same = same2;
          put-there = e2 ∙ ap (λ (l : List Value). put t1 (lits_of n) (lit_words (sweep l (gates_at x.gates n.A))))
              (leaves-stay ∙ (ap (map told) b.leaves ∙ told-words (given s i)));
        }

        settled-length : length settled ≡ n.M + 1
        settled-length =
            length-sweep (given s i) (gates_at x.gates n.A)
            ∙ omega (arith, given-length, length-firsts (gate_at x.gates) n.A, all-variables)

        settled-value : (v : ℕ) → at settled v ≡ values_of c s i v
        settled-value v =
            ap (λ (gs : List Gate). at (sweep (given s i) gs) v) (sym (gates-rows x.gates n.A))
            ∙ sweep-step c in_order s i (b.state-length ∙ sym (ap (λ (m : Counts). m.L) r.counts))
            (b.inputs-length ∙ sym (ap (λ (m : Counts). m.I) r.counts)) v

        pub settled-word : (l : ℕ) → var_of l ≤ n.M → get_or t2 (lits_of n + l) 0 ≡ may1 (lit (values_of c s i) l)
        settled-word l h =
            literal-word settled-there (omega (arith, literals-long, same)) l (omega (arith, settled-length))
            ∙ ap (λ (a : Value). may1 (signed_value (sign_of l) a)) (settled-value (var_of l))

        pub settled-front : (p : ℕ) → p ≤ lits_of n → take p t2 ≡ take p t
        settled-front p h =
            ap (take p) settled-there.put-there
            ∙ (front-stays t1 (lits_of n) (lit_words settled) (omega (arith, literals-long, same)) p h ∙ front-one p h)
