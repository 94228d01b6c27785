-- One step over words: what each look up asks, and what stands in the table at the end.
use Prim.Native.Nat.{ℕ, ◌+◌, ◌*◌, ◌≤◌, ◌<◌}
use mathlib.Core.Path.{◌≡◌, sym, ap, ap₂, ◌∙◌}
use mathlib.Core.List.{List, [], ◌∷◌, map, map-map}
use native.Mathlib.Omega.{arith}
use lib.ListN.{length, get_or, take, drop, length-map}
use lib.Seq.{take-take}
use Rattle.plan.specs.declared.Counts.{Counts}
use Rattle.plan.specs.Literals.{var_of}
use Rattle.plan.specs.Circuit.{Circuit, Tables, circuit_of}
use Rattle.plan.specs.Step.{Value, v0, lit, values_of, outputs_of, next_of}
use Rattle.plan.specs.Outcome.{put}
use Rattle.laws.proofs.Tables.{length-firsts}
use Rattle.judge.specs.used.Least.{every}
use Rattle.tables.specs.Held.{Scratch}
use Rattle.step.specs.values.Words.{may1, word, words}
use Rattle.step.proofs.values.Parts.{front-stays, back-stays, part-put, word-past}
use Rattle.step.specs.sweep.Lookup.{word_at, spread, swept, Looks, looked}
use Rattle.step.specs.sweep.Running.{Runs, Stands, Stepped, lits_of}
use Rattle.step.proofs.sweep.NotAnd.{word-there}
use Rattle.step.proofs.sweep.Literals.{firsts-agree, outputs-every, nexts-every, output-up, next_up}
use Rattle.step.proofs.sweep.Settling.{literals-long, settled-word, settled-front}

module _ (table : List ℕ) (start stride n lits : ℕ) (t : List ℕ) where
  looked-length : length (looked table start stride n lits t) ≡ n
  looked-length =
      length-map (every table start stride n) (word_at lits t) ∙ length-firsts (λ k. get_or table (stride * k + start) 0) n

  -- where literals' words stand, those that are looked up are the literals' values
  looked-words : (w : ℕ → Value) (m : ℕ) → ((l : ℕ) → var_of l ≤ m → get_or t (lits + l) 0 ≡ may1 (lit w l))
      → ((k : ℕ) → k < n → var_of (get_or table (stride * k + start) 0) ≤ m)
      → looked table start stride n lits t ≡ words (map (lit w) (every table start stride n))
  looked-words w m h up =
      firsts-agree (word_at lits t) (λ l. word (lit w l)) (λ k. get_or table (stride * k + start) 0) n
      (λ k j. word-there lits t w m h (get_or table (stride * k + start) 0) (up k j))
      ∙ sym (map-map word (lit w) (every table start stride n))

module _ {n : Counts} {x : Tables} (r : Runs n x)
    {s i : List Value} {t : List ℕ} (room : Scratch n t) (b : Stands n s i t)
    {t1 : List ℕ} (same : length t1 ≡ length t) (e : t1 ≡ spread (1 + n.I + n.L) (lits_of n) t)
    {t2 : List ℕ} (same2 : length t2 ≡ length t1) (e2 : t2 ≡ swept x.gates n.A (1 + n.I + n.L) (lits_of n) t1) where
  abbrev c : Circuit
  c = circuit_of n x

  abbrev out : ℕ
  out = n.M + 1

  long : lits_of n + 2 * out ≤ length t2
  long = omega (arith, literals-long r room b, same, same2)

  pub looks-outputs : Looks x.outputs 0 1 n.O (lits_of n) out t2
  looks-outputs = record {
    start-in = omega arith;
    literals-long = omega (arith, r.fits.outputs-long);
    before = omega arith;
    inside = λ k h. omega (arith, output-up r k h, long);
  }

  -- t3: with the outputs' words
  module _ {t3 : List ℕ} (same3 : length t3 ≡ length t2) (e3 : t3 ≡ put t2 out (looked x.outputs 0 1 n.O (lits_of n) t2)) where
    pub looks-nexts : Looks x.latches 1 2 n.L (lits_of n) (1 + n.I) t3
    looks-nexts = record {
      start-in = omega arith;
      literals-long = r.fits.latches-long;
      before = omega (arith, r.fits.sum);
      inside = λ k h. omega (arith, next_up r k h, long, same3);
    }

    -- t4: with the next state's words over the state's
    module _ {t4 : List ℕ} (e4 : t4 ≡ put t3 (1 + n.I) (looked x.latches 1 2 n.L (lits_of n) t3)) where
      abbrev outs : List ℕ
      outs = looked x.outputs 0 1 n.O (lits_of n) t2

      abbrev nexts : List ℕ
      nexts = looked x.latches 1 2 n.L (lits_of n) t3

      outs-length : length outs ≡ n.O
      outs-length = looked-length x.outputs 0 1 n.O (lits_of n) t2

      nexts-length : length nexts ≡ n.L
      nexts-length = looked-length x.latches 1 2 n.L (lits_of n) t3

      outs-are : outs ≡ words (outputs_of c s i)
      outs-are =
          looked-words x.outputs 0 1 n.O (lits_of n) t2 (values_of c s i) n.M (settled-word r room b same e same2 e2) (output-up r)
          ∙ sym (ap (λ (l : List ℕ). words (map (lit (values_of c s i)) l)) (outputs-every r))

      -- no look up changes a literal's word
      later : (l : ℕ) → var_of l ≤ n.M → get_or t3 (lits_of n + l) 0 ≡ may1 (lit (values_of c s i) l)
      later l h =
          ap (λ (y : List ℕ). get_or y (lits_of n + l) 0) e3
          ∙ (word-past t2 out outs (omega (arith, long)) (lits_of n + l) (omega (arith, outs-length))
          ∙ settled-word r room b same e same2 e2 l h)

      nexts-are : nexts ≡ words (next_of c s i)
      nexts-are =
          looked-words x.latches 1 2 n.L (lits_of n) t3 (values_of c s i) n.M later (next_up r)
          ∙ sym (ap (λ (l : List ℕ). words (map (lit (values_of c s i)) l)) (nexts-every r))

      pub stepped : Stepped n c s i t4
      stepped = record { rests = record { zero = zero; state = state }; outputs = shown; literals = literals }
        where
          inner : 1 + n.I ≤ length t3
          inner = omega (arith, long, same3, r.fits.sum)

          zero : take 1 t4 ≡ words (v0 ∷ [])
          zero =
              ap (take 1) e4
              ∙ (front-stays t3 (1 + n.I) nexts inner 1 (omega arith)
              ∙ (ap (take 1) e3
              ∙ (front-stays t2 out outs (omega (arith, long)) 1 (omega arith)
              ∙ (settled-front r room b same e same2 e2 1 (omega arith)
              ∙ (sym (take-take 1 (1 + n.I + n.L) t (omega arith)) ∙ ap (take 1) b.leaves)))))

          state : take n.L (drop (1 + n.I) t4) ≡ words (next_of c s i)
          state =
              ap₂ (λ (k : ℕ) (y : List ℕ). take k (drop (1 + n.I) y)) (sym nexts-length) e4
              ∙ (part-put t3 (1 + n.I) nexts inner ∙ nexts-are)

          shown : take n.O (drop out t4) ≡ words (outputs_of c s i)
          shown =
              ap (λ (y : List ℕ). take n.O (drop out y)) e4
              ∙ (ap (take n.O) (back-stays t3 (1 + n.I) nexts inner out (omega (arith, nexts-length, r.fits.sum)))
              ∙ (ap₂ (λ (k : ℕ) (y : List ℕ). take k (drop out y)) (sym outs-length) e3
              ∙ (part-put t2 out outs (omega (arith, long)) ∙ outs-are)))

          literals : (l : ℕ) → var_of l ≤ n.M → get_or t4 (lits_of n + l) 0 ≡ may1 (lit (values_of c s i) l)
          literals l h =
              ap (λ (y : List ℕ). get_or y (lits_of n + l) 0) e4
              ∙ (word-past t3 (1 + n.I) nexts inner (lits_of n + l) (omega (arith, nexts-length, r.fits.sum)) ∙ later l h)
