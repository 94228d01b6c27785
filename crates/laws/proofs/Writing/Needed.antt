-- The length that 11 asks for is the length that is written, and a buffer of this length is enough.
use Prim.Native.Nat.{ℕ, ◌+◌, ◌-◌, ◌^◌, ◌≤◌, ◌<◌, min}
use mathlib.Core.Path.{◌≡◌, refl, sym, ap, ◌∙◌}
use mathlib.Core.Bool.{Bool, true, false, cond}
use mathlib.Core.List.{List, [], ◌∷◌, ◌++◌}
use Rattle.std.specs.Prelude.{Result, Ok, Err, Option, Some, None}
use native.Mathlib.Omega.{arith}
use borrow.Author.Tests.{leb-false, le-leb, lt-leb}
use lib.Dec.{leb}
use lib.ListN.{length}
use Rattle.plan.specs.declared.Refusal.{Refusal}
use Rattle.plan.specs.declared.Refusal.TheVariants.{ShortBuffer}
use Rattle.plan.specs.Refusals.{stage, first_of}
use Rattle.plan.specs.Text.{text_of}
use Rattle.plan.specs.Binary.{binary_of}
use Rattle.plan.specs.Given.{Given, given_circuit, lent_alone, stages, order_stage, tail_stage, room_stage}
use Rattle.plan.specs.Outcome.{FileEntry, written_by, write_text, write_binary}
use Rattle.laws.proofs.Writing.Nothing.{some-none, first-both, both_first}
use Rattle.laws.proofs.Writing.Written.{wrote}
use Rattle.laws.proofs.Writing.Eleven.{Others, others-circuit, others-first, other-tail-stage, other-order-stage}

-- a writer whose last stage is the buffer's, and whose other stages refuse by other numbers
module _ (circuit : Given) (tail bytes : List ℕ) (os : List (Option Refusal)) (fits : length bytes < 2 ^ 64) where
  abbrev into : List ℕ → FileEntry
  into out = record { circuit = circuit; tail = tail; out = out }

  abbrev answers : List ℕ → Result ℕ Refusal
  answers out = (written_by (first_of (os ++ (room_stage out bytes ∷ []))) (into out) bytes).answer

  enough : (out : List ℕ) → first_of os ≡ None → length bytes ≤ length out → answers out ≡ Ok (length bytes)
  enough out o h =
      let long : 0 + length bytes ≤ length out = omega arith in
      let r : room_stage out bytes ≡ None = rw (le-leb (0 + length bytes) (length out) long) in
      ap (λ (x : Option Refusal). (written_by x (into out) bytes).answer)
      (both_first os (room_stage out bytes ∷ []) o ∙ ap (λ (x : Option Refusal). first_of (x ∷ [])) r)

  lacking : (out : List ℕ) → first_of os ≡ None → length out < length bytes → answers out ≡ Err (ShortBuffer (length bytes))
  lacking out o h =
      let least : min (0 + length bytes) (2 ^ 64 - 1) ≡ length bytes = omega arith in
      let long : length out < 0 + length bytes = omega arith in
      let r : room_stage out bytes ≡ Some (ShortBuffer (length bytes))
      = rw (lt-leb (0 + length bytes) (length out) long) (ap (λ (p : ℕ). Some (ShortBuffer p)) least) in
      ap (λ (x : Option Refusal). (written_by x (into out) bytes).answer)
      (both_first os (room_stage out bytes ∷ []) o ∙ ap (λ (x : Option Refusal). first_of (x ∷ [])) r)

  refused-by : (o : Option Refusal) (e : FileEntry) (r : Refusal) → (written_by o e bytes).answer ≡ Err r → o ≡ Some r
  refused-by None e r a = let z : ◌≡◌ {A = ℕ} 0 1 = cc in absurd (omega arith)
  refused-by (Some q) e r a = let q-is : q ≡ r = cc in ap Some q-is

  -- 11 names the length that a longer buffer gets
  needed : Others os → (out : List ℕ) (p : ℕ) → answers out ≡ Err (ShortBuffer p)
      → (length out < p) × ((more : List ℕ) → p ≤ length more → answers more ≡ Ok p)
  needed others out p a =
      let f = refused-by (first_of (os ++ (room_stage out bytes ∷ []))) (into out) (ShortBuffer p) a in
      let h = others-first os (room_stage out bytes ∷ []) (ShortBuffer p) others refl f in
      by-room (leb (0 + length bytes) (length out)) refl h.0 h.1
    where
      by-room : (b : Bool) → leb (0 + length bytes) (length out) ≡ b → first_of os ≡ None
          → first_of (stage ShortBuffer (cond b None (Some (min (0 + length bytes) (2 ^ 64 - 1)))) ∷ []) ≡ Some (ShortBuffer p)
          → (length out < p) × ((more : List ℕ) → p ≤ length more → answers more ≡ Ok p)
      by-room true q o f = some-none (ShortBuffer p) (sym f)
      by-room false q o f =
          let p-is : min (0 + length bytes) (2 ^ 64 - 1) ≡ p = cc in
          let len : length bytes ≡ p = omega arith in (
            omega (arith, leb-false (0 + length bytes) (length out) q),
            λ more m. enough more o (omega arith) ∙ ap Ok len,
          )

  -- and a buffer shorter than what is written gets 11 with this length
  reported : (out : List ℕ) (k : ℕ) → answers out ≡ Ok k → (less : List ℕ) → length less < k
      → answers less ≡ Err (ShortBuffer k)
  reported out k a less h =
      let w = wrote (into out) bytes k (first_of (os ++ (room_stage out bytes ∷ []))) a in
      let o = (first-both os (room_stage out bytes ∷ []) w.0).0 in
      lacking less o (omega (arith, w.1)) ∙ ap (λ (p : ℕ). Err (ShortBuffer p)) (sym w.1)

module _ (g : Given) (tail : List ℕ) where
  abbrev buffer : List ℕ → FileEntry
  buffer out = record { circuit = g; tail = tail; out = out }

  abbrev text-bytes : List ℕ
  text-bytes = text_of (given_circuit g) ++ tail

  abbrev binary-bytes : List ℕ
  binary-bytes = binary_of (given_circuit g) ++ tail

  abbrev text-stages : List (Option Refusal)
  text-stages = stages g (lent_alone g) ++ (tail_stage g tail ∷ [])

  abbrev binary-stages : List (Option Refusal)
  binary-stages = stages g (lent_alone g) ++ (order_stage g ∷ tail_stage g tail ∷ [])

  pub text-needed : length text-bytes < 2 ^ 64 → (out : List ℕ) (p : ℕ) → (write_text (buffer out)).answer ≡ Err (ShortBuffer p)
      → (length out < p) × ((more : List ℕ) → p ≤ length more → (write_text (buffer more)).answer ≡ Ok p)
  text-needed fits =
      needed g tail text-bytes text-stages fits (others-circuit g (tail_stage g tail ∷ []) (other-tail-stage g.counts tail, tt))

  pub text-reported : length text-bytes < 2 ^ 64 → (out : List ℕ) (k : ℕ) → (write_text (buffer out)).answer ≡ Ok k
      → (less : List ℕ) → length less < k → (write_text (buffer less)).answer ≡ Err (ShortBuffer k)
  text-reported = reported g tail text-bytes text-stages

  pub binary-needed : length binary-bytes < 2 ^ 64 → (out : List ℕ) (p : ℕ)
      → (write_binary (buffer out)).answer ≡ Err (ShortBuffer p)
      → (length out < p) × ((more : List ℕ) → p ≤ length more → (write_binary (buffer more)).answer ≡ Ok p)
  binary-needed fits =
      needed g tail binary-bytes binary-stages fits
      (others-circuit g (order_stage g ∷ tail_stage g tail ∷ []) (other-order-stage g, (other-tail-stage g.counts tail, tt)))

  pub binary-reported : length binary-bytes < 2 ^ 64 → (out : List ℕ) (k : ℕ) → (write_binary (buffer out)).answer ≡ Ok k
      → (less : List ℕ) → length less < k → (write_binary (buffer less)).answer ≡ Err (ShortBuffer k)
  binary-reported = reported g tail binary-bytes binary-stages
