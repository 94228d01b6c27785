-- The text form's body is read from its text, and from nothing else.
use Prim.Native.Nat.{ℕ, zero, ◌+◌, ◌≤◌}
use mathlib.Core.Path.{◌≡◌, refl, sym, ap, ◌∙◌, subst, subst₂}
use mathlib.Core.Bool.{Bool, true, false}
use mathlib.Core.List.{List, [], ◌++◌, append_assoc, map}
use native.Mathlib.Omega.{arith}
use lib.ListN.{length, take, drop, length-map}
use Rattle.plan.specs.Refusals.{got}
use Rattle.plan.specs.declared.Counts.{Counts}
use Rattle.plan.specs.declared.Version.{Version}
use Rattle.plan.specs.declared.Version.TheVariants.{V2007, V19}
use Rattle.plan.specs.Circuit.{Circuit, counts_of, all_new, all_inside, one_line, latch_line, gate_line, literal_of, latch_of, gate_of, heads}
use Rattle.plan.specs.Bytes.{lines, latch_lines, reset_after, lines_of, with_resets, AllSpell, latch_form}
use Rattle.plan.specs.Header.{more_resets}
use Rattle.plan.specs.Text.{text_body, text_lines, text_latches}
use Rattle.plan.specs.Reading.{WellFormed}
use Rattle.laws.proofs.Reading.Common.{got-value, got-next, then-got, Reads}
use Rattle.laws.proofs.Reading.Lines.{RowsOk, lines-took, lines-reads}
use Rattle.laws.proofs.Reading.Rows.{rows_long, rows_inside, rows_new, rows-defining, rows-using, one-back, gate-back, map-forth, map-long}
use Rattle.laws.proofs.Reading.Rows.{new-both, new-first, new-second, BodyOk}
use Rattle.laws.proofs.Reading.Latches.{LatchesOk, latches-took, latches-reads, resets-text, text-resets, latches-spelled, latches-spell}
use Rattle.laws.proofs.Reading.Latches.{latches-least, heads-take, take-two}

pub few-resets : (v : Version) → more_resets v ≤ 1
few-resets V2007 = omega arith
few-resets V19 = omega arith

assoc6 : (a b c d f g e : List ℕ) → (a ++ (b ++ (c ++ (d ++ (f ++ g))))) ++ e ≡ a ++ (b ++ (c ++ (d ++ (f ++ (g ++ e)))))
assoc6 a b c d f g e = simp append_assoc

-- the circuit of what is read
abbrev from_rows : ℕ → List (List ℕ) → List (List ℕ) → List (List ℕ) → List (List ℕ) → List (List ℕ) → List (List ℕ) → Circuit
from_rows m ins lats outs bads cons gates = record {
  M = m;
  inputs = map literal_of ins;
  latches = map latch_of lats;
  resets = map (reset_after 2) lats;
  outputs = map literal_of outs;
  bads = map literal_of bads;
  constraints = map literal_of cons;
  gates = map gate_of gates;
}

abbrev TextOk : Version → List ℕ → Counts → ℕ → Circuit → ℕ → Type 0
TextOk v file n at c e = BodyOk file text_lines text_latches 2 (more_resets v) n at c e

module _ (v : Version) (file : List ℕ) (m at a1 a2 a3 a4 a5 a6 : ℕ) (r1 r2 r3 r4 r5 r6 : List (List ℕ)) where
  text-rows : drop at file ≡ lines_of r1 ++ drop a1 file → RowsOk 1 true m [] r1
      → drop a1 file ≡ lines_of r2 ++ drop a2 file → LatchesOk 2 true m (more_resets v) zero (heads r1) r2
      → drop a2 file ≡ lines_of r3 ++ drop a3 file → RowsOk 1 false m [] r3
      → drop a3 file ≡ lines_of r4 ++ drop a4 file → RowsOk 1 false m [] r4
      → drop a4 file ≡ lines_of r5 ++ drop a5 file → RowsOk 1 false m [] r5
      → drop a5 file ≡ lines_of r6 ++ drop a6 file → RowsOk 3 true m (heads r1 ++ heads r2) r6
      → TextOk v file (record { M = m; I = length r1; L = length r2; O = length r3; A = length r6; B = length r4; C = length r5 }) at
      (from_rows m r1 r2 r3 r4 r5 r6) a6
  text-rows d1 k1 d2 k2 d3 k3 d4 k4 d5 k5 d6 k6 =
      let s = latches-spell 1 true m (more_resets v) (few-resets v) zero (heads r1) r2 k2 in
      let b1 : map one_line (map literal_of r1) ≡ r1 = one-back r1 (rows_long _ _ _ _ r1 k1) in
      let b2 : map latch_line (map latch_of r2) ≡ map (take 2) r2 = take-two r2 (latches-least _ _ _ _ _ _ r2 k2) in
      let b3 : map one_line (map literal_of r3) ≡ r3 = one-back r3 (rows_long _ _ _ _ r3 k3) in
      let b4 : map one_line (map literal_of r4) ≡ r4 = one-back r4 (rows_long _ _ _ _ r4 k4) in
      let b5 : map one_line (map literal_of r5) ≡ r5 = one-back r5 (rows_long _ _ _ _ r5 k5) in
      let b6 : map gate_line (map gate_of r6) ≡ r6 = gate-back r6 (rows_long _ _ _ _ r6 k6) in
      let rs = map (reset_after 2) r2 in
      record {
        lats = r2;
        took =
            d1 ∙ (ap (λ (l : List ℕ). lines_of r1 ++ l) (d2 ∙ ap (λ (l : List ℕ). lines_of r2 ++ l)
            (d3 ∙ ap (λ (l : List ℕ). lines_of r3 ++ l) (d4 ∙ ap (λ (l : List ℕ). lines_of r4 ++ l)
            (d5 ∙ ap (λ (l : List ℕ). lines_of r5 ++ l) d6))))
            ∙ (sym (assoc6 (lines_of r1) (lines_of r2) (lines_of r3) (lines_of r4) (lines_of r5) (lines_of r6) (drop a6 file))
            ∙ rw (b1, b3, b4, b5, b6)));
        spelled = subst (λ (x : List (List ℕ)). AllSpell 2 (2 + more_resets v) (with_resets x rs) r2) (sym b2) s.2;
        counts = λ i. record {
          M = m;
          I = length-map r1 literal_of i;
          L = length-map r2 latch_of i;
          O = length-map r3 literal_of i;
          A = length-map r6 gate_of i;
          B = length-map r4 literal_of i;
          C = length-map r5 literal_of i;
        };
        inputs = rw b1 (rows_inside _ _ _ _ r1 k1);
        latches = rw b2 (rows_inside _ _ _ _ (map (take 2) r2) s.0);
        resets = text-resets zero (map latch_of r2) rs (rw b2 s.1);
        outputs = rw b3 (rows_inside _ _ _ _ r3 k3);
        bads = rw b4 (rows_inside _ _ _ _ r4 k4);
        constraints = rw b5 (rows_inside _ _ _ _ r5 k5);
        gates = rw b6 (rows_inside _ _ _ _ r6 k6);
        different = rw (b1, b2, b6, heads-take 1 r2)
            (new-both [] (heads r1) (heads r2 ++ heads r6) (rows_new _ _ _ r1 k1)
            (new-both (heads r1) (heads r2) (heads r6)
            (ap (all_new (heads r1)) (sym (heads-take 1 r2)) ∙ rows_new _ _ _ (map (take 2) r2) s.0) (rows_new _ _ _ r6 k6)));
      }

module _ (file : List ℕ) where
  pub text-took : (v : Version) (n : Counts) (at : ℕ) (c : Circuit) (e : ℕ) → text_body v file n at ≡ got c e → TextOk v file n at c e
  text-took v n at c e q =
      let t1 = then-got (lines file 1 true n.M n.I [] at) _ c e q in
      let t2 = then-got (latch_lines file (latch_form 2 true (more_resets v)) n.M n.L zero (heads t1.0) t1.1) _ c e t1.3 in
      let t3 = then-got (lines file 1 false n.M n.O [] t2.1) _ c e t2.3 in
      let t4 = then-got (lines file 1 false n.M n.B [] t3.1) _ c e t3.3 in
      let t5 = then-got (lines file 1 false n.M n.C [] t4.1) _ c e t4.3 in
      let t6 = then-got (lines file 3 true n.M n.A (heads t1.0 ++ heads t2.0) t5.1) _ c e t5.3 in
      let l1 = lines-took file 1 true n.M n.I [] at t1.0 t1.1 t1.2 in
      let l2 = latches-took file 2 true n.M (more_resets v) n.L zero (heads t1.0) t1.1 t2.0 t2.1 t2.2 in
      let l3 = lines-took file 1 false n.M n.O [] t2.1 t3.0 t3.1 t3.2 in
      let l4 = lines-took file 1 false n.M n.B [] t3.1 t4.0 t4.1 t4.2 in
      let l5 = lines-took file 1 false n.M n.C [] t4.1 t5.0 t5.1 t5.2 in
      let l6 = lines-took file 3 true n.M n.A (heads t1.0 ++ heads t2.0) t5.1 t6.0 t6.1 t6.2 in
      let c-is : from_rows n.M t1.0 t2.0 t3.0 t4.0 t5.0 t6.0 ≡ c = got-value _ c t6.1 e t6.3 in
      let e-is : t6.1 ≡ e = got-next _ c t6.1 e t6.3 in
      let read : Counts = record {
        M = n.M;
        I = length t1.0;
        L = length t2.0;
        O = length t3.0;
        A = length t6.0;
        B = length t4.0;
        C = length t5.0;
      } in
      let n-is : read ≡ n = λ i. record { M = n.M; I = l1.1 i; L = l2.1 i; O = l3.1 i; A = l6.1 i; B = l4.1 i; C = l5.1 i } in
      subst (λ (x : Counts). TextOk v file x at c e) n-is
      (subst₂ (λ (x : Circuit) (y : ℕ). TextOk v file read at x y) c-is e-is
      (text-rows v file n.M at t1.1 t2.1 t3.1 t4.1 t5.1 t6.1 t1.0 t2.0 t3.0 t4.0 t5.0 t6.0 l1.0
      l1.2 l2.0 l2.2 l3.0 l3.2 l4.0 l4.2 l5.0 l5.2 l6.0 l6.2))

  -- n lines where n is the length of a table
  pub table-reads : {A : Type 0} (k : ℕ) (d : Bool) (m : ℕ) (g : A → List ℕ) (l : List A) (seen : List ℕ) (at : ℕ) (s : List ℕ)
      → RowsOk k d m seen (map g l) → drop at file ≡ lines_of (map g l) ++ s → Reads file (lines file k d m (length l) seen at) (map g l) s
  table-reads k d m g l seen at s ok e =
      let r = lines-reads file k d m (map g l) seen at s ok e in
      (r.0, ap (λ (x : ℕ). lines file k d m x seen at) (sym (length-map l g)) ∙ r.1, r.2)

  pub using-reads : (m : ℕ) (l : List ℕ) (at : ℕ) (s : List ℕ) → all_inside false m (map one_line l) ≡ true → drop at file ≡ lines_of (map one_line l) ++ s
      → Reads file (lines file 1 false m (length l) [] at) (map one_line l) s
  using-reads m l at s h e = table-reads 1 false m one_line l [] at s (rows-using 1 m [] (map one_line l) (map-long 1 one_line (λ a. refl) l) h) e

  pub text-reads : (v : Version) (c : Circuit) (lats : List (List ℕ)) (at : ℕ) (s : List ℕ) → WellFormed c
      → AllSpell 2 (2 + more_resets v) (text_latches c) lats → drop at file ≡ text_lines lats c ++ s
      → Reads file (text_body v file (counts_of c) at) c s
  text-reads v c lats at s w p e =
      let q1 = map one_line c.inputs in
      let q2 = map latch_line c.latches in
      let q3 = map one_line c.outputs in
      let q4 = map one_line c.bads in
      let q5 = map one_line c.constraints in
      let q6 = map gate_line c.gates in
      let d = w.different in
      let d' = new-second [] (heads q1) (heads q2 ++ heads q6) d in
      let k1 =
      rows-defining 1 c.M [] q1 (map-long 1 one_line (λ a. refl) c.inputs) w.inputs
      (new-first [] (heads q1) (heads q2 ++ heads q6) d) in
      let k2 =
      rows-defining 2 c.M (heads q1) q2 (map-long 2 latch_line (λ a. refl) c.latches) w.latches
      (new-first (heads q1) (heads q2) (heads q6) d') in
      let k6 =
      rows-defining 3 c.M (heads q1 ++ heads q2) q6 (map-long 3 gate_line (λ a. refl) c.gates) w.gates
      (new-second (heads q1) (heads q2) (heads q6) d') in
      let z = latches-spelled 1 true c.M (more_resets v) zero (heads q1) q2 c.resets lats k2 (resets-text zero c.latches c.resets w.resets) p in
      let h2 : map latch_line (map latch_of lats) ≡ q2 = take-two lats (latches-least _ _ _ _ _ _ lats z.0) ∙ z.1 in
      let l2 : map latch_of lats ≡ c.latches
      = sym (map-forth latch_of latch_line (λ a. refl) (map latch_of lats)) ∙ (ap (map latch_of) h2 ∙ map-forth latch_of latch_line (λ a. refl) c.latches) in
      let n2 : length lats ≡ length c.latches = sym (length-map lats latch_of) ∙ ap length l2 in
      let hs : heads lats ≡ heads q2 = sym (heads-take 1 lats) ∙ ap heads z.1 in
      let r1 =
      table-reads 1 true c.M one_line c.inputs [] at _ k1
      (e ∙ assoc6 (lines_of q1) (lines_of lats) (lines_of q3) (lines_of q4) (lines_of q5) (lines_of q6) s) in
      let r2 = latches-reads file 2 true c.M (more_resets v) (omega arith) lats zero (heads q1) r1.0 _ z.0 r1.2 in
      let r2' : latch_lines file (latch_form 2 true (more_resets v)) c.M (length c.latches) zero (heads q1) r1.0 ≡ got lats r2.0
      = ap (λ (x : ℕ). latch_lines file (latch_form 2 true (more_resets v)) c.M x zero (heads q1) r1.0) (sym n2) ∙ r2.1 in
      let r3 = using-reads c.M c.outputs r2.0 _ w.outputs r2.2 in
      let r4 = using-reads c.M c.bads r3.0 _ w.bads r3.2 in
      let r5 = using-reads c.M c.constraints r4.0 _ w.constraints r4.2 in
      let r6 = table-reads 3 true c.M gate_line c.gates (heads q1 ++ heads q2) r5.0 s k6 r5.2 in
      let r6' : lines file 3 true c.M (length c.gates) (heads q1 ++ heads lats) r5.0 ≡ got q6 r6.0
      = ap (λ (x : List ℕ). lines file 3 true c.M (length c.gates) (heads q1 ++ x) r5.0) hs ∙ r6.1 in (
        r6.0,
        rw (r1.1, r2', r3.1, r4.1, r5.1, r6')
            (λ i. got (record {
              M = c.M;
              inputs = map-forth literal_of one_line (λ a. refl) c.inputs i;
              latches = l2 i;
              resets = z.2 i;
              outputs = map-forth literal_of one_line (λ a. refl) c.outputs i;
              bads = map-forth literal_of one_line (λ a. refl) c.bads i;
              constraints = map-forth literal_of one_line (λ a. refl) c.constraints i;
              gates = map-forth gate_of gate_line (λ a. refl) c.gates i;
            }) r6.0),
        r6.2,
      )
