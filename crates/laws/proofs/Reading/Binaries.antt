-- The binary form's body is read from its bytes, and from nothing else.
use Prim.Native.Nat.{ℕ, ◌+◌}
use mathlib.Core.Path.{◌≡◌, refl, sym, ap, ap₂, ◌∙◌, subst, subst₂}
use mathlib.Core.Bool.{true, false}
use mathlib.Core.List.{List, [], ◌∷◌, ◌++◌, append_assoc, map}
use native.Mathlib.Omega.{arith}
use lib.ListN.{length, take, drop, length-map}
use Rattle.plan.specs.Refusals.{got}
use Rattle.plan.specs.declared.Counts.{Counts}
use Rattle.plan.specs.declared.Version.{Version}
use Rattle.plan.specs.Literals.{in_range}
use Rattle.plan.specs.Circuit.{Gate, Latch, Circuit, counts_of, one_line, latch_line, literal_of, nexts, all_new, inside, all_inside, resets_ok}
use Rattle.plan.specs.Bytes.{lines, latch_lines, reset_after, lines_of, with_resets, AllSpell, latch_form}
use Rattle.plan.specs.Header.{more_resets}
use Rattle.plan.specs.Binary.{gates_from, lits_from, latches_from, binary_body, gate_bytes, binary_lines, binary_latches}
use Rattle.plan.specs.Reading.{WellFormed}
use Rattle.laws.proofs.Reading.Common.{got-value, got-next, then-got, Reads, and_left, and_right, and_intro}
use Rattle.laws.proofs.Reading.Lines.{RowsOk, lines-took}
use Rattle.laws.proofs.Reading.Rows.{rows_long, rows_inside, rows-using, one-back, map-forth, map-long, BodyOk}
use Rattle.laws.proofs.Reading.Order.{InOrder}
use Rattle.laws.proofs.Reading.Differences.{Bytes, gates-took, gates-reads}
use Rattle.laws.proofs.Reading.Runs.{up_from, lits-inside, latches-inside, gates-inside, vars-lits, currents-latches, lefts-gates, run-new}
use Rattle.laws.proofs.Reading.Runs.{length-lits, length-latches, length-nexts, nexts-latches, BinaryOrder}
use Rattle.laws.proofs.Reading.Texts.{few-resets, using-reads}
use Rattle.laws.proofs.Reading.Latches.{LatchesOk, latches-took, latches-reads, resets-binary, binary-resets, latches-spelled, latches-spell}
use Rattle.laws.proofs.Reading.Latches.{latches-least, take-one}

pub latches-using : (m : ℕ) (ls : List Latch) → all_inside true m (map latch_line ls) ≡ true
    → all_inside false m (map one_line (nexts ls)) ≡ true
latches-using m [] h = refl
latches-using m (l ∷ ls) h =
    and_intro (inside false m (one_line l.next)) _ (and_right (in_range true m l.current) _
    (and_left (inside true m (latch_line l)) _ h))
    (latches-using m ls (and_right (inside true m (latch_line l)) _ h))

assoc5 : (a b c d f e : List ℕ) → (a ++ (b ++ (c ++ (d ++ f)))) ++ e ≡ a ++ (b ++ (c ++ (d ++ (f ++ e))))
assoc5 a b c d f e = simp append_assoc

-- the circuit of what is read
abbrev from_runs : ℕ → ℕ → List (List ℕ) → List (List ℕ) → List (List ℕ) → List (List ℕ) → List Gate → Circuit
from_runs m i lats outs bads cons gates = record {
  M = m;
  inputs = lits_from 1 i;
  latches = latches_from (1 + i) (map literal_of lats);
  resets = map (reset_after 1) lats;
  outputs = map literal_of outs;
  bads = map literal_of bads;
  constraints = map literal_of cons;
  gates = gates;
}

abbrev BinaryOk : Version → List ℕ → Counts → ℕ → Circuit → ℕ → Type 0
BinaryOk v file n at c e = BodyOk file binary_lines binary_latches 1 (more_resets v) n at c e

module _ (w : Version) (file : List ℕ) (m i at a1 a2 a3 a4 a5 : ℕ) (r1 r2 r3 r4 : List (List ℕ)) (gs : List Gate) where
  binary-rows : i + length r1 + length gs ≡ m
      → drop at file ≡ lines_of r1 ++ drop a1 file → LatchesOk 1 false m (more_resets w) (1 + i) [] r1
      → drop a1 file ≡ lines_of r2 ++ drop a2 file → RowsOk 1 false m [] r2
      → drop a2 file ≡ lines_of r3 ++ drop a3 file → RowsOk 1 false m [] r3
      → drop a3 file ≡ lines_of r4 ++ drop a4 file → RowsOk 1 false m [] r4
      → drop a4 file ≡ gate_bytes gs ++ drop a5 file → InOrder (1 + i + length r1) gs
      → BinaryOk w file (record { M = m; I = i; L = length r1; O = length r2; A = length gs; B = length r3; C = length r4 }) at
      (from_runs m i r1 r2 r3 r4 gs) a5
      × BinaryOrder (from_runs m i r1 r2 r3 r4 gs)
  binary-rows sum d1 k1 d2 k2 d3 k3 d4 k4 d5 o =
      let v = 1 + i in
      let ls = map literal_of r1 in
      let rs = map (reset_after 1) r1 in
      let s = latches-spell 0 false m (more_resets w) (few-resets w) v [] r1 k1 in
      let n1 : length ls ≡ length r1 = length-map r1 literal_of in
      let b0 : map one_line ls ≡ map (take 1) r1 = take-one r1 (latches-least _ _ _ _ _ _ r1 k1) in
      let b1 : map one_line (nexts (latches_from v ls)) ≡ map (take 1) r1 = ap (map one_line) (nexts-latches v ls) ∙ b0 in
      let b2 : map one_line (map literal_of r2) ≡ r2 = one-back r2 (rows_long _ _ _ _ r2 k2) in
      let b3 : map one_line (map literal_of r3) ≡ r3 = one-back r3 (rows_long _ _ _ _ r3 k3) in
      let b4 : map one_line (map literal_of r4) ≡ r4 = one-back r4 (rows_long _ _ _ _ r4 k4) in
      let l1 : length (latches_from v ls) ≡ length r1 = length-latches v ls ∙ n1 in
      let i1 : length (lits_from 1 i) ≡ i = length-lits 1 i in (
        record {
          lats = r1;
          took = d1 ∙ (ap (λ (l : List ℕ). lines_of r1 ++ l) (d2 ∙ ap (λ (l : List ℕ). lines_of r2 ++ l)
              (d3 ∙ ap (λ (l : List ℕ). lines_of r3 ++ l) (d4 ∙ ap (λ (l : List ℕ). lines_of r4 ++ l) d5)))
              ∙ (sym (assoc5 (lines_of r1) (lines_of r2) (lines_of r3) (lines_of r4) (gate_bytes gs) (drop a5 file)) ∙ rw (b2, b3, b4)));
          spelled = subst (λ (x : List (List ℕ)). AllSpell 1 (1 + more_resets w) (with_resets x rs) r1) (sym b1) s.2;
          counts = λ j. record {
            M = m;
            I = i1 j;
            L = l1 j;
            O = length-map r2 literal_of j;
            A = length gs;
            B = length-map r3 literal_of j;
            C = length-map r4 literal_of j;
          };
          inputs = lits-inside m i 1 (omega arith) (omega arith);
          latches = latches-inside m v ls (omega arith) (omega arith) (rw b0 (rows_inside _ _ _ _ (map (take 1) r1) s.0));
          resets = binary-resets v ls rs (rw b0 s.1);
          outputs = rw b2 (rows_inside _ _ _ _ r2 k2);
          bads = rw b3 (rows_inside _ _ _ _ r3 k3);
          constraints = rw b4 (rows_inside _ _ _ _ r4 k4);
          gates = gates-inside m (1 + i + length r1) gs o (omega arith) (omega arith);
          different =
              ap₂ (λ (x y : List ℕ). all_new [] (x ++ y)) (vars-lits 1 i)
              (ap₂ (λ (x y : List ℕ). x ++ y) (currents-latches v ls ∙ ap (up_from v) n1) (lefts-gates (1 + i + length r1) gs o))
              ∙ run-new i (length r1) (length gs);
        },
        record {
          sum = omega arith;
          inputs = ap (lits_from 1) (sym i1);
          latches = ap₂ (λ (x : ℕ) (y : List ℕ). latches_from (1 + x) y) (sym i1) (sym (nexts-latches v ls));
          gates = subst₂ (λ (x y : ℕ). InOrder (1 + x + y) gs) (sym i1) (sym l1) o;
        },
      )

module _ (file : List ℕ) where
  pub binary-took : Bytes file → (v : Version) (n : Counts) (at : ℕ) (c : Circuit) (e : ℕ) → n.I + n.L + n.A ≡ n.M
      → binary_body v file n at ≡ got c e
      → BinaryOk v file n at c e × BinaryOrder c
  binary-took bytes v n at c e sum q =
      let t1 = then-got (latch_lines file (latch_form 1 false (more_resets v)) n.M n.L (1 + n.I) [] at) _ c e q in
      let t2 = then-got (lines file 1 false n.M n.O [] t1.1) _ c e t1.3 in
      let t3 = then-got (lines file 1 false n.M n.B [] t2.1) _ c e t2.3 in
      let t4 = then-got (lines file 1 false n.M n.C [] t3.1) _ c e t3.3 in
      let t5 = then-got (gates_from file n.A (1 + n.I + n.L) t4.1) _ c e t4.3 in
      let l1 = latches-took file 1 false n.M (more_resets v) n.L (1 + n.I) [] at t1.0 t1.1 t1.2 in
      let l2 = lines-took file 1 false n.M n.O [] t1.1 t2.0 t2.1 t2.2 in
      let l3 = lines-took file 1 false n.M n.B [] t2.1 t3.0 t3.1 t3.2 in
      let l4 = lines-took file 1 false n.M n.C [] t3.1 t4.0 t4.1 t4.2 in
      let l5 = gates-took file bytes n.A (1 + n.I + n.L) t4.1 t5.0 t5.1 t5.2 in
      let c-is : from_runs n.M n.I t1.0 t2.0 t3.0 t4.0 t5.0 ≡ c = got-value _ c t5.1 e t5.3 in
      let e-is : t5.1 ≡ e = got-next _ c t5.1 e t5.3 in
      let read : Counts = record {
        M = n.M;
        I = n.I;
        L = length t1.0;
        O = length t2.0;
        A = length t5.0;
        B = length t3.0;
        C = length t4.0;
      } in
      let n-is : read ≡ n = λ i. record { M = n.M; I = n.I; L = l1.1 i; O = l2.1 i; A = l5.1 i; B = l3.1 i; C = l4.1 i } in
      let b =
      binary-rows v file n.M n.I at t1.1 t2.1 t3.1 t4.1 t5.1 t1.0 t2.0 t3.0 t4.0 t5.0
      (omega (arith, l1.1, l5.1)) l1.0 l1.2 l2.0 l2.2 l3.0 l3.2 l4.0 l4.2 l5.0
      (subst (λ (x : ℕ). InOrder (1 + n.I + x) t5.0) (sym l1.1) l5.2) in (
        subst (λ (x : Counts). BinaryOk v file x at c e) n-is
            (subst₂ (λ (x : Circuit) (y : ℕ). BinaryOk v file read at x y) c-is e-is b.0),
        subst BinaryOrder c-is b.1,
      )

  pub binary-reads : (v : Version) (c : Circuit) (lats : List (List ℕ)) (at : ℕ) (s : List ℕ) → WellFormed c → BinaryOrder c
      → AllSpell 1 (1 + more_resets v) (binary_latches c) lats → drop at file ≡ binary_lines lats c ++ s
      → Reads file (binary_body v file (counts_of c) at) c s
  binary-reads v c lats at s w o p e =
      let nx = nexts c.latches in
      let u = 1 + length c.inputs in
      let k1 =
      rows-using 1 c.M [] (map one_line nx) (map-long 1 one_line (λ a. refl) nx) (latches-using c.M c.latches w.latches) in
      let rs : resets_ok (latches_from u nx) c.resets ≡ true = ap (λ (x : List Latch). resets_ok x c.resets) (sym o.latches) ∙ w.resets in
      let z = latches-spelled 0 false c.M (more_resets v) u [] (map one_line nx) c.resets lats k1 (resets-binary u nx c.resets rs) p in
      let h1 : map one_line (map literal_of lats) ≡ map one_line nx = take-one lats (latches-least _ _ _ _ _ _ lats z.0) ∙ z.1 in
      let x1 : map literal_of lats ≡ nx
      = sym (map-forth literal_of one_line (λ a. refl) (map literal_of lats)) ∙ (ap (map literal_of) h1 ∙ map-forth literal_of one_line (λ a. refl) nx) in
      let n1 : length lats ≡ length c.latches = sym (length-map lats literal_of) ∙ (ap length x1 ∙ length-nexts c.latches) in
      let r1 =
      latches-reads file 1 false c.M (more_resets v) (omega arith) lats u [] at _ z.0
      (e ∙ assoc5 (lines_of lats) (lines_of (map one_line c.outputs)) (lines_of (map one_line c.bads)) (lines_of (map one_line c.constraints))
      (gate_bytes c.gates) s) in
      let r1' : latch_lines file (latch_form 1 false (more_resets v)) c.M (length c.latches) u [] at ≡ got lats r1.0
      = ap (λ (x : ℕ). latch_lines file (latch_form 1 false (more_resets v)) c.M x u [] at) (sym n1) ∙ r1.1 in
      let r2 = using-reads file c.M c.outputs r1.0 _ w.outputs r1.2 in
      let r3 = using-reads file c.M c.bads r2.0 _ w.bads r2.2 in
      let r4 = using-reads file c.M c.constraints r3.0 _ w.constraints r3.2 in
      let r5 =
      gates-reads file c.gates (1 + length c.inputs + length c.latches) r4.0 s o.gates
      (omega (arith, o.sum, w.most-M)) r4.2 in
      let l-is : latches_from u (map literal_of lats) ≡ c.latches = ap (latches_from u) x1 ∙ sym o.latches in (
        r5.0,
        rw (r1', r2.1, r3.1, r4.1, r5.1)
            (λ i. got (record {
              M = c.M;
              inputs = sym o.inputs i;
              latches = l-is i;
              resets = z.2 i;
              outputs = map-forth literal_of one_line (λ a. refl) c.outputs i;
              bads = map-forth literal_of one_line (λ a. refl) c.bads i;
              constraints = map-forth literal_of one_line (λ a. refl) c.constraints i;
              gates = c.gates;
            }) r5.0),
        r5.2,
      )
