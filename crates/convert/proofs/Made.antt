-- The table of a converted circuit's gates has each gate in the row of its number.
use Prim.Native.Nat.{ℕ, zero, suc, ◌+◌, ◌-◌, ◌<◌, ◌≤◌}
use mathlib.Core.Path.{◌≡◌, refl, sym, ap, ◌∙◌}
use mathlib.Core.List.{List, [], ◌∷◌, ◌++◌, map}
use native.Mathlib.Nat.{not-suc-le-zero}
use native.Mathlib.Omega.{arith}
use lib.ListN.{length, get_or, drop, length-map}
use lib.Seq.{get_or-append-add, get_or-drop}
use Rattle.plan.specs.Circuit.{Gate, gate_line, gate_of, rows_of, flat}
use Rattle.plan.specs.Convert.{renumber, gate_for, renumber_gates}
use Rattle.plan.specs.Outcome.{put}
use Rattle.laws.proofs.Held.{rows-flat}
use Rattle.laws.proofs.Tables.{gate_at, gates_at, gates-rows}
use Rattle.laws.proofs.Reading.Rows.{map-long, map-forth}
use Rattle.convert.proofs.Rows.{get_d-firsts}

-- a gate of a table that starts with gates
pub gate-at : (gs : List Gate) (more : List ℕ) (j : ℕ) (d : Gate) → j < length gs → gate_at (flat (map gate_line gs) ++ more) j ≡ get_or gs j d
gate-at gs more j d h =
    let t = flat (map gate_line gs) ++ more in
    let whole : gates_at t (length gs) ≡ gs
    = sym (gates-rows t (length gs))
    ∙ (ap (λ (n : ℕ). map gate_of (rows_of 3 n t)) (sym (length-map gs gate_line))
    ∙ (ap (map gate_of) (rows-flat 3 (map gate_line gs) more (map-long 3 gate_line (λ g. refl) gs))
    ∙ map-forth gate_of gate_line (λ g. refl) gs)) in
    sym (get_d-firsts (gate_at t) (length gs) j d h) ∙ ap (λ (l : List Gate). get_or l j d) whole

-- a gate under its new number
pub gate-renumbered : (o : List ℕ) (v : ℕ) (gs : List Gate) (j : ℕ) (d : Gate) → j < length gs
    → get_or (renumber_gates o v gs) j d ≡ gate_for (v + j) (renumber o (get_or gs j d).rhs0) (renumber o (get_or gs j d).rhs1)
gate-renumbered o v [] j d h = absurd (not-suc-le-zero h)
gate-renumbered o v (g ∷ gs) zero d h =
    let same : v ≡ v + 0 = omega arith in
    ap (λ (u : ℕ). gate_for u (renumber o g.rhs0) (renumber o g.rhs1)) same
gate-renumbered o v (g ∷ gs) (suc j) d h =
    let same : suc v + j ≡ v + suc j = omega arith in
    gate-renumbered o (suc v) gs j d (omega arith)
    ∙ ap (λ (u : ℕ). gate_for u (renumber o (get_or gs j d).rhs0) (renumber o (get_or gs j d).rhs1)) same

-- past the words that were put
pub past-put : (to w : List ℕ) (q : ℕ) → length w ≤ q → get_or (put to 0 w) q 0 ≡ get_or to q 0
past-put to w q h =
    let at : length w + (q - length w) ≡ q = omega arith in
    let back : 0 + length w + (q - length w) ≡ q = omega arith in
    ap (λ (k : ℕ). get_or (w ++ drop (0 + length w) to) k 0) (sym at)
    ∙ (get_or-append-add w (drop (0 + length w) to) (q - length w) 0
    ∙ (get_or-drop (0 + length w) to (q - length w) 0 ∙ ap (λ (k : ℕ). get_or to k 0) back))
