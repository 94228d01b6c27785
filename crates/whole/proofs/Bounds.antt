-- A form of a well-formed circuit is far shorter than 2 ^ 64 bytes: at most 11 for each number of a line, 10 for each gate.
use Prim.Native.Nat.{ℕ, suc, zero, ◌+◌, ◌-◌, ◌*◌, ◌^◌, ◌<◌, ◌≤◌}
use mathlib.Core.Path.{◌≡◌, refl}
use mathlib.Core.Bool.{Bool, true, false, ◌||◌}
use mathlib.Core.List.{List, [], ◌∷◌, ◌++◌, map}
use native.Mathlib.Omega.{arith}
use borrow.Author.Tests.{leb-true, eqb-true}
use lib.Dec.{eqb, leb}
use lib.ListN.{length, length-append}
use Rattle.plan.specs.Literals.{most, sign_of, in_range, is_reset}
use Rattle.plan.specs.Circuit.{Circuit, Latch, Gate, counts_of, one_line, latch_line, gate_line, nexts, inside, all_inside, resets_ok}
use Rattle.plan.specs.Bytes.{digits, end_of, line_of, lines_of, with_resets, unless_zero, without_zeros}
use Rattle.plan.specs.Difference.{groups_of}
use Rattle.plan.specs.Header.{Form, text, binary, header_of, short_counts}
use Rattle.plan.specs.Text.{text_of, text_lines, text_latches}
use Rattle.plan.specs.Binary.{gate_bytes, binary_of, binary_lines, binary_latches}
use Rattle.plan.specs.Reading.{WellFormed}
use Rattle.laws.proofs.Reading.Common.{and_left, and_right}
use Rattle.write.proofs.print.Sizes.{digits-ten, groups-five}

-- every number of a line is a word
abbrev Words : List ℕ → Type 0
Words [] = Unit {0}
Words (l ∷ ls) = (l < 2 ^ 32) × Words ls

line-most : (ls : List ℕ) → Words ls → length (line_of ls) ≤ 11 * length ls
line-most [] h = omega arith
line-most (l ∷ ls) h =
    let e : length (line_of (l ∷ ls)) ≡ length (digits l) + suc (length (line_of ls))
    = length-append (digits l) (end_of (length ls) ∷ line_of ls) in
    omega (arith, digits-ten l h.0, line-most ls h.1)

module _ (m : ℕ) (small : m ≤ most) where
  in-range : (d : Bool) (l : ℕ) → in_range d m l ≡ true → l < 2 ^ 32
  in-range true l h =
      let e : leb l (2 * m) ≡ true = and_right (leb 2 l) (leb l (2 * m)) (and_right (eqb (sign_of l) 0) _ h) in
      omega (arith, leb-true l (2 * m) e)
  in-range false l h = omega (arith, leb-true l (2 * m + 1) h)

  words : (d : Bool) (row : List ℕ) → inside d m row ≡ true → Words row
  words d [] h = tt
  words d (l ∷ ls) h =
      (in-range d l (and_left (in_range d m l) (inside false m ls) h), words false ls (and_right (in_range d m l) (inside false m ls) h))

  -- lines of one, two and three numbers
  ones-most : (d : Bool) (ls : List ℕ) → all_inside d m (map one_line ls) ≡ true → length (lines_of (map one_line ls)) ≤ 11 * length ls
  ones-most d [] h = omega arith
  ones-most d (l ∷ ls) h =
      let first = and_left (inside d m (one_line l)) (all_inside d m (map one_line ls)) h in
      let rest = and_right (inside d m (one_line l)) (all_inside d m (map one_line ls)) h in
      let e = length-append (line_of (one_line l)) (lines_of (map one_line ls)) in
      omega (arith, e, line-most (one_line l) (words d (one_line l) first), ones-most d ls rest)

  -- a reset is 0, 1 or the latch's own literal
  reset-word : (own r : ℕ) → own < 2 ^ 32 → is_reset own r ≡ true → r < 2 ^ 32
  reset-word own r h e = go (eqb r 0) (eqb r 1) (eqb r own) refl refl refl e
    where
      go : (a b c : Bool) → eqb r 0 ≡ a → eqb r 1 ≡ b → eqb r own ≡ c → (a || (b || c)) ≡ true → r < 2 ^ 32
      go true b c p q k t = omega (arith, eqb-true r 0 p)
      go false true c p q k t = omega (arith, eqb-true r 1 q)
      go false false true p q k t = omega (arith, eqb-true r own k)
      go false false false p q k t = let z : ◌≡◌ {A = ℕ} 0 1 = cc in absurd (omega arith)

  -- the shortest line of a latch has at most one number more than its literals
  next-most : (next r : ℕ) → next < 2 ^ 32 → r < 2 ^ 32 → length (line_of (next ∷ unless_zero r [])) ≤ 22
  next-most next zero h k = omega (arith, line-most (next ∷ []) (h, tt))
  next-most next (suc r) h k = omega (arith, line-most (next ∷ suc r ∷ []) (h, (k, tt)))

  current-most : (current next r : ℕ) → current < 2 ^ 32 → next < 2 ^ 32 → r < 2 ^ 32
      → length (line_of (current ∷ next ∷ unless_zero r [])) ≤ 33
  current-most current next r g h k =
      let e : length (line_of (current ∷ next ∷ unless_zero r [])) ≡ length (digits current) + suc (length (line_of (next ∷ unless_zero r [])))
      = length-append (digits current) (32 ∷ line_of (next ∷ unless_zero r [])) in
      omega (arith, digits-ten current g, next-most next r h k)

  latches-most : (ls : List Latch) (rs : List ℕ) → all_inside true m (map latch_line ls) ≡ true → resets_ok ls rs ≡ true
      → (length (lines_of (map (without_zeros 2) (with_resets (map latch_line ls) rs))) ≤ 33 * length ls)
      × (length (lines_of (map (without_zeros 1) (with_resets (map one_line (nexts ls)) rs))) ≤ 22 * length ls)
  latches-most [] rs h k = (omega arith, omega arith)
  latches-most (l ∷ ls) [] h k = let z : ◌≡◌ {A = ℕ} 0 1 = cc in absurd (omega arith)
  latches-most (l ∷ ls) (r ∷ rs) h k =
      let first = and_left (inside true m (latch_line l)) (all_inside true m (map latch_line ls)) h in
      let rest = and_right (inside true m (latch_line l)) (all_inside true m (map latch_line ls)) h in
      let w = words true (latch_line l) first in
      let q = reset-word l.current r w.0 (and_left (is_reset l.current r) (resets_ok ls rs) k) in
      let ih = latches-most ls rs rest (and_right (is_reset l.current r) (resets_ok ls rs) k) in
      let e = length-append (line_of (l.current ∷ l.next ∷ unless_zero r [])) (lines_of (map (without_zeros 2) (with_resets (map latch_line ls) rs))) in
      let f = length-append (line_of (l.next ∷ unless_zero r [])) (lines_of (map (without_zeros 1) (with_resets (map one_line (nexts ls)) rs))) in (
        omega (arith, e, current-most l.current l.next r w.0 w.1.0 q, ih.0),
        omega (arith, f, next-most l.next r w.1.0 q, ih.1),
      )

  gates-most : (gs : List Gate) → all_inside true m (map gate_line gs) ≡ true
      → (length (lines_of (map gate_line gs)) ≤ 33 * length gs) × (length (gate_bytes gs) ≤ 10 * length gs)
  gates-most [] h = (omega arith, omega arith)
  gates-most (g ∷ gs) h =
      let first = and_left (inside true m (gate_line g)) (all_inside true m (map gate_line gs)) h in
      let rest = and_right (inside true m (gate_line g)) (all_inside true m (map gate_line gs)) h in
      let w = words true (gate_line g) first in
      let ih = gates-most gs rest in
      let e = length-append (line_of (gate_line g)) (lines_of (map gate_line gs)) in
      let f = length-append (groups_of (g.lhs - g.rhs0)) (groups_of (g.rhs0 - g.rhs1) ++ gate_bytes gs) in
      let f' = length-append (groups_of (g.rhs0 - g.rhs1)) (gate_bytes gs) in
      let a : g.lhs - g.rhs0 < 2 ^ 32 = omega (arith, w.0) in
      let b : g.rhs0 - g.rhs1 < 2 ^ 32 = omega (arith, w.1.0) in (
        omega (arith, e, line-most (gate_line g) w, ih.0),
        omega (arith, f, f', groups-five (g.lhs - g.rhs0) a, groups-five (g.rhs0 - g.rhs1) b, ih.1),
      )

-- trailing zeros left off
last-most : (n b c : ℕ) → n < 2 ^ 32 → b < 2 ^ 32 → c < 2 ^ 32 → length (line_of (n ∷ unless_zero b (unless_zero c []))) ≤ 33
last-most n zero zero h i j = omega (arith, line-most (n ∷ []) (h, tt))
last-most n zero (suc c) h i j = omega (arith, line-most (n ∷ 0 ∷ suc c ∷ []) (h, (i, (j, tt))))
last-most n (suc b) zero h i j = omega (arith, line-most (n ∷ suc b ∷ []) (h, (i, tt)))
last-most n (suc b) (suc c) h i j = omega (arith, line-most (n ∷ suc b ∷ suc c ∷ []) (h, (i, (j, tt))))

one_more : (n : ℕ) (l : List ℕ) (k : ℕ) → n < 2 ^ 32 → length (line_of l) ≤ k → length (line_of (n ∷ l)) ≤ 11 + k
one_more n l k h few =
    let e : length (line_of (n ∷ l)) ≡ length (digits n) + suc (length (line_of l)) = length-append (digits n) (end_of (length l) ∷ line_of l) in
    omega (arith, digits-ten n h)

module _ (c : Circuit) (w : WellFormed c) where
  header-most : (f : Form) → length (header_of f (short_counts (counts_of c))) ≤ 81
  header-most f =
      let word : (n : ℕ) → n ≤ most → n < 2 ^ 32 = λ n h. omega arith in
      let n = counts_of c in
      let a = last-most n.A n.B n.C (word _ w.most-A) (word _ w.most-B) (word _ w.most-C) in
      let t = n.A ∷ unless_zero n.B (unless_zero n.C []) in
      let o = one_more n.O t 33 (word _ w.most-O) a in
      let l = one_more n.L (n.O ∷ t) 44 (word _ w.most-L) o in
      let i = one_more n.I (n.L ∷ n.O ∷ t) 55 (word _ w.most-I) l in
      let m = one_more n.M (n.I ∷ n.L ∷ n.O ∷ t) 66 (word _ w.most-M) i in
      omega (arith, m)

  abbrev m : ℕ
  m = c.M

  pub text-most : length (text_of c) ≤ 200000000
  text-most =
      let lats = latches-most m w.most-M c.latches c.resets w.latches w.resets in
      let gs = gates-most m w.most-M c.gates w.gates in
      let rows = map (without_zeros 2) (text_latches c) in
      let head = header_of text (short_counts (counts_of c)) in
      let l1 = lines_of (map one_line c.inputs) in
      let l2 = lines_of rows in
      let l3 = lines_of (map one_line c.outputs) in
      let l4 = lines_of (map one_line c.bads) in
      let l5 = lines_of (map one_line c.constraints) in
      let l6 = lines_of (map gate_line c.gates) in
      omega (
        arith,
        length-append head (text_lines rows c),
        length-append l1 (l2 ++ (l3 ++ (l4 ++ (l5 ++ l6)))),
        length-append l2 (l3 ++ (l4 ++ (l5 ++ l6))),
        length-append l3 (l4 ++ (l5 ++ l6)),
        length-append l4 (l5 ++ l6),
        length-append l5 l6,
        header-most text,
        ones-most m w.most-M true c.inputs w.inputs,
        lats.0,
        ones-most m w.most-M false c.outputs w.outputs,
        ones-most m w.most-M false c.bads w.bads,
        ones-most m w.most-M false c.constraints w.constraints,
        gs.0,
        w.most-I,
        w.most-L,
        w.most-O,
        w.most-A,
        w.most-B,
        w.most-C,
      )

  pub binary-most : length (binary_of c) ≤ 200000000
  binary-most =
      let lats = latches-most m w.most-M c.latches c.resets w.latches w.resets in
      let gs = gates-most m w.most-M c.gates w.gates in
      let rows = map (without_zeros 1) (binary_latches c) in
      let head = header_of binary (short_counts (counts_of c)) in
      let l1 = lines_of rows in
      let l2 = lines_of (map one_line c.outputs) in
      let l3 = lines_of (map one_line c.bads) in
      let l4 = lines_of (map one_line c.constraints) in
      omega (
        arith,
        length-append head (binary_lines rows c),
        length-append l1 (l2 ++ (l3 ++ (l4 ++ gate_bytes c.gates))),
        length-append l2 (l3 ++ (l4 ++ gate_bytes c.gates)),
        length-append l3 (l4 ++ gate_bytes c.gates),
        length-append l4 (gate_bytes c.gates),
        header-most binary,
        lats.1,
        ones-most m w.most-M false c.outputs w.outputs,
        ones-most m w.most-M false c.bads w.bads,
        ones-most m w.most-M false c.constraints w.constraints,
        gs.1,
        w.most-L,
        w.most-O,
        w.most-A,
        w.most-B,
        w.most-C,
      )
