-- From the top level down, each time the first place of the word that the level above names.
use Prim.Native.Nat.{ℕ, ◌/◌, ◌+◌}
use mathlib.Core.Path.{◌≡◌, subst}
use native.Mathlib.Omega.{arith}
use Rattle.judge.specs.marks.Levels.{p0, p1, p2, p3}
use Rattle.judge.proofs.marks.Finding.{FirstOn, first-in, first-down, first-top, none-marked, pair_found, pair-past}
use Rattle.judge.proofs.marks.first_pair.Goals as goal

pub returns-then-t-s-eq0 : goal.returns-then-t-s-eq0
returns-then-t-s-eq0 c =
    let A = c.args in
    record {
      within = omega arith;
      dark = λ k h q. none-marked A.t.now A.n A.a k c.requires.1 c.requires.3 c.if-t-s-eq0.true q;
      there = λ h. absurd (omega arith);
    }

pub next_on-y-requires : goal.next_on-y-requires
next_on-y-requires c =
    let top : FirstOn c.args.t.now (p3 c.args.n c.args.a) (c.args.a / 32768 / 32) c.next_on-x.result =
    let A = c.args in
    let none : 0 ≡ A.a / 32768 / 32 = omega (arith, c.requires.1) in
    subst (λ (m : ℕ). FirstOn A.t.now (p3 A.n A.a) m c.next_on-x.result) none
    (first-top A.t.now (p3 A.n A.a) c.next_on-x.result (omega (arith, c.if-t-s-eq0.false))
    (omega (arith, c.type_inv.t (p3 A.n A.a))) c.next_on-x.ensures) in
    let A = c.args in
    let x = first-in A.t.now (p2 A.n A.a) (p3 A.n A.a) (A.a / 32768) c.next_on-x.result c.requires.3.three (top) in
    (omega (arith, x), omega (arith, x))

pub next_on-z-requires : goal.next_on-z-requires
next_on-z-requires c =
    let top : FirstOn c.args.t.now (p3 c.args.n c.args.a) (c.args.a / 32768 / 32) c.next_on-x.result =
    let A = c.args in
    let none : 0 ≡ A.a / 32768 / 32 = omega (arith, c.requires.1) in
    subst (λ (m : ℕ). FirstOn A.t.now (p3 A.n A.a) m c.next_on-x.result) none
    (first-top A.t.now (p3 A.n A.a) c.next_on-x.result (omega (arith, c.if-t-s-eq0.false))
    (omega (arith, c.type_inv.t (p3 A.n A.a))) c.next_on-x.ensures) in
    let second : FirstOn c.args.t.now (p2 c.args.n c.args.a) (c.args.a / 1024 / 32) c.next_on-y.result =
    let A = c.args in
    let words : A.a / 32768 ≡ A.a / 1024 / 32 = omega arith in
    subst (λ (m : ℕ). FirstOn A.t.now (p2 A.n A.a) m c.next_on-y.result) words
    (first-down A.t.now (p2 A.n A.a) (p3 A.n A.a) (A.a / 32768) c.next_on-x.result c.next_on-y.result
    c.requires.3.three (top) (omega (
      arith,
      c.type_inv.t
          (p2 A.n A.a + c.next_on-x.result),
    )) c.next_on-y.ensures) in
    let A = c.args in
    let y = first-in A.t.now (p1 A.n A.a) (p2 A.n A.a) (A.a / 1024) c.next_on-y.result c.requires.3.two (second) in
    (omega (arith, y), omega (arith, y))

pub next_on-j-requires : goal.next_on-j-requires
next_on-j-requires c =
    let top : FirstOn c.args.t.now (p3 c.args.n c.args.a) (c.args.a / 32768 / 32) c.next_on-x.result =
    let A = c.args in
    let none : 0 ≡ A.a / 32768 / 32 = omega (arith, c.requires.1) in
    subst (λ (m : ℕ). FirstOn A.t.now (p3 A.n A.a) m c.next_on-x.result) none
    (first-top A.t.now (p3 A.n A.a) c.next_on-x.result (omega (arith, c.if-t-s-eq0.false))
    (omega (arith, c.type_inv.t (p3 A.n A.a))) c.next_on-x.ensures) in
    let second : FirstOn c.args.t.now (p2 c.args.n c.args.a) (c.args.a / 1024 / 32) c.next_on-y.result =
    let A = c.args in
    let words : A.a / 32768 ≡ A.a / 1024 / 32 = omega arith in
    subst (λ (m : ℕ). FirstOn A.t.now (p2 A.n A.a) m c.next_on-y.result) words
    (first-down A.t.now (p2 A.n A.a) (p3 A.n A.a) (A.a / 32768) c.next_on-x.result c.next_on-y.result
    c.requires.3.three (top) (omega (
      arith,
      c.type_inv.t
          (p2 A.n A.a + c.next_on-x.result),
    )) c.next_on-y.ensures) in
    let third : FirstOn c.args.t.now (p1 c.args.n c.args.a) (c.args.a / 32 / 32) c.next_on-z.result =
    let A = c.args in
    let words : A.a / 1024 ≡ A.a / 32 / 32 = omega arith in
    subst (λ (m : ℕ). FirstOn A.t.now (p1 A.n A.a) m c.next_on-z.result) words
    (first-down A.t.now (p1 A.n A.a) (p2 A.n A.a) (A.a / 1024) c.next_on-y.result c.next_on-z.result
    c.requires.3.two (second) (omega (
      arith,
      c.type_inv.t
          (p1 A.n A.a + c.next_on-y.result),
    )) c.next_on-z.ensures) in
    let A = c.args in
    let z = first-in A.t.now (p0 A.n A.a) (p1 A.n A.a) (A.a / 32) c.next_on-z.result c.requires.3.one (third) in
    (omega (arith, z), omega (arith, z))

pub returns-then-a-j : goal.returns-then-a-j
returns-then-a-j c =
    let top : FirstOn c.args.t.now (p3 c.args.n c.args.a) (c.args.a / 32768 / 32) c.next_on-x.result =
    let A = c.args in
    let none : 0 ≡ A.a / 32768 / 32 = omega (arith, c.requires.1) in
    subst (λ (m : ℕ). FirstOn A.t.now (p3 A.n A.a) m c.next_on-x.result) none
    (first-top A.t.now (p3 A.n A.a) c.next_on-x.result (omega (arith, c.if-t-s-eq0.false))
    (omega (arith, c.type_inv.t (p3 A.n A.a))) c.next_on-x.ensures) in
    let second : FirstOn c.args.t.now (p2 c.args.n c.args.a) (c.args.a / 1024 / 32) c.next_on-y.result =
    let A = c.args in
    let words : A.a / 32768 ≡ A.a / 1024 / 32 = omega arith in
    subst (λ (m : ℕ). FirstOn A.t.now (p2 A.n A.a) m c.next_on-y.result) words
    (first-down A.t.now (p2 A.n A.a) (p3 A.n A.a) (A.a / 32768) c.next_on-x.result c.next_on-y.result
    c.requires.3.three (top) (omega (
      arith,
      c.type_inv.t
          (p2 A.n A.a + c.next_on-x.result),
    )) c.next_on-y.ensures) in
    let third : FirstOn c.args.t.now (p1 c.args.n c.args.a) (c.args.a / 32 / 32) c.next_on-z.result =
    let A = c.args in
    let words : A.a / 1024 ≡ A.a / 32 / 32 = omega arith in
    subst (λ (m : ℕ). FirstOn A.t.now (p1 A.n A.a) m c.next_on-z.result) words
    (first-down A.t.now (p1 A.n A.a) (p2 A.n A.a) (A.a / 1024) c.next_on-y.result c.next_on-z.result
    c.requires.3.two (second) (omega (
      arith,
      c.type_inv.t
          (p1 A.n A.a + c.next_on-y.result),
    )) c.next_on-z.ensures) in
    let gate : FirstOn c.args.t.now (p0 c.args.n c.args.a) (c.args.a / 32) c.next_on-j.result =
    let A = c.args in
    first-down A.t.now (p0 A.n A.a) (p1 A.n A.a) (A.a / 32) c.next_on-z.result c.next_on-j.result c.requires.3.one
    (third) (omega (arith, c.type_inv.t (p0 A.n A.a + c.next_on-z.result)))
    c.next_on-j.ensures in
    let A = c.args in
    pair-past A.t.now A.n A.a c.next_on-j.result (gate) c.if-a-j.true

pub returns : goal.returns
returns c =
    let top : FirstOn c.args.t.now (p3 c.args.n c.args.a) (c.args.a / 32768 / 32) c.next_on-x.result =
    let A = c.args in
    let none : 0 ≡ A.a / 32768 / 32 = omega (arith, c.requires.1) in
    subst (λ (m : ℕ). FirstOn A.t.now (p3 A.n A.a) m c.next_on-x.result) none
    (first-top A.t.now (p3 A.n A.a) c.next_on-x.result (omega (arith, c.if-t-s-eq0.false))
    (omega (arith, c.type_inv.t (p3 A.n A.a))) c.next_on-x.ensures) in
    let second : FirstOn c.args.t.now (p2 c.args.n c.args.a) (c.args.a / 1024 / 32) c.next_on-y.result =
    let A = c.args in
    let words : A.a / 32768 ≡ A.a / 1024 / 32 = omega arith in
    subst (λ (m : ℕ). FirstOn A.t.now (p2 A.n A.a) m c.next_on-y.result) words
    (first-down A.t.now (p2 A.n A.a) (p3 A.n A.a) (A.a / 32768) c.next_on-x.result c.next_on-y.result
    c.requires.3.three (top) (omega (
      arith,
      c.type_inv.t
          (p2 A.n A.a + c.next_on-x.result),
    )) c.next_on-y.ensures) in
    let third : FirstOn c.args.t.now (p1 c.args.n c.args.a) (c.args.a / 32 / 32) c.next_on-z.result =
    let A = c.args in
    let words : A.a / 1024 ≡ A.a / 32 / 32 = omega arith in
    subst (λ (m : ℕ). FirstOn A.t.now (p1 A.n A.a) m c.next_on-z.result) words
    (first-down A.t.now (p1 A.n A.a) (p2 A.n A.a) (A.a / 1024) c.next_on-y.result c.next_on-z.result
    c.requires.3.two (second) (omega (
      arith,
      c.type_inv.t
          (p1 A.n A.a + c.next_on-y.result),
    )) c.next_on-z.ensures) in
    let gate : FirstOn c.args.t.now (p0 c.args.n c.args.a) (c.args.a / 32) c.next_on-j.result =
    let A = c.args in
    first-down A.t.now (p0 A.n A.a) (p1 A.n A.a) (A.a / 32) c.next_on-z.result c.next_on-j.result c.requires.3.one
    (third) (omega (arith, c.type_inv.t (p0 A.n A.a + c.next_on-z.result)))
    c.next_on-j.ensures in
    let A = c.args in
    pair_found A.t.now A.n A.a c.next_on-j.result (gate) (omega (arith, c.if-a-j.false))
