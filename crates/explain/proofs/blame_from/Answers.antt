use Prim.Native.Nat.{ℕ, ◌+◌, ◌*◌, ◌<◌}
use mathlib.Core.Path.{◌≡◌, sym, ap, ◌∙◌, subst}
use mathlib.Core.List.{List, ◌∷◌}
use native.Mathlib.Omega.{arith}
use lib.ListN.{get_or}
use Rattle.plan.specs.declared.Lit.{Lit}
use Rattle.plan.specs.Literals.{var_of, word_of, index_of}
use Rattle.plan.specs.Circuit.{Gate}
use Rattle.laws.proofs.Tables.{gate_at}
use Rattle.drop.specs.Marks.{Below}
use Rattle.explain.specs.Known.{Space, Known}
use Rattle.explain.proofs.Words.{uncut, not-word}
use Rattle.explain.proofs.Blaming.{not-come, at_x, at_1, side-below, side-0}
use Rattle.explain.proofs.blame_from.Goals as goal

pub bounds-t-m : goal.bounds-t-m
bounds-t-m c =
    let gate : Gate =
    gate_at c.args.gates.now c.args.k in
    let table : List ℕ =
    c.args.t.now in
    let below : Below c.args.n (gate) =
    c.requires.below in
    let space : let a = c.args in Space a.lits a.m a.n (table) =
    c.requires.space in
    let v-is : index_of c.var-v.result ≡ var_of (gate).lhs =
    ap index_of c.var-v.ensures ∙ ap (λ (l : Lit). var_of (word_of l)) c.at.ensures in
    let mark-at : c.args.m + c.index.result ≡ c.args.m + var_of (gate).lhs =
    ap (λ (v : ℕ). c.args.m + v) (c.index.ensures ∙ v-is) in
    omega (arith, mark-at, (below).lhs, (space).long)

pub returns-then-t-m-eq-MAY0 : goal.returns-then-t-m-eq-MAY0
returns-then-t-m-eq-MAY0 c =
    let gate : Gate =
    gate_at c.args.gates.now c.args.k in
    let table : List ℕ =
    c.args.t.now in
    let below : Below c.args.n (gate) =
    c.requires.below in
    let v-is : index_of c.var-v.result ≡ var_of (gate).lhs =
    ap index_of c.var-v.ensures ∙ ap (λ (l : Lit). var_of (word_of l)) c.at.ensures in
    let mark-at : c.args.m + c.index.result ≡ c.args.m + var_of (gate).lhs =
    ap (λ (v : ℕ). c.args.m + v) (c.index.ensures ∙ v-is) in
    λ w seen k.
    let a = c.args in
    not-come w a.lits a.m a.n (gate) (below).lhs seen (table) k
    (ap (λ (i : ℕ). get_or (table) i 0) (sym (mark-at)) ∙ c.if-t-m-eq-MAY0.true)

pub bounds-t-lits : goal.bounds-t-lits
bounds-t-lits c =
    let gate : Gate =
    gate_at c.args.gates.now c.args.k in
    let table : List ℕ =
    c.args.t.now in
    let below : Below c.args.n (gate) =
    c.requires.below in
    let space : let a = c.args in Space a.lits a.m a.n (table) =
    c.requires.space in
    let v-is : index_of c.var-v.result ≡ var_of (gate).lhs =
    ap index_of c.var-v.ensures ∙ ap (λ (l : Lit). var_of (word_of l)) c.at.ensures in
    let own-word : word_of c.lit-own.result ≡ 2 * var_of (gate).lhs =
    let known = c.type_inv.gates (3 * c.args.k) in
    let low : (gate).lhs < 4294967296 = omega (arith, known) in
    ap word_of c.lit-own.ensures ∙ uncut _ (gate).lhs (v-is) low in
    let negated-at : c.args.lits + c.word.result ≡ c.args.lits + 2 * var_of (gate).lhs + 1 =
    not-word _ _ _ _ (c.word.ensures ∙ ap word_of c.negated.ensures) (own-word) in
    omega (arith, negated-at, (below).lhs, (space).apart, (space).long)

pub mark-requires : goal.mark-requires
mark-requires c =
    let gate : Gate =
    gate_at c.args.gates.now c.args.k in
    let table : List ℕ =
    c.args.t.now in
    let below : Below c.args.n (gate) =
    c.requires.below in
    let space : let a = c.args in Space a.lits a.m a.n (table) =
    c.requires.space in
    let r1-is : word_of c.at-rhs1.result ≡ (gate).rhs1 =
    ap word_of c.at-rhs1.ensures in
    omega (arith, ap var_of (r1-is), (below).rhs1, (space).long)

pub mark-requires-then-t-lits-eq0 : goal.mark-requires-then-t-lits-eq0
mark-requires-then-t-lits-eq0 c =
    let gate : Gate =
    gate_at c.args.gates.now c.args.k in
    let table : List ℕ =
    c.args.t.now in
    let below : Below c.args.n (gate) =
    c.requires.below in
    let space : let a = c.args in Space a.lits a.m a.n (table) =
    c.requires.space in
    let r0-is : word_of c.at-rhs0.result ≡ (gate).rhs0 =
    ap word_of c.at-rhs0.ensures in
    omega (arith, ap var_of (r0-is), (below).rhs0, (space).long, c.mark.auto.t)

pub returns-then-t-lits-eq0 : goal.returns-then-t-lits-eq0
returns-then-t-lits-eq0 c =
    let gate : Gate =
    gate_at c.args.gates.now c.args.k in
    let table : List ℕ =
    c.args.t.now in
    let below : Below c.args.n (gate) =
    c.requires.below in
    let space : let a = c.args in Space a.lits a.m a.n (table) =
    c.requires.space in
    let v-is : index_of c.var-v.result ≡ var_of (gate).lhs =
    ap index_of c.var-v.ensures ∙ ap (λ (l : Lit). var_of (word_of l)) c.at.ensures in
    let r0-is : word_of c.at-rhs0.result ≡ (gate).rhs0 =
    ap word_of c.at-rhs0.ensures in
    let r1-is : word_of c.at-rhs1.result ≡ (gate).rhs1 =
    ap word_of c.at-rhs1.ensures in
    let mark-at : c.args.m + c.index.result ≡ c.args.m + var_of (gate).lhs =
    ap (λ (v : ℕ). c.args.m + v) (c.index.ensures ∙ v-is) in
    let own-word : word_of c.lit-own.result ≡ 2 * var_of (gate).lhs =
    let known = c.type_inv.gates (3 * c.args.k) in
    let low : (gate).lhs < 4294967296 = omega (arith, known) in
    ap word_of c.lit-own.ensures ∙ uncut _ (gate).lhs (v-is) low in
    let negated-at : c.args.lits + c.word.result ≡ c.args.lits + 2 * var_of (gate).lhs + 1 =
    not-word _ _ _ _ (c.word.ensures ∙ ap word_of c.negated.ensures) (own-word) in
    let come-to : get_or (table) (c.args.m + var_of (gate).lhs) 0 ≡ 1 → ⊥ =
    λ z. c.if-t-m-eq-MAY0.false (ap (λ (i : ℕ). get_or (table) i 0) (mark-at) ∙ z) in
    λ w seen k.
    let a = c.args in
    let g = gate in
    at_1 w a.lits a.m a.n g (below).lhs seen (table) k (come-to) c.mark-then-t-lits-eq0.new.t
    (ap (λ (i : ℕ). get_or (table) i 0) (sym (negated-at)) ∙ c.if-t-lits-eq0.true)
    (subst (λ (v : ℕ). Known w a.lits a.m a.n (v ∷ var_of g.rhs1 ∷ seen) c.mark-then-t-lits-eq0.new.t)
    (ap var_of (r0-is))
    (c.mark-then-t-lits-eq0.ensures w a.lits a.n (var_of g.rhs1 ∷ seen) (space).apart
    (omega (arith, ap var_of (r0-is), (below).rhs0))
    (subst (λ (v : ℕ). Known w a.lits a.m a.n (v ∷ seen) c.mark.new.t) (ap var_of (r1-is))
    (c.mark.ensures w a.lits a.n seen (space).apart (omega (arith, ap var_of (r1-is), (below).rhs1)) k))))

pub bounds-t-lits-2 : goal.bounds-t-lits-2
bounds-t-lits-2 c =
    let gate : Gate =
    gate_at c.args.gates.now c.args.k in
    let table : List ℕ =
    c.args.t.now in
    let below : Below c.args.n (gate) =
    c.requires.below in
    let space : let a = c.args in Space a.lits a.m a.n (table) =
    c.requires.space in
    let v-is : index_of c.var-v.result ≡ var_of (gate).lhs =
    ap index_of c.var-v.ensures ∙ ap (λ (l : Lit). var_of (word_of l)) c.at.ensures in
    let own-word : word_of c.lit-own.result ≡ 2 * var_of (gate).lhs =
    let known = c.type_inv.gates (3 * c.args.k) in
    let low : (gate).lhs < 4294967296 = omega (arith, known) in
    ap word_of c.lit-own.ensures ∙ uncut _ (gate).lhs (v-is) low in
    let own_at : c.args.lits + c.word-2.result ≡ c.args.lits + 2 * var_of (gate).lhs =
    ap (λ (l : ℕ). c.args.lits + l) (c.word-2.ensures ∙ own-word) in
    omega (arith, own_at, (below).lhs, (space).apart, (space).long)

pub returns-then-t-lits-ne0 : goal.returns-then-t-lits-ne0
returns-then-t-lits-ne0 c =
    let gate : Gate =
    gate_at c.args.gates.now c.args.k in
    let table : List ℕ =
    c.args.t.now in
    let below : Below c.args.n (gate) =
    c.requires.below in
    let v-is : index_of c.var-v.result ≡ var_of (gate).lhs =
    ap index_of c.var-v.ensures ∙ ap (λ (l : Lit). var_of (word_of l)) c.at.ensures in
    let mark-at : c.args.m + c.index.result ≡ c.args.m + var_of (gate).lhs =
    ap (λ (v : ℕ). c.args.m + v) (c.index.ensures ∙ v-is) in
    let own-word : word_of c.lit-own.result ≡ 2 * var_of (gate).lhs =
    let known = c.type_inv.gates (3 * c.args.k) in
    let low : (gate).lhs < 4294967296 = omega (arith, known) in
    ap word_of c.lit-own.ensures ∙ uncut _ (gate).lhs (v-is) low in
    let own_at : c.args.lits + c.word-2.result ≡ c.args.lits + 2 * var_of (gate).lhs =
    ap (λ (l : ℕ). c.args.lits + l) (c.word-2.ensures ∙ own-word) in
    let negated-at : c.args.lits + c.word.result ≡ c.args.lits + 2 * var_of (gate).lhs + 1 =
    not-word _ _ _ _ (c.word.ensures ∙ ap word_of c.negated.ensures) (own-word) in
    let come-to : get_or (table) (c.args.m + var_of (gate).lhs) 0 ≡ 1 → ⊥ =
    λ z. c.if-t-m-eq-MAY0.false (ap (λ (i : ℕ). get_or (table) i 0) (mark-at) ∙ z) in
    let may-be-0 : get_or (table) (c.args.lits + 2 * var_of (gate).lhs + 1) 0 ≡ 0 → ⊥ =
    λ z. c.if-t-lits-eq0.false (ap (λ (i : ℕ). get_or (table) i 0) (negated-at) ∙ z) in
    λ w seen k.
    let a = c.args in
    at_x w a.lits a.m a.n (gate) (below).lhs seen (table) k (come-to) (may-be-0)
    (λ z. c.if-t-lits-ne0.true (ap (λ (i : ℕ). get_or (table) i 0) (own_at) ∙ z))

pub zero_side-side-requires : goal.zero_side-side-requires
zero_side-side-requires c =
    let gate : Gate =
    gate_at c.args.gates.now c.args.k in
    let table : List ℕ =
    c.args.t.now in
    let below : Below c.args.n (gate) =
    c.requires.below in
    let space : let a = c.args in Space a.lits a.m a.n (table) =
    c.requires.space in
    let r0-is : word_of c.at-rhs0.result ≡ (gate).rhs0 =
    ap word_of c.at-rhs0.ensures in
    omega (arith, r0-is, (below).rhs0, (space).apart, (space).long)

pub mark-requires-2 : goal.mark-requires-2
mark-requires-2 c =
    let gate : Gate =
    gate_at c.args.gates.now c.args.k in
    let table : List ℕ =
    c.args.t.now in
    let below : Below c.args.n (gate) =
    c.requires.below in
    let space : let a = c.args in Space a.lits a.m a.n (table) =
    c.requires.space in
    let r0-is : word_of c.at-rhs0.result ≡ (gate).rhs0 =
    ap word_of c.at-rhs0.ensures in
    let r1-is : word_of c.at-rhs1.result ≡ (gate).rhs1 =
    ap word_of c.at-rhs1.ensures in
    let side-low : var_of (word_of c.zero_side-side.result) < c.args.n =
    omega (
      arith,
      ap (λ (l : Lit). var_of (word_of l)) c.zero_side-side.ensures,
      side-below c.args.lits (table) c.at-rhs0.result c.at-rhs1.result c.args.n
          (omega (arith, ap var_of (r0-is), (below).rhs0)) (omega (arith, ap var_of (r1-is), (below).rhs1)),
    ) in
    omega (arith, side-low, (space).long)

pub returns : goal.returns
returns c =
    let gate : Gate =
    gate_at c.args.gates.now c.args.k in
    let table : List ℕ =
    c.args.t.now in
    let below : Below c.args.n (gate) =
    c.requires.below in
    let space : let a = c.args in Space a.lits a.m a.n (table) =
    c.requires.space in
    let v-is : index_of c.var-v.result ≡ var_of (gate).lhs =
    ap index_of c.var-v.ensures ∙ ap (λ (l : Lit). var_of (word_of l)) c.at.ensures in
    let r0-is : word_of c.at-rhs0.result ≡ (gate).rhs0 =
    ap word_of c.at-rhs0.ensures in
    let r1-is : word_of c.at-rhs1.result ≡ (gate).rhs1 =
    ap word_of c.at-rhs1.ensures in
    let mark-at : c.args.m + c.index.result ≡ c.args.m + var_of (gate).lhs =
    ap (λ (v : ℕ). c.args.m + v) (c.index.ensures ∙ v-is) in
    let own-word : word_of c.lit-own.result ≡ 2 * var_of (gate).lhs =
    let known = c.type_inv.gates (3 * c.args.k) in
    let low : (gate).lhs < 4294967296 = omega (arith, known) in
    ap word_of c.lit-own.ensures ∙ uncut _ (gate).lhs (v-is) low in
    let own_at : c.args.lits + c.word-2.result ≡ c.args.lits + 2 * var_of (gate).lhs =
    ap (λ (l : ℕ). c.args.lits + l) (c.word-2.ensures ∙ own-word) in
    let come-to : get_or (table) (c.args.m + var_of (gate).lhs) 0 ≡ 1 → ⊥ =
    λ z. c.if-t-m-eq-MAY0.false (ap (λ (i : ℕ). get_or (table) i 0) (mark-at) ∙ z) in
    let at_zero : get_or (table) (c.args.lits + 2 * var_of (gate).lhs) 0 ≡ 0 =
    ap (λ (i : ℕ). get_or (table) i 0) (sym (own_at)) ∙ c.if-t-lits-ne0.false in
    let side-low : var_of (word_of c.zero_side-side.result) < c.args.n =
    omega (
      arith,
      ap (λ (l : Lit). var_of (word_of l)) c.zero_side-side.ensures,
      side-below c.args.lits (table) c.at-rhs0.result c.at-rhs1.result c.args.n
          (omega (arith, ap var_of (r0-is), (below).rhs0)) (omega (arith, ap var_of (r1-is), (below).rhs1)),
    ) in
    λ w seen k.
    let a = c.args in
    side-0 w a.lits a.m a.n (gate) (below).lhs seen (table) k (come-to) (at_zero) (omega (arith, (below).rhs0))
    c.at-rhs0.result c.at-rhs1.result (r0-is) (r1-is) c.mark-2.new.t
    (subst (λ (l : Lit). Known w a.lits a.m a.n (var_of (word_of l) ∷ seen) c.mark-2.new.t)
    c.zero_side-side.ensures (c.mark-2.ensures w a.lits a.n seen (space).apart (side-low) k))
