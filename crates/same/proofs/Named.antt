-- Entries of two circuits that agree, with what is known of the variables of the first: of a literal, a latch, a gate, and of each list.
use Prim.Native.Nat.{ℕ}
use mathlib.Core.Path.{◌≡◌, refl, ◌∙◌}
use mathlib.Core.Bool.{Bool, true, false, ◌||◌}
use mathlib.Core.Logic.{◌⊎◌, inl, inr}
use mathlib.Core.List.{List}
use borrow.Author.Tests.{eqb-true}
use lib.Dec.{eqb}
use Rattle.plan.specs.Literals.{var_of, sign_of}
use Rattle.plan.specs.Circuit.{Gate, Latch, Circuit, nexts}
use Rattle.laws.proofs.Reading.Common.{and_left, and_right}
use Rattle.same.specs.Agreement.{same_literal, same_latch, same_sides, same_gate, entry_by_entry}
use Rattle.same.proofs.Entries.{All, Each, none, more, each}

-- what is known of the variables of a circuit, list by list
abbrev pub KnownLiteral : (ℕ → Type 0) → ℕ → Type 0
KnownLiteral P l = P (var_of l)

abbrev pub KnownLatch : (ℕ → Type 0) → Latch → Type 0
KnownLatch P l = P (var_of l.current) × P (var_of l.next)

abbrev pub KnownGate : (ℕ → Type 0) → Gate → Type 0
KnownGate P g = P (var_of g.lhs) × P (var_of g.rhs0) × P (var_of g.rhs1)

pub record Known (P : ℕ → Type 0) (c : Circuit) : Type 0 where
  pub constants : P 0
  pub inputs : All (KnownLiteral P) c.inputs
  pub latches : All (KnownLatch P) c.latches
  pub resets : All (KnownLiteral P) c.resets
  pub outputs : All (KnownLiteral P) c.outputs
  pub bads : All (KnownLiteral P) c.bads
  pub constraints : All (KnownLiteral P) c.constraints
  pub gates : All (KnownGate P) c.gates

module _ (rename : ℕ → ℕ) (P : ℕ → Type 0) where
  pub record Named (l k : ℕ) : Type 0 where
    pub known : P (var_of l)
    pub var : var_of k ≡ rename (var_of l)
    pub sign : sign_of k ≡ sign_of l

  pub record NamedLatch (l k : Latch) : Type 0 where
    pub current : Named l.current k.current
    pub next : Named l.next k.next

  abbrev pub NamedSides : Gate → ℕ → ℕ → Type 0
  NamedSides g k0 k1 = Named g.rhs0 k0 × Named g.rhs1 k1

  pub record NamedGate (g h : Gate) : Type 0 where
    pub left : Named g.lhs h.lhs
    pub sides : NamedSides g h.rhs0 h.rhs1 ⊎ NamedSides g h.rhs1 h.rhs0

  named : (l k : ℕ) → P (var_of l) → same_literal rename l k ≡ true → Named l k
  named l k p h = record {
    known = p;
    var = eqb-true (var_of k) (rename (var_of l)) (and_left (eqb (var_of k) (rename (var_of l))) (eqb (sign_of k) (sign_of l)) h);
    sign = eqb-true (sign_of k) (sign_of l) (and_right (eqb (var_of k) (rename (var_of l))) (eqb (sign_of k) (sign_of l)) h);
  }

  named-latch : (l k : Latch) → KnownLatch P l → same_latch rename l k ≡ true → NamedLatch l k
  named-latch l k p h =
      let a = same_literal rename l.current k.current in
      let b = same_literal rename l.next k.next in
      record { current = named l.current k.current p.0 (and_left a b h); next = named l.next k.next p.1 (and_right a b h) }

  named-sides : (g : Gate) (k0 k1 : ℕ) → KnownGate P g → same_sides rename g k0 k1 ≡ true → NamedSides g k0 k1
  named-sides g k0 k1 p h =
      let a = same_literal rename g.rhs0 k0 in
      let b = same_literal rename g.rhs1 k1 in
      (named g.rhs0 k0 p.1 (and_left a b h), named g.rhs1 k1 p.2 (and_right a b h))

  named-gate : (g h : Gate) → KnownGate P g → same_gate rename g h ≡ true → NamedGate g h
  named-gate g h p e =
      let a = same_literal rename g.lhs h.lhs in
      let b = same_sides rename g h.rhs0 h.rhs1 in
      let x = same_sides rename g h.rhs1 h.rhs0 in
      record { left = named g.lhs h.lhs p.0 (and_left a (b || x) e); sides = go b x refl refl (and_right a (b || x) e) }
    where
      go : (s t : Bool) → same_sides rename g h.rhs0 h.rhs1 ≡ s → same_sides rename g h.rhs1 h.rhs0 ≡ t → (s || t) ≡ true
          → NamedSides g h.rhs0 h.rhs1 ⊎ NamedSides g h.rhs1 h.rhs0
      go true t q r o = inl (named-sides g h.rhs0 h.rhs1 p q)
      go false t q r o = inr (named-sides g h.rhs1 h.rhs0 p (r ∙ o))

  pub named-nexts : {ls ks : List Latch} → Each NamedLatch ls ks → Each Named (nexts ls) (nexts ks)
  named-nexts none = none
  named-nexts (more r e) = more r.next (named-nexts e)

  -- any list of literals, of latches, of gates
  pub literals-named : (ls ks : List ℕ) → All (KnownLiteral P) ls → entry_by_entry (same_literal rename) ls ks ≡ true → Each Named ls ks
  literals-named = each (KnownLiteral P) (same_literal rename) named

  pub latches-named : (ls ks : List Latch) → All (KnownLatch P) ls → entry_by_entry (same_latch rename) ls ks ≡ true → Each NamedLatch ls ks
  latches-named = each (KnownLatch P) (same_latch rename) named-latch

  pub gates-named : (gs hs : List Gate) → All (KnownGate P) gs → entry_by_entry (same_gate rename) gs hs ≡ true → Each NamedGate gs hs
  gates-named = each (KnownGate P) (same_gate rename) named-gate
