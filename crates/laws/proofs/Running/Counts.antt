-- Conversion keeps the counts but M, which is then I + L + A; reduction keeps I, L, O, B and C. So a tail suits them as it suited the circuit.
use Prim.Native.Nat.{ℕ, ◌+◌}
use mathlib.Core.Path.{◌≡◌, refl, sym, ap₂, ◌∙◌}
use mathlib.Core.Bool.{Bool, cond, not, ◌&&◌}
use mathlib.Core.List.{List, [], ◌∷◌}
use lib.Dec.{eqb, ltb}
use lib.ListN.{length, length-map}
use Rattle.plan.specs.declared.Counts.{Counts}
use Rattle.plan.specs.declared.Version.{Version}
use Rattle.plan.specs.Circuit.{Circuit, counts_of}
use Rattle.plan.specs.Tail.{Symbol, is_kind, named, fits, is_name, symbols_ok, TailOk}
use Rattle.plan.specs.Reading.{WellFormed}
use Rattle.plan.specs.Convert.{numbered, renumber, convert}
use Rattle.plan.specs.Reduce.{becomes, reduced, latch_becomes, reduce}
use Rattle.laws.proofs.Reading.Runs.{length-lits}
use Rattle.laws.proofs.Running.Converted.{latches-convert}
use Rattle.laws.proofs.Running.Results.{gates-convert}

pub counts-convert : (c : Circuit) → WellFormed c → counts_of (convert c) ≡ record {
  M = length c.inputs + length c.latches + length c.gates;
  I = length c.inputs;
  L = length c.latches;
  O = length c.outputs;
  A = length c.gates;
  B = length c.bads;
  C = length c.constraints;
}
counts-convert c w = λ i. record {
  M = length c.inputs + length c.latches + length c.gates;
  I = length-lits 1 (length c.inputs) i;
  L = latches-convert c i;
  O = length-map c.outputs (renumber (numbered c)) i;
  A = gates-convert c w i;
  B = length-map c.bads (renumber (numbered c)) i;
  C = length-map c.constraints (renumber (numbered c)) i;
}

pub counts-reduce : (c : Circuit) → counts_of (reduce c) ≡ record {
  M = length c.inputs + length c.latches + length (reduce c).gates;
  I = length c.inputs;
  L = length c.latches;
  O = length c.outputs;
  A = length (reduce c).gates;
  B = length c.bads;
  C = length c.constraints;
}
counts-reduce c = λ i. record {
  M = length c.inputs + length c.latches + length (reduce c).gates;
  I = length c.inputs;
  L = length-map c.latches (latch_becomes (reduced c).became) i;
  O = length-map c.outputs (becomes (reduced c).became) i;
  A = length (reduce c).gates;
  B = length-map c.bads (becomes (reduced c).became) i;
  C = length-map c.constraints (becomes (reduced c).became) i;
}

-- a tail knows I, L, O, B and C alone
module _ (v : Version) (n m : Counts) (i : n.I ≡ m.I) (l : n.L ≡ m.L) (o : n.O ≡ m.O) (b : n.B ≡ m.B) (c : n.C ≡ m.C) where
  same-fits : (seen : List Symbol) (s : Symbol) → fits n seen s ≡ fits m seen s
  same-fits seen s =
      λ j. ltb s.entry (cond (eqb s.kind 105) (i j) (cond (eqb s.kind 108) (l j)
      (cond (eqb s.kind 111) (o j) (cond (eqb s.kind 98) (b j) (c j))))) && not (named s seen)

  same-symbols : (seen ss : List Symbol) → symbols_ok v n seen ss ≡ symbols_ok v m seen ss
  same-symbols seen [] = refl
  same-symbols seen (s ∷ ss) =
      ap₂ (λ (x y : Bool). is_kind v s.kind && (is_name s.name && (x && y))) (same-fits seen s) (same-symbols (s ∷ seen) ss)

  pub same-tail : (tail : List ℕ) → TailOk v n tail → TailOk v m tail
  same-tail tail t = record {
    symbols = t.symbols;
    rest = t.rest;
    parts = t.parts;
    good = sym (same-symbols [] t.symbols) ∙ t.good;
    remark = t.remark;
  }

module _ (v : Version) (c : Circuit) (tail : List ℕ) where
  pub tail-convert : TailOk v (counts_of c) tail → TailOk v (counts_of (convert c)) tail
  tail-convert =
      same-tail v (counts_of c) (counts_of (convert c)) (sym (length-lits 1 (length c.inputs))) (sym (latches-convert c))
      (sym (length-map c.outputs (renumber (numbered c)))) (sym (length-map c.bads (renumber (numbered c))))
      (sym (length-map c.constraints (renumber (numbered c)))) tail

  pub tail-reduce : TailOk v (counts_of c) tail → TailOk v (counts_of (reduce c)) tail
  tail-reduce =
      same-tail v (counts_of c) (counts_of (reduce c)) refl (sym (length-map c.latches (latch_becomes (reduced c).became)))
      (sym (length-map c.outputs (becomes (reduced c).became))) (sym (length-map c.bads (becomes (reduced c).became)))
      (sym (length-map c.constraints (becomes (reduced c).became))) tail
